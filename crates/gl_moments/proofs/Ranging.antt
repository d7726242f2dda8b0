-- The first minute from one on that is kept.
use Rattle.std.proofs.Common.{◌≡◌, ℕ, ◌<◌, ◌≤◌, List, [], ◌∷◌, Option, Some, None, IsSome, false, refl, sym, ap, subst, arith}
use Rattle.std.specs.declared.ops.Bound.TheVariants.{Included, Unbounded}
use Rattle.std.specs.BTreeMap.{BTreeMap, get}
use Rattle.std.specs.BTreeMap.Range.{IsRangeOf}
use Rattle.std.specs.Option.{unwrap_or}
use Rattle.std.specs.Ordering.{nat_cmp, is_gt}
use Rattle.std.proofs.lemmas.Bool.Decides.{nat_tests}
use Rattle.std.proofs.lemmas.Map.Keys.{le_from_not_gt}
use Rattle.gl_moments.specs.Inside.{IsFirst, kept_at}

abbrev IsFrom : BTreeMap ℕ (List ℕ) → ℕ → List (ℕ × List ℕ) → Type 0
IsFrom minutes low found = IsRangeOf nat_cmp (Included low) Unbounded minutes found

not_gt : (a b : ℕ) → a ≤ b → is_gt (nat_cmp a b) ≡ false
not_gt a b le = grind (arith, nat_tests)

pub first_is : (minutes : BTreeMap ℕ (List ℕ)) (low minute : ℕ) (positions : List ℕ) (rest found : List (ℕ × List ℕ)) → found ≡ (minute, positions) ∷ rest → IsFrom minutes low found → IsFirst (kept_at minutes) low minute positions
first_is minutes low minute positions rest found is range =
    let at : IsFrom minutes low ((minute, positions) ∷ rest) = subst (IsFrom minutes low) is range in
    record {
      above = le_from_not_gt low minute at.1.0.0;
      theirs = sym (ap (λ (o : Option (List ℕ)). unwrap_or o []) at.1.1);
      none = λ m from before. nothing m from before (get nat_cmp minutes m) refl at;
    }
  where
    nothing : (m : ℕ) → low ≤ m → m < minute → (o : Option (List ℕ)) → get nat_cmp minutes m ≡ o → IsFrom minutes low ((minute, positions) ∷ rest) → unwrap_or (get nat_cmp minutes m) [] ≡ []
    nothing m from before None e at = ap (λ (o : Option (List ℕ)). unwrap_or o []) e
    nothing m from before (Some kept) e at =
        let least : is_gt (nat_cmp minute m) ≡ false = at.2 m (not_gt low m from, tt) (subst IsSome (sym e) refl) in
        absurd (omega (arith, le_from_not_gt minute m least, before))

pub none_is : (minutes : BTreeMap ℕ (List ℕ)) (low : ℕ) (found : List (ℕ × List ℕ)) → found ≡ [] → IsFrom minutes low found → (m : ℕ) → low ≤ m → kept_at minutes m ≡ []
none_is minutes low found is range m from = ap (λ (o : Option (List ℕ)). unwrap_or o []) (range.5 is m (not_gt low m from, tt))
