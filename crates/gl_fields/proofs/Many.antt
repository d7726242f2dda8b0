-- Units read one after the other: as a loop reads them, and what they take.
use Rattle.std.proofs.Common.{◌≡◌, ℕ, zero, suc, ◌-◌, ◌+◌, ◌≤◌, ◌<◌, List, [], ◌∷◌, ◌++◌, length, Result, Ok, Err, refl, sym, ap, subst, ◌∙◌, append_assoc, arith}
use Rattle.std.specs.List.{flat_map}
use Rattle.std.proofs.lemmas.List.{append-nil}
use Rattle.gl_fields.specs.declared.units.Unread.{Unread}
use Rattle.gl_fields.specs.declared.units.Unread.TheVariants as unread
use Rattle.gl_fields.specs.Units.{◌>>=◌, many_at, Stops}
use Rattle.gl_fields.proofs.Taking.{bind_ok, ok_is, IsBytes, Takes, Takes-then, Takes-none}

module _ {X : Type 0} (one : List X → List ℕ → Result (X × List ℕ) ℕ) where
  pub starts : (count : ℕ) (xs : List X) (bytes : List ℕ) → xs ≡ [] → many_at one (count - 0) xs bytes ≡ many_at one count [] bytes
  starts count xs bytes e =
      let k : count - 0 ≡ count = omega arith in
      λ i. many_at one (k i) (e i) bytes

  pub goes_on : (count i : ℕ) (xs : List X) (bytes : List ℕ) (x : X) (after : List ℕ) (total : Result (List X × List ℕ) ℕ) → i < count → one xs bytes ≡ Ok (x, after)
      → many_at one (count - i) xs bytes ≡ total → many_at one (count - (i + 1)) (xs ++ x ∷ []) after ≡ total
  unfolding many_at
  goes_on count i xs bytes x after total lt h so_far =
      let k : count - i ≡ suc (count - (i + 1)) = omega arith in
      let step : many_at one (count - i) xs bytes ≡ many_at one (count - (i + 1)) (xs ++ x ∷ []) after = rw (k, h) refl in
      sym step ∙ so_far

  pub ends : (stop : Unread) (count i : ℕ) (xs : List X) (bytes : List ℕ) (total : Result (List X × List ℕ) ℕ) → i < count → Stops stop (one xs bytes)
      → many_at one (count - i) xs bytes ≡ total → Stops stop total
  unfolding many_at
  ends unread.OutOfMemory count i xs bytes total lt h so_far = tt
  ends (unread.At left) count i xs bytes total lt h so_far =
      let k : count - i ≡ suc (count - (i + 1)) = omega arith in
      let step : many_at one (count - i) xs bytes ≡ Err left = rw (k, h) refl in
      sym so_far ∙ step

  pub is_done : (count i : ℕ) (xs : List X) (bytes : List ℕ) (total : Result (List X × List ℕ) ℕ) → count ≤ i → many_at one (count - i) xs bytes ≡ total → total ≡ Ok (xs, bytes)
  unfolding many_at
  is_done count i xs bytes total le so_far =
      let k : count - i ≡ 0 = omega arith in
      let step : many_at one (count - i) xs bytes ≡ Ok (xs, bytes) = rw k refl in
      sym so_far ∙ step

  -- the last of many were added to the first, each with its bytes
  pub record Grew (bytes_of : X → List ℕ) (count : ℕ) (xs : List X) (bytes : List ℕ) (read : List X × List ℕ) : Type 0 where
    pub added : List X
    pub all : read.0 ≡ xs ++ added
    pub length : length added ≡ count
    pub takes : Takes bytes (flat_map bytes_of added) read.1

  module _ (bytes_of : X → List ℕ) (IsGood : List X → Type 0) where
    pub many_take : ((xs : List X) (bytes : List ℕ) (x : X) (rest : List ℕ) → IsBytes bytes → IsGood xs → one xs bytes ≡ Ok (x, rest) → Takes bytes (bytes_of x) rest × IsGood (xs ++ x ∷ []))
        → (count : ℕ) (xs : List X) (bytes : List ℕ) (read : List X × List ℕ) → IsBytes bytes → IsGood xs → many_at one count xs bytes ≡ Ok read → Grew bytes_of count xs bytes read × IsGood read.0
    unfolding many_at
    many_take step zero xs bytes read fits good e =
        subst (λ (y : List X × List ℕ). Grew bytes_of 0 xs bytes y × IsGood y.0) (ok_is (xs, bytes) read e)
        (record { added = []; all = sym (append-nil xs); length = refl; takes = Takes-none bytes fits }, good)
    many_take step (suc n) xs bytes read fits good e =
        let a = bind_ok (one xs bytes) (λ x. many_at one n (xs ++ x.0 ∷ []) x.1) read e in
        let first = step xs bytes a.0.0 a.0.1 fits good a.1 in
        let later = many_take step n (xs ++ a.0.0 ∷ []) a.0.1 read first.0.rest_fits first.1 a.2 in (
          record {
            added = a.0.0 ∷ later.0.added;
            all = later.0.all ∙ append_assoc xs (a.0.0 ∷ []) later.0.added;
            length = omega (arith, later.0.length);
            takes = Takes-then bytes (bytes_of a.0.0) a.0.1 (flat_map bytes_of later.0.added) read.1 first.0 later.0.takes;
          },
          later.1,
        )

    pub many_again : ((xs : List X) (x : X) (ys : List X) (rest : List ℕ) → IsGood (xs ++ x ∷ ys) → one xs (bytes_of x ++ rest) ≡ Ok (x, rest))
        → (ys xs : List X) (rest : List ℕ) → IsGood (xs ++ ys) → many_at one (length ys) xs (flat_map bytes_of ys ++ rest) ≡ Ok (xs ++ ys, rest)
    unfolding many_at
    many_again step [] xs rest good = ap (λ (l : List X). Ok (l, rest)) (sym (append-nil xs))
    many_again step (y ∷ ys) xs rest good =
        let regrouped : xs ++ y ∷ ys ≡ (xs ++ y ∷ []) ++ ys = sym (append_assoc xs (y ∷ []) ys) in
        ap (λ (l : List ℕ). one xs l >>= λ x. many_at one (length ys) (xs ++ x.0 ∷ []) x.1) (append_assoc (bytes_of y) (flat_map bytes_of ys) rest)
        ∙ ap (λ (r : Result (X × List ℕ) ℕ). r >>= λ x. many_at one (length ys) (xs ++ x.0 ∷ []) x.1) (step xs y ys (flat_map bytes_of ys ++ rest) good)
        ∙ many_again step ys (xs ++ y ∷ []) rest (subst IsGood regrouped good)
        ∙ ap (λ (l : List X). Ok (l, rest)) (sym regrouped)
