-- What a compiled pattern finds is what its text means.
use Rattle.regex_meta.proofs.ProgramLemmas.{IfSome_map}
use Rattle.std.proofs.Common.{Bool, false, IfSome, [], ◌∷◌, subst, suc, rules, IsSome, ◌+◌, ◌*◌, ◌==◌, true, arith, ◌≡◌, ℕ, ◌<◌, ◌≤◌, List, length, All, Option, None, Some, IsSomeAnd, is_some, option_map, option_and_then, refl, sym, ap, ◌∙◌}
use Rattle.std.proofs.lemmas.Option.{none-some, same_Some}
use Rattle.regex_hir.specs.Text.{is_some_and}
use lib.Pointwise.{pointwise}
use Rattle.std.specs.Prelude.{nat_eq, if◌then◌else◌}
use Rattle.regex.specs.Writes.{both}
use Rattle.std.specs.Str.{chars}
use Rattle.std.specs.List.{position_from}
use Rattle.regex_syntax.specs.Brackets.{Nested}
use Rattle.regex_syntax.specs.Grammar.{Names, read, group_count}
use Rattle.regex_syntax.proofs.CapturesLemmas.{spans, find_str_alike}
use Rattle.regex_syntax.proofs.Written.{is_some-option_map}
use Rattle.regex.proofs.TemplateLemmas.{index_is_position}
use Rattle.regex.specs.Names.{IsIndexOf}
use Rattle.regex.specs.Patterns.{Re, Match, SameCaptures, Reads, find_str, default_config}
use Rattle.regex_hir.specs.Meaning.{meaning}
use Rattle.regex_hir.specs.declared.hir.Hir.{Hir}
use Rattle.gl_patterns.specs.Patterns.{meaning_of, first_match, is_found, span_of, group_in, names_from, group_called}

abbrev ReadAs : Option (Nested Re × Names) → ℕ → Re → Names → Type 0
ReadAs o most re names = IsSomeAnd o (λ (x, found). (x.depth ≤ most) × SameCaptures re x.value × (names ≡ found) × (group_count re ≤ length names))

abbrev plain : Option (Nested Re × Names) → Option (Re × Names)
plain = option_map (λ x. (x.0.value, x.1))

spans_by : (o : Option (Nested Re × Names)) (most : ℕ) (re : Re) (names : Names) → ReadAs o most re names →
    (hay : List ℕ) → All (λ x. x < 256) hay →
    option_map spans (find_str re hay 0) ≡ option_map spans (option_and_then (λ m. find_str m.0 hay 0) (plain o))
spans_by None most re names h hay small = absurd h
spans_by (Some x) most re names h hay small = find_str_alike re x.0.value h.1 hay small 0

some_by : (o : Option (Nested Re × Names)) (most : ℕ) (re : Re) (names : Names) → ReadAs o most re names → IsSome (plain o)
some_by None most re names h = absurd h
some_by (Some x) most re names h = search rules

names_by : (o : Option (Nested Re × Names)) (most : ℕ) (re : Re) (names : Names) → ReadAs o most re names → names ≡ names_from (plain o)
names_by None most re names h = absurd h
names_by (Some x) most re names h = h.2

abbrev seen : ℕ → ℕ × ℕ × (ℕ → Option ℕ) → Option (ℕ × ℕ)
seen n s = if n == 0 then Some (s.0, s.1) else both (s.2 (2 * n)) (s.2 (2 * n + 1))

group_seen : (n : ℕ) (o q : Option Match) → option_map spans o ≡ option_map spans q → option_and_then (span_of n) o ≡ option_and_then (span_of n) q
group_seen n None None e = refl
group_seen n None (Some y) e = absurd (none-some _ e)
group_seen n (Some x) None e = absurd (none-some _ (sym e))
group_seen n (Some x) (Some y) e = ap (seen n) (same_Some (spans x) (spans y) e)

at_first : (b : Bool) (i : ℕ) (later : Option ℕ) (n : ℕ) → IfSome later (λ k. k < i + 1 + n) → IfSome (if b then Some i else later) (λ k. k < i + suc n)
at_first true i later n h = omega arith
at_first false i later n h = IfSome_map later h (λ k low. omega (arith, low))

-- a place that is found in a list lies in it
position_within : {A : Type 0} (test : A → Bool) (i : ℕ) (xs : List A) → IfSome (position_from test i xs) (λ n. n < i + length xs)
position_within test i [] = tt
position_within test i (x ∷ xs) = at_first (test x) i (position_from test (i + 1) xs) (length xs) (position_within test (i + 1) xs)

module _ (source : List ℕ) (tree : Hir) (names : Names) (reads : Reads default_config source tree names) where
  read_as : ReadAs (read default_config (chars source)) 250 (meaning tree) names
  unfolding Reads
  read_as = reads

  pub pattern_is : IsSome (meaning_of source)
  unfolding meaning_of
  pattern_is = some_by _ _ _ _ read_as

  module _ (hay : List ℕ) (bytes : All (λ x. x < 256) hay) where
    alike : option_map spans (find_str (meaning tree) hay 0) ≡ option_map spans (first_match source hay)
    unfolding first_match meaning_of
    alike = spans_by _ _ _ _ read_as hay bytes

    pub found_is : is_some (find_str (meaning tree) hay 0) ≡ is_found source hay
    unfolding is_found
    found_is = sym (is_some-option_map spans _) ∙ ap is_some alike ∙ is_some-option_map spans _

    pub group_is : (n : ℕ) → option_and_then (span_of n) (find_str (meaning tree) hay 0) ≡ group_in source hay n
    unfolding group_in
    group_is n = group_seen n _ _ alike

  pub index_is : (name : List ℕ) (index : Option ℕ) → IsIndexOf names name index → index ≡ group_called source name
  unfolding group_called meaning_of
  index_is name index h = index_is_position names name index h ∙ ap (λ names. position_from (λ other. is_some_and other (pointwise nat_eq name)) 0 names) (names_by _ _ _ _ read_as)

  pub index_within : (name : List ℕ) → IfSome (group_called source name) (λ n. n < length names)
  unfolding group_called meaning_of
  index_within name =
      subst (λ found. IfSome (position_from (λ other. is_some_and other (pointwise nat_eq name)) 0 found) (λ n. n < length names)) (names_by _ _ _ _ read_as)
      (IfSome_map (position_from (λ other. is_some_and other (pointwise nat_eq name)) 0 names)
      (position_within (λ other. is_some_and other (pointwise nat_eq name)) 0 names) (λ n low. omega (arith, low)))
