-- How a search in bytes goes on until a match starts between characters.
use Rattle.std.proofs.Common.{◌≡◌, ℕ, ◌+◌, ◌<◌, ◌≤◌, true, false, List, length, Option, Some, None, IfSome, option_map, refl, sym, ap, ◌∙◌, subst, arith}
use Rattle.regex_hir.specs.Find.{Match, find, find_str}
use Rattle.regex_hir.specs.Re.{Re}
use Rattle.regex_hir.specs.Text.{is_boundary}
use Rattle.regex_meta.proofs.ProgramLemmas.{none_of_option_map, value_of_option_map}
use Rattle.regex_vm.specs.Found.{span}
use Rattle.regex.proofs.SearchLemmas.{inside_char, leftmost_here, leftmost_none, leftmost_retry, leftmost_within}
use Rattle.regex.specs.Search.{LiesWithin}

module _ (re : Re) (hay : List ℕ) (at : ℕ) where
  pub none_in_text : None ≡ option_map span (find re hay at) → find_str re hay at ≡ None
  none_in_text e = leftmost_none re hay true at (none_of_option_map span _ (sym e))

  module _ (from end : ℕ) (found : Some (from, end) ≡ option_map span (find re hay at)) where
    matched : (m : Match) × (find re hay at ≡ Some m) × (span m ≡ (from, end))
    matched = value_of_option_map span (find re hay at) (from, end) (sym found)

    starts : matched.0.start ≡ from
    starts = ap (λ s. s.0) matched.2

    -- between characters it is the match of the text, with its cells
    pub here_in_text : is_boundary hay from ≡ true → (m : Match) × (find re hay at ≡ Some m) × (find_str re hay at ≡ Some m) × (span m ≡ (from, end))
    here_in_text cut =
        (matched.0, matched.1, leftmost_here re hay true at matched.0 matched.1 (λ _. ap (is_boundary hay) starts ∙ cut), matched.2)

    -- and inside one the search goes on behind its start
    pub later_in_text : is_boundary hay from ≡ false → (at ≤ from) × (from < length hay) × (find_str re hay at ≡ find_str re hay (from + 1))
    later_in_text inside =
        let m = matched.0 in
        let is : is_boundary hay m.start ≡ false = ap (is_boundary hay) starts ∙ inside in
        let below : m.start < length hay = inside_char re hay m.start is in
        let within : LiesWithin at (length hay) (span m) = leftmost_within re hay false at m matched.1 in
        (omega (arith, within.0, starts), omega (arith, starts), leftmost_retry re hay true at m refl matched.1 is ∙ ap (λ n. find_str re hay (n + 1)) starts)

-- what holds of each value that there is, holds of this one
pub at_some : {A : Type 0} (P : A → Type 0) (o : Option A) (x : A) → o ≡ Some x → IfSome o P → P x
at_some P o x e h = subst (λ q. IfSome q P) e h
