-- What the sink gains of a line's answers.
use Rattle.std.specs.Prelude.{◌≡◌, ℕ, zero, suc, ◌+◌, List, [], ◌∷◌, ◌++◌, length, take, drop, map, flat_map, Option, Some, None, slice_get, codes, ⊤}
use Rattle.std.specs.List.{enumerate_from}
use Rattle.std.specs.Fmt.{decimal}
use Rattle.std.specs.Io.KnownBytes.{Appends}
use Rattle.std.proofs.Common.{refl, ◌∙◌, ap, sym, subst, arith, append_assoc, append-nil, take-append-drop}
use Rattle.std.proofs.lemmas.Grind.{flat_map-append}
use Rattle.std.proofs.lemmas.List.{take_all}
use Rattle.std.proofs.lemmas.List.Folds.{flat_map-map}
use Rattle.std.proofs.lemmas.List.FromFn.{length-enumerate_from}
use Rattle.gl_fields.specs.declared.entry.Outcome.{Outcome}
use Rattle.gl_node.specs.State.{State, Event, commit_count, outcomes}
use Rattle.gl_cli.specs.Answers.{words_text, outcome_words}
use Rattle.gl_cli.specs.Runs.{Step, Turn, answered, listed, turn_text}
use Rattle.gl_cli.specs.Sessions.{Answered, CutShort, outcomes_text}
use Rattle.gl_cli.specs.Writing.{BeginsWith, AppendsSome}
use Rattle.gl_cli.proofs.Sinks.{Appends-nothing, Appends-more}

-- nothing was written
pub cut_none : (turn : Turn) (sink : Option (List ℕ)) → CutShort turn sink sink
cut_none turn sink = record { front = []; begins = (turn_text turn, refl); gained = Appends-nothing sink }

-- a front of the turn's text was written
pub cut_text : (turn : Turn) (before now : Option (List ℕ)) (text : List ℕ) → text ≡ turn_text turn → AppendsSome before now text → CutShort turn before now
cut_text turn before now text is some = record { front = some.0; begins = subst (λ (t : List ℕ). BeginsWith t some.0) is some.1; gained = some.2 }

pub answered_text : (turn : Turn) (before now : Option (List ℕ)) (text : List ℕ) → text ≡ turn_text turn → Appends before now text → Answered turn before now
answered_text turn before now text is gained = subst (λ (t : List ℕ). Appends before now t) is gained

-- the text of a turn of one line
pub one_line : (words : List (List ℕ)) (events : List Event) (text : List ℕ) → text ≡ words_text words → text ≡ turn_text (answered words events ∷ [])
one_line words events text is = is ∙ sym (append-nil (words_text words))

pub some_none : (sink : Option (List ℕ)) (text : List ℕ) → AppendsSome sink sink text
some_none sink text = ([], (text, refl), Appends-nothing sink)

-- ---- the lines of a list

abbrev pub item_text : ℕ × Outcome → List ℕ
item_text item = words_text (decimal item.0 ∷ outcome_words item.1)

-- the first so many lines
abbrev pub lines_to : ℕ → ℕ → List Outcome → List ℕ
lines_to first count outcomes = flat_map item_text (take count (enumerate_from first outcomes))

IsSomeOf : Option Outcome → Type 0
IsSomeOf None = ⊥
IsSomeOf (Some o) = ⊤

no_item : (o : Outcome) → None ≡ Some o → ⊥
unfolding IsSomeOf
no_item o e = subst IsSomeOf (sym e) tt

or_this : Outcome → Option Outcome → Outcome
or_this o None = o
or_this o (Some p) = p

same_item : (x o : Outcome) → Some x ≡ Some o → x ≡ o
unfolding or_this
same_item x o e = ap (or_this x) e

pub lines_more : (first : ℕ) (outcomes : List Outcome) (i : ℕ) (o : Outcome) → slice_get outcomes i ≡ Some o
    → lines_to first (suc i) outcomes ≡ lines_to first i outcomes ++ item_text (first + i, o)
lines_more first [] i o is = absurd (no_item o is)
lines_more first (x ∷ outcomes) zero o is =
    let e : first ≡ first + 0 = omega arith in
    append-nil (item_text (first, x)) ∙ ap (λ (y : Outcome). item_text (first, y)) (same_item x o is) ∙ ap (λ (n : ℕ). item_text (n, o)) e
lines_more first (x ∷ outcomes) (suc i) o is =
    let e : first + 1 + i ≡ first + suc i = omega arith in
    ap (λ (t : List ℕ). item_text (first, x) ++ t) (lines_more (first + 1) outcomes i o is)
    ∙ sym (append_assoc (item_text (first, x)) (lines_to (first + 1) i outcomes) (item_text (first + 1 + i, o)))
    ∙ ap (λ (n : ℕ). (item_text (first, x) ++ lines_to (first + 1) i outcomes) ++ item_text (n, o)) e

pub lines_all : (outcomes : List Outcome) (count : ℕ) → count ≡ length outcomes → lines_to 0 count outcomes ≡ outcomes_text outcomes
lines_all outcomes count is = ap (flat_map item_text) (take_all count (enumerate_from 0 outcomes) (omega (arith, is, length-enumerate_from 0 outcomes)))

begins_lines : (outcomes : List Outcome) (i : ℕ) → BeginsWith (outcomes_text outcomes) (lines_to 0 i outcomes)
begins_lines outcomes i = (
  flat_map item_text (drop i (enumerate_from 0 outcomes)),
  ap (flat_map item_text) (sym (take-append-drop i (enumerate_from 0 outcomes))) ∙ flat_map-append item_text (take i (enumerate_from 0 outcomes)) (drop i (enumerate_from 0 outcomes)),
)

-- the lines before a position were written
pub some_lines : (before now : Option (List ℕ)) (outcomes : List Outcome) (i : ℕ) → Appends before now (lines_to 0 i outcomes) → AppendsSome before now (outcomes_text outcomes)
some_lines before now outcomes i gained = (lines_to 0 i outcomes, begins_lines outcomes i, gained)

-- and a front of its line
pub some_more : (before mid now : Option (List ℕ)) (outcomes : List Outcome) (i : ℕ) (o : Outcome) (text : List ℕ) → slice_get outcomes i ≡ Some o → text ≡ item_text (i, o)
    → Appends before mid (lines_to 0 i outcomes) → AppendsSome mid now text → AppendsSome before now (outcomes_text outcomes)
some_more before mid now outcomes i o text is made gained some =
    let all = begins_lines outcomes (suc i) in
    let line : text ≡ item_text (0 + i, o) = made ∙ (let e : i ≡ 0 + i = omega arith in ap (λ (n : ℕ). item_text (n, o)) e) in (
      lines_to 0 i outcomes ++ some.0,
      (
        some.1.0 ++ all.0,
        all.1 ∙ ap (λ (t : List ℕ). t ++ all.0) (lines_more 0 outcomes i o is ∙ ap (λ (t : List ℕ). lines_to 0 i outcomes ++ t) (sym line ∙ some.1.1))
            ∙ ap (λ (t : List ℕ). t ++ all.0) (sym (append_assoc (lines_to 0 i outcomes) some.0 some.1.0))
            ∙ append_assoc (lines_to 0 i outcomes ++ some.0) some.1.0 all.0,
      ),
      Appends-more before mid now (lines_to 0 i outcomes) some.0 gained some.2,
    )

pub next_line : (before mid now : Option (List ℕ)) (outcomes : List Outcome) (i next : ℕ) (o : Outcome) (text : List ℕ) → next ≡ i + 1 → slice_get outcomes i ≡ Some o → text ≡ item_text (i, o)
    → Appends before mid (lines_to 0 i outcomes) → Appends mid now text → Appends before now (lines_to 0 next outcomes)
next_line before mid now outcomes i next o text n is made gained more =
    let line : text ≡ item_text (0 + i, o) = made ∙ (let e : i ≡ 0 + i = omega arith in ap (λ (m : ℕ). item_text (m, o)) e) in
    let one : suc i ≡ next = omega (arith, n) in
    subst (λ (t : List ℕ). Appends before now t)
    (ap (λ (t : List ℕ). lines_to 0 i outcomes ++ t) line ∙ sym (lines_more 0 outcomes i o is) ∙ ap (λ (m : ℕ). lines_to 0 m outcomes) one)
    (Appends-more before mid now (lines_to 0 i outcomes) text gained more)

-- the text of a list
pub list_text : (s : State) → turn_text (listed s) ≡ words_text (codes "journal" ∷ decimal (length s.journal) ∷ codes "committed" ∷ decimal (commit_count s) ∷ []) ++ outcomes_text (outcomes s)
list_text s =
    ap (λ (t : List ℕ). words_text (codes "journal" ∷ decimal (length s.journal) ∷ codes "committed" ∷ decimal (commit_count s) ∷ []) ++ t)
    (flat_map-map (λ (step : Step). step.text) (λ (item : ℕ × Outcome). answered (decimal item.0 ∷ outcome_words item.1) []) (enumerate_from 0 (outcomes s)))

pub list_events : (items : List (ℕ × Outcome)) → flat_map (λ (step : Step). step.events) (map (λ (item : ℕ × Outcome). answered (decimal item.0 ∷ outcome_words item.1) []) items) ≡ []
list_events [] = refl
list_events (item ∷ items) = list_events items

-- the head of a list was written, or a front of it
pub head_cut : (s : State) (before now : Option (List ℕ)) (head : List ℕ)
    → head ≡ words_text (codes "journal" ∷ decimal (length s.journal) ∷ codes "committed" ∷ decimal (commit_count s) ∷ []) → AppendsSome before now head → CutShort (listed s) before now
head_cut s before now head is some = record {
  front = some.0;
  begins = (
    some.1.0 ++ outcomes_text (outcomes s),
    list_text s ∙ ap (λ (t : List ℕ). t ++ outcomes_text (outcomes s)) (sym is ∙ some.1.1) ∙ append_assoc some.0 some.1.0 (outcomes_text (outcomes s)),
  );
  gained = some.2;
}

pub list_cut : (s : State) (before mid now : Option (List ℕ)) (head : List ℕ)
    → head ≡ words_text (codes "journal" ∷ decimal (length s.journal) ∷ codes "committed" ∷ decimal (commit_count s) ∷ [])
    → Appends before mid head → AppendsSome mid now (outcomes_text (outcomes s)) → CutShort (listed s) before now
list_cut s before mid now head is gained some = record {
  front = head ++ some.0;
  begins = (
    some.1.0,
    list_text s ∙ ap (λ (t : List ℕ). t ++ outcomes_text (outcomes s)) (sym is) ∙ ap (λ (t : List ℕ). head ++ t) some.1.1 ∙ sym (append_assoc head some.0 some.1.0),
  );
  gained = Appends-more before mid now head some.0 gained some.2;
}

pub list_done : (s : State) (before mid now : Option (List ℕ)) (head : List ℕ)
    → head ≡ words_text (codes "journal" ∷ decimal (length s.journal) ∷ codes "committed" ∷ decimal (commit_count s) ∷ [])
    → Appends before mid head → Appends mid now (outcomes_text (outcomes s)) → Answered (listed s) before now
list_done s before mid now head is gained more =
    subst (λ (t : List ℕ). Appends before now t) (ap (λ (t : List ℕ). t ++ outcomes_text (outcomes s)) is ∙ sym (list_text s))
    (Appends-more before mid now head (outcomes_text (outcomes s)) gained more)
