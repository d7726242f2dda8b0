-- The outcomes are those that one thread gets by staging the journal in order, as far as committed.
use Rattle.std.specs.Prelude.{◌≡◌, ℕ, ◌≤◌, List, [], ◌∷◌, ◌++◌, length, take, drop, map}
use Rattle.std.proofs.Common.{refl, ◌∙◌, ap, sym, subst, arith, append_assoc, append-nil, take-append-drop}
use Rattle.std.proofs.lemmas.Grind.{common_steps}
use Rattle.std.proofs.lemmas.List.{map-append, take-append-le}
use Rattle.gl_fields.specs.declared.entry.Entry.{Entry}
use Rattle.gl_fields.specs.declared.entry.Entry.TheVariants.{Admin, Message}
use Rattle.gl_fields.specs.declared.entry.Outcome.{Outcome}
use Rattle.gl_node.specs.Decoding.{outcome_of, outcomes_to, outcomes_after}
use Rattle.gl_node.specs.State.{Base, State, Event, Received, Added, Claimed, CameIn, GivenUp, Committed, opened, happened, state_after, outcomes, commit_count}

-- what happens later leaves an entry's outcome alone
pub outcome_of-later : (journal more : List Entry) (entry : Entry) → outcome_of (journal ++ more) entry ≡ outcome_of journal entry
outcome_of-later journal more (Admin command) = refl
outcome_of-later journal more (Message m) = refl

pub map-same : (journal more entries : List Entry) → map (outcome_of (journal ++ more)) entries ≡ map (outcome_of journal) entries
map-same journal more [] = refl
map-same journal more (entry ∷ entries) =
    ap (λ o. o ∷ map (outcome_of (journal ++ more)) entries) (outcome_of-later journal more entry)
    ∙ ap (λ os. outcome_of journal entry ∷ os) (map-same journal more entries)

-- an event keeps the base, and at most adds to the journal
pub record Grows (old new : State) : Type 0 where
  pub base_is : new.base ≡ old.base
  pub more : List Entry
  pub journal_is : new.journal ≡ old.journal ++ more

pub happened-grows : (s : State) (event : Event) → Grows s (happened s event)
happened-grows s (Received datagram) = record { base_is = refl; more = []; journal_is = sym (append-nil s.journal) }
happened-grows s (Added entry) = record { base_is = refl; more = entry ∷ []; journal_is = refl }
happened-grows s (Claimed claim) = record { base_is = refl; more = []; journal_is = sym (append-nil s.journal) }
happened-grows s (CameIn claim) = record { base_is = refl; more = []; journal_is = sym (append-nil s.journal) }
happened-grows s (GivenUp claim) = record { base_is = refl; more = []; journal_is = sym (append-nil s.journal) }
happened-grows s (Committed mark) = record { base_is = refl; more = []; journal_is = sym (append-nil s.journal) }

pub state_after-grows : (s : State) (events : List Event) → Grows s (state_after s events)
state_after-grows s [] = record { base_is = refl; more = []; journal_is = sym (append-nil s.journal) }
state_after-grows s (event ∷ events) =
    let first : Grows s (happened s event) = happened-grows s event in
    let rest : Grows (happened s event) (state_after (happened s event) events) = state_after-grows (happened s event) events in
    record {
      base_is = rest.base_is ∙ first.base_is;
      more = first.more ++ rest.more;
      journal_is = rest.journal_is ∙ ap (λ j. j ++ rest.more) first.journal_is ∙ append_assoc s.journal first.more rest.more;
    }

-- outcomes that were found and are those of the first entries, with those behind them, are those of all up to the count
pub outcomes_after-staged : (found : List Outcome) (journal more : List Entry) (count : ℕ) → length found ≤ length journal → length found ≤ count
    → found ≡ outcomes_to journal (length found) → outcomes_after found (journal ++ more) count ≡ outcomes_to (journal ++ more) count
outcomes_after-staged found journal more count within few staged =
    let j : List Entry = journal ++ more in
    let n : ℕ = length found in
    let front : found ≡ map (outcome_of j) (take n (take count j)) =
    staged ∙ sym (map-same journal more (take n journal))
    ∙ ap (map (outcome_of j)) (sym (take-append-le n journal more within) ∙ grind (arith, common_steps)) in
    ap (λ fs. fs ++ map (outcome_of j) (drop n (take count j))) front
    ∙ sym (map-append (outcome_of j) (take n (take count j)) (drop n (take count j)))
    ∙ ap (map (outcome_of j)) (take-append-drop n (take count j))

pub one_thread : (base : Base) (events : List Event) → length base.found ≤ length base.journal → base.found ≡ outcomes_to base.journal (length base.found)
    → outcomes (state_after (opened base) events) ≡ outcomes_to (state_after (opened base) events).journal (commit_count (state_after (opened base) events))
one_thread base events within staged =
    let s : State = state_after (opened base) events in
    let g : Grows (opened base) s = state_after-grows (opened base) events in
    ap (λ (b : Base). outcomes_after b.found s.journal (commit_count s)) g.base_is
    ∙ ap (λ j. outcomes_after base.found j (commit_count s)) g.journal_is
    ∙ outcomes_after-staged base.found base.journal g.more (commit_count s) within
    (subst (λ (b : Base). length b.found ≤ commit_count s) g.base_is (omega arith)) staged
    ∙ ap (λ j. outcomes_to j (commit_count s)) (sym g.journal_is)
