-- What a finish answers, by what its node keeps.
use Rattle.std.proofs.Common.{◌≡◌, ℕ, ◌+◌, ◌<◌, ◌≤◌, ◌==◌, Bool, true, false, List, length, get_or, find, nat_lt, Vec, vec_len, Option, Some, None, option_map, MatchOption, Result, Ok, Err, IfOk, OnErr, sym, ◌∙◌, ap, subst, arith}
use Rattle.std.specs.Bool.{⊤}
use Rattle.std.specs.declared.alloc.Global.{Global}
use Rattle.std.specs.List.{position, list_any, slice_get}
use Rattle.std.proofs.lemmas.Option.{slice_get-get_or}
use Rattle.gl_base.proofs.Counting.{find-map, find_at_none, find_at_some}
use Rattle.gl_node.specs.declared.answer.Finished.{Finished}
use Rattle.gl_node.specs.declared.answer.Finished.TheVariants as finished
use Rattle.gl_node.specs.declared.mark.Mark.{Mark}
use Rattle.gl_node.specs.declared.mark.Claim.{Claim}
use Rattle.gl_node.specs.declared.node.Node.{Node}
use Rattle.gl_node.specs.declared.work.Work.{Work}
use Rattle.gl_node.specs.declared.work.Range.{Range}
use Rattle.gl_node.specs.State.{State, Event, CameIn, happened, state_after, commit_count}
use Rattle.gl_node.specs.Calls.{finished_of, IsFresh, IsStale}
use Rattle.gl_node.specs.Claims.{mark_of, range_of, held_by, next_ready, commits, full_or_committed, is_kept, finish_answer, finish_events}
use Rattle.gl_node.specs.Commits.{CommittedSome}
use Rattle.gl_node.specs.Node.{Keeps}
use Rattle.gl_node.proofs.Keeping.{none_held, one_held}
use Rattle.gl_node.proofs.Ready.{no_commits, all_done, no_claim_events, no_claim_answer, kept_events, ready_events, kept_answer, ready_answer}
use Rattle.gl_node.proofs.Tiling.{held_high, kept_is}

pub on_err : {T E : Type 0} (r : Result T E) (P : Type 0) → P → OnErr r P
on_err (Ok x) P p = tt
on_err (Err e) P p = p

module _ (node : Node) (s : State) (k : Keeps node s) where
  count_is : vec_len node.outcomes ≡ commit_count s
  count_is = omega (arith, node.outcomes.ok.0, k.committed, ap (λ os. length os) k.outcomes_are)

  pub nothing_ready : position (λ (w : Work). w.range.first == vec_len node.outcomes) node.waiting.items ≡ None → next_ready s ≡ None
  nothing_ready none = subst (λ ms. find (λ (m : Mark). m.first == commit_count s) ms ≡ None) k.waiting
      (find-map (λ (m : Mark). m.first == commit_count s) (λ (w : Work). mark_of w.range) node.waiting.items
      ∙ ap (λ o. option_map (λ (w : Work). mark_of w.range) o)
      (subst (λ n. find (λ (w : Work). w.range.first == n) node.waiting.items ≡ None) count_is (find_at_none (λ (w : Work). w.range.first == vec_len node.outcomes) node.waiting.items none)))

pub ended : (s : State) (node : Node) (some : CommittedSome s node) → position (λ (w : Work). w.range.first == vec_len node.outcomes) node.waiting.items ≡ None → (count : ℕ) → count ≡ vec_len node.outcomes
    → (finished.Committed count ≡ finished_of (full_or_committed (state_after s (commits s)) (next_ready (state_after s (commits s))))) × Keeps node (state_after s (commits s))
ended s node some none count count_now =
    let t = state_after s some.done in
    let ready = nothing_ready node t some.keeps none in
    subst (λ (u : State). (finished.Committed count ≡ finished_of (full_or_committed u (next_ready u))) × Keeps node u) (all_done s node some (no_commits t ready))
    (ap (λ (n : ℕ). let f : Finished = finished.Committed n in f) (count_now ∙ count_is node t some.keeps) ∙ ap (λ (o : Option Mark). finished_of (full_or_committed t o)) (sym ready), some.keeps)

pub on_err_so : {T E : Type 0} (r : Result T E) (P Q : Type 0) → OnErr r P → (P → Q) → OnErr r Q
on_err_so (Ok x) P Q p f = tt
on_err_so (Err e) P Q p f = f p

pub if_ok_so : {T E : Type 0} (r : Result T E) (P R Q : T → Type 0) → IfOk r P → IfOk r R → ((x : T) → P x → R x → Q x) → IfOk r Q
if_ok_so (Ok x) P R Q p q f = f x p q
if_ok_so (Err e) P R Q p q f = tt

pub no_claim : (node : Node) (s : State) (worker : ℕ) → Keeps node s → position (λ (c : Claim). c.worker == worker) node.held.items ≡ None
    → (finished.NoClaim ≡ finished_of (finish_answer s worker)) × Keeps node (state_after s (finish_events s worker))
no_claim node s worker k none =
    let nothing = none_held node s worker 0 k none in
    (ap (λ a. finished_of a) (sym (no_claim_answer s worker nothing)), subst (λ (es : List Event). Keeps node (state_after s es)) (sym (no_claim_events s worker nothing)) k)

pub no_stale : (node : Node) (s : State) (worker : ℕ) (given : Range) (claim : Claim) → Keeps node s → position (λ (c : Claim). c.worker == worker) node.held.items ≡ None → IsStale s worker given claim → ⊥
no_stale node s worker given claim k none stale = let nothing = none_held node s worker 0 k none in cc (nothing, stale.holds)

-- what the worker holds, by its index
module _ (node : Node) (s : State) (worker : ℕ) (k : Keeps node s) (at : ℕ) (claim : Claim) (place : position (λ (c : Claim). c.worker == worker) node.held.items ≡ Some at)
    (is : claim ≡ get_or node.held.items at claim) where
  pub holds : held_by s worker ≡ Some claim
  holds = one_held node s worker 0 k at claim place is

  pub at_there : slice_get node.held.items at ≡ Some claim
  at_there = slice_get-get_or node.held.items at claim (find_at_some (λ (c : Claim). c.worker == worker) node.held.items at claim place).0 ∙ ap (λ (c : Claim). Some c) (sym is)

  pub held_within : claim.mark.first + claim.mark.count ≤ node.next
  held_within =
      let same : get_or s.held at claim ≡ claim = subst (λ cs. get_or cs at claim ≡ claim) k.held (sym is) in
      let lt : at < length s.held = subst (λ cs. at < length cs) k.held ((find_at_some (λ (c : Claim). c.worker == worker) node.held.items at claim place).0) in
      subst (λ (c : Claim). c.mark.first + c.mark.count ≤ node.next) same (held_high s node.next k.tiled at claim lt)

  pub within_entries : claim.mark.first + claim.mark.count ≤ length node.entries.items
  within_entries = omega (arith, held_within, k.tiled.within, ap (λ es. length es) k.entries)

  module _ (given : Range) where
    pub fresh_is : IsFresh s worker given → given ≡ range_of s claim.mark
    fresh_is fresh = subst (λ (o : Option Claim). MatchOption o ⊤ (λ c. given ≡ range_of s c.mark)) holds fresh

    pub is_fresh : given ≡ range_of s claim.mark → IsFresh s worker given
    is_fresh same = subst (λ (o : Option Claim). MatchOption o ⊤ (λ c. given ≡ range_of s c.mark)) (sym holds) same

    pub its_claim : (other : Claim) → IsStale s worker given other → other ≡ claim
    its_claim other stale = let h = holds in cc (h, stale.holds)

    pub not_stale : (other : Claim) → given ≡ range_of s claim.mark → IsStale s worker given other → ⊥
    not_stale other same stale = stale.other (same ∙ ap (λ (c : Claim). range_of s c.mark) (sym (its_claim other stale)))

  abbrev came : State
  came = happened s (CameIn claim)

  -- after the work came in
  module _ (after : Node) (now : Keeps after came) (low : claim.mark.first ≤ after.next) where
    pub waits_or_not : (b : Bool) → b ≡ list_any (λ (c : Claim). nat_lt c.mark.first claim.mark.first) after.held.items → is_kept came claim.mark ≡ b
    waits_or_not b same = kept_is came after.next now.tiled claim.mark low ∙ ap (λ cs. list_any (λ (c : Claim). nat_lt c.mark.first claim.mark.first) cs) (sym now.held) ∙ sym same

    pub it_waits : is_kept came claim.mark ≡ true → (count : ℕ) → count ≡ vec_len after.outcomes
        → (finished.Kept count ≡ finished_of (finish_answer s worker)) × Keeps after (state_after s (finish_events s worker))
    it_waits kept count count_now = (
      ap (λ (n : ℕ). let f : Finished = finished.Kept n in f) (count_now ∙ count_is after came now) ∙ ap (λ a. finished_of a) (sym (kept_answer s worker claim holds kept)),
      subst (λ (es : List Event). Keeps after (state_after s es)) (sym (kept_events s worker claim holds kept)) now,
    )

    pub it_is_ready : is_kept came claim.mark ≡ false → (end : Node) (answer : Finished)
        → (answer ≡ finished_of (full_or_committed (state_after came (commits came)) (next_ready (state_after came (commits came))))) × Keeps end (state_after came (commits came))
        → (end.held ≡ after.held) × (end.next ≡ after.next)
        → (answer ≡ finished_of (finish_answer s worker)) × Keeps end (state_after s (finish_events s worker))
    it_is_ready ready end answer committed same = (
      committed.0 ∙ ap (λ a. finished_of a) (sym (ready_answer s worker claim holds ready still)),
      subst (λ (es : List Event). Keeps end (state_after s es)) (sym (ready_events s worker claim holds ready)) committed.1,
    )
      where
        still : is_kept (state_after came (commits came)) claim.mark ≡ false
        still = kept_is (state_after came (commits came)) end.next committed.1.tiled claim.mark (omega (arith, low, same.1))
            ∙ ap (λ cs. list_any (λ (c : Claim). nat_lt c.mark.first claim.mark.first) cs) (sym committed.1.held ∙ ap (λ (v : Vec Claim Global). v.items) same.0 ∙ now.held)
            ∙ sym (kept_is came after.next now.tiled claim.mark low) ∙ ready
