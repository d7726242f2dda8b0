-- How ready ranges are committed one after another, and what a finish answers.
use Rattle.std.proofs.Common.{◌≡◌, ℕ, zero, suc, ◌<◌, ◌==◌, Bool, true, false, List, [], ◌∷◌, ◌++◌, length, get_or, Option, Some, None, refl, sym, ◌∙◌, ap, subst, arith, append_assoc, length-append}
use Rattle.std.proofs.lemmas.Bool.Decides.{nat_tests}
use Rattle.std.proofs.lemmas.List.{append-nil}
use Rattle.std.proofs.lemmas.List.Edits.{length-remove}
use Rattle.std.proofs.lemmas.List.Sums.{fold-append}
use Rattle.std.proofs.Math.Seq.{take-append_seam}
use Rattle.gl_base.proofs.Counting.{one_found}
use Rattle.gl_node.specs.declared.mark.Mark.{Mark}
use Rattle.gl_node.specs.declared.mark.Claim.{Claim}
use Rattle.gl_node.specs.declared.node.Node.{Node}
use Rattle.gl_node.specs.State.{State, Event, CameIn, Committed, happened, state_after, commit_count, except}
use Rattle.gl_node.specs.Claims.{Kept, NoClaim, held_by, next_ready, fits, committed_within, commits, is_kept, finished_by, finish_events, finish_answer, finish_unless, full_or_committed}
use Rattle.gl_node.specs.Commits.{WasCommitted, CommittedSome}
use Rattle.gl_node.specs.Calls.{WentOn}
use Rattle.gl_node.specs.Node.{AreTiled, Keeps}
use Rattle.gl_node.proofs.Tiling.{one_begins, except_is}

abbrev step_if : ℕ → State → Mark → Bool → List Event
step_if n s mark fitting = elim fitting as (λ _. List Event) [
  | false ↦ []
  | true ↦ Committed mark ∷ committed_within n (happened s (Committed mark))
]

abbrev step_of : ℕ → State → Option Mark → List Event
step_of n s ready = elim ready as (λ _. List Event) [
  | None ↦ []
  | Some mark ↦ elim (fits s mark) as (λ _. List Event) [
    | false ↦ []
    | true ↦ Committed mark ∷ committed_within n (happened s (Committed mark))
  ]
]

within_none : (n : ℕ) (s : State) → next_ready s ≡ None → committed_within n s ≡ []
within_none zero s none = refl
within_none (suc n) s none = ap (λ (o : Option Mark). step_of n s o) none

within_unfit : (n : ℕ) (s : State) (mark : Mark) → next_ready s ≡ Some mark → fits s mark ≡ false → committed_within n s ≡ []
within_unfit zero s mark ready unfit = refl
within_unfit (suc n) s mark ready unfit = ap (λ (o : Option Mark). step_of n s o) ready ∙ ap (λ (b : Bool). step_if n s mark b) unfit

within_more : (n : ℕ) (s : State) (mark : Mark) → next_ready s ≡ Some mark → fits s mark ≡ true → committed_within (suc n) s ≡ Committed mark ∷ committed_within n (happened s (Committed mark))
within_more n s mark ready fitting = ap (λ (o : Option Mark). step_of n s o) ready ∙ ap (λ (b : Bool). step_if n s mark b) fitting

pub no_commits : (s : State) → next_ready s ≡ None → commits s ≡ []
no_commits s none = within_none (length s.waiting) s none

module _ (s : State) (next : ℕ) (tiled : AreTiled s next) (i : ℕ) (d : Mark) (lt : i < length s.waiting) (first : (get_or s.waiting i d).first ≡ commit_count s) where
  same : (n : ℕ) (m : ℕ) → n ≡ m → (n == m) ≡ true
  same n m h = grind (arith, nat_tests)

  pub ready_is : next_ready s ≡ Some (get_or s.waiting i d)
  ready_is = one_found (λ (m : Mark). m.first == commit_count s) s.waiting i d lt (same (get_or s.waiting i d).first (commit_count s) first) (one_begins s next tiled (commit_count s))

  pub commits_none : fits s (get_or s.waiting i d) ≡ false → commits s ≡ []
  commits_none unfit = within_unfit (length s.waiting) s (get_or s.waiting i d) ready_is unfit

  pub commits_more : fits s (get_or s.waiting i d) ≡ true → commits s ≡ Committed (get_or s.waiting i d) ∷ commits (happened s (Committed (get_or s.waiting i d)))
  commits_more fitting =
      ap (λ n. committed_within n s) fewer ∙ within_more (length (except (get_or s.waiting i d) s.waiting)) s (get_or s.waiting i d) ready_is fitting
    where
      fewer : length s.waiting ≡ suc (length (except (get_or s.waiting i d) s.waiting))
      fewer = omega (arith, length-remove s.waiting i lt, ap (λ (ms : List Mark). length ms) (except_is s next tiled i d lt))

pub started : (s : State) (node : Node) → Keeps node s → CommittedSome s node
started s node k = record { done = []; rest = refl; keeps = k }

pub went_on : (s : State) (old new : Node) (some : CommittedSome s old) → WasCommitted (state_after s some.done) new → CommittedSome s new
went_on s old new some more = record {
  done = some.done ++ Committed more.mark ∷ [];
  rest = some.rest ∙ ap (λ es. some.done ++ es) more.rest
      ∙ sym (append_assoc some.done (Committed more.mark ∷ []) (commits (happened (state_after s some.done) (Committed more.mark))))
      ∙ ap (λ (t : State). (some.done ++ Committed more.mark ∷ []) ++ commits t) (sym after);
  keeps = subst (λ (t : State). Keeps new t) (sym after) more.keeps;
}
  where
    after : state_after s (some.done ++ Committed more.mark ∷ []) ≡ happened (state_after s some.done) (Committed more.mark)
    after = fold-append happened s some.done (Committed more.mark ∷ [])

pub stayed : (s : State) (old new : Node) (some : CommittedSome s old) → Keeps new (state_after s some.done) → CommittedSome s new
stayed s old new some k = record { done = some.done; rest = some.rest; keeps = k }

pub all_done : (s : State) (node : Node) (some : CommittedSome s node) → commits (state_after s some.done) ≡ [] → state_after s some.done ≡ state_after s (commits s)
all_done s node some none = ap (λ es. state_after s es) (sym (some.rest ∙ ap (λ es. some.done ++ es) none ∙ append-nil some.done))

-- the answers of a finish
module _ (s : State) (worker : ℕ) (claim : Claim) (holds : held_by s worker ≡ Some claim) where
  abbrev came : State
  came = happened s (CameIn claim)

  pub kept_events : is_kept came claim.mark ≡ true → finish_events s worker ≡ CameIn claim ∷ []
  kept_events kept = ap (λ o. finished_by s o) holds ∙ rw kept refl

  pub ready_events : is_kept came claim.mark ≡ false → finish_events s worker ≡ CameIn claim ∷ commits came
  ready_events ready = ap (λ o. finished_by s o) holds ∙ rw ready refl

  pub kept_answer : is_kept came claim.mark ≡ true → finish_answer s worker ≡ Kept (commit_count came)
  kept_answer kept = ap (λ o. finish_unless s (state_after s (finish_events s worker)) o) holds
      ∙ ap (λ es. finish_unless s (state_after s es) (Some claim)) (kept_events kept) ∙ rw kept refl

  pub ready_answer : is_kept came claim.mark ≡ false → is_kept (state_after came (commits came)) claim.mark ≡ false
      → finish_answer s worker ≡ full_or_committed (state_after came (commits came)) (next_ready (state_after came (commits came)))
  ready_answer ready still = ap (λ o. finish_unless s (state_after s (finish_events s worker)) o) holds
      ∙ ap (λ es. finish_unless s (state_after s es) (Some claim)) (ready_events ready) ∙ rw still refl

  -- after an error some of the events happened, the first among them
  pub some_happened : (node : Node) → is_kept came claim.mark ≡ false → CommittedSome came node → WentOn s (finish_events s worker) (Keeps node)
  some_happened node ready some = subst (λ es. WentOn s es (Keeps node)) (sym (ready_events ready ∙ ap (λ es. CameIn claim ∷ es) some.rest)) (record {
    count = suc (length some.done);
    few = omega (arith, length-append some.done (commits (state_after came some.done)));
    first = λ _. omega arith;
    stands = subst (λ es. Keeps node (state_after came es)) (sym (take-append_seam some.done (commits (state_after came some.done)))) some.keeps;
  })

pub no_claim_events : (s : State) (worker : ℕ) → held_by s worker ≡ None → finish_events s worker ≡ []
no_claim_events s worker none = ap (λ o. finished_by s o) none

pub no_claim_answer : (s : State) (worker : ℕ) → held_by s worker ≡ None → finish_answer s worker ≡ NoClaim
no_claim_answer s worker none = ap (λ o. finish_unless s (state_after s (finish_events s worker)) o) none
