-- Which calls a pool stands for, after each call.
use Rattle.std.proofs.Common.{◌≡◌, ◌⊎◌, inl, inr, ⊎_elim, ℕ, ◌+◌, ◌-◌, ◌<◌, ◌≤◌, ◌==◌, Bool, true, false, not, ◌&&◌, ◌||◌, ltb, nat_le, nat_lt, max, List, [], ◌∷◌, ◌++◌, length, get_or, find, count_by, Option, Some, None, option_map, refl, sym, ◌∙◌, ap, subst, arith}
use Rattle.std.specs.List.{All, list_any, remove, cons_option, slice_get}
use Rattle.std.proofs.lemmas.Bool.Decides.{nat_tests}
use Rattle.std.proofs.lemmas.List.Elements.{All-push}
use Rattle.std.proofs.lemmas.Option.{get_or_from_slice_get}
use Rattle.gl_base.proofs.Counting.{one_if, count_push, count-remove, any_counted, others_stay, all_stay, none_counted, one_found, find_at_none, find_at_some, All-remove}
use Rattle.gl_pool.specs.declared.mark.Mark.{Mark}
use Rattle.gl_pool.specs.declared.mark.Claim.{Claim}
use Rattle.gl_pool.specs.declared.span.Span.{Span}
use Rattle.gl_pool.specs.Claims.{Call, Claimed, Finished, Abandoned, without, claims_of, held_by, finished_of, lies_in, is_claimed, is_finished, is_free, IsFreeRun, MayClaim, IsNextCommit, IsCommitted, IsKept}
use Rattle.gl_pool.specs.Kept.{Kept, StandsFor, is_open, spans_over}
use Rattle.gl_pool.specs.Taking.{Takes}
use Rattle.gl_pool.proofs.Spans.{holds_at, least_open, below_least, least_is_open, least_claimed, least_claimed-le, none_before, least_is_claimed, cut_spans, open_cut, all_cut}

bool_cases : (b : Bool) → (b ≡ true) ⊎ (b ≡ false)
bool_cases true = inl refl
bool_cases false = inr refl

-- how many claims hold a position
abbrev times : List Claim → ℕ → ℕ
times claims p = count_by (holds_at p) claims

abbrev pub span_of : Mark → Span
span_of mark = record { first = mark.first; end = mark.first + mark.count }

abbrev works_for : ℕ → Claim → Bool
works_for worker claim = claim.worker == worker

module _ (kept : Kept) (start : ℕ) (calls : List Call) (h : StandsFor kept start calls) where
  claimed_by_times : (p : ℕ) → is_claimed calls p ≡ ltb 0 (times kept.held p)
  claimed_by_times p = any_counted (holds_at p) (claims_of calls) ∙ ap (λ (l : List Claim). ltb 0 (times l p)) (sym h.held)

  free_by_times : (p : ℕ) → (not (is_finished start calls p) && not (ltb 0 (times kept.held p))) ≡ is_open kept.frontier kept.spans p
  free_by_times p = ap (λ b. not (is_finished start calls p) && not b) (sym (claimed_by_times p)) ∙ h.free p

  -- the least position that isn't finished
  pub next_is : IsNextCommit start calls (least_claimed (least_open kept.frontier kept.spans) kept.held)
  next_is = record {
    below = λ p lt. finished (is_finished start calls p) (list_any (holds_at p) kept.held)
        (ap (λ (l : List Claim). not (is_finished start calls p) && not (list_any (holds_at p) l)) h.held ∙ h.free p ∙ below_least kept.frontier kept.spans p (omega (arith, lt, limit_le)))
        (none_before limit kept.held p lt);
    here = ⊎_elim
        (λ (same : least_claimed limit kept.held ≡ limit). rw same (unfinished (is_finished start calls limit) (is_claimed calls limit) (h.free limit ∙ least_is_open kept.frontier kept.spans h.spans)))
        (λ (claimed : list_any (holds_at (least_claimed limit kept.held)) kept.held ≡ true). not_both (is_finished start calls (least_claimed limit kept.held)) (times kept.held (least_claimed limit kept.held))
        (sym (any_counted (holds_at (least_claimed limit kept.held)) kept.held) ∙ claimed) (h.apart (least_claimed limit kept.held)))
        (least_is_claimed limit kept.held h.sized);
  }
    where
      limit : ℕ
      limit = least_open kept.frontier kept.spans

      limit_le : least_claimed limit kept.held ≤ limit
      limit_le = least_claimed-le limit kept.held

      finished : (f c : Bool) → (not f && not c) ≡ false → c ≡ false → f ≡ true
      finished true c h none = refl
      finished false c h none = cc (ap not none, h)

      unfinished : (f c : Bool) → (not f && not c) ≡ true → f ≡ false
      unfinished true c h = cc h
      unfinished false c h = refl

      not_both : (f : Bool) (n : ℕ) → ltb 0 n ≡ true → (f ≡ true → n ≡ 0) → f ≡ false
      not_both true n some none = absurd (zero_not n (none refl) some)
        where
          zero_not : (m : ℕ) → m ≡ 0 → ltb 0 m ≡ true → ⊥
          zero_not m z some = grind (arith, nat_tests)
      not_both false n some none = refl

  -- where nothing is open before the least position that is, and a run ends where nothing is
  pub free_run_is : (journal end : ℕ) → least_open kept.frontier kept.spans < journal → least_open kept.frontier kept.spans ≤ end → end ≤ journal
      → ((p : ℕ) → least_open kept.frontier kept.spans ≤ p → p < end → is_open kept.frontier kept.spans p ≡ true)
      → (end < journal → is_open kept.frontier kept.spans end ≡ false)
      → IsFreeRun start calls journal (record { first = least_open kept.frontier kept.spans; count = end - least_open kept.frontier kept.spans })
  free_run_is journal end lt from within free whole =
      let first = least_open kept.frontier kept.spans in
      let meets : first + (end - first) ≡ end = omega arith in record {
        first = λ p below. h.free p ∙ below_least kept.frontier kept.spans p below;
        some = later first end (least_is_open kept.frontier kept.spans h.spans) whole lt from;
        within = omega arith;
        free = λ p low high. h.free p ∙ free p low (omega arith);
        whole = λ more. rw meets (h.free end ∙ whole (omega arith));
      }
    where
      later : (f e : ℕ) → is_open kept.frontier kept.spans f ≡ true → (e < journal → is_open kept.frontier kept.spans e ≡ false) → f < journal → f ≤ e → 0 < e - f
      later f e opens closed lt le = ⊎_elim
          (λ (same : e ≡ f). absurd (true_not (is_open kept.frontier kept.spans f) opens (subst (λ n. is_open kept.frontier kept.spans n ≡ false) same (closed (omega arith)))))
          (λ (less : f < e). omega arith)
          (which f e le)
        where
          true_not : (b : Bool) → b ≡ true → b ≡ false → ⊥
          true_not b is isnt = cc (sym is ∙ isnt)

          which : (x y : ℕ) → x ≤ y → (y ≡ x) ⊎ (x < y)
          which x y le = grind arith

  pub none_free : (journal : ℕ) → journal ≤ least_open kept.frontier kept.spans → (p : ℕ) → p < journal → is_free start calls p ≡ false
  none_free journal le p lt = h.free p ∙ below_least kept.frontier kept.spans p (omega arith)

  -- a worker claims a range
  pub stands_claimed : (worker : ℕ) (mark : Mark) → MayClaim start calls worker mark → (new : Kept)
      → new.held ≡ kept.held ++ record { worker = worker; mark = mark } ∷ []
      → new.spans ≡ cut_spans (mark.first + mark.count) kept.spans
      → new.frontier ≡ max kept.frontier (mark.first + mark.count)
      → StandsFor new start (Claimed (record { worker = worker; mark = mark }) ∷ calls)
  stands_claimed worker mark may new held_is spans_is frontier_is = record {
    held = held_is ∙ ap (λ (l : List Claim). l ++ claim ∷ []) h.held;
    free = λ p. rw (frontier_is, spans_is) (taken p);
    spans = rw spans_is (all_cut end kept.spans h.spans);
    sized = rw held_is (All-push (λ (c : Claim). 0 < c.mark.count) kept.held claim h.sized may.some);
    workers = λ w. rw held_is (alone w);
    once = λ p. rw held_is (once p (bool_cases (lies_in p mark)));
    apart = λ p done. rw held_is (apart p done (bool_cases (lies_in p mark)));
  }
    where
      claim : Claim
      claim = record { worker = worker; mark = mark }

      end : ℕ
      end = mark.first + mark.count

      in_low : (p : ℕ) → lies_in p mark ≡ true → mark.first ≤ p
      in_low p lies = grind (arith, nat_tests)

      in_high : (p : ℕ) → lies_in p mark ≡ true → p < mark.first + mark.count
      in_high p lies = grind (arith, nat_tests)

      -- each position of the range was free
      was_free : (p : ℕ) → lies_in p mark ≡ true → is_free start calls p ≡ true
      was_free p lies = may.free.free p (omega (arith, in_low p lies, may.begins)) (omega (arith, in_high p lies, may.begins, may.lies))

      none_of : (f : Bool) (n : ℕ) → (not f && not (ltb 0 n)) ≡ true → n ≡ 0
      none_of f n h = grind (arith, nat_tests)

      not_done : (f : Bool) (n : ℕ) → (not f && not (ltb 0 n)) ≡ true → f ≡ true → ⊥
      not_done f n h done = grind (arith, nat_tests)

      by_times : (p : ℕ) → is_free start calls p ≡ true → (not (is_finished start calls p) && not (ltb 0 (times kept.held p))) ≡ true
      by_times p free = ap (λ b. not (is_finished start calls p) && not b) (sym (claimed_by_times p)) ∙ free

      was_none : (p : ℕ) → lies_in p mark ≡ true → times kept.held p ≡ 0
      was_none p lies = none_of (is_finished start calls p) (times kept.held p) (by_times p (was_free p lies))

      once : (p : ℕ) → (lies_in p mark ≡ true) ⊎ (lies_in p mark ≡ false) → times (kept.held ++ claim ∷ []) p ≤ 1
      once p which = ⊎_elim
          (λ (yes_ : lies_in p mark ≡ true). omega (arith, count_push (holds_at p) kept.held claim, was_none p yes_, ap one_if yes_))
          (λ (no_ : lies_in p mark ≡ false). omega (arith, count_push (holds_at p) kept.held claim, h.once p, ap one_if no_))
          which

      apart : (p : ℕ) → is_finished start calls p ≡ true → (lies_in p mark ≡ true) ⊎ (lies_in p mark ≡ false) → times (kept.held ++ claim ∷ []) p ≡ 0
      apart p done which = ⊎_elim
          (λ (yes_ : lies_in p mark ≡ true). absurd (not_done (is_finished start calls p) (times kept.held p) (by_times p (was_free p yes_)) done))
          (λ (no_ : lies_in p mark ≡ false). omega (arith, count_push (holds_at p) kept.held claim, h.apart p done, ap one_if no_))
          which

      one_le : (b : Bool) → one_if b ≤ 1
      one_le true = omega arith
      one_le false = omega arith

      same_or : (w v : ℕ) → (w ≡ v) ⊎ ((v == w) ≡ false)
      same_or w v = grind (arith, nat_tests)

      idle : find (works_for worker) (claims_of calls) ≡ None
      idle = nothing (find (works_for worker) (claims_of calls)) may.idle
        where
          nothing : (o : Option Claim) → option_map (λ (c : Claim). c.mark) o ≡ None → o ≡ None
          nothing None none = refl
          nothing (Some c) none = cc none

      alone : (w : ℕ) → count_by (works_for w) (kept.held ++ claim ∷ []) ≤ 1
      alone w = ⊎_elim
          (λ (same : w ≡ worker). rw same (omega (
            arith,
            count_push (works_for worker) kept.held claim,
            one_le (worker == worker),
            ap (λ (l : List Claim). count_by (works_for worker) l) h.held ∙ none_counted (works_for worker) (claims_of calls) idle,
          )))
          (λ (differs : (worker == w) ≡ false). omega (arith, count_push (works_for w) kept.held claim, h.workers w, ap one_if differs))
          (same_or w worker)

      -- what is free now: what was, from the end of the range on
      taken : (p : ℕ) → is_free start (Claimed claim ∷ calls) p ≡ is_open (max kept.frontier end) (cut_spans end kept.spans) p
      taken p =
          ap (λ b. not (is_finished start calls p) && not b) (any_counted (holds_at p) (claims_of calls ++ claim ∷ []))
          ∙ ap (λ n. not (is_finished start calls p) && not (ltb 0 n)) (count_push (holds_at p) (claims_of calls) claim)
          ∙ joined (is_finished start calls p) (count_by (holds_at p) (claims_of calls)) p mark (λ low. freely p ∙ h.free p ∙ below p low)
          ∙ ap (λ b. nat_le end p && b) (freely p ∙ h.free p)
          ∙ sym (open_cut kept.frontier end p kept.spans)
        where
          freely : (q : ℕ) → (not (is_finished start calls q) && not (ltb 0 (count_by (holds_at q) (claims_of calls)))) ≡ is_free start calls q
          freely q = ap (λ b. not (is_finished start calls q) && not b) (sym (any_counted (holds_at q) (claims_of calls)))

          below : (q : ℕ) → q < mark.first → is_open kept.frontier kept.spans q ≡ false
          below q low = sym (h.free q) ∙ may.free.first q (omega (arith, may.begins))

          joined : (f : Bool) (n q : ℕ) (m : Mark) → (q < m.first → (not f && not (ltb 0 n)) ≡ false)
              → (not f && not (ltb 0 (n + one_if (lies_in q m)))) ≡ (nat_le (m.first + m.count) q && (not f && not (ltb 0 n)))
          joined true n q m low = no_more (nat_le (m.first + m.count) q)
            where
              no_more : (b : Bool) → false ≡ (b && false)
              no_more true = refl
              no_more false = refl
          joined false n q m low = grind (arith, nat_tests)

  -- what a worker holds, by the list of claims that is kept
  held_is_kept : (worker : ℕ) (o : Option Claim) → find (works_for worker) kept.held ≡ o → held_by calls worker ≡ option_map (λ (c : Claim). c.mark) o
  held_is_kept worker o found = ap (λ (l : List Claim). option_map (λ (c : Claim). c.mark) (find (works_for worker) l)) (sym h.held) ∙ ap (λ (x : Option Claim). option_map (λ (c : Claim). c.mark) x) found

  pub held_taken : (new : List Claim) (worker : ℕ) (result : Option Mark) → Takes kept.held new worker result → held_by calls worker ≡ result
  held_taken new worker None takes = held_is_kept worker None (find_at_none (works_for worker) kept.held takes.0)
  held_taken new worker (Some mark) takes =
      let there = find_at_some (works_for worker) kept.held takes.0 takes.1 takes.2 in
      held_is_kept worker (Some (get_or kept.held takes.0 takes.1)) there.2
      ∙ ap (λ (c : Claim). let o : Option Mark = Some c.mark in o) (got kept.held takes.0 takes.1 there.0 takes.3)
      ∙ ap (λ (m : Mark). Some m) (sym takes.4)
    where
      got : (l : List Claim) (i : ℕ) (c : Claim) → i < length l → slice_get l i ≡ Some c → get_or l i c ≡ c
      got l i c lt is = get_or_from_slice_get l i c c is

  -- a worker that holds nothing finishes or gives up nothing
  module _ (worker : ℕ) (none : find (works_for worker) kept.held ≡ None) where
    all_are : without worker (claims_of calls) ≡ claims_of calls
    all_are = ap (λ (l : List Claim). without worker l) (sym h.held) ∙ all_stay (works_for worker) kept.held (none_counted (works_for worker) kept.held none) ∙ h.held

    held_none : held_by calls worker ≡ None
    held_none = held_is_kept worker None none

    pub nothing_finished : StandsFor kept start (Finished worker ∷ calls)
    nothing_finished = record {
      held = h.held ∙ sym all_are;
      free = λ p. ap (λ (l : List Claim). not (is_finished start (Finished worker ∷ calls) p) && not (list_any (holds_at p) l)) all_are ∙ ap (λ b. not b && not (is_claimed calls p)) (same p) ∙ h.free p;
      spans = h.spans;
      sized = h.sized;
      workers = h.workers;
      once = h.once;
      apart = λ p done. h.apart p (sym (same p) ∙ done);
    }
      where
        same : (p : ℕ) → is_finished start (Finished worker ∷ calls) p ≡ is_finished start calls p
        same p = ap (λ (o : Option Mark). nat_lt p start || list_any (lies_in p) (cons_option o (finished_of calls))) held_none

    pub nothing_abandoned : StandsFor kept start (Abandoned worker ∷ calls)
    nothing_abandoned = record {
      held = h.held ∙ sym all_are;
      free = λ p. ap (λ (l : List Claim). not (is_finished start calls p) && not (list_any (holds_at p) l)) all_are ∙ h.free p;
      spans = h.spans;
      sized = h.sized;
      workers = h.workers;
      once = h.once;
      apart = h.apart;
    }

  -- the claim at an index is taken out, which its worker holds
  module _ (at : ℕ) (d : Claim) (lt : at < length kept.held) where
    abbrev pub claim : Claim
    claim = get_or kept.held at d

    same_worker : (n : ℕ) → (n == n) ≡ true
    same_worker n = grind (arith, nat_tests)

    others_are : without claim.worker (claims_of calls) ≡ remove kept.held at
    others_are = ap (λ (l : List Claim). without claim.worker l) (sym h.held) ∙ others_stay (works_for claim.worker) kept.held at d lt (same_worker claim.worker) (h.workers claim.worker)

    held_one : held_by calls claim.worker ≡ Some claim.mark
    held_one = held_is_kept claim.worker (Some claim) (one_found (works_for claim.worker) kept.held at d lt (same_worker claim.worker) (h.workers claim.worker))

    fewer_times : (p : ℕ) → times (remove kept.held at) p + one_if (lies_in p claim.mark) ≡ times kept.held p
    fewer_times p = count-remove (holds_at p) kept.held at d lt

    others_times : (p : ℕ) → list_any (holds_at p) (without claim.worker (claims_of calls)) ≡ ltb 0 (times (remove kept.held at) p)
    others_times p = ap (λ (l : List Claim). list_any (holds_at p) l) others_are ∙ any_counted (holds_at p) (remove kept.held at)

    pub stands_finished : StandsFor (record { held = remove kept.held at; spans = kept.spans; frontier = kept.frontier }) start (Finished claim.worker ∷ calls)
    stands_finished = record {
      held = sym others_are;
      free = λ p. ap (λ b. not (is_finished start (Finished claim.worker ∷ calls) p) && not b) (others_times p)
          ∙ ap (λ b. not b && not (ltb 0 (times (remove kept.held at) p))) (done_now p)
          ∙ came (nat_lt p start) (list_any (lies_in p) (finished_of calls)) (lies_in p claim.mark) (times kept.held p) (times (remove kept.held at) p) (fewer_times p) (h.once p)
          ∙ free_by_times p;
      spans = h.spans;
      sized = All-remove (λ (c : Claim). 0 < c.mark.count) kept.held at h.sized;
      workers = λ w. omega (arith, count-remove (works_for w) kept.held at d lt, h.workers w);
      once = λ p. omega (arith, fewer_times p, h.once p);
      apart = λ p done. gone (nat_lt p start) (list_any (lies_in p) (finished_of calls)) (lies_in p claim.mark) (times kept.held p) (times (remove kept.held at) p) (fewer_times p) (h.once p) (h.apart p) (sym (done_now p) ∙ done);
    }
      where
        done_now : (p : ℕ) → is_finished start (Finished claim.worker ∷ calls) p ≡ (nat_lt p start || (lies_in p claim.mark || list_any (lies_in p) (finished_of calls)))
        done_now p = ap (λ (o : Option Mark). nat_lt p start || list_any (lies_in p) (cons_option o (finished_of calls))) held_one

        came : (s a l : Bool) (k j : ℕ) → j + one_if l ≡ k → k ≤ 1 → (not (s || (l || a)) && not (ltb 0 j)) ≡ (not (s || a) && not (ltb 0 k))
        came true a l k j e most = refl
        came false true true k j e most = refl
        came false true false k j e most = refl
        came false false true k j e most = grind (arith, nat_tests)
        came false false false k j e most = grind (arith, nat_tests)

        gone : (s a l : Bool) (k j : ℕ) → j + one_if l ≡ k → k ≤ 1 → ((s || a) ≡ true → k ≡ 0) → (s || (l || a)) ≡ true → j ≡ 0
        gone s a true k j e most apart done = omega arith
        gone s a false k j e most apart done = omega (arith, apart done)

    pub stands_abandoned : StandsFor
        (record { held = remove kept.held at; spans = kept.spans ++ span_of claim.mark ∷ []; frontier = kept.frontier })
        start (Abandoned claim.worker ∷ calls)
    stands_abandoned = record {
      held = sym others_are;
      free = λ p. ap (λ b. not (is_finished start calls p) && not b) (others_times p)
          ∙ back (is_finished start calls p) (lies_in p claim.mark) (times kept.held p) (times (remove kept.held at) p) (fewer_times p) (h.once p) (h.apart p)
          ∙ ap (λ b. b || lies_in p claim.mark) (free_by_times p)
          ∙ opened (nat_le kept.frontier p) (list_any (spans_over p) kept.spans) (lies_in p claim.mark)
          ∙ ap (λ b. nat_le kept.frontier p || b) (sym (any_push p kept.spans (span_of claim.mark)));
      spans = All-push (λ (s : Span). s.first < s.end) kept.spans (span_of claim.mark) h.spans (omega (arith, h.sized at d lt));
      sized = All-remove (λ (c : Claim). 0 < c.mark.count) kept.held at h.sized;
      workers = λ w. omega (arith, count-remove (works_for w) kept.held at d lt, h.workers w);
      once = λ p. omega (arith, fewer_times p, h.once p);
      apart = λ p done. omega (arith, fewer_times p, h.apart p done);
    }
      where
        back : (f l : Bool) (k j : ℕ) → j + one_if l ≡ k → k ≤ 1 → (f ≡ true → k ≡ 0) → (not f && not (ltb 0 j)) ≡ ((not f && not (ltb 0 k)) || l)
        back true true k j e most apart = absurd (omega (arith, apart refl))
        back true false k j e most apart = refl
        back false true k j e most apart = grind (arith, nat_tests)
        back false false k j e most apart = grind (arith, nat_tests)

        opened : (f a l : Bool) → ((f || a) || l) ≡ (f || (a || l))
        opened true a l = refl
        opened false a l = refl

        any_push : (p : ℕ) (spans : List Span) (s : Span) → list_any (spans_over p) (spans ++ s ∷ []) ≡ (list_any (spans_over p) spans || spans_over p s)
        any_push p [] s = last (spans_over p s)
          where
            last : (b : Bool) → (b || false) ≡ b
            last true = refl
            last false = refl
        any_push p (x ∷ spans) s = ap (λ b. spans_over p x || b) (any_push p spans s) ∙ sym (opened (spans_over p x) (list_any (spans_over p) spans) (spans_over p s))

  same_from_test : (v w : ℕ) → (v == w) ≡ true → w ≡ v
  same_from_test v w same = grind (arith, nat_tests)

  -- a worker finishes what it holds, if it does
  pub finished_taken : (new : List Claim) (worker : ℕ) (result : Option Mark) → Takes kept.held new worker result
      → StandsFor (record { held = new; spans = kept.spans; frontier = kept.frontier }) start (Finished worker ∷ calls)
  finished_taken new worker None takes = rw takes.1 (nothing_finished worker (find_at_none (works_for worker) kept.held takes.0))
  finished_taken new worker (Some mark) takes =
      let there = find_at_some (works_for worker) kept.held takes.0 takes.1 takes.2 in
      let worker_is : worker ≡ (get_or kept.held takes.0 takes.1).worker = same_from_test (get_or kept.held takes.0 takes.1).worker worker there.1 in
      rw takes.5 (subst (λ (w : ℕ). StandsFor (record { held = remove kept.held takes.0; spans = kept.spans; frontier = kept.frontier }) start (Finished w ∷ calls))
      (sym worker_is) (stands_finished takes.0 takes.1 there.0))

  -- and gives it up
  pub abandoned_taken : (new : List Claim) (worker : ℕ) (mark : Mark) → Takes kept.held new worker (Some mark)
      → StandsFor (record { held = new; spans = kept.spans ++ span_of mark ∷ []; frontier = kept.frontier }) start (Abandoned worker ∷ calls)
  abandoned_taken new worker mark takes =
      let there = find_at_some (works_for worker) kept.held takes.0 takes.1 takes.2 in
      let worker_is : worker ≡ (get_or kept.held takes.0 takes.1).worker = same_from_test (get_or kept.held takes.0 takes.1).worker worker there.1 in
      let mark_is : mark ≡ (get_or kept.held takes.0 takes.1).mark = takes.4 ∙ ap (λ (c : Claim). c.mark) (sym (get_or_from_slice_get kept.held takes.0 takes.1 takes.1 takes.3)) in
      rw (takes.5, mark_is) (subst (λ (w : ℕ). StandsFor (record { held = remove kept.held takes.0; spans = kept.spans ++ span_of (get_or kept.held takes.0 takes.1).mark ∷ []; frontier = kept.frontier }) start (Abandoned w ∷ calls))
      (sym worker_is) (stands_abandoned takes.0 takes.1 there.0))

  pub abandoned_none : (new : List Claim) (worker : ℕ) → Takes kept.held new worker None
      → StandsFor (record { held = new; spans = kept.spans; frontier = kept.frontier }) start (Abandoned worker ∷ calls)
  abandoned_none new worker takes = rw takes.1 (nothing_abandoned worker (find_at_none (works_for worker) kept.held takes.0))

-- the answer, by the position that is next then
pub committed_is : (start : ℕ) (calls : List Call) (mark : Mark) (next : ℕ) → mark.first ≤ next → IsNextCommit start calls next → IsCommitted start calls mark next
committed_is start calls mark next le is = record { before = λ p lt. is.below p (omega arith); next_is = is }

pub kept_is : (start : ℕ) (calls : List Call) (mark : Mark) (next : ℕ) → next < mark.first → IsNextCommit start calls next → IsKept start calls mark next
kept_is start calls mark next lt is = record { missing = next; lower = lt; unfinished = is.here; next_is = is }

-- what holds of each claim holds of those that are left, and of the one that is taken
pub all_left : (P : Claim → Type 0) (old new : List Claim) (worker : ℕ) (result : Option Mark) → Takes old new worker result → All P old → All P new
all_left P old new worker None takes all = rw takes.1 all
all_left P old new worker (Some mark) takes all = rw takes.5 (All-remove P old takes.0 all)

pub end_taken : (old new : List Claim) (worker : ℕ) (mark : Mark) (most : ℕ) → Takes old new worker (Some mark)
    → All (λ (c : Claim). c.mark.first + c.mark.count < most) old → mark.first + mark.count < most
end_taken old new worker mark most takes all =
    let there = find_at_some (works_for worker) old takes.0 takes.1 takes.2 in
    rw takes.4 (subst (λ (c : Claim). c.mark.first + c.mark.count < most) (get_or_from_slice_get old takes.0 takes.1 takes.1 takes.3) (all takes.0 takes.1 there.0))
