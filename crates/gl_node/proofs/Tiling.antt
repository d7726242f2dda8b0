-- How the ranges that are held or came in tile the positions behind the commit count, and what events do to that.
use Rattle.std.proofs.Common.{◌≡◌, ◌⊎◌, inl, inr, ⊎_elim, ℕ, ◌+◌, ◌-◌, ◌<◌, ◌≤◌, ◌==◌, Bool, true, false, not, ◌&&◌, ◌||◌, ltb, nat_lt, List, [], ◌∷◌, ◌++◌, length, get_or, find, count_by, None, refl, sym, ◌∙◌, ap, subst, arith, length-append}
use Rattle.std.specs.List.{list_any, remove, Any}
use Rattle.std.proofs.lemmas.Bool.Decides.{nat_tests}
use Rattle.std.proofs.lemmas.List.Elements.{All-push}
use Rattle.std.proofs.lemmas.List.Sums.{sum_by_push}
use Rattle.gl_base.proofs.Counting.{one_if, count_push, count-remove, counted_at, any_counted, others_stay, none_counted, count_mono, All-remove}
use Rattle.std.proofs.lemmas.List.Folds.{Any-from_list_any}
use Rattle.gl_base.proofs.Ranges.{all_in_range, not_all_in_range}
use Rattle.gl_fields.specs.declared.entry.Entry.{Entry}
use Rattle.gl_node.specs.declared.mark.Mark.{Mark}
use Rattle.gl_node.specs.declared.mark.Claim.{Claim}
use Rattle.gl_node.specs.State.{State, Added, Claimed, CameIn, Committed, happened, commit_count, without, except}
use Rattle.gl_node.specs.Claims.{lies_in, is_finished, is_free, is_kept}
use Rattle.gl_node.specs.Node.{AreTiled, IsSized, times_taken, lies_between}

abbrev pub holds_at : ℕ → Claim → Bool
holds_at position claim = lies_in position claim.mark

bool_cases : (b : Bool) → (b ≡ true) ⊎ (b ≡ false)
bool_cases true = inl refl
bool_cases false = inr refl

inside : (from to p : ℕ) → from ≤ p → p < to → lies_between from to p ≡ true
inside from to p low high = grind (arith, nat_tests)

outside : (from to p : ℕ) → (p < from) ⊎ (to ≤ p) → lies_between from to p ≡ false
outside from to p out = grind (arith, nat_tests)

first_lies : (m : Mark) → 0 < m.count → lies_in m.first m ≡ true
first_lies m some = grind (arith, nat_tests)

last_lies : (m : Mark) → 0 < m.count → lies_in (m.first + m.count - 1) m ≡ true
last_lies m some = grind (arith, nat_tests)

low_of : (p : ℕ) (m : Mark) → lies_in p m ≡ true → m.first ≤ p
low_of p m lies = grind (arith, nat_tests)

between_low : (from to p : ℕ) → 0 < one_if (lies_between from to p) → from ≤ p
between_low from to p some = grind (arith, nat_tests)

between_high : (from to p : ℕ) → 0 < one_if (lies_between from to p) → p < to
between_high from to p some = grind (arith, nat_tests)

-- a range on top of another
stacked : (from middle to p : ℕ) (m : Mark) → from ≤ middle → m.first ≡ middle → m.first + m.count ≡ to
    → one_if (lies_between from middle p) + one_if (lies_in p m) ≡ one_if (lies_between from to p)
stacked from middle to p m le first end = grind (arith, nat_tests)

module _ (s : State) (next : ℕ) (tiled : AreTiled s next) where
  -- a held range lies between the commit count and `next`
  pub held_low : (i : ℕ) (d : Claim) → i < length s.held → commit_count s ≤ (get_or s.held i d).mark.first
  held_low i d lt =
      let m = (get_or s.held i d).mark in
      let some : 0 < count_by (holds_at m.first) s.held = counted_at (holds_at m.first) s.held i d lt (first_lies m ((tiled.held_sized i d lt).0)) in
      between_low (commit_count s) next m.first (omega (arith, some, tiled.once m.first))

  pub held_high : (i : ℕ) (d : Claim) → i < length s.held → (get_or s.held i d).mark.first + (get_or s.held i d).mark.count ≤ next
  held_high i d lt =
      let m = (get_or s.held i d).mark in
      let p = m.first + m.count - 1 in
      let some : 0 < count_by (holds_at p) s.held = counted_at (holds_at p) s.held i d lt (last_lies m ((tiled.held_sized i d lt).0)) in
      let below : p < next = between_high (commit_count s) next p (omega (arith, some, tiled.once p)) in
      omega (arith, below, (tiled.held_sized i d lt).0)

  pub waiting_low : (i : ℕ) (d : Mark) → i < length s.waiting → commit_count s ≤ (get_or s.waiting i d).first
  waiting_low i d lt =
      let m = get_or s.waiting i d in
      let some : 0 < count_by (lies_in m.first) s.waiting = counted_at (lies_in m.first) s.waiting i d lt (first_lies m ((tiled.waiting_sized i d lt).0)) in
      between_low (commit_count s) next m.first (omega (arith, some, tiled.once m.first))

  pub waiting_high : (i : ℕ) (d : Mark) → i < length s.waiting → (get_or s.waiting i d).first + (get_or s.waiting i d).count ≤ next
  waiting_high i d lt =
      let m = get_or s.waiting i d in
      let p = m.first + m.count - 1 in
      let some : 0 < count_by (lies_in p) s.waiting = counted_at (lies_in p) s.waiting i d lt (last_lies m ((tiled.waiting_sized i d lt).0)) in
      let below : p < next = between_high (commit_count s) next p (omega (arith, some, tiled.once p)) in
      omega (arith, below, (tiled.waiting_sized i d lt).0)

  -- no two ranges that came in begin at one position
  pub one_begins : (first : ℕ) → count_by (λ (m : Mark). m.first == first) s.waiting ≤ 1
  one_begins first =
      let wide : count_by (λ (m : Mark). m.first == first) s.waiting ≤ count_by (lies_in first) s.waiting
      = count_mono (λ (m : Mark). m.first == first) (lies_in first) s.waiting (λ k d lt begins. lies first (get_or s.waiting k d) ((tiled.waiting_sized k d lt).0) begins) in
      omega (arith, wide, tiled.once first, most (lies_between (commit_count s) next first))
    where
      lies : (p : ℕ) (m : Mark) → 0 < m.count → (m.first == p) ≡ true → lies_in p m ≡ true
      lies p m some begins = grind (arith, nat_tests)

      most : (b : Bool) → one_if b ≤ 1
      most true = omega arith
      most false = omega arith

  pub except_is : (i : ℕ) (d : Mark) → i < length s.waiting → except (get_or s.waiting i d) s.waiting ≡ remove s.waiting i
  except_is i d lt = others_stay (λ (m : Mark). m.first == (get_or s.waiting i d).first) s.waiting i d lt (same (get_or s.waiting i d).first) (one_begins (get_or s.waiting i d).first)
    where
      same : (n : ℕ) → (n == n) ≡ true
      same n = grind (arith, nat_tests)

  pub without_is : (i : ℕ) (d : Claim) → i < length s.held → without (get_or s.held i d).worker s.held ≡ remove s.held i
  without_is i d lt = others_stay (λ (c : Claim). c.worker == (get_or s.held i d).worker) s.held i d lt (same (get_or s.held i d).worker) (tiled.workers (get_or s.held i d).worker)
    where
      same : (n : ℕ) → (n == n) ≡ true
      same n = grind (arith, nat_tests)

  -- one more entry
  pub tiled_added : (entry : Entry) → AreTiled (happened s (Added entry)) next
  tiled_added entry = record {
    committed = tiled.committed;
    within = omega (arith, tiled.within, length-append s.journal (entry ∷ []));
    once = tiled.once;
    held_sized = tiled.held_sized;
    waiting_sized = tiled.waiting_sized;
    workers = tiled.workers;
  }

  -- a worker that holds none claims the next positions
  pub tiled_claimed : (claim : Claim) → claim.mark.first ≡ next → 0 < claim.mark.count → claim.mark.count ≤ 256 → next + claim.mark.count ≤ length s.journal
      → find (λ (c : Claim). c.worker == claim.worker) s.held ≡ None → AreTiled (happened s (Claimed claim)) (next + claim.mark.count)
  tiled_claimed claim first some few fits alone = record {
    committed = omega (arith, tiled.committed);
    within = fits;
    once = λ p. omega (
      arith,
      count_push (holds_at p) s.held claim,
      tiled.once p,
      stacked (commit_count s) next (next + claim.mark.count) p claim.mark tiled.committed first (ap (λ n. n + claim.mark.count) first),
    );
    held_sized = All-push (λ (c : Claim). IsSized c.mark) s.held claim tiled.held_sized (some, few);
    waiting_sized = tiled.waiting_sized;
    workers = λ w. ⊎_elim
        (λ (same : w ≡ claim.worker). rw same (omega (arith, count_push (λ (c : Claim). c.worker == claim.worker) s.held claim, none_counted (λ (c : Claim). c.worker == claim.worker) s.held alone, most (claim.worker == claim.worker))))
        (λ (differs : (claim.worker == w) ≡ false). omega (arith, count_push (λ (c : Claim). c.worker == w) s.held claim, tiled.workers w, ap one_if differs))
        (same_or w claim.worker);
  }
    where
      most : (b : Bool) → one_if b ≤ 1
      most true = omega arith
      most false = omega arith

      same_or : (w v : ℕ) → (w ≡ v) ⊎ ((v == w) ≡ false)
      same_or w v = grind (arith, nat_tests)

  -- what a worker held came in
  pub tiled_came : (i : ℕ) (d : Claim) → i < length s.held → AreTiled (happened s (CameIn (get_or s.held i d))) next
  tiled_came i d lt =
      let claim = get_or s.held i d in
      subst (λ (held : List Claim). AreTiled (record s { held = held; waiting = s.waiting ++ claim.mark ∷ [] }) next) (sym (without_is i d lt)) (record {
        committed = tiled.committed;
        within = tiled.within;
        once = λ p. omega (arith, count-remove (holds_at p) s.held i d lt, count_push (lies_in p) s.waiting claim.mark, tiled.once p);
        held_sized = All-remove (λ (c : Claim). IsSized c.mark) s.held i tiled.held_sized;
        waiting_sized = All-push IsSized s.waiting claim.mark tiled.waiting_sized (tiled.held_sized i d lt);
        workers = λ w. omega (arith, count-remove (λ (c : Claim). c.worker == w) s.held i d lt, tiled.workers w);
      })

  pub count_committed : (mark : Mark) → commit_count (happened s (Committed mark)) ≡ commit_count s + mark.count
  count_committed mark = omega (arith, sum_by_push (λ (m : Mark). m.count) s.committed mark)

  -- the range that begins at the commit count is committed
  pub tiled_committed : (i : ℕ) (d : Mark) → i < length s.waiting → (get_or s.waiting i d).first ≡ commit_count s
      → AreTiled (happened s (Committed (get_or s.waiting i d))) next
  tiled_committed i d lt first =
      let mark = get_or s.waiting i d in
      subst (λ (waiting : List Mark). AreTiled (record s { waiting = waiting; committed = s.committed ++ mark ∷ [] }) next) (sym (except_is i d lt)) (record {
        committed = rw (count_committed mark) (omega (arith, waiting_high i d lt, first));
        within = tiled.within;
        once = λ p. rw (count_committed mark) (omega (
          arith,
          count-remove (lies_in p) s.waiting i d lt,
          tiled.once p,
          parted (commit_count s) next p mark first (waiting_high i d lt),
        ));
        held_sized = tiled.held_sized;
        waiting_sized = All-remove IsSized s.waiting i tiled.waiting_sized;
        workers = tiled.workers;
      })
    where
      parted : (from to p : ℕ) (m : Mark) → m.first ≡ from → m.first + m.count ≤ to
          → one_if (lies_between (from + m.count) to p) + one_if (lies_in p m) ≡ one_if (lies_between from to p)
      parted from to p m first le = grind (arith, nat_tests)

  -- whether a position is free
  finished_by_counts : (p : ℕ) → is_finished s p ≡ (nat_lt p (commit_count s) || ltb 0 (count_by (lies_in p) s.waiting))
  finished_by_counts p = ap (λ b. nat_lt p (commit_count s) || b) (any_counted (lies_in p) s.waiting)

  pub free_from_next : (p : ℕ) → next ≤ p → is_free s p ≡ true
  free_from_next p le =
      let none : times_taken s p ≡ 0 = tiled.once p ∙ ap one_if (outside (commit_count s) next p (inr le)) in
      rw (any_counted (lies_in p) s.waiting, any_counted (holds_at p) s.held)
      (free_at p (commit_count s) (count_by (holds_at p) s.held) (count_by (lies_in p) s.waiting) (omega (arith, tiled.committed)) (omega arith) (omega arith))
    where
      free_at : (p low h w : ℕ) → low ≤ p → h ≡ 0 → w ≡ 0 → (not (nat_lt p low || ltb 0 w) && not (ltb 0 h)) ≡ true
      free_at p low h w le none_h none_w = grind (arith, nat_tests)

  pub taken_below_next : (p : ℕ) → commit_count s ≤ p → p < next → is_free s p ≡ false
  taken_below_next p low high =
      let one : times_taken s p ≡ 1 = tiled.once p ∙ ap one_if (inside (commit_count s) next p low high) in
      rw (any_counted (lies_in p) s.waiting, any_counted (holds_at p) s.held)
      (taken_at p (commit_count s) (count_by (holds_at p) s.held) (count_by (lies_in p) s.waiting) (omega arith))
    where
      taken_at : (p low h w : ℕ) → h + w ≡ 1 → (not (nat_lt p low || ltb 0 w) && not (ltb 0 h)) ≡ false
      taken_at p low h w one = grind (arith, nat_tests)

  -- a position before a range isn't finished exactly where a range is held that begins below
  pub kept_is : (m : Mark) → m.first ≤ next → is_kept s m ≡ list_any (λ (c : Claim). nat_lt c.mark.first m.first) s.held
  kept_is m le = ⊎_elim
      (λ (some : list_any (λ (c : Claim). nat_lt c.mark.first m.first) s.held ≡ true). when_some (Any-from_list_any (λ (c : Claim). nat_lt c.mark.first m.first) s.held some) ∙ sym some)
      (λ (none : list_any (λ (c : Claim). nat_lt c.mark.first m.first) s.held ≡ false). when_none none ∙ sym none)
      (bool_cases (list_any (λ (c : Claim). nat_lt c.mark.first m.first) s.held))
    where
      unfinished : (p low w : ℕ) → low ≤ p → w ≡ 0 → (nat_lt p low || ltb 0 w) ≡ false
      unfinished p low w le none = grind (arith, nat_tests)

      finished : (p low w : ℕ) → w ≡ 1 → (nat_lt p low || ltb 0 w) ≡ true
      finished p low w one = grind (arith, nat_tests)

      lower : (p : ℕ) → nat_lt p m.first ≡ true → p < m.first
      lower p h = grind (arith, nat_tests)

      most : (b : Bool) → one_if b ≤ 1
      most true = omega arith
      most false = omega arith

      when_some : Any (λ (c : Claim). nat_lt c.mark.first m.first ≡ true) s.held → is_kept s m ≡ true
      when_some found =
          let k = found.0 in
          let p = found.1.mark.first in
          let is_there = found.3 in
          let some : 0 < count_by (holds_at p) s.held = counted_at (holds_at p) s.held k found.1 found.2
          (rw is_there (first_lies found.1.mark (subst (λ (c : Claim). 0 < c.mark.count) is_there ((tiled.held_sized k found.1 found.2).0)))) in
          let low : commit_count s ≤ p = subst (λ (c : Claim). commit_count s ≤ c.mark.first) is_there (held_low k found.1 found.2) in
          let below_m : p < m.first = lower p found.4 in
          let fails : is_finished s p ≡ false = finished_by_counts p ∙ unfinished p (commit_count s) (count_by (lies_in p) s.waiting) low
          (omega (arith, some, tiled.once p, most (lies_between (commit_count s) next p))) in
          ap not (not_all_in_range (is_finished s) (commit_count s) (m.first - commit_count s) p low (omega (arith, low, below_m)) fails)

      when_none : list_any (λ (c : Claim). nat_lt c.mark.first m.first) s.held ≡ false → is_kept s m ≡ false
      when_none none =
          ap not (all_in_range (is_finished s) (commit_count s) (m.first - commit_count s) (λ j low high.
          let none_below : count_by (λ (c : Claim). nat_lt c.mark.first m.first) s.held ≡ 0 = zero_of (count_by (λ (c : Claim). nat_lt c.mark.first m.first) s.held) (sym (any_counted (λ (c : Claim). nat_lt c.mark.first m.first) s.held) ∙ none) in
          let wide : count_by (holds_at j) s.held ≤ count_by (λ (c : Claim). nat_lt c.mark.first m.first) s.held
          = count_mono (holds_at j) (λ (c : Claim). nat_lt c.mark.first m.first) s.held (λ k d lt lies. begins_below j (get_or s.held k d).mark m.first lies (omega (arith, low, high))) in
          let one : times_taken s j ≡ 1 = tiled.once j ∙ ap one_if (inside (commit_count s) next j low (omega (arith, low, high, le))) in
          finished_by_counts j ∙ finished j (commit_count s) (count_by (lies_in j) s.waiting) (omega (arith, one, wide, none_below))))
        where
          zero_of : (n : ℕ) → ltb 0 n ≡ false → n ≡ 0
          zero_of n h = grind (arith, nat_tests)

          begins_below : (p : ℕ) (r : Mark) (f : ℕ) → lies_in p r ≡ true → p < f → nat_lt r.first f ≡ true
          begins_below p r f lies lt = grind (arith, nat_tests)
