-- What steps on the words have in common: what stays of the rule while one view changes.
use Rattle.std.proofs.Common.{◌≡◌, ◌≢◌, ◌⊎◌, ℕ, ◌+◌, ◌%◌, ◌<◌, ◌≤◌, List, length, set, get_or, sym, ap, ◌∙◌, subst, inl, inr, ⊎_elim, arith, Option, length-set, get_or-set_same, get_or-set_other}
use mathlib.Core.Option.{some, none, some-injective, some-ne-none}
use mathlib.Core.Option as maybe
use mathlib.Core.Logic.{dite}
use native.Mathlib.Decide.{ℕ_discrete}
use lib.ListN.{get_elem?}
use Rattle.atomic_table.specs.Table.{State, Me}
use Rattle.atomic_table.proofs.Lists.{set_else}
use Rattle.gl_turn.specs.declared.seen.Seen.{Seen}
use Rattle.gl_turn.specs.declared.view.Own.{Own}
use Rattle.gl_turn.specs.declared.view.View.{View}
use Rattle.gl_turn.specs.Rule.{AtHome, Fits, IsKept, IsOut, Knows, Tallies, counts_of, gained_of, over_of, settled_of, total, waits_of}
use Rattle.gl_turn.proofs.Sums.{total-set, total_le, total_one}
use Rattle.gl_turn.proofs.Views.{M, each_set, AllAgree, there, Tamer, tame_pairs, has_set, tally_set}

module _ {T : Type 0} (shows : T → Seen) (j₀ c₀ : ℕ) where
  abbrev Rule : State (Option T) View → Type 0
  Rule = IsKept shows j₀ c₀

  abbrev Sat : Type 0
  Sat = Me (Option T) View

  abbrev Homes : Type 0
  Homes = List (maybe.Option (Option T))

  pub few : (s : State (Option T) View) (r : Rule s) → (total waits_of s.views ≤ total counts_of s.views) × (total over_of s.views ≤ total counts_of s.views)
  few s r = (total_le waits_of counts_of s.views (λ j v e. (r.each j v e).waits_below), total_le over_of counts_of s.views (λ j v e. (r.each j v e).over_below))

  -- beside a seat that holds the value no other does
  pub one_holder : (s : State (Option T) View) (r : Rule s) (id : ℕ) (v : View) → get_elem? s.views id ≡ some v → 0 < v.holds → (j : ℕ) (u : View) → j ≢ id → get_elem? s.views j ≡ some u → u.holds ≡ 0
  one_holder s r id v at held j u other e = dite (ℕ_discrete u.holds 0) (λ z. z)
      (λ z. let a = r.each id v at in let b = r.each j u e in let ha = a.holds_below in let hb = b.holds_below in
      absurd (other ((r.pairs j id u v e at).apart (omega (arith, hb, z)) (omega (arith, ha, held)) ((b.turn (omega (arith, z))).0 ∙ sym (a.turn held).0))))

  pub gained_alone : (s : State (Option T) View) (r : Rule s) (id : ℕ) (v : View) → get_elem? s.views id ≡ some v → 0 < v.holds → (total gained_of s.views ≡ v.gained) × (total settled_of s.views ≡ v.settled)
  gained_alone s r id v at held = (
    total_one gained_of s.views id v at (λ j u other e. ((r.each j u e).at_rest (one_holder s r id v at held j u other e)).0),
    total_one settled_of s.views id v at (λ j u other e. ((r.each j u e).at_rest (one_holder s r id v at held j u other e)).1),
  )

  -- the place of the value, where a view that changes holds it as before
  pub home_stays : (homes : Homes) (top : Seen) (views : List View) (id : ℕ) (v w : View) → get_elem? views id ≡ some v → w.holds ≡ v.holds
      → AtHome shows homes top views ⊎ IsOut shows homes views → AtHome shows homes top (set views id w) ⊎ IsOut shows homes (set views id w)
  home_stays homes top views id v w at same home = ⊎_elim
      (λ (h : AtHome shows homes top views). inl (h.0, h.1, h.2, each_set (λ j u. u.holds ≡ 0) views id w (same ∙ h.3 id v at) (λ j u _ e. h.3 j u e)))
      (λ (h : IsOut shows homes views). inr (h.0, holder h.1))
      home
    where
      holder : ((j : ℕ) × (u : View) × (get_elem? views j ≡ some u) × (0 < u.holds)) → ((j : ℕ) × (u : View) × (get_elem? (set views id w) j ≡ some u) × (0 < u.holds))
      holder h = dite (ℕ_discrete h.0 id)
          (λ e. let is : v.holds ≡ h.1.holds = ap (λ (u : View). u.holds) (some-injective v h.1 (sym at ∙ ap (get_elem? views) (sym e) ∙ h.2)) in let pos = h.3 in (id, w, there views id v w at, omega (arith, same, is, pos)))
          (λ n. (h.0, h.1, set_else views id h.0 w n ∙ h.2, h.3))

  -- a step that only looks, or takes or counts for itself: the tickets, the turns and the count of seats stay
  pub settle : (s : State (Option T) View) (r : Rule s) (id i n : ℕ) (v w : View) (homes : Homes) → get_elem? s.views id ≡ some v → (i ≡ 0 → ⊥) → (i ≡ 1 → n ≡ get_or s.words 1 0) → (i ≡ 2 → n ≡ get_or s.words 2 0) → i < 5
      → w.waits ≡ v.waits → w.counts ≡ v.counts → w.over ≡ v.over → w.ticket ≡ v.ticket → Tamer w v → Fits j₀ c₀ r.drawn r.passed r.top w → Tallies j₀ c₀ r.top (set s.words i n) (set s.views id w)
      → AtHome shows homes r.top (set s.views id w) ⊎ IsOut shows homes (set s.views id w) → Rule record { words = set s.words i n; homes = homes; views = set s.views id w }
  settle s r id i n v w homes at not0 at1 at2 inside5 ww wc wo wt tame fits tally home = let wide = r.wide in record {
    drawn = r.drawn;
    passed = r.passed;
    top = r.top;
    wide = length-set s.words i n ∙ r.wide;
    tickets = get_or-set_other s.words i 0 n 0 (λ e. not0 (omega (arith, e))) ∙ r.tickets;
    serving = dite (ℕ_discrete i 1) (λ e. subst (λ (x : ℕ). get_or (set s.words x n) 1 0 ≡ r.passed % M) (sym e) (get_or-set_same s.words 1 n 0 (omega arith) ∙ at1 e ∙ r.serving)) (λ ne. get_or-set_other s.words i 1 n 0 (λ e. ne (omega (arith, e))) ∙ r.serving);
    seats = dite (ℕ_discrete i 2)
        (λ e. subst (λ (x : ℕ). get_or (set s.words x n) 2 0 ≡ get_or s.words 2 0) (sym e) (get_or-set_same s.words 2 n 0 (omega arith) ∙ at2 e))
        (λ ne. get_or-set_other s.words i 2 n 0 (λ e. ne (omega (arith, e))))
        ∙ r.seats ∙ (omega (arith, total-set counts_of s.views id v w at, total-set over_of s.views id v w at, wc, wo));
    limit = omega (arith, total-set counts_of s.views id v w at, r.limit, wc);
    queue = omega (arith, total-set waits_of s.views id v w at, r.queue, ww);
    covered = λ x p l. has_set s.views id v w x at (λ a e. (omega (arith, a, ww), wt ∙ e)) (r.covered x p l);
    tally = tally;
    each = each_set (λ j u. Fits j₀ c₀ r.drawn r.passed r.top u) s.views id w fits (λ j u _ e. r.each j u e);
    pairs = tame_pairs s.views r.pairs id v w at tame;
    home = home;
  }

  -- a seat that is outside before and after a step on the count of seats
  pub recount : (s : State (Option T) View) (r : Rule s) (id n : ℕ) (v w : View) → get_elem? s.views id ≡ some v → v.waits ≡ 0 → w.waits ≡ 0 → v.holds ≡ 0 → w.holds ≡ 0 → w.over ≤ w.counts → w.alone ≤ w.counts → 0 < v.counts → 0 < w.counts
      → w.own ≡ v.own → w.gained ≡ 0 → w.settled ≡ 0 → ((x : Seen) → Knows w x → Knows v x) → AllAgree (set s.views id w)
      → n ≡ total counts_of (set s.views id w) + total over_of (set s.views id w) → total counts_of (set s.views id w) ≤ 4611686018427387904
      → Rule record { words = set s.words 2 n; homes = s.homes; views = set s.views id w }
  recount s r id n v w at vw ww vh wh over alone pos pos' same wg ws less pairs is fits = let wide = r.wide in let mine = r.each id v at in let rest = mine.at_rest vh in record {
    drawn = r.drawn;
    passed = r.passed;
    top = r.top;
    wide = length-set s.words 2 n ∙ r.wide;
    tickets = get_or-set_other s.words 2 0 n 0 (λ e. omega arith) ∙ r.tickets;
    serving = get_or-set_other s.words 2 1 n 0 (λ e. omega arith) ∙ r.serving;
    seats = get_or-set_same s.words 2 n 0 (omega arith) ∙ is;
    limit = fits;
    queue = omega (arith, total-set waits_of s.views id v w at, r.queue, vw, ww);
    covered = λ x p l. has_set s.views id v w x at (λ a _. absurd (omega (arith, a, vw))) (r.covered x p l);
    tally = tally_set j₀ c₀ r.top s.words _ s.views id v w at r.tally (get_or-set_other s.words 2 3 n 0 (λ e. omega arith)) (get_or-set_other s.words 2 4 n 0 (λ e. omega arith)) (ap (λ (o : Own). o.appends) same) (ap (λ (o : Own). o.commits) same) (wg ∙ sym rest.0) (ws ∙ sym rest.1);
    each = each_set (λ j u. Fits j₀ c₀ r.drawn r.passed r.top u) s.views id w
        record {
          waits_below = omega (arith, ww);
          over_below = over;
          holds_below = omega (arith, ww, wh);
          alone_below = alone;
          queued = λ a. absurd (omega (arith, a, ww));
          turn = λ a. absurd (omega (arith, a, wh));
          behind = λ _ x k. mine.behind pos x (less x k);
          from = λ _. subst (λ (o : Own). (o.journalled ≡ j₀) × (o.committed ≡ c₀)) (sym same) (mine.from pos);
          at_rest = λ _. (wg, ws);
          listed = subst (λ (o : Own). length o.positions ≡ o.appends) (sym same) mine.listed;
          gone = λ a. absurd (omega (arith, a, pos'));
        }
        (λ j u _ e. r.each j u e);
    pairs = pairs;
    home = home_stays s.homes r.top s.views id v w at (wh ∙ sym vh) r.home;
  }
