-- The steps on the tickets and on the turns keep the rule.
use Rattle.std.proofs.Common.{◌≡◌, ◌≢◌, ℕ, ◌+◌, ◌%◌, ◌<◌, List, [], ◌∷◌, length, set, get_or, refl, sym, ap, ◌∙◌, subst, inl, inr, ⊎_elim, arith, Option, Some, length-set, get_or-set_same, get_or-set_other}
use mathlib.Core.Option.{some, none, some-injective, some-ne-none}
use mathlib.Core.Option as maybe
use mathlib.Core.Logic.{dite}
use native.Mathlib.Decide.{ℕ_discrete}
use lib.ListN.{get_elem?}
use Rattle.atomic_table.specs.Table.{State, Me, step, keeps, takes, gives, Allows}
use Rattle.atomic_table.proofs.Lists.{one_turn}
use Rattle.gl_turn.specs.declared.seen.Seen.{Seen}
use Rattle.gl_turn.specs.declared.view.Own.{Own}
use Rattle.gl_turn.specs.declared.view.View.{View}
use Rattle.gl_turn.specs.Order.{IsBefore}
use Rattle.gl_turn.specs.Own.{one_turn_more}
use Rattle.gl_turn.specs.Rule.{Agree, AtHome, Fits, IsKept, IsOut, appends_of, commits_of, counts_of, gained_of, over_of, settled_of, waits_of}
use Rattle.gl_turn.specs.Steps.{drew, passed_on, saw, tried_more}
use Rattle.gl_turn.specs.Views.{inside, outside, waiting}
use Rattle.gl_turn.proofs.Orders.{before_refl, before_trans}
use Rattle.gl_turn.proofs.Sums.{total-set}
use Rattle.gl_turn.proofs.Views.{M, each_set, pairs_set, there, fits_more, has_set, tally_set, next, knows_seen}
use Rattle.gl_turn.proofs.Keeping.{few, one_holder, gained_alone, home_stays, settle}

module _ {T : Type 0} (shows : T → Seen) (j₀ c₀ : ℕ) where
  abbrev Rule : State (Option T) View → Type 0
  Rule = IsKept shows j₀ c₀

  abbrev Sat : Type 0
  Sat = Me (Option T) View

  abbrev Homes : Type 0
  Homes = List (maybe.Option (Option T))

  pub draws : (slots id : ℕ) (own : Own) (alone : ℕ) (seen : Seen) → Allows Rule slots id (outside own alone seen, []) 0 (λ n. (n + 1) % M) (drew (step slots 0 1 0 none) (outside own alone seen, []))
  draws slots id own alone seen s r _ at _ =
      let v : View = outside own alone seen in let w : View = waiting (one_turn_more own) alone seen r.drawn in let n : ℕ = (get_or s.words 0 0 + 1) % M in let wide = r.wide in
      let mine = r.each id v at in let alone_few = mine.alone_below in
      let fits : Fits j₀ c₀ (r.drawn + 1) r.passed r.top w = record {
        waits_below = omega arith;
        over_below = omega arith;
        holds_below = omega arith;
        alone_below = alone_few;
        queued = λ _. let q = r.queue in (omega arith, omega arith);
        turn = λ a. absurd (omega arith);
        behind = λ _ x k. mine.behind (omega arith) x k;
        from = λ _. mine.from (omega arith);
        at_rest = λ _. (refl, refl);
        listed = mine.listed;
        gone = λ a. absurd (omega arith);
      } in (
        w,
        keeps,
        tt,
        record {
          drawn = r.drawn + 1;
          passed = r.passed;
          top = r.top;
          wide = length-set s.words 0 n ∙ r.wide;
          tickets = get_or-set_same s.words 0 n 0 (omega arith) ∙ next _ r.drawn r.tickets;
          serving = get_or-set_other s.words 0 1 n 0 (λ e. omega arith) ∙ r.serving;
          seats = get_or-set_other s.words 0 2 n 0 (λ e. omega arith) ∙ r.seats ∙ (omega (arith, total-set counts_of s.views id v w at, total-set over_of s.views id v w at));
          limit = omega (arith, total-set counts_of s.views id v w at, r.limit);
          queue = omega (arith, total-set waits_of s.views id v w at, r.queue);
          covered = λ x p q. dite (ℕ_discrete x r.drawn) (λ e. (id, w, there s.views id v w at, omega arith, sym e)) (λ ne. has_set s.views id v w x at (λ a. absurd (omega arith)) (r.covered x p (omega arith)));
          tally = tally_set j₀ c₀ r.top s.words _ s.views id v w at r.tally (get_or-set_other s.words 0 3 n 0 (λ e. omega arith)) (get_or-set_other s.words 0 4 n 0 (λ e. omega arith)) refl refl refl refl;
          each = each_set (λ j u. Fits j₀ c₀ (r.drawn + 1) r.passed r.top u) s.views id w fits (λ j u _ e. fits_more j₀ c₀ r.drawn r.passed r.top u (r.each j u e));
          pairs = pairs_set s.views id w r.pairs
              record { apart = λ _ _ _. refl; chain = λ _ _ x y kx ky. (r.pairs id id v v at at).chain (omega arith) (omega arith) x y kx ky; only = λ _ _. refl }
              (λ j u other e. (
                record {
                  apart = λ _ b same. let q = ((r.each j u e).queued b).1 in absurd (omega (arith, same, q));
                  chain = λ _ b x y kx ky. (r.pairs id j v u at e).chain (omega arith) b x y kx ky;
                  only = λ a b. (r.pairs id j v u at e).only a b;
                },
                record {
                  apart = λ a _ same. let q = ((r.each j u e).queued a).1 in absurd (omega (arith, same, q));
                  chain = λ a _ x y kx ky. (r.pairs j id u v e at).chain a (omega arith) x y kx ky;
                  only = λ a _. (r.pairs j id u v e at).only a (omega arith);
                },
              ));
          home = home_stays shows j₀ c₀ s.homes r.top s.views id v w at refl r.home;
        },
        (refl, refl, r.tickets),
      )

  pub sees : (slots id : ℕ) (own : Own) (alone : ℕ) (seen : Seen) (ticket : ℕ) → Allows Rule slots id (waiting own alone seen ticket, []) 1 (λ n. n) (saw shows (step slots 1 0 0 none) (waiting own alone seen ticket, []))
  sees slots id own alone seen ticket s r _ at _ =
      let v : View = waiting own alone seen ticket in let n : ℕ = get_or s.words 1 0 in let wide = r.wide in let mine = r.each id v at in let q = mine.queued (omega arith) in
      let queue = r.queue in let below = few shows j₀ c₀ s r in let limit = r.limit in
      let w3 = get_or-set_other s.words 1 3 n 0 (λ e. omega arith) in let w4 = get_or-set_other s.words 1 4 n 0 (λ e. omega arith) in
      dite (ℕ_discrete n (ticket % M))
      (λ is.
      let same : r.passed ≡ ticket = one_turn r.passed ticket M q.0 (omega (arith, q.1, queue, below.0, limit)) (sym r.serving ∙ is) in
      ⊎_elim
      (λ (h : AtHome shows s.homes r.top s.views).
      let w : View = inside own alone seen ticket (shows h.0) 0 0 in
      let fits : Fits j₀ c₀ r.drawn r.passed r.top w = record { waits_below = omega arith; over_below = omega arith; holds_below = omega arith; alone_below = mine.alone_below; queued = λ _. q; turn = λ _. (sym same, h.2); behind = λ _ x k. mine.behind (omega arith) x k; from = λ _. mine.from (omega arith); at_rest = λ _. (refl, refl); listed = mine.listed; gone = λ a. absurd (omega arith) } in (
        w,
        takes 0 (Some h.0),
        ap (λ (hs : Homes). get_elem? hs 0) h.1,
        settle shows j₀ c₀ s r id 1 n v w (set s.homes 0 none) at (λ e. absurd (omega arith)) (λ _. refl) (λ e. absurd (omega arith)) (omega arith) refl refl refl refl ((λ _. (omega arith, refl)), omega arith, (λ x k. k), (λ a. a)) fits
            (tally_set j₀ c₀ r.top s.words _ s.views id v w at r.tally w3 w4 refl refl refl refl) (inr (ap (λ (hs : Homes). set hs 0 none) h.1, (id, w, there s.views id v w at, omega arith))),
        ((λ _. (h.0, refl, refl, subst (λ (t : Seen). IsBefore seen t) (sym h.2) (mine.behind (omega arith) seen (inl refl)))), λ not. absurd (not is)),
      ))
      (λ (h : IsOut shows s.homes s.views).
      let j = h.1.0 in let u = h.1.1 in let e = h.1.2 in let held = h.1.3 in let theirs = r.each j u e in let below' = theirs.holds_below in
      let one : j ≡ id = (r.pairs j id u v e at).apart (omega (arith, held, below')) (omega arith) ((theirs.turn held).0 ∙ same) in
      let v_is_u : v.holds ≡ u.holds = ap (λ (x : View). x.holds) (some-injective v u (sym at ∙ ap (get_elem? s.views) (sym one) ∙ e)) in absurd (omega (arith, v_is_u, held)))
      r.home)
      (λ not. (
        v,
        keeps,
        tt,
        settle shows j₀ c₀ s r id 1 n v v s.homes at (λ e. absurd (omega arith)) (λ _. refl) (λ e. absurd (omega arith)) (omega arith) refl refl refl refl ((λ _. (omega arith, refl)), omega arith, (λ x k. k), (λ a. a)) mine
            (tally_set j₀ c₀ r.top s.words _ s.views id v v at r.tally w3 w4 refl refl refl refl) (home_stays shows j₀ c₀ s.homes r.top s.views id v v at refl r.home),
        ((λ is. absurd (not is)), λ _. refl),
      ))

  -- the seat passes the turn, and the value that it has in hand goes home
  pub passes : (slots id : ℕ) (own : Own) (alone : ℕ) (seen : Seen) (ticket : ℕ) (out : Seen) (gained done : ℕ) (y : T) → IsBefore out (shows y) → length out.journal + gained ≡ length (shows y).journal → out.commits + done ≡ (shows y).commits
      → Allows Rule slots id (inside own alone seen ticket out gained done, (0, Some y) ∷ []) 1 (λ n. (n + 1) % M) (passed_on shows (step slots 1 1 0 none) (inside own alone seen ticket out gained done, (0, Some y) ∷ []))
  passes slots id own alone seen ticket out gained done y bigger more_entries more_commits s r _ at _ =
      let v : View = inside own alone seen ticket out gained done in let own' : Own = tried_more own out (shows y) in let w : View = outside own' alone (shows y) in let n : ℕ = (get_or s.words 1 0 + 1) % M in let wide = r.wide in let mine = r.each id v at in let q = mine.queued (omega arith) in
      let t = mine.turn (omega arith) in let queue = r.queue in let limit = r.limit in
      let higher : (x : Seen) → IsBefore x r.top → IsBefore x (shows y) = λ x b. before_trans x r.top (shows y) b (subst (λ (z : Seen). IsBefore z (shows y)) t.1 bigger) in
      let others : (j : ℕ) (u : View) → j ≢ id → get_elem? s.views j ≡ some u → 0 < u.waits → u.ticket ≢ r.passed = λ j u other e a same. other ((r.pairs j id u v e at).apart a (omega arith) (same ∙ sym t.0)) in
      let idle = one_holder shows j₀ c₀ s r id v at (omega arith) in
      let g = gained_alone shows j₀ c₀ s r id v at (omega arith) in let l = r.tally in
      let oj = ap (λ (x : Seen). length x.journal) t.1 in let oc = ap (λ (x : Seen). x.commits) t.1 in
      let tg = total-set gained_of s.views id v w at in let ts = total-set settled_of s.views id v w at in let ta = total-set appends_of s.views id v w at in let tc = total-set commits_of s.views id v w at in
      let fits : Fits j₀ c₀ r.drawn (r.passed + 1) (shows y) w = record { waits_below = omega arith; over_below = omega arith; holds_below = omega arith; alone_below = mine.alone_below; queued = λ a. absurd (omega arith); turn = λ a. absurd (omega arith); behind = λ _ x k. subst (λ (z : Seen). IsBefore z (shows y)) (sym (knows_seen own' alone (shows y) x k)) (before_refl (shows y)); from = λ _. mine.from (omega arith); at_rest = λ _. (refl, refl); listed = mine.listed; gone = λ a. absurd (omega arith) } in
      let after : (j : ℕ) (u : View) → j ≢ id → get_elem? s.views j ≡ some u → Agree id j w u × Agree j id u w = λ j u other e. (
        record { apart = λ a. absurd (omega arith); chain = λ _ b x z kx kz. inr (subst (λ (top : Seen). IsBefore z top) (sym (knows_seen own' alone (shows y) x kx)) (higher z ((r.each j u e).behind b z kz))); only = λ a b. (r.pairs id j v u at e).only a b },
        record { apart = λ _ a. absurd (omega arith); chain = λ a _ x z kx kz. inl (subst (λ (top : Seen). IsBefore x top) (sym (knows_seen own' alone (shows y) z kz)) (higher x ((r.each j u e).behind a x kx))); only = λ a _. (r.pairs j id u v e at).only a (omega arith) },
      ) in (
        w,
        gives,
        tt,
        record {
          drawn = r.drawn;
          passed = r.passed + 1;
          top = shows y;
          wide = length-set s.words 1 n ∙ r.wide;
          tickets = get_or-set_other s.words 1 0 n 0 (λ e. omega arith) ∙ r.tickets;
          serving = get_or-set_same s.words 1 n 0 (omega arith) ∙ next _ r.passed r.serving;
          seats = get_or-set_other s.words 1 2 n 0 (λ e. omega arith) ∙ r.seats ∙ (omega (arith, total-set counts_of s.views id v w at, total-set over_of s.views id v w at));
          limit = omega (arith, total-set counts_of s.views id v w at, limit);
          queue = omega (arith, total-set waits_of s.views id v w at, queue);
          covered = λ x p l. has_set s.views id v w x at (λ _ e. let f = t.0 in absurd (omega arith)) (r.covered x (omega arith) l);
          tally = record {
            appended = get_or-set_other s.words 1 3 n 0 (λ e. omega arith) ∙ l.appended ∙ (omega (arith, ta));
            committed = get_or-set_other s.words 1 4 n 0 (λ e. omega arith) ∙ l.committed ∙ (omega (arith, tc));
            journal = omega (arith, l.journal, ta, tg, g.0, oj, more_entries);
            commits = omega (arith, l.commits, tc, ts, g.1, oc, more_commits);
            long = omega (arith, l.long, tg, g.0, oj, more_entries);
            high = omega (arith, l.high, ts, g.1, oc, more_commits);
          };
          each = each_set (λ j u. Fits j₀ c₀ r.drawn (r.passed + 1) (shows y) u) s.views id w fits (λ j u other e. let f = r.each j u e in record {
            waits_below = f.waits_below;
            over_below = f.over_below;
            holds_below = f.holds_below;
            alone_below = f.alone_below;
            queued = λ a. let k = f.queued a in let ne = others j u other e a in (omega (arith, k.0, ne), k.1);
            turn = λ a. let z = idle j u other e in absurd (omega (arith, z, a));
            behind = λ a x k. higher x (f.behind a x k);
            from = f.from;
            at_rest = f.at_rest;
            listed = f.listed;
            gone = f.gone;
          });
          pairs = pairs_set s.views id w r.pairs
              record { apart = λ a. absurd (omega arith); chain = λ _ _ x z kx kz. inl (subst (λ (p : Seen × Seen). IsBefore p.0 p.1) (λ i. (sym (knows_seen own' alone (shows y) x kx) i, sym (knows_seen own' alone (shows y) z kz) i)) (before_refl (shows y))); only = λ _ _. refl }
              after;
          home = inl (y, back, refl, each_set (λ j u. u.holds ≡ 0) s.views id w refl idle);
        },
        refl,
      )
    where
      back : set s.homes 0 (some (Some y)) ≡ some (Some y) ∷ []
      back = ⊎_elim (λ (h : AtHome shows s.homes r.top s.views). ap (λ (hs : Homes). set hs 0 (some (Some y))) h.1) (λ (h : IsOut shows s.homes s.views). ap (λ (hs : Homes). set hs 0 (some (Some y))) h.0) r.home
