-- A seat that is split off, and one that is joined away, keep the rule.
use Rattle.std.proofs.Common.{◌≡◌, ◌⊎◌, ℕ, ◌<◌, List, [], ◌∷◌, ◌++◌, set, refl, sym, ◌∙◌, inl, inr, ⊎_elim, arith, Option, length-append}
use mathlib.Core.Option.{some, none, some-injective, some-ne-none}
use mathlib.Core.Option as maybe
use lib.ListN.{get_elem?}
use Rattle.atomic_table.specs.Table.{State, Me, Splits, Joins}
use Rattle.atomic_table.proofs.Lists.{at_longer, set_else}
use Rattle.gl_turn.specs.declared.seen.Seen.{Seen}
use Rattle.gl_turn.specs.declared.view.Own.{Own}
use Rattle.gl_turn.specs.declared.view.View.{View}
use Rattle.gl_turn.specs.Own.{added, fresh}
use Rattle.gl_turn.specs.Rule.{Agree, AtHome, Fits, InOrder, IsKept, IsOut, Knows, appends_of, commits_of, counts_of, gained_of, over_of, settled_of, waits_of}
use Rattle.gl_turn.specs.Views.{double, outside, spent}
use Rattle.gl_turn.proofs.Orders.{in_order_back}
use Rattle.gl_turn.proofs.Sums.{total-append, total-set}
use Rattle.gl_turn.proofs.Views.{each_set, AllAgree, pairs_set, there, each_snoc, tame_pairs, has_set, tally_moves, tally_set}
use Rattle.gl_turn.proofs.Keeping.{home_stays}

module _ {T : Type 0} (shows : T → Seen) (j₀ c₀ : ℕ) where
  abbrev Rule : State (Option T) View → Type 0
  Rule = IsKept shows j₀ c₀

  abbrev Sat : Type 0
  Sat = Me (Option T) View

  abbrev Homes : Type 0
  Homes = List (maybe.Option (Option T))

  pub splits : (id : ℕ) (own : Own) (seen : Seen) → Splits Rule id (double own seen seen) (outside own 0 seen) (outside (fresh own.journalled own.committed) 0 seen)
  splits id own seen s r at =
      let v : View = double own seen seen in let w : View = outside own 0 seen in let new : View = outside (fresh own.journalled own.committed) 0 seen in let vs : List View = set s.views id w in
      let c = total-set counts_of s.views id v w at in let o = total-set over_of s.views id v w at in let t = total-set waits_of s.views id v w at in
      let limit = r.limit in let queue = r.queue in let mine = r.each id v at in
      let fits : Fits j₀ c₀ r.drawn r.passed r.top w = record { waits_below = omega arith; over_below = omega arith; holds_below = omega arith; alone_below = omega arith; queued = λ a. absurd (omega arith); turn = λ a. absurd (omega arith); behind = λ _ x k. mine.behind (omega arith) x k; from = λ _. mine.from (omega arith); at_rest = λ _. (refl, refl); listed = mine.listed; gone = λ a. absurd (omega arith) } in
      let fits' : Fits j₀ c₀ r.drawn r.passed r.top new = record { waits_below = omega arith; over_below = omega arith; holds_below = omega arith; alone_below = omega arith; queued = λ a. absurd (omega arith); turn = λ a. absurd (omega arith); behind = λ _ x k. mine.behind (omega arith) x k; from = λ _. mine.from (omega arith); at_rest = λ _. (refl, refl); listed = refl; gone = λ a. absurd (omega arith) } in
      let tame : AllAgree vs = tame_pairs s.views r.pairs id v w at ((λ a. absurd (omega arith)), omega arith, (λ x k. k), (λ a. absurd (omega arith))) in
      let here = there s.views id v w at in
      let beside : (i j : ℕ) (u : View) → get_elem? vs i ≡ some u → (0 < u.alone → ⊥) → Agree i j u new × Agree j i new u = λ i j u e shy. (
        record { apart = λ _ a. absurd (omega arith); chain = λ a _ x y kx ky. (tame i id u w e here).chain a (omega arith) x y kx ky; only = λ a _. absurd (shy a) },
        record { apart = λ a. absurd (omega arith); chain = λ _ b x y kx ky. (tame id i w u here e).chain (omega arith) b x y kx ky; only = λ a. absurd (omega arith) },
      ) in
      let shy : (i : ℕ) (u : View) → get_elem? vs i ≡ some u → 0 < u.alone → ⊥ = λ i u e. each_set (λ i u. 0 < u.alone → ⊥) s.views id w (λ a. omega arith) (λ i u other e a. other ((r.pairs i id u v e at).only a (omega arith))) i u e in
      let self : (i j : ℕ) → Agree i j new new = λ i j. record { apart = λ a. absurd (omega arith); chain = λ _ _ x y kx ky. (tame id id w w here here).chain (omega arith) (omega arith) x y kx ky; only = λ a. absurd (omega arith) } in
      record {
        drawn = r.drawn;
        passed = r.passed;
        top = r.top;
        wide = r.wide;
        tickets = r.tickets;
        serving = r.serving;
        seats = r.seats ∙ (omega (arith, c, o, total-append counts_of vs (new ∷ []), total-append over_of vs (new ∷ [])));
        limit = omega (arith, c, limit, total-append counts_of vs (new ∷ []));
        queue = omega (arith, t, queue, total-append waits_of vs (new ∷ []));
        covered = λ x p l. let h = has_set s.views id v w x at (λ a. absurd (omega arith)) (r.covered x p l) in (h.0, h.1, at_longer vs (new ∷ []) h.0 h.1 h.2, h.3, h.4);
        tally = tally_moves j₀ c₀ r.top s.words s.words vs (vs ++ new ∷ []) (tally_set j₀ c₀ r.top s.words s.words s.views id v w at r.tally refl refl refl refl refl refl) refl refl
            (omega (arith, total-append appends_of vs (new ∷ []))) (omega (arith, total-append commits_of vs (new ∷ []))) (omega (arith, total-append gained_of vs (new ∷ []))) (omega (arith, total-append settled_of vs (new ∷ [])));
        each = each_snoc (λ j u. Fits j₀ c₀ r.drawn r.passed r.top u) vs new (λ _. fits') (each_set (λ j u. Fits j₀ c₀ r.drawn r.passed r.top u) s.views id w fits (λ j u _ e. r.each j u e));
        pairs = λ i j u z ei ej. each_snoc (λ i u. (j : ℕ) (z : View) → get_elem? (vs ++ new ∷ []) j ≡ some z → Agree i j u z) vs new
            (λ i j z e. each_snoc (λ j z. Agree i j new z) vs new (λ j. self i j) (λ j z e'. (beside j i z e' (shy j z e')).1) j z e)
            (λ i u e j z e'. each_snoc (λ j z. Agree i j u z) vs new (λ j. (beside i j u e (shy i u e)).0) (λ j z e''. tame i j u z e e'') j z e')
            i u ei j z ej;
        home = home_snoc s.homes r.top vs new refl (home_stays shows j₀ c₀ s.homes r.top s.views id v w at refl r.home);
      }
    where
      home_snoc : (homes : Homes) (top : Seen) (views : List View) (w : View) → w.holds ≡ 0 → AtHome shows homes top views ⊎ IsOut shows homes views → AtHome shows homes top (views ++ w ∷ []) ⊎ IsOut shows homes (views ++ w ∷ [])
      home_snoc homes top views w none_held home = ⊎_elim
          (λ (h : AtHome shows homes top views). inl (h.0, h.1, h.2, each_snoc (λ j u. u.holds ≡ 0) views w (λ _. none_held) h.3))
          (λ (h : IsOut shows homes views). inr (h.0, (h.1.0, h.1.1, at_longer views (w ∷ []) h.1.0 h.1.1 h.1.2, h.1.3)))
          home

  pub joins : (id : ℕ) (own : Own) (alone other : ℕ) (own' : Own) (alone' : ℕ) (seen told : Seen) → Joins Rule id (outside own alone seen) other (outside own' alone' told) (double (added own own') seen told) spent
  joins id own alone other own' alone' seen told s r at apart e' =
      let v : View = outside own alone seen in let w : View = double (added own own') seen told in let u : View = outside own' alone' told in let vs : List View = set s.views id w in
      let e : get_elem? s.views other ≡ some u = sym (set_else s.views id other w apart) ∙ e' in
      let c = total-set counts_of s.views id v w at in let o = total-set over_of s.views id v w at in let t = total-set waits_of s.views id v w at in
      let c' = total-set counts_of vs other u spent e' in let o' = total-set over_of vs other u spent e' in let t' = total-set waits_of vs other u spent e' in
      let a = total-set appends_of s.views id v w at in let a' = total-set appends_of vs other u spent e' in let k = total-set commits_of s.views id v w at in let k' = total-set commits_of vs other u spent e' in
      let g = total-set gained_of s.views id v w at in let g' = total-set gained_of vs other u spent e' in let d = total-set settled_of s.views id v w at in let d' = total-set settled_of vs other u spent e' in
      let limit = r.limit in let queue = r.queue in let mine = r.each id v at in let theirs = r.each other u e in
      let from : (x : Seen) → Knows w x → Knows v x ⊎ Knows u x = λ x k. ⊎_elim (λ (f : x ≡ seen). inl (inl f)) (λ (f : x ≡ told). inr (inl f)) k in
      let chain : (j : ℕ) (z : View) → get_elem? s.views j ≡ some z → 0 < z.counts → (x y : Seen) → Knows w x → Knows z y → InOrder x y = λ j z ej b x y kx ky.
      ⊎_elim (λ (k : Knows v x). (r.pairs id j v z at ej).chain (omega arith) b x y k ky) (λ (k : Knows u x). (r.pairs other j u z e ej).chain (omega arith) b x y k ky) (from x kx) in
      let self : (x y : Seen) → Knows w x → Knows w y → InOrder x y = λ x y kx ky. ⊎_elim (λ (k : Knows v y). chain id v at (omega arith) x y kx k) (λ (k : Knows u y). chain other u e (omega arith) x y kx k) (from y ky) in
      let fits : Fits j₀ c₀ r.drawn r.passed r.top w = record {
        waits_below = omega arith;
        over_below = omega arith;
        holds_below = omega arith;
        alone_below = omega arith;
        queued = λ a. absurd (omega arith);
        turn = λ a. absurd (omega arith);
        behind = λ _ x k. ⊎_elim (λ (f : Knows v x). mine.behind (omega arith) x f) (λ (f : Knows u x). theirs.behind (omega arith) x f) (from x k);
        from = λ _. mine.from (omega arith);
        at_rest = λ _. (refl, refl);
        listed = length-append own.positions own'.positions ∙ (omega (arith, mine.listed, theirs.listed));
        gone = λ a. absurd (omega arith);
      } in
      let gone : Fits j₀ c₀ r.drawn r.passed r.top spent = record { waits_below = omega arith; over_below = omega arith; holds_below = omega arith; alone_below = omega arith; queued = λ a. absurd (omega arith); turn = λ a. absurd (omega arith); behind = λ a. absurd (omega arith); from = λ a. absurd (omega arith); at_rest = λ _. (refl, refl); listed = refl; gone = λ _. (refl, refl) } in
      let both : AllAgree vs = pairs_set s.views id w r.pairs record { apart = λ _ _ _. refl; chain = λ _ _. self; only = λ _ _. refl }
      (λ j z _ ej. (
        record { apart = λ a. absurd (omega arith); chain = λ _ b. chain j z ej b; only = λ a. absurd (omega arith) },
        record { apart = λ _ a. absurd (omega arith); chain = λ b _ x y kx ky. in_order_back y x (chain j z ej b y x ky kx); only = λ a _. (r.pairs j id z v ej at).only a (omega arith) },
      )) in
      record {
        drawn = r.drawn;
        passed = r.passed;
        top = r.top;
        wide = r.wide;
        tickets = r.tickets;
        serving = r.serving;
        seats = r.seats ∙ (omega (arith, c, o, c', o'));
        limit = omega (arith, c, c', limit);
        queue = omega (arith, t, t', queue);
        covered = λ x p l. has_set vs other u spent x e' (λ a. absurd (omega arith)) (has_set s.views id v w x at (λ a. absurd (omega arith)) (r.covered x p l));
        tally = tally_moves j₀ c₀ r.top s.words s.words s.views (set vs other spent) r.tally refl refl (omega (arith, a, a')) (omega (arith, k, k')) (omega (arith, g, g')) (omega (arith, d, d'));
        each = each_set (λ j z. Fits j₀ c₀ r.drawn r.passed r.top z) vs other spent gone (λ j z _ ej. each_set (λ j z. Fits j₀ c₀ r.drawn r.passed r.top z) s.views id w fits (λ j z _ ej. r.each j z ej) j z ej);
        pairs = pairs_set vs other spent both record { apart = λ _ _ _. refl; chain = λ a. absurd (omega arith); only = λ _ _. refl }
            (λ j z _ ej. (record { apart = λ a. absurd (omega arith); chain = λ a. absurd (omega arith); only = λ a. absurd (omega arith) }, record { apart = λ _ a. absurd (omega arith); chain = λ _ a. absurd (omega arith); only = λ _ a. absurd (omega arith) }));
        home = home_stays shows j₀ c₀ s.homes r.top vs other u spent e' refl (home_stays shows j₀ c₀ s.homes r.top s.views id v w at refl r.home);
      }
