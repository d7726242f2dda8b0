-- The steps on the count of seats keep the rule.
use Rattle.std.proofs.Common.{◌≡◌, ◌≢◌, ℕ, ◌+◌, ◌%◌, ◌<◌, ◌≤◌, List, [], set, get_or, refl, sym, ◌∙◌, subst, inl, inr, ⊎_elim, arith, Option}
use mathlib.Core.Option.{some, none, some-injective, some-ne-none}
use mathlib.Core.Option as maybe
use mathlib.Core.Logic.{dite}
use native.Mathlib.Decide.{dec_le, ℕ_discrete}
use lib.ListN.{get_elem?}
use Rattle.atomic_table.specs.Table.{State, Me, step, keeps, Allows}
use Rattle.gl_turn.specs.declared.seen.Seen.{Seen}
use Rattle.gl_turn.specs.declared.view.Own.{Own}
use Rattle.gl_turn.specs.declared.view.View.{View}
use Rattle.gl_turn.specs.Rule.{Agree, IsKept, IsSeatCount, Knows, counts_of, over_of, total}
use Rattle.gl_turn.specs.Steps.{alone_after, counted, gave_up, later, merged, saw_seats}
use Rattle.gl_turn.specs.Views.{beyond, double, outside}
use Rattle.gl_turn.proofs.Orders.{later_of}
use Rattle.gl_turn.proofs.Sums.{total-set, terms_le}
use Rattle.gl_turn.proofs.Views.{M, AllAgree, pairs_set, there, tame_pairs, small, down, knows_seen, alone_after_other}
use Rattle.gl_turn.proofs.Keeping.{few, recount}

module _ {T : Type 0} (shows : T → Seen) (j₀ c₀ : ℕ) where
  abbrev Rule : State (Option T) View → Type 0
  Rule = IsKept shows j₀ c₀

  abbrev Sat : Type 0
  Sat = Me (Option T) View

  abbrev Homes : Type 0
  Homes = List (maybe.Option (Option T))

  module _ (slots id : ℕ) (own : Own) where
    pub counts_up : (alone : ℕ) (seen : Seen) → Allows Rule slots id (outside own alone seen, []) 2 (λ n. (n + 1) % M) (counted shows (step slots 2 1 0 none) (outside own alone seen, []))
    counts_up alone seen s r _ at _ =
        let v : View = outside own alone seen in let n : ℕ = get_or s.words 2 0 in let seats : n ≡ total counts_of s.views + total over_of s.views = r.seats in let limit = r.limit in let below = (few shows j₀ c₀ s r).1 in
        let up : (n + 1) % M ≡ n + 1 = small (n + 1) (omega (arith, seats, limit, below)) in
        let mine = r.each id v at in let f = mine.from (omega arith) in
        let told : IsSeatCount shows own.journalled own.committed v n = subst (λ (p : ℕ × ℕ). IsSeatCount shows p.0 p.1 v n) (λ i. (sym f.0 i, sym f.1 i)) (s, r, (id, at), seats) in
        dite (dec_le 4611686018427387904 n)
        (λ full. let w : View = beyond own alone seen in let c = total-set counts_of s.views id v w at in let o = total-set over_of s.views id v w at in (
          w,
          keeps,
          tt,
          recount shows j₀ c₀ s r id ((n + 1) % M) v w at refl refl refl refl (omega arith) mine.alone_below (omega arith) (omega arith) refl refl refl (λ x k. k) (tame_pairs s.views r.pairs id v w at ((λ a. absurd (omega arith)), omega arith, (λ x k. k), (λ a. a))) (up ∙ (omega (arith, c, o, seats))) (omega (arith, c, limit)),
          (refl, (λ less. absurd (omega (arith, full, less))), (λ _. refl), told),
        ))
        (λ room. let w : View = double own seen seen in let c = total-set counts_of s.views id v w at in let o = total-set over_of s.views id v w at in (
          w,
          keeps,
          tt,
          recount shows j₀ c₀ s r id ((n + 1) % M) v w at refl refl refl refl (omega arith) (omega arith) (omega arith) (omega arith) refl refl refl (λ x k. k) (tame_pairs s.views r.pairs id v w at ((λ a. absurd (omega arith)), omega arith, (λ x k. k), (λ a. absurd (omega arith)))) (up ∙ (omega (arith, c, o, seats))) (omega (arith, c, room, seats)),
          (refl, (λ _. refl), (λ full. absurd (room full)), told),
        ))

    pub gives_up : (alone : ℕ) (seen : Seen) → Allows Rule slots id (beyond own alone seen, []) 2 (λ n. (n + 18446744073709551615) % M) (gave_up (step slots 2 1 0 none) (beyond own alone seen, []))
    gives_up alone seen s r _ at _ =
        let v : View = beyond own alone seen in let w : View = outside own alone seen in let n : ℕ = get_or s.words 2 0 in let seats : n ≡ total counts_of s.views + total over_of s.views = r.seats in let limit = r.limit in let below = (few shows j₀ c₀ s r).1 in
        let c = total-set counts_of s.views id v w at in let o = total-set over_of s.views id v w at in
        let mine = r.each id v at in
        let one = down n (omega (arith, o, seats)) (omega (arith, seats, limit, below)) in (
          w,
          keeps,
          tt,
          recount shows j₀ c₀ s r id ((n + 18446744073709551615) % M) v w at refl refl refl refl (omega arith) mine.alone_below (omega arith) (omega arith) refl refl refl (λ x k. k) (tame_pairs s.views r.pairs id v w at ((λ a. absurd (omega arith)), omega arith, (λ x k. k), (λ a. a))) (one ∙ (omega (arith, c, o, seats))) (omega (arith, c, limit)),
          refl,
        )

    pub merges : (seen told : Seen) → Allows Rule slots id (double own seen told, []) 2 (λ n. (n + 18446744073709551615) % M) (merged (step slots 2 1 0 none) (double own seen told, []))
    merges seen told s r _ at _ =
        let v : View = double own seen told in let w : View = outside own 0 (later seen told) in let n : ℕ = get_or s.words 2 0 in let seats : n ≡ total counts_of s.views + total over_of s.views = r.seats in let limit = r.limit in let below = (few shows j₀ c₀ s r).1 in
        let c = total-set counts_of s.views id v w at in let o = total-set over_of s.views id v w at in
        let one = down n (omega (arith, c, seats)) (omega (arith, seats, limit, below)) in
        let l = later_of seen told ((r.pairs id id v v at at).chain (omega arith) (omega arith) seen told (inl refl) (inr refl)) in
        let less : (x : Seen) → Knows w x → Knows v x = λ x k. let e = knows_seen own 0 (later seen told) x k in ⊎_elim (λ (f : later seen told ≡ seen). inl (e ∙ f)) (λ (f : later seen told ≡ told). inr (e ∙ f)) l.one in (
          w,
          keeps,
          tt,
          recount shows j₀ c₀ s r id ((n + 18446744073709551615) % M) v w at refl refl refl refl (omega arith) (omega arith) (omega arith) (omega arith) refl refl refl less (tame_pairs s.views r.pairs id v w at ((λ a. absurd (omega arith)), omega arith, less, (λ a. absurd (omega arith)))) (one ∙ (omega (arith, c, o, seats))) (omega (arith, c, limit)),
          (refl, l),
        )

    pub sees_seats : (alone : ℕ) (seen : Seen) → Allows Rule slots id (outside own alone seen, []) 2 (λ n. n) (saw_seats shows (step slots 2 0 0 none) (outside own alone seen, []))
    sees_seats alone seen s r _ at _ =
        let v : View = outside own alone seen in let n : ℕ = get_or s.words 2 0 in let w : View = outside own (alone_after n alone) seen in let seats : n ≡ total counts_of s.views + total over_of s.views = r.seats in let limit = r.limit in
        let mine = r.each id v at in let few_alone = mine.alone_below in
        let c = total-set counts_of s.views id v w at in let o = total-set over_of s.views id v w at in
        let nobody : n ≡ 1 → (j : ℕ) (u : View) → j ≢ id → get_elem? s.views j ≡ some u → u.counts ≡ 0 = λ is j u other e. omega (arith, seats, is, terms_le counts_of s.views id j v u other at e) in
        let old : Agree id id v v = r.pairs id id v v at at in
        let pairs : AllAgree (set s.views id w) = pairs_set s.views id w r.pairs
        record { apart = λ _ _ _. refl; chain = λ a b x y kx ky. old.chain a b x y kx ky; only = λ _ _. refl }
        (λ j u other e. (
          record {
            apart = λ a. absurd (omega arith);
            chain = λ a b x y kx ky. (r.pairs id j v u at e).chain a b x y kx ky;
            only = λ a b. dite (ℕ_discrete n 1)
                (λ is. absurd (omega (arith, b, nobody is j u other e)))
                (λ ne. (r.pairs id j v u at e).only (subst (λ (z : ℕ). 0 < z) (alone_after_other n alone ne) a) b);
          },
          record { apart = λ _ a. absurd (omega arith); chain = λ a b x y kx ky. (r.pairs j id u v e at).chain a b x y kx ky; only = λ a _. (r.pairs j id u v e at).only a (omega arith) },
        )) in
        let most : alone_after n alone ≤ 1 = dite (ℕ_discrete n 1) (λ is. subst (λ (z : ℕ). alone_after z alone ≤ 1) (sym is) (omega arith)) (λ ne. subst (λ (z : ℕ). z ≤ 1) (sym (alone_after_other n alone ne)) few_alone) in
        let after : Rule record { words = set s.words 2 n; homes = s.homes; views = set s.views id w } = recount shows j₀ c₀ s r id n v w at refl refl refl refl (omega arith) most (omega arith) (omega arith) refl refl refl (λ x k. k) pairs (omega (arith, c, o, seats)) (omega (arith, c, limit)) in
        let f = mine.from (omega arith) in (
          w,
          keeps,
          tt,
          after,
          (refl, subst (λ (p : ℕ × ℕ). IsSeatCount shows p.0 p.1 w n) (λ i. (sym f.0 i, sym f.1 i)) (record { words = set s.words 2 n; homes = s.homes; views = set s.views id w }, after, (id, there s.views id v w at), omega (arith, c, o, seats))),
        )
