-- The rule at the beginning, and what it leaves at the end.
use Rattle.std.proofs.Common.{◌≡◌, ◌≢◌, ℕ, zero, suc, ◌+◌, ◌%◌, ◌<◌, ◌≤◌, List, [], ◌∷◌, length, get_or, refl, sym, ap, ◌∙◌, subst, inl, ⊎_elim, arith, Option, Some, None}
use mathlib.Core.Option.{some, none, some-injective, some-ne-none}
use mathlib.Core.Option as maybe
use mathlib.Core.Logic.{dite}
use native.Mathlib.Decide.{ℕ_discrete}
use lib.ListN.{get_elem?}
use Rattle.atomic_table.specs.Table.{State, Me, Step, Act, step, stepped, carried_after, keeps, takes, gives, Allows, Splits, Joins, opening, Final}
use Rattle.atomic_table.specs.Table as table
use Rattle.atomic_table.proofs.Lists.{one_turn}
use Rattle.gl_turn.specs.declared.seen.Seen.{Seen}
use Rattle.gl_turn.specs.declared.view.View.{View}
use Rattle.gl_turn.specs.Order.{IsBefore}
use Rattle.gl_turn.specs.Own.{fresh}
use Rattle.gl_turn.specs.Rule.{Agree, AtHome, Ends, Fits, IsKept, IsOut, appends_of, commits_of, gained_of, settled_of, total, waits_of}
use Rattle.gl_turn.specs.Views.{outside}
use Rattle.gl_turn.proofs.Orders.{before_refl}
use Rattle.gl_turn.proofs.Sums.{term_le, total_zero, total_one}
use Rattle.gl_turn.proofs.Views.{M, AllAgree, at_or, knows_seen}
use Rattle.gl_turn.proofs.Keeping.{few}

module _ {T : Type 0} (shows : T → Seen) (j₀ c₀ : ℕ) where
  abbrev Rule : State (Option T) View → Type 0
  Rule = IsKept shows j₀ c₀

  abbrev Sat : Type 0
  Sat = Me (Option T) View

  abbrev Homes : Type 0
  Homes = List (maybe.Option (Option T))

  none_waits : (views : List View) → total waits_of views ≡ 0 → (j : ℕ) (u : View) → get_elem? views j ≡ some u → u.waits ≡ 0
  none_waits views z j u e = omega (arith, term_le waits_of views j u e, z)

  ends_same : (s : State (Option T) View) (k : Rule s) (id : ℕ) (v : View) → get_elem? s.views id ≡ some v → get_or s.words 0 0 ≡ get_or s.words 1 0 → (y : Option T) → ((x : Option T) → get_elem? s.homes 0 ≡ some (some x) → y ≡ x)
      → (x : T) × (y ≡ Some x) × Ends shows j₀ c₀ id v (Some x)
  ends_same s k id v at e y found =
      let queue = k.queue in let limit = k.limit in let below = (few shows j₀ c₀ s k).0 in
      let same : k.passed ≡ k.drawn = one_turn k.passed k.drawn M (omega (arith, queue)) (omega (arith, queue, below, limit)) (sym k.serving ∙ sym e ∙ k.tickets) in
      let idle : (j : ℕ) (u : View) → get_elem? s.views j ≡ some u → u.waits ≡ 0 = none_waits s.views (omega (arith, queue, same)) in
      ⊎_elim
      (λ (h : AtHome shows s.homes k.top s.views). (h.0, found (Some h.0) (ap (λ (hs : Homes). get_elem? hs 0) h.1), (s, k, at, (h.2, idle))))
      (λ (h : IsOut shows s.homes s.views). let z = idle h.1.0 h.1.1 h.1.2 in let b = (k.each h.1.0 h.1.1 h.1.2).holds_below in let p = h.1.3 in absurd (omega (arith, z, b, p)))
      k.home

  ends_apart : (s : State (Option T) View) (k : Rule s) (id : ℕ) (v : View) → get_elem? s.views id ≡ some v → get_or s.words 0 0 ≢ get_or s.words 1 0 → Ends shows j₀ c₀ id v None
  ends_apart s k id v at n =
      let queue = k.queue in
      let less : k.passed < k.drawn = dite (ℕ_discrete k.passed k.drawn) (λ e. absurd (n (k.tickets ∙ ap (λ (x : ℕ). x % M) (sym e) ∙ sym k.serving))) (λ ne. omega (arith, queue, ne)) in
      (s, k, at, k.covered k.passed (omega arith) less)

  -- what a seat began with is what the lock began with
  from_own : (j c id : ℕ) (v : View) (found : Option T) → 0 < v.counts → v.own.journalled ≡ j → v.own.committed ≡ c → Ends shows j₀ c₀ id v found → Ends shows j c id v found
  from_own j c id v found pos a b e = let f = (e.1.each id v e.2).from pos in subst (λ (p : ℕ × ℕ). Ends shows p.0 p.1 id v found) (λ i. ((sym f.0 ∙ a) i, (sym f.1 ∙ b) i)) e

  -- the lock at its end, by the two words and the slot
  pub closes : (j c id : ℕ) (v : View) (a b : ℕ) (ws : List ℕ) (xs : List (Option T)) (y : Option T) → 0 < v.counts → v.own.journalled ≡ j → v.own.committed ≡ c
      → Final (table.Seen Rule id v) ws xs → get_elem? ws 0 ≡ some a → get_elem? ws 1 ≡ some b → get_elem? xs 0 ≡ some y
      → (a ≡ b → (x : T) × (y ≡ Some x) × Ends shows j c id v (Some x)) × (a ≢ b → Ends shows j c id v None)
  closes j c id v a b ws xs y pos is_j is_c f at0 at1 slot =
      let first = ap (λ (l : List ℕ). get_or l 0 0) f.2 ∙ at_or ws 0 a at0 in let second = ap (λ (l : List ℕ). get_or l 1 0) f.2 ∙ at_or ws 1 b at1 in (
        (λ e. let z = ends_same f.0 f.1.0 id v f.1.1 (first ∙ e ∙ sym second) y (λ x h. some-injective y x (sym slot ∙ f.4 0 x h)) in (z.0, z.1, from_own j c id v (Some z.0) pos is_j is_c z.2)),
        (λ n. from_own j c id v None pos is_j is_c (ends_apart f.0 f.1.0 id v f.1.1 (λ e. n (sym first ∙ e ∙ second)))),
      )

  -- the value at the end comes after all that the seat had seen
  pub end_after : (id : ℕ) (v : View) (x : T) → 0 < v.counts → Ends shows j₀ c₀ id v (Some x) → IsBefore v.seen (shows x)
  end_after id v x pos e = subst (λ (t : Seen). IsBefore v.seen t) (sym e.3.0) ((e.1.each id v e.2).behind pos v.seen (inl refl))

  end_sums : (id : ℕ) (v : View) (x : T) (e : Ends shows j₀ c₀ id v (Some x)) → (length (shows x).journal ≡ j₀ + total appends_of e.0.views) × ((shows x).commits ≡ c₀ + total commits_of e.0.views)
  end_sums id v x e =
      let s = e.0 in let k = e.1 in let t = k.tally in
      let still : (j : ℕ) (u : View) → get_elem? s.views j ≡ some u → u.holds ≡ 0 = λ j u at. omega (arith, (k.each j u at).holds_below, e.3.1 j u at) in
      let g = total_zero gained_of s.views (λ j u at. ((k.each j u at).at_rest (still j u at)).0) in let d = total_zero settled_of s.views (λ j u at. ((k.each j u at).at_rest (still j u at)).1) in
      let o = ap (λ (z : Seen). length z.journal) e.3.0 in let c = ap (λ (z : Seen). z.commits) e.3.0 in
      (omega (arith, t.journal, g, o), omega (arith, t.commits, d, c))

  -- the value at the end has what the seat appended and committed, and just this where the seat is alone
  pub end_counts : (id : ℕ) (v : View) (x : T) → 0 < v.counts → Ends shows j₀ c₀ id v (Some x) → (v.own.journalled + v.own.appends ≤ length (shows x).journal) × (v.own.committed + v.own.commits ≤ (shows x).commits)
  end_counts id v x pos e = let n = end_sums id v x e in let f = (e.1.each id v e.2).from pos in
      (omega (arith, n.0, f.0, term_le appends_of e.0.views id v e.2), omega (arith, n.1, f.1, term_le commits_of e.0.views id v e.2))

  pub end_alone : (id : ℕ) (v : View) (x : T) → 0 < v.counts → 0 < v.alone → Ends shows j₀ c₀ id v (Some x) → (v.own.journalled + v.own.appends ≡ length (shows x).journal) × (v.own.committed + v.own.commits ≡ (shows x).commits)
  end_alone id v x pos alone e =
      let s = e.0 in let k = e.1 in let n = end_sums id v x e in let f = (k.each id v e.2).from pos in
      let nobody : (j : ℕ) (u : View) → j ≢ id → get_elem? s.views j ≡ some u → u.counts ≡ 0 = λ j u other at. dite (ℕ_discrete u.counts 0) (λ z. z) (λ z. absurd (other (sym ((k.pairs id j v u e.2 at).only alone (omega (arith, z)))))) in
      let a = total_one appends_of s.views id v e.2 (λ j u other at. ((k.each j u at).gone (nobody j u other at)).0) in
      let c = total_one commits_of s.views id v e.2 (λ j u other at. ((k.each j u at).gone (nobody j u other at)).1) in
      (omega (arith, n.0, f.0, a), omega (arith, n.1, f.1, c))

module _ {T : Type 0} (shows : T → Seen) (x : T) where
  abbrev J : ℕ
  J = length (shows x).journal

  abbrev C : ℕ
  C = (shows x).commits

  pub begins : J < M → C < M → IsKept shows J C (opening (0 ∷ 0 ∷ 1 ∷ 0 ∷ 0 ∷ []) (Some x ∷ []) (outside (fresh J C) 0 (shows x)))
  begins long high = record {
    drawn = 0;
    passed = 0;
    top = shows x;
    wide = refl;
    tickets = refl;
    serving = refl;
    seats = refl;
    limit = omega arith;
    queue = refl;
    covered = λ t p l. absurd (omega arith);
    tally = record { appended = refl; committed = refl; journal = refl; commits = refl; long = omega (arith, long); high = omega (arith, high) };
    each = one;
    pairs = two;
    home = inl (x, refl, refl, still);
  }
    where
      first : (j : ℕ) (v : View) → get_elem? (outside (fresh J C) 0 (shows x) ∷ []) j ≡ some v → (j ≡ 0) × (outside (fresh J C) 0 (shows x) ≡ v)
      first zero v e = (refl, some-injective _ _ e)
      first (suc j) v e = absurd (some-ne-none v (sym e))

      one : (j : ℕ) (v : View) → get_elem? (outside (fresh J C) 0 (shows x) ∷ []) j ≡ some v → Fits J C 0 0 (shows x) v
      one j v e = subst (Fits J C 0 0 (shows x)) (first j v e).1 record {
        waits_below = omega arith;
        over_below = omega arith;
        holds_below = omega arith;
        alone_below = omega arith;
        queued = λ a. absurd (omega arith);
        turn = λ a. absurd (omega arith);
        behind = λ _ y k. subst (λ (z : Seen). IsBefore z (shows x)) (sym (knows_seen (fresh J C) 0 (shows x) y k)) (before_refl (shows x));
        from = λ _. (refl, refl);
        at_rest = λ _. (refl, refl);
        listed = refl;
        gone = λ a. absurd (omega arith);
      }

      still : (j : ℕ) (v : View) → get_elem? (outside (fresh J C) 0 (shows x) ∷ []) j ≡ some v → v.holds ≡ 0
      still j v e = subst (λ (u : View). u.holds ≡ 0) (first j v e).1 refl

      two : AllAgree (outside (fresh J C) 0 (shows x) ∷ [])
      two i j u v ei ej = subst (λ (p : View × View). Agree i j p.0 p.1) (λ k. ((first i u ei).1 k, (first j v ej).1 k))
          record { apart = λ _ _ _. (first i u ei).0 ∙ sym (first j v ej).0; chain = λ _ _ y z ky kz. inl (subst (λ (p : Seen × Seen). IsBefore p.0 p.1) (λ k. (sym (knows_seen (fresh J C) 0 (shows x) y ky) k, sym (knows_seen (fresh J C) 0 (shows x) z kz) k)) (before_refl (shows x))); only = λ _ _. (first i u ei).0 ∙ sym (first j v ej).0 }
