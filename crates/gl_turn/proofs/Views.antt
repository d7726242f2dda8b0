-- The views, of which one changes or one joins.
use Rattle.std.proofs.Common.{◌≡◌, ◌≢◌, ℕ, zero, suc, ◌+◌, ◌-◌, ◌%◌, ◌<◌, List, [], ◌∷◌, ◌++◌, length, set, get_or, refl, sym, ap, ◌∙◌, subst, ⊎_elim, arith}
use mathlib.Core.Option.{some, some-injective, some-ne-none}
use mathlib.Core.Logic.{dite}
use native.Mathlib.Decide.{ℕ_discrete}
use native.Mathlib.Nat.{mod-add-mod, mod-eq_of_lt}
use lib.ListN.{get_elem?}
use Rattle.atomic_table.proofs.Lists.{at_set, at_snoc, set_else}
use Rattle.gl_turn.specs.declared.seen.Seen.{Seen}
use Rattle.gl_turn.specs.declared.view.Own.{Own}
use Rattle.gl_turn.specs.declared.view.View.{View}
use Rattle.gl_turn.specs.Own.{numbers_from}
use Rattle.gl_turn.specs.Rule.{Agree, Fits, HasTicket, Knows, Tallies, appends_of, commits_of, gained_of, settled_of, total}
use Rattle.gl_turn.specs.Steps.{alone_after}
use Rattle.gl_turn.specs.Views.{outside}
use Rattle.gl_turn.proofs.Sums.{total-set}

abbrev pub M : ℕ
M = 18446744073709551616

-- a fact of each view, after one has changed
pub each_set : (P : ℕ → View → Type 0) (views : List View) (id : ℕ) (w : View) → P id w → ((j : ℕ) (u : View) → j ≢ id → get_elem? views j ≡ some u → P j u) → (j : ℕ) (u : View) → get_elem? (set views id w) j ≡ some u → P j u
each_set P views id w mine others j u e =
    ⊎_elim
    (λ (x : (j ≡ id) × (w ≡ u)). subst (λ (y : ℕ × View). P y.0 y.1) (λ i. (sym x.0 i, x.1 i)) mine)
    (λ (x : (j ≢ id) × (get_elem? views j ≡ some u)). others j u x.0 x.1)
    (at_set views id j w u e)

abbrev pub AllAgree : List View → Type 0
AllAgree views = (i j : ℕ) (u v : View) → get_elem? views i ≡ some u → get_elem? views j ≡ some v → Agree i j u v

pub pairs_set : (views : List View) (id : ℕ) (w : View) → AllAgree views → Agree id id w w → ((j : ℕ) (u : View) → j ≢ id → get_elem? views j ≡ some u → Agree id j w u × Agree j id u w) → AllAgree (set views id w)
pairs_set views id w old self beside i j u v ei ej =
    each_set (λ i u. (j : ℕ) (v : View) → get_elem? (set views id w) j ≡ some v → Agree i j u v) views id w
    (each_set (λ j v. Agree id j w v) views id w self (λ j v apart e. (beside j v apart e).0))
    (λ i u apart e. each_set (λ j v. Agree i j u v) views id w (beside i u apart e).1 (λ j v _ e'. old i j u v e e'))
    i u ei j v ej

pub there : (l : List View) (i : ℕ) (a b : View) → get_elem? l i ≡ some a → get_elem? (set l i b) i ≡ some b
there [] i a b e = absurd (some-ne-none a (sym e))
there (x ∷ xs) zero a b e = refl
there (x ∷ xs) (suc i) a b e = there xs i a b e

pub each_snoc : (P : ℕ → View → Type 0) (views : List View) (w : View) → ((j : ℕ) → P j w) → ((j : ℕ) (u : View) → get_elem? views j ≡ some u → P j u) → (j : ℕ) (u : View) → get_elem? (views ++ w ∷ []) j ≡ some u → P j u
each_snoc P views w mine others j u e = ⊎_elim (λ (x : get_elem? views j ≡ some u). others j u x) (λ (x : w ≡ u). subst (P j) x (mine j)) (at_snoc views w u j e)

-- the view w knows no more than v, and has no ticket that v hasn't
abbrev pub Tamer : View → View → Type 0
Tamer w v = (0 < w.waits → (0 < v.waits) × (w.ticket ≡ v.ticket)) × (0 < v.counts) × ((x : Seen) → Knows w x → Knows v x) × (0 < w.alone → 0 < v.alone)

tame_self : (views : List View) → AllAgree views → (id : ℕ) (v w : View) → get_elem? views id ≡ some v → Tamer w v → Agree id id w w
tame_self views all id v w at t = record { apart = λ _ _ _. refl; chain = λ _ _ x y kx ky. (all id id v v at at).chain t.1 t.1 x y (t.2 x kx) (t.2 y ky); only = λ _ _. refl }

tame_beside : (views : List View) → AllAgree views → (id : ℕ) (v w : View) → get_elem? views id ≡ some v → Tamer w v → (j : ℕ) (u : View) → j ≢ id → get_elem? views j ≡ some u → Agree id j w u × Agree j id u w
tame_beside views all id v w at t j u other e = (
  record {
    apart = λ a b same. let old = t.0 a in (all id j v u at e).apart old.0 b (sym old.1 ∙ same);
    chain = λ _ b x y kx ky. (all id j v u at e).chain t.1 b x y (t.2 x kx) ky;
    only = λ a b. (all id j v u at e).only (t.3 a) b;
  },
  record {
    apart = λ a b same. let old = t.0 b in (all j id u v e at).apart a old.0 (same ∙ old.1);
    chain = λ a _ x y kx ky. (all j id u v e at).chain a t.1 x y kx (t.2 y ky);
    only = λ a _. (all j id u v e at).only a t.1;
  },
)

pub tame_pairs : (views : List View) → AllAgree views → (id : ℕ) (v w : View) → get_elem? views id ≡ some v → Tamer w v → AllAgree (set views id w)
tame_pairs views all id v w at t = pairs_set views id w all (tame_self views all id v w at t) (tame_beside views all id v w at t)

pub fits_more : (j c drawn passed : ℕ) (top : Seen) (v : View) → Fits j c drawn passed top v → Fits j c (drawn + 1) passed top v
fits_more j c drawn passed top v f = record {
  waits_below = f.waits_below;
  over_below = f.over_below;
  holds_below = f.holds_below;
  alone_below = f.alone_below;
  queued = λ a. let q = f.queued a in (q.0, omega (arith, q.1));
  turn = f.turn;
  behind = f.behind;
  from = f.from;
  at_rest = f.at_rest;
  listed = f.listed;
  gone = f.gone;
}

-- a ticket that another seat has, and one that a seat keeps
pub has_set : (views : List View) (id : ℕ) (v w : View) (t : ℕ) → get_elem? views id ≡ some v → (0 < v.waits → v.ticket ≡ t → (0 < w.waits) × (w.ticket ≡ t)) → HasTicket views t → HasTicket (set views id w) t
has_set views id v w t at still h = dite (ℕ_discrete h.0 id)
    (λ e. let is : v ≡ h.1 = some-injective v h.1 (sym at ∙ ap (get_elem? views) (sym e) ∙ h.2) in let k = still (subst (λ (u : View). 0 < u.waits) (sym is) h.3) (ap (λ (u : View). u.ticket) is ∙ h.4) in (id, w, there views id v w at, k.0, k.1))
    (λ n. (h.0, h.1, set_else views id h.0 w n ∙ h.2, h.3, h.4))

-- the words of the appends and commits, where no sum changes
pub tally_moves : (j c : ℕ) (top : Seen) (words words' : List ℕ) (views views' : List View) → Tallies j c top words views → get_or words' 3 0 ≡ get_or words 3 0 → get_or words' 4 0 ≡ get_or words 4 0
    → total appends_of views' ≡ total appends_of views → total commits_of views' ≡ total commits_of views → total gained_of views' ≡ total gained_of views → total settled_of views' ≡ total settled_of views → Tallies j c top words' views'
tally_moves j c top words words' views views' t w3 w4 a k g d = record {
  appended = w3 ∙ t.appended ∙ sym a;
  committed = w4 ∙ t.committed ∙ sym k;
  journal = omega (arith, t.journal, a, g);
  commits = omega (arith, t.commits, k, d);
  long = omega (arith, t.long, g);
  high = omega (arith, t.high, d);
}

pub tally_set : (j c : ℕ) (top : Seen) (words words' : List ℕ) (views : List View) (id : ℕ) (v w : View) → get_elem? views id ≡ some v → Tallies j c top words views → get_or words' 3 0 ≡ get_or words 3 0 → get_or words' 4 0 ≡ get_or words 4 0
    → w.own.appends ≡ v.own.appends → w.own.commits ≡ v.own.commits → w.gained ≡ v.gained → w.settled ≡ v.settled → Tallies j c top words' (set views id w)
tally_set j c top words words' views id v w at t w3 w4 a k g d = tally_moves j c top words words' views (set views id w) t w3 w4
    (omega (arith, total-set appends_of views id v w at, a)) (omega (arith, total-set commits_of views id v w at, k)) (omega (arith, total-set gained_of views id v w at, g)) (omega (arith, total-set settled_of views id v w at, d))

pub at_or : (l : List ℕ) (i a : ℕ) → get_elem? l i ≡ some a → get_or l i 0 ≡ a
at_or [] i a e = absurd (some-ne-none a (sym e))
at_or (x ∷ xs) zero a e = some-injective x a e
at_or (x ∷ xs) (suc i) a e = at_or xs i a e

pub length-numbers_from : (n k : ℕ) → length (numbers_from n k) ≡ k
length-numbers_from n zero = refl
length-numbers_from n (suc k) = ap suc (length-numbers_from (n + 1) k)

-- the next ticket, or the next turn, as the word has it
pub next : (n m : ℕ) → n ≡ m % M → (n + 1) % M ≡ (m + 1) % M
next n m e = ap (λ (k : ℕ). (k + 1) % M) e ∙ mod-add-mod m M 1

pub small : (n : ℕ) → n < M → n % M ≡ n
small n h = mod-eq_of_lt h

pub down : (n : ℕ) → 0 < n → n < M → (n + 18446744073709551615) % M ≡ n - 1
down n pos fits = omega arith

pub knows_seen : (own : Own) (alone : ℕ) (seen x : Seen) → Knows (outside own alone seen) x → x ≡ seen
knows_seen own alone seen x k = ⊎_elim (λ (e : x ≡ seen). e) (λ (e : x ≡ seen). e) k

pub alone_after_other : (n before : ℕ) → n ≢ 1 → alone_after n before ≡ before
alone_after_other zero before ne = refl
alone_after_other (suc zero) before ne = absurd (ne refl)
alone_after_other (suc (suc n)) before ne = refl
