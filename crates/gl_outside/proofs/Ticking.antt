-- What a clock gives leaves its list, or is its last moment.
use Rattle.std.proofs.Common.{◌≡◌, ◌⊎◌, ℕ, List, [], ◌∷◌, ◌++◌, length, Option, None, Some, refl, sym, ap, ◌∙◌, subst, inl, inr, ⊎_elim, arith, append_assoc}
use Rattle.std.specs.Prelude.{Contains}
use Rattle.std.proofs.lemmas.List.Elements.{Contains-append_left, Contains-append_right}
use Rattle.gl_outside.specs.Clocks.{Moments, Ticks, Gave, after}

-- of three lists the first loses some to the second, and the second to the third
abbrev Lost : List ℕ → List ℕ → ℕ → Type 0
Lost before now moment = (gone : List ℕ) × (before ≡ gone ++ now) × Contains gone moment

tick_gave : (left : List ℕ) (last : ℕ) → Lost left (after left last).left (after left last).last ⊎ (((after left last).left ≡ []) × ((after left last).last ≡ (after left last).last))
tick_gave [] last = inr (refl, refl)
tick_gave (moment ∷ later) last = inl (moment ∷ [], refl, (0, omega arith, refl))

abbrev Given : List ℕ → Moments → ℕ → Type 0
Given before n x = Lost before n.left x ⊎ ((n.left ≡ []) × (x ≡ n.last))

gave_tick : (before left : List ℕ) (last x : ℕ) → Given before (record { left = left; last = last }) x → Given before (after left last) x
gave_tick before [] last x g = g
gave_tick before (y ∷ ys) last x g = ⊎_elim
    (λ (l : Lost before (y ∷ ys) x). inl (l.0 ++ y ∷ [], l.1 ∙ sym (append_assoc l.0 (y ∷ []) ys), Contains-append_left l.0 (y ∷ []) x l.2))
    (λ (e : ((y ∷ ys) ≡ []) × (x ≡ last)). absurd (omega (arith, ap length e.0)))
    g

tick_gave_on : (left : List ℕ) (last : ℕ) (n : Moments) (x : ℕ) → Given (after left last).left n x → Given left n x
tick_gave_on [] last n x g = g
tick_gave_on (y ∷ ys) last n x g = ⊎_elim
    (λ (l : Lost ys n.left x). inl (y ∷ l.0, ap (λ (zs : List ℕ). y ∷ zs) l.1, Contains-append_right (y ∷ []) l.0 x l.2))
    (λ (e : (n.left ≡ []) × (x ≡ n.last)). inr e)
    g

pub one_tick : (before now : Option Moments) (moment : ℕ) → Ticks before now moment → Gave before now moment
one_tick None now moment t = tt
one_tick (Some m) None moment t = t
one_tick (Some m) (Some n) moment t = subst (λ (x : ℕ). Given m.left n x) (sym t.1) (subst (λ (z : Moments). Given m.left z z.last) (sym t.0) (tick_gave m.left m.last))

pub gave_earlier : (before middle now : Option Moments) (moment later : ℕ) → Gave before middle moment → Ticks middle now later → Gave before now moment
gave_earlier None middle now moment later g t = tt
gave_earlier (Some m) None now moment later g t = absurd g
gave_earlier (Some m) (Some n) None moment later g t = t
gave_earlier (Some m) (Some n) (Some o) moment later g t = subst (λ (z : Moments). Given m.left z moment) (sym t.0) (gave_tick m.left n.left n.last moment g)

pub gave_later : (before middle now : Option Moments) (earlier moment : ℕ) → Ticks before middle earlier → Gave middle now moment → Gave before now moment
gave_later None middle now earlier moment t g = tt
gave_later (Some m) None now earlier moment t g = absurd t
gave_later (Some m) (Some n) None earlier moment t g = g
gave_later (Some m) (Some n) (Some o) earlier moment t g = tick_gave_on m.left m.last o moment (subst (λ (z : Moments). Given z.left o moment) t.0 g)
