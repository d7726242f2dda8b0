-- Sections, and what follows them: what is read there, and what is read again.
use Rattle.std.proofs.Common.{◌≡◌, ℕ, suc, ◌+◌, ◌<◌, Bool, true, false, not, cond, eqb, nat_lt, List, [], ◌∷◌, ◌++◌, length, get_or, take, drop, refl, ap, subst, ◌∙◌, arith}
use Rattle.std.specs.Prelude.{Option, Some, None}
use Rattle.std.specs.List.{prefix_len, list_all, position_or_len, before_first, after_first}
use Rattle.std.proofs.lemmas.Bool.{eqb-true}
use Rattle.std.proofs.lemmas.List.{length-append}
use Rattle.std.proofs.lemmas.List.Sums.{split_at_first, prefix_len_stops}
use Rattle.std.proofs.Math.Seq.{take-append_seam, drop-append-add}
use Rattle.gl_syslogtext.specs.Sections.{◌>>=◌, split}
use Rattle.gl_syslogtext.specs.Rfc5424.{has_none, IsSection, up_to}
use Rattle.std.proofs.lemmas.Bool.{and_parts as and_both, and_from as and_holds}

pub bind_ok : {A B : Type 0} (o : Option A) (f : A → Option B) (y : B) → (o >>= f) ≡ Some y → (x : A) × (o ≡ Some x) × (f x ≡ Some y)
bind_ok None f y h = absurd cc
bind_ok (Some x) f y h = (x, refl, h)

pub bind_then : {A B P : Type 0} (o : Option A) (f : A → Option B) (y : B) → (o >>= f) ≡ Some y → ((x : A) → o ≡ Some x → f x ≡ Some y → P) → P
bind_then None f y h go = absurd cc
bind_then (Some x) f y h go = go x refl h

pub some_is : {A : Type 0} (x y : A) → Some x ≡ Some y → x ≡ y
some_is x y h = cc

pub guard_ok : {A : Type 0} (t : Bool) (x y : A) → cond t (Some x) None ≡ Some y → (t ≡ true) × (x ≡ y)
guard_ok true x y h = (refl, some_is x y h)
guard_ok false x y h = absurd cc

pub prefix_passes : (p : ℕ → Bool) (xs : List ℕ) → list_all p (take (prefix_len p xs) xs) ≡ true
prefix_passes p [] = refl
prefix_passes p (x ∷ xs) = passes_step (p x) p x xs refl (prefix_passes p xs)
  where
    passes_step : (t : Bool) (p : ℕ → Bool) (x : ℕ) (xs : List ℕ) → p x ≡ t → list_all p (take (prefix_len p xs) xs) ≡ true → list_all p (take (prefix_len p (x ∷ xs)) (x ∷ xs)) ≡ true
    passes_step true p x xs e h =
        let one : prefix_len p (x ∷ xs) ≡ suc (prefix_len p xs) = rw e (omega arith) in
        rw one (and_holds (p x) (list_all p (take (prefix_len p xs) xs)) e h)
    passes_step false p x xs e h =
        let none : prefix_len p (x ∷ xs) ≡ 0 = rw e refl in
        rw none refl

pub prefix_seam : (p : ℕ → Bool) (xs : List ℕ) (y : ℕ) (ys : List ℕ) → list_all p xs ≡ true → p y ≡ false → prefix_len p (xs ++ y ∷ ys) ≡ length xs
prefix_seam p [] y ys all stop = rw stop refl
prefix_seam p (x ∷ xs) y ys all stop =
    let both = and_both (p x) (list_all p xs) all in
    let rest = prefix_seam p xs y ys both.1 stop in
    let one : prefix_len p (x ∷ (xs ++ y ∷ ys)) ≡ 1 + prefix_len p (xs ++ y ∷ ys) = rw both.0 refl in
    one ∙ omega (arith, rest)

pub split_again : (c : ℕ) (a b : List ℕ) → has_none c a ≡ true → split c (up_to a c b) ≡ Some (a, b)
split_again c a b none =
    let stop : not (eqb c c) ≡ false = grind arith in
    let n : position_or_len (λ (x : ℕ). eqb x c) (a ++ c ∷ b) ≡ length a = prefix_seam (λ (x : ℕ). not (eqb x c)) a c b none stop in
    let longer : length a < length (a ++ c ∷ b) = omega (arith, length-append a (c ∷ b)) in
    let within : nat_lt (length a) (length (a ++ c ∷ b)) ≡ true = grind arith in
    let front : take (length a) (a ++ c ∷ b) ≡ a = take-append_seam a (c ∷ b) in
    let back : drop (length a + 1) (a ++ c ∷ b) ≡ b = drop-append-add a (c ∷ b) 1 in
    rw (n, within, front, back) refl

pub split_sound : (c : ℕ) (text : List ℕ) (front : List ℕ × List ℕ) → split c text ≡ Some front → (text ≡ up_to front.0 c front.1) × (has_none c front.0 ≡ true)
split_sound c text front h =
    let p = λ (x : ℕ). eqb x c in
    let n = position_or_len p text in
    let g = guard_ok (nat_lt n (length text)) (before_first p text, after_first p text) front h in
    let within : n < length text = grind arith in
    let stop : not (eqb (get_or text n 0) c) ≡ false = prefix_len_stops (λ (x : ℕ). not (eqb x c)) text 0 within in
    let at : get_or text n 0 ≡ c = eqb-true (get_or text n 0) c (grind arith) in
    let whole : text ≡ before_first p text ++ (get_or text n 0 ∷ after_first p text) = split_at_first p text 0 within in (
      whole ∙ ap (λ (x : ℕ). before_first p text ++ (x ∷ after_first p text)) at ∙ ap (λ (f : List ℕ × List ℕ). up_to f.0 c f.1) g.1,
      subst (λ (f : List ℕ × List ℕ). has_none c f.0 ≡ true) g.1 (prefix_passes (λ (x : ℕ). not (eqb x c)) text),
    )

-- a section up to the byte that ends it
unfoldable pub section_at : {A : Type 0} → ℕ → (List ℕ → Option A) → List ℕ → Option (A × List ℕ)
section_at c of text = split c text >>= λ front. of front.0 >>= λ x. Some (x, front.1)

pub section_again : {A : Type 0} (c : ℕ) (of : List ℕ → Option A) (text : List ℕ) (x : A) (rest : List ℕ) → IsSection c of text x → section_at c of (up_to text c rest) ≡ Some (x, rest)
unfolding section_at
section_again c of text x rest h =
    ap (λ (o : Option (List ℕ × List ℕ)). o >>= λ front. of front.0 >>= λ y. Some (y, front.1)) (split_again c text rest h.none)
    ∙ ap (λ (o : Option _). o >>= λ y. Some (y, rest)) h.is

pub record Section {A : Type 0} (c : ℕ) (of : List ℕ → Option A) (text : List ℕ) (x : A) (rest : List ℕ) : Type 0 where
  pub section : List ℕ
  pub whole : text ≡ up_to section c rest
  pub is : IsSection c of section x

pub section_sound : {A : Type 0} (c : ℕ) (of : List ℕ → Option A) (text : List ℕ) (x : A × List ℕ) → section_at c of text ≡ Some x → Section c of text x.0 x.1
unfolding section_at
section_sound c of text x h =
    let f = bind_ok (split c text) (λ (front : List ℕ × List ℕ). of front.0 >>= λ y. Some (y, front.1)) x h in
    let g = bind_ok (of f.0.0) (λ y. Some (y, f.0.1)) x f.2 in
    let same = some_is (g.0, f.0.1) x g.2 in
    let cut = split_sound c text f.0 f.1 in
    record {
      section = f.0.0;
      whole = cut.0 ∙ ap (λ (y : _ × List ℕ). up_to f.0.0 c y.1) same;
      is = record { none = cut.1; is = g.1 ∙ ap (λ (y : _ × List ℕ). Some y.0) same };
    }
