-- What an order by time keeps.
use Rattle.std.proofs.Common.{◌≡◌, ℕ, zero, suc, Bool, true, false, cond, ℤ, List, [], ◌∷◌, length, map, filter, take, drop, refl, sym, ◌∙◌, ap}
use Rattle.std.specs.Prelude.{int_le}
use Rattle.std.proofs.lemmas.List.{take-map, drop-map, length-map}
use Rattle.gl_pages.specs.declared.ask.Ask.{Ask}
use Rattle.gl_pages.specs.Pages.{put_by, in_order, cut}

put_map : {A B : Type 0} (f : A → B) (number : B → ℤ) (x : A) (ys : List A) → put_by number (f x) (map f ys) ≡ map f (put_by (λ z. number (f z)) x ys)
put_map f number x [] = refl
put_map f number x (y ∷ ys) = over (int_le (number (f x)) (number (f y))) (put_map f number x ys)
  where
    over : (b : Bool) → put_by number (f x) (map f ys) ≡ map f (put_by (λ z. number (f z)) x ys)
        → cond b (f x ∷ (f y ∷ map f ys)) (f y ∷ put_by number (f x) (map f ys)) ≡ map f (cond b (x ∷ (y ∷ ys)) (y ∷ put_by (λ z. number (f z)) x ys))
    over true h = refl
    over false h = ap (λ zs. f y ∷ zs) h

pub in_order-map : {A B : Type 0} (f : A → B) (number : B → ℤ) (xs : List A) → in_order number (map f xs) ≡ map f (in_order (λ z. number (f z)) xs)
in_order-map f number [] = refl
in_order-map f number (x ∷ xs) = ap (λ zs. put_by number (f x) zs) (in_order-map f number xs) ∙ put_map f number x (in_order (λ z. number (f z)) xs)

length-put : {A : Type 0} (number : A → ℤ) (x : A) (ys : List A) → length (put_by number x ys) ≡ suc (length ys)
length-put number x [] = refl
length-put number x (y ∷ ys) = over (int_le (number x) (number y)) (length-put number x ys)
  where
    over : (b : Bool) → length (put_by number x ys) ≡ suc (length ys) → length (cond b (x ∷ (y ∷ ys)) (y ∷ put_by number x ys)) ≡ suc (suc (length ys))
    over true h = refl
    over false h = ap suc h

pub length-in_order : {A : Type 0} (number : A → ℤ) (xs : List A) → length (in_order number xs) ≡ length xs
length-in_order number [] = refl
length-in_order number (x ∷ xs) = length-put number x (in_order number xs) ∙ ap suc (length-in_order number xs)

pub cut_map : {A B : Type 0} (ask : Ask) (f : A → B) (xs : List A) → cut ask (map f xs) ≡ map f (cut ask xs)
cut_map ask f xs = ap (take ask.limit) (drop-map f ask.offset xs) ∙ take-map f ask.limit (drop ask.offset xs)

pub map_twice : {A B C : Type 0} (f : A → B) (g : B → C) (xs : List A) → map g (map f xs) ≡ map (λ x. g (f x)) xs
map_twice f g [] = refl
map_twice f g (x ∷ xs) = ap (λ zs. g (f x) ∷ zs) (map_twice f g xs)

-- Each of a list, by cases on the list.

abbrev pub Each : {A : Type 0} → (A → Type 0) → List A → Type 0
Each P [] = Unit {0}
Each P (x ∷ xs) = P x × Each P xs

each_put : {A : Type 0} (number : A → ℤ) (P : A → Type 0) (x : A) (ys : List A) → P x → Each P ys → Each P (put_by number x ys)
each_put number P x [] p e = (p, tt)
each_put number P x (y ∷ ys) p e = over (int_le (number x) (number y)) (each_put number P x ys p e.1)
  where
    over : (b : Bool) → Each P (put_by number x ys) → Each P (cond b (x ∷ (y ∷ ys)) (y ∷ put_by number x ys))
    over true rest = (p, e)
    over false rest = (e.0, rest)

pub each_in_order : {A : Type 0} (number : A → ℤ) (P : A → Type 0) (xs : List A) → Each P xs → Each P (in_order number xs)
each_in_order number P [] e = tt
each_in_order number P (x ∷ xs) e = each_put number P x (in_order number xs) e.0 (each_in_order number P xs e.1)

pub each_filter : {A : Type 0} (test : A → Bool) (P : A → Type 0) (xs : List A) → Each P xs → Each P (filter test xs)
each_filter test P [] e = tt
each_filter test P (x ∷ xs) e = over (test x) (each_filter test P xs e.1)
  where
    over : (b : Bool) → Each P (filter test xs) → Each P (cond b (x ∷ filter test xs) (filter test xs))
    over true rest = (e.0, rest)
    over false rest = rest

each_take : {A : Type 0} (P : A → Type 0) (n : ℕ) (xs : List A) → Each P xs → Each P (take n xs)
each_take P zero xs e = tt
each_take P (suc n) [] e = tt
each_take P (suc n) (x ∷ xs) e = (e.0, each_take P n xs e.1)

each_drop : {A : Type 0} (P : A → Type 0) (n : ℕ) (xs : List A) → Each P xs → Each P (drop n xs)
each_drop P zero xs e = e
each_drop P (suc n) [] e = tt
each_drop P (suc n) (x ∷ xs) e = each_drop P n xs e.1

pub each_cut : {A : Type 0} (ask : Ask) (P : A → Type 0) (xs : List A) → Each P xs → Each P (cut ask xs)
each_cut ask P xs e = each_take P ask.limit (drop ask.offset xs) (each_drop P ask.offset xs e)

pub map_agree : {A B : Type 0} (f g : A → B) (xs : List A) → Each (λ x. f x ≡ g x) xs → map f xs ≡ map g xs
map_agree f g [] e = refl
map_agree f g (x ∷ xs) e = cc (e.0, map_agree f g xs e.1)
