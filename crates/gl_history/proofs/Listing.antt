-- Lists: what stands of them after a change.
use Rattle.std.proofs.Common.{◌≡◌, ℕ, zero, suc, ◌+◌, Bool, true, false, ◌&&◌, ◌||◌, cond, List, [], ◌∷◌, ◌++◌, filter, map, refl, sym, ap, ◌∙◌, arith, bytes_eq}
use Rattle.std.specs.List.{All, list_all, list_any, range_with_len}
use Rattle.std.specs.Ordering.{nat_cmp, match_ordering}
use Rattle.std.specs.Cmp.Lexicographic.{slice_cmp}
use Rattle.std.specs.BTreeMap.{insert_entry}
use Rattle.std.specs.declared.cmp.Ordering.{Ordering}
use Rattle.std.specs.declared.cmp.Ordering.TheVariants.{Less, Equal, Greater}
use Rattle.std.proofs.lemmas.List.Elements.{All-nil, All-cons, All-head, All-tail, All-append, All-push, All-weaker, All-map, All-filter, filter_passes}
use Rattle.std.proofs.lemmas.List.Folds.{list_any-append, list_any_none}
use Rattle.std.proofs.lemmas.Map.Views.{All-keys-insert_entry}
use Rattle.std.proofs.lemmas.Slice.Eq.{bytes_eq-Decides}
use Rattle.gl_fields.specs.Fields.{Rises, comes_before}
use Rattle.gl_fields.proofs.Names.{order, before-trans, before-from_Less, before-from_Greater, same-from_Equal}
use Rattle.gl_fields.proofs.Rising.{Rises-filter, Rises-joined}
use Rattle.gl_settings.specs.Settings.{placed, has_name}

-- truths

pub both_first : (a b : Bool) → (a && b) ≡ true → a ≡ true
both_first true b h = refl
both_first false b h = cc h

pub both_second : (a b : Bool) → (a && b) ≡ true → b ≡ true
both_second true b h = h
both_second false b h = cc h

pub neither_first : (a b : Bool) → (a || b) ≡ false → a ≡ false
neither_first true b h = cc h
neither_first false b h = refl

pub neither_second : (a b : Bool) → (a || b) ≡ false → b ≡ false
neither_second true b h = cc h
neither_second false b h = h

-- all, and none

pub all_of : {X : Type 0} (p : X → Bool) (xs : List X) → list_all p xs ≡ true → All (λ x. p x ≡ true) xs
all_of p [] h = All-nil (λ x. p x ≡ true)
all_of p (x ∷ xs) h = All-cons (λ y. p y ≡ true) x xs (both_first (p x) (list_all p xs) h) (all_of p xs (both_second (p x) (list_all p xs) h))

pub none_of : {X : Type 0} (p : X → Bool) (xs : List X) → list_any p xs ≡ false → All (λ x. p x ≡ false) xs
none_of p [] h = All-nil (λ x. p x ≡ false)
none_of p (x ∷ xs) h = All-cons (λ y. p y ≡ false) x xs (neither_first (p x) (list_any p xs) h) (none_of p xs (neither_second (p x) (list_any p xs) h))

pub none_filtered : {X : Type 0} (p q : X → Bool) (xs : List X) → list_any p xs ≡ false → list_any p (filter q xs) ≡ false
none_filtered p q xs h = list_any_none p (filter q xs) (All-filter q (λ x. p x ≡ false) xs (none_of p xs h))

pub none_around : {X : Type 0} (p : X → Bool) (front : List X) (x : X) (back : List X) → list_any p front ≡ false → p x ≡ false → list_any p back ≡ false
    → list_any p (front ++ x ∷ back) ≡ false
none_around p front x back before here behind =
    list_any-append p front (x ∷ back) ∙ (λ i. before i || (here i || behind i))

pub any_more : {X : Type 0} (p : X → Bool) (xs ys : List X) → list_any p xs ≡ true → list_any p (xs ++ ys) ≡ true
any_more p xs ys h = list_any-append p xs ys ∙ ap (λ b. b || list_any p ys) h

pub any_same : {X : Type 0} (p : X → Bool) (f : X → X) → ((x : X) → p (f x) ≡ p x) → (xs : List X) → list_any p (map f xs) ≡ list_any p xs
any_same p f same [] = refl
any_same p f same (x ∷ xs) = λ i. same x i || any_same p f same xs i

pub keys_same : {X Y : Type 0} (g : X → Y) (f : X → X) → ((x : X) → g (f x) ≡ g x) → (xs : List X) → map g (map f xs) ≡ map g xs
keys_same g f same [] = refl
keys_same g f same (x ∷ xs) = λ i. same x i ∷ keys_same g f same xs i

-- rising lists

pub rises_push : {X : Type 0} (R : X → X → Type 0) (xs : List X) (x : X) → Rises R xs → All (λ y. R y x) xs → Rises R (xs ++ x ∷ [])
rises_push R [] x h all = (All-nil (R x), tt)
rises_push R (y ∷ ys) x h all =
    (All-push (R y) ys x h.0 (All-head (λ z. R z x) y ys all), rises_push R ys x h.1 (All-tail (λ z. R z x) y ys all))

pub range_more : (a n : ℕ) → range_with_len a (suc n) ≡ range_with_len a n ++ (a + n) ∷ []
range_more a zero =
    let same : a ≡ a + 0 = omega arith in
    ap (λ (m : ℕ). m ∷ []) same
range_more a (suc n) =
    let same : (a + 1) + n ≡ a + suc n = omega arith in
    ap (λ (l : List ℕ). a ∷ l) (range_more (a + 1) n ∙ ap (λ (m : ℕ). range_with_len (a + 1) n ++ m ∷ []) same)

-- an item at its place

abbrev Before : List ℕ → List ℕ → Type 0
Before a b = comes_before a b ≡ true

mapped_rises : {X : Type 0} (name_of : X → List ℕ) (xs : List X) → Rises (λ x y. Before (name_of x) (name_of y)) xs → Rises Before (map name_of xs)
mapped_rises name_of [] h = tt
mapped_rises name_of (x ∷ xs) h = (All-map (Before (name_of x)) name_of xs h.0, mapped_rises name_of xs h.1)

all_mapped : {X Y : Type 0} (P : Y → Type 0) (f : X → Y) (xs : List X) → All P (map f xs) → All (λ x. P (f x)) xs
all_mapped P f [] h = All-nil (λ x. P (f x))
all_mapped P f (x ∷ xs) h = All-cons (λ y. P (f y)) x xs (All-head P (f x) (map f xs) h) (all_mapped P f xs (All-tail P (f x) (map f xs) h))

rises_unmapped : {X : Type 0} (name_of : X → List ℕ) (xs : List X) → Rises Before (map name_of xs) → Rises (λ x y. Before (name_of x) (name_of y)) xs
rises_unmapped name_of [] h = tt
rises_unmapped name_of (x ∷ xs) h = (all_mapped (Before (name_of x)) name_of xs h.0, rises_unmapped name_of xs h.1)

pub placed_rises : {X : Type 0} (name_of : X → List ℕ) (x : X) (xs : List X) → Rises Before (map name_of xs) → Rises Before (map name_of (placed name_of x xs))
placed_rises {X} name_of x xs h =
    let R : X → X → Type 0 = λ a b. Before (name_of a) (name_of b) in
    let p : X → Bool = λ y. comes_before (name_of y) (name_of x) in
    let q : X → Bool = λ y. comes_before (name_of x) (name_of y) in
    let before : Rises R xs = rises_unmapped name_of xs h in
    mapped_rises name_of (filter p xs ++ x ∷ filter q xs)
    (Rises-joined R (λ a b c ab bc. before-trans (name_of a) (name_of b) (name_of c) ab bc) (filter p xs) x (filter q xs)
    (Rises-filter R p xs before) (filter_passes p xs) (filter_passes q xs) (Rises-filter R q xs before))

pub placed_all : {X : Type 0} (P : X → Type 0) (name_of : X → List ℕ) (x : X) (xs : List X) → All P xs → P x → All P (placed name_of x xs)
placed_all {X} P name_of x xs h here =
    let p : X → Bool = λ y. comes_before (name_of y) (name_of x) in
    let q : X → Bool = λ y. comes_before (name_of x) (name_of y) in
    All-append P (filter p xs) (x ∷ filter q xs) (All-filter p P xs h) (All-cons P x (filter q xs) here (All-filter q P xs h))

step : (a b d e F G rest : Bool) → (a ≡ true → (b || (e || d)) ≡ true) → (rest ≡ true → (F || (e || G)) ≡ true) → (a || rest) ≡ true
    → (((b && a) || F) || (e || ((d && a) || G))) ≡ true
step true true d e F G rest cover below h = refl
step true false d e true G rest cover below h = refl
step true false d true false G rest cover below h = refl
step true false true false false G rest cover below h = refl
step true false false false false G rest cover below h = cc (cover refl)
step false true true e F G rest cover below h = below h
step false true false e F G rest cover below h = below h
step false false true e F G rest cover below h = below h
step false false false e F G rest cover below h = below h

either : {X : Type 0} (p : X → Bool) (b : Bool) (x : X) (xs : List X) → list_any p (cond b (x ∷ xs) xs) ≡ ((b && p x) || list_any p xs)
either p true x xs = refl
either p false x xs = refl

kept : {X : Type 0} (p q r : X → Bool) (x : X) → ((y : X) → p y ≡ true → (q y || (p x || r y)) ≡ true) → (xs : List X) → list_any p xs ≡ true
    → (list_any p (filter q xs) || (p x || list_any p (filter r xs))) ≡ true
kept p q r x cover [] h = cc h
kept p q r x cover (y ∷ ys) h =
    (λ i. either p (q y) y (filter q ys) i || (p x || either p (r y) y (filter r ys) i))
    ∙ step (p y) (q y) (r y) (p x) (list_any p (filter q ys)) (list_any p (filter r ys)) (list_any p ys) (cover y) (kept p q r x cover ys) h

in_middle : (q e r : Bool) → e ≡ true → (q || (e || r)) ≡ true
in_middle true e r h = refl
in_middle false e r h = ap (λ b. b || r) h

at_end : (q e r : Bool) → r ≡ true → (q || (e || r)) ≡ true
at_end true e r h = refl
at_end false true r h = refl
at_end false false r h = h

covered : {X : Type 0} (name_of : X → List ℕ) (x y : X) (name : List ℕ) (o : Ordering) → order (name_of y) (name_of x) ≡ o → bytes_eq name (name_of y) ≡ true
    → (comes_before (name_of y) (name_of x) || (bytes_eq name (name_of x) || comes_before (name_of x) (name_of y))) ≡ true
covered name_of x y name Less is e = ap (λ (b : Bool). b || (bytes_eq name (name_of x) || comes_before (name_of x) (name_of y))) (before-from_Less (name_of y) (name_of x) is)
covered name_of x y name Equal is e =
    in_middle (comes_before (name_of y) (name_of x)) (bytes_eq name (name_of x)) (comes_before (name_of x) (name_of y))
    (sym (ap (bytes_eq name) (same-from_Equal (name_of y) (name_of x) is)) ∙ e)
covered name_of x y name Greater is e =
    at_end (comes_before (name_of y) (name_of x)) (bytes_eq name (name_of x)) (comes_before (name_of x) (name_of y)) (before-from_Greater (name_of y) (name_of x) is)

-- what was there is there still
pub placed_has : {X : Type 0} (name_of : X → List ℕ) (x : X) (name : List ℕ) (xs : List X) → has_name name_of name xs ≡ true → has_name name_of name (placed name_of x xs) ≡ true
placed_has {X} name_of x name xs h =
    let p : X → Bool = λ y. bytes_eq name (name_of y) in
    let q : X → Bool = λ y. comes_before (name_of y) (name_of x) in
    let r : X → Bool = λ y. comes_before (name_of x) (name_of y) in
    list_any-append p (filter q xs) (x ∷ filter r xs)
    ∙ kept p q r x (λ y e. covered name_of x y name (order (name_of y) (name_of x)) refl e) xs h

-- the keys of a table with an entry more

pub entries_rise : {X : Type 0} (k : List ℕ) (v : X) (es : List (List ℕ × X)) → Rises Before (map (λ e. e.0) es) → Rises Before (map (λ e. e.0) (insert_entry (slice_cmp nat_cmp) es k v))
entries_rise k v [] h = (All-nil (Before k), tt)
entries_rise {X} k v (e ∷ es) h = by (order k e.0) refl (entries_rise k v es h.1)
  where
    by : (o : Ordering) → order k e.0 ≡ o → Rises Before (map (λ d. d.0) (insert_entry (slice_cmp nat_cmp) es k v))
        → Rises Before (map (λ d. d.0) (match_ordering o ((k, v) ∷ e ∷ es) ((e.0, v) ∷ es) (e ∷ insert_entry (slice_cmp nat_cmp) es k v)))
    by Less is rest =
        let first : Before k e.0 = before-from_Less k e.0 is in
        (All-cons (Before k) e.0 (map (λ d. d.0) es) first (All-weaker (Before e.0) (Before k) (λ n b. before-trans k e.0 n first b) (map (λ d. d.0) es) h.0), h)
    by Equal is rest = h
    by Greater is rest = (All-keys-insert_entry (slice_cmp nat_cmp) k v (Before e.0) es h.0 (before-from_Greater k e.0 is), rest)

-- the same bytes, whichever stand first

same_test : (r s : Bool) → (r ≡ true → s ≡ true) → (s ≡ true → r ≡ true) → r ≡ s
same_test true true f g = refl
same_test true false f g = sym (f refl)
same_test false true f g = g refl
same_test false false f g = refl

pub bytes_eq_sym : (a b : List ℕ) → bytes_eq a b ≡ bytes_eq b a
bytes_eq_sym a b =
    same_test (bytes_eq a b) (bytes_eq b a)
    (λ h. (bytes_eq-Decides b a).1 (sym ((bytes_eq-Decides a b).0 h)))
    (λ h. (bytes_eq-Decides a b).1 (sym ((bytes_eq-Decides b a).0 h)))
