-- Elements between two signs: what is read of them has the form of the grammar, and the other way.
use Rattle.std.proofs.Common.{◌≡◌, ℕ, zero, suc, ◌+◌, ◌-◌, ◌<◌, ◌≤◌, ◌&&◌, ◌||◌, ◌==◌, not, Bool, true, false, cond, List, [], ◌∷◌, ◌++◌, length, Result, Ok, Err, refl, sym, ap, subst, ◌∙◌, ◌⊎◌, inl, inr, arith, append_assoc}
use Rattle.std.proofs.lemmas.Bool.{and_parts}
use Rattle.std.proofs.lemmas.List.{length-append}
use Rattle.std.specs.List.{list_all}
use Rattle.gl_base.specs.Bytes.{next_is, behind_first}
use Rattle.gl_json.specs.declared.bytes.Stop.{Stop}
use Rattle.gl_json.specs.declared.bytes.Stop.TheVariants.{At}
use Rattle.gl_json.specs.Grammar.{is_blank, AreBlanks, AreParted, last, also, AreBetween, nothing, something}
use Rattle.gl_json.specs.JsonReading.{◌>>=◌, Read, Skip, rest_of, past, trimmed, parted_at, parts_at, between_at, elements_at}
use Rattle.gl_json.proofs.Taking.{bound, goes_on, ok_is, split, past_over, past_is}
use Rattle.gl_json.proofs.CharRead.{take_yes, take_no, eq_is}

-- a text of this form stands at the front
pub record Found {X : Type 0} (Is : List ℕ → X → Type 0) (bytes : List ℕ) (y : X × List ℕ) : Type 0 where
  pub piece : List ℕ
  pub is : Is piece y.0
  pub text : bytes ≡ piece ++ y.1

abbrev pub IsSound : {X : Type 0} → (List ℕ → Read X) → (List ℕ → X → Type 0) → Type 0
IsSound {X} one Is = (bytes : List ℕ) (y : X × List ℕ) → one bytes ≡ Ok y → Found Is bytes y

-- behind an element: a comma, or a sign that ends the row
abbrev pub ends_element : List ℕ → Bool
ends_element [] = false
ends_element (b ∷ rest) = (b == 44) || (b == 93) || (b == 125)

-- an element begins neither with white space nor with a sign that ends the row
abbrev pub begins_element : List ℕ → Bool
begins_element [] = false
begins_element (b ∷ rest) = not (is_blank b) && not (b == 93) && not (b == 125)

pub record IsComplete {X : Type 0} (one : List ℕ → Read X) (Is : List ℕ → X → Type 0) : Type 0 where
  pub reads : (t : List ℕ) (x : X) (rest : List ℕ) → Is t x → ends_element rest ≡ true → one (t ++ rest) ≡ Ok (x, rest)
  pub begins : (t : List ℕ) (x : X) → Is t x → begins_element t ≡ true

parted_sound : (closing : ℕ) (bytes : List ℕ) (y : Bool × List ℕ) → parted_at closing bytes ≡ Ok y → ((y.0 ≡ true) × (bytes ≡ 44 ∷ y.1)) ⊎ ((y.0 ≡ false) × (bytes ≡ closing ∷ y.1))
unfolding parted_at
parted_sound closing [] y e = absurd cc
parted_sound closing (b ∷ rest) y e = elim (split (b == 44) (Ok (true, rest)) _ (Ok y) e) [
  | inl h ↦
      let same = ok_is (true, rest) y h.1 in
      inl (ap (λ (z : Bool × List ℕ). z.0) (sym same), ap (λ (x : ℕ). x ∷ rest) (eq_is b 44 h.0) ∙ ap (λ (z : Bool × List ℕ). 44 ∷ z.1) same)
  | inr h ↦ elim (split (b == closing) (Ok (false, rest)) (Err (At (length (b ∷ rest)))) (Ok y) h.1) [
    | inl k ↦
        let same = ok_is (false, rest) y k.1 in
        inr (ap (λ (z : Bool × List ℕ). z.0) (sym same), ap (λ (x : ℕ). x ∷ rest) (eq_is b closing k.0) ∙ ap (λ (z : Bool × List ℕ). closing ∷ z.1) same)
    | inr k ↦ absurd (let f = k.1 in cc)
  ]
]

pub record Parts {X : Type 0} (closing : ℕ) (Is : List ℕ → X → Type 0) (bytes : List ℕ) (y : List X × List ℕ) : Type 0 where
  pub piece : List ℕ
  pub is : AreParted Is piece y.0
  pub text : bytes ≡ piece ++ closing ∷ y.1

parted_text : (a ws p rest : List ℕ) → a ++ 44 ∷ (ws ++ (p ++ rest)) ≡ (a ++ 44 ∷ (ws ++ p)) ++ rest
parted_text a ws p rest = sym (simp append_assoc)

parts_last : {X : Type 0} (closing : ℕ) (Is : List ℕ → X → Type 0) (bytes : List ℕ) (x : X × List ℕ) (rest : List ℕ) (y : List X × List ℕ)
    → Found Is bytes x → x.1 ≡ closing ∷ rest → (x.0 ∷ [], rest) ≡ y → Parts closing Is bytes y
parts_last closing Is bytes x rest y f e same =
    subst (Parts closing Is bytes) same (record { piece = f.piece; is = last f.piece x.0 f.is; text = f.text ∙ ap (λ (l : List ℕ). f.piece ++ l) e })

parts_also : {X : Type 0} (closing : ℕ) (Is : List ℕ → X → Type 0) (bytes : List ℕ) (x : X × List ℕ) (rest : List ℕ) (xs y : List X × List ℕ)
    → Found Is bytes x → x.1 ≡ 44 ∷ rest → Parts closing Is (trimmed rest) xs → (x.0 ∷ xs.0, xs.1) ≡ y → Parts closing Is bytes y
parts_also closing Is bytes x rest xs y f e q same =
    let ws = past_is is_blank rest in
    subst (Parts closing Is bytes) same (record {
      piece = f.piece ++ 44 ∷ (ws.front ++ q.piece);
      is = also f.piece ws.front q.piece x.0 xs.0 f.is ws.are q.is;
      text = f.text ∙ ap (λ (l : List ℕ). f.piece ++ l) (e ∙ ap (λ (l : List ℕ). 44 ∷ l) (ws.text ∙ ap (λ (l : List ℕ). ws.front ++ l) q.text))
          ∙ parted_text f.piece ws.front q.piece (closing ∷ xs.1);
    })

pub parts_sound : {X : Type 0} (one : List ℕ → Read X) (closing : ℕ) (Is : List ℕ → X → Type 0) → IsSound one Is
    → (n : ℕ) (bytes : List ℕ) (y : List X × List ℕ) → parts_at one closing n bytes ≡ Ok y → Parts closing Is bytes y
unfolding parts_at
parts_sound one closing Is sound zero bytes y e = absurd cc
parts_sound {X} one closing Is sound (suc n) bytes y e =
    let tail : X → Bool × List ℕ → Result (List X × List ℕ) Stop = λ x more.
    cond more.0 (parts_at one closing n (trimmed more.1) >>= (λ xs. Ok (x ∷ xs.0, xs.1))) (Ok (x ∷ [], more.1)) in
    let p = bound (one bytes) (λ x. parted_at closing x.1 >>= (λ more. tail x.0 more)) y e in
    let f = sound bytes p.0 p.1 in
    let q = bound (parted_at closing p.0.1) (λ more. tail p.0.0 more) y p.2 in
    let signs = parted_sound closing p.0.1 q.0 q.1 in
    elim signs [
      | inl s ↦
          let go : (parts_at one closing n (trimmed q.0.1) >>= (λ xs. Ok (p.0.0 ∷ xs.0, xs.1))) ≡ Ok y = sym (take_yes q.0.0 _ _ s.0) ∙ q.2 in
          let r = bound (parts_at one closing n (trimmed q.0.1)) (λ xs. Ok (p.0.0 ∷ xs.0, xs.1)) y go in
          parts_also closing Is bytes p.0 q.0.1 r.0 y f s.1 (parts_sound one closing Is sound n (trimmed q.0.1) r.0 r.1) (ok_is (p.0.0 ∷ r.0.0, r.0.1) y r.2)
      | inr s ↦ parts_last closing Is bytes p.0 q.0.1 y f s.1 (ok_is (p.0.0 ∷ [], q.0.1) y (sym (take_no q.0.0 _ _ s.0) ∙ q.2))
    ]

next_text : (closing : ℕ) (bytes : List ℕ) → next_is closing bytes ≡ true → bytes ≡ closing ∷ behind_first bytes
next_text closing [] h = absurd cc
next_text closing (b ∷ bytes) h = ap (λ (x : ℕ). x ∷ bytes) (eq_is b closing h)

closed_text : (ws p : List ℕ) (closing : ℕ) (rest : List ℕ) → ws ++ (p ++ closing ∷ rest) ≡ (ws ++ (p ++ closing ∷ [])) ++ rest
closed_text ws p closing rest = sym (simp append_assoc)

pub elements_sound : {X : Type 0} (one : List ℕ → Read X) (opening closing : ℕ) (Is : List ℕ → X → Type 0) → IsSound one Is
    → (bytes : List ℕ) (y : List X × List ℕ) → elements_at one closing bytes ≡ Ok y → Found (AreBetween opening closing Is) (opening ∷ bytes) y
unfolding between_at
elements_sound one opening closing Is sound bytes y e =
    let ws = past_is is_blank bytes in
    elim (split (next_is closing (trimmed bytes)) (Ok ([], behind_first (trimmed bytes))) (parts_at one closing (suc (length (trimmed bytes))) (trimmed bytes)) (Ok y) e) [
      | inl h ↦ subst (Found (AreBetween opening closing Is) (opening ∷ bytes)) (ok_is ([], behind_first (trimmed bytes)) y h.1) (record {
        piece = opening ∷ (ws.front ++ closing ∷ []);
        is = nothing ws.front ws.are;
        text = ap (λ (l : List ℕ). opening ∷ l) (ws.text ∙ ap (λ (l : List ℕ). ws.front ++ l) (next_text closing (trimmed bytes) h.0)
            ∙ sym (append_assoc ws.front (closing ∷ []) (behind_first (trimmed bytes))));
      })
      | inr h ↦
          let p = parts_sound one closing Is sound (suc (length (trimmed bytes))) (trimmed bytes) y h.1 in
          record {
            piece = opening ∷ (ws.front ++ (p.piece ++ closing ∷ []));
            is = something ws.front p.piece y.0 ws.are p.is;
            text = ap (λ (l : List ℕ). opening ∷ l) (ws.text ∙ ap (λ (l : List ℕ). ws.front ++ l) p.text ∙ closed_text ws.front p.piece closing y.1);
          }
    ]

-- the other way

parts_few : {X : Type 0} (Is : List ℕ → X → Type 0) (t : List ℕ) (xs : List X) → AreParted Is t xs → length xs ≤ suc (length t)
parts_few Is t xs (last u x is) = omega arith
parts_few Is t xs (also a ws u x ys is blank more) =
    let n : length (a ++ 44 ∷ (ws ++ u)) ≡ length a + suc (length ws + length u) = length-append a (44 ∷ (ws ++ u)) ∙ ap (λ (k : ℕ). length a + suc k) (length-append ws u) in
    omega (arith, n, parts_few Is u ys more)

trimmed_stays : (bytes : List ℕ) → begins_element bytes ≡ true → trimmed bytes ≡ bytes
unfolding past
trimmed_stays [] h = absurd cc
trimmed_stays (b ∷ bytes) h = let k : is_blank b ≡ false = grind arith in take_no (is_blank b) _ _ k

begins_more : (t rest : List ℕ) → begins_element t ≡ true → begins_element (t ++ rest) ≡ true
begins_more [] rest h = absurd cc
begins_more (b ∷ t) rest h = h

pub trimmed_element : (ws t rest : List ℕ) → AreBlanks ws → begins_element t ≡ true → trimmed (ws ++ (t ++ rest)) ≡ t ++ rest
trimmed_element ws t rest are h = past_over is_blank ws (t ++ rest) are ∙ trimmed_stays (t ++ rest) (begins_more t rest h)

end_stays : (bytes : List ℕ) → ends_element bytes ≡ true → trimmed bytes ≡ bytes
unfolding past
end_stays [] h = absurd cc
end_stays (b ∷ bytes) h = let k : is_blank b ≡ false = grind arith in take_no (is_blank b) _ _ k

pub trimmed_sign : (ws : List ℕ) (sign : ℕ) (rest : List ℕ) → AreBlanks ws → is_blank sign ≡ false → trimmed (ws ++ sign ∷ rest) ≡ sign ∷ rest
unfolding past
trimmed_sign ws sign rest are h = past_over is_blank ws (sign ∷ rest) are ∙ take_no (is_blank sign) _ _ h

pub trimmed_all : (ws : List ℕ) → AreBlanks ws → trimmed ws ≡ []
unfolding past
trimmed_all [] are = refl
trimmed_all (b ∷ ws) are = let p = and_parts (is_blank b) (list_all is_blank ws) are in take_yes (is_blank b) _ _ p.0 ∙ trimmed_all ws p.1

pub trimmed_end : (ws rest : List ℕ) → AreBlanks ws → ends_element rest ≡ true → trimmed (ws ++ rest) ≡ rest
trimmed_end ws rest are h = past_over is_blank ws rest are ∙ end_stays rest h

same_test : (a : ℕ) → (a == a) ≡ true
same_test a = grind arith

parted_closing : (closing : ℕ) (rest : List ℕ) → closing == 44 ≡ false → parted_at closing (closing ∷ rest) ≡ Ok (false, rest)
unfolding parted_at
parted_closing closing rest h = take_no (closing == 44) _ _ h ∙ take_yes (closing == closing) _ _ (same_test closing)

pub parted_begins : {X : Type 0} (one : List ℕ → Read X) (Is : List ℕ → X → Type 0) → IsComplete one Is → (t : List ℕ) (xs : List X) → AreParted Is t xs → begins_element t ≡ true
parted_begins one Is full t xs (last u x is) = full.begins u x is
parted_begins one Is full t xs (also a ws u x ys is blank more) = begins_more a (44 ∷ (ws ++ u)) (full.begins a x is)

begins_not : (closing : ℕ) (t rest : List ℕ) → ends_element (closing ∷ []) ≡ true → closing == 44 ≡ false → begins_element t ≡ true → next_is closing (t ++ rest) ≡ false
begins_not closing [] rest ends apart h = absurd cc
begins_not closing (b ∷ t) rest ends apart h = grind arith

pub parts_complete : {X : Type 0} (one : List ℕ → Read X) (closing : ℕ) (Is : List ℕ → X → Type 0) → IsComplete one Is → closing == 44 ≡ false → ends_element (closing ∷ []) ≡ true
    → (n : ℕ) (t rest : List ℕ) (xs : List X) → AreParted Is t xs → length xs ≤ n → parts_at one closing n (t ++ closing ∷ rest) ≡ Ok (xs, rest)
unfolding parts_at parted_at
parts_complete one closing Is full apart ends zero t rest xs (last u x is) few = absurd (omega arith)
parts_complete one closing Is full apart ends zero t rest xs (also a ws u x ys is blank more) few = absurd (omega arith)
parts_complete {X} one closing Is full apart ends (suc n) t rest xs (last u x is) few =
    let tail : X → Bool × List ℕ → Result (List X × List ℕ) Stop = λ x more.
    cond more.0 (parts_at one closing n (trimmed more.1) >>= (λ xs. Ok (x ∷ xs.0, xs.1))) (Ok (x ∷ [], more.1)) in
    goes_on (one (u ++ closing ∷ rest)) (λ x. parted_at closing x.1 >>= (λ more. tail x.0 more)) (x, closing ∷ rest) (full.reads u x (closing ∷ rest) is ends)
    ∙ goes_on (parted_at closing (closing ∷ rest)) (λ more. tail x more) (false, rest) (parted_closing closing rest apart)
parts_complete {X} one closing Is full apart ends (suc n) t rest xs (also a ws u x ys is blank more) few =
    let tail : X → Bool × List ℕ → Result (List X × List ℕ) Stop = λ x more.
    cond more.0 (parts_at one closing n (trimmed more.1) >>= (λ xs. Ok (x ∷ xs.0, xs.1))) (Ok (x ∷ [], more.1)) in
    let left : length ys ≤ n = omega arith in
    ap (parts_at one closing (suc n)) (sym (parted_text a ws u (closing ∷ rest)))
    ∙ goes_on (one (a ++ 44 ∷ (ws ++ (u ++ closing ∷ rest)))) (λ x. parted_at closing x.1 >>= (λ more. tail x.0 more)) (x, 44 ∷ (ws ++ (u ++ closing ∷ rest)))
    (full.reads a x (44 ∷ (ws ++ (u ++ closing ∷ rest))) is refl)
    ∙ ap (λ (l : List ℕ). parts_at one closing n l >>= (λ xs. Ok (x ∷ xs.0, xs.1))) (trimmed_element ws u (closing ∷ rest) blank (parted_begins one Is full u ys more))
    ∙ goes_on (parts_at one closing n (u ++ closing ∷ rest)) (λ xs. Ok (x ∷ xs.0, xs.1)) (ys, rest) (parts_complete one closing Is full apart ends n u rest ys more left)

pub record Behind {X : Type 0} (one : List ℕ → Read X) (opening closing : ℕ) (t : List ℕ) (xs : List X) (rest : List ℕ) : Type 0 where
  pub inner : List ℕ
  pub text : t ≡ opening ∷ inner
  pub reads : elements_at one closing (inner ++ rest) ≡ Ok (xs, rest)

pub elements_complete : {X : Type 0} (one : List ℕ → Read X) (opening closing : ℕ) (Is : List ℕ → X → Type 0) → IsComplete one Is → closing == 44 ≡ false → ends_element (closing ∷ []) ≡ true
    → (t rest : List ℕ) (xs : List X) → AreBetween opening closing Is t xs → Behind one opening closing t xs rest
unfolding between_at
elements_complete one opening closing Is full apart ends t rest xs (nothing ws blank) = record {
  inner = ws ++ closing ∷ [];
  text = refl;
  reads = ap (between_at one closing) (ap trimmed (append_assoc ws (closing ∷ []) rest) ∙ trimmed_end ws (closing ∷ rest) blank ends)
      ∙ take_yes (closing == closing) _ _ (same_test closing);
}
elements_complete one opening closing Is full apart ends t rest xs (something ws u ys blank is) =
    let begins = parted_begins one Is full u xs is in
    let few : length xs ≤ suc (length (u ++ closing ∷ rest)) = omega (arith, parts_few Is u xs is, length-append u (closing ∷ rest)) in
    record {
      inner = ws ++ (u ++ closing ∷ []);
      text = refl;
      reads = ap (between_at one closing) (ap trimmed (sym (closed_text ws u closing rest) ∙ refl) ∙ trimmed_element ws u (closing ∷ rest) blank begins)
          ∙ take_no (next_is closing (u ++ closing ∷ rest)) _ _ (begins_not closing u (closing ∷ rest) ends apart begins)
          ∙ parts_complete one closing Is full apart ends (suc (length (u ++ closing ∷ rest))) u rest xs is few;
    }

-- the turns of a loop over elements

pub record Skipping {X : Type 0} (one : List ℕ → Read X) (closing : ℕ) (target : Skip) (rest : List ℕ) : Type 0 where
  pub turns : ℕ
  pub enough : length rest < turns
  pub same : rest_of (parts_at one closing turns rest) ≡ target

abbrev pub after_one : {X : Type 0} → (List ℕ → Read X) → ℕ → ℕ → X → Bool × List ℕ → Read (List X)
after_one one closing n x more = cond more.0 (parts_at one closing n (trimmed more.1) >>= (λ xs. Ok (x ∷ xs.0, xs.1))) (Ok (x ∷ [], more.1))

pub parts_turn : {X : Type 0} (one : List ℕ → Read X) (closing n : ℕ) (rest : List ℕ) → 0 < n
    → parts_at one closing n rest ≡ (one rest >>= (λ x. parted_at closing x.1 >>= (λ more. after_one one closing (n - 1) x.0 more)))
unfolding parts_at
parts_turn one closing zero rest h = absurd (omega arith)
parts_turn one closing (suc n) rest h = let same : suc n - 1 ≡ n = omega arith in rw same refl

pub skip_starts : {X : Type 0} (one : List ℕ → Read X) (closing : ℕ) (bytes : List ℕ) → next_is closing (trimmed bytes) ≡ false
    → Skipping one closing (rest_of (elements_at one closing bytes)) (trimmed bytes)
unfolding between_at
skip_starts one closing bytes h = record { turns = suc (length (trimmed bytes)); enough = omega arith; same = ap rest_of (sym (take_no (next_is closing (trimmed bytes)) _ _ h)) }

pub skip_none : {X : Type 0} (one : List ℕ → Read X) (closing : ℕ) (bytes : List ℕ) → next_is closing (trimmed bytes) ≡ true
    → rest_of (elements_at one closing bytes) ≡ Ok (behind_first (trimmed bytes))
unfolding between_at
skip_none one closing bytes h = ap rest_of (take_yes (next_is closing (trimmed bytes)) _ _ h)

pub skip_stop : {X : Type 0} (one : List ℕ → Read X) (closing : ℕ) (target : Skip) (rest : List ℕ) (s : Stop) → Skipping one closing target rest → one rest ≡ Err s → target ≡ Err s
skip_stop one closing target rest s k e =
    sym k.same ∙ ap rest_of (parts_turn one closing k.turns rest (omega (arith, k.enough))
    ∙ ap (λ (r : Read _). r >>= (λ x. parted_at closing x.1 >>= (λ more. after_one one closing (k.turns - 1) x.0 more))) e)

one_turn : {X : Type 0} (one : List ℕ → Read X) (closing n : ℕ) (rest : List ℕ) (x : X × List ℕ) → 0 < n → one rest ≡ Ok x
    → parts_at one closing n rest ≡ (parted_at closing x.1 >>= (λ more. after_one one closing (n - 1) x.0 more))
one_turn one closing n rest x h e =
    parts_turn one closing n rest h ∙ goes_on (one rest) (λ x. parted_at closing x.1 >>= (λ more. after_one one closing (n - 1) x.0 more)) x e

pub skip_parted : {X : Type 0} (one : List ℕ → Read X) (closing : ℕ) (target : Skip) (rest : List ℕ) (x : X × List ℕ) (s : Stop) → Skipping one closing target rest
    → one rest ≡ Ok x → parted_at closing x.1 ≡ Err s → target ≡ Err s
skip_parted one closing target rest x s k e f =
    sym k.same ∙ ap rest_of (one_turn one closing k.turns rest x (omega (arith, k.enough)) e
    ∙ ap (λ (r : Read Bool). r >>= (λ more. after_one one closing (k.turns - 1) x.0 more)) f)

pub skip_ends : {X : Type 0} (one : List ℕ → Read X) (closing : ℕ) (target : Skip) (rest : List ℕ) (x : X × List ℕ) (more : Bool × List ℕ) → Skipping one closing target rest
    → one rest ≡ Ok x → parted_at closing x.1 ≡ Ok more → more.0 ≡ false → target ≡ Ok more.1
skip_ends one closing target rest x more k e f no_more =
    sym k.same ∙ ap rest_of (one_turn one closing k.turns rest x (omega (arith, k.enough)) e
    ∙ goes_on (parted_at closing x.1) (λ m. after_one one closing (k.turns - 1) x.0 m) more f ∙ take_no more.0 _ _ no_more)

rest_also : {X : Type 0} (x : X) (r : Read (List X)) → rest_of (r >>= (λ xs. Ok (x ∷ xs.0, xs.1))) ≡ rest_of r
rest_also x (Ok xs) = refl
rest_also x (Err s) = refl

parted_shorter : (closing : ℕ) (bytes : List ℕ) (y : Bool × List ℕ) → parted_at closing bytes ≡ Ok y → length y.1 < length bytes
parted_shorter closing bytes y e = elim (parted_sound closing bytes y e) [
  | inl h ↦ omega (arith, ap length h.1)
  | inr h ↦ omega (arith, ap length h.1)
]

pub found_shorter : {X : Type 0} (Is : List ℕ → X → Type 0) (bytes : List ℕ) (y : X × List ℕ) → Found Is bytes y → length y.1 ≤ length bytes
found_shorter Is bytes y f = omega (arith, ap length f.text, length-append f.piece y.1)

trimmed_shorter : (bytes : List ℕ) → length (trimmed bytes) ≤ length bytes
trimmed_shorter bytes = let p = past_is is_blank bytes in omega (arith, ap length p.text, length-append p.front (trimmed bytes))

-- what is left behind an element and a comma is shorter
pub left_shorter : {X : Type 0} (one : List ℕ → Read X) (Is : List ℕ → X → Type 0) (closing : ℕ) (rest : List ℕ) (x : X × List ℕ) (more : Bool × List ℕ) → IsSound one Is
    → one rest ≡ Ok x → parted_at closing x.1 ≡ Ok more → length (trimmed more.1) < length rest
left_shorter one Is closing rest x more sound e f =
    omega (arith, found_shorter Is rest x (sound rest x e), parted_shorter closing x.1 more f, trimmed_shorter more.1)

pub skip_goes : {X : Type 0} (one : List ℕ → Read X) (Is : List ℕ → X → Type 0) (closing : ℕ) (target : Skip) (rest : List ℕ) (x : X × List ℕ) (more : Bool × List ℕ) → IsSound one Is
    → Skipping one closing target rest → one rest ≡ Ok x → parted_at closing x.1 ≡ Ok more → more.0 ≡ true → Skipping one closing target (trimmed more.1)
skip_goes one Is closing target rest x more sound k e f go = record {
  turns = k.turns - 1;
  enough = omega (arith, left_shorter one Is closing rest x more sound e f, k.enough);
  same = sym (ap rest_of (one_turn one closing k.turns rest x (omega (arith, k.enough)) e
      ∙ goes_on (parted_at closing x.1) (λ m. after_one one closing (k.turns - 1) x.0 m) more f ∙ take_yes more.0 _ _ go)
      ∙ rest_also x.0 (parts_at one closing (k.turns - 1) (trimmed more.1))) ∙ k.same;
}

-- the turns of a loop that keeps the elements

abbrev pub with_front : {X : Type 0} → List X → Read (List X) → Read (List X)
with_front xs (Ok y) = Ok (xs ++ y.0, y.1)
with_front xs (Err s) = Err s

pub record Collecting {X : Type 0} (one : List ℕ → Read X) (closing : ℕ) (target : Read (List X)) (xs : List X) (rest : List ℕ) : Type 0 where
  pub turns : ℕ
  pub enough : length rest < turns
  pub same : with_front xs (parts_at one closing turns rest) ≡ target

front_none : {X : Type 0} (r : Read (List X)) → with_front [] r ≡ r
front_none (Ok y) = refl
front_none (Err s) = refl

front_also : {X : Type 0} (xs : List X) (x : X) (r : Read (List X)) → with_front xs (r >>= (λ ys. Ok (x ∷ ys.0, ys.1))) ≡ with_front (xs ++ x ∷ []) r
front_also {X} xs x (Ok y) = ap (λ (l : List X). Ok (l, y.1)) (sym (append_assoc xs (x ∷ []) y.0))
front_also xs x (Err s) = refl

pub collect_starts : {X : Type 0} (one : List ℕ → Read X) (closing : ℕ) (bytes : List ℕ) → next_is closing (trimmed bytes) ≡ false
    → Collecting one closing (elements_at one closing bytes) [] (trimmed bytes)
unfolding between_at
collect_starts one closing bytes h = record {
  turns = suc (length (trimmed bytes));
  enough = omega arith;
  same = front_none (parts_at one closing (suc (length (trimmed bytes))) (trimmed bytes)) ∙ sym (take_no (next_is closing (trimmed bytes)) _ _ h);
}

pub collect_none : {X : Type 0} (one : List ℕ → Read X) (closing : ℕ) (bytes : List ℕ) → next_is closing (trimmed bytes) ≡ true
    → elements_at one closing bytes ≡ Ok ([], behind_first (trimmed bytes))
unfolding between_at
collect_none one closing bytes h = take_yes (next_is closing (trimmed bytes)) _ _ h

pub collect_stop : {X : Type 0} (one : List ℕ → Read X) (closing : ℕ) (target : Read (List X)) (xs : List X) (rest : List ℕ) (s : Stop) → Collecting one closing target xs rest → one rest ≡ Err s → target ≡ Err s
collect_stop one closing target xs rest s k e =
    sym k.same ∙ ap (with_front xs) (parts_turn one closing k.turns rest (omega (arith, k.enough))
    ∙ ap (λ (r : Read _). r >>= (λ x. parted_at closing x.1 >>= (λ more. after_one one closing (k.turns - 1) x.0 more))) e)

pub collect_parted : {X : Type 0} (one : List ℕ → Read X) (closing : ℕ) (target : Read (List X)) (xs : List X) (rest : List ℕ) (x : X × List ℕ) (s : Stop) → Collecting one closing target xs rest
    → one rest ≡ Ok x → parted_at closing x.1 ≡ Err s → target ≡ Err s
collect_parted one closing target xs rest x s k e f =
    sym k.same ∙ ap (with_front xs) (one_turn one closing k.turns rest x (omega (arith, k.enough)) e
    ∙ ap (λ (r : Read Bool). r >>= (λ more. after_one one closing (k.turns - 1) x.0 more)) f)

pub collect_ends : {X : Type 0} (one : List ℕ → Read X) (closing : ℕ) (target : Read (List X)) (xs : List X) (rest : List ℕ) (x : X × List ℕ) (more : Bool × List ℕ) → Collecting one closing target xs rest
    → one rest ≡ Ok x → parted_at closing x.1 ≡ Ok more → more.0 ≡ false → target ≡ Ok (xs ++ x.0 ∷ [], more.1)
collect_ends one closing target xs rest x more k e f no_more =
    sym k.same ∙ ap (with_front xs) (one_turn one closing k.turns rest x (omega (arith, k.enough)) e
    ∙ goes_on (parted_at closing x.1) (λ m. after_one one closing (k.turns - 1) x.0 m) more f ∙ take_no more.0 _ _ no_more)

pub collect_goes : {X : Type 0} (one : List ℕ → Read X) (Is : List ℕ → X → Type 0) (closing : ℕ) (target : Read (List X)) (xs : List X) (rest : List ℕ) (x : X × List ℕ) (more : Bool × List ℕ) → IsSound one Is
    → Collecting one closing target xs rest → one rest ≡ Ok x → parted_at closing x.1 ≡ Ok more → more.0 ≡ true → Collecting one closing target (xs ++ x.0 ∷ []) (trimmed more.1)
collect_goes one Is closing target xs rest x more sound k e f go = record {
  turns = k.turns - 1;
  enough = omega (arith, left_shorter one Is closing rest x more sound e f, k.enough);
  same = sym (ap (with_front xs) (one_turn one closing k.turns rest x (omega (arith, k.enough)) e
      ∙ goes_on (parted_at closing x.1) (λ m. after_one one closing (k.turns - 1) x.0 m) more f ∙ take_yes more.0 _ _ go)
      ∙ front_also xs x.0 (parts_at one closing (k.turns - 1) (trimmed more.1))) ∙ k.same;
}
