-- What is taken from the front of a text.
use Rattle.std.proofs.Common.{◌≡◌, ℕ, ◌-◌, Bool, true, false, cond, List, [], ◌∷◌, ◌++◌, length, take, drop, take-append-drop, Result, Ok, Err, refl, sym, ap, ◌∙◌, ◌<◌, ◌==◌, ◌⊎◌, inl, inr, arith}
use Rattle.std.proofs.Math.Seq.{drop-cons}
use Rattle.std.proofs.lemmas.List.{take_at, length-append}
use Rattle.std.specs.List.{list_all}
use Rattle.std.proofs.lemmas.Bool.{and_from, and_parts}
use Rattle.gl_json.specs.declared.bytes.Stop.{Stop}
use Rattle.gl_json.specs.declared.bytes.Stop.TheVariants.{At}
use Rattle.gl_json.specs.JsonReading.{◌>>=◌, past, one_at, word_at, before}

-- a step that didn't fail
pub bound : {A B : Type 0} (r : Result A Stop) (f : A → Result B Stop) (y : B) → (r >>= f) ≡ Ok y → (x : A) × (r ≡ Ok x) × (f x ≡ Ok y)
bound (Ok x) f y e = (x, refl, e)
bound (Err stop) f y e = absurd cc

pub goes_on : {A B : Type 0} (r : Result A Stop) (f : A → Result B Stop) (x : A) → r ≡ Ok x → (r >>= f) ≡ f x
goes_on r f x e = ap (λ (s : Result _ Stop). s >>= f) e

pub ok_is : {A : Type 0} (x y : A) → (let r : Result A Stop = Ok x in r) ≡ Ok y → x ≡ y
ok_is x y e = cc

pub split : {A : Type 0} (b : Bool) (x y z : A) → cond b x y ≡ z → ((b ≡ true) × (x ≡ z)) ⊎ ((b ≡ false) × (y ≡ z))
split true x y z e = inl (refl, e)
split false x y z e = inr (refl, e)

pub one_sound : (p : ℕ → Bool) (bytes : List ℕ) (x : ℕ × List ℕ) → one_at p bytes ≡ Ok x → (p x.0 ≡ true) × (bytes ≡ x.0 ∷ x.1)
unfolding one_at
one_sound p [] x e = absurd cc
one_sound p (b ∷ rest) x e = elim (split (p b) (Ok (b, rest)) (Err (At (length (b ∷ rest)))) (Ok x) e) [
  | inl h ↦ let same = ok_is (b, rest) x h.1 in (ap p (sym (ap (λ (y : ℕ × List ℕ). y.0) same)) ∙ h.0, ap (λ (y : ℕ × List ℕ). y.0 ∷ y.1) same)
  | inr h ↦ absurd (let f = h.1 in cc)
]

pub one_complete : (p : ℕ → Bool) (b : ℕ) (rest : List ℕ) → p b ≡ true → one_at p (b ∷ rest) ≡ Ok (b, rest)
unfolding one_at
one_complete p b rest h = rw h refl

pub before_is : (a rest : List ℕ) → before rest (a ++ rest) ≡ a
before_is a rest = let n : length a ≡ length (a ++ rest) - length rest = omega (arith, length-append a rest) in take_at a rest (length (a ++ rest) - length rest) n

-- bytes of a kind at the front
pub past_over : (p : ℕ → Bool) (ws rest : List ℕ) → list_all p ws ≡ true → past p (ws ++ rest) ≡ past p rest
unfolding past
past_over p [] rest h = refl
past_over p (b ∷ ws) rest h = let hs = and_parts (p b) (list_all p ws) h in rw hs.0 (past_over p ws rest hs.1)

pub past_group : (p : ℕ → Bool) (bytes front back : List ℕ) (n : ℕ) → front ≡ take n bytes → back ≡ drop n bytes → list_all p front ≡ true → past p back ≡ past p bytes
past_group p bytes front back n front_is back_is are =
    sym (past_over p front back are) ∙ ap (past p) (ap (λ (l : List ℕ). l ++ back) front_is ∙ ap (λ (l : List ℕ). take n bytes ++ l) back_is ∙ take-append-drop n bytes)

pub record Passed (p : ℕ → Bool) (bytes rest : List ℕ) : Type 0 where
  pub front : List ℕ
  pub are : list_all p front ≡ true
  pub text : bytes ≡ front ++ rest

past_step : (p : ℕ → Bool) (b : ℕ) (bytes : List ℕ) (t : Bool) → p b ≡ t → Passed p bytes (past p bytes) → Passed p (b ∷ bytes) (past p (b ∷ bytes))
unfolding past
past_step p b bytes true h q = rw h (record { front = b ∷ q.front; are = and_from (p b) (list_all p q.front) h q.are; text = ap (λ (l : List ℕ). b ∷ l) q.text })
past_step p b bytes false h q = rw h (record { front = []; are = refl; text = refl })

pub past_is : (p : ℕ → Bool) (bytes : List ℕ) → Passed p bytes (past p bytes)
unfolding past
past_is p [] = record { front = []; are = refl; text = refl }
past_is p (b ∷ bytes) = past_step p b bytes (p b) refl (past_is p bytes)

test_is : (a b : ℕ) → (a == b) ≡ true → a ≡ b
test_is a b h = grind arith

test_same : (a : ℕ) → (a == a) ≡ true
test_same a = grind arith

pub word_none : (word bytes rest : List ℕ) (i : ℕ) → i < length word → length rest < 1 → word_at (drop i word) rest ≡ word_at word bytes → word_at word bytes ≡ Err (At 0)
unfolding word_at
word_none word bytes (b ∷ rest) i lt none same = absurd (omega arith)
word_none word bytes [] i lt none same = sym same ∙ ap (λ (w : List ℕ). word_at w []) (drop-cons word i 0 lt)

pub word_sound : (word bytes rest : List ℕ) → word_at word bytes ≡ Ok rest → bytes ≡ word ++ rest
unfolding word_at
word_sound [] bytes rest e = ok_is bytes rest e
word_sound (c ∷ word) [] rest e = absurd cc
word_sound (c ∷ word) (b ∷ bytes) rest e = elim (split (b == c) (word_at word bytes) (Err (At (length (b ∷ bytes)))) (Ok rest) e) [
  | inl h ↦ ap (λ (x : ℕ). x ∷ bytes) (test_is b c h.0) ∙ ap (λ (l : List ℕ). c ∷ l) (word_sound word bytes rest h.1)
  | inr h ↦ absurd (let f = h.1 in cc)
]

pub word_complete : (word rest : List ℕ) → word_at word (word ++ rest) ≡ Ok rest
unfolding word_at
word_complete [] rest = refl
word_complete (c ∷ word) rest = rw (test_same c) (word_complete word rest)
