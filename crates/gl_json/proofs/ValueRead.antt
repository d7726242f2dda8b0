-- Values, members and whole texts: what is read has the form of the grammar, and the other way.
use Rattle.std.proofs.Common.{◌≡◌, ℕ, zero, suc, ◌-◌, ◌<◌, ◌||◌, ◌==◌, true, false, List, [], ◌∷◌, ◌++◌, Result, Ok, Err, refl, sym, ap, subst, ◌∙◌, inl, inr, arith, append_assoc}
use Rattle.std.specs.Prelude.{codes}
use Rattle.std.proofs.lemmas.Bool.{and_parts}
use Rattle.std.specs.List.{list_all}
use Rattle.std.proofs.lemmas.List.{append-nil}
use Rattle.gl_base.specs.Bytes.{is_digit, behind_first}
use Rattle.gl_json.specs.declared.bytes.Stop.{Stop}
use Rattle.gl_json.specs.declared.bytes.Stop.TheVariants.{Deep}
use Rattle.gl_json.specs.Chars.{inside}
use Rattle.gl_json.specs.Numbers.{IsNumber}
use Rattle.gl_json.specs.Grammar.{Value, text, number, yes_, no_, null, object, array, Pair, is_blank, AreBlanks, AreBetween, IsItem, item, IsMember, member, IsValueOf, a_text, a_number, a_true, a_false, a_null, an_object, an_array, IsObjectIn, IsArrayIn, IsValue, IsObject, IsObjectText}
use Rattle.gl_json.specs.JsonReading.{◌>>=◌, Read, Skip, trimmed, before, sign_at, word_at, string_at, number_at, elements_at, rest_of, part_of, valued, text_at, value_of, item_at, member_at, objects_at, arrays_at, value_at, ended, whole_at}
use Rattle.gl_json.proofs.Taking.{bound, goes_on, ok_is, split, one_sound, one_complete, before_is, past_is, word_sound, word_complete}
use Rattle.gl_json.proofs.CharRead.{take_no, eq_is, string_sound, string_complete}
use Rattle.gl_json.proofs.NumberRead.{heads, goes_no_number, number_sound, number_complete, number_first}
use Rattle.gl_json.proofs.ElementRead.{Found, IsSound, ends_element, begins_element, IsComplete, elements_sound, elements_complete, trimmed_element, trimmed_end, trimmed_sign, trimmed_all}

pub item_sound : (value : List ℕ → Read Value) (Is : List ℕ → Value → Type 0) → IsSound value Is → IsSound (item_at value) (IsItem Is)
unfolding item_at
item_sound value Is sound bytes y e =
    let p = bound (value bytes) (λ v. Ok (v.0, trimmed v.1)) y e in
    let f = sound bytes p.0 p.1 in
    let ws = past_is is_blank p.0.1 in
    subst (Found (IsItem Is) bytes) (ok_is (p.0.0, trimmed p.0.1) y p.2) (record {
      piece = f.piece ++ ws.front;
      is = item f.piece ws.front p.0.0 f.is ws.are;
      text = f.text ∙ ap (λ (l : List ℕ). f.piece ++ l) ws.text ∙ sym (append_assoc f.piece ws.front (trimmed p.0.1));
    })

member_text : (s ws us t vs rest : List ℕ) → 34 ∷ (s ++ 34 ∷ (ws ++ 58 ∷ (us ++ (t ++ (vs ++ rest))))) ≡ (34 ∷ (s ++ 34 ∷ (ws ++ 58 ∷ (us ++ (t ++ vs))))) ++ rest
member_text s ws us t vs rest = sym (simp append_assoc)

pub member_sound : (value : List ℕ → Read Value) (Is : List ℕ → Value → Type 0) → IsSound value Is → IsSound (member_at value) (IsMember Is)
unfolding member_at
member_sound value Is sound bytes y e =
    let last : List ℕ → Value × List ℕ → Result (Pair × List ℕ) Stop = λ n v. Ok (record { name = n; value = v.0 }, trimmed v.1) in
    let p = bound (sign_at 34 bytes) (λ quote. string_at quote.1 >>= (λ name. sign_at 58 (trimmed name.1) >>= (λ colon. value (trimmed colon.1) >>= (λ v. last name.0 v)))) y e in
    let q = bound (string_at p.0.1) (λ name. sign_at 58 (trimmed name.1) >>= (λ colon. value (trimmed colon.1) >>= (λ v. last name.0 v))) y p.2 in
    let r = bound (sign_at 58 (trimmed q.0.1)) (λ colon. value (trimmed colon.1) >>= (λ v. last q.0.0 v)) y q.2 in
    let s = bound (value (trimmed r.0.1)) (λ v. last q.0.0 v) y r.2 in
    let quote = one_sound (λ b. b == 34) bytes p.0 p.1 in
    let name = string_sound p.0.1 q.0 q.1 in
    let ws = past_is is_blank q.0.1 in
    let colon = one_sound (λ b. b == 58) (trimmed q.0.1) r.0 r.1 in
    let us = past_is is_blank r.0.1 in
    let f = sound (trimmed r.0.1) s.0 s.1 in
    let vs = past_is is_blank s.0.1 in
    let from_value : trimmed r.0.1 ≡ f.piece ++ (vs.front ++ trimmed s.0.1) = f.text ∙ ap (λ (l : List ℕ). f.piece ++ l) vs.text in
    let from_colon : trimmed q.0.1 ≡ 58 ∷ (us.front ++ (f.piece ++ (vs.front ++ trimmed s.0.1))) =
    colon.1 ∙ ap (λ (b : ℕ). b ∷ r.0.1) (eq_is r.0.0 58 colon.0) ∙ ap (λ (l : List ℕ). 58 ∷ l) (us.text ∙ ap (λ (l : List ℕ). us.front ++ l) from_value) in
    let whole : bytes ≡ 34 ∷ (inside name.cs ++ 34 ∷ (ws.front ++ 58 ∷ (us.front ++ (f.piece ++ (vs.front ++ trimmed s.0.1))))) =
    quote.1 ∙ ap (λ (b : ℕ). b ∷ p.0.1) (eq_is p.0.0 34 quote.0)
    ∙ ap (λ (l : List ℕ). 34 ∷ l) (name.text ∙ ap (λ (l : List ℕ). inside name.cs ++ 34 ∷ l) (ws.text ∙ ap (λ (l : List ℕ). ws.front ++ l) from_colon)) in
    let named : (let pr : Pair × List ℕ = (record { name = inside name.cs; value = s.0.0 }, trimmed s.0.1) in pr) ≡ y =
    ap (λ (n : List ℕ). (let pr : Pair × List ℕ = (record { name = n; value = s.0.0 }, trimmed s.0.1) in pr)) (sym name.inside_is)
    ∙ ok_is (record { name = q.0.0; value = s.0.0 }, trimmed s.0.1) y s.2 in
    subst (Found (IsMember Is) bytes) named (record {
      piece = 34 ∷ (inside name.cs ++ 34 ∷ (ws.front ++ 58 ∷ (us.front ++ (f.piece ++ vs.front))));
      is = member name.cs ws.front us.front f.piece vs.front s.0.0 name.are ws.are us.are f.is vs.are;
      text = whole ∙ member_text (inside name.cs) ws.front us.front f.piece vs.front (trimmed s.0.1);
    })

-- what a reader of nested values skips behind the opening sign
abbrev pub SkipIsSound : (List ℕ → Skip) → (List ℕ → Type 0) → ℕ → Type 0
SkipIsSound skip Is opening = (bytes rest : List ℕ) → skip bytes ≡ Ok rest → (piece : List ℕ) × Is piece × (opening ∷ bytes ≡ piece ++ rest)

part_is : (kind : List ℕ → Value) (bytes : List ℕ) (r : Skip) (y : Value × List ℕ) → part_of kind bytes r ≡ Ok y → (rest : List ℕ) × (r ≡ Ok rest) × ((kind (before rest bytes), rest) ≡ y)
part_is kind bytes (Ok rest) y e = (rest, refl, ok_is (kind (before rest bytes), rest) y e)
part_is kind bytes (Err stop) y e = absurd cc

valued_is : (v : Value) (r : Skip) (y : Value × List ℕ) → valued v r ≡ Ok y → (rest : List ℕ) × (r ≡ Ok rest) × ((v, rest) ≡ y)
valued_is v (Ok rest) y e = (rest, refl, ok_is (v, rest) y e)
valued_is v (Err stop) y e = absurd cc

text_sound : (O A : List ℕ → Type 0) (b : ℕ) (bytes : List ℕ) (y : Value × List ℕ) → (b == 34) ≡ true → text_at bytes ≡ Ok y → Found (IsValueOf O A) (b ∷ bytes) y
unfolding text_at
text_sound O A b bytes y h e =
    let p = bound (string_at bytes) (λ string. Ok (text string.0, string.1)) y e in
    let s = string_sound bytes p.0 p.1 in
    let same : (text (inside s.cs), p.0.1) ≡ y = ap (λ (l : List ℕ). (text l, p.0.1)) (sym s.inside_is) ∙ ok_is (text p.0.0, p.0.1) y p.2 in
    subst (Found (IsValueOf O A) (b ∷ bytes)) same (record {
      piece = 34 ∷ (inside s.cs ++ 34 ∷ []);
      is = a_text s.cs s.are;
      text = ap (λ (x : ℕ). x ∷ bytes) (eq_is b 34 h) ∙ ap (λ (l : List ℕ). 34 ∷ l) (s.text ∙ sym (append_assoc (inside s.cs) (34 ∷ []) p.0.1));
    })

word_found : (O A : List ℕ → Type 0) (b first : ℕ) (word bytes : List ℕ) (v : Value) (y : Value × List ℕ) → (b == first) ≡ true → IsValueOf O A (first ∷ word) v
    → valued v (word_at word bytes) ≡ Ok y → Found (IsValueOf O A) (b ∷ bytes) y
word_found O A b first word bytes v y h is e =
    let p = valued_is v (word_at word bytes) y e in
    subst (Found (IsValueOf O A) (b ∷ bytes)) p.2 (record {
      piece = first ∷ word;
      is = is;
      text = ap (λ (x : ℕ). x ∷ bytes) (eq_is b first h) ∙ ap (λ (l : List ℕ). first ∷ l) (word_sound word bytes p.0 p.1);
    })

part_found : (O A : List ℕ → Type 0) (kind : List ℕ → Value) (bytes piece rest : List ℕ) (y : Value × List ℕ) → IsValueOf O A piece (kind piece) → bytes ≡ piece ++ rest
    → (kind (before rest bytes), rest) ≡ y → Found (IsValueOf O A) bytes y
part_found O A kind bytes piece rest y is parts same =
    let front : before rest bytes ≡ piece = ap (before rest) parts ∙ before_is piece rest in
    subst (Found (IsValueOf O A) bytes) (ap (λ (l : List ℕ). (kind l, rest)) (sym front) ∙ same) (record { piece = piece; is = is; text = parts })

number_found : (O A : List ℕ → Type 0) (bytes : List ℕ) (y : Value × List ℕ) → part_of number bytes (number_at bytes) ≡ Ok y → Found (IsValueOf O A) bytes y
number_found O A bytes y e =
    let p = part_is number bytes (number_at bytes) y e in
    let n = number_sound bytes p.0 p.1 in
    part_found O A number bytes n.literal p.0 y (a_number n.literal n.is) n.text p.2

object_found : (O A : List ℕ → Type 0) (skip : List ℕ → Skip) (b : ℕ) (bytes : List ℕ) (y : Value × List ℕ) → SkipIsSound skip O 123 → (b == 123) ≡ true
    → part_of object (b ∷ bytes) (skip bytes) ≡ Ok y → Found (IsValueOf O A) (b ∷ bytes) y
object_found O A skip b bytes y sound h e =
    let p = part_is object (b ∷ bytes) (skip bytes) y e in
    let o = sound bytes p.0 p.1 in
    part_found O A object (b ∷ bytes) o.0 p.0 y (an_object o.0 o.1) (ap (λ (x : ℕ). x ∷ bytes) (eq_is b 123 h) ∙ o.2) p.2

array_found : (O A : List ℕ → Type 0) (skip : List ℕ → Skip) (b : ℕ) (bytes : List ℕ) (y : Value × List ℕ) → SkipIsSound skip A 91 → (b == 91) ≡ true
    → part_of array (b ∷ bytes) (skip bytes) ≡ Ok y → Found (IsValueOf O A) (b ∷ bytes) y
array_found O A skip b bytes y sound h e =
    let p = part_is array (b ∷ bytes) (skip bytes) y e in
    let o = sound bytes p.0 p.1 in
    part_found O A array (b ∷ bytes) o.0 p.0 y (an_array o.0 o.1) (ap (λ (x : ℕ). x ∷ bytes) (eq_is b 91 h) ∙ o.2) p.2

pub value_of_sound : (O A : List ℕ → Type 0) (object_at array_at : List ℕ → Skip) → SkipIsSound object_at O 123 → SkipIsSound array_at A 91 → IsSound (value_of object_at array_at) (IsValueOf O A)
unfolding value_of
value_of_sound O A object_at array_at objects arrays [] y e = absurd cc
value_of_sound O A object_at array_at objects arrays (b ∷ bytes) y e = elim (split (b == 34) (text_at bytes) _ (Ok y) e) [
  | inl h ↦ text_sound O A b bytes y h.0 h.1
  | inr h ↦ elim (split (b == 123) (part_of object (b ∷ bytes) (object_at bytes)) _ (Ok y) h.1) [
    | inl i ↦ object_found O A object_at b bytes y objects i.0 i.1
    | inr i ↦ elim (split (b == 91) (part_of array (b ∷ bytes) (array_at bytes)) _ (Ok y) i.1) [
      | inl j ↦ array_found O A array_at b bytes y arrays j.0 j.1
      | inr j ↦ elim (split (b == 116) (valued yes_ (word_at (codes "rue") bytes)) _ (Ok y) j.1) [
        | inl k ↦ word_found O A b 116 (codes "rue") bytes yes_ y k.0 a_true k.1
        | inr k ↦ elim (split (b == 102) (valued no_ (word_at (codes "alse") bytes)) _ (Ok y) k.1) [
          | inl l ↦ word_found O A b 102 (codes "alse") bytes no_ y l.0 a_false l.1
          | inr l ↦ elim (split (b == 110) (valued null (word_at (codes "ull") bytes)) _ (Ok y) l.1) [
            | inl m ↦ word_found O A b 110 (codes "ull") bytes null y m.0 a_null m.1
            | inr m ↦ number_found O A (b ∷ bytes) y m.1
          ]
        ]
      ]
    ]
  ]
]

rest_is : {X : Type 0} (r : Read X) (rest : List ℕ) → rest_of r ≡ Ok rest → (x : X) × (r ≡ Ok (x, rest))
rest_is (Ok x) rest e = (x.0, ap (λ (l : List ℕ). (let r : Read _ = Ok (x.0, l) in r)) (ok_is x.1 rest e))
rest_is (Err stop) rest e = absurd cc

elements_skip : {X : Type 0} (one : List ℕ → Read X) (opening closing : ℕ) (Is : List ℕ → X → Type 0) → IsSound one Is
    → SkipIsSound (λ bytes. rest_of (elements_at one closing bytes)) (λ t. (xs : List X) × AreBetween opening closing Is t xs) opening
elements_skip one opening closing Is sound bytes rest e =
    let p = rest_is (elements_at one closing bytes) rest e in
    let f = elements_sound one opening closing Is sound bytes (p.0, rest) p.1 in
    (f.piece, (p.0, f.is), f.text)

nested_sound : (n : ℕ) → SkipIsSound (objects_at n) (IsObjectIn n) 123 × SkipIsSound (arrays_at n) (IsArrayIn n) 91
unfolding objects_at arrays_at IsObjectIn IsArrayIn
nested_sound zero = (λ bytes rest e. absurd cc, λ bytes rest e. absurd cc)
nested_sound (suc n) =
    let p = nested_sound n in
    let values = value_of_sound (IsObjectIn n) (IsArrayIn n) (objects_at n) (arrays_at n) p.0 p.1 in (
      elements_skip (member_at (value_at n)) 123 125 (IsMember (IsValue n)) (member_sound (value_at n) (IsValue n) values),
      elements_skip (item_at (value_at n)) 91 93 (IsItem (IsValue n)) (item_sound (value_at n) (IsValue n) values),
    )

pub value_sound : (n : ℕ) → IsSound (value_at n) (IsValue n)
value_sound n = let p = nested_sound n in value_of_sound (IsObjectIn n) (IsArrayIn n) (objects_at n) (arrays_at n) p.0 p.1

-- the other way

pub record IsReadable (value : List ℕ → Read Value) (Is : List ℕ → Value → Type 0) : Type 0 where
  pub reads : (t : List ℕ) (v : Value) (rest : List ℕ) → Is t v → heads goes_no_number rest ≡ true → value (t ++ rest) ≡ Ok (v, rest)
  pub begins : (t : List ℕ) (v : Value) → Is t v → begins_element t ≡ true

blank_heads : (b : ℕ) → is_blank b ≡ true → goes_no_number b ≡ true
blank_heads b h = grind arith

end_heads : (ws rest : List ℕ) → AreBlanks ws → ends_element rest ≡ true → heads goes_no_number (ws ++ rest) ≡ true
end_heads [] [] are h = absurd cc
end_heads [] (b ∷ rest) are h = grind arith
end_heads (w ∷ ws) rest are h = blank_heads w (and_parts (is_blank w) (list_all is_blank ws) are).0

begins_longer : (t rest : List ℕ) → begins_element t ≡ true → begins_element (t ++ rest) ≡ true
begins_longer [] rest h = absurd cc
begins_longer (b ∷ t) rest h = h

item_reads : (value : List ℕ → Read Value) (Is : List ℕ → Value → Type 0) → IsReadable value Is
    → (t : List ℕ) (v : Value) (rest : List ℕ) → IsItem Is t v → ends_element rest ≡ true → item_at value (t ++ rest) ≡ Ok (v, rest)
unfolding item_at
item_reads value Is full t v rest (item u ws w is blank) h =
    ap (λ (l : List ℕ). value l >>= (λ x. Ok (x.0, trimmed x.1))) (append_assoc u ws rest)
    ∙ goes_on (value (u ++ (ws ++ rest))) (λ x. Ok (x.0, trimmed x.1)) (w, ws ++ rest) (full.reads u w (ws ++ rest) is (end_heads ws rest blank h))
    ∙ ap (λ (l : List ℕ). Ok (w, l)) (trimmed_end ws rest blank h)

item_begins : (value : List ℕ → Read Value) (Is : List ℕ → Value → Type 0) → IsReadable value Is → (t : List ℕ) (v : Value) → IsItem Is t v → begins_element t ≡ true
item_begins value Is full t v (item u ws w is blank) = begins_longer u ws (full.begins u w is)

member_reads : (value : List ℕ → Read Value) (Is : List ℕ → Value → Type 0) → IsReadable value Is
    → (t : List ℕ) (m : Pair) (rest : List ℕ) → IsMember Is t m → ends_element rest ≡ true → member_at value (t ++ rest) ≡ Ok (m, rest)
unfolding member_at
member_reads value Is full t m rest (member cs ws us u vs v are a b is c) h =
    let last : List ℕ → Value × List ℕ → Result (Pair × List ℕ) Stop = λ n v. Ok (record { name = n; value = v.0 }, trimmed v.1) in
    let behind_value : List ℕ = vs ++ rest in
    let behind_colon : List ℕ = us ++ (u ++ behind_value) in
    let behind_name : List ℕ = ws ++ 58 ∷ behind_colon in
    ap (member_at value) (sym (member_text (inside cs) ws us u vs rest))
    ∙ goes_on (sign_at 34 (34 ∷ (inside cs ++ 34 ∷ behind_name))) (λ quote. string_at quote.1 >>= (λ name. sign_at 58 (trimmed name.1) >>= (λ colon. value (trimmed colon.1) >>= (λ v. last name.0 v))))
    (34, inside cs ++ 34 ∷ behind_name) (one_complete (λ b. b == 34) 34 (inside cs ++ 34 ∷ behind_name) refl)
    ∙ goes_on (string_at (inside cs ++ 34 ∷ behind_name)) (λ name. sign_at 58 (trimmed name.1) >>= (λ colon. value (trimmed colon.1) >>= (λ v. last name.0 v)))
    (inside cs, behind_name) (string_complete cs behind_name are)
    ∙ ap (λ (l : List ℕ). sign_at 58 l >>= (λ colon. value (trimmed colon.1) >>= (λ v. last (inside cs) v))) (trimmed_sign ws 58 behind_colon a refl)
    ∙ goes_on (sign_at 58 (58 ∷ behind_colon)) (λ colon. value (trimmed colon.1) >>= (λ v. last (inside cs) v)) (58, behind_colon) (one_complete (λ b. b == 58) 58 behind_colon refl)
    ∙ ap (λ (l : List ℕ). value l >>= (λ v. last (inside cs) v)) (trimmed_element us u behind_value b (full.begins u v is))
    ∙ goes_on (value (u ++ behind_value)) (λ v. last (inside cs) v) (v, behind_value) (full.reads u v behind_value is (end_heads vs rest c h))
    ∙ ap (λ (l : List ℕ). Ok (record { name = inside cs; value = v }, l)) (trimmed_end vs rest c h)

member_begins : (Is : List ℕ → Value → Type 0) (t : List ℕ) (m : Pair) → IsMember Is t m → begins_element t ≡ true
member_begins Is t m (member cs ws us u vs v are a b is c) = refl

pub item_complete : (value : List ℕ → Read Value) (Is : List ℕ → Value → Type 0) → IsReadable value Is → IsComplete (item_at value) (IsItem Is)
item_complete value Is full = record { reads = item_reads value Is full; begins = item_begins value Is full }

pub member_complete : (value : List ℕ → Read Value) (Is : List ℕ → Value → Type 0) → IsReadable value Is → IsComplete (member_at value) (IsMember Is)
member_complete value Is full = record { reads = member_reads value Is full; begins = member_begins Is }

-- a nested value is skipped
abbrev pub SkipIsComplete : (List ℕ → Skip) → (List ℕ → Type 0) → ℕ → Type 0
SkipIsComplete skip Is opening = (t rest : List ℕ) → Is t → (inner : List ℕ) × (t ≡ opening ∷ inner) × (skip (inner ++ rest) ≡ Ok rest)

number_begins : (b : ℕ) (bs : List ℕ) → is_digit b || (b == 45) ≡ true → begins_element (b ∷ bs) ≡ true
number_begins b bs h = grind arith

number_not : (b : ℕ) → is_digit b || (b == 45) ≡ true
    → (b == 34 ≡ false) × (b == 123 ≡ false) × (b == 91 ≡ false) × (b == 116 ≡ false) × (b == 102 ≡ false) × (b == 110 ≡ false)
number_not b h = (grind arith, grind arith, grind arith, grind arith, grind arith, grind arith)

number_reads : (object_at array_at : List ℕ → Skip) (t rest : List ℕ) → IsNumber t → heads goes_no_number rest ≡ true → value_of object_at array_at (t ++ rest) ≡ Ok (number t, rest)
unfolding value_of
number_reads object_at array_at t rest is h =
    let f = number_first t is in
    let n = number_not f.0 f.3 in
    let whole : number_at ((f.0 ∷ f.1) ++ rest) ≡ Ok rest = subst (λ (l : List ℕ). number_at (l ++ rest) ≡ Ok rest) f.2 (number_complete t rest is h) in
    subst (λ (l : List ℕ). value_of object_at array_at (l ++ rest) ≡ Ok (number l, rest)) (sym f.2)
    (take_no (f.0 == 34) _ _ n.0 ∙ take_no (f.0 == 123) _ _ n.1 ∙ take_no (f.0 == 91) _ _ n.2 ∙ take_no (f.0 == 116) _ _ n.3 ∙ take_no (f.0 == 102) _ _ n.4 ∙ take_no (f.0 == 110) _ _ n.5
    ∙ ap (part_of number ((f.0 ∷ f.1) ++ rest)) whole ∙ ap (λ (l : List ℕ). Ok (number l, rest)) (before_is (f.0 ∷ f.1) rest))

part_reads : (kind : List ℕ → Value) (opening : ℕ) (inner rest : List ℕ) (r : Skip) → r ≡ Ok rest → part_of kind (opening ∷ (inner ++ rest)) r ≡ Ok (kind (opening ∷ inner), rest)
part_reads kind opening inner rest r e = ap (part_of kind (opening ∷ (inner ++ rest))) e ∙ ap (λ (l : List ℕ). Ok (kind l, rest)) (before_is (opening ∷ inner) rest)

value_of_reads : (O A : List ℕ → Type 0) (object_at array_at : List ℕ → Skip) → SkipIsComplete object_at O 123 → SkipIsComplete array_at A 91
    → (t : List ℕ) (v : Value) (rest : List ℕ) → IsValueOf O A t v → heads goes_no_number rest ≡ true → value_of object_at array_at (t ++ rest) ≡ Ok (v, rest)
unfolding value_of text_at
value_of_reads O A object_at array_at objects arrays t v rest (a_text cs are) h =
    ap (λ (l : List ℕ). value_of object_at array_at (34 ∷ l)) (append_assoc (inside cs) (34 ∷ []) rest)
    ∙ goes_on (string_at (inside cs ++ 34 ∷ rest)) (λ string. Ok (text string.0, string.1)) (inside cs, rest) (string_complete cs rest are)
value_of_reads O A object_at array_at objects arrays t v rest (a_number u is) h = number_reads object_at array_at u rest is h
value_of_reads O A object_at array_at objects arrays t v rest a_true h = ap (valued yes_) (word_complete (codes "rue") rest)
value_of_reads O A object_at array_at objects arrays t v rest a_false h = ap (valued no_) (word_complete (codes "alse") rest)
value_of_reads O A object_at array_at objects arrays t v rest a_null h = ap (valued null) (word_complete (codes "ull") rest)
value_of_reads O A object_at array_at objects arrays t v rest (an_object u is) h =
    let p = objects u rest is in
    subst (λ (l : List ℕ). value_of object_at array_at (l ++ rest) ≡ Ok (object l, rest)) (sym p.1) (part_reads object 123 p.0 rest (object_at (p.0 ++ rest)) p.2)
value_of_reads O A object_at array_at objects arrays t v rest (an_array u is) h =
    let p = arrays u rest is in
    subst (λ (l : List ℕ). value_of object_at array_at (l ++ rest) ≡ Ok (array l, rest)) (sym p.1) (part_reads array 91 p.0 rest (array_at (p.0 ++ rest)) p.2)

value_of_begins : (O A : List ℕ → Type 0) (object_at array_at : List ℕ → Skip) → SkipIsComplete object_at O 123 → SkipIsComplete array_at A 91
    → (t : List ℕ) (v : Value) → IsValueOf O A t v → begins_element t ≡ true
value_of_begins O A object_at array_at objects arrays t v (a_text cs are) = refl
value_of_begins O A object_at array_at objects arrays t v (a_number u is) =
    let f = number_first u is in
    subst (λ (l : List ℕ). begins_element l ≡ true) (sym f.2) (number_begins f.0 f.1 f.3)
value_of_begins O A object_at array_at objects arrays t v a_true = refl
value_of_begins O A object_at array_at objects arrays t v a_false = refl
value_of_begins O A object_at array_at objects arrays t v a_null = refl
value_of_begins O A object_at array_at objects arrays t v (an_object u is) =
    let p = objects u [] is in
    subst (λ (l : List ℕ). begins_element l ≡ true) (sym p.1) refl
value_of_begins O A object_at array_at objects arrays t v (an_array u is) =
    let p = arrays u [] is in
    subst (λ (l : List ℕ). begins_element l ≡ true) (sym p.1) refl

value_of_complete : (O A : List ℕ → Type 0) (object_at array_at : List ℕ → Skip) → SkipIsComplete object_at O 123 → SkipIsComplete array_at A 91 → IsReadable (value_of object_at array_at) (IsValueOf O A)
value_of_complete O A object_at array_at objects arrays = record { reads = value_of_reads O A object_at array_at objects arrays; begins = value_of_begins O A object_at array_at objects arrays }

elements_skipped : {X : Type 0} (one : List ℕ → Read X) (opening closing : ℕ) (Is : List ℕ → X → Type 0) → IsComplete one Is → closing == 44 ≡ false → ends_element (closing ∷ []) ≡ true
    → SkipIsComplete (λ bytes. rest_of (elements_at one closing bytes)) (λ t. (xs : List X) × AreBetween opening closing Is t xs) opening
elements_skipped one opening closing Is full apart ends t rest is =
    let b = elements_complete one opening closing Is full apart ends t rest is.0 is.1 in
    (b.inner, b.text, ap rest_of b.reads)

nested_complete : (n : ℕ) → SkipIsComplete (objects_at n) (IsObjectIn n) 123 × SkipIsComplete (arrays_at n) (IsArrayIn n) 91
unfolding objects_at arrays_at IsObjectIn IsArrayIn
nested_complete zero = (λ t rest is. absurd is, λ t rest is. absurd is)
nested_complete (suc n) =
    let p = nested_complete n in
    let values = value_of_complete (IsObjectIn n) (IsArrayIn n) (objects_at n) (arrays_at n) p.0 p.1 in (
      elements_skipped (member_at (value_at n)) 123 125 (IsMember (IsValue n)) (member_complete (value_at n) (IsValue n) values) refl refl,
      elements_skipped (item_at (value_at n)) 91 93 (IsItem (IsValue n)) (item_complete (value_at n) (IsValue n) values) refl refl,
    )

pub value_complete : (n : ℕ) → IsReadable (value_at n) (IsValue n)
value_complete n = let p = nested_complete n in value_of_complete (IsObjectIn n) (IsArrayIn n) (objects_at n) (arrays_at n) p.0 p.1

-- an object behind its opening brace

pub nested_reads : (n : ℕ) (t : List ℕ) (ms : List Pair) → IsObject n t ms → elements_at (member_at (value_at n)) 125 (behind_first t) ≡ Ok (ms, [])
nested_reads n t ms is =
    let b = elements_complete (member_at (value_at n)) 123 125 (IsMember (IsValue n)) (member_complete (value_at n) (IsValue n) (value_complete n)) refl refl t [] ms is in
    let behind : behind_first t ≡ b.inner ++ [] = ap behind_first b.text ∙ sym (append-nil b.inner) in
    ap (elements_at (member_at (value_at n)) 125) behind ∙ b.reads

-- whole texts

ended_is : (ms : List Pair) (rest : List ℕ) (ns : List Pair) → ended ms rest ≡ Ok ns → (rest ≡ []) × (ms ≡ ns)
ended_is ms [] ns e = (refl, ok_is ms ns e)
ended_is ms (b ∷ rest) ns e = absurd cc

pub whole_sound : (bytes : List ℕ) (ms : List Pair) → whole_at bytes ≡ Ok ms → IsObjectText bytes ms
unfolding whole_at
whole_sound bytes ms e =
    let p = bound (sign_at 123 (trimmed bytes)) (λ opening. elements_at (member_at (value_at 63)) 125 opening.1 >>= (λ xs. ended xs.0 (trimmed xs.1))) ms e in
    let q = bound (elements_at (member_at (value_at 63)) 125 p.0.1) (λ xs. ended xs.0 (trimmed xs.1)) ms p.2 in
    let o = one_sound (λ b. b == 123) (trimmed bytes) p.0 p.1 in
    let ws = past_is is_blank bytes in
    let f = elements_sound (member_at (value_at 63)) 123 125 (IsMember (IsValue 63)) (member_sound (value_at 63) (IsValue 63) (value_sound 63)) p.0.1 q.0 q.1 in
    let vs = past_is is_blank q.0.1 in
    let end = ended_is q.0.0 (trimmed q.0.1) ms q.2 in
    record {
      before = ws.front;
      t = f.piece;
      behind = vs.front;
      parts = ws.text ∙ ap (λ (l : List ℕ). ws.front ++ l) (o.1 ∙ ap (λ (b : ℕ). b ∷ p.0.1) (eq_is p.0.0 123 o.0) ∙ f.text
          ∙ ap (λ (l : List ℕ). f.piece ++ l) (vs.text ∙ ap (λ (l : List ℕ). vs.front ++ l) end.0 ∙ append-nil vs.front));
      before_is = ws.are;
      is = subst (λ (xs : List Pair). IsObject 63 f.piece xs) end.1 f.is;
      behind_is = vs.are;
    }

pub whole_complete : (bytes : List ℕ) (ms : List Pair) → IsObjectText bytes ms → whole_at bytes ≡ Ok ms
unfolding whole_at
whole_complete bytes ms is =
    let b = elements_complete (member_at (value_at 63)) 123 125 (IsMember (IsValue 63)) (member_complete (value_at 63) (IsValue 63) (value_complete 63)) refl refl is.t is.behind ms is.is in
    let whole : bytes ≡ is.before ++ 123 ∷ (b.inner ++ is.behind) = is.parts ∙ ap (λ (l : List ℕ). is.before ++ (l ++ is.behind)) b.text in
    ap whole_at whole
    ∙ ap (λ (l : List ℕ). sign_at 123 l >>= (λ opening. elements_at (member_at (value_at 63)) 125 opening.1 >>= (λ xs. ended xs.0 (trimmed xs.1)))) (trimmed_sign is.before 123 (b.inner ++ is.behind) is.before_is refl)
    ∙ goes_on (sign_at 123 (123 ∷ (b.inner ++ is.behind))) (λ opening. elements_at (member_at (value_at 63)) 125 opening.1 >>= (λ xs. ended xs.0 (trimmed xs.1))) (123, b.inner ++ is.behind)
    (one_complete (λ x. x == 123) 123 (b.inner ++ is.behind) refl)
    ∙ goes_on (elements_at (member_at (value_at 63)) 125 (b.inner ++ is.behind)) (λ xs. ended xs.0 (trimmed xs.1)) (ms, is.behind) b.reads
    ∙ ap (ended ms) (trimmed_all is.behind is.behind_is)

-- one level

pub objects_none : (n : ℕ) (bytes : List ℕ) → n ≡ 0 → objects_at n bytes ≡ Err Deep
unfolding objects_at
objects_none zero bytes h = refl
objects_none (suc n) bytes h = absurd (omega arith)

pub arrays_none : (n : ℕ) (bytes : List ℕ) → n ≡ 0 → arrays_at n bytes ≡ Err Deep
unfolding arrays_at
arrays_none zero bytes h = refl
arrays_none (suc n) bytes h = absurd (omega arith)

pub objects_some : (n : ℕ) (bytes : List ℕ) → 0 < n → objects_at n bytes ≡ rest_of (elements_at (member_at (value_at (n - 1))) 125 bytes)
unfolding objects_at
objects_some zero bytes h = absurd (omega arith)
objects_some (suc n) bytes h = let same : suc n - 1 ≡ n = omega arith in rw same refl

pub arrays_some : (n : ℕ) (bytes : List ℕ) → 0 < n → arrays_at n bytes ≡ rest_of (elements_at (item_at (value_at (n - 1))) 93 bytes)
unfolding arrays_at
arrays_some zero bytes h = absurd (omega arith)
arrays_some (suc n) bytes h = let same : suc n - 1 ≡ n = omega arith in rw same refl
