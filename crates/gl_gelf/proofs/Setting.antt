-- Fields set one behind the other.
use Rattle.std.proofs.Common.{◌≡◌, ℕ, List, [], ◌∷◌, ◌++◌, suc, zero, ◌+◌, ◌<◌, Bool, true, false, not, cond, map, drop, get_or, length, codes, pos, Option, Some, None, ◌-◌, ◌≤◌, Ok, Err, Result, subst, arith, refl, sym, ap, ap₂, ◌||◌, ◌∙◌}
use Rattle.gl_fields.specs.declared.entry.Cause.{Cause}
use Rattle.gl_fields.specs.declared.field.Field.{Field}
use Rattle.std.specs.Cow.{cow_str_bytes}
use Rattle.std.specs.List.{fold, flat_map, list_any}
use Rattle.std.proofs.lemmas.List.Sums.{fold-append}
use Rattle.std.proofs.lemmas.List.{drop_more, drop_all}
use Rattle.gl_fields.specs.declared.entry.Cause.TheVariants as causes
use Rattle.gl_fields.specs.declared.value.Value.{Value as Held}
use Rattle.gl_fields.specs.declared.value.Value.TheVariants.{Whole}
use Rattle.gl_json.specs.declared.bytes.Stop.{Stop as JsonStop}
use Rattle.gl_json.specs.declared.bytes.Stop.TheVariants.{At, Deep}
use Rattle.gl_json.specs.declared.refusal.JsonRefusal.{JsonRefusal}
use Rattle.gl_json.specs.declared.refusal.JsonRefusal.TheVariants as json
use Rattle.gl_json.specs.Places.{refused, object_of, Answers}
use Rattle.gl_json.specs.JsonReading.{whole_at}
use Rattle.gl_json.specs.Grammar.{Value, Pair}
use Rattle.gl_gelf.specs.declared.members.Named.{Named}
use Rattle.gl_fields.specs.declared.fault.DecodeFault.{DecodeFault}
use Rattle.gl_fields.specs.declared.fault.DecodeFault.TheVariants as faults
use Rattle.gl_gelf.specs.Members.{has_name, counted, are_last, value_named}
use Rattle.gl_gelf.specs.Parts.{put_all, named_view, IsRefusalOf}
use Rattle.gl_fields.specs.Putting.{text_field, then_put, IsPut, IsDecoded}
use Rattle.gl_fields.specs.Fields.{is_field_name}
use Rattle.gl_gelf.specs.Decoding.{is_named, is_reserved, field_name, given, held, additional, source, timestamp, level, full_message, named_fields, short_message, fields_behind, fields_of}

stays : (cause : Cause) (fs : List Field) → fold then_put (Err cause) fs ≡ Err cause
stays cause [] = refl
stays cause (f ∷ fs) = stays cause fs

-- behind fields that were put
pub set_ok : (xs ys m n : List Field) → put_all xs m ≡ Ok n → put_all (xs ++ ys) m ≡ put_all ys n
unfolding put_all
set_ok xs ys m n e = fold-append then_put (Ok m) xs ys ∙ ap (λ r. fold then_put r ys) e

pub set_err : (xs ys m : List Field) (c : Cause) → put_all xs m ≡ Err c → put_all (xs ++ ys) m ≡ Err c
unfolding put_all
set_err xs ys m c e = fold-append then_put (Ok m) xs ys ∙ ap (λ r. fold then_put r ys) e ∙ stays c ys

pub sets_err : (xs ys m n k : List Field) (e : DecodeFault) → IsPut {X = Unit {0}} (put_all xs m) (Err e) n → IsPut {X = Unit {0}} (put_all (xs ++ ys) m) (Err e) k
sets_err xs ys m n k (faults.Undecodable c) h = set_err xs ys m c h
sets_err xs ys m n k faults.OutOfMemory h = tt

pub sets_ok : (xs ys m n k : List Field) (r : Result (Unit {0}) DecodeFault) → put_all xs m ≡ Ok n → IsPut (put_all ys n) r k → IsPut (put_all (xs ++ ys) m) r k
sets_ok xs ys m n k r e h = subst (λ (w : Result (List Field) Cause). IsPut w r k) (sym (set_ok xs ys m n e)) h

-- the members that count

pub length_last : (ms : List Pair) → length (are_last ms) ≡ length ms
unfolding are_last
length_last [] = refl
length_last (m ∷ ms) = ap suc (length_last ms)

counted_more : (t : Bool) (m : Pair) (ms : List Pair) → flat_map additional (cond t ms (m ∷ ms)) ≡ cond (not t) (additional m) [] ++ flat_map additional ms
counted_more true m ms = refl
counted_more false m ms = refl

counted_first : (m : Pair) (ms : List Pair) → flat_map additional (counted (m ∷ ms)) ≡ cond (not (list_any (has_name m.name) ms)) (additional m) [] ++ flat_map additional (counted ms)
unfolding counted
counted_first m ms = counted_more (list_any (has_name m.name) ms) m (counted ms)

flag_at : (ms : List Named) (i : ℕ) (d : Named) (b : Bool) → i < length ms → get_or (are_last (map named_view ms)) i b ≡ not (list_any (has_name (cow_str_bytes (get_or ms i d).name)) (map named_view (drop (suc i) ms)))
unfolding are_last
flag_at [] i d b h = absurd (omega arith)
flag_at (m ∷ ms) zero d b h = refl
flag_at (m ∷ ms) (suc i) d b h = flag_at ms i d b (omega arith)

pub additional_step : (ms : List Named) (i : ℕ) (m : Named) (flag : Bool) (last : List Bool) → i < length ms → m ≡ get_or ms i m → last ≡ are_last (map named_view ms) → flag ≡ get_or last i false
    → flat_map additional (counted (map named_view (drop i ms))) ≡ cond flag (additional (named_view m)) [] ++ flat_map additional (counted (map named_view (drop (i + 1) ms)))
additional_step ms i m flag last h m_is last_is flag_is =
    let one : i + 1 ≡ suc i = omega arith in
    let f : flag ≡ not (list_any (has_name (cow_str_bytes (get_or ms i m).name)) (map named_view (drop (suc i) ms))) = flag_is ∙ ap (λ (l : List Bool). get_or l i false) last_is ∙ flag_at ms i m false h in
    let f2 : flag ≡ not (list_any (has_name (cow_str_bytes m.name)) (map named_view (drop (i + 1) ms))) =
    f ∙ ap (λ (x : Named). not (list_any (has_name (cow_str_bytes x.name)) (map named_view (drop (suc i) ms)))) (sym m_is) ∙ ap (λ (n : ℕ). not (list_any (has_name (cow_str_bytes m.name)) (map named_view (drop n ms)))) (sym one) in
    ap (λ (l : List Named). flat_map additional (counted (map named_view l))) (drop_more ms i m h ∙ ap (λ (x : Named). x ∷ drop (i + 1) ms) (sym m_is))
    ∙ counted_first (named_view m) (map named_view (drop (i + 1) ms))
    ∙ ap (λ (b : Bool). cond b (additional (named_view m)) [] ++ flat_map additional (counted (map named_view (drop (i + 1) ms)))) (sym f2)

-- the fields that a message names, from what was found

pub named_is : (moment : ℕ) (peer message s : List ℕ) (t l : Held) (ms : List Pair) (host seconds given full : Option Value)
    → host ≡ value_named (codes "host") ms → s ≡ source peer host → seconds ≡ value_named (codes "timestamp") ms → t ≡ Whole (pos (timestamp moment seconds)) → given ≡ value_named (codes "level") ms → l ≡ Whole (level given) → full ≡ value_named (codes "full_message") ms
    → (text_field (codes "message") message ∷ text_field (codes "source") s ∷ record { name = codes "timestamp"; value = t } ∷ record { name = codes "level"; value = l } ∷ []) ++ full_message full ≡ named_fields moment peer message ms
named_is moment peer message s t l ms host seconds given full h s_is k t_is g l_is f = rw (s_is, t_is, l_is, h, k, g, f) refl

pub same_length : (ms : List Named) → length (map named_view ms) ≡ length ms
same_length [] = refl
same_length (m ∷ ms) = ap suc (same_length ms)

-- the whole message

pub fields_is : (moment : ℕ) (peer message : List ℕ) (ms : List Pair) → short_message (value_named (codes "short_message") ms) ≡ Some message
    → fields_of moment peer ms ≡ put_all (named_fields moment peer message ms ++ flat_map additional (counted ms)) []
unfolding fields_of put_all
fields_is moment peer message ms e = ap (fields_behind moment peer ms) e

pub no_fields : (moment : ℕ) (peer : List ℕ) (ms : List Pair) → short_message (value_named (codes "short_message") ms) ≡ None → fields_of moment peer ms ≡ Err causes.NoShortMessage
unfolding fields_of
no_fields moment peer ms e = ap (fields_behind moment peer ms) e

pub makes_err : (moment : ℕ) (peer message : List ℕ) (ms : List Pair) (n : List Field) (e : DecodeFault) → short_message (value_named (codes "short_message") ms) ≡ Some message
    → IsPut {X = Unit {0}} (put_all (named_fields moment peer message ms ++ flat_map additional (counted ms)) []) (Err e) n → IsDecoded (fields_of moment peer ms) (Err e)
makes_err moment peer message ms n (faults.Undecodable c) some h = fields_is moment peer message ms some ∙ h
makes_err moment peer message ms n faults.OutOfMemory some h = tt

refused_at : (bytes : List ℕ) (at : ℕ) (r : Result (List Pair) JsonStop) → refused bytes r ≡ Err (json.NotJson at) → at ≤ length bytes
refused_at bytes at (Ok ms) e = absurd cc
refused_at bytes at (Err (At left)) e = let k : at ≡ length bytes - left = cc in omega arith
refused_at bytes at (Err Deep) e = absurd cc

pub at_within : (bytes : List ℕ) (at : ℕ) → object_of bytes ≡ Err (json.NotJson at) → at ≤ length bytes
unfolding object_of
at_within bytes at e = refused_at bytes at (whole_at bytes) e

-- all members were set
pub done_all : (ms : List Named) (i : ℕ) (fields : List Field) → length ms ≤ i → put_all (flat_map additional (counted (map named_view (drop i ms)))) fields ≡ Ok fields
unfolding put_all counted
done_all ms i fields h = ap (λ (l : List Named). put_all (flat_map additional (counted (map named_view l))) fields) (drop_all i ms h)

pub refusal_is : {X : Type 0} (view : X → List Pair) (bytes : List ℕ) (r : JsonRefusal) → Answers {X = X} {Y = List Pair} view (Err r) (object_of bytes) → IsRefusalOf r bytes
refusal_is view bytes (json.NotJson at) h = h
refusal_is view bytes json.TooDeep h = h
refusal_is view bytes json.OutOfMemory h = tt

-- an additional member whose value gives a field
pub additional_put : (name short : List ℕ) (m : Pair) (value : Held) (fields new : List Field) (r : Result (Unit {0}) DecodeFault) → name ≡ m.name → short ≡ field_name name → is_named name ≡ false → is_reserved short ≡ false → held m.value ≡ Some value
    → (is_field_name short ≡ true → IsPut (put_all (record { name = short; value = value } ∷ []) fields) r new) → (is_field_name short ≡ false → IsPut (Ok fields) r new)
    → IsPut (put_all (additional m) fields) r new
unfolding additional put_all
additional_put name short m value fields new r name_is short_is other free gives lawful unlawful =
    let short_now : field_name m.name ≡ short = ap field_name (sym name_is) ∙ sym short_is in
    let first : is_named m.name ≡ false = ap is_named (sym name_is) ∙ other in
    let second : is_reserved (field_name m.name) ≡ false = ap is_reserved short_now ∙ free in
    subst (λ (l : List Field). IsPut (fold then_put (Ok fields) l) r new)
    (sym (ap₂ (λ (a b : Bool). cond (a || b || not (is_field_name (field_name m.name))) [] (given (field_name m.name) (held m.value))) first second
    ∙ ap₂ (λ (n : List ℕ) (v : Option Held). cond (not (is_field_name n)) [] (given n v)) short_now gives))
    (by (is_field_name short) refl)
  where
    by : (t : Bool) → is_field_name short ≡ t → IsPut (fold then_put (Ok fields) (cond (not (is_field_name short)) [] (record { name = short; value = value } ∷ []))) r new
    by true e = subst (λ (b : Bool). IsPut (fold then_put (Ok fields) (cond (not b) [] (record { name = short; value = value } ∷ []))) r new) (sym e) (lawful e)
    by false e = subst (λ (b : Bool). IsPut (fold then_put (Ok fields) (cond (not b) [] (record { name = short; value = value } ∷ []))) r new) (sym e) (unlawful e)
