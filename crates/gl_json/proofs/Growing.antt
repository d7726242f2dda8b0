-- Fields that are appended.
use Rattle.std.proofs.Common.{◌≡◌, ℕ, zero, suc, ◌+◌, ◌-◌, ◌<◌, List, [], ◌∷◌, ◌++◌, length, take, get_or, map, Result, Ok, Err, refl, sym, ap, subst, ◌∙◌, arith, append_assoc, add-one}
use Rattle.std.specs.Prelude.{String, OnOk}
use Rattle.std.specs.declared.alloc.Global.{Global}
use Rattle.std.proofs.lemmas.List.{append-nil}
use Rattle.gl_fields.specs.declared.value.Value.{Value as Field}
use Rattle.gl_base.specs.Bytes.{behind_first}
use Rattle.gl_json.specs.declared.bytes.Stop.{Stop}
use Rattle.gl_json.specs.declared.refusal.Halt.{Halt}
use Rattle.gl_json.specs.declared.refusal.Halt.TheVariants.{At, OutOfMemory}
use Rattle.gl_json.specs.declared.refusal.JsonRefusal.{JsonRefusal}
use Rattle.gl_json.specs.declared.refusal.JsonRefusal.TheVariants as refusals
use Rattle.gl_json.specs.declared.value.Member.{Member}
use Rattle.gl_json.specs.Grammar.{Value, object, null, Pair, IsMember, IsValue, IsObject, IsObjectText}
use Rattle.gl_json.specs.Flattening.{IsKept, AreFlatWith, ended, kept, skipped, nested, IsFlatIn, AreFlat, Grows, Appends, IsUnder, Flattens}
use Rattle.gl_json.specs.JsonReading.{Read, elements_at, member_at, value_at}
use Rattle.gl_json.specs.Places.{Answers, Halts, object_of}
use Rattle.gl_json.specs.Views.{pair_view, field_view}
use Rattle.gl_json.proofs.Taking.{ok_is}
use Rattle.gl_json.proofs.ElementRead.{elements_complete}
use Rattle.gl_json.proofs.ValueRead.{member_complete, value_complete}
use Rattle.gl_json.proofs.Whole.{object_only}

flat_append : (Nested : List ℕ → List ℕ → List (List ℕ × Field) → Type 0) (prefix : List ℕ) (ms ns : List Pair) (fs gs : List (List ℕ × Field))
    → AreFlatWith Nested prefix ms fs → AreFlatWith Nested prefix ns gs → AreFlatWith Nested prefix (ms ++ ns) (fs ++ gs)
flat_append Nested prefix ms ns fs gs ended b = b
flat_append Nested prefix ms ns fs gs (kept raw name v f os hs says is more) b = kept raw name v f (os ++ ns) (hs ++ gs) says is (flat_append Nested prefix os ns hs gs more b)
flat_append Nested prefix ms ns fs gs (skipped raw os hs more) b = skipped raw (os ++ ns) (hs ++ gs) (flat_append Nested prefix os ns hs gs more b)
flat_append Nested prefix ms ns fs gs (nested raw name t os is hs says inner more) b =
    subst (AreFlatWith Nested prefix (record { name = raw; value = object t } ∷ (os ++ ns))) (sym (append_assoc is hs gs))
    (nested raw name t (os ++ ns) is (hs ++ gs) says inner (flat_append Nested prefix os ns hs gs more b))

same_members : (text : List ℕ) (ms ns : List Pair) → object_of text ≡ Ok ms → object_of text ≡ Ok ns → ms ≡ ns
same_members text ms ns a b = let both : (let r : Result (List Pair) JsonRefusal = Ok ms in r) ≡ Ok ns = sym a ∙ b in cc

-- the same fields are those of the members that a text has
pub flat_same : (text : List ℕ) (ms ns : List Pair) (fs : List (List ℕ × Field)) → IsObjectText text ns → AreFlat 63 [] ns fs → IsObjectText text ms → (os : List Pair) × ((let r : Result (List Pair) JsonRefusal = Ok ms in r) ≡ Ok os) × AreFlat 63 [] os fs
flat_same text ms ns fs is flat other = let same : ms ≡ ns = same_members text ms ns (object_only text ms other) (object_only text ns is) in (ms, refl, subst (λ (os : List Pair). AreFlat 63 [] os fs) (sym same) flat)

pub refusal_same : {X Y : Type 0} (view : X → List (List ℕ × Field)) (look : Y → List Pair) (e : JsonRefusal) (read : Result (List Pair) JsonRefusal)
    → Answers look (Err e) read → Flattens view (Err e) read
refusal_same view look refusals.OutOfMemory read h = tt
refusal_same view look (refusals.NotJson at) read h = h
refusal_same view look refusals.TooDeep read h = h

pub grows_none : (n : ℕ) (prefix : List ℕ) (old : List (List ℕ × Field)) → Grows n prefix [] old old
grows_none n prefix old = ([], ended, sym (append-nil old))

pub grows_then : (n : ℕ) (prefix : List ℕ) (ms ns : List Pair) (old mid new : List (List ℕ × Field)) → Grows n prefix ms old mid → Grows n prefix ns mid new → Grows n prefix (ms ++ ns) old new
grows_then n prefix ms ns old mid new a b = (a.0 ++ b.0, flat_append (IsFlatIn n) prefix ms ns a.0 b.0 a.1 b.1, b.2 ∙ ap (λ (l : List (List ℕ × Field)). l ++ b.0) a.2 ∙ append_assoc old a.0 b.0)

pub grows_kept : (n : ℕ) (prefix raw : List ℕ) (v : Value) (f : Field) (old new : List (List ℕ × Field)) → IsKept v f → Appends prefix raw f old new → Grows n prefix (record { name = raw; value = v } ∷ []) old new
grows_kept n prefix raw v f old new is a = ((prefix ++ a.0, f) ∷ [], kept raw a.0 v f [] [] a.1 is ended, a.2)

pub grows_null : (n : ℕ) (prefix raw : List ℕ) (old : List (List ℕ × Field)) → Grows n prefix (record { name = raw; value = null } ∷ []) old old
grows_null n prefix raw old = ([], skipped raw [] [] ended, sym (append-nil old))

pub grows_nested : (n : ℕ) (prefix raw t under under_ : List ℕ) (ms : List Pair) (old new : List (List ℕ × Field)) → 0 < n → IsUnder prefix raw under → under_ ≡ under ++ 95 ∷ []
    → IsObject (n - 1) t ms → Grows (n - 1) under_ ms old new → Grows n prefix (record { name = raw; value = object t } ∷ []) old new
unfolding IsFlatIn
grows_nested zero prefix raw t under under_ ms old new some u joined is g = absurd (omega arith)
grows_nested (suc n) prefix raw t under under_ ms old new some u joined is g =
    let one : suc n - 1 ≡ n = omega arith in
    let is_n : IsObject n t ms = subst (λ (k : ℕ). IsObject k t ms) one is in
    let g_n : Grows n under_ ms old new = subst (λ (k : ℕ). Grows k under_ ms old new) one g in
    let same : under_ ≡ prefix ++ (u.0 ++ 95 ∷ []) = joined ∙ ap (λ (l : List ℕ). l ++ 95 ∷ []) u.2 ∙ append_assoc prefix u.0 (95 ∷ []) in
    let flat : AreFlat n (prefix ++ (u.0 ++ 95 ∷ [])) ms g_n.0 = subst (λ (p : List ℕ). AreFlat n p ms g_n.0) same g_n.1 in
    (g_n.0 ++ [], nested raw u.0 t [] g_n.0 [] u.1 (ms, is_n, flat) ended, g_n.2 ∙ ap (λ (l : List (List ℕ × Field)). old ++ l) (sym (append-nil g_n.0)))

nested_reads : (n : ℕ) (text : List ℕ) (ms : List Pair) → IsObject n text ms → elements_at (member_at (value_at n)) 125 (behind_first text) ≡ Ok (ms, [])
nested_reads n text ms is =
    let b = elements_complete (member_at (value_at n)) 123 125 (IsMember (IsValue n)) (member_complete (value_at n) (IsValue n) (value_complete n)) refl refl text [] ms is in
    let behind : behind_first text ≡ b.inner ++ [] = ap behind_first b.text ∙ sym (append-nil b.inner) in
    ap (elements_at (member_at (value_at n)) 125) behind ∙ b.reads

pub nested_is : (n : ℕ) (text behind : List ℕ) (ms : List Pair) (x : List Pair × List ℕ) → IsObject n text ms → behind ≡ behind_first text → elements_at (member_at (value_at n)) 125 behind ≡ Ok x → IsObject n text x.0
nested_is n text behind ms x is e f =
    let same : (ms, []) ≡ x = ok_is (ms, []) x (sym (nested_reads n text ms is) ∙ ap (elements_at (member_at (value_at n)) 125) (sym e) ∙ f) in
    subst (λ (y : List Pair × List ℕ). IsObject n text y.0) same is

nested_read : (n : ℕ) (text behind : List ℕ) (ms : List Pair) (stop : Stop) → IsObject n text ms → behind ≡ behind_first text → elements_at (member_at (value_at n)) 125 behind ≡ Err stop → ⊥
nested_read n text behind ms stop is e f =
    let both : (let r : Read (List Pair) = Ok (ms, []) in r) ≡ Err stop = sym (nested_reads n text ms is) ∙ ap (elements_at (member_at (value_at n)) 125) (sym e) ∙ f in
    cc

pub nested_halts : {X : Type 0} (view : X → List Pair × List ℕ) (n : ℕ) (text behind : List ℕ) (ms : List Pair) (halt : Halt) (stop : Stop) → IsObject n text ms → behind ≡ behind_first text → halt ≡ At stop
    → Halts view (Err halt) (elements_at (member_at (value_at n)) 125 behind) → ⊥
nested_halts view n text behind ms (At stop) s is e same f = nested_read n text behind ms stop is e f
nested_halts view n text behind ms OutOfMemory s is e same f = absurd cc

pub fields_more : (ps : List (String Global × Field)) (p : String Global × Field) → map field_view (ps ++ p ∷ []) ≡ map field_view ps ++ field_view p ∷ []
fields_more [] p = refl
fields_more (x ∷ ps) p = ap (λ (l : List (List ℕ × Field)). field_view x ∷ l) (fields_more ps p)

pairs_more : (ms : List Member) (i : ℕ) (d : Member) → i < length ms → map pair_view (take (suc i) ms) ≡ map pair_view (take i ms) ++ pair_view (get_or ms i d) ∷ []
pairs_more [] i d lt = absurd (omega arith)
pairs_more (x ∷ ms) zero d lt = refl
pairs_more (x ∷ ms) (suc i) d lt = ap (λ (l : List Pair). pair_view x ∷ l) (pairs_more ms i d (omega arith))

pub grows_step : (n : ℕ) (prefix : List ℕ) (ms : List Member) (i : ℕ) (d : Member) (old mid new : List (List ℕ × Field)) → i < length ms
    → Grows n prefix (map pair_view (take i ms)) old mid → Grows n prefix (pair_view (get_or ms i d) ∷ []) mid new → Grows n prefix (map pair_view (take (i + 1) ms)) old new
grows_step n prefix ms i d old mid new lt a b =
    let more : map pair_view (take (i + 1) ms) ≡ map pair_view (take i ms) ++ pair_view (get_or ms i d) ∷ [] = ap (λ (k : ℕ). map pair_view (take k ms)) (add-one i) ∙ pairs_more ms i d lt in
    subst (λ (l : List Pair). Grows n prefix l old new) (sym more) (grows_then n prefix (map pair_view (take i ms)) (pair_view (get_or ms i d) ∷ []) old mid new a b)

pub keeps : {A E : Type 0} (r : Result A E) (n : ℕ) (prefix raw : List ℕ) (v : Value) (f : Field) (old new : List (List ℕ × Field)) → IsKept v f
    → OnOk r (Appends prefix raw f old new) → OnOk r (Grows n prefix (record { name = raw; value = v } ∷ []) old new)
keeps (Ok x) n prefix raw v f old new is a = grows_kept n prefix raw v f old new is a
keeps (Err e) n prefix raw v f old new is a = tt

pub nests : {A E : Type 0} (r : Result A E) (n : ℕ) (prefix raw t under under_ : List ℕ) (ms : List Pair) (old new : List (List ℕ × Field)) → 0 < n → IsUnder prefix raw under → under_ ≡ under ++ 95 ∷ []
    → IsObject (n - 1) t ms → OnOk r (Grows (n - 1) under_ ms old new) → OnOk r (Grows n prefix (record { name = raw; value = object t } ∷ []) old new)
nests (Ok x) n prefix raw t under under_ ms old new some u joined is g = grows_nested n prefix raw t under under_ ms old new some u joined is g
nests (Err e) n prefix raw t under under_ ms old new some u joined is g = tt
