-- What a call says of whole texts.
use Rattle.std.proofs.Common.{◌≡◌, ℕ, List, [], ◌∷◌, ◌++◌, Result, Ok, Err, refl, ap, subst, map}
use Rattle.std.specs.Prelude.{IfOk}
use Rattle.gl_json.specs.declared.bytes.Stop.{Stop}
use Rattle.gl_json.specs.declared.value.Member.{Member}
use Rattle.gl_json.specs.declared.refusal.JsonRefusal.{JsonRefusal}
use Rattle.gl_json.specs.Grammar.{Pair, IsObjectText}
use Rattle.gl_json.specs.JsonReading.{whole_at}
use Rattle.gl_json.specs.Places.{refused, Answers, object_of}
use Rattle.gl_json.specs.Views.{pair_view}
use Rattle.gl_json.proofs.ValueRead.{whole_sound, whole_complete}

pub refused_ok : {X : Type 0} (text : List ℕ) (r : Result X Stop) (x : X) → refused text r ≡ Ok x → r ≡ Ok x
refused_ok text (Ok y) x e = let same : y ≡ x = cc in ap Ok same
refused_ok text (Err s) x e = absurd cc

pub object_found : (text : List ℕ) (ms : List Pair) → object_of text ≡ Ok ms → IsObjectText text ms
unfolding object_of
object_found text ms e = whole_sound text ms (refused_ok text (whole_at text) ms e)

pub object_only : (text : List ℕ) (ms : List Pair) → IsObjectText text ms → object_of text ≡ Ok ms
unfolding object_of
object_only text ms is = ap (refused text) (whole_complete text ms is)

pub found_by : {X : Type 0} (view : X → List Pair) (text : List ℕ) (result : Result X JsonRefusal) → Answers view result (object_of text) → IfOk result (λ x. IsObjectText text (view x))
found_by view text (Ok x) h = object_found text (view x) h
found_by view text (Err e) h = tt

pub only_by : {X : Type 0} (view : X → List Pair) (text : List ℕ) (result : Result X JsonRefusal) (ms : List Pair) → IsObjectText text ms → Answers view result (object_of text) → Answers view result (Ok ms)
only_by view text result ms is h = subst (Answers view result) (object_only text ms is) h

pub map_more : (ms : List Member) (m : Member) → map pair_view (ms ++ m ∷ []) ≡ map pair_view ms ++ pair_view m ∷ []
map_more [] m = refl
map_more (x ∷ ms) m = ap (λ (l : List Pair). pair_view x ∷ l) (map_more ms m)
