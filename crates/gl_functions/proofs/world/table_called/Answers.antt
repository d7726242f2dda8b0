use Rattle.std.proofs.Common.{◌≡◌, ℕ, Bool, cond, List, [], ◌∷◌, map, Some, refl, ap, ◌∙◌, String, Global}
use Rattle.std.specs.Prelude.{Option}
use Rattle.std.specs.Map.{lookup}
use Rattle.std.specs.Str.{bytes_eq}
use Rattle.std.specs.String.{string_bytes}
use Rattle.std.specs.Ordering.{nat_cmp, is_eq}
use Rattle.std.specs.Cmp.Lexicographic.{slice_cmp}
use Rattle.std.proofs.lemmas.Map.Text.{is_eq-slice_cmp}
use Rattle.gl_lookup.specs.Tables.{Pair}
use Rattle.gl_functions.proofs.world.table_called.Goals as goal

table_found : (name : List ℕ) (xs : List (String Global × List Pair)) → lookup (λ k. is_eq (slice_cmp nat_cmp name (string_bytes k))) xs ≡ lookup (λ k. bytes_eq name k) (map {B = List ℕ × List Pair} (λ (entry : String Global × List Pair). (string_bytes entry.0, entry.1)) xs)
table_found name [] = refl
table_found name (x ∷ xs) =
    ap (λ (b : Bool). cond {A = Option (List Pair)} b (Some x.1) (lookup (λ k. is_eq (slice_cmp nat_cmp name (string_bytes k))) xs)) (is_eq-slice_cmp name (string_bytes x.0))
    ∙ ap (λ (rest : Option (List Pair)). cond {A = Option (List Pair)} (bytes_eq name (string_bytes x.0)) (Some x.1) rest) (table_found name xs)

pub returns : goal.returns
returns c = c.get.ensures.value ∙ table_found c.args.name.now c.args.tables.now.entries
