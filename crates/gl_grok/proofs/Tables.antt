-- A map of texts as a table.
use Rattle.std.proofs.Common.{◌≡◌, ℕ, Bool, true, false, cond, List, [], ◌∷◌, map, Some, refl, sym, ap, ◌∙◌, String, Global}
use Rattle.std.specs.Prelude.{option_map}
use Rattle.std.specs.String.{string_bytes, string_cmp}
use Rattle.std.specs.BTreeMap.{insert_entry}
use Rattle.std.specs.Str.{bytes_eq}
use Rattle.std.specs.Map.{lookup}
use Rattle.std.specs.Ordering.{nat_cmp, is_eq, match_ordering}
use Rattle.std.specs.declared.cmp.Ordering.{Ordering}
use Rattle.std.specs.declared.cmp.Ordering.TheVariants.{Less, Equal, Greater}
use Rattle.gl_grok.specs.Tables.{with_pattern}
use Rattle.std.specs.Cmp.Lexicographic.{slice_cmp}
use Rattle.std.proofs.lemmas.Map.Text.{is_eq-slice_cmp}

abbrev Entry : Type 0
Entry = String Global × String Global

abbrev pub pair : Entry → List ℕ × List ℕ
pair entry = (string_bytes entry.0, string_bytes entry.1)

pub pattern_found : (name : List ℕ) (xs : List Entry) → lookup (λ k. bytes_eq name k) (map pair xs) ≡ option_map string_bytes (lookup (λ k. is_eq (slice_cmp nat_cmp name (string_bytes k))) xs)
pattern_found name [] = refl
pattern_found name (x ∷ xs) =
    ap (λ (b : Bool). cond b (Some (string_bytes x.1)) (lookup (λ k. bytes_eq name k) (map pair xs))) (sym (is_eq-slice_cmp name (string_bytes x.0)))
    ∙ by (is_eq (slice_cmp nat_cmp name (string_bytes x.0))) (pattern_found name xs)
  where
    by : (b : Bool) → lookup (λ k. bytes_eq name k) (map pair xs) ≡ option_map string_bytes (lookup (λ k. is_eq (slice_cmp nat_cmp name (string_bytes k))) xs)
        → cond b (Some (string_bytes x.1)) (lookup (λ k. bytes_eq name k) (map pair xs)) ≡ option_map string_bytes (cond b (Some x.1) (lookup (λ k. is_eq (slice_cmp nat_cmp name (string_bytes k))) xs))
    by true rest = refl
    by false rest = rest

pub pattern_put : (xs : List Entry) (name pattern : String Global) → map pair (insert_entry string_cmp xs name pattern) ≡ with_pattern (map pair xs) (string_bytes name) (string_bytes pattern)
pattern_put [] name pattern = refl
pattern_put (x ∷ xs) name pattern = by (string_cmp name x.0) refl (pattern_put xs name pattern)
  where
    by : (o : Ordering) → string_cmp name x.0 ≡ o → map pair (insert_entry string_cmp xs name pattern) ≡ with_pattern (map pair xs) (string_bytes name) (string_bytes pattern)
        → map pair (match_ordering o ((name, pattern) ∷ x ∷ xs) ((x.0, pattern) ∷ xs) (x ∷ insert_entry string_cmp xs name pattern))
        ≡ match_ordering (slice_cmp nat_cmp (string_bytes name) (string_bytes x.0)) ((string_bytes name, string_bytes pattern) ∷ map pair (x ∷ xs)) ((string_bytes x.0, string_bytes pattern) ∷ map pair xs) (pair x ∷ insert_entry (slice_cmp nat_cmp) (map pair xs) (string_bytes name) (string_bytes pattern))
    by Less e rest = rw e refl
    by Equal e rest = rw e refl
    by Greater e rest = rw e (ap (λ (l : List (List ℕ × List ℕ)). pair x ∷ l) rest)
