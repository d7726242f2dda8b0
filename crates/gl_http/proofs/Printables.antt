-- Printable characters are ASCII, so text.
use Rattle.std.proofs.Common.{◌≡◌, ℕ, zero, suc, true, List, [], ◌∷◌, arith}
use Rattle.std.specs.List.{list_all}
use Rattle.std.specs.Str.{IsUtf8, IsAscii}
use Rattle.std.proofs.lemmas.Bool.{and_parts}
use Rattle.std.proofs.lemmas.Str.{IsUtf8-from_ascii}
use Rattle.gl_http.specs.Fields.{is_printable}

are_ascii : (bs : List ℕ) → list_all is_printable bs ≡ true → IsAscii bs
are_ascii [] h i = omega arith
are_ascii (b ∷ bs) h zero = let e = (and_parts (is_printable b) (list_all is_printable bs) h).0 in grind arith
are_ascii (b ∷ bs) h (suc i) = are_ascii bs (and_parts (is_printable b) (list_all is_printable bs) h).1 i

pub are_text : (bs : List ℕ) → list_all is_printable bs ≡ true → IsUtf8 bs
are_text bs h = IsUtf8-from_ascii bs (are_ascii bs h)
