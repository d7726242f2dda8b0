-- Named patterns, as the entries of a map.
use Rattle.std.proofs.Common.{ℕ, List, String, Global}
use Rattle.std.specs.String.{string_bytes}

abbrev pub pair : String Global × String Global → List ℕ × List ℕ
pair e = (string_bytes e.0, string_bytes e.1)
