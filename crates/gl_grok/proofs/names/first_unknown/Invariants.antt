use Rattle.std.proofs.Common.{◌≡◌, List, ℕ}
use Rattle.std.specs.Prelude.{not}
use Rattle.gl_grok.specs.Tables.{table_of, is_known}
use Rattle.gl_grok.proofs.Finding.{from_place}
use Rattle.gl_grok.proofs.names.first_unknown.Given as goal

abbrev pub invariant-loop-name : goal.invariant-loop-name
invariant-loop-name l = from_place (λ (name : List ℕ). not (is_known (table_of l.table) name)) l.names l.name-index ≡ from_place (λ (name : List ℕ). not (is_known (table_of l.table) name)) l.names 0
