use Rattle.std.proofs.Common.{◌≡◌}
use Rattle.csv.specs.Records.{fields_of}
use Rattle.gl_lookup.specs.Tables.{column}
use Rattle.gl_lookup.proofs.Naming.{from_place}
use Rattle.gl_lookup.proofs.columns.column_of.Given as goal

abbrev pub invariant-loop-at : goal.invariant-loop-at
invariant-loop-at l = from_place l.name (fields_of l.names) l.at ≡ column l.name (fields_of l.names)
