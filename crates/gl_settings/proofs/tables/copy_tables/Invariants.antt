use Rattle.std.proofs.Common.{◌≡◌, map}
use Rattle.std.specs.Map.Iter.{deref_pair}
use Rattle.gl_settings.specs.Settings.{tables_of}
use Rattle.gl_settings.proofs.Mapping.{entry}
use Rattle.gl_settings.proofs.tables.copy_tables.Given as goal

abbrev pub invariant-loop-name : goal.invariant-loop-name
invariant-loop-name l = tables_of l.copies ≡ map entry (map deref_pair l.yielded)
