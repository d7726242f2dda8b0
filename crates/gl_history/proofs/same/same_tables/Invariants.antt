use Rattle.std.proofs.Common.{◌≡◌, ◌++◌, map}
use Rattle.std.specs.Map.Iter.{deref_pair}
use Rattle.gl_settings.specs.Settings.{tables_of}
use Rattle.gl_history.specs.Entries.{entries_of}
use Rattle.gl_history.proofs.same.same_tables.Given as goal

abbrev pub invariant-loop-name : goal.invariant-loop-name
invariant-loop-name l = tables_of l.others ≡ entries_of (map deref_pair l.yielded) ++ entries_of l.rest
