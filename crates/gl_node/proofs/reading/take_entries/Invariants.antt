use Rattle.std.proofs.Common.{◌≡◌, ◌++◌, map, take}
use Rattle.gl_gatelog.specs.View.{batch_of}
use Rattle.gl_fields.specs.Entries.{entry_bytes}
use Rattle.gl_node.specs.Standing.{IsLawful}
use Rattle.gl_node.proofs.reading.take_entries.Given as goal

abbrev pub invariant-loop-record : goal.invariant-loop-record
invariant-loop-record l = (map entry_bytes l.entries.items ≡ map entry_bytes l.fn.entries.items ++ take l.record-index (batch_of l.records)) × IsLawful l.entries.items
