use Rattle.std.proofs.Common.{drop}
use Rattle.gl_extract.specs.Extraction.{group_fields, HaveBegun}
use Rattle.gl_extract.proofs.groups.set_groups.Given as goal

abbrev pub invariant-loop-number : goal.invariant-loop-number
invariant-loop-number l = HaveBegun (group_fields l.fn.pattern l.text 0 l.names) (group_fields l.fn.pattern l.text l.number (drop l.number l.names)) l.fn.fields l.fields
