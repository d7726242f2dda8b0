use Rattle.std.proofs.Common.{take}
use Rattle.gl_grok.specs.Tables.{table_of}
use Rattle.gl_building.specs.Places.{AllExpand}
use Rattle.gl_process_rows.proofs.compilable.all_expand.Given as goal

abbrev pub invariant-loop-extractor : goal.invariant-loop-extractor
invariant-loop-extractor l = AllExpand (table_of l.groks) (take l.extractor-index l.extractors)
