use Rattle.std.proofs.Common.{◌≡◌, ◌-◌, ◌≤◌, length}
use Rattle.regex_hir.specs.Find.{find_str}
use Rattle.regex_meta.specs.Programs.{pattern_of}
use Rattle.gl_patterns.proofs.engine.Engine.find_in_text.Given as goal

abbrev pub invariant-loop-from : goal.invariant-loop-from
invariant-loop-from l =
    (l.at ≤ length l.hay) × (l.self.program ≡ l.fn.self.program) × (length l.cells ≡ length l.fn.cells)
    × (find_str (pattern_of l.fn.self.program) l.hay 0 ≡ find_str (pattern_of l.fn.self.program) l.hay l.at)

abbrev pub decreases-loop-from : goal.decreases-loop-from
decreases-loop-from l = length l.hay - l.at
