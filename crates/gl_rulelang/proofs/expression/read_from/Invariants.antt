use Rattle.std.proofs.Common.{◌≡◌, map}
use Rattle.gl_rulelang.specs.Tokens.{left}
use Rattle.gl_rulelang.specs.Nesting.{open_view}
use Rattle.gl_rulelang.specs.Expressions.{run, wants}
use Rattle.gl_rulelang.specs.Rules.{count}
use Rattle.gl_rulelang.specs.Places.{start_view, place_view}
use Rattle.gl_rulelang.proofs.expression.read_from.Given as goal

-- what is left gives what all gives
abbrev pub invariant-loop-token : goal.invariant-loop-token
invariant-loop-token l = run (left l.cursor) (map open_view l.nest.stack) (place_view l.place)
    ≡ run (left l.initial.cursor) (map open_view l.fn.nest.stack) (wants (start_view l.fn.start))

abbrev pub decreases-loop-token : goal.decreases-loop-token
decreases-loop-token l = count (left l.cursor)
