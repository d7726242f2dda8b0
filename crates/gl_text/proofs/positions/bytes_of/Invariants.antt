use Rattle.std.specs.Str.Iter.{chars_rest}
use Rattle.gl_text.proofs.Counting.{Ahead}
use Rattle.gl_text.proofs.positions.bytes_of.Given as goal

abbrev pub invariant-loop-passed : goal.invariant-loop-passed
invariant-loop-passed l = Ahead l.text (chars_rest l.characters) l._passed
