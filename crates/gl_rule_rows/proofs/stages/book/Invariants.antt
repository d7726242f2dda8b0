use Rattle.std.specs.List.{All}
use Rattle.gl_stage.specs.Books.{Fits}
use Rattle.gl_rule_rows.proofs.stages.book.Given as goal

abbrev pub invariant-loop-text : goal.invariant-loop-text
invariant-loop-text l = All Fits l.rules.items
