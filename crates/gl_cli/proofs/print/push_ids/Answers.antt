use Rattle.std.proofs.Common.{sym, get_or}
use Rattle.std.proofs.lemmas.Grind.{get_or_default_zero}
use Rattle.gl_cli.specs.Answers.{id_text}
use Rattle.gl_cli.proofs.Printing.{join_map-more, pushed}
use Rattle.gl_cli.proofs.print.push_ids.Goals as goal

pub loop-i-preserved : goal.loop-i-preserved
loop-i-preserved c =
    pushed _ _ _ _ _ _ _ _ c.loop-i.invariant c.in_ok-push_between.ensures c.in_ok-push_id.ensures
    (join_map-more 44 id_text c.args.streams.now c.loop-i.i (get_or c.args.streams.now c.loop-i.i 0) c.loop-i-test.true
    (sym (get_or_default_zero c.args.streams.now c.loop-i.i _ c.loop-i-test.true)))
