use Rattle.gl_fields.specs.declared.field.Field.{Field}
use Rattle.gl_cli.specs.Answers.{field_text}
use Rattle.gl_cli.proofs.Printing.{join_map-more, pushed}
use Rattle.gl_cli.proofs.print.push_fields.Goals as goal

pub loop-i-preserved : goal.loop-i-preserved
loop-i-preserved c =
    pushed _ _ _ _ _ _ _ _ c.loop-i.invariant c.in_ok-push_between.ensures c.in_ok-push_field.ensures
    (join_map-more 38 (λ (field : Field). field_text field.name field.value) c.args.fields.now c.loop-i.i c.index-fields-i.result c.loop-i-test.true c.index-fields-i.is)
