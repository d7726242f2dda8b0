use Rattle.std.proofs.Common.{List, sym, subst}
use Rattle.std.specs.Result.{IfOk, IfErr}
use Rattle.gl_commands.specs.declared.command.Command.{Command}
use Rattle.gl_commands.specs.declared.command.Command.TheVariants.{SetStream}
use Rattle.gl_commands.specs.declared.command.RuleParts.{RuleParts}
use Rattle.gl_settings.specs.Limits.{Refuses}
use Rattle.gl_config.specs.Next.{behind, changed, next_settings}
use Rattle.gl_config.specs.Applying.{first_refusal, stream_refusal, setting_refusal, Makes}
use Rattle.gl_config.proofs.applying.made_by.Goals as goal

pub returns-in-CreateStream-clause-err : goal.returns-in-CreateStream-clause-err
unfolding first_refusal
returns-in-CreateStream-clause-err c =
    subst (λ (k : Command). IfErr c.create_stream.result (Refuses (first_refusal c.args.parts.now k))) (sym c.in-CreateStream.is)
    (subst (λ (rs : List RuleParts). IfErr c.create_stream.result (Refuses (stream_refusal c.args.parts.now c.in-CreateStream.name c.in-CreateStream.index_set rs)))
    c.as_slice-in-CreateStream.ensures c.create_stream.ensures.err)

pub returns-in-SetStream-clause-ok : goal.returns-in-SetStream-clause-ok
unfolding first_refusal next_settings
returns-in-SetStream-clause-ok c =
    subst (λ (k : Command). IfOk c.set_stream.result (Makes (first_refusal c.args.parts.now k) (next_settings c.args.parts.now k))) (sym c.in-SetStream.is)
    (subst (λ (rs : List RuleParts). IfOk c.set_stream.result (Makes (setting_refusal c.args.parts.now c.in-SetStream.id rs) (behind c.args.parts.now (changed c.args.parts.now (SetStream c.in-SetStream.id c.in-SetStream.any c.in-SetStream.remove_from_default c.in-SetStream.paused rs)))))
    c.as_slice-in-SetStream.ensures c.set_stream.ensures.ok)

pub returns-in-CreateLookup-clause-err : goal.returns-in-CreateLookup-clause-err
unfolding first_refusal
returns-in-CreateLookup-clause-err c =
    subst (λ (k : Command). IfErr c.put_table.result (Refuses (first_refusal c.args.parts.now k))) (sym c.in-CreateLookup.is) c.put_table.ensures.err

pub returns-in-SetLookup-clause-err : goal.returns-in-SetLookup-clause-err
unfolding first_refusal
returns-in-SetLookup-clause-err c =
    subst (λ (k : Command). IfErr c.put_table-in-SetLookup.result (Refuses (first_refusal c.args.parts.now k))) (sym c.in-SetLookup.is) c.put_table-in-SetLookup.ensures.err

pub returns-in-CreateGrok-clause-ok : goal.returns-in-CreateGrok-clause-ok
unfolding first_refusal next_settings
returns-in-CreateGrok-clause-ok c =
    subst (λ (k : Command). IfOk c.create_grok.result (Makes (first_refusal c.args.parts.now k) (next_settings c.args.parts.now k))) (sym c.in-CreateGrok.is) c.create_grok.ensures.ok

pub returns-in-CreateGrok-clause-err : goal.returns-in-CreateGrok-clause-err
unfolding first_refusal
returns-in-CreateGrok-clause-err c =
    subst (λ (k : Command). IfErr c.create_grok.result (Refuses (first_refusal c.args.parts.now k))) (sym c.in-CreateGrok.is) c.create_grok.ensures.err

pub returns-in-SetGrok-clause-ok : goal.returns-in-SetGrok-clause-ok
unfolding first_refusal next_settings
returns-in-SetGrok-clause-ok c =
    subst (λ (k : Command). IfOk c.set_grok.result (Makes (first_refusal c.args.parts.now k) (next_settings c.args.parts.now k))) (sym c.in-SetGrok.is) c.set_grok.ensures.ok

pub returns-in-SetGrok-clause-err : goal.returns-in-SetGrok-clause-err
unfolding first_refusal
returns-in-SetGrok-clause-err c =
    subst (λ (k : Command). IfErr c.set_grok.result (Refuses (first_refusal c.args.parts.now k))) (sym c.in-SetGrok.is) c.set_grok.ensures.err
