use Rattle.std.proofs.Common.{sym, ◌∙◌}
use Rattle.gl_syslogtext.proofs.BsdTexts.{bsd_sound, bsd_again}
use Rattle.gl_syslogtext.proofs.bsd.read_3164.Goals as goal

pub returns-in-Ok-clause-found : goal.returns-in-Ok-clause-found
returns-in-Ok-clause-found c = bsd_sound c.args.text.now c.in-Ok.parts c.in-Ok.ensures

pub returns-in-Ok-clause-only : goal.returns-in-Ok-clause-only
returns-in-Ok-clause-only c = λ parts h. sym c.in-Ok.ensures ∙ bsd_again c.args.text.now parts h

pub returns-in-Err-Other-clause-only : goal.returns-in-Err-Other-clause-only
returns-in-Err-Other-clause-only c = λ parts h. sym (rw c.in-Err-Other.field-0-is at c.in-Err-Other.ensures) ∙ bsd_again c.args.text.now parts h
