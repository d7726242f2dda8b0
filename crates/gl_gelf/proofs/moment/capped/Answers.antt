use Rattle.std.proofs.Common.{◌∙◌, arith}
use Rattle.gl_base.specs.Bytes.{is_digit}
use Rattle.gl_gelf.proofs.Numbers.{capped_step, behind_all}
use Rattle.gl_gelf.proofs.moment.capped.Goals as goal

pub loop-rest-preserved : goal.loop-rest-preserved
loop-rest-preserved c = (capped_step c.loop-rest.n c.min-n.result 100000000000000000000 c.loop-rest.rest.now c.in-len1-up.len_at_least (rw (← c.from.ensures) c.min-n.ensures) ∙ c.loop-rest.invariant.0, omega arith, behind_all is_digit c.loop-rest.rest.now c.in-len1-up.len_at_least c.loop-rest.invariant.2)
