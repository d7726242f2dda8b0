use Rattle.std.proofs.Common.{◌≡◌, ◌/◌, ◌∙◌, arith, pos}
use Rattle.std.proofs.lemmas.Int.{ints}
use Rattle.jiff_core.specs.Date.{epoch_day}
use Rattle.jiff_core.proofs.SignedLemmas.{signed_arith}
use Rattle.gl_syslog.specs.Moments.{year_of}
use Rattle.gl_syslog.proofs.Years.{IsYear, year_found}
use Rattle.gl_syslog.proofs.moment.year_of.Goals.{In-Ok}
use Rattle.gl_syslog.proofs.moment.year_of.Goals as goal

found : (c : In-Ok) → IsYear c.in-Ok.date (year_of c.args.moment)
found c =
    let day : epoch_day c.in-Ok.date ≡ pos (c.args.moment / 86400000) = c.in-Ok.ensures.value ∙ omega (arith, ints) in
    year_found c.args.moment c.in-Ok.date day

pub overflow_cast-result : goal.overflow_cast-result
overflow_cast-result c =
    let f = found (goal.at.overflow_cast-result c).In-Ok in
    rw f.is (omega (arith, signed_arith, f.first, f.last))

pub returns-clause-value : goal.returns-clause-value
returns-clause-value c =
    let f = found (goal.at.returns-clause-value c).In-Ok in
    rw f.is (omega (arith, signed_arith, f.first, f.last))

pub returns-clause-above : goal.returns-clause-above
returns-clause-above c =
    let f = found (goal.at.returns-clause-above c).In-Ok in
    rw f.is (omega (arith, signed_arith, f.first, f.last))
