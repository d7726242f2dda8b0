use Rattle.std.proofs.Common.{refl}
use Rattle.gl_extract.specs.Extraction.{given}
use Rattle.gl_extract.proofs.Sets.{at_err, begun_none}
use Rattle.gl_extract.proofs.extract.take.Goals as goal

pub returns-in_err-span-in-Regex-clause-err : goal.returns-in_err-span-in-Regex-clause-err
returns-in_err-span-in-Regex-clause-err c =
    at_err c.from_residual.result (begun_none (given c.args.parts.now.kind c.args.parts.now c.args.built.now c.args.text.now) c.args.fields.now c.args.fields.now refl)
