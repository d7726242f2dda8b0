use Rattle.std.specs.String.{string_bytes}
use Rattle.gl_json.proofs.SaidRead.{said_found, said_only}
use Rattle.gl_json.proofs.spelling.unescape.Goals as goal

pub returns-clause-found : goal.returns-clause-found
returns-clause-found c = said_found (λ s. string_bytes s) c.args.raw.now c.text_of.result c.text_of.ensures

pub returns-clause-only : goal.returns-clause-only
returns-clause-only c = λ cs are e. said_only (λ s. string_bytes s) c.args.raw.now c.text_of.result cs are e c.text_of.ensures
