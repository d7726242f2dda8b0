use Rattle.gl_http.proofs.Printables.{are_text}
use Rattle.gl_http.proofs.fields.ascii_text.Goals as goal

pub unreachable-requires : goal.unreachable-requires
unreachable-requires c = c.in-Err.ensures.cases.0 (are_text c.args.bytes.now c.requires)
