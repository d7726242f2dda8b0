use Rattle.gl_json.proofs.Formed.{utf8_raw}
use Rattle.gl_json.proofs.spelling.as_written.Goals as goal

pub plain-requires : goal.plain-requires
plain-requires c = utf8_raw c.args.raw.now c.requires
