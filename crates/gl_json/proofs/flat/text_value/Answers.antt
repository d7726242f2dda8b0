use Rattle.std.specs.String.{string_bytes}
use Rattle.gl_json.specs.Flattening.{kept_text}
use Rattle.gl_json.proofs.flat.text_value.Goals as goal

pub returns : goal.returns
returns c = rw c.from_string.ensures (kept_text c.args.raw.now (string_bytes c.in_ok-inside_said.field-0) c.in_ok-inside_said.ensures)
