use Rattle.gl_json.proofs.Formed.{utf8_text, utf8_raw, utf8_number, utf8_object, utf8_array}
use Rattle.gl_json.proofs.laws.law_parts_are_utf8.Goals as goal

pub returns : goal.returns
returns c = record { text = utf8_text; inside = utf8_raw; number = utf8_number; object = utf8_object; array = utf8_array }
