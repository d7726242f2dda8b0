use Rattle.gl_text.proofs.Ids.{read_id-id_text, IsUtf8-id_text, text_of-read}
use Rattle.gl_text.proofs.laws.law_ids_read_back.Goals as goal

pub returns-clause-read : goal.returns-clause-read
returns-clause-read c = read_id-id_text

pub returns-clause-utf8 : goal.returns-clause-utf8
returns-clause-utf8 c = IsUtf8-id_text

pub returns-clause-only : goal.returns-clause-only
returns-clause-only c = text_of-read
