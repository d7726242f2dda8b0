use Rattle.gl_fields.proofs.ReadBack.{one_entry, one_outcome}
use Rattle.gl_fields.proofs.encode.law_bytes_read_back.Goals as goal

pub returns : goal.returns
returns c = record { entries = one_entry; outcomes = one_outcome }
