use Rattle.gl_json.proofs.SaidRead.{says_read, read_says}
use Rattle.gl_json.proofs.laws.law_strings_say.Goals as goal

pub returns : goal.returns
returns c = record { read = says_read; is = read_says }
