use Rattle.gl_node.proofs.Damages.{damaged_once, shown_or_damaged}
use Rattle.gl_node.proofs.law.law_one_store.Goals as goal

pub returns : goal.returns
returns c = record { damaged = damaged_once; shown = shown_or_damaged }
