use Rattle.gl_turn.proofs.Places.{gained_entries, later_entries}
use Rattle.gl_turn.proofs.laws.law_positions_name_entries.Goals as goal

pub returns-clause-gained : goal.returns-clause-gained
returns-clause-gained c = gained_entries

pub returns-clause-stay : goal.returns-clause-stay
returns-clause-stay c = later_entries
