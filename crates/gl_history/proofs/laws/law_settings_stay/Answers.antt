use Rattle.gl_history.proofs.Causing.{NamesApart}
use Rattle.gl_history.proofs.Staying.{settings_stay}
use Rattle.gl_history.proofs.Beginning.{new_store}
use Rattle.gl_history.proofs.laws.law_settings_stay.Goals as goal

pub returns-clause-begin : goal.returns-clause-begin
returns-clause-begin c = new_store

pub returns-clause-stay : goal.returns-clause-stay
returns-clause-stay c =
    let apart : NamesApart = record { answered = c.law_other_names_play_no_part.ensures.answer; reached = c.law_other_names_play_no_part.ensures.known } in
    settings_stay apart
