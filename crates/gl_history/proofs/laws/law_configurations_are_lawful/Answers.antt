use Rattle.gl_history.proofs.Causing.{NamesApart}
use Rattle.gl_history.proofs.Beginning.{at_version}
use Rattle.gl_history.proofs.laws.law_configurations_are_lawful.Goals as goal

pub returns : goal.returns
returns c =
    let apart : NamesApart = record { answered = c.law_other_names_play_no_part.ensures.answer; reached = c.law_other_names_play_no_part.ensures.known } in
    at_version apart
