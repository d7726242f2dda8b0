use Rattle.gl_streams.specs.Ids.{matching, one_removes, ids_of}
use Rattle.gl_streams.proofs.Putting.{ids_rise, chosen_rise, given_some}
use Rattle.gl_streams.proofs.Belonging.{exactly_given}
use Rattle.gl_streams.proofs.laws.law_streams_rise.Goals as goal

pub returns-clause-rises : goal.returns-clause-rises
returns-clause-rises c = λ streams fields.
    let found = matching streams fields in
    chosen_rise (one_removes found) (ids_of found) (ids_rise found)

pub returns-clause-exactly : goal.returns-clause-exactly
returns-clause-exactly c = exactly_given

pub returns-clause-some : goal.returns-clause-some
returns-clause-some c = given_some
