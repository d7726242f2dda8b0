use Rattle.std.proofs.lemmas.Slice.Eq.{slice_eq-Decides}
use denote.Enum.Bare.{same_true, true_same}
use Rattle.gl_extract.specs.contracts.parts.Converter.{the_type}
use Rattle.gl_extract.proofs.same.same_converters.Goals as goal

pub returns : goal.returns
returns c =
    slice_eq-Decides (λ a b. (same_true the_type tt a b, true_same the_type a b)) c.args.converters.now c.args.other.now c.eq.result c.eq.ensures
