use Rattle.std.proofs.Common.{List, map, ap, subst, ◌∙◌}
use Rattle.gl_fields.specs.Putting.{IsDecoded}
use Rattle.gl_json.specs.Grammar.{Pair}
use Rattle.gl_gelf.specs.Parts.{named_view}
use Rattle.gl_gelf.specs.Decoding.{fields_of}
use Rattle.gl_gelf.proofs.decode.of_members.Goals as goal

pub returns : goal.returns
returns c =
    subst (λ (l : List Pair). IsDecoded (fields_of c.args.moment c.args.peer.now l) c.fields_of.result) (ap (map named_view) c.as_slice.ensures.value ∙ c.in_ok-named.ensures.named) c.fields_of.ensures
