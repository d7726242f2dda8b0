-- The search compares names, of which the fields have rising ones.
use Rattle.std.proofs.Common.{rules}
use Rattle.std.proofs.lemmas.Fn.{always_returns_same}
use Rattle.gl_fields.specs.declared.field.Field.{Field}
use Rattle.gl_fields.proofs.Names.{order}
use Rattle.gl_fields.proofs.Placing.{place_at}
use Rattle.gl_fields.proofs.place.position_of.Goals as goal

pub returns : goal.returns
returns c =
    place_at c.args.name.now c.args.fields.now c.requires.rises c.binary_search_by.result c.binary_search_by.ensures.bound
    (c.binary_search_by.ensures.position (λ (f : Field). order f.name c.args.name.now) (always_returns_same _ _ _ (λ a r f' k. search rules)))
