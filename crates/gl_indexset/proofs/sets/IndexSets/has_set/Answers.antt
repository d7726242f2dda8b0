use Rattle.std.proofs.Common.{List, ◌∙◌, ap}
use Rattle.std.specs.List.{list_any}
use Rattle.std.specs.Str.{bytes_eq}
use Rattle.gl_indexset.specs.Kept.{Kept, is_known, rules_of}
use Rattle.gl_indexset.specs.SetKept.{SetKept}
use Rattle.gl_indexset.proofs.Adding.{known_by_set}
use Rattle.gl_indexset.proofs.sets.IndexSets.has_set.Goals as goal

pub returns : goal.returns
returns c =
    c.has_name.ensures
    ∙ ap (λ (l : List SetKept). list_any (λ (s : SetKept). bytes_eq c.args.name.now s.rule.name) l) c.as_slice.ensures.value
    ∙ known_by_set c.args.name.now c.self.inside.sets.items
    ∙ ap (λ (v : Kept). is_known (rules_of v) c.args.name.now) c.self.view_is
