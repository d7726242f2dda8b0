use Rattle.std.proofs.Common.{◌==◌, ◌&&◌, not, rules}
use Rattle.std.specs.Str.{bytes_eq}
use Rattle.std.proofs.lemmas.Fn.{filter_same}
use Rattle.gl_indexset.specs.SetKept.{SetKept}
use Rattle.gl_indexset.proofs.sets.drop_unused.Goals as goal

pub returns : goal.returns
returns c = filter_same _ (λ (set : SetKept). not (bytes_eq c.args.name.now set.rule.name && (set.newest.rows == 0))) _ (λ x b f' k. search rules) c.args.sets.now.items c.retain.new.self.items c.retain.ensures.filtered
