use Rattle.std.proofs.Common.{Option, is_some, rules}
use Rattle.std.proofs.lemmas.Fn.{filter_same}
use Rattle.gl_indexset.specs.declared.row.Row.{Row}
use Rattle.gl_indexset.proofs.shelf.compact.Goals as goal

pub returns-clause-items : goal.returns-clause-items
returns-clause-items c = filter_same _ (λ (slot : Option Row). is_some slot) _ (λ x b f' k. search rules) c.args.slots.now.items c.retain.new.self.items c.retain.ensures.filtered
