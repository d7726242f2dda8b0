use Rattle.std.proofs.Common.{◌≡◌, ◌++◌, take}
use Rattle.std.specs.List.{filter}
use Rattle.gl_fields.specs.Fields.{comes_before}
use Rattle.gl_settings.proofs.named.push_behind.Given as goal

abbrev pub invariant-loop-item : goal.invariant-loop-item
invariant-loop-item g l = l.copies ≡ l.initial.copies ++ filter (λ item. comes_before l.name (g.T.Named.name_of item)) (take l.item-index l.items)
