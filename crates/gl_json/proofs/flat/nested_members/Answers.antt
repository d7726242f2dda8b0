use Rattle.std.proofs.Common.{ℕ, List, map}
use Rattle.std.specs.declared.alloc.Global.{Global}
use Rattle.std.specs.declared.vec.Vec.{Vec}
use Rattle.gl_json.specs.declared.value.Member.{Member}
use denote.Bor.{Bor}
use Rattle.gl_json.specs.Views.{pair_view}
use Rattle.gl_json.proofs.Growing.{nested_is, nested_halts}
use Rattle.gl_json.proofs.Formed.{members_formed}
use Rattle.gl_json.proofs.flat.nested_members.Goals as goal

pub unreachable-requires : goal.unreachable-requires
unreachable-requires c = nested_halts {X = Vec Member Global × Bor (List ℕ)} (λ x. (map pair_view x.0.items, x.1.now)) c.args.levels c.args.text.now c.behind_first.result.now c.requires.0 c.in-Err-At.field-0 c.in-Err-At.field-0-0 c.requires.1 c.behind_first.ensures c.in-Err-At.field-0-is c.in-Err-At.ensures

pub returns-in-Ok-clause-object : goal.returns-in-Ok-clause-object
returns-in-Ok-clause-object c = nested_is c.args.levels c.args.text.now c.behind_first.result.now c.requires.0 (map pair_view c.in-Ok.members.items, c.in-Ok.field-0-1.now) c.requires.1 c.behind_first.ensures c.in-Ok.ensures

pub returns-in-Ok-clause-formed : goal.returns-in-Ok-clause-formed
returns-in-Ok-clause-formed c =
    members_formed c.args.levels c.args.text.now c.in-Ok.members.items (nested_is c.args.levels c.args.text.now c.behind_first.result.now c.requires.0 (map pair_view c.in-Ok.members.items, c.in-Ok.field-0-1.now) c.requires.1 c.behind_first.ensures c.in-Ok.ensures)
