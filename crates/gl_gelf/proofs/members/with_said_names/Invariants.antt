use Rattle.std.proofs.Common.{◌≡◌, map, take}
use Rattle.std.specs.List.{All}
use Rattle.gl_json.specs.Flattening.{IsFormed}
use Rattle.gl_json.specs.Views.{value_view, pair_view}
use Rattle.gl_gelf.specs.Members.{with_said_name}
use Rattle.gl_gelf.specs.Parts.{named_view}
use Rattle.gl_gelf.proofs.members.with_said_names.Given as goal

abbrev pub invariant-loop-member : goal.invariant-loop-member
invariant-loop-member l = record {
  named : map named_view l.all.items ≡ map with_said_name (map pair_view (take l.member-index l.members));
  formed : All (λ n. IsFormed 63 (value_view n.value)) l.all.items;
}
