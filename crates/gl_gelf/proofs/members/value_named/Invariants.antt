use Rattle.std.proofs.Common.{◌≡◌, map, IfSome, option_map, length}
use Rattle.std.specs.List.{All}
use Rattle.gl_json.specs.Flattening.{IsFormed}
use Rattle.gl_json.specs.Views.{value_view}
use Rattle.gl_gelf.specs.Members.{last_value, value_named}
use Rattle.gl_gelf.specs.Parts.{named_view}
use Rattle.gl_gelf.proofs.members.value_named.Given as goal

abbrev pub invariant-loop-rest : goal.invariant-loop-rest
invariant-loop-rest l = record {
  value : last_value l.name (option_map value_view l.found) (map named_view l.rest) ≡ value_named l.name (map named_view l.members);
  found : IfSome l.found (λ v. IsFormed 63 (value_view v));
  rest : All (λ n. IsFormed 63 (value_view n.value)) l.rest;
}

abbrev pub decreases-loop-rest : goal.decreases-loop-rest
decreases-loop-rest l = length l.rest
