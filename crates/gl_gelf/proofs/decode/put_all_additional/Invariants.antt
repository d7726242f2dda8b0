use Rattle.std.proofs.Common.{◌≡◌, map, drop}
use Rattle.std.specs.List.{flat_map}
use Rattle.gl_gelf.specs.Members.{counted}
use Rattle.gl_gelf.specs.Parts.{put_all}
use Rattle.gl_gelf.specs.Decoding.{additional}
use Rattle.gl_gelf.specs.Parts.{named_view}
use Rattle.gl_gelf.proofs.decode.put_all_additional.Given as goal

abbrev pub invariant-loop-i : goal.invariant-loop-i
invariant-loop-i l = put_all (flat_map additional (counted (map named_view (drop l.i l.members)))) l.fields ≡ put_all (flat_map additional (counted (map named_view l.members))) l.initial.fields
