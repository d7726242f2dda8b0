use Rattle.std.proofs.Common.{◌≡◌, map, take}
use Rattle.gl_commands.specs.Texts.{extractor_data}
use Rattle.serde_json.specs.View.{view}
use Rattle.gl_commands.proofs.extractor_values.extractors_value.Given as goal

abbrev pub invariant-loop-extractor : goal.invariant-loop-extractor
invariant-loop-extractor l = map view l.values.items ≡ map extractor_data (take l.extractor-index l.extractors)
