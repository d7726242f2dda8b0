use Rattle.std.proofs.Common.{◌≡◌, map, take}
use Rattle.gl_commands.specs.Texts.{converter_name}
use Rattle.serde_json.specs.Data.{string}
use Rattle.serde_json.specs.View.{view}
use Rattle.gl_commands.proofs.extractor_values.converters_value.Given as goal

abbrev pub invariant-loop-converter : goal.invariant-loop-converter
invariant-loop-converter l = map view l.values.items ≡ map (λ converter. string (converter_name converter)) (take l.converter-index l.converters)
