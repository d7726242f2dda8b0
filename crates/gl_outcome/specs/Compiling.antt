-- Which configurations are compiled, and what a compiled one has (this project).
use Rattle.std.specs.Prelude.{◌≡◌, ◌<◌}
use Rattle.std.specs.List.{All}
use Rattle.gl_streams.specs.declared.stream.Stream.{Stream}
use Rattle.gl_streams.specs.Matching.{Fits}
use Rattle.gl_settings.specs.Settings.{Settings}
use Rattle.gl_building.specs.Places.{InputsExpand, built_inputs, book_of}
use Rattle.gl_outcome.specs.declared.compiled.BuiltParts.{BuiltParts}

-- Each extractor of grok expands, and the ids of streams are so low that the streams of a message can't be too many.
pub record IsCompilable (c : Settings) : Type 0 where
  pub groks : InputsExpand c.groks c.inputs
  pub ids : All (λ (stream : Stream). stream.id < 65535) c.streams

-- what was built is that of the configuration, which can be compiled
pub record IsBuiltOf (c : Settings) (built : BuiltParts) : Type 0 where
  pub parts : built.parts ≡ c
  pub compilable : IsCompilable c
  pub streams : Fits c.streams built.streams
  pub extractors : built.extractors ≡ built_inputs c.groks c.inputs
  pub rules : built.rules ≡ book_of c.rules
