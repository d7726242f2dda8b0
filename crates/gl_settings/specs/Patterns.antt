-- The patterns of a configuration, each as often as it stands there.
use Rattle.std.specs.Prelude.{ℕ, List, [], ◌++◌, Option, Some, None, option_to_list, sum_by, length}
use Rattle.std.specs.List.{flat_map}
use Rattle.gl_streams.specs.declared.stream.Stream.{Stream}
use Rattle.gl_streams.specs.Matching.{pattern_of}
use Rattle.gl_extract.specs.declared.parts.ExtractorKind.{ExtractorKind}
use Rattle.gl_extract.specs.declared.parts.ExtractorKind.TheVariants.{Regex, Substring, Split, Grok, Json}
use Rattle.gl_extract.specs.declared.parts.Condition.{Condition}
use Rattle.gl_extract.specs.declared.parts.Condition.TheVariants as conditions
use Rattle.gl_extract.specs.declared.parts.ExtractorParts.{ExtractorParts}
use Rattle.gl_extract.specs.declared.built.Built.{Built}
use Rattle.gl_grok.specs.Tables.{Table}
use Rattle.gl_grok.specs.Expansion.{expansion}
use Rattle.gl_check.specs.Checking.{pattern_texts}
use Rattle.gl_settings.specs.declared.input.Input.{Input}
use Rattle.gl_settings.specs.Settings.{Settings}

-- What is built for an extractor: that of a Regex, and the expanded one of a Grok, with the names of its groups; and that
-- of its condition.

abbrev pub kind_pattern : Table → ExtractorKind → Option (List ℕ)
kind_pattern groks (Regex pattern target) = Some pattern
kind_pattern groks (Substring begin end target) = None
kind_pattern groks (Split by index target) = None
kind_pattern groks (Grok pattern) = Some (expansion groks pattern).text
kind_pattern groks Json = None

abbrev pub condition_pattern : Condition → Option (List ℕ)
condition_pattern conditions.None = None
condition_pattern (conditions.Contains part) = None
condition_pattern (conditions.Regex pattern) = Some pattern

abbrev pub group_names : Table → ExtractorKind → List (List ℕ)
group_names groks (Grok pattern) = (expansion groks pattern).fields
group_names groks kind = []

abbrev pub built_of : Table → ExtractorParts → Built
built_of groks parts = record {
  pattern = kind_pattern groks parts.kind;
  condition = condition_pattern parts.condition;
  names = group_names groks parts.kind;
}

-- the values of the rules of a stream that search for a pattern
abbrev pub stream_patterns : Stream → List (List ℕ)
stream_patterns stream = flat_map (λ rule. option_to_list (pattern_of rule.test)) stream.rules

-- the pattern of an extractor, and that of its condition
abbrev pub extractor_patterns : Table → ExtractorParts → List (List ℕ)
extractor_patterns groks parts = option_to_list (kind_pattern groks parts.kind) ++ option_to_list (condition_pattern parts.condition)

abbrev pub input_patterns : Table → Input → List (List ℕ)
input_patterns groks input = flat_map (extractor_patterns groks) input.extractors

-- the patterns of the streams, of the inputs' extractors and of the rules, each counted where it stands
abbrev pub patterns_of : Settings → List (List ℕ)
patterns_of c = flat_map stream_patterns c.streams ++ flat_map (input_patterns c.groks) c.inputs ++ flat_map pattern_texts c.rules

abbrev pub pattern_bytes : Settings → ℕ
pattern_bytes c = sum_by length (patterns_of c)
