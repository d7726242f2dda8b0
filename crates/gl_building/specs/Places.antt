-- What is built of the parts of a configuration: each pattern at its place, seen as its text (this project).
use Rattle.std.specs.Prelude.{⊤, ℕ, List, map, IsOk}
use Rattle.std.specs.List.{All, fold}
use Rattle.gl_fields.specs.declared.field.Field.{Field}
use Rattle.gl_extract.specs.declared.built.Built.{Built}
use Rattle.gl_extract.specs.declared.parts.ExtractorKind.{ExtractorKind}
use Rattle.gl_extract.specs.declared.parts.ExtractorKind.TheVariants.{Regex, Substring, Split, Grok, Json}
use Rattle.gl_extract.specs.declared.parts.ExtractorParts.{ExtractorParts}
use Rattle.gl_extract.specs.Extraction.{extracted}
use Rattle.gl_grok.specs.Tables.{Table}
use Rattle.gl_grok.specs.Answers.{answer}
use Rattle.gl_rulelang.specs.Tree.{RuleTree}
use Rattle.gl_check.specs.Checking.{pattern_texts}
use Rattle.gl_settings.specs.declared.input.Input.{Input}
use Rattle.gl_settings.specs.Patterns.{built_of}

-- Which extractors something is built for.

-- a pattern of grok becomes an expression by the table
abbrev pub Expands : Table → ExtractorKind → Type 0
Expands groks (Grok pattern) = IsOk (answer groks pattern)
Expands groks other = ⊤

-- each of these extractors that is one of grok
abbrev pub AllExpand : Table → List ExtractorParts → Type 0
AllExpand groks extractors = All (λ (parts : ExtractorParts). Expands groks parts.kind) extractors

-- the same of all extractors of these inputs
abbrev pub InputsExpand : Table → List Input → Type 0
InputsExpand groks inputs = All (λ (input : Input). AllExpand groks input.extractors) inputs

-- What is built.

-- for the extractors of an input, in their order
abbrev pub built_all : Table → List ExtractorParts → List Built
built_all groks extractors = map (built_of groks) extractors

-- for the extractors of each input
abbrev pub built_inputs : Table → List Input → List (List Built)
built_inputs groks inputs = map (λ (input : Input). built_all groks input.extractors) inputs

-- the rules, each with its patterns
abbrev pub book_of : List RuleTree → List (RuleTree × List (List ℕ))
book_of rules = map {B = RuleTree × List (List ℕ)} (λ (rule : RuleTree). (rule, pattern_texts rule)) rules

-- What extractors make of fields.

-- the fields behind these extractors, one after another, each with what is built for it
abbrev pub extracted_all : Table → List ExtractorParts → List Field → List Field
extracted_all groks extractors fields = fold (λ kept parts. extracted parts (built_of groks parts) kept) fields extractors
