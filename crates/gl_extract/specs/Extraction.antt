-- What an extractor makes of the fields of a message (this project).
use Rattle.std.specs.Prelude.{◌≡◌, ℕ, ◌+◌, Bool, true, List, [], ◌∷◌, ◌++◌, take, drop, slice_range, Option, Some, None, option_map, if◌then◌else◌}
use Rattle.std.specs.List.{fold}
use Rattle.std.specs.Fmt.{decimal}
use Rattle.gl_fields.specs.declared.field.Field.{Field}
use Rattle.gl_fields.specs.declared.field.FieldRefusal.{FieldRefusal}
use Rattle.gl_fields.specs.declared.value.Value.TheVariants.{Text}
use Rattle.gl_fields.specs.Fields.{value_of, value_text, with_field, refusal_of}
use Rattle.gl_fields.specs.Putting.{text_field}
use Rattle.gl_patterns.specs.Patterns.{is_found, group_in, named_in}
use Rattle.gl_text.specs.Texts.{contains, piece, characters}
use Rattle.gl_extract.specs.declared.built.Built.{Built}
use Rattle.gl_extract.specs.declared.parts.Condition.{Condition}
use Rattle.gl_extract.specs.declared.parts.Condition.TheVariants as conditions
use Rattle.gl_extract.specs.declared.parts.ExtractorKind.{ExtractorKind}
use Rattle.gl_extract.specs.declared.parts.ExtractorKind.TheVariants.{Regex, Substring, Split, Grok, Json}
use Rattle.gl_extract.specs.declared.parts.ExtractorParts.{ExtractorParts}
use Rattle.gl_extract.specs.Converting.{converted_by}
use Rattle.gl_extract.specs.Objects.{object_fields}

-- The patterns that are built for an extractor. What a grok pattern becomes is said by `expanded`.

abbrev pub pattern_of : (List ℕ → List ℕ) → ExtractorKind → Option (List ℕ)
pattern_of expanded (Regex pattern target) = Some pattern
pattern_of expanded (Substring begin end target) = None
pattern_of expanded (Split by index target) = None
pattern_of expanded (Grok pattern) = Some (expanded pattern)
pattern_of expanded Json = None

abbrev pub condition_of : Condition → Option (List ℕ)
condition_of conditions.None = None
condition_of (conditions.Contains part) = None
condition_of (conditions.Regex pattern) = Some pattern

-- The pattern is the extractor's, and so is that of the condition. A grok pattern may become any text.
pub record Fits (parts : ExtractorParts) (built : Built) : Type 0 where
  pub expanded : List ℕ → List ℕ
  pub pattern : built.pattern ≡ pattern_of expanded parts.kind
  pub condition : built.condition ≡ condition_of parts.condition

-- Fields that are set, one after the other.

-- new fields, unless there is a refusal
abbrev pub unless : Option FieldRefusal → List Field → List Field → List Field
unless None fields new = new
unless (Some refusal) fields new = fields

-- the map with this field set, or as it was where it refuses the field
unfoldable pub set_or_left : Field → List Field → List Field
set_or_left field fields = unless (refusal_of field fields) fields (with_field field fields)

abbrev pub set_all : List Field → List Field → List Field
set_all given fields = fold (λ kept field. set_or_left field kept) fields given

-- Of these fields some first ones are set, before these that are left.
pub record HaveBegun (given left old new : List Field) : Type 0 where
  pub done : List Field
  pub all : given ≡ done ++ left
  pub set : new ≡ set_all done old

-- what stands where memory is wanting: none, some or all of these fields are set, in order
abbrev pub AreBegun : List Field → List Field → List Field → Type 0
AreBegun given old new = (left : List Field) × HaveBegun given left old new

-- the bytes in the span
abbrev pub part_of : List ℕ → ℕ × ℕ → List ℕ
part_of text span = slice_range text span.0 span.1

-- the bytes before and behind the span
abbrev pub rest_of : List ℕ → ℕ × ℕ → List ℕ
rest_of text span = take span.0 text ++ drop span.1 text

-- One part of the text is taken: Regex, Substring and Split.

abbrev pub target_field : ExtractorParts → List ℕ → List ℕ → Field
target_field parts target part = record { name = target; value = converted_by parts.converters (Text part) }

abbrev pub part_given : ExtractorParts → List ℕ → List ℕ → Option (ℕ × ℕ) → List Field
part_given parts target text None = []
part_given parts target text (Some span) = target_field parts target (part_of text span) ∷ []

-- the source without what was taken, where that is to be cut
unfoldable pub with_cut : ExtractorParts → List ℕ → ℕ × ℕ → List Field → List Field
with_cut parts text span fields = if parts.cut then set_or_left (text_field parts.source (rest_of text span)) fields else fields

-- the part set in the target, and then cut; where the target is refused nothing changes
unfoldable pub with_part : ExtractorParts → List ℕ → List ℕ → Option (ℕ × ℕ) → List Field → List Field
with_part parts target text None fields = fields
with_part parts target text (Some span) fields =
    unless (refusal_of (target_field parts target (part_of text span)) fields) fields
    (with_cut parts text span (with_field (target_field parts target (part_of text span)) fields))

-- Named groups of one pattern: Grok.

-- `g0`, `g1` and so on
abbrev pub group_name : ℕ → List ℕ
group_name n = 103 ∷ decimal n

abbrev pub group_field : List ℕ → List ℕ → Option (ℕ × ℕ) → List Field
group_field name text None = []
group_field name text (Some span) = text_field name (part_of text span) ∷ []

-- the fields of the names whose groups took part, where the first name has this number
unfoldable pub group_fields : List ℕ → List ℕ → ℕ → List (List ℕ) → List Field
group_fields pattern text n [] = []
group_fields pattern text n (name ∷ names) =
    group_field name text (named_in pattern text (group_name n)) ++ group_fields pattern text (n + 1) names

abbrev pub grok_fields : Option (List ℕ) → List (List ℕ) → List ℕ → List Field
grok_fields None names text = []
grok_fields (Some pattern) names text = group_fields pattern text 0 names

-- The whole.

-- the text of the source
abbrev pub source_text : List ℕ → List Field → Option (List ℕ)
source_text source fields = option_map value_text (value_of source fields)

unfoldable pub is_met : Condition → List ℕ → Bool
is_met conditions.None text = true
is_met (conditions.Contains part) text = contains part text
is_met (conditions.Regex pattern) text = is_found pattern text

unfoldable pub taken : ExtractorKind → ExtractorParts → Built → List ℕ → List Field → List Field
taken (Regex pattern target) parts built text fields = with_part parts target text (group_in pattern text 1) fields
taken (Substring begin end target) parts built text fields = with_part parts target text (characters begin end text) fields
taken (Split by index target) parts built text fields = with_part parts target text (piece by index text) fields
taken (Grok pattern) parts built text fields = set_all (grok_fields built.pattern built.names text) fields
taken Json parts built text fields = set_all (object_fields text) fields

abbrev pub extracted_of : Option (List ℕ) → ExtractorParts → Built → List Field → List Field
extracted_of None parts built fields = fields
extracted_of (Some text) parts built fields = if is_met parts.condition text then taken parts.kind parts built text fields else fields

-- The fields after the extractor. Of the built patterns only the expanded one of a Grok plays a part, with its names.
unfoldable pub extracted : ExtractorParts → Built → List Field → List Field
extracted parts built fields = extracted_of (source_text parts.source fields) parts built fields

-- The fields that are given, without a cut.

unfoldable pub given : ExtractorKind → ExtractorParts → Built → List ℕ → List Field
given (Regex pattern target) parts built text = part_given parts target text (group_in pattern text 1)
given (Substring begin end target) parts built text = part_given parts target text (characters begin end text)
given (Split by index target) parts built text = part_given parts target text (piece by index text)
given (Grok pattern) parts built text = grok_fields built.pattern built.names text
given Json parts built text = object_fields text

abbrev pub given_of : Option (List ℕ) → ExtractorParts → Built → List Field
given_of None parts built = []
given_of (Some text) parts built = given parts.kind parts built text

-- where memory is wanting: some first ones of the given fields are set
unfoldable pub IsBegun : ExtractorParts → Built → List Field → List Field → Type 0
IsBegun parts built old new = AreBegun (given_of (source_text parts.source old) parts built) old new
