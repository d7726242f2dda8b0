-- Which parts make an extractor (this project).
use Rattle.std.specs.Prelude.{ℕ, Bool, true, false, not, ◌&&◌, List, length, nat_lt, nat_le, Option, Some, None, Result, Ok, Err, codes, if◌then◌else◌}
use Rattle.std.specs.Str.{bytes_eq}
use Rattle.gl_fields.specs.Fields.{is_field_name}
use Rattle.gl_extract.specs.declared.parts.ExtractorKind.{ExtractorKind}
use Rattle.gl_extract.specs.declared.parts.ExtractorKind.TheVariants.{Regex, Substring, Split, Grok, Json}
use Rattle.gl_extract.specs.declared.parts.ExtractorParts.{ExtractorParts}
use Rattle.gl_extract.specs.declared.extractor.ExtractRefusal.{ExtractRefusal}
use Rattle.gl_extract.specs.declared.extractor.ExtractRefusal.TheVariants.{BadName, CutNotAllowed, BadRange}

-- the name of the field that is set; Grok and Json name theirs in the text or the pattern
abbrev pub target_of : ExtractorKind → Option (List ℕ)
target_of (Regex pattern target) = Some target
target_of (Substring begin end target) = Some target
target_of (Split by index target) = Some target
target_of (Grok pattern) = None
target_of Json = None

-- `timestamp` is never set
abbrev pub is_target : Option (List ℕ) → Bool
is_target None = true
is_target (Some target) = is_field_name target && not (bytes_eq target (codes "timestamp"))

-- what may be cut out of the source, when this target is set
abbrev pub may_cut : List ℕ → Option (List ℕ) → Bool
may_cut source None = false
may_cut source (Some target) = not (bytes_eq source (codes "timestamp")) && not (bytes_eq target source)

abbrev pub is_range : ExtractorKind → Bool
is_range (Regex pattern target) = true
is_range (Substring begin end target) = nat_lt begin end && nat_le end 1048576
is_range (Split by index target) = nat_lt 0 index && nat_lt 0 (length by)
is_range (Grok pattern) = true
is_range Json = true

-- why parts make no extractor, the first cause that holds
abbrev pub refusal_of : ExtractorParts → Option ExtractRefusal
refusal_of parts =
    if not (is_field_name parts.source && is_target (target_of parts.kind)) then Some BadName
    else (if parts.cut && not (may_cut parts.source (target_of parts.kind)) then Some CutNotAllowed
    else (if not (is_range parts.kind) then Some BadRange
    else None))

abbrev pub unless : Option ExtractRefusal → ExtractorParts → Result ExtractorParts ExtractRefusal
unless None parts = Ok parts
unless (Some refusal) parts = Err refusal

-- the extractor of these parts, or why there is none
abbrev pub accepted : ExtractorParts → Result ExtractorParts ExtractRefusal
accepted parts = unless (refusal_of parts) parts
