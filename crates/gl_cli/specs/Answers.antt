-- The answer lines.
use Rattle.std.specs.Prelude.{ℕ, ◌+◌, ◌-◌, Bool, false, not, ◌&&◌, ◌||◌, List, [], ◌∷◌, ◌++◌, length, map, replicate, ◌==◌, if◌then◌else◌, codes}
use Rattle.std.specs.List.{join_with_byte, flat_map}
use Rattle.std.specs.Fmt.{decimal, signed_decimal, digits}
use Rattle.std.specs.Int.{is_in_range}
use Rattle.percent_encoding.specs.Percent.{percent_encode_byte}
use Rattle.gl_fields.specs.declared.field.Field.{Field}
use Rattle.gl_fields.specs.declared.value.Value.{Value}
use Rattle.gl_fields.specs.declared.value.Value.TheVariants.{Text, Whole}
use Rattle.gl_fields.specs.declared.entry.Cause.{Cause}
use Rattle.gl_fields.specs.declared.entry.Cause.TheVariants.{NotJson, TooDeep, Compressed, NoShortMessage, TooManyFields, TooLarge}
use Rattle.gl_fields.specs.declared.entry.Outcome.{Outcome}
use Rattle.gl_fields.specs.declared.entry.Outcome.TheVariants.{Applied, Stored, Dropped, Undecodable}
use Rattle.gl_node.specs.declared.mark.Mark.{Mark}
use Rattle.gl_node.specs.declared.answer.Arrival.{Arrival}
use Rattle.gl_node.specs.declared.answer.Arrival.TheVariants.{Journalled, Empty, Held, Repeat, BadChunk, CountMismatch, ChunkTableFull, FrameTooLong, UnknownInput, JournalFull}
use Rattle.gl_node.specs.Claims.{ClaimAnswer, Granted, Nothing, Busy, FinishAnswer, CommittedTo, Kept, NoClaim, IndexFull}

-- words as a line: parted by spaces, and ended by a line feed
abbrev pub words_text : List (List ℕ) → List ℕ
words_text words = join_with_byte 32 words ++ 10 ∷ []

abbrev pub end_of : Mark → ℕ
end_of mark = mark.first + mark.count

abbrev pub arrival_words : Arrival → List (List ℕ)
arrival_words (Journalled position) = codes "journalled" ∷ decimal position ∷ []
arrival_words Empty = codes "empty" ∷ []
arrival_words Held = codes "held" ∷ []
arrival_words Repeat = codes "repeat" ∷ []
arrival_words BadChunk = codes "bad-chunk" ∷ []
arrival_words (CountMismatch kept given) = codes "count-mismatch" ∷ decimal kept ∷ decimal given ∷ []
arrival_words ChunkTableFull = codes "chunk-table-full" ∷ []
arrival_words FrameTooLong = codes "frame-too-long" ∷ []
arrival_words UnknownInput = codes "unknown-input" ∷ []
arrival_words (JournalFull bytes limit) = codes "journal-full" ∷ decimal bytes ∷ decimal limit ∷ []

abbrev pub claim_words : ℕ → ClaimAnswer → List (List ℕ)
claim_words worker (Granted mark) = codes "claimed" ∷ decimal worker ∷ decimal mark.first ∷ decimal (end_of mark) ∷ []
claim_words worker Nothing = codes "nothing" ∷ []
claim_words worker (Busy mark) = codes "busy" ∷ decimal mark.first ∷ decimal (end_of mark) ∷ []

abbrev pub finish_words : FinishAnswer → List (List ℕ)
finish_words (CommittedTo count) = codes "committed" ∷ decimal count ∷ []
finish_words (Kept count) = codes "kept" ∷ decimal count ∷ []
finish_words NoClaim = codes "no-claim" ∷ []
finish_words (IndexFull bytes limit) = codes "index-full" ∷ decimal bytes ∷ decimal limit ∷ []

-- a printable byte but `%` and `&` stands for itself, and each other is escaped
abbrev pub is_plain : ℕ → Bool
is_plain b = is_in_range 33 126 b && not (b == 37 || b == 38)

abbrev pub escaped : List ℕ → List ℕ
escaped bytes = flat_map (λ b. if is_plain b then b ∷ [] else percent_encode_byte b) bytes

-- a stream's id as 24 lower-case hexadecimal digits
abbrev pub id_text : ℕ → List ℕ
id_text id = replicate (24 - length (digits 16 false id)) 48 ++ digits 16 false id

abbrev pub field_text : List ℕ → Value → List ℕ
field_text name (Text text) = name ++ codes "=" ++ escaped text
field_text name (Whole number) = name ++ codes ":" ++ signed_decimal number

abbrev pub fields_text : List Field → List ℕ
fields_text fields = join_with_byte 38 (map (λ field. field_text field.name field.value) fields)

abbrev pub cause_words : Cause → List (List ℕ)
cause_words (NotJson at) = codes "not-json" ∷ decimal at ∷ []
cause_words TooDeep = codes "too-deep" ∷ []
cause_words Compressed = codes "compressed" ∷ []
cause_words NoShortMessage = codes "no-short-message" ∷ []
cause_words TooManyFields = codes "too-many-fields" ∷ []
cause_words TooLarge = codes "too-large" ∷ []

abbrev pub outcome_words : Outcome → List (List ℕ)
outcome_words Applied = codes "applied" ∷ []
outcome_words (Stored streams fields) = codes "stored" ∷ join_with_byte 44 (map id_text streams) ∷ fields_text fields ∷ []
outcome_words Dropped = codes "dropped" ∷ []
outcome_words (Undecodable cause) = codes "undecodable" ∷ cause_words cause
