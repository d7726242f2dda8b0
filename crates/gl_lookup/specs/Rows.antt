-- The records of a text of comma-separated fields, each as the list of its fields (RFC 4180). A byte order mark
-- at the front is left out, a line ends in CR, LF or both, and an empty line is no record. A quote inside a field
-- that doesn't begin with one stands for itself, and a quote that isn't closed goes on to the end of the text.
use Rattle.std.specs.Prelude.{◌≡◌, ℕ, ◌+◌, false, List, [], length, Option, IsSome, unwrap_or}
use Rattle.csv.specs.Machine.{ends_at_end}
use Rattle.csv.specs.Reading.{records, records_from, default_config, strip_bom, source_of, reader_trim, reader_config, reader_state, Ready}
use Rattle.csv.specs.Records.{field_at}
use Rattle.csv.specs.declared.parser.State.{State}
use Rattle.csv.specs.declared.reader.Reader.{Reader}
use Rattle.csv.specs.declared.reader.Trim.TheVariants as trims

abbrev pub rows_of : List ℕ → List (List (List ℕ))
rows_of text = records default_config (strip_bom text)

-- the field at a place, or nothing where there is none
abbrev pub cell : ℕ → List (List ℕ) → List ℕ
cell at fields = unwrap_or (field_at fields at) []

-- What a reader of records has left. `remaining` says which bytes the source below it has left.

abbrev pub rows_ahead : State → List ℕ → List (List (List ℕ))
rows_ahead state text = records_from default_config (length text + 1) state text

abbrev pub left_of : {R : Type 0} → (R → Option (List ℕ)) → Reader R → List (List (List ℕ))
left_of remaining reader = rows_ahead (reader_state reader) (unwrap_or (source_of remaining reader) [])

-- it stands before a record or at the end, and its next read gives that record as it is
pub record IsReading {R : Type 0} (remaining : R → Option (List ℕ)) (reader : Reader R) : Type 0 where
  pub whole : reader_trim reader ≡ trims.None
  pub ready : Ready reader
  pub config : reader_config reader ≡ default_config
  pub known : IsSome (source_of remaining reader)
  pub between : ends_at_end (reader_state reader) ≡ false
