-- What the entries of a journal become: each under the configuration of its recorded version (this project).
use Rattle.std.specs.Prelude.{◌≡◌, ⊤, ℕ, List, ◌++◌, map, take, drop, length}
use Rattle.gl_fields.specs.declared.entry.Entry.{Entry}
use Rattle.gl_fields.specs.declared.entry.Entry.TheVariants.{Admin, Message}
use Rattle.gl_fields.specs.declared.entry.Outcome.{Outcome}
use Rattle.gl_fields.specs.declared.entry.Outcome.TheVariants.{Applied}
use Rattle.gl_history.specs.Versions.{config_at}
use Rattle.gl_outcome.specs.Outcomes.{message_under}

abbrev pub outcome_of : List Entry → Entry → Outcome
outcome_of journal (Admin command) = Applied
outcome_of journal (Message m) = message_under (config_at journal m.version) m

-- the outcomes of the journal's first entries, so many of them
abbrev pub outcomes_to : List Entry → ℕ → List Outcome
outcomes_to journal count = map (outcome_of journal) (take count journal)

-- the outcomes that were found, and then those of the entries behind them, up to this count
abbrev pub outcomes_after : List Outcome → List Entry → ℕ → List Outcome
outcomes_after found journal count = found ++ map (outcome_of journal) (drop (length found) (take count journal))

-- it is a command, or a message that was recorded under this version
abbrev pub IsRecorded : ℕ → Entry → Type 0
IsRecorded version (Admin command) = ⊤
IsRecorded version (Message m) = m.version ≡ version
