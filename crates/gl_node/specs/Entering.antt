-- What becomes of an entry that may follow the journal.
use Rattle.std.specs.Prelude.{◌+◌, length, nat_lt, if◌then◌else◌}
use Rattle.gl_fields.specs.declared.entry.Entry.{Entry}
use Rattle.gl_node.specs.declared.answer.Arrival.{Arrival}
use Rattle.gl_node.specs.declared.answer.Arrival.TheVariants.{Journalled, JournalFull}
use Rattle.gl_node.specs.State.{State, entry_batch, journal_size}

-- the answer to the entry: it is journalled where the journal takes its bytes
abbrev pub entered : State → Entry → Arrival
entered s entry =
    if nat_lt s.base.journal_limit (journal_size s + entry_batch entry)
    then JournalFull (journal_size s) s.base.journal_limit
    else Journalled (length s.journal)
