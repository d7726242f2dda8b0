-- What is kept of a journal's versions, so that each is at hand without the journal.
use Rattle.std.specs.Prelude.{◌≡◌, ℕ, ◌+◌, ◌-◌, ◌<◌, ◌≤◌, List, map, length, filter, find, nat_le, Option}
use Rattle.std.specs.List.{range_with_len, enumerate_from}
use Rattle.gl_fields.specs.declared.entry.Entry.{Entry}
use Rattle.gl_fields.specs.Entries.{is_admin, version_after}
use Rattle.gl_settings.specs.Settings.{Settings}
use Rattle.gl_history.specs.Versions.{config_at}

-- the versions from one on, up to that of the present configuration
abbrev pub versions_from : ℕ → List Entry → List ℕ
versions_from from journal = range_with_len from (version_after journal + 1 - from)

-- the positions of a journal's commands
abbrev pub command_positions : List Entry → List ℕ
command_positions journal = map (λ entry. entry.0) (filter (λ entry. is_admin entry.1) (enumerate_from 0 journal))

-- the position of the first command at or behind this one
abbrev pub next_command : List Entry → ℕ → Option ℕ
next_command journal position = find (nat_le position) (command_positions journal)

-- how many streams each version has: their ids are 1 to that number
abbrev pub streams_at : List Entry → ℕ → ℕ
streams_at journal version = length (config_at journal version).streams

-- What a history has: configurations, the first of which is of the version `from`, the positions of all commands, how many
-- streams each version had, and room for how many commands more.
pub record Kept : Type 0 where
  pub from : ℕ
  pub configs : List Settings
  pub commands : List ℕ
  pub counts : List ℕ
  pub room : ℕ

-- the present configuration is there, and each version has its count and, but for the first, its command
pub record IsWhole (kept : Kept) : Type 0 where
  pub present : 0 < length kept.configs
  pub counts : length kept.counts ≡ kept.from + length kept.configs
  pub commands : length kept.commands + 1 ≡ length kept.counts

-- It remembers this journal: the configurations of the versions from one on, and of all versions where their commands
-- stand and how many streams they have. Messages play no part.
pub record Remembers (kept : Kept) (journal : List Entry) (from : ℕ) : Type 0 where
  pub begins : kept.from ≡ from
  pub known : from ≤ version_after journal
  pub configs : kept.configs ≡ map (config_at journal) (versions_from from journal)
  pub commands : kept.commands ≡ command_positions journal
  pub counts : kept.counts ≡ map (streams_at journal) (versions_from 0 journal)
