-- The configuration at a version: what the first so many commands of a journal make of that of a new store (this project).
use Rattle.std.specs.Prelude.{ℕ, ◌<◌, List, [], ◌∷◌, take, get_or, Option, IsSome, option_and_then, unwrap_or}
use Rattle.std.specs.List.{fold, flat_map}
use Rattle.std.specs.Result.{result_ok}
use Rattle.gl_fields.specs.declared.entry.Entry.{Entry}
use Rattle.gl_fields.specs.declared.entry.Entry.TheVariants.{Admin, Message}
use Rattle.gl_fields.specs.Entries.{version_after}
use Rattle.gl_settings.specs.Settings.{Settings, initial_settings}
use Rattle.gl_commands.specs.CommandReading.{command_in}
use Rattle.gl_config.specs.Applying.{applied}

abbrev pub command_of_entry : Entry → List (List ℕ)
command_of_entry (Admin text) = text ∷ []
command_of_entry (Message m) = []

-- the texts of a journal's commands, in order
abbrev pub commands_of : List Entry → List (List ℕ)
commands_of journal = flat_map command_of_entry journal

-- the configuration behind a command's text; none where the text keeps no command, or its command is refused
unfoldable pub accepted : Settings → List ℕ → Option Settings
accepted c text = option_and_then (λ command. result_ok (applied c command)) (command_in text)

-- a text that isn't accepted changes nothing; a lawful journal has none
abbrev pub after_command : Settings → List ℕ → Settings
after_command c text = unwrap_or (accepted c text) c

-- the configuration after the first so many commands of this journal
unfoldable pub config_at : List Entry → ℕ → Settings
config_at journal version = fold after_command initial_settings (take version (commands_of journal))

-- the present configuration
abbrev pub config_after : List Entry → Settings
config_after journal = config_at journal (version_after journal)

-- the version of the entry at a position: the number of commands before it
abbrev pub version_at : List Entry → ℕ → ℕ
version_at journal position = version_after (take position journal)

-- each command of the journal is accepted by the configuration before it
abbrev pub AreAccepted : List Entry → Type 0
AreAccepted journal = (version : ℕ) → version < version_after journal
    → IsSome (accepted (config_at journal version) (get_or (commands_of journal) version []))
