-- The words of the command line.
use Rattle.std.specs.Prelude.{ℕ, ◌^◌, Bool, false, not, length, List, [], ◌∷◌, ◌==◌, if◌then◌else◌, codes, slice_index}
use Rattle.std.specs.Str.{bytes_eq}
use Rattle.gl_node.specs.declared.node.Options.{Options}
use Rattle.gl_cli.specs.declared.status.Command.{Command}
use Rattle.gl_cli.specs.declared.status.Command.TheVariants.{Session, Check, Usage}

abbrev pub default_options : Options
default_options = record { segment = 67108864; journal_limit = 2 ^ 36; index_limit = 2 ^ 40 }

-- a store's name isn't empty, and doesn't begin with `-`
abbrev pub is_store : List ℕ → Bool
is_store word = if (length word == 0) then false else not (slice_index word 0 == 45)

-- what the words ask for: `session STORE` or `check STORE`, and nothing else yet
abbrev pub command_on : List ℕ → List ℕ → Command
command_on word store =
    if bytes_eq word (codes "session") then Session store default_options
    else (if bytes_eq word (codes "check") then Check store default_options
    else Usage)

abbrev pub command_for : List (List ℕ) → Command
command_for (word ∷ store ∷ []) = if is_store store then command_on word store else Usage
command_for other = Usage

-- the sizes with which a command opens its store
abbrev pub options_of : Command → Options
options_of (Session store options) = options
options_of (Check store options) = options
options_of Usage = default_options
