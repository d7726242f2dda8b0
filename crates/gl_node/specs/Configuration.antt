-- The configuration at a version: what the first so many commands of a journal make of the initial one. There are no commands yet.
use Rattle.std.specs.Prelude.{ℕ, Bool, List, [], ◌∷◌, codes, find, Option, option_map}
use Rattle.std.specs.Option.{is_some}
use Rattle.std.specs.Str.{bytes_eq}
use Rattle.gl_fields.specs.declared.input_kind.InputKind.{InputKind}
use Rattle.gl_fields.specs.declared.input_kind.InputKind.TheVariants.{Raw, Gelf, Syslog}
use Rattle.gl_fields.specs.declared.entry.Entry.{Entry}
use Rattle.gl_fields.specs.Entries.{version_after}
use Rattle.gl_node.specs.declared.config.Config.{Config}
use Rattle.gl_node.specs.declared.config.Input.{Input}

abbrev pub input_named : List ℕ → InputKind → Input
input_named name kind = record { name = name; kind = kind }

-- the configuration of a new store: three inputs, each of the kind that its name says
abbrev pub initial_config : Config
initial_config = record {
  version = 0;
  inputs = input_named (codes "raw") Raw ∷ input_named (codes "gelf") Gelf ∷ input_named (codes "syslog") Syslog ∷ [];
}

-- the configuration after the first so many commands of this journal
abbrev pub config_at : List Entry → ℕ → Config
config_at journal version = record { version = version; inputs = initial_config.inputs }

-- the present configuration
abbrev pub config_after : List Entry → Config
config_after journal = config_at journal (version_after journal)

-- what decodes the payloads of the input with this name, if there is one
abbrev pub kind_of : Config → List ℕ → Option InputKind
kind_of config name = option_map (λ input. input.kind) (find (λ input. bytes_eq name input.name) config.inputs)

-- whether an input has this name
abbrev pub is_input : Config → List ℕ → Bool
is_input config name = is_some (kind_of config name)
