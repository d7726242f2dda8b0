-- What contracts see of the parts of a configuration.
use Rattle.std.specs.Prelude.{ℕ, List, map}
use Rattle.std.specs.String.{string_bytes}
use Rattle.std.specs.declared.string.String.{String}
use Rattle.std.specs.BTreeMap.{BTreeMap}
use Rattle.gl_grok.specs.Tables.{table_of}
use Rattle.gl_settings.specs.declared.parts.Parts.TheInside.{Inside}
use Rattle.gl_settings.specs.Settings.{Settings, tables_of}

abbrev pub settings_of : Inside → Settings
settings_of parts = record {
  version = parts.version;
  inputs = parts.inputs;
  sets = parts.sets;
  streams = parts.streams;
  rules = parts.rules;
  pipelines = parts.pipelines;
  connections = parts.connections;
  lookups = tables_of parts.lookups;
  groks = table_of parts.groks;
  users = parts.users;
}
