use Rattle.std.proofs.Common.{Some, None}
use Rattle.std.specs.String.{string_bytes}
use Rattle.gl_settings.proofs.Mapping.{is_found}
use Rattle.gl_settings.proofs.tables.has_table.Goals as goal

pub returns-in-Some : goal.returns-in-Some
returns-in-Some c = is_found (λ (t : _). t) c.args.name.now c.args.tables.now.entries (Some _) c.in-Some.ensures.value

pub returns-in-None : goal.returns-in-None
returns-in-None c = is_found (λ (t : _). t) c.args.name.now c.args.tables.now.entries None c.in-None.ensures.value
