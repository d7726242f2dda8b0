use Rattle.std.proofs.Common.{Some, None}
use Rattle.std.specs.String.{string_bytes}
use Rattle.gl_settings.proofs.Mapping.{is_found}
use Rattle.gl_settings.proofs.tables.has_pattern.Goals as goal

pub returns-in-Some : goal.returns-in-Some
returns-in-Some c = is_found string_bytes c.args.name.now c.args.groks.now.entries (Some _) c.in-Some.ensures.value

pub returns-in-None : goal.returns-in-None
returns-in-None c = is_found string_bytes c.args.name.now c.args.groks.now.entries None c.in-None.ensures.value
