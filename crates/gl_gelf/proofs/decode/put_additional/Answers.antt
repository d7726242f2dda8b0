use Rattle.std.proofs.Common.{rules}
use Rattle.gl_gelf.specs.Parts.{named_view}
use Rattle.gl_gelf.proofs.Setting.{additional_put}
use Rattle.gl_gelf.proofs.decode.put_additional.Goals as goal

pub returns-in-Some : goal.returns-in-Some
returns-in-Some c =
    additional_put c.as_str-name.result.now c.field_name-short.result.now (named_view c.args.member.now) c.in-Some.value c.args.fields.now c.put_if_lawful.new.fields c.put_if_lawful.result
    (search rules) (search rules) (search rules) (search rules) (search rules) c.put_if_lawful.ensures.lawful c.put_if_lawful.ensures.other
