-- What is written, and what is left.
use Rattle.std.proofs.Common.{drop}
use Rattle.json.specs.Tree.{json_tokens}
use Rattle.serde_json.specs.Written.{outline}
use Rattle.gl_bodies.specs.Pages.{field_member, fields_data}
use Rattle.gl_bodies.proofs.Values.{Goes, members_rest}
use Rattle.gl_bodies.proofs.page.write_fields.Given as goal

abbrev pub invariant-loop-field : goal.invariant-loop-field
invariant-loop-field l = Goes l.fn.body l.body (members_rest field_member (drop l.field-index l.fields)) (json_tokens (outline (fields_data l.fields)))
