use Rattle.std.proofs.Common.{◌≡◌, length, sym, ◌∙◌, ap, arith}
use Rattle.std.proofs.lemmas.Grind.{common_steps}
use Rattle.gl_outside.specs.RecordView.{RecordView}
use Rattle.gl_outside.proofs.Calls.{as_many}
use Rattle.gl_outside.proofs.record.Record.len.Goals as goal

pub returns : goal.returns
returns c =
    let calls : c.len.result ≡ length c.self.inside.calls.items = grind (arith, common_steps) in
    calls ∙ sym (as_many c.self.inside.calls.items c.self.inside.bytes.items) ∙ ap (λ (v : RecordView). length v.events) c.self.view_is
