use Rattle.std.proofs.Common.{◌≡◌, ℕ, min, List, [], length, take, IfOk, sym, ◌∙◌, ap, subst, arith}
use Rattle.gl_outside.specs.declared.record.Call.{Call}
use Rattle.gl_outside.specs.AfterCrash.{first_calls, left_by}
use Rattle.gl_outside.specs.Areas.{bytes_in}
use Rattle.gl_outside.specs.Calls.{on_top, used}
use Rattle.gl_outside.specs.Events.{Event}
use Rattle.gl_outside.specs.RecordView.{RecordView}
use Rattle.gl_outside.proofs.Calls.{first, used_front}
use Rattle.gl_outside.proofs.record.Record.left_by.Goals as goal

pub replay-requires : goal.replay-requires
replay-requires c = omega (arith, used_front c.deref.result.now c.min-count.result, ap used c.deref.ensures.value, c.self.invariant.used_up, ap length c.deref-2.ensures.value)

pub returns : goal.returns
returns c =
    let count : c.min-count.result ≡ min c.args.calls (length c.self.inside.calls.items) = omega (arith, c.min-count.ensures, c.len.ensures, c.deref.ensures.len, ap length c.deref.ensures.value) in
    let events : on_top (take c.min-count.result c.deref.result.now) c.deref-2.result.now [] ≡ first_calls c.args.calls c.args.self.now.events =
    ap (λ (l : List Call). on_top (take c.min-count.result l) c.deref-2.result.now []) c.deref.ensures.value
    ∙ ap (λ (l : List ℕ). on_top (take c.min-count.result c.self.inside.calls.items) l []) c.deref-2.ensures.value
    ∙ sym (first c.self.inside.calls.items c.self.inside.bytes.items c.args.calls c.min-count.result count)
    ∙ ap (λ (v : RecordView). first_calls c.args.calls v.events) c.self.view_is in
    subst (λ (l : List Event). IfOk c.replay.result (λ areas. (b : ℕ) → bytes_in areas.items b ≡ left_by c.args.unsynced l b)) events c.replay.ensures
