use Rattle.std.proofs.Common.{Ok, Err, sym, ap, ◌∙◌, subst}
use Rattle.std.specs.List.{insert}
use Rattle.std.proofs.lemmas.List.Sorted.{searched}
use Rattle.gl_streams.specs.Ids.{with_id}
use Rattle.gl_streams.proofs.Putting.{Rising, in_order, inserted, kept}
use Rattle.gl_streams.proofs.ids.put.Goals as goal

pub returns-in-Ok-clause-ids : goal.returns-in-Ok-clause-ids
returns-in-Ok-clause-ids c =
    let ids = c.deref.result.now in
    let rises : Rising ids = subst Rising (sym c.deref.ensures.value) c.requires in
    let at = searched ids c.args.id (Ok c.in-Ok.field-0) c.in-Ok.ensures.position (in_order ids rises) in
    sym c.deref.ensures.value ∙ sym (kept ids c.args.id c.in-Ok.field-0 rises at.0 at.1) ∙ ap (λ l. with_id l c.args.id) c.deref.ensures.value

pub returns-in_ok-insert-in-Err-clause-ids : goal.returns-in_ok-insert-in-Err-clause-ids
returns-in_ok-insert-in-Err-clause-ids c =
    let ids = c.deref.result.now in
    let rises : Rising ids = subst Rising (sym c.deref.ensures.value) c.requires in
    let at = searched ids c.args.id (Err c.in-Err.at) c.in-Err.ensures.position (in_order ids rises) in
    c.in_ok-insert-in-Err.ensures.items
    ∙ ap (λ l. insert l c.in-Err.at c.args.id) (sym c.deref.ensures.value)
    ∙ inserted ids c.args.id c.in-Err.at at.0 at.1 at.2
    ∙ ap (λ l. with_id l c.args.id) c.deref.ensures.value
