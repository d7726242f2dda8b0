use Rattle.std.proofs.Common.{List, sym, subst}
use Rattle.gl_fields.specs.declared.entry.Entry.{Entry}
use Rattle.gl_node.specs.Arrivals.{added_by}
use Rattle.gl_node.specs.Entering.{entered}
use Rattle.gl_node.specs.Node.{StoreOn, store_of}
use Rattle.gl_node.proofs.Adding.{keeps_roomy}
use Rattle.gl_node.proofs.Finishes.{on_err_so}
use Rattle.gl_node.proofs.Moments.{nothing_yet}
use Rattle.gl_node.proofs.node.Node.enter.Goals as goal

pub returns-in_err-records-clause-any_moment : goal.returns-in_err-records-clause-any_moment
returns-in_err-records-clause-any_moment g c = λ tells on s keeps.
    nothing_yet c.args.self.now s keeps (g.D.Disk.state c.args.disk.now) on (added_by (entered s c.args.entry) c.args.entry)

pub returns-in_err-reserve-clause-any_moment : goal.returns-in_err-reserve-clause-any_moment
returns-in_err-reserve-clause-any_moment g c = λ tells on s keeps.
    nothing_yet c.args.self.now s keeps (g.D.Disk.state c.args.disk.now) on (added_by (entered s c.args.entry) c.args.entry)

pub returns-clause-refused : goal.returns-clause-refused
returns-clause-refused g c = on_err_so c.add.result _ _ c.add.ensures.refused (λ same s keeps. same s (keeps_roomy c.args.self.now s c.reserve.new.self keeps c.in_ok-reserve.ensures.items))

pub returns-clause-any_moment : goal.returns-clause-any_moment
returns-clause-any_moment g c = λ tells on s keeps.
    c.add.ensures.any_moment tells
    (subst (λ (es : List Entry). StoreOn (record (store_of c.args.self.now) { entries = es }) (g.D.Disk.state c.args.disk.now)) (sym c.in_ok-reserve.ensures.items) on)
    s (keeps_roomy c.args.self.now s c.reserve.new.self keeps c.in_ok-reserve.ensures.items)
