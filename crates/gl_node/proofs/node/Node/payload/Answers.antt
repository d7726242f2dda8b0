use Rattle.std.proofs.Common.{◌≡◌, true, false, nat_lt, ◌==◌, List, length, subst, arith, rules}
use Rattle.std.proofs.lemmas.Grind.{common_steps}
use Rattle.gl_outside.specs.Disk.{LeavesOnly}
use Rattle.gl_node.specs.Arrivals.{arrival_events}
use Rattle.gl_node.specs.Configuration.{is_input}
use Rattle.gl_node.specs.Moments.{LeftBy}
use Rattle.gl_node.specs.State.{Event}
use Rattle.gl_node.proofs.Entered.{events_are, answered}
use Rattle.gl_node.proofs.Moments.{nothing_yet}
use Rattle.gl_node.proofs.node.Node.payload.Goals as goal

pub returns-clause-answer : goal.returns-clause-answer
returns-clause-answer g c =
    let known : is_input c.args.self.now.config c.args.input.now ≡ true = first_of (search rules, grind (arith, common_steps)) in
    let some : (length c.args.bytes.now == 0) ≡ false = first_of (search rules, grind (arith, common_steps)) in
    let few : nat_lt 1048576 (length c.args.bytes.now) ≡ false = first_of (search rules, grind (arith, common_steps)) in
    answered c.args.self.now c.in_ok-message.message c.args.moment c.args.input.now c.args.peer.now c.args.bytes.now
    c.in_ok-message.ensures known some few c.enter.new.self c.enter.result c.enter.ensures.answer

pub returns-clause-any_moment : goal.returns-clause-any_moment
returns-clause-any_moment g c = λ tells on s keeps.
    let known : is_input c.args.self.now.config c.args.input.now ≡ true = first_of (search rules, grind (arith, common_steps)) in
    let some : (length c.args.bytes.now == 0) ≡ false = first_of (search rules, grind (arith, common_steps)) in
    let few : nat_lt 1048576 (length c.args.bytes.now) ≡ false = first_of (search rules, grind (arith, common_steps)) in
    subst (λ (es : List Event). LeavesOnly (g.D.Disk.state c.args.disk.now) (g.D.Disk.state c.enter.new.disk) (LeftBy s es (g.D.Disk.state c.args.disk.now)))
    (events_are c.args.self.now c.in_ok-message.message c.args.moment c.args.input.now c.args.peer.now c.args.bytes.now c.in_ok-message.ensures known some few s keeps)
    (c.enter.ensures.any_moment tells on s keeps)

pub returns-in-Some-clause-any_moment : goal.returns-in-Some-clause-any_moment
returns-in-Some-clause-any_moment g c = λ tells on s keeps.
    nothing_yet c.args.self.now s keeps (g.D.Disk.state c.args.disk.now) on (arrival_events s c.args.moment c.args.input.now c.args.peer.now c.args.bytes.now)

pub returns-then-not-knows-clause-any_moment : goal.returns-then-not-knows-clause-any_moment
returns-then-not-knows-clause-any_moment g c = λ tells on s keeps.
    nothing_yet c.args.self.now s keeps (g.D.Disk.state c.args.disk.now) on (arrival_events s c.args.moment c.args.input.now c.args.peer.now c.args.bytes.now)

pub returns-then-is_empty-clause-any_moment : goal.returns-then-is_empty-clause-any_moment
returns-then-is_empty-clause-any_moment g c = λ tells on s keeps.
    nothing_yet c.args.self.now s keeps (g.D.Disk.state c.args.disk.now) on (arrival_events s c.args.moment c.args.input.now c.args.peer.now c.args.bytes.now)

pub returns-then-bytes-gt-MAX_PAYLOAD-clause-any_moment : goal.returns-then-bytes-gt-MAX_PAYLOAD-clause-any_moment
returns-then-bytes-gt-MAX_PAYLOAD-clause-any_moment g c = λ tells on s keeps.
    nothing_yet c.args.self.now s keeps (g.D.Disk.state c.args.disk.now) on (arrival_events s c.args.moment c.args.input.now c.args.peer.now c.args.bytes.now)

pub returns-in_err-message-clause-any_moment : goal.returns-in_err-message-clause-any_moment
returns-in_err-message-clause-any_moment g c = λ tells on s keeps.
    nothing_yet c.args.self.now s keeps (g.D.Disk.state c.args.disk.now) on (arrival_events s c.args.moment c.args.input.now c.args.peer.now c.args.bytes.now)
