use Rattle.std.proofs.Common.{◌∙◌, sym, ap, refl, subst, List, ℕ}
use Rattle.gl_node.specs.declared.arriving.Taken.{Taken}
use Rattle.gl_node.specs.declared.arriving.Taken.TheVariants.{Payload, Message, Answered}
use Rattle.gl_node.specs.Arrivals.{datagram_events}
use Rattle.gl_node.specs.Arriving.{IsTaken}
use Rattle.gl_node.specs.Node.{Store, StoreOn}
use Rattle.gl_node.specs.State.{state_after}
use Rattle.gl_node.proofs.Datagrams.{answered_so, if_ok_more, left_so, on_err_more, refused_so}
use Rattle.gl_node.proofs.Moments.{nothing_yet}
use Rattle.gl_node.proofs.node.Node.datagram.Goals as goal

pub returns-in-Some-clause-any_moment : goal.returns-in-Some-clause-any_moment
returns-in-Some-clause-any_moment g c = λ tells on s keeps.
    nothing_yet c.args.self.now s keeps (g.D.Disk.state c.args.disk.now) on (datagram_events s c.args.moment c.args.input.now c.args.peer.now c.args.bytes.now)

pub returns-in_err-take_chunk-clause-any_moment : goal.returns-in_err-take_chunk-clause-any_moment
returns-in_err-take_chunk-clause-any_moment g c = λ tells on s keeps.
    nothing_yet c.args.self.now s keeps (g.D.Disk.state c.args.disk.now) on (datagram_events s c.args.moment c.args.input.now c.args.peer.now c.args.bytes.now)

pub returns-in-Answered-clause-any_moment : goal.returns-in-Answered-clause-any_moment
returns-in-Answered-clause-any_moment g c = λ tells on s keeps.
    nothing_yet c.args.self.now s keeps (g.D.Disk.state c.args.disk.now) on (datagram_events s c.args.moment c.args.input.now c.args.peer.now c.args.bytes.now)

pub payload-requires-clause-keeps : goal.payload-requires-clause-keeps
payload-requires-clause-keeps g c =
    let t = c.in_ok-take_chunk.ensures.taken c.requires.keeps.0 c.requires.keeps.1 c.args.peer.now in
    (state_after c.requires.keeps.0 t.first, t.keeps)

pub payload-requires-in-Message-clause-keeps : goal.payload-requires-in-Message-clause-keeps
payload-requires-in-Message-clause-keeps g c =
    let t = c.in_ok-take_chunk.ensures.taken c.requires.keeps.0 c.requires.keeps.1 c.args.peer.now in
    (state_after c.requires.keeps.0 t.first, t.keeps)

pub returns-in-Payload-clause-answer : goal.returns-in-Payload-clause-answer
returns-in-Payload-clause-answer g c = if_ok_more c.payload.result _ _ c.payload.ensures.answer (λ arrival gives s keeps.
    let t = subst (λ (x : Taken). IsTaken s c.take_chunk.new.self c.args.moment c.args.input.now c.args.peer.now c.args.bytes.now x) (c.in-Payload.is) (c.in_ok-take_chunk.ensures.taken s keeps c.args.peer.now) in
    let told = gives (state_after s t.first) t.keeps in
    answered_so s c.take_chunk.new.self c.args.moment c.args.input.now c.args.peer.now c.args.bytes.now Payload t c.payload.new.self arrival told.0 told.1)

pub returns-in-Payload-clause-refused : goal.returns-in-Payload-clause-refused
returns-in-Payload-clause-refused g c = on_err_more c.payload.result _ _ c.payload.ensures.refused (λ same s keeps.
    let t = subst (λ (x : Taken). IsTaken s c.take_chunk.new.self c.args.moment c.args.input.now c.args.peer.now c.args.bytes.now x) (c.in-Payload.is) (c.in_ok-take_chunk.ensures.taken s keeps c.args.peer.now) in
    refused_so s c.take_chunk.new.self c.args.moment c.args.input.now c.args.peer.now c.args.bytes.now Payload t c.payload.new.self (same (state_after s t.first) t.keeps))

pub returns-in-Payload-clause-any_moment : goal.returns-in-Payload-clause-any_moment
returns-in-Payload-clause-any_moment g c = λ tells on s keeps.
    let t = subst (λ (x : Taken). IsTaken s c.take_chunk.new.self c.args.moment c.args.input.now c.args.peer.now c.args.bytes.now x) (c.in-Payload.is) (c.in_ok-take_chunk.ensures.taken s keeps c.args.peer.now) in
    let there = subst (λ (store : Store). StoreOn store (g.D.Disk.state c.args.disk.now)) (sym c.take_chunk.ensures.same.0) on in
    left_so s c.take_chunk.new.self c.args.moment c.args.input.now c.args.peer.now c.args.bytes.now Payload t (g.D.Disk.state c.args.disk.now) (g.D.Disk.state c.payload.new.disk)
    (c.payload.ensures.any_moment tells there (state_after s t.first) t.keeps)

pub returns-in-Message-clause-answer : goal.returns-in-Message-clause-answer
returns-in-Message-clause-answer g c = if_ok_more c.payload-in-Message.result _ _ c.payload-in-Message.ensures.answer (λ arrival gives s keeps.
    let t = subst (λ (x : Taken). IsTaken s c.take_chunk.new.self c.args.moment c.args.input.now c.args.peer.now c.args.bytes.now x) (c.in-Message.is ∙ ap (λ (m : List ℕ). let x : Taken = Message m in x) (sym c.as_slice.ensures)) (c.in_ok-take_chunk.ensures.taken s keeps c.args.peer.now) in
    let told = gives (state_after s t.first) t.keeps in
    answered_so s c.take_chunk.new.self c.args.moment c.args.input.now c.args.peer.now c.args.bytes.now (Message c.as_slice.result.now) t c.payload-in-Message.new.self arrival told.0 told.1)

pub returns-in-Message-clause-refused : goal.returns-in-Message-clause-refused
returns-in-Message-clause-refused g c = on_err_more c.payload-in-Message.result _ _ c.payload-in-Message.ensures.refused (λ same s keeps.
    let t = subst (λ (x : Taken). IsTaken s c.take_chunk.new.self c.args.moment c.args.input.now c.args.peer.now c.args.bytes.now x) (c.in-Message.is ∙ ap (λ (m : List ℕ). let x : Taken = Message m in x) (sym c.as_slice.ensures)) (c.in_ok-take_chunk.ensures.taken s keeps c.args.peer.now) in
    refused_so s c.take_chunk.new.self c.args.moment c.args.input.now c.args.peer.now c.args.bytes.now (Message c.as_slice.result.now) t c.payload-in-Message.new.self (same (state_after s t.first) t.keeps))

pub returns-in-Message-clause-any_moment : goal.returns-in-Message-clause-any_moment
returns-in-Message-clause-any_moment g c = λ tells on s keeps.
    let t = subst (λ (x : Taken). IsTaken s c.take_chunk.new.self c.args.moment c.args.input.now c.args.peer.now c.args.bytes.now x) (c.in-Message.is ∙ ap (λ (m : List ℕ). let x : Taken = Message m in x) (sym c.as_slice.ensures)) (c.in_ok-take_chunk.ensures.taken s keeps c.args.peer.now) in
    let there = subst (λ (store : Store). StoreOn store (g.D.Disk.state c.args.disk.now)) (sym c.take_chunk.ensures.same.0) on in
    left_so s c.take_chunk.new.self c.args.moment c.args.input.now c.args.peer.now c.args.bytes.now (Message c.as_slice.result.now) t (g.D.Disk.state c.args.disk.now) (g.D.Disk.state c.payload-in-Message.new.disk)
    (c.payload-in-Message.ensures.any_moment tells there (state_after s t.first) t.keeps)

pub returns-in-Answered-clause-answer : goal.returns-in-Answered-clause-answer
returns-in-Answered-clause-answer g c = λ s keeps.
    let t = subst (λ (x : Taken). IsTaken s c.take_chunk.new.self c.args.moment c.args.input.now c.args.peer.now c.args.bytes.now x) (c.in-Answered.is) (c.in_ok-take_chunk.ensures.taken s keeps c.args.peer.now) in
    answered_so s c.take_chunk.new.self c.args.moment c.args.input.now c.args.peer.now c.args.bytes.now (Answered c.in-Answered.arrival) t c.take_chunk.new.self c.in-Answered.arrival refl t.keeps
