use Rattle.std.proofs.Common.{◌∷◌, [], List, refl, sym, subst}
use Rattle.std.specs.Prelude.{Some, None, set}
use Rattle.gl_node.specs.declared.answer.Arrival.TheVariants.{UnknownInput}
use Rattle.gl_node.specs.State.{State}
use Rattle.gl_cli.specs.declared.connections.Open.{Open}
use Rattle.gl_cli.specs.Answers.{arrival_words}
use Rattle.gl_cli.specs.Connections.{Connection}
use Rattle.gl_cli.specs.Opened.{IsOpen, ConnectionsStandFor}
use Rattle.gl_cli.specs.Runs.{answered, begun_turn, tcp_turn, tcp_turn_by}
use Rattle.gl_cli.proofs.Pieces.{after_begun, after_first, after_unknown, begun_is, first_is, unknown_is}
use Rattle.gl_cli.proofs.Places.{none_named, place_found, stand_sent}
use Rattle.gl_cli.proofs.Sinks.{OnErr-from}
use Rattle.gl_cli.proofs.Steps.{cuts_as, cuts_one, does_as, does_one, during_as, during_nothing, leaves_as, leaves_eventless}
use Rattle.gl_cli.proofs.arriving.answer_sent.Goals as goal

pub returns-in_err-write_arrival-clause-cut : goal.returns-in_err-write_arrival-clause-cut
returns-in_err-write_arrival-clause-cut g c = OnErr-from c.from_residual.result (λ cs stand.
    cuts_as c.args.desk.now (λ (s : State). (answered (arrival_words UnknownInput) [] ∷ [])) (tcp_turn c.args.moment cs c.args.input.now c.args.number c.args.peer.now c.args.piece.now) (λ s kept. unknown_is c.args.moment cs c.args.input.now c.args.number c.args.peer.now c.args.piece.now s (sym (c.in_default.ensures s kept.node))) (g.K.Sink.contents c.args.sink.now) (g.K.Sink.contents c.write_arrival.new.sink) (cuts_one (λ (s : State). arrival_words UnknownInput) (λ s. []) c.args.desk.now (g.K.Sink.contents c.args.sink.now) (g.K.Sink.contents c.write_arrival.new.sink) (λ s kept. c.in_err-write_arrival.ensures.err)))

pub returns-in_err-write_arrival-clause-cut_leaves : goal.returns-in_err-write_arrival-clause-cut_leaves
returns-in_err-write_arrival-clause-cut_leaves g c = OnErr-from c.from_residual.result (λ cs stand.
    leaves_as c.args.desk.now (λ (s : State). (answered (arrival_words UnknownInput) [] ∷ [])) (tcp_turn c.args.moment cs c.args.input.now c.args.number c.args.peer.now c.args.piece.now) (λ s kept. unknown_is c.args.moment cs c.args.input.now c.args.number c.args.peer.now c.args.piece.now s (sym (c.in_default.ensures s kept.node))) (g.K.Sink.contents c.args.sink.now) (g.K.Sink.contents c.write_arrival.new.sink) (g.D.Disk.state c.args.disk.now) (g.D.Disk.state c.args.disk.now)
    (leaves_eventless c.args.desk.now (g.D.Disk.state c.args.disk.now) c.law_images_show_the_state.ensures (λ (s : State). (answered (arrival_words UnknownInput) [] ∷ [])) (g.K.Sink.contents c.args.sink.now) (g.K.Sink.contents c.write_arrival.new.sink) (λ s. refl) (cuts_one (λ (s : State). arrival_words UnknownInput) (λ s. []) c.args.desk.now (g.K.Sink.contents c.args.sink.now) (g.K.Sink.contents c.write_arrival.new.sink) (λ s kept. c.in_err-write_arrival.ensures.err))))

pub returns-in_err-write_arrival-clause-any_moment : goal.returns-in_err-write_arrival-clause-any_moment
returns-in_err-write_arrival-clause-any_moment g c cs stand =
    during_nothing c.args.desk.now (g.D.Disk.state c.args.disk.now) c.law_images_show_the_state.ensures (tcp_turn c.args.moment cs c.args.input.now c.args.number c.args.peer.now c.args.piece.now)

pub returns-in_default-clause-any_moment : goal.returns-in_default-clause-any_moment
returns-in_default-clause-any_moment g c cs stand =
    during_nothing c.args.desk.now (g.D.Disk.state c.args.disk.now) c.law_images_show_the_state.ensures (tcp_turn c.args.moment cs c.args.input.now c.args.number c.args.peer.now c.args.piece.now)

pub returns-in_default-clause-connections : goal.returns-in_default-clause-connections
returns-in_default-clause-connections g c cs stand s kept =
    subst (λ (ds : List Connection). ConnectionsStandFor c.args.connections.now.all.items ds) (after_unknown c.args.moment cs c.args.input.now c.args.number c.args.peer.now c.args.piece.now s (sym (c.in_default.ensures s kept.node))) stand

pub returns-in_default-clause-answered : goal.returns-in_default-clause-answered
returns-in_default-clause-answered g c cs stand =
    does_as c.args.desk.now (λ (s : State). (answered (arrival_words UnknownInput) [] ∷ [])) (tcp_turn c.args.moment cs c.args.input.now c.args.number c.args.peer.now c.args.piece.now) (λ s kept. unknown_is c.args.moment cs c.args.input.now c.args.number c.args.peer.now c.args.piece.now s (sym (c.in_default.ensures s kept.node))) c.args.desk.now (g.K.Sink.contents c.args.sink.now) (g.K.Sink.contents c.write_arrival.new.sink)
    (does_one (λ (s : State). arrival_words UnknownInput) (λ s. []) c.args.desk.now c.args.desk.now (g.K.Sink.contents c.args.sink.now) (g.K.Sink.contents c.write_arrival.new.sink) (λ s kept. (kept, c.in_ok-write_arrival.ensures.ok)))

pub returns-in_err-answer_first-clause-cut : goal.returns-in_err-answer_first-clause-cut
returns-in_err-answer_first-clause-cut g c = OnErr-from c.from_residual-in_err-answer_first.result (λ cs stand.
    cuts_as c.args.desk.now (tcp_turn_by (Some c.in-Some.kind) None c.args.moment cs c.args.input.now c.args.peer.now c.args.piece.now) (tcp_turn c.args.moment cs c.args.input.now c.args.number c.args.peer.now c.args.piece.now) (λ s kept. first_is c.args.moment cs c.args.input.now c.args.number c.args.peer.now c.args.piece.now s c.in-Some.kind (sym (c.in-Some.ensures s kept.node)) (none_named c.args.input.now c.args.number c.args.connections.now.all.items cs stand c.in_default-place_of.ensures)) (g.K.Sink.contents c.args.sink.now) (g.K.Sink.contents c.answer_first.new.sink) (c.in_err-answer_first.ensures.cut cs stand))

pub returns-in_err-answer_first-clause-cut_leaves : goal.returns-in_err-answer_first-clause-cut_leaves
returns-in_err-answer_first-clause-cut_leaves g c = OnErr-from c.from_residual-in_err-answer_first.result (λ cs stand.
    leaves_as c.args.desk.now (tcp_turn_by (Some c.in-Some.kind) None c.args.moment cs c.args.input.now c.args.peer.now c.args.piece.now) (tcp_turn c.args.moment cs c.args.input.now c.args.number c.args.peer.now c.args.piece.now) (λ s kept. first_is c.args.moment cs c.args.input.now c.args.number c.args.peer.now c.args.piece.now s c.in-Some.kind (sym (c.in-Some.ensures s kept.node)) (none_named c.args.input.now c.args.number c.args.connections.now.all.items cs stand c.in_default-place_of.ensures)) (g.K.Sink.contents c.args.sink.now) (g.K.Sink.contents c.answer_first.new.sink) (g.D.Disk.state c.args.disk.now) (g.D.Disk.state c.answer_first.new.disk) (c.in_err-answer_first.ensures.cut_leaves cs stand))

pub returns-in_err-answer_first-clause-any_moment : goal.returns-in_err-answer_first-clause-any_moment
returns-in_err-answer_first-clause-any_moment g c cs stand =
    during_as c.args.desk.now (tcp_turn_by (Some c.in-Some.kind) None c.args.moment cs c.args.input.now c.args.peer.now c.args.piece.now) (tcp_turn c.args.moment cs c.args.input.now c.args.number c.args.peer.now c.args.piece.now) (λ s kept. first_is c.args.moment cs c.args.input.now c.args.number c.args.peer.now c.args.piece.now s c.in-Some.kind (sym (c.in-Some.ensures s kept.node)) (none_named c.args.input.now c.args.number c.args.connections.now.all.items cs stand c.in_default-place_of.ensures)) (g.D.Disk.state c.args.disk.now) (g.D.Disk.state c.answer_first.new.disk) (c.answer_first.ensures.any_moment cs stand)

pub returns-in_default-place_of-clause-any_moment : goal.returns-in_default-place_of-clause-any_moment
returns-in_default-place_of-clause-any_moment g c cs stand =
    during_as c.args.desk.now (tcp_turn_by (Some c.in-Some.kind) None c.args.moment cs c.args.input.now c.args.peer.now c.args.piece.now) (tcp_turn c.args.moment cs c.args.input.now c.args.number c.args.peer.now c.args.piece.now) (λ s kept. first_is c.args.moment cs c.args.input.now c.args.number c.args.peer.now c.args.piece.now s c.in-Some.kind (sym (c.in-Some.ensures s kept.node)) (none_named c.args.input.now c.args.number c.args.connections.now.all.items cs stand c.in_default-place_of.ensures)) (g.D.Disk.state c.args.disk.now) (g.D.Disk.state c.answer_first.new.disk) (c.answer_first.ensures.any_moment cs stand)

pub returns-in_default-place_of-clause-connections : goal.returns-in_default-place_of-clause-connections
returns-in_default-place_of-clause-connections g c cs stand s kept =
    subst (λ (ds : List Connection). ConnectionsStandFor c.answer_first.new.connections.all.items ds) (after_first c.args.moment cs c.args.input.now c.args.number c.args.peer.now c.args.piece.now s c.in-Some.kind (sym (c.in-Some.ensures s kept.node)) (none_named c.args.input.now c.args.number c.args.connections.now.all.items cs stand c.in_default-place_of.ensures)) (c.in_ok-answer_first.ensures.connections cs stand)

pub returns-in_default-place_of-clause-answered : goal.returns-in_default-place_of-clause-answered
returns-in_default-place_of-clause-answered g c cs stand =
    does_as c.args.desk.now (tcp_turn_by (Some c.in-Some.kind) None c.args.moment cs c.args.input.now c.args.peer.now c.args.piece.now) (tcp_turn c.args.moment cs c.args.input.now c.args.number c.args.peer.now c.args.piece.now) (λ s kept. first_is c.args.moment cs c.args.input.now c.args.number c.args.peer.now c.args.piece.now s c.in-Some.kind (sym (c.in-Some.ensures s kept.node)) (none_named c.args.input.now c.args.number c.args.connections.now.all.items cs stand c.in_default-place_of.ensures)) c.answer_first.new.desk (g.K.Sink.contents c.args.sink.now) (g.K.Sink.contents c.answer_first.new.sink) (c.in_ok-answer_first.ensures.answered cs stand)

pub answer_begun-requires-clause-one : goal.answer_begun-requires-clause-one
answer_begun-requires-clause-one g c =
    let cs = c.requires.connections.0 in
    let stand = c.requires.connections.1 in
    let f = (place_found c.args.input.now c.args.number c.args.connections.now.all.items cs c.in-Some-place_of.place c.index_mut-one.result.now stand c.in-Some-place_of.ensures) in
    (f.one, (subst (λ (o : Open). IsOpen o f.one) (sym c.index_mut-one.ensures.value) f.opened))

pub returns-in_err-answer_begun-clause-cut : goal.returns-in_err-answer_begun-clause-cut
returns-in_err-answer_begun-clause-cut g c = OnErr-from c.from_residual-in_err-answer_begun.result (λ cs stand.
    let f = (place_found c.args.input.now c.args.number c.args.connections.now.all.items cs c.in-Some-place_of.place c.index_mut-one.result.now stand c.in-Some-place_of.ensures) in
    cuts_as c.args.desk.now (begun_turn c.args.moment c.args.input.now c.args.peer.now f.one c.args.piece.now) (tcp_turn c.args.moment cs c.args.input.now c.args.number c.args.peer.now c.args.piece.now) (λ s kept. begun_is c.args.moment cs c.args.input.now c.args.number c.args.peer.now c.args.piece.now s c.in-Some.kind (sym (c.in-Some.ensures s kept.node)) f.one f.found) (g.K.Sink.contents c.args.sink.now) (g.K.Sink.contents c.answer_begun.new.sink) (c.in_err-answer_begun.ensures.cut f.one (subst (λ (o : Open). IsOpen o f.one) (sym c.index_mut-one.ensures.value) f.opened)))

pub returns-in_err-answer_begun-clause-cut_leaves : goal.returns-in_err-answer_begun-clause-cut_leaves
returns-in_err-answer_begun-clause-cut_leaves g c = OnErr-from c.from_residual-in_err-answer_begun.result (λ cs stand.
    let f = (place_found c.args.input.now c.args.number c.args.connections.now.all.items cs c.in-Some-place_of.place c.index_mut-one.result.now stand c.in-Some-place_of.ensures) in
    leaves_as c.args.desk.now (begun_turn c.args.moment c.args.input.now c.args.peer.now f.one c.args.piece.now) (tcp_turn c.args.moment cs c.args.input.now c.args.number c.args.peer.now c.args.piece.now) (λ s kept. begun_is c.args.moment cs c.args.input.now c.args.number c.args.peer.now c.args.piece.now s c.in-Some.kind (sym (c.in-Some.ensures s kept.node)) f.one f.found) (g.K.Sink.contents c.args.sink.now) (g.K.Sink.contents c.answer_begun.new.sink) (g.D.Disk.state c.args.disk.now) (g.D.Disk.state c.answer_begun.new.disk) (c.in_err-answer_begun.ensures.cut_leaves f.one (subst (λ (o : Open). IsOpen o f.one) (sym c.index_mut-one.ensures.value) f.opened)))

pub returns-in_err-answer_begun-clause-any_moment : goal.returns-in_err-answer_begun-clause-any_moment
returns-in_err-answer_begun-clause-any_moment g c cs stand =
    let f = (place_found c.args.input.now c.args.number c.args.connections.now.all.items cs c.in-Some-place_of.place c.index_mut-one.result.now stand c.in-Some-place_of.ensures) in
    during_as c.args.desk.now (begun_turn c.args.moment c.args.input.now c.args.peer.now f.one c.args.piece.now) (tcp_turn c.args.moment cs c.args.input.now c.args.number c.args.peer.now c.args.piece.now) (λ s kept. begun_is c.args.moment cs c.args.input.now c.args.number c.args.peer.now c.args.piece.now s c.in-Some.kind (sym (c.in-Some.ensures s kept.node)) f.one f.found) (g.D.Disk.state c.args.disk.now) (g.D.Disk.state c.answer_begun.new.disk) (c.answer_begun.ensures.any_moment f.one (subst (λ (o : Open). IsOpen o f.one) (sym c.index_mut-one.ensures.value) f.opened))

pub returns-clause-any_moment : goal.returns-clause-any_moment
returns-clause-any_moment g c cs stand =
    let f = (place_found c.args.input.now c.args.number c.args.connections.now.all.items cs c.in-Some-place_of.place c.index_mut-one.result.now stand c.in-Some-place_of.ensures) in
    during_as c.args.desk.now (begun_turn c.args.moment c.args.input.now c.args.peer.now f.one c.args.piece.now) (tcp_turn c.args.moment cs c.args.input.now c.args.number c.args.peer.now c.args.piece.now) (λ s kept. begun_is c.args.moment cs c.args.input.now c.args.number c.args.peer.now c.args.piece.now s c.in-Some.kind (sym (c.in-Some.ensures s kept.node)) f.one f.found) (g.D.Disk.state c.args.disk.now) (g.D.Disk.state c.answer_begun.new.disk) (c.answer_begun.ensures.any_moment f.one (subst (λ (o : Open). IsOpen o f.one) (sym c.index_mut-one.ensures.value) f.opened))

pub returns-clause-connections : goal.returns-clause-connections
returns-clause-connections g c cs stand s kept =
    let f = (place_found c.args.input.now c.args.number c.args.connections.now.all.items cs c.in-Some-place_of.place c.index_mut-one.result.now stand c.in-Some-place_of.ensures) in
    subst (λ (ds : List Connection). ConnectionsStandFor (set c.args.connections.now.all.items c.in-Some-place_of.place c.answer_begun.new.one) ds) (after_begun c.args.moment cs c.args.input.now c.args.number c.args.peer.now c.args.piece.now s c.in-Some.kind (sym (c.in-Some.ensures s kept.node)) f.one f.found)
    (stand_sent c.args.connections.now.all.items cs c.args.input.now c.args.number c.in-Some-place_of.place c.args.peer.now c.args.piece.now f.one c.answer_begun.new.one stand c.in-Some-place_of.ensures f.input_is f.number_is
    (c.in_ok-answer_begun.ensures.one f.one (subst (λ (o : Open). IsOpen o f.one) (sym c.index_mut-one.ensures.value) f.opened)))

pub returns-clause-answered : goal.returns-clause-answered
returns-clause-answered g c cs stand =
    let f = (place_found c.args.input.now c.args.number c.args.connections.now.all.items cs c.in-Some-place_of.place c.index_mut-one.result.now stand c.in-Some-place_of.ensures) in
    does_as c.args.desk.now (begun_turn c.args.moment c.args.input.now c.args.peer.now f.one c.args.piece.now) (tcp_turn c.args.moment cs c.args.input.now c.args.number c.args.peer.now c.args.piece.now) (λ s kept. begun_is c.args.moment cs c.args.input.now c.args.number c.args.peer.now c.args.piece.now s c.in-Some.kind (sym (c.in-Some.ensures s kept.node)) f.one f.found) c.answer_begun.new.desk (g.K.Sink.contents c.args.sink.now) (g.K.Sink.contents c.answer_begun.new.sink) (c.in_ok-answer_begun.ensures.answered f.one (subst (λ (o : Open). IsOpen o f.one) (sym c.index_mut-one.ensures.value) f.opened))
