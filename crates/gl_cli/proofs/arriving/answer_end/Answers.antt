use Rattle.std.proofs.Common.{◌∙◌, ◌∷◌, [], List, ℕ, ap, refl, sym, subst}
use Rattle.std.specs.Prelude.{◌<◌, ◌≤◌, length}
use Rattle.gl_base.specs.declared.fed.Fed.{Fed}
use Rattle.gl_node.specs.State.{State}
use Rattle.gl_cli.specs.declared.connections.Open.{Open}
use Rattle.gl_cli.specs.Connections.{Connection, forgotten, last_frame}
use Rattle.gl_cli.specs.Opened.{Ended, IsOpen, ConnectionsStandFor, frame_in}
use Rattle.gl_cli.specs.Runs.{end_turn}
use Rattle.gl_cli.specs.Sessions.{payload_turn}
use Rattle.gl_cli.proofs.Pieces.{frame_end_is, no_end_is, quiet_end_is}
use Rattle.gl_cli.proofs.Places.{none_forgotten, none_named, place_found, stand_without}
use Rattle.gl_cli.proofs.Sinks.{Appends-nothing, OnErr-from}
use Rattle.gl_cli.proofs.Steps.{cuts_as, does_as, does_quiet, during_as, during_nothing, leaves_as}
use Rattle.gl_cli.proofs.arriving.answer_end.Goals as goal

pub returns-in_default-clause-connections : goal.returns-in_default-clause-connections
returns-in_default-clause-connections g c cs stand s kept =
    subst (λ (ds : List Connection). ConnectionsStandFor c.args.connections.now.all.items ds) (sym (none_forgotten c.args.input.now c.args.number c.args.connections.now.all.items cs stand c.in_default.ensures)) stand

pub returns-in_default-clause-answered : goal.returns-in_default-clause-answered
returns-in_default-clause-answered g c cs stand =
    does_as c.args.desk.now (λ (s : State). []) (end_turn c.args.moment cs c.args.input.now c.args.number) (λ s kept. no_end_is c.args.moment cs c.args.input.now c.args.number s (none_named c.args.input.now c.args.number c.args.connections.now.all.items cs stand c.in_default.ensures)) c.args.desk.now (g.K.Sink.contents c.args.sink.now) (g.K.Sink.contents c.args.sink.now) (does_quiet [] refl c.args.desk.now (g.K.Sink.contents c.args.sink.now) (g.K.Sink.contents c.args.sink.now) (Appends-nothing (g.K.Sink.contents c.args.sink.now)))

pub returns-in_default-clause-any_moment : goal.returns-in_default-clause-any_moment
returns-in_default-clause-any_moment g c cs stand =
    during_nothing c.args.desk.now (g.D.Disk.state c.args.disk.now) c.law_images_show_the_state.ensures (end_turn c.args.moment cs c.args.input.now c.args.number)

pub returns-in-Nothing-clause-any_moment : goal.returns-in-Nothing-clause-any_moment
returns-in-Nothing-clause-any_moment g c cs stand =
    during_nothing c.args.desk.now (g.D.Disk.state c.args.disk.now) c.law_images_show_the_state.ensures (end_turn c.args.moment cs c.args.input.now c.args.number)

pub returns-in-TooLong-clause-any_moment : goal.returns-in-TooLong-clause-any_moment
returns-in-TooLong-clause-any_moment g c cs stand =
    during_nothing c.args.desk.now (g.D.Disk.state c.args.disk.now) c.law_images_show_the_state.ensures (end_turn c.args.moment cs c.args.input.now c.args.number)

pub returns-in-Closed-clause-any_moment : goal.returns-in-Closed-clause-any_moment
returns-in-Closed-clause-any_moment g c cs stand =
    during_nothing c.args.desk.now (g.D.Disk.state c.args.disk.now) c.law_images_show_the_state.ensures (end_turn c.args.moment cs c.args.input.now c.args.number)

pub end-requires : goal.end-requires
end-requires g c =
    let cs = c.requires.connections.0 in
    let stand = c.requires.connections.1 in
    let f = (place_found c.args.input.now c.args.number c.args.connections.now.all.items cs c.in-Some.place c.remove-one.result stand c.in-Some.ensures) in
    let o = (subst (λ (o : Open). IsOpen o f.one) (sym c.remove-one.ensures.value) f.opened) in
    (f.one.kind, f.one.bytes, o.frames)

pub returns-in-Nothing-clause-connections : goal.returns-in-Nothing-clause-connections
returns-in-Nothing-clause-connections g c cs stand s kept = (subst (λ (all : List Open). ConnectionsStandFor all (forgotten c.args.input.now c.args.number cs)) (sym c.remove-one.ensures.items) (stand_without c.args.input.now c.args.number c.args.connections.now.all.items cs c.in-Some.place stand c.in-Some.ensures))

pub returns-in-Nothing-clause-answered : goal.returns-in-Nothing-clause-answered
returns-in-Nothing-clause-answered g c cs stand =
    let f = (place_found c.args.input.now c.args.number c.args.connections.now.all.items cs c.in-Some.place c.remove-one.result stand c.in-Some.ensures) in
    let o = (subst (λ (o : Open). IsOpen o f.one) (sym c.remove-one.ensures.value) f.opened) in
    does_as c.args.desk.now (λ (s : State). []) (end_turn c.args.moment cs c.args.input.now c.args.number) (λ s kept. quiet_end_is c.args.moment cs c.args.input.now c.args.number s f.one f.found (subst (λ (fed : Fed). Ended fed (last_frame f.one.kind f.one.bytes) (frame_in c.end.new.self)) c.in-Nothing.is (c.end.ensures f.one.kind f.one.bytes o.frames))) c.args.desk.now (g.K.Sink.contents c.args.sink.now) (g.K.Sink.contents c.args.sink.now) (does_quiet [] refl c.args.desk.now (g.K.Sink.contents c.args.sink.now) (g.K.Sink.contents c.args.sink.now) (Appends-nothing (g.K.Sink.contents c.args.sink.now)))

pub returns-in-TooLong-clause-connections : goal.returns-in-TooLong-clause-connections
returns-in-TooLong-clause-connections g c cs stand s kept = (subst (λ (all : List Open). ConnectionsStandFor all (forgotten c.args.input.now c.args.number cs)) (sym c.remove-one.ensures.items) (stand_without c.args.input.now c.args.number c.args.connections.now.all.items cs c.in-Some.place stand c.in-Some.ensures))

pub returns-in-TooLong-clause-answered : goal.returns-in-TooLong-clause-answered
returns-in-TooLong-clause-answered g c cs stand =
    let f = (place_found c.args.input.now c.args.number c.args.connections.now.all.items cs c.in-Some.place c.remove-one.result stand c.in-Some.ensures) in
    let o = (subst (λ (o : Open). IsOpen o f.one) (sym c.remove-one.ensures.value) f.opened) in
    does_as c.args.desk.now (λ (s : State). []) (end_turn c.args.moment cs c.args.input.now c.args.number) (λ s kept. quiet_end_is c.args.moment cs c.args.input.now c.args.number s f.one f.found (subst (λ (fed : Fed). Ended fed (last_frame f.one.kind f.one.bytes) (frame_in c.end.new.self)) c.in-TooLong.is (c.end.ensures f.one.kind f.one.bytes o.frames))) c.args.desk.now (g.K.Sink.contents c.args.sink.now) (g.K.Sink.contents c.args.sink.now) (does_quiet [] refl c.args.desk.now (g.K.Sink.contents c.args.sink.now) (g.K.Sink.contents c.args.sink.now) (Appends-nothing (g.K.Sink.contents c.args.sink.now)))

pub returns-in-Closed-clause-connections : goal.returns-in-Closed-clause-connections
returns-in-Closed-clause-connections g c cs stand s kept = (subst (λ (all : List Open). ConnectionsStandFor all (forgotten c.args.input.now c.args.number cs)) (sym c.remove-one.ensures.items) (stand_without c.args.input.now c.args.number c.args.connections.now.all.items cs c.in-Some.place stand c.in-Some.ensures))

pub returns-in-Closed-clause-answered : goal.returns-in-Closed-clause-answered
returns-in-Closed-clause-answered g c cs stand =
    let f = (place_found c.args.input.now c.args.number c.args.connections.now.all.items cs c.in-Some.place c.remove-one.result stand c.in-Some.ensures) in
    let o = (subst (λ (o : Open). IsOpen o f.one) (sym c.remove-one.ensures.value) f.opened) in
    does_as c.args.desk.now (λ (s : State). []) (end_turn c.args.moment cs c.args.input.now c.args.number) (λ s kept. quiet_end_is c.args.moment cs c.args.input.now c.args.number s f.one f.found (subst (λ (fed : Fed). Ended fed (last_frame f.one.kind f.one.bytes) (frame_in c.end.new.self)) c.in-Closed.is (c.end.ensures f.one.kind f.one.bytes o.frames))) c.args.desk.now (g.K.Sink.contents c.args.sink.now) (g.K.Sink.contents c.args.sink.now) (does_quiet [] refl c.args.desk.now (g.K.Sink.contents c.args.sink.now) (g.K.Sink.contents c.args.sink.now) (Appends-nothing (g.K.Sink.contents c.args.sink.now)))

pub answer_payload-requires-clause-some_peer : goal.answer_payload-requires-clause-some_peer
answer_payload-requires-clause-some_peer g c =
    let cs = c.requires.connections.0 in
    let stand = c.requires.connections.1 in
    let f = (place_found c.args.input.now c.args.number c.args.connections.now.all.items cs c.in-Some.place c.remove-one.result stand c.in-Some.ensures) in
    let o = (subst (λ (o : Open). IsOpen o f.one) (sym c.remove-one.ensures.value) f.opened) in
    subst (λ (bs : List ℕ). 0 < length bs) (sym (c.as_str.ensures ∙ o.peer)) o.some_peer

pub answer_payload-requires-clause-short_peer : goal.answer_payload-requires-clause-short_peer
answer_payload-requires-clause-short_peer g c =
    let cs = c.requires.connections.0 in
    let stand = c.requires.connections.1 in
    let f = (place_found c.args.input.now c.args.number c.args.connections.now.all.items cs c.in-Some.place c.remove-one.result stand c.in-Some.ensures) in
    let o = (subst (λ (o : Open). IsOpen o f.one) (sym c.remove-one.ensures.value) f.opened) in
    subst (λ (bs : List ℕ). length bs ≤ 255) (sym (c.as_str.ensures ∙ o.peer)) o.short_peer

pub returns-in_err-answer_payload-in-Whole-clause-cut : goal.returns-in_err-answer_payload-in-Whole-clause-cut
returns-in_err-answer_payload-in-Whole-clause-cut g c = OnErr-from c.from_residual.result (λ cs stand.
    let f = (place_found c.args.input.now c.args.number c.args.connections.now.all.items cs c.in-Some.place c.remove-one.result stand c.in-Some.ensures) in
    let o = (subst (λ (o : Open). IsOpen o f.one) (sym c.remove-one.ensures.value) f.opened) in
    cuts_as c.args.desk.now (payload_turn c.args.moment c.args.input.now c.as_str.result.now c.frame-frame.result.now) (end_turn c.args.moment cs c.args.input.now c.args.number) (λ s kept. (ap (λ (bs : List ℕ). payload_turn c.args.moment c.args.input.now bs c.frame-frame.result.now s) (c.as_str.ensures ∙ o.peer) ∙ frame_end_is c.args.moment cs c.args.input.now c.args.number s f.one c.frame-frame.result.now f.found (subst (λ (fed : Fed). Ended fed (last_frame f.one.kind f.one.bytes) (frame_in c.end.new.self)) c.in-Whole.is (c.end.ensures f.one.kind f.one.bytes o.frames) ∙ ap (λ (bs : List ℕ). bs ∷ []) (sym c.frame-frame.ensures)))) (g.K.Sink.contents c.args.sink.now) (g.K.Sink.contents c.answer_payload.new.sink) c.in_err-answer_payload-in-Whole.ensures.cut)

pub returns-in_err-answer_payload-in-Whole-clause-cut_leaves : goal.returns-in_err-answer_payload-in-Whole-clause-cut_leaves
returns-in_err-answer_payload-in-Whole-clause-cut_leaves g c = OnErr-from c.from_residual.result (λ cs stand.
    let f = (place_found c.args.input.now c.args.number c.args.connections.now.all.items cs c.in-Some.place c.remove-one.result stand c.in-Some.ensures) in
    let o = (subst (λ (o : Open). IsOpen o f.one) (sym c.remove-one.ensures.value) f.opened) in
    leaves_as c.args.desk.now (payload_turn c.args.moment c.args.input.now c.as_str.result.now c.frame-frame.result.now) (end_turn c.args.moment cs c.args.input.now c.args.number) (λ s kept. (ap (λ (bs : List ℕ). payload_turn c.args.moment c.args.input.now bs c.frame-frame.result.now s) (c.as_str.ensures ∙ o.peer) ∙ frame_end_is c.args.moment cs c.args.input.now c.args.number s f.one c.frame-frame.result.now f.found (subst (λ (fed : Fed). Ended fed (last_frame f.one.kind f.one.bytes) (frame_in c.end.new.self)) c.in-Whole.is (c.end.ensures f.one.kind f.one.bytes o.frames) ∙ ap (λ (bs : List ℕ). bs ∷ []) (sym c.frame-frame.ensures)))) (g.K.Sink.contents c.args.sink.now) (g.K.Sink.contents c.answer_payload.new.sink) (g.D.Disk.state c.args.disk.now) (g.D.Disk.state c.answer_payload.new.disk) c.in_err-answer_payload-in-Whole.ensures.cut_leaves)

pub returns-in_err-answer_payload-in-Whole-clause-any_moment : goal.returns-in_err-answer_payload-in-Whole-clause-any_moment
returns-in_err-answer_payload-in-Whole-clause-any_moment g c cs stand =
    let f = (place_found c.args.input.now c.args.number c.args.connections.now.all.items cs c.in-Some.place c.remove-one.result stand c.in-Some.ensures) in
    let o = (subst (λ (o : Open). IsOpen o f.one) (sym c.remove-one.ensures.value) f.opened) in
    during_as c.args.desk.now (payload_turn c.args.moment c.args.input.now c.as_str.result.now c.frame-frame.result.now) (end_turn c.args.moment cs c.args.input.now c.args.number) (λ s kept. (ap (λ (bs : List ℕ). payload_turn c.args.moment c.args.input.now bs c.frame-frame.result.now s) (c.as_str.ensures ∙ o.peer) ∙ frame_end_is c.args.moment cs c.args.input.now c.args.number s f.one c.frame-frame.result.now f.found (subst (λ (fed : Fed). Ended fed (last_frame f.one.kind f.one.bytes) (frame_in c.end.new.self)) c.in-Whole.is (c.end.ensures f.one.kind f.one.bytes o.frames) ∙ ap (λ (bs : List ℕ). bs ∷ []) (sym c.frame-frame.ensures)))) (g.D.Disk.state c.args.disk.now) (g.D.Disk.state c.answer_payload.new.disk) c.answer_payload.ensures.any_moment

pub returns-clause-any_moment : goal.returns-clause-any_moment
returns-clause-any_moment g c cs stand =
    let f = (place_found c.args.input.now c.args.number c.args.connections.now.all.items cs c.in-Some.place c.remove-one.result stand c.in-Some.ensures) in
    let o = (subst (λ (o : Open). IsOpen o f.one) (sym c.remove-one.ensures.value) f.opened) in
    during_as c.args.desk.now (payload_turn c.args.moment c.args.input.now c.as_str.result.now c.frame-frame.result.now) (end_turn c.args.moment cs c.args.input.now c.args.number) (λ s kept. (ap (λ (bs : List ℕ). payload_turn c.args.moment c.args.input.now bs c.frame-frame.result.now s) (c.as_str.ensures ∙ o.peer) ∙ frame_end_is c.args.moment cs c.args.input.now c.args.number s f.one c.frame-frame.result.now f.found (subst (λ (fed : Fed). Ended fed (last_frame f.one.kind f.one.bytes) (frame_in c.end.new.self)) c.in-Whole.is (c.end.ensures f.one.kind f.one.bytes o.frames) ∙ ap (λ (bs : List ℕ). bs ∷ []) (sym c.frame-frame.ensures)))) (g.D.Disk.state c.args.disk.now) (g.D.Disk.state c.answer_payload.new.disk) c.answer_payload.ensures.any_moment

pub returns-clause-connections : goal.returns-clause-connections
returns-clause-connections g c cs stand s kept = (subst (λ (all : List Open). ConnectionsStandFor all (forgotten c.args.input.now c.args.number cs)) (sym c.remove-one.ensures.items) (stand_without c.args.input.now c.args.number c.args.connections.now.all.items cs c.in-Some.place stand c.in-Some.ensures))

pub returns-clause-answered : goal.returns-clause-answered
returns-clause-answered g c cs stand =
    let f = (place_found c.args.input.now c.args.number c.args.connections.now.all.items cs c.in-Some.place c.remove-one.result stand c.in-Some.ensures) in
    let o = (subst (λ (o : Open). IsOpen o f.one) (sym c.remove-one.ensures.value) f.opened) in
    does_as c.args.desk.now (payload_turn c.args.moment c.args.input.now c.as_str.result.now c.frame-frame.result.now) (end_turn c.args.moment cs c.args.input.now c.args.number) (λ s kept. (ap (λ (bs : List ℕ). payload_turn c.args.moment c.args.input.now bs c.frame-frame.result.now s) (c.as_str.ensures ∙ o.peer) ∙ frame_end_is c.args.moment cs c.args.input.now c.args.number s f.one c.frame-frame.result.now f.found (subst (λ (fed : Fed). Ended fed (last_frame f.one.kind f.one.bytes) (frame_in c.end.new.self)) c.in-Whole.is (c.end.ensures f.one.kind f.one.bytes o.frames) ∙ ap (λ (bs : List ℕ). bs ∷ []) (sym c.frame-frame.ensures)))) c.answer_payload.new.desk (g.K.Sink.contents c.args.sink.now) (g.K.Sink.contents c.answer_payload.new.sink) c.in_ok-answer_payload-in-Whole.ensures.answered
