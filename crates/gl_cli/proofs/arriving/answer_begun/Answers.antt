use Rattle.std.proofs.Common.{◌∙◌, sym, subst}
use Rattle.gl_node.specs.State.{State}
use Rattle.gl_cli.specs.Connections.{Connection}
use Rattle.gl_cli.specs.Opened.{IsOpen}
use Rattle.gl_cli.specs.Runs.{begun_turn, refused_turn, sent_turn}
use Rattle.gl_cli.proofs.Pieces.{closed_stays, events_refused, refused_is, sent_is, sent_now}
use Rattle.gl_cli.proofs.Sinks.{OnErr-from}
use Rattle.gl_cli.proofs.Steps.{cuts_as, cuts_quiet, cuts_unwritten, does_as, does_quiet, during_as, during_nothing, leaves_as, leaves_eventless, leaves_unwritten}
use Rattle.gl_cli.proofs.arriving.answer_begun.Goals as goal

pub answer_piece-requires-clause-one : goal.answer_piece-requires-clause-one
answer_piece-requires-clause-one g c =
    let one = c.requires.one.0 in
    let stands = c.requires.one.1 in
    ((record one { peer = c.args.peer.now }), (record { input = stands.input; number = stands.number; peer = c.in_ok-one.ensures; some_peer = c.requires.some_peer; short_peer = c.requires.short_peer; frames = stands.frames; closed = stands.closed }))

pub returns-in_err-answer_closed-clause-cut : goal.returns-in_err-answer_closed-clause-cut
returns-in_err-answer_closed-clause-cut g c = OnErr-from c.from_residual.result (λ one stands.
    cuts_as c.args.desk.now (λ (s : State). refused_turn c.args.piece.now) (begun_turn c.args.moment c.args.input.now c.args.peer.now one c.args.piece.now) (λ s kept. refused_is c.args.moment c.args.input.now c.args.peer.now c.args.piece.now one (sym stands.closed ∙ c.if-closed.true) s) (g.K.Sink.contents c.args.sink.now) (g.K.Sink.contents c.answer_closed.new.sink)
    (cuts_quiet (refused_turn c.args.piece.now) (events_refused c.args.piece.now) c.args.desk.now (g.K.Sink.contents c.args.sink.now) (g.K.Sink.contents c.answer_closed.new.sink) c.in_err-answer_closed.ensures.err))

pub returns-in_err-answer_closed-clause-any_moment : goal.returns-in_err-answer_closed-clause-any_moment
returns-in_err-answer_closed-clause-any_moment g c one stands =
    during_nothing c.args.desk.now (g.D.Disk.state c.args.disk.now) c.law_images_show_the_state.ensures (begun_turn c.args.moment c.args.input.now c.args.peer.now one c.args.piece.now)

pub returns-then-closed-clause-any_moment : goal.returns-then-closed-clause-any_moment
returns-then-closed-clause-any_moment g c one stands =
    during_nothing c.args.desk.now (g.D.Disk.state c.args.disk.now) c.law_images_show_the_state.ensures (begun_turn c.args.moment c.args.input.now c.args.peer.now one c.args.piece.now)

pub returns-in_err-one-clause-any_moment : goal.returns-in_err-one-clause-any_moment
returns-in_err-one-clause-any_moment g c one stands =
    during_nothing c.args.desk.now (g.D.Disk.state c.args.disk.now) c.law_images_show_the_state.ensures (begun_turn c.args.moment c.args.input.now c.args.peer.now one c.args.piece.now)

pub returns-in_err-answer_closed-clause-cut_leaves : goal.returns-in_err-answer_closed-clause-cut_leaves
returns-in_err-answer_closed-clause-cut_leaves g c = OnErr-from c.from_residual.result (λ one stands.
    leaves_as c.args.desk.now (λ (s : State). refused_turn c.args.piece.now) (begun_turn c.args.moment c.args.input.now c.args.peer.now one c.args.piece.now) (λ s kept. refused_is c.args.moment c.args.input.now c.args.peer.now c.args.piece.now one (sym stands.closed ∙ c.if-closed.true) s) (g.K.Sink.contents c.args.sink.now) (g.K.Sink.contents c.answer_closed.new.sink) (g.D.Disk.state c.args.disk.now) (g.D.Disk.state c.args.disk.now)
    (leaves_eventless c.args.desk.now (g.D.Disk.state c.args.disk.now) c.law_images_show_the_state.ensures (λ (s : State). refused_turn c.args.piece.now) (g.K.Sink.contents c.args.sink.now) (g.K.Sink.contents c.answer_closed.new.sink) (λ s. events_refused c.args.piece.now)
    (cuts_quiet (refused_turn c.args.piece.now) (events_refused c.args.piece.now) c.args.desk.now (g.K.Sink.contents c.args.sink.now) (g.K.Sink.contents c.answer_closed.new.sink) c.in_err-answer_closed.ensures.err)))

pub returns-then-closed-clause-one : goal.returns-then-closed-clause-one
returns-then-closed-clause-one g c one stands =
    subst (λ (d : Connection). IsOpen c.args.one.now d) (closed_stays c.args.moment c.args.input.now c.args.peer.now c.args.piece.now one (sym stands.closed ∙ c.if-closed.true)) stands

pub returns-then-closed-clause-answered : goal.returns-then-closed-clause-answered
returns-then-closed-clause-answered g c one stands =
    does_as c.args.desk.now (λ (s : State). refused_turn c.args.piece.now) (begun_turn c.args.moment c.args.input.now c.args.peer.now one c.args.piece.now) (λ s kept. refused_is c.args.moment c.args.input.now c.args.peer.now c.args.piece.now one (sym stands.closed ∙ c.if-closed.true) s) c.args.desk.now (g.K.Sink.contents c.args.sink.now) (g.K.Sink.contents c.answer_closed.new.sink)
    (does_quiet (refused_turn c.args.piece.now) (events_refused c.args.piece.now) c.args.desk.now (g.K.Sink.contents c.args.sink.now) (g.K.Sink.contents c.answer_closed.new.sink) c.in_ok-answer_closed.ensures.ok)

pub returns-in_err-one-clause-cut : goal.returns-in_err-one-clause-cut
returns-in_err-one-clause-cut g c = OnErr-from c.from_residual-in_err-one.result (λ one stands. cuts_unwritten (begun_turn c.args.moment c.args.input.now c.args.peer.now one c.args.piece.now) c.args.desk.now (g.K.Sink.contents c.args.sink.now))

pub returns-in_err-one-clause-cut_leaves : goal.returns-in_err-one-clause-cut_leaves
returns-in_err-one-clause-cut_leaves g c = OnErr-from c.from_residual-in_err-one.result (λ one stands.
    leaves_unwritten (begun_turn c.args.moment c.args.input.now c.args.peer.now one c.args.piece.now) c.args.desk.now (g.K.Sink.contents c.args.sink.now) (g.D.Disk.state c.args.disk.now) (g.D.Disk.state c.args.disk.now) (during_nothing c.args.desk.now (g.D.Disk.state c.args.disk.now) c.law_images_show_the_state.ensures (begun_turn c.args.moment c.args.input.now c.args.peer.now one c.args.piece.now)))

pub returns-in_err-answer_piece-clause-cut : goal.returns-in_err-answer_piece-clause-cut
returns-in_err-answer_piece-clause-cut g c = OnErr-from c.from_residual-in_err-answer_piece.result (λ one stands.
    cuts_as c.args.desk.now (sent_turn c.args.moment c.args.input.now c.args.peer.now one.kind one.bytes c.args.piece.now) (begun_turn c.args.moment c.args.input.now c.args.peer.now one c.args.piece.now) (λ s kept. sent_is c.args.moment c.args.input.now c.args.peer.now c.args.piece.now one (sym stands.closed ∙ c.if-closed.false) s) (g.K.Sink.contents c.args.sink.now) (g.K.Sink.contents c.answer_piece.new.sink)
    (c.in_err-answer_piece.ensures.cut (record one { peer = c.args.peer.now }) (record { input = stands.input; number = stands.number; peer = c.in_ok-one.ensures; some_peer = c.requires.some_peer; short_peer = c.requires.short_peer; frames = stands.frames; closed = stands.closed })))

pub returns-in_err-answer_piece-clause-cut_leaves : goal.returns-in_err-answer_piece-clause-cut_leaves
returns-in_err-answer_piece-clause-cut_leaves g c = OnErr-from c.from_residual-in_err-answer_piece.result (λ one stands.
    leaves_as c.args.desk.now (sent_turn c.args.moment c.args.input.now c.args.peer.now one.kind one.bytes c.args.piece.now) (begun_turn c.args.moment c.args.input.now c.args.peer.now one c.args.piece.now) (λ s kept. sent_is c.args.moment c.args.input.now c.args.peer.now c.args.piece.now one (sym stands.closed ∙ c.if-closed.false) s) (g.K.Sink.contents c.args.sink.now) (g.K.Sink.contents c.answer_piece.new.sink) (g.D.Disk.state c.args.disk.now) (g.D.Disk.state c.answer_piece.new.disk)
    (c.in_err-answer_piece.ensures.cut_leaves (record one { peer = c.args.peer.now }) (record { input = stands.input; number = stands.number; peer = c.in_ok-one.ensures; some_peer = c.requires.some_peer; short_peer = c.requires.short_peer; frames = stands.frames; closed = stands.closed })))

pub returns-in_err-answer_piece-clause-any_moment : goal.returns-in_err-answer_piece-clause-any_moment
returns-in_err-answer_piece-clause-any_moment g c one stands =
    during_as c.args.desk.now (sent_turn c.args.moment c.args.input.now c.args.peer.now one.kind one.bytes c.args.piece.now) (begun_turn c.args.moment c.args.input.now c.args.peer.now one c.args.piece.now) (λ s kept. sent_is c.args.moment c.args.input.now c.args.peer.now c.args.piece.now one (sym stands.closed ∙ c.if-closed.false) s) (g.D.Disk.state c.args.disk.now) (g.D.Disk.state c.answer_piece.new.disk)
    (c.answer_piece.ensures.any_moment (record one { peer = c.args.peer.now }) (record { input = stands.input; number = stands.number; peer = c.in_ok-one.ensures; some_peer = c.requires.some_peer; short_peer = c.requires.short_peer; frames = stands.frames; closed = stands.closed }))

pub returns-clause-any_moment : goal.returns-clause-any_moment
returns-clause-any_moment g c one stands =
    during_as c.args.desk.now (sent_turn c.args.moment c.args.input.now c.args.peer.now one.kind one.bytes c.args.piece.now) (begun_turn c.args.moment c.args.input.now c.args.peer.now one c.args.piece.now) (λ s kept. sent_is c.args.moment c.args.input.now c.args.peer.now c.args.piece.now one (sym stands.closed ∙ c.if-closed.false) s) (g.D.Disk.state c.args.disk.now) (g.D.Disk.state c.answer_piece.new.disk)
    (c.answer_piece.ensures.any_moment (record one { peer = c.args.peer.now }) (record { input = stands.input; number = stands.number; peer = c.in_ok-one.ensures; some_peer = c.requires.some_peer; short_peer = c.requires.short_peer; frames = stands.frames; closed = stands.closed }))

pub returns-clause-one : goal.returns-clause-one
returns-clause-one g c one stands =
    subst (λ (d : Connection). IsOpen c.answer_piece.new.one d) (sent_now c.args.moment c.args.input.now c.args.peer.now c.args.piece.now one (sym stands.closed ∙ c.if-closed.false))
    (c.in_ok-answer_piece.ensures.one (record one { peer = c.args.peer.now }) (record { input = stands.input; number = stands.number; peer = c.in_ok-one.ensures; some_peer = c.requires.some_peer; short_peer = c.requires.short_peer; frames = stands.frames; closed = stands.closed }))

pub returns-clause-answered : goal.returns-clause-answered
returns-clause-answered g c one stands =
    does_as c.args.desk.now (sent_turn c.args.moment c.args.input.now c.args.peer.now one.kind one.bytes c.args.piece.now) (begun_turn c.args.moment c.args.input.now c.args.peer.now one c.args.piece.now) (λ s kept. sent_is c.args.moment c.args.input.now c.args.peer.now c.args.piece.now one (sym stands.closed ∙ c.if-closed.false) s) c.answer_piece.new.desk (g.K.Sink.contents c.args.sink.now) (g.K.Sink.contents c.answer_piece.new.sink)
    (c.in_ok-answer_piece.ensures.answered (record one { peer = c.args.peer.now }) (record { input = stands.input; number = stands.number; peer = c.in_ok-one.ensures; some_peer = c.requires.some_peer; short_peer = c.requires.short_peer; frames = stands.frames; closed = stands.closed }))
