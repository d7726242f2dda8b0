use Rattle.std.proofs.Common.{◌∙◌, sym}
use Rattle.gl_cli.proofs.Pieces.{piece_cut, piece_during, piece_leaves, piece_going, piece_closed, piece_closed_cut, piece_closed_leaves}
use Rattle.gl_cli.proofs.Sinks.{OnErr-from}
use Rattle.gl_cli.proofs.arriving.answer_piece.Goals as goal

pub answer_frames-requires-clause-reader : goal.answer_frames-requires-clause-reader
answer_frames-requires-clause-reader g c =
    let one = c.requires.one.0 in
    let stands = c.requires.one.1 in
    record { kind = one.kind; before = one.bytes; stands = stands.frames; going = sym stands.closed ∙ c.requires.going }

pub returns-in_err-closed-clause-cut : goal.returns-in_err-closed-clause-cut
returns-in_err-closed-clause-cut g c = OnErr-from c.from_residual.result (λ one stands.
    piece_cut c.args.moment c.args.input.now c.args.peer.now c.args.piece.now one.kind one.bytes c.args.desk.now c.answer_frames.new.desk (g.K.Sink.contents c.args.sink.now) (g.K.Sink.contents c.answer_frames.new.sink) (g.D.Disk.state c.args.disk.now) (g.D.Disk.state c.answer_frames.new.disk) (c.in_err-closed.ensures.cut one.kind one.bytes stands.frames (sym stands.closed ∙ c.requires.going)))

pub returns-in_err-closed-clause-cut_leaves : goal.returns-in_err-closed-clause-cut_leaves
returns-in_err-closed-clause-cut_leaves g c = OnErr-from c.from_residual.result (λ one stands.
    piece_leaves c.args.moment c.args.input.now c.args.peer.now c.args.piece.now one.kind one.bytes c.args.desk.now c.answer_frames.new.desk (g.K.Sink.contents c.args.sink.now) (g.K.Sink.contents c.answer_frames.new.sink) (g.D.Disk.state c.args.disk.now) (g.D.Disk.state c.answer_frames.new.disk) (c.in_err-closed.ensures.cut_leaves one.kind one.bytes stands.frames (sym stands.closed ∙ c.requires.going)))

pub returns-in_err-closed-clause-any_moment : goal.returns-in_err-closed-clause-any_moment
returns-in_err-closed-clause-any_moment g c one stands =
    piece_during c.args.moment c.args.input.now c.args.peer.now c.args.piece.now one.kind one.bytes c.args.desk.now c.answer_frames.new.desk (g.K.Sink.contents c.args.sink.now) (g.K.Sink.contents c.answer_frames.new.sink) (g.D.Disk.state c.args.disk.now) (g.D.Disk.state c.answer_frames.new.disk) (c.answer_frames.ensures.any_moment one.kind one.bytes stands.frames (sym stands.closed ∙ c.requires.going))

pub returns-then-not-closed-clause-any_moment : goal.returns-then-not-closed-clause-any_moment
returns-then-not-closed-clause-any_moment g c one stands =
    piece_during c.args.moment c.args.input.now c.args.peer.now c.args.piece.now one.kind one.bytes c.args.desk.now c.answer_frames.new.desk (g.K.Sink.contents c.args.sink.now) (g.K.Sink.contents c.answer_frames.new.sink) (g.D.Disk.state c.args.disk.now) (g.D.Disk.state c.answer_frames.new.disk) (c.answer_frames.ensures.any_moment one.kind one.bytes stands.frames (sym stands.closed ∙ c.requires.going))

pub returns-in_err-write_arrival-clause-any_moment : goal.returns-in_err-write_arrival-clause-any_moment
returns-in_err-write_arrival-clause-any_moment g c one stands =
    piece_during c.args.moment c.args.input.now c.args.peer.now c.args.piece.now one.kind one.bytes c.args.desk.now c.answer_frames.new.desk (g.K.Sink.contents c.args.sink.now) (g.K.Sink.contents c.answer_frames.new.sink) (g.D.Disk.state c.args.disk.now) (g.D.Disk.state c.answer_frames.new.disk) (c.answer_frames.ensures.any_moment one.kind one.bytes stands.frames (sym stands.closed ∙ c.requires.going))

pub returns-clause-any_moment : goal.returns-clause-any_moment
returns-clause-any_moment g c one stands =
    piece_during c.args.moment c.args.input.now c.args.peer.now c.args.piece.now one.kind one.bytes c.args.desk.now c.answer_frames.new.desk (g.K.Sink.contents c.args.sink.now) (g.K.Sink.contents c.answer_frames.new.sink) (g.D.Disk.state c.args.disk.now) (g.D.Disk.state c.answer_frames.new.disk) (c.answer_frames.ensures.any_moment one.kind one.bytes stands.frames (sym stands.closed ∙ c.requires.going))

pub returns-then-not-closed-clause-answered : goal.returns-then-not-closed-clause-answered
returns-then-not-closed-clause-answered g c one stands =
    piece_going c.args.moment c.args.input.now c.args.peer.now c.args.piece.now one.kind one.bytes c.args.desk.now c.answer_frames.new.desk (g.K.Sink.contents c.args.sink.now) (g.K.Sink.contents c.answer_frames.new.sink) (g.D.Disk.state c.args.disk.now) (g.D.Disk.state c.answer_frames.new.disk) c.in_ok-closed.closed (c.in_ok-closed.ensures.reader one.kind one.bytes stands.frames (sym stands.closed ∙ c.requires.going)).0 (c.in_ok-closed.ensures.answered one.kind one.bytes stands.frames (sym stands.closed ∙ c.requires.going)) c.if-not-closed.true

pub returns-in_err-write_arrival-clause-cut : goal.returns-in_err-write_arrival-clause-cut
returns-in_err-write_arrival-clause-cut g c = OnErr-from c.from_residual-in_err-write_arrival.result (λ one stands.
    piece_closed_cut c.args.moment c.args.input.now c.args.peer.now c.args.piece.now one.kind one.bytes c.args.desk.now c.answer_frames.new.desk (g.K.Sink.contents c.args.sink.now) (g.K.Sink.contents c.answer_frames.new.sink) (g.D.Disk.state c.args.disk.now) (g.D.Disk.state c.answer_frames.new.disk) c.in_ok-closed.closed (c.in_ok-closed.ensures.reader one.kind one.bytes stands.frames (sym stands.closed ∙ c.requires.going)).0 (c.in_ok-closed.ensures.answered one.kind one.bytes stands.frames (sym stands.closed ∙ c.requires.going)) c.if-not-closed.false (g.K.Sink.contents c.write_arrival.new.sink) c.in_err-write_arrival.ensures.err)

pub returns-in_err-write_arrival-clause-cut_leaves : goal.returns-in_err-write_arrival-clause-cut_leaves
returns-in_err-write_arrival-clause-cut_leaves g c = OnErr-from c.from_residual-in_err-write_arrival.result (λ one stands.
    piece_closed_leaves c.args.moment c.args.input.now c.args.peer.now c.args.piece.now one.kind one.bytes c.args.desk.now c.answer_frames.new.desk (g.K.Sink.contents c.args.sink.now) (g.K.Sink.contents c.answer_frames.new.sink) (g.D.Disk.state c.args.disk.now) (g.D.Disk.state c.answer_frames.new.disk) c.in_ok-closed.closed (c.in_ok-closed.ensures.reader one.kind one.bytes stands.frames (sym stands.closed ∙ c.requires.going)).0 (c.in_ok-closed.ensures.answered one.kind one.bytes stands.frames (sym stands.closed ∙ c.requires.going)) c.if-not-closed.false (g.K.Sink.contents c.write_arrival.new.sink) c.in_err-write_arrival.ensures.err
    c.answer_frames.ensures.tells c.in_ok-closed.ensures.stands c.law_images_show_the_state.ensures)

pub returns-clause-answered : goal.returns-clause-answered
returns-clause-answered g c one stands =
    piece_closed c.args.moment c.args.input.now c.args.peer.now c.args.piece.now one.kind one.bytes c.args.desk.now c.answer_frames.new.desk (g.K.Sink.contents c.args.sink.now) (g.K.Sink.contents c.answer_frames.new.sink) (g.D.Disk.state c.args.disk.now) (g.D.Disk.state c.answer_frames.new.disk) c.in_ok-closed.closed (c.in_ok-closed.ensures.reader one.kind one.bytes stands.frames (sym stands.closed ∙ c.requires.going)).0 (c.in_ok-closed.ensures.answered one.kind one.bytes stands.frames (sym stands.closed ∙ c.requires.going)) c.if-not-closed.false (g.K.Sink.contents c.write_arrival.new.sink) c.in_ok-write_arrival.ensures.ok
