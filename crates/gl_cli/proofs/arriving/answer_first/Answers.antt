use Rattle.std.proofs.Common.{◌∙◌, ◌++◌, ◌∷◌, [], List, ℕ, ap, refl, sym, subst}
use Rattle.std.specs.Prelude.{Some, None, codes, nat_le}
use Rattle.gl_node.specs.State.{State}
use Rattle.gl_cli.specs.declared.connections.Open.{Open}
use Rattle.gl_cli.specs.Connections.{Connection, most_connections}
use Rattle.gl_cli.specs.Opened.{ConnectionsStandFor, begun}
use Rattle.gl_cli.specs.Runs.{answered, sent_turn, tcp_turn_by}
use Rattle.gl_cli.proofs.Pieces.{after_begins, after_full, begins_is, full_is, open_at_first}
use Rattle.gl_cli.proofs.Places.{as_many_open, stand_more}
use Rattle.gl_cli.proofs.Sinks.{OnErr-from}
use Rattle.gl_cli.proofs.Steps.{cuts_as, cuts_quiet, cuts_unwritten, does_as, does_quiet, during_as, during_nothing, leaves_as, leaves_eventless, leaves_unwritten}
use Rattle.gl_cli.proofs.arriving.answer_first.Goals as goal

pub answer_piece-requires-clause-one : goal.answer_piece-requires-clause-one
answer_piece-requires-clause-one g c = ((begun c.args.input.now c.args.number c.args.kind c.args.peer.now), c.in_ok-one.ensures)

pub answer_piece-requires-clause-going : goal.answer_piece-requires-clause-going
answer_piece-requires-clause-going g c = c.in_ok-one.ensures.closed ∙ open_at_first c.args.kind

pub returns-in_err-send-clause-cut : goal.returns-in_err-send-clause-cut
returns-in_err-send-clause-cut g c = OnErr-from c.from_residual.result (λ cs stand.
    cuts_as c.args.desk.now (λ (s : State). (answered (codes "too-many-connections" ∷ []) [] ∷ [])) (tcp_turn_by (Some c.args.kind) None c.args.moment cs c.args.input.now c.args.peer.now c.args.piece.now) (λ s kept. full_is c.args.moment c.args.input.now c.args.peer.now c.args.piece.now c.args.kind cs (ap (λ (n : ℕ). nat_le most_connections n) (sym (as_many_open c.args.connections.now.all.items cs stand)) ∙ sym c.is_full.ensures ∙ c.if-is_full.true) s) (g.K.Sink.contents c.args.sink.now) (g.K.Sink.contents c.send.new.sink)
    (cuts_quiet (answered (codes "too-many-connections" ∷ []) [] ∷ []) refl c.args.desk.now (g.K.Sink.contents c.args.sink.now) (g.K.Sink.contents c.send.new.sink) c.in_err-send.ensures.err))

pub returns-in_err-send-clause-any_moment : goal.returns-in_err-send-clause-any_moment
returns-in_err-send-clause-any_moment g c cs stand =
    during_nothing c.args.desk.now (g.D.Disk.state c.args.disk.now) c.law_images_show_the_state.ensures (tcp_turn_by (Some c.args.kind) None c.args.moment cs c.args.input.now c.args.peer.now c.args.piece.now)

pub returns-then-is_full-clause-any_moment : goal.returns-then-is_full-clause-any_moment
returns-then-is_full-clause-any_moment g c cs stand =
    during_nothing c.args.desk.now (g.D.Disk.state c.args.disk.now) c.law_images_show_the_state.ensures (tcp_turn_by (Some c.args.kind) None c.args.moment cs c.args.input.now c.args.peer.now c.args.piece.now)

pub returns-in_err-reserve-clause-any_moment : goal.returns-in_err-reserve-clause-any_moment
returns-in_err-reserve-clause-any_moment g c cs stand =
    during_nothing c.args.desk.now (g.D.Disk.state c.args.disk.now) c.law_images_show_the_state.ensures (tcp_turn_by (Some c.args.kind) None c.args.moment cs c.args.input.now c.args.peer.now c.args.piece.now)

pub returns-in_err-one-clause-any_moment : goal.returns-in_err-one-clause-any_moment
returns-in_err-one-clause-any_moment g c cs stand =
    during_nothing c.args.desk.now (g.D.Disk.state c.args.disk.now) c.law_images_show_the_state.ensures (tcp_turn_by (Some c.args.kind) None c.args.moment cs c.args.input.now c.args.peer.now c.args.piece.now)

pub returns-in_err-send-clause-cut_leaves : goal.returns-in_err-send-clause-cut_leaves
returns-in_err-send-clause-cut_leaves g c = OnErr-from c.from_residual.result (λ cs stand.
    leaves_as c.args.desk.now (λ (s : State). (answered (codes "too-many-connections" ∷ []) [] ∷ [])) (tcp_turn_by (Some c.args.kind) None c.args.moment cs c.args.input.now c.args.peer.now c.args.piece.now) (λ s kept. full_is c.args.moment c.args.input.now c.args.peer.now c.args.piece.now c.args.kind cs (ap (λ (n : ℕ). nat_le most_connections n) (sym (as_many_open c.args.connections.now.all.items cs stand)) ∙ sym c.is_full.ensures ∙ c.if-is_full.true) s) (g.K.Sink.contents c.args.sink.now) (g.K.Sink.contents c.send.new.sink) (g.D.Disk.state c.args.disk.now) (g.D.Disk.state c.args.disk.now)
    (leaves_eventless c.args.desk.now (g.D.Disk.state c.args.disk.now) c.law_images_show_the_state.ensures (λ (s : State). (answered (codes "too-many-connections" ∷ []) [] ∷ [])) (g.K.Sink.contents c.args.sink.now) (g.K.Sink.contents c.send.new.sink) (λ s. refl)
    (cuts_quiet (answered (codes "too-many-connections" ∷ []) [] ∷ []) refl c.args.desk.now (g.K.Sink.contents c.args.sink.now) (g.K.Sink.contents c.send.new.sink) c.in_err-send.ensures.err)))

pub returns-then-is_full-clause-connections : goal.returns-then-is_full-clause-connections
returns-then-is_full-clause-connections g c cs stand =
    subst (λ (ds : List Connection). ConnectionsStandFor c.args.connections.now.all.items ds) (after_full cs c.args.input.now c.args.number c.args.peer.now c.args.piece.now c.args.kind (ap (λ (n : ℕ). nat_le most_connections n) (sym (as_many_open c.args.connections.now.all.items cs stand)) ∙ sym c.is_full.ensures ∙ c.if-is_full.true)) stand

pub returns-then-is_full-clause-answered : goal.returns-then-is_full-clause-answered
returns-then-is_full-clause-answered g c cs stand =
    does_as c.args.desk.now (λ (s : State). (answered (codes "too-many-connections" ∷ []) [] ∷ [])) (tcp_turn_by (Some c.args.kind) None c.args.moment cs c.args.input.now c.args.peer.now c.args.piece.now) (λ s kept. full_is c.args.moment c.args.input.now c.args.peer.now c.args.piece.now c.args.kind cs (ap (λ (n : ℕ). nat_le most_connections n) (sym (as_many_open c.args.connections.now.all.items cs stand)) ∙ sym c.is_full.ensures ∙ c.if-is_full.true) s) c.args.desk.now (g.K.Sink.contents c.args.sink.now) (g.K.Sink.contents c.send.new.sink)
    (does_quiet (answered (codes "too-many-connections" ∷ []) [] ∷ []) refl c.args.desk.now (g.K.Sink.contents c.args.sink.now) (g.K.Sink.contents c.send.new.sink) c.in_ok-send.ensures.ok)

pub returns-in_err-reserve-clause-cut : goal.returns-in_err-reserve-clause-cut
returns-in_err-reserve-clause-cut g c = OnErr-from c.from_residual-in_err-reserve.result (λ cs stand. cuts_unwritten (tcp_turn_by (Some c.args.kind) None c.args.moment cs c.args.input.now c.args.peer.now c.args.piece.now) c.args.desk.now (g.K.Sink.contents c.args.sink.now))

pub returns-in_err-reserve-clause-cut_leaves : goal.returns-in_err-reserve-clause-cut_leaves
returns-in_err-reserve-clause-cut_leaves g c = OnErr-from c.from_residual-in_err-reserve.result (λ cs stand.
    leaves_unwritten (tcp_turn_by (Some c.args.kind) None c.args.moment cs c.args.input.now c.args.peer.now c.args.piece.now) c.args.desk.now (g.K.Sink.contents c.args.sink.now) (g.D.Disk.state c.args.disk.now) (g.D.Disk.state c.args.disk.now) (during_nothing c.args.desk.now (g.D.Disk.state c.args.disk.now) c.law_images_show_the_state.ensures (tcp_turn_by (Some c.args.kind) None c.args.moment cs c.args.input.now c.args.peer.now c.args.piece.now)))

pub returns-in_err-one-clause-cut : goal.returns-in_err-one-clause-cut
returns-in_err-one-clause-cut g c = OnErr-from c.from_residual-in_err-one.result (λ cs stand. cuts_unwritten (tcp_turn_by (Some c.args.kind) None c.args.moment cs c.args.input.now c.args.peer.now c.args.piece.now) c.args.desk.now (g.K.Sink.contents c.args.sink.now))

pub returns-in_err-one-clause-cut_leaves : goal.returns-in_err-one-clause-cut_leaves
returns-in_err-one-clause-cut_leaves g c = OnErr-from c.from_residual-in_err-one.result (λ cs stand.
    leaves_unwritten (tcp_turn_by (Some c.args.kind) None c.args.moment cs c.args.input.now c.args.peer.now c.args.piece.now) c.args.desk.now (g.K.Sink.contents c.args.sink.now) (g.D.Disk.state c.args.disk.now) (g.D.Disk.state c.args.disk.now) (during_nothing c.args.desk.now (g.D.Disk.state c.args.disk.now) c.law_images_show_the_state.ensures (tcp_turn_by (Some c.args.kind) None c.args.moment cs c.args.input.now c.args.peer.now c.args.piece.now)))

pub returns-in_err-answer_piece-clause-cut : goal.returns-in_err-answer_piece-clause-cut
returns-in_err-answer_piece-clause-cut g c = OnErr-from c.from_residual-in_err-answer_piece.result (λ cs stand.
    cuts_as c.args.desk.now (sent_turn c.args.moment c.args.input.now c.args.peer.now c.args.kind [] c.args.piece.now) (tcp_turn_by (Some c.args.kind) None c.args.moment cs c.args.input.now c.args.peer.now c.args.piece.now) (λ s kept. begins_is c.args.moment c.args.input.now c.args.peer.now c.args.piece.now c.args.kind cs (ap (λ (n : ℕ). nat_le most_connections n) (sym (as_many_open c.args.connections.now.all.items cs stand)) ∙ sym c.is_full.ensures ∙ c.if-is_full.false) s) (g.K.Sink.contents c.args.sink.now) (g.K.Sink.contents c.answer_piece.new.sink)
    (c.in_err-answer_piece.ensures.cut (begun c.args.input.now c.args.number c.args.kind c.args.peer.now) c.in_ok-one.ensures))

pub returns-in_err-answer_piece-clause-cut_leaves : goal.returns-in_err-answer_piece-clause-cut_leaves
returns-in_err-answer_piece-clause-cut_leaves g c = OnErr-from c.from_residual-in_err-answer_piece.result (λ cs stand.
    leaves_as c.args.desk.now (sent_turn c.args.moment c.args.input.now c.args.peer.now c.args.kind [] c.args.piece.now) (tcp_turn_by (Some c.args.kind) None c.args.moment cs c.args.input.now c.args.peer.now c.args.piece.now) (λ s kept. begins_is c.args.moment c.args.input.now c.args.peer.now c.args.piece.now c.args.kind cs (ap (λ (n : ℕ). nat_le most_connections n) (sym (as_many_open c.args.connections.now.all.items cs stand)) ∙ sym c.is_full.ensures ∙ c.if-is_full.false) s) (g.K.Sink.contents c.args.sink.now) (g.K.Sink.contents c.answer_piece.new.sink) (g.D.Disk.state c.args.disk.now) (g.D.Disk.state c.answer_piece.new.disk)
    (c.in_err-answer_piece.ensures.cut_leaves (begun c.args.input.now c.args.number c.args.kind c.args.peer.now) c.in_ok-one.ensures))

pub returns-in_err-answer_piece-clause-any_moment : goal.returns-in_err-answer_piece-clause-any_moment
returns-in_err-answer_piece-clause-any_moment g c cs stand =
    during_as c.args.desk.now (sent_turn c.args.moment c.args.input.now c.args.peer.now c.args.kind [] c.args.piece.now) (tcp_turn_by (Some c.args.kind) None c.args.moment cs c.args.input.now c.args.peer.now c.args.piece.now) (λ s kept. begins_is c.args.moment c.args.input.now c.args.peer.now c.args.piece.now c.args.kind cs (ap (λ (n : ℕ). nat_le most_connections n) (sym (as_many_open c.args.connections.now.all.items cs stand)) ∙ sym c.is_full.ensures ∙ c.if-is_full.false) s) (g.D.Disk.state c.args.disk.now) (g.D.Disk.state c.answer_piece.new.disk)
    (c.answer_piece.ensures.any_moment (begun c.args.input.now c.args.number c.args.kind c.args.peer.now) c.in_ok-one.ensures)

pub returns-clause-any_moment : goal.returns-clause-any_moment
returns-clause-any_moment g c cs stand =
    during_as c.args.desk.now (sent_turn c.args.moment c.args.input.now c.args.peer.now c.args.kind [] c.args.piece.now) (tcp_turn_by (Some c.args.kind) None c.args.moment cs c.args.input.now c.args.peer.now c.args.piece.now) (λ s kept. begins_is c.args.moment c.args.input.now c.args.peer.now c.args.piece.now c.args.kind cs (ap (λ (n : ℕ). nat_le most_connections n) (sym (as_many_open c.args.connections.now.all.items cs stand)) ∙ sym c.is_full.ensures ∙ c.if-is_full.false) s) (g.D.Disk.state c.args.disk.now) (g.D.Disk.state c.answer_piece.new.disk)
    (c.answer_piece.ensures.any_moment (begun c.args.input.now c.args.number c.args.kind c.args.peer.now) c.in_ok-one.ensures)

pub returns-clause-connections : goal.returns-clause-connections
returns-clause-connections g c cs stand =
    subst (λ (ds : List Connection). ConnectionsStandFor c.push_within.new.all.items ds) (after_begins cs c.args.input.now c.args.number c.args.peer.now c.args.piece.now c.args.kind (ap (λ (n : ℕ). nat_le most_connections n) (sym (as_many_open c.args.connections.now.all.items cs stand)) ∙ sym c.is_full.ensures ∙ c.if-is_full.false))
    (subst (λ (all : List Open). ConnectionsStandFor all (cs ++ record (begun c.args.input.now c.args.number c.args.kind c.args.peer.now) { bytes = c.args.piece.now } ∷ []))
    (sym (c.push_within.ensures ∙ ap (λ (all : List Open). all ++ c.answer_piece.new.one ∷ []) c.reserve.ensures.items))
    (stand_more c.args.connections.now.all.items cs c.answer_piece.new.one (record (begun c.args.input.now c.args.number c.args.kind c.args.peer.now) { bytes = c.args.piece.now }) stand
    (c.in_ok-answer_piece.ensures.one (begun c.args.input.now c.args.number c.args.kind c.args.peer.now) c.in_ok-one.ensures) c.requires.none))

pub returns-clause-answered : goal.returns-clause-answered
returns-clause-answered g c cs stand =
    does_as c.args.desk.now (sent_turn c.args.moment c.args.input.now c.args.peer.now c.args.kind [] c.args.piece.now) (tcp_turn_by (Some c.args.kind) None c.args.moment cs c.args.input.now c.args.peer.now c.args.piece.now) (λ s kept. begins_is c.args.moment c.args.input.now c.args.peer.now c.args.piece.now c.args.kind cs (ap (λ (n : ℕ). nat_le most_connections n) (sym (as_many_open c.args.connections.now.all.items cs stand)) ∙ sym c.is_full.ensures ∙ c.if-is_full.false) s) c.answer_piece.new.desk (g.K.Sink.contents c.args.sink.now) (g.K.Sink.contents c.answer_piece.new.sink)
    (c.in_ok-answer_piece.ensures.answered (begun c.args.input.now c.args.number c.args.kind c.args.peer.now) c.in_ok-one.ensures)
