use Rattle.std.proofs.Common.{refl, false}
use Rattle.gl_cli.specs.Runs.{datagram_turn, end_turn, listed, tcp_turn, turn_of}
use Rattle.gl_cli.specs.Sessions.{claim_turn, finish_turn}
use Rattle.gl_cli.proofs.Moments.{claim_cut, claim_is, cut_by, cuts_by, datagram_is, does_by, during_by, end_is, finish_is, list_is, listing_cut, quiet, sent_is}
use Rattle.gl_cli.proofs.Sinks.{OnErr-from}
use Rattle.gl_cli.proofs.answering.answer_line.Goals as goal

pub returns-in_ok-answer_datagram-in-Udp-clause-answered : goal.returns-in_ok-answer_datagram-in-Udp-clause-answered
returns-in_ok-answer_datagram-in-Udp-clause-answered g c = λ cs stand.
    does_by (datagram_turn c.args.moment c.as_str-input.result.now c.as_str-peer.result.now c.as_slice.result.now) (turn_of c.args.moment cs false c.args.line.now) c.args.desk.now c.answer_datagram.new.desk (g.K.Sink.contents c.args.sink.now) (g.K.Sink.contents c.answer_datagram.new.sink)
    (datagram_is c.args.moment cs c.args.line.now _ _ _ _ _ _ c.in-Udp.is c.as_str-input.ensures c.as_str-peer.ensures c.as_slice.ensures) c.in_ok-answer_datagram-in-Udp.ensures.answered

pub returns-in_err-answer_datagram-in-Udp-clause-cut : goal.returns-in_err-answer_datagram-in-Udp-clause-cut
returns-in_err-answer_datagram-in-Udp-clause-cut g c = OnErr-from c.from_residual.result (λ cs stand.
    cuts_by (datagram_turn c.args.moment c.as_str-input.result.now c.as_str-peer.result.now c.as_slice.result.now) (turn_of c.args.moment cs false c.args.line.now) c.args.desk.now (g.K.Sink.contents c.args.sink.now) (g.K.Sink.contents c.answer_datagram.new.sink)
    (datagram_is c.args.moment cs c.args.line.now _ _ _ _ _ _ c.in-Udp.is c.as_str-input.ensures c.as_str-peer.ensures c.as_slice.ensures) c.in_err-answer_datagram-in-Udp.ensures.cut)

pub returns-in_ok-answer_datagram-in-Udp-clause-any_moment : goal.returns-in_ok-answer_datagram-in-Udp-clause-any_moment
returns-in_ok-answer_datagram-in-Udp-clause-any_moment g c = λ cs stand.
    during_by (datagram_turn c.args.moment c.as_str-input.result.now c.as_str-peer.result.now c.as_slice.result.now) (turn_of c.args.moment cs false c.args.line.now) c.args.desk.now (g.D.Disk.state c.args.disk.now) (g.D.Disk.state c.answer_datagram.new.disk)
    (datagram_is c.args.moment cs c.args.line.now _ _ _ _ _ _ c.in-Udp.is c.as_str-input.ensures c.as_str-peer.ensures c.as_slice.ensures) c.answer_datagram.ensures.any_moment

pub returns-in_err-answer_datagram-in-Udp-clause-any_moment : goal.returns-in_err-answer_datagram-in-Udp-clause-any_moment
returns-in_err-answer_datagram-in-Udp-clause-any_moment g c = λ cs stand.
    during_by (datagram_turn c.args.moment c.as_str-input.result.now c.as_str-peer.result.now c.as_slice.result.now) (turn_of c.args.moment cs false c.args.line.now) c.args.desk.now (g.D.Disk.state c.args.disk.now) (g.D.Disk.state c.answer_datagram.new.disk)
    (datagram_is c.args.moment cs c.args.line.now _ _ _ _ _ _ c.in-Udp.is c.as_str-input.ensures c.as_str-peer.ensures c.as_slice.ensures) c.answer_datagram.ensures.any_moment

pub returns-in_err-answer_datagram-in-Udp-clause-cut_leaves : goal.returns-in_err-answer_datagram-in-Udp-clause-cut_leaves
returns-in_err-answer_datagram-in-Udp-clause-cut_leaves g c = OnErr-from c.from_residual.result (λ cs stand.
    cut_by (datagram_turn c.args.moment c.as_str-input.result.now c.as_str-peer.result.now c.as_slice.result.now) (turn_of c.args.moment cs false c.args.line.now) c.args.desk.now (g.K.Sink.contents c.args.sink.now) (g.K.Sink.contents c.answer_datagram.new.sink) (g.D.Disk.state c.args.disk.now) (g.D.Disk.state c.answer_datagram.new.disk)
    (datagram_is c.args.moment cs c.args.line.now _ _ _ _ _ _ c.in-Udp.is c.as_str-input.ensures c.as_str-peer.ensures c.as_slice.ensures) c.in_err-answer_datagram-in-Udp.ensures.cut_leaves)

pub returns-in_ok-answer_sent-in-Tcp-clause-answered : goal.returns-in_ok-answer_sent-in-Tcp-clause-answered
returns-in_ok-answer_sent-in-Tcp-clause-answered g c = λ cs stand.
    does_by (tcp_turn c.args.moment cs c.as_str-input-in-Tcp.result.now _ c.as_str-peer-in-Tcp.result.now c.as_slice-in-Tcp.result.now) (turn_of c.args.moment cs false c.args.line.now) c.args.desk.now c.answer_sent.new.desk (g.K.Sink.contents c.args.sink.now) (g.K.Sink.contents c.answer_sent.new.sink)
    (sent_is c.args.moment cs c.args.line.now _ _ _ _ _ _ _ _ c.in-Tcp.is c.as_str-input-in-Tcp.ensures refl c.as_str-peer-in-Tcp.ensures c.as_slice-in-Tcp.ensures) (c.in_ok-answer_sent-in-Tcp.ensures.answered cs stand)

pub returns-in_err-answer_sent-in-Tcp-clause-cut : goal.returns-in_err-answer_sent-in-Tcp-clause-cut
returns-in_err-answer_sent-in-Tcp-clause-cut g c = OnErr-from c.from_residual-in_err-answer_sent-in-Tcp.result (λ cs stand.
    cuts_by (tcp_turn c.args.moment cs c.as_str-input-in-Tcp.result.now _ c.as_str-peer-in-Tcp.result.now c.as_slice-in-Tcp.result.now) (turn_of c.args.moment cs false c.args.line.now) c.args.desk.now (g.K.Sink.contents c.args.sink.now) (g.K.Sink.contents c.answer_sent.new.sink)
    (sent_is c.args.moment cs c.args.line.now _ _ _ _ _ _ _ _ c.in-Tcp.is c.as_str-input-in-Tcp.ensures refl c.as_str-peer-in-Tcp.ensures c.as_slice-in-Tcp.ensures) (c.in_err-answer_sent-in-Tcp.ensures.cut cs stand))

pub returns-in_ok-answer_sent-in-Tcp-clause-any_moment : goal.returns-in_ok-answer_sent-in-Tcp-clause-any_moment
returns-in_ok-answer_sent-in-Tcp-clause-any_moment g c = λ cs stand.
    during_by (tcp_turn c.args.moment cs c.as_str-input-in-Tcp.result.now _ c.as_str-peer-in-Tcp.result.now c.as_slice-in-Tcp.result.now) (turn_of c.args.moment cs false c.args.line.now) c.args.desk.now (g.D.Disk.state c.args.disk.now) (g.D.Disk.state c.answer_sent.new.disk)
    (sent_is c.args.moment cs c.args.line.now _ _ _ _ _ _ _ _ c.in-Tcp.is c.as_str-input-in-Tcp.ensures refl c.as_str-peer-in-Tcp.ensures c.as_slice-in-Tcp.ensures) (c.answer_sent.ensures.any_moment cs stand)

pub returns-in_err-answer_sent-in-Tcp-clause-any_moment : goal.returns-in_err-answer_sent-in-Tcp-clause-any_moment
returns-in_err-answer_sent-in-Tcp-clause-any_moment g c = λ cs stand.
    during_by (tcp_turn c.args.moment cs c.as_str-input-in-Tcp.result.now _ c.as_str-peer-in-Tcp.result.now c.as_slice-in-Tcp.result.now) (turn_of c.args.moment cs false c.args.line.now) c.args.desk.now (g.D.Disk.state c.args.disk.now) (g.D.Disk.state c.answer_sent.new.disk)
    (sent_is c.args.moment cs c.args.line.now _ _ _ _ _ _ _ _ c.in-Tcp.is c.as_str-input-in-Tcp.ensures refl c.as_str-peer-in-Tcp.ensures c.as_slice-in-Tcp.ensures) (c.answer_sent.ensures.any_moment cs stand)

pub returns-in_err-answer_sent-in-Tcp-clause-cut_leaves : goal.returns-in_err-answer_sent-in-Tcp-clause-cut_leaves
returns-in_err-answer_sent-in-Tcp-clause-cut_leaves g c = OnErr-from c.from_residual-in_err-answer_sent-in-Tcp.result (λ cs stand.
    cut_by (tcp_turn c.args.moment cs c.as_str-input-in-Tcp.result.now _ c.as_str-peer-in-Tcp.result.now c.as_slice-in-Tcp.result.now) (turn_of c.args.moment cs false c.args.line.now) c.args.desk.now (g.K.Sink.contents c.args.sink.now) (g.K.Sink.contents c.answer_sent.new.sink) (g.D.Disk.state c.args.disk.now) (g.D.Disk.state c.answer_sent.new.disk)
    (sent_is c.args.moment cs c.args.line.now _ _ _ _ _ _ _ _ c.in-Tcp.is c.as_str-input-in-Tcp.ensures refl c.as_str-peer-in-Tcp.ensures c.as_slice-in-Tcp.ensures) (c.in_err-answer_sent-in-Tcp.ensures.cut_leaves cs stand))

pub returns-in_ok-answer_end-in-End-clause-answered : goal.returns-in_ok-answer_end-in-End-clause-answered
returns-in_ok-answer_end-in-End-clause-answered g c = λ cs stand.
    does_by (end_turn c.args.moment cs c.as_str.result.now _) (turn_of c.args.moment cs false c.args.line.now) c.args.desk.now c.answer_end.new.desk (g.K.Sink.contents c.args.sink.now) (g.K.Sink.contents c.answer_end.new.sink)
    (end_is c.args.moment cs c.args.line.now _ _ _ _ c.in-End.is c.as_str.ensures refl) (c.in_ok-answer_end-in-End.ensures.answered cs stand)

pub returns-in_err-answer_end-in-End-clause-cut : goal.returns-in_err-answer_end-in-End-clause-cut
returns-in_err-answer_end-in-End-clause-cut g c = OnErr-from c.from_residual-in_err-answer_end-in-End.result (λ cs stand.
    cuts_by (end_turn c.args.moment cs c.as_str.result.now _) (turn_of c.args.moment cs false c.args.line.now) c.args.desk.now (g.K.Sink.contents c.args.sink.now) (g.K.Sink.contents c.answer_end.new.sink)
    (end_is c.args.moment cs c.args.line.now _ _ _ _ c.in-End.is c.as_str.ensures refl) (c.in_err-answer_end-in-End.ensures.cut cs stand))

pub returns-in_ok-answer_end-in-End-clause-any_moment : goal.returns-in_ok-answer_end-in-End-clause-any_moment
returns-in_ok-answer_end-in-End-clause-any_moment g c = λ cs stand.
    during_by (end_turn c.args.moment cs c.as_str.result.now _) (turn_of c.args.moment cs false c.args.line.now) c.args.desk.now (g.D.Disk.state c.args.disk.now) (g.D.Disk.state c.answer_end.new.disk)
    (end_is c.args.moment cs c.args.line.now _ _ _ _ c.in-End.is c.as_str.ensures refl) (c.answer_end.ensures.any_moment cs stand)

pub returns-in_err-answer_end-in-End-clause-any_moment : goal.returns-in_err-answer_end-in-End-clause-any_moment
returns-in_err-answer_end-in-End-clause-any_moment g c = λ cs stand.
    during_by (end_turn c.args.moment cs c.as_str.result.now _) (turn_of c.args.moment cs false c.args.line.now) c.args.desk.now (g.D.Disk.state c.args.disk.now) (g.D.Disk.state c.answer_end.new.disk)
    (end_is c.args.moment cs c.args.line.now _ _ _ _ c.in-End.is c.as_str.ensures refl) (c.answer_end.ensures.any_moment cs stand)

pub returns-in_err-answer_end-in-End-clause-cut_leaves : goal.returns-in_err-answer_end-in-End-clause-cut_leaves
returns-in_err-answer_end-in-End-clause-cut_leaves g c = OnErr-from c.from_residual-in_err-answer_end-in-End.result (λ cs stand.
    cut_by (end_turn c.args.moment cs c.as_str.result.now _) (turn_of c.args.moment cs false c.args.line.now) c.args.desk.now (g.K.Sink.contents c.args.sink.now) (g.K.Sink.contents c.answer_end.new.sink) (g.D.Disk.state c.args.disk.now) (g.D.Disk.state c.answer_end.new.disk)
    (end_is c.args.moment cs c.args.line.now _ _ _ _ c.in-End.is c.as_str.ensures refl) (c.in_err-answer_end-in-End.ensures.cut_leaves cs stand))

pub returns-in_ok-answer_finish-in-Finish-clause-answered : goal.returns-in_ok-answer_finish-in-Finish-clause-answered
returns-in_ok-answer_finish-in-Finish-clause-answered g c = λ cs stand.
    does_by (finish_turn _) (turn_of c.args.moment cs false c.args.line.now) c.args.desk.now c.answer_finish.new.desk (g.K.Sink.contents c.args.sink.now) (g.K.Sink.contents c.answer_finish.new.sink)
    (finish_is c.args.moment cs c.args.line.now _ c.in-Finish.is) c.in_ok-answer_finish-in-Finish.ensures.answered

pub returns-in_err-answer_finish-in-Finish-clause-cut : goal.returns-in_err-answer_finish-in-Finish-clause-cut
returns-in_err-answer_finish-in-Finish-clause-cut g c = OnErr-from c.from_residual-in_err-answer_finish-in-Finish.result (λ cs stand.
    cuts_by (finish_turn _) (turn_of c.args.moment cs false c.args.line.now) c.args.desk.now (g.K.Sink.contents c.args.sink.now) (g.K.Sink.contents c.answer_finish.new.sink)
    (finish_is c.args.moment cs c.args.line.now _ c.in-Finish.is) c.in_err-answer_finish-in-Finish.ensures.cut)

pub returns-in_ok-answer_finish-in-Finish-clause-any_moment : goal.returns-in_ok-answer_finish-in-Finish-clause-any_moment
returns-in_ok-answer_finish-in-Finish-clause-any_moment g c = λ cs stand.
    during_by (finish_turn _) (turn_of c.args.moment cs false c.args.line.now) c.args.desk.now (g.D.Disk.state c.args.disk.now) (g.D.Disk.state c.answer_finish.new.disk)
    (finish_is c.args.moment cs c.args.line.now _ c.in-Finish.is) c.answer_finish.ensures.any_moment

pub returns-in_err-answer_finish-in-Finish-clause-any_moment : goal.returns-in_err-answer_finish-in-Finish-clause-any_moment
returns-in_err-answer_finish-in-Finish-clause-any_moment g c = λ cs stand.
    during_by (finish_turn _) (turn_of c.args.moment cs false c.args.line.now) c.args.desk.now (g.D.Disk.state c.args.disk.now) (g.D.Disk.state c.answer_finish.new.disk)
    (finish_is c.args.moment cs c.args.line.now _ c.in-Finish.is) c.answer_finish.ensures.any_moment

pub returns-in_err-answer_finish-in-Finish-clause-cut_leaves : goal.returns-in_err-answer_finish-in-Finish-clause-cut_leaves
returns-in_err-answer_finish-in-Finish-clause-cut_leaves g c = OnErr-from c.from_residual-in_err-answer_finish-in-Finish.result (λ cs stand.
    cut_by (finish_turn _) (turn_of c.args.moment cs false c.args.line.now) c.args.desk.now (g.K.Sink.contents c.args.sink.now) (g.K.Sink.contents c.answer_finish.new.sink) (g.D.Disk.state c.args.disk.now) (g.D.Disk.state c.answer_finish.new.disk)
    (finish_is c.args.moment cs c.args.line.now _ c.in-Finish.is) c.in_err-answer_finish-in-Finish.ensures.cut_leaves)

pub returns-in_ok-answer_claim-in-Claim-clause-answered : goal.returns-in_ok-answer_claim-in-Claim-clause-answered
returns-in_ok-answer_claim-in-Claim-clause-answered g c = λ cs stand.
    does_by (claim_turn _ _) (turn_of c.args.moment cs false c.args.line.now) c.args.desk.now c.answer_claim.new.desk (g.K.Sink.contents c.args.sink.now) (g.K.Sink.contents c.answer_claim.new.sink)
    (claim_is c.args.moment cs c.args.line.now _ _ c.in-Claim.is) c.in_ok-answer_claim-in-Claim.ensures.answered

pub returns-in_err-answer_claim-in-Claim-clause-cut : goal.returns-in_err-answer_claim-in-Claim-clause-cut
returns-in_err-answer_claim-in-Claim-clause-cut g c = OnErr-from c.from_residual-in_err-answer_claim-in-Claim.result (λ cs stand.
    cuts_by (claim_turn _ _) (turn_of c.args.moment cs false c.args.line.now) c.args.desk.now (g.K.Sink.contents c.args.sink.now) (g.K.Sink.contents c.answer_claim.new.sink)
    (claim_is c.args.moment cs c.args.line.now _ _ c.in-Claim.is) c.in_err-answer_claim-in-Claim.ensures.cut)

pub returns-in_err-answer_claim-in-Claim-clause-cut_leaves : goal.returns-in_err-answer_claim-in-Claim-clause-cut_leaves
returns-in_err-answer_claim-in-Claim-clause-cut_leaves g c = OnErr-from c.from_residual-in_err-answer_claim-in-Claim.result (λ cs stand.
    cut_by (claim_turn _ _) (turn_of c.args.moment cs false c.args.line.now) c.args.desk.now (g.K.Sink.contents c.args.sink.now) (g.K.Sink.contents c.answer_claim.new.sink) (g.D.Disk.state c.args.disk.now) (g.D.Disk.state c.args.disk.now)
    (claim_is c.args.moment cs c.args.line.now _ _ c.in-Claim.is)
    (claim_cut c.args.desk.now (g.D.Disk.state c.args.disk.now) c.law_images_show_the_state.ensures _ _ (g.K.Sink.contents c.args.sink.now) (g.K.Sink.contents c.answer_claim.new.sink) c.in_err-answer_claim-in-Claim.ensures.cut))

pub returns-in_ok-answer_claim-in-Claim-clause-any_moment : goal.returns-in_ok-answer_claim-in-Claim-clause-any_moment
returns-in_ok-answer_claim-in-Claim-clause-any_moment g c = λ cs stand.
    quiet c.args.desk.now (g.D.Disk.state c.args.disk.now) c.law_images_show_the_state.ensures (turn_of c.args.moment cs false c.args.line.now)

pub returns-in_err-answer_claim-in-Claim-clause-any_moment : goal.returns-in_err-answer_claim-in-Claim-clause-any_moment
returns-in_err-answer_claim-in-Claim-clause-any_moment g c = λ cs stand.
    quiet c.args.desk.now (g.D.Disk.state c.args.disk.now) c.law_images_show_the_state.ensures (turn_of c.args.moment cs false c.args.line.now)

pub returns-in_ok-answer_list-in-Listing-clause-answered : goal.returns-in_ok-answer_list-in-Listing-clause-answered
returns-in_ok-answer_list-in-Listing-clause-answered g c = λ cs stand.
    does_by (listed) (turn_of c.args.moment cs false c.args.line.now) c.args.desk.now c.args.desk.now (g.K.Sink.contents c.args.sink.now) (g.K.Sink.contents c.answer_list.new.sink)
    (list_is c.args.moment cs c.args.line.now c.in-Listing.is) c.in_ok-answer_list-in-Listing.ensures.answered

pub returns-in_err-answer_list-in-Listing-clause-cut : goal.returns-in_err-answer_list-in-Listing-clause-cut
returns-in_err-answer_list-in-Listing-clause-cut g c = OnErr-from c.from_residual-in_err-answer_list-in-Listing.result (λ cs stand.
    cuts_by (listed) (turn_of c.args.moment cs false c.args.line.now) c.args.desk.now (g.K.Sink.contents c.args.sink.now) (g.K.Sink.contents c.answer_list.new.sink)
    (list_is c.args.moment cs c.args.line.now c.in-Listing.is) c.in_err-answer_list-in-Listing.ensures.cut)

pub returns-in_err-answer_list-in-Listing-clause-cut_leaves : goal.returns-in_err-answer_list-in-Listing-clause-cut_leaves
returns-in_err-answer_list-in-Listing-clause-cut_leaves g c = OnErr-from c.from_residual-in_err-answer_list-in-Listing.result (λ cs stand.
    cut_by (listed) (turn_of c.args.moment cs false c.args.line.now) c.args.desk.now (g.K.Sink.contents c.args.sink.now) (g.K.Sink.contents c.answer_list.new.sink) (g.D.Disk.state c.args.disk.now) (g.D.Disk.state c.args.disk.now)
    (list_is c.args.moment cs c.args.line.now c.in-Listing.is)
    (listing_cut c.args.desk.now (g.D.Disk.state c.args.disk.now) c.law_images_show_the_state.ensures (g.K.Sink.contents c.args.sink.now) (g.K.Sink.contents c.answer_list.new.sink) c.in_err-answer_list-in-Listing.ensures.cut))

pub returns-in_ok-answer_list-in-Listing-clause-any_moment : goal.returns-in_ok-answer_list-in-Listing-clause-any_moment
returns-in_ok-answer_list-in-Listing-clause-any_moment g c = λ cs stand.
    quiet c.args.desk.now (g.D.Disk.state c.args.disk.now) c.law_images_show_the_state.ensures (turn_of c.args.moment cs false c.args.line.now)

pub returns-in_err-answer_list-in-Listing-clause-any_moment : goal.returns-in_err-answer_list-in-Listing-clause-any_moment
returns-in_err-answer_list-in-Listing-clause-any_moment g c = λ cs stand.
    quiet c.args.desk.now (g.D.Disk.state c.args.disk.now) c.law_images_show_the_state.ensures (turn_of c.args.moment cs false c.args.line.now)

pub returns-in-Blank-clause-any_moment : goal.returns-in-Blank-clause-any_moment
returns-in-Blank-clause-any_moment g c = λ cs stand.
    quiet c.args.desk.now (g.D.Disk.state c.args.disk.now) c.law_images_show_the_state.ensures (turn_of c.args.moment cs false c.args.line.now)

pub returns-in-Blank-2-clause-any_moment : goal.returns-in-Blank-2-clause-any_moment
returns-in-Blank-2-clause-any_moment g c = λ cs stand.
    quiet c.args.desk.now (g.D.Disk.state c.args.disk.now) c.law_images_show_the_state.ensures (turn_of c.args.moment cs false c.args.line.now)
