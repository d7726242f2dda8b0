use Rattle.std.proofs.Common.{◌≡◌, ◌==◌, false, Some, List, get_or, length, refl, sym, ◌∙◌, ap}
use Rattle.gl_node.specs.declared.config.Input.{Input}
use Rattle.gl_node.specs.Arrivals.{sent_to, takes_chunks}
use Rattle.gl_node.proofs.Datagrams.{by_place, goes_through}
use Rattle.gl_node.proofs.Finishes.{on_err}
use Rattle.gl_node.proofs.Tables.{keeps_received, keeps_refused, stood}
use Rattle.gl_node.proofs.node.Node.take_chunk.Goals as goal

pub returns-in_err-chunked-clause-refused : goal.returns-in_err-chunked-clause-refused
returns-in_err-chunked-clause-refused c =
    let known : Input = c.index-as_slice-place.result in
    let is : known ≡ get_or c.args.self.now.config.inputs c.in-Some.place known = c.index-as_slice-place.is ∙ ap (λ (is : List Input). get_or is c.in-Some.place known) c.as_slice.ensures in
    on_err c.from_residual.result _ (λ s keeps.
    keeps_refused c.args.self.now c.args.input.now c.in-Some.place known (sym c.place_of.ensures ∙ c.in-Some.is) is c.index_mut.result.now c.index_mut.ensures.value s keeps
    c.datagram.new.self _ refl c.in_err-chunked.ensures.refused)

pub returns-clause-taken : goal.returns-clause-taken
returns-clause-taken c = λ s keeps peer.
    let node = c.args.self.now in
    let input = c.args.input.now in
    let bytes = c.args.bytes.now in
    let known : Input = c.index-as_slice-place.result in
    let there = sym c.place_of.ensures ∙ c.in-Some.is in
    let is : known ≡ get_or node.config.inputs c.in-Some.place known = c.index-as_slice-place.is ∙ ap (λ (is : List Input). get_or is c.in-Some.place known) c.as_slice.ensures in
    let some : (length bytes == 0) ≡ false = sym c.is_empty.ensures ∙ c.if-is_empty.false in
    let told = c.in_ok-chunked.ensures.answer (sent_to input s.datagrams)
    (stood node input c.in-Some.place known there is c.index_mut.result.now c.index_mut.ensures.value s keeps) in
    goes_through s c.args.moment input peer bytes _ c.in_ok-chunked.chunked c.taken_of.result
    (by_place node s keeps input bytes c.in-Some.place known there is some ∙ ap (λ (i : Input). takes_chunks (Some i.kind)) c.index-as_slice-place.is ∙ sym c.takes_chunks.ensures ∙ c.if-not-takes_chunks.false)
    told.0 c.taken_of.ensures
    (keeps_received node input c.in-Some.place known there is c.index_mut.result.now c.index_mut.ensures.value s keeps c.datagram.new.self _ refl c.args.moment bytes told.1)
