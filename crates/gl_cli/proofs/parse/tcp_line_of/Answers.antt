use Rattle.std.proofs.Common.{ap, sym, ◌∙◌, ◌≡◌, rules, List, ℕ}
use Rattle.std.specs.Prelude.{Some, true}
use Rattle.gl_cli.specs.Script.{connection_in, is_name, words_of}
use Rattle.gl_cli.specs.declared.line.Line.TheVariants.{Tcp}
use Rattle.gl_cli.proofs.Words.{tcp_by-some, tcp_line-words}
use Rattle.gl_cli.proofs.parse.tcp_line_of.Goals as goal

pub returns-in_ok-payload_of-in-Some-connection_in : goal.returns-in_ok-payload_of-in-Some-connection_in
returns-in_ok-payload_of-in-Some-connection_in c =
    let a : List ℕ = c.args.input.now in
    let n : List ℕ = c.in-Some.number.now in
    let b : List ℕ = c.in-Some.peer.now in
    let p : List ℕ = c.in-Some.payload.now in
    let k : ℕ = c.in-Some-connection_in.number in
    let payload : List ℕ = c.in_ok-payload_of-in-Some-connection_in.field-0 in
    let names_a : is_name 64 a ≡ true = search rules in
    let names_b : is_name 255 b ≡ true = search rules in
    let number : connection_in n ≡ Some k = search rules in
    ap (λ i. Some (Tcp i k c.in_ok-name_text-in-Some-connection_in-2.field-0 payload)) c.in_ok-name_text-in-Some-connection_in.ensures
    ∙ ap (λ i. Some (Tcp a k i payload)) c.in_ok-name_text-in-Some-connection_in-2.ensures
    ∙ ap (λ i. Some (Tcp a k b i)) c.in_ok-payload_of-in-Some-connection_in.ensures
    ∙ tcp_by-some a b p (connection_in n) k names_a names_b number
    ∙ sym (tcp_line-words a (words_of c.args.rest.now) n b p (search rules))
