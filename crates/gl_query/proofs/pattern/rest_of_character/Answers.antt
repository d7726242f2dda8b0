use Rattle.std.proofs.Common.{◌≡◌, length, drop, sym, ap, ◌∙◌, arith}
use Rattle.std.proofs.lemmas.List.{take_rest}
use Rattle.gl_query.specs.Patterns.{rest_of_character}
use Rattle.gl_query.proofs.Covering.{rest_stops, rest_over}
use Rattle.gl_query.proofs.pattern.rest_of_character.Goals as goal

pub returns-then-not-is_continuation-clause-rest : goal.returns-then-not-is_continuation-clause-rest
returns-then-not-is_continuation-clause-rest c =
    take_rest c.args.text.now c.loop-n.n
    ∙ sym (rest_stops c.args.text.now c.loop-n.n c.loop-n-test.true (sym c.is_continuation.ensures ∙ c.if-not-is_continuation.true))
    ∙ c.loop-n.invariant

pub returns-clause-rest : goal.returns-clause-rest
returns-clause-rest c =
    let e : length c.args.text.now ≡ c.loop-n.n = omega arith in
    take_rest c.args.text.now (length c.args.text.now)
    ∙ sym (rest_over c.args.text.now (length c.args.text.now) (omega arith))
    ∙ ap (λ k. rest_of_character (drop k c.args.text.now)) e
    ∙ c.loop-n.invariant
