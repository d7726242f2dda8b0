use Rattle.std.proofs.Common.{◌≡◌, ℕ, ◌-◌, ◌≤◌, ◌∷◌, [], ◌++◌, List, true, nat_lt, length, take, drop, sym, ap, ◌∙◌, subst, arith}
use Rattle.std.specs.List.{list_all}
use Rattle.std.proofs.lemmas.List.{take_rest, drop-append-le}
use Rattle.gl_words.specs.Positions.{AreFrom}
use Rattle.gl_words.proofs.Rising.{rising_push}
use Rattle.gl_words.proofs.positions.put_behind.Goals as goal

pub returns-in_ok-push-clause-rising : goal.returns-in_ok-push-clause-rising
returns-in_ok-push-clause-rising c =
    let all = c.deref.result.now in
    let rest : take (length all - c.args.gone) (drop c.args.gone all) ≡ drop c.args.gone c.args.items.now.items = take_rest all c.args.gone ∙ ap (drop c.args.gone) c.deref.ensures.value in
    let above : list_all (λ p. nat_lt p c.args.position) (drop c.args.gone c.args.items.now.items) ≡ true =
    ap (list_all (λ p. nat_lt p c.args.position)) (sym rest) ∙ sym c.is_above.ensures ∙ c.if-is_above.true in
    let within : c.args.gone ≤ length c.args.items.now.items = omega (arith, c.requires.gone, c.deref.ensures.len, ap length c.deref.ensures.value) in
    let new : drop c.args.gone c.push.new.self.items ≡ drop c.args.gone c.args.items.now.items ++ c.args.position ∷ [] =
    ap (drop c.args.gone) c.in_ok-push.ensures.items ∙ drop-append-le c.args.gone c.args.items.now.items (c.args.position ∷ []) within in
    subst (AreFrom 0) (sym new) (rising_push 0 c.args.position (drop c.args.gone c.args.items.now.items) (omega arith) c.requires.rising above)
