use Rattle.std.proofs.Common.{◌≡◌, ◌≤◌, ◌<◌, ◌+◌, length, sym, ap, subst, arith}
use Rattle.std.specs.Prelude.{IfSome}
use Rattle.gl_turn.specs.Order.{IsBefore}
use Rattle.gl_turn.specs.Rule.{Ends}
use Rattle.gl_turn.proofs.Ending.{closes, end_after, end_counts, end_alone}
use Rattle.gl_turn.proofs.turn.Turn.close.Goals as goal

pub returns-then-drawn-passed-clause-exactly : goal.returns-then-drawn-passed-clause-exactly
returns-then-drawn-passed-clause-exactly g c =
    let v = c.args.seat.me.0 in let one = ap (λ m. m.0.counts) c.requires.1 in
    let e = (closes g.T.Shared.shows _ _ c.args.self.journalled c.args.self.committed c.args.seat.id v _ _ _ _ c.take-value.result (omega (arith, one)) c.requires.0.1 c.requires.0.2 c.close_with-closed.ensures.values.2 c.word-drawn.ensures c.word-passed.ensures c.take-value.ensures.value).0 c.if-drawn-passed.true in
    subst (Ends g.T.Shared.shows c.args.self.journalled c.args.self.committed c.args.seat.id v) (sym e.1) e.2

pub returns-then-drawn-passed-clause-later : goal.returns-then-drawn-passed-clause-later
returns-then-drawn-passed-clause-later g c =
    let v = c.args.seat.me.0 in let one = ap (λ m. m.0.counts) c.requires.1 in
    let e = (closes g.T.Shared.shows _ _ c.args.self.journalled c.args.self.committed c.args.seat.id v _ _ _ _ c.take-value.result (omega (arith, one)) c.requires.0.1 c.requires.0.2 c.close_with-closed.ensures.values.2 c.word-drawn.ensures c.word-passed.ensures c.take-value.ensures.value).0 c.if-drawn-passed.true in
    subst (λ r. IfSome r (λ x. IsBefore v.seen (g.T.Shared.shows x))) (sym e.1) (end_after g.T.Shared.shows _ _ c.args.seat.id v e.0 (omega (arith, one)) e.2)

pub returns-then-drawn-passed-clause-least : goal.returns-then-drawn-passed-clause-least
returns-then-drawn-passed-clause-least g c =
    let v = c.args.seat.me.0 in let one = ap (λ m. m.0.counts) c.requires.1 in
    let e = (closes g.T.Shared.shows _ _ c.args.self.journalled c.args.self.committed c.args.seat.id v _ _ _ _ c.take-value.result (omega (arith, one)) c.requires.0.1 c.requires.0.2 c.close_with-closed.ensures.values.2 c.word-drawn.ensures c.word-passed.ensures c.take-value.ensures.value).0 c.if-drawn-passed.true in
    let n = end_counts g.T.Shared.shows _ _ c.args.seat.id v e.0 (omega (arith, one)) e.2 in
    let j = c.requires.0.1 in let k = c.requires.0.2 in
    subst (λ r. IfSome r (λ x. (c.args.self.journalled + v.own.appends ≤ length (g.T.Shared.shows x).journal) × (c.args.self.committed + v.own.commits ≤ (g.T.Shared.shows x).commits))) (sym e.1) (omega (arith, n.0, j), omega (arith, n.1, k))

pub returns-then-drawn-passed-clause-alone : goal.returns-then-drawn-passed-clause-alone
returns-then-drawn-passed-clause-alone g c =
    let v = c.args.seat.me.0 in let one = ap (λ m. m.0.counts) c.requires.1 in
    let e = (closes g.T.Shared.shows _ _ c.args.self.journalled c.args.self.committed c.args.seat.id v _ _ _ _ c.take-value.result (omega (arith, one)) c.requires.0.1 c.requires.0.2 c.close_with-closed.ensures.values.2 c.word-drawn.ensures c.word-passed.ensures c.take-value.ensures.value).0 c.if-drawn-passed.true in
    let j = c.requires.0.1 in let k = c.requires.0.2 in
    subst (λ r. IfSome r (λ x. 0 < v.alone → (c.args.self.journalled + v.own.appends ≡ length (g.T.Shared.shows x).journal) × (c.args.self.committed + v.own.commits ≡ (g.T.Shared.shows x).commits))) (sym e.1)
    (λ alone. let n = end_alone g.T.Shared.shows _ _ c.args.seat.id v e.0 (omega (arith, one)) alone e.2 in (omega (arith, n.0, j), omega (arith, n.1, k)))

pub returns-else-drawn-passed-clause-exactly : goal.returns-else-drawn-passed-clause-exactly
returns-else-drawn-passed-clause-exactly g c =
    let v = c.args.seat.me.0 in let one = ap (λ m. m.0.counts) c.requires.1 in
    (closes g.T.Shared.shows _ _ c.args.self.journalled c.args.self.committed c.args.seat.id v _ _ _ _ c.take-value.result (omega (arith, one)) c.requires.0.1 c.requires.0.2 c.close_with-closed.ensures.values.2 c.word-drawn.ensures c.word-passed.ensures c.take-value.ensures.value).1 c.if-drawn-passed.false
