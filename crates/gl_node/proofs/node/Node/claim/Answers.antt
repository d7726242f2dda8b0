use Rattle.std.proofs.Common.{◌≡◌, ℕ, ◌-◌, ◌==◌, length, min, refl, sym, ◌∙◌, ap, arith}
use Rattle.gl_node.specs.declared.answer.Claimed.{Claimed}
use Rattle.gl_node.specs.declared.answer.Claimed.TheVariants as claimed
use Rattle.gl_node.specs.declared.work.Range.{Range}
use Rattle.gl_node.specs.Claims.{ClaimAnswer, Granted}
use Rattle.gl_node.specs.declared.mark.Claim.{Claim}
use Rattle.gl_base.proofs.Counting.{find_at_none}
use Rattle.gl_node.proofs.Keeping.{answered, is_busy, is_nothing, is_granted}
use Rattle.gl_node.proofs.node.Node.claim.Goals as goal

pub returns-in-Some-place_of-clause-answer : goal.returns-in-Some-place_of-clause-answer
returns-in-Some-place_of-clause-answer c = λ s k.
    answered s c.args.worker c.args.limit _ _ _ (is_busy c.args.self.now s c.args.worker c.args.limit k c.in-Some-place_of.at c.index.result.now (sym c.place_of.ensures ∙ c.in-Some-place_of.is) c.index.ensures) refl k

pub returns-then-free-eq0-clause-answer : goal.returns-then-free-eq0-clause-answer
returns-then-free-eq0-clause-answer c = λ s k.
    answered s c.args.worker c.args.limit _ _ _ (is_nothing c.args.self.now s c.args.worker c.args.limit k (sym c.place_of.ensures ∙ c.in_default-place_of.is) (omega (arith, c.args.self.now.entries.ok.0))) refl k

pub grant-requires-clause-alone : goal.grant-requires-clause-alone
grant-requires-clause-alone c = find_at_none (λ (x : Claim). x.worker == c.args.worker) c.args.self.now.held.items (sym c.place_of.ensures ∙ c.in_default-place_of.is)

pub returns-in-Ok-clause-answer : goal.returns-in-Ok-clause-answer
returns-in-Ok-clause-answer c = λ s k.
    let given = c.in-Ok.ensures.granted s k in
    let fewest : min (length c.args.self.now.entries.items - c.args.self.now.next) c.args.limit ≡ c.min.result
    = omega (arith, c.min.ensures, c.from.ensures, c.len.ensures, c.args.self.now.entries.ok.0) in
    answered s c.args.worker c.args.limit (Granted (record { first = c.args.self.now.next; count = c.min.result })) _ _
    (is_granted c.args.self.now s c.args.worker c.args.limit k (sym c.place_of.ensures ∙ c.in_default-place_of.is)
    (λ all. c.if-free-eq0.false (omega (arith, all, c.len.ensures, c.args.self.now.entries.ok.0)))
    ∙ ap (λ (n : ℕ). let a : ClaimAnswer = Granted (record { first = c.args.self.now.next; count = n }) in a) fewest)
    (ap (λ (r : Range). let a : Claimed = claimed.Range r in a) given.0) given.1
