use Rattle.std.proofs.Common.{◌∙◌}
use Rattle.gl_query.proofs.Taking.{takes, completes, negates, opens, joins, splits, closes, settles, settles_closing}
use Rattle.gl_query.proofs.builder.Builder.take.Goals as goal

pub returns-then-branch : goal.returns-then-branch
returns-then-branch c = λ b s o fit.
    closes _ b c.args.behind c.args.step o c.in-Closes.is (rw c.if-branch.true at (c.in_ok-close-in-Closes.ensures b.here b.outer s.keeps (settles_closing _ b c.args.behind c.args.step o s fit c.in-Closes.is)))

pub returns-in_ok-part-in-Takes : goal.returns-in_ok-part-in-Takes
returns-in_ok-part-in-Takes c = λ b s o fit.
    takes _ b c.args.behind c.args.step o c.in-Takes.want c.in-Takes.is fit (c.in_ok-part-in-Takes.ensures b.here b.outer s.keeps (λ h. s.settled (o ∙ h)))

pub returns-in_ok-add_leaf-in-Completes : goal.returns-in_ok-add_leaf-in-Completes
returns-in_ok-add_leaf-in-Completes c = λ b s o fit.
    completes _ b c.args.behind c.args.step o c.in-Completes.term c.in-Completes.is (c.in_ok-add_leaf-in-Completes.ensures _ b.outer (c.in_ok-part-in-Completes.ensures b.here b.outer s.keeps (λ h. s.settled (o ∙ h))))

pub returns-in_ok-negate-in-Negates : goal.returns-in_ok-negate-in-Negates
returns-in_ok-negate-in-Negates c = λ b s o fit.
    negates _ b c.args.behind c.args.step o c.args.self.now.depth s.keeps.depth_is c.if-self-ge-MAX_NESTING.false c.in-Negates.is (c.in_ok-negate-in-Negates.ensures _ b.outer (c.in_ok-part-in-Negates.ensures b.here b.outer s.keeps (λ h. s.settled (o ∙ h))))

pub returns-in_ok-open-in-Opens : goal.returns-in_ok-open-in-Opens
returns-in_ok-open-in-Opens c = λ b s o fit.
    opens _ b c.args.behind c.args.step o c.args.self.now.depth s.keeps.depth_is c.if-self-ge-MAX_NESTING-2.false c.in-Opens.is (c.in_ok-open-in-Opens.ensures _ b.outer (c.in_ok-part-in-Opens.ensures b.here b.outer s.keeps (λ h. s.settled (o ∙ h))))

pub returns-in-Joins : goal.returns-in-Joins
returns-in-Joins c = λ b s o fit. joins _ b c.args.behind c.args.step o c.in-Joins.is s.keeps

pub returns-in_ok-split-in-Splits : goal.returns-in_ok-split-in-Splits
returns-in_ok-split-in-Splits c = λ b s o fit.
    splits _ b c.args.behind c.args.step o c.in-Splits.is (c.in_ok-split-in-Splits.ensures b.here b.outer s.keeps (settles _ b c.args.behind c.args.step o s fit c.in-Splits.is))
