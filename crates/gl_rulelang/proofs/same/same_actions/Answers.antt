use Rattle.std.proofs.Common.{◌≡◌, ◌<◌, true, false, length, sym, ◌∙◌, arith}
use Rattle.gl_rulelang.specs.Tree.{action_of}
use Rattle.gl_rulelang.proofs.Places.{differ_at}
use Rattle.gl_rulelang.proofs.same.same_actions.Goals as goal

pub returns-then-not-same_action : goal.returns-then-not-same_action
returns-then-not-same_action c = (
  λ h. cc h,
  λ e. absurd (differ_at action_of c.args.one.now c.args.other.now c.loop-index.index c.index-one-index.result c.index-other-index.result (omega arith) (omega arith) c.index-one-index.is c.index-other-index.is
      (λ s. let holds : c.same_action.result ≡ true = c.same_action.ensures.1 s in let fails : true ≡ false = sym holds ∙ c.if-not-same_action.true in cc fails) e),
)
