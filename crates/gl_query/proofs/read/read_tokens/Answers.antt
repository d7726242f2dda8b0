use Rattle.std.proofs.Common.{◌≡◌, ◌∙◌, sym, ap, refl, max}
use Rattle.gl_query.specs.Building.{is_operator}
use Rattle.std.proofs.lemmas.List.{take_rest}
use Rattle.gl_query.specs.Tokens.{token_at}
use Rattle.gl_query.specs.Refusals.{refused_from}
use Rattle.gl_query.specs.QueryReading.{built_from, units, position_of}
use Rattle.gl_query.proofs.Steps.{space_passes, step_fits, step_built, step_refused, step_refuses, at_end, built_none}
use Rattle.std.proofs.Common.{length, drop}
use Rattle.gl_query.proofs.read.read_tokens.Goals as goal

pub loop-at-preserved-then-text-at-eq32 : goal.loop-at-preserved-then-text-at-eq32
loop-at-preserved-then-text-at-eq32 c =
    let v = c.loop-at.invariant in
    let e = space_passes c.args.text.now c.loop-at.at c.loop-at-test.true c.if-text-at-eq32.true in
    record {
      b = v.b;
      stands = v.stands;
      want = v.want;
      built = ap (λ ts. built_from v.b (units ts)) (sym e) ∙ v.built;
      refused = ap (λ ts. refused_from (position_of v.b) ts (length c.args.text.now)) (sym e) ∙ v.refused;
    }

pub take-requires : goal.take-requires
take-requires c =
    let v = c.loop-at.invariant in (
      v.b,
      v.stands,
      ap is_operator v.want ∙ sym c.is_operator-behind.ensures,
      step_fits c.loop-at.want c.in_ok-token.token c.is_operator-behind.result c.in_ok-step.step c.is_operator-behind.ensures c.in_ok-step.ensures,
    )

pub returns-in-None-clause-refused : goal.returns-in-None-clause-refused
returns-in-None-clause-refused c = λ other.
    let v = c.loop-at.invariant in
    let fits = step_fits c.loop-at.want c.in_ok-token.token c.is_operator-behind.result c.in_ok-step.step c.is_operator-behind.ensures c.in_ok-step.ensures in
    let g = rw c.in-None.is at (c.in_ok-take.ensures v.b v.stands (ap is_operator v.want ∙ sym c.is_operator-behind.ensures) fits) in (
      c.loop-at.at,
      sym v.refused ∙ step_refuses c.args.text.now c.loop-at.at c.in_ok-token.len (max c.in_ok-token.len 1) (length c.args.text.now) c.in_ok-token.token v.b c.in_ok-step.step c.loop-at.want c.loop-at-test.true c.if-text-at-eq32.false (c.in_ok-token.ensures.token ∙ ap token_at (take_rest c.args.text.now c.loop-at.at)) refl c.in_ok-step.ensures v.want g,
      c.bad_query.ensures,
    )

pub loop-at-preserved : goal.loop-at-preserved
loop-at-preserved c =
    let v = c.loop-at.invariant in
    let fits = step_fits c.loop-at.want c.in_ok-token.token c.is_operator-behind.result c.in_ok-step.step c.is_operator-behind.ensures c.in_ok-step.ensures in
    let g = rw c.in-Some.is at (c.in_ok-take.ensures v.b v.stands (ap is_operator v.want ∙ sym c.is_operator-behind.ensures) fits) in
    let e : (c.in_ok-token.token, c.in_ok-token.len) ≡ token_at (drop c.loop-at.at c.args.text.now) = c.in_ok-token.ensures.token ∙ ap token_at (take_rest c.args.text.now c.loop-at.at) in
    record {
      b = g.0;
      stands = g.3;
      want = g.2;
      built =
          step_built c.args.text.now c.loop-at.at c.in_ok-token.len c.max-at.result 0 c.in_ok-token.token v.b c.in_ok-step.step c.loop-at.want c.loop-at-test.true c.if-text-at-eq32.false e c.max-at.ensures c.in_ok-step.ensures v.want g.0 g.1
          ∙ v.built;
      refused =
          step_refused c.args.text.now c.loop-at.at c.in_ok-token.len c.max-at.result (length c.args.text.now) c.in_ok-token.token v.b c.in_ok-step.step c.loop-at.want c.loop-at-test.true c.if-text-at-eq32.false e c.max-at.ensures c.in_ok-step.ensures v.want g.0 g.1
          ∙ v.refused;
    }

pub returns-clause-taken : goal.returns-clause-taken
returns-clause-taken c =
    let v = c.loop-at.invariant in
    let e = at_end c.args.text.now c.loop-at.at c.loop-at-test.false in (
      v.b,
      sym v.built ∙ ap (λ ts. built_from v.b (units ts)) e ∙ built_none v.b,
      v.stands,
      v.want,
      sym v.refused ∙ ap (λ ts. refused_from (position_of v.b) ts (length c.args.text.now)) e,
    )
