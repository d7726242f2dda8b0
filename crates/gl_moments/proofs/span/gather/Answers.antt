use Rattle.std.proofs.Common.{◌≡◌, [], List, ap, ◌∙◌, arith, rules}
use Rattle.std.specs.List.{count_by}
use Rattle.gl_indexset.specs.declared.row.Row.{Row}
use Rattle.gl_moments.specs.Inside.{kept_at}
use Rattle.gl_words.specs.Candidates.{positions}
use Rattle.gl_moments.proofs.Walking.{all_passed, gathered, nothing_gathered}
use Rattle.gl_moments.proofs.span.gather.Goals as goal

pub loop-minute-init : goal.loop-minute-init
loop-minute-init c =
    let empty : c.new-found.result.items ≡ [] = search rules in
    (omega arith, λ rows test h. ap (count_by test) empty ∙ nothing_gathered c.args.from c.args.to rows test)

pub loop-minute-smaller : goal.loop-minute-smaller
loop-minute-smaller c = omega (arith, c.in-Some.ensures.first.above, c.in-Some.ensures.begins)

pub loop-minute-preserved : goal.loop-minute-preserved
loop-minute-preserved c = (
  omega (arith, c.loop-minute.invariant.0, c.in-Some.ensures.first.above),
  λ rows test h.
      ap (count_by test) c.in_ok-extend_from_slice.ensures.items
      ∙ gathered (kept_at c.args.minutes.now) c.args.from c.args.to c.loop-minute.low c.in-Some.minute c.loop-minute.found.items c.in-Some.positions.now rows test h c.loop-minute.invariant.0 c.in-Some.ensures
      (c.loop-minute.invariant.1 rows test h),
)

pub returns : goal.returns
returns c = λ rows test h.
    c.loop-minute.invariant.1 rows test h
    ∙ ap (λ (some : List Row). count_by test (positions some)) (all_passed (kept_at c.args.minutes.now) c.args.from c.args.to c.loop-minute.low rows h c.in_default.ensures)
