use Rattle.std.proofs.Common.{◌≡◌, ◌<◌, None, length, slice_index_or, sym, ap, ◌∙◌, arith, inl, inr}
use Rattle.std.specs.Prelude.{slice_set}
use Rattle.std.proofs.lemmas.Bool.{cases_lt}
use Rattle.std.proofs.lemmas.List.{length-set, get_or-set_same, get_or-set_other}
use Rattle.gl_patterns.specs.Cells.{span_in_cells}
use Rattle.gl_patterns.proofs.spans.fill_spans.Goals as goal

pub groups-preserved : goal.groups-preserved
groups-preserved c =
    let spans = c.groups.spans in
    let group = c.groups.group in
    let inside : group < length spans = omega (arith, c.groups.invariant.0, c.groups-test.true) in (
      length-set spans group c.span_of.result ∙ c.groups.invariant.0,
      λ n low. elim (cases_lt n group) [
        | inl earlier ↦ get_or-set_other spans group n c.span_of.result None (omega arith) ∙ c.groups.invariant.1 n earlier
        | inr here ↦
            let same : group ≡ n = omega arith in
            ap (λ k. slice_index_or (slice_set spans group c.span_of.result) k None) (sym same)
            ∙ get_or-set_same spans group c.span_of.result None inside ∙ c.span_of.ensures
            ∙ ap (span_in_cells c.args.whole c.args.cells.now) same
      ],
    )

pub returns-clause-each : goal.returns-clause-each
returns-clause-each c n low = c.groups.invariant.1 n (omega (arith, low, c.groups.invariant.0))
