use Rattle.std.proofs.Common.{◌≡◌, ◌+◌, drop, length, unwrap_or, None, Some, IsCharBoundary, refl, sym, ap, ◌∙◌, subst}
use Rattle.std.proofs.lemmas.Str.{IsCharBoundary-start, IsCharBoundary-from_rest}
use Rattle.gl_text.specs.Texts.{first_at}
use Rattle.gl_text.proofs.Finding.{passed, fewer, last, whole_piece}
use Rattle.gl_text.proofs.find.piece.Goals as goal

pub loop-passed-init : goal.loop-passed-init
loop-passed-init c = record { pieces = refl; cut = IsCharBoundary-start c.args.text.now c.utf8.text }

pub returns-in_err-at-clause-value : goal.returns-in_err-at-clause-value
returns-in_err-at-clause-value c =
    let by = c.args.by.now in
    let l = c.loop-passed in
    let here : first_at by (drop l.at c.args.text.now) ≡ None = ap (first_at by) (sym c.range_from.ensures.value) ∙ sym c.in_err-at.ensures.value in
    let none = fewer by c.args.text.now c.args.index l._passed l.at _ c.loop-passed-test.true here l.invariant.pieces in
    whole_piece by c.args.text.now c.args.index _ c.if-index-eq0.false (sym c.is_empty.ensures ∙ c.if-is_empty.false) (c.from_residual.ensures ∙ none)

pub loop-passed-preserved : goal.loop-passed-preserved
loop-passed-preserved c =
    let by = c.args.by.now in
    let text = c.args.text.now in
    let l = c.loop-passed in
    let k = c.in_ok-at.field-0 in
    let here : first_at by (drop l.at text) ≡ Some k = ap (first_at by) (sym c.range_from.ensures.value) ∙ sym c.in_ok-at.ensures.value in
    record {
      pieces = passed by text c.args.index l._passed l.at k _ c.loop-passed-test.true here l.invariant.pieces;
      cut = IsCharBoundary-from_rest text l.at (k + length by) l.invariant.cut.0 (subst (λ t. IsCharBoundary t (k + length by)) c.range_from.ensures.value c.in_ok-at.ensures.ends);
    }

pub returns-clause-value : goal.returns-clause-value
returns-clause-value c =
    let by = c.args.by.now in
    let text = c.args.text.now in
    let l = c.loop-passed in
    let len =
    c.unwrap_or-len.ensures
    ∙ ap (λ o. unwrap_or o (length c.range_from-rest.result.now)) c.first_at-2.ensures.value
    ∙ ap (λ t. unwrap_or (first_at by t) (length t)) c.range_from-rest.ensures.value in
    whole_piece by text c.args.index _ c.if-index-eq0.false (sym c.is_empty.ensures ∙ c.if-is_empty.false)
    (ap (λ n. Some (l.at, l.at + n)) len ∙ last by text c.args.index l._passed l.at _ c.loop-passed-test.false l.invariant.pieces)
