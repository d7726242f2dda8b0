use Rattle.std.proofs.Common.{◌≡◌, ◌<◌, List, [], ◌∷◌, length, take, get_or, sym, ap, subst, arith}
use Rattle.std.specs.List.{All}
use Rattle.std.proofs.lemmas.List.{take_more, take_all}
use Rattle.std.proofs.lemmas.List.Elements.{All-append, All-cons, All-nil}
use Rattle.gl_extract.specs.declared.parts.ExtractorParts.{ExtractorParts}
use Rattle.gl_grok.specs.Tables.{table_of}
use Rattle.gl_building.specs.Places.{Expands, AllExpand}
use Rattle.gl_process_rows.proofs.compilable.all_expand.Goals as goal

pub loop-extractor-preserved : goal.loop-extractor-preserved
loop-extractor-preserved c =
    let groks = table_of c.args.groks.now in
    let i = c.loop-extractor.extractor-index in
    let lt : i < length c.args.extractors.now = omega (arith, c.loop-extractor-test.true) in
    let x = c.extractor-item.result in
    let expands : Expands groks x.kind = subst (λ (p : ExtractorParts). Expands groks p.kind) c.parts.ensures.value (c.in_ok-expands.ensures c.if-not-branch.false) in
    subst (λ (l : List ExtractorParts). AllExpand groks l) (sym (take_more c.args.extractors.now i x lt))
    (All-append (λ (p : ExtractorParts). Expands groks p.kind) (take i c.args.extractors.now) (get_or c.args.extractors.now i x ∷ []) c.loop-extractor.invariant
    (All-cons (λ (p : ExtractorParts). Expands groks p.kind) (get_or c.args.extractors.now i x) []
    (subst (λ (p : ExtractorParts). Expands groks p.kind) c.extractor-item.is expands) (All-nil (λ (p : ExtractorParts). Expands groks p.kind))))

pub returns : goal.returns
returns c = λ yes. subst (λ (l : List ExtractorParts). AllExpand (table_of c.args.groks.now) l) (take_all c.loop-extractor.extractor-index c.args.extractors.now (omega (arith, c.loop-extractor-test.false))) c.loop-extractor.invariant
