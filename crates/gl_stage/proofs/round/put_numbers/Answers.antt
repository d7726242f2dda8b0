use Rattle.std.proofs.Common.{◌≡◌, ℕ, ◌+◌, ◌<◌, List, [], ◌∷◌, ◌++◌, length, take, get_or, map, fold, sym, ap, ◌∙◌, subst}
use Rattle.std.proofs.lemmas.List.{map_more}
use Rattle.std.proofs.lemmas.List.Sums.{fold-append}
use Rattle.gl_streams.specs.Ids.{with_id}
use Rattle.gl_streams.proofs.Putting.{Rising, rises_with}
use Rattle.gl_rulelang.specs.declared.pipeline.Stage.{Stage}
use Rattle.gl_stage.proofs.round.put_numbers.Goals as goal

put_more : (start : List ℕ) (stages : List Stage) (i : ℕ) (stage : Stage) → i < length stages → stage ≡ get_or stages i stage
    → fold with_id start (map (λ (s : Stage). s.number) (take (i + 1) stages)) ≡ with_id (fold with_id start (map (λ (s : Stage). s.number) (take i stages))) stage.number
put_more start stages i stage within at =
    ap (fold with_id start) (map_more (λ (s : Stage). s.number) stages i stage within ∙ ap (λ (s : Stage). map (λ (t : Stage). t.number) (take i stages) ++ s.number ∷ []) (sym at))
    ∙ fold-append with_id start (map (λ (s : Stage). s.number) (take i stages)) (stage.number ∷ [])

pub loop-stage-preserved : goal.loop-stage-preserved
loop-stage-preserved c =
    let l = c.loop-stage in
    let stage = c.stage-item.result in
    let put : c.put.new.ids.items ≡ with_id l.numbers.items stage.number = c.in_ok-put.ensures.ids ∙ ap (with_id l.numbers.items) c.from.ensures in
    record {
      gathered =
          put
          ∙ ap (λ (ids : List ℕ). with_id ids stage.number) l.invariant.gathered
          ∙ sym (put_more c.args.numbers.now.items c.args.stages.now l.stage-index stage c.loop-stage-test.true c.stage-item.is);
      rises = subst Rising (sym put) (rises_with l.numbers.items stage.number l.invariant.rises);
    }
