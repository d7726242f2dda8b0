use Rattle.std.proofs.Common.{◌≡◌, ◌++◌, ◌∷◌, [], ◌+◌, true, false, List, ℕ, take, refl, sym, ap, ◌∙◌, arith}
use Rattle.std.specs.List.{list_any}
use Rattle.std.specs.Str.{bytes_eq}
use Rattle.std.proofs.lemmas.List.{take_all}
use Rattle.std.proofs.lemmas.Grind.{common_steps}
use Rattle.std.proofs.lemmas.Map.Text.{is_eq-slice_cmp}
use Rattle.gl_syslogtext.specs.declared.parts.Element.{Element}
use Rattle.gl_syslogtext.specs.MessageReading.{are_distinct, ids_of}
use Rattle.gl_syslogtext.proofs.Distinct.{ids_more, seen_more, still_distinct, twice, known, unknown}
use Rattle.gl_syslogtext.proofs.read.are_distinct.Goals as goal

pub loop-element-init : goal.loop-element-init
loop-element-init c = record { distinct = refl; seen = λ q. grind (arith, common_steps) }

pub returns-then-not-branch : goal.returns-then-not-branch
returns-then-not-branch c =
    let l = c.loop-element in
    let es = c.args.elements.now in
    let x = c.as_str.result.now in
    let found : list_any (bytes_eq x) (ids_of (take l.element-index es)) ≡ true = known c.in_ok-insert.field-0 _ _ c.if-not-branch.true c.in_ok-insert.ensures.added (l.invariant.seen c.as_str.result) in
    let more : ids_of (take (l.element-index + 1) es) ≡ ids_of (take l.element-index es) ++ x ∷ [] =
    ids_more es l.element-index c.element-item.result c.loop-element-test.true c.element-item.is ∙ ap (λ (y : List ℕ). ids_of (take l.element-index es) ++ y ∷ []) (sym c.as_str.ensures) in
    sym (twice es l.element-index x more found)

pub loop-element-preserved : goal.loop-element-preserved
loop-element-preserved c =
    let l = c.loop-element in
    let es = c.args.elements.now in
    let x = c.as_str.result.now in
    let none : list_any (bytes_eq x) (ids_of (take l.element-index es)) ≡ false = unknown c.in_ok-insert.field-0 _ _ c.if-not-branch.false c.in_ok-insert.ensures.added (l.invariant.seen c.as_str.result) in
    let more : ids_of (take (l.element-index + 1) es) ≡ ids_of (take l.element-index es) ++ x ∷ [] =
    ids_more es l.element-index c.element-item.result c.loop-element-test.true c.element-item.is ∙ ap (λ (y : List ℕ). ids_of (take l.element-index es) ++ y ∷ []) (sym c.as_str.ensures) in
    record {
      distinct = ap are_distinct more ∙ still_distinct (ids_of (take l.element-index es)) x l.invariant.distinct none;
      seen = λ q. seen_more (ids_of (take l.element-index es)) x q.now _ _ _ (l.invariant.seen q) (c.in_ok-insert.ensures.updates.0 q) (is_eq-slice_cmp x q.now)
          ∙ ap (list_any (bytes_eq q.now)) (sym more);
    }

pub returns : goal.returns
returns c =
    let l = c.loop-element in
    let all : take l.element-index c.args.elements.now ≡ c.args.elements.now = take_all l.element-index c.args.elements.now (omega arith) in
    sym (ap (λ (es : List Element). are_distinct (ids_of es)) (sym all) ∙ l.invariant.distinct)
