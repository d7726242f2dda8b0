use Rattle.std.proofs.Common.{◌≡◌, ℕ, ◌+◌, ◌<◌, List, [], length, take, drop, get_or, refl, sym, ◌∙◌, ap, arith}
use Rattle.std.proofs.lemmas.List.{take_rest, drop-drop, length-drop}
use Rattle.gl_gatelog.proofs.Located.{at_record}
use Rattle.gl_gatelog.proofs.position.record_range.Goals as goal

pub returns-in_err-n-clause-none : goal.returns-in_err-n-clause-none
returns-in_err-n-clause-none c is rs whole short lt =
    let i = c.loop-i.i in
    let there : i < length rs = omega (arith, lt, c.loop-i-test.true) in
    c.in_err-n.ensures.none refl (get_or rs i []) (drop (i + 1) rs) (short i [] there) (at_record c.args.bytes.now c.loop-i.start i i rs there refl (c.loop-i.invariant.left rs whole short lt))

pub loop-i-preserved : goal.loop-i-preserved
loop-i-preserved c =
    let bytes = c.args.bytes.now in
    let start = c.loop-i.start in
    let i = c.loop-i.i in
    let n = c.in_ok-n.n in
    record {
      within = omega (arith, c.in_ok-n.ensures.within, ap (λ (l : List ℕ). length l) (take_rest bytes start), length-drop start bytes, c.loop-i.invariant.within);
      left = λ rs whole short lt.
          let there : i < length rs = omega (arith, lt, c.loop-i-test.true) in
          sym (drop-drop (4 + n) start bytes) ∙ sym (ap (λ (l : List ℕ). drop (4 + n) l) (take_rest bytes start))
          ∙ (c.in_ok-n.ensures.same (get_or rs i []) (drop (i + 1) rs) (short i [] there) (at_record bytes start i i rs there refl (c.loop-i.invariant.left rs whole short lt))).1;
    }

pub returns-in_err-n-2-clause-none : goal.returns-in_err-n-2-clause-none
returns-in_err-n-2-clause-none c is rs whole short lt =
    let i = c.loop-i.i in
    let there : i < length rs = omega (arith, lt, c.loop-i-test.false, c.loop-i.auto.i-end) in
    c.in_err-n-2.ensures.none refl (get_or rs i []) (drop (i + 1) rs) (short i [] there) (at_record c.args.bytes.now c.loop-i.start i i rs there refl (c.loop-i.invariant.left rs whole short lt))

pub returns-clause-bytes : goal.returns-clause-bytes
returns-clause-bytes c rs whole short lt =
    let bytes = c.args.bytes.now in
    let start = c.loop-i.start in
    let i = c.loop-i.i in
    let j = c.args.index in
    let n = c.in_ok-n-2.n in
    let same : i ≡ j = omega (arith, c.loop-i-test.false, c.loop-i.auto.i-end) in
    let there : i < length rs = omega (arith, lt, same) in
    ap (λ (k : ℕ). take k (drop (start + 4) bytes)) (omega arith)
    ∙ ap (λ (l : List ℕ). take n l) (sym (drop-drop 4 start bytes) ∙ sym (ap (λ (l : List ℕ). drop 4 l) (take_rest bytes start)))
    ∙ (c.in_ok-n-2.ensures.same (get_or rs j []) (drop (j + 1) rs) (short j [] lt) (at_record bytes start i j rs there same (c.loop-i.invariant.left rs whole short lt))).0
