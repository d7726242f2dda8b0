use Rattle.std.proofs.Common.{◌≡◌, true, get_or, ◌∙◌, lit<}
use Rattle.std.proofs.lemmas.Str.Pattern.{starts_char}
use Rattle.gl_text.proofs.Reading.{with_plus, parsed}
use Rattle.gl_text.proofs.number.whole_number.Goals as goal

pub returns-then-starts_with : goal.returns-then-starts_with
returns-then-starts_with c =
    let test = starts_char 43 c.args.text.now c.starts_with.result c.starts_with.ensures.cases (lit< tt) (lit< tt) in
    with_plus c.args.text.now (test.0 c.if-starts_with.true)

pub returns : goal.returns
returns c =
    let test = starts_char 43 c.args.text.now c.starts_with.result c.starts_with.ensures.cases (lit< tt) (lit< tt) in
    let apart : get_or c.args.text.now 0 0 ≡ 43 → ⊥ = λ e. (let yes_plus : c.starts_with.result ≡ true = test.1 e in cc) in
    c.ok.ensures.value ∙ parsed c.args.text.now c.parse.result c.parse.ensures.value.0 apart
