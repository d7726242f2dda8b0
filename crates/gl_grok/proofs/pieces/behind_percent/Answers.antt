use Rattle.std.proofs.Common.{◌∙◌, ap, sym, ◌≡◌, Some, None, Option, lit<, rules, ◌∷◌}
use Rattle.std.proofs.lemmas.Str.Pattern.{strip_prefix_char}
use Rattle.gl_grok.specs.Pieces.{Piece, split, closed, before_rest, behind_percent}
use Rattle.gl_grok.proofs.Cutting.{no_brace, closes_late}
use Rattle.gl_grok.proofs.pieces.behind_percent.Goals as goal

pub returns-in_default : goal.returns-in_default
returns-in_default c = no_brace c.args.text.now (strip_prefix_char 123 c.args.text.now None c.in_default.ensures.cases (lit< tt))

pub returns-then-not-closes_soon : goal.returns-then-not-closes_soon
returns-then-not-closes_soon c =
    let brace : c.args.text.now ≡ 123 ∷ c.in-Some.text.now = strip_prefix_char 123 c.args.text.now (Some c.in-Some.text) c.in-Some.ensures.cases (lit< tt) in
    closes_late c.in-Some.text.now (sym c.closes_soon.ensures ∙ c.if-not-closes_soon.true) ∙ ap behind_percent (sym brace)

pub returns : goal.returns
returns c =
    let brace : c.args.text.now ≡ 123 ∷ c.in-Some.text.now = strip_prefix_char 123 c.args.text.now (Some c.in-Some.text) c.in-Some.ensures.cases (lit< tt) in
    let cut : Some (c.in_ok-inside.inside.now, c.in_ok-inside.after.now) ≡ split 125 c.in-Some.text.now = search rules in
    ap (λ (o : Option Piece). before_rest o c.in_ok-inside.after.now) c.in_ok-reference.ensures ∙ ap closed cut ∙ ap behind_percent (sym brace)
