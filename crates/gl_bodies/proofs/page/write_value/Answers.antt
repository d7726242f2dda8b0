use Rattle.std.proofs.Common.{◌≡◌, ℕ, ℤ, List, [], ◌∷◌, OnOk, sym, ◌∙◌, ap, subst, rules, to_z, of_z, w64}
use Rattle.std.proofs.lemmas.Int.{to_z-of_z}
use Rattle.std.specs.Fmt.{signed_decimal}
use Rattle.json.specs.Token.{Token, string, number}
use Rattle.json.specs.Tree.{json_tokens}
use Rattle.serde_json.specs.Written.{outline}
use Rattle.gl_fields.specs.declared.value.Value.{Value}
use Rattle.gl_bodies.specs.Pages.{value_data}
use Rattle.gl_bodies.specs.Writing.{Adds}
use Rattle.gl_bodies.proofs.Members.{adds_one, whole_text}
use Rattle.gl_bodies.proofs.page.write_value.Goals as goal

pub returns-in-Text : goal.returns-in-Text
returns-in-Text c =
    let is : json_tokens (outline (value_data c.args.value.now)) ≡ string c.as_str.result.now ∷ []
    = ap (λ (v : Value). json_tokens (outline (value_data v))) c.in-Text.is ∙ ap (λ (bs : List ℕ). string bs ∷ []) (sym c.as_str.ensures) in
    subst (λ (ts : List Token). OnOk c.string.result (Adds c.args.body.now c.string.new.self ts)) (sym is)
    (adds_one c.string.result c.args.body.now c.string.new.self (string c.as_str.result.now) c.string.ensures)

pub returns-in-Whole : goal.returns-in-Whole
returns-in-Whole c =
    let n : ℤ = to_z w64 (of_z w64 c.in-Whole.number) in
    let back : n ≡ c.in-Whole.number = to_z-of_z w64 c.in-Whole.number (search rules) in
    let is : json_tokens (outline (value_data c.args.value.now)) ≡ number (signed_decimal n) ∷ []
    = ap (λ (v : Value). json_tokens (outline (value_data v))) c.in-Whole.is ∙ ap (λ (bs : List ℕ). number bs ∷ []) (whole_text c.in-Whole.number ∙ ap signed_decimal (sym back)) in
    subst (λ (ts : List Token). OnOk c.i64.result (Adds c.args.body.now c.i64.new.self ts)) (sym is)
    (adds_one c.i64.result c.args.body.now c.i64.new.self (number (signed_decimal n)) c.i64.ensures)
