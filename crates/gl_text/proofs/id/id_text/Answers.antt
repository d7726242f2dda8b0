use Rattle.std.proofs.Common.{◌≡◌, ◌∙◌, ◌^◌, ◌-◌, ap, subst, rules, List, ℕ, []}
use Rattle.std.specs.Prelude.{Option, Some, IfSome, false}
use Rattle.std.specs.Option.{option_map}
use Rattle.std.specs.String.{string_bytes}
use Rattle.std.specs.Fmt.{digits, padded_integral, format_spec, styled_digits_output}
use Rattle.gl_text.specs.Ids.{id_text}
use Rattle.gl_text.proofs.Ids.{padded_id}
use Rattle.gl_text.proofs.id.id_text.Goals as goal

pub returns : goal.returns
returns c =
    let styled : styled_digits_output c.in_radix.result c.laid_out.result
    ≡ Some (padded_integral (format_spec 32 0 4 24 (2 ^ 64 - 1)) false [] (digits 16 false c.args.id))
    = ap (λ s. styled_digits_output c.in_radix.result s) c.laid_out.ensures
    ∙ ap (λ o. option_map (padded_integral (format_spec 32 0 4 24 (2 ^ 64 - 1)) false []) o) c.in_radix.ensures in
    let printed : string_bytes c.in_ok-text.text ≡ id_text c.args.id
    = subst (λ (o : Option (List ℕ)). IfSome o (λ bs. string_bytes c.in_ok-text.text ≡ bs)) styled c.in_ok-text.ensures.ok
    ∙ padded_id (digits 16 false c.args.id) in
    search rules
