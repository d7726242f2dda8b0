use Rattle.std.proofs.Common.{ap, sym, ◌∙◌, List, ℕ, Some}
use Rattle.std.specs.Prelude.{option_map}
use Rattle.std.specs.String.{string_bytes}
use Rattle.gl_lookup.proofs.Pairs.{value_found}
use Rattle.gl_lookup.proofs.table.value_in.Goals as goal

pub returns-in-Some : goal.returns-in-Some
returns-in-Some c =
    ap (λ (text : List ℕ). Some text) c.as_str.ensures.value ∙ ap (option_map string_bytes) c.in-Some.ensures.value
    ∙ sym (value_found c.args.key.now c.args.values.now.entries)

pub returns-in-None : goal.returns-in-None
returns-in-None c = ap (option_map string_bytes) c.in-None.ensures.value ∙ sym (value_found c.args.key.now c.args.values.now.entries)
