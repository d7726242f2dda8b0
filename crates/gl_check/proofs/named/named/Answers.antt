use Rattle.std.proofs.Common.{◌≡◌, ◌<◌, ◌≤◌, ℕ, List, length, get_or, find, sym, subst, ◌∙◌}
use Rattle.gl_check.specs.Functions.{has_name, function_named}
use Rattle.gl_check.specs.Letters.{beginning_with}
use Rattle.gl_check.proofs.Letters.{no_letter, by_first}
use Rattle.gl_check.proofs.named.named.Goals as goal

pub returns-in-empty : goal.returns-in-empty
returns-in-empty c = no_letter c.args.name.now (subst (λ (bs : List ℕ). length bs < 1) c.as_bytes.ensures.value c.in-empty.len_below)

pub returns-in-len1-up : goal.returns-in-len1-up
returns-in-len1-up c =
    let name = c.args.name.now in
    c.named_from.ensures
    ∙ subst (λ (bs : List ℕ). find (has_name name) (beginning_with (get_or bs 0 0)) ≡ function_named name) (sym c.as_bytes.ensures.value)
    (by_first name (subst (λ (bs : List ℕ). 1 ≤ length bs) c.as_bytes.ensures.value c.in-len1-up.len_at_least))
