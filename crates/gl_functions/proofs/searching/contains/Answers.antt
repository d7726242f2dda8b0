use Rattle.std.proofs.Common.{◌≡◌, ℕ, List, ◌∙◌, subst}
use Rattle.memchr.specs.Find.{FindsNeedle}
use Rattle.gl_functions.proofs.Found.{found}
use Rattle.gl_functions.proofs.searching.contains.Goals as goal

pub returns : goal.returns
returns c =
    let text = c.args.text.now in
    let sought = c.as_bytes-2.result.now in
    c.is_some.ensures
    ∙ found c.args.part.now text c.find.result
    (subst (λ (part : List ℕ). FindsNeedle text part 0 c.find.result) c.as_bytes-2.ensures.value
    (subst (λ (bytes : List ℕ). FindsNeedle bytes sought 0 c.find.result) c.as_bytes.ensures.value c.find.ensures))
