use Rattle.std.proofs.Common.{◌≡◌, ℕ, List, ◌++◌, length, map}
use Rattle.gl_query.specs.Required.{lower_tokens, terms_of}
use Rattle.gl_query.proofs.required.push_tokens.Given as goal

abbrev pub invariant-loop-token : goal.invariant-loop-token
invariant-loop-token l = terms_of l.out.items ++ map {B = List ℕ × List ℕ} (λ t. (l.name, t)) (lower_tokens l.text)
    ≡ terms_of l.initial.out.items ++ map {B = List ℕ × List ℕ} (λ t. (l.name, t)) (lower_tokens l.fn.text)

abbrev pub decreases-loop-token : goal.decreases-loop-token
decreases-loop-token l = length l.text
