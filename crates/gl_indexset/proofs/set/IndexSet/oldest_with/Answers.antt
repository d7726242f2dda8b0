use Rattle.std.proofs.Common.{◌≡◌, ◌+◌, ◌<◌, ◌≤◌, ◌==◌, false, length, sym, ◌∙◌, ap, arith}
use Rattle.std.proofs.lemmas.Bool.Decides.{nat_tests}
use Rattle.std.specs.VecDeque.{deque_len}
use Rattle.gl_indexset.specs.Inside.{set_kept}
use Rattle.gl_indexset.specs.SetKept.{SetKept, oldest_of, stored, is_index_full}
use Rattle.gl_indexset.proofs.Departing.{newest_left}
use Rattle.gl_indexset.proofs.set.IndexSet.oldest_with.Goals as goal

pub returns-else-is_empty : goal.returns-else-is_empty
returns-else-is_empty c =
    let set = set_kept c.self.inside in
    let some : (set.newest.rows == 0) ≡ false = grind (arith, nat_tests) in
    let no_more : 1 < deque_len c.self.inside.closed → ⊥ = λ more. cc (c.in_default.ensures.variant.1 more) in
    let there : (deque_len c.self.inside.closed == 0) ≡ false = sym c.is_empty.ensures ∙ c.if-is_empty.false in
    let one : length set.closed ≡ 1 = grind (arith, nat_tests, no_more, there, c.self.inside.closed.ok) in
    let few : set.rule.keep ≤ length set.closed + 1 = omega (arith, c.len.ensures, c.if-len-self.false, c.self.inside.closed.ok.0) in
    sym (ap (λ (s : SetKept). oldest_of (stored c.args.position c.args.moment s)) (sym c.self.view_is) ∙ newest_left c.args.position c.args.moment set some (ap (λ (s : SetKept). is_index_full s.rule s.newest c.args.moment) c.self.view_is ∙ sym c.is_full.ensures ∙ c.if-not-is_full.false) one few)
