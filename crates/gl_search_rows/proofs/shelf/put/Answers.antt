use Rattle.std.proofs.Common.{◌≡◌, ◌+◌, ◌≤◌, [], ◌∷◌, List, subst, arith, rules}
use Rattle.gl_indexset.specs.declared.row.Row.{Row}
use Rattle.gl_postings.specs.Indexed.{IsReady, next_in, stored}
use Rattle.gl_search_rows.proofs.Putting.{one_below}
use Rattle.gl_search_rows.proofs.shelf.put.Goals as goal

pub returns-in_err-prepare-clause-stands : goal.returns-in_err-prepare-clause-stands
returns-in_err-prepare-clause-stands c =
    let was = c.requires.stands in
    (was.0, was.1, c.in_err-prepare.ensures.err was.0 was.1 was.2)

pub settle-requires : goal.settle-requires
settle-requires c =
    let was = c.requires.stands in
    (was.0, was.1, subst (λ (more : List Row). IsReady c.prepare.new.self.sets c.prepare.new.self.words was.0 was.1 more) c.as_slice.ensures (c.in_ok-prepare.ensures.ok was.0 was.1 was.2))

pub returns-clause-stands : goal.returns-clause-stands
returns-clause-stands c =
    let was = c.requires.stands in
    let ready = subst (λ (more : List Row). IsReady c.prepare.new.self.sets c.prepare.new.self.words was.0 was.1 more) c.as_slice.ensures (c.in_ok-prepare.ensures.ok was.0 was.1 was.2) in
    (was.0, stored c.push.new.self was.1, c.settle.ensures.stands was.0 was.1 ready)

pub returns-clause-next : goal.returns-clause-next
returns-clause-next c =
    let one : c.push.new.self ≡ c.args.row ∷ [] = search rules in
    let low : next_in c.prepare.new.self ≤ c.args.row.position + 1 = omega (arith, c.in_ok-prepare.ensures.next, c.requires.above) in
    c.settle.ensures.next (c.args.row.position + 1) low (one_below c.push.new.self c.args.row (c.args.row.position + 1) one (omega arith))
