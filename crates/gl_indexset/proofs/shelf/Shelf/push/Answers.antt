use Rattle.std.proofs.Common.{◌-◌, ◌++◌, [], ◌∷◌, List, ℕ, Option, Some, length, vec_capacity, ◌∙◌, ap, arith, length-append, length-set}
use Rattle.gl_indexset.specs.declared.row.Row.{Row}
use Rattle.gl_indexset.specs.Shelved.{Shelved, present}
use Rattle.gl_indexset.proofs.Shelving.{fewer_present, pushed, put_behind, shelf_is, sum_is}
use Rattle.gl_indexset.proofs.shelf.Shelf.push.Goals as goal

pub raise-requires-clause-fits : goal.raise-requires-clause-fits
raise-requires-clause-fits c =
    let slots = c.self.inside.slots.items in
    omega (arith, sum_is slots c.self.inside.ranks c.self.inside.len (vec_capacity c.self.inside.slots) c.self.invariant, fewer_present slots, c.self.inside.slots.ok.0, ap (λ (v : Shelved). v.spare) c.self.view_is, c.requires)

pub overflow_add-self : goal.overflow_add-self
overflow_add-self c =
    let slots = c.self.inside.slots.items in
    omega (arith, c.self.invariant.len, fewer_present slots, c.self.inside.slots.ok.0, ap (λ (v : Shelved). v.spare) c.self.view_is, c.requires)

pub invariant_of-self : goal.invariant_of-self
invariant_of-self c =
    let slots = c.self.inside.slots.items in
    pushed slots c.self.inside.ranks c.self.inside.len (vec_capacity c.self.inside.slots) c.self.invariant c.args.row c.push_reserved.new.self.items c.raise.new.self (vec_capacity c.push_reserved.new.self) c.len-slot.result
    (omega (arith, ap (λ (v : Shelved). v.spare) c.self.view_is, c.requires))
    c.push_reserved.ensures.items (omega (arith, c.len-slot.ensures, c.self.inside.slots.ok.0)) c.raise.ensures c.push_reserved.ensures.capacity

pub returns : goal.returns
returns c =
    let slots = c.self.inside.slots.items in
    let marks = c.self.inside.ranks in
    shelf_is (present c.push_reserved.new.self.items) (c.args.self.now.rows ++ c.args.row ∷ []) (length c.raise.new.self - length c.push_reserved.new.self.items) (c.args.self.now.spare - 1)
    (ap (λ (l : List (Option Row)). present l) c.push_reserved.ensures.items ∙ put_behind slots c.args.row ∙ ap (λ (v : Shelved). v.rows ++ c.args.row ∷ []) c.self.view_is)
    (omega (arith, ap (λ (v : Shelved). v.spare) c.self.view_is, ap (λ (l : List ℕ). length l) c.raise.ensures, length-set marks c.len-slot.result, ap (λ (l : List (Option Row)). length l) c.push_reserved.ensures.items, length-append slots (Some c.args.row ∷ [])))
