use Rattle.std.proofs.Common.{◌-◌, List, ℕ, None, length, set, get_or, vec_capacity, ◌∙◌, ap, arith, length-set}
use Rattle.std.specs.List.{remove}
use Rattle.gl_indexset.specs.Shelved.{Shelved, present}
use Rattle.gl_indexset.proofs.Shelving.{removed, rows_left, shelf_is, slot_within, sum_is}
use Rattle.gl_indexset.proofs.shelf.Shelf.remove.Goals as goal

pub find-slot-requires : goal.find-slot-requires
find-slot-requires c =
    omega (arith, sum_is c.self.inside.slots.items c.self.inside.ranks c.self.inside.len (vec_capacity c.self.inside.slots) c.self.invariant, ap (λ (v : Shelved). length v.rows) c.self.view_is, c.requires)

pub index_mut-requires : goal.index_mut-requires
index_mut-requires c =
    let slots = c.self.inside.slots.items in
    omega (arith, c.self.inside.slots.ok.0, slot_within slots c.self.inside.ranks (length c.self.inside.ranks - length slots) c.find-slot.result c.args.n c.self.invariant.counts c.find-slot.ensures.before c.find-slot.ensures.there)

pub invariant_of-self : goal.invariant_of-self
invariant_of-self c =
    removed c.self.inside.slots.items c.self.inside.ranks c.self.inside.len (vec_capacity c.self.inside.slots) c.self.invariant c.find-slot.result c.args.n c.lower.new.self c.find-slot.ensures.before c.find-slot.ensures.there c.lower.ensures

pub returns : goal.returns
returns c =
    let slots = c.self.inside.slots.items in
    let marks = c.self.inside.ranks in
    let slot = c.find-slot.result in
    shelf_is (present (set slots slot None)) (remove c.args.self.now.rows c.args.n) (length c.lower.new.self - length (set slots slot None)) c.args.self.now.spare
    (rows_left slots marks (length marks - length slots) slot c.args.n c.self.invariant.counts c.find-slot.ensures.before c.find-slot.ensures.there ∙ ap (λ (v : Shelved). remove v.rows c.args.n) c.self.view_is)
    (omega (arith, ap (λ (v : Shelved). v.spare) c.self.view_is, ap (λ (l : List ℕ). length l) c.lower.ensures, length-set marks slot (get_or marks slot 0 - 1), length-set slots slot None))
