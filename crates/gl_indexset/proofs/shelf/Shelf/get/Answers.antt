use Rattle.std.proofs.Common.{◌-◌, length, vec_capacity, sym, ◌∙◌, ap, arith}
use Rattle.std.specs.List.{slice_get}
use Rattle.gl_indexset.specs.Shelved.{Shelved}
use Rattle.gl_indexset.proofs.Shelving.{not_none, row_there, slot_within, sum_is}
use Rattle.gl_indexset.proofs.shelf.Shelf.get.Goals as goal

pub find-requires : goal.find-requires
find-requires c =
    omega (arith, sum_is c.self.inside.slots.items c.self.inside.ranks c.self.inside.len (vec_capacity c.self.inside.slots) c.self.invariant, ap (λ (v : Shelved). length v.rows) c.self.view_is, c.requires)

pub index-requires : goal.index-requires
index-requires c =
    let slots = c.self.inside.slots.items in
    omega (arith, c.self.inside.slots.ok.0, slot_within slots c.self.inside.ranks (length c.self.inside.ranks - length slots) c.find.result c.args.n c.self.invariant.counts c.find.ensures.before c.find.ensures.there)

pub unreachable-requires : goal.unreachable-requires
unreachable-requires c =
    let slots = c.self.inside.slots.items in
    not_none slots c.self.inside.ranks (length c.self.inside.ranks - length slots) c.find.result c.args.n c.self.invariant.counts c.find.ensures.before c.find.ensures.there c.index.result.now c.index.ensures c.in-None.is

pub returns : goal.returns
returns c =
    let slots = c.self.inside.slots.items in
    ap (λ (v : Shelved). slice_get v.rows c.args.n) (sym c.self.view_is)
    ∙ row_there slots c.self.inside.ranks (length c.self.inside.ranks - length slots) c.find.result c.args.n c.self.invariant.counts c.find.ensures.before c.find.ensures.there c.index.result.now c.in-Some.row c.index.ensures c.in-Some.is
