use Rattle.std.proofs.Common.{◌≡◌, ◌≤◌, ◌-◌, ◌++◌, List, Option, filter, replicate, is_some, vec_capacity, ◌∙◌, ap, arith}
use Rattle.gl_indexset.specs.declared.row.Row.{Row}
use Rattle.gl_indexset.specs.Shelved.{Shelved, present}
use Rattle.gl_indexset.proofs.Shelving.{compacted, length_new, length_now, present_kept}
use Rattle.gl_indexset.proofs.shelf.Shelf.reserve.Goals as goal

pub invariant_of-self-2 : goal.invariant_of-self-2
invariant_of-self-2 c =
    compacted c.self.inside.slots.items c.self.inside.ranks c.self.inside.len (vec_capacity c.self.inside.slots) c.self.invariant c.compact.new.slots.items c.in_ok-ranks.ranks c.max-wanted.result
    (c.compact.ensures.items ∙ ap (λ (l : List (Option Row)). filter (λ slot. is_some slot) l) c.reserve.ensures.items)
    (omega (arith, c.max-wanted.ensures, c.in_ok-twice.ensures))
    (c.in_ok-ranks.ensures ∙ c.in_ok-ones.ensures)
    (vec_capacity c.compact.new.slots)
    (omega (arith, c.compact.ensures.capacity, c.in_ok-reserve.ensures.ok, c.len-2.ensures, c.max-wanted.ensures, c.len-room.ensures, c.self.invariant.within, c.self.inside.slots.ok.0))

pub returns-clause-rows : goal.returns-clause-rows
returns-clause-rows c =
    ap (λ (l : List (Option Row)). present l) (c.compact.ensures.items ∙ ap (λ (l : List (Option Row)). filter (λ slot. is_some slot) l) c.reserve.ensures.items)
    ∙ present_kept c.self.inside.slots.items ∙ ap (λ (v : Shelved). v.rows) c.self.view_is

pub returns-clause-ok : goal.returns-clause-ok
returns-clause-ok c =
    let items : c.compact.new.slots.items ≡ filter (λ slot. is_some slot) c.self.inside.slots.items = c.compact.ensures.items ∙ ap (λ (l : List (Option Row)). filter (λ slot. is_some slot) l) c.reserve.ensures.items in
    let le : c.self.inside.len ≤ c.max-wanted.result = omega (arith, c.max-wanted.ensures, c.in_ok-twice.ensures) in
    let counts : c.in_ok-ranks.ranks ≡ replicate c.self.inside.len 1 ++ replicate (c.max-wanted.result - c.self.inside.len) 0 = c.in_ok-ranks.ensures ∙ c.in_ok-ones.ensures in
    omega (
      arith,
      length_now c.self.inside.slots.items c.self.inside.ranks c.self.inside.len (vec_capacity c.self.inside.slots) c.self.invariant c.compact.new.slots.items c.in_ok-ranks.ranks c.max-wanted.result items le counts,
      length_new c.self.inside.slots.items c.self.inside.ranks c.self.inside.len (vec_capacity c.self.inside.slots) c.self.invariant c.compact.new.slots.items c.in_ok-ranks.ranks c.max-wanted.result items le counts,
      c.max-wanted.ensures,
      c.in_ok-twice.ensures,
    )

pub returns-clause-spare : goal.returns-clause-spare
returns-clause-spare c =
    let items : c.compact.new.slots.items ≡ filter (λ slot. is_some slot) c.self.inside.slots.items = c.compact.ensures.items ∙ ap (λ (l : List (Option Row)). filter (λ slot. is_some slot) l) c.reserve.ensures.items in
    let le : c.self.inside.len ≤ c.max-wanted.result = omega (arith, c.max-wanted.ensures, c.in_ok-twice.ensures) in
    let counts : c.in_ok-ranks.ranks ≡ replicate c.self.inside.len 1 ++ replicate (c.max-wanted.result - c.self.inside.len) 0 = c.in_ok-ranks.ensures ∙ c.in_ok-ones.ensures in
    omega (
      arith,
      length_now c.self.inside.slots.items c.self.inside.ranks c.self.inside.len (vec_capacity c.self.inside.slots) c.self.invariant c.compact.new.slots.items c.in_ok-ranks.ranks c.max-wanted.result items le counts,
      length_new c.self.inside.slots.items c.self.inside.ranks c.self.inside.len (vec_capacity c.self.inside.slots) c.self.invariant c.compact.new.slots.items c.in_ok-ranks.ranks c.max-wanted.result items le counts,
      c.max-wanted.ensures,
      c.in_ok-twice.ensures,
      c.if-additional-room.false,
      c.len-room.ensures,
      c.len.ensures,
      c.self.inside.slots.ok.0,
      ap (λ (v : Shelved). v.spare) c.self.view_is,
    )
