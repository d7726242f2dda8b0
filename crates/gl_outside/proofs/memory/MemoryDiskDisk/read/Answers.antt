use Rattle.std.proofs.Common.{◌≡◌, ◌+◌, ◌-◌, ◌^◌, min, ◌∙◌, ap, List}
use Rattle.gl_outside.specs.declared.areas.Area.{Area}
use Rattle.gl_outside.specs.Areas.{held}
use Rattle.gl_outside.proofs.Room.{looked}
use Rattle.gl_outside.proofs.memory.MemoryDiskDisk.read.Goals as goal

pub returns-clause-room : goal.returns-clause-room
returns-clause-room c =
    let areas = c.self.inside.areas.items in
    let is : c.room_of-room.result ≡ min (4096 + held areas) (2 ^ 64 - 1) = c.room_of-room.ensures ∙ ap (λ (l : List Area). min (4096 + held l) (2 ^ 64 - 1)) c.deref-2.ensures.value in
    let room = looked areas c.room_of-room.result c.self.inside.calls c.reserve.new.self c.look.new.self c.self.invariant.holds is c.in_ok-reserve.ensures.fits c.in_ok-reserve.ensures.ok c.look.ensures in
    record { for_calls = room.0; for_bytes = room.1; for_areas = room.2 }
