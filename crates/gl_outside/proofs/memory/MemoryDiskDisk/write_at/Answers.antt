use Rattle.std.proofs.Common.{◌≡◌, ◌+◌, ◌-◌, ◌^◌, ◌≤◌, ℕ, min, List, ◌∷◌, true, length, sym, ◌∙◌, ap, subst}
use Rattle.gl_outside.specs.declared.areas.Area.{Area}
use Rattle.gl_outside.specs.Areas.{held}
use Rattle.gl_outside.specs.Disk.{InArea, Torn}
use Rattle.gl_outside.specs.Events.{Event, Wrote, content, written}
use Rattle.gl_outside.specs.RecordView.{RecordView}
use Rattle.gl_outside.specs.Views.{DiskView}
use Rattle.gl_outside.proofs.Room.{lengthened}
use Rattle.gl_outside.proofs.memory.MemoryDiskDisk.write_at.Goals as goal

written_on : (area at : ℕ) (bytes : List ℕ) (before kept now : List Event) → kept ≡ before → now ≡ Wrote area at bytes true ∷ kept → InArea area (Torn at (length bytes)) (content before) (content now)
written_on area at bytes before kept now same is = subst (λ (l : List Event). InArea area (Torn at (length bytes)) (content before) (content l)) (sym (is ∙ ap (λ (l : List Event). Wrote area at bytes true ∷ l) same)) (written area at bytes before)

pub returns-then-bytes-len-clause-in_part : goal.returns-then-bytes-len-clause-in_part
returns-then-bytes-len-clause-in_part c =
    written_on c.args.area c.args.at c.args.bytes.now c.args.self.now.events c.reserve.new.self.events c.write-then-bytes-len.new.self.events
    (ap (λ (v : RecordView). v.events) c.in_ok-reserve.ensures.ok ∙ ap (λ (d : DiskView). d.events) c.self.view_is)
    (ap (λ (v : RecordView). v.events) c.write-then-bytes-len.ensures)

pub returns-then-bytes-len-clause-room : goal.returns-then-bytes-len-clause-room
returns-then-bytes-len-clause-room c past =
    let more : ℕ → ℕ = λ n. min (min (n + length c.args.bytes.now) (2 ^ 64 - 1) + length c.args.bytes.now) (2 ^ 64 - 1) in
    let is : c.saturating_add-room.result ≡ more (min (4096 + held c.self.inside.areas.items) (2 ^ 64 - 1)) =
    c.saturating_add-room.ensures ∙ ap (λ (n : ℕ). min (n + length c.args.bytes.now) (2 ^ 64 - 1)) c.saturating_add.ensures ∙ ap more (c.room_of.ensures ∙ ap (λ (l : List Area). min (4096 + held l) (2 ^ 64 - 1)) c.deref-then-bytes-len.ensures.value) in
    let begins : c.args.at ≤ length (content c.self.inside.calls.events c.args.area) = subst (λ (d : DiskView). c.args.at ≤ length (content d.events c.args.area)) (sym c.self.view_is) c.requires in
    let room = lengthened c.self.inside.areas.items c.saturating_add-room.result c.args.area c.args.at c.args.bytes.now c.self.inside.calls c.reserve.new.self c.write-then-bytes-len.new.self c.self.invariant.holds begins is c.in_ok-reserve.ensures.fits c.in_ok-reserve.ensures.ok c.write-then-bytes-len.ensures in
    record { for_calls = room.0; for_bytes = room.1; for_areas = room.2 }

pub returns-clause-in_part : goal.returns-clause-in_part
returns-clause-in_part c =
    written_on c.args.area c.args.at c.args.bytes.now c.args.self.now.events c.self.inside.calls.events c.write-2.new.self.events
    (ap (λ (d : DiskView). d.events) c.self.view_is)
    (ap (λ (v : RecordView). v.events) c.write-2.ensures)
