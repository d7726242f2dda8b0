use Rattle.std.proofs.Common.{◌≤◌, length, refl, sym, ◌∙◌, ap, subst, arith}
use Rattle.gl_indexset.specs.Inside.{kept_of}
use Rattle.gl_indexset.specs.SetKept.{SetKept}
use Rattle.gl_indexset.specs.Kept.{Kept, StandsFor, rules_of, spare_of}
use Rattle.gl_indexset.proofs.Rooms.{roomy_sound, roomy_rules, roomy_spare, roomy_stands}
use Rattle.gl_indexset.proofs.Standing.{each_of}
use Rattle.gl_indexset.proofs.Storing.{least_most}
use Rattle.gl_indexset.proofs.sets.IndexSets.reserve.Goals as goal

pub invariant_of-self : goal.invariant_of-self
invariant_of-self c = roomy_sound (kept_of c.self.inside) (record { sets = c.make_room.new.sets.items; rows = c.self.inside.rows.rows; next = c.self.inside.next; room = c.self.inside.rows.spare }) c.make_room.ensures.roomier refl refl c.self.invariant

pub returns-in_err-make_room-clause-stands : goal.returns-in_err-make_room-clause-stands
returns-in_err-make_room-clause-stands c = λ all stands. roomy_stands (kept_of c.self.inside) (record { sets = c.make_room.new.sets.items; rows = c.self.inside.rows.rows; next = c.self.inside.next; room = c.self.inside.rows.spare }) c.make_room.ensures.roomier refl refl all (subst (λ (v : Kept). StandsFor v all) (sym c.self.view_is) stands)

pub returns-in_err-make_room-clause-rules : goal.returns-in_err-make_room-clause-rules
returns-in_err-make_room-clause-rules c = roomy_rules (kept_of c.self.inside) (record { sets = c.make_room.new.sets.items; rows = c.self.inside.rows.rows; next = c.self.inside.next; room = c.self.inside.rows.spare }) c.make_room.ensures.roomier refl refl ∙ ap (λ (v : Kept). rules_of v) c.self.view_is

pub returns-in_err-make_room-clause-spare : goal.returns-in_err-make_room-clause-spare
returns-in_err-make_room-clause-spare c = subst (λ (v : Kept). spare_of v ≤ spare_of (record { sets = c.make_room.new.sets.items; rows = c.self.inside.rows.rows; next = c.self.inside.next; room = c.self.inside.rows.spare })) c.self.view_is (roomy_spare (kept_of c.self.inside) (record { sets = c.make_room.new.sets.items; rows = c.self.inside.rows.rows; next = c.self.inside.next; room = c.self.inside.rows.spare }) c.make_room.ensures.roomier refl refl (omega arith))

pub invariant_of-self-2 : goal.invariant_of-self-2
invariant_of-self-2 c = roomy_sound (kept_of c.self.inside) (record { sets = c.make_room.new.sets.items; rows = c.reserve.new.self.rows; next = c.self.inside.next; room = c.reserve.new.self.spare }) c.make_room.ensures.roomier c.reserve.ensures.rows refl c.self.invariant

pub returns-clause-stands : goal.returns-clause-stands
returns-clause-stands c = λ all stands. roomy_stands (kept_of c.self.inside) (record { sets = c.make_room.new.sets.items; rows = c.reserve.new.self.rows; next = c.self.inside.next; room = c.reserve.new.self.spare }) c.make_room.ensures.roomier c.reserve.ensures.rows refl all (subst (λ (v : Kept). StandsFor v all) (sym c.self.view_is) stands)

pub returns-clause-rules : goal.returns-clause-rules
returns-clause-rules c = roomy_rules (kept_of c.self.inside) (record { sets = c.make_room.new.sets.items; rows = c.reserve.new.self.rows; next = c.self.inside.next; room = c.reserve.new.self.spare }) c.make_room.ensures.roomier c.reserve.ensures.rows refl ∙ ap (λ (v : Kept). rules_of v) c.self.view_is

pub returns-clause-spare : goal.returns-clause-spare
returns-clause-spare c = subst (λ (v : Kept). spare_of v ≤ spare_of (record { sets = c.make_room.new.sets.items; rows = c.reserve.new.self.rows; next = c.self.inside.next; room = c.reserve.new.self.spare })) c.self.view_is (roomy_spare (kept_of c.self.inside) (record { sets = c.make_room.new.sets.items; rows = c.reserve.new.self.rows; next = c.self.inside.next; room = c.reserve.new.self.spare }) c.make_room.ensures.roomier c.reserve.ensures.rows refl c.reserve.ensures.spare)

pub returns-clause-ok : goal.returns-clause-ok
returns-clause-ok c = least_most (length c.args.rows.now) c.reserve.new.self.spare c.make_room.new.sets.items (omega (arith, c.in_ok-reserve.ensures.ok))
    (each_of (λ (s : SetKept). length c.args.rows.now ≤ s.spare) c.make_room.new.sets.items (λ k d lt. omega (arith, c.in_ok-make_room.ensures.ok k d lt)))

pub invariant_of-self-in_err-reserve : goal.invariant_of-self-in_err-reserve
invariant_of-self-in_err-reserve c = roomy_sound (kept_of c.self.inside) (record { sets = c.make_room.new.sets.items; rows = c.reserve.new.self.rows; next = c.self.inside.next; room = c.reserve.new.self.spare }) c.make_room.ensures.roomier c.reserve.ensures.rows refl c.self.invariant

pub returns-in_err-reserve-clause-stands : goal.returns-in_err-reserve-clause-stands
returns-in_err-reserve-clause-stands c = λ all stands. roomy_stands (kept_of c.self.inside) (record { sets = c.make_room.new.sets.items; rows = c.reserve.new.self.rows; next = c.self.inside.next; room = c.reserve.new.self.spare }) c.make_room.ensures.roomier c.reserve.ensures.rows refl all (subst (λ (v : Kept). StandsFor v all) (sym c.self.view_is) stands)

pub returns-in_err-reserve-clause-rules : goal.returns-in_err-reserve-clause-rules
returns-in_err-reserve-clause-rules c = roomy_rules (kept_of c.self.inside) (record { sets = c.make_room.new.sets.items; rows = c.reserve.new.self.rows; next = c.self.inside.next; room = c.reserve.new.self.spare }) c.make_room.ensures.roomier c.reserve.ensures.rows refl ∙ ap (λ (v : Kept). rules_of v) c.self.view_is

pub returns-in_err-reserve-clause-spare : goal.returns-in_err-reserve-clause-spare
returns-in_err-reserve-clause-spare c = subst (λ (v : Kept). spare_of v ≤ spare_of (record { sets = c.make_room.new.sets.items; rows = c.reserve.new.self.rows; next = c.self.inside.next; room = c.reserve.new.self.spare })) c.self.view_is (roomy_spare (kept_of c.self.inside) (record { sets = c.make_room.new.sets.items; rows = c.reserve.new.self.rows; next = c.self.inside.next; room = c.reserve.new.self.spare }) c.make_room.ensures.roomier c.reserve.ensures.rows refl c.reserve.ensures.spare)
