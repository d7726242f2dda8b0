use Rattle.std.proofs.Common.{◌≤◌, List, length, take, refl, sym, subst, arith}
use Rattle.std.specs.List.{All}
use Rattle.std.proofs.lemmas.List.{take_more_set, take_all}
use Rattle.std.proofs.lemmas.List.Elements.{All-push}
use Rattle.std.proofs.lemmas.Option.{slice_get_read}
use Rattle.gl_indexset.specs.SetKept.{SetKept}
use Rattle.gl_indexset.proofs.Rooms.{all_same, one_roomier, same_length}
use Rattle.gl_indexset.proofs.sets.make_room.Goals as goal

pub loop-at-init : goal.loop-at-init
loop-at-init c = record { roomier = all_same c.args.sets.now.items; done = λ k d lt. absurd (omega arith) }

pub returns-in_err-reserve-clause-roomier : goal.returns-in_err-reserve-clause-roomier
returns-in_err-reserve-clause-roomier c =
    let here = slice_get_read c.loop-at.sets.items (length c.loop-at.sets.items) c.loop-at.at c.index_mut.result.now refl (omega (arith, c.len-at-end.ensures, c.args.sets.now.ok.0, same_length c.args.sets.now.items c.loop-at.sets.items c.loop-at.invariant.roomier, c.loop-at-test.true)) c.index_mut.ensures.value in
    one_roomier c.args.sets.now.items c.loop-at.sets.items c.loop-at.at c.index_mut.result.now c.reserve.new.self c.loop-at.invariant.roomier here (record { same = c.reserve.ensures.same; spare = c.reserve.ensures.spare })

pub loop-at-preserved : goal.loop-at-preserved
loop-at-preserved c =
    let lt = slice_get_read c.loop-at.sets.items (length c.loop-at.sets.items) c.loop-at.at c.index_mut.result.now refl (omega (arith, c.len-at-end.ensures, c.args.sets.now.ok.0, same_length c.args.sets.now.items c.loop-at.sets.items c.loop-at.invariant.roomier, c.loop-at-test.true)) c.index_mut.ensures.value in
    record {
      roomier = one_roomier c.args.sets.now.items c.loop-at.sets.items c.loop-at.at c.index_mut.result.now c.reserve.new.self c.loop-at.invariant.roomier lt (record { same = c.reserve.ensures.same; spare = c.reserve.ensures.spare });
      done = subst (λ (l : List SetKept). All (λ (s : SetKept). c.args.additional ≤ s.spare) l)
          (sym (take_more_set c.loop-at.sets.items c.loop-at.at c.reserve.new.self (omega (arith, c.len-at-end.ensures, c.args.sets.now.ok.0, same_length c.args.sets.now.items c.loop-at.sets.items c.loop-at.invariant.roomier, c.loop-at-test.true))))
          (All-push (λ (s : SetKept). c.args.additional ≤ s.spare) (take c.loop-at.at c.loop-at.sets.items) c.reserve.new.self c.loop-at.invariant.done c.in_ok-reserve.ensures.ok);
    }

pub returns-clause-ok : goal.returns-clause-ok
returns-clause-ok c =
    subst (λ (l : List SetKept). All (λ (s : SetKept). c.args.additional ≤ s.spare) l) (take_all c.loop-at.at c.loop-at.sets.items (omega (arith, c.len-at-end.ensures, c.args.sets.now.ok.0, same_length c.args.sets.now.items c.loop-at.sets.items c.loop-at.invariant.roomier, c.loop-at-test.false))) c.loop-at.invariant.done
