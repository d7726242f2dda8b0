use Rattle.std.proofs.Common.{◌≤◌, true, false, Ok, ap, refl, sym, ◌∙◌, subst, arith}
use Rattle.gl_node.specs.declared.answer.Finished.TheVariants as finished
use Rattle.gl_node.specs.declared.mark.Claim.{Claim}
use Rattle.gl_node.specs.Claims.{finish_events}
use Rattle.gl_node.specs.Node.{Store, StoreOn}
use Rattle.gl_node.specs.State.{CameIn, happened}
use Rattle.gl_node.proofs.Keeping.{range_by_fields}
use Rattle.gl_node.proofs.Ready.{some_happened}
use Rattle.gl_node.proofs.Finishes.{on_err_so, if_ok_so, no_claim, no_stale, holds, at_there, held_within, within_entries, fresh_is, is_fresh, its_claim, not_stale, waits_or_not, it_waits, it_is_ready}
use Rattle.gl_node.proofs.Moments.{nothing_yet, came_first}
use Rattle.gl_node.proofs.node.Node.finish.Goals as goal

pub returns-in_default-place_of-clause-answer : goal.returns-in_default-place_of-clause-answer
returns-in_default-place_of-clause-answer g c = λ s k fresh. no_claim c.args.self.now s c.args.worker k (sym c.place_of.ensures ∙ c.in_default-place_of.is)

pub returns-in_default-place_of-clause-stale : goal.returns-in_default-place_of-clause-stale
returns-in_default-place_of-clause-stale g c = λ runs s k claim stale. absurd (no_stale c.args.self.now s c.args.worker c.args.work.range claim k (sym c.place_of.ensures ∙ c.in_default-place_of.is) stale)

pub gave-requires : goal.gave-requires
gave-requires g c =
    omega (
      arith,
      c.args.self.now.entries.ok.0,
      within_entries c.args.self.now c.requires.keeps.0 c.args.worker c.requires.keeps.1 c.in-Some-place_of.at c.index.result.now (sym c.place_of.ensures ∙ c.in-Some-place_of.is) c.index.ensures,
    )

pub returns-then-not-gave-clause-answer : goal.returns-then-not-gave-clause-answer
returns-then-not-gave-clause-answer g c = λ s k fresh.
    let claim = c.index.result.now in
    let same = fresh_is c.args.self.now s c.args.worker k c.in-Some-place_of.at claim (sym c.place_of.ensures ∙ c.in-Some-place_of.is) c.index.ensures c.args.work.range fresh in
    let given = c.gave.ensures.1 (same ∙ sym (range_by_fields c.args.self.now s claim.mark k)) in
    absurd (cc (given, c.if-not-gave.true))

pub returns-then-not-gave-clause-stale : goal.returns-then-not-gave-clause-stale
returns-then-not-gave-clause-stale g c = λ runs s k claim stale.
    let same = its_claim c.args.self.now s c.args.worker k c.in-Some-place_of.at c.index.result.now (sym c.place_of.ensures ∙ c.in-Some-place_of.is) c.index.ensures c.args.work.range claim stale in
    (ap (λ (x : Claim). Ok (finished.Stale x.mark c.mark_of-given.result)) (sym same) ∙ ap (λ m. Ok (finished.Stale claim.mark m)) c.mark_of-given.ensures, refl, refl)

pub returns-then-holds_below-clause-answer : goal.returns-then-holds_below-clause-answer
returns-then-holds_below-clause-answer g c = λ s k fresh.
    let claim = c.index.result.now in
    let place = sym c.place_of.ensures ∙ c.in-Some-place_of.is in
    let same = c.gave.ensures.0 c.if-not-gave.false ∙ range_by_fields c.args.self.now s claim.mark k in
    let now = c.take_in.ensures.kept s k claim (at_there c.args.self.now s c.args.worker k c.in-Some-place_of.at claim place c.index.ensures) same in
    let low : claim.mark.first ≤ c.take_in.new.self.next = omega (arith, held_within c.args.self.now s c.args.worker k c.in-Some-place_of.at claim place c.index.ensures, c.take_in.ensures.next) in
    let kept = waits_or_not c.args.self.now s c.args.worker k c.in-Some-place_of.at claim place c.index.ensures c.take_in.new.self now low true (sym c.if-holds_below.true ∙ c.holds_below.ensures) in
    it_waits c.args.self.now s c.args.worker k c.in-Some-place_of.at claim place c.index.ensures c.take_in.new.self now low kept c.len.result c.len.ensures

pub returns-then-holds_below-clause-stale : goal.returns-then-holds_below-clause-stale
returns-then-holds_below-clause-stale g c = λ runs s k claim stale.
    let same = c.gave.ensures.0 c.if-not-gave.false ∙ range_by_fields c.args.self.now s c.index.result.now.mark k in
    absurd (not_stale c.args.self.now s c.args.worker k c.in-Some-place_of.at c.index.result.now (sym c.place_of.ensures ∙ c.in-Some-place_of.is) c.index.ensures c.args.work.range claim same stale)

pub commit_ready-requires-clause-keeps : goal.commit_ready-requires-clause-keeps
commit_ready-requires-clause-keeps g c =
    let s = c.requires.keeps.0 in
    let k = c.requires.keeps.1 in
    let claim = c.index.result.now in
    let same = c.gave.ensures.0 c.if-not-gave.false ∙ range_by_fields c.args.self.now s claim.mark k in
    let there = at_there c.args.self.now s c.args.worker k c.in-Some-place_of.at claim (sym c.place_of.ensures ∙ c.in-Some-place_of.is) c.index.ensures in
    (happened s (CameIn claim), c.take_in.ensures.kept s k claim there same)

pub returns-clause-answer : goal.returns-clause-answer
returns-clause-answer g c =
    if_ok_so c.commit_ready.result _ _ _ c.commit_ready.ensures.answer c.commit_ready.ensures.same (λ answer committed unchanged s k fresh.
    let claim = c.index.result.now in
    let place = sym c.place_of.ensures ∙ c.in-Some-place_of.is in
    let same = c.gave.ensures.0 c.if-not-gave.false ∙ range_by_fields c.args.self.now s claim.mark k in
    let now = c.take_in.ensures.kept s k claim (at_there c.args.self.now s c.args.worker k c.in-Some-place_of.at claim place c.index.ensures) same in
    let low : claim.mark.first ≤ c.take_in.new.self.next = omega (arith, held_within c.args.self.now s c.args.worker k c.in-Some-place_of.at claim place c.index.ensures, c.take_in.ensures.next) in
    let ready = waits_or_not c.args.self.now s c.args.worker k c.in-Some-place_of.at claim place c.index.ensures c.take_in.new.self now low false (sym c.if-holds_below.false ∙ c.holds_below.ensures) in
    it_is_ready c.args.self.now s c.args.worker k c.in-Some-place_of.at claim place c.index.ensures c.take_in.new.self now low ready c.commit_ready.new.self answer (committed (happened s (CameIn claim)) now) unchanged)

pub returns-clause-stale : goal.returns-clause-stale
returns-clause-stale g c = λ runs s k claim stale.
    let same = c.gave.ensures.0 c.if-not-gave.false ∙ range_by_fields c.args.self.now s c.index.result.now.mark k in
    absurd (not_stale c.args.self.now s c.args.worker k c.in-Some-place_of.at c.index.result.now (sym c.place_of.ensures ∙ c.in-Some-place_of.is) c.index.ensures c.args.work.range claim same stale)

pub returns-clause-went_on : goal.returns-clause-went_on
returns-clause-went_on g c = λ runs. on_err_so c.commit_ready.result _ _ c.commit_ready.ensures.went_on (λ went s k.
    let claim = c.index.result.now in
    let place = sym c.place_of.ensures ∙ c.in-Some-place_of.is in
    let same = c.gave.ensures.0 c.if-not-gave.false ∙ range_by_fields c.args.self.now s claim.mark k in
    let now = c.take_in.ensures.kept s k claim (at_there c.args.self.now s c.args.worker k c.in-Some-place_of.at claim place c.index.ensures) same in
    let low : claim.mark.first ≤ c.take_in.new.self.next = omega (arith, held_within c.args.self.now s c.args.worker k c.in-Some-place_of.at claim place c.index.ensures, c.take_in.ensures.next) in
    let ready = waits_or_not c.args.self.now s c.args.worker k c.in-Some-place_of.at claim place c.index.ensures c.take_in.new.self now low false (sym c.if-holds_below.false ∙ c.holds_below.ensures) in (
      is_fresh c.args.self.now s c.args.worker k c.in-Some-place_of.at claim place c.index.ensures c.args.work.range same,
      some_happened s c.args.worker claim (holds c.args.self.now s c.args.worker k c.in-Some-place_of.at claim place c.index.ensures) c.commit_ready.new.self ready (went (happened s (CameIn claim)) now),
    ))

pub returns-clause-faults : goal.returns-clause-faults
returns-clause-faults g c =
    let cause = c.commit_ready.ensures.faults in
    record {
      later = cause.later;
      rose = cause.rose;
      steady = λ none. ((cause.steady none).0, (cause.steady none).1 ∙ c.take_in.ensures.same.1);
      running = λ runs. cause.running (c.take_in.ensures.same.1 ∙ runs);
    }

pub returns-clause-any_moment : goal.returns-clause-any_moment
returns-clause-any_moment g c = λ tells on s k.
    let claim = c.index.result.now in
    let place = sym c.place_of.ensures ∙ c.in-Some-place_of.is in
    let same = c.gave.ensures.0 c.if-not-gave.false ∙ range_by_fields c.args.self.now s claim.mark k in
    let now = c.take_in.ensures.kept s k claim (at_there c.args.self.now s c.args.worker k c.in-Some-place_of.at claim place c.index.ensures) same in
    let low : claim.mark.first ≤ c.take_in.new.self.next = omega (arith, held_within c.args.self.now s c.args.worker k c.in-Some-place_of.at claim place c.index.ensures, c.take_in.ensures.next) in
    let ready = waits_or_not c.args.self.now s c.args.worker k c.in-Some-place_of.at claim place c.index.ensures c.take_in.new.self now low false (sym c.if-holds_below.false ∙ c.holds_below.ensures) in
    came_first s c.args.worker claim (g.D.Disk.state c.args.disk.now) (g.D.Disk.state c.commit_ready.new.disk) (holds c.args.self.now s c.args.worker k c.in-Some-place_of.at claim place c.index.ensures) ready
    (c.commit_ready.ensures.any_moment tells (subst (λ (store : Store). StoreOn store (g.D.Disk.state c.args.disk.now)) (sym c.take_in.ensures.same.0) on) (happened s (CameIn claim)) now)

pub returns-in-Some-clause-any_moment : goal.returns-in-Some-clause-any_moment
returns-in-Some-clause-any_moment g c = λ tells on s k. nothing_yet c.args.self.now s k (g.D.Disk.state c.args.disk.now) on (finish_events s c.args.worker)

pub returns-in_default-place_of-clause-any_moment : goal.returns-in_default-place_of-clause-any_moment
returns-in_default-place_of-clause-any_moment g c = λ tells on s k. nothing_yet c.args.self.now s k (g.D.Disk.state c.args.disk.now) on (finish_events s c.args.worker)

pub returns-then-not-gave-clause-any_moment : goal.returns-then-not-gave-clause-any_moment
returns-then-not-gave-clause-any_moment g c = λ tells on s k. nothing_yet c.args.self.now s k (g.D.Disk.state c.args.disk.now) on (finish_events s c.args.worker)

pub returns-then-holds_below-clause-any_moment : goal.returns-then-holds_below-clause-any_moment
returns-then-holds_below-clause-any_moment g c = λ tells on s k. nothing_yet c.args.self.now s k (g.D.Disk.state c.args.disk.now) on (finish_events s c.args.worker)
