use Rattle.std.proofs.Common.{◌≡◌, ◌==◌, ◌+◌, ◌-◌, ◌<◌, ◌++◌, ℕ, List, Bor, length, sym, ap, ◌∙◌}
use Rattle.gl_functions.specs.Worlds.{known_of}
use Rattle.gl_rulelang.specs.declared.pipeline.Pipeline.{Pipeline}
use Rattle.gl_stage.specs.Books.{Book, scene_of, layout_of}
use Rattle.gl_stage.specs.Lent.{names_now, pipelines_now}
use Rattle.gl_stage.specs.Rounds.{due, names_of, behind_round}
use Rattle.gl_stage.proofs.Ending.{rounds_dropped}
use Rattle.gl_stage.proofs.Going.{one_round, no_round, rounds_over, zero_from, some_from}
use Rattle.gl_stage.proofs.running.run.Goals as goal

pub returns-then-message-clause-value : goal.returns-then-message-clause-value
returns-then-message-clause-value c =
    let l = c.loop-turn in
    sym (l.invariant.goes
    ∙ rounds_dropped ((length c.args.pipelines.now + 1) - l.turn) (scene_of (known_of c.args.world.now) c.args.rules.now) (layout_of c.args.pipelines.now c.args.connections.now) (names_now l.ran.items) l.message c.if-message.true)

pub returns-then-is_none-clause-value : goal.returns-then-is_none-clause-value
returns-then-is_none-clause-value c =
    let l = c.loop-turn in
    let layout = layout_of c.args.pipelines.now c.args.connections.now in
    let round = pipelines_now c.in_ok-round.round.items in
    let is : round ≡ due layout (names_now l.ran.items) l.message.streams =
    c.in_ok-round.ensures
    ∙ ap (λ (r : List (Bor (List ℕ))). due layout (names_now r) c.as_slice-in-loop-turn.result.now) c.as_slice.ensures.value
    ∙ ap (λ (s : List ℕ). due layout (names_now l.ran.items) s) c.as_slice-in-loop-turn.ensures in
    let none : length round ≡ 0 =
    ap (λ (r : List (Bor Pipeline)). length (pipelines_now r)) (sym c.as_slice-in-loop-turn-2.ensures.value) ∙ zero_from (length (pipelines_now c.as_slice-in-loop-turn-2.result.now)) c.if-is_none.ensures in
    sym (l.invariant.goes
    ∙ no_round (scene_of (known_of c.args.world.now) c.args.rules.now) layout ((length c.args.pipelines.now + 1) - l.turn) (names_now l.ran.items) l.message round c.if-message.false is none)

pub loop-turn-preserved : goal.loop-turn-preserved
loop-turn-preserved c =
    let l = c.loop-turn in
    let world = known_of c.args.world.now in
    let layout = layout_of c.args.pipelines.now c.args.connections.now in
    let round = pipelines_now c.in_ok-round.round.items in
    let is : round ≡ due layout (names_now l.ran.items) l.message.streams =
    c.in_ok-round.ensures
    ∙ ap (λ (r : List (Bor (List ℕ))). due layout (names_now r) c.as_slice-in-loop-turn.result.now) c.as_slice.ensures.value
    ∙ ap (λ (s : List ℕ). due layout (names_now l.ran.items) s) c.as_slice-in-loop-turn.ensures in
    let some : 0 < length round =
    some_from (length round) (c.if-is_none.ensures ∙ ap (λ (r : List (Bor Pipeline)). length (pipelines_now r) == 0) c.as_slice-in-loop-turn-2.ensures.value) in
    let names : names_now c.push_names.new.names.items ≡ names_now l.ran.items ++ names_of round =
    c.in_ok-push_names.ensures ∙ ap (λ (r : List (Bor Pipeline)). names_now l.ran.items ++ names_of (pipelines_now r)) c.as_slice-in-loop-turn-3.ensures.value in
    let went : c.in_ok-message.message ≡ behind_round (scene_of world c.args.rules.now) round l.message =
    c.in_ok-message.ensures.value
    ∙ ap (λ (r : List (Bor Pipeline)). behind_round (scene_of world l.rules) (pipelines_now r) l.message) c.as_slice-in-loop-turn-4.ensures.value
    ∙ ap (λ (b : Book). behind_round (scene_of world b) round l.message) l.invariant.same in
    record {
      goes =
          l.invariant.goes
          ∙ one_round (scene_of world c.args.rules.now) layout (length c.args.pipelines.now + 1) l.turn (names_now l.ran.items) (names_now c.push_names.new.names.items) l.message c.in_ok-message.message round
          c.loop-turn-test.true c.if-message.false is some names went;
      same = c.in_ok-message.ensures.same ∙ l.invariant.same;
    }

pub returns-clause-value : goal.returns-clause-value
returns-clause-value c =
    let l = c.loop-turn in
    sym (l.invariant.goes
    ∙ rounds_over (scene_of (known_of c.args.world.now) c.args.rules.now) (layout_of c.args.pipelines.now c.args.connections.now) (length c.args.pipelines.now + 1) l.turn (names_now l.ran.items) l.message c.loop-turn-test.false)
