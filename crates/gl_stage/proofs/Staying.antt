-- A message stays in one stream at least, and its streams rise.
use Rattle.std.proofs.Common.{ℕ, zero, suc, ◌<◌, Bool, true, false, cond, List, [], ◌∷◌, ◌++◌, length, filter, fold, nat_lt, Option, Some, None, arith, length-append}
use Rattle.std.proofs.lemmas.List.Elements.{All-nil}
use Rattle.gl_fields.specs.declared.entry.Outcome.TheVariants.{Stored, Dropped}
use Rattle.gl_fields.specs.Fields.{Rises}
use Rattle.gl_streams.specs.declared.stream.Stream.{Stream}
use Rattle.gl_streams.specs.Ids.{with_id, without_id}
use Rattle.gl_streams.proofs.Putting.{rises_with, rises_without}
use Rattle.gl_rulelang.specs.declared.pipeline.Pipeline.{Pipeline}
use Rattle.gl_rulelang.specs.Tree.{Step, assign, perform, RuleTree}
use Rattle.gl_check.specs.declared.function.Function.{Function}
use Rattle.gl_check.specs.declared.function.Function.TheVariants as fns
use Rattle.gl_check.specs.Values.{Value}
use Rattle.gl_check.specs.Functions.{row_of, function_named}
use Rattle.gl_check.specs.Arguments.{Names, names_in}
use Rattle.gl_functions.specs.Worlds.{Known, stream_named}
use Rattle.gl_functions.specs.Calls.{text_at, truth_at, one_misses}
use Rattle.gl_eval.specs.declared.staged.Staged.{Staged}
use Rattle.gl_eval.specs.Meaning.{meanings, values_for}
use Rattle.gl_eval.specs.Actions.{or_default, left, then_left, routed, removed, done_by, done_with, done, Course, scope_of, stepped, stepped_or_dropped, acted}
use Rattle.gl_stage.specs.Stages.{Scene, Moving, acted_all, held, at_number}
use Rattle.gl_stage.specs.Rounds.{Layout, IsEnd, end_of, entering, due, numbers_of, names_of, through, behind_round, round_or_end, rounds, run_end}

-- some rising ids
abbrev pub Stand : List ℕ → Type 0
Stand ids = (0 < length ids) × Rises (λ (a b : ℕ). a < b) ids

stand_default : (ids : List ℕ) → Rises (λ (a b : ℕ). a < b) ids → Stand (or_default ids)
stand_default [] rises = (omega arith, (All-nil (λ b. 1 < b), tt))
stand_default (id ∷ ids) rises = (omega arith, rises)

stand_left : (id : ℕ) (ids : List ℕ) → Stand ids → Stand (left id ids)
stand_left id ids stand = stand_default (without_id ids id) (rises_without ids id stand.1)

stand_with : (ids : List ℕ) (id : ℕ) → Stand ids → Stand (with_id ids id)
stand_with ids id stand = (
  omega (arith, length-append (filter (λ other. nat_lt other id) ids) (id ∷ filter (λ other. nat_lt id other) ids)),
  rises_with ids id stand.1,
)

stand_then_left : (away : Bool) (ids : List ℕ) → Stand ids → Stand (then_left away ids)
stand_then_left true ids stand = stand_left 1 ids stand
stand_then_left false ids stand = stand

stand_routed : (found : Option Stream) (away : Bool) (ids : List ℕ) → Stand ids → Stand (routed found away ids)
stand_routed None away ids stand = stand
stand_routed (Some stream) away ids stand =
    elim stream.paused as (λ b. Stand (cond b ids (then_left away (with_id ids stream.id)))) [
      | true ↦ stand
      | false ↦ stand_then_left away (with_id ids stream.id) (stand_with ids stream.id stand)
    ]

stand_removed : (found : Option Stream) (ids : List ℕ) → Stand ids → Stand (removed found ids)
stand_removed None ids stand = stand
stand_removed (Some stream) ids stand = stand_left stream.id ids stand

stand_done_by : (world : Known) (f : Function) (a : List Value) (m : Staged) → Stand m.streams → Stand (done_by world f a m).streams
stand_done_by world fns.RouteToStream a m stand = stand_routed (stream_named world (text_at 0 a) (text_at 1 a)) (truth_at 2 a) m.streams stand
stand_done_by world fns.RemoveFromStream a m stand = stand_removed (stream_named world (text_at 0 a) (text_at 1 a)) m.streams stand
stand_done_by world _ a m stand = stand

stand_done_with : (world : Known) (f : Function) (values : List Value) (m : Staged) → Stand m.streams → Stand (done_with world f values m).streams
stand_done_with world f values m stand =
    elim (one_misses (row_of f).parameters values) as (λ b. Stand (cond b m (done_by world f values m)).streams) [
      | true ↦ stand
      | false ↦ stand_done_by world f values m stand
    ]

stand_done : (world : Known) (f : Option Function) (names : Names) (given : List Value) (m : Staged) → Stand m.streams → Stand (done world f names given m).streams
stand_done world None names given m stand = stand
stand_done world (Some f) names given m stand = stand_done_with world f (values_for (row_of f).parameters names given) m stand

stand_stepped : (world : Known) (c : Course) (step : Step) → Stand c.message.streams → Stand (stepped world c step).message.streams
stand_stepped world c (assign x e) stand = stand
stand_stepped world c (perform f given) stand =
    stand_done world (function_named f) (names_in given) (meanings (scope_of world c) given) c.message stand

stand_along : (world : Known) (steps : List Step) (c : Course) → Stand c.message.streams → Stand (fold (stepped_or_dropped world) c steps).message.streams
stand_along world [] c stand = stand
stand_along world (step ∷ steps) c stand =
    stand_along world steps (stepped_or_dropped world c step)
    (elim c.message.dropped as (λ b. Stand (cond b c (stepped world c step)).message.streams) [
      | true ↦ stand
      | false ↦ stand_stepped world c step stand
    ])

stand_acted : (world : Known) (rule : RuleTree) (m : Staged) → Stand m.streams → Stand (acted world rule m).streams
unfolding acted
stand_acted world rule m stand = stand_along world rule.steps (record { message = m; variables = [] }) stand

stand_acted_all : (world : Known) (rules : List RuleTree) (m : Staged) → Stand m.streams → Stand (acted_all world rules m).streams
stand_acted_all world [] m stand = stand
stand_acted_all world (rule ∷ rules) m stand = stand_acted_all world rules (acted world rule m) (stand_acted world rule m stand)

stand_through : (scene : Scene) (round : List Pipeline) (ns : List ℕ) (m : Moving) → Stand m.message.streams → Stand (through scene round ns m).message.streams
unfolding through
stand_through scene round [] m stand = stand
stand_through scene round (n ∷ ns) m stand =
    elim m.message.dropped as (λ b. Stand (cond b m (through scene round ns (at_number scene round n m))).message.streams) [
      | true ↦ stand
      | false ↦ stand_through scene round ns (at_number scene round n m) (stand_acted_all scene.world (held scene round n m) m.message stand)
    ]

stand_end : (m : Staged) → Stand m.streams → IsEnd (end_of m)
stand_end m stand = by m.dropped
  where
    by : (b : Bool) → IsEnd (cond b Dropped (Stored m.streams m.fields))
    by true = tt
    by false = stand

stand_rounds : (fuel : ℕ) (scene : Scene) (layout : Layout) (ran : List (List ℕ)) (m : Staged) → Stand m.streams → IsEnd (rounds fuel scene layout ran m)
unfolding rounds
stand_rounds zero scene layout ran m stand = stand_end m stand
stand_rounds (suc more) scene layout ran m stand =
    by m.dropped (due layout ran m.streams) (λ others later h. stand_rounds more scene layout others later h)
  where
    by : (b : Bool) (round : List Pipeline) → ((others : List (List ℕ)) (later : Staged) → Stand later.streams → IsEnd (rounds more scene layout others later))
        → IsEnd (cond b Dropped (round_or_end (rounds more scene layout) scene ran m round))
    by true round further = tt
    by false [] further = stand_end m stand
    by false (p ∷ ps) further =
        further (ran ++ names_of (p ∷ ps)) (behind_round scene (p ∷ ps) m) (stand_through scene (p ∷ ps) (numbers_of (p ∷ ps)) (entering m) stand)

pub end_is_lawful : (scene : Scene) (layout : Layout) (message : Staged) → 0 < length message.streams → Rises (λ (a b : ℕ). a < b) message.streams
    → IsEnd (run_end scene layout message)
end_is_lawful scene layout message some rises = stand_rounds (suc (length layout.pipelines)) scene layout [] message (some, rises)
