-- The streams of a message stay among those of the configuration, so they are few.
use Rattle.std.proofs.Common.{◌≡◌, ℕ, zero, suc, ◌+◌, ◌<◌, ◌≤◌, Bool, true, false, not, ◌==◌, cond, List, [], ◌∷◌, ◌++◌, length, get_or, filter, map, fold, find, nat_lt, Option, Some, None, refl, sym, ap, ◌∙◌, subst, arith}
use Rattle.std.specs.Prelude.{⊤}
use Rattle.std.specs.List.{All}
use Rattle.std.proofs.lemmas.List.Elements.{All-nil, All-cons, All-append, All-filter, All-map, All-head, All-tail}
use Rattle.std.specs.Str.{bytes_eq}
use Rattle.gl_text.specs.Ids.{id_text}
use Rattle.gl_fields.specs.declared.field.Field.{Field}
use Rattle.gl_fields.specs.declared.entry.Outcome.{Outcome}
use Rattle.gl_fields.specs.declared.entry.Outcome.TheVariants.{Stored, Dropped, Applied, Undecodable}
use Rattle.gl_fields.specs.Fields.{Rises}
use Rattle.gl_fields.specs.Bounds.{IsOutcome}
use Rattle.gl_streams.specs.declared.stream.Stream.{Stream}
use Rattle.gl_streams.specs.Ids.{matching, one_removes, ids_of, streams_of, with_id, without_id}
use Rattle.gl_streams.specs.Matching.{stream_matches}
use Rattle.gl_rulelang.specs.declared.pipeline.Pipeline.{Pipeline}
use Rattle.gl_rulelang.specs.Tree.{Step, assign, perform, RuleTree}
use Rattle.gl_check.specs.declared.function.Function.{Function}
use Rattle.gl_check.specs.declared.function.Function.TheVariants as fns
use Rattle.gl_check.specs.Values.{Value}
use Rattle.gl_check.specs.Functions.{row_of, function_named}
use Rattle.gl_check.specs.Arguments.{Names, names_in}
use Rattle.gl_functions.specs.Worlds.{Known, stream_named}
use Rattle.gl_functions.specs.Calls.{text_at, truth_at, one_misses}
use Rattle.gl_eval.specs.declared.staged.Staged.{Staged}
use Rattle.gl_eval.specs.Meaning.{meanings, values_for}
use Rattle.gl_eval.specs.Actions.{or_default, left, then_left, routed, removed, done_by, done_with, done, Course, scope_of, stepped, stepped_or_dropped, acted}
use Rattle.gl_stage.specs.Stages.{Scene, Moving, acted_all, held, at_number}
use Rattle.gl_stage.specs.Books.{layout_of}
use Rattle.gl_stage.specs.Rounds.{Layout, IsEnd, end_of, entering, due, numbers_of, names_of, through, behind_round, round_or_end, rounds, run_end}
use Rattle.gl_settings.specs.Settings.{Settings}
use Rattle.gl_outcome.specs.Bounded.{HasMap}
use Rattle.gl_outcome.specs.Compiling.{IsCompilable}
use Rattle.gl_outcome.specs.Outcomes.{world_of, scene_under, matched}

-- an id that is one of a stream
abbrev IsLow : ℕ → Type 0
IsLow id = id < 65535

abbrev Low : List ℕ → Type 0
Low ids = All IsLow ids

one_is_low : Low (1 ∷ [])
one_is_low = All-cons IsLow 1 [] (omega arith) (All-nil IsLow)

low_default : (ids : List ℕ) → Low ids → Low (or_default ids)
low_default [] low = one_is_low
low_default (id ∷ ids) low = low

low_left : (id : ℕ) (ids : List ℕ) → Low ids → Low (left id ids)
low_left id ids low = low_default (without_id ids id) (All-filter (λ (other : ℕ). not (other == id)) IsLow ids low)

low_with : (ids : List ℕ) (id : ℕ) → Low ids → IsLow id → Low (with_id ids id)
low_with ids id low this =
    All-append IsLow (filter (λ other. nat_lt other id) ids) (id ∷ filter (λ other. nat_lt id other) ids)
    (All-filter (λ (other : ℕ). nat_lt other id) IsLow ids low)
    (All-cons IsLow id (filter (λ other. nat_lt id other) ids) this (All-filter (λ (other : ℕ). nat_lt id other) IsLow ids low))

low_then_left : (away : Bool) (ids : List ℕ) → Low ids → Low (then_left away ids)
low_then_left true ids low = low_left 1 ids low
low_then_left false ids low = low

low_all : (more ids : List ℕ) → Low ids → Low more → Low (fold with_id ids more)
low_all [] ids low others = low
low_all (id ∷ more) ids low others = low_all more (with_id ids id) (low_with ids id low (All-head IsLow id more others)) (All-tail IsLow id more others)

abbrev AreLow : List Stream → Type 0
AreLow streams = All (λ (stream : Stream). stream.id < 65535) streams

abbrev IsLowStream : Option Stream → Type 0
IsLowStream None = ⊤
IsLowStream (Some stream) = stream.id < 65535

low_found : (p : Stream → Bool) (streams : List Stream) → AreLow streams → IsLowStream (find p streams)
low_found p [] low = tt
low_found p (stream ∷ streams) low =
    elim (p stream) as (λ b. IsLowStream (cond b (Some stream) (find p streams))) [
      | true ↦ All-head (λ (s : Stream). s.id < 65535) stream streams low
      | false ↦ low_found p streams (All-tail (λ (s : Stream). s.id < 65535) stream streams low)
    ]

low_named : (world : Known) (id name : List ℕ) → AreLow world.streams → IsLowStream (stream_named world id name)
low_named world id name low =
    elim (length id == 0) as (λ b. IsLowStream (cond b (find (λ stream. bytes_eq name stream.name) world.streams) (find (λ stream. bytes_eq id (id_text stream.id)) world.streams))) [
      | true ↦ low_found (λ stream. bytes_eq name stream.name) world.streams low
      | false ↦ low_found (λ stream. bytes_eq id (id_text stream.id)) world.streams low
    ]

low_routed : (found : Option Stream) (away : Bool) (ids : List ℕ) → IsLowStream found → Low ids → Low (routed found away ids)
low_routed None away ids this low = low
low_routed (Some stream) away ids this low =
    elim stream.paused as (λ b. Low (cond b ids (then_left away (with_id ids stream.id)))) [
      | true ↦ low
      | false ↦ low_then_left away (with_id ids stream.id) (low_with ids stream.id low this)
    ]

low_removed : (found : Option Stream) (ids : List ℕ) → Low ids → Low (removed found ids)
low_removed None ids low = low
low_removed (Some stream) ids low = low_left stream.id ids low

low_done_by : (world : Known) (f : Function) (a : List Value) (m : Staged) → AreLow world.streams → Low m.streams → Low (done_by world f a m).streams
low_done_by world fns.RouteToStream a m known low =
    low_routed (stream_named world (text_at 0 a) (text_at 1 a)) (truth_at 2 a) m.streams (low_named world (text_at 0 a) (text_at 1 a) known) low
low_done_by world fns.RemoveFromStream a m known low = low_removed (stream_named world (text_at 0 a) (text_at 1 a)) m.streams low
low_done_by world _ a m known low = low

low_done_with : (world : Known) (f : Function) (values : List Value) (m : Staged) → AreLow world.streams → Low m.streams → Low (done_with world f values m).streams
low_done_with world f values m known low =
    elim (one_misses (row_of f).parameters values) as (λ b. Low (cond b m (done_by world f values m)).streams) [
      | true ↦ low
      | false ↦ low_done_by world f values m known low
    ]

low_done : (world : Known) (f : Option Function) (names : Names) (given : List Value) (m : Staged) → AreLow world.streams → Low m.streams → Low (done world f names given m).streams
low_done world None names given m known low = low
low_done world (Some f) names given m known low = low_done_with world f (values_for (row_of f).parameters names given) m known low

low_stepped : (world : Known) (c : Course) (step : Step) → AreLow world.streams → Low c.message.streams → Low (stepped world c step).message.streams
low_stepped world c (assign x e) known low = low
low_stepped world c (perform f given) known low =
    low_done world (function_named f) (names_in given) (meanings (scope_of world c) given) c.message known low

low_along : (world : Known) (steps : List Step) (c : Course) → AreLow world.streams → Low c.message.streams → Low (fold (stepped_or_dropped world) c steps).message.streams
low_along world [] c known low = low
low_along world (step ∷ steps) c known low =
    low_along world steps (stepped_or_dropped world c step) known
    (elim c.message.dropped as (λ b. Low (cond b c (stepped world c step)).message.streams) [
      | true ↦ low
      | false ↦ low_stepped world c step known low
    ])

low_acted : (world : Known) (rule : RuleTree) (m : Staged) → AreLow world.streams → Low m.streams → Low (acted world rule m).streams
unfolding acted
low_acted world rule m known low = low_along world rule.steps (record { message = m; variables = [] }) known low

low_acted_all : (world : Known) (rules : List RuleTree) (m : Staged) → AreLow world.streams → Low m.streams → Low (acted_all world rules m).streams
low_acted_all world [] m known low = low
low_acted_all world (rule ∷ rules) m known low = low_acted_all world rules (acted world rule m) known (low_acted world rule m known low)

low_through : (scene : Scene) (round : List Pipeline) (ns : List ℕ) (m : Moving) → AreLow scene.world.streams → Low m.message.streams → Low (through scene round ns m).message.streams
unfolding through
low_through scene round [] m known low = low
low_through scene round (n ∷ ns) m known low =
    elim m.message.dropped as (λ b. Low (cond b m (through scene round ns (at_number scene round n m))).message.streams) [
      | true ↦ low
      | false ↦ low_through scene round ns (at_number scene round n m) known (low_acted_all scene.world (held scene round n m) m.message known low)
    ]

-- the streams of a stored message
abbrev LowEnd : Outcome → Type 0
LowEnd (Stored streams fields) = Low streams
LowEnd other = ⊤

low_end : (m : Staged) → Low m.streams → LowEnd (end_of m)
low_end m low = by m.dropped
  where
    by : (b : Bool) → LowEnd (cond b Dropped (Stored m.streams m.fields))
    by true = tt
    by false = low

low_rounds : (fuel : ℕ) (scene : Scene) (layout : Layout) (ran : List (List ℕ)) (m : Staged) → AreLow scene.world.streams → Low m.streams → LowEnd (rounds fuel scene layout ran m)
unfolding rounds
low_rounds zero scene layout ran m known low = low_end m low
low_rounds (suc more) scene layout ran m known low =
    by m.dropped (due layout ran m.streams) (λ others later h. low_rounds more scene layout others later known h)
  where
    by : (b : Bool) (round : List Pipeline) → ((others : List (List ℕ)) (later : Staged) → Low later.streams → LowEnd (rounds more scene layout others later))
        → LowEnd (cond b Dropped (round_or_end (rounds more scene layout) scene ran m round))
    by true round further = tt
    by false [] further = low_end m low
    by false (p ∷ ps) further =
        further (ran ++ names_of (p ∷ ps)) (behind_round scene (p ∷ ps) m) (low_through scene (p ∷ ps) (numbers_of (p ∷ ps)) (entering m) known low)

-- At the start.

low_ids : (streams : List Stream) (fields : List Field) → AreLow streams → Low (ids_of (matching streams fields))
low_ids streams fields known =
    low_all (map (λ stream. stream.id) (matching streams fields)) [] (All-nil IsLow)
    (All-map IsLow (λ (stream : Stream). stream.id) (matching streams fields) (All-filter (λ (stream : Stream). stream_matches stream fields) (λ (stream : Stream). stream.id < 65535) streams known))

low_streams : (streams : List Stream) (fields : List Field) → AreLow streams → Low (streams_of streams fields)
low_streams streams fields known =
    elim (one_removes (matching streams fields)) as (λ b. Low (cond b (ids_of (matching streams fields)) (with_id (ids_of (matching streams fields)) 1))) [
      | true ↦ low_ids streams fields known
      | false ↦ low_with (ids_of (matching streams fields)) 1 (low_ids streams fields known) (omega arith)
    ]

-- so many rising numbers fit in
few_rise : (ids : List ℕ) (low : ℕ) → low ≤ 65535 → All (λ (id : ℕ). low ≤ id) ids → Low ids → Rises (λ (a b : ℕ). a < b) ids → length ids + low ≤ 65535
few_rise [] low most above below rises = omega (arith, most)
few_rise (id ∷ ids) low most above below rises =
    let here : low ≤ id = All-head (λ (other : ℕ). low ≤ other) id ids above in
    let last : id < 65535 = All-head IsLow id ids below in
    let others : length ids + (id + 1) ≤ 65535 =
    few_rise ids (id + 1) (omega (arith, last)) (λ k d within. let gt : id < get_or ids k d = rises.0 k d within in omega (arith, gt)) (All-tail IsLow id ids below) rises.1 in
    omega (arith, here, others)

-- an end of the run is within the bounds of outcomes
pub end_is_bounded : (c : Settings) (fields : List Field) (o : Outcome) → IsCompilable c
    → o ≡ run_end (scene_under c) (layout_of c.pipelines c.connections) (matched c fields) → IsEnd o → HasMap o → IsOutcome o
end_is_bounded c fields o compilable is end map =
    by o (subst LowEnd (sym is) (low_rounds (suc (length c.pipelines)) (scene_under c) (layout_of c.pipelines c.connections) [] (matched c fields) compilable.ids (low_streams c.streams fields compilable.ids))) end map
  where
    by : (o : Outcome) → LowEnd o → IsEnd o → HasMap o → IsOutcome o
    by (Stored streams fields) low end map =
        let few : length streams + 0 ≤ 65535 = few_rise streams 0 (omega arith) (λ k d within. omega arith) low end.1 in
        record {
          some = end.0;
          few = omega (arith, few);
          ids = λ k d within. let lt : get_or streams k d < 65535 = low k d within in omega (arith, lt);
          rises = end.1;
          map = map;
        }
    by Dropped low end map = tt
    by Applied low end map = absurd end
    by (Undecodable cause) low end map = absurd end
