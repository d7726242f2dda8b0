-- The run of a message through its pipelines (this project).
use Rattle.std.specs.Prelude.{◌≡◌, ◌≢◌, ◌<◌, ⊤, ℕ, zero, suc, Bool, true, false, not, ◌&&◌, List, [], ◌∷◌, ◌++◌, length, map, filter, flat_map, fold, if◌then◌else◌}
use Rattle.std.specs.List.{list_any}
use Rattle.gl_fields.specs.declared.entry.Outcome.{Outcome}
use Rattle.gl_fields.specs.declared.entry.Outcome.TheVariants.{Stored, Dropped, Applied, Undecodable}
use Rattle.gl_fields.specs.Fields.{comes_before, Rises}
use Rattle.gl_streams.specs.Ids.{with_id, has_id}
use Rattle.gl_rulelang.specs.declared.pipeline.Pipeline.{Pipeline}
use Rattle.gl_eval.specs.declared.staged.Staged.{Staged}
use Rattle.gl_stage.specs.Stages.{Scene, Moving, is_among, at_number}

-- the pipelines, and to which streams they are connected
pub record Layout : Type 0 where
  pub pipelines : List Pipeline
  -- the names of the pipelines that are connected to each stream
  pub connections : List (ℕ × List (List ℕ))

-- A round.

-- a pipeline of this name is connected to one of these streams
abbrev pub is_connected : List (ℕ × List (List ℕ)) → List ℕ → List ℕ → Bool
is_connected connections streams name = list_any (λ c. has_id c.0 streams && is_among c.1 name) connections

-- a pipeline is connected to one of these streams and hasn't run
abbrev pub is_due : List (ℕ × List (List ℕ)) → List (List ℕ) → List ℕ → Pipeline → Bool
is_due connections ran streams pipeline = not (is_among ran pipeline.name) && is_connected connections streams pipeline.name

-- pipelines by rising name, with one more
abbrev pub with_pipeline : List Pipeline → Pipeline → List Pipeline
with_pipeline round p = filter (λ other. comes_before other.name p.name) round ++ p ∷ filter (λ other. comes_before p.name other.name) round

-- the pipelines of the next round, by rising name
abbrev pub due : Layout → List (List ℕ) → List ℕ → List Pipeline
due layout ran streams = fold with_pipeline [] (filter (is_due layout.connections ran streams) layout.pipelines)

abbrev pub names_of : List Pipeline → List (List ℕ)
names_of pipelines = map (λ p. p.name) pipelines

-- the numbers of their stages, in rising order
abbrev pub numbers_of : List Pipeline → List ℕ
numbers_of round = fold with_id [] (flat_map (λ p. map (λ stage. stage.number) p.stages) round)

-- The run, a step at a time.

-- where a message stands on its way
pub record Way : Type 0 where
  pub moving : Moving
  -- the pipelines of this round, by rising name
  pub round : List Pipeline
  -- the stage numbers of this round that are still to come, in rising order
  pub ahead : List ℕ
  -- the names of all pipelines that have run, those of this round among them
  pub ran : List (List ℕ)

abbrev pub entering : Staged → Moving
entering message = record { message = message; stopped = [] }

-- before the first round
abbrev pub begun : Staged → Way
begun message = record { moving = entering message; round = []; ahead = []; ran = [] }

-- behind a number of the round
abbrev pub past_number : Scene → Way → ℕ → List ℕ → Way
past_number scene w n ns = record w { moving = at_number scene w.round n w.moving; ahead = ns }

-- the pipelines of a further round
abbrev pub due_behind : Layout → Way → List Pipeline
due_behind layout w = due layout w.ran w.moving.message.streams

-- at the front of a round of these pipelines
abbrev pub in_round : Way → List Pipeline → Way
in_round w round = record { moving = entering w.moving.message; round = round; ahead = numbers_of round; ran = w.ran ++ names_of round }

-- a message runs to this end
pub data RunsTo (scene : Scene) (layout : Layout) : Way → Outcome → Type 0 where
  -- it was dropped, which ends all at once
  drop_ends : {w : Way} → w.moving.message.dropped ≡ true → RunsTo scene layout w Dropped
  -- the next number of the round
  next_number : {w : Way} {n : ℕ} {ns : List ℕ} {e : Outcome} → w.moving.message.dropped ≡ false → w.ahead ≡ n ∷ ns
      → RunsTo scene layout (past_number scene w n ns) e → RunsTo scene layout w e
  -- behind the last number a further round, where there are pipelines for it
  next_round : {w : Way} {e : Outcome} → w.moving.message.dropped ≡ false → w.ahead ≡ [] → due_behind layout w ≢ []
      → RunsTo scene layout (in_round w (due_behind layout w)) e → RunsTo scene layout w e
  -- and else the end
  last_round : {w : Way} → w.moving.message.dropped ≡ false → w.ahead ≡ [] → due_behind layout w ≡ []
      → RunsTo scene layout w (Stored w.moving.message.streams w.moving.message.fields)

-- The same end, computed.

-- how a message has ended
abbrev pub end_of : Staged → Outcome
end_of message = if message.dropped then Dropped else Stored message.streams message.fields

-- behind these numbers of a round
unfoldable pub through : Scene → List Pipeline → List ℕ → Moving → Moving
through scene round [] m = m
through scene round (n ∷ ns) m = if m.message.dropped then m else through scene round ns (at_number scene round n m)

abbrev pub behind_round : Scene → List Pipeline → Staged → Staged
behind_round scene round message = (through scene round (numbers_of round) (entering message)).message

-- behind a round of these pipelines, and the end where there is none
abbrev pub round_or_end : (List (List ℕ) → Staged → Outcome) → Scene → List (List ℕ) → Staged → List Pipeline → Outcome
round_or_end goes_on scene ran message [] = end_of message
round_or_end goes_on scene ran message (p ∷ ps) = goes_on (ran ++ names_of (p ∷ ps)) (behind_round scene (p ∷ ps) message)

-- the end behind so many rounds at most; as many as there are pipelines, and one, are always enough
unfoldable pub rounds : ℕ → Scene → Layout → List (List ℕ) → Staged → Outcome
rounds zero scene layout ran message = end_of message
rounds (suc more) scene layout ran message =
    if message.dropped then Dropped else round_or_end (rounds more scene layout) scene ran message (due layout ran message.streams)

-- the end of a message
abbrev pub run_end : Scene → Layout → Staged → Outcome
run_end scene layout message = rounds (suc (length layout.pipelines)) scene layout [] message

-- Dropped, or in one stream at least, the streams rising.
abbrev pub IsEnd : Outcome → Type 0
IsEnd (Stored streams fields) = (0 < length streams) × Rises (λ (a b : ℕ). a < b) streams
IsEnd Dropped = ⊤
IsEnd Applied = ⊥
IsEnd (Undecodable cause) = ⊥

-- Law: a message runs to this end and to no other, and it is an end where the message was in one stream at least, its streams rising.
pub record HasOneEnd (scene : Scene) (layout : Layout) (message : Staged) : Type 0 where
  pub reached : RunsTo scene layout (begun message) (run_end scene layout message)
  pub only : (e : Outcome) → RunsTo scene layout (begun message) e → e ≡ run_end scene layout message
  pub lawful : 0 < length message.streams → Rises (λ (a b : ℕ). a < b) message.streams → IsEnd (run_end scene layout message)
