-- A message runs to the computed end, and to no other.
use Rattle.std.proofs.Common.{◌≡◌, ◌≢◌, ℕ, zero, suc, ◌<◌, Bool, true, false, cond, List, [], ◌∷◌, ◌++◌, length, refl, sym, ap, ◌∙◌, subst, arith}
use Rattle.gl_fields.specs.declared.entry.Outcome.{Outcome}
use Rattle.gl_fields.specs.declared.entry.Outcome.TheVariants.{Stored, Dropped}
use Rattle.gl_rulelang.specs.declared.pipeline.Pipeline.{Pipeline}
use Rattle.gl_eval.specs.declared.staged.Staged.{Staged}
use Rattle.gl_stage.specs.Stages.{Scene, Moving, at_number}
use Rattle.gl_stage.specs.Rounds.{Layout, Way, RunsTo, drop_ends, next_number, next_round, last_round, begun, entering, past_number, in_round, due, due_behind, names_of, numbers_of, end_of, through, behind_round, round_or_end, rounds, run_end}
use Rattle.gl_stage.proofs.Shrinking.{waiting, fewer_wait, at_most_all}

-- How the computed end goes on.

pub through_dropped : (scene : Scene) (round : List Pipeline) (ns : List ℕ) (m : Moving) → m.message.dropped ≡ true → through scene round ns m ≡ m
unfolding through
through_dropped scene round [] m e = refl
through_dropped scene round (n ∷ ns) m e = ap (λ b. cond b m (through scene round ns (at_number scene round n m))) e

pub through_next : (scene : Scene) (round : List Pipeline) (n : ℕ) (ns : List ℕ) (m : Moving) → m.message.dropped ≡ false
    → through scene round (n ∷ ns) m ≡ through scene round ns (at_number scene round n m)
unfolding through
through_next scene round n ns m e = ap (λ b. cond b m (through scene round ns (at_number scene round n m))) e

pub through_none : (scene : Scene) (round : List Pipeline) (m : Moving) → through scene round [] m ≡ m
unfolding through
through_none scene round m = refl

pub end_dropped : (message : Staged) → message.dropped ≡ true → end_of message ≡ Dropped
end_dropped message e = ap (λ b. cond b Dropped (Stored message.streams message.fields)) e

pub end_stored : (message : Staged) → message.dropped ≡ false → end_of message ≡ Stored message.streams message.fields
end_stored message e = ap (λ b. cond b Dropped (Stored message.streams message.fields)) e

pub rounds_dropped : (fuel : ℕ) (scene : Scene) (layout : Layout) (ran : List (List ℕ)) (message : Staged) → message.dropped ≡ true
    → rounds fuel scene layout ran message ≡ end_of message
unfolding rounds
rounds_dropped zero scene layout ran message e = refl
rounds_dropped (suc more) scene layout ran message e =
    ap (λ b. cond b Dropped (round_or_end (rounds more scene layout) scene ran message (due layout ran message.streams))) e ∙ sym (end_dropped message e)

goes_on : (g : List (List ℕ) → Staged → Outcome) (scene : Scene) (ran : List (List ℕ)) (message : Staged) (round : List Pipeline) → round ≢ []
    → round_or_end g scene ran message round ≡ g (ran ++ names_of round) (behind_round scene round message)
goes_on g scene ran message [] some = absurd (some refl)
goes_on g scene ran message (p ∷ ps) some = refl

pub rounds_none : (fuel : ℕ) (scene : Scene) (layout : Layout) (ran : List (List ℕ)) (message : Staged) → message.dropped ≡ false
    → due layout ran message.streams ≡ [] → rounds fuel scene layout ran message ≡ end_of message
unfolding rounds
rounds_none zero scene layout ran message e none = refl
rounds_none (suc more) scene layout ran message e none =
    ap (λ b. cond b Dropped (round_or_end (rounds more scene layout) scene ran message (due layout ran message.streams))) e
    ∙ ap (round_or_end (rounds more scene layout) scene ran message) none

pub rounds_some : (more : ℕ) (scene : Scene) (layout : Layout) (ran : List (List ℕ)) (message : Staged) (round : List Pipeline) → message.dropped ≡ false
    → due layout ran message.streams ≡ round → round ≢ []
    → rounds (suc more) scene layout ran message ≡ rounds more scene layout (ran ++ names_of round) (behind_round scene round message)
unfolding rounds
rounds_some more scene layout ran message round e is some =
    ap (λ b. cond b Dropped (round_or_end (rounds more scene layout) scene ran message (due layout ran message.streams))) e
    ∙ ap (round_or_end (rounds more scene layout) scene ran message) is
    ∙ goes_on (rounds more scene layout) scene ran message round some

pub rounds_zero : (scene : Scene) (layout : Layout) (ran : List (List ℕ)) (message : Staged) → rounds zero scene layout ran message ≡ end_of message
unfolding rounds
rounds_zero scene layout ran message = refl

module _ (scene : Scene) (layout : Layout) where
  -- the end behind these numbers and then so many rounds at most
  abbrev end_from : ℕ → List ℕ → Way → Outcome
  end_from fuel ns w = rounds fuel scene layout w.ran (through scene w.round ns w.moving).message

  dropped_end : (fuel : ℕ) (ns : List ℕ) (w : Way) → w.moving.message.dropped ≡ true → end_from fuel ns w ≡ Dropped
  dropped_end fuel ns w e =
      ap (λ (m : Moving). rounds fuel scene layout w.ran m.message) (through_dropped scene w.round ns w.moving e)
      ∙ rounds_dropped fuel scene layout w.ran w.moving.message e
      ∙ end_dropped w.moving.message e

  number_end : (fuel n : ℕ) (ns : List ℕ) (w : Way) → w.moving.message.dropped ≡ false → end_from fuel (n ∷ ns) w ≡ end_from fuel ns (past_number scene w n ns)
  number_end fuel n ns w e = ap (λ (m : Moving). rounds fuel scene layout w.ran m.message) (through_next scene w.round n ns w.moving e)

  none_end : (fuel : ℕ) (w : Way) → w.moving.message.dropped ≡ false → due_behind layout w ≡ []
      → end_from fuel [] w ≡ Stored w.moving.message.streams w.moving.message.fields
  none_end fuel w e none =
      ap (λ (m : Moving). rounds fuel scene layout w.ran m.message) (through_none scene w.round w.moving)
      ∙ rounds_none fuel scene layout w.ran w.moving.message e none
      ∙ end_stored w.moving.message e

  round_end : (more : ℕ) (w : Way) → w.moving.message.dropped ≡ false → due_behind layout w ≢ []
      → end_from (suc more) [] w ≡ end_from more (numbers_of (due_behind layout w)) (in_round w (due_behind layout w))
  round_end more w e some =
      ap (λ (m : Moving). rounds (suc more) scene layout w.ran m.message) (through_none scene w.round w.moving)
      ∙ rounds_some more scene layout w.ran w.moving.message (due_behind layout w) e refl some

  fewer : (w : Way) (round : List Pipeline) → due_behind layout w ≡ round → round ≢ [] → waiting layout (w.ran ++ names_of round) < waiting layout w.ran
  fewer w [] is some = absurd (some refl)
  fewer w (p ∷ ps) is some = fewer_wait layout w.ran w.moving.message.streams p ps is

  -- It runs to the computed end.

  abbrev Ends : ℕ → Type 0
  Ends fuel = (ns : List ℕ) (w : Way) → w.ahead ≡ ns → waiting layout w.ran < fuel → RunsTo scene layout w (end_from fuel ns w)

  behind_numbers : (more : ℕ) → Ends more → (w : Way) → w.ahead ≡ [] → waiting layout w.ran < suc more
      → (dropped : Bool) → w.moving.message.dropped ≡ dropped → (round : List Pipeline) → due_behind layout w ≡ round → RunsTo scene layout w (end_from (suc more) [] w)
  behind_numbers more earlier w at_end fuel true e round is = subst (RunsTo scene layout w) (sym (dropped_end (suc more) [] w e)) (drop_ends e)
  behind_numbers more earlier w at_end fuel false e [] is = subst (RunsTo scene layout w) (sym (none_end (suc more) w e is)) (last_round e at_end is)
  behind_numbers more earlier w at_end fuel false e (p ∷ ps) is =
      let some : due_behind layout w ≢ [] = λ none. cc (sym is ∙ none) in
      let less : waiting layout (w.ran ++ names_of (due_behind layout w)) < waiting layout w.ran = fewer w (due_behind layout w) refl some in
      subst (RunsTo scene layout w) (sym (round_end more w e some))
      (next_round e at_end some (earlier (numbers_of (due_behind layout w)) (in_round w (due_behind layout w)) refl (omega (arith, less, fuel))))

  along_numbers : (more : ℕ) → Ends more → Ends (suc more)
  along_numbers more earlier [] w at_end fuel =
      behind_numbers more earlier w at_end fuel w.moving.message.dropped refl (due_behind layout w) refl
  along_numbers more earlier (n ∷ ns) w ahead fuel = by w.moving.message.dropped refl (along_numbers more earlier ns (past_number scene w n ns) refl fuel)
    where
      by : (dropped : Bool) → w.moving.message.dropped ≡ dropped → RunsTo scene layout (past_number scene w n ns) (end_from (suc more) ns (past_number scene w n ns))
          → RunsTo scene layout w (end_from (suc more) (n ∷ ns) w)
      by true e runs = subst (RunsTo scene layout w) (sym (dropped_end (suc more) (n ∷ ns) w e)) (drop_ends e)
      by false e runs = subst (RunsTo scene layout w) (sym (number_end (suc more) n ns w e)) (next_number e ahead runs)

  ends : (fuel : ℕ) → Ends fuel
  ends zero ns w ahead fuel = absurd (omega (arith, fuel))
  ends (suc more) ns w ahead fuel = along_numbers more (ends more) ns w ahead fuel

  pub runs_to_end : (message : Staged) → RunsTo scene layout (begun message) (run_end scene layout message)
  runs_to_end message =
      subst (RunsTo scene layout (begun message)) (ap (λ (m : Moving). rounds (suc (length layout.pipelines)) scene layout [] m.message) (through_none scene [] (entering message)))
      (ends (suc (length layout.pipelines)) [] (begun message) refl (at_most_all layout []))

  -- It runs to no other.

  number_back : (fuel : ℕ) (w : Way) {n : ℕ} {ns : List ℕ} (e : Outcome) → w.moving.message.dropped ≡ false → w.ahead ≡ n ∷ ns
      → e ≡ end_from fuel ns (past_number scene w n ns) → e ≡ end_from fuel w.ahead w
  number_back fuel w {n} {ns} e going ahead is =
      is ∙ sym (number_end fuel n ns w going) ∙ ap (λ numbers. end_from fuel numbers w) (sym ahead)

  round_back : (more : ℕ) (w : Way) (e : Outcome) → w.moving.message.dropped ≡ false → w.ahead ≡ [] → due_behind layout w ≢ []
      → e ≡ end_from more (numbers_of (due_behind layout w)) (in_round w (due_behind layout w)) → e ≡ end_from (suc more) w.ahead w
  round_back more w e going at_end some is =
      is ∙ sym (round_end more w going some) ∙ ap (λ numbers. end_from (suc more) numbers w) (sym at_end)

  only_end : (w : Way) (e : Outcome) → RunsTo scene layout w e → (fuel : ℕ) → waiting layout w.ran < fuel → e ≡ end_from fuel w.ahead w
  only_end w e (drop_ends dropped) fuel lt = sym (dropped_end fuel w.ahead w dropped)
  only_end w e (next_number going ahead runs) fuel lt = number_back fuel w e going ahead (only_end _ _ runs fuel lt)
  only_end w e (next_round going at_end some runs) zero lt = absurd (omega (arith, lt))
  only_end w e (next_round going at_end some runs) (suc more) lt =
      let less : waiting layout (w.ran ++ names_of (due_behind layout w)) < waiting layout w.ran = fewer w (due_behind layout w) refl some in
      round_back more w e going at_end some (only_end _ _ runs more (omega (arith, less, lt)))
  only_end w e (last_round going at_end none) fuel lt =
      sym (none_end fuel w going none) ∙ ap (λ numbers. end_from fuel numbers w) (sym at_end)

  pub no_other_end : (message : Staged) (e : Outcome) → RunsTo scene layout (begun message) e → e ≡ run_end scene layout message
  no_other_end message e runs =
      only_end (begun message) e runs (suc (length layout.pipelines)) (at_most_all layout [])
      ∙ ap (λ (m : Moving). rounds (suc (length layout.pipelines)) scene layout [] m.message) (through_none scene [] (entering message))
