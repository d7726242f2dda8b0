-- One more number of a round, and one more round.
use Rattle.std.proofs.Common.{◌≡◌, ◌≢◌, ℕ, zero, suc, ◌+◌, ◌-◌, ◌<◌, ◌≤◌, true, false, List, [], ◌∷◌, ◌++◌, length, drop, get_or, Result, IfOk, ◌==◌, refl, sym, ap, ◌∙◌, subst, arith}
use Rattle.std.proofs.lemmas.Bool.Decides.{nat_tests}
use Rattle.std.proofs.lemmas.List.{drop_more}
use Rattle.std.proofs.lemmas.Result.{IfOk-weaker}
use Rattle.gl_fields.specs.Fields.{Rises}
use Rattle.gl_functions.specs.Worlds.{Known}
use Rattle.gl_rulelang.specs.declared.pipeline.Pipeline.{Pipeline}
use Rattle.gl_eval.specs.declared.staged.Staged.{Staged}
use Rattle.gl_stage.specs.Stages.{Scene, Moving, at_number}
use Rattle.gl_stage.specs.Books.{Book, scene_of}
use Rattle.gl_stage.specs.Rounds.{Layout, RunsTo, IsEnd, begun, due, names_of, end_of, through, behind_round, rounds, run_end}
use Rattle.gl_stage.proofs.Ending.{through_next, through_dropped, through_none, rounds_none, rounds_some, rounds_zero, runs_to_end}
use Rattle.gl_stage.proofs.Staying.{end_is_lawful}

module _ (scene : Scene) (round : List Pipeline) (numbers : List ℕ) (i : ℕ) where
  pub past_one : (old new : Moving) → i < length numbers → old.message.dropped ≡ false → new ≡ at_number scene round (get_or numbers i 0) old
      → (through scene round (drop i numbers) old).message ≡ (through scene round (drop (i + 1) numbers) new).message
  past_one old new within going e =
      ap (λ (ns : List ℕ). (through scene round ns old).message) (drop_more numbers i 0 within)
      ∙ ap (λ (m : Moving). m.message) (through_next scene round (get_or numbers i 0) (drop (i + 1) numbers) old going)
      ∙ ap (λ (m : Moving). (through scene round (drop (i + 1) numbers) m).message) (sym e)

  pub past_drop : (m : Moving) → m.message.dropped ≡ true → (through scene round (drop i numbers) m).message ≡ m.message
  past_drop m e = ap (λ (n : Moving). n.message) (through_dropped scene round (drop i numbers) m e)

drop_past : (ns : List ℕ) (i : ℕ) → length ns ≤ i → drop i ns ≡ []
drop_past [] zero past = refl
drop_past [] (suc i) past = refl
drop_past (n ∷ ns) zero past = absurd (omega (arith, past))
drop_past (n ∷ ns) (suc i) past = drop_past ns i (omega (arith, past))

pub past_all : (scene : Scene) (round : List Pipeline) (numbers : List ℕ) (i : ℕ) (m : Moving) → length numbers ≤ i
    → (through scene round (drop i numbers) m).message ≡ m.message
past_all scene round numbers i m past =
    ap (λ (ns : List ℕ). (through scene round ns m).message) (drop_past numbers i past) ∙ ap (λ (n : Moving). n.message) (through_none scene round m)

-- a list that has some
pub some_of : {X : Type 0} (xs : List X) → 0 < length xs → xs ≢ []
some_of [] lt e = absurd (omega (arith, lt))
some_of (x ∷ xs) lt e = cc e

none_of : {X : Type 0} (xs : List X) → length xs ≡ 0 → xs ≡ []
none_of [] e = refl
none_of (x ∷ xs) e = absurd (omega (arith, e))

module _ (scene : Scene) (layout : Layout) where
  pub one_round : (turns turn : ℕ) (ran new : List (List ℕ)) (message later : Staged) (round : List Pipeline) → turn < turns → message.dropped ≡ false
      → round ≡ due layout ran message.streams → 0 < length round → new ≡ ran ++ names_of round → later ≡ behind_round scene round message
      → rounds (turns - turn) scene layout ran message ≡ rounds (turns - (turn + 1)) scene layout new later
  one_round turns turn ran new message later round lt going is some names went =
      let step : turns - turn ≡ suc (turns - (turn + 1)) = omega (arith, lt) in
      ap (λ (k : ℕ). rounds k scene layout ran message) step
      ∙ rounds_some (turns - (turn + 1)) scene layout ran message round going (sym is) (some_of round some)
      ∙ ap (λ (r : List (List ℕ)). rounds (turns - (turn + 1)) scene layout r (behind_round scene round message)) (sym names)
      ∙ ap (λ (m : Staged). rounds (turns - (turn + 1)) scene layout new m) (sym went)

  pub no_round : (fuel : ℕ) (ran : List (List ℕ)) (message : Staged) (round : List Pipeline) → message.dropped ≡ false
      → round ≡ due layout ran message.streams → length round ≡ 0 → rounds fuel scene layout ran message ≡ end_of message
  no_round fuel ran message round going is none = rounds_none fuel scene layout ran message going (sym is ∙ none_of round none)

  pub rounds_over : (turns turn : ℕ) (ran : List (List ℕ)) (message : Staged) → turns ≤ turn → rounds (turns - turn) scene layout ran message ≡ end_of message
  rounds_over turns turn ran message past =
      let none : turns - turn ≡ 0 = omega (arith, past) in
      ap (λ (k : ℕ). rounds k scene layout ran message) none ∙ rounds_zero scene layout ran message

pub zero_from : (n : ℕ) → true ≡ (n == 0) → n ≡ 0
zero_from n e = grind (arith, nat_tests)

pub some_from : (n : ℕ) → false ≡ (n == 0) → 0 < n
some_from n e = grind (arith, nat_tests)

-- What a run says of the end, of the message itself.

module _ (world : Known) (rules book : Book) (layout : Layout) (state : Staged) (same : rules ≡ book) {E : Type 0} (r : Result Staged E) (is : IfOk r (λ (last : Staged). end_of last ≡ run_end (scene_of world rules) layout state)) where
  along : (last : Staged) → end_of last ≡ run_end (scene_of world rules) layout state → run_end (scene_of world book) layout state ≡ end_of last
  along last e = sym (e ∙ ap (λ (b : Book). run_end (scene_of world b) layout state) same)

  pub run_runs : IfOk r (λ (last : Staged). RunsTo (scene_of world book) layout (begun state) (end_of last))
  run_runs =
      IfOk-weaker r (λ (last : Staged). end_of last ≡ run_end (scene_of world rules) layout state) (λ (last : Staged). RunsTo (scene_of world book) layout (begun state) (end_of last))
      (λ last e. subst (RunsTo (scene_of world book) layout (begun state)) (along last e) (runs_to_end (scene_of world book) layout state)) is

  pub run_ends : 0 < length state.streams → Rises (λ (a b : ℕ). a < b) state.streams → IfOk r (λ (last : Staged). IsEnd (end_of last))
  run_ends some rises =
      IfOk-weaker r (λ (last : Staged). end_of last ≡ run_end (scene_of world rules) layout state) (λ (last : Staged). IsEnd (end_of last))
      (λ last e. subst IsEnd (along last e) (end_is_lawful (scene_of world book) layout state some rises)) is
