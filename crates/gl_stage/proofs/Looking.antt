-- One more pipeline of a round.
use Rattle.std.proofs.Common.{◌≡◌, ℕ, ◌+◌, ◌<◌, Bool, true, false, List, [], ◌∷◌, ◌++◌, length, take, get_or, map, filter, fold, Option, Some, None, sym, ap, ◌∙◌}
use Rattle.std.specs.Prelude.{flat_map}
use Rattle.std.specs.Borrow.{Bor}
use Rattle.std.proofs.lemmas.List.{append-nil, map-append, map_more}
use Rattle.std.proofs.lemmas.List.Sums.{fold-append}
use Rattle.std.proofs.lemmas.Grind.{flat_map-append}
use Rattle.gl_streams.specs.Ids.{with_id}
use Rattle.gl_rulelang.specs.declared.pipeline.Pipeline.{Pipeline}
use Rattle.gl_rulelang.specs.declared.pipeline.Stage.{Stage}
use Rattle.gl_rulelang.specs.Tree.{RuleTree}
use Rattle.gl_functions.specs.Worlds.{Known}
use Rattle.gl_eval.specs.declared.staged.Staged.{Staged}
use Rattle.gl_stage.specs.Stages.{Scene, Moving, reached, held_at, stops_at, held, stops, acted_all, at_number}
use Rattle.gl_stage.specs.Books.{Book, rules_at, scene_of}
use Rattle.gl_stage.specs.Rounds.{numbers_of}
use Rattle.gl_stage.specs.Lent.{pipelines_now}
use Rattle.gl_stage.proofs.Walking.{filter_in, filter_out}

pub one_lent : (round : List (Bor Pipeline)) (i : ℕ) (b : Bor Pipeline) (p : Pipeline) → i < length round → p ≡ (get_or round i b).now
    → pipelines_now (take (i + 1) round) ≡ pipelines_now (take i round) ++ p ∷ []
one_lent round i b p within at = map_more (λ (lent : Bor Pipeline). lent.now) round i b within ∙ ap (λ other. pipelines_now (take i round) ++ other ∷ []) (sym at)

flat_one : {X A : Type 0} (f : X → List A) (xs : List X) (x : X) → flat_map f (xs ++ x ∷ []) ≡ flat_map f xs ++ f x
flat_one f xs x = flat_map-append f xs (x ∷ []) ∙ ap (λ l. flat_map f xs ++ l) (append-nil (f x))

module _ (scene : Scene) (n : ℕ) (m : Moving) (round : List (Bor Pipeline)) (i : ℕ) (b : Bor Pipeline) (p : Pipeline) (within : i < length round) (at : p ≡ (get_or round i b).now) where
  pub held_more : held scene (pipelines_now (take (i + 1) round)) n m ≡ held scene (pipelines_now (take i round)) n m ++ held_at scene m.message (reached n m.stopped p)
  held_more =
      ap (λ (l : List Pipeline). held scene l n m) (one_lent round i b p within at)
      ∙ flat_one (λ (q : Pipeline). held_at scene m.message (reached n m.stopped q)) (pipelines_now (take i round)) p

  abbrev stopping : Pipeline → Bool
  stopping q = stops_at scene m.message (reached n m.stopped q)

  pub stops_in : stops_at scene m.message (reached n m.stopped p) ≡ true
      → stops scene (pipelines_now (take (i + 1) round)) n m ≡ stops scene (pipelines_now (take i round)) n m ++ p.name ∷ []
  stops_in e =
      ap (λ (l : List Pipeline). stops scene l n m) (one_lent round i b p within at)
      ∙ ap (map (λ (q : Pipeline). q.name)) (filter_in stopping (pipelines_now (take i round)) p e)
      ∙ map-append (λ (q : Pipeline). q.name) (filter stopping (pipelines_now (take i round))) (p ∷ [])

  pub stops_out : stops_at scene m.message (reached n m.stopped p) ≡ false
      → stops scene (pipelines_now (take (i + 1) round)) n m ≡ stops scene (pipelines_now (take i round)) n m
  stops_out e =
      ap (λ (l : List Pipeline). stops scene l n m) (one_lent round i b p within at)
      ∙ ap (map (λ (q : Pipeline). q.name)) (filter_out stopping (pipelines_now (take i round)) p e)

-- the numbers of one more pipeline
pub numbers_more : (round : List (Bor Pipeline)) (i : ℕ) (b : Bor Pipeline) (p : Pipeline) → i < length round → p ≡ (get_or round i b).now
    → numbers_of (pipelines_now (take (i + 1) round)) ≡ fold with_id (numbers_of (pipelines_now (take i round))) (map (λ stage. stage.number) p.stages)
numbers_more round i b p within at =
    ap numbers_of (one_lent round i b p within at)
    ∙ ap (fold with_id []) (flat_one (λ (q : Pipeline). map (λ stage. stage.number) q.stages) (pipelines_now (take i round)) p)
    ∙ fold-append with_id [] (flat_map (λ (q : Pipeline). map (λ stage. stage.number) q.stages) (pipelines_now (take i round))) (map (λ stage. stage.number) p.stages)

-- What a look at the stage of one more pipeline tells.

module _ (world : Known) (book rules : Book) (n : ℕ) (m : Moving) (round : List (Bor Pipeline)) (i : ℕ) (b : Bor Pipeline) (p : Pipeline) (within : i < length round) (at : p ≡ (get_or round i b).now) where
  pub past_held : None ≡ reached n m.stopped p → held (scene_of world book) (pipelines_now (take (i + 1) round)) n m ≡ held (scene_of world book) (pipelines_now (take i round)) n m
  past_held none =
      held_more (scene_of world book) n m round i b p within at
      ∙ ap (λ (o : Option Stage). held (scene_of world book) (pipelines_now (take i round)) n m ++ held_at (scene_of world book) m.message o) (sym none)
      ∙ append-nil (held (scene_of world book) (pipelines_now (take i round)) n m)

  pub past_stops : None ≡ reached n m.stopped p → stops (scene_of world book) (pipelines_now (take (i + 1) round)) n m ≡ stops (scene_of world book) (pipelines_now (take i round)) n m
  past_stops none = stops_out (scene_of world book) n m round i b p within at (ap (stops_at (scene_of world book) m.message) (sym none))

  module _ (stage : Stage) (same : rules ≡ book) (there : Some stage ≡ reached n m.stopped p) where
    pub look_holds : (before after : List ℕ) → rules_at book before ≡ held (scene_of world book) (pipelines_now (take i round)) n m
        → rules_at rules after ≡ rules_at rules before ++ held_at (scene_of world rules) m.message (Some stage)
        → rules_at book after ≡ held (scene_of world book) (pipelines_now (take (i + 1) round)) n m
    look_holds before after so_far new =
        ap (λ (r : Book). rules_at r after) (sym same)
        ∙ new
        ∙ ap (λ (r : Book). rules_at r before ++ held_at (scene_of world r) m.message (Some stage)) same
        ∙ ap (λ (l : List RuleTree). l ++ held_at (scene_of world book) m.message (Some stage)) so_far
        ∙ ap (λ (o : Option Stage). held (scene_of world book) (pipelines_now (take i round)) n m ++ held_at (scene_of world book) m.message o) there
        ∙ sym (held_more (scene_of world book) n m round i b p within at)

    stops_is : (answer : Bool) → answer ≡ stops_at (scene_of world rules) m.message (Some stage) → stops_at (scene_of world book) m.message (reached n m.stopped p) ≡ answer
    stops_is answer e =
        ap (stops_at (scene_of world book) m.message) (sym there) ∙ ap (λ (r : Book). stops_at (scene_of world r) m.message (Some stage)) (sym same) ∙ sym e

    pub look_stops : (answer : Bool) (before after : List (List ℕ)) → answer ≡ stops_at (scene_of world rules) m.message (Some stage) → answer ≡ true
        → before ≡ stops (scene_of world book) (pipelines_now (take i round)) n m → after ≡ before ++ p.name ∷ []
        → after ≡ stops (scene_of world book) (pipelines_now (take (i + 1) round)) n m
    look_stops answer before after e passes so_far new =
        new
        ∙ ap (λ (l : List (List ℕ)). l ++ p.name ∷ []) so_far
        ∙ sym (stops_in (scene_of world book) n m round i b p within at (stops_is answer e ∙ passes))

    pub look_passes : (answer : Bool) (before : List (List ℕ)) → answer ≡ stops_at (scene_of world rules) m.message (Some stage) → answer ≡ false
        → before ≡ stops (scene_of world book) (pipelines_now (take i round)) n m
        → before ≡ stops (scene_of world book) (pipelines_now (take (i + 1) round)) n m
    look_passes answer before e fails so_far =
        so_far ∙ sym (stops_out (scene_of world book) n m round i b p within at (stops_is answer e ∙ fails))

-- what is behind a number
pub number_done : (world : Known) (book rules : Book) (round : List Pipeline) (n : ℕ) (m : Moving) (places : List ℕ) (message : Staged) (stopped more : List (List ℕ)) → rules ≡ book
    → rules_at book places ≡ held (scene_of world book) round n m → more ≡ stops (scene_of world book) round n m
    → message ≡ acted_all world (rules_at rules places) m.message → stopped ≡ m.stopped ++ more
    → record { message = message; stopped = stopped } ≡ at_number (scene_of world book) round n m
number_done world book rules round n m places message stopped more same holding stopping acts appends =
    let first : message ≡ acted_all world (held (scene_of world book) round n m) m.message =
    acts ∙ ap (λ (r : Book). acted_all world (rules_at r places) m.message) same ∙ ap (λ (l : List RuleTree). acted_all world l m.message) holding in
    let second : stopped ≡ m.stopped ++ stops (scene_of world book) round n m = appends ∙ ap (λ (l : List (List ℕ)). m.stopped ++ l) stopping in
    λ i. record { message = first i; stopped = second i }
