-- The frames of a piece, one after another.
use Rattle.std.specs.Prelude.{◌≡◌, ℕ, ◌<◌, ◌≤◌, Bool, true, false, List, [], ◌∷◌, ◌++◌, length, take, drop, Option}
use Rattle.std.proofs.Common.{refl, ◌∙◌, ap, sym, subst, append_assoc, append-nil, take-append-drop, arith}
use Rattle.std.proofs.lemmas.Bool.{false≢true}
use Rattle.std.proofs.lemmas.List.{take_all}
use Rattle.std.proofs.lemmas.List.Sums.{fold-append}
use Rattle.gl_base.specs.declared.fed.Fed.{Fed}
use Rattle.gl_base.specs.declared.fed.Fed.TheVariants.{Nothing, Whole, TooLong, Closed}
use Rattle.gl_fields.specs.declared.input_kind.InputKind.{InputKind}
use Rattle.gl_outside.specs.Disk.{Image, DiskState, Tells}
use Rattle.gl_node.specs.Node.{Keeps, NodeOn}
use Rattle.gl_node.specs.Standing.{StandsFor}
use Rattle.gl_node.specs.State.{State, state_after, happened}
use Rattle.gl_cli.specs.declared.desk.Desk.{Desk}
use Rattle.gl_cli.specs.declared.frames.Frames.{Frames}
use Rattle.gl_cli.specs.Connections.{ended_frames, is_closed, new_frames}
use Rattle.gl_cli.specs.Opened.{FramesStandFor, Took, frame_in}
use Rattle.gl_cli.specs.Runs.{Turn, frames_turn, payload_step, turn_events}
use Rattle.gl_cli.specs.Sessions.{DoesTurn, CutsTurn, DuringTurn, CutLeaves, payload_turn}
use Rattle.gl_cli.proofs.Sinks.{Appends-nothing}
use Rattle.gl_cli.proofs.Steps.{both, does_both, cuts_first, cuts_second, during_first, during_both, leaves_in_first, leaves_in_second, does_as, cuts_as, during_as, leaves_as, during_nothing}

-- frames behind frames
pub frames_both : (moment : ℕ) (input peer : List ℕ) (xs ys : List (List ℕ)) (s : State)
    → both (frames_turn moment input peer xs) (frames_turn moment input peer ys) s ≡ frames_turn moment input peer (xs ++ ys) s
frames_both moment input peer [] ys s = refl
frames_both moment input peer (x ∷ xs) ys s =
    let t : State = state_after s (payload_step moment input peer x s).events in
    let there : state_after s ((payload_step moment input peer x s).events ++ turn_events (frames_turn moment input peer xs t)) ≡ state_after t (turn_events (frames_turn moment input peer xs t))
    = fold-append happened s (payload_step moment input peer x s).events (turn_events (frames_turn moment input peer xs t)) in
    ap (λ (u : State). payload_step moment input peer x s ∷ (frames_turn moment input peer xs t ++ frames_turn moment input peer ys u)) there
    ∙ ap (λ (turn : Turn). payload_step moment input peer x s ∷ turn) (frames_both moment input peer xs ys t)

dropped : (xs ys : List (List ℕ)) → drop (length xs) (xs ++ ys) ≡ ys
dropped [] ys = refl
dropped (x ∷ xs) ys = dropped xs ys

-- what has ended in a piece
new_is : (kind : InputKind) (before piece : List ℕ) (done : List (List ℕ)) → ended_frames kind (before ++ piece) ≡ ended_frames kind before ++ done → done ≡ new_frames kind before piece
new_is kind before piece done e =
    sym (ap (λ (fs : List (List ℕ)). drop (length (ended_frames kind before)) fs) e ∙ dropped (ended_frames kind before) done)

-- A front of a piece was taken: its frames were served, one after another, and the reader stands behind it.
pub record Served (moment : ℕ) (input peer : List ℕ) (kind : InputKind) (before piece rest : List ℕ) (frames : Frames) (old now : Desk) (from to : Option (List ℕ)) (d0 d1 : DiskState) : Type 0 where
  pub front : List ℕ
  pub whole : piece ≡ front ++ rest
  pub stands : FramesStandFor kind frames (before ++ front)
  pub going : is_closed kind (before ++ front) ≡ false
  pub done : List (List ℕ)
  pub ended : ended_frames kind (before ++ front) ≡ ended_frames kind before ++ done
  pub does : DoesTurn (frames_turn moment input peer done) old now from to
  pub during : DuringTurn (frames_turn moment input peer done) old d0 d1

-- nothing was taken yet
pub served_none : (moment : ℕ) (input peer : List ℕ) (kind : InputKind) (before piece : List ℕ) (frames : Frames) (desk : Desk) (sink : Option (List ℕ)) (d : DiskState)
    → FramesStandFor kind frames before → is_closed kind before ≡ false
    → ((s : State) → Keeps desk.node s → NodeOn desk.node d → (c : Image) → d.may_leave c → StandsFor c s)
    → Served moment input peer kind before piece piece frames desk desk sink sink d d
served_none moment input peer kind before piece frames desk sink d stands going shows = record {
  front = [];
  whole = refl;
  stands = subst (λ (bs : List ℕ). FramesStandFor kind frames bs) (sym (append-nil before)) stands;
  going = ap (λ (bs : List ℕ). is_closed kind bs) (append-nil before) ∙ going;
  done = [];
  ended = ap (λ (bs : List ℕ). ended_frames kind bs) (append-nil before) ∙ sym (append-nil (ended_frames kind before));
  does = λ s kept. (kept, Appends-nothing sink);
  during = during_nothing desk d shows (frames_turn moment input peer []);
}

module _ (moment : ℕ) (input peer : List ℕ) (kind : InputKind) (before piece rest : List ℕ) (frames : Frames) (old now : Desk) (from to : Option (List ℕ)) (d0 d1 : DiskState)
    (served : Served moment input peer kind before piece rest frames old now from to d0 d1) where
  -- the rest is taken
  taken_all : (n : ℕ) → n ≡ length rest → (before ++ served.front) ++ take n rest ≡ before ++ piece
  taken_all n e =
      ap (λ (bs : List ℕ). (before ++ served.front) ++ bs) (take_all n rest (let m : length rest ≤ n = omega (arith, e) in m))
      ∙ append_assoc before served.front rest ∙ ap (λ (bs : List ℕ). before ++ bs) (sym served.whole)

  -- no frame ended in the rest
  none_more : (n : ℕ) → n ≡ length rest → ended_frames kind ((before ++ served.front) ++ take n rest) ≡ ended_frames kind (before ++ served.front)
      → served.done ≡ new_frames kind before piece
  none_more n e none =
      new_is kind before piece served.done (ap (λ (bs : List ℕ). ended_frames kind bs) (sym (taken_all n e)) ∙ none ∙ served.ended)

  pub served_all : (n : ℕ) (frames' : Frames) → n ≡ length rest → ended_frames kind ((before ++ served.front) ++ take n rest) ≡ ended_frames kind (before ++ served.front)
      → FramesStandFor kind frames' ((before ++ served.front) ++ take n rest)
      → (closed : Bool) → is_closed kind ((before ++ served.front) ++ take n rest) ≡ closed
      → ((closed ≡ is_closed kind (before ++ piece)) × FramesStandFor kind frames' (before ++ piece))
      × DoesTurn (frames_turn moment input peer (new_frames kind before piece)) old now from to
      × DuringTurn (frames_turn moment input peer (new_frames kind before piece)) old d0 d1
  served_all n frames' e none stands closed is =
      let all : served.done ≡ new_frames kind before piece = none_more n e none in
      let same : (s : State) → frames_turn moment input peer served.done s ≡ frames_turn moment input peer (new_frames kind before piece) s
      = λ s. ap (λ (fs : List (List ℕ)). frames_turn moment input peer fs s) all in (
        (
          sym is ∙ ap (λ (bs : List ℕ). is_closed kind bs) (taken_all n e),
          subst (λ (bs : List ℕ). FramesStandFor kind frames' bs) (taken_all n e) stands,
        ),
        does_as old (frames_turn moment input peer served.done) (frames_turn moment input peer (new_frames kind before piece)) (λ s kept. same s) now from to served.does,
        during_as old (frames_turn moment input peer served.done) (frames_turn moment input peer (new_frames kind before piece)) (λ s kept. same s) d0 d1 served.during,
      )

  -- by what the reader answers of the rest
  module _ (fed : Fed) (n : ℕ) (frames' : Frames)
      (took : Took fed kind (before ++ served.front) rest n (frame_in frames') × FramesStandFor kind frames' ((before ++ served.front) ++ take n rest)) where
    pub served_nothing : fed ≡ Nothing
        → ((false ≡ is_closed kind (before ++ piece)) × FramesStandFor kind frames' (before ++ piece))
        × DoesTurn (frames_turn moment input peer (new_frames kind before piece)) old now from to
        × DuringTurn (frames_turn moment input peer (new_frames kind before piece)) old d0 d1
    served_nothing is =
        let t : Took Nothing kind (before ++ served.front) rest n (frame_in frames')
        = subst (λ (f : Fed). Took f kind (before ++ served.front) rest n (frame_in frames')) is took.0 in
        served_all n frames' t.0 t.1 took.1 false t.2

    pub served_too_long : fed ≡ TooLong
        → ((true ≡ is_closed kind (before ++ piece)) × FramesStandFor kind frames' (before ++ piece))
        × DoesTurn (frames_turn moment input peer (new_frames kind before piece)) old now from to
        × DuringTurn (frames_turn moment input peer (new_frames kind before piece)) old d0 d1
    served_too_long is =
        let t : Took TooLong kind (before ++ served.front) rest n (frame_in frames')
        = subst (λ (f : Fed). Took f kind (before ++ served.front) rest n (frame_in frames')) is took.0 in
        served_all n frames' t.0 t.1 took.1 true t.2

    pub never_closed : fed ≡ Closed → ⊥
    never_closed is = false≢true (sym served.going ∙ subst (λ (f : Fed). Took f kind (before ++ served.front) rest n (frame_in frames')) is took.0)

    pub served_whole : fed ≡ Whole → (frame : List ℕ) → frame ≡ frame_in frames'
        → (0 < n) × (ended_frames kind ((before ++ served.front) ++ take n rest) ≡ ended_frames kind (before ++ served.front) ++ frame ∷ []) × (is_closed kind ((before ++ served.front) ++ take n rest) ≡ false)
    served_whole is frame e =
        let t : Took Whole kind (before ++ served.front) rest n (frame_in frames')
        = subst (λ (f : Fed). Took f kind (before ++ served.front) rest n (frame_in frames')) is took.0 in
        (t.0, t.1 ∙ ap (λ (f : List ℕ). ended_frames kind (before ++ served.front) ++ f ∷ []) (sym e), t.2)

  -- a frame more has ended
  module _ (n : ℕ) (frames' : Frames) (frame : List ℕ) (ends : ended_frames kind ((before ++ served.front) ++ take n rest) ≡ ended_frames kind (before ++ served.front) ++ frame ∷ [])
      (next : Desk) (last : Option (List ℕ)) (d2 : DiskState) (same : d1.tells ≡ d0.tells) (stays : Tells d0 → NodeOn old.node d0 → NodeOn now.node d1) where
    one_more : ended_frames kind (before ++ (served.front ++ take n rest)) ≡ ended_frames kind before ++ (served.done ++ frame ∷ [])
    one_more =
        ap (λ (bs : List ℕ). ended_frames kind bs) (sym (append_assoc before served.front (take n rest)))
        ∙ ends ∙ ap (λ (fs : List (List ℕ)). fs ++ frame ∷ []) served.ended ∙ append_assoc (ended_frames kind before) served.done (frame ∷ [])

    pub served_more : (left : List ℕ) → left ≡ drop n rest → FramesStandFor kind frames' ((before ++ served.front) ++ take n rest) → is_closed kind ((before ++ served.front) ++ take n rest) ≡ false
        → DoesTurn (payload_turn moment input peer frame) now next to last → DuringTurn (payload_turn moment input peer frame) now d1 d2
        → Served moment input peer kind before piece left frames' old next from last d0 d2
    served_more left gone stands going does during = record {
      front = served.front ++ take n rest;
      whole = served.whole ∙ ap (λ (bs : List ℕ). served.front ++ bs) (sym (take-append-drop n rest)) ∙ sym (append_assoc served.front (take n rest) (drop n rest)) ∙ ap (λ (bs : List ℕ). (served.front ++ take n rest) ++ bs) (sym gone);
      stands = subst (λ (bs : List ℕ). FramesStandFor kind frames' bs) (append_assoc before served.front (take n rest)) stands;
      going = ap (λ (bs : List ℕ). is_closed kind bs) (sym (append_assoc before served.front (take n rest))) ∙ going;
      done = served.done ++ frame ∷ [];
      ended = one_more;
      does = does_as old (both (frames_turn moment input peer served.done) (payload_turn moment input peer frame)) (frames_turn moment input peer (served.done ++ frame ∷ []))
          (λ s kept. frames_both moment input peer served.done (frame ∷ []) s) next from last
          (does_both (frames_turn moment input peer served.done) (payload_turn moment input peer frame) old now next from to last served.does does);
      during = during_as old (both (frames_turn moment input peer served.done) (payload_turn moment input peer frame)) (frames_turn moment input peer (served.done ++ frame ∷ []))
          (λ s kept. frames_both moment input peer served.done (frame ∷ []) s) d0 d2
          (during_both (frames_turn moment input peer served.done) (payload_turn moment input peer frame) old now from to d0 d1 d2 served.does same stays served.during during);
    }

    -- the frames of the whole piece go on behind this one
    module _ (go_on : (more : List ℕ) → (later : List (List ℕ)) × (ended_frames kind (((before ++ served.front) ++ take n rest) ++ more) ≡ ended_frames kind ((before ++ served.front) ++ take n rest) ++ later)) where
      later : List (List ℕ)
      later = (go_on (drop n rest)).0

      abbrev ahead : State → Turn
      ahead = both (both (frames_turn moment input peer served.done) (payload_turn moment input peer frame)) (frames_turn moment input peer later)

      all_frames : (served.done ++ frame ∷ []) ++ later ≡ new_frames kind before piece
      unfolding later
      all_frames = new_is kind before piece ((served.done ++ frame ∷ []) ++ later)
          (ap (λ (bs : List ℕ). ended_frames kind bs)
          (ap (λ (bs : List ℕ). before ++ bs) (served.whole ∙ ap (λ (bs : List ℕ). served.front ++ bs) (sym (take-append-drop n rest)))
          ∙ sym (append_assoc before served.front (take n rest ++ drop n rest)) ∙ sym (append_assoc (before ++ served.front) (take n rest) (drop n rest)))
          ∙ (go_on (drop n rest)).1
          ∙ ap (λ (fs : List (List ℕ)). fs ++ later) (ends ∙ ap (λ (fs : List (List ℕ)). fs ++ frame ∷ []) served.ended ∙ append_assoc (ended_frames kind before) served.done (frame ∷ []))
          ∙ append_assoc (ended_frames kind before) (served.done ++ frame ∷ []) later)

      ahead_is : (s : State) → ahead s ≡ frames_turn moment input peer (new_frames kind before piece) s
      ahead_is s =
          ap (λ (turn : Turn). turn ++ frames_turn moment input peer later (state_after s (turn_events turn))) (frames_both moment input peer served.done (frame ∷ []) s)
          ∙ frames_both moment input peer (served.done ++ frame ∷ []) later s
          ∙ ap (λ (fs : List (List ℕ)). frames_turn moment input peer fs s) all_frames

      pub served_cut : CutsTurn (payload_turn moment input peer frame) now to last → CutsTurn (frames_turn moment input peer (new_frames kind before piece)) old from last
      served_cut cuts = cuts_as old ahead (frames_turn moment input peer (new_frames kind before piece)) (λ s kept. ahead_is s) from last
          (cuts_first (both (frames_turn moment input peer served.done) (payload_turn moment input peer frame)) (frames_turn moment input peer later) old from last
          (cuts_second (frames_turn moment input peer served.done) (payload_turn moment input peer frame) old now from to last served.does cuts))

      pub served_during : DuringTurn (payload_turn moment input peer frame) now d1 d2 → DuringTurn (frames_turn moment input peer (new_frames kind before piece)) old d0 d2
      served_during during = during_as old ahead (frames_turn moment input peer (new_frames kind before piece)) (λ s kept. ahead_is s) d0 d2
          (during_first (both (frames_turn moment input peer served.done) (payload_turn moment input peer frame)) (frames_turn moment input peer later) old d0 d2
          (during_both (frames_turn moment input peer served.done) (payload_turn moment input peer frame) old now from to d0 d1 d2 served.does same stays served.during during))

      pub served_leaves : CutLeaves (payload_turn moment input peer frame) now to last d1 d2 → CutLeaves (frames_turn moment input peer (new_frames kind before piece)) old from last d0 d2
      served_leaves leaves = leaves_as old ahead (frames_turn moment input peer (new_frames kind before piece)) (λ s kept. ahead_is s) from last d0 d2
          (leaves_in_first (both (frames_turn moment input peer served.done) (payload_turn moment input peer frame)) (frames_turn moment input peer later) old from last d0 d2
          (leaves_in_second (frames_turn moment input peer served.done) (payload_turn moment input peer frame) old now from to last d0 d1 d2 served.does same stays leaves))
