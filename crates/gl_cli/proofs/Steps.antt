-- One turn behind another.
use Rattle.std.specs.Prelude.{◌≡◌, ℕ, ◌+◌, ◌≤◌, Bool, IsTrue, List, [], ◌∷◌, ◌++◌, length, take, drop, Option}
use Rattle.std.proofs.Common.{refl, ◌∙◌, ap, sym, subst, arith, append_assoc, append-nil, length-append}
use Rattle.std.proofs.Math.Seq.{take-append-add}
use Rattle.std.proofs.lemmas.Grind.{flat_map-append}
use Rattle.std.proofs.lemmas.List.{take-append-le, take_all}
use Rattle.std.proofs.lemmas.List.Sums.{fold-append}
use Rattle.std.specs.Io.KnownBytes.{Appends}
use Rattle.gl_outside.specs.Disk.{Image, DiskState, LeavesOnly, Tells}
use Rattle.gl_outside.proofs.Moments.{started, then, at_end, weaker}
use Rattle.gl_node.specs.Moments.{LeftBy}
use Rattle.gl_node.specs.Node.{Keeps, NodeOn}
use Rattle.gl_node.specs.Standing.{StandsFor}
use Rattle.gl_node.specs.State.{State, Event, state_after, happened}
use Rattle.gl_cli.specs.declared.desk.Desk.{Desk}
use Rattle.gl_cli.specs.Answers.{words_text}
use Rattle.gl_cli.specs.Crashes.{told_events}
use Rattle.gl_cli.specs.Desk.{DeskKeeps}
use Rattle.gl_cli.specs.Runs.{Step, Turn, answered, turn_events, turn_text}
use Rattle.gl_cli.specs.Sessions.{Answered, CutShort, CutAt, DoesTurn, CutsTurn, DuringTurn, CutLeaves}
use Rattle.gl_cli.specs.Writing.{BeginsWith, AppendsSome}
use Rattle.gl_cli.proofs.Sinks.{Appends-nothing, Appends-more}

-- one turn, and then another in the state that it leaves
abbrev pub both : (State → Turn) → (State → Turn) → State → Turn
both first second s = first s ++ second (state_after s (turn_events (first s)))

events_both : (xs ys : Turn) → turn_events (xs ++ ys) ≡ turn_events xs ++ turn_events ys
events_both xs ys = flat_map-append (λ (step : Step). step.events) xs ys

text_both : (xs ys : Turn) → turn_text (xs ++ ys) ≡ turn_text xs ++ turn_text ys
text_both xs ys = flat_map-append (λ (step : Step). step.text) xs ys

-- ---- what a front of a text tells of

no_told : (turn : Turn) → told_events turn [] ≡ 0
no_told [] = refl
no_told (step ∷ turn) = refl

told_step : (step : Step) (turn : Turn) (front : List ℕ) → told_events (step ∷ turn) front ≤ length step.events + told_events turn (drop (length step.text) front)
told_step step turn [] = omega arith
told_step step turn (b ∷ front) = omega arith

told_few : (turn : Turn) (front : List ℕ) → told_events turn front ≤ length (turn_events turn)
told_few [] front = omega arith
told_few (step ∷ turn) front =
    omega (arith, told_step step turn front, told_few turn (drop (length step.text) front), length-append step.events (turn_events turn))

-- a front without a text, which may go on behind it
behind_text : (text more front rest : List ℕ) → text ++ more ≡ front ++ rest → BeginsWith more (drop (length text) front)
behind_text [] more front rest e = (rest, e)
behind_text (b ∷ text) more [] rest e = (more, refl)
behind_text (b ∷ text) more (a ∷ front) rest e = let f : text ++ more ≡ front ++ rest = cc in behind_text text more front rest f

no_front : (b : ℕ) (front rest : List ℕ) → [] ≡ (b ∷ front) ++ rest → ⊥
no_front b front rest e = cc

told_first : (xs ys : Turn) (front : List ℕ) → BeginsWith (turn_text xs) front → told_events (xs ++ ys) front ≡ told_events xs front
told_first [] ys [] begins = no_told ys
told_first [] ys (b ∷ front) begins = absurd (no_front b front begins.0 begins.1)
told_first (step ∷ xs) ys [] begins = refl
told_first (step ∷ xs) ys (b ∷ front) begins =
    ap (λ (n : ℕ). length step.events + n) (told_first xs ys (drop (length step.text) (b ∷ front)) (behind_text step.text (turn_text xs) (b ∷ front) begins.0 begins.1))

dropped : (xs ys : List ℕ) → drop (length xs) (xs ++ ys) ≡ ys
dropped [] ys = refl
dropped (x ∷ xs) ys = dropped xs ys

told_second : (xs ys : Turn) (front : List ℕ) → told_events (xs ++ ys) (turn_text xs ++ front) ≤ length (turn_events xs) + told_events ys front
told_second [] ys front = omega arith
told_second (step ∷ xs) ys front =
    let e : drop (length step.text) ((step.text ++ turn_text xs) ++ front) ≡ turn_text xs ++ front
    = ap (λ (t : List ℕ). drop (length step.text) t) (append_assoc step.text (turn_text xs) front) ∙ dropped step.text (turn_text xs ++ front) in
    let more : told_events (xs ++ ys) (drop (length step.text) ((step.text ++ turn_text xs) ++ front)) ≤ length (turn_events xs) + told_events ys front
    = subst (λ (t : List ℕ). told_events (xs ++ ys) t ≤ length (turn_events xs) + told_events ys front) (sym e) (told_second xs ys front) in
    omega (arith, told_step step (xs ++ ys) ((step.text ++ turn_text xs) ++ front), more, length-append step.events (turn_events xs))

-- ---- an image behind a front of the events

some_of_both : (s : State) (xs ys : Turn) (n : ℕ) → n ≤ length (turn_events xs) → state_after s (take n (turn_events (xs ++ ys))) ≡ state_after s (take n (turn_events xs))
some_of_both s xs ys n few =
    ap (λ (es : List Event). state_after s (take n es)) (events_both xs ys) ∙ ap (λ (es : List Event). state_after s es) (take-append-le n (turn_events xs) (turn_events ys) few)

all_and_some : (s : State) (xs ys : Turn) (n : ℕ)
    → state_after s (take (length (turn_events xs) + n) (turn_events (xs ++ ys))) ≡ state_after (state_after s (turn_events xs)) (take n (turn_events ys))
all_and_some s xs ys n =
    ap (λ (es : List Event). state_after s (take (length (turn_events xs) + n) es)) (events_both xs ys)
    ∙ ap (λ (es : List Event). state_after s es) (take-append-add (turn_events xs) (turn_events ys) n)
    ∙ fold-append happened s (turn_events xs) (take n (turn_events ys))

as_many : (xs ys : Turn) → length (turn_events (xs ++ ys)) ≡ length (turn_events xs) + length (turn_events ys)
as_many xs ys = ap (λ (es : List Event). length es) (events_both xs ys) ∙ length-append (turn_events xs) (turn_events ys)

pub leaves_first_turn : (s : State) (xs ys : Turn) (d0 d1 : DiskState) → LeavesOnly d0 d1 (LeftBy s (turn_events xs) d0) → LeavesOnly d0 d1 (LeftBy s (turn_events (xs ++ ys)) d0)
leaves_first_turn s xs ys d0 d1 run = weaker d0 d1 (LeftBy s (turn_events xs) d0) (LeftBy s (turn_events (xs ++ ys)) d0) run (λ c left. record {
  from = left.from;
  image = left.image;
  steps = record {
    elsewhere = left.steps.elsewhere;
    count = left.steps.count;
    few = omega (arith, left.steps.few, as_many xs ys);
    stands = subst (λ (u : State). StandsFor c u) (sym (some_of_both s xs ys left.steps.count left.steps.few)) left.steps.stands;
  };
})

pub leaves_both_turns : (s : State) (xs ys : Turn) (d0 d1 d2 : DiskState) → LeavesOnly d0 d1 (LeftBy s (turn_events xs) d0)
    → LeavesOnly d1 d2 (LeftBy (state_after s (turn_events xs)) (turn_events ys) d1) → LeavesOnly d0 d2 (LeftBy s (turn_events (xs ++ ys)) d0)
leaves_both_turns s xs ys d0 d1 d2 first second =
    then d0 d1 d2 (LeftBy s (turn_events xs) d0) (LeftBy (state_after s (turn_events xs)) (turn_events ys) d1) (LeftBy s (turn_events (xs ++ ys)) d0) first second
    (λ c left. record {
      from = left.from;
      image = left.image;
      steps = record {
        elsewhere = left.steps.elsewhere;
        count = left.steps.count;
        few = omega (arith, left.steps.few, as_many xs ys);
        stands = subst (λ (u : State). StandsFor c u) (sym (some_of_both s xs ys left.steps.count left.steps.few)) left.steps.stands;
      };
    })
    (λ c left.
    let was = at_end d0 d1 (LeftBy s (turn_events xs) d0) first left.from left.image in
    record {
      from = was.from;
      image = was.image;
      steps = record {
        elsewhere = λ b journal index. left.steps.elsewhere b journal index ∙ was.steps.elsewhere b journal index;
        count = length (turn_events xs) + left.steps.count;
        few = omega (arith, left.steps.few, as_many xs ys);
        stands = subst (λ (u : State). StandsFor c u) (sym (all_and_some s xs ys left.steps.count)) left.steps.stands;
      };
    })

-- ---- an end in one of two turns

cut_first : (s : State) (xs ys : Turn) (before now : Option (List ℕ)) (c : Image) → CutAt s xs before now c → CutAt s (xs ++ ys) before now c
cut_first s xs ys before now c cut = record {
  front = cut.front;
  begins = (
    cut.begins.0 ++ turn_text ys,
    text_both xs ys ∙ ap (λ (t : List ℕ). t ++ turn_text ys) cut.begins.1 ∙ append_assoc cut.front cut.begins.0 (turn_text ys),
  );
  gained = cut.gained;
  count = cut.count;
  few = omega (arith, cut.few, as_many xs ys);
  told = omega (arith, cut.told, told_first xs ys cut.front cut.begins);
  stands = subst (λ (u : State). StandsFor c u) (sym (some_of_both s xs ys cut.count cut.few)) cut.stands;
}

cut_second : (s : State) (xs ys : Turn) (before mid now : Option (List ℕ)) (c : Image) → Answered xs before mid → CutAt (state_after s (turn_events xs)) ys mid now c
    → CutAt s (xs ++ ys) before now c
cut_second s xs ys before mid now c gained cut = record {
  front = turn_text xs ++ cut.front;
  begins = (
    cut.begins.0,
    text_both xs ys ∙ ap (λ (t : List ℕ). turn_text xs ++ t) cut.begins.1 ∙ sym (append_assoc (turn_text xs) cut.front cut.begins.0),
  );
  gained = Appends-more before mid now (turn_text xs) cut.front gained cut.gained;
  count = length (turn_events xs) + cut.count;
  few = omega (arith, cut.few, as_many xs ys);
  told = omega (arith, cut.told, told_second xs ys cut.front);
  stands = subst (λ (u : State). StandsFor c u) (sym (all_and_some s xs ys cut.count)) cut.stands;
}

-- ---- turns by the state before them

-- two turns, both done
pub does_both : (first second : State → Turn) (a b c : Desk) (before mid now : Option (List ℕ)) → DoesTurn first a b before mid → DoesTurn second b c mid now
    → DoesTurn (both first second) a c before now
does_both first second a b c before mid now does more s kept =
    let t : State = state_after s (turn_events (first s)) in
    let p : DeskKeeps b t × Answered (first s) before mid = does s kept in
    let q : DeskKeeps c (state_after t (turn_events (second t))) × Answered (second t) mid now = more t p.0 in (
      subst (λ (u : State). DeskKeeps c u)
          (sym (fold-append happened s (turn_events (first s)) (turn_events (second t))) ∙ ap (λ (es : List Event). state_after s es) (sym (events_both (first s) (second t))))
          q.0,
      subst (λ (x : List ℕ). Appends before now x) (sym (text_both (first s) (second t)))
          (Appends-more before mid now (turn_text (first s)) (turn_text (second t)) p.1 q.1),
    )

pub cuts_first : (first second : State → Turn) (desk : Desk) (before now : Option (List ℕ)) → CutsTurn first desk before now → CutsTurn (both first second) desk before now
cuts_first first second desk before now cuts s kept =
    let t : State = state_after s (turn_events (first s)) in
    let cut : CutShort (first s) before now = cuts s kept in
    record {
      front = cut.front;
      begins = (
        cut.begins.0 ++ turn_text (second t),
        text_both (first s) (second t) ∙ ap (λ (x : List ℕ). x ++ turn_text (second t)) cut.begins.1 ∙ append_assoc cut.front cut.begins.0 (turn_text (second t)),
      );
      gained = cut.gained;
    }

pub cuts_second : (first second : State → Turn) (a b : Desk) (before mid now : Option (List ℕ)) → DoesTurn first a b before mid → CutsTurn second b mid now
    → CutsTurn (both first second) a before now
cuts_second first second a b before mid now does cuts s kept =
    let t : State = state_after s (turn_events (first s)) in
    let p : DeskKeeps b t × Answered (first s) before mid = does s kept in
    let cut : CutShort (second t) mid now = cuts t p.0 in
    record {
      front = turn_text (first s) ++ cut.front;
      begins = (
        cut.begins.0,
        text_both (first s) (second t) ∙ ap (λ (x : List ℕ). turn_text (first s) ++ x) cut.begins.1 ∙ sym (append_assoc (turn_text (first s)) cut.front cut.begins.0),
      );
      gained = Appends-more before mid now (turn_text (first s)) cut.front p.1 cut.gained;
    }

pub during_first : (first second : State → Turn) (desk : Desk) (d0 d1 : DiskState) → DuringTurn first desk d0 d1 → DuringTurn (both first second) desk d0 d1
during_first first second desk d0 d1 during tells on s kept =
    leaves_first_turn s (first s) (second (state_after s (turn_events (first s)))) d0 d1 (during tells on s kept)

pub during_both : (first second : State → Turn) (a b : Desk) (before mid : Option (List ℕ)) (d0 d1 d2 : DiskState) → DoesTurn first a b before mid
    → d1.tells ≡ d0.tells → (Tells d0 → NodeOn a.node d0 → NodeOn b.node d1)
    → DuringTurn first a d0 d1 → DuringTurn second b d1 d2 → DuringTurn (both first second) a d0 d2
during_both first second a b before mid d0 d1 d2 does same stays during more tells on s kept =
    leaves_both_turns s (first s) (second (state_after s (turn_events (first s)))) d0 d1 d2 (during tells on s kept)
    (more (subst (λ (t : Bool). IsTrue t) (sym same) tells) (stays tells on) (state_after s (turn_events (first s))) (does s kept).0)

pub leaves_in_first : (first second : State → Turn) (desk : Desk) (before now : Option (List ℕ)) (d0 d1 : DiskState) → CutLeaves first desk before now d0 d1
    → CutLeaves (both first second) desk before now d0 d1
leaves_in_first first second desk before now d0 d1 leaves tells on s kept c left =
    cut_first s (first s) (second (state_after s (turn_events (first s)))) before now c (leaves tells on s kept c left)

pub leaves_in_second : (first second : State → Turn) (a b : Desk) (before mid now : Option (List ℕ)) (d0 d1 d2 : DiskState) → DoesTurn first a b before mid
    → d1.tells ≡ d0.tells → (Tells d0 → NodeOn a.node d0 → NodeOn b.node d1)
    → CutLeaves second b mid now d1 d2 → CutLeaves (both first second) a before now d0 d2
leaves_in_second first second a b before mid now d0 d1 d2 does same stays leaves tells on s kept c left =
    let p : DeskKeeps b (state_after s (turn_events (first s))) × Answered (first s) before mid = does s kept in
    cut_second s (first s) (second (state_after s (turn_events (first s)))) before mid now c p.1
    (leaves (subst (λ (t : Bool). IsTrue t) (sym same) tells) (stays tells on) (state_after s (turn_events (first s))) p.0 c left)

-- ---- the same turn by another name

module _ (desk : Desk) (turn other : State → Turn) (same : (s : State) → DeskKeeps desk s → turn s ≡ other s) where
  pub does_as : (new : Desk) (before now : Option (List ℕ)) → DoesTurn turn desk new before now → DoesTurn other desk new before now
  does_as new before now does s kept =
      subst (λ (t : Turn). DeskKeeps new (state_after s (turn_events t)) × Answered t before now) (same s kept) (does s kept)

  pub cuts_as : (before now : Option (List ℕ)) → CutsTurn turn desk before now → CutsTurn other desk before now
  cuts_as before now cuts s kept = subst (λ (t : Turn). CutShort t before now) (same s kept) (cuts s kept)

  pub during_as : (d0 d1 : DiskState) → DuringTurn turn desk d0 d1 → DuringTurn other desk d0 d1
  during_as d0 d1 during tells on s kept = subst (λ (t : Turn). LeavesOnly d0 d1 (LeftBy s (turn_events t) d0)) (same s kept) (during tells on s kept)

  pub leaves_as : (before now : Option (List ℕ)) (d0 d1 : DiskState) → CutLeaves turn desk before now d0 d1 → CutLeaves other desk before now d0 d1
  leaves_as before now d0 d1 leaves tells on s kept c left = subst (λ (t : Turn). CutAt s t before now c) (same s kept) (leaves tells on s kept c left)

-- ---- one turn

-- nothing was written
pub cuts_unwritten : (turn : State → Turn) (desk : Desk) (sink : Option (List ℕ)) → CutsTurn turn desk sink sink
cuts_unwritten turn desk sink s kept = record { front = []; begins = (turn_text (turn s), refl); gained = Appends-nothing sink }

pub leaves_unwritten : (turn : State → Turn) (desk : Desk) (sink : Option (List ℕ)) (d0 d1 : DiskState) → DuringTurn turn desk d0 d1 → CutLeaves turn desk sink sink d0 d1
leaves_unwritten turn desk sink d0 d1 during tells on s kept c left =
    let cut = at_end d0 d1 (LeftBy s (turn_events (turn s)) d0) (during tells on s kept) c left in
    record {
      front = [];
      begins = (turn_text (turn s), refl);
      gained = Appends-nothing sink;
      count = cut.steps.count;
      few = cut.steps.few;
      told = omega (arith, no_told (turn s));
      stands = cut.steps.stands;
    }

-- all events have happened
pub leaves_whole : (turn : State → Turn) (desk : Desk) (before now : Option (List ℕ)) (d0 d1 : DiskState) → CutsTurn turn desk before now
    → (Tells d0 → NodeOn desk.node d0 → (s : State) → DeskKeeps desk s → (c : Image) → d1.may_leave c → StandsFor c (state_after s (turn_events (turn s))))
    → CutLeaves turn desk before now d0 d1
leaves_whole turn desk before now d0 d1 cuts there tells on s kept c left =
    let cut : CutShort (turn s) before now = cuts s kept in
    record {
      front = cut.front;
      begins = cut.begins;
      gained = cut.gained;
      count = length (turn_events (turn s));
      few = omega arith;
      told = told_few (turn s) cut.front;
      stands = subst (λ (es : List Event). StandsFor c (state_after s es)) (sym (take_all (length (turn_events (turn s))) (turn_events (turn s)) (omega arith))) (there tells on s kept c left);
    }

-- the disk was left alone, and each image shows the state
module _ (desk : Desk) (d : DiskState) (shows : (s : State) → Keeps desk.node s → NodeOn desk.node d → (c : Image) → d.may_leave c → StandsFor c s) where
  pub during_nothing : (turn : State → Turn) → DuringTurn turn desk d d
  during_nothing turn tells on s kept = started d (LeftBy s (turn_events (turn s)) d) (λ c now. record {
    from = c;
    image = now;
    steps = record { elsewhere = λ b journal index. refl; count = 0; few = omega arith; stands = shows s kept.node on c now };
  })

  pub leaves_eventless : (turn : State → Turn) (before now : Option (List ℕ)) → ((s : State) → turn_events (turn s) ≡ []) → CutsTurn turn desk before now → CutLeaves turn desk before now d d
  leaves_eventless turn before now none cuts = leaves_whole turn desk before now d d cuts (λ tells on s kept c left.
      subst (λ (es : List Event). StandsFor c (state_after s es)) (sym (none s)) (shows s kept.node on c left))

-- ---- a turn of one answer line

module _ (words : State → List (List ℕ)) (events : State → List Event) (old : Desk) where
  abbrev line : State → Turn
  line s = answered (words s) (events s) ∷ []

  pub does_one : (new : Desk) (before now : Option (List ℕ))
      → ((s : State) → DeskKeeps old s → DeskKeeps new (state_after s (events s)) × Appends before now (words_text (words s))) → DoesTurn line old new before now
  does_one new before now does s kept =
      let p : DeskKeeps new (state_after s (events s)) × Appends before now (words_text (words s)) = does s kept in (
        subst (λ (es : List Event). DeskKeeps new (state_after s es)) (sym (append-nil (events s))) p.0,
        subst (λ (t : List ℕ). Appends before now t) (sym (append-nil (words_text (words s)))) p.1,
      )

  pub cuts_one : (before now : Option (List ℕ)) → ((s : State) → DeskKeeps old s → AppendsSome before now (words_text (words s))) → CutsTurn line old before now
  cuts_one before now some s kept =
      let p : AppendsSome before now (words_text (words s)) = some s kept in
      record { front = p.0; begins = subst (λ (t : List ℕ). BeginsWith t p.0) (sym (append-nil (words_text (words s)))) p.1; gained = p.2 }

  pub during_one : (d0 d1 : DiskState) → (Tells d0 → NodeOn old.node d0 → (s : State) → DeskKeeps old s → LeavesOnly d0 d1 (LeftBy s (events s) d0)) → DuringTurn line old d0 d1
  during_one d0 d1 during tells on s kept = subst (λ (es : List Event). LeavesOnly d0 d1 (LeftBy s es d0)) (sym (append-nil (events s))) (during tells on s kept)

  pub leaves_one : (before now : Option (List ℕ)) (d0 d1 : DiskState) → CutsTurn line old before now
      → (Tells d0 → NodeOn old.node d0 → (s : State) → DeskKeeps old s → (c : Image) → d1.may_leave c → StandsFor c (state_after s (events s))) → CutLeaves line old before now d0 d1
  leaves_one before now d0 d1 cuts there = leaves_whole line old before now d0 d1 cuts (λ tells on s kept c left.
      subst (λ (es : List Event). StandsFor c (state_after s es)) (sym (append-nil (events s))) (there tells on s kept c left))

-- ---- a turn without events

module _ (turn : Turn) (none : turn_events turn ≡ []) (desk : Desk) (before now : Option (List ℕ)) where
  pub does_quiet : Appends before now (turn_text turn) → DoesTurn (λ s. turn) desk desk before now
  does_quiet gained s kept = (subst (λ (es : List Event). DeskKeeps desk (state_after s es)) (sym none) kept, gained)

  pub cuts_quiet : AppendsSome before now (turn_text turn) → CutsTurn (λ s. turn) desk before now
  cuts_quiet some s kept = record { front = some.0; begins = some.1; gained = some.2 }

-- the text of an answer line
pub one_text : (words : List (List ℕ)) → words_text words ≡ turn_text (answered words [] ∷ [])
one_text words = sym (append-nil (words_text words))
