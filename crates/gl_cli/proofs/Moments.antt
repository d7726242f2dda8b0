-- What a crash leaves while a session goes on, and at its end.
use Rattle.std.specs.Prelude.{◌≡◌, ℕ, ◌+◌, ◌≤◌, false, List, [], ◌∷◌, ◌++◌, length, take, drop, Option, Some, None, IfSome}
use Rattle.std.proofs.Common.{refl, ◌∙◌, ap, sym, subst, arith, append-nil, length-append}
use Rattle.std.proofs.Math.Seq.{take-append-add}
use Rattle.std.specs.List.{enumerate_from}
use Rattle.std.proofs.lemmas.Grind.{flat_map-append}
use Rattle.std.proofs.lemmas.List.{take-append-le, take_all}
use Rattle.std.proofs.lemmas.List.Sums.{fold-append}
use Rattle.std.specs.Io.KnownBytes.{Appends}
use Rattle.gl_outside.specs.Disk.{Image, DiskState, LeavesOnly}
use Rattle.gl_outside.proofs.Moments.{started, then, at_end}
use Rattle.gl_node.specs.Claims.{ClaimAnswer, Granted, Nothing, Busy, claim_answer, claimed_by}
use Rattle.gl_node.specs.Moments.{LeftBy}
use Rattle.gl_node.specs.Node.{Keeps, NodeOn}
use Rattle.gl_node.specs.Standing.{StandsFor}
use Rattle.gl_node.specs.State.{Base, State, Event, opened, outcomes, state_after, happened}
use Rattle.gl_cli.specs.Answers.{claim_words}
use Rattle.gl_cli.specs.declared.desk.Desk.{Desk}
use Rattle.gl_cli.specs.declared.line.Line.{Line}
use Rattle.gl_cli.specs.declared.line.Line.TheVariants.{Udp, Tcp, End, Claim, Finish, Listing}
use Rattle.gl_cli.specs.declared.reader.Next.TheVariants.{Line as Text, End as NoMore}
use Rattle.gl_cli.specs.declared.status.Status.TheVariants.{Done}
use Rattle.gl_cli.specs.Connections.{Connection}
use Rattle.gl_cli.specs.Desk.{DeskKeeps}
use Rattle.gl_cli.specs.Crashes.{ShownAt, next_turn, told_events}
use Rattle.gl_cli.specs.Ends.{script_status}
use Rattle.gl_cli.specs.LineReading.{GivesKnown}
use Rattle.gl_cli.specs.Runs.{Turn, answered, connections_after, datagram_turn, end_turn, listed, tcp_turn, turns_of, turn_of, script_turns, all_events, all_text, turn_events, turn_text, done_text, last_state}
use Rattle.gl_cli.specs.Script.{lines_within, lines_run, moment_after, line_of}
use Rattle.gl_cli.specs.Sessions.{Running, Answered, CutShort, CutAt, CutsTurn, CutLeaves, DoesTurn, DuringTurn, claim_turn, finish_turn}
use Rattle.gl_cli.specs.Writing.{BeginsWith, AppendsSome}
use Rattle.gl_cli.proofs.Exits.{Goes, IfSome-with, Gives-end, first_line_known, known_with, turns_all}
use Rattle.gl_cli.proofs.Sessions.{state_after-more, turns_of-line}
use Rattle.gl_cli.proofs.Sinks.{Appends-more, Appends-nothing}
use Rattle.gl_cli.proofs.Turns.{list_events}

-- ---- one line

-- the disk was left alone, and each image shows the state
pub stays : (s : State) (events : List Event) (d : DiskState) → ((c : Image) → d.may_leave c → StandsFor c s) → LeavesOnly d d (LeftBy s events d)
stays s events d here = started d (LeftBy s events d) (λ c now. record {
  from = c;
  image = now;
  steps = record { elsewhere = λ b journal index. refl; count = 0; few = omega arith; stands = here c now };
})

-- an empty front tells of nothing, and no front of more than there is
pub told_none : (turn : Turn) → told_events turn [] ≤ 0
told_none [] = omega arith
told_none (step ∷ turn) = omega arith

pub told_few : (turn : Turn) (front : List ℕ) → told_events turn front ≤ length (turn_events turn)
told_few [] front = omega arith
told_few (step ∷ turn) [] = omega arith
told_few (step ∷ turn) (b ∷ front) =
    omega (arith, told_few turn (drop (length step.text) (b ∷ front)), length-append step.events (turn_events turn))

-- nothing was written yet
pub cut_unwritten : (s : State) (turn : Turn) (sink : Option (List ℕ)) (d : DiskState) (c : Image) → LeftBy s (turn_events turn) d c → CutAt s turn sink sink c
cut_unwritten s turn sink d c left = record {
  front = [];
  begins = (turn_text turn, refl);
  gained = Appends-nothing sink;
  count = left.steps.count;
  few = left.steps.few;
  told = omega (arith, told_none turn);
  stands = left.steps.stands;
}

-- all of the events have happened
pub cut_whole : (s : State) (turn : Turn) (before now : Option (List ℕ)) (c : Image) → CutShort turn before now → StandsFor c (state_after s (turn_events turn)) → CutAt s turn before now c
cut_whole s turn before now c cut there = record {
  front = cut.front;
  begins = cut.begins;
  gained = cut.gained;
  count = length (turn_events turn);
  few = omega arith;
  told = told_few turn cut.front;
  stands = subst (λ (es : List Event). StandsFor c (state_after s es)) (sym (take_all (length (turn_events turn)) (turn_events turn) (omega arith))) there;
}

-- no disk shows a claim
pub claim_unseen : (s : State) (worker : ℕ) (answer : ClaimAnswer) (c : Image) → StandsFor c s → StandsFor c (state_after s (claimed_by worker answer))
claim_unseen s worker (Granted mark) c there =
    record { shows = there.shows; journal_ends = there.journal_ends; index_ends = there.index_ends; journal_size = there.journal_size; index_size = there.index_size }
claim_unseen s worker Nothing c there = there
claim_unseen s worker (Busy mark) c there = there

pub some_whole : (before now : Option (List ℕ)) (text : List ℕ) → Appends before now text → AppendsSome before now text
some_whole before now text gained = (text, ([], sym (append-nil text)), gained)

-- ---- a line that is answered by one answer line

pub one_answer : (s : State) (words : List (List ℕ)) (events : List Event) (d0 d1 : DiskState) → LeavesOnly d0 d1 (LeftBy s events d0)
    → LeavesOnly d0 d1 (LeftBy s (turn_events (answered words events ∷ [])) d0)
one_answer s words events d0 d1 run = subst (λ (es : List Event). LeavesOnly d0 d1 (LeftBy s es d0)) (sym (append-nil events)) run

pub no_answer_yet : (s : State) (words : List (List ℕ)) (events : List Event) (sink : Option (List ℕ)) (d0 d1 : DiskState) → LeavesOnly d0 d1 (LeftBy s events d0)
    → (c : Image) → d1.may_leave c → CutAt s (answered words events ∷ []) sink sink c
no_answer_yet s words events sink d0 d1 run c left =
    cut_unwritten s (answered words events ∷ []) sink d0 c
    (at_end d0 d1 (LeftBy s (turn_events (answered words events ∷ [])) d0) (one_answer s words events d0 d1 run) c left)

pub some_answer : (s : State) (words : List (List ℕ)) (events : List Event) (before now : Option (List ℕ)) (c : Image)
    → CutShort (answered words events ∷ []) before now → StandsFor c (state_after s events) → CutAt s (answered words events ∷ []) before now c
some_answer s words events before now c cut there =
    cut_whole s (answered words events ∷ []) before now c cut (subst (λ (es : List Event). StandsFor c (state_after s es)) (sym (append-nil events)) there)

-- ---- each kind of line

-- a line's turn, by the values that were handed on
pub datagram_is : (moment : ℕ) (cs : List Connection) (line : Line) (input peer payload input' peer' payload' : List ℕ) → line ≡ Udp input peer payload
    → input' ≡ input → peer' ≡ peer → payload' ≡ payload → (s : State) → datagram_turn moment input' peer' payload' s ≡ turn_of moment cs false line s
datagram_is moment cs line input peer payload input' peer' payload' is i p b s =
    ap (λ (l : List ℕ). datagram_turn moment l peer' payload' s) i
    ∙ ap (λ (l : List ℕ). datagram_turn moment input l payload' s) p
    ∙ ap (λ (l : List ℕ). datagram_turn moment input peer l s) b
    ∙ ap (λ (l : Line). turn_of moment cs false l s) (sym is)

pub sent_is : (moment : ℕ) (cs : List Connection) (line : Line) (input : List ℕ) (number : ℕ) (peer payload input' : List ℕ) (number' : ℕ) (peer' payload' : List ℕ) → line ≡ Tcp input number peer payload
    → input' ≡ input → number' ≡ number → peer' ≡ peer → payload' ≡ payload → (s : State) → tcp_turn moment cs input' number' peer' payload' s ≡ turn_of moment cs false line s
sent_is moment cs line input number peer payload input' number' peer' payload' is i n p b s =
    ap (λ (l : List ℕ). tcp_turn moment cs l number' peer' payload' s) i
    ∙ ap (λ (m : ℕ). tcp_turn moment cs input m peer' payload' s) n
    ∙ ap (λ (l : List ℕ). tcp_turn moment cs input number l payload' s) p
    ∙ ap (λ (l : List ℕ). tcp_turn moment cs input number peer l s) b
    ∙ ap (λ (l : Line). turn_of moment cs false l s) (sym is)

pub end_is : (moment : ℕ) (cs : List Connection) (line : Line) (input : List ℕ) (number : ℕ) (input' : List ℕ) (number' : ℕ) → line ≡ End input number
    → input' ≡ input → number' ≡ number → (s : State) → end_turn moment cs input' number' s ≡ turn_of moment cs false line s
end_is moment cs line input number input' number' is i n s =
    ap (λ (l : List ℕ). end_turn moment cs l number' s) i
    ∙ ap (λ (m : ℕ). end_turn moment cs input m s) n
    ∙ ap (λ (l : Line). turn_of moment cs false l s) (sym is)

pub claim_is : (moment : ℕ) (cs : List Connection) (line : Line) (worker limit : ℕ) → line ≡ Claim worker limit → (s : State) → claim_turn worker limit s ≡ turn_of moment cs false line s
claim_is moment cs line worker limit is s = ap (λ (l : Line). turn_of moment cs false l s) (sym is)

pub finish_is : (moment : ℕ) (cs : List Connection) (line : Line) (worker : ℕ) → line ≡ Finish worker → (s : State) → finish_turn worker s ≡ turn_of moment cs false line s
finish_is moment cs line worker is s = ap (λ (l : Line). turn_of moment cs false l s) (sym is)

pub list_is : (moment : ℕ) (cs : List Connection) (line : Line) → line ≡ Listing → (s : State) → listed s ≡ turn_of moment cs false line s
list_is moment cs line is s = ap (λ (l : Line). turn_of moment cs false l s) (sym is)

-- what is said of a turn is said of one that is the same
pub does_by : (turn turn' : State → Turn) (old new : Desk) (before now : Option (List ℕ)) → ((s : State) → turn s ≡ turn' s)
    → DoesTurn turn old new before now → DoesTurn turn' old new before now
does_by turn turn' old new before now same does s kept =
    subst (λ (t : Turn). DeskKeeps new (state_after s (turn_events t)) × Answered t before now) (same s) (does s kept)

pub cuts_by : (turn turn' : State → Turn) (old : Desk) (before now : Option (List ℕ)) → ((s : State) → turn s ≡ turn' s)
    → CutsTurn turn old before now → CutsTurn turn' old before now
cuts_by turn turn' old before now same cuts s kept = subst (λ (t : Turn). CutShort t before now) (same s) (cuts s kept)

pub during_by : (turn turn' : State → Turn) (desk : Desk) (d0 d1 : DiskState) → ((s : State) → turn s ≡ turn' s)
    → DuringTurn turn desk d0 d1 → DuringTurn turn' desk d0 d1
during_by turn turn' desk d0 d1 same during tells on s kept =
    subst (λ (t : Turn). LeavesOnly d0 d1 (LeftBy s (turn_events t) d0)) (same s) (during tells on s kept)

pub cut_by : (turn turn' : State → Turn) (desk : Desk) (before now : Option (List ℕ)) (d0 d1 : DiskState) → ((s : State) → turn s ≡ turn' s)
    → CutLeaves turn desk before now d0 d1 → CutLeaves turn' desk before now d0 d1
cut_by turn turn' desk before now d0 d1 same cut tells on s kept c left =
    subst (λ (t : Turn). CutAt s t before now c) (same s) (cut tells on s kept c left)

-- lines that leave the disk alone
module _ (desk : Desk) (d : DiskState) (shows : (s : State) → Keeps desk.node s → NodeOn desk.node d → (c : Image) → d.may_leave c → StandsFor c s) where
  pub quiet : (turn : State → Turn) → DuringTurn turn desk d d
  quiet turn tells on s kept = stays s (turn_events (turn s)) d (shows s kept.node on)

  pub claim_cut : (worker limit : ℕ) (before now : Option (List ℕ)) → CutsTurn (claim_turn worker limit) desk before now
      → CutLeaves (claim_turn worker limit) desk before now d d
  claim_cut worker limit before now cuts tells on s kept c left =
      some_answer s (claim_words worker (claim_answer s worker limit)) (claimed_by worker (claim_answer s worker limit)) before now c (cuts s kept)
      (claim_unseen s worker (claim_answer s worker limit) c (shows s kept.node on c left))

  pub listing_cut : (before now : Option (List ℕ)) → CutsTurn listed desk before now → CutLeaves listed desk before now d d
  listing_cut before now cuts tells on s kept c left =
      cut_whole s (listed s) before now c (cuts s kept)
      (subst (λ (es : List Event). StandsFor c (state_after s es)) (sym (list_events (enumerate_from 0 (outcomes s)))) (shows s kept.node on c left))

-- ---- one line behind another

-- events of a run that happen behind the first of them
pub next_leaves : (s t : State) (done more rest all : List Event) (d0 d1 d2 : DiskState) → t ≡ state_after s done → all ≡ done ++ (more ++ rest)
    → LeavesOnly d0 d1 (LeftBy s all d0) → LeavesOnly d1 d2 (LeftBy t more d1) → LeavesOnly d0 d2 (LeftBy s all d0)
next_leaves s t done more rest all d0 d1 d2 is whole first second = then d0 d1 d2 (LeftBy s all d0) (LeftBy t more d1) (LeftBy s all d0) first second (λ c left. left) (λ c left.
    let was = at_end d0 d1 (LeftBy s all d0) first left.from left.image in
    record {
      from = was.from;
      image = was.image;
      steps = record {
        elsewhere = λ b journal index. left.steps.elsewhere b journal index ∙ was.steps.elsewhere b journal index;
        count = length done + left.steps.count;
        few = omega (arith, left.steps.few, ap (λ (es : List Event). length es) whole, length-append done (more ++ rest), length-append more rest);
        stands = subst (λ (u : State). StandsFor c u) (sym (behind left.steps.count left.steps.few)) left.steps.stands;
      };
    })
  where
    behind : (n : ℕ) → n ≤ length more → state_after s (take (length done + n) all) ≡ state_after t (take n more)
    behind n few = ap (λ (es : List Event). state_after s (take (length done + n) es)) whole
        ∙ ap (λ (es : List Event). state_after s es) (take-append-add done (more ++ rest) n ∙ ap (λ (es : List Event). done ++ es) (take-append-le n more rest few))
        ∙ fold-append happened s done (take n more)
        ∙ ap (λ (u : State). state_after u (take n more)) (sym is)

-- ---- at an exit

between : (base : Base) (script : List ℕ) (before now : Option (List ℕ)) (s : State) (cs : List Connection) (ahead : Option (List ℕ)) (budget number moment : ℕ)
    (r : Running base script before now s cs ahead budget number moment) (c : Image) → StandsFor c s → ShownAt base script before now c
between base script before now s cs ahead budget number moment r c there = record {
  answered = r.turns;
  ahead = turns_of r.past cs s [] (lines_run (lines_within budget r.text));
  all = r.all;
  written = [];
  gained = subst (λ (t : List ℕ). Appends before now t) (sym (append-nil (all_text r.turns))) r.gained;
  begins = (_, refl);
  count = 0;
  few = omega arith;
  told = told_none (next_turn (turns_of r.past cs s [] (lines_run (lines_within budget r.text))));
  stands = subst (λ (u : State). StandsFor c u) (r.state_is ∙ ap (λ (es : List Event). state_after (opened base) es) (sym (append-nil (all_events r.turns)))) there;
}

in_line : (base : Base) (script : List ℕ) (before mid now : Option (List ℕ)) (turns : List Turn) (turn : Turn) (rest : List Turn) (s : State) (c : Image)
    → script_turns base [] script ≡ turns ++ turn ∷ rest → Appends before mid (all_text turns) → s ≡ state_after (opened base) (all_events turns)
    → CutAt s turn mid now c → ShownAt base script before now c
in_line base script before mid now turns turn rest s c all gained is cut = record {
  answered = turns;
  ahead = turn ∷ rest;
  all = all;
  written = cut.front;
  gained = Appends-more before mid now (all_text turns) cut.front gained cut.gained;
  begins = cut.begins;
  count = cut.count;
  few = cut.few;
  told = cut.told;
  stands = subst (λ (u : State). StandsFor c u)
      (ap (λ (q : State). state_after q (take cut.count (turn_events turn))) is ∙ state_after-more (opened base) (all_events turns) (take cut.count (turn_events turn)))
      cut.stands;
}

behind_all : (base : Base) (script : List ℕ) (before mid now : Option (List ℕ)) (turns : List Turn) (tail : List ℕ) (c : Image)
    → script_turns base [] script ≡ turns → Appends before mid (all_text turns)
    → BeginsWith (done_text (last_state base (script_turns base [] script))) tail → Appends mid now tail
    → StandsFor c (state_after (opened base) (all_events turns)) → ShownAt base script before now c
behind_all base script before mid now turns tail c all gained begins more there = record {
  answered = turns;
  ahead = [];
  all = all ∙ sym (append-nil turns);
  written = tail;
  gained = Appends-more before mid now (all_text turns) tail gained more;
  begins = begins;
  count = 0;
  few = omega arith;
  told = omega arith;
  stands = subst (λ (es : List Event). StandsFor c (state_after (opened base) es)) (sym (append-nil (all_events turns))) there;
}

-- ---- the same, where the source may not tell what it has left

abbrev pub Leaves : Option (List ℕ) → Base → DiskState → DiskState → Type 0
Leaves source base old new = IfSome source (λ script. LeavesOnly old new (LeftBy (opened base) (all_events (script_turns base [] script)) old))

abbrev pub AllShown : Option (List ℕ) → Base → Option (List ℕ) → Option (List ℕ) → DiskState → Type 0
AllShown source base before after disk = IfSome source (λ script. (image : Image) → disk.may_leave image → ShownAt base script before after image)

pub leaves_first : (source : Option (List ℕ)) (base : Base) (d : DiskState) → ((c : Image) → d.may_leave c → StandsFor c (opened base)) → Leaves source base d d
leaves_first None base d here = tt
leaves_first (Some script) base d here = stays (opened base) (all_events (script_turns base [] script)) d here

IfSome-both : {X : Type 0} (o : Option X) {P Q R : X → Type 0} → ((x : X) → P x → Q x → R x) → IfSome o P → IfSome o Q → IfSome o R
IfSome-both None f p q = tt
IfSome-both (Some x) f p q = f x p q

module _ (source : Option (List ℕ)) (base : Base) (before mid : Option (List ℕ)) (stands : State → List Connection → Type 0) (ahead : Option (List ℕ)) (budget number moment : ℕ)
    (running : Goes source base before mid stands ahead budget number moment) where
  -- an end between two lines
  pub shown_between : (disk : DiskState) → ((s : State) (cs : List Connection) → stands s cs → (c : Image) → disk.may_leave c → StandsFor c s) → AllShown source base before mid disk
  shown_between disk shows = IfSome-with source (λ script p c left.
      between base script before mid p.0 p.1 ahead budget number moment p.3 c (shows p.0 p.1 p.2 c left)) running

  -- an end in the last line of the session, or behind it
  pub shown_at_end : (now : Option (List ℕ)) (rest : Option (List ℕ)) (left : ℕ) → GivesKnown NoMore ahead budget rest left
      → ((s : State) (cs : List Connection) → stands s cs → AppendsSome mid now (done_text s)) → (disk : DiskState)
      → ((s : State) (cs : List Connection) → stands s cs → (c : Image) → disk.may_leave c → StandsFor c s) → AllShown source base before now disk
  shown_at_end now rest left g some disk shows = IfSome-with source (λ script p c here.
      let r : Running base script before mid p.0 p.1 ahead budget number moment = p.3 in
      let q : (lines_run (lines_within budget r.text) ≡ []) × (script_status script ≡ Done)
      = Gives-end base script before mid p.0 p.1 budget number moment ahead rest left r (known_with NoMore rest left r g) in
      let all : script_turns base [] script ≡ r.turns = turns_all base script before mid p.0 p.1 ahead budget number moment r q.0 in
      let w : AppendsSome mid now (done_text p.0) = some p.0 p.1 p.2 in
      behind_all base script before mid now r.turns w.0 c all r.gained
      (subst (λ (u : State). BeginsWith (done_text u) w.0) (r.state_is ∙ ap (λ (ts : List Turn). last_state base ts) (sym all)) w.1) w.2
      (subst (λ (u : State). StandsFor c u) r.state_is (shows p.0 p.1 p.2 c here))) running

  -- an end in a line
  pub shown_in_line : (now rest : Option (List ℕ)) (left : ℕ) (text : List ℕ) (line : Line)
      → GivesKnown (Text text) ahead budget rest left → line_of text ≡ Some line → (disk : DiskState)
      → ((s : State) (cs : List Connection) (past : List Line) → stands s cs → moment ≡ moment_after past → (c : Image) → disk.may_leave c → CutAt s (turn_of (moment_after past) cs false line s) mid now c)
      → AllShown source base before now disk
  shown_in_line now rest left text line g e disk cut = IfSome-with source (λ script p c here.
      let s : State = p.0 in
      let cs : List Connection = p.1 in
      let r : Running base script before mid s cs ahead budget number moment = p.3 in
      let q : (tail : List (List ℕ)) × (lines_within budget r.text ≡ text ∷ tail) = first_line_known budget left text r.text rest (known_with (Text text) rest left r g) in
      in_line base script before mid now r.turns (turn_of (moment_after r.past) cs false line s)
      (turns_of (r.past ++ line ∷ []) (connections_after s cs line) (state_after s (turn_events (turn_of (moment_after r.past) cs false line s))) [] (lines_run q.0)) s c
      (r.all ∙ ap (λ (ts : List Turn). r.turns ++ ts) (turns_of-line r.past cs s (lines_within budget r.text) text q.0 line q.1 e))
      r.gained r.state_is (cut s cs r.past p.2 r.moment_is c here)) running

  -- one line more, answered or not
  pub leaves_more : (rest : Option (List ℕ)) (left : ℕ) (text : List ℕ) (line : Line)
      → GivesKnown (Text text) ahead budget rest left → line_of text ≡ Some line → (d0 d1 d2 : DiskState)
      → ((s : State) (cs : List Connection) (past : List Line) → stands s cs → moment ≡ moment_after past → LeavesOnly d1 d2 (LeftBy s (turn_events (turn_of (moment_after past) cs false line s)) d1))
      → Leaves source base d0 d1 → Leaves source base d0 d2
  leaves_more rest left text line g e d0 d1 d2 during = IfSome-both source (λ script p so_far.
      let s : State = p.0 in
      let cs : List Connection = p.1 in
      let r : Running base script before mid s cs ahead budget number moment = p.3 in
      let q : (tail : List (List ℕ)) × (lines_within budget r.text ≡ text ∷ tail) = first_line_known budget left text r.text rest (known_with (Text text) rest left r g) in
      let turn : Turn = turn_of (moment_after r.past) cs false line s in
      let later : List Turn = turns_of (r.past ++ line ∷ []) (connections_after s cs line) (state_after s (turn_events turn)) [] (lines_run q.0) in
      next_leaves (opened base) s (all_events r.turns) (turn_events turn) (all_events later) (all_events (script_turns base [] script)) d0 d1 d2 r.state_is
      (ap (λ (ts : List Turn). all_events ts) (r.all ∙ ap (λ (ts : List Turn). r.turns ++ ts) (turns_of-line r.past cs s (lines_within budget r.text) text q.0 line q.1 e))
      ∙ flat_map-append turn_events r.turns (turn ∷ later))
      so_far (during s cs r.past p.2 r.moment_is)) running
