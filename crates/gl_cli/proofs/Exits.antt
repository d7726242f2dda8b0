-- How a session ends.
use Rattle.std.specs.Prelude.{◌≡◌, ℕ, suc, ◌+◌, Bool, true, false, List, [], ◌∷◌, ◌++◌, length, Option, Some, None, IfSome, ⊤, nat_lt, max}
use Rattle.std.specs.Option.{option_map}
use Rattle.std.proofs.Common.{refl, ◌∙◌, ap, sym, subst, append_assoc, arith, inl, inr, append-nil}
use Rattle.std.proofs.lemmas.Grind.{common_steps, flat_map-append}
use Rattle.std.proofs.lemmas.Bool.{cases_lt, le-leb, lt-leb}
use Rattle.std.specs.Io.KnownBytes.{Appends, prepend_known}
use Rattle.gl_outside.specs.Disk.{Image, DiskState}
use Rattle.gl_node.specs.State.{Base, State, opened, state_after}
use Rattle.gl_node.specs.Standing.{StandsFor}
use Rattle.gl_cli.specs.declared.line.Line.{Line}
use Rattle.gl_cli.specs.declared.status.Status.{Status}
use Rattle.gl_cli.specs.declared.status.Status.TheVariants.{Done, Usage, SourceFault, SinkFault, DiskFault, BadScript, Damaged, OutOfMemory, PatternFault, ScriptTooLong}
use Rattle.gl_cli.specs.declared.reader.Next.{Next}
use Rattle.gl_cli.specs.declared.reader.Next.TheVariants.{Line as Text, End, TooLong}
use Rattle.gl_cli.specs.Connections.{Connection}
use Rattle.gl_cli.specs.Script.{lines_within, lines_run, bad_line, script_lines, script_limit, moment_after, moment_in, line_of, read_then, number_behind}
use Rattle.gl_cli.specs.Runs.{Turn, connections_after, turns_of, turn_of, script_turns, all_events, all_text, turn_events, turn_text, answers, output, done_text, last_state}
use Rattle.gl_cli.specs.LineReading.{GivesKnown}
use Rattle.gl_cli.specs.Writing.{BeginsWith, AppendsSome}
use Rattle.gl_cli.specs.Sessions.{Running, ReadTo, Answered, CutShort, SomeAfter}
use Rattle.gl_cli.specs.Ends.{SessionEnd, EndsBy, Wrote, AnsweredAll, script_status, status_by}
use Rattle.gl_cli.proofs.Sinks.{Appends-more, Appends-nothing}
use Rattle.gl_cli.proofs.Sessions.{running_more, turns_of-line, bad_line-more}

-- the statuses that don't speak of the script
abbrev pub IsOther : Status → Type 0
IsOther Done = ⊥
IsOther (BadScript line) = ⊥
IsOther ScriptTooLong = ⊥
IsOther other = ⊤

pub unanswered : (status : Status) → IsOther status → AnsweredAll status → ⊥
unanswered Done f all = f
unanswered Usage f all = all
unanswered SourceFault f all = all
unanswered SinkFault f all = all
unanswered DiskFault f all = all
unanswered (BadScript line) f all = f
unanswered (Damaged log area at) f all = all
unanswered OutOfMemory f all = all
unanswered PatternFault f all = all
unanswered ScriptTooLong f all = f

pub EndsBy-other : (script : List ℕ) (status : Status) → IsOther status → EndsBy script status
EndsBy-other script Done f = absurd f
EndsBy-other script Usage f = tt
EndsBy-other script SourceFault f = tt
EndsBy-other script SinkFault f = tt
EndsBy-other script DiskFault f = tt
EndsBy-other script (BadScript line) f = absurd f
EndsBy-other script (Damaged log area at) f = tt
EndsBy-other script OutOfMemory f = tt
EndsBy-other script PatternFault f = tt
EndsBy-other script ScriptTooLong f = absurd f

pub Wrote-other : (base : Base) (marks : List Bool) (script : List ℕ) (status : Status) (written : List ℕ) → IsOther status
    → BeginsWith (output base marks script) written → Wrote base marks script status written
Wrote-other base marks script Done written f w = absurd f
Wrote-other base marks script Usage written f w = w
Wrote-other base marks script SourceFault written f w = w
Wrote-other base marks script SinkFault written f w = w
Wrote-other base marks script DiskFault written f w = w
Wrote-other base marks script (BadScript line) written f w = absurd f
Wrote-other base marks script (Damaged log area at) written f w = w
Wrote-other base marks script OutOfMemory written f w = w
Wrote-other base marks script PatternFault written f w = w
Wrote-other base marks script ScriptTooLong written f w = absurd f

-- where no line is run any more, the turns so far are all
pub turns_all : (base : Base) (script : List ℕ) (before now : Option (List ℕ)) (s : State) (cs : List Connection) (ahead : Option (List ℕ)) (budget number moment : ℕ)
    (r : Running base script before now s cs ahead budget number moment) → lines_run (lines_within budget r.text) ≡ []
    → script_turns base [] script ≡ r.turns
turns_all base script before now s cs ahead budget number moment r none =
    r.all ∙ ap (λ ls. r.turns ++ turns_of r.past cs s [] ls) none ∙ append-nil r.turns

pub output-turns : (base : Base) (script : List ℕ) (turns rest : List Turn) → script_turns base [] script ≡ turns ++ rest
    → output base [] script ≡ (all_text turns ++ all_text rest) ++ done_text (last_state base (script_turns base [] script))
output-turns base script turns rest e =
    ap (λ ts. all_text ts ++ done_text (last_state base (script_turns base [] script))) e
    ∙ ap (λ t. t ++ done_text (last_state base (script_turns base [] script))) (flat_map-append turn_text turns rest)

-- a front of the output
pub begins_at : (base : Base) (script : List ℕ) (turns rest : List Turn) → script_turns base [] script ≡ turns ++ rest
    → BeginsWith (output base [] script) (all_text turns)
begins_at base script turns rest e = (
  all_text rest ++ done_text (last_state base (script_turns base [] script)),
  output-turns base script turns rest e ∙ append_assoc (all_text turns) (all_text rest) (done_text (last_state base (script_turns base [] script))),
)

pub begins_within : (base : Base) (script : List ℕ) (turns : List Turn) (turn : Turn) (rest : List Turn) (front : List ℕ)
    → script_turns base [] script ≡ turns ++ turn ∷ rest → BeginsWith (turn_text turn) front
    → BeginsWith (output base [] script) (all_text turns ++ front)
begins_within base script turns turn rest front e b =
    let d : List ℕ = done_text (last_state base (script_turns base [] script)) in (
      b.0 ++ (all_text rest ++ d),
      output-turns base script turns (turn ∷ rest) e
          ∙ ap (λ t. (all_text turns ++ (t ++ all_text rest)) ++ d) b.1
          ∙ grind (arith, common_steps),
    )

module _ (base : Base) (script : List ℕ) (before now : Option (List ℕ)) (s : State) (cs : List Connection) (ahead : Option (List ℕ)) (budget number moment : ℕ)
    (r : Running base script before now s cs ahead budget number moment) where
  -- an end between two lines
  pub end_other : (status : Status) → IsOther status → SessionEnd base script status before now
  end_other status other = record {
    marks = [];
    none_refused = refl;
    written = all_text r.turns;
    gained = r.gained;
    wrote = Wrote-other base [] script status (all_text r.turns) other (begins_at base script r.turns _ r.all);
  }

  -- nothing more is to be run, and the answers were written
  pub end_run : (status : Status) → lines_run (lines_within budget r.text) ≡ [] → ((written : List ℕ) → written ≡ answers base [] script → Wrote base [] script status written)
      → SessionEnd base script status before now
  end_run status none wrote = record {
    marks = [];
    none_refused = refl;
    written = all_text r.turns;
    gained = r.gained;
    wrote = wrote (all_text r.turns) (ap all_text (sym (turns_all base script before now s cs ahead budget number moment r none)));
  }

-- an end within the answer of a line
pub end_cut : (base : Base) (script : List ℕ) (before mid now : Option (List ℕ)) (turns : List Turn) (turn : Turn) (rest : List Turn)
    → script_turns base [] script ≡ turns ++ turn ∷ rest → Appends before mid (all_text turns) → (status : Status) → IsOther status → CutShort turn mid now
    → SessionEnd base script status before now
end_cut base script before mid now turns turn rest e gained status other cut = record {
  marks = [];
  none_refused = refl;
  written = all_text turns ++ cut.front;
  gained = Appends-more before mid now (all_text turns) cut.front gained cut.gained;
  wrote = Wrote-other base [] script status (all_text turns ++ cut.front) other (begins_within base script turns turn rest cut.front e cut.begins);
}

-- all lines were answered, and the last line or a front of it was written
pub end_done : (base : Base) (script : List ℕ) (before mid now : Option (List ℕ)) (turns : List Turn) (status : Status) (tail : List ℕ)
    → Appends before mid (all_text turns) → Appends mid now tail → Wrote base [] script status (all_text turns ++ tail) → SessionEnd base script status before now
end_done base script before mid now turns status tail first more wrote = record {
  marks = [];
  none_refused = refl;
  written = all_text turns ++ tail;
  gained = Appends-more before mid now (all_text turns) tail first more;
  wrote = wrote;
}

-- the last line, in full
pub output-done : (base : Base) (script : List ℕ) (turns : List Turn) (s : State) (text : List ℕ) → script_turns base [] script ≡ turns
    → s ≡ state_after (opened base) (all_events turns) → text ≡ done_text s → all_text turns ++ text ≡ output base [] script
output-done base script turns s text e f g =
    ap (λ t. all_text turns ++ t) (g ∙ ap done_text (f ∙ ap (last_state base) (sym e))) ∙ ap (λ ts. all_text ts ++ done_text (last_state base (script_turns base [] script))) (sym e)

-- ---- the steps of the loop, where what the source has left is known

pub option_zero : (o : Option ℕ) → o ≡ option_map (λ k. 0 + k) o
option_zero None = refl
option_zero (Some k) = let e : k ≡ 0 + k = omega arith in ap (λ (n : ℕ). Some n) e

-- the first reading
pub running_first : (base : Base) (script : List ℕ) (sink : Option (List ℕ)) (s : State) (budget : ℕ) (pending : List ℕ) (left : Option (List ℕ))
    → s ≡ opened base → budget ≡ script_limit → pending ≡ [] → left ≡ Some script
    → Running base script sink sink s [] (prepend_known pending left) budget 0 0
running_first base script sink s budget pending left e b p l = record {
  turns = [];
  past = [];
  text = script;
  ahead_is = ap (λ o. prepend_known pending o) l ∙ ap (λ (p' : List ℕ). Some (p' ++ script)) p;
  all = ap (λ q. turns_of [] [] q [] (lines_run (script_lines script))) (sym e) ∙ ap (λ n. turns_of [] [] s [] (lines_run (lines_within n script))) (sym b);
  state_is = e;
  moment_is = refl;
  bad = ap (λ n. bad_line (lines_within n script)) (sym b) ∙ option_zero (bad_line (lines_within budget script));
  long = ((λ h. omega (arith, h, b)), (λ h. omega (arith, h, b)));
  gained = Appends-nothing sink;
}

pub status_with : (script : List ℕ) (bad : Option ℕ) (long : Bool) → bad_line (script_lines script) ≡ bad → nat_lt script_limit (length script) ≡ long
    → script_status script ≡ status_by bad long
status_with script bad long e f = ap (λ o. status_by o (nat_lt script_limit (length script))) e ∙ ap (status_by bad) f

module _ (base : Base) (script : List ℕ) (before now : Option (List ℕ)) (s : State) (cs : List Connection) (budget number moment : ℕ) where
  pub bad_within : {ahead : Option (List ℕ)} (r : Running base script before now s cs ahead budget number moment) (lines : List (List ℕ))
      → lines_within budget r.text ≡ lines → bad_line (script_lines script) ≡ option_map (λ k. number + k) (bad_line lines)
  bad_within r lines e = r.bad ∙ ap (λ ls. option_map (λ k. number + k) (bad_line ls)) e

  pub Gives-end : (ahead rest : Option (List ℕ)) (left : ℕ) (r : Running base script before now s cs ahead budget number moment)
      → GivesKnown End (Some r.text) budget rest left
      → (lines_run (lines_within budget r.text) ≡ []) × (script_status script ≡ Done)
  Gives-end ahead None left r g = absurd g
  Gives-end ahead (Some rest) left r g =
      (ap lines_run g.0, status_with script None false (bad_within r [] g.0) (lt-leb (suc script_limit) (length script) (omega (arith, r.long.1 g.1))))

  pub Gives-long : (ahead rest : Option (List ℕ)) (left : ℕ) (r : Running base script before now s cs ahead budget number moment)
      → GivesKnown TooLong (Some r.text) budget rest left
      → (lines_run (lines_within budget r.text) ≡ []) × (script_status script ≡ ScriptTooLong)
  Gives-long ahead None left r g = absurd g
  Gives-long ahead (Some rest) left r g = (
    ap lines_run g.0,
    elim (cases_lt script_limit (length script)) [
      | inl more ↦ status_with script None true (bad_within r [] g.0) (le-leb (suc script_limit) (length script) more)
      | inr few ↦ absurd (omega (arith, r.long.0 few, g.1))
    ],
  )

  pub Gives-bad : (ahead rest : Option (List ℕ)) (left : ℕ) (text : List ℕ) (r : Running base script before now s cs ahead budget number moment)
      → GivesKnown (Text text) (Some r.text) budget rest left → line_of text ≡ None
      → (lines_run (lines_within budget r.text) ≡ []) × (script_status script ≡ BadScript (number + 1))
  Gives-bad ahead None left text r g e = absurd g
  Gives-bad ahead (Some rest) left text r g e = (
    ap lines_run g.0 ∙ ap (λ o. read_then o (lines_run (lines_within left rest))) e,
    status_with script (Some (number + 1)) (nat_lt script_limit (length script))
        (bad_within r (text ∷ lines_within left rest) g.0 ∙ ap (λ o. option_map (λ k. number + k) (number_behind o (bad_line (lines_within left rest)))) e) refl,
  )

pub first_line_known : (budget left : ℕ) (text ahead : List ℕ) (rest : Option (List ℕ)) → GivesKnown (Text text) (Some ahead) budget rest left
    → (tail : List (List ℕ)) × (lines_within budget ahead ≡ text ∷ tail)
first_line_known budget left text ahead None g = absurd g
first_line_known budget left text ahead (Some rest) g = (lines_within left rest, g.0)

-- ---- the same, where the source may not tell what it has left

pub IfSome-with : {X : Type 0} (o : Option X) {P Q : X → Type 0} → ((x : X) → P x → Q x) → IfSome o P → IfSome o Q
IfSome-with None f p = tt
IfSome-with (Some x) f p = f x p

abbrev pub Goes : Option (List ℕ) → Base → Option (List ℕ) → Option (List ℕ) → (State → List Connection → Type 0) → Option (List ℕ) → ℕ → ℕ → ℕ → Type 0
Goes source base before now stands ahead budget number moment =
    IfSome source (λ script. SomeAfter stands (λ s cs. Running base script before now s cs ahead budget number moment))

abbrev pub Ended : Option (List ℕ) → Base → Status → Option (List ℕ) → Option (List ℕ) → Type 0
Ended source base status before now = IfSome source (λ script. SessionEnd base script status before now)

pub known_with : {ahead : Option (List ℕ)} {base : Base} {script : List ℕ} {before now : Option (List ℕ)} {s : State} {cs : List Connection} {budget number moment : ℕ}
    (next : Next) (rest : Option (List ℕ)) (left : ℕ) (r : Running base script before now s cs ahead budget number moment)
    → GivesKnown next ahead budget rest left → GivesKnown next (Some r.text) budget rest left
known_with {ahead} {budget = budget} next rest left r g = subst (λ (o : Option (List ℕ)). GivesKnown next o budget rest left) r.ahead_is g

module _ (source : Option (List ℕ)) (base : Base) (before mid : Option (List ℕ)) (stands : State → List Connection → Type 0) (ahead : Option (List ℕ)) (budget number moment : ℕ)
    (running : Goes source base before mid stands ahead budget number moment) where
  pub ended_other : (status : Status) → IsOther status → Ended source base status before mid
  ended_other status other = IfSome-with source (λ script p. end_other base script before mid p.0 p.1 ahead budget number moment p.3 status other) running

  pub ended_long : (rest : Option (List ℕ)) (left : ℕ) → GivesKnown TooLong ahead budget rest left → Ended source base ScriptTooLong before mid
  ended_long rest left g = IfSome-with source (λ script p.
      let r : Running base script before mid p.0 p.1 ahead budget number moment = p.3 in
      let q : (lines_run (lines_within budget r.text) ≡ []) × (script_status script ≡ ScriptTooLong)
      = Gives-long base script before mid p.0 p.1 budget number moment ahead rest left r (known_with TooLong rest left r g) in
      end_run base script before mid p.0 p.1 ahead budget number moment r ScriptTooLong q.0 (λ written e. e)) running

  pub ended_bad : (rest : Option (List ℕ)) (left : ℕ) (text : List ℕ) → GivesKnown (Text text) ahead budget rest left → line_of text ≡ None → (line : ℕ)
      → Ended source base (BadScript line) before mid
  ended_bad rest left text g e line = IfSome-with source (λ script p.
      let r : Running base script before mid p.0 p.1 ahead budget number moment = p.3 in
      let q : (lines_run (lines_within budget r.text) ≡ []) × (script_status script ≡ BadScript (number + 1))
      = Gives-bad base script before mid p.0 p.1 budget number moment ahead rest left text r (known_with (Text text) rest left r g) e in
      end_run base script before mid p.0 p.1 ahead budget number moment r (BadScript line) q.0 (λ written f. f)) running

  pub ended_cut : (now : Option (List ℕ)) (rest : Option (List ℕ)) (left : ℕ) (text : List ℕ) (line : Line)
      → GivesKnown (Text text) ahead budget rest left → line_of text ≡ Some line
      → ((s : State) (cs : List Connection) (past : List Line) → stands s cs → moment ≡ moment_after past → CutShort (turn_of (moment_after past) cs false line s) mid now)
      → (status : Status) → IsOther status → Ended source base status before now
  ended_cut now rest left text line g e cut status other = IfSome-with source (λ script p.
      let s : State = p.0 in
      let cs : List Connection = p.1 in
      let r : Running base script before mid s cs ahead budget number moment = p.3 in
      let q : (tail : List (List ℕ)) × (lines_within budget r.text ≡ text ∷ tail) = first_line_known budget left text r.text rest (known_with (Text text) rest left r g) in
      end_cut base script before mid now r.turns (turn_of (moment_after r.past) cs false line s)
      (turns_of (r.past ++ line ∷ []) (connections_after s cs line) (state_after s (turn_events (turn_of (moment_after r.past) cs false line s))) [] (lines_run q.0))
      (r.all ∙ ap (λ ts. r.turns ++ ts) (turns_of-line r.past cs s (lines_within budget r.text) text q.0 line q.1 e))
      r.gained status other (cut s cs r.past p.2 r.moment_is)) running

  pub ended_done : (now : Option (List ℕ)) (rest : Option (List ℕ)) (left : ℕ) → GivesKnown End ahead budget rest left
      → ((s : State) (cs : List Connection) → stands s cs → Appends mid now (done_text s)) → Ended source base Done before now
  ended_done now rest left g gained = IfSome-with source (λ script p.
      let r : Running base script before mid p.0 p.1 ahead budget number moment = p.3 in
      let q : (lines_run (lines_within budget r.text) ≡ []) × (script_status script ≡ Done)
      = Gives-end base script before mid p.0 p.1 budget number moment ahead rest left r (known_with End rest left r g) in
      end_done base script before mid now r.turns Done (done_text p.0) r.gained (gained p.0 p.1 p.2)
      (output-done base script r.turns p.0 (done_text p.0) (turns_all base script before mid p.0 p.1 ahead budget number moment r q.0) r.state_is refl)) running

  pub ended_done_cut : (now : Option (List ℕ)) (rest : Option (List ℕ)) (left : ℕ) → GivesKnown End ahead budget rest left
      → ((s : State) (cs : List Connection) → stands s cs → AppendsSome mid now (done_text s)) → (status : Status) → IsOther status → Ended source base status before now
  ended_done_cut now rest left g some status other = IfSome-with source (λ script p.
      let r : Running base script before mid p.0 p.1 ahead budget number moment = p.3 in
      let q : (lines_run (lines_within budget r.text) ≡ []) × (script_status script ≡ Done)
      = Gives-end base script before mid p.0 p.1 budget number moment ahead rest left r (known_with End rest left r g) in
      let w : AppendsSome mid now (done_text p.0) = some p.0 p.1 p.2 in
      end_done base script before mid now r.turns status w.0 r.gained w.2
      (Wrote-other base [] script status (all_text r.turns ++ w.0) other (
        w.1.0,
        sym (output-done base script r.turns p.0 (done_text p.0) (turns_all base script before mid p.0 p.1 ahead budget number moment r q.0) r.state_is refl)
            ∙ ap (λ t. all_text r.turns ++ t) w.1.1 ∙ sym (append_assoc (all_text r.turns) w.0 w.1.0),
      ))) running

  -- what the node keeps where the run ends is the last state
  pub shown_long : (rest : Option (List ℕ)) (left : ℕ) → GivesKnown TooLong ahead budget rest left → (disk : DiskState)
      → ((s : State) (cs : List Connection) → stands s cs → (image : Image) → disk.may_leave image → StandsFor image s)
      → IfSome source (λ script. (image : Image) → disk.may_leave image → StandsFor image (last_state base (script_turns base [] script)))
  shown_long rest left g disk shows = IfSome-with source (λ script p.
      let r : Running base script before mid p.0 p.1 ahead budget number moment = p.3 in
      let q : (lines_run (lines_within budget r.text) ≡ []) × (script_status script ≡ ScriptTooLong)
      = Gives-long base script before mid p.0 p.1 budget number moment ahead rest left r (known_with TooLong rest left r g) in
      subst (λ (s : State). (image : Image) → disk.may_leave image → StandsFor image s)
      (r.state_is ∙ ap (λ (ts : List Turn). state_after (opened base) (all_events ts)) (sym (turns_all base script before mid p.0 p.1 ahead budget number moment r q.0)))
      (shows p.0 p.1 p.2)) running

  pub shown_bad : (rest : Option (List ℕ)) (left : ℕ) (text : List ℕ) → GivesKnown (Text text) ahead budget rest left → line_of text ≡ None → (disk : DiskState)
      → ((s : State) (cs : List Connection) → stands s cs → (image : Image) → disk.may_leave image → StandsFor image s)
      → IfSome source (λ script. (image : Image) → disk.may_leave image → StandsFor image (last_state base (script_turns base [] script)))
  shown_bad rest left text g e disk shows = IfSome-with source (λ script p.
      let r : Running base script before mid p.0 p.1 ahead budget number moment = p.3 in
      let q : (lines_run (lines_within budget r.text) ≡ []) × (script_status script ≡ BadScript (number + 1))
      = Gives-bad base script before mid p.0 p.1 budget number moment ahead rest left text r (known_with (Text text) rest left r g) e in
      subst (λ (s : State). (image : Image) → disk.may_leave image → StandsFor image s)
      (r.state_is ∙ ap (λ (ts : List Turn). state_after (opened base) (all_events ts)) (sym (turns_all base script before mid p.0 p.1 ahead budget number moment r q.0)))
      (shows p.0 p.1 p.2)) running

  pub ended_shows : (rest : Option (List ℕ)) (left : ℕ) → GivesKnown End ahead budget rest left → (disk : DiskState)
      → ((s : State) (cs : List Connection) → stands s cs → (image : Image) → disk.may_leave image → StandsFor image s)
      → IfSome source (λ script. (image : Image) → disk.may_leave image → StandsFor image (last_state base (script_turns base [] script)))
  ended_shows rest left g disk shows = IfSome-with source (λ script p.
      let r : Running base script before mid p.0 p.1 ahead budget number moment = p.3 in
      let q : (lines_run (lines_within budget r.text) ≡ []) × (script_status script ≡ Done)
      = Gives-end base script before mid p.0 p.1 budget number moment ahead rest left r (known_with End rest left r g) in
      subst (λ (s : State). (image : Image) → disk.may_leave image → StandsFor image s)
      (r.state_is ∙ ap (λ (ts : List Turn). state_after (opened base) (all_events ts)) (sym (turns_all base script before mid p.0 p.1 ahead budget number moment r q.0)))
      (shows p.0 p.1 p.2)) running

  pub running_next : (stands' : State → List Connection → Type 0) (now rest : Option (List ℕ)) (left later : ℕ) (text : List ℕ) (line : Line)
      → GivesKnown (Text text) ahead budget rest left → line_of text ≡ Some line
      → ((s : State) (cs : List Connection) (past : List Line) → stands s cs → moment ≡ moment_after past
      → stands' (state_after s (turn_events (turn_of (moment_after past) cs false line s))) (connections_after s cs line) × Answered (turn_of (moment_after past) cs false line s) mid now)
      → later ≡ max moment (moment_in line)
      → Goes source base before now stands' rest left (number + 1) later
  running_next stands' now rest left later text line g e answered m = IfSome-with source (λ script p.
      let s : State = p.0 in
      let cs : List Connection = p.1 in
      let r : Running base script before mid s cs ahead budget number moment = p.3 in
      let c : stands' (state_after s (turn_events (turn_of (moment_after r.past) cs false line s))) (connections_after s cs line) × Answered (turn_of (moment_after r.past) cs false line s) mid now = answered s cs r.past p.2 r.moment_is in (
        state_after s (turn_events (turn_of (moment_after r.past) cs false line s)),
        connections_after s cs line,
        c.0,
        running_more base script before mid now s cs rest budget left number moment later text line r (known_with (Text text) rest left r g) e c.1 m,
      )) running

pub running_init : (source : Option (List ℕ)) (base : Base) (sink : Option (List ℕ)) (stands : State → List Connection → Type 0) (budget : ℕ) (pending : List ℕ)
    → stands (opened base) [] → budget ≡ script_limit → pending ≡ [] → Goes source base sink sink stands (prepend_known pending source) budget 0 0
running_init None base sink stands budget pending e b p = tt
running_init (Some script) base sink stands budget pending e b p =
    (opened base, [], e, running_first base script sink (opened base) budget pending (Some script) refl b p refl)

-- ---- the status alone, whatever the node does

pub read_first : (source : Option (List ℕ)) (budget : ℕ) (pending : List ℕ) → budget ≡ script_limit → pending ≡ []
    → IfSome source (λ script. ReadTo script (prepend_known pending source) budget 0)
read_first None budget pending b p = tt
read_first (Some script) budget pending b p = record {
  text = script;
  ahead_is = ap (λ (p' : List ℕ). Some (p' ++ script)) p;
  bad = ap (λ n. bad_line (lines_within n script)) (sym b) ∙ option_zero (bad_line (lines_within budget script));
  long = ((λ h. omega (arith, h, b)), (λ h. omega (arith, h, b)));
}

module _ (script : List ℕ) (ahead : Option (List ℕ)) (budget number : ℕ) (r : ReadTo script ahead budget number) where
  read_known : (next : Next) (rest : Option (List ℕ)) (left : ℕ) → GivesKnown next ahead budget rest left → GivesKnown next (Some r.text) budget rest left
  read_known next rest left g = subst (λ (o : Option (List ℕ)). GivesKnown next o budget rest left) r.ahead_is g

  read_bad : (lines : List (List ℕ)) → lines_within budget r.text ≡ lines → bad_line (script_lines script) ≡ option_map (λ k. number + k) (bad_line lines)
  read_bad lines e = r.bad ∙ ap (λ ls. option_map (λ k. number + k) (bad_line ls)) e

  pub read_end : (rest : Option (List ℕ)) (left : ℕ) → GivesKnown End (Some r.text) budget rest left → script_status script ≡ Done
  read_end None left g = absurd g
  read_end (Some rest) left g = status_with script None false (read_bad [] g.0) (lt-leb (suc script_limit) (length script) (omega (arith, r.long.1 g.1)))

  pub read_long : (rest : Option (List ℕ)) (left : ℕ) → GivesKnown TooLong (Some r.text) budget rest left → script_status script ≡ ScriptTooLong
  read_long None left g = absurd g
  read_long (Some rest) left g = elim (cases_lt script_limit (length script)) [
    | inl more ↦ status_with script None true (read_bad [] g.0) (le-leb (suc script_limit) (length script) more)
    | inr few ↦ absurd (omega (arith, r.long.0 few, g.1))
  ]

  pub read_none : (rest : Option (List ℕ)) (left : ℕ) (text : List ℕ) → GivesKnown (Text text) (Some r.text) budget rest left → line_of text ≡ None
      → script_status script ≡ BadScript (number + 1)
  read_none None left text g e = absurd g
  read_none (Some rest) left text g e =
      status_with script (Some (number + 1)) (nat_lt script_limit (length script))
      (read_bad (text ∷ lines_within left rest) g.0 ∙ ap (λ o. option_map (λ k. number + k) (number_behind o (bad_line (lines_within left rest)))) e) refl

  pub read_more : (rest : Option (List ℕ)) (left : ℕ) (text : List ℕ) (line : Line) → GivesKnown (Text text) (Some r.text) budget rest left → line_of text ≡ Some line
      → ReadTo script rest left (number + 1)
  read_more None left text line g e = absurd g
  read_more (Some rest) left text line g e = record {
    text = rest;
    ahead_is = refl;
    bad = r.bad ∙ ap (λ ls. option_map (λ k. number + k) (bad_line ls)) g.0
        ∙ ap (λ o. option_map (λ k. number + k) (number_behind o (bad_line (lines_within left rest)))) e
        ∙ bad_line-more number (bad_line (lines_within left rest));
    long = ((λ p. g.1.0 (r.long.0 p)), (λ p. r.long.1 (g.1.1 p)));
  }

module _ (source : Option (List ℕ)) (ahead : Option (List ℕ)) (budget number : ℕ) (reading : IfSome source (λ script. ReadTo script ahead budget number)) where
  pub tells_end : (rest : Option (List ℕ)) (left : ℕ) → GivesKnown End ahead budget rest left → IfSome source (λ script. EndsBy script Done)
  tells_end rest left g = IfSome-with source (λ script r. read_end script ahead budget number r rest left (read_known script ahead budget number r End rest left g)) reading

  pub tells_long : (rest : Option (List ℕ)) (left : ℕ) → GivesKnown TooLong ahead budget rest left → IfSome source (λ script. EndsBy script ScriptTooLong)
  tells_long rest left g = IfSome-with source (λ script r. read_long script ahead budget number r rest left (read_known script ahead budget number r TooLong rest left g)) reading

  pub tells_bad : (rest : Option (List ℕ)) (left : ℕ) (text : List ℕ) → GivesKnown (Text text) ahead budget rest left → line_of text ≡ None
      → IfSome source (λ script. EndsBy script (BadScript (number + 1)))
  tells_bad rest left text g e = IfSome-with source (λ script r.
      read_none script ahead budget number r rest left text (read_known script ahead budget number r (Text text) rest left g) e) reading

  pub reading_more : (rest : Option (List ℕ)) (left : ℕ) (text : List ℕ) (line : Line) → GivesKnown (Text text) ahead budget rest left → line_of text ≡ Some line
      → IfSome source (λ script. ReadTo script rest left (number + 1))
  reading_more rest left text line g e = IfSome-with source (λ script r.
      read_more script ahead budget number r rest left text line (read_known script ahead budget number r (Text text) rest left g) e) reading

pub tells_other : (source : Option (List ℕ)) (status : Status) → IsOther status → IfSome source (λ script. EndsBy script status)
tells_other None status f = tt
tells_other (Some script) status f = EndsBy-other script status f
