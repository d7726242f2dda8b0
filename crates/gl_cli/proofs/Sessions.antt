-- How a session goes on.
use Rattle.std.specs.Prelude.{◌≡◌, ℕ, suc, ◌+◌, false, List, [], ◌∷◌, ◌++◌, Option, Some, None, max, map}
use Rattle.std.specs.List.{fold}
use Rattle.std.specs.Option.{option_map}
use Rattle.std.proofs.Common.{refl, ◌∙◌, ap, sym, subst, append_assoc, arith, append-nil}
use Rattle.std.proofs.lemmas.Grind.{flat_map-append}
use Rattle.std.proofs.lemmas.List.Sums.{fold-append}
use Rattle.std.proofs.lemmas.List.{map-append}
use Rattle.std.specs.Io.KnownBytes.{Appends}
use Rattle.gl_outside.specs.Disk.{Image, DiskState, LeavesOnly, Tells}
use Rattle.gl_node.specs.Moments.{LeftBy}
use Rattle.gl_node.specs.Node.{NodeOn}
use Rattle.gl_node.specs.State.{Base, State, Event, opened, state_after, happened}
use Rattle.gl_cli.specs.declared.connections.Connections.{Connections}
use Rattle.gl_cli.specs.declared.desk.Desk.{Desk}
use Rattle.gl_cli.specs.declared.line.Line.{Line}
use Rattle.gl_cli.specs.declared.reader.Next.TheVariants.{Line as Text}
use Rattle.gl_cli.specs.Connections.{Connection}
use Rattle.gl_cli.specs.Script.{lines_within, lines_run, bad_line, moment_after, moment_in, line_of, read_then, number_behind}
use Rattle.gl_cli.specs.Runs.{Turn, connections_after, turns_of, turn_of, all_events, all_text, turn_events, turn_text}
use Rattle.gl_cli.specs.LineReading.{GivesKnown}
use Rattle.gl_cli.specs.Sessions.{Running, Answered, CutShort, CutAt, DoesTurn, CutsTurn, DuringTurn, CutLeaves, Follows, StandFor, With}
use Rattle.gl_cli.proofs.Sinks.{Appends-more}

-- a line's turn, by the moment after the lines before it
pub does_line : (old new : Desk) (from to : Connections) (before now : Option (List ℕ)) (moment : ℕ) (line : Line)
    → With from (λ cs. DoesTurn (turn_of moment cs false line) old new before now) → Follows line old from to
    → (s : State) (cs : List Connection) (past : List Line) → StandFor old from s cs → moment ≡ moment_after past
    → StandFor new to (state_after s (turn_events (turn_of (moment_after past) cs false line s))) (connections_after s cs line)
    × Answered (turn_of (moment_after past) cs false line s) before now
does_line old new from to before now moment line does follows s cs past stand e =
    let done = does cs stand.1 s stand.0 in
    subst (λ (m : ℕ). StandFor new to (state_after s (turn_events (turn_of m cs false line s))) (connections_after s cs line) × Answered (turn_of m cs false line s) before now) e
    ((done.0, follows cs stand.1 s stand.0), done.1)

pub cuts_line : (old : Desk) (from : Connections) (before now : Option (List ℕ)) (moment : ℕ) (line : Line)
    → With from (λ cs. CutsTurn (turn_of moment cs false line) old before now)
    → (s : State) (cs : List Connection) (past : List Line) → StandFor old from s cs → moment ≡ moment_after past
    → CutShort (turn_of (moment_after past) cs false line s) before now
cuts_line old from before now moment line cuts s cs past stand e =
    subst (λ (m : ℕ). CutShort (turn_of m cs false line s) before now) e (cuts cs stand.1 s stand.0)

pub moment_after-more : (past : List Line) (line : Line) → moment_after (past ++ line ∷ []) ≡ max (moment_after past) (moment_in line)
moment_after-more past line =
    ap (λ ms. fold max 0 ms) (map-append moment_in past (line ∷ []))
    ∙ fold-append max 0 (map moment_in past) (moment_in line ∷ [])

pub state_after-more : (s : State) (xs ys : List Event) → state_after (state_after s xs) ys ≡ state_after s (xs ++ ys)
state_after-more s xs ys = sym (fold-append happened s xs ys)

pub all_events-more : (turns : List Turn) (turn : Turn) → all_events (turns ++ turn ∷ []) ≡ all_events turns ++ turn_events turn
all_events-more turns turn = flat_map-append turn_events turns (turn ∷ []) ∙ ap (λ es. all_events turns ++ es) (append-nil (turn_events turn))

pub all_text-more : (turns : List Turn) (turn : Turn) → all_text (turns ++ turn ∷ []) ≡ all_text turns ++ turn_text turn
all_text-more turns turn = flat_map-append turn_text turns (turn ∷ []) ∙ ap (λ es. all_text turns ++ es) (append-nil (turn_text turn))

-- the lines ahead begin with a line that is read
pub turns_of-line : (past : List Line) (cs : List Connection) (s : State) (lines : List (List ℕ)) (text : List ℕ) (rest : List (List ℕ)) (line : Line)
    → lines ≡ text ∷ rest → line_of text ≡ Some line
    → turns_of past cs s [] (lines_run lines)
    ≡ turn_of (moment_after past) cs false line s
    ∷ turns_of (past ++ line ∷ []) (connections_after s cs line) (state_after s (turn_events (turn_of (moment_after past) cs false line s))) [] (lines_run rest)
turns_of-line past cs s lines text rest line e f =
    ap (λ ls. turns_of past cs s [] (lines_run ls)) e ∙ ap (λ o. turns_of past cs s [] (read_then o (lines_run rest))) f

pub bad_line-more : (number : ℕ) (later : Option ℕ) → option_map (λ k. number + k) (option_map suc later) ≡ option_map (λ k. number + 1 + k) later
bad_line-more number None = refl
bad_line-more number (Some k) = let n : number + suc k ≡ number + 1 + k = omega arith in ap (λ (x : ℕ). Some x) n

pub running_more : (base : Base) (script : List ℕ) (before mid now : Option (List ℕ)) (s : State) (cs : List Connection) (rest : Option (List ℕ))
    (budget left number moment later : ℕ) (text : List ℕ) (line : Line)
    {ahead : Option (List ℕ)} (r : Running base script before mid s cs ahead budget number moment)
    → GivesKnown (Text text) (Some r.text) budget rest left
    → line_of text ≡ Some line
    → Answered (turn_of (moment_after r.past) cs false line s) mid now
    → later ≡ max moment (moment_in line)
    → Running base script before now (state_after s (turn_events (turn_of (moment_after r.past) cs false line s))) (connections_after s cs line) rest left (number + 1) later
running_more base script before mid now s cs None budget left number moment later text line r g e gained m = absurd g
running_more base script before mid now s cs (Some rest) budget left number moment later text line r g e gained m =
    let turn : Turn = turn_of (moment_after r.past) cs false line s in
    let after : State = state_after s (turn_events turn) in
    record {
      turns = r.turns ++ turn ∷ [];
      past = r.past ++ line ∷ [];
      text = rest;
      ahead_is = refl;
      all = r.all
          ∙ ap (λ ts. r.turns ++ ts) (turns_of-line r.past cs s (lines_within budget r.text) text (lines_within left rest) line g.0 e)
          ∙ sym (append_assoc r.turns (turn ∷ []) (turns_of (r.past ++ line ∷ []) (connections_after s cs line) after [] (lines_run (lines_within left rest))));
      state_is = ap (λ q. state_after q (turn_events turn)) r.state_is
          ∙ state_after-more (opened base) (all_events r.turns) (turn_events turn)
          ∙ ap (state_after (opened base)) (sym (all_events-more r.turns turn));
      moment_is = m ∙ ap (λ n. max n (moment_in line)) r.moment_is ∙ sym (moment_after-more r.past line);
      bad = r.bad ∙ ap (λ ls. option_map (λ k. number + k) (bad_line ls)) g.0
          ∙ ap (λ o. option_map (λ k. number + k) (number_behind o (bad_line (lines_within left rest)))) e
          ∙ bad_line-more number (bad_line (lines_within left rest));
      long = ((λ p. g.1.0 (r.long.0 p)), (λ p. r.long.1 (g.1.1 p)));
      gained = subst (Appends before now) (sym (all_text-more r.turns turn)) (Appends-more before mid now (all_text r.turns) (turn_text turn) r.gained gained);
    }

-- the same for what a crash leaves of a line
pub during_line : (old : Desk) (from : Connections) (moment : ℕ) (line : Line) (d0 d1 : DiskState)
    → With from (λ cs. DuringTurn (turn_of moment cs false line) old d0 d1) → Tells d0 → NodeOn old.node d0
    → (s : State) (cs : List Connection) (past : List Line) → StandFor old from s cs → moment ≡ moment_after past
    → LeavesOnly d0 d1 (LeftBy s (turn_events (turn_of (moment_after past) cs false line s)) d0)
during_line old from moment line d0 d1 during tells on s cs past stand e =
    subst (λ (m : ℕ). LeavesOnly d0 d1 (LeftBy s (turn_events (turn_of m cs false line s)) d0)) e (during cs stand.1 tells on s stand.0)

pub cut_line : (old : Desk) (from : Connections) (before now : Option (List ℕ)) (moment : ℕ) (line : Line) (d0 d1 : DiskState)
    → With from (λ cs. CutLeaves (turn_of moment cs false line) old before now d0 d1) → Tells d0 → NodeOn old.node d0
    → (s : State) (cs : List Connection) (past : List Line) → StandFor old from s cs → moment ≡ moment_after past
    → (c : Image) → d1.may_leave c → CutAt s (turn_of (moment_after past) cs false line s) before now c
cut_line old from before now moment line d0 d1 cut tells on s cs past stand e c left =
    subst (λ (m : ℕ). CutAt s (turn_of m cs false line s) before now c) e (cut cs stand.1 tells on s stand.0 c left)
