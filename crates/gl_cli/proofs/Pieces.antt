-- What a connection gives that is sent a piece.
use Rattle.std.specs.Prelude.{◌≡◌, ℕ, Bool, true, false, List, [], ◌∷◌, ◌++◌, Option, Some, None, codes, nat_le, length, if◌then◌else◌}
use Rattle.std.proofs.Common.{refl, ◌∙◌, ap, sym, subst}
use Rattle.std.specs.Io.KnownBytes.{Appends}
use Rattle.gl_lines.specs.ZeroFraming.{is_too_long, parts_of}
use Rattle.gl_lines.specs.LineFraming.{has_count}
use Rattle.gl_fields.specs.declared.input_kind.InputKind.{InputKind}
use Rattle.gl_fields.specs.declared.input_kind.InputKind.TheVariants.{Raw, Gelf, Syslog}
use Rattle.gl_outside.specs.Disk.{Image, DiskState, Tells}
use Rattle.gl_node.specs.Node.{Keeps, NodeOn}
use Rattle.gl_node.specs.Standing.{StandsFor}
use Rattle.gl_node.specs.Configuration.{config_after, kind_of}
use Rattle.gl_node.specs.State.{State}
use Rattle.gl_node.specs.declared.answer.Arrival.TheVariants.{FrameTooLong, UnknownInput}
use Rattle.gl_cli.specs.declared.desk.Desk.{Desk}
use Rattle.gl_cli.specs.declared.line.Line.TheVariants.{Tcp}
use Rattle.gl_cli.specs.Answers.{words_text, arrival_words}
use Rattle.gl_cli.specs.Connections.{Connection, connection_of, is_closed, last_frame, most_connections, new_frames, replaced, with_sent}
use Rattle.gl_cli.specs.Runs.{Turn, answered, begun_turn, closed_turn, connections_after, end_turn, end_turn_by, frames_turn, refused_turn, sent_connections, sent_turn, tcp_turn, tcp_turn_by, turn_events, turn_text}
use Rattle.gl_cli.specs.Sessions.{DoesTurn, CutsTurn, DuringTurn, CutLeaves, payload_turn}
use Rattle.gl_cli.specs.Writing.{AppendsSome}
use Rattle.gl_cli.proofs.Sinks.{Appends-nothing}
use Rattle.gl_cli.proofs.Steps.{does_both, cuts_first, cuts_second, during_first, leaves_in_first, leaves_in_second, cuts_quiet, does_quiet, leaves_eventless, one_text}

pub events_refused : (bytes : List ℕ) → turn_events (refused_turn bytes) ≡ []
events_refused [] = refl
events_refused (b ∷ bytes) = refl

events_closed : (b : Bool) → turn_events (closed_turn b) ≡ []
events_closed true = refl
events_closed false = refl

text_closed : (b : Bool) → b ≡ true → words_text (arrival_words FrameTooLong) ≡ turn_text (closed_turn b)
text_closed b is = one_text (arrival_words FrameTooLong) ∙ ap (λ (x : Bool). turn_text (closed_turn x)) (sym is)

text_going : (b : Bool) → b ≡ false → [] ≡ turn_text (closed_turn b)
text_going b is = ap (λ (x : Bool). turn_text (closed_turn x)) (sym is)

-- a piece of a connection that wasn't closed: its frames, and a line of its own where it is closed now
module _ (moment : ℕ) (input peer piece : List ℕ) (kind : InputKind) (before : List ℕ) (old now : Desk) (from mid : Option (List ℕ)) (d0 d1 : DiskState) where
  abbrev frames : State → Turn
  frames = frames_turn moment input peer (new_frames kind before piece)

  abbrev closing : State → Turn
  closing s = closed_turn (is_closed kind (before ++ piece))

  abbrev sent : State → Turn
  sent = sent_turn moment input peer kind before piece

  pub piece_cut : CutsTurn frames old from mid → CutsTurn sent old from mid
  piece_cut cuts = cuts_first frames closing old from mid cuts

  pub piece_during : DuringTurn frames old d0 d1 → DuringTurn sent old d0 d1
  piece_during during = during_first frames closing old d0 d1 during

  pub piece_leaves : CutLeaves frames old from mid d0 d1 → CutLeaves sent old from mid d0 d1
  piece_leaves leaves = leaves_in_first frames closing old from mid d0 d1 leaves

  module _ (closed : Bool) (is : closed ≡ is_closed kind (before ++ piece)) (does : DoesTurn frames old now from mid) where
    pub piece_going : closed ≡ false → DoesTurn sent old now from mid
    piece_going goes = does_both frames closing old now now from mid mid does
        (does_quiet (closed_turn (is_closed kind (before ++ piece))) (events_closed (is_closed kind (before ++ piece))) now mid mid
        (subst (λ (t : List ℕ). Appends mid mid t) (text_going (is_closed kind (before ++ piece)) (sym is ∙ goes)) (Appends-nothing mid)))

    module _ (ends : closed ≡ true) (last : Option (List ℕ)) where
      pub piece_closed : Appends mid last (words_text (arrival_words FrameTooLong)) → DoesTurn sent old now from last
      piece_closed gained = does_both frames closing old now now from mid last does
          (does_quiet (closed_turn (is_closed kind (before ++ piece))) (events_closed (is_closed kind (before ++ piece))) now mid last
          (subst (λ (t : List ℕ). Appends mid last t) (text_closed (is_closed kind (before ++ piece)) (sym is ∙ ends)) gained))

      cuts_closing : AppendsSome mid last (words_text (arrival_words FrameTooLong)) → CutsTurn closing now mid last
      cuts_closing some = cuts_quiet (closed_turn (is_closed kind (before ++ piece))) (events_closed (is_closed kind (before ++ piece))) now mid last
          (subst (λ (t : List ℕ). AppendsSome mid last t) (text_closed (is_closed kind (before ++ piece)) (sym is ∙ ends)) some)

      pub piece_closed_cut : AppendsSome mid last (words_text (arrival_words FrameTooLong)) → CutsTurn sent old from last
      piece_closed_cut some = cuts_second frames closing old now from mid last does (cuts_closing some)

      pub piece_closed_leaves : AppendsSome mid last (words_text (arrival_words FrameTooLong)) → d1.tells ≡ d0.tells → (Tells d0 → NodeOn old.node d0 → NodeOn now.node d1)
          → ((s : State) → Keeps now.node s → NodeOn now.node d1 → (c : Image) → d1.may_leave c → StandsFor c s) → CutLeaves sent old from last d0 d1
      piece_closed_leaves some same stays shows = leaves_in_second frames closing old now from mid last d0 d1 d1 does same stays
          (leaves_eventless now d1 shows closing mid last (λ s. events_closed (is_closed kind (before ++ piece))) (cuts_closing some))

-- a connection that has begun
module _ (moment : ℕ) (input peer piece : List ℕ) (c : Connection) where
  pub refused_is : is_closed c.kind c.bytes ≡ true → (s : State) → refused_turn piece ≡ begun_turn moment input peer c piece s
  refused_is is s = ap (λ (b : Bool). if b then refused_turn piece else sent_turn moment input peer c.kind c.bytes piece s) (sym is)

  pub sent_is : is_closed c.kind c.bytes ≡ false → (s : State) → sent_turn moment input peer c.kind c.bytes piece s ≡ begun_turn moment input peer c piece s
  sent_is is s = ap (λ (b : Bool). if b then refused_turn piece else sent_turn moment input peer c.kind c.bytes piece s) (sym is)

  pub closed_stays : is_closed c.kind c.bytes ≡ true → c ≡ with_sent peer piece c
  closed_stays is = ap (λ (b : Bool). if b then c else record c { peer = peer; bytes = c.bytes ++ piece }) (sym is)

  pub sent_now : is_closed c.kind c.bytes ≡ false → record c { peer = peer; bytes = c.bytes ++ piece } ≡ with_sent peer piece c
  sent_now is = ap (λ (b : Bool). if b then c else record c { peer = peer; bytes = c.bytes ++ piece }) (sym is)

-- a connection that begins
module _ (moment : ℕ) (input peer piece : List ℕ) (kind : InputKind) (cs : List Connection) where
  pub full_is : nat_le most_connections (length cs) ≡ true → (s : State)
      → (answered (codes "too-many-connections" ∷ []) [] ∷ []) ≡ tcp_turn_by (Some kind) None moment cs input peer piece s
  full_is is s = ap (λ (b : Bool). if b then answered (codes "too-many-connections" ∷ []) [] ∷ [] else sent_turn moment input peer kind [] piece s) (sym is)

  pub begins_is : nat_le most_connections (length cs) ≡ false → (s : State)
      → sent_turn moment input peer kind [] piece s ≡ tcp_turn_by (Some kind) None moment cs input peer piece s
  begins_is is s = ap (λ (b : Bool). if b then answered (codes "too-many-connections" ∷ []) [] ∷ [] else sent_turn moment input peer kind [] piece s) (sym is)

-- what is sent to a connection, by the kind of its input and where it stands
module _ (moment : ℕ) (cs : List Connection) (input : List ℕ) (number : ℕ) (peer piece : List ℕ) (s : State) where
  pub unknown_is : kind_of (config_after s.journal) input ≡ None → (answered (arrival_words UnknownInput) [] ∷ []) ≡ tcp_turn moment cs input number peer piece s
  unknown_is e = ap (λ (o : Option InputKind). tcp_turn_by o (connection_of input number cs) moment cs input peer piece s) (sym e)

  pub after_unknown : kind_of (config_after s.journal) input ≡ None → cs ≡ connections_after s cs (Tcp input number peer piece)
  after_unknown e = ap (λ (o : Option InputKind). sent_connections o (connection_of input number cs) cs input number peer piece) (sym e)

  module _ (kind : InputKind) (known : kind_of (config_after s.journal) input ≡ Some kind) where
    pub first_is : connection_of input number cs ≡ None → tcp_turn_by (Some kind) None moment cs input peer piece s ≡ tcp_turn moment cs input number peer piece s
    first_is e =
        ap (λ (o : Option Connection). tcp_turn_by (Some kind) o moment cs input peer piece s) (sym e)
        ∙ ap (λ (o : Option InputKind). tcp_turn_by o (connection_of input number cs) moment cs input peer piece s) (sym known)

    pub after_first : connection_of input number cs ≡ None → sent_connections (Some kind) None cs input number peer piece ≡ connections_after s cs (Tcp input number peer piece)
    after_first e =
        ap (λ (o : Option Connection). sent_connections (Some kind) o cs input number peer piece) (sym e)
        ∙ ap (λ (o : Option InputKind). sent_connections o (connection_of input number cs) cs input number peer piece) (sym known)

    pub begun_is : (c : Connection) → connection_of input number cs ≡ Some c → begun_turn moment input peer c piece s ≡ tcp_turn moment cs input number peer piece s
    begun_is c e =
        ap (λ (o : Option Connection). tcp_turn_by (Some kind) o moment cs input peer piece s) (sym e)
        ∙ ap (λ (o : Option InputKind). tcp_turn_by o (connection_of input number cs) moment cs input peer piece s) (sym known)

    pub after_begun : (c : Connection) → connection_of input number cs ≡ Some c → replaced (with_sent peer piece c) cs ≡ connections_after s cs (Tcp input number peer piece)
    after_begun c e =
        ap (λ (o : Option Connection). sent_connections (Some kind) o cs input number peer piece) (sym e)
        ∙ ap (λ (o : Option InputKind). sent_connections o (connection_of input number cs) cs input number peer piece) (sym known)

-- what the end of a connection gives
module _ (moment : ℕ) (cs : List Connection) (input : List ℕ) (number : ℕ) (s : State) where
  pub no_end_is : connection_of input number cs ≡ None → [] ≡ end_turn moment cs input number s
  no_end_is e = ap (λ (o : Option Connection). end_turn_by o moment input s) (sym e)

  pub quiet_end_is : (c : Connection) → connection_of input number cs ≡ Some c → last_frame c.kind c.bytes ≡ [] → [] ≡ end_turn moment cs input number s
  quiet_end_is c e none =
      ap (λ (fs : List (List ℕ)). frames_turn moment input c.peer fs s) (sym none) ∙ ap (λ (o : Option Connection). end_turn_by o moment input s) (sym e)

  pub frame_end_is : (c : Connection) (frame : List ℕ) → connection_of input number cs ≡ Some c → last_frame c.kind c.bytes ≡ frame ∷ [] → payload_turn moment input c.peer frame s ≡ end_turn moment cs input number s
  frame_end_is c frame e last =
      ap (λ (fs : List (List ℕ)). frames_turn moment input c.peer fs s) (sym last) ∙ ap (λ (o : Option Connection). end_turn_by o moment input s) (sym e)

-- the connections after something was sent that began one, or didn't
module _ (cs : List Connection) (input : List ℕ) (number : ℕ) (peer piece : List ℕ) (kind : InputKind) where
  pub after_full : nat_le most_connections (length cs) ≡ true → cs ≡ sent_connections (Some kind) None cs input number peer piece
  after_full is = ap (λ (b : Bool). if b then cs else cs ++ record { input = input; number = number; kind = kind; peer = peer; bytes = piece } ∷ []) (sym is)

  pub after_begins : nat_le most_connections (length cs) ≡ false
      → cs ++ record { input = input; number = number; kind = kind; peer = peer; bytes = piece } ∷ [] ≡ sent_connections (Some kind) None cs input number peer piece
  after_begins is = ap (λ (b : Bool). if b then cs else cs ++ record { input = input; number = number; kind = kind; peer = peer; bytes = piece } ∷ []) (sym is)

-- a connection that was sent nothing is open
pub open_at_first : (kind : InputKind) → is_closed kind [] ≡ false
unfolding is_too_long parts_of has_count
open_at_first Raw = refl
open_at_first Gelf = refl
open_at_first Syslog = refl
