-- What a reader of frames answers, for each kind of input.
use Rattle.std.specs.Prelude.{◌≡◌, ℕ, zero, suc, ◌+◌, ◌<◌, ◌≤◌, Bool, true, false, not, List, [], ◌∷◌, ◌++◌, length, take, map, filter, Option, Some, None, IsSome, MatchOption}
use Rattle.std.specs.Option.{is_some}
use Rattle.std.proofs.Common.{refl, ◌∙◌, ap, sym, subst, arith, append-nil, length-append}
use Rattle.std.proofs.lemmas.Bool.{false≢true}
use Rattle.std.proofs.lemmas.List.{take_all, map-append}
use Rattle.gl_base.specs.declared.fed.Fed.{Fed}
use Rattle.gl_base.specs.declared.fed.Fed.TheVariants.{Nothing, Whole, TooLong, Closed}
use Rattle.gl_fields.specs.declared.input_kind.InputKind.{InputKind}
use Rattle.gl_fields.specs.declared.input_kind.InputKind.TheVariants.{Raw, Gelf, Syslog}
use Rattle.gl_lines.specs.ZeroReader.{ZeroView}
use Rattle.gl_lines.specs.ZeroFraming.{frames_of, is_too_long, parts_of}
use Rattle.gl_lines.specs.ZeroReader as zeros
use Rattle.gl_lines.specs.LineFraming.{Framed, has_count}
use Rattle.gl_lines.specs.LineFraming as framing
use Rattle.gl_lines.specs.LineFrames.{line_frames, has_long_line, isnt_empty, last_line_frame, last_of_rest}
use Rattle.gl_lines.specs.Reader.{ReaderView, StandsFor, IsAnswer, IsLast, told}
use Rattle.gl_cli.specs.declared.frames.Frames.{Frames}
use Rattle.gl_cli.specs.declared.frames.Frames.TheVariants.{Zero, Lines}
use Rattle.gl_cli.specs.Connections.{ended_frames, is_closed, last_frame}
use Rattle.gl_cli.specs.Opened.{Ended, FramesStandFor, LinesStandFor, Took}

-- nothing was sent, so no frame was too long
pub begins_open : (kind : InputKind) → is_closed kind [] ≡ false
unfolding is_too_long parts_of has_count
begins_open Gelf = refl
begins_open Raw = refl
begins_open Syslog = refl

-- ---- parts between zero bytes

pub zero_stands : (kind : InputKind) (z : ZeroView) (bytes : List ℕ) → FramesStandFor kind (Zero z) bytes → zeros.StandsFor z bytes
zero_stands Gelf z bytes stands = stands
zero_stands Raw z bytes stands = absurd stands
zero_stands Syslog z bytes stands = absurd stands

zero_feeds : (fed : Fed) (frame given piece : List ℕ) (n : ℕ) → zeros.Feeds fed frame given piece n → Took fed Gelf given piece n frame
zero_feeds Nothing frame given piece n f =
    let all : take n piece ≡ piece = take_all n piece (omega (arith, f.0)) in
    (f.0, ap (λ (p : List ℕ). frames_of (given ++ p)) all ∙ f.2, ap (λ (p : List ℕ). is_too_long (given ++ p)) all ∙ f.1)
zero_feeds Whole frame given piece n f = (f.0, f.3, f.2)
zero_feeds TooLong frame given piece n f =
    let all : take n piece ≡ piece = take_all n piece (omega (arith, f.0)) in
    (f.0, ap (λ (p : List ℕ). frames_of (given ++ p)) all ∙ f.3, ap (λ (p : List ℕ). is_too_long (given ++ p)) all ∙ f.2)
zero_feeds Closed frame given piece n f = f.1

pub zero_took : (kind : InputKind) (old new : ZeroView) (bytes piece : List ℕ) (n : ℕ) (fed : Fed)
    → ((given : List ℕ) → zeros.StandsFor old given → zeros.Takes new given piece n fed)
    → FramesStandFor kind (Zero old) bytes → Took fed kind bytes piece n (new.frame) × FramesStandFor kind (Zero new) (bytes ++ take n piece)
zero_took Gelf old new bytes piece n fed takes stands =
    let t = takes bytes stands in (zero_feeds fed (new.frame) bytes piece n t.feeds, t.stands)
zero_took Raw old new bytes piece n fed takes stands = absurd stands
zero_took Syslog old new bytes piece n fed takes stands = absurd stands

fed_within : (fed : Fed) (frame given piece : List ℕ) (n : ℕ) → zeros.Feeds fed frame given piece n → n ≤ length piece
fed_within Nothing frame given piece n f = omega (arith, f.0)
fed_within Whole frame given piece n f = f.1
fed_within TooLong frame given piece n f = omega (arith, f.0)
fed_within Closed frame given piece n f = omega (arith, f.0)

pub zero_within : (kind : InputKind) (old new : ZeroView) (bytes piece : List ℕ) (n : ℕ) (fed : Fed)
    → ((given : List ℕ) → zeros.StandsFor old given → zeros.Takes new given piece n fed) → FramesStandFor kind (Zero old) bytes → n ≤ length piece
zero_within kind old new bytes piece n fed takes stands =
    fed_within fed (new.frame) bytes piece n (takes bytes (zero_stands kind old bytes stands)).feeds

zero_last : (fed : Fed) (z : ZeroView) (given frame : List ℕ) → zeros.IsEnd fed z given → Ended fed [] frame
zero_last Nothing z given frame e = refl
zero_last Whole z given frame e = absurd e
zero_last TooLong z given frame e = refl
zero_last Closed z given frame e = refl

pub zero_ended : (kind : InputKind) (old new : ZeroView) (bytes frame : List ℕ) (fed : Fed) → ((given : List ℕ) → zeros.StandsFor old given → zeros.IsEnd fed new given)
    → FramesStandFor kind (Zero old) bytes → Ended fed (last_frame kind bytes) frame
zero_ended Gelf old new bytes frame fed ends stands = zero_last fed new bytes frame (ends bytes stands)
zero_ended Raw old new bytes frame fed ends stands = absurd stands
zero_ended Syslog old new bytes frame fed ends stands = absurd stands

-- ---- lines

-- what is answered, by the frames and the closing that the bytes have
abbrev pub TookBy : Fed → (List ℕ → List (List ℕ)) → (List ℕ → Bool) → List ℕ → List ℕ → ℕ → List ℕ → Type 0
TookBy Nothing ended closed bytes piece n frame = (n ≡ length piece) × (ended (bytes ++ take n piece) ≡ ended bytes) × (closed (bytes ++ take n piece) ≡ false)
TookBy Whole ended closed bytes piece n frame = (0 < n) × (ended (bytes ++ take n piece) ≡ ended bytes ++ frame ∷ []) × (closed (bytes ++ take n piece) ≡ false)
TookBy TooLong ended closed bytes piece n frame = (n ≡ length piece) × (ended (bytes ++ take n piece) ≡ ended bytes) × (closed (bytes ++ take n piece) ≡ true)
TookBy Closed ended closed bytes piece n frame = closed bytes ≡ true

took_raw : (fed : Fed) (bytes piece : List ℕ) (n : ℕ) (frame : List ℕ) → TookBy fed (line_frames false) (has_long_line false) bytes piece n frame → Took fed Raw bytes piece n frame
took_raw Nothing bytes piece n frame t = t
took_raw Whole bytes piece n frame t = t
took_raw TooLong bytes piece n frame t = t
took_raw Closed bytes piece n frame t = t

took_syslog : (fed : Fed) (bytes piece : List ℕ) (n : ℕ) (frame : List ℕ) → TookBy fed (line_frames true) (has_long_line true) bytes piece n frame → Took fed Syslog bytes piece n frame
took_syslog Nothing bytes piece n frame t = t
took_syslog Whole bytes piece n frame t = t
took_syslog TooLong bytes piece n frame t = t
took_syslog Closed bytes piece n frame t = t

isnt : (b : Bool) → true ≡ not b → b ≡ false
isnt true e = absurd (false≢true (sym e))
isnt false e = refl

is : (b : Bool) → false ≡ not b → b ≡ true
is true e = refl
is false e = absurd (false≢true e)

longer : (xs : List (List ℕ)) (x : List ℕ) → xs ≡ xs ++ x ∷ [] → ⊥
longer xs x e = omega (arith, ap (λ (l : List (List ℕ)). length l) e, length-append xs (x ∷ []))

-- a frame that wasn't there before has taken a byte
some_taken : (ended : List ℕ → List (List ℕ)) (bytes piece : List ℕ) (n : ℕ) (frame : List ℕ) → ended (bytes ++ take n piece) ≡ ended bytes ++ frame ∷ [] → 0 < n
some_taken ended bytes piece zero frame e = absurd (longer (ended bytes) frame (ap ended (sym (append-nil bytes)) ∙ e))
some_taken ended bytes piece (suc n) frame e = omega arith

-- the frames of what a reader was given are those of the bytes
abbrev pub FramesAre : Type 0
FramesAre = (counts : Bool) (bytes : List ℕ) (frames : List (ℕ × List ℕ)) (rest : Option (List ℕ)) → Framed counts bytes frames rest
    → map {B = List ℕ} (λ f. f.1) frames ≡ line_frames counts bytes

abbrev pub ClosedIs : Type 0
ClosedIs = (counts : Bool) (bytes : List ℕ) (frames : List (ℕ × List ℕ)) (rest : Option (List ℕ)) → Framed counts bytes frames rest
    → is_some rest ≡ not (has_long_line counts bytes)

abbrev pub LastIs : Type 0
LastIs = (counts : Bool) (bytes : List ℕ) (frames : List (ℕ × List ℕ)) (rest : Option (List ℕ)) → Framed counts bytes frames rest
    → last_of_rest counts rest ≡ last_line_frame counts bytes

abbrev pub GoOn : Type 0
GoOn = (counts : Bool) (bytes : List ℕ) (frames : List (ℕ × List ℕ)) (rest : Option (List ℕ)) → Framed counts bytes frames rest
    → (more : List ℕ) → (later : List (List ℕ)) × (line_frames counts (bytes ++ more) ≡ line_frames counts bytes ++ later)

pub new_lines : (counts : Bool) (reader : ReaderView) → reader.counts ≡ counts → StandsFor reader [] [] → LinesStandFor counts reader []
new_lines counts reader e stands = (e, ([], stands))

abbrev texts : List (ℕ × List ℕ) → List (List ℕ)
texts frames = map {B = List ℕ} (λ f. f.1) frames

texts-more : (xs ys : List (ℕ × List ℕ)) → texts (xs ++ ys) ≡ texts xs ++ texts ys
texts-more xs ys = map-append {B = List ℕ} (λ f. f.1) xs ys

module _ (frames_are : FramesAre) (closed_is : ClosedIs) (counts : Bool) (reader : ReaderView) (bytes : List ℕ) (stands : LinesStandFor counts reader bytes) where
  line_texts : texts stands.1.0 ≡ line_frames counts bytes
  line_texts = frames_are reader.counts bytes stands.1.0 reader.rest stands.1.1 ∙ ap (λ (c : Bool). line_frames c bytes) stands.0

  line_closed : is_some reader.rest ≡ not (has_long_line counts bytes)
  line_closed = closed_is reader.counts bytes stands.1.0 reader.rest stands.1.1 ∙ ap (λ (c : Bool). not (has_long_line c bytes)) stands.0

  line_open : IsSome reader.rest → has_long_line counts bytes ≡ false
  line_open some = isnt (has_long_line counts bytes) (sym some ∙ line_closed)

  line_shut : reader.rest ≡ None → has_long_line counts bytes ≡ true
  line_shut none = is (has_long_line counts bytes) (sym (ap (λ (o : Option (List ℕ)). is_some o) none) ∙ line_closed)

lines_by : (frames_are : FramesAre) (closed_is : ClosedIs) (counts : Bool) (old new : ReaderView) (bytes piece : List ℕ) (n : ℕ) (fed : Fed)
    → (was : LinesStandFor counts old bytes) (now : LinesStandFor counts new (bytes ++ take n piece)) → now.1.0 ≡ was.1.0 ++ told fed (length bytes + n) new.frame
    → IsAnswer fed old.rest new.rest new.frame n (length piece) → TookBy fed (line_frames counts) (has_long_line counts) bytes piece n new.frame
lines_by frames_are closed_is counts old new bytes piece n Nothing was now e answer = (
  answer.2,
  sym (line_texts frames_are closed_is counts new (bytes ++ take n piece) now) ∙ ap texts (e ∙ append-nil was.1.0) ∙ line_texts frames_are closed_is counts old bytes was,
  line_open frames_are closed_is counts new (bytes ++ take n piece) now answer.1,
)
lines_by frames_are closed_is counts old new bytes piece n Whole was now e answer =
    let more : line_frames counts (bytes ++ take n piece) ≡ line_frames counts bytes ++ new.frame ∷ []
    = sym (line_texts frames_are closed_is counts new (bytes ++ take n piece) now) ∙ ap texts e ∙ texts-more was.1.0 ((length bytes + n, new.frame) ∷ [])
    ∙ ap (λ (l : List (List ℕ)). l ++ new.frame ∷ []) (line_texts frames_are closed_is counts old bytes was) in (
      some_taken (line_frames counts) bytes piece n new.frame more,
      more,
      line_open frames_are closed_is counts new (bytes ++ take n piece) now (ap (λ (o : Option (List ℕ)). is_some o) answer.1),
    )
lines_by frames_are closed_is counts old new bytes piece n TooLong was now e answer = (
  answer.2,
  sym (line_texts frames_are closed_is counts new (bytes ++ take n piece) now) ∙ ap texts (e ∙ append-nil was.1.0) ∙ line_texts frames_are closed_is counts old bytes was,
  line_shut frames_are closed_is counts new (bytes ++ take n piece) now answer.1,
)
lines_by frames_are closed_is counts old new bytes piece n Closed was now e answer = line_shut frames_are closed_is counts old bytes was answer.0

-- what a call says of the frames
abbrev pub TakesLines : ReaderView → ReaderView → List ℕ → ℕ → Fed → Type 0
TakesLines old new piece n fed = (bytes : List ℕ) (frames : List (ℕ × List ℕ)) → StandsFor old bytes frames
    → StandsFor new (bytes ++ take n piece) (frames ++ told fed (length bytes + n) new.frame)

module _ (frames_are : FramesAre) (closed_is : ClosedIs) (old new : ReaderView) (bytes piece : List ℕ) (n : ℕ) (fed : Fed) (same : new.counts ≡ old.counts)
    (takes : TakesLines old new piece n fed) (answer : IsAnswer fed old.rest new.rest new.frame n (length piece)) where
  stand_on : (counts : Bool) → LinesStandFor counts old bytes → LinesStandFor counts new (bytes ++ take n piece)
  stand_on counts was = (same ∙ was.0, (was.1.0 ++ told fed (length bytes + n) new.frame, takes bytes was.1.0 was.1.1))

  lines_feed : (counts : Bool) (was : LinesStandFor counts old bytes) → TookBy fed (line_frames counts) (has_long_line counts) bytes piece n new.frame
  unfolding stand_on
  lines_feed counts was = lines_by frames_are closed_is counts old new bytes piece n fed was (stand_on counts was) refl answer

  pub lines_took : (kind : InputKind) → FramesStandFor kind (Lines old) bytes → Took fed kind bytes piece n new.frame × FramesStandFor kind (Lines new) (bytes ++ take n piece)
  lines_took Gelf stands = absurd stands
  lines_took Raw stands = (took_raw fed bytes piece n new.frame (lines_feed false stands), stand_on false stands)
  lines_took Syslog stands = (took_syslog fed bytes piece n new.frame (lines_feed true stands), stand_on true stands)

-- ---- the end of lines

last_ended : (last : List ℕ) (fed : Fed) (frame : List ℕ) → IsLast last fed frame → Ended fed (filter isnt_empty (last ∷ [])) frame
last_ended [] fed frame e = subst (λ (f : Fed). Ended f [] frame) (sym e.0) refl
last_ended (b ∷ last) fed frame e =
    subst (λ (f : Fed). Ended f ((b ∷ last) ∷ []) frame) (sym e.0) (ap (λ (t : List ℕ). t ∷ []) (sym e.1))

-- what a call says of the last frame
abbrev pub EndsLines : ReaderView → ReaderView → Fed → Type 0
EndsLines old new fed = MatchOption old.rest ((fed ≡ Closed) × (new.rest ≡ None) × (new.frame ≡ [])) (λ rest. (new.rest ≡ Some []) × IsLast (framing.last_frame old.counts rest) fed new.frame)

rest_ended : (counts : Bool) (rest after : Option (List ℕ)) (fed : Fed) (frame : List ℕ)
    → MatchOption rest ((fed ≡ Closed) × (after ≡ None) × (frame ≡ [])) (λ r. (after ≡ Some []) × IsLast (framing.last_frame counts r) fed frame) → Ended fed (last_of_rest counts rest) frame
rest_ended counts None after fed frame e = subst (λ (f : Fed). Ended f [] frame) (sym e.0) refl
rest_ended counts (Some rest) after fed frame e = last_ended (framing.last_frame counts rest) fed frame e.1

lines_last : (last_is : LastIs) (counts : Bool) (old new : ReaderView) (bytes : List ℕ) (fed : Fed) → EndsLines old new fed → LinesStandFor counts old bytes
    → Ended fed (last_line_frame counts bytes) new.frame
lines_last last_is counts old new bytes fed ends stands =
    subst (λ (l : List (List ℕ)). Ended fed l new.frame)
    (last_is old.counts bytes stands.1.0 old.rest stands.1.1 ∙ ap (λ (c : Bool). last_line_frame c bytes) stands.0)
    (rest_ended old.counts old.rest new.rest fed new.frame ends)

pub lines_ended : (last_is : LastIs) (kind : InputKind) (old new : ReaderView) (bytes : List ℕ) (fed : Fed) → EndsLines old new fed
    → FramesStandFor kind (Lines old) bytes → Ended fed (last_frame kind bytes) new.frame
lines_ended last_is Gelf old new bytes fed ends stands = absurd stands
lines_ended last_is Raw old new bytes fed ends stands = lines_last last_is false old new bytes fed ends stands
lines_ended last_is Syslog old new bytes fed ends stands = lines_last last_is true old new bytes fed ends stands

-- ---- more bytes

lines_on : (go_on : GoOn) (counts : Bool) (reader : ReaderView) (bytes more : List ℕ) → LinesStandFor counts reader bytes
    → (later : List (List ℕ)) × (line_frames counts (bytes ++ more) ≡ line_frames counts bytes ++ later)
lines_on go_on counts reader bytes more stands =
    subst (λ (c : Bool). (later : List (List ℕ)) × (line_frames c (bytes ++ more) ≡ line_frames c bytes ++ later)) stands.0
    (go_on reader.counts bytes stands.1.0 reader.rest stands.1.1 more)

pub frames_on : (begin : (bytes more : List ℕ) → (later : List (List ℕ)) × (frames_of (bytes ++ more) ≡ frames_of bytes ++ later)) (go_on : GoOn)
    (kind : InputKind) (frames : Frames) (bytes : List ℕ) → FramesStandFor kind frames bytes
    → (more : List ℕ) → (later : List (List ℕ)) × (ended_frames kind (bytes ++ more) ≡ ended_frames kind bytes ++ later)
frames_on begin go_on Gelf (Zero z) bytes stands more = begin bytes more
frames_on begin go_on Raw (Zero z) bytes stands more = absurd stands
frames_on begin go_on Syslog (Zero z) bytes stands more = absurd stands
frames_on begin go_on Gelf (Lines reader) bytes stands more = absurd stands
frames_on begin go_on Raw (Lines reader) bytes stands more = lines_on go_on false reader bytes more stands
frames_on begin go_on Syslog (Lines reader) bytes stands more = lines_on go_on true reader bytes more stands
