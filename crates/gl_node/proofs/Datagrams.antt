-- How a datagram goes on from the chunk table of its input.
use Rattle.std.proofs.Common.{◌≡◌, ◌⊎◌, inl, inr, ⊎_elim, ℕ, ◌+◌, ◌==◌, Bool, true, false, not, ◌&&◌, List, [], ◌∷◌, ◌++◌, length, get_or, take, Option, Some, option_map, Result, Ok, Err, IfOk, OnErr, if◌then◌else◌, refl, sym, ◌∙◌, ap, subst, arith, length-append}
use Rattle.std.specs.List.{position}
use Rattle.std.specs.Str.{bytes_eq}
use Rattle.std.proofs.Math.Seq.{take-append-add}
use Rattle.std.proofs.lemmas.List.Sums.{fold-append}
use Rattle.gl_base.proofs.Counting.{find_at_some}
use Rattle.gl_outside.specs.Disk.{DiskState, LeavesOnly}
use Rattle.gl_outside.proofs.Moments.{weaker}
use Rattle.gl_fields.specs.declared.input_kind.InputKind.{InputKind}
use Rattle.gl_chunks.specs.declared.chunks.Chunked.{Chunked}
use Rattle.gl_chunks.specs.declared.chunks.Chunked.TheVariants as chunk
use Rattle.gl_chunks.specs.Chunks.{chunk_answer}
use Rattle.gl_node.specs.declared.answer.Arrival.{Arrival}
use Rattle.gl_node.specs.declared.arriving.Taken.{Taken}
use Rattle.gl_node.specs.declared.config.Config.{Config}
use Rattle.gl_node.specs.declared.config.Input.{Input}
use Rattle.gl_node.specs.declared.node.Node.{Node}
use Rattle.gl_node.specs.Arrivals.{arrival_by, arrival_of, arrival_events, datagram_answer, datagram_events, datagram_of, events_by, is_tabled, sent_to, takes_chunks}
use Rattle.gl_node.specs.Arriving.{IsTaken, arrival_after, events_after, taken_of}
use Rattle.gl_node.specs.Configuration.{kind_of}
use Rattle.gl_node.specs.Moments.{LeftBy}
use Rattle.gl_node.specs.Node.{Keeps}
use Rattle.gl_node.specs.Standing.{StandsFor}
use Rattle.gl_node.specs.State.{State, Event, Received, happened, state_after}

-- ---- whether it goes to a table

true_and : (a b : Bool) → b ≡ false → a && not b ≡ a
true_and true b no_way = ap not no_way
true_and false b no_way = refl

module _ (node : Node) (s : State) (keeps : Keeps node s) (input bytes : List ℕ) where
  by_kind : (kind : Option InputKind) → kind_of node.config input ≡ kind → (length bytes == 0) ≡ false → is_tabled s input bytes ≡ takes_chunks kind
  by_kind kind is some =
      ap (λ (c : Config). takes_chunks (kind_of c input) && not (length bytes == 0)) (sym keeps.config)
      ∙ ap (λ (o : Option InputKind). takes_chunks o && not (length bytes == 0)) is
      ∙ true_and (takes_chunks kind) (length bytes == 0) some

  pub by_place : (k : ℕ) (known : Input) → position (λ (i : Input). bytes_eq input i.name) node.config.inputs ≡ Some k → known ≡ get_or node.config.inputs k known → (length bytes == 0) ≡ false
      → is_tabled s input bytes ≡ takes_chunks (Some known.kind)
  by_place k known there is some =
      by_kind (Some known.kind)
      (ap (λ (o : Option Input). option_map (λ (i : Input). i.kind) o) ((find_at_some (λ (i : Input). bytes_eq input i.name) node.config.inputs k known there).2 ∙ ap (λ (i : Input). Some i) (sym is))) some

-- ---- how it goes on

module _ (s : State) (moment : ℕ) (input peer bytes : List ℕ) where
  abbrev after : State
  after = happened s (Received (datagram_of moment input bytes))

  arrival_so : (c : Chunked) → arrival_by c s moment input peer bytes ≡ arrival_after (taken_of c) after moment input peer bytes
  arrival_so chunk.Plain = refl
  arrival_so (chunk.Whole message) = refl
  arrival_so chunk.Held = refl
  arrival_so chunk.Repeat = refl
  arrival_so chunk.BadChunk = refl
  arrival_so (chunk.CountMismatch kept given) = refl
  arrival_so chunk.ChunkTableFull = refl
  arrival_so chunk.TooLong = refl

  events_so : (c : Chunked) → events_by c s moment input peer bytes ≡ events_after (taken_of c) after moment input peer bytes
  events_so chunk.Plain = refl
  events_so (chunk.Whole message) = refl
  events_so chunk.Held = refl
  events_so chunk.Repeat = refl
  events_so chunk.BadChunk = refl
  events_so (chunk.CountMismatch kept given) = refl
  events_so chunk.ChunkTableFull = refl
  events_so chunk.TooLong = refl

  pub goes_through : (mid : Node) (c : Chunked) (taken : Taken) → is_tabled s input bytes ≡ true → c ≡ chunk_answer (sent_to input s.datagrams) moment bytes → taken ≡ taken_of c → Keeps mid after
      → IsTaken s mid moment input peer bytes taken
  goes_through mid c taken goes is taken_is keeps = subst (λ (t : Taken). IsTaken s mid moment input peer bytes t) (sym taken_is) (record {
    first = Received (datagram_of moment input bytes) ∷ [];
    tabled = inr (goes, refl);
    keeps = keeps;
    answer = ap (λ (b : Bool). if b then arrival_by (chunk_answer (sent_to input s.datagrams) moment bytes) s moment input peer bytes else arrival_of s moment input peer bytes) goes
        ∙ ap (λ (x : Chunked). arrival_by x s moment input peer bytes) (sym is) ∙ arrival_so c;
    events = ap (λ (b : Bool). if b then Received (datagram_of moment input bytes) ∷ events_by (chunk_answer (sent_to input s.datagrams) moment bytes) s moment input peer bytes
        else arrival_events s moment input peer bytes) goes
        ∙ ap (λ (x : Chunked). Received (datagram_of moment input bytes) ∷ events_by x s moment input peer bytes) (sym is)
        ∙ ap (λ (es : List Event). Received (datagram_of moment input bytes) ∷ es) (events_so c);
  })

-- ---- what the whole call says then

module _ (s : State) (mid : Node) (moment : ℕ) (input peer bytes : List ℕ) (taken : Taken) (t : IsTaken s mid moment input peer bytes taken) where
  state_is : (es : List Event) → state_after (state_after s t.first) es ≡ state_after s (t.first ++ es)
  state_is es = sym (fold-append happened s t.first es)

  pub answered_so : (new : Node) (arrival : Arrival) → arrival ≡ arrival_after taken (state_after s t.first) moment input peer bytes
      → Keeps new (state_after (state_after s t.first) (events_after taken (state_after s t.first) moment input peer bytes))
      → (arrival ≡ datagram_answer s moment input peer bytes) × Keeps new (state_after s (datagram_events s moment input peer bytes))
  answered_so new arrival is keeps = (
    is ∙ sym t.answer,
    subst (λ (u : State). Keeps new u) (state_is (events_after taken (state_after s t.first) moment input peer bytes) ∙ ap (λ (es : List Event). state_after s es) (sym t.events)) keeps,
  )

  pub refused_so : (new : Node) → Keeps new (state_after s t.first) → Keeps new s ⊎ ((is_tabled s input bytes ≡ true) × Keeps new (happened s (Received (datagram_of moment input bytes))))
  refused_so new keeps = ⊎_elim
      (λ (none : t.first ≡ []). inl (subst (λ (es : List Event). Keeps new (state_after s es)) none keeps))
      (λ (one : (is_tabled s input bytes ≡ true) × (t.first ≡ Received (datagram_of moment input bytes) ∷ [])). inr (one.0, subst (λ (es : List Event). Keeps new (state_after s es)) one.1 keeps))
      t.tabled

  pub left_so : (d0 d1 : DiskState) → LeavesOnly d0 d1 (LeftBy (state_after s t.first) (events_after taken (state_after s t.first) moment input peer bytes) d0)
      → LeavesOnly d0 d1 (LeftBy s (datagram_events s moment input peer bytes) d0)
  left_so d0 d1 run = weaker d0 d1 (LeftBy (state_after s t.first) later d0) (LeftBy s (datagram_events s moment input peer bytes) d0) run (λ c left. record {
    from = left.from;
    image = left.image;
    steps = record {
      elsewhere = left.steps.elsewhere;
      count = length t.first + left.steps.count;
      few = omega (arith, left.steps.few, length-append t.first later, ap (λ (es : List Event). length es) t.events);
      stands = subst (λ (u : State). StandsFor c u) (taken_first left.steps.count) left.steps.stands;
    };
  })
    where
      later : List Event
      later = events_after taken (state_after s t.first) moment input peer bytes

      taken_first : (n : ℕ) → state_after (state_after s t.first) (take n later) ≡ state_after s (take (length t.first + n) (datagram_events s moment input peer bytes))
      taken_first n =
          state_is (take n later) ∙ ap (λ (es : List Event). state_after s es) (sym (take-append-add t.first later n))
          ∙ ap (λ (es : List Event). state_after s (take (length t.first + n) es)) (sym t.events)

-- a clause of the call behind it, in the words of the whole call
pub if_ok_more : {T E : Type 0} (r : Result T E) (P Q : T → Type 0) → IfOk r P → ((x : T) → P x → Q x) → IfOk r Q
if_ok_more (Ok x) P Q p more = more x p
if_ok_more (Err e) P Q p more = tt

pub on_err_more : {T E : Type 0} (r : Result T E) (P Q : Type 0) → OnErr r P → (P → Q) → OnErr r Q
on_err_more (Ok x) P Q p more = tt
on_err_more (Err e) P Q p more = more p
