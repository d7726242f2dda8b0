-- What a desk keeps, after a call of its node.
use Rattle.std.specs.Prelude.{◌≡◌, ◌≢◌, ℕ, zero, suc, ◌+◌, ◌-◌, ◌<◌, ◌≤◌, Bool, true, false, not, List, [], ◌∷◌, ◌++◌, length, map, take, drop, get_or, All, Option, Some, None, find, count_by, ◌==◌, slice_range, cond, remove, if◌then◌else◌}
use Rattle.std.specs.Prelude.{Result, Ok, Err, IsErrOf, ⊤}
use Rattle.gl_node.specs.declared.fault.NodeFault.TheVariants.{DiskFault}
use Rattle.gl_node.specs.Calls.{HasNodeCause}
use Rattle.std.proofs.lemmas.Bool.Decides.{nat_tests}
use Rattle.gl_base.proofs.Counting.{one_if, count-cons, counted_at}
use Rattle.gl_node.proofs.Tiling.{held_high}
use Rattle.std.proofs.Common.{refl, append-nil, ◌∙◌, ap, sym, subst, arith, inl, inr}
use Rattle.std.proofs.lemmas.Bool.Decides.{eqb_tells}
use Rattle.std.proofs.lemmas.List.{take-append-le, drop-take, map-append}
use Rattle.std.proofs.lemmas.List.Elements.{All-head, All-tail}
use Rattle.gl_fields.specs.declared.entry.Entry.{Entry}
use Rattle.gl_fields.specs.Entries.{version_after}
use Rattle.gl_node.specs.declared.mark.Mark.{Mark}
use Rattle.gl_node.specs.declared.mark.Claim.{Claim}
use Rattle.gl_node.specs.declared.work.Range.{Range}
use Rattle.gl_node.specs.declared.node.Node.{Node}
use Rattle.gl_node.specs.declared.answer.Arrival.{Arrival}
use Rattle.gl_node.specs.declared.answer.Arrival.TheVariants.{Journalled, Empty, Held, Repeat, BadChunk, CountMismatch, ChunkTableFull, FrameTooLong, UnknownInput, JournalFull}
use Rattle.gl_chunks.specs.declared.chunks.Chunked.{Chunked}
use Rattle.gl_chunks.specs.declared.chunks.Chunked.TheVariants as chunk
use Rattle.gl_chunks.specs.Chunks.{chunk_answer}
use Rattle.gl_node.specs.Arrivals.{added_by, arrival_events, arrival_of, datagram_events, datagram_of, events_by, is_tabled, next_entry, sent_to}
use Rattle.gl_node.specs.Configuration.{config_at}
use Rattle.gl_node.specs.declared.answer.Claimed.{Claimed}
use Rattle.gl_node.specs.Calls.{claimed_of}
use Rattle.gl_node.specs.Claims.{ClaimAnswer, Granted, Nothing, Busy, claimed_by, next_ready, fits, committed_within, commits, is_kept, finished_by, finish_events}
use Rattle.gl_node.specs.Node.{Keeps, IsRunning, AreTiled}
use Rattle.gl_node.specs.State.{Datagram, State, Event, CameIn, Committed, Received, happened, state_after, without}
use Rattle.gl_cli.specs.declared.desk.Desk.{Desk}
use Rattle.gl_cli.specs.declared.desk.Given.{Given}
use Rattle.gl_cli.specs.Desk.{DeskKeeps, IsPlaceOf, given_by}

-- the range at a mark, of a journal
abbrev pub range_in : List Entry → Mark → Range
range_in journal mark = record {
  first = mark.first;
  config = config_at journal (version_after (take mark.first journal));
  entries = slice_range journal mark.first (mark.first + mark.count);
}

-- what the workers were given, and what they hold, of a journal
abbrev pub given_pairs : List Given → List (ℕ × Range)
given_pairs given = map {B = ℕ × Range} (λ (g : Given). (g.worker, g.range)) given

abbrev pub held_pairs : List Entry → List Claim → List (ℕ × Range)
held_pairs journal held = map {B = ℕ × Range} (λ (c : Claim). (c.worker, range_in journal c.mark)) held

-- ---- a journal that grows

slice_range-more : (journal : List Entry) (more : List Entry) (at end : ℕ) → at ≤ end → end ≤ length journal → slice_range (journal ++ more) at end ≡ slice_range journal at end
slice_range-more journal more at end le within =
    sym (drop-take at (end - at) (journal ++ more))
    ∙ ap (λ (l : List Entry). drop at l) (take-append-le (at + (end - at)) journal more (omega (arith, le, within)))
    ∙ drop-take at (end - at) journal

pub range_in-more : (journal more : List Entry) (mark : Mark) → mark.first + mark.count ≤ length journal → range_in (journal ++ more) mark ≡ range_in journal mark
range_in-more journal more mark within = λ i. record {
  first = mark.first;
  config = config_at journal (version_after (take-append-le mark.first journal more (omega (arith, within)) i));
  entries = slice_range-more journal more mark.first (mark.first + mark.count) (omega arith) within i;
}

pub held_pairs-more : (journal more : List Entry) (held : List Claim) → All (λ (c : Claim). c.mark.first + c.mark.count ≤ length journal) held
    → held_pairs (journal ++ more) held ≡ held_pairs journal held
held_pairs-more journal more [] within = refl
held_pairs-more journal more (c ∷ held) within =
    let here : c.mark.first + c.mark.count ≤ length journal = All-head (λ (d : Claim). d.mark.first + d.mark.count ≤ length journal) c held within in
    ap (λ (r : Range). (c.worker, r) ∷ held_pairs (journal ++ more) held) (range_in-more journal more c.mark here)
    ∙ ap (λ (l : List (ℕ × Range)). (c.worker, range_in journal c.mark) ∷ l)
    (held_pairs-more journal more held (All-tail (λ (d : Claim). d.mark.first + d.mark.count ≤ length journal) c held within))

within_journal : (s : State) (next : ℕ) → AreTiled s next → All (λ (c : Claim). c.mark.first + c.mark.count ≤ length s.journal) s.held
within_journal s next tiled k d inside = omega (arith, held_high s next tiled k d inside, tiled.within)

-- what arrives lets the journal grow, and leaves the claims
pub record Arrives (s t : State) : Type 0 where
  pub more : List Entry
  pub journal_is : t.journal ≡ s.journal ++ more
  pub held_is : t.held ≡ s.held

added_arrives : (s : State) (arrival : Arrival) (entry : Entry) → Arrives s (state_after s (added_by arrival entry))
added_arrives s (Journalled position) entry = record { more = entry ∷ []; journal_is = refl; held_is = refl }
added_arrives s Empty entry = record { more = []; journal_is = sym (append-nil s.journal); held_is = refl }
added_arrives s Held entry = record { more = []; journal_is = sym (append-nil s.journal); held_is = refl }
added_arrives s Repeat entry = record { more = []; journal_is = sym (append-nil s.journal); held_is = refl }
added_arrives s BadChunk entry = record { more = []; journal_is = sym (append-nil s.journal); held_is = refl }
added_arrives s (CountMismatch kept told) entry = record { more = []; journal_is = sym (append-nil s.journal); held_is = refl }
added_arrives s ChunkTableFull entry = record { more = []; journal_is = sym (append-nil s.journal); held_is = refl }
added_arrives s FrameTooLong entry = record { more = []; journal_is = sym (append-nil s.journal); held_is = refl }
added_arrives s UnknownInput entry = record { more = []; journal_is = sym (append-nil s.journal); held_is = refl }
added_arrives s (JournalFull bytes limit) entry = record { more = []; journal_is = sym (append-nil s.journal); held_is = refl }

pub payload_arrives : (s : State) (moment : ℕ) (input peer bytes : List ℕ) → Arrives s (state_after s (arrival_events s moment input peer bytes))
payload_arrives s moment input peer bytes = added_arrives s (arrival_of s moment input peer bytes) (next_entry s.journal moment input peer bytes)

-- by what the chunk table answered, from the state after that
chunk_arrives : (t s : State) (answer : Chunked) (moment : ℕ) (input peer bytes : List ℕ) → Arrives t (state_after t (events_by answer s moment input peer bytes))
chunk_arrives t s chunk.Plain moment input peer bytes = added_arrives t (arrival_of s moment input peer bytes) (next_entry s.journal moment input peer bytes)
chunk_arrives t s (chunk.Whole payload) moment input peer bytes = added_arrives t (arrival_of s moment input peer payload) (next_entry s.journal moment input peer payload)
chunk_arrives t s chunk.Held moment input peer bytes = record { more = []; journal_is = sym (append-nil t.journal); held_is = refl }
chunk_arrives t s chunk.Repeat moment input peer bytes = record { more = []; journal_is = sym (append-nil t.journal); held_is = refl }
chunk_arrives t s chunk.BadChunk moment input peer bytes = record { more = []; journal_is = sym (append-nil t.journal); held_is = refl }
chunk_arrives t s (chunk.CountMismatch kept told) moment input peer bytes = record { more = []; journal_is = sym (append-nil t.journal); held_is = refl }
chunk_arrives t s chunk.ChunkTableFull moment input peer bytes = record { more = []; journal_is = sym (append-nil t.journal); held_is = refl }
chunk_arrives t s chunk.TooLong moment input peer bytes = record { more = []; journal_is = sym (append-nil t.journal); held_is = refl }

pub datagram_arrives : (s : State) (moment : ℕ) (input peer bytes : List ℕ) → Arrives s (state_after s (datagram_events s moment input peer bytes))
datagram_arrives s moment input peer bytes =
    let d : Datagram = datagram_of moment input bytes in
    let answer : Chunked = chunk_answer (sent_to input s.datagrams) moment bytes in
    elim (is_tabled s input bytes)
    as (λ b. Arrives s (state_after s (if b then Received d ∷ events_by answer s moment input peer bytes else arrival_events s moment input peer bytes))) [
      | true ↦ let a = chunk_arrives (happened s (Received d)) s answer moment input peer bytes in record { more = a.more; journal_is = a.journal_is; held_is = a.held_is }
      | false ↦ payload_arrives s moment input peer bytes
    ]

-- after an arrival
pub after_arrival : (desk : Desk) (node : Node) (s t : State) → DeskKeeps desk s → IsRunning node → Keeps node t → Arrives s t
    → DeskKeeps (record desk { node = node }) t
after_arrival desk node s t kept running keeps came = record {
  node = keeps;
  running = running;
  given = kept.given ∙ sym (held_pairs-more s.journal came.more s.held (within_journal s desk.node.next kept.node.tiled))
      ∙ ap (λ (j : List Entry). held_pairs j s.held) (sym came.journal_is)
      ∙ ap (λ (held : List Claim). held_pairs t.journal held) (sym came.held_is);
}

-- ---- a range that is brought back

pub none_held : (journal : List Entry) (given : List Given) (held : List Claim) (worker : ℕ) → given_pairs given ≡ held_pairs journal held
    → All (λ (g : Given). g.worker ≢ worker) given → find (λ (c : Claim). c.worker == worker) held ≡ None
none_held journal given [] worker same none = refl
none_held journal [] (c ∷ held) worker same none = absurd (let e : 0 ≡ length (held_pairs journal (c ∷ held)) = ap length same in omega (arith, e))
none_held journal (g ∷ given) (c ∷ held) worker same none =
    let head : g.worker ≡ c.worker = ap (λ (l : List (ℕ × Range)). (get_or l 0 (g.worker, g.range)).0) same in
    elim (eqb_tells c.worker worker) [
      | inl p ↦ absurd (All-head (λ (h : Given). h.worker ≢ worker) g given none (head ∙ p.1))
      | inr q ↦ ap (λ b. cond b (Some c) (find (λ (d : Claim). d.worker == worker) held)) q.0
          ∙ none_held journal given held worker (ap (λ (l : List (ℕ × Range)). drop 1 l) same) (All-tail (λ (h : Given). h.worker ≢ worker) g given none)
    ]

without_none : (held : List Claim) (worker : ℕ) → All (λ (c : Claim). c.worker ≢ worker) held → without worker held ≡ held
without_none [] worker none = refl
without_none (c ∷ held) worker none = elim (eqb_tells c.worker worker) [
  | inl p ↦ absurd (All-head (λ (d : Claim). d.worker ≢ worker) c held none p.1)
  | inr q ↦ ap (λ b. cond (not b) (c ∷ without worker held) (without worker held)) q.0
      ∙ ap (λ (l : List Claim). c ∷ l) (without_none held worker (All-tail (λ (d : Claim). d.worker ≢ worker) c held none))
]

-- the claim of a worker, whose range stands at this place
pub record IsBrought (journal : List Entry) (given : List Given) (held : List Claim) (worker place : ℕ) : Type 0 where
  pub claim : Claim
  pub holds : find (λ (c : Claim). c.worker == worker) held ≡ Some claim
  pub whose : claim.worker ≡ worker
  pub range_is : (d : Given) → (get_or given place d).range ≡ range_in journal claim.mark
  pub rest : given_pairs (remove given place) ≡ held_pairs journal (without worker held)

-- each worker holds one range at most
abbrev pub AreApart : List Claim → Type 0
AreApart held = (worker : ℕ) → count_by (λ (c : Claim). c.worker == worker) held ≤ 1

apart_tail : (c : Claim) (held : List Claim) → AreApart (c ∷ held) → AreApart held
apart_tail c held apart worker = omega (arith, apart worker, count-cons (λ (d : Claim). d.worker == worker) c held)

same_worker : (a b : ℕ) → a ≡ b → (b == a) ≡ true
same_worker a b same = grind (arith, nat_tests)

apart_head : (c : Claim) (held : List Claim) → AreApart (c ∷ held) → All (λ (b : Claim). c.worker ≢ b.worker) held
apart_head c held apart k d within same =
    let p : Claim → Bool = λ (b : Claim). b.worker == c.worker in
    let here : one_if (c.worker == c.worker) ≡ 1 = ap one_if (same_worker c.worker c.worker refl) in
    let there : 0 < count_by p held = counted_at p held k d within (same_worker c.worker (get_or held k d).worker same) in
    let both : count_by p (c ∷ held) ≡ one_if (c.worker == c.worker) + count_by p held = count-cons p c held in
    omega (arith, apart c.worker, both, here, there)

pub brought : (journal : List Entry) (given : List Given) (held : List Claim) (worker place : ℕ) → given_pairs given ≡ held_pairs journal held
    → AreApart held → IsPlaceOf given worker place → IsBrought journal given held worker place
brought journal [] held worker place same apart is = absurd (omega (arith, is.inside))
brought journal (g ∷ given) [] worker place same apart is = absurd (let e : length (given_pairs (g ∷ given)) ≡ 0 = ap length same in omega (arith, e))
brought journal (g ∷ given) (c ∷ held) worker zero same apart is =
    let head : g.worker ≡ c.worker = ap (λ (l : List (ℕ × Range)). (get_or l 0 (g.worker, g.range)).0) same in
    let mine : c.worker ≡ worker = sym head ∙ is.is g in
    elim (eqb_tells c.worker worker) [
      | inl p ↦ record {
        claim = c;
        holds = ap (λ b. cond b (Some c) (find (λ (d : Claim). d.worker == worker) held)) p.0;
        whose = mine;
        range_is = λ d. ap (λ (l : List (ℕ × Range)). (get_or l 0 (g.worker, g.range)).1) same;
        rest = ap (λ (l : List (ℕ × Range)). drop 1 l) same
            ∙ ap (held_pairs journal) (sym (ap (λ b. cond (not b) (c ∷ without worker held) (without worker held)) p.0
            ∙ without_none held worker (λ k d within e. apart_head c held apart k d within (mine ∙ sym e))));
      }
      | inr q ↦ absurd (q.1 mine)
    ]
brought journal (g ∷ given) (c ∷ held) worker (suc place) same apart is =
    let head : g.worker ≡ c.worker = ap (λ (l : List (ℕ × Range)). (get_or l 0 (g.worker, g.range)).0) same in
    let others = brought journal given held worker place (ap (λ (l : List (ℕ × Range)). drop 1 l) same) (apart_tail c held apart)
    (record { inside = omega (arith, is.inside); is = is.is; first = All-tail (λ (h : Given). h.worker ≢ worker) g (take place given) is.first }) in
    elim (eqb_tells c.worker worker) [
      | inl p ↦ absurd (All-head (λ (h : Given). h.worker ≢ worker) g (take place given) is.first (head ∙ p.1))
      | inr q ↦ record {
        claim = others.claim;
        holds = ap (λ b. cond b (Some c) (find (λ (d : Claim). d.worker == worker) held)) q.0 ∙ others.holds;
        whose = others.whose;
        range_is = others.range_is;
        rest = ap (λ (l : List (ℕ × Range)). (g.worker, g.range) ∷ l) others.rest
            ∙ ap (λ (p : ℕ × Range). p ∷ held_pairs journal (without worker held)) (ap (λ (l : List (ℕ × Range)). get_or l 0 (g.worker, g.range)) same)
            ∙ ap (held_pairs journal) (sym (ap (λ b. cond (not b) (c ∷ without worker held) (without worker held)) q.0));
      }
    ]

-- ---- the events of a finish

pub record SameClaims (old new : State) : Type 0 where
  pub journal_is : new.journal ≡ old.journal
  pub held_is : new.held ≡ old.held

abbrev pub by_fit : ℕ → State → Mark → Bool → List Event
by_fit n s mark b = elim b as (λ _. List Event) [ false ↦ [] | true ↦ Committed mark ∷ committed_within n (happened s (Committed mark)) ]

abbrev pub by_ready : ℕ → State → Option Mark → List Event
by_ready n s o = elim o as (λ _. List Event) [ None ↦ [] | Some mark ↦ by_fit n s mark (fits s mark) ]

commits_same : (n : ℕ) (s : State) → SameClaims s (state_after s (committed_within n s))
commits_same zero s = record { journal_is = refl; held_is = refl }
commits_same (suc n) s = elim (next_ready s) as (λ o. SameClaims s (state_after s (by_ready n s o))) [
  | None ↦ record { journal_is = refl; held_is = refl }
  | Some mark ↦ elim (fits s mark) as (λ b. SameClaims s (state_after s (by_fit n s mark b))) [
    | false ↦ record { journal_is = refl; held_is = refl }
    | true ↦ let rest = commits_same n (happened s (Committed mark)) in record { journal_is = rest.journal_is; held_is = rest.held_is }
  ]
]

-- after a finish the worker's claim is gone
pub record IsBroughtIn (worker : ℕ) (old new : State) : Type 0 where
  pub journal_is : new.journal ≡ old.journal
  pub held_is : new.held ≡ without worker old.held

pub finished_claims : (s : State) (claim : Claim) → IsBroughtIn claim.worker s (state_after s (finished_by s (Some claim)))
finished_claims s claim =
    let came : State = happened s (CameIn claim) in
    elim (is_kept came claim.mark) as (λ b. IsBroughtIn claim.worker s (state_after came (if b then [] else commits came))) [
      | true ↦ record { journal_is = refl; held_is = refl }
      | false ↦ let rest = commits_same (length came.waiting) came in record { journal_is = rest.journal_is; held_is = rest.held_is }
    ]

pub after_finish : (desk : Desk) (node : Node) (given : List Given) (s : State) (worker place : ℕ) → DeskKeeps desk s → IsPlaceOf desk.given.items worker place → given ≡ remove desk.given.items place
    → Keeps node (state_after s (finish_events s worker))
    → given_pairs given ≡ held_pairs (state_after s (finish_events s worker)).journal (state_after s (finish_events s worker)).held
after_finish desk node given s worker place kept is gone keeps =
    let b = brought s.journal desk.given.items s.held worker place kept.given kept.node.tiled.workers is in
    let done : IsBroughtIn worker s (state_after s (finished_by s (Some b.claim))) = subst (λ w. IsBroughtIn w s (state_after s (finished_by s (Some b.claim)))) b.whose (finished_claims s b.claim) in
    let same : IsBroughtIn worker s (state_after s (finish_events s worker)) = subst (λ (o : Option Claim). IsBroughtIn worker s (state_after s (finished_by s o))) (sym b.holds) done in
    ap given_pairs gone ∙ b.rest ∙ ap (λ (j : List Entry). held_pairs j (without worker s.held)) (sym same.journal_is)
    ∙ ap (held_pairs (state_after s (finish_events s worker)).journal) (sym same.held_is)

abbrev IsOkValue : {T E : Type 0} → Result T E → Type 0
IsOkValue (Ok x) = ⊤
IsOkValue (Err e) = ⊥

pub ok_is_no_error : {T E : Type 0} (x : T) (e : E) → IsErrOf (Ok x) e → ⊥
ok_is_no_error x e failed = subst IsOkValue failed tt

-- a node that answered wasn't stopped
pub still_running : {T : Type 0} (old new : Node) (before now : ℕ) (x : T) → IsRunning old → HasNodeCause old new before now (Ok x) → IsRunning new
still_running old new before now x running cause = (cause.steady (λ faults failed. ok_is_no_error x (DiskFault faults) failed)).1 ∙ running

-- ---- a range that is given

pub after_claim : (given more : List Given) (s : State) (worker : ℕ) (answer : ClaimAnswer) (claimed : Claimed) → given_pairs given ≡ held_pairs s.journal s.held
    → claimed ≡ claimed_of s answer → more ≡ given ++ given_by worker claimed
    → given_pairs more ≡ held_pairs (state_after s (claimed_by worker answer)).journal (state_after s (claimed_by worker answer)).held
after_claim given more s worker (Granted mark) claimed kept is grown =
    ap given_pairs (grown ∙ ap (λ (c : Claimed). given ++ given_by worker c) is)
    ∙ map-append {B = ℕ × Range} (λ (g : Given). (g.worker, g.range)) given (record { worker = worker; range = range_in s.journal mark } ∷ [])
    ∙ ap (λ (l : List (ℕ × Range)). l ++ (worker, range_in s.journal mark) ∷ []) kept
    ∙ sym (map-append {B = ℕ × Range} (λ (c : Claim). (c.worker, range_in s.journal c.mark)) s.held (record { worker = worker; mark = mark } ∷ []))
after_claim given more s worker Nothing claimed kept is grown =
    ap given_pairs (grown ∙ ap (λ (c : Claimed). given ++ given_by worker c) is ∙ append-nil given) ∙ kept
after_claim given more s worker (Busy mark) claimed kept is grown =
    ap given_pairs (grown ∙ ap (λ (c : Claimed). given ++ given_by worker c) is ∙ append-nil given) ∙ kept
