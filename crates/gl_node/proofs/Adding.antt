-- One entry more in the journal: the state after it, and what a node keeps of that.
use Rattle.std.proofs.Common.{◌≡◌, ◌⊎◌, inl, inr, ⊎_elim, ℕ, zero, suc, ◌+◌, ◌-◌, ◌<◌, ◌≤◌, cond, List, [], ◌∷◌, ◌++◌, length, take, drop, map, refl, sym, ◌∙◌, ap, subst, arith, Some, Vec, slice_index_or}
use Rattle.std.specs.Prelude.{sum_by, slice_get, slice_range, replicate}
use Rattle.std.specs.List.{All}
use Rattle.std.specs.declared.alloc.Global.{Global}
use Rattle.std.proofs.lemmas.List.{take-append-le, drop-append-le, length-append, length-drop, length-replicate, length-map, get_or-map}
use Rattle.std.proofs.Math.Seq.{take-append_seam}
use Rattle.std.proofs.lemmas.List.Sums.{sum_by-append, sum_by-cons}
use Rattle.std.proofs.lemmas.List.Elements.{All-head, All-tail, All-weaker}
use Rattle.gl_gatelog.specs.View.{GateView, appended}
use Rattle.gl_gatelog.specs.Batch.{size}
use Rattle.gl_fields.specs.declared.entry.Entry.{Entry}
use Rattle.gl_fields.specs.declared.entry.Entry.TheVariants.{Admin, Message}
use Rattle.gl_fields.specs.declared.entry.Outcome.{Outcome}
use Rattle.gl_fields.specs.Entries.{is_admin, entry_bytes, version_after}
use Rattle.gl_fields.specs.Outcomes.{outcome_bytes}
use Rattle.gl_fields.specs.Bounds.{IsOutcome}
use Rattle.gl_node.specs.declared.mark.Mark.{Mark}
use Rattle.gl_node.specs.Configuration.{config_at, config_after}
use Rattle.gl_node.specs.Decoding.{outcome_of}
use Rattle.gl_node.specs.Standing.{IsLawful, MayFollow}
use Rattle.gl_node.specs.State.{State, Added, happened, outcomes, commit_count, entry_batch, journal_size}
use Rattle.gl_node.specs.declared.work.Work.{Work}
use Rattle.gl_node.specs.declared.node.Node.{Node}
use Rattle.gl_gatelog.specs.declared.kind.Log.TheVariants.{Journal}
use Rattle.gl_node.specs.Claims.{version_at, range_of, range_batch, index_size, mark_of}
use Rattle.gl_node.specs.Node.{Keeps, KeepsLog}
use Rattle.gl_node.proofs.Tiling.{tiled_added, waiting_high}
use Rattle.gl_node.proofs.OneThread.{outcome_of-later, map-same}

-- an entry that may follow is no command
version_stays : (journal : List Entry) (entry : Entry) → MayFollow journal entry → version_after (journal ++ entry ∷ []) ≡ version_after journal
version_stays journal (Admin command) follows = absurd follows
version_stays journal (Message m) follows = sum_by-append (λ (e : Entry). cond (is_admin e) 1 0) journal (Message m ∷ []) ∙ omega arith

pub config_stays : (journal : List Entry) (entry : Entry) → MayFollow journal entry → config_after (journal ++ entry ∷ []) ≡ config_after journal
config_stays journal entry follows = ap (config_at journal) (version_stays journal entry follows)

get_last : (journal : List Entry) (last found : Entry) (position : ℕ) → slice_get (journal ++ last ∷ []) position ≡ Some found
    → ((position < length journal) × (slice_get journal position ≡ Some found)) ⊎ ((position ≡ length journal) × (last ≡ found))
get_last [] last found zero is = inr (refl, cc)
get_last [] last found (suc position) is = absurd (cc)
get_last (entry ∷ journal) last found zero is = inl (omega arith, is)
get_last (entry ∷ journal) last found (suc position) is = ⊎_elim
    (λ before. let p : ((suc position < length (entry ∷ journal)) × (slice_get journal position ≡ Some found)) ⊎ ((suc position ≡ length (entry ∷ journal)) × (last ≡ found)) =
    inl (omega (arith, before.0), before.1) in p)
    (λ at. let p : ((suc position < length (entry ∷ journal)) × (slice_get journal position ≡ Some found)) ⊎ ((suc position ≡ length (entry ∷ journal)) × (last ≡ found)) =
    inr (omega (arith, at.0), at.1) in p)
    (get_last journal last found position is)

pub lawful_more : (journal : List Entry) (entry : Entry) → IsLawful journal → MayFollow journal entry → IsLawful (journal ++ entry ∷ [])
lawful_more journal entry lawful follows position found is = ⊎_elim
    (λ before. subst (λ (es : List Entry). MayFollow es found) (sym (take-append-le position journal (entry ∷ []) (omega (arith, before.0)))) (lawful position found before.1))
    (λ at. subst (λ (es : List Entry). MayFollow es found) (sym (whole at.0)) (subst (λ (e : Entry). MayFollow journal e) at.1 follows))
    (get_last journal entry found position is)
  where
    whole : position ≡ length journal → take position (journal ++ entry ∷ []) ≡ journal
    whole at = ap (λ (n : ℕ). take n (journal ++ entry ∷ [])) at ∙ take-append_seam journal (entry ∷ [])

module _ (s : State) (entry : Entry) where
  pub outcomes_stay : commit_count s ≤ length s.journal → outcomes (happened s (Added entry)) ≡ outcomes s
  outcomes_stay few =
      ap (λ (es : List Entry). s.base.found ++ map (outcome_of (s.journal ++ entry ∷ [])) (drop (length s.base.found) es)) (take-append-le (commit_count s) s.journal (entry ∷ []) few)
      ∙ ap (λ (os : List Outcome). s.base.found ++ os) (map-same s.journal (entry ∷ []) (drop (length s.base.found) (take (commit_count s) s.journal)))

  journal_size_more : length s.base.journal ≤ length s.journal → journal_size (happened s (Added entry)) ≡ journal_size s + entry_batch entry
  journal_size_more grown =
      let n : ℕ = length s.base.journal in
      let added : sum_by entry_batch (drop n (s.journal ++ entry ∷ [])) ≡ sum_by entry_batch (drop n s.journal) + sum_by entry_batch (entry ∷ []) =
      ap (λ (es : List Entry). sum_by entry_batch es) (drop-append-le n s.journal (entry ∷ []) grown) ∙ sum_by-append entry_batch (drop n s.journal) (entry ∷ []) in
      omega (arith, added)

  slice_stays : (first count : ℕ) → first + count ≤ length s.journal → slice_range (s.journal ++ entry ∷ []) first (first + count) ≡ slice_range s.journal first (first + count)
  slice_stays first count within =
      ap (λ (es : List Entry). take (first + count - first) es) (drop-append-le first s.journal (entry ∷ []) (omega (arith, within)))
      ∙ take-append-le (first + count - first) (drop first s.journal) (entry ∷ []) (omega (arith, within, length-drop first s.journal))

  range_stays : (mark : Mark) → mark.first + mark.count ≤ length s.journal → range_of (happened s (Added entry)) mark ≡ range_of s mark
  range_stays mark within =
      let version : version_at (happened s (Added entry)) mark.first ≡ version_at s mark.first =
      ap version_after (take-append-le mark.first s.journal (entry ∷ []) (omega (arith, within))) in
      let config : config_at (s.journal ++ entry ∷ []) (version_at (happened s (Added entry)) mark.first) ≡ config_at s.journal (version_at s mark.first) = ap (config_at s.journal) version in
      let entries : slice_range (s.journal ++ entry ∷ []) mark.first (mark.first + mark.count) ≡ slice_range s.journal mark.first (mark.first + mark.count) = slice_stays mark.first mark.count within in
      λ i. record { first = mark.first; config = config i; entries = entries i }

  batches_same : (entries : List Entry) → map (λ (e : Entry). outcome_bytes (outcome_of (s.journal ++ entry ∷ []) e)) entries ≡ map (λ (e : Entry). outcome_bytes (outcome_of s.journal e)) entries
  batches_same [] = refl
  batches_same (e ∷ entries) =
      ap (λ (o : Outcome). outcome_bytes o ∷ map (λ (x : Entry). outcome_bytes (outcome_of (s.journal ++ entry ∷ []) x)) entries) (outcome_of-later s.journal (entry ∷ []) e)
      ∙ ap (λ (bs : List (List ℕ)). outcome_bytes (outcome_of s.journal e) ∷ bs) (batches_same entries)

  range_batch_stays : (mark : Mark) → mark.first + mark.count ≤ length s.journal → range_batch (happened s (Added entry)) mark ≡ range_batch s mark
  range_batch_stays mark within =
      ap (λ (es : List Entry). size (map (λ (e : Entry). outcome_bytes (outcome_of (s.journal ++ entry ∷ []) e)) es)) (slice_stays mark.first mark.count within)
      ∙ ap size (batches_same (slice_range s.journal mark.first (mark.first + mark.count)))

  batches_stay : (marks : List Mark) → All (λ (m : Mark). m.first + m.count ≤ length s.journal) marks → sum_by (range_batch (happened s (Added entry))) marks ≡ sum_by (range_batch s) marks
  batches_stay [] lie = refl
  batches_stay (mark ∷ marks) lie =
      let new : Mark → ℕ = range_batch (happened s (Added entry)) in
      let old : Mark → ℕ = range_batch s in
      let here : new mark ≡ old mark = range_batch_stays mark (All-head (λ (m : Mark). m.first + m.count ≤ length s.journal) mark marks lie) in
      let rest : sum_by new marks ≡ sum_by old marks = batches_stay marks (All-tail (λ (m : Mark). m.first + m.count ≤ length s.journal) mark marks lie) in
      sum_by-cons new mark marks ∙ ap (λ (n : ℕ). n + sum_by new marks) here ∙ ap (λ (n : ℕ). old mark + n) rest ∙ sym (sum_by-cons old mark marks)

  index_size_stays : All (λ (m : Mark). m.first + m.count ≤ length s.journal) s.committed → index_size (happened s (Added entry)) ≡ index_size s
  index_size_stays lie = ap (λ (n : ℕ). s.base.index_bytes + n) (batches_stay s.committed lie)

module _ (node : Node) (s : State) (entry : Entry) (keeps : Keeps node s) (follows : MayFollow node.entries.items entry) where
  pub follows_here : MayFollow s.journal entry
  follows_here = subst (λ (es : List Entry). MayFollow es entry) keeps.entries follows

  pub few : commit_count s ≤ length s.journal
  few = omega (arith, keeps.tiled.committed, keeps.tiled.within)

  -- the ranges that came in lie in the journal
  waiting_lie : All (λ (w : Work). w.range.first + length w.range.entries ≤ length s.journal) node.waiting.items
  waiting_lie k d lt =
      let here : mark_of (slice_index_or node.waiting.items k d).range ≡ slice_index_or s.waiting k (mark_of d.range) =
      sym (get_or-map (λ (w : Work). mark_of w.range) node.waiting.items k d (mark_of d.range) lt) ∙ ap (λ (ms : List Mark). slice_index_or ms k (mark_of d.range)) keeps.waiting in
      let there : k < length s.waiting = subst (λ (ms : List Mark). k < length ms) keeps.waiting (omega (arith, lt, length-map node.waiting.items (λ (w : Work). mark_of w.range))) in
      let below = waiting_high s node.next keeps.tiled k (mark_of d.range) there in
      subst (λ (m : Mark). m.first + m.count ≤ length s.journal) (sym here) (omega (arith, below, keeps.tiled.within))

  ranges_stay : All (λ (w : Work). w.range ≡ range_of (happened s (Added entry)) (mark_of w.range)) node.waiting.items
  ranges_stay k d lt = keeps.ranges k d lt ∙ sym (range_stays s entry (mark_of (slice_index_or node.waiting.items k d).range) (waiting_lie k d lt))

  journal_is : (journal : GateView) → journal ≡ appended node.journal (entry_bytes entry ∷ [])
      → KeepsLog journal Journal (length (s.journal ++ entry ∷ [])) (journal_size (happened s (Added entry))) s.base.journal_limit s.base.journal_segment
  journal_is journal is = record {
    log_is = ap (λ (v : GateView). v.log) is ∙ keeps.journal_log.log_is;
    records_are = ap (λ (v : GateView). length v.places) is ∙ omega (arith, keeps.journal_log.records_are, length-append node.journal.places (replicate 1 node.journal.place), length-append s.journal (entry ∷ []), length-replicate 1 node.journal.place);
    bytes_are = ap (λ (v : GateView). v.bytes) is ∙ omega (arith, keeps.journal_log.bytes_are, journal_size_more s entry keeps.grown);
    limit_is = ap (λ (v : GateView). v.limit) is ∙ keeps.journal_log.limit_is;
    segment_is = ap (λ (v : GateView). v.segment_size) is ∙ keeps.journal_log.segment_is;
  }

  pub keeps_added : (journal : GateView) (entries : Vec Entry Global) → journal ≡ appended node.journal (entry_bytes entry ∷ []) → entries.items ≡ node.entries.items ++ entry ∷ []
      → Keeps (record node { journal = journal; entries = entries }) (happened s (Added entry))
  keeps_added journal entries is pushed =
      let same : outcomes (happened s (Added entry)) ≡ outcomes s = outcomes_stay s entry few in
      record {
        entries = pushed ∙ ap (λ (es : List Entry). es ++ entry ∷ []) keeps.entries;
        outcomes_are = keeps.outcomes_are ∙ sym same;
        config = keeps.config ∙ sym (config_stays s.journal entry follows_here);
        tables = keeps.tables;
        lawful = lawful_more s.journal entry keeps.lawful follows_here;
        bounded = subst (λ (os : List Outcome). All IsOutcome os) (sym same) keeps.bounded;
        committed = keeps.committed ∙ ap (λ (os : List Outcome). length os) (sym same);
        held = keeps.held;
        waiting = keeps.waiting;
        ranges = ranges_stay;
        room = keeps.room;
        tiled = tiled_added s node.next keeps.tiled entry;
        grown = omega (arith, keeps.grown, length-append s.journal (entry ∷ []));
        committed_lie = All-weaker (λ (m : Mark). m.first + m.count ≤ length s.journal) (λ (m : Mark). m.first + m.count ≤ length (s.journal ++ entry ∷ []))
            (λ m within. omega (arith, within, length-append s.journal (entry ∷ []))) s.committed keeps.committed_lie;
        journal_log = journal_is journal is;
        index_log = record {
          log_is = keeps.index_log.log_is;
          records_are = keeps.index_log.records_are ∙ ap (λ (os : List Outcome). length os) (sym same);
          bytes_are = keeps.index_log.bytes_are ∙ sym (index_size_stays s entry keeps.committed_lie);
          limit_is = keeps.index_log.limit_is;
          segment_is = keeps.index_log.segment_is;
        };
        running = λ runs. (ap (λ (v : GateView). v.stopped) is ∙ (keeps.running runs).0, (keeps.running runs).1);
      }

-- the same, with room for more entries
pub keeps_roomy : (node : Node) (s : State) (entries : Vec Entry Global) → Keeps node s → entries.items ≡ node.entries.items → Keeps (record node { entries = entries }) s
keeps_roomy node s entries keeps is = record {
  entries = is ∙ keeps.entries;
  outcomes_are = keeps.outcomes_are;
  config = keeps.config;
  tables = keeps.tables;
  lawful = keeps.lawful;
  bounded = keeps.bounded;
  committed = keeps.committed;
  held = keeps.held;
  waiting = keeps.waiting;
  ranges = keeps.ranges;
  room = keeps.room;
  tiled = keeps.tiled;
  grown = keeps.grown;
  committed_lie = keeps.committed_lie;
  journal_log = keeps.journal_log;
  index_log = keeps.index_log;
  running = keeps.running;
}
