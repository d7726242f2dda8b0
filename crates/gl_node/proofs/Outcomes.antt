-- What a node keeps after a range was committed.
use Rattle.std.proofs.Common.{◌≡◌, ℕ, ◌+◌, ◌-◌, ◌<◌, ◌≤◌, true, false, nat_le, List, [], ◌∷◌, ◌++◌, length, get_or, take, drop, map, sum_by, Vec, vec_capacity, slice_range, replicate, Some, option_map, refl, sym, ◌∙◌, ap, subst, arith, append_assoc, add_assoc, length-append, length-drop, length-take}
use Rattle.std.specs.declared.alloc.Global.{Global}
use Rattle.std.specs.List.{All, remove, slice_get}
use Rattle.std.proofs.lemmas.List.{length-map, length-replicate, map-append, drop-take, drop-drop, take-append-drop}
use Rattle.std.proofs.lemmas.List.Edits.{length-remove}
use Rattle.std.proofs.lemmas.List.Elements.{All-append, All-head, All-push, All-tail, All-take, All-drop}
use Rattle.std.proofs.lemmas.List.Sums.{sum_by_push}
use Rattle.std.proofs.lemmas.Option.{get_or_from_slice_get, slice_get_within, slice_get-map, slice_get-get_or}
use Rattle.std.proofs.lemmas.Simd.{map-map}
use Rattle.std.proofs.Math.Seq.{take-append-add}
use Rattle.gl_base.proofs.Counting.{map-remove, All-remove}
use Rattle.gl_gatelog.specs.declared.kind.Log.TheVariants.{Index}
use Rattle.gl_gatelog.specs.Batch.{size}
use Rattle.gl_gatelog.specs.View.{GateView, appended}
use Rattle.gl_fields.specs.declared.entry.Entry.{Entry}
use Rattle.gl_fields.specs.declared.entry.Entry.TheVariants.{Admin, Message}
use Rattle.gl_fields.specs.declared.entry.Outcome.{Outcome}
use Rattle.gl_fields.specs.Bounds.{IsOutcome}
use Rattle.gl_fields.specs.Entries.{version_after}
use Rattle.gl_fields.specs.Outcomes.{outcome_bytes}
use Rattle.gl_node.specs.declared.mark.Mark.{Mark}
use Rattle.gl_node.specs.declared.node.Node.{Node}
use Rattle.gl_node.specs.declared.work.Range.{Range}
use Rattle.gl_node.specs.declared.work.Work.{Work}
use Rattle.gl_node.specs.Configuration.{config_at}
use Rattle.gl_node.specs.Decoding.{outcome_of, outcome_under}
use Rattle.gl_node.specs.State.{State, Committed, happened, commit_count, outcomes, except}
use Rattle.gl_node.specs.Claims.{next_ready, fits, commits, range_of, mark_of, range_batch, index_size}
use Rattle.gl_node.specs.Node.{AreTiled, Keeps, KeepsLog}
use Rattle.gl_node.specs.Standing.{IsLawful, MayFollow}
use Rattle.gl_node.proofs.Ready.{ready_is, commits_none, commits_more}
use Rattle.gl_node.proofs.Grants.{one_version}
use Rattle.gl_node.proofs.Tiling.{tiled_committed, except_is, count_committed, waiting_high}

map_same : {X Y : Type 0} (f g : X → Y) (xs : List X) → All (λ x. f x ≡ g x) xs → map f xs ≡ map g xs
map_same f g [] all = refl
map_same f g (x ∷ xs) all =
    ap (λ y. y ∷ map f xs) (All-head (λ z. f z ≡ g z) x xs all) ∙ ap (λ ys. g x ∷ ys) (map_same f g xs (All-tail (λ z. f z ≡ g z) x xs all))

one_outcome : (journal before : List Entry) (entry : Entry) → MayFollow before entry → version_after before ≡ 0 → outcome_under (config_at journal 0) entry ≡ outcome_of journal entry
one_outcome journal before (Admin command) may none = absurd may
one_outcome journal before (Message m) may none = ap (λ v. outcome_under (config_at journal v) (Message m)) (sym (may.1 ∙ none))

same_outcomes : (journal : List Entry) → IsLawful journal → All (λ (e : Entry). outcome_under (config_at journal 0) e ≡ outcome_of journal e) journal
same_outcomes journal lawful k d lt =
    one_outcome journal (take k journal) (get_or journal k d) (lawful k (get_or journal k d) (slice_get-get_or journal k d lt)) (one_version journal lawful k)

take_both : {X : Type 0} (m n : ℕ) (xs : List X) → m ≤ length xs → take (m + n) xs ≡ take m xs ++ take n (drop m xs)
take_both m n xs le =
    ap (λ l. take (m + n) l) (sym (take-append-drop m xs))
    ∙ ap (λ k. take (k + n) (take m xs ++ drop m xs)) (omega (arith, length-take m xs))
    ∙ take-append-add (take m xs) (drop m xs) n

-- the work at an index, which begins at the commit count
module _ (node : Node) (s : State) (i : ℕ) (work : Work) (k : Keeps node s) (there : slice_get node.waiting.items i ≡ Some work) (begins : work.range.first ≡ length node.outcomes.items) where
  in_node : i < length node.waiting.items
  in_node = slice_get_within node.waiting.items i work there

  pub is_there : slice_get s.waiting i ≡ Some (mark_of work.range)
  is_there = subst (λ ms. slice_get ms i ≡ Some (mark_of work.range)) k.waiting
      (slice_get-map (λ (w : Work). mark_of w.range) node.waiting.items i ∙ ap (λ o. option_map (λ (w : Work). mark_of w.range) o) there)

  pub in_waiting : i < length s.waiting
  in_waiting = slice_get_within s.waiting i (mark_of work.range) is_there

  pub at_index : get_or s.waiting i (mark_of work.range) ≡ mark_of work.range
  at_index = get_or_from_slice_get s.waiting i (mark_of work.range) (mark_of work.range) is_there

  pub first_is : work.range.first ≡ commit_count s
  first_is = begins ∙ ap (λ os. length os) k.outcomes_are ∙ sym k.committed

  pub range_is : work.range ≡ range_of s (mark_of work.range)
  range_is = subst (λ (w : Work). w.range ≡ range_of s (mark_of w.range)) (get_or_from_slice_get node.waiting.items i work work there) (k.ranges i work in_node)

  pub high : work.range.first + length work.range.entries ≤ node.next
  high = subst (λ (m : Mark). m.first + m.count ≤ node.next) at_index (waiting_high s node.next k.tiled i (mark_of work.range) in_waiting)

  pub sized : (0 < length work.range.entries) × (length work.range.entries ≤ 256)
  sized = subst (λ (m : Mark). (0 < m.count) × (m.count ≤ 256)) at_index (k.tiled.waiting_sized i (mark_of work.range) in_waiting)

  pub outcomes_len : length work.outcomes ≡ length work.range.entries
  outcomes_len = ap (λ os. length os) work.staged ∙ length-map work.range.entries (outcome_under work.range.config)

  abbrev its_entries : List Entry
  its_entries = slice_range s.journal work.range.first (work.range.first + length work.range.entries)

  abbrev same : Entry → Type 0
  same e = outcome_under (config_at s.journal 0) e ≡ outcome_of s.journal e

  pub outcomes_of_range : work.outcomes ≡ map (outcome_of s.journal) its_entries
  outcomes_of_range =
      work.staged
      ∙ ap (λ (r : Range). map (outcome_under r.config) r.entries) range_is
      ∙ ap (λ v. map (outcome_under (config_at s.journal v)) its_entries) (one_version s.journal k.lawful work.range.first)
      ∙ map_same (outcome_under (config_at s.journal 0)) (outcome_of s.journal) its_entries
      (All-take same (work.range.first + length work.range.entries - work.range.first) (drop work.range.first s.journal)
      (All-drop same work.range.first s.journal (same_outcomes s.journal k.lawful)))

  pub batch_is : size (map outcome_bytes work.outcomes) ≡ range_batch s (mark_of work.range)
  batch_is = ap (λ b. size b) (ap (λ os. map outcome_bytes os) outcomes_of_range ∙ map-map outcome_bytes (outcome_of s.journal) its_entries)

  abbrev before : List Entry
  before = drop (length s.base.found) (take (commit_count s) s.journal)

  abbrev since : ℕ
  since = sum_by (λ (m : Mark). m.count) s.committed

  parts : drop (length s.base.found) (take (commit_count s + length work.range.entries) s.journal) ≡ before ++ its_entries
  parts =
      ap (λ n. drop (length s.base.found) (take n s.journal)) (add_assoc (length s.base.found) since (length work.range.entries))
      ∙ drop-take (length s.base.found) (since + length work.range.entries) s.journal
      ∙ take_both since (length work.range.entries) (drop (length s.base.found) s.journal) (omega (arith, length-drop (length s.base.found) s.journal, k.tiled.committed, k.tiled.within))
      ∙ ap (λ es. es ++ take (length work.range.entries) (drop since (drop (length s.base.found) s.journal))) (sym (drop-take (length s.base.found) since s.journal))
      ∙ ap (λ es. before ++ take (length work.range.entries) es) (drop-drop since (length s.base.found) s.journal)
      ∙ ap (λ es. before ++ es) (taken work.range.first (commit_count s) (length work.range.entries) first_is)
    where
      taken : (first low n : ℕ) → first ≡ low → take n (drop low s.journal) ≡ slice_range s.journal first (first + n)
      taken first low n same = rw (sym same) (ap (λ m. take m (drop first s.journal)) (omega arith))

  pub more_outcomes : outcomes (happened s (Committed (mark_of work.range))) ≡ outcomes s ++ work.outcomes
  more_outcomes =
      ap (λ n. s.base.found ++ map (outcome_of s.journal) (drop (length s.base.found) (take n s.journal))) (count_committed s node.next k.tiled (mark_of work.range))
      ∙ ap (λ es. s.base.found ++ map (outcome_of s.journal) es) parts
      ∙ ap (λ os. s.base.found ++ os) (map-append (outcome_of s.journal) before its_entries)
      ∙ sym (append_assoc s.base.found (map (outcome_of s.journal) before) (map (outcome_of s.journal) its_entries))
      ∙ ap (λ os. outcomes s ++ os) (sym outcomes_of_range)

  pub keeps_committed : (all : Vec Outcome Global) (waiting : Vec Work Global) → all.items ≡ node.outcomes.items ++ work.outcomes → waiting.items ≡ remove node.waiting.items i
      → vec_capacity waiting ≡ vec_capacity node.waiting → (index : GateView) → index ≡ appended node.index (map outcome_bytes work.outcomes)
      → Keeps (record node { outcomes = all; waiting = waiting; index = index }) (happened s (Committed (mark_of work.range)))
  keeps_committed all waiting all_is waiting_is room_is index index_is = record {
    entries = k.entries;
    outcomes_are = all_is ∙ ap (λ os. os ++ work.outcomes) k.outcomes_are ∙ sym more_outcomes;
    config = k.config;
    tables = k.tables;
    lawful = k.lawful;
    bounded = subst (λ os. All IsOutcome os) (sym more_outcomes) (All-append IsOutcome (outcomes s) work.outcomes k.bounded work.bounded);
    committed = omega (arith, count_committed s node.next k.tiled (mark_of work.range), k.committed, ap (λ os. length os) more_outcomes, length-append (outcomes s) work.outcomes, outcomes_len);
    held = k.held;
    waiting = ap (λ ws. map (λ (w : Work). mark_of w.range) ws) waiting_is
        ∙ map-remove (λ (w : Work). mark_of w.range) node.waiting.items i
        ∙ ap (λ ms. remove ms i) k.waiting
        ∙ subst (λ (m : Mark). remove s.waiting i ≡ except m s.waiting) at_index (sym (except_is s node.next k.tiled i (mark_of work.range) in_waiting));
    ranges = subst (λ ws. All (λ (w : Work). w.range ≡ range_of s (mark_of w.range)) ws) (sym waiting_is)
        (All-remove (λ (w : Work). w.range ≡ range_of s (mark_of w.range)) node.waiting.items i k.ranges);
    room = omega (arith, k.room, room_is, ap (λ ws. length ws) waiting_is, length-remove node.waiting.items i in_node);
    tiled = subst (λ (m : Mark). AreTiled (happened s (Committed m)) node.next) at_index
        (tiled_committed s node.next k.tiled i (mark_of work.range) in_waiting (ap (λ (m : Mark). m.first) at_index ∙ first_is));
    grown = k.grown;
    committed_lie = All-push (λ (m : Mark). m.first + m.count ≤ length s.journal) s.committed (mark_of work.range) k.committed_lie (omega (arith, high, k.tiled.within));
    journal_log = k.journal_log;
    index_log = subst (λ (v : GateView). KeepsLog v Index (length (outcomes (happened s (Committed (mark_of work.range))))) (index_size (happened s (Committed (mark_of work.range)))) s.base.index_limit s.base.index_segment) (sym index_is) (record {
      log_is = k.index_log.log_is;
      records_are = length-append node.index.places (replicate (length (map outcome_bytes work.outcomes)) node.index.place)
          ∙ omega (arith, length-replicate (length (map outcome_bytes work.outcomes)) node.index.place, length-map work.outcomes outcome_bytes, k.index_log.records_are, ap (λ os. length os) more_outcomes, length-append (outcomes s) work.outcomes);
      bytes_are = omega (arith, k.index_log.bytes_are, batch_is, sum_by_push (range_batch s) s.committed (mark_of work.range));
      limit_is = k.index_log.limit_is;
      segment_is = k.index_log.segment_is;
    });
    running = λ runs. ((k.running runs).0, ap (λ (v : GateView). v.stopped) index_is ∙ (k.running runs).1);
  }

  at_first : (get_or s.waiting i (mark_of work.range)).first ≡ commit_count s
  at_first = ap (λ (m : Mark). m.first) at_index ∙ first_is

  pub is_next : next_ready s ≡ Some (mark_of work.range)
  is_next = ready_is s node.next k.tiled i (mark_of work.range) in_waiting at_first ∙ ap (λ m. Some m) at_index

  pub rest_if_it_fits : fits s (mark_of work.range) ≡ true → commits s ≡ Committed (mark_of work.range) ∷ commits (happened s (Committed (mark_of work.range)))
  rest_if_it_fits fitting = subst (λ (m : Mark). commits s ≡ Committed m ∷ commits (happened s (Committed m))) at_index
      (commits_more s node.next k.tiled i (mark_of work.range) in_waiting at_first (ap (λ m. fits s m) at_index ∙ fitting))

  pub rest_if_not : fits s (mark_of work.range) ≡ false → commits s ≡ []
  rest_if_not unfit = commits_none s node.next k.tiled i (mark_of work.range) in_waiting at_first (ap (λ m. fits s m) at_index ∙ unfit)

  pub fits_is : nat_le (node.index.bytes + size (map outcome_bytes work.outcomes)) node.index.limit ≡ fits s (mark_of work.range)
  fits_is = ap (λ n. nat_le (n + size (map outcome_bytes work.outcomes)) node.index.limit) k.index_log.bytes_are
      ∙ ap (λ n. nat_le (index_size s + n) node.index.limit) batch_is ∙ ap (λ n. nat_le (index_size s + range_batch s (mark_of work.range)) n) k.index_log.limit_is

-- the same, with room for more outcomes, and the value of a log that refused a batch
pub keeps_still : (node : Node) (s : State) (all : Vec Outcome Global) (index : GateView) → Keeps node s → all.items ≡ node.outcomes.items → index ≡ node.index
    → Keeps (record node { outcomes = all; index = index }) s
keeps_still node s all index k all_is index_is = record {
  entries = k.entries;
  outcomes_are = all_is ∙ k.outcomes_are;
  config = k.config;
  tables = k.tables;
  lawful = k.lawful;
  bounded = k.bounded;
  committed = k.committed;
  held = k.held;
  waiting = k.waiting;
  ranges = k.ranges;
  room = k.room;
  tiled = k.tiled;
  grown = k.grown;
  committed_lie = k.committed_lie;
  journal_log = k.journal_log;
  index_log = subst (λ (v : GateView). KeepsLog v Index (length (outcomes s)) (index_size s) s.base.index_limit s.base.index_segment) (sym index_is) k.index_log;
  running = λ runs. ((k.running runs).0, ap (λ (v : GateView). v.stopped) index_is ∙ (k.running runs).1);
}
