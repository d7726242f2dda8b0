-- What opening a store finds: a log that was read shows its records, and a node with what both logs show keeps what stood at opening.
use Rattle.std.proofs.Common.{◌≡◌, inl, inr, ℕ, ◌+◌, ◌≤◌, ◌<◌, List, [], ◌∷◌, ◌++◌, length, map, take, drop, Bool, true, false, if◌then◌else◌, Option, None, Some, refl, sym, ◌∙◌, ap, subst, arith, append-nil, length-take}
use Rattle.std.specs.List.{All, sum_by}
use Rattle.std.proofs.lemmas.List.{drop_all}
use Rattle.gl_outside.specs.Disk.{Image, DiskState}
use Rattle.gl_gatelog.specs.declared.kind.Log.{Log}
use Rattle.gl_gatelog.specs.declared.kind.Log.TheVariants.{Journal, Index}
use Rattle.gl_gatelog.specs.Batch.{Batch, size}
use Rattle.gl_gatelog.specs.Gate.{IsClosed}
use Rattle.gl_gatelog.specs.Log.{LogIs, Place, area_of, begin, bytes_of, last_segment, log_end, records_of}
use Rattle.gl_gatelog.specs.Progress.{OpeningView, ReadBehind, HasRead, HasEnded, IsUnbegun, IsEmptyBeyond, finished}
use Rattle.gl_gatelog.specs.View.{GateView, begun}
use Rattle.gl_gatelog.proofs.Steps.{shut_or_none}
use Rattle.gl_gatelog.proofs.TakenUp.{whole_reading}
use Rattle.gl_fields.specs.declared.entry.Entry.{Entry}
use Rattle.gl_fields.specs.declared.entry.Outcome.{Outcome}
use Rattle.gl_fields.specs.Entries.{entry_bytes}
use Rattle.gl_fields.specs.Outcomes.{outcome_bytes}
use Rattle.gl_fields.specs.Bounds.{IsEntry, IsOutcome}
use Rattle.gl_fields.proofs.ReadBack.{one_entry, one_outcome}
use Rattle.gl_node.specs.declared.node.Node.{Node}
use Rattle.gl_node.specs.declared.node.Options.{Options}
use Rattle.gl_node.specs.declared.work.Work.{Work}
use Rattle.gl_node.specs.Claims.{index_size, mark_of, range_of}
use Rattle.gl_node.specs.Configuration.{initial_config}
use Rattle.gl_node.specs.Decoding.{outcome_of}
use Rattle.gl_node.specs.Node.{AreTables, AreTiled, Keeps, KeepsLog, lies_between, times_taken}
use Rattle.gl_node.specs.Opening.{BothStand, IsOf}
use Rattle.gl_node.specs.Standing.{EndsThere, IsLawful, LogShows, RecordsSize, Shows, StandsFor, base_of, log_bytes, segment_or}
use Rattle.gl_node.specs.State.{Base, commit_count, entry_batch, opened, outcomes}
use Rattle.gl_node.proofs.Damages.{shows_once}
use Rattle.gl_node.proofs.Taking.{entries_within, first_config, said}

-- ---- a node with nothing but what stood at opening

pub outcomes_opened : (base : Base) → outcomes (opened base) ≡ base.found
outcomes_opened base =
    ap (λ l. base.found ++ map (outcome_of base.journal) l) (drop_all (length base.found) (take (length base.found + 0) base.journal) (omega (arith, length-take (length base.found + 0) base.journal)))
    ∙ append-nil base.found

none_between : (first next position : ℕ) → next ≡ first → lies_between (first + 0) next position ≡ false
none_between first next position same = grind (arith, same)

no_times : (base : Base) (next position : ℕ) → next ≡ length base.found → times_taken (opened base) position ≡ (if lies_between (commit_count (opened base)) next position then 1 else 0)
no_times base next position same = ap (λ (b : Bool). if b then 1 else 0) (sym (none_between (length base.found) next position same))

tiled_opened : (base : Base) (next : ℕ) → next ≡ length base.found → length base.found ≤ length base.journal → AreTiled (opened base) next
tiled_opened base next same few = record {
  committed = omega (arith, same);
  within = omega (arith, same, few);
  once = λ position. no_times base next position same;
  held_sized = λ k d lt. absurd (omega (arith, lt));
  waiting_sized = λ k d lt. absurd (omega (arith, lt));
  workers = λ worker. omega arith;
}

-- a log's value without new records
log_now : (view : GateView) (log : Log) (records bytes limit segment more : ℕ) → KeepsLog view log records bytes limit segment → more ≡ 0 → KeepsLog view log records (bytes + more) limit segment
log_now view log records bytes limit segment more keeps none = record {
  log_is = keeps.log_is;
  records_are = keeps.records_are;
  bytes_are = omega (arith, keeps.bytes_are, none);
  limit_is = keeps.limit_is;
  segment_is = keeps.segment_is;
}

pub keeps_opened : (node : Node) (base : Base) → node.entries.items ≡ base.journal → node.outcomes.items ≡ base.found → node.config ≡ initial_config → AreTables node.tables.items initial_config.inputs []
    → IsLawful base.journal → All IsOutcome base.found → length base.found ≤ length base.journal
    → node.held.items ≡ [] → node.waiting.items ≡ [] → node.next ≡ length base.found
    → KeepsLog node.journal Journal (length base.journal) base.journal_bytes base.journal_limit base.journal_segment
    → KeepsLog node.index Index (length base.found) base.index_bytes base.index_limit base.index_segment
    → node.journal.stopped ≡ false → node.index.stopped ≡ false → Keeps node (opened base)
keeps_opened node base entries_are found_are config_is tables_are lawful bounded few no_held no_waiting next_is journal_is index_is journal_runs index_runs = record {
  entries = entries_are;
  outcomes_are = found_are ∙ sym (outcomes_opened base);
  config = config_is ∙ sym (first_config base.journal lawful);
  tables = tables_are;
  lawful = lawful;
  bounded = subst (λ (l : List Outcome). All IsOutcome l) (sym (outcomes_opened base)) bounded;
  committed = omega (arith, ap (λ (l : List Outcome). length l) (outcomes_opened base));
  held = no_held;
  waiting = ap (λ ws. map (λ (w : Work). mark_of w.range) ws) no_waiting;
  ranges = subst (λ ws. All (λ (w : Work). w.range ≡ range_of (opened base) (mark_of w.range)) ws) (sym no_waiting) (λ k d lt. absurd (omega (arith, lt)));
  room = omega (arith, ap (λ ws. length ws) no_waiting, ap (λ cs. length cs) no_held);
  tiled = tiled_opened base node.next next_is few;
  grown = omega arith;
  committed_lie = λ k d lt. absurd (omega (arith, lt));
  journal_log = log_now node.journal Journal (length base.journal) base.journal_bytes base.journal_limit base.journal_segment
      (sum_by entry_batch (drop (length base.journal) base.journal)) journal_is
      (ap (λ (l : List Entry). sum_by entry_batch l) (drop_all (length base.journal) base.journal (omega arith)));
  index_log = subst (λ (n : ℕ). KeepsLog node.index Index n (index_size (opened base)) base.index_limit base.index_segment)
      (sym (ap (λ (l : List Outcome). length l) (outcomes_opened base)))
      (log_now node.index Index (length base.found) base.index_bytes base.index_limit base.index_segment 0 index_is refl);
  running = λ runs. (journal_runs, index_runs);
}

-- ---- a log that was read to its end

-- what a log's areas show that was read: its batches, the segment size that it has now, and what its value keeps
pub record LogFound (log : Log) (asked limit count : ℕ) (v : OpeningView) (batches : List Batch) (image : Image) : Type 0 where
  pub segment : Option ℕ
  pub shows : LogShows log image segment batches
  pub size_is : segment_or asked segment ≡ v.log.segment_size
  pub keeps : KeepsLog (finished v) log count (log_bytes log (segment_or asked segment) batches) limit (segment_or asked segment)
  pub beyond : (c : Image) → EndsThere log c segment batches → (k : ℕ) → v.log.place.0 < k → k ≤ last_segment v.log.log → c (area_of v.log.log k) ≡ []

-- a log's value keeps what its reader says, whatever the disk tells
finished_is : (v : OpeningView) (b : Bool) → v.has_begin ≡ b → finished v ≡ (if b then v.log else begun v.log.log v.log.segment_size v.log.limit)
finished_is v b has = ap (λ (x : Bool). if x then v.log else begun v.log.log v.log.segment_size v.log.limit) has

record IsKept (log : Log) (asked limit count : ℕ) (v : OpeningView) (view : GateView) : Type 0 where
  log_is : view.log ≡ log
  limit_is : view.limit ≡ limit
  count_is : length view.places ≡ count
  runs : view.stopped ≡ false
  segment_is : view.segment_size ≡ v.log.segment_size

kept_view : (log : Log) (asked limit count : ℕ) (v : OpeningView) → IsOf log asked limit count v → IsKept log asked limit count v (finished v)
kept_view log asked limit count v is = at v.has_begin refl
  where
    at : (b : Bool) → v.has_begin ≡ b → IsKept log asked limit count v (finished v)
    at true has = subst (λ (x : GateView). IsKept log asked limit count v x) (sym (finished_is v true has))
        (record { log_is = is.log_is; limit_is = is.limit_is; count_is = is.count_is; runs = is.running; segment_is = refl })
    at false has = subst (λ (x : GateView). IsKept log asked limit count v x) (sym (finished_is v false has))
        (record { log_is = is.log_is; limit_is = is.limit_is; count_is = sym (is.fresh has); runs = refl; segment_is = refl })

pub keeps_read : (log : Log) (asked limit count : ℕ) (v : OpeningView) → IsOf log asked limit count v → KeepsLog (finished v) log count (finished v).bytes limit (finished v).segment_size
keeps_read log asked limit count v is =
    let k = kept_view log asked limit count v is in
    record { log_is = k.log_is; records_are = k.count_is; bytes_are = refl; limit_is = k.limit_is; segment_is = refl }

pub runs_read : (log : Log) (asked limit count : ℕ) (v : OpeningView) → IsOf log asked limit count v → (finished v).stopped ≡ false
runs_read log asked limit count v is = (kept_view log asked limit count v is).runs

pub at_logs : (log : Log) (view : GateView) (asked limit count : ℕ) (v : OpeningView) → IsOf log asked limit count v → view ≡ finished v
    → KeepsLog view log count (finished v).bytes limit (finished v).segment_size
at_logs log view asked limit count v is same =
    subst (λ (x : GateView). KeepsLog x log count (finished v).bytes limit (finished v).segment_size) (sym same) (keeps_read log asked limit count v is)

-- what stood at opening, as the logs' values say it
abbrev pub base_read : Options → OpeningView → OpeningView → List Entry → List Outcome → Base
base_read options v w entries found = record {
  journal = entries;
  found = found;
  journal_bytes = (finished v).bytes;
  index_bytes = (finished w).bytes;
  journal_limit = options.journal_limit;
  index_limit = options.index_limit;
  journal_segment = (finished v).segment_size;
  index_segment = (finished w).segment_size;
}

module _ (log : Log) (asked limit count : ℕ) (v : OpeningView) (is : IsOf log asked limit count v) (b : List Batch) (d : DiskState) (ended : HasEnded v d) where
  whole_found : ReadBehind v b d → LogFound log asked limit count v b d.reads
  whole_found so_far =
      let whole : LogIs log v.log.segment_size b d.reads = subst (λ (l : Log). LogIs l v.log.segment_size b d.reads) is.log_is (whole_reading v b d so_far ended) in
      let view_is : finished v ≡ v.log = finished_is v true so_far.with_begin in
      record {
        segment = Some v.log.segment_size;
        shows = whole;
        size_is = refl;
        keeps = subst (λ (x : GateView). KeepsLog x log count (log_bytes log v.log.segment_size b) limit v.log.segment_size) (sym view_is) (record {
          log_is = is.log_is;
          records_are = is.count_is;
          bytes_are = ap (λ (x : GateView). x.bytes) so_far.shown ∙ ap (λ (l : Log). bytes_of (begin l v.log.segment_size ∷ b)) is.log_is;
          limit_is = is.limit_is;
          segment_is = refl;
        });
        beyond = λ c ends k lt le.
            let place_is : v.log.place ≡ log_end log v.log.segment_size b = ap (λ (x : GateView). x.place) so_far.shown ∙ ap (λ (l : Log). log_end l v.log.segment_size b) is.log_is in
            subst (λ (l : Log). c (area_of l k) ≡ []) (sym is.log_is)
            (ends k (subst (λ (p : Place). p.0 < k) place_is lt) (subst (λ (l : Log). k ≤ last_segment l) is.log_is le));
      }

  fresh_found : b ≡ [] → IsUnbegun v d → LogFound log asked limit count v b d.reads
  fresh_found no_batch none =
      let view_is : finished v ≡ begun v.log.log v.log.segment_size v.log.limit = finished_is v false none.no_begin in
      record {
        segment = None;
        shows = (subst (λ (l : Log). IsClosed 0 (d.reads (area_of l 0))) is.log_is (shut_or_none v.log.gated 0 (d.reads (area_of v.log.log 0)) (none.waits d.reads d.is_image)), no_batch);
        size_is = sym (is.sized none.no_begin);
        keeps = subst (λ (x : GateView). KeepsLog x log count (log_bytes log asked b) limit asked) (sym view_is) (record {
          log_is = is.log_is;
          records_are = sym (is.fresh none.no_begin);
          bytes_are = bytes_now v.log.log v.log.segment_size is.log_is (is.sized none.no_begin) no_batch;
          limit_is = is.limit_is;
          segment_is = is.sized none.no_begin;
        });
        beyond = λ c ends k lt le.
            subst (λ (l : Log). c (area_of l k) ≡ []) (sym is.log_is)
            (ends k (subst (λ (p : Place). p.0 < k) none.place lt) (subst (λ (l : Log). k ≤ last_segment l) is.log_is le));
      }
    where
      bytes_now : (l : Log) (s : ℕ) → l ≡ log → s ≡ asked → b ≡ [] → size (begin l s) ≡ log_bytes log asked b
      bytes_now l s same_log same_size no_batch =
          ap (λ (x : Log). size (begin x s)) same_log
          ∙ ap (λ n. size (begin log n)) same_size
          ∙ omega arith
          ∙ ap (λ (x : List Batch). bytes_of (begin log asked ∷ x)) (sym no_batch)

  pub log_found : HasRead v b d → LogFound log asked limit count v b d.reads
  log_found (inl so_far) = whole_found so_far
  log_found (inr none) = fresh_found none.0 none.1

-- ---- what an image shows is one list of entries and outcomes

-- what both logs were found to hold
pub record BothFound (options : Options) (journal_v index_v : OpeningView) (entries : List Entry) (found : List Outcome) (image : Image) : Type 0 where
  pub a : List Batch
  pub b : List Batch
  pub journal : LogFound Journal options.segment options.journal_limit (length entries) journal_v a image
  pub index : LogFound Index options.segment options.index_limit (length found) index_v b image
  pub entries_are : records_of a ≡ map entry_bytes entries
  pub found_are : records_of b ≡ map outcome_bytes found
  pub lawful : IsLawful entries
  pub bounded : All IsOutcome found
  pub each : length found ≤ length entries

module _ (options : Options) (v w : OpeningView) (entries : List Entry) (found : List Outcome) (image : Image) (f : BothFound options v w entries found image) where
  pub shows_found : Shows image entries found
  shows_found = record {
    journal_segment = f.journal.segment;
    index_segment = f.index.segment;
    journal_batches = f.a;
    index_batches = f.b;
    journal_reads = f.journal.shows;
    index_reads = f.index.shows;
    entries = f.entries_are;
    outcomes = f.found_are;
    lawful = f.lawful;
    bounded = f.bounded;
    each_has_entry = f.each;
  }

  module _ (journal : List Entry) (outs : List Outcome) (shown : Shows image journal outs) where
    journal_once : (f.journal.segment ≡ shown.journal_segment) × (f.a ≡ shown.journal_batches)
    journal_once = shows_once Journal image f.journal.segment shown.journal_segment f.a shown.journal_batches f.journal.shows shown.journal_reads

    index_once : (f.index.segment ≡ shown.index_segment) × (f.b ≡ shown.index_batches)
    index_once = shows_once Index image f.index.segment shown.index_segment f.b shown.index_batches f.index.shows shown.index_reads

    pub one_journal : entries ≡ journal
    one_journal = said entry_bytes IsEntry one_entry entries journal (entries_within entries f.lawful) (entries_within journal shown.lawful)
        (sym f.entries_are ∙ ap (λ (l : List Batch). records_of l) journal_once.1 ∙ shown.entries)

    pub one_found : found ≡ outs
    one_found = said outcome_bytes IsOutcome one_outcome found outs f.bounded shown.bounded
        (sym f.found_are ∙ ap (λ (l : List Batch). records_of l) index_once.1 ∙ shown.outcomes)

    pub journal_sized : segment_or options.segment shown.journal_segment ≡ v.log.segment_size
    journal_sized = ap (λ (o : Option ℕ). segment_or options.segment o) (sym journal_once.0) ∙ f.journal.size_is

    pub index_sized : segment_or options.segment shown.index_segment ≡ w.log.segment_size
    index_sized = ap (λ (o : Option ℕ). segment_or options.segment o) (sym index_once.0) ∙ f.index.size_is

    -- the areas behind the ends are empty, so that both logs may be taken up
    pub journal_beyond : (d : DiskState) → ((c : Image) → d.may_leave c → EndsThere Journal c shown.journal_segment shown.journal_batches) → IsEmptyBeyond v.log d
    journal_beyond d alone c now k lt le = f.journal.beyond c
        (subst (λ (o : Option ℕ). EndsThere Journal c o f.a) (sym journal_once.0)
        (subst (λ (l : List Batch). EndsThere Journal c shown.journal_segment l) (sym journal_once.1) (alone c now)))
        k lt le

    pub index_beyond : (d : DiskState) → ((c : Image) → d.may_leave c → EndsThere Index c shown.index_segment shown.index_batches) → IsEmptyBeyond w.log d
    index_beyond d alone c now k lt le = f.index.beyond c
        (subst (λ (o : Option ℕ). EndsThere Index c o f.b) (sym index_once.0)
        (subst (λ (l : List Batch). EndsThere Index c shown.index_segment l) (sym index_once.1) (alone c now)))
        k lt le

    journal_keeps : KeepsLog (finished v) Journal (length journal) (log_bytes Journal (segment_or options.segment shown.journal_segment) shown.journal_batches)
        options.journal_limit (segment_or options.segment shown.journal_segment)
    journal_keeps =
        subst (λ (l : List Entry). KeepsLog (finished v) Journal (length l) (log_bytes Journal (segment_or options.segment shown.journal_segment) shown.journal_batches)
        options.journal_limit (segment_or options.segment shown.journal_segment)) one_journal
        (subst (λ (o : Option ℕ). KeepsLog (finished v) Journal (length entries) (log_bytes Journal (segment_or options.segment o) shown.journal_batches)
        options.journal_limit (segment_or options.segment o)) journal_once.0
        (subst (λ (l : List Batch). KeepsLog (finished v) Journal (length entries) (log_bytes Journal (segment_or options.segment f.journal.segment) l)
        options.journal_limit (segment_or options.segment f.journal.segment)) journal_once.1 f.journal.keeps))

    index_keeps : KeepsLog (finished w) Index (length outs) (log_bytes Index (segment_or options.segment shown.index_segment) shown.index_batches)
        options.index_limit (segment_or options.segment shown.index_segment)
    index_keeps =
        subst (λ (l : List Outcome). KeepsLog (finished w) Index (length l) (log_bytes Index (segment_or options.segment shown.index_segment) shown.index_batches)
        options.index_limit (segment_or options.segment shown.index_segment)) one_found
        (subst (λ (o : Option ℕ). KeepsLog (finished w) Index (length found) (log_bytes Index (segment_or options.segment o) shown.index_batches)
        options.index_limit (segment_or options.segment o)) index_once.0
        (subst (λ (l : List Batch). KeepsLog (finished w) Index (length found) (log_bytes Index (segment_or options.segment f.index.segment) l)
        options.index_limit (segment_or options.segment f.index.segment)) index_once.1 f.index.keeps))

    -- a node with both logs keeps what is shown
    pub keeps_shown : (node : Node) → node.entries.items ≡ entries → node.outcomes.items ≡ found → node.config ≡ initial_config → AreTables node.tables.items initial_config.inputs []
        → node.held.items ≡ [] → node.waiting.items ≡ [] → node.next ≡ length found → node.journal ≡ finished v → node.index ≡ finished w
        → (finished v).stopped ≡ false → (finished w).stopped ≡ false → Keeps node (opened (base_of options image journal outs shown))
    keeps_shown node entries_are found_are config_is tables_are no_held no_waiting next_is journal_is index_is journal_runs index_runs =
        keeps_opened node (base_of options image journal outs shown) (entries_are ∙ one_journal) (found_are ∙ one_found) config_is tables_are
        shown.lawful shown.bounded shown.each_has_entry no_held no_waiting (next_is ∙ ap (λ (l : List Outcome). length l) one_found)
        (subst (λ (x : GateView). KeepsLog x Journal (length journal) (log_bytes Journal (segment_or options.segment shown.journal_segment) shown.journal_batches)
        options.journal_limit (segment_or options.segment shown.journal_segment)) (sym journal_is) journal_keeps)
        (subst (λ (x : GateView). KeepsLog x Index (length outs) (log_bytes Index (segment_or options.segment shown.index_segment) shown.index_batches)
        options.index_limit (segment_or options.segment shown.index_segment)) (sym index_is) index_keeps)
        (ap (λ (x : GateView). x.stopped) journal_is ∙ journal_runs) (ap (λ (x : GateView). x.stopped) index_is ∙ index_runs)

    -- an image on which both logs stand as they were read stands for what is shown
    pub stands_shown : v.log.log ≡ Journal → w.log.log ≡ Index → (x c : Image) → BothStand v w f.a f.b x c → StandsFor c (opened (base_of options image journal outs shown))
    stands_shown is_journal is_index x c both = record {
      shows = record {
        journal_segment = both.journal_stands.segment;
        index_segment = both.index_stands.segment;
        journal_batches = f.a;
        index_batches = f.b;
        journal_reads = subst (λ (l : Log). LogShows l c both.journal_stands.segment f.a) is_journal both.journal_stands.shows;
        index_reads = subst (λ (l : Log). LogShows l c both.index_stands.segment f.b) is_index both.index_stands.shows;
        entries = f.entries_are ∙ ap (λ (l : List Entry). map entry_bytes l) one_journal;
        outcomes = f.found_are ∙ ap (λ (l : List Outcome). map outcome_bytes l) (one_found ∙ sym (outcomes_opened base));
        lawful = shown.lawful;
        bounded = subst (λ (l : List Outcome). All IsOutcome l) (sym (outcomes_opened base)) shown.bounded;
        each_has_entry = subst (λ (l : List Outcome). length l ≤ length journal) (sym (outcomes_opened base)) shown.each_has_entry;
      };
      journal_ends = subst (λ (l : Log). EndsThere l c both.journal_stands.segment f.a) is_journal both.journal_stands.ends;
      index_ends = subst (λ (l : Log). EndsThere l c both.index_stands.segment f.b) is_index both.index_stands.ends;
      journal_size = subst (λ (n : ℕ). RecordsSize n both.journal_stands.segment) (sym journal_sized) both.journal_stands.size;
      index_size = subst (λ (n : ℕ). RecordsSize n both.index_stands.segment) (sym index_sized) both.index_stands.size;
    }
      where
        base : Base
        base = base_of options image journal outs shown
