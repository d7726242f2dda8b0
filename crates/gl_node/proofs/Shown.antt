-- What an image with both logs of a node stands for.
use Rattle.std.proofs.Common.{◌≡◌, ◌≤◌, List, length, map, Some, refl, sym, ◌∙◌, ap, subst, arith}
use Rattle.std.specs.List.{All}
use Rattle.gl_outside.specs.Disk.{Image, DiskState}
use Rattle.gl_gatelog.specs.declared.kind.Log.{Log}
use Rattle.gl_gatelog.specs.declared.kind.Log.TheVariants.{Journal, Index}
use Rattle.gl_gatelog.specs.Batch.{Batch}
use Rattle.gl_gatelog.specs.Log.{LogAlone, records_of}
use Rattle.gl_fields.specs.declared.entry.Entry.{Entry}
use Rattle.gl_fields.specs.declared.entry.Outcome.{Outcome}
use Rattle.gl_fields.specs.Entries.{entry_bytes}
use Rattle.gl_fields.specs.Outcomes.{outcome_bytes}
use Rattle.gl_fields.specs.Bounds.{IsOutcome}
use Rattle.gl_node.specs.declared.node.Node.{Node}
use Rattle.gl_node.specs.Standing.{IsLawful, StandsFor}
use Rattle.gl_node.specs.State.{Base, State, outcomes}
use Rattle.gl_node.specs.Node.{Keeps, NodeOn}

module _ (node : Node) (s : State) (keeps : Keeps node s) where
  -- for a state of the same base, whose entries and outcomes are the records of the logs
  pub stands_for : (t : State) → t.base ≡ s.base → IsLawful t.journal → All IsOutcome (outcomes t) → length (outcomes t) ≤ length t.journal
      → (journal_batches index_batches : List Batch) → records_of journal_batches ≡ map entry_bytes t.journal → records_of index_batches ≡ map outcome_bytes (outcomes t)
      → (c : Image) → LogAlone node.journal.log node.journal.segment_size journal_batches c → LogAlone node.index.log node.index.segment_size index_batches c → StandsFor c t
  stands_for t same lawful bounded each journal_batches index_batches entries_are outcomes_are c journal_is index_is =
      let journal : LogAlone Journal node.journal.segment_size journal_batches c =
      subst (λ (l : Log). LogAlone l node.journal.segment_size journal_batches c) keeps.journal_log.log_is journal_is in
      let index : LogAlone Index node.index.segment_size index_batches c =
      subst (λ (l : Log). LogAlone l node.index.segment_size index_batches c) keeps.index_log.log_is index_is in
      record {
        journal_ends = journal.behind;
        index_ends = index.behind;
        journal_size = keeps.journal_log.segment_is ∙ ap (λ (b : Base). b.journal_segment) (sym same);
        index_size = keeps.index_log.segment_is ∙ ap (λ (b : Base). b.index_segment) (sym same);
        shows = record {
          journal_segment = Some node.journal.segment_size;
          index_segment = Some node.index.segment_size;
          journal_batches = journal_batches;
          index_batches = index_batches;
          journal_reads = journal.log_is;
          index_reads = index.log_is;
          entries = entries_are;
          outcomes = outcomes_are;
          lawful = lawful;
          bounded = bounded;
          each_has_entry = each;
        };
      }

  -- for the state that the node keeps, where it stands on a disk
  module _ (disk : DiskState) (on : NodeOn node disk) where
    pub stands_now : (c : Image) → LogAlone node.journal.log node.journal.segment_size on.journal_batches c → LogAlone node.index.log node.index.segment_size on.index_batches c → StandsFor c s
    stands_now = stands_for s refl keeps.lawful keeps.bounded (omega (arith, keeps.committed, keeps.tiled.committed, keeps.tiled.within)) on.journal_batches on.index_batches
        (on.entries ∙ ap (λ (es : List Entry). map entry_bytes es) keeps.entries) (on.outcomes ∙ ap (λ (os : List Outcome). map outcome_bytes os) keeps.outcomes_are)

    pub shown : (c : Image) → disk.may_leave c → StandsFor c s
    shown c left = stands_now c (on.journal.images c left) (on.index.images c left)
