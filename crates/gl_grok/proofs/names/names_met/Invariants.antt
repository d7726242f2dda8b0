use Rattle.std.proofs.Common.{◌≡◌, ◌+◌, ◌<◌, ℕ, List, [], length}
use Rattle.std.specs.List.{list_any}
use Rattle.std.specs.Ordering.{nat_cmp, is_eq}
use Rattle.std.specs.Cmp.Lexicographic.{slice_cmp}
use Rattle.gl_grok.specs.Names.{contains}
use Rattle.gl_grok.specs.Tables.{table_of}
use Rattle.gl_grok.proofs.Seeking.{sought}
use Rattle.gl_grok.proofs.Stacking.{unwound}
use Rattle.gl_grok.proofs.Walking.{nows, left}
use Rattle.gl_grok.proofs.names.names_met.Given as goal

abbrev pub invariant-loop-rest : goal.invariant-loop-rest
invariant-loop-rest l = record {
  so_far : unwound (table_of l.table) [] (nows l.inside.items) (nows l.rests.items) (record { names = nows l.names.items; marks = nows l.again.items }) ≡ sought (table_of l.table) l.text;
  fit : 0 < length (nows l.rests.items) → length (nows l.rests.items) ≡ length (nows l.inside.items) + 1;
  seen : (q : List ℕ) → list_any (λ k. is_eq (slice_cmp nat_cmp q k.now)) l.seen.keys ≡ contains (nows l.names.items) q;
}

abbrev pub decreases-loop-rest : goal.decreases-loop-rest
decreases-loop-rest l = left (table_of l.table) (nows l.names.items) (nows l.rests.items)
