use Rattle.std.proofs.Common.{◌≡◌, [], Some, List, ℕ, Bor}
use Rattle.gl_lookup.specs.Rows.{left_of, IsReading}
use Rattle.gl_lookup.specs.Tables.{pairs_of, taken, IsTable}
use Rattle.gl_lookup.proofs.table.take_rows.Given as goal

abbrev pub invariant-loop-number : goal.invariant-loop-number
invariant-loop-number l = record {
  ordered : IsTable (pairs_of l.values);
  reading : IsReading (λ (s : Bor (List ℕ)). Some s.now) l.reader;
  so_far : taken l.columns l.number (pairs_of l.values) (left_of (λ (s : Bor (List ℕ)). Some s.now) l.reader) ≡ taken l.columns 1 [] (left_of (λ (s : Bor (List ℕ)). Some s.now) l.fn.reader);
}
