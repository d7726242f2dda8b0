use Rattle.std.proofs.Common.{◌≡◌, ◌≤◌, ◌+◌, ◌-◌, ◌*◌, length, map}
use Rattle.std.specs.List.{All}
use Rattle.std.specs.String.{string_bytes}
use Rattle.gl_grok.specs.Expansion.{expansion}
use Rattle.gl_grok.specs.Tables.{table_of}
use Rattle.gl_grok.specs.Unwinding.{IsExpandable, so_far, finished}
use Rattle.gl_grok.proofs.writing.write.Given as goal

abbrev pub invariant-loop-rest : goal.invariant-loop-rest
invariant-loop-rest l = record {
  all : All (IsExpandable (table_of l.table)) (map (λ s. s.now) l.rests.items);
  finished : finished (table_of l.table) (map (λ s. s.now) l.rests.items) (so_far l.written) ≡ expansion (table_of l.table) l.text;
  short : length (string_bytes l.written.text) ≤ 8192;
}

abbrev pub decreases-loop-rest : goal.decreases-loop-rest
decreases-loop-rest l = length l.rests.items + 2 * (8192 - length (string_bytes l.written.text))
