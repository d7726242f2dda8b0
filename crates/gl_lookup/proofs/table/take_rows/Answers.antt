use Rattle.std.proofs.Common.{rules}
use Rattle.gl_lookup.proofs.Pairs.{is_table}
use Rattle.gl_lookup.proofs.table.take_rows.Goals as goal

pub loop-number-init : goal.loop-number-init
loop-number-init c = record {
  ordered = is_table c.new-values.result.entries c.new-values.ensures.ordered;
  reading = c.requires;
  so_far = search rules;
}
