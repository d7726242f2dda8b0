use Rattle.std.proofs.Common.{subst, sym, List}
use Rattle.gl_lookup.specs.Tables.{Pair}
use Rattle.gl_settings.specs.Limits.{Refuses}
use Rattle.gl_config.specs.Applying.{Cause, csv_cause}
use Rattle.gl_config.proofs.Telling.{table_told}
use Rattle.gl_config.proofs.texts.table_in.Goals as goal

pub returns-in-Err-clause-err : goal.returns-in-Err-clause-err
returns-in-Err-clause-err c =
    subst (λ (a : Cause). Refuses a c.refused_table.result) (λ i. csv_cause (c.as_str.ensures i) (c.as_str-2.ensures i) (c.as_str-3.ensures i))
    (subst (Refuses (csv_cause c.as_str.result.now c.as_str-2.result.now c.as_str-3.result.now)) (sym c.refused_table.ensures)
    (table_told (λ (t : List Pair). t) c.in-Err.refusal _ c.in-Err.ensures))
