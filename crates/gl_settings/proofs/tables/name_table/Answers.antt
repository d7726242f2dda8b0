use Rattle.std.proofs.Common.{◌∙◌, ap, map, List, ℕ}
use Rattle.std.specs.BTreeMap.{insert_entry}
use Rattle.std.specs.Ordering.{nat_cmp}
use Rattle.std.specs.Cmp.Lexicographic.{slice_cmp}
use Rattle.gl_settings.specs.Settings.{tables_of}
use Rattle.gl_settings.proofs.Mapping.{entry, tables_put}
use Rattle.gl_settings.proofs.tables.name_table.Goals as goal

pub returns : goal.returns
returns c =
    ap (map entry) c.in_ok-insert.ensures.entries ∙ tables_put c.args.tables.now.entries c.in_ok-name.name c.args.table
    ∙ ap (λ (k : List ℕ). insert_entry (slice_cmp nat_cmp) (tables_of c.args.tables.now) k c.args.table) c.in_ok-name.ensures.ok
