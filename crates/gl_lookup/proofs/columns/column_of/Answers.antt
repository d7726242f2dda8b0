use Rattle.std.proofs.Common.{ap, sym, ◌∙◌, true, false, ◌≡◌, List, ℕ, arith}
use Rattle.std.specs.Str.{bytes_eq}
use Rattle.csv.specs.Records.{fields_of}
use Rattle.gl_lookup.specs.Rows.{cell}
use Rattle.gl_lookup.proofs.Naming.{column_here, column_later, column_none}
use Rattle.gl_lookup.proofs.columns.column_of.Goals as goal

pub returns-then-eq : goal.returns-then-eq
returns-then-eq c =
    let fields = fields_of c.args.names.now in
    let e : bytes_eq (cell c.loop-at.at fields) c.args.name.now ≡ true = ap (λ (name : List ℕ). bytes_eq name c.args.name.now) (sym c.cell.ensures) ∙ sym c.if-eq.ensures in
    sym (column_here c.args.name.now fields c.loop-at.at (omega (arith, c.loop-at-test.true, c.len-at-end.ensures)) e) ∙ c.loop-at.invariant

pub loop-at-preserved : goal.loop-at-preserved
loop-at-preserved c =
    let fields = fields_of c.args.names.now in
    let e : bytes_eq (cell c.loop-at.at fields) c.args.name.now ≡ false = ap (λ (name : List ℕ). bytes_eq name c.args.name.now) (sym c.cell.ensures) ∙ sym c.if-eq.ensures in
    sym (column_later c.args.name.now fields c.loop-at.at (omega (arith, c.loop-at-test.true, c.len-at-end.ensures)) e) ∙ c.loop-at.invariant

pub returns : goal.returns
returns c =
    let fields = fields_of c.args.names.now in
    sym (column_none c.args.name.now fields c.loop-at.at (omega (arith, c.loop-at-test.false, c.len-at-end.ensures))) ∙ c.loop-at.invariant
