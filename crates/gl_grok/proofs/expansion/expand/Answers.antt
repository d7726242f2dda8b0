use Rattle.std.proofs.Common.{◌≡◌, List, ℕ, Err, find, sym, ap, ◌∙◌}
use Rattle.std.specs.Prelude.{not}
use Rattle.std.specs.List.{list_any}
use Rattle.std.specs.Str.{bytes_eq}
use Rattle.gl_grok.specs.declared.refusal.GrokRefusal.TheVariants as refusals
use Rattle.gl_grok.specs.Answers.{unless_unknown, unless_circular}
use Rattle.gl_grok.specs.Names.{names_met}
use Rattle.gl_grok.specs.Tables.{table_of, is_known}
use Rattle.gl_grok.proofs.Expandable.{expandable}
use Rattle.gl_grok.proofs.Walking.{nows}
use Rattle.gl_grok.proofs.expansion.expand.Goals as goal

pub write-requires : goal.write-requires
write-requires c =
    let table = table_of c.args.table.now in
    let text = c.args.pattern.now in
    let met : nows c.as_slice.result.now ≡ names_met table text = ap nows c.as_slice.ensures.value ∙ c.in_ok-met.ensures.names in
    let known = ap (find (λ (name : List ℕ). not (is_known table name))) (sym met) ∙ sym c.in_default.ensures in
    let ends = sym c.in_ok-met.ensures.circular
    ∙ (λ i. find (λ (name : List ℕ). list_any (λ other. bytes_eq name other.now) (sym c.as_slice-3.ensures.value i)) (nows (sym c.as_slice-2.ensures.value i)))
    ∙ sym c.in_default-first_among.ensures in
    expandable table text known ends

pub returns-in-Some-first_among : goal.returns-in-Some-first_among
returns-in-Some-first_among c =
    let table = table_of c.args.table.now in
    let text = c.args.pattern.now in
    let met : nows c.as_slice.result.now ≡ names_met table text = ap nows c.as_slice.ensures.value ∙ c.in_ok-met.ensures.names in
    let known = ap (find (λ (name : List ℕ). not (is_known table name))) (sym met) ∙ sym c.in_default.ensures in
    let circular = sym c.in_ok-met.ensures.circular
    ∙ (λ i. find (λ (name : List ℕ). list_any (λ other. bytes_eq name other.now) (sym c.as_slice-3.ensures.value i)) (nows (sym c.as_slice-2.ensures.value i)))
    ∙ sym c.in-Some-first_among.ensures in
    ap (unless_unknown table text) known ∙ ap (unless_circular table text) circular ∙ ap (λ (n : List ℕ). Err (refusals.Circular n)) (sym c.in_ok-name-2.ensures)
