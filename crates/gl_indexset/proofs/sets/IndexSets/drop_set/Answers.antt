use Rattle.std.proofs.Common.{◌≤◌, false, sym, refl, ◌∙◌, ap, subst, arith}
use Rattle.std.specs.List.{list_any}
use Rattle.std.proofs.lemmas.Slice.Eq.{bytes_eq-Decides}
use Rattle.gl_fields.specs.declared.set_rule.SetRule.{SetRule}
use Rattle.gl_indexset.specs.Retention.{with_rule}
use Rattle.gl_indexset.specs.Inside.{kept_of}
use Rattle.gl_indexset.specs.Kept.{Kept, StandsFor, is_known, rules_of, spare_of, without_unused}
use Rattle.gl_indexset.proofs.Dropping.{dropped_sound, dropped_stands, dropped_rules, dropped_spare, undone}
use Rattle.gl_indexset.proofs.sets.IndexSets.drop_set.Goals as goal

pub invariant_of-self : goal.invariant_of-self
invariant_of-self c = dropped_sound (kept_of c.self.inside) (record { sets = c.drop_unused.new.sets.items; rows = c.self.inside.rows.rows; next = c.self.inside.next; room = c.self.inside.rows.spare }) c.args.name.now c.self.invariant c.drop_unused.ensures refl refl

pub returns-clause-stands : goal.returns-clause-stands
returns-clause-stands c = λ all stands. dropped_stands (kept_of c.self.inside) (record { sets = c.drop_unused.new.sets.items; rows = c.self.inside.rows.rows; next = c.self.inside.next; room = c.self.inside.rows.spare }) c.args.name.now c.self.invariant c.drop_unused.ensures refl refl
    all (subst (λ (v : Kept). StandsFor v all) (sym c.self.view_is) stands)

pub returns-clause-rules : goal.returns-clause-rules
returns-clause-rules c = λ all stands. dropped_rules (kept_of c.self.inside) (record { sets = c.drop_unused.new.sets.items; rows = c.self.inside.rows.rows; next = c.self.inside.next; room = c.self.inside.rows.spare }) c.args.name.now c.self.invariant c.drop_unused.ensures refl refl
    all (subst (λ (v : Kept). StandsFor v all) (sym c.self.view_is) stands)
    ∙ ap (λ (v : Kept). without_unused c.args.name.now all (rules_of v)) c.self.view_is

pub returns-clause-undone : goal.returns-clause-undone
returns-clause-undone c = λ rule rules all stands were name unknown unused.
    dropped_rules (kept_of c.self.inside) (record { sets = c.drop_unused.new.sets.items; rows = c.self.inside.rows.rows; next = c.self.inside.next; room = c.self.inside.rows.spare }) c.args.name.now c.self.invariant c.drop_unused.ensures refl refl
    all (subst (λ (v : Kept). StandsFor v all) (sym c.self.view_is) stands)
    ∙ ap (λ (v : Kept). without_unused c.args.name.now all (rules_of v)) c.self.view_is
    ∙ ap (λ l. without_unused c.args.name.now all l) were
    ∙ ap (λ n. without_unused n all (with_rule rule rules)) (sym name)
    ∙ undone all rule ((bytes_eq-Decides rule.name rule.name).1 refl) unused rules (ap (λ n. is_known rules n) name ∙ unknown)

pub returns-clause-spare : goal.returns-clause-spare
returns-clause-spare c = subst (λ (v : Kept). spare_of v ≤ spare_of (record { sets = c.drop_unused.new.sets.items; rows = c.self.inside.rows.rows; next = c.self.inside.next; room = c.self.inside.rows.spare })) c.self.view_is
    (dropped_spare (kept_of c.self.inside) (record { sets = c.drop_unused.new.sets.items; rows = c.self.inside.rows.rows; next = c.self.inside.next; room = c.self.inside.rows.spare }) c.args.name.now c.self.invariant c.drop_unused.ensures refl refl refl)
