use Rattle.std.proofs.Common.{◌≡◌, ℕ, List, length, map, unwrap_or, Option, refl, sym, ◌∙◌, ap, subst, arith}
use Rattle.std.specs.List.{insert, position, position_or_len}
use Rattle.gl_fields.specs.Fields.{comes_before}
use Rattle.gl_fields.specs.declared.set_rule.SetRule.{SetRule}
use Rattle.gl_indexset.specs.Inside.{kept_of}
use Rattle.gl_indexset.specs.Retention.{with_rule}
use Rattle.gl_indexset.specs.SetKept.{SetKept}
use Rattle.gl_indexset.specs.Kept.{Kept, StandsFor, is_known, rules_of}
use Rattle.gl_indexset.proofs.Adding.{added_sound, added_stands, after, place_is, rules_insert}
use Rattle.gl_indexset.proofs.sets.IndexSets.add_set.Goals as goal

pub invariant_of-self-2 : goal.invariant_of-self-2
invariant_of-self-2 c = added_sound (kept_of c.self.inside) (record { sets = c.insert.new.self.items; rows = c.self.inside.rows.rows; next = c.self.inside.next; room = c.self.inside.rows.spare }) c.new.result c.unwrap_or-at.result c.self.invariant c.new.ensures.number c.new.ensures.newest c.new.ensures.closed c.in_ok-insert.ensures.items refl refl

pub returns-clause-stands : goal.returns-clause-stands
returns-clause-stands c = λ all stands. added_stands (kept_of c.self.inside) (record { sets = c.insert.new.self.items; rows = c.self.inside.rows.rows; next = c.self.inside.next; room = c.self.inside.rows.spare }) c.new.result c.unwrap_or-at.result c.self.invariant c.new.ensures.number c.new.ensures.newest c.new.ensures.closed c.in_ok-insert.ensures.items refl refl
    (ap (λ (r : SetRule). is_known (rules_of (kept_of c.self.inside)) r.name) c.new.ensures.rule ∙ ap (λ (v : Kept). is_known (rules_of v) c.args.rule.name) c.self.view_is ∙ c.requires)
    all (subst (λ (v : Kept). StandsFor v all) (sym c.self.view_is) stands)

pub returns-clause-ok : goal.returns-clause-ok
returns-clause-ok c =
    let sets = c.self.inside.sets.items in
    let at : c.unwrap_or-at.result ≡ position_or_len (after c.new.result.rule) sets
    = c.unwrap_or-at.ensures
    ∙ ap (λ (o : Option ℕ). unwrap_or o c.len.result) c.first_after-after.ensures
    ∙ ap (λ (n : List ℕ). unwrap_or (position (λ (s : SetKept). comes_before n s.rule.name) c.as_slice.result.now) c.len.result) c.as_str.ensures
    ∙ ap (λ (l : List SetKept). unwrap_or (position (after c.args.rule) l) c.len.result) c.as_slice.ensures.value
    ∙ ap (λ n. unwrap_or (position (after c.args.rule) sets) n) long
    ∙ place_is (after c.args.rule) sets
    ∙ ap (λ (r : SetRule). position_or_len (after r) sets) (sym c.new.ensures.rule) in
    ap (λ (l : List SetKept). map (λ (s : SetKept). s.rule) l) (c.in_ok-insert.ensures.items ∙ ap (λ n. insert sets n c.new.result) at)
    ∙ rules_insert c.new.result sets
    ∙ ap (λ (r : SetRule). with_rule r (map (λ (s : SetKept). s.rule) sets)) c.new.ensures.rule
    ∙ ap (λ (v : Kept). with_rule c.args.rule (rules_of v)) c.self.view_is
  where
    long : c.len.result ≡ length c.self.inside.sets.items
    long = omega (arith, c.len.ensures, c.self.inside.sets.ok.0)
