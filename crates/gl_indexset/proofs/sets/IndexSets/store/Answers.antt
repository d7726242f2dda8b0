use Rattle.std.proofs.Common.{◌+◌, ◌<◌, ◌≤◌, true, false, List, [], ◌∷◌, ◌++◌, filter, refl, sym, ◌∙◌, ap, subst, arith}
use Rattle.std.proofs.lemmas.List.{append-nil}
use Rattle.gl_indexset.specs.declared.row.Row.{Row}
use Rattle.gl_indexset.specs.Inside.{kept_of}
use Rattle.gl_indexset.specs.SetKept.{SetKept, is_held}
use Rattle.gl_indexset.specs.Shelved.{Shelved}
use Rattle.gl_indexset.specs.Kept.{Kept, StandsFor, AreKnown, rules_of, spare_of}
use Rattle.gl_indexset.specs.Leaving.{IsGoneOn}
use Rattle.gl_indexset.proofs.Coming.{gone_on_now}
use Rattle.gl_indexset.proofs.Storing.{least-le, ready, sound_now, rules_are, spare_now, stands_now}
use Rattle.gl_indexset.proofs.sets.IndexSets.store.Goals as goal

pub enter_all-requires-clause-ready : goal.enter_all-requires-clause-ready
enter_all-requires-clause-ready c = ready (kept_of c.self.inside) c.args.row c.self.invariant (subst (λ (v : Kept). v.next ≤ c.args.row.position) (sym c.self.view_is) c.requires.above) (subst (λ (v : Kept). 0 < spare_of v) (sym c.self.view_is) c.requires.spare)

pub push-requires : goal.push-requires
push-requires c =
    let some = subst (λ (v : Kept). 0 < spare_of v) (sym c.self.view_is) c.requires.spare in
    omega (arith, some, least-le c.self.inside.rows.spare c.self.inside.sets.items, c.enter_all.ensures.spare)

pub invariant_of-self : goal.invariant_of-self
invariant_of-self c = sound_now (kept_of c.self.inside) c.args.row c.self.invariant (subst (λ (v : Kept). v.next ≤ c.args.row.position) (sym c.self.view_is) c.requires.above) (record { sets = c.enter_all.new.sets.items; rows = c.push.new.self.rows; next = c.args.row.position + 1; room = c.push.new.self.spare }) c.enter_all.ensures.sets true (ap (λ (l : List SetKept). is_held l c.args.row) (sym c.as_slice.ensures.value) ∙ sym c.is_held.ensures ∙ c.if-is_held.true) (ap (λ (v : Shelved). v.rows) c.push.ensures ∙ ap (λ (l : List Row). l ++ c.args.row ∷ []) c.enter_all.ensures.rows) refl

pub invariant_of-self-else-is_held : goal.invariant_of-self-else-is_held
invariant_of-self-else-is_held c = sound_now (kept_of c.self.inside) c.args.row c.self.invariant (subst (λ (v : Kept). v.next ≤ c.args.row.position) (sym c.self.view_is) c.requires.above) (record { sets = c.enter_all.new.sets.items; rows = c.enter_all.new.rows.rows; next = c.args.row.position + 1; room = c.enter_all.new.rows.spare }) c.enter_all.ensures.sets false (ap (λ (l : List SetKept). is_held l c.args.row) (sym c.as_slice.ensures.value) ∙ sym c.is_held.ensures ∙ c.if-is_held.false) (c.enter_all.ensures.rows ∙ sym (append-nil (filter (is_held c.enter_all.new.sets.items) c.self.inside.rows.rows))) refl

pub returns-then-is_held-clause-stands : goal.returns-then-is_held-clause-stands
returns-then-is_held-clause-stands c = λ all stands.
    stands_now (kept_of c.self.inside) c.args.row c.self.invariant (subst (λ (v : Kept). v.next ≤ c.args.row.position) (sym c.self.view_is) c.requires.above) (record { sets = c.enter_all.new.sets.items; rows = c.push.new.self.rows; next = c.args.row.position + 1; room = c.push.new.self.spare }) c.enter_all.ensures.sets true (ap (λ (l : List SetKept). is_held l c.args.row) (sym c.as_slice.ensures.value) ∙ sym c.is_held.ensures ∙ c.if-is_held.true) (ap (λ (v : Shelved). v.rows) c.push.ensures ∙ ap (λ (l : List Row). l ++ c.args.row ∷ []) c.enter_all.ensures.rows) refl
    (subst (λ (v : Kept). AreKnown (rules_of v) c.args.row.sets) (sym c.self.view_is) c.requires.known) all (subst (λ (v : Kept). StandsFor v all) (sym c.self.view_is) stands)

pub returns-then-is_held-clause-rules : goal.returns-then-is_held-clause-rules
returns-then-is_held-clause-rules c = rules_are (kept_of c.self.inside) c.args.row c.self.invariant (subst (λ (v : Kept). v.next ≤ c.args.row.position) (sym c.self.view_is) c.requires.above) (record { sets = c.enter_all.new.sets.items; rows = c.push.new.self.rows; next = c.args.row.position + 1; room = c.push.new.self.spare }) c.enter_all.ensures.sets true (ap (λ (l : List SetKept). is_held l c.args.row) (sym c.as_slice.ensures.value) ∙ sym c.is_held.ensures ∙ c.if-is_held.true) (ap (λ (v : Shelved). v.rows) c.push.ensures ∙ ap (λ (l : List Row). l ++ c.args.row ∷ []) c.enter_all.ensures.rows) refl ∙ ap (λ (v : Kept). rules_of v) c.self.view_is

pub returns-then-is_held-clause-spare : goal.returns-then-is_held-clause-spare
returns-then-is_held-clause-spare c = subst (λ (v : Kept). spare_of v ≤ spare_of (record { sets = c.enter_all.new.sets.items; rows = c.push.new.self.rows; next = c.args.row.position + 1; room = c.push.new.self.spare }) + 1) c.self.view_is
    (spare_now (kept_of c.self.inside) c.args.row c.self.invariant (subst (λ (v : Kept). v.next ≤ c.args.row.position) (sym c.self.view_is) c.requires.above) (record { sets = c.enter_all.new.sets.items; rows = c.push.new.self.rows; next = c.args.row.position + 1; room = c.push.new.self.spare }) c.enter_all.ensures.sets true (ap (λ (l : List SetKept). is_held l c.args.row) (sym c.as_slice.ensures.value) ∙ sym c.is_held.ensures ∙ c.if-is_held.true) (ap (λ (v : Shelved). v.rows) c.push.ensures ∙ ap (λ (l : List Row). l ++ c.args.row ∷ []) c.enter_all.ensures.rows) refl (omega (arith, ap (λ (v : Shelved). v.spare) c.push.ensures, c.enter_all.ensures.spare)))

pub returns-else-is_held-clause-stands : goal.returns-else-is_held-clause-stands
returns-else-is_held-clause-stands c = λ all stands.
    stands_now (kept_of c.self.inside) c.args.row c.self.invariant (subst (λ (v : Kept). v.next ≤ c.args.row.position) (sym c.self.view_is) c.requires.above) (record { sets = c.enter_all.new.sets.items; rows = c.enter_all.new.rows.rows; next = c.args.row.position + 1; room = c.enter_all.new.rows.spare }) c.enter_all.ensures.sets false (ap (λ (l : List SetKept). is_held l c.args.row) (sym c.as_slice.ensures.value) ∙ sym c.is_held.ensures ∙ c.if-is_held.false) (c.enter_all.ensures.rows ∙ sym (append-nil (filter (is_held c.enter_all.new.sets.items) c.self.inside.rows.rows))) refl
    (subst (λ (v : Kept). AreKnown (rules_of v) c.args.row.sets) (sym c.self.view_is) c.requires.known) all (subst (λ (v : Kept). StandsFor v all) (sym c.self.view_is) stands)

pub returns-else-is_held-clause-rules : goal.returns-else-is_held-clause-rules
returns-else-is_held-clause-rules c = rules_are (kept_of c.self.inside) c.args.row c.self.invariant (subst (λ (v : Kept). v.next ≤ c.args.row.position) (sym c.self.view_is) c.requires.above) (record { sets = c.enter_all.new.sets.items; rows = c.enter_all.new.rows.rows; next = c.args.row.position + 1; room = c.enter_all.new.rows.spare }) c.enter_all.ensures.sets false (ap (λ (l : List SetKept). is_held l c.args.row) (sym c.as_slice.ensures.value) ∙ sym c.is_held.ensures ∙ c.if-is_held.false) (c.enter_all.ensures.rows ∙ sym (append-nil (filter (is_held c.enter_all.new.sets.items) c.self.inside.rows.rows))) refl ∙ ap (λ (v : Kept). rules_of v) c.self.view_is

pub returns-else-is_held-clause-spare : goal.returns-else-is_held-clause-spare
returns-else-is_held-clause-spare c = subst (λ (v : Kept). spare_of v ≤ spare_of (record { sets = c.enter_all.new.sets.items; rows = c.enter_all.new.rows.rows; next = c.args.row.position + 1; room = c.enter_all.new.rows.spare }) + 1) c.self.view_is
    (spare_now (kept_of c.self.inside) c.args.row c.self.invariant (subst (λ (v : Kept). v.next ≤ c.args.row.position) (sym c.self.view_is) c.requires.above) (record { sets = c.enter_all.new.sets.items; rows = c.enter_all.new.rows.rows; next = c.args.row.position + 1; room = c.enter_all.new.rows.spare }) c.enter_all.ensures.sets false (ap (λ (l : List SetKept). is_held l c.args.row) (sym c.as_slice.ensures.value) ∙ sym c.is_held.ensures ∙ c.if-is_held.false) (c.enter_all.ensures.rows ∙ sym (append-nil (filter (is_held c.enter_all.new.sets.items) c.self.inside.rows.rows))) refl (omega (arith, c.enter_all.ensures.spare)))

pub returns-then-is_held-clause-rows : goal.returns-then-is_held-clause-rows
returns-then-is_held-clause-rows c = λ all stands.
    subst (λ (v : Kept). IsGoneOn (rules_of v) c.args.row v.rows c.push.new.self.rows) c.self.view_is
    (gone_on_now (kept_of c.self.inside) c.args.row c.self.invariant (subst (λ (v : Kept). v.next ≤ c.args.row.position) (sym c.self.view_is) c.requires.above) (record { sets = c.enter_all.new.sets.items; rows = c.push.new.self.rows; next = c.args.row.position + 1; room = c.push.new.self.spare }) c.enter_all.ensures.sets true (ap (λ (l : List SetKept). is_held l c.args.row) (sym c.as_slice.ensures.value) ∙ sym c.is_held.ensures ∙ c.if-is_held.true) (ap (λ (v : Shelved). v.rows) c.push.ensures ∙ ap (λ (l : List Row). l ++ c.args.row ∷ []) c.enter_all.ensures.rows) refl all (subst (λ (v : Kept). StandsFor v all) (sym c.self.view_is) stands))

pub returns-else-is_held-clause-rows : goal.returns-else-is_held-clause-rows
returns-else-is_held-clause-rows c = λ all stands.
    subst (λ (v : Kept). IsGoneOn (rules_of v) c.args.row v.rows c.enter_all.new.rows.rows) c.self.view_is
    (gone_on_now (kept_of c.self.inside) c.args.row c.self.invariant (subst (λ (v : Kept). v.next ≤ c.args.row.position) (sym c.self.view_is) c.requires.above) (record { sets = c.enter_all.new.sets.items; rows = c.enter_all.new.rows.rows; next = c.args.row.position + 1; room = c.enter_all.new.rows.spare }) c.enter_all.ensures.sets false (ap (λ (l : List SetKept). is_held l c.args.row) (sym c.as_slice.ensures.value) ∙ sym c.is_held.ensures ∙ c.if-is_held.false) (c.enter_all.ensures.rows ∙ sym (append-nil (filter (is_held c.enter_all.new.sets.items) c.self.inside.rows.rows))) refl all (subst (λ (v : Kept). StandsFor v all) (sym c.self.view_is) stands))
