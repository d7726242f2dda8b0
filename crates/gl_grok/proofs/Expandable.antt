-- What holds of a text once no name that it meets is refused.
use Rattle.std.proofs.Common.{◌≡◌, ⊎_elim, ℕ, Bool, true, false, List, [], ◌∷◌, find, Some, None, sym, subst, ◌∙◌}
use Rattle.std.specs.Prelude.{not}
use Rattle.std.proofs.lemmas.Bool.{cases_Bool, cond-true, cond-false, not-false}
use Rattle.gl_grok.specs.Names.{contains, names_met, reaches_itself}
use Rattle.gl_grok.specs.Tables.{Table, is_known}
use Rattle.gl_grok.specs.Unwinding.{IsExpandable}
use Rattle.gl_grok.proofs.Meeting.{reached_is_met}
use Rattle.gl_grok.proofs.Rooms.{Names, has-first}

pub none-passes : (p : List ℕ → Bool) (names : Names) → find p names ≡ None → (q : List ℕ) → contains names q ≡ true → p q ≡ false
none-passes p [] e q h = absurd cc
none-passes p (x ∷ names) e q h = ⊎_elim
    (λ t. let found : Some x ≡ None = sym (cond-true (p x) (Some x) (find p names) t) ∙ e in absurd cc)
    (λ t.
    let others : find p names ≡ None = sym (cond-false (p x) (Some x) (find p names) t) ∙ e in
    ⊎_elim (λ same. subst (λ (n : List ℕ). p n ≡ false) (sym same) t) (λ l. none-passes p names others q l) (has-first x names q h))
    (cases_Bool (p x))

pub expandable : (table : Table) (text : List ℕ) → find (λ name. not (is_known table name)) (names_met table text) ≡ None → find (reaches_itself table) (names_met table text) ≡ None → IsExpandable table text
expandable table text known ends name r =
    let is_met = reached_is_met table text r in
    (not-false (is_known table name) (none-passes (λ (n : List ℕ). not (is_known table n)) (names_met table text) known name is_met), none-passes (reaches_itself table) (names_met table text) ends name is_met)
