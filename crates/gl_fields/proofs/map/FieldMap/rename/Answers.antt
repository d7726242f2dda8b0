use Rattle.std.proofs.Common.{◌≡◌, refl, ap, sym, ◌∙◌, true, false, subst, Option, Some, Ok, Err, Result, Bool, List, ℕ, get_or}
use Rattle.std.specs.Prelude.{MatchOption, MatchResult}
use Rattle.std.proofs.lemmas.Result.{err_from_is_err_and}
use Rattle.std.proofs.lemmas.Slice.Eq.{bytes_eq-Decides}
use Rattle.gl_fields.specs.declared.value.Value.{Value}
use Rattle.gl_fields.specs.declared.field.FieldRefusal.{FieldRefusal}
use Rattle.gl_fields.specs.declared.field.FieldRefusal.TheVariants.{Reserved, OutOfMemory}
use Rattle.gl_fields.specs.Fields.{value_of, without, renamed, settled, refusal_of}
use Rattle.gl_fields.proofs.Moving.{any_field, value_there, renamed-itself, renamed-none, settled-itself, settled-stays, settled-moves, settled-none, settles_refused, settles_done, tells}
use Rattle.gl_fields.proofs.map.FieldMap.rename.Goals as goal

pub returns-then-eq-clause-ok : goal.returns-then-eq-clause-ok
returns-then-eq-clause-ok c =
    let p = rw (c.as_slice.ensures.value, c.self.view_is) at c.in-Ok.ensures in
    let same : c.args.from.now ≡ c.args.to.now = (bytes_eq-Decides c.args.from.now c.args.to.now).0 (sym c.if-eq.ensures) in
    sym (ap (λ (to : List ℕ). renamed c.args.from.now to c.args.self.now) (sym same) ∙ renamed-itself c.args.from.now c.args.self.now c.in-Ok.at p.0 p.1)

pub returns-then-eq-clause-answer : goal.returns-then-eq-clause-answer
returns-then-eq-clause-answer c =
    let p = rw (c.as_slice.ensures.value, c.self.view_is) at c.in-Ok.ensures in
    tells (settled c.args.from.now c.args.to.now c.args.self.now) (true ≡ true) (Ok true) (Ok true)
    (settled-itself c.args.from.now c.args.self.now c.in-Ok.at p.0 p.1 c.args.to.now (sym c.if-eq.ensures)) refl

pub returns-then-stays-clause-answer : goal.returns-then-stays-clause-answer
returns-then-stays-clause-answer c =
    let p = rw (c.as_slice.ensures.value, c.self.view_is) at c.in-Ok.ensures in
    tells (settled c.args.from.now c.args.to.now c.args.self.now) (Reserved ≡ OutOfMemory) (Err Reserved) (Err Reserved)
    (settled-stays c.args.from.now c.args.self.now c.in-Ok.at p.0 p.1 c.args.to.now (sym c.if-eq.ensures) (sym c.if-stays.ensures)) refl

pub returns-in_err-size-in-Ok-clause-answer :
    goal.returns-in_err-size-in-Ok-clause-answer
returns-in_err-size-in-Ok-clause-answer c =
    let p = rw (c.as_slice.ensures.value, c.self.view_is) at c.in-Ok.ensures in
    let q = err_from_is_err_and c.from_residual.result c.from_residual.ensures.1 in
    let value : Value = (get_or c.args.self.now c.in-Ok.at any_field).value in
    let held : value_of c.args.from.now c.args.self.now ≡ Some value = value_there c.args.from.now c.args.self.now c.in-Ok.at p.0 p.1 any_field in
    let cause = rw c.self.view_is at (c.in_err-size-in-Ok.ensures.cause) in
    let moves = settled-moves c.args.from.now c.args.self.now c.in-Ok.at p.0 p.1 c.args.to.now value held (sym c.if-eq.ensures) (sym c.if-stays.ensures) in
    subst (λ (o : Option (Result Bool FieldRefusal)). MatchOption o (MatchResult c.from_residual.result (λ there. there ≡ true) (λ e. e ≡ OutOfMemory)) (λ answer. c.from_residual.result ≡ answer)) (sym moves)
    (settles_refused ℕ c.in_err-size-in-Ok.field-0.0 (refusal_of (record { name = c.args.to.now; value = value }) (without c.args.from.now c.args.self.now)) c.from_residual.result
    (q.1 ∙ ap (λ (e : FieldRefusal). Err e) q.2) (cause value held))

pub returns-in_ok-size-in-Ok-clause-answer : goal.returns-in_ok-size-in-Ok-clause-answer
returns-in_ok-size-in-Ok-clause-answer c =
    let p = rw (c.as_slice.ensures.value, c.self.view_is) at c.in-Ok.ensures in
    let value : Value = (get_or c.args.self.now c.in-Ok.at any_field).value in
    let held : value_of c.args.from.now c.args.self.now ≡ Some value = value_there c.args.from.now c.args.self.now c.in-Ok.at p.0 p.1 any_field in
    let cause = rw c.self.view_is at (c.in_ok-size-in-Ok.ensures.cause) in
    let moves = settled-moves c.args.from.now c.args.self.now c.in-Ok.at p.0 p.1 c.args.to.now value held (sym c.if-eq.ensures) (sym c.if-stays.ensures) in
    subst (λ (o : Option (Result Bool FieldRefusal)). MatchOption o (true ≡ true) (λ answer. Ok true ≡ answer)) (sym moves)
    (settles_done (refusal_of (record { name = c.args.to.now; value = value }) (without c.args.from.now c.args.self.now)) c.in_ok-size-in-Ok.size (cause value held))

pub returns-in-Err-clause-ok : goal.returns-in-Err-clause-ok
returns-in-Err-clause-ok c =
    let p = rw (c.as_slice.ensures.value, c.self.view_is) at c.in-Err.ensures in
    sym (renamed-none c.args.from.now c.args.self.now c.in-Err.field-0 p c.args.to.now)

pub returns-in-Err-clause-answer : goal.returns-in-Err-clause-answer
returns-in-Err-clause-answer c =
    let p = rw (c.as_slice.ensures.value, c.self.view_is) at c.in-Err.ensures in
    tells (settled c.args.from.now c.args.to.now c.args.self.now) (false ≡ true) (Ok false) (Ok false)
    (settled-none c.args.from.now c.args.self.now c.in-Err.field-0 p c.args.to.now) refl
