use Rattle.std.proofs.Common.{◌≡◌, ◌∙◌, ◌++◌, ℕ, List, [], Ok, ap, map, sym, subst}
use Rattle.std.proofs.lemmas.Result.{err_from_is_err_and}
use Rattle.std.specs.Prelude.{String}
use Rattle.std.specs.declared.alloc.Global.{Global}
use Rattle.std.specs.declared.vec.Vec.{Vec}
use Rattle.std.specs.List.{All}
use Rattle.gl_fields.specs.declared.value.Value.{Value as Field}
use Rattle.gl_json.specs.declared.value.Member.{Member}
use Rattle.gl_json.specs.Flattening.{IsFormedPair, AreFlat}
use Rattle.gl_json.specs.Views.{pair_view, field_view}
use Rattle.gl_json.proofs.Formed.{members_formed}
use Rattle.gl_json.proofs.Growing.{flat_same, refusal_same}
use Rattle.gl_json.proofs.flat.flatten.Goals as goal

pub returns-in_err-members-clause-only : goal.returns-in_err-members-clause-only
returns-in_err-members-clause-only c = λ ms is.
    let p = err_from_is_err_and c.from_residual.result c.from_residual.ensures.1 in
    let h = c.in_err-members.ensures.only ms is in
    rw (p.1, p.2) (refusal_same (λ (v : Vec (String Global × Field) Global). map field_view v.items) (λ (v : Vec Member Global). map pair_view v.items) c.in_err-members.field-0.0 (Ok ms) h)

pub push_members-requires : goal.push_members-requires
push_members-requires c =
    subst (All (λ m. IsFormedPair 63 (pair_view m))) (sym c.as_slice.ensures.value)
    (members_formed 63 c.in_ok-members.ensures.found.t c.in_ok-members.members.items c.in_ok-members.ensures.found.is)

pub returns-in-Ok-clause-only : goal.returns-in-Ok-clause-only
returns-in-Ok-clause-only c = λ ms is.
    let h = c.in-Ok.ensures in
    let all : map field_view c.push_members.new.fields.items ≡ h.0 = h.2 ∙ ap (λ (l : List (List ℕ × Field)). l ++ h.0) (ap (map field_view) c.new-fields.ensures.items) in
    let flat : AreFlat 63 [] (map pair_view c.in_ok-members.members.items) (map field_view c.push_members.new.fields.items) =
    subst (AreFlat 63 [] (map pair_view c.in_ok-members.members.items)) (sym all) (subst (λ (l : List Member). AreFlat 63 [] (map pair_view l) h.0) c.as_slice.ensures.value h.1) in
    flat_same c.args.text.now ms (map pair_view c.in_ok-members.members.items) (map field_view c.push_members.new.fields.items) c.in_ok-members.ensures.found flat is
