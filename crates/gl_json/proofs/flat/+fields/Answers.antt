use Rattle.std.proofs.Common.{◌≡◌, ◌-◌, [], ◌∷◌, ◌++◌, map, sym, subst, ◌∙◌, rules}
use Rattle.std.specs.List.{All}
use Rattle.std.specs.String.{string_bytes}
use Rattle.gl_json.specs.Grammar.{IsObject, text, number, yes_, no_, array}
use Rattle.gl_json.specs.Flattening.{IsFormed, IsFormedPair, IsKept, kept_number, kept_true, kept_false, kept_array}
use Rattle.gl_json.specs.Views.{value_view, pair_view, field_view}
use Rattle.gl_json.proofs.Growing.{grows_none, grows_null, keeps, nests, grows_step}
use Rattle.gl_json.proofs.Formed.{object_some, object_opened, utf8_number, utf8_array}
use Rattle.gl_json.proofs.flat.+fields.Goals as goal

pub push_member-returns-in-Null : goal.push_member-returns-in-Null
push_member-returns-in-Null t c = rw c.in-Null.is (grows_null c.args.levels c.args.prefix.now c.args.raw.now (map field_view c.args.fields.now.items))

pub push_member-returns-in_ok-text_value-in-Text : goal.push_member-returns-in_ok-text_value-in-Text
push_member-returns-in_ok-text_value-in-Text t c =
    rw c.in-Text.is (keeps c.keep.result c.args.levels c.args.prefix.now c.args.raw.now (text c.in-Text.inside.now) c.in_ok-text_value-in-Text.field-0 (map field_view c.args.fields.now.items) (map field_view c.keep.new.fields.items) c.in_ok-text_value-in-Text.ensures c.keep.ensures)

pub push_member-returns-in_ok-number_value-in-Number : goal.push_member-returns-in_ok-number_value-in-Number
push_member-returns-in_ok-number_value-in-Number t c =
    rw c.in-Number.is (keeps c.keep-in-Number.result c.args.levels c.args.prefix.now c.args.raw.now (number c.in-Number.literal.now) c.in_ok-number_value-in-Number.field-0 (map field_view c.args.fields.now.items) (map field_view c.keep-in-Number.new.fields.items) (subst (IsKept (number c.in-Number.literal.now)) (sym c.in_ok-number_value-in-Number.ensures) (kept_number c.in-Number.literal.now)) c.keep-in-Number.ensures)

pub push_member-returns-in_ok-plain_value-in-True : goal.push_member-returns-in_ok-plain_value-in-True
push_member-returns-in_ok-plain_value-in-True t c =
    rw c.in-True.is (keeps c.keep-in-True.result c.args.levels c.args.prefix.now c.args.raw.now yes_ c.in_ok-plain_value-in-True.field-0 (map field_view c.args.fields.now.items) (map field_view c.keep-in-True.new.fields.items) (subst (IsKept yes_) (sym c.in_ok-plain_value-in-True.ensures) kept_true) c.keep-in-True.ensures)

pub push_member-returns-in_ok-plain_value-in-False : goal.push_member-returns-in_ok-plain_value-in-False
push_member-returns-in_ok-plain_value-in-False t c =
    rw c.in-False.is (keeps c.keep-in-False.result c.args.levels c.args.prefix.now c.args.raw.now no_ c.in_ok-plain_value-in-False.field-0 (map field_view c.args.fields.now.items) (map field_view c.keep-in-False.new.fields.items) (subst (IsKept no_) (sym c.in_ok-plain_value-in-False.ensures) kept_false) c.keep-in-False.ensures)

pub push_member-returns-in_ok-plain_value-in-Array : goal.push_member-returns-in_ok-plain_value-in-Array
push_member-returns-in_ok-plain_value-in-Array t c =
    rw c.in-Array.is (keeps c.keep-in-Array.result c.args.levels c.args.prefix.now c.args.raw.now (array c.in-Array.text.now) c.in_ok-plain_value-in-Array.field-0 (map field_view c.args.fields.now.items) (map field_view c.keep-in-Array.new.fields.items) (subst (IsKept (array c.in-Array.text.now)) (sym c.in_ok-plain_value-in-Array.ensures) (kept_array c.in-Array.text.now)) c.keep-in-Array.ensures)

pub push_members-loop-member-init : goal.push_members-loop-member-init
push_members-loop-member-init t c = grows_none c.args.levels c.args.prefix.now (map field_view c.args.fields.now.items)

pub push_members-loop-member-preserved : goal.push_members-loop-member-preserved
push_members-loop-member-preserved t c =
    grows_step c.args.levels c.args.prefix.now c.args.members.now c.loop-member.member-index _ (map field_view c.args.fields.now.items) (map field_view c.loop-member.fields.items) (map field_view c.push_member.new.fields.items)
    c.loop-member-test.true c.loop-member.invariant c.in_ok-push_member.ensures

pub push_object-returns : goal.push_object-returns
push_object-returns t c =
    let joined : c.as_str.result.now ≡ string_bytes c.in_ok-name.name ++ 95 ∷ [] = c.as_str.ensures.value ∙ c.in_ok-push_str.ensures.bytes in
    let same : c.as_slice.result.now ≡ c.in_ok-members.members.items = c.as_slice.ensures.value in
    let is : IsObject (c.args.levels - 1) c.args.text.now (map pair_view c.as_slice.result.now) = rw same c.in_ok-members.ensures.object in
    nests c.push_members.result c.args.levels c.args.prefix.now c.args.raw.now c.args.text.now (string_bytes c.in_ok-name.name) c.as_str.result.now (map pair_view c.as_slice.result.now)
    (map field_view c.args.fields.now.items) (map field_view c.push_members.new.fields.items) (object_some c.args.levels c.args.text.now c.requires.1.1.1) c.in_ok-name.ensures joined is c.push_members.ensures

pub push_member-number_value-requires : goal.push_member-number_value-requires
push_member-number_value-requires t c = utf8_number c.in-Number.literal.now (subst (λ v. IsFormed c.args.levels (value_view v)) c.in-Number.is c.requires.1.1.1)

pub push_member-plain_value-requires-in-Array : goal.push_member-plain_value-requires-in-Array
push_member-plain_value-requires-in-Array t c = utf8_array c.args.levels c.in-Array.text.now (subst (λ v. IsFormed c.args.levels (value_view v)) c.in-Array.is c.requires.1.1.1)

pub push_object-overflow_sub-levels : goal.push_object-overflow_sub-levels
push_object-overflow_sub-levels t c = object_some c.args.levels c.args.text.now c.requires.1.1.1

pub push_object-nested_members-requires : goal.push_object-nested_members-requires
push_object-nested_members-requires t c = object_opened c.args.levels c.args.text.now c.requires.1.1.1

pub push_object-overflow_sub-levels-2 : goal.push_object-overflow_sub-levels-2
push_object-overflow_sub-levels-2 t c = object_some c.args.levels c.args.text.now c.requires.1.1.1

pub push_object-push_members-requires : goal.push_object-push_members-requires
push_object-push_members-requires t c =
    let some = object_some c.args.levels c.args.text.now c.requires.1.1.1 in
    (search (rules, some), subst (All (λ m. IsFormedPair (c.args.levels - 1) (pair_view m))) (sym c.as_slice.ensures.value) c.in_ok-members.ensures.formed)
