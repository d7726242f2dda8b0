use Rattle.std.proofs.Common.{Some, ◌≡◌, [], map, Ok, Err, codes, sym, ap, ◌∙◌}
use Rattle.std.specs.List.{flat_map}
use Rattle.gl_fields.specs.Putting.{IsPut}
use Rattle.gl_gelf.specs.Members.{value_named}
use Rattle.std.proofs.lemmas.Result.{err_from_is_err_and}
use Rattle.gl_gelf.specs.Parts.{named_view}
use Rattle.gl_gelf.specs.Members.{counted}
use Rattle.gl_gelf.specs.Parts.{put_all}
use Rattle.gl_gelf.specs.Decoding.{named_fields, additional, short_message}
use Rattle.gl_gelf.proofs.Setting.{sets_err, sets_ok, fields_is, makes_err, set_ok}
use Rattle.gl_gelf.proofs.decode.fields_of.Goals as goal

pub returns-in_err-put_named : goal.returns-in_err-put_named
returns-in_err-put_named c =
    let p = err_from_is_err_and c.from_residual-in_err-put_named.result c.from_residual-in_err-put_named.ensures.1 in
    let some : short_message (value_named (codes "short_message") (map named_view c.args.members.now)) ≡ Some c.in-Some.message = (ap short_message (sym c.value_named-short.ensures.value) ∙ sym c.in_ok-message.ensures ∙ c.in-Some.is) in
    let h : IsPut {X = Unit {0}} (put_all (named_fields c.args.moment c.args.peer.now c.in-Some.message (map named_view c.args.members.now)) []) (Err c.in_err-put_named.field-0.0) c.put_named.new.fields = rw (← c.in_ok-fields.ensures) c.in_err-put_named.ensures in
    rw (p.1, p.2) (makes_err c.args.moment c.args.peer.now c.in-Some.message (map named_view c.args.members.now) c.put_named.new.fields c.in_err-put_named.field-0.0 some (sets_err (named_fields c.args.moment c.args.peer.now c.in-Some.message (map named_view c.args.members.now)) (flat_map additional (counted (map named_view c.args.members.now))) [] c.put_named.new.fields c.put_named.new.fields c.in_err-put_named.field-0.0 h))

pub returns-in_err-put_all_additional : goal.returns-in_err-put_all_additional
returns-in_err-put_all_additional c =
    let p = err_from_is_err_and c.from_residual-in_err-put_all_additional.result c.from_residual-in_err-put_all_additional.ensures.1 in
    let some : short_message (value_named (codes "short_message") (map named_view c.args.members.now)) ≡ Some c.in-Some.message = (ap short_message (sym c.value_named-short.ensures.value) ∙ sym c.in_ok-message.ensures ∙ c.in-Some.is) in
    let e : put_all (named_fields c.args.moment c.args.peer.now c.in-Some.message (map named_view c.args.members.now)) [] ≡ Ok c.put_named.new.fields = rw (← c.in_ok-fields.ensures) c.in_ok-put_named.ensures in
    rw (p.1, p.2)
    (makes_err c.args.moment c.args.peer.now c.in-Some.message (map named_view c.args.members.now) c.put_all_additional.new.fields c.in_err-put_all_additional.field-0.0 some
    (sets_ok (named_fields c.args.moment c.args.peer.now c.in-Some.message (map named_view c.args.members.now)) (flat_map additional (counted (map named_view c.args.members.now))) [] c.put_named.new.fields c.put_all_additional.new.fields (Err c.in_err-put_all_additional.field-0.0) e c.in_err-put_all_additional.ensures))

pub returns : goal.returns
returns c =
    let some : short_message (value_named (codes "short_message") (map named_view c.args.members.now)) ≡ Some c.in-Some.message = (ap short_message (sym c.value_named-short.ensures.value) ∙ sym c.in_ok-message.ensures ∙ c.in-Some.is) in
    let e : put_all (named_fields c.args.moment c.args.peer.now c.in-Some.message (map named_view c.args.members.now)) [] ≡ Ok c.put_named.new.fields = rw (← c.in_ok-fields.ensures) c.in_ok-put_named.ensures in
    fields_is c.args.moment c.args.peer.now c.in-Some.message (map named_view c.args.members.now) some ∙ set_ok (named_fields c.args.moment c.args.peer.now c.in-Some.message (map named_view c.args.members.now)) (flat_map additional (counted (map named_view c.args.members.now))) [] c.put_named.new.fields e ∙ c.in_ok-put_all_additional.ensures
