use Rattle.std.proofs.Common.{option_map, ◌≡◌, List, [], ◌∷◌, ◌++◌, map, Err, codes, subst}
use Rattle.gl_fields.specs.declared.field.Field.{Field}
use Rattle.std.proofs.lemmas.Result.{err_from_is_err_and}
use Rattle.gl_json.specs.Views.{value_view}
use Rattle.gl_gelf.specs.Parts.{named_view}
use Rattle.gl_fields.specs.Putting.{text_field, IsPut}
use Rattle.gl_gelf.specs.Parts.{put_all}
use Rattle.gl_gelf.specs.Decoding.{named_fields, full_message}
use Rattle.gl_gelf.proofs.Setting.{sets_err, sets_ok, named_is}
use Rattle.gl_gelf.proofs.decode.put_named.Goals as goal

pub returns-in_err-put_values : goal.returns-in_err-put_values
returns-in_err-put_values c =
    let p = err_from_is_err_and c.from_residual-in_err-put_values.result c.from_residual-in_err-put_values.ensures.1 in
    let e : (text_field (codes "message") c.args.message ∷ text_field (codes "source") c.in_ok-source.source ∷ record { name = codes "timestamp"; value = c.in_ok-timestamp.timestamp } ∷ record { name = codes "level"; value = c.in_ok-level.level } ∷ []) ++ (full_message (option_map value_view c.value_named-full_message.result)) ≡ named_fields c.args.moment c.args.peer.now c.args.message (map named_view c.args.members.now) = (named_is c.args.moment c.args.peer.now c.args.message c.in_ok-source.source c.in_ok-timestamp.timestamp c.in_ok-level.level (map named_view c.args.members.now) (option_map value_view c.value_named-host.result) (option_map value_view c.value_named-seconds.result) (option_map value_view c.value_named-level_given.result) (option_map value_view c.value_named-full_message.result)
    c.value_named-host.ensures.value c.in_ok-source.ensures c.value_named-seconds.ensures.value c.in_ok-timestamp.ensures c.value_named-level_given.ensures.value c.in_ok-level.ensures c.value_named-full_message.ensures.value) in
    rw (p.1, p.2) (subst (λ (l : List Field). IsPut {X = Unit {0}} (put_all l c.args.fields.now) (Err c.in_err-put_values.field-0.0) c.put_values.new.fields) e (sets_err (text_field (codes "message") c.args.message ∷ text_field (codes "source") c.in_ok-source.source ∷ record { name = codes "timestamp"; value = c.in_ok-timestamp.timestamp } ∷ record { name = codes "level"; value = c.in_ok-level.level } ∷ []) (full_message (option_map value_view c.value_named-full_message.result)) c.args.fields.now c.put_values.new.fields c.put_values.new.fields c.in_err-put_values.field-0.0 c.in_err-put_values.ensures))

pub returns : goal.returns
returns c =
    let e : (text_field (codes "message") c.args.message ∷ text_field (codes "source") c.in_ok-source.source ∷ record { name = codes "timestamp"; value = c.in_ok-timestamp.timestamp } ∷ record { name = codes "level"; value = c.in_ok-level.level } ∷ []) ++ (full_message (option_map value_view c.value_named-full_message.result)) ≡ named_fields c.args.moment c.args.peer.now c.args.message (map named_view c.args.members.now) = (named_is c.args.moment c.args.peer.now c.args.message c.in_ok-source.source c.in_ok-timestamp.timestamp c.in_ok-level.level (map named_view c.args.members.now) (option_map value_view c.value_named-host.result) (option_map value_view c.value_named-seconds.result) (option_map value_view c.value_named-level_given.result) (option_map value_view c.value_named-full_message.result)
    c.value_named-host.ensures.value c.in_ok-source.ensures c.value_named-seconds.ensures.value c.in_ok-timestamp.ensures c.value_named-level_given.ensures.value c.in_ok-level.ensures c.value_named-full_message.ensures.value) in
    subst (λ (l : List Field). IsPut (put_all l c.args.fields.now) c.put_full_message.result c.put_full_message.new.fields) e (sets_ok (text_field (codes "message") c.args.message ∷ text_field (codes "source") c.in_ok-source.source ∷ record { name = codes "timestamp"; value = c.in_ok-timestamp.timestamp } ∷ record { name = codes "level"; value = c.in_ok-level.level } ∷ []) (full_message (option_map value_view c.value_named-full_message.result)) c.args.fields.now c.put_values.new.fields c.put_full_message.new.fields c.put_full_message.result c.in_ok-put_values.ensures c.put_full_message.ensures)
