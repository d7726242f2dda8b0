use Rattle.std.proofs.Common.{◌∙◌, map, ap}
use Rattle.std.specs.Prelude.{String}
use Rattle.std.specs.declared.alloc.Global.{Global}
use Rattle.std.specs.declared.vec.Vec.{Vec}
use Rattle.gl_fields.specs.declared.value.Value.{Value}
use Rattle.gl_json.specs.Views.{field_view}
use Rattle.gl_extract.specs.Objects.{object_fields}
use Rattle.gl_extract.specs.Views.{field_of_pair}
use Rattle.gl_extract.proofs.Flat.{object_is, none_given}
use Rattle.gl_extract.proofs.set_many.object_fields.Goals as goal

pub returns-in-Ok : goal.returns-in-Ok
returns-in-Ok c =
    let f = c.in-Ok.ensures.found in
    object_is
    (record { read = c.law_objects_are_read.ensures.read; is = c.law_objects_are_read.ensures.is; inside = c.law_nested_objects_are_read.ensures; says = c.law_strings_say.ensures.read })
    c.as_bytes.result.now f.0 c.in-Ok.pairs.items f.1 f.2 ∙ ap object_fields c.as_bytes.ensures.value

pub returns-in-Err-NotJson : goal.returns-in-Err-NotJson
returns-in-Err-NotJson c =
    ap (map field_of_pair) c.new.ensures.items
    ∙ none_given (λ (v : Vec (String Global × Value) Global). map field_view v.items) c.as_bytes.result.now c.in-Err-NotJson.field-0 (λ e. cc) c.in-Err-NotJson.ensures.place
    ∙ ap object_fields c.as_bytes.ensures.value

pub returns-in-Err-TooDeep : goal.returns-in-Err-TooDeep
returns-in-Err-TooDeep c =
    ap (map field_of_pair) c.new-in-Err-TooDeep.ensures.items
    ∙ none_given (λ (v : Vec (String Global × Value) Global). map field_view v.items) c.as_bytes.result.now c.in-Err-TooDeep.field-0 (λ e. cc) c.in-Err-TooDeep.ensures.place
    ∙ ap object_fields c.as_bytes.ensures.value
