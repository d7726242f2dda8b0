use Rattle.std.proofs.Common.{◌≡◌, List, get_or, Some, None, sym, ap, ◌∙◌}
use Rattle.std.proofs.lemmas.Result.{IfOk-weaker}
use Rattle.gl_decoding.specs.Decoding.{decoded}
use Rattle.gl_settings.specs.declared.input.Input.{Input}
use Rattle.gl_outcome.proofs.Meeting.{place_is, input_at, input_taken, input_is_there, undecodable_under, processed_under}
use Rattle.gl_outcome.proofs.staging.stage.Goals as goal

pub unreachable-requires : goal.unreachable-requires
unreachable-requires c =
    let parts = c.args.built.now.parts in
    let m = c.args.message.now in
    input_is_there parts m.input
    (place_is m.input c.as_str.result.now parts.inputs c.inputs.result.now c.place_of.result None c.as_str.ensures c.inputs.ensures c.place_of.ensures c.in_default.is)
    c.requires.message.input

pub returns-in-Ok-clause-value : goal.returns-in-Ok-clause-value
returns-in-Ok-clause-value c =
    let parts = c.args.built.now.parts in
    let m = c.args.message.now in
    let input = c.index-inputs-place.result in
    let place =
    place_is m.input c.as_str.result.now parts.inputs c.inputs.result.now c.place_of.result (Some c.in-Some.place) c.as_str.ensures c.inputs.ensures c.place_of.ensures c.in-Some.is in
    let there : input ≡ get_or parts.inputs c.in-Some.place input = c.index-inputs-place.is ∙ ap (λ (inputs : List Input). get_or inputs c.in-Some.place input) c.inputs-2.ensures in
    IfOk-weaker c.process.result _ _
    (λ o h. processed_under parts m input (input_at parts m.input c.in-Some.place input place there) c.in-Ok.fields o (sym c.in-Ok.is ∙ c.in_ok-fields.ensures ∙ ap (λ (other : Input). decoded other.kind m) (sym c.index-inputs-place.is))
    (h input (input_taken parts m.input c.in-Some.place input place there))) c.process.ensures.value

pub returns-in-Err-clause-value : goal.returns-in-Err-clause-value
returns-in-Err-clause-value c =
    let parts = c.args.built.now.parts in
    let m = c.args.message.now in
    let input = c.index-inputs-place.result in
    let place =
    place_is m.input c.as_str.result.now parts.inputs c.inputs.result.now c.place_of.result (Some c.in-Some.place) c.as_str.ensures c.inputs.ensures c.place_of.ensures c.in-Some.is in
    let there : input ≡ get_or parts.inputs c.in-Some.place input = c.index-inputs-place.is ∙ ap (λ (inputs : List Input). get_or inputs c.in-Some.place input) c.inputs-2.ensures in
    undecodable_under parts m input (input_at parts m.input c.in-Some.place input place there) c.in-Err.cause (sym c.in-Err.is ∙ c.in_ok-fields.ensures ∙ ap (λ (other : Input). decoded other.kind m) (sym c.index-inputs-place.is))
