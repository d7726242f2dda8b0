use Rattle.std.proofs.Common.{rules, ◌≡◌, ◌<◌, ◌≤◌, ◌∙◌, sym, ap, length, None, Some, arith}
use Rattle.serde_json.specs.View.{view}
use Rattle.gl_commands.specs.Texts.{command_bytes}
use Rattle.gl_commands.specs.CommandReading.{keys_in}
use Rattle.gl_commands.proofs.Kept.{text_is, of_kept, long_keeps_none, unread_keeps_none, other_keeps_none}
use Rattle.gl_commands.proofs.text.decode_command.Goals as goal

pub returns-then-bytes-gt-MAX_BYTES-clause-value : goal.returns-then-bytes-gt-MAX_BYTES-clause-value
returns-then-bytes-gt-MAX_BYTES-clause-value c =
    let long : 4194299 < length c.args.bytes.now = search rules in
    sym (long_keeps_none c.args.bytes.now long)

pub returns-in-Err-clause-value : goal.returns-in-Err-clause-value
returns-in-Err-clause-value c =
    let told = c.if-is_memory.ensures in
    sym (unread_keeps_none c.args.bytes.now (c.in-Err.ensures.err (λ memory. let is = told.1 memory in cc)))

pub returns-in_default-clause-value : goal.returns-in_default-clause-value
returns-in_default-clause-value c =
    let none : keys_in (view c.in-Ok.value) ≡ None = sym c.in_ok-command.ensures ∙ c.in_default.is in
    sym (other_keeps_none c.args.bytes.now (view c.in-Ok.value) c.in-Ok.ensures.ok.1 (λ command keys same. absurd cc))

pub returns-then-not-is_same-clause-value : goal.returns-then-not-is_same-clause-value
returns-then-not-is_same-clause-value c =
    let read : keys_in (view c.in-Ok.value) ≡ Some c.in-Some.command = sym c.in_ok-command.ensures ∙ c.in-Some.is in
    sym (other_keeps_none c.args.bytes.now (view c.in-Ok.value) c.in-Ok.ensures.ok.1 (λ command keys e.
    let same : c.in-Some.command ≡ command = cc in
    let text : c.as_slice.result.now ≡ c.args.bytes.now = c.as_slice.ensures.value ∙ c.in_ok-text.ensures.text ∙ ap command_bytes same ∙ sym e in
    grind (arith, text, c.is_same.ensures)))

pub returns-clause-value : goal.returns-clause-value
returns-clause-value c =
    let read : keys_in (view c.in-Ok.value) ≡ Some c.in-Some.command = sym c.in_ok-command.ensures ∙ c.in-Some.is in
    let few : length c.args.bytes.now ≤ 4194299 = search rules in
    let same : c.as_slice.result.now ≡ c.args.bytes.now = search rules in
    sym (text_is c.args.bytes.now (view c.in-Ok.value) c.in-Some.command c.in-Ok.ensures.ok.0 c.in-Ok.ensures.ok.1 read few (sym same ∙ c.as_slice.ensures.value ∙ c.in_ok-text.ensures.text))

pub returns-clause-lawful : goal.returns-clause-lawful
returns-clause-lawful c =
    let read : keys_in (view c.in-Ok.value) ≡ Some c.in-Some.command = sym c.in_ok-command.ensures ∙ c.in-Some.is in
    let few : length c.args.bytes.now ≤ 4194299 = search rules in
    let same : c.as_slice.result.now ≡ c.args.bytes.now = search rules in
    of_kept c.args.bytes.now c.in-Some.command
    (text_is c.args.bytes.now (view c.in-Ok.value) c.in-Some.command c.in-Ok.ensures.ok.0 c.in-Ok.ensures.ok.1 read few (sym same ∙ c.as_slice.ensures.value ∙ c.in_ok-text.ensures.text))
