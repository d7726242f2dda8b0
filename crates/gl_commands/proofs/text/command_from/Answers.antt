use Rattle.std.proofs.Common.{rules, ◌≡◌, ◌<◌, ◌≤◌, ◌∙◌, sym, subst, length, None, Some, IsUtf8}
use Rattle.serde_json.specs.View.{view}
use Rattle.gl_commands.specs.Texts.{command_bytes}
use Rattle.gl_commands.specs.CommandReading.{keys_in}
use Rattle.gl_commands.proofs.Kept.{value_is, long_is_none, no_keys_are_none, lawful}
use Rattle.gl_commands.proofs.text.command_from.Goals as goal

pub returns-in_default-clause-value : goal.returns-in_default-clause-value
returns-in_default-clause-value c =
    let none : keys_in (view c.args.value.now) ≡ None = sym c.in_ok-command.ensures ∙ c.in_default.is in
    sym (no_keys_are_none (view c.args.value.now) none)

pub returns-then-len-gt-MAX_BYTES-clause-value : goal.returns-then-len-gt-MAX_BYTES-clause-value
returns-then-len-gt-MAX_BYTES-clause-value c =
    let keys : keys_in (view c.args.value.now) ≡ Some c.in-Some.command = sym c.in_ok-command.ensures ∙ c.in-Some.is in
    let long : 4194299 < length c.in_ok-text.text.items = search rules in
    sym (long_is_none (view c.args.value.now) c.in-Some.command keys (subst (λ bytes. 4194299 < length bytes) c.in_ok-text.ensures.text long))

pub returns-clause-value : goal.returns-clause-value
returns-clause-value c =
    let keys : keys_in (view c.args.value.now) ≡ Some c.in-Some.command = sym c.in_ok-command.ensures ∙ c.in-Some.is in
    let few : length c.in_ok-text.text.items ≤ 4194299 = search rules in
    sym (value_is (view c.args.value.now) c.in-Some.command keys (subst (λ bytes. length bytes ≤ 4194299) c.in_ok-text.ensures.text few))

pub returns-clause-lawful : goal.returns-clause-lawful
returns-clause-lawful c =
    let keys : keys_in (view c.args.value.now) ≡ Some c.in-Some.command = sym c.in_ok-command.ensures ∙ c.in-Some.is in
    let few : length c.in_ok-text.text.items ≤ 4194299 = search rules in
    lawful (view c.args.value.now) c.in-Some.command keys
    (subst IsUtf8 c.in_ok-text.ensures.text c.in_ok-text.ensures.utf8)
    (subst (λ bytes. length bytes ≤ 4194299) c.in_ok-text.ensures.text few)
