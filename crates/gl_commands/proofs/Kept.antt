-- A kept text and its command.
use Rattle.std.specs.Prelude.{◌≡◌, ◌<◌, ◌≤◌, ℕ, true, false, List, length, nat_lt, Option, Some, None, option_and_then, IsUtf8}
use Rattle.std.specs.Str.{bytes_eq, is_utf8}
use Rattle.std.proofs.Common.{refl, sym, ap, ◌∙◌, arith, subst}
use Rattle.std.proofs.lemmas.Bool.{le-ltb, lt-ltb, ltb-false}
use Rattle.std.proofs.lemmas.Slice.Eq.{bytes_eq-Decides}
use Rattle.std.proofs.lemmas.Str.{is_utf8-from_IsUtf8, IsUtf8-from_is_utf8}
use Rattle.serde_json.specs.Data.{Data}
use Rattle.serde_json.specs.Read.{read, max_depth}
use Rattle.gl_commands.specs.declared.command.Command.{Command}
use Rattle.gl_commands.specs.Texts.{command_data, command_bytes, IsCommand}
use Rattle.gl_commands.specs.CommandReading.{keys_in, command_of, command_in, unless_long, unless_other}
use Rattle.gl_commands.proofs.Back.{keys_back}
use Rattle.gl_commands.proofs.Numbered.{keys_have_numbers}
use Rattle.gl_commands.proofs.Options.{of_some, of_one, of_test, of_refusal, none_unless}
use Rattle.gl_commands.proofs.ReadsBack.{read-compact_text}
use Rattle.gl_commands.proofs.Tidy.{command_tidy}
use Rattle.gl_commands.proofs.Utf8Back.{texts_back}
use Rattle.gl_commands.proofs.Utf8Texts.{IsUtf8-compact_text}

-- what a text that keeps a command has
pub record Keeps (text : List ℕ) (command : Command) : Type 0 where
  pub value : Data
  pub utf8 : IsUtf8 text
  pub is : read text ≡ Some value
  pub keys : keys_in value ≡ Some command
  pub few : length (command_bytes command) ≤ 4194299
  pub same : text ≡ command_bytes command

-- what a value that is a command has
abbrev HasFew : Data → Command → Type 0
HasFew d command = (keys_in d ≡ Some command) × (length (command_bytes command) ≤ 4194299)

-- what a value that is a command has
of_value : (d : Data) (command : Command) → command_of d ≡ Some command → HasFew d command
unfolding command_of
of_value d command e = of_one (HasFew d) (keys_in d) unless_long command e (λ found is short.
    let p = of_refusal (nat_lt 4194299 (length (command_bytes found))) (Some found) command short in
    of_some (HasFew d) found command p.1 (is, ltb-false 4194299 (length (command_bytes found)) p.0))

pub value_is : (d : Data) (command : Command) → keys_in d ≡ Some command → length (command_bytes command) ≤ 4194299 → command_of d ≡ Some command
unfolding command_of
value_is d command keys few = rw (keys, le-ltb 4194299 (length (command_bytes command)) few) refl

pub long_is_none : (d : Data) (command : Command) → keys_in d ≡ Some command → 4194299 < length (command_bytes command) → command_of d ≡ None
unfolding command_of
long_is_none d command keys long = rw (keys, lt-ltb 4194299 (length (command_bytes command)) long) refl

pub no_keys_are_none : (d : Data) → keys_in d ≡ None → command_of d ≡ None
unfolding command_of
no_keys_are_none d none = rw none refl

of_text : (text : List ℕ) (command : Command) → command_in text ≡ Some command → Keeps text command
unfolding command_in
of_text text command e =
    let utf8 = of_test (is_utf8 text) (option_and_then (λ d. option_and_then (unless_other text) (command_of d)) (read text)) command e in
    of_one (Keeps text) (read text) (λ d. option_and_then (unless_other text) (command_of d)) command utf8.1 (λ d is rest.
    of_one (Keeps text) (command_of d) (unless_other text) command rest (λ found value other.
    let same = of_test (bytes_eq text (command_bytes found)) (Some found) command other in
    let of = of_value d found value in
    of_some (Keeps text) found command same.1 (record {
      value = d;
      utf8 = IsUtf8-from_is_utf8 text utf8.0;
      is = is;
      keys = of.0;
      few = of.1;
      same = (bytes_eq-Decides text (command_bytes found)).0 same.0;
    })))

pub text_is : (text : List ℕ) (d : Data) (command : Command) → IsUtf8 text → read text ≡ Some d → keys_in d ≡ Some command → length text ≤ 4194299 → text ≡ command_bytes command → command_in text ≡ Some command
unfolding command_in
text_is text d command utf8 is keys few same =
    rw (is_utf8-from_IsUtf8 text utf8, is, value_is d command keys (subst (λ bytes. length bytes ≤ 4194299) same few), (bytes_eq-Decides text (command_bytes command)).1 same) refl

pub lawful : (d : Data) (command : Command) → keys_in d ≡ Some command → IsUtf8 (command_bytes command) → length (command_bytes command) ≤ 4194299 → IsCommand command
lawful d command keys utf8 few = record { numbers = keys_have_numbers d command keys; texts = texts_back (command_data command) utf8; few = few }

pub of_kept : (text : List ℕ) (command : Command) → command_in text ≡ Some command → (text ≡ command_bytes command) × IsCommand command
of_kept text command e =
    let kept = of_text text command e in
    (kept.same, lawful kept.value command kept.keys (subst IsUtf8 kept.same kept.utf8) kept.few)

-- a kept command's own text

shallow : (n : ℕ) → n ≤ 4 → n ≤ max_depth
shallow n h = omega (arith, h)

own : (command : Command) → IsCommand command → command_in (command_bytes command) ≡ Some command
own command h =
    let tidy = command_tidy command h.numbers in
    text_is (command_bytes command) (command_data command) command
    (IsUtf8-compact_text (command_data command) tidy.0 h.texts)
    (read-compact_text (command_data command) tidy.0 (shallow _ tidy.1))
    (keys_back command h.numbers)
    h.few
    refl

pub own_text : (text : List ℕ) (command : Command) → (text ≡ command_bytes command) × IsCommand command → command_in text ≡ Some command
own_text text command h = ap command_in h.0 ∙ own command h.1

-- texts that keep none

pub long_keeps_none : (text : List ℕ) → 4194299 < length text → command_in text ≡ None
long_keeps_none text long = none_unless (command_in text) (λ command e.
    let kept = of_text text command e in
    let same : length text ≡ length (command_bytes command) = ap length kept.same in
    omega (arith, long, same, kept.few))

pub unread_keeps_none : (text : List ℕ) → (IsUtf8 text → read text ≡ None) → command_in text ≡ None
unread_keeps_none text none = none_unless (command_in text) (λ command e.
    let kept = of_text text command e in
    let no : read text ≡ None = none kept.utf8 in
    let some : read text ≡ Some kept.value = kept.is in
    absurd cc)

pub other_keeps_none : (text : List ℕ) (d : Data) → read text ≡ Some d → ((command : Command) → keys_in d ≡ Some command → text ≡ command_bytes command → ⊥) → command_in text ≡ None
other_keeps_none text d is differs = none_unless (command_in text) (λ command e.
    let kept = of_text text command e in
    let there : read text ≡ Some kept.value = kept.is in
    let value : kept.value ≡ d = cc in
    differs command (ap keys_in (sym value) ∙ kept.keys) kept.same)
