-- The commands of a journal, and the configurations that they make.
use Rattle.std.proofs.Common.{◌≡◌, ℕ, zero, suc, ◌+◌, ◌<◌, ◌≤◌, cond, List, [], ◌∷◌, ◌++◌, length, take, get_or, Option, Some, None, Ok, refl, sym, ap, ◌∙◌, arith}
use Rattle.std.specs.Prelude.{unwrap_or, option_and_then, IsSome}
use Rattle.std.specs.List.{fold}
use Rattle.std.specs.Result.{result_ok}
use Rattle.std.specs.Option.{option_or}
use Rattle.std.proofs.lemmas.List.{take-append-le, take_more, take_all}
use Rattle.std.proofs.lemmas.List.Concat.{flat_map-append}
use Rattle.std.proofs.lemmas.List.Sums.{fold-append, sum_by-cons, sum_by-append}
use Rattle.gl_fields.specs.declared.entry.Entry.{Entry}
use Rattle.gl_fields.specs.declared.entry.Entry.TheVariants.{Admin, Message}
use Rattle.gl_fields.specs.Entries.{is_admin, version_after}
use Rattle.gl_commands.specs.declared.command.Command.{Command}
use Rattle.gl_commands.specs.CommandReading.{command_in}
use Rattle.gl_settings.specs.Settings.{Settings, initial_settings}
use Rattle.gl_config.specs.Next.{next_settings}
use Rattle.gl_settings.specs.Limits.{limit_of}
use Rattle.gl_config.specs.Applying.{applied, first_refusal, refused_by, Cause}
use Rattle.gl_history.specs.Versions.{commands_of, command_of_entry, accepted, after_command, config_at, config_after, AreAccepted}

-- a journal has as many commands as its version says

version_cons : (e : Entry) (js : List Entry) → version_after (e ∷ js) ≡ cond (is_admin e) 1 0 + version_after js
version_cons e js = sum_by-cons (λ (entry : Entry). cond (is_admin entry) 1 0) e js

pub version_append : (js more : List Entry) → version_after (js ++ more) ≡ version_after js + version_after more
version_append js more = sum_by-append (λ (entry : Entry). cond (is_admin entry) 1 0) js more

pub commands_counted : (js : List Entry) → length (commands_of js) ≡ version_after js
commands_counted [] = refl
commands_counted (Admin text ∷ js) = omega (arith, commands_counted js, version_cons (Admin text) js)
commands_counted (Message m ∷ js) = omega (arith, commands_counted js, version_cons (Message m) js)

-- versions stay

pub versions_stay : (journal more : List Entry) (version : ℕ) → version ≤ version_after journal → config_at (journal ++ more) version ≡ config_at journal version
unfolding config_at
versions_stay journal more version le =
    ap (fold after_command initial_settings)
    (ap (take version) (flat_map-append command_of_entry journal more)
    ∙ take-append-le version (commands_of journal) (commands_of more) (omega (arith, le, commands_counted journal)))

-- the next version

pub at_next : (journal : List Entry) (version : ℕ) → version < version_after journal
    → config_at journal (version + 1) ≡ after_command (config_at journal version) (get_or (commands_of journal) version [])
unfolding config_at
at_next journal version lt =
    ap (fold after_command initial_settings) (take_more (commands_of journal) version [] (omega (arith, lt, commands_counted journal)))
    ∙ fold-append after_command initial_settings (take version (commands_of journal)) (get_or (commands_of journal) version [] ∷ [])

made_is : (cause : Cause) (made next : Settings) → result_ok (refused_by cause made) ≡ Some next → next ≡ made
made_is None made next e = cc
made_is (Some refusal) made next e = absurd cc

applied_version : (c : Settings) (command : Command) (next : Settings) → result_ok (applied c command) ≡ Some next → next.version ≡ c.version + 1
unfolding applied next_settings
applied_version c command next e =
    ap (λ (n : Settings). n.version) (made_is (option_or (first_refusal c command) (limit_of (next_settings c command))) (next_settings c command) next e)

in_option : (c : Settings) (found : Option Command) (next : Settings) → option_and_then (λ command. result_ok (applied c command)) found ≡ Some next → next.version ≡ c.version + 1
in_option c None next e = absurd cc
in_option c (Some command) next e = applied_version c command next e

pub after_version : (c : Settings) (text : List ℕ) → IsSome (accepted c text) → (after_command c text).version ≡ c.version + 1
unfolding accepted
after_version c text some = by (accepted c text) refl some
  where
    by : (o : Option Settings) → accepted c text ≡ o → IsSome o → (unwrap_or o c).version ≡ c.version + 1
    by None is some = absurd cc
    by (Some next) is some = in_option c (command_in text) next is

version_counted : (journal : List Entry) → AreAccepted journal → (version : ℕ) → version ≤ version_after journal → (config_at journal version).version ≡ version
unfolding config_at
version_counted journal all zero le = refl
version_counted journal all (suc version) le =
    let one : suc version ≡ version + 1 = omega arith in
    let below : version < version_after journal = omega (arith, le) in
    ap (λ v. (config_at journal v).version) one
    ∙ ap (λ (c : Settings). c.version) (at_next journal version below)
    ∙ after_version (config_at journal version) (get_or (commands_of journal) version []) (all version below)
    ∙ ap (λ v. v + 1) (version_counted journal all version (omega (arith, below)))
    ∙ sym one

pub versions_counted : (journal : List Entry) (version : ℕ) → AreAccepted journal → version ≤ version_after journal → (config_at journal version).version ≡ version
versions_counted journal version all le = version_counted journal all version le

-- one entry more

config_whole : (journal : List Entry) → config_after journal ≡ fold after_command initial_settings (commands_of journal)
unfolding config_at
config_whole journal = ap (fold after_command initial_settings) (take_all (version_after journal) (commands_of journal) (omega (arith, commands_counted journal)))

pub config_more : (journal : List Entry) (text : List ℕ) → config_after (journal ++ Admin text ∷ []) ≡ after_command (config_after journal) text
config_more journal text =
    config_whole (journal ++ Admin text ∷ [])
    ∙ ap (fold after_command initial_settings) (flat_map-append command_of_entry journal (Admin text ∷ []))
    ∙ fold-append after_command initial_settings (commands_of journal) (text ∷ [])
    ∙ ap (λ (c : Settings). after_command c text) (sym (config_whole journal))

pub accepted_is : (c : Settings) (text : List ℕ) (command : Command) (next : Settings) → command_in text ≡ Some command → applied c command ≡ Ok next → after_command c text ≡ next
unfolding accepted
accepted_is c text command next is made = rw (is, made) refl
