-- The bounds of a configuration, one behind another.
use Rattle.std.proofs.Common.{◌≡◌, ℕ, Option, Some, None, refl, ap, ◌∙◌}
use Rattle.std.specs.Option.{option_or}
use Rattle.gl_settings.specs.declared.refusal.ConfigRefusal.{ConfigRefusal}
use Rattle.gl_settings.specs.declared.refusal.ConfigRefusal.TheVariants.{VersionConflict, NameTaken, UnknownName, BadName, BadText, PatternRefused, Limit, Budget, OutOfMemory}
use Rattle.gl_settings.specs.Settings.{Settings}
use Rattle.gl_settings.specs.Patterns.{pattern_bytes}
use Rattle.gl_settings.specs.Limits.{counted, counted_last, first_passed, budget_refusal, limit_of, Refuses}

refuses_is : (cause : Option ConfigRefusal) (e : ConfigRefusal) → cause ≡ Some e → Refuses cause e
refuses_is cause (VersionConflict present) h = h
refuses_is cause NameTaken h = h
refuses_is cause UnknownName h = h
refuses_is cause BadName h = h
refuses_is cause (BadText text) h = h
refuses_is cause PatternRefused h = h
refuses_is cause (Limit which limit) h = h
refuses_is cause (Budget sum limit) h = h
refuses_is cause OutOfMemory h = tt

behind : (a b : Option ConfigRefusal) → a ≡ None → option_or a b ≡ b
behind a b none = ap (λ (o : Option ConfigRefusal). option_or o b) none

pub limited_first : (c : Settings) (e : ConfigRefusal) → first_passed (counted c) ≡ Some e → Refuses (limit_of c) e
limited_first c e h =
    refuses_is (limit_of c) e (ap (λ (o : Option ConfigRefusal). option_or o (option_or (first_passed (counted_last c)) (budget_refusal (pattern_bytes c)))) h)

within_first : (c : Settings) → first_passed (counted c) ≡ None → limit_of c ≡ option_or (first_passed (counted_last c)) (budget_refusal (pattern_bytes c))
within_first c none = behind (first_passed (counted c)) (option_or (first_passed (counted_last c)) (budget_refusal (pattern_bytes c))) none

pub limited_last : (c : Settings) (e : ConfigRefusal) → first_passed (counted c) ≡ None → first_passed (counted_last c) ≡ Some e → Refuses (limit_of c) e
limited_last c e none h =
    refuses_is (limit_of c) e (within_first c none ∙ ap (λ (o : Option ConfigRefusal). option_or o (budget_refusal (pattern_bytes c))) h)

within_last : (c : Settings) → first_passed (counted c) ≡ None → first_passed (counted_last c) ≡ None → limit_of c ≡ budget_refusal (pattern_bytes c)
within_last c none last = within_first c none ∙ behind (first_passed (counted_last c)) (budget_refusal (pattern_bytes c)) last

pub limited_budget : (c : Settings) (e : ConfigRefusal) → first_passed (counted c) ≡ None → first_passed (counted_last c) ≡ None → budget_refusal (pattern_bytes c) ≡ Some e → Refuses (limit_of c) e
limited_budget c e none last h = refuses_is (limit_of c) e (within_last c none last ∙ h)

pub unlimited : (c : Settings) → first_passed (counted c) ≡ None → first_passed (counted_last c) ≡ None → budget_refusal (pattern_bytes c) ≡ None → limit_of c ≡ None
unlimited c none last h = within_last c none last ∙ h
