-- The refusals of lower crates tell a command's causes.
use Rattle.std.proofs.Common.{List, Result, Err, ap}
use Rattle.std.specs.Result.{result_err}
use Rattle.gl_rulelang.specs.declared.refusal.TextRefusal.{TextRefusal}
use Rattle.gl_rulelang.specs.declared.refusal.TextRefusal.TheVariants as texts
use Rattle.gl_rulelang.specs.Faults.{Fault, Fails}
use Rattle.gl_rulelang.specs.Tree.{RuleTree}
use Rattle.gl_check.specs.declared.refusal.CheckRefusal.{CheckRefusal}
use Rattle.gl_check.specs.declared.refusal.CheckRefusal.TheVariants as rules
use Rattle.gl_check.specs.Checking.{IsChecked}
use Rattle.gl_grok.specs.declared.expansion.Expanded.{Expanded}
use Rattle.gl_grok.specs.declared.refusal.GrokRefusal.{GrokRefusal}
use Rattle.gl_grok.specs.declared.refusal.GrokRefusal.TheVariants as patterns
use Rattle.gl_grok.specs.Answers as grok
use Rattle.gl_lookup.specs.declared.refusal.LookupRefusal.{LookupRefusal}
use Rattle.gl_lookup.specs.declared.refusal.LookupRefusal.TheVariants as tables
use Rattle.gl_lookup.specs.Tables as lookup
use Rattle.gl_settings.specs.declared.refusal.Text.TheVariants.{Check, Grok, Csv}
use Rattle.gl_settings.specs.Limits.{Refuses}
use Rattle.gl_config.specs.Applying.{lower, text_cause, check_cause}
use Rattle.gl_config.specs.Refusals.{refused_text, refused_rule, refused_pattern, refused_table}

pub text_told : {A : Type 0} (r : TextRefusal) (read : Result A Fault) → Fails r read → Refuses (text_cause read) (refused_text r)
text_told texts.OutOfMemory read h = tt
text_told (texts.BadToken at) read h = ap text_cause h
text_told (texts.Unexpected at) read h = ap text_cause h
text_told texts.TooDeep read h = ap text_cause h

pub rule_told : (r : CheckRefusal) (rule : RuleTree) → IsChecked rule (Err r) → Refuses (check_cause rule) (refused_rule r)
rule_told rules.OutOfMemory rule h = tt
rule_told (rules.UnknownFunction at) rule h = ap (lower Check) h
rule_told (rules.BadArguments at) rule h = ap (lower Check) h
rule_told (rules.WrongType at) rule h = ap (lower Check) h
rule_told (rules.UnknownVariable at) rule h = ap (lower Check) h

pub pattern_told : (r : GrokRefusal) (a : Result Expanded GrokRefusal) → grok.Answers (Err r) a → Refuses (lower Grok (result_err a)) (refused_pattern r)
pattern_told patterns.OutOfMemory a h = tt
pattern_told (patterns.UnknownPattern name) a h = ap (λ (x : Result Expanded GrokRefusal). lower Grok (result_err x)) h
pattern_told (patterns.Circular name) a h = ap (λ (x : Result Expanded GrokRefusal). lower Grok (result_err x)) h
pattern_told patterns.TooLong a h = ap (λ (x : Result Expanded GrokRefusal). lower Grok (result_err x)) h

pub table_told : {X : Type 0} (view : X → List lookup.Pair) (r : LookupRefusal) (t : Result (List lookup.Pair) LookupRefusal) → lookup.Answers view (Err r) t → Refuses (lower Csv (result_err t)) (refused_table r)
table_told view tables.OutOfMemory t h = tt
table_told view (tables.BadCsv row) t h = ap (λ (x : Result (List lookup.Pair) LookupRefusal). lower Csv (result_err x)) h
table_told view tables.NoColumn t h = ap (λ (x : Result (List lookup.Pair) LookupRefusal). lower Csv (result_err x)) h
table_told view tables.TooManyRows t h = ap (λ (x : Result (List lookup.Pair) LookupRefusal). lower Csv (result_err x)) h
