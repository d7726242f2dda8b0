-- The refusals of lower crates as those of a command; want of memory stays what it is.
use Rattle.gl_rulelang.specs.declared.refusal.TextRefusal.{TextRefusal}
use Rattle.gl_rulelang.specs.declared.refusal.TextRefusal.TheVariants as texts
use Rattle.gl_check.specs.declared.refusal.CheckRefusal.{CheckRefusal}
use Rattle.gl_check.specs.declared.refusal.CheckRefusal.TheVariants as rules
use Rattle.gl_grok.specs.declared.refusal.GrokRefusal.{GrokRefusal}
use Rattle.gl_grok.specs.declared.refusal.GrokRefusal.TheVariants as patterns
use Rattle.gl_lookup.specs.declared.refusal.LookupRefusal.{LookupRefusal}
use Rattle.gl_lookup.specs.declared.refusal.LookupRefusal.TheVariants as tables
use Rattle.gl_settings.specs.declared.refusal.Text.TheVariants.{Rule, Check, Grok, Csv}
use Rattle.gl_settings.specs.declared.refusal.ConfigRefusal.{ConfigRefusal}
use Rattle.gl_settings.specs.declared.refusal.ConfigRefusal.TheVariants.{BadText, OutOfMemory}

abbrev pub refused_text : TextRefusal → ConfigRefusal
refused_text texts.OutOfMemory = OutOfMemory
refused_text (texts.BadToken at) = BadText (Rule (texts.BadToken at))
refused_text (texts.Unexpected at) = BadText (Rule (texts.Unexpected at))
refused_text texts.TooDeep = BadText (Rule texts.TooDeep)

abbrev pub refused_rule : CheckRefusal → ConfigRefusal
refused_rule rules.OutOfMemory = OutOfMemory
refused_rule (rules.UnknownFunction at) = BadText (Check (rules.UnknownFunction at))
refused_rule (rules.BadArguments at) = BadText (Check (rules.BadArguments at))
refused_rule (rules.WrongType at) = BadText (Check (rules.WrongType at))
refused_rule (rules.UnknownVariable at) = BadText (Check (rules.UnknownVariable at))

abbrev pub refused_table : LookupRefusal → ConfigRefusal
refused_table tables.OutOfMemory = OutOfMemory
refused_table (tables.BadCsv row) = BadText (Csv (tables.BadCsv row))
refused_table tables.NoColumn = BadText (Csv tables.NoColumn)
refused_table tables.TooManyRows = BadText (Csv tables.TooManyRows)

abbrev pub refused_pattern : GrokRefusal → ConfigRefusal
refused_pattern patterns.OutOfMemory = OutOfMemory
refused_pattern (patterns.UnknownPattern name) = BadText (Grok (patterns.UnknownPattern name))
refused_pattern (patterns.Circular name) = BadText (Grok (patterns.Circular name))
refused_pattern patterns.TooLong = BadText (Grok patterns.TooLong)
