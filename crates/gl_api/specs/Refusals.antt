-- The replies to commands that are refused, each with what the refusal tells. A refusal inside another is told by its own name.
use Rattle.std.specs.Prelude.{ℕ, List, [], ◌∷◌, codes}
use Rattle.gl_http.specs.declared.reply.Reply.{Reply}
use Rattle.gl_rulelang.specs.declared.refusal.TextRefusal.{TextRefusal}
use Rattle.gl_rulelang.specs.declared.refusal.TextRefusal.TheVariants as texts
use Rattle.gl_check.specs.declared.refusal.CheckRefusal.{CheckRefusal}
use Rattle.gl_check.specs.declared.refusal.CheckRefusal.TheVariants as checks
use Rattle.gl_grok.specs.declared.refusal.GrokRefusal.{GrokRefusal}
use Rattle.gl_grok.specs.declared.refusal.GrokRefusal.TheVariants as groks
use Rattle.gl_lookup.specs.declared.refusal.LookupRefusal.{LookupRefusal}
use Rattle.gl_lookup.specs.declared.refusal.LookupRefusal.TheVariants as lookups
use Rattle.gl_extract.specs.declared.extractor.ExtractRefusal.{ExtractRefusal}
use Rattle.gl_extract.specs.declared.extractor.ExtractRefusal.TheVariants as extractors
use Rattle.gl_settings.specs.declared.refusal.Text.{Text}
use Rattle.gl_settings.specs.declared.refusal.Text.TheVariants.{Rule, Check, Grok, Csv, Extract, Number, Hash}
use Rattle.gl_settings.specs.declared.refusal.Bound.{Bound}
use Rattle.gl_settings.specs.declared.refusal.Bound.TheVariants as bounds
use Rattle.gl_settings.specs.declared.refusal.ConfigRefusal.{ConfigRefusal}
use Rattle.gl_settings.specs.declared.refusal.ConfigRefusal.TheVariants.{VersionConflict, NameTaken, UnknownName, BadName, BadText, PatternRefused, Limit, Budget, OutOfMemory}
use Rattle.gl_bodies.specs.Json.{text_at, count_at}
use Rattle.gl_bodies.specs.Replies.{reply, error, error_reply, place_reply, name_reply, count_reply, unknown_name_reply, out_of_memory_reply}

-- a text that is no rule, or no pipeline
abbrev pub rule_text_reply : TextRefusal → Reply
rule_text_reply (texts.BadToken at) = place_reply 422 (codes "BadToken") at
rule_text_reply (texts.Unexpected at) = place_reply 422 (codes "Unexpected") at
rule_text_reply texts.TooDeep = error_reply 422 (codes "TooDeep")
rule_text_reply texts.OutOfMemory = out_of_memory_reply

abbrev pub check_reply : CheckRefusal → Reply
check_reply (checks.UnknownFunction at) = place_reply 422 (codes "UnknownFunction") at
check_reply (checks.BadArguments at) = place_reply 422 (codes "BadArguments") at
check_reply (checks.WrongType at) = place_reply 422 (codes "WrongType") at
check_reply (checks.UnknownVariable at) = place_reply 422 (codes "UnknownVariable") at
check_reply checks.OutOfMemory = out_of_memory_reply

abbrev pub grok_reply : GrokRefusal → Reply
grok_reply (groks.UnknownPattern name) = name_reply 422 (codes "UnknownPattern") name
grok_reply (groks.Circular name) = name_reply 422 (codes "Circular") name
grok_reply groks.TooLong = error_reply 422 (codes "TooLong")
grok_reply groks.OutOfMemory = out_of_memory_reply

abbrev pub csv_reply : LookupRefusal → Reply
csv_reply (lookups.BadCsv row) = count_reply 422 (codes "BadCsv") (codes "row") row
csv_reply lookups.NoColumn = error_reply 422 (codes "NoColumn")
csv_reply lookups.TooManyRows = error_reply 422 (codes "TooManyRows")
csv_reply lookups.OutOfMemory = out_of_memory_reply

abbrev pub extract_reply : ExtractRefusal → Reply
extract_reply extractors.BadName = error_reply 422 (codes "BadName")
extract_reply extractors.CutNotAllowed = error_reply 422 (codes "CutNotAllowed")
extract_reply extractors.BadRange = error_reply 422 (codes "BadRange")

abbrev pub text_reply : Text → Reply
text_reply (Rule refusal) = rule_text_reply refusal
text_reply (Check refusal) = check_reply refusal
text_reply (Grok refusal) = grok_reply refusal
text_reply (Csv refusal) = csv_reply refusal
text_reply (Extract refusal) = extract_reply refusal
text_reply Number = error_reply 422 (codes "Number")
text_reply Hash = error_reply 422 (codes "Hash")

abbrev pub bound_name : Bound → List ℕ
bound_name bounds.Inputs = codes "Inputs"
bound_name bounds.IndexSets = codes "IndexSets"
bound_name bounds.Streams = codes "Streams"
bound_name bounds.StreamRules = codes "StreamRules"
bound_name bounds.Rules = codes "Rules"
bound_name bounds.Pipelines = codes "Pipelines"
bound_name bounds.Lookups = codes "Lookups"
bound_name bounds.Groks = codes "Groks"
bound_name bounds.Users = codes "Users"
bound_name bounds.Extractors = codes "Extractors"
bound_name bounds.Patterns = codes "Patterns"
bound_name bounds.Connected = codes "Connected"

abbrev pub limit_reply : Bound → (limit : ℕ) → Reply
limit_reply which limit =
    reply 422 (error (codes "Limit") ∷ count_at (codes "limit") limit ∷ text_at (codes "which") (bound_name which) ∷ [])

abbrev pub budget_reply : (sum : ℕ) → (limit : ℕ) → Reply
budget_reply sum limit =
    reply 422 (error (codes "Budget") ∷ count_at (codes "limit") limit ∷ count_at (codes "sum") sum ∷ [])

-- why a command is refused
abbrev pub config_reply : ConfigRefusal → Reply
config_reply (VersionConflict present) = count_reply 409 (codes "VersionConflict") (codes "present") present
config_reply BadName = error_reply 422 (codes "BadName")
config_reply NameTaken = error_reply 409 (codes "NameTaken")
config_reply UnknownName = unknown_name_reply
config_reply (BadText text) = text_reply text
config_reply PatternRefused = error_reply 422 (codes "PatternRefused")
config_reply (Limit which limit) = limit_reply which limit
config_reply (Budget sum limit) = budget_reply sum limit
config_reply OutOfMemory = out_of_memory_reply
