-- What a caller is told of the streams, of the server, and of a rule or a pipeline, or why the caller isn't told (this project).
use Rattle.std.specs.Prelude.{ℕ, List, find, if◌then◌else◌, Option, Some, None, option_map}
use Rattle.std.specs.Str.{bytes_eq}
use Rattle.gl_streams.specs.declared.stream.Stream.{Stream}
use Rattle.gl_rulelang.specs.declared.pipeline.Pipeline.{Pipeline}
use Rattle.gl_rulelang.specs.Printing.{rule_print, pipeline_print}
use Rattle.gl_rulelang.specs.Tree.{RuleTree}
use Rattle.gl_settings.specs.declared.user.User.{User}
use Rattle.gl_http.specs.declared.reply.Reply.{Reply}
use Rattle.gl_bodies.specs.Listings as listings
use Rattle.gl_bodies.specs.Replies.{admin_only_reply, unknown_name_reply, unknown_token_reply}

-- the permitted streams, to a caller whose token is a user's
abbrev pub streams_reply : (permitted : Option (List ℕ)) → List Stream → Reply
streams_reply None streams = unknown_token_reply
streams_reply (Some permitted) streams = listings.streams_reply permitted streams

-- to an administrator this reply, and to another caller why not
abbrev pub to_administrator : (caller : Option User) → Reply → Reply
to_administrator None told = unknown_token_reply
to_administrator (Some user) told = if user.admin then told else admin_only_reply

abbrev pub system_reply : (caller : Option User) → (committed : ℕ) → List (List ℕ × ℕ) → (journal : ℕ) → (version : ℕ) → Reply
system_reply caller committed indexes journal version = to_administrator caller (listings.system_reply committed indexes journal version)

-- a printed text, where there is one of the name
abbrev pub source_told : Option (List ℕ) → Reply
source_told None = unknown_name_reply
source_told (Some source) = listings.source_reply source

abbrev pub rule_named : List ℕ → List RuleTree → Option RuleTree
rule_named name rules = find (λ rule. bytes_eq name rule.name) rules

abbrev pub pipeline_named : List ℕ → List Pipeline → Option Pipeline
pipeline_named name pipelines = find (λ pipeline. bytes_eq name pipeline.name) pipelines

-- the rule of a name, printed
abbrev pub rule_reply : (caller : Option User) → List RuleTree → (name : List ℕ) → Reply
rule_reply caller rules name = to_administrator caller (source_told (option_map rule_print (rule_named name rules)))

abbrev pub pipeline_reply : (caller : Option User) → List Pipeline → (name : List ℕ) → Reply
pipeline_reply caller pipelines name = to_administrator caller (source_told (option_map pipeline_print (pipeline_named name pipelines)))
