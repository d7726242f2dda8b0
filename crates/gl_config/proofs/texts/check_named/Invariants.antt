use Rattle.std.proofs.Common.{◌≡◌, None, map}
use Rattle.std.specs.Map.Iter.{deref_pair}
use Rattle.gl_grok.specs.Tables.{table_of}
use Rattle.gl_config.specs.Applying.{first_of, grok_cause}
use Rattle.gl_config.proofs.Patterns.{pair}
use Rattle.gl_config.proofs.texts.check_named.Given as goal

abbrev pub invariant-loop-name : goal.invariant-loop-name
invariant-loop-name l = first_of (map (λ entry. grok_cause (table_of l.groks) entry.1) (map pair (map deref_pair l.yielded))) ≡ None
