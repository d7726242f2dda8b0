-- A code of settings, so that a struct may be seen as them: the tuple of their parts.
use Rattle.std.specs.Prelude.{ℕ, List, refl}
use Rattle.std.specs.Coded.{Coded, code_by, coded×, coded_list, coded_ℕ}
use Rattle.gl_fields.specs.declared.set_rule.SetRule.{SetRule}
use Rattle.gl_fields.specs.contracts.set_rule.SetRule as set
use Rattle.gl_streams.specs.declared.stream.Stream.{Stream}
use Rattle.gl_streams.specs.contracts.stream.Stream as stream
use Rattle.gl_rulelang.specs.declared.pipeline.Pipeline.{Pipeline}
use Rattle.gl_rulelang.specs.contracts.pipeline.Pipeline as pipeline
use Rattle.gl_rulelang.specs.Tree.{RuleTree}
use Rattle.gl_check.specs.Codes.{rule_code}
use Rattle.gl_grok.specs.Tables.{Table}
use Rattle.gl_lookup.specs.Tables.{Pair}
use Rattle.gl_settings.specs.declared.input.Input.{Input}
use Rattle.gl_settings.specs.contracts.input.Input as input
use Rattle.gl_settings.specs.declared.user.User.{User}
use Rattle.gl_settings.specs.contracts.user.User as user
use Rattle.gl_settings.specs.Settings.{Settings}

abbrev text_code : Coded (List ℕ)
text_code = coded_list coded_ℕ

abbrev pairs_code : Coded (List (List ℕ × List ℕ))
pairs_code = coded_list (coded× text_code text_code)

abbrev pub settings_code : Coded Settings
settings_code =
    code_by
    (ℕ × (List Input × (List SetRule × (List Stream × (List RuleTree × (List Pipeline × (List (ℕ × List (List ℕ)) × (List (List ℕ × List Pair) × (Table × List User)))))))))
    (coded× coded_ℕ (coded× (coded_list (input.the_row).coded) (coded× (coded_list (set.the_row).coded) (coded× (coded_list (stream.the_row).coded)
    (coded× (coded_list rule_code) (coded× (coded_list (pipeline.the_row).coded) (coded× (coded_list (coded× coded_ℕ (coded_list text_code)))
    (coded× (coded_list (coded× text_code pairs_code)) (coded× pairs_code (coded_list (user.the_row).coded))))))))))
    (λ c. (c.version, (c.inputs, (c.sets, (c.streams, (c.rules, (c.pipelines, (c.connections, (c.lookups, (c.groks, c.users))))))))))
    (λ p. record {
      version = p.0;
      inputs = p.1.0;
      sets = p.1.1.0;
      streams = p.1.1.1.0;
      rules = p.1.1.1.1.0;
      pipelines = p.1.1.1.1.1.0;
      connections = p.1.1.1.1.1.1.0;
      lookups = p.1.1.1.1.1.1.1.0;
      groks = p.1.1.1.1.1.1.1.1.0;
      users = p.1.1.1.1.1.1.1.1.1;
    })
    (λ _. refl)
