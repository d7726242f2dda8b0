use Rattle.std.proofs.Common.{◌≡◌, ap, ◌∙◌, List, ℕ, map}
use Rattle.std.specs.Prelude.{codes}
use Rattle.gl_grok.specs.Tables.{Table, with_pattern}
use Rattle.gl_grok.proofs.Tables.{pair}
use Rattle.gl_grok.proofs.initial.initial_patterns.Goals as goal

after : (name pattern : List ℕ) {t before after : Table} → t ≡ with_pattern before name pattern → before ≡ after → t ≡ with_pattern after name pattern
after name pattern e so_far = e ∙ ap (λ (t : Table). with_pattern t name pattern) so_far

pub returns : goal.returns
returns c =
    after (codes "USER") (codes "[a-zA-Z0-9._-]+") c.in_ok-name_pattern-9.ensures
    (after (codes "IPV4") (codes "(?:[0-9]{1,3}[.]){3}[0-9]{1,3}") c.in_ok-name_pattern-8.ensures
    (after (codes "NUMBER") (codes "[+-]?[0-9]+(?:[.][0-9]+)?") c.in_ok-name_pattern-7.ensures
    (after (codes "INT") (codes "[+-]?[0-9]+") c.in_ok-name_pattern-6.ensures
    (after (codes "GREEDYDATA") (codes ".*") c.in_ok-name_pattern-5.ensures
    (after (codes "DATA") (codes ".*?") c.in_ok-name_pattern-4.ensures
    (after (codes "SPACE") (codes "[ ]*") c.in_ok-name_pattern-3.ensures
    (after (codes "NOTSPACE") (codes "[^ ]+") c.in_ok-name_pattern-2.ensures
    (after (codes "WORD") (codes "[A-Za-z0-9_]+") c.in_ok-name_pattern.ensures
    (ap (map pair) c.new-table.ensures.empty)))))))))
