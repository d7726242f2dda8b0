use Rattle.std.proofs.Common.{refl, sym, ◌∙◌}
use Rattle.gl_words.specs.Inside.{is_same, kept_in}
use Rattle.gl_words.specs.Positions.{with_position}
use Rattle.gl_words.proofs.Finding.{lower}
use Rattle.gl_words.proofs.Walking.{no_change, number_skipped}
use Rattle.gl_words.proofs.row.put_token.Goals as goal

pub returns-then-is_number-clause-ok : goal.returns-then-is_number-clause-ok
returns-then-is_number-clause-ok c =
    no_change (with_position c.args.position) (is_same c.args.name.now (lower c.args.token.now)) (kept_in c.args.words.now) (kept_in c.args.words.now)
    (λ g s n. number_skipped c.args.name.now c.args.token.now (sym c.is_number.ensures ∙ c.if-is_number.true) g s n) (λ g s. refl)
