use Rattle.std.proofs.Common.{◌==◌, ap, sym, ◌∙◌}
use Rattle.gl_query.proofs.Endings.{not_ended, none_outer}
use Rattle.gl_query.proofs.builder.Builder.finish.Goals as goal

pub returns-then-not-is_empty : goal.returns-then-not-is_empty
returns-then-not-is_empty c = λ b s w.
    not_ended b c.args.self.outer.items s.keeps.levels_are (ap (λ n. n == 0) (sym c.args.self.outer.ok.0) ∙ sym c.is_empty.ensures ∙ c.if-not-is_empty.true)

pub returns : goal.returns
returns c = λ b s w.
    c.whole_nodes.ensures b s w (none_outer c.args.self.outer.items b.outer s.keeps.levels_are (ap (λ n. n == 0) (sym c.args.self.outer.ok.0) ∙ sym c.is_empty.ensures ∙ c.if-not-is_empty.false))
