use Rattle.std.proofs.Common.{ℕ, ◌==◌, rules, tests}
use Rattle.std.specs.Prelude.{not}
use Rattle.std.proofs.lemmas.Fn.{filter_same}
use Rattle.gl_streams.proofs.ids.take_out.Goals as goal

pub returns : goal.returns
returns c = filter_same _ (λ (other : ℕ). not (other == c.args.id)) _ (λ x b f k. search (rules, tests)) _ _ c.retain.ensures.filtered
