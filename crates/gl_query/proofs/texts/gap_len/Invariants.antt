use Rattle.std.proofs.Common.{◌≡◌, drop}
use Rattle.gl_query.specs.Texts.{text_tokens}
use Rattle.gl_query.proofs.texts.gap_len.Given as goal

abbrev pub invariant-loop-n : goal.invariant-loop-n
invariant-loop-n l = text_tokens (drop l.n l.text) ≡ text_tokens l.text
