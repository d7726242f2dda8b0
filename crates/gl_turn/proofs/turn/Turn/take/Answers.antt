use Rattle.std.proofs.Common.{◌∷◌, Some, ap, ◌∙◌, sym}
use Rattle.atomic_table.specs.Table.{rest}
use Rattle.gl_turn.proofs.turn.Turn.take.Goals as goal

pub exchange-requires : goal.exchange-requires
exchange-requires g c = let h = c.requires.1 in (c.requires.0, (Some h.0, h.1 ∙ (λ i. (0, Some h.0) ∷ sym (ap rest h.1) i)))
