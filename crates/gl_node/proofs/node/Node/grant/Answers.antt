use Rattle.std.proofs.Common.{◌+◌, ◌≤◌, List, [], ◌∷◌, ◌++◌, length, vec_capacity, ◌∙◌, ap, arith}
use Rattle.gl_node.specs.declared.mark.Claim.{Claim}
use Rattle.gl_node.proofs.Keeping.{keeps_claimed, range_by_fields}
use Rattle.gl_node.proofs.node.Node.grant.Goals as goal

pub returns-clause-granted : goal.returns-clause-granted
returns-clause-granted c = λ s k.
    let room : length c.reserve-2.new.self.items + length c.push_reserved.new.self.items ≤ vec_capacity c.reserve-2.new.self
    = omega (arith, c.reserve-2.new.self.ok.0, c.push_reserved.new.self.ok.0, c.in_ok-reserve-2.ensures.ok, c.push_reserved.ensures.len, c.reserve.ensures.len, c.reserve-2.ensures.len, c.len-held.ensures) in (
      c.in_ok-range.ensures ∙ range_by_fields c.args.self.now s c.args.claim.mark k,
      keeps_claimed c.args.self.now s c.args.claim c.push_reserved.new.self c.reserve-2.new.self k
          (c.push_reserved.ensures.items ∙ ap (λ (l : List Claim). l ++ c.args.claim ∷ []) c.reserve.ensures.items)
          c.reserve-2.ensures.items room c.requires.next c.requires.some c.requires.few (omega (arith, c.args.self.now.entries.ok.0)) c.requires.alone,
    )
