use Rattle.std.proofs.Common.{List, [], ◌∷◌, length, sym, ap, subst, arith, length-append}
use Rattle.std.proofs.lemmas.List.Elements.{All-push}
use Rattle.gl_chunks.specs.declared.chunks.Chunks.{Chunks}
use Rattle.gl_chunks.specs.Chunks.{StandsFor}
use Rattle.gl_node.proofs.Tables.{AreFresh, none_received}
use Rattle.gl_node.proofs.node.new_tables.Goals as goal

pub loop-init : goal.loop-init
loop-init c = (
  ap (λ (ts : List Chunks). length ts) c.in_ok-tables.ensures.items,
  subst (λ (ts : List Chunks). AreFresh ts) (sym c.in_ok-tables.ensures.items) (λ k d lt. absurd (omega (arith, lt))),
)

pub loop-preserved : goal.loop-preserved
loop-preserved c = (
  omega (arith, c.loop.invariant.0, ap (λ (ts : List Chunks). length ts) c.in_ok-push.ensures.items, length-append c.loop.tables.items (c.new.result ∷ [])),
  subst (λ (ts : List Chunks). AreFresh ts) (sym c.in_ok-push.ensures.items)
      (All-push (λ (t : Chunks). StandsFor t []) c.loop.tables.items c.new.result c.loop.invariant.1 c.new.ensures),
)

pub returns : goal.returns
returns c = none_received c.loop.tables.items c.args.inputs.now (omega (arith, c.loop.invariant.0, c.loop-test.false, c.loop.auto.index-end)) c.loop.invariant.1
