use Rattle.std.proofs.Common.{◌≡◌, take, reverse, Option, Some, bytes_eq, if◌then◌else◌, sym, ap, ◌∙◌, arith}
use Rattle.gl_check.specs.declared.kind.Kind.{Kind}
use Rattle.gl_check.specs.Checking.{kind_in}
use Rattle.gl_check.proofs.Lists.{seen_at, last_first}
use Rattle.gl_check.proofs.kinds.kind_in.Goals as goal

pub loop-other-preserved : goal.loop-other-preserved
loop-other-preserved c =
    let xs = c.args.known.now in
    let i = c.loop-other.other-index in
    let x = c.loop-other-item.result in
    let name = c.args.name.now in
    let seen = seen_at xs i x (omega arith) c.loop-other-item.is in
    c.newer-found.ensures ∙ ap (λ (f : Option Kind). if bytes_eq name x.0 then Some x.1 else f) c.loop-other.invariant ∙ sym (ap (kind_in name) (ap reverse seen ∙ last_first (take i xs) x))
