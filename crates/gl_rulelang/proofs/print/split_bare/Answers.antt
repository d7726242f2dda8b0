use Rattle.std.proofs.Common.{◌≡◌, ◌++◌, List, ℕ, take, drop, get_or, ap, ap₂, sym, subst, ◌∙◌, arith}
use Rattle.std.specs.List.{prefix_len, flat_map}
use Rattle.std.specs.Str.{IsCharBoundary}
use Rattle.gl_rulelang.specs.declared.text.Class.TheVariants.{Bare}
use Rattle.gl_rulelang.specs.Bytes.{in_class}
use Rattle.gl_rulelang.specs.Printing.{spelled_byte}
use Rattle.gl_rulelang.proofs.Quoting.{bare_run, bare_ends, bare_boundary}
use Rattle.gl_rulelang.proofs.print.split_bare.Goals as goal

pub split_at-requires : goal.split_at-requires
split_at-requires c =
    let n : c.run_len.result ≡ prefix_len (in_class Bare) c.args.text.now = grind arith in
    subst (IsCharBoundary c.args.text.now) (sym n) (bare_boundary c.args.text.now)

pub returns-clause-bare : goal.returns-clause-bare
returns-clause-bare c =
    let n : c.run_len.result ≡ prefix_len (in_class Bare) c.args.text.now = grind arith in
    bare_run c.args.text.now ∙ ap₂ (λ (x y : List ℕ). x ++ flat_map spelled_byte y)
    (ap (λ (i : ℕ). take i c.args.text.now) (sym n) ∙ sym c.split_at.ensures.front)
    (ap (λ (i : ℕ). drop i c.args.text.now) (sym n) ∙ sym c.split_at.ensures.back)

pub returns-clause-special : goal.returns-clause-special
returns-clause-special c =
    let n : c.run_len.result ≡ prefix_len (in_class Bare) c.args.text.now = grind arith in
    ap (λ (bs : List ℕ). in_class Bare (get_or bs 0 34)) (c.split_at.ensures.back ∙ ap (λ (i : ℕ). drop i c.args.text.now) n) ∙ bare_ends c.args.text.now
