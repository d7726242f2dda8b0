use Rattle.std.proofs.Common.{◌≡◌, ◌++◌, List, ℕ, take, drop, get_or, ap, ap₂, sym, subst, ◌∙◌, arith}
use Rattle.std.specs.List.{prefix_len}
use Rattle.std.specs.Str.{IsCharBoundary}
use Rattle.gl_rulelang.specs.declared.text.Class.TheVariants.{Plain}
use Rattle.gl_rulelang.specs.Bytes.{in_class}
use Rattle.gl_rulelang.specs.Tokens.{unescaped}
use Rattle.gl_rulelang.proofs.Escapes.{plain_run, plain_ends, plain_boundary}
use Rattle.gl_rulelang.proofs.text.split_plain.Goals as goal

pub split_at-requires : goal.split_at-requires
split_at-requires c =
    let n : c.run_len.result ≡ prefix_len (in_class Plain) c.args.text.now = grind arith in
    subst (IsCharBoundary c.args.text.now) (sym n) (plain_boundary c.args.text.now)

pub returns-clause-plain : goal.returns-clause-plain
returns-clause-plain c =
    let n : c.run_len.result ≡ prefix_len (in_class Plain) c.args.text.now = grind arith in
    plain_run c.args.text.now ∙ ap₂ (λ (x y : List ℕ). x ++ unescaped y)
    (ap (λ (i : ℕ). take i c.args.text.now) (sym n) ∙ sym c.split_at.ensures.front)
    (ap (λ (i : ℕ). drop i c.args.text.now) (sym n) ∙ sym c.split_at.ensures.back)

pub returns-clause-escape : goal.returns-clause-escape
returns-clause-escape c =
    let n : c.run_len.result ≡ prefix_len (in_class Plain) c.args.text.now = grind arith in
    ap (λ (bs : List ℕ). get_or bs 0 92) (c.split_at.ensures.back ∙ ap (λ (i : ℕ). drop i c.args.text.now) n) ∙ plain_ends c.args.text.now
