use Rattle.std.proofs.Common.{◌≡◌, ◌-◌, ◌<◌, ℕ, get_or, sym, subst, arith}
use Rattle.std.specs.List.{prefix_len}
use Rattle.gl_rulelang.specs.declared.text.Class.TheVariants.{Name}
use Rattle.gl_rulelang.specs.Bytes.{in_class}
use Rattle.gl_rulelang.proofs.Runs.{name_ends, some_name}
use Rattle.gl_rulelang.proofs.front.word_front.Goals as goal

pub before-requires-clause-ascii : goal.before-requires-clause-ascii
before-requires-clause-ascii c =
    let bs = c.args.text.now in
    let n : c.run_len-len.result ≡ prefix_len (in_class Name) bs = grind arith in
    subst (λ (i : ℕ). get_or bs (i - 1) 0 < 128) (sym n) (name_ends bs (some_name bs c.requires))
