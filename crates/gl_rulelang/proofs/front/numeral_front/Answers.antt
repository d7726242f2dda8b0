use Rattle.std.proofs.Common.{◌≡◌, ◌-◌, ◌<◌, List, ℕ, take, length, get_or, ap, sym, subst, ◌∙◌, arith}
use Rattle.std.specs.List.{prefix_len}
use Rattle.std.specs.Char.{is_ascii_digit}
use Rattle.gl_rulelang.proofs.Runs.{digits_end, all_digits, some_digits}
use Rattle.gl_rulelang.proofs.front.numeral_front.Goals as goal

pub before-requires-clause-ascii : goal.before-requires-clause-ascii
before-requires-clause-ascii c =
    let bs = c.args.text.now in
    let n : c.run_len-len.result ≡ prefix_len is_ascii_digit bs = grind arith in
    subst (λ (i : ℕ). get_or bs (i - 1) 0 < 128) (sym n) (digits_end bs (some_digits bs c.requires))

pub number-requires-clause-digits : goal.number-requires-clause-digits
number-requires-clause-digits c =
    let bs = c.args.text.now in
    let n : c.run_len-len.result ≡ prefix_len is_ascii_digit bs = grind arith in
    let t : take (prefix_len is_ascii_digit bs) bs ≡ c.before-2.result.now = ap (λ (i : ℕ). take i bs) (sym n) ∙ sym c.before-2.ensures in
    subst (λ (ds : List ℕ). prefix_len is_ascii_digit ds ≡ length ds) t (all_digits bs)
