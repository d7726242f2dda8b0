use Rattle.std.proofs.Common.{◌≡◌, ◌+◌, ◌-◌, subst, arith}
use Rattle.std.specs.Str.{IsCharBoundary}
use Rattle.std.proofs.lemmas.Str.{IsCharBoundary-after_ascii}
use Rattle.gl_syslogtext.proofs.stamp.cut.Goals as goal

pub split_at-requires : goal.split_at-requires
split_at-requires c =
    let one : c.args.len - 1 + 1 ≡ c.args.len = omega arith in
    subst (IsCharBoundary c.args.text.now) one (IsCharBoundary-after_ascii c.args.text.now (c.args.len - 1) c.utf8.text (omega arith) c.requires.ascii)
