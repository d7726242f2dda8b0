use Rattle.std.proofs.Common.{refl}
use Rattle.gl_text.proofs.Fronts.{starts_compared, shorter, starts_long}
use Rattle.gl_text.proofs.ends.starts_with_any_case.Goals as goal

pub returns-then-bytes-sought : goal.returns-then-bytes-sought
returns-then-bytes-sought c =
    starts_long c.args.part.now c.args.text.now
    (shorter c.args.part.now c.args.text.now _ _ c.as_bytes-bytes.ensures.value c.as_bytes-sought.ensures.value c.if-bytes-sought.true)

pub returns : goal.returns
returns c =
    starts_compared c.args.part.now c.args.text.now _ _ c.as_bytes-bytes.ensures.value c.as_bytes-sought.ensures.value c.eq_ignore_ascii_case.result _ refl c.eq_ignore_ascii_case.ensures.test
