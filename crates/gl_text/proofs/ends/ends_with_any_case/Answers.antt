use Rattle.std.proofs.Common.{refl}
use Rattle.gl_text.proofs.Fronts.{ends_compared}
use Rattle.gl_text.proofs.ends.ends_with_any_case.Goals as goal

pub returns : goal.returns
returns c =
    ends_compared c.args.part.now c.args.text.now _ _ c.as_bytes-bytes.ensures.value c.as_bytes-sought.ensures.value c.eq_ignore_ascii_case.result _ refl c.eq_ignore_ascii_case.ensures.test
