use Rattle.std.proofs.Common.{◌∙◌}
use Rattle.gl_syslogtext.proofs.Values.{len_behind_escape, len_behind_other}
use Rattle.gl_syslogtext.proofs.data.value_len.Goals as goal
use Rattle.gl_syslogtext.proofs.data.value_len.Goals.{then-is_escaped, else-is_escaped+else-bytes-i-eq34+else-bytes-i-eq93}

pub loop-i-preserved : goal.loop-i-preserved
loop-i-preserved c =
    let l = c.loop-i in
    let bytes = c.args.bytes.now in
    elim c.if-is_escaped.branch [
      | then-is_escaped w ↦ len_behind_escape bytes l.i l.is_escaped c.if-is_escaped.is_escaped c.loop-i-test.true l.invariant w.if-is_escaped.true w.is_escaped-is
      | else-is_escaped+else-bytes-i-eq34+else-bytes-i-eq93 w ↦
          len_behind_other bytes l.i l.is_escaped c.if-is_escaped.is_escaped c.loop-i-test.true l.invariant w.if-is_escaped.false w.if-bytes-i-eq34.false w.if-bytes-i-eq93.false
          (w.is_escaped-is ∙ w.escapes_at-is_escaped.ensures)
    ]
