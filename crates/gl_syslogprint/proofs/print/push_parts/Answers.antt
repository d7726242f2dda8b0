use Rattle.std.specs.String.{string_bytes}
use Rattle.gl_syslogprint.specs.Printing.{pri_digits, name_text, stamp_text, data_text, message_text, text_of}
use Rattle.gl_syslogprint.proofs.Printed.{joined}
use Rattle.gl_syslogprint.proofs.print.push_parts.Goals as goal

pub returns : goal.returns
unfolding text_of
returns c =
    let p = c.args.parts.now in
    rw (
      c.in_ok-push_message.ensures,
      c.in_ok-push_data.ensures,
      c.as_slice.ensures,
      c.in_ok-push_name-4.ensures,
      c.in_ok-push_name-3.ensures,
      c.in_ok-push_name-2.ensures,
      c.in_ok-push_name.ensures,
      c.in_ok-push_str-3.ensures.bytes,
      c.in_ok-push_stamp.ensures,
      c.in_ok-push_str-2.ensures.bytes,
      c.in_ok-push_pri.ensures,
      c.in_ok-push_str.ensures.bytes,
    )
    (joined (string_bytes c.args.out.now) (pri_digits p.pri) (stamp_text p.stamp) (name_text p.host) (name_text p.app) (name_text p.proc_id) (name_text p.msg_id) (data_text p.elements) (message_text p.bom p.msg))
