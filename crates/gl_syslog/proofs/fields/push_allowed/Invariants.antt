use Rattle.std.proofs.Common.{◌≡◌, ◌++◌, map, take}
use Rattle.std.specs.String.{string_bytes}
use Rattle.gl_syslog.specs.Decoding.{allowed}
use Rattle.gl_syslog.proofs.fields.push_allowed.Given as goal

abbrev pub invariant-loop-byte : goal.invariant-loop-byte
invariant-loop-byte l = string_bytes l.out ≡ string_bytes l.fn.out ++ map allowed (take l.byte-index l.bytes)
