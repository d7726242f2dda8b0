use Rattle.std.proofs.Common.{◌≡◌, true, take}
use Rattle.std.specs.List.{list_all}
use Rattle.gl_text.specs.Ids.{is_hex_digit}
use Rattle.gl_text.proofs.id.are_id_digits.Given as goal

abbrev pub invariant-loop-byte : goal.invariant-loop-byte
invariant-loop-byte l = list_all is_hex_digit (take l.byte-index l.bytes) ≡ true
