use Rattle.std.proofs.Common.{◌≡◌, drop}
use Rattle.gl_json.specs.JsonReading.{word_at}
use Rattle.gl_json.proofs.bytes.word_at.Given as goal

abbrev pub invariant-loop-letter : goal.invariant-loop-letter
invariant-loop-letter l = word_at (drop l.letter-index l.word) l.rest ≡ word_at l.word l.bytes
