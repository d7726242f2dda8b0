use Rattle.std.proofs.Common.{◌≡◌, ◌≤◌, ℕ, List, length, take, sym, arith}
use Rattle.std.proofs.lemmas.List.{take_all}
use Rattle.gl_http.specs.Front.{front}
use Rattle.gl_http.proofs.head.front.Goals as goal

all_of : (limit : ℕ) (bytes : List ℕ) → length bytes ≤ limit → bytes ≡ take limit bytes
all_of limit bytes short = sym (take_all limit bytes short)

pub returns-then-bytes-le-MAX_HEAD-clause-value : goal.returns-then-bytes-le-MAX_HEAD-clause-value
unfolding front
returns-then-bytes-le-MAX_HEAD-clause-value c = all_of 16384 c.args.bytes.now (omega (arith, c.if-bytes-le-MAX_HEAD.true))
