use Rattle.std.proofs.Common.{◌≡◌, length, option_map, None}
use Rattle.gl_words.specs.Inside.{kept_in}
use Rattle.gl_words.proofs.Choosing.{found_of, least_from}
use Rattle.gl_words.proofs.postings.fewest.Given as goal

abbrev pub invariant-loop-left : goal.invariant-loop-left
invariant-loop-left l = least_from (option_map (λ least. least.now) l.least) (found_of (kept_in l.words) l.left) ≡ least_from None (found_of (kept_in l.words) l.terms)

abbrev pub decreases-loop-left : goal.decreases-loop-left
decreases-loop-left l = length l.left
