use Rattle.gl_sight.proofs.Showing.{found_shown, total_shown, page_shown}
use Rattle.gl_sight.proofs.laws.law_only_what_is_seen.Goals as goal

pub returns : goal.returns
returns c = record {
  found = λ permitted ask query live all. found_shown permitted ask query live all;
  total = λ permitted ask query live all. total_shown permitted ask query live all;
  page = λ permitted ask query live all. page_shown permitted ask query live all;
}
