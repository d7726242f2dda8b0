use Rattle.gl_postings.proofs.Ordering.{those_found, found_those, come_in_order}
use Rattle.gl_postings.proofs.laws.law_found_in_order.Goals as goal

pub returns : goal.returns
returns c = record {
  those = λ ask query rows row. (those_found ask query rows row, found_those ask query rows row);
  order = λ ask query rows rising. come_in_order ask query rows rising;
}
