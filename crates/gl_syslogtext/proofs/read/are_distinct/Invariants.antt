use Rattle.std.proofs.Common.{◌≡◌, true, List, ℕ, take, Bor}
use Rattle.std.specs.List.{list_any}
use Rattle.std.specs.Str.{bytes_eq}
use Rattle.std.specs.Ordering.{nat_cmp}
use Rattle.std.specs.Cmp.Lexicographic.{slice_cmp}
use Rattle.std.specs.BTreeSet.{contains_by}
use Rattle.gl_syslogtext.specs.MessageReading.{are_distinct, ids_of}
use Rattle.gl_syslogtext.proofs.read.are_distinct.Given as goal

abbrev pub invariant-loop-element : goal.invariant-loop-element
invariant-loop-element l = record {
  distinct : are_distinct (ids_of (take l.element-index l.elements)) ≡ true;
  seen : (q : Bor (List ℕ)) → contains_by (λ k. slice_cmp nat_cmp q.now k.now) l.seen ≡ list_any (bytes_eq q.now) (ids_of (take l.element-index l.elements));
}
