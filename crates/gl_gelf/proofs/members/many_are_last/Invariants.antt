use Rattle.std.proofs.Common.{◌≡◌, ◌≤◌, ℕ, List, map, drop, reverse, length, is_some}
use Rattle.std.specs.List.{list_any}
use Rattle.std.specs.Cow.{cow_str_bytes}
use Rattle.std.specs.Str.{bytes_eq}
use Rattle.std.specs.Ordering.{nat_cmp}
use Rattle.std.specs.Cmp.Lexicographic.{slice_cmp}
use Rattle.std.specs.BTreeMap.{get_by}
use Rattle.gl_gelf.specs.Members.{are_last}
use Rattle.gl_gelf.specs.Parts.{named_view}
use Rattle.gl_gelf.proofs.members.many_are_last.Given as goal

abbrev pub invariant-loop-i : goal.invariant-loop-i
invariant-loop-i l = record {
  within : l.i ≤ length l.members;
  last : l.last.items ≡ reverse (are_last (map named_view (drop l.i l.members)));
  seen : (name : List ℕ) → is_some (get_by (λ k. slice_cmp nat_cmp name k.now) l.seen) ≡ list_any (λ n. bytes_eq (cow_str_bytes n.name) name) (drop l.i l.members);
}

abbrev pub decreases-loop-i : goal.decreases-loop-i
decreases-loop-i l = l.i
