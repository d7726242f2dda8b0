use Rattle.std.proofs.Common.{◌≡◌, take, true}
use Rattle.std.specs.List.{list_all}
use Rattle.gl_streams.specs.Matching.{rule_holds}
use Rattle.gl_streams.proofs.walking.all_hold.Given as goal

abbrev pub invariant-loop-i : goal.invariant-loop-i
invariant-loop-i l =
    record {
      so_far : list_all (λ rule. rule_holds rule l.fields) (take l.i l.rules) ≡ true;
      same : l.patterns ≡ l.fn.patterns;
    }
