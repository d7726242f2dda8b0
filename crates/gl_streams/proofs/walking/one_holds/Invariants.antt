use Rattle.std.proofs.Common.{◌≡◌, take, false}
use Rattle.std.specs.List.{list_any}
use Rattle.gl_streams.specs.Matching.{rule_holds}
use Rattle.gl_streams.proofs.walking.one_holds.Given as goal

abbrev pub invariant-loop-i : goal.invariant-loop-i
invariant-loop-i l =
    record {
      so_far : list_any (λ rule. rule_holds rule l.fields) (take l.i l.rules) ≡ false;
      same : l.patterns ≡ l.fn.patterns;
    }
