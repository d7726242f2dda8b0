use Rattle.std.proofs.Common.{◌≡◌, ◌-◌, length, drop}
use Rattle.gl_query.specs.Tokens.{tokens_from, tokens_of}
use Rattle.gl_query.specs.Refusals.{refused_from, start}
use Rattle.gl_query.specs.Building.{Building, StandsFor, begun}
use Rattle.gl_query.specs.QueryReading.{position_of, built_from, units}
use Rattle.gl_query.proofs.read.read_tokens.Given as goal

abbrev pub invariant-loop-at : goal.invariant-loop-at
invariant-loop-at l =
    record {
      b : Building;
      stands : StandsFor l.builder b;
      want : b.want ≡ l.want;
      built : built_from b (units (tokens_from l.at 0 (drop l.at l.text))) ≡ built_from begun (units (tokens_of l.text));
      refused : refused_from (position_of b) (tokens_from l.at 0 (drop l.at l.text)) (length l.text) ≡ refused_from start (tokens_of l.text) (length l.text);
    }

abbrev pub decreases-loop-at : goal.decreases-loop-at
decreases-loop-at l = length l.text - l.at
