use Rattle.std.proofs.Common.{refl, sym, ◌∙◌, arith}
use Rattle.gl_parts_tests.proofs.pools.claim_next.Goals as goal

pub claim-requires-clause-may : goal.claim-requires-clause-may
claim-requires-clause-may c = λ start calls h.
    let run = c.in-Some-free.ensures.run start calls h in record {
      idle = sym (c.held.ensures start calls h) ∙ c.in_default.is;
      some = omega (arith, run.some);
      journal = c.args.journal;
      run = c.in-Some-free.run';
      free = run;
      begins = refl;
      lies = omega arith;
    }
