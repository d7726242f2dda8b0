-- The set that goes has no rows, so the same rows are live.
use Rattle.std.proofs.Common.{sym, subst}
use Rattle.gl_indexset.specs.Retention.{with_rule}
use Rattle.gl_postings.specs.Postings.{StandsFor}
use Rattle.gl_postings.proofs.Coming.{keep_the_others, still_live}
use Rattle.gl_postings.proofs.indexed.Indexed.drop_set.Goals as goal

pub returns-clause-undone : goal.returns-clause-undone
returns-clause-undone c = λ rules all rule named unknown none stands.
    let are = c.drop_set.ensures.undone rule rules all stands.sets.rows stands.sets.rules_are named unknown none in
    let rows = c.drop_set.ensures.stands all stands.sets.rows in
    record {
      sets = record { rules_are = are; keep = keep_the_others rule rules stands.sets.keep; rows = rows };
      words = subst (λ live. StandsFor c.args.self.now.words live)
          (sym (still_live c.args.self.now.sets c.drop_set.new.self (with_rule rule rules) rules all stands.sets.rows rows stands.sets.rules_are are c.drop_set.ensures.rows)) stands.words;
    }
