-- The set that comes has no rows, so the same rows are live.
use Rattle.std.proofs.Common.{sym, ◌∙◌, ap, subst}
use Rattle.gl_indexset.specs.Retention.{with_rule}
use Rattle.gl_postings.specs.Postings.{StandsFor}
use Rattle.gl_postings.proofs.Coming.{keep_one_more, still_live}
use Rattle.gl_postings.proofs.indexed.Indexed.add_set.Goals as goal

pub returns-clause-ok : goal.returns-clause-ok
returns-clause-ok c = λ rules all stands.
    let are = c.in_ok-add_set.ensures.ok ∙ ap (with_rule c.args.rule) stands.sets.rules_are in
    let rows = c.add_set.ensures.stands all stands.sets.rows in
    record {
      sets = record { rules_are = are; keep = keep_one_more c.args.rule rules c.requires.keep stands.sets.keep; rows = rows };
      words = subst (λ live. StandsFor c.args.self.now.words live)
          (sym (still_live c.args.self.now.sets c.add_set.new.self rules (with_rule c.args.rule rules) all stands.sets.rows rows stands.sets.rules_are are c.add_set.ensures.rows)) stands.words;
    }
