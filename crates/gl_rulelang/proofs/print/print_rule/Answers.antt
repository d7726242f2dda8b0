use Rattle.gl_rulelang.specs.Tree.{rule_of}
use Rattle.gl_rulelang.proofs.RoundTrip.{printed_reads_back}
use Rattle.gl_rulelang.proofs.print.print_rule.Goals as goal

pub returns-clause-reads_back : goal.returns-clause-reads_back
returns-clause-reads_back c = printed_reads_back c.rule_printed.result (rule_of c.args.rule.now) c.rule_printed.ensures
