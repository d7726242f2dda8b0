-- Room, and the words.
use Rattle.std.proofs.lemmas.Result.{on_err_weaker, on_ok_weaker}
use Rattle.gl_indexset.specs.Retention.{live_rows}
use Rattle.gl_postings.proofs.Coming.{at_err, prepared, rising_behind, sets_stay}
use Rattle.gl_postings.proofs.indexed.Indexed.prepare.Goals as goal

pub returns-clause-ok : goal.returns-clause-ok
returns-clause-ok c = λ rules all stands.
    on_ok_weaker c.add_words.result
    (prepared c.args.self.now.sets c.reserve.new.self c.add_words.new.words rules all c.args.more.now stands.sets c.requires (c.reserve.ensures.stands all stands.sets.rows) c.reserve.ensures.rules c.reserve.ensures.next c.in_ok-reserve.ensures.ok)
    (c.add_words.ensures.ok (live_rows rules all) stands.words (rising_behind c.args.self.now.sets rules all c.args.more.now stands.sets c.requires stands.words.rising))

pub returns-clause-err : goal.returns-clause-err
returns-clause-err c = λ rules all stands.
    on_err_weaker c.add_words.result
    (λ words. record { sets = sets_stay c.args.self.now.sets c.reserve.new.self rules all stands.sets (c.reserve.ensures.stands all stands.sets.rows) c.reserve.ensures.rules; words = words })
    (c.add_words.ensures.err (live_rows rules all) stands.words (rising_behind c.args.self.now.sets rules all c.args.more.now stands.sets c.requires stands.words.rising))

pub returns-in_err-reserve-clause-err : goal.returns-in_err-reserve-clause-err
returns-in_err-reserve-clause-err c = λ rules all stands.
    at_err c.from_residual.result
    (record { sets = sets_stay c.args.self.now.sets c.reserve.new.self rules all stands.sets (c.reserve.ensures.stands all stands.sets.rows) c.reserve.ensures.rules; words = stands.words })
