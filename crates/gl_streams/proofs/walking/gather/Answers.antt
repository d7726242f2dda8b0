use Rattle.std.proofs.Common.{◌≡◌, ◌||◌, true, take, get_or, sym, ap, ◌∙◌, subst}
use Rattle.std.specs.Vec.{with_items}
use Rattle.gl_streams.specs.Matching.{stream_matches}
use Rattle.gl_streams.specs.Ids.{matching, one_removes, with_id, ids_of}
use Rattle.gl_streams.proofs.Putting.{Rising, ids_rise}
use Rattle.gl_streams.proofs.Gathering.{own_at, still, refilled, passed_over, id_put, removal_seen}
use Rattle.gl_streams.proofs.walking.gather.Goals as goal

pub stream_matches-requires : goal.stream_matches-requires
stream_matches-requires c =
    c.as_mut_slice.ensures.value
    ∙ own_at (λ own. own.items) c.args.streams.now c.loop-i.patterns c.loop-i.i c.index-streams-i.result c.index-patterns-i.result (c.loop-i.invariant.same ∙ c.requires) c.loop-i-test.true c.index-streams-i.is

pub returns-in_err-stream_matches-clause-same : goal.returns-in_err-stream_matches-clause-same
returns-in_err-stream_matches-clause-same c =
    still (λ own. own.items) c.args.streams.now c.loop-i.patterns c.loop-i.i c.index-patterns-i.result (with_items (get_or c.loop-i.patterns c.loop-i.i c.index-patterns-i.result) c.stream_matches.new.patterns) (c.loop-i.invariant.same ∙ c.requires) c.loop-i-test.true (refilled (get_or c.loop-i.patterns c.loop-i.i c.index-patterns-i.result) _ (c.in_err-stream_matches.ensures.same ∙ c.as_mut_slice.ensures.value))
    ∙ c.loop-i.invariant.same

pub loop-i-preserved-then-not-branch : goal.loop-i-preserved-then-not-branch
loop-i-preserved-then-not-branch c =
    let streams = c.args.streams.now in
    let l = c.loop-i in
    let over = passed_over streams c.args.fields.now l.i c.index-streams-i.result c.loop-i-test.true c.index-streams-i.is (sym c.in_ok-stream_matches.ensures.value ∙ c.if-not-branch.true) in
    record {
      gathered = l.invariant.gathered ∙ ap ids_of (sym over);
      removal = l.invariant.removal ∙ ap one_removes (sym over);
      same =
          still (λ own. own.items) streams l.patterns l.i c.index-patterns-i.result (with_items (get_or c.loop-i.patterns c.loop-i.i c.index-patterns-i.result) c.stream_matches.new.patterns) (l.invariant.same ∙ c.requires) c.loop-i-test.true (refilled (get_or c.loop-i.patterns c.loop-i.i c.index-patterns-i.result) _ (c.in_ok-stream_matches.ensures.same ∙ c.as_mut_slice.ensures.value))
          ∙ l.invariant.same;
    }

pub put-requires : goal.put-requires
put-requires c =
    subst Rising (sym c.loop-i.invariant.gathered) (ids_rise (matching (take c.loop-i.i c.args.streams.now) c.args.fields.now))

pub returns-in_err-put-clause-same : goal.returns-in_err-put-clause-same
returns-in_err-put-clause-same c =
    still (λ own. own.items) c.args.streams.now c.loop-i.patterns c.loop-i.i c.index-patterns-i.result (with_items (get_or c.loop-i.patterns c.loop-i.i c.index-patterns-i.result) c.stream_matches.new.patterns) (c.loop-i.invariant.same ∙ c.requires) c.loop-i-test.true (refilled (get_or c.loop-i.patterns c.loop-i.i c.index-patterns-i.result) _ (c.in_ok-stream_matches.ensures.same ∙ c.as_mut_slice.ensures.value))
    ∙ c.loop-i.invariant.same

pub loop-i-preserved : goal.loop-i-preserved
loop-i-preserved c =
    let streams = c.args.streams.now in
    let fields = c.args.fields.now in
    let l = c.loop-i in
    let stream = c.index-streams-i.result in
    let matches : stream_matches stream fields ≡ true = sym c.in_ok-stream_matches.ensures.value ∙ c.if-not-branch.false in
    record {
      gathered =
          c.in_ok-put.ensures.ids
          ∙ ap (λ ids. with_id ids stream.id) l.invariant.gathered
          ∙ id_put streams fields l.i stream c.loop-i-test.true c.index-streams-i.is matches;
      removal =
          ap (λ b. b || stream.remove_from_default) l.invariant.removal
          ∙ removal_seen streams fields l.i stream c.loop-i-test.true c.index-streams-i.is matches;
      same =
          still (λ own. own.items) streams l.patterns l.i c.index-patterns-i.result (with_items (get_or c.loop-i.patterns c.loop-i.i c.index-patterns-i.result) c.stream_matches.new.patterns) (l.invariant.same ∙ c.requires) c.loop-i-test.true (refilled (get_or c.loop-i.patterns c.loop-i.i c.index-patterns-i.result) _ (c.in_ok-stream_matches.ensures.same ∙ c.as_mut_slice.ensures.value))
          ∙ l.invariant.same;
    }

pub put-requires-2 : goal.put-requires-2
put-requires-2 c =
    subst Rising (sym c.loop-i.invariant.gathered) (ids_rise (matching (take c.loop-i.i c.args.streams.now) c.args.fields.now))
