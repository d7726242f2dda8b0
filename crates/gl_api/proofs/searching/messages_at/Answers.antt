-- The messages at one place more.
use Rattle.std.specs.Prelude.{slice_get}
use Rattle.gl_sight.specs.Finding.{live_of}
use Rattle.gl_api.proofs.Asking.{one_more}
use Rattle.gl_api.proofs.searching.messages_at.Goals as goal

pub loop-place-preserved : goal.loop-place-preserved
loop-place-preserved c =
    one_more (slice_get (live_of c.args.live.now)) c.args.places.now c.loop-place.place-index (live_of c.loop-place.messages.items) (live_of c.push_at.new.messages.items)
    c.loop-place-test.true c.in_ok-push_at.ensures c.loop-place.invariant
