-- The messages so far are those at the places before.
use Rattle.std.proofs.Common.{◌≡◌, take}
use Rattle.std.specs.Prelude.{filter_map, slice_get}
use Rattle.gl_sight.specs.Finding.{live_of}
use Rattle.gl_api.proofs.searching.messages_at.Given as goal

abbrev pub invariant-loop-place : goal.invariant-loop-place
invariant-loop-place l = live_of l.messages.items ≡ filter_map (slice_get (live_of l.live)) (take l.place-index l.places)
