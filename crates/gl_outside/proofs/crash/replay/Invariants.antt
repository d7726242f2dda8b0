use Rattle.std.proofs.Common.{◌≡◌, ℕ, [], take, drop}
use Rattle.gl_outside.specs.AfterCrash.{left_by}
use Rattle.gl_outside.specs.Areas.{bytes_in}
use Rattle.gl_outside.specs.Calls.{on_top, used}
use Rattle.gl_outside.specs.Events.{content}
use Rattle.gl_outside.proofs.crash.replay.Given as goal

abbrev pub invariant-loop-call : goal.invariant-loop-call
invariant-loop-call l =
    (l.later ≡ drop (used (take l.call-index l.calls)) l.bytes)
    × ((b : ℕ) → bytes_in l.reads.items b ≡ content (on_top (take l.call-index l.calls) l.bytes []) b)
    × ((b : ℕ) → bytes_in l.areas.items b ≡ left_by l.unsynced (on_top (take l.call-index l.calls) l.bytes []) b)
