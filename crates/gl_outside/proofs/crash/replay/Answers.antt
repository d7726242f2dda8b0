use Rattle.std.proofs.Common.{◌≡◌, ◌+◌, ℕ, List, [], ◌∷◌, length, take, drop, get_or, sym, ◌∙◌, ap, arith, length-drop}
use Rattle.std.proofs.lemmas.List.{drop-drop}
use Rattle.gl_outside.specs.declared.areas.Area.{Area}
use Rattle.gl_outside.specs.declared.record.Call.TheVariants.{Look}
use Rattle.gl_outside.specs.AfterCrash.{left_by}
use Rattle.gl_outside.specs.Areas.{bytes_in}
use Rattle.gl_outside.specs.Calls.{event_of, on_top, used}
use Rattle.gl_outside.specs.Events.{Event, content}
use Rattle.gl_outside.proofs.Calls.{one_more, used_more, used_front}
use Rattle.gl_outside.proofs.crash.replay.Goals as goal

pub split_at-requires : goal.split_at-requires
split_at-requires c =
    let calls = c.args.calls.now in
    let i : ℕ = c.loop-call.call-index in
    omega (arith, c.bytes_len.ensures, used_more calls i Look c.loop-call-test.true, used_front calls (i + 1), c.requires, ap length c.loop-call.invariant.0, length-drop (used (take i calls)) c.args.bytes.now)

pub loop-call-preserved : goal.loop-call-preserved
loop-call-preserved c =
    let calls = c.args.calls.now in
    let i : ℕ = c.loop-call.call-index in
    let before : List Event = on_top (take i calls) c.args.bytes.now [] in
    let later = c.loop-call.invariant.0 in
    let own : c.split_at.result.0.now ≡ take (used (get_or calls i Look ∷ [])) (drop (used (take i calls)) c.args.bytes.now) = c.split_at.ensures.front ∙ ap (λ (n : ℕ). take n c.loop-call.later.now) c.bytes_len.ensures ∙ ap (take (used (get_or calls i Look ∷ []))) later in
    let events : event_of (get_or calls i Look) c.split_at.result.0.now ∷ before ≡ on_top (take (i + 1) calls) c.args.bytes.now [] = ap (λ (l : List ℕ). event_of (get_or calls i Look) l ∷ before) own ∙ sym (one_more calls c.args.bytes.now i Look c.loop-call-test.true) in
    let rest : c.split_at.result.1.now ≡ drop (used (take (i + 1) calls)) c.args.bytes.now =
    c.split_at.ensures.back ∙ ap (drop c.bytes_len.result) later ∙ drop-drop c.bytes_len.result (used (take i calls)) c.args.bytes.now
    ∙ ap (λ (n : ℕ). drop n c.args.bytes.now) (ap (λ (n : ℕ). used (take i calls) + n) c.bytes_len.ensures ∙ sym (used_more calls i Look c.loop-call-test.true)) in (
      rest,
      λ b. c.in_ok-done.ensures before c.loop-call.invariant.1 b ∙ ap (λ (l : List Event). content l b) events,
      λ b. c.in_ok-left.ensures before (λ j. ap (λ (l : List Area). bytes_in l j) c.deref.ensures.value ∙ c.loop-call.invariant.1 j) c.loop-call.invariant.2 b ∙ ap (λ (l : List Event). left_by c.args.unsynced l b) events,
    )
