-- By what stands at the place.
use Rattle.std.proofs.Common.{[], ◌∷◌, ◌∙◌, ap, sym}
use Rattle.std.specs.Prelude.{Some, None, option_map}
use Rattle.std.proofs.lemmas.List.{map-append}
use Rattle.std.proofs.lemmas.Option.{slice_get-map}
use Rattle.gl_sight.specs.Finding.{live_of, seen_of}
use Rattle.gl_api.proofs.Asking.{got, none_there, one_there}
use Rattle.gl_api.proofs.searching.push_at.Goals as goal

pub returns-in_default : goal.returns-in_default
returns-in_default c =
    none_there (live_of c.args.messages.now.items) (live_of c.args.live.now) c.args.place
    (slice_get-map seen_of c.args.live.now c.args.place ∙ ap (option_map seen_of) (sym (got c.args.live.now c.args.place None c.in_default.ensures.lookup)))

pub returns : goal.returns
returns c =
    let before = c.args.messages.now.items in
    let message = c.in-Some.message.now in
    ap live_of c.in_ok-push.ensures.items ∙ map-append seen_of before (message ∷ [])
    ∙ one_there (live_of before) (live_of c.args.live.now) c.args.place (seen_of message)
    (slice_get-map seen_of c.args.live.now c.args.place ∙ ap (option_map seen_of) (sym (got c.args.live.now c.args.place (Some c.in-Some.message) c.in-Some.ensures.lookup)))
