-- One message more, and the page.
use Rattle.std.proofs.Common.{◌≡◌, ◌+◌, ◌<◌, ◌≤◌, cond, List, [], ◌∷◌, ◌++◌, length, get_or, refl, sym, ◌∙◌, ap, arith}
use Rattle.std.proofs.lemmas.List.{length-map}
use Rattle.std.proofs.lemmas.Result.{IfOk-weaker}
use Rattle.gl_pages.specs.Pages.{finds}
use Rattle.gl_pages.specs.declared.hits.Hit.{Hit}
use Rattle.gl_sight.specs.Finding.{live_of, seen_of}
use Rattle.gl_sight.specs.Sight.{Seen}
use Rattle.gl_sight.proofs.Placing.{get_or-map, hit_of, hits_from, none_left, one_more, places_are, total_is}
use Rattle.gl_sight.proofs.live.search.Goals as goal

pub loop-place-init : goal.loop-place-init
loop-place-init c = λ t q. ap (λ (hs : List Hit). hs ++ hits_from c.args.ask.now t 0 (live_of c.args.live.now)) c.new-hits.ensures

pub loop-place-preserved : goal.loop-place-preserved
loop-place-preserved c = λ t q.
    let k = c.loop-place.place in
    let d = seen_of c.index-live-place.result in
    let messages = live_of c.args.live.now in
    let here : d ≡ get_or messages k d = ap seen_of c.index-live-place.is ∙ sym (get_or-map seen_of c.args.live.now k c.index-live-place.result) in
    let long : length messages ≡ length c.args.live.now = length-map c.args.live.now seen_of in
    let lt : k < length messages = omega (arith, long, c.loop-place-test.true) in
    one_more c.args.ask.now t messages k (k + 1) d c.loop-place.hits c.meet.new.self (hits_from c.args.ask.now t 0 messages) lt refl
    (c.in_ok-meet.ensures.ok t q ∙ ap (λ (m : Seen). c.loop-place.hits ++ cond (finds c.args.ask.now t m.streams m.fields) (hit_of (k, m) ∷ []) []) here)
    (c.loop-place.invariant t q)

pub returns-clause-total : goal.returns-clause-total
returns-clause-total c = λ t q.
    let messages = live_of c.args.live.now in
    let past : length messages ≤ c.loop-place.place = omega (arith, length-map c.args.live.now seen_of, c.loop-place-test.false) in
    let are = none_left c.args.ask.now t messages c.loop-place.place c.loop-place.hits (hits_from c.args.ask.now t 0 messages) past (c.loop-place.invariant t q) in
    IfOk-weaker c.into_page.result _ _ (λ page is. total_is c.args.ask.now t messages c.loop-place.hits page are is) c.into_page.ensures

pub returns-clause-places : goal.returns-clause-places
returns-clause-places c = λ t q.
    let messages = live_of c.args.live.now in
    let past : length messages ≤ c.loop-place.place = omega (arith, length-map c.args.live.now seen_of, c.loop-place-test.false) in
    let are = none_left c.args.ask.now t messages c.loop-place.place c.loop-place.hits (hits_from c.args.ask.now t 0 messages) past (c.loop-place.invariant t q) in
    IfOk-weaker c.into_page.result _ _ (λ page is. places_are c.args.ask.now t messages c.loop-place.hits page are is) c.into_page.ensures
