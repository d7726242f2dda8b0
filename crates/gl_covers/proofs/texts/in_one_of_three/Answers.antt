-- What was found in the first two, and then in the third.
use Rattle.std.proofs.Common.{[], ◌∷◌, ◌∙◌, codes}
use Rattle.gl_covers.specs.Covers.{token_in}
use Rattle.gl_covers.proofs.Texting.{in_field, lower}
use Rattle.gl_covers.proofs.texts.in_one_of_three.Goals as goal

pub returns : goal.returns
returns c = λ rows stands.
    let token = lower c.args.token.now in
    let message = token_in (codes "message" ∷ []) token in
    let full_message = token_in (codes "full_message" ∷ []) token in
    let source = token_in (codes "source" ∷ []) token in
    let both = c.in_ok-both.ensures rows message full_message stands.rising
    (in_field rows token c.positions-message.result.now c.as_slice.result.now (codes "message") c.as_slice.ensures (c.positions-message.ensures rows stands c.requires))
    (in_field rows token c.positions-full_message.result.now c.as_slice-2.result.now (codes "full_message") c.as_slice-2.ensures (c.positions-full_message.ensures rows stands c.requires)) in
    c.merged-2.ensures rows (token_in (codes "message" ∷ codes "full_message" ∷ []) token) source stands.rising (c.as_slice-4.ensures ∙ both)
    (in_field rows token c.positions-source.result.now c.as_slice-3.result.now (codes "source") c.as_slice-3.ensures (c.positions-source.ensures rows stands c.requires))
