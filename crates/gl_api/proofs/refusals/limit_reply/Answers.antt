-- Member by member.
use Rattle.std.proofs.Common.{◌≡◌, ℕ, List, [], ◌∷◌, subst}
use Rattle.std.specs.Prelude.{codes, IfOk}
use Rattle.gl_http.specs.declared.reply.Reply.{Reply}
use Rattle.gl_bodies.specs.Json.{Member, count_at, text_at}
use Rattle.gl_bodies.specs.Replies.{error, reply}
use Rattle.gl_api.proofs.refusals.limit_reply.Goals as goal

pub returns : goal.returns
returns c =
    let first : Member = error (codes "Limit") in
    let second : Member = count_at (codes "limit") c.args.limit in
    let third : List ℕ → Member = text_at (codes "which") in
    let one = c.in_ok-put_text.ensures [] c.in_ok-body.ensures in
    let two = c.in_ok-put_number.ensures (first ∷ []) one in
    let three = c.in_ok-put_text-2.ensures (first ∷ second ∷ []) two in
    subst (λ (name : List ℕ). IfOk c.finish.result (λ (r : Reply). r ≡ reply 422 (first ∷ second ∷ third name ∷ []))) c.bound_name.ensures
    (c.finish.ensures (first ∷ second ∷ third c.bound_name.result.now ∷ []) three)
