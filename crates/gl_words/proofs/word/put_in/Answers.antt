use Rattle.std.proofs.Common.{refl, sym, ap, ◌∙◌, position}
use Rattle.std.proofs.lemmas.Result.{on_ok_weaker}
use Rattle.gl_words.specs.Inside.{positions_of}
use Rattle.gl_words.specs.Positions.{with_position}
use Rattle.gl_words.specs.declared.word.Word.{Word}
use Rattle.gl_words.proofs.Finding.{is_named, lower, push_changes, set_changes}
use Rattle.gl_words.proofs.word.put_in.Goals as goal

pub returns-in-Some-clause-ok : goal.returns-in-Some-clause-ok
returns-in-Some-clause-ok c =
    let token = lower c.args.token.now in
    on_ok_weaker c.put.result
    (λ put. set_changes c.args.field.now token (with_position c.args.position) c.args.words.now.items c.in-Some.at c.index_mut.result.now
    (record { field = c.index_mut.result.now.field; token = c.index_mut.result.now.token; positions = c.put.new.self })
    (sym (c.in-Some.ensures ∙ ap (position (is_named c.args.field.now token)) c.as_slice.ensures.value))
    (ap (λ (w : Word). w.field) c.index_mut.ensures.value) (ap (λ (w : Word). w.token) c.index_mut.ensures.value)
    (put ∙ ap (λ (w : Word). with_position c.args.position w.positions) c.index_mut.ensures.value))
    c.put.ensures.ok

pub returns-in_ok-push-in-None-clause-ok : goal.returns-in_ok-push-in-None-clause-ok
returns-in_ok-push-in-None-clause-ok c = λ g s.
    let token = lower c.args.token.now in
    ap (positions_of g s) c.in_ok-push-in-None.ensures.items
    ∙ push_changes c.args.field.now token (with_position c.args.position) c.args.words.now.items c.in_ok-of-in-None.field-0
    (sym (c.in-None.ensures ∙ ap (position (is_named c.args.field.now token)) c.as_slice.ensures.value)) c.in_ok-of-in-None.ensures g s
