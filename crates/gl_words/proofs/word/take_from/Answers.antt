use Rattle.std.proofs.Common.{refl, sym, ap, ◌∙◌, position}
use Rattle.gl_words.specs.Positions.{without_position}
use Rattle.gl_words.specs.declared.word.Word.{Word}
use Rattle.gl_words.proofs.Finding.{is_named, lower, none_changes, set_changes}
use Rattle.gl_words.proofs.word.take_from.Goals as goal

pub returns-in-Some : goal.returns-in-Some
returns-in-Some c =
    let token = lower c.args.token.now in
    set_changes c.args.field.now token (without_position c.args.position) c.args.words.now.items c.in-Some.at c.index_mut.result.now
    (record { field = c.index_mut.result.now.field; token = c.index_mut.result.now.token; positions = c.take_out.new.self })
    (sym (c.in-Some.ensures ∙ ap (position (is_named c.args.field.now token)) c.as_slice.ensures.value))
    (ap (λ (w : Word). w.field) c.index_mut.ensures.value) (ap (λ (w : Word). w.token) c.index_mut.ensures.value)
    (c.take_out.ensures ∙ ap (λ (w : Word). without_position c.args.position w.positions) c.index_mut.ensures.value)

pub returns-in_default : goal.returns-in_default
returns-in_default c =
    let token = lower c.args.token.now in
    none_changes c.args.field.now token (without_position c.args.position) c.args.words.now.items
    (sym (c.in_default.ensures ∙ ap (position (is_named c.args.field.now token)) c.as_slice.ensures.value)) refl
