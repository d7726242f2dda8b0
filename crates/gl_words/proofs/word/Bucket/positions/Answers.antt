use Rattle.std.proofs.Common.{sym, ap, ◌∙◌}
use Rattle.std.proofs.Common.{position}
use Rattle.gl_words.specs.Inside.{positions_of}
use Rattle.gl_words.specs.declared.word.Word.{Word}
use Rattle.gl_words.proofs.Finding.{first_from, found_at, found_none, is_named, lower, others_from}
use Rattle.gl_words.proofs.word.Bucket.positions.Goals as goal

pub returns-in-Some : goal.returns-in-Some
returns-in-Some c =
    let token = lower c.args.token.now in
    c.as_slice-in-Some.ensures
    ∙ ap (λ (w : Word). w.positions) c.index.ensures
    ∙ sym (found_at c.args.field.now token c.self.inside.words.items c.in-Some.at c.index.result.now
    (first_from c.args.field.now token c.self.inside.words.items c.in-Some.at c.index.result.now (sym (c.in-Some.ensures ∙ ap (position (is_named c.args.field.now token)) c.as_slice.ensures.value))))
    ∙ ap (positions_of c.args.field.now token) c.self.view_is

pub returns-in-None : goal.returns-in-None
returns-in-None c =
    let token = lower c.args.token.now in
    ap (positions_of c.args.field.now token) (sym c.self.view_is)
    ∙ found_none c.args.field.now token c.self.inside.words.items
    (others_from c.args.field.now token c.self.inside.words.items (sym (c.in-None.ensures ∙ ap (position (is_named c.args.field.now token)) c.as_slice.ensures.value)))
