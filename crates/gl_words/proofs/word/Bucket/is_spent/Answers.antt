use Rattle.std.proofs.Common.{sym, ap, ◌∙◌, ◌==◌, length}
use Rattle.std.specs.List.{list_all}
use Rattle.gl_words.specs.Inside.{positions_of}
use Rattle.gl_words.specs.declared.word.Word.{Word}
use Rattle.gl_words.proofs.Finding.{none_left}
use Rattle.gl_words.proofs.word.Bucket.is_spent.Goals as goal

pub returns : goal.returns
returns c = λ spent g s.
    ap (positions_of g s) (sym c.self.view_is)
    ∙ none_left c.self.inside.words.items (sym (c.are_spent.ensures ∙ ap (list_all (λ (w : Word). length w.positions == 0)) c.as_slice.ensures.value) ∙ spent) g s
