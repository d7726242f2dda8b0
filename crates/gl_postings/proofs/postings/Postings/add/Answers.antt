-- Both have it, or both are as they were.
use Rattle.std.proofs.Common.{List, [], ◌∷◌, ◌++◌, subst, ◌∙◌}
use Rattle.std.proofs.lemmas.List.{append-nil}
use Rattle.gl_indexset.specs.declared.row.Row.{Row}
use Rattle.gl_words.specs.Words as kept_words
use Rattle.gl_postings.proofs.Coming.{at_err, held_in_middle}
use Rattle.gl_postings.proofs.Leaving.{without_middle}
use Rattle.gl_postings.proofs.postings.Postings.add.Goals as goal

pub returns-in_err-add-clause-err : goal.returns-in_err-add-clause-err
returns-in_err-add-clause-err c = λ rows h below.
    at_err c.from_residual.result (record { rising = h.rising; words = c.in_err-add.ensures.err rows h.words below; moments = h.moments })

pub returns-in-Ok-clause-ok : goal.returns-in-Ok-clause-ok
returns-in-Ok-clause-ok c = λ rows h below.
    let words = c.in_ok-add.ensures.ok rows h.words below in
    record { rising = words.rising; words = words; moments = c.in-Ok.ensures.ok rows h.moments below }

pub returns-in-Err-clause-err : goal.returns-in-Err-clause-err
returns-in-Err-clause-err c = λ rows h below.
    let row = c.args.row.now in
    let words = c.in_ok-add.ensures.ok rows h.words below in
    record {
      rising = h.rising;
      words = subst (λ (xs : List Row). kept_words.StandsFor c.forget.new.self xs) (without_middle rows [] row words.rising ∙ append-nil rows)
          (c.forget.ensures (rows ++ row ∷ []) words (held_in_middle rows [] row));
      moments = c.in-Err.ensures.err rows h.moments;
    }
