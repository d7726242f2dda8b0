-- The live rows are those that the sets have.
use Rattle.std.proofs.Common.{◌≡◌, ◌+◌, ◌≤◌, List, sym, subst}
use Rattle.std.specs.Result.{IfOk}
use Rattle.gl_indexset.specs.declared.row.Row.{Row}
use Rattle.gl_postings.specs.Postings.{StandsFor}
use Rattle.gl_postings.specs.Bound.{most_steps}
use Rattle.gl_postings.specs.Found.{page_of}
use Rattle.gl_postings.proofs.Coming.{live_are}
use Rattle.gl_postings.proofs.indexed.Indexed.search.Goals as goal

pub search_rows-requires : goal.search_rows-requires
search_rows-requires g c =
    let stands = c.requires.2 in
    subst (λ (rows : List Row). StandsFor c.args.self.now.words rows) (sym (live_are c.args.self.now.sets c.requires.0 c.requires.1 stands.sets)) stands.words

pub returns-clause-page : goal.returns-clause-page
returns-clause-page g c = λ rules all t stands q.
    subst (λ (rows : List Row). IfOk c.search_rows.result (λ page. page ≡ page_of c.args.ask.now t rows)) (live_are c.args.self.now.sets rules all stands.sets) (c.search_rows.ensures.page t q)

pub returns-clause-bound : goal.returns-clause-bound
returns-clause-bound g c = λ rules all t stands q.
    subst (λ (rows : List Row). c.search_rows.new.steps ≤ c.args.steps.now + most_steps c.args.ask.now t rows) (live_are c.args.self.now.sets rules all stands.sets) (c.search_rows.ensures.bound t q)
