use Rattle.std.proofs.Common.{◌≡◌, ℕ, ◌≤◌, List, [], Ok, sym, subst}
use Rattle.gl_rulelang.specs.Tree.{Tree, height}
use Rattle.gl_rulelang.specs.Tokens.{Lexeme, Tokens}
use Rattle.gl_rulelang.specs.Grammar.{Begins, Spells}
use Rattle.gl_rulelang.specs.Expressions.{anywhere, wants, run}
use Rattle.gl_rulelang.proofs.Accepted.{expression_accepts}
use Rattle.gl_rulelang.proofs.laws.law_read_is_a_form.Goals as goal

as_form : (ts behind : Tokens) (t : Tree) → run ts [] (wants anywhere) ≡ Ok (t, behind) → Spells ts t behind
as_form ts behind t e =
    let a = expression_accepts ts t behind e in
    record {
      form = a.ended_so.form;
      lawful = a.ended_so.lawful;
      begins = subst (λ (xs : List Lexeme). Begins xs ts behind) (sym a.ended_so.spells) a.begins_so;
      means = a.ended_so.means;
      high = subst (λ (x : Tree). height x ≤ 64) a.ended_so.means a.ended_so.low;
      nests = a.ended_so.few;
    }

pub returns : goal.returns
returns c = as_form
