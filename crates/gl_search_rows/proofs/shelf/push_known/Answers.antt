use Rattle.std.proofs.Common.{◌≡◌, ℕ, true, List, subst, sym}
use Rattle.std.proofs.lemmas.List.Elements.{All-push}
use Rattle.std.proofs.lemmas.Result.{on_ok_weaker}
use Rattle.gl_indexset.specs.Kept.{AreKnown, is_known}
use Rattle.gl_postings.specs.Indexed.{rules_in}
use Rattle.gl_search_rows.proofs.shelf.push_known.Goals as goal

pub returns : goal.returns
returns c =
    on_ok_weaker c.push.result
    (λ is. subst (AreKnown (rules_in c.args.index.now)) (sym is) (All-push (λ (name : List ℕ). is_known (rules_in c.args.index.now) name ≡ true) c.args.found.now c.args.name c.requires.others c.requires.known))
    c.push.ensures.ok
