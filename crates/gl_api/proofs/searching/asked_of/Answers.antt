-- Not permitted, read, or refused.
use Rattle.std.proofs.Common.{◌≡◌, true, false, ◌∙◌, ap, sym, rules}
use Rattle.std.specs.Prelude.{Some, Ok}
use Rattle.gl_query.specs.QueryReading.{units}
use Rattle.gl_query.specs.Refusals.{refusal_of}
use Rattle.gl_query.specs.Tokens.{tokens_of}
use Rattle.gl_api.specs.Search.{are_permitted, query_in}
use Rattle.gl_api.proofs.Asking.{asks, bad_query, not_permitted, query_is, told}
use Rattle.gl_api.proofs.searching.asked_of.Goals as goal

pub returns-then-not-are_permitted : goal.returns-then-not-are_permitted
returns-then-not-are_permitted c =
    let none : are_permitted c.args.permitted.now c.args.request.chosen ≡ false = search rules in
    not_permitted c.args.permitted.now c.args.request _ none c.in_ok-not_permitted_reply.ensures

pub returns-in-Ok : goal.returns-in-Ok
returns-in-Ok c =
    let tree = c.in-Ok.ensures.tree in
    let all : are_permitted c.args.permitted.now c.args.request.chosen ≡ true = search rules in
    let query : query_in c.args.request.query ≡ Ok tree.0 =
    ap query_in (sym c.as_str.ensures) ∙ query_is c.as_str.result.now tree.0 c.in-Ok.ensures.read (c.law_one_tree.ensures.built (units (tokens_of c.as_str.result.now)) tree.0 tree.1) in
    asks c.args.permitted.now c.args.request tree.0 _ all query (c.in_ok-ask_of-in-Ok.ensures tree.0 tree.2)

pub returns-in-Err-BadQuery : goal.returns-in-Err-BadQuery
returns-in-Err-BadQuery c =
    let all : are_permitted c.args.permitted.now c.args.request.chosen ≡ true = search rules in
    let place = c.in-Err-BadQuery.at in
    let refused : refusal_of c.as_str.result.now ≡ Some place = told place (refusal_of c.as_str.result.now) (rw c.in-Err-BadQuery.field-0-is at c.in-Err-BadQuery.ensures.refused) in
    bad_query c.args.permitted.now c.args.request _ place all (ap refusal_of (sym c.as_str.ensures) ∙ refused) c.in_ok-bad_query_reply-in-Err-BadQuery.ensures
