use Rattle.std.proofs.Common.{Bor, String, Global, rules, ◌≡◌, ◌∙◌, List, ℕ, [], ◌∷◌, ◌++◌, sym, ap, map, subst}
use Rattle.std.specs.Map.Iter.{deref_pair}
use Rattle.std.proofs.lemmas.List.{map-append}
use Rattle.std.proofs.lemmas.Map.Iter.{rest_so_far, rest_more, iter_end}
use Rattle.gl_grok.specs.Tables.{table_of}
use Rattle.gl_settings.specs.Limits.{Refuses}
use Rattle.gl_config.specs.Applying.{Cause, first_of, grok_cause}
use Rattle.gl_config.proofs.Patterns.{pair}
use Rattle.gl_config.proofs.Refusing.{exit, firsts_pushed, firsts_in}
use Rattle.gl_config.proofs.texts.check_named.Goals as goal

pub loop-name-preserved : goal.loop-name-preserved
loop-name-preserved c =
    let f = λ (entry : List ℕ × List ℕ). grok_cause (table_of c.args.groks.now) entry.1 in
    let xs = c.loop-name.yielded in
    let x : Bor (String Global) × Bor (String Global) = (c.in-Some.name, c.in-Some.pattern) in
    ap (λ (es : List (List ℕ × List ℕ)). first_of (map f es))
    (ap (map pair) (map-append deref_pair xs (x ∷ [])) ∙ map-append pair (map deref_pair xs) (deref_pair x ∷ []))
    ∙ firsts_pushed f (map pair (map deref_pair xs)) (pair (deref_pair x)) c.loop-name.invariant
    (ap (grok_cause (table_of c.args.groks.now)) (sym c.as_str.ensures.value) ∙ c.in_ok-check_pattern.ensures.ok)

pub returns-in_err-check_pattern-clause-err : goal.returns-in_err-check_pattern-clause-err
returns-in_err-check_pattern-clause-err c =
    let f = λ (entry : List ℕ × List ℕ). grok_cause (table_of c.args.groks.now) entry.1 in
    let xs = c.loop-name.yielded in
    let x : Bor (String Global) × Bor (String Global) = (c.in-Some.name, c.in-Some.pattern) in
    let start : c.into_iter-name-iterator.result ≡ c.args.groks.now.entries = search rules in
    let behind : c.loop-name.name-iterator ≡ deref_pair x ∷ c.next.new.self = rest_more deref_pair c.loop-name.name-iterator c.next.new.self c.next.result x c.in-Some.is c.next.ensures.steps in
    let all : c.args.groks.now.entries ≡ map deref_pair xs ++ deref_pair x ∷ c.next.new.self =
    sym start ∙ rest_so_far deref_pair xs c.into_iter-name-iterator.result c.loop-name.name-iterator c.loop-name.yielded_by ∙ ap (λ rest. map deref_pair xs ++ rest) behind in
    exit c.from_residual.result c.in_err-check_pattern.field-0.0 _ c.from_residual.ensures.1
    (subst (λ (a : Cause). Refuses a c.in_err-check_pattern.field-0.0)
    (sym (ap (λ (es : List _). first_of (map f es)) (ap (map pair) all ∙ map-append pair (map deref_pair xs) (deref_pair x ∷ c.next.new.self))))
    (firsts_in f (map pair (map deref_pair xs)) (pair (deref_pair x)) (map pair c.next.new.self) c.in_err-check_pattern.field-0.0 c.loop-name.invariant
    (subst (λ (p : List ℕ). Refuses (grok_cause (table_of c.args.groks.now) p) c.in_err-check_pattern.field-0.0) c.as_str.ensures.value c.in_err-check_pattern.ensures.err)))

pub returns-clause-ok : goal.returns-clause-ok
returns-clause-ok c =
    let f = λ (entry : List ℕ × List ℕ). grok_cause (table_of c.args.groks.now) entry.1 in
    let all : map deref_pair c.loop-name.yielded ≡ c.args.groks.now.entries = search (rules, iter_end) in
    ap (λ (es : List _). first_of (map f (map pair es))) (sym all) ∙ c.loop-name.invariant
