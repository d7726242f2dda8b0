use Rattle.std.proofs.Common.{rules, ◌≡◌, ◌+◌, ◌++◌, ◌∷◌, [], List, ℕ, drop, refl, sym, ap, subst, ◌∙◌, append_assoc, arith}
use Rattle.std.specs.Prelude.{OnOk}
use Rattle.std.specs.String.{string_bytes}
use Rattle.std.proofs.lemmas.List.{drop_more}
use Rattle.gl_rulelang.specs.Tree.{call_of, tree_of, args_view, row, Arguments}
use Rattle.gl_rulelang.specs.Printing.{call_text, listed, name_text, tree_text}
use Rattle.gl_rulelang.specs.declared.rule.Call.{the_lemmas}
use Rattle.gl_rulelang.proofs.print.+print.Goals as goal

pub push_call-returns : goal.push_call-returns
push_call-returns t c =
    let same : row (args_view c.deref.result.now) ≡ (call_of c.args.call.now).1 = search (rules, the_lemmas) in
    subst (λ (given : Arguments). OnOk c.push_parts.result (string_bytes c.push_parts.new.out ≡ string_bytes c.args.out.now ++ call_text (call_of c.args.call.now).0 given)) same (search (rules, the_lemmas))

pub push_arguments-loop-name-preserved : goal.push_arguments-loop-name-preserved
unfolding lib.Utf8.encode
push_arguments-loop-name-preserved t c =
    let xs = c.args.arguments.now in
    let i = c.loop-name.name-index in
    let x = c.loop-name-item.result in
    let here : drop i xs ≡ x ∷ drop (i + 1) xs = drop_more xs i x (omega arith) ∙ ap (λ y. y ∷ drop (i + 1) xs) (sym c.loop-name-item.is) in
    let old = string_bytes c.loop-name.out in
    let b = c.loop-name.before.now in
    let n = name_text x.0 in
    let e = tree_text (tree_of x.1) in
    let behind = listed (44 ∷ 32 ∷ []) (row (args_view (drop (i + 1) xs))) in
    let unrolled : listed b (row (args_view (drop i xs))) ≡ b ++ (n ++ (e ++ behind)) = ap (λ ys. listed b (row (args_view ys))) here in
    let first : string_bytes c.push_str.new.self ≡ old ++ b = search rules in
    let second : string_bytes c.push_name.new.out ≡ string_bytes c.push_str.new.self ++ n = c.in_ok-push_name.ensures in
    let third : string_bytes c.push_tree.new.out ≡ string_bytes c.push_name.new.out ++ e = c.in_ok-push_tree.ensures in
    let all : string_bytes c.push_tree.new.out ≡ ((old ++ b) ++ n) ++ e = third ∙ ap (λ (y : List ℕ). y ++ e) (second ∙ ap (λ (y : List ℕ). y ++ n) first) in
    let grouped : (((old ++ b) ++ n) ++ e) ++ behind ≡ old ++ (b ++ (n ++ (e ++ behind))) = simp append_assoc in
    (ap (λ (y : List ℕ). y ++ behind) all ∙ grouped ∙ ap (λ (y : List ℕ). old ++ y) (sym unrolled) ∙ c.loop-name.invariant.0, (44 ∷ 32 ∷ [], (refl, refl)))
