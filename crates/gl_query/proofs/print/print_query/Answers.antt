use Rattle.std.proofs.Common.{rules, ◌≡◌, ◌∙◌, sym, subst, string_bytes, IsUtf8}
use Rattle.std.proofs.Common.{List}
use Rattle.gl_query.specs.declared.term.Node.{Node}
use Rattle.gl_query.specs.Tree.{Tree, polish}
use Rattle.gl_query.specs.Grammar.{IsQuery}
use Rattle.gl_query.specs.Printing.{tree_text}
use Rattle.gl_query.specs.QueryReading.{IsRead}
use Rattle.gl_query.proofs.Sound.{is_query}
use Rattle.gl_query.proofs.Writing.{prints_whole}
use Rattle.gl_query.proofs.Relexing.{lex}
use Rattle.gl_query.proofs.Rereading.{IsSpokenTree, reads_back}
use Rattle.gl_query.proofs.Polishing.{same_tree}
use Rattle.gl_query.proofs.Speaking.{text_spoken, utf8_tree}
use Rattle.gl_query.proofs.print.print_query.Goals as goal

spoken : (nodes : List Node) → IsRead nodes → (t : Tree) → nodes ≡ polish t → IsSpokenTree t
spoken nodes r t e = subst IsSpokenTree (same_tree r.tree t (sym r.nodes_are ∙ e)) (text_spoken r.text r.tree r.utf8 (is_query (lex r.text) r.tree r.read))

pub unreachable-requires : goal.unreachable-requires
unreachable-requires c =
    let r = c.as_slice.ensures.lawful in
    let text = prints_whole c.new-text.result.items c.push_node.new.out.items _ c.as_slice.result.now c.new-text.ensures.items c.in_ok-push_node.ensures.text r.tree (c.as_slice.ensures.nodes ∙ r.nodes_are) in
    let utf8 : IsUtf8 c.push_node.new.out.items = subst IsUtf8 (sym text) (utf8_tree r.tree (spoken c.args.query.now r r.tree r.nodes_are)) in
    search (rules, c.from_utf8.ensures.succeeds utf8)

pub returns : goal.returns
returns c =
    let r = c.as_slice.ensures.lawful in
    let bytes : string_bytes c.in-Ok.text ≡ c.push_node.new.out.items = search rules in
    let text : (t : Tree) → c.args.query.now ≡ polish t → string_bytes c.in-Ok.text ≡ tree_text t = λ t e. bytes ∙ prints_whole c.new-text.result.items c.push_node.new.out.items _ c.as_slice.result.now c.new-text.ensures.items c.in_ok-push_node.ensures.text t (c.as_slice.ensures.nodes ∙ e) in
    record {
      text = (r.tree, r.nodes_are, text r.tree r.nodes_are);
      only = text;
      reads_back = λ t e le. subst (λ x. IsQuery (lex x) t) (sym (text t e)) (reads_back t (spoken c.args.query.now r t e) le);
    }
