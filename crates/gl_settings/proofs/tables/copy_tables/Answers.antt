use Rattle.std.proofs.Common.{Bor, List, String, Global, rules, ◌≡◌, ◌∙◌, [], ◌∷◌, ◌++◌, sym, ap, map}
use Rattle.std.specs.BTreeMap.{insert_entry, IsOrdered}
use Rattle.std.specs.String.{string_cmp}
use Rattle.std.specs.Ordering.{nat_cmp}
use Rattle.std.specs.Cmp.Lexicographic.{slice_cmp}
use Rattle.std.specs.Map.Iter.{deref_pair}
use Rattle.std.proofs.lemmas.List.{map-append}
use Rattle.std.proofs.lemmas.Map.Iter.{rest_so_far, rest_more, iter_end}
use Rattle.gl_lookup.specs.Tables.{Pair}
use Rattle.gl_settings.proofs.Mapping.{entry, copied_more}
use Rattle.gl_settings.proofs.tables.copy_tables.Goals as goal

pub loop-name-preserved : goal.loop-name-preserved
loop-name-preserved c =
    let xs = c.loop-name.yielded in
    let x : Bor (String Global) × Bor (List Pair) = (c.in-Some.name, c.in-Some.table) in
    let start : c.into_iter-name-iterator.result ≡ c.args.tables.now.entries = search rules in
    let ordered : IsOrdered string_cmp c.args.tables.now = search rules in
    let behind : c.loop-name.name-iterator ≡ deref_pair x ∷ c.next.new.self = rest_more deref_pair c.loop-name.name-iterator c.next.new.self c.next.result x c.in-Some.is c.next.ensures.steps in
    let all : c.args.tables.now.entries ≡ map deref_pair xs ++ deref_pair x ∷ c.next.new.self =
    sym start ∙ rest_so_far deref_pair xs c.into_iter-name-iterator.result c.loop-name.name-iterator c.loop-name.yielded_by ∙ ap (λ rest. map deref_pair xs ++ rest) behind in
    c.in_ok-name_table.ensures
    ∙ (λ i. insert_entry (slice_cmp nat_cmp) (c.loop-name.invariant i) (c.as_str.ensures.value i) (c.in_ok-copy.ensures i))
    ∙ copied_more c.args.tables.now.entries (map deref_pair xs) (deref_pair x) c.next.new.self all ordered
    ∙ ap (map entry) (sym (map-append deref_pair xs (x ∷ [])))

pub returns : goal.returns
returns c =
    let all : map deref_pair c.loop-name.yielded ≡ c.args.tables.now.entries = search (rules, iter_end) in
    c.loop-name.invariant ∙ ap (map entry) all
