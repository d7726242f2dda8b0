use Rattle.std.proofs.Common.{Bor, List, ℕ, String, Global, rules, ◌≡◌, ◌≢◌, ◌↔◌, ◌∙◌, [], ◌∷◌, ◌++◌, true, false, sym, ap, map}
use Rattle.std.specs.Prelude.{is_none}
use Rattle.std.specs.Map.Iter.{deref_pair}
use Rattle.std.proofs.lemmas.List.{map-append}
use Rattle.std.proofs.lemmas.Map.Iter.{rest_so_far, rest_more, iter_end}
use Rattle.std.specs.String.{string_bytes}
use Rattle.gl_lookup.specs.Tables.{Pair}
use Rattle.gl_settings.specs.Settings.{tables_of}
use Rattle.gl_history.specs.Entries.{entries_of}
use Rattle.gl_history.proofs.Coming.{differs, none_left, ended, not_so}
use Rattle.gl_history.proofs.same.same_tables.Goals as goal

pub returns-then-not-comes_next : goal.returns-then-not-comes_next
returns-then-not-comes_next c =
    let xs = c.loop-name.yielded in
    let x : Bor (String Global) × Bor (List Pair) = (c.in-Some.name, c.in-Some.table) in
    let start : c.into_iter-name-iterator.result ≡ c.args.tables.now.entries = search rules in
    let behind : c.loop-name.name-iterator ≡ deref_pair x ∷ c.next.new.self = rest_more deref_pair c.loop-name.name-iterator c.next.new.self c.next.result x c.in-Some.is c.next.ensures.steps in
    let all : c.args.tables.now.entries ≡ map deref_pair xs ++ deref_pair x ∷ c.next.new.self =
    sym start ∙ rest_so_far deref_pair xs c.into_iter-name-iterator.result c.loop-name.name-iterator c.loop-name.yielded_by ∙ ap (λ rest. map deref_pair xs ++ rest) behind in
    let here : tables_of c.args.tables.now ≡ entries_of (map deref_pair xs) ++ (c.as_str.result.now, c.in-Some.table.now) ∷ entries_of c.next.new.self =
    ap entries_of all
    ∙ map-append (λ (d : String Global × List Pair). (string_bytes d.0, d.1)) (map deref_pair xs) (deref_pair x ∷ c.next.new.self)
    ∙ (λ i. entries_of (map deref_pair xs) ++ (sym c.as_str.ensures.value i, c.in-Some.table.now) ∷ entries_of c.next.new.self) in
    let not : c.comes_next.result ≡ false = search rules in
    let apart : (l : List (List ℕ × List Pair)) → entries_of c.loop-name.rest ≢ (c.as_str.result.now, c.in-Some.table.now) ∷ l
    = not_so c.comes_next.result _ _ c.comes_next.ensures not in (
      λ h. cc h,
      λ same. absurd (differs (tables_of c.args.tables.now) (tables_of c.args.others.now) (entries_of (map deref_pair xs)) (entries_of c.next.new.self)
          (entries_of c.loop-name.rest) (c.as_str.result.now, c.in-Some.table.now) here c.loop-name.invariant apart same),
    )

pub returns : goal.returns
returns c =
    let all : map deref_pair c.loop-name.yielded ≡ c.args.tables.now.entries = search (rules, iter_end) in
    let left : (entries_of c.loop-name.rest ≡ []) ↔ (tables_of c.args.tables.now ≡ tables_of c.args.others.now) =
    none_left (tables_of c.args.tables.now) (tables_of c.args.others.now) (entries_of (map deref_pair c.loop-name.yielded)) (entries_of c.loop-name.rest)
    (ap entries_of (sym all)) c.loop-name.invariant in
    let end : (is_none c.next-2.result ≡ true) ↔ (entries_of c.loop-name.rest ≡ []) = ended deref_pair c.loop-name.rest c.next-2.new.self c.next-2.result c.next-2.ensures.steps in
    let told : c.is_none.result ≡ is_none c.next-2.result = search rules in
    (λ h. left.0 (end.0 (sym told ∙ h)), λ same. told ∙ end.1 (left.1 same))
