-- The compact text of canonical data reads back.
use Rattle.std.proofs.Common.{◌≡◌, ℕ, suc, ◌≤◌, max, List, [], Some, option_map, option_and_then, Less, Greater, refl, sym, ap, ap₂, ◌∙◌, arith, append-nil}
use Rattle.std.specs.Prelude.{⊤}
use Rattle.std.specs.Ordering.{nat_cmp, ordering_reverse}
use Rattle.std.specs.Cmp.Lexicographic.{slice_cmp}
use Rattle.std.proofs.lemmas.Cmp.{nat_list_cmp_total}
use Rattle.json.specs.Lex.{tokens}
use Rattle.json.specs.Json as json
use Rattle.json.specs.Tree as tree
use Rattle.json.proofs.Printed.Decimals.{IsNumber-decimal}
use Rattle.json.proofs.Printed.Tokens.{tokens-print}
use Rattle.json.proofs.Printed.Trees.{value-json_tokens, ArePrintable-json_tokens}
use Rattle.serde_json.specs.Data.{unsigned, negative, float, Data, null, boolean, number, string, array, object, Items, no_items, item, Members, no_members, member, put, depth, items_depth, members_depth}
use Rattle.serde_json.specs.Read.{read, max_depth, of_json, of_items, of_members}
use Rattle.serde_json.specs.Written.{outline, items_outline, members_outline, compact_text}
use Rattle.serde_json.proofs.Numbers.{number_of-decimal}
use Rattle.serde_json.proofs.Texts.{print-outline}
use Rattle.gl_commands.proofs.Canonical.{ComesFirst, IsCanonical, AreCanonical, AreMembers}

-- the outline's shape

mutual
  depth_same : (d : Data) → tree.depth (outline d) ≡ depth d
  depth_same null = refl
  depth_same (boolean b) = refl
  depth_same (number n) = refl
  depth_same (string s) = refl
  depth_same (array ds) = ap suc (items_depth_same ds)
  depth_same (object ms) = ap suc (members_depth_same ms)

  items_depth_same : (ds : Items) → tree.items_depth (items_outline ds) ≡ items_depth ds
  items_depth_same no_items = refl
  items_depth_same (item d ds) = ap₂ max (depth_same d) (items_depth_same ds)

  members_depth_same : (ms : Members) → tree.members_depth (members_outline ms) ≡ members_depth ms
  members_depth_same no_members = refl
  members_depth_same (member k d ms) = ap₂ max (depth_same d) (members_depth_same ms)

mutual
  has_numbers : (d : Data) → IsCanonical d → tree.HasNumbers (outline d)
  has_numbers null h = tt
  has_numbers (boolean b) h = tt
  has_numbers (number (unsigned n)) h = IsNumber-decimal n h
  has_numbers (number (negative z)) h = absurd h
  has_numbers (number (float x)) h = absurd h
  has_numbers (string s) h = tt
  has_numbers (array ds) h = items_have_numbers ds h
  has_numbers (object ms) h = members_have_numbers ms h

  items_have_numbers : (ds : Items) → AreCanonical ds → tree.ItemsHaveNumbers (items_outline ds)
  items_have_numbers no_items h = tt
  items_have_numbers (item d ds) h = (has_numbers d h.0, items_have_numbers ds h.1)

  members_have_numbers : (ms : Members) → AreMembers ms → tree.MembersHaveNumbers (members_outline ms)
  members_have_numbers no_members h = tt
  members_have_numbers (member k d ms) h = (has_numbers d h.1, members_have_numbers ms h.2)

-- members that go in one after another

abbrev join : Members → Members → Members
join no_members ms = ms
join (member l e xs) ms = member l e (join xs ms)

abbrev only : List ℕ → Data → Members
only k d = member k d no_members

-- each key of the members comes before this one
abbrev Below : Members → List ℕ → Type 0
Below no_members k = ⊤
Below (member l e xs) k = (slice_cmp nat_cmp l k ≡ Less) × Below xs k

abbrev Apart : Members → Members → Type 0
Apart found no_members = ⊤
Apart found (member k d ms) = Below found k × Apart found ms

put_above : (k : List ℕ) (d : Data) (found : Members) → Below found k → put k d found ≡ join found (only k d)
put_above k d no_members h = refl
put_above k d (member l e xs) h =
    let above : slice_cmp nat_cmp k l ≡ Greater = nat_list_cmp_total.antisymm k l ∙ ap ordering_reverse h.0 in
    rw above (ap (member l e) (put_above k d xs h.1))

below_more : (found : Members) (k : List ℕ) (d : Data) (m : List ℕ) → Below found m → slice_cmp nat_cmp k m ≡ Less → Below (join found (only k d)) m
below_more no_members k d m h e = (e, tt)
below_more (member l x xs) k d m h e = (h.0, below_more xs k d m h.1 e)

apart_more : (found : Members) (k : List ℕ) (d : Data) (ms : Members) → Apart found ms → ComesFirst k ms → Apart (join found (only k d)) ms
apart_more found k d no_members h e = tt
apart_more found k d (member m x ms) h e = (below_more found k d m h.0 e.0, apart_more found k d ms h.1 e.1)

join_more : (found : Members) (k : List ℕ) (d : Data) (ms : Members) → join (join found (only k d)) ms ≡ join found (member k d ms)
join_more no_members k d ms = refl
join_more (member l e xs) k d ms = ap (member l e) (join_more xs k d ms)

join-none : (ms : Members) → join ms no_members ≡ ms
join-none no_members = refl
join-none (member l e xs) = ap (member l e) (join-none xs)

apart_none : (ms : Members) → Apart no_members ms
apart_none no_members = tt
apart_none (member k d ms) = (tt, apart_none ms)

mutual
  of_outline : (d : Data) → IsCanonical d → of_json (outline d) ≡ Some d
  of_outline null h = refl
  of_outline (boolean b) h = refl
  of_outline (number (unsigned n)) h = ap (option_map number) (number_of-decimal n h)
  of_outline (number (negative z)) h = absurd h
  of_outline (number (float x)) h = absurd h
  of_outline (string s) h = refl
  of_outline (array ds) h = ap (option_map array) (of_items_outline ds h)
  of_outline (object ms) h = ap (option_map object) (of_members_outline ms no_members h (apart_none ms))

  of_items_outline : (ds : Items) → AreCanonical ds → of_items (items_outline ds) ≡ Some ds
  of_items_outline no_items h = refl
  of_items_outline (item d ds) h =
      ap (option_and_then (λ x. option_map (item x) (of_items (items_outline ds)))) (of_outline d h.0) ∙ ap (option_map (item d)) (of_items_outline ds h.1)

  of_members_outline : (ms found : Members) → AreMembers ms → Apart found ms → of_members (members_outline ms) found ≡ Some (join found ms)
  of_members_outline no_members found h apart = ap Some (sym (join-none found))
  of_members_outline (member k d ms) found h apart =
      ap (option_and_then (λ x. of_members (members_outline ms) (put k x found))) (of_outline d h.1)
      ∙ ap (of_members (members_outline ms)) (put_above k d found apart.0)
      ∙ of_members_outline ms (join found (only k d)) h.2 (apart_more found k d ms apart.1 h.0)
      ∙ ap Some (join_more found k d ms)

pub read-compact_text : (d : Data) → IsCanonical d → depth d ≤ max_depth → read (compact_text d) ≡ Some d
read-compact_text d h shallow =
    let ts = tree.json_tokens (outline d) in
    let same : tokens (compact_text d) ≡ ts = ap tokens (sym (print-outline d)) ∙ tokens-print ts (ArePrintable-json_tokens (outline d) (has_numbers d h)) in
    ap (λ us. option_and_then of_json (option_and_then (λ p. json.if_last p.0 p.1) (json.value max_depth us))) (same ∙ sym (append-nil ts))
    ∙ ap (λ r. option_and_then of_json (option_and_then (λ p. json.if_last p.0 p.1) r)) (value-json_tokens (outline d) max_depth [] (omega (arith, depth_same d)))
    ∙ of_outline d h
