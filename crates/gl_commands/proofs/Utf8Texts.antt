-- The compact text of data with texts is a text.
use Rattle.std.proofs.Common.{ℕ, List, [], ◌∷◌, Bool, true, false, IsUtf8, refl}
use Rattle.std.proofs.lemmas.Str.{IsUtf8-append, IsUtf8-nil, IsUtf8-from_ascii}
use Rattle.std.proofs.lemmas.Fmt.{IsAscii-decimal}
use Rattle.json.specs.Print.{quoted}
use Rattle.json.proofs.Printed.Utf8.{IsUtf8-are_ascii, IsUtf8-quoted, IsUtf8-boolean}
use Rattle.serde_json.specs.Data.{unsigned, negative, float, Data, null, boolean, number, string, array, object, Items, no_items, item, Members, no_members, member}
use Rattle.serde_json.specs.Written.{comma_if, compact_text, items_text, members_text}
use Rattle.gl_commands.proofs.Canonical.{IsCanonical, AreCanonical, AreMembers}
use Rattle.gl_commands.specs.Texts.{HasTexts, ItemsHaveTexts, MembersHaveTexts}

sign : (x : ℕ) → IsUtf8 (x ∷ []) → (xs : List ℕ) → IsUtf8 xs → IsUtf8 (x ∷ xs)
sign x one xs h = IsUtf8-append (x ∷ []) xs one h

comma : (later : Bool) → IsUtf8 (comma_if later)
comma true = IsUtf8-are_ascii (44 ∷ []) refl
comma false = IsUtf8-nil

mutual
  pub IsUtf8-compact_text : (d : Data) → IsCanonical d → HasTexts d → IsUtf8 (compact_text d)
  IsUtf8-compact_text null h t = IsUtf8-are_ascii _ refl
  IsUtf8-compact_text (boolean b) h t = IsUtf8-boolean b
  IsUtf8-compact_text (number (unsigned n)) h t = IsUtf8-from_ascii _ (IsAscii-decimal n h)
  IsUtf8-compact_text (number (negative z)) h t = absurd h
  IsUtf8-compact_text (number (float x)) h t = absurd h
  IsUtf8-compact_text (string s) h t = IsUtf8-quoted s t
  IsUtf8-compact_text (array ds) h t = sign 91 (IsUtf8-are_ascii _ refl) _ (IsUtf8-items_text false ds h t)
  IsUtf8-compact_text (object ms) h t = sign 123 (IsUtf8-are_ascii _ refl) _ (IsUtf8-members_text false ms h t)

  IsUtf8-items_text : (later : Bool) (ds : Items) → AreCanonical ds → ItemsHaveTexts ds → IsUtf8 (items_text later ds)
  IsUtf8-items_text later no_items h t = IsUtf8-are_ascii (93 ∷ []) refl
  IsUtf8-items_text later (item d ds) h t =
      IsUtf8-append (comma_if later) _ (comma later) (IsUtf8-append (compact_text d) _ (IsUtf8-compact_text d h.0 t.0) (IsUtf8-items_text true ds h.1 t.1))

  IsUtf8-members_text : (later : Bool) (ms : Members) → AreMembers ms → MembersHaveTexts ms → IsUtf8 (members_text later ms)
  IsUtf8-members_text later no_members h t = IsUtf8-are_ascii (125 ∷ []) refl
  IsUtf8-members_text later (member k d ms) h t =
      IsUtf8-append (comma_if later) _ (comma later)
      (IsUtf8-append (quoted k) _ (IsUtf8-quoted k t.0)
      (sign 58 (IsUtf8-are_ascii _ refl) _ (IsUtf8-append (compact_text d) _ (IsUtf8-compact_text d h.1 t.1) (IsUtf8-members_text true ms h.2 t.2))))
