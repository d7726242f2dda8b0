-- Data whose compact text reads back.
use Rattle.std.specs.Prelude.{◌≡◌, ◌<◌, ◌^◌, ℕ, List, ⊤}
use Rattle.std.specs.Ordering.{nat_cmp}
use Rattle.std.specs.Cmp.Lexicographic.{slice_cmp}
use Rattle.std.specs.declared.cmp.Ordering.TheVariants.{Less}
use Rattle.serde_json.specs.Data.{Num, unsigned, negative, float, Data, null, boolean, number, string, array, object, Items, no_items, item, Members, no_members, member}

abbrev pub IsWhole : Num → Type 0
IsWhole (unsigned n) = n < 2 ^ 64
IsWhole (negative z) = ⊥
IsWhole (float x) = ⊥

-- the key comes before each of the members'
abbrev pub ComesFirst : List ℕ → Members → Type 0
ComesFirst k no_members = ⊤
ComesFirst k (member l d ms) = (slice_cmp nat_cmp k l ≡ Less) × ComesFirst k ms

-- whole numbers, and keys that rise
abbrev mutual
  pub IsCanonical : Data → Type 0
  IsCanonical null = ⊤
  IsCanonical (boolean b) = ⊤
  IsCanonical (number n) = IsWhole n
  IsCanonical (string s) = ⊤
  IsCanonical (array ds) = AreCanonical ds
  IsCanonical (object ms) = AreMembers ms

  pub AreCanonical : Items → Type 0
  AreCanonical no_items = ⊤
  AreCanonical (item d ds) = IsCanonical d × AreCanonical ds

  pub AreMembers : Members → Type 0
  AreMembers no_members = ⊤
  AreMembers (member k d ms) = ComesFirst k ms × IsCanonical d × AreMembers ms
