-- Areas that are written and synced one after another on an empty disk.
use Rattle.std.proofs.Common.{◌≡◌, ◌≢◌, inl, inr, ◌⊎◌, ℕ, suc, ◌+◌, ◌≤◌, ◌<◌, zero, Bool, true, false, if◌then◌else◌, List, [], ◌∷◌, ◌++◌, length, get_or, refl, sym, ◌∙◌, ap, subst, arith}
use Rattle.std.proofs.lemmas.Bool.{cases_eq}
use Rattle.std.proofs.lemmas.Bool.Decides.{nat_tests}
use Rattle.std.proofs.lemmas.List.{drop_all, append-nil}
use lib.Dec.{leb}
use Rattle.gl_outside.specs.declared.areas.Area.{Area}
use Rattle.gl_outside.specs.Areas.{bytes_in, index_of}
use Rattle.gl_outside.specs.Crash.{AreLawful}
use Rattle.gl_outside.specs.Disk.{Image, overwritten}
use Rattle.gl_outside.specs.Events.{Event, Wrote, Synced, content, IsImage, put_there, put_elsewhere, written_over}
use Rattle.gl_outside.proofs.AreaSteps.{found, none, hit, miss}

-- The first so many areas are found, and nothing of them can be lost.
pub record Found (areas : List Area) (count : ℕ) (events : List Event) : Type 0 where
  pub lawful : AreLawful events
  pub durable : (b : ℕ) (c : Image) → IsImage events c → c b ≡ content events b
  pub there : (b : ℕ) → index_of areas b < count → content events b ≡ bytes_in areas b
  pub empty : (b : ℕ) → count ≤ index_of areas b → content events b ≡ []

pub nothing : (areas : List Area) → Found areas 0 []
nothing areas = record { lawful = tt; durable = λ b c is. is b; there = λ b lt. absurd (omega arith); empty = λ b le. refl }

-- an area that stands at a place is found there or before
at_most : (areas : List Area) (i : ℕ) (d : Area) → i < length areas → index_of areas (get_or areas i d).number ≤ i
at_most [] i d lt = absurd (omega arith)
at_most (a ∷ rest) zero d lt = omega (arith, hit a rest a.number refl)
at_most (a ∷ rest) (suc i) d lt = elim (cases_eq (get_or rest i d).number a.number) [
  | inl e ↦ omega (arith, hit a rest (get_or rest i d).number e)
  | inr ne ↦ omega (arith, miss a rest (get_or rest i d).number ne, at_most rest i d (omega arith))
]

-- bytes over a part of themselves
over_front : (bytes old : List ℕ) → length old ≤ length bytes → written_over 0 bytes old ≡ bytes
over_front bytes old short = within (leb 0 (length old)) refl
  where
    within : (t : Bool) → leb 0 (length old) ≡ t → (if t then overwritten 0 bytes old else old) ≡ bytes
    within true is = ap (λ (l : List ℕ). bytes ++ l) (drop_all (0 + length bytes) old (omega (arith, short))) ∙ append-nil bytes
    within false is = absurd (grind (arith, nat_tests))

-- one area more
pub next : (areas : List Area) (i n : ℕ) (events : List Event) (d : Area) → i < length areas → n ≡ (get_or areas i d).number → Found areas i events
    → Found areas (i + 1) (Synced n ∷ Wrote n 0 (bytes_in areas n) true ∷ events)
next areas i n events d lt is so_far = record {
  lawful = (omega arith, so_far.lawful);
  durable = λ b c image. elim (cases_eq b n) [
    | inl here ↦ subst (λ (k : ℕ). c k ≡ content (Wrote n 0 (bytes_in areas n) true ∷ events) k) (sym here) image.1
    | inr ne ↦ image.0.2.elsewhere b ne ∙ so_far.durable b image.0.0 image.0.1 ∙ sym (put_elsewhere n (written_over 0 (bytes_in areas n) (content events n)) (content events) b ne)
  ];
  there = λ b less. elim (cases_eq b n) [
    | inl here ↦ subst (λ (k : ℕ). content (Wrote n 0 (bytes_in areas n) true ∷ events) k ≡ bytes_in areas k) (sym here) now
    | inr ne ↦ put_elsewhere n (written_over 0 (bytes_in areas n) (content events n)) (content events) b ne ∙ so_far.there b (before b ne less)
  ];
  empty = λ b le. elim (cases_eq b n) [
    | inl here ↦ absurd (omega (arith, le, first, ap (index_of areas) here))
    | inr ne ↦ put_elsewhere n (written_over 0 (bytes_in areas n) (content events n)) (content events) b ne ∙ so_far.empty b (omega (arith, le))
  ];
}
  where
    first : index_of areas n ≤ i
    first = omega (arith, at_most areas i d lt, ap (index_of areas) is)

    was : length (content events n) ≤ length (bytes_in areas n)
    was = elim (which (index_of areas n) i) [
      | inl less ↦ omega (arith, ap length (so_far.there n less))
      | inr more ↦ omega (arith, ap length (so_far.empty n more))
    ]
      where
        which : (m k : ℕ) → (m < k) ⊎ (k ≤ m)
        which m k = grind (arith, nat_tests)

    now : content (Wrote n 0 (bytes_in areas n) true ∷ events) n ≡ bytes_in areas n
    now = put_there n (written_over 0 (bytes_in areas n) (content events n)) (content events) ∙ over_front (bytes_in areas n) (content events n) was

    before : (b : ℕ) → b ≢ n → index_of areas b < i + 1 → index_of areas b < i
    before b ne less = elim (cases_eq (index_of areas b) i) [
      | inl here ↦ absurd (ne (sym (found areas b d (omega (arith, here, lt))).1 ∙ ap (λ (k : ℕ). (get_or areas k d).number) here ∙ sym is))
      | inr other ↦ omega (arith, other, less)
    ]

-- all of them
pub all_found : (areas : List Area) (events : List Event) → Found areas (length areas) events → (b : ℕ) → bytes_in areas b ≡ content events b
all_found areas events so_far b = elim (which (index_of areas b) (length areas)) [
  | inl less ↦ sym (so_far.there b less)
  | inr more ↦ none areas b more ∙ sym (so_far.empty b more)
]
  where
    which : (m k : ℕ) → (m < k) ⊎ (k ≤ m)
    which m k = grind (arith, nat_tests)
