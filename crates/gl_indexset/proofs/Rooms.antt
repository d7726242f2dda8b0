-- Sets with more room are the same in all else.
use Rattle.std.proofs.Common.{◌≡◌, ℕ, zero, suc, ◌≤◌, ◌||◌, List, [], ◌∷◌, length, get_or, map, Option, Some, refl, sym, ◌∙◌, ap, subst, arith}
use Rattle.std.specs.Prelude.{slice_set}
use Rattle.std.specs.List.{All, slice_get}
use Rattle.gl_indexset.specs.declared.row.Row.{Row}
use Rattle.gl_fields.specs.declared.set_rule.SetRule.{SetRule}
use Rattle.gl_indexset.specs.Retention.{numbers_of, live_rows}
use Rattle.gl_indexset.specs.SetKept.{SetKept, is_held, is_held_by, AreRoomier, IsRoomier, IsSetSound}
use Rattle.gl_indexset.specs.Kept.{Kept, rules_of, spare_of, AreKnown, IsSound, Summarizes, StandsFor}
use Rattle.gl_indexset.proofs.Numbering.{Each}
use Rattle.gl_indexset.proofs.Standing.{each_of, all_of}
use Rattle.gl_indexset.proofs.Storing.{least-le, least_each, least_most}

same_room : (s : SetKept) → IsRoomier s s
same_room s = record { same = refl; spare = omega arith }

pub all_same : (sets : List SetKept) → AreRoomier sets sets
all_same [] = tt
all_same (s ∷ sets) = (same_room s, all_same sets)

pub then_roomier : (a b c : SetKept) → IsRoomier a b → IsRoomier b c → IsRoomier a c
then_roomier a b c first next = record {
  same = next.same ∙ ap (λ (s : SetKept). let r : SetKept = record { rule = s.rule; number = s.number; newest = s.newest; closed = s.closed; spare = c.spare } in r) first.same;
  spare = omega (arith, first.spare, next.spare);
}

some_of : (x y : SetKept) → ◌≡◌ {A = Option SetKept} (Some x) (Some y) → x ≡ y
some_of x y h = cc h

-- one set more has room
pub one_roomier : (olds sets : List SetKept) (at : ℕ) (s t : SetKept) → AreRoomier olds sets → slice_get sets at ≡ Some s → IsRoomier s t → AreRoomier olds (slice_set sets at t)
one_roomier [] [] at s t are is more = tt
one_roomier [] (x ∷ sets) at s t are is more = absurd are
one_roomier (o ∷ olds) [] at s t are is more = absurd are
one_roomier (o ∷ olds) (x ∷ sets) zero s t are is more = (then_roomier o x t are.0 (subst (λ (y : SetKept). IsRoomier y t) (sym (some_of x s is)) more), are.1)
one_roomier (o ∷ olds) (x ∷ sets) (suc at) s t are is more = (are.0, one_roomier olds sets at s t are.1 is more)

pub same_length : (olds news : List SetKept) → AreRoomier olds news → length news ≡ length olds
same_length [] [] are = refl
same_length [] (n ∷ news) are = absurd are
same_length (o ∷ olds) [] are = absurd are
same_length (o ∷ olds) (n ∷ news) are = ap suc (same_length olds news are.1)

-- what doesn't speak of room stays
pub each_stays : (P : SetKept → Type 0) → ((a b : SetKept) → IsRoomier a b → P a → P b) → (olds news : List SetKept) → AreRoomier olds news → Each P olds → Each P news
each_stays P gives [] [] are e = tt
each_stays P gives [] (n ∷ news) are e = absurd are
each_stays P gives (o ∷ olds) [] are e = absurd are
each_stays P gives (o ∷ olds) (n ∷ news) are e = (gives o n are.0 e.0, each_stays P gives olds news are.1 e.1)

pub rules_same : (olds news : List SetKept) → AreRoomier olds news → map (λ (s : SetKept). s.rule) news ≡ map (λ (s : SetKept). s.rule) olds
rules_same [] [] are = refl
rules_same [] (n ∷ news) are = absurd are
rules_same (o ∷ olds) [] are = absurd are
rules_same (o ∷ olds) (n ∷ news) are =
    ap (λ (r : SetRule). r ∷ map (λ (s : SetKept). s.rule) news) (ap (λ (s : SetKept). s.rule) are.0.same) ∙ ap (λ (l : List SetRule). o.rule ∷ l) (rules_same olds news are.1)

pub held_same : (row : Row) (olds news : List SetKept) → AreRoomier olds news → is_held news row ≡ is_held olds row
held_same row [] [] are = refl
held_same row [] (n ∷ news) are = absurd are
held_same row (o ∷ olds) [] are = absurd are
held_same row (o ∷ olds) (n ∷ news) are =
    ap (λ b. b || is_held news row) (ap (λ (s : SetKept). is_held_by row s) are.0.same) ∙ ap (λ b. is_held_by row o || b) (held_same row olds news are.1)

sound_same : (next : ℕ) (a b : SetKept) → IsRoomier a b → IsSetSound next a → IsSetSound next b
sound_same next a b more sound = subst (λ (s : SetKept). IsSetSound next s) (sym more.same) (record { above = sound.above; number = sound.number; closed = sound.closed; lined = sound.lined; starts = sound.starts })

module _ (kept new : Kept) (sets : AreRoomier kept.sets new.sets) (rows : new.rows ≡ kept.rows) (next : new.next ≡ kept.next) where
  pub roomy_sound : IsSound kept → IsSound new
  roomy_sound sound = record {
    sets = all_of (IsSetSound new.next) new.sets (subst (λ n. Each (IsSetSound n) new.sets) (sym next) (each_stays (IsSetSound kept.next) (sound_same kept.next) kept.sets new.sets sets (each_of (IsSetSound kept.next) kept.sets sound.sets)));
    rising = rw rows sound.rising;
    below = rw (rows, next) sound.below;
    held = rw rows (λ k d lt. held_same (get_or kept.rows k d) kept.sets new.sets sets ∙ sound.held k d lt);
  }

  pub roomy_rules : rules_of new ≡ rules_of kept
  roomy_rules = rules_same kept.sets new.sets sets

  pub roomy_spare : kept.room ≤ new.room → spare_of kept ≤ spare_of new
  roomy_spare more = least_most (spare_of kept) new.room new.sets (omega (arith, more, least-le kept.room kept.sets))
      (each_stays (λ (s : SetKept). spare_of kept ≤ s.spare) (λ a b is le. omega (arith, is.spare, le)) kept.sets new.sets sets (least_each kept.room kept.sets))

  pub roomy_stands : (all : List Row) → StandsFor kept all → StandsFor new all
  roomy_stands all stands = record {
    live = rows ∙ stands.live ∙ ap (λ (l : List SetRule). live_rows l all) (sym roomy_rules);
    sets = all_of (λ (s : SetKept). Summarizes s (numbers_of s.rule all)) new.sets
        (each_stays (λ (s : SetKept). Summarizes s (numbers_of s.rule all))
        (λ a b is sum. subst (λ (s : SetKept). Summarizes s (numbers_of s.rule all)) (sym is.same) (record { number = sum.number; indexes = sum.indexes }))
        kept.sets new.sets sets (each_of (λ (s : SetKept). Summarizes s (numbers_of s.rule all)) kept.sets stands.sets));
    falling = rw next stands.falling;
    known = subst (λ (l : List SetRule). All (λ (r : Row). AreKnown l r.sets) all) (sym roomy_rules) stands.known;
  }
