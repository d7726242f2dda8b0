-- What index sets keep, and which rows that stands for.
use Rattle.std.specs.Prelude.{◌≡◌, ℕ, ◌<◌, Bool, true, false, not, ◌&&◌, List, [], ◌∷◌, map, filter, fold, min, max, take, reverse, ◌==◌, if◌then◌else◌}
use Rattle.std.specs.List.{All, list_any}
use Rattle.std.specs.Str.{bytes_eq}
use Rattle.gl_indexset.specs.declared.row.Row.{Row}
use Rattle.gl_fields.specs.declared.set_rule.SetRule.{SetRule}
use Rattle.gl_indexset.specs.declared.set.Index.{Index}
use Rattle.gl_indexset.specs.Retention.{Numbered, is_in, numbers_of, newest_number, live_rows}
use Rattle.gl_indexset.specs.Rising.{AreRising, AreBelow}
use Rattle.gl_indexset.specs.SetKept.{SetKept, IsSetSound, begun, is_held, one_more}

pub record Kept : Type 0 where
  pub sets : List SetKept
  -- the live rows, in order of position
  pub rows : List Row
  -- all stored rows are below this position
  pub next : ℕ
  -- how many rows more there is room for
  pub room : ℕ

-- the rules of the sets
abbrev pub rules_of : Kept → List SetRule
rules_of kept = map (λ set. set.rule) kept.sets

-- how many rows may be stored before more room is needed
abbrev pub spare_of : Kept → ℕ
spare_of kept = fold (λ least set. min least set.spare) kept.room kept.sets

-- a set of this name has a rule
abbrev pub is_known : List SetRule → List ℕ → Bool
is_known rules name = list_any (λ rule. bytes_eq name rule.name) rules

-- the rules but the one of this name, if none of these rows is in its set
abbrev pub without_unused : List ℕ → List Row → List SetRule → List SetRule
without_unused name rows rules = filter (λ rule. not (bytes_eq name rule.name && not (list_any (is_in rule) rows))) rules

abbrev pub AreKnown : List SetRule → List (List ℕ) → Type 0
AreKnown rules names = All (λ name. is_known rules name ≡ true) names

-- what holds of all that is kept, whatever was stored
pub record IsSound (kept : Kept) : Type 0 where
  pub sets : All (IsSetSound kept.next) kept.sets
  pub rising : AreRising kept.rows
  pub below : AreBelow kept.next kept.rows
  pub held : All (λ (row : Row). is_held kept.sets row ≡ true) kept.rows

-- the indexes of a set's rows, the newest first
abbrev pub grown : Bool → Numbered → List Index → List Index
grown true row indexes = begun row.row.position row.row.moment ∷ indexes
grown false row [] = []
grown false row (index ∷ indexes) = one_more index ∷ indexes

abbrev pub begins : Numbered → List Numbered → Bool
begins row [] = true
begins row (last ∷ before) = if row.number == last.number then false else true

abbrev pub indexes_of : List Numbered → List Index
indexes_of [] = []
indexes_of (row ∷ before) = grown (begins row before) row (indexes_of before)

-- the indexes that a set keeps, the newest first; the newest also where none is to be kept
abbrev pub shown : SetKept → List Index
shown set = if set.newest.rows == 0 then [] else set.newest ∷ reverse set.closed

pub record Summarizes (set : SetKept) (rows : List Numbered) : Type 0 where
  pub number : set.number ≡ newest_number rows
  pub indexes : shown set ≡ take (max set.rule.keep 1) (indexes_of rows)

-- positions fall, from below this one
abbrev pub AreFalling : ℕ → List Row → Type 0
AreFalling next [] = Unit {0}
AreFalling next (row ∷ before) = (row.position < next) × AreFalling row.position before

-- The rows that were stored, the newest first.
pub record StandsFor (kept : Kept) (all : List Row) : Type 0 where
  -- what is live is as the index numbers say
  pub live : kept.rows ≡ live_rows (rules_of kept) all
  pub sets : All (λ (set : SetKept). Summarizes set (numbers_of set.rule all)) kept.sets
  pub falling : AreFalling kept.next all
  pub known : All (λ (row : Row). AreKnown (rules_of kept) row.sets) all
