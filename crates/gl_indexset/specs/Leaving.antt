-- Which live rows leave when one more is stored, and whether that one comes (this project).
use Rattle.std.specs.Prelude.{◌≡◌, ℕ, ◌+◌, ◌<◌, ◌≤◌, Bool, true, false, not, ◌&&◌, ◌==◌, List, [], ◌∷◌, ◌++◌, length, filter, take, drop, if◌then◌else◌, slice_index_or, Option, Some, None}
use Rattle.std.specs.List.{list_any}
use Rattle.gl_indexset.specs.declared.row.Row.{Row}
use Rattle.gl_fields.specs.declared.set_rule.SetRule.{SetRule}
use Rattle.gl_indexset.specs.Retention.{is_in}

-- one of these rows has this position
abbrev pub has_position : List Row → ℕ → Bool
has_position rows position = list_any (λ row. row.position == position) rows

-- the least place at or above one whose row doesn't pass a test; none where each passes
abbrev pub IsNextFailing : (Row → Bool) → List Row → ℕ → Option ℕ → Type 0
IsNextFailing passes rows from None = (k : ℕ) (d : Row) → from ≤ k → k < length rows → passes (slice_index_or rows k d) ≡ true
IsNextFailing passes rows from (Some n) =
    (from ≤ n) × (n < length rows)
    × ((d : Row) → passes (slice_index_or rows n d) ≡ false)
    × ((k : ℕ) (d : Row) → from ≤ k → k < n → passes (slice_index_or rows k d) ≡ true)

-- of rows that are live, the least place at or above one whose row isn't live afterwards
abbrev pub IsNextLeaving : List Row → List Row → ℕ → Option ℕ → Type 0
IsNextLeaving before after from found = IsNextFailing (λ row. has_position after row.position) before from found

-- of rows that are live, those that are live afterwards
abbrev pub staying : List Row → List Row → List Row
staying after before = filter (λ row. has_position after row.position) before

-- a row goes into a set that keeps indexes
abbrev pub is_filed : List SetRule → Row → Bool
is_filed rules row = list_any (λ rule. is_in rule row && not (rule.keep == 0)) rules

-- what is live once a row is stored: the rows that stay, and behind them the new one where it goes into a set that keeps indexes
abbrev pub IsGoneOn : List SetRule → Row → List Row → List Row → Type 0
IsGoneOn rules row before after = after ≡ staying after before ++ (if is_filed rules row then row ∷ [] else [])

-- the rows but the one at a position
abbrev pub without : ℕ → List Row → List Row
without position rows = filter (λ row. not (row.position == position)) rows

-- live rows from which those below a place that leave were taken out
abbrev pub left_below : List Row → List Row → ℕ → List Row
left_below after before n = staying after (take n before) ++ drop n before

-- Taking out the rows that leave, one after another: from one place on the next is found, and taken out by its position; where there is none, just those are left that stay.
abbrev pub IsStepOfLeaving : List Row → List Row → ℕ → Option ℕ → Type 0
IsStepOfLeaving after before from None = left_below after before from ≡ staying after before
IsStepOfLeaving after before from (Some n) = (d : Row) → left_below after before (n + 1) ≡ without (slice_index_or before n d).position (left_below after before from)
