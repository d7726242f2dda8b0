-- The minutes in which rows came about (this project).
use Rattle.std.specs.Prelude.{ℕ, ◌*◌, ◌/◌, ◌==◌, Bool, ◌&&◌, ℤ, pos, negsuc, nat_le, nat_lt, List, filter}
use Rattle.gl_indexset.specs.declared.row.Row.{Row}
use Rattle.gl_pages.specs.Pages.{time_of}

-- the minute of a time in milliseconds since 1970; times before 1970 count as 0
abbrev pub minute_at : ℤ → ℕ
minute_at (pos time) = time / 60000
minute_at (negsuc before) = 0

-- the minute of a row's time
unfoldable pub minute_of : Row → ℕ
minute_of row = minute_at (time_of row.fields)

-- the rows of a minute
abbrev pub rows_of : ℕ → List Row → List Row
rows_of minute rows = filter (λ row. minute_of row == minute) rows

-- a minute isn't before that of one moment, and begins before another
abbrev pub is_met : ℕ → ℕ → ℕ → Bool
is_met from to minute = nat_le (from / 60000) minute && nat_lt (minute * 60000) to

abbrev pub is_near : ℕ → ℕ → Row → Bool
is_near from to row = is_met from to (minute_of row)

-- the rows of the minutes that have a part of a span, which is from one moment on and before another
abbrev pub near : ℕ → ℕ → List Row → List Row
near from to rows = filter (is_near from to) rows
