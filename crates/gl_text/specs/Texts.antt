-- Where a part stands in a text, the pieces between its occurrences, and characters by their numbers (this project).
use Rattle.std.specs.Prelude.{ℕ, zero, suc, ◌+◌, ◌-◌, Bool, true, false, ◌||◌, ◌&&◌, ◌==◌, nat_lt, nat_le, List, [], ◌∷◌, length, take, drop, if◌then◌else◌, Option, Some, None, is_some, option_map, option_and_then}
use Rattle.std.specs.Option.{unwrap_or}
use Rattle.std.specs.Str.{bytes_eq, chars, encode_utf8_all}

-- the text begins with the part
unfoldable pub begins_with : List ℕ → List ℕ → Bool
begins_with [] text = true
begins_with (b ∷ part) [] = false
begins_with (b ∷ part) (c ∷ text) = b == c && begins_with part text

-- behind how many bytes the part first stands in the text; the empty part stands behind none
unfoldable pub first_at : List ℕ → List ℕ → Option ℕ
first_at part [] = if begins_with part [] then Some 0 else None
first_at part (b ∷ text) = if begins_with part (b ∷ text) then Some 0 else option_map suc (first_at part text)

-- the text ends with the part
abbrev pub ends_with : List ℕ → List ℕ → Bool
ends_with part text = bytes_eq part (drop (length text - length part) text)

-- the part stands in the text
abbrev pub contains : List ℕ → List ℕ → Bool
contains part text = is_some (first_at part text)

-- The piece of this index, from 0, of those into which the occurrences of `by`, taken from the left, part a text that
-- stands behind `at` bytes: the bytes from which to before which it goes.
unfoldable pub piece_from : List ℕ → ℕ → ℕ → List ℕ → Option (ℕ × ℕ)
piece_from by zero at text = Some (at, at + unwrap_or (first_at by text) (length text))
piece_from by (suc n) at text =
    option_and_then (λ k. piece_from by n (at + (k + length by)) (drop (k + length by) text)) (first_at by text)

-- the piece of this index, from 1; none where `by` is empty or there are fewer
abbrev pub piece : List ℕ → ℕ → List ℕ → Option (ℕ × ℕ)
piece by index text = if index == 0 || length by == 0 then None else piece_from by (index - 1) 0 text

-- how many bytes the first n characters have
abbrev pub bytes_of : ℕ → List ℕ → ℕ
bytes_of n text = length (encode_utf8_all (take n (chars text)))

-- The characters from `begin` to before `end`, as bytes; none where `begin` isn't below `end`, or the text has fewer.
abbrev pub characters : ℕ → ℕ → List ℕ → Option (ℕ × ℕ)
characters begin end text =
    if nat_lt begin end && nat_le end (length (chars text)) then Some (bytes_of begin text, bytes_of end text) else None
