-- The session script: lines of words parted by single spaces.
use Rattle.std.specs.Prelude.{ℕ, suc, ◌+◌, ◌-◌, ◌*◌, ◌^◌, Bool, not, ◌&&◌, ◌||◌, List, [], ◌∷◌, ◌++◌, length, take, nat_lt, nat_le, ◌==◌, if◌then◌else◌, Option, Some, None, codes, slice_index, max, map}
use Rattle.std.specs.List.{list_all, join_with_byte, slice_split, fold}
use Rattle.std.specs.Option.{option_map, option_and_then}
use Rattle.std.specs.Int.{is_in_range}
use Rattle.std.specs.Str.{bytes_eq}
use Rattle.std.specs.Char.{is_ascii_digit}
use Rattle.percent_encoding.specs.Percent.{percent_decode}
use Rattle.gl_base.specs.Digits.{digits_within}
use Rattle.gl_cli.specs.declared.line.Line.{Line}
use Rattle.gl_cli.specs.declared.line.Line.TheVariants.{Blank, At, Udp, Tcp, End, Claim, Finish, Listing}

-- plain digits have no zero before another digit
abbrev pub is_plain : List ℕ → Bool
is_plain text = nat_lt 1 (length text) && not (slice_index text 0 == 48) || length text == 1

abbrev pub at_least : ℕ → Option ℕ → Option ℕ
at_least least None = None
at_least least (Some n) = if nat_le least n then Some n else None

-- the number that a word writes in plain digits, without a sign, where it is one from the first of these up to the second
abbrev pub number_in : ℕ → ℕ → List ℕ → Option ℕ
number_in least most text = if is_plain text then at_least least (digits_within most 0 text) else None

-- so many bytes at most, and at least one, each printable and no space
abbrev pub is_name : ℕ → List ℕ → Bool
is_name most text = nat_lt 0 (length text) && nat_le (length text) most && list_all (is_in_range 33 126) text

abbrev pub last_moment : ℕ
last_moment = 253402300799999

-- how many workers there are: worker 0 alone as yet
abbrev pub workers : ℕ
workers = 1

-- the words of a line
abbrev pub words_of : List ℕ → List (List ℕ)
words_of text = slice_split (λ b. b == 32) text

-- what the words behind the first one ask for
abbrev pub at_line : List (List ℕ) → Option Line
at_line (moment ∷ []) = option_map (λ ms. At ms) (number_in 0 last_moment moment)
at_line rest = None

-- a payload is all that stands behind the space before it, spaces too
abbrev pub udp_line : List (List ℕ) → Option Line
udp_line (input ∷ peer ∷ word ∷ words) =
    if is_name 64 input && is_name 255 peer
    then Some (Udp input peer (percent_decode (join_with_byte 32 (word ∷ words))))
    else None
udp_line rest = None

-- the number of a connection
abbrev pub connection_in : List ℕ → Option ℕ
connection_in word = number_in 0 (2 ^ 32 - 1) word

abbrev pub tcp_line : List (List ℕ) → Option Line
tcp_line (input ∷ number ∷ peer ∷ word ∷ words) =
    if is_name 64 input && is_name 255 peer
    then option_map (λ n. Tcp input n peer (percent_decode (join_with_byte 32 (word ∷ words)))) (connection_in number)
    else None
tcp_line rest = None

abbrev pub end_line : List (List ℕ) → Option Line
end_line (input ∷ number ∷ []) = if is_name 64 input then option_map (λ n. End input n) (connection_in number) else None
end_line rest = None

abbrev pub claim_line : List (List ℕ) → Option Line
claim_line (worker ∷ limit ∷ []) =
    option_and_then (λ w. option_map (λ n. Claim w n) (number_in 1 256 limit)) (number_in 0 (workers - 1) worker)
claim_line rest = None

abbrev pub finish_line : List (List ℕ) → Option Line
finish_line (worker ∷ []) = option_map (λ w. Finish w) (number_in 0 (workers - 1) worker)
finish_line rest = None

abbrev pub list_line : List (List ℕ) → Option Line
list_line [] = Some Listing
list_line rest = None

abbrev pub line_of_words : List (List ℕ) → Option Line
line_of_words [] = None
line_of_words (word ∷ rest) =
    if bytes_eq word (codes "at") then at_line rest
    else (if bytes_eq word (codes "udp") then udp_line rest
    else (if bytes_eq word (codes "tcp") then tcp_line rest
    else (if bytes_eq word (codes "end") then end_line rest
    else (if bytes_eq word (codes "claim") then claim_line rest
    else (if bytes_eq word (codes "finish") then finish_line rest
    else (if bytes_eq word (codes "list") then list_line rest
    else None))))))

-- nothing, or a remark
abbrev pub is_blank : List ℕ → Bool
is_blank text = length text == 0 || slice_index text 0 == 35

-- what a line asks for, or none where it isn't of the form
abbrev pub line_of : List ℕ → Option Line
line_of text = if is_blank text then Some Blank else line_of_words (words_of text)

-- the parts of a text between its line feeds, but the last
abbrev pub but_last : List (List ℕ) → List (List ℕ)
but_last [] = []
but_last (part ∷ []) = []
but_last (part ∷ next ∷ parts) = part ∷ but_last (next ∷ parts)

abbrev pub last_line : List (List ℕ) → List (List ℕ)
last_line [] = []
last_line (part ∷ []) = if length part == 0 then [] else part ∷ []
last_line (part ∷ next ∷ parts) = last_line (next ∷ parts)

abbrev pub parts_of : List ℕ → List (List ℕ)
parts_of text = slice_split (λ b. b == 10) text

-- the lines that end in a line feed, and all lines, of which the last may lack it
abbrev pub ended_lines : List ℕ → List (List ℕ)
ended_lines text = but_last (parts_of text)

abbrev pub all_lines : List ℕ → List (List ℕ)
all_lines text = ended_lines text ++ last_line (parts_of text)

-- the lines that end within so many bytes
abbrev pub lines_within : ℕ → List ℕ → List (List ℕ)
lines_within limit text = if nat_le (length text) limit then all_lines text else ended_lines (take limit text)

-- how much of a script is read
abbrev pub script_limit : ℕ
script_limit = 2 ^ 30

abbrev pub script_lines : List ℕ → List (List ℕ)
script_lines script = lines_within script_limit script

-- the lines that are run: those before the first that isn't of the form
abbrev pub read_then : Option Line → List Line → List Line
read_then None lines = []
read_then (Some line) lines = line ∷ lines

abbrev pub lines_run : List (List ℕ) → List Line
lines_run [] = []
lines_run (text ∷ texts) = read_then (line_of text) (lines_run texts)

-- the number, from 1, of the first line that isn't of the form
abbrev pub number_behind : Option Line → Option ℕ → Option ℕ
number_behind None later = Some 1
number_behind (Some line) later = option_map suc later

abbrev pub bad_line : List (List ℕ) → Option ℕ
bad_line [] = None
bad_line (text ∷ texts) = number_behind (line_of text) (bad_line texts)

-- the present moment after these lines: the greatest that they name, and 0 at first
abbrev pub moment_in : Line → ℕ
moment_in (At moment) = moment
moment_in other = 0

abbrev pub moment_after : List Line → ℕ
moment_after past = fold max 0 (map moment_in past)
