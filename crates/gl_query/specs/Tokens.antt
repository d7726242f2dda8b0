-- The tokens of a query's text, each with its place (this project). Texts are bytes of UTF-8.
use Rattle.std.specs.Prelude.{ℕ, zero, suc, ◌+◌, ◌-◌, ◌==◌, Bool, true, false, not, ◌||◌, ◌&&◌, List, [], ◌∷◌, ◌++◌, take, drop, slice_index, Option, Some, None, if◌then◌else◌, codes}
use Rattle.std.specs.Str.{bytes_eq}
use Rattle.gl_query.specs.declared.token.Comparison.TheVariants.{Above, AtLeast, Below, AtMost}
use Rattle.gl_query.specs.declared.token.Edge.TheVariants.{Including, Excluding}
use Rattle.gl_query.specs.declared.token.Token.{Token}
use Rattle.gl_query.specs.declared.token.Token.TheVariants.{Word, Field, Exists, Phrase, Open, Close, And, Or, Not, To, Compare, Begin, End, Unreadable}

-- a space, or a character that ends a word: ( ) " : [ ] { } < > ! & |
abbrev pub ends_word : ℕ → Bool
ends_word b = b == 32 || b == 40 || b == 41 || b == 34 || b == 58 || b == 91 || b == 93 || b == 123 || b == 125
    || b == 60 || b == 62 || b == 33 || b == 38 || b == 124

-- Where the longest word at the front ends, counted on from n, where a `\` takes the next byte as it is.
-- There is none where the text ends behind a lone `\`.
unfoldable pub word_end : (n : ℕ) (escaped : Bool) → List ℕ → Option ℕ
word_end n escaped [] = if escaped then None else Some n
word_end n escaped (b ∷ bs) = if not escaped && ends_word b then Some n else word_end (n + 1) (not escaped && b == 92) bs

-- Where a phrase ends behind its first quote, counted on from n, before the quote that ends it. A `\` stands only before
-- a quote or another `\`.
unfoldable pub phrase_end : (n : ℕ) (escaped : Bool) → List ℕ → Option ℕ
phrase_end n escaped [] = None
phrase_end n escaped (b ∷ bs) =
    if not escaped && b == 34 then Some n
    else (if escaped && not (b == 34 || b == 92) then None else phrase_end (n + 1) (not escaped && b == 92) bs)

-- A token at the front of a text, and how many bytes it has.
abbrev pub word_or_field : List ℕ → ℕ → Bool → Token × ℕ
word_or_field word n true = if bytes_eq word (codes "_exists_") then (Exists, n + 1) else (Field word, n + 1)
word_or_field word n false = (Word word, n)

abbrev pub named_token : List ℕ → ℕ → Bool → Token × ℕ
named_token word n before_colon =
    if bytes_eq word (codes "AND") then (And, n)
    else (if bytes_eq word (codes "OR") then (Or, n)
    else (if bytes_eq word (codes "NOT") then (Not, n)
    else (if bytes_eq word (codes "TO") then (To, n)
    else word_or_field word n before_colon)))

abbrev pub word_token : List ℕ → Option ℕ → Token × ℕ
word_token text None = (Unreadable, 1)
word_token text (Some n) = named_token (take n text) n (slice_index text n == 58)

abbrev pub phrase_token : List ℕ → Option ℕ → Token × ℕ
phrase_token bs None = (Unreadable, 1)
phrase_token bs (Some n) = (Phrase (take n bs), n + 2)

abbrev pub either_token : Bool → Token → Token → Token × ℕ
either_token true long short = (long, 2)
either_token false long short = (short, 1)

unfoldable pub sign_token : ℕ → ℕ → Option (Token × ℕ)
sign_token first second =
    if first == 40 then Some (Open, 1)
    else (if first == 41 then Some (Close, 1)
    else (if first == 91 then Some (Begin Including, 1)
    else (if first == 93 then Some (End Including, 1)
    else (if first == 123 then Some (Begin Excluding, 1)
    else (if first == 125 then Some (End Excluding, 1)
    else (if first == 33 then Some (Not, 1)
    else (if first == 58 then Some (Unreadable, 1)
    else (if first == 62 then Some (either_token (second == 61) (Compare AtLeast) (Compare Above))
    else (if first == 60 then Some (either_token (second == 61) (Compare AtMost) (Compare Below))
    else (if first == 38 then Some (either_token (second == 38) And Unreadable)
    else (if first == 124 then Some (either_token (second == 124) Or Unreadable)
    else None)))))))))))

abbrev pub text_token : List ℕ → Token × ℕ
text_token text = if slice_index text 0 == 34 then phrase_token (drop 1 text) (phrase_end 0 false (drop 1 text)) else word_token text (word_end 0 false text)

abbrev pub token_or : List ℕ → Option (Token × ℕ) → Token × ℕ
token_or text (Some sign) = sign
token_or text None = text_token text

-- the longest token at the front of a text that has a first byte, no space; what reads as no token is one that nothing takes
unfoldable pub token_at : List ℕ → Token × ℕ
token_at text = token_or text (sign_token (slice_index text 0) (slice_index text 1))

-- the token that begins here, if no space stands here
abbrev pub token_here : Bool → ℕ → List ℕ → List (ℕ × Token)
token_here true at text = []
token_here false at text = (at, (token_at text).0) ∷ []

abbrev pub bytes_inside : Bool → List ℕ → ℕ
bytes_inside true text = 0
bytes_inside false text = (token_at text).1 - 1

-- the tokens with their places, where the first bytes are still of the token before
unfoldable pub tokens_from : (at inside : ℕ) → List ℕ → List (ℕ × Token)
tokens_from at inside [] = []
tokens_from at (suc inside) (b ∷ bs) = tokens_from (at + 1) inside bs
tokens_from at zero (b ∷ bs) = token_here (b == 32) at (b ∷ bs) ++ tokens_from (at + 1) (bytes_inside (b == 32) (b ∷ bs)) bs

abbrev pub tokens_of : List ℕ → List (ℕ × Token)
tokens_of text = tokens_from 0 0 text
