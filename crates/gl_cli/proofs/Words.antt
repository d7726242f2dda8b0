-- Words and numbers.
use Rattle.std.specs.Prelude.{◌≡◌, ◌≢◌, ℕ, suc, ◌+◌, ◌-◌, ◌*◌, ◌<◌, ◌≤◌, Bool, true, false, ◌&&◌, List, [], ◌∷◌, ◌++◌, length, take, drop, All, ◌==◌, nat_le, if◌then◌else◌, Option, Some, None}
use Rattle.std.specs.List.{fold, list_all, join_with_byte}
use Rattle.std.proofs.Common.{refl, ◌∙◌, ap, sym, subst, arith, inl, inr, get_or, add-one}
use Rattle.std.proofs.lemmas.Grind.{common_steps}
use Rattle.std.proofs.lemmas.Bool.Decides.{eqb_tells, nat_tests}
use Rattle.std.proofs.lemmas.Bool.{lt-leb, cases_lt}
use Rattle.std.proofs.lemmas.List.{take-append-drop}
use Rattle.std.proofs.lemmas.List.Splits.{slice_split_none, slice_split_at, join_with_byte-slice_split, length-slice_split}
use Rattle.std.proofs.lemmas.List.Sums.{fold-append}
use Rattle.std.proofs.Math.Seq.{drop-cons}
use Rattle.gl_cli.specs.Script.{words_of, number_in, at_line, udp_line, connection_in, tcp_line, end_line, claim_line, finish_line, list_line, is_name}
use Rattle.gl_cli.specs.declared.line.Line.{Line}
use Rattle.gl_cli.specs.declared.line.Line.TheVariants.{Udp, Tcp}
use Rattle.percent_encoding.specs.Percent.{percent_decode}
use Rattle.std.specs.Option.{option_map}
use Rattle.std.specs.Int.{is_in_range}
use Rattle.std.specs.Str.{IsUtf8}
use Rattle.std.specs.List.{AllPass}
use Rattle.std.proofs.lemmas.Str.{IsUtf8-from_ascii}
use Rattle.std.proofs.lemmas.List.Sums.{AllPass-from_list_all}
use Rattle.gl_cli.specs.Parsing.{IsFirstAt}
use Rattle.gl_cli.proofs.Sinks.{slice_rest}

pub is_byte_not : (byte : ℕ) (bytes : List ℕ) → All (λ b. b ≢ byte) bytes → All (λ b. (b == byte) ≡ false) bytes
is_byte_not byte bytes h = λ k d within. elim (eqb_tells (get_or bytes k d) byte) [ inl p ↦ absurd (h k d within p.1) | inr q ↦ q.0 ]

pub at_byte : (bytes : List ℕ) (byte place : ℕ) → IsFirstAt bytes byte place → bytes ≡ take place bytes ++ byte ∷ drop (place + 1) bytes
at_byte bytes byte place h =
    sym (take-append-drop place bytes)
    ∙ ap (λ t. take place bytes ++ t) (drop-cons bytes place 0 h.inside)
    ∙ ap (λ b. take place bytes ++ b ∷ drop (suc place) bytes) h.is
    ∙ ap (λ n. take place bytes ++ byte ∷ drop n bytes) (sym (add-one place))

pub words_of-at : (text : List ℕ) (place : ℕ) → IsFirstAt text 32 place
    → words_of text ≡ take place text ∷ words_of (take (length text - (place + 1)) (drop (place + 1) text))
words_of-at text place h =
    ap words_of (at_byte text 32 place h)
    ∙ slice_split_at (λ b. b == 32) (take place text) 32 (drop (place + 1) text) (is_byte_not 32 (take place text) h.first) refl
    ∙ ap (λ t. take place text ∷ words_of t) (sym (slice_rest (place + 1) text))

pub words_of-none : (text : List ℕ) → All (λ b. b ≢ 32) text → words_of text ≡ text ∷ []
words_of-none text h = slice_split_none (λ b. b == 32) text (is_byte_not 32 text h)

pub words_of-some : (text : List ℕ) → 0 < length (words_of text)
words_of-some text = rw (length-slice_split (λ b. b == 32) text) (omega arith)

pub at_line-more : (word : List ℕ) (rest : List (List ℕ)) → 0 < length rest → None ≡ at_line (word ∷ rest)
at_line-more word [] h = absurd (omega (arith, h))
at_line-more word (next ∷ rest) h = refl

pub printable_below : (b : ℕ) → is_in_range 33 126 b ≡ true → b < 128
printable_below b h = grind (arith, nat_tests)

pub IsUtf8-printable : (word : List ℕ) → list_all (is_in_range 33 126) word ≡ true → IsUtf8 word
IsUtf8-printable word h =
    let all : AllPass (is_in_range 33 126) word = AllPass-from_list_all (is_in_range 33 126) word h in
    IsUtf8-from_ascii word (λ i. elim (cases_lt i (length word)) [
      | inl inside ↦ printable_below (get_or word i 0) (all i 0 inside)
      | inr outside ↦ grind (arith, common_steps)
    ])

pub udp_line-short : (words : List (List ℕ)) → length words < 3 → None ≡ udp_line words
udp_line-short [] h = refl
udp_line-short (a ∷ []) h = refl
udp_line-short (a ∷ b ∷ []) h = refl
udp_line-short (a ∷ b ∷ c ∷ words) h = absurd (omega (arith, h))

pub udp_line-some : (a b : List ℕ) (words : List (List ℕ)) → 0 < length words
    → udp_line (a ∷ b ∷ words) ≡ (if is_name 64 a && is_name 255 b then Some (Udp a b (percent_decode (join_with_byte 32 words))) else None)
udp_line-some a b [] h = absurd (omega (arith, h))
udp_line-some a b (c ∷ words) h = refl

pub udp_line-words : (words : List (List ℕ)) (a b c : List ℕ) → words ≡ a ∷ b ∷ words_of c
    → udp_line words ≡ (if is_name 64 a && is_name 255 b then Some (Udp a b (percent_decode c)) else None)
udp_line-words words a b c e =
    ap udp_line e ∙ udp_line-some a b (words_of c) (words_of-some c)
    ∙ ap (λ p. if is_name 64 a && is_name 255 b then Some (Udp a b (percent_decode p)) else None) (join_with_byte-slice_split 32 c)

pub if_both : (a b : Bool) (x : Option Line) → a ≡ true → b ≡ true → (if a && b then x else None) ≡ x
if_both a b x p q = ap (λ c. if c && b then x else None) p ∙ ap (λ c. if c then x else None) q

pub finish_line-more : (word : List ℕ) (rest : List (List ℕ)) → 0 < length rest → None ≡ finish_line (word ∷ rest)
finish_line-more word [] h = absurd (omega (arith, h))
finish_line-more word (next ∷ rest) h = refl

pub claim_line-more : (one other : List ℕ) (rest : List (List ℕ)) → 0 < length rest → None ≡ claim_line (one ∷ other ∷ rest)
claim_line-more one other [] h = absurd (omega (arith, h))
claim_line-more one other (next ∷ rest) h = refl

pub list_line-more : (rest : List (List ℕ)) → 0 < length rest → None ≡ list_line rest
list_line-more [] h = absurd (omega (arith, h))
list_line-more (next ∷ rest) h = refl

-- ---- the lines of connections

pub tcp_line-short : (input : List ℕ) (words : List (List ℕ)) → length words < 3 → None ≡ tcp_line (input ∷ words)
tcp_line-short input [] h = refl
tcp_line-short input (a ∷ []) h = refl
tcp_line-short input (a ∷ b ∷ []) h = refl
tcp_line-short input (a ∷ b ∷ c ∷ words) h = absurd (omega (arith, h))

-- what the words ask for, by what the number is read as
abbrev pub tcp_by : List ℕ → List ℕ → List ℕ → Option ℕ → Option Line
tcp_by input peer payload number =
    if is_name 64 input && is_name 255 peer then option_map (λ n. Tcp input n peer (percent_decode payload)) number else None

tcp_line-some : (input a b : List ℕ) (words : List (List ℕ)) → 0 < length words
    → tcp_line (input ∷ a ∷ b ∷ words)
    ≡ (if is_name 64 input && is_name 255 b then option_map (λ n. Tcp input n b (percent_decode (join_with_byte 32 words))) (connection_in a) else None)
tcp_line-some input a b [] h = absurd (omega (arith, h))
tcp_line-some input a b (c ∷ words) h = refl

pub tcp_line-words : (input : List ℕ) (words : List (List ℕ)) (a b c : List ℕ) → words ≡ a ∷ b ∷ words_of c
    → tcp_line (input ∷ words) ≡ tcp_by input b c (connection_in a)
tcp_line-words input words a b c e =
    ap (λ ws. tcp_line (input ∷ ws)) e ∙ tcp_line-some input a b (words_of c) (words_of-some c)
    ∙ ap (λ p. if is_name 64 input && is_name 255 b then option_map (λ n. Tcp input n b (percent_decode p)) (connection_in a) else None) (join_with_byte-slice_split 32 c)

-- a name that is none, and a number that is none
pub tcp_by-none : (input peer payload : List ℕ) (number : Option ℕ) → is_name 64 input && is_name 255 peer ≡ false → None ≡ tcp_by input peer payload number
tcp_by-none input peer payload number e = sym (ap (λ b. if b then option_map (λ n. Tcp input n peer (percent_decode payload)) number else None) e)

pub tcp_by-no_number : (input peer payload : List ℕ) (number : Option ℕ) → number ≡ None → None ≡ tcp_by input peer payload number
tcp_by-no_number input peer payload number e = sym (ap (λ o. tcp_by input peer payload o) e ∙ either (is_name 64 input && is_name 255 peer))
  where
    either : (b : Bool) → (if b then option_map (λ n. Tcp input n peer (percent_decode payload)) None else None) ≡ None
    either true = refl
    either false = refl

pub tcp_by-some : (input peer payload : List ℕ) (number : Option ℕ) (n : ℕ) → is_name 64 input ≡ true → is_name 255 peer ≡ true → number ≡ Some n
    → Some (Tcp input n peer (percent_decode payload)) ≡ tcp_by input peer payload number
tcp_by-some input peer payload number n p q e = sym
    (if_both (is_name 64 input) (is_name 255 peer) (option_map (λ m. Tcp input m peer (percent_decode payload)) number) p q
    ∙ ap (λ o. option_map (λ m. Tcp input m peer (percent_decode payload)) o) e)

pub end_line-more : (input word : List ℕ) (rest : List (List ℕ)) → 0 < length rest → None ≡ end_line (input ∷ word ∷ rest)
end_line-more input word [] h = absurd (omega (arith, h))
end_line-more input word (next ∷ rest) h = refl
