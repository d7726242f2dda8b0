-- A line of a script is one that a node takes.
use Rattle.std.specs.Prelude.{◌≡◌, ℕ, ◌-◌, ◌<◌, ◌≤◌, Bool, true, false, ◌&&◌, List, [], ◌∷◌, length, nat_le, nat_lt, max, Option, Some, None, IfSome, if◌then◌else◌, codes}
use Rattle.std.specs.List.{list_all, join_with_byte}
use Rattle.std.specs.Option.{option_map, option_and_then}
use Rattle.std.specs.Int.{is_in_range}
use Rattle.std.specs.Str.{bytes_eq}
use Rattle.std.proofs.Common.{refl, subst, arith, cond, leb, ◌+◌, ◌*◌}
use Rattle.std.proofs.lemmas.Bool.{false≢true, leb-true}
use Rattle.std.proofs.lemmas.Bool.Decides.{nat_tests}
use Rattle.percent_encoding.specs.Percent.{percent_decode}
use Rattle.gl_base.specs.Bytes.{is_digit}
use Rattle.gl_base.specs.Digits.{digits_within}
use Rattle.gl_cli.specs.declared.line.Line.{Line}
use Rattle.gl_cli.specs.declared.line.Line.TheVariants.{Blank, At, Udp, Tcp, End, Claim, Finish, Listing}
use Rattle.gl_cli.specs.Script.{is_plain, at_least, number_in, is_name, last_moment, workers, words_of, at_line, udp_line, connection_in, tcp_line, end_line, claim_line, finish_line, list_line, line_of_words, is_blank, line_of, moment_in}
use Rattle.gl_cli.specs.Sessions.{IsFit}

abbrev IfFit : Option Line → Type 0
IfFit o = IfSome o IsFit

if_fits : (b : Bool) (x y : Option Line) → IfFit x → IfFit y → IfFit (if b then x else y)
if_fits true x y p q = p
if_fits false x y p q = q

chosen : (a b : Bool) (r : Option ℕ) (P : ℕ → Type 0) → (b ≡ true → IfSome r P) → IfSome (cond (a && b) r None) P
chosen true true r P f = f refl
chosen true false r P f = tt
chosen false b r P f = tt

-- what digits write within a bound is within it
digits_few : (most n : ℕ) (ds : List ℕ) → n ≤ most → IfSome (digits_within most n ds) (λ m. m ≤ most)
unfolding digits_within
digits_few most n [] le = le
digits_few most n (d ∷ ds) le =
    let m : ℕ = n * 10 + (d - 48) in
    chosen (is_digit d) (leb m most) (digits_within most m ds) (λ k. k ≤ most) (λ e. digits_few most m ds (leb-true m most e))

if_number : (a : Bool) (o : Option ℕ) (least most : ℕ) → IfSome o (λ (n : ℕ). n ≤ most) → IfSome (if a then at_least least o else None) (λ (n : ℕ). (least ≤ n) × (n ≤ most))
if_number false o least most few = tt
if_number true None least most few = tt
if_number true (Some n) least most few = high (nat_le least n) (λ e. grind (arith, nat_tests))
  where
    high : (b : Bool) → (b ≡ true → least ≤ n) → IfSome (if b then Some n else None) (λ (m : ℕ). (least ≤ m) × (m ≤ most))
    high true low = (low refl, few)
    high false low = tt

number_fits : (least most : ℕ) (text : List ℕ) → IfSome (number_in least most text) (λ (n : ℕ). (least ≤ n) × (n ≤ most))
number_fits least most text = if_number (is_plain text) (digits_within most 0 text) least most (digits_few most 0 text (omega arith))

map_fits : (o : Option ℕ) (f : ℕ → Line) (P : ℕ → Type 0) → IfSome o P → ((n : ℕ) → P n → IsFit (f n)) → IfFit (option_map f o)
map_fits None f P p k = tt
map_fits (Some n) f P p k = k n p

at_fits : (rest : List (List ℕ)) → IfFit (at_line rest)
at_fits [] = tt
at_fits (moment ∷ []) = map_fits (number_in 0 last_moment moment) (λ n. At n) (λ n. (0 ≤ n) × (n ≤ last_moment)) (number_fits 0 last_moment moment) (λ n p. p.1)
at_fits (moment ∷ next ∷ rest) = tt

if_name : (a b c : Bool) (n most : ℕ) → (a ≡ true → 0 < n) → (b ≡ true → n ≤ most) → (a && b) && c ≡ true → (0 < n) × (n ≤ most)
if_name true true c n most p q e = (p refl, q refl)
if_name true false c n most p q e = absurd (false≢true e)
if_name false b c n most p q e = absurd (false≢true e)

name_fits : (most : ℕ) (text : List ℕ) → is_name most text ≡ true → (0 < length text) × (length text ≤ most)
name_fits most text e = if_name (nat_lt 0 (length text)) (nat_le (length text) most) (list_all (is_in_range 33 126) text) (length text) most (λ h. grind (arith, nat_tests)) (λ h. grind (arith, nat_tests)) e

if_peer : (a b : Bool) (line : Line) → (b ≡ true → IsFit line) → IfFit (if a && b then Some line else None)
if_peer true true line p = p refl
if_peer true false line p = tt
if_peer false b line p = tt

udp_fits : (rest : List (List ℕ)) → IfFit (udp_line rest)
udp_fits [] = tt
udp_fits (input ∷ []) = tt
udp_fits (input ∷ peer ∷ []) = tt
udp_fits (input ∷ peer ∷ word ∷ words) = if_peer (is_name 64 input) (is_name 255 peer) (Udp input peer (percent_decode (join_with_byte 32 (word ∷ words)))) (λ e. name_fits 255 peer e)

if_peer_some : (a b : Bool) (o : Option Line) → (b ≡ true → IfFit o) → IfFit (if a && b then o else None)
if_peer_some true true o p = p refl
if_peer_some true false o p = tt
if_peer_some false b o p = tt

-- where any number will do
any_fits : (o : Option ℕ) (f : ℕ → Line) → ((n : ℕ) → IsFit (f n)) → IfFit (option_map f o)
any_fits None f k = tt
any_fits (Some n) f k = k n

tcp_fits : (rest : List (List ℕ)) → IfFit (tcp_line rest)
tcp_fits [] = tt
tcp_fits (input ∷ []) = tt
tcp_fits (input ∷ number ∷ []) = tt
tcp_fits (input ∷ number ∷ peer ∷ []) = tt
tcp_fits (input ∷ number ∷ peer ∷ word ∷ words) =
    let line : ℕ → Line = λ n. Tcp input n peer (percent_decode (join_with_byte 32 (word ∷ words))) in
    if_peer_some (is_name 64 input) (is_name 255 peer) (option_map line (connection_in number))
    (λ e. any_fits (connection_in number) line (λ n. name_fits 255 peer e))

end_fits : (rest : List (List ℕ)) → IfFit (end_line rest)
end_fits [] = tt
end_fits (input ∷ []) = tt
end_fits (input ∷ number ∷ []) =
    if_fits (is_name 64 input) (option_map (λ n. End input n) (connection_in number)) None (any_fits (connection_in number) (λ n. End input n) (λ n. tt)) tt
end_fits (input ∷ number ∷ next ∷ rest) = tt

and_then_fits : (o : Option ℕ) (f : ℕ → Option Line) (P : ℕ → Type 0) → IfSome o P → ((n : ℕ) → P n → IfFit (f n)) → IfFit (option_and_then f o)
and_then_fits None f P p k = tt
and_then_fits (Some n) f P p k = k n p

claim_fits : (rest : List (List ℕ)) → IfFit (claim_line rest)
claim_fits [] = tt
claim_fits (worker ∷ []) = tt
claim_fits (worker ∷ limit ∷ []) =
    and_then_fits (number_in 0 (workers - 1) worker) (λ w. option_map (λ n. Claim w n) (number_in 1 256 limit)) (λ n. (0 ≤ n) × (n ≤ workers - 1)) (number_fits 0 (workers - 1) worker)
    (λ w p. map_fits (number_in 1 256 limit) (λ n. Claim w n) (λ n. (1 ≤ n) × (n ≤ 256)) (number_fits 1 256 limit) (λ n q. (omega (arith, p.1), q.0, q.1)))
claim_fits (worker ∷ limit ∷ next ∷ rest) = tt

finish_fits : (rest : List (List ℕ)) → IfFit (finish_line rest)
finish_fits [] = tt
finish_fits (worker ∷ []) = map_fits (number_in 0 (workers - 1) worker) (λ n. Finish n) (λ n. (0 ≤ n) × (n ≤ workers - 1)) (number_fits 0 (workers - 1) worker) (λ n p. omega (arith, p.1))
finish_fits (worker ∷ next ∷ rest) = tt

list_fits : (rest : List (List ℕ)) → IfFit (list_line rest)
list_fits [] = tt
list_fits (word ∷ rest) = tt

words_fit : (words : List (List ℕ)) → IfFit (line_of_words words)
words_fit [] = tt
words_fit (word ∷ rest) =
    if_fits (bytes_eq word (codes "at")) _ _ (at_fits rest)
    (if_fits (bytes_eq word (codes "udp")) _ _ (udp_fits rest)
    (if_fits (bytes_eq word (codes "tcp")) _ _ (tcp_fits rest)
    (if_fits (bytes_eq word (codes "end")) _ _ (end_fits rest)
    (if_fits (bytes_eq word (codes "claim")) _ _ (claim_fits rest)
    (if_fits (bytes_eq word (codes "finish")) _ _ (finish_fits rest)
    (if_fits (bytes_eq word (codes "list")) _ _ (list_fits rest) tt))))))

pub line_fits : (text : List ℕ) (line : Line) → line_of text ≡ Some line → IsFit line
line_fits text line is = subst IfFit is (if_fits (is_blank text) (Some Blank) (line_of_words (words_of text)) tt (words_fit (words_of text)))

pub moment_fits : (moment later : ℕ) (line : Line) → moment ≤ 253402300799999 → IsFit line → later ≡ max moment (moment_in line) → later ≤ 253402300799999
moment_fits moment later Blank p fit is = omega (arith, p, is)
moment_fits moment later (At next) p fit is = omega (arith, p, fit, is)
moment_fits moment later (Udp input peer payload) p fit is = omega (arith, p, is)
moment_fits moment later (Tcp input number peer payload) p fit is = omega (arith, p, is)
moment_fits moment later (End input number) p fit is = omega (arith, p, is)
moment_fits moment later (Claim worker limit) p fit is = omega (arith, p, is)
moment_fits moment later (Finish worker) p fit is = omega (arith, p, is)
moment_fits moment later Listing p fit is = omega (arith, p, is)
