-- A head ends with a line feed.
use Rattle.std.proofs.Common.{◌≡◌, ℕ, ◌-◌, Bool, true, false, cond, List, [], ◌∷◌, ◌++◌, length, drop, map, Option, Some, None, refl, sym, ap, subst, ◌∙◌, arith, append_assoc, length-append, take-append-drop}
use Rattle.std.specs.Prelude.{Result, Ok, Err, slice_get, not, is_some, codes}
use Rattle.httparse.specs.Grammar.{LineEnd, crlf, lf, print_end, print_blank, print_version, print_field, print_section, RequestHead, print_request, ReadsRequest}
use Rattle.httparse.specs.Spans.{name_and_value}
use Rattle.httparse.proofs.GrammarLemmas.{cons-append}
use Rattle.std.specs.List.{flat_map}
use Rattle.gl_http.specs.declared.head.HeadAnswer.{HeadAnswer}
use Rattle.gl_http.specs.declared.head.HeadAnswer.TheVariants as answer
use Rattle.gl_http.specs.declared.refusal.Refusal.{Refusal}
use Rattle.gl_http.specs.declared.refusal.Refusal.TheVariants.{MethodNotAllowed, TransferCoding}
use Rattle.gl_http.specs.declared.route.Route.{Route}
use Rattle.gl_http.specs.Answers.{IfHead, with_body, with_route, with_length, body_length, answer_of}
use Rattle.gl_http.specs.Fields.{Fields, first_value, stated_length, token_of}
use Rattle.gl_http.specs.Routes.{route_of, has_method, takes_post}
use Rattle.gl_http.specs.Front.{front}

-- the last byte is a line feed
abbrev EndsLine : List ℕ → Type 0
EndsLine bytes = (before : List ℕ) × (bytes ≡ before ++ 10 ∷ [])

behind : (front bytes : List ℕ) → EndsLine bytes → EndsLine (front ++ bytes)
behind front bytes ends = (front ++ ends.0, ap (λ (w : List ℕ). front ++ w) ends.1 ∙ sym (append_assoc front ends.0 (10 ∷ [])))

line_ends : (e : LineEnd) → EndsLine (print_end e)
line_ends crlf = (13 ∷ [], refl)
line_ends lf = ([], refl)

head_ends : (h : RequestHead) → EndsLine (print_request h)
unfolding print_request
head_ends h =
    let parts = regroup (print_blank h.blank) h.method h.target (print_version h.minor) (print_end h.line_end) (print_section h.fields h.last) in
    subst EndsLine (sym parts) (behind (print_blank h.blank ++ (h.method ++ 32 ∷ (h.target ++ 32 ∷ (print_version h.minor ++ print_end h.line_end)))) (print_section h.fields h.last)
    (behind (flat_map print_field h.fields) (print_end h.last) (line_ends h.last)))
  where
    regroup : (a b c d e f : List ℕ) → (a ++ b ++ 32 ∷ c ++ 32 ∷ d ++ e ++ f) ≡ (a ++ (b ++ 32 ∷ (c ++ 32 ∷ (d ++ e)))) ++ f
    regroup a b c d e f = simp (append_assoc, cons-append)

at_last : (before rest : List ℕ) → slice_get ((before ++ 10 ∷ []) ++ rest) (length before) ≡ Some 10
at_last [] rest = refl
at_last (b ∷ before) rest = at_last before rest

last_byte : (bytes rest : List ℕ) → EndsLine bytes → slice_get (bytes ++ rest) (length bytes - 1) ≡ Some 10
last_byte bytes rest ends =
    let long : length bytes - 1 ≡ length ends.0 = omega (arith, ap length ends.1, length-append ends.0 (10 ∷ [])) in
    ap (slice_get (bytes ++ rest)) long ∙ ap (λ (w : List ℕ). slice_get (w ++ rest) (length ends.0)) ends.1 ∙ at_last ends.0 rest

body_bytes : (route : Route) (token : Option (List ℕ)) (n : ℕ) (r : Result ℕ Refusal) → IfHead (with_body route token n r) (λ k. k.bytes ≡ n)
body_bytes route token n (Err refused) = tt
body_bytes route token n (Ok length) = refl

unless : (s t : Bool) (a b : Refusal) (n : ℕ) (other : HeadAnswer) → IfHead other (λ k. k.bytes ≡ n)
    → IfHead (cond s (answer.Refused a) (cond t (answer.Refused b) other)) (λ k. k.bytes ≡ n)
unless true t a b n other is = tt
unless false true a b n other is = tt
unless false false a b n other is = is

route_bytes : (method : List ℕ) (fields : Fields) (n : ℕ) (stated : Option ℕ) (o : Option Route) → IfHead (with_route method fields n stated o) (λ k. k.bytes ≡ n)
route_bytes method fields n stated None = tt
route_bytes method fields n stated (Some route) =
    unless (not (has_method route method)) (is_some (first_value (codes "Transfer-Encoding") fields)) MethodNotAllowed TransferCoding n (with_body route (token_of fields) n (body_length (takes_post route) stated)) (body_bytes route (token_of fields) n (body_length (takes_post route) stated))

length_bytes : (method target : List ℕ) (fields : Fields) (n : ℕ) (stated : Option (Option ℕ)) → IfHead (with_length method target fields n stated) (λ k. k.bytes ≡ n)
length_bytes method target fields n None = tt
length_bytes method target fields n (Some stated) = route_bytes method fields n stated (route_of target)

head_weaker : (a : HeadAnswer) (n : ℕ) (bytes : List ℕ) → IfHead a (λ k. k.bytes ≡ n) → slice_get bytes (n - 1) ≡ Some 10 → IfHead a (λ k. slice_get bytes (k.bytes - 1) ≡ Some 10)
head_weaker answer.More n bytes is last = tt
head_weaker (answer.Head k) n bytes is last = ap (λ (m : ℕ). slice_get bytes (m - 1)) is ∙ last
head_weaker (answer.Refused r) n bytes is last = tt

pub ends_line : (bytes buf : List ℕ) → buf ≡ front bytes → (a : HeadAnswer) (h : RequestHead) (rest : List ℕ) → ReadsRequest buf h rest → a ≡ answer_of h
    → IfHead a (λ k. slice_get bytes (k.bytes - 1) ≡ Some 10)
unfolding front
ends_line bytes buf same a h rest reads is =
    let whole : bytes ≡ print_request h ++ (rest ++ drop 16384 bytes) =
    sym (take-append-drop 16384 bytes) ∙ ap (λ (w : List ℕ). w ++ drop 16384 bytes) (sym same ∙ reads.1) ∙ append_assoc (print_request h) rest (drop 16384 bytes) in
    let last : slice_get bytes (length (print_request h) - 1) ≡ Some 10 =
    ap (λ (w : List ℕ). slice_get w (length (print_request h) - 1)) whole ∙ last_byte (print_request h) (rest ++ drop 16384 bytes) (head_ends h) in
    head_weaker a (length (print_request h)) bytes (subst (λ (b : HeadAnswer). IfHead b (λ k. k.bytes ≡ length (print_request h))) (sym is) (length_bytes h.method h.target (map name_and_value h.fields) (length (print_request h)) (stated_length (map name_and_value h.fields)))) last
