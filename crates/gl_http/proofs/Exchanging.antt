-- What all that a client sent asks for, by the answer to its head.
use Rattle.std.proofs.Common.{◌≡◌, ℕ, ◌+◌, ◌-◌, ◌<◌, ◌≤◌, inl, inr, cond, List, length, Option, Some, None, refl, sym, ap, ◌∙◌, arith}
use Rattle.std.specs.Prelude.{◌⊎◌}
use Rattle.std.proofs.lemmas.Bool.{cases_lt, lt-ltb, le-ltb}
use Rattle.httparse.specs.Grammar.{RequestHead}
use Rattle.gl_http.specs.declared.head.Head.{Head}
use Rattle.gl_http.specs.declared.head.HeadAnswer.{HeadAnswer}
use Rattle.gl_http.specs.declared.head.HeadAnswer.TheVariants as answer
use Rattle.gl_http.specs.declared.refusal.Refusal.TheVariants.{HeadTooLong, BadHead, Truncated}
use Rattle.gl_http.specs.declared.exchange.Exchange.TheVariants.{Asked, Refused}
use Rattle.gl_http.specs.Answers.{answer_of}
use Rattle.gl_http.specs.Front.{front, BeginsWith, HasNoHead}
use Rattle.gl_http.specs.Heads.{head_in}
use Rattle.gl_http.specs.Exchanges.{with_body, behind, exchange_of, exchange_in}
use Rattle.gl_http.proofs.HeadFields.{found_is, is_found}

none_there : (bytes : List ℕ) → HasNoHead bytes → (o : Option RequestHead) → head_in bytes ≡ o → o ≡ None
none_there bytes none None e = refl
none_there bytes none (Some h) e = absurd (none h (is_found bytes h e))

no_head : (bytes : List ℕ) (a : HeadAnswer) → HasNoHead (front bytes)
    → (16384 < length bytes → HasNoHead (front bytes) → a ≡ answer.Refused HeadTooLong)
    → (length bytes ≤ 16384 → HasNoHead (front bytes) → (a ≡ answer.More) ⊎ (a ≡ answer.Refused BadHead))
    → behind bytes a ≡ exchange_of bytes None
no_head bytes a none too_long bad = elim (cases_lt 16384 (length bytes)) [
  | inl long ↦ ap (behind bytes) (too_long long none) ∙ ap (λ t. Refused (cond t HeadTooLong BadHead)) (sym (lt-ltb 16384 (length bytes) long))
  | inr short ↦ elim (bad short none) [
    | inl more ↦ ap (behind bytes) more ∙ ap (λ t. Refused (cond t HeadTooLong BadHead)) (sym (le-ltb 16384 (length bytes) short))
    | inr refused ↦ ap (behind bytes) refused ∙ ap (λ t. Refused (cond t HeadTooLong BadHead)) (sym (le-ltb 16384 (length bytes) short))
  ]
]

pub behind_answer : (bytes : List ℕ) (a : HeadAnswer) → ((h : RequestHead) → BeginsWith (front bytes) h → a ≡ answer_of h)
    → ((h : RequestHead) × BeginsWith (front bytes) h) ⊎ HasNoHead (front bytes)
    → (16384 < length bytes → HasNoHead (front bytes) → a ≡ answer.Refused HeadTooLong)
    → (length bytes ≤ 16384 → HasNoHead (front bytes) → (a ≡ answer.More) ⊎ (a ≡ answer.Refused BadHead))
    → behind bytes a ≡ exchange_in bytes
unfolding exchange_in
behind_answer bytes a whole shown too_long bad = elim shown [
  | inl head ↦ ap (behind bytes) (whole head.0 head.1) ∙ ap (exchange_of bytes) (sym (found_is (front bytes) head.0 head.1))
  | inr none ↦ no_head bytes a none too_long bad ∙ ap (exchange_of bytes) (sym (none_there (front bytes) none (head_in (front bytes)) refl))
]

pub cut_short : (bytes : List ℕ) (head : Head) → head.bytes ≤ length bytes → length bytes - head.bytes < head.length → Refused Truncated ≡ with_body bytes head
cut_short bytes head le lt = ap (λ t. cond t (Refused Truncated) (Asked head)) (sym (lt-ltb (length bytes) (head.bytes + head.length) (omega (arith, le, lt))))

pub is_whole : (bytes : List ℕ) (head : Head) → head.bytes ≤ length bytes → head.length ≤ length bytes - head.bytes → Asked head ≡ with_body bytes head
is_whole bytes head le lt = ap (λ t. cond t (Refused Truncated) (Asked head)) (sym (le-ltb (length bytes) (head.bytes + head.length) (omega (arith, le, lt))))
