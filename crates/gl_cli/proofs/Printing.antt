-- Printed lines, in the words of the answers.
use Rattle.std.specs.Prelude.{◌≡◌, ℕ, suc, ◌+◌, ◌-◌, ◌^◌, ◌<◌, ◌≤◌, ◌==◌, false, List, [], ◌∷◌, ◌++◌, length, take, map, replicate, if◌then◌else◌, Some, None, codes, slice_range}
use Rattle.std.proofs.Common.{refl, inl, inr, ◌∙◌, ap, sym, append_assoc, append-nil, arith, length-take, get_or}
use Rattle.std.proofs.lemmas.Grind.{common_steps}
use Rattle.std.proofs.lemmas.List.{take_more, map_push}
use Rattle.std.proofs.lemmas.List.FromFn.{length-range_with_len}
use Rattle.std.specs.List.{join_with_byte}
use Rattle.std.specs.Fmt.{decimal, padded_integral, format_spec, char_count}
use Rattle.std.proofs.lemmas.Bool.Decides.{eqb_tells}
use Rattle.gl_node.specs.declared.answer.Claimed.{Claimed}
use Rattle.gl_node.specs.declared.answer.Claimed.TheVariants as claimed
use Rattle.gl_node.specs.declared.answer.Finished.{Finished}
use Rattle.gl_node.specs.declared.answer.Finished.TheVariants as finished
use Rattle.gl_node.specs.State.{State}
use Rattle.gl_node.specs.Claims.{FinishAnswer, CommittedTo, Kept, NoClaim, IndexFull, claim_answer, claim_unless, granted_from, range_from, held_by, first_free, positions}
use Rattle.gl_node.specs.Calls.{claimed_of, finished_of}
use Rattle.gl_cli.specs.Answers.{words_text, claim_words, finish_words, end_of}

-- the words of what a node gave a worker
abbrev pub claimed_words : ℕ → Claimed → List (List ℕ)
claimed_words worker (claimed.Range range) = codes "claimed" ∷ decimal worker ∷ decimal range.first ∷ decimal (range.first + length range.entries) ∷ []
claimed_words worker claimed.Nothing = codes "nothing" ∷ []
claimed_words worker (claimed.Busy mark) = codes "busy" ∷ decimal mark.first ∷ decimal (end_of mark) ∷ []

abbrev pub finished_words : Finished → List (List ℕ)
finished_words (finished.Committed count) = codes "committed" ∷ decimal count ∷ []
finished_words (finished.Kept count) = codes "kept" ∷ decimal count ∷ []
finished_words finished.NoClaim = codes "no-claim" ∷ []
finished_words (finished.Stale kept given) = codes "stale" ∷ []
finished_words (finished.IndexFull bytes limit) = codes "index-full" ∷ decimal bytes ∷ decimal limit ∷ []

pub finished_words-of : (answer : FinishAnswer) → finished_words (finished_of answer) ≡ finish_words answer
finished_words-of (CommittedTo count) = refl
finished_words-of (Kept count) = refl
finished_words-of NoClaim = refl
finished_words-of (IndexFull bytes limit) = refl

pub by_finish : (finished : Finished) (text : List ℕ) → text ≡ words_text (finished_words finished)
    → (answer : FinishAnswer) → finished ≡ finished_of answer → text ≡ words_text (finish_words answer)
by_finish finished text e answer is = e ∙ ap (λ f. words_text (finished_words f)) is ∙ ap words_text (finished_words-of answer)

pub length-taken : (a b : ℕ) (xs : List ℕ) → length (take a (take b xs)) ≤ length xs
length-taken a b xs = omega (arith, length-take a (take b xs), length-take b xs)

-- a granted range lies within the journal, so that it has as many entries as positions
pub granted_few : (s : State) (limit first : ℕ) → (range_from s limit first).count ≤ length s.journal - first
granted_few s limit first =
    let h : (range_from s limit first).count ≤ length (positions first (length s.journal)) = length-taken limit _ _ in
    omega (arith, h, length-range_with_len first (length s.journal - first))

pub length-slice : {X : Type 0} (xs : List X) (first count : ℕ) → count ≤ length xs - first → length (slice_range xs first (first + count)) ≡ count
length-slice xs first count h = grind (arith, common_steps)

pub claimed_words-of : (s : State) (worker limit : ℕ) → claimed_words worker (claimed_of s (claim_answer s worker limit)) ≡ claim_words worker (claim_answer s worker limit)
claimed_words-of s worker limit =
    elim (held_by s worker) as (λ h. claimed_words worker (claimed_of s (claim_unless s limit h)) ≡ claim_words worker (claim_unless s limit h)) [
      | Some claim ↦ refl
      | None ↦ elim (first_free s) as (λ f. claimed_words worker (claimed_of s (granted_from s limit f)) ≡ claim_words worker (granted_from s limit f)) [
        | None ↦ refl
        | Some first ↦ ap (λ n. codes "claimed" ∷ decimal worker ∷ decimal first ∷ decimal (first + n) ∷ [])
            (length-slice s.journal first (range_from s limit first).count (granted_few s limit first))
      ]
    ]

pub by_claim : (worker : ℕ) (claimed : Claimed) (text : List ℕ) → text ≡ words_text (claimed_words worker claimed)
    → (s : State) (limit : ℕ) → claimed ≡ claimed_of s (claim_answer s worker limit) → text ≡ words_text (claim_words worker (claim_answer s worker limit))
by_claim worker claimed text e s limit is =
    e ∙ ap (λ c. words_text (claimed_words worker c)) is ∙ ap words_text (claimed_words-of s worker limit)

-- what `{:024x}` writes
pub padded_id : (numeral : List ℕ) → padded_integral (format_spec 32 0 4 24 (2 ^ 64 - 1)) false [] numeral ≡ replicate (24 - length numeral) 48 ++ numeral
unfolding padded_integral char_count
padded_id numeral =
    let zeros : 24 - length numeral - 0 - 0 ≡ 24 - length numeral = omega arith in
    rw (zeros, append-nil numeral) refl

-- a piece more, behind a separator
pub separated : (c n : ℕ) → (if suc n == 0 then [] else c ∷ []) ≡ c ∷ []
separated c n = elim (eqb_tells (suc n) 0) [
  | inl p ↦ absurd (omega (arith, p.1))
  | inr q ↦ ap (λ v. if v then [] else c ∷ []) q.0
]

pub join-more : (c : ℕ) (pieces : List (List ℕ)) (piece : List ℕ)
    → join_with_byte c (pieces ++ piece ∷ []) ≡ join_with_byte c pieces ++ ((if length pieces == 0 then [] else c ∷ []) ++ piece)
join-more c [] piece = refl
join-more c (p ∷ []) piece = refl
join-more c (p ∷ q ∷ pieces) piece =
    ap (λ t. p ++ c ∷ t) (join-more c (q ∷ pieces) piece ∙ ap (λ t. join_with_byte c (q ∷ pieces) ++ (t ++ piece)) (separated c (length pieces)))
    ∙ sym (append_assoc p (c ∷ join_with_byte c (q ∷ pieces)) (c ∷ piece))
    ∙ ap (λ t. (p ++ c ∷ join_with_byte c (q ∷ pieces)) ++ (t ++ piece)) (sym (separated c (suc (length pieces))))

pub join_map-more : {X : Type 0} (c : ℕ) (f : X → List ℕ) (xs : List X) (i : ℕ) (x : X) → i < length xs → x ≡ get_or xs i x
    → join_with_byte c (map f (take (i + 1) xs)) ≡ join_with_byte c (map f (take i xs)) ++ ((if i == 0 then [] else c ∷ []) ++ f x)
join_map-more c f xs i x h e =
    let n : length (map f (take i xs)) ≡ i = grind (arith, common_steps) in
    ap (λ t. join_with_byte c (map f t)) (take_more xs i x h)
    ∙ ap (join_with_byte c) (map_push f (take i xs) (get_or xs i x))
    ∙ join-more c (map f (take i xs)) (f (get_or xs i x))
    ∙ ap (λ k. join_with_byte c (map f (take i xs)) ++ ((if k == 0 then [] else c ∷ []) ++ f (get_or xs i x))) n
    ∙ ap (λ y. join_with_byte c (map f (take i xs)) ++ ((if i == 0 then [] else c ∷ []) ++ f y)) (sym e)

pub pushed : (old mid now new joined separator piece next : List ℕ) → mid ≡ old ++ joined → now ≡ mid ++ separator → new ≡ now ++ piece
    → next ≡ joined ++ (separator ++ piece) → new ≡ old ++ next
pushed old mid now new joined separator piece next p q r e =
    r ∙ ap (λ t. t ++ piece) (q ∙ ap (λ t. t ++ separator) p)
    ∙ append_assoc (old ++ joined) separator piece
    ∙ append_assoc old joined (separator ++ piece)
    ∙ ap (λ t. old ++ t) (sym e)
