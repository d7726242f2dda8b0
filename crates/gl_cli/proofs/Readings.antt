-- What a reading gives, from what waits and what the source has left.
use Rattle.std.specs.Prelude.{◌≡◌, ◌⊎◌, ℕ, suc, ◌+◌, ◌-◌, ◌<◌, ◌≤◌, Bool, List, [], ◌∷◌, ◌++◌, length, take, drop, Option, Some, None, IsTrue}
use Rattle.std.proofs.Common.{refl, ◌∙◌, ap, sym, subst, append_assoc, arith, length-append, inl, inr, take_all, length-take, append-nil, add-one}
use Rattle.std.proofs.lemmas.List.{take-append-le, take-append-drop}
use Rattle.std.proofs.Math.Seq.{drop-cons}
use Rattle.std.specs.Io.KnownBytes.{Keeps, Consumes, IsAtEnd, prepend_known}
use Rattle.gl_cli.specs.declared.reader.Next.TheVariants.{Line, End, TooLong}
use Rattle.gl_cli.specs.LineReading.{NoNewline, IsNewlineAt, Gives, GivesKnown}
use Rattle.gl_cli.proofs.Lines.{lines_within-line, lines_within-last, lines_within-none, lines_within-long}

pub Gives-line : (budget : ℕ) (line more : List ℕ) → NoNewline line → length line < budget → Gives (Line line) (line ++ 10 ∷ more) budget more (budget - (length line + 1))
Gives-line budget line more h fits = (
  lines_within-line budget line more h fits,
  ((λ p. omega (arith, p, fits, length-append line (10 ∷ more))), (λ p. omega (arith, p, fits, length-append line (10 ∷ more)))),
)

pub at_newline : (bytes : List ℕ) (budget place : ℕ) → IsNewlineAt bytes budget place → bytes ≡ take place bytes ++ 10 ∷ drop (place + 1) bytes
at_newline bytes budget place h =
    sym (take-append-drop place bytes)
    ∙ ap (λ t. take place bytes ++ t) (drop-cons bytes place 0 h.inside)
    ∙ ap (λ b. take place bytes ++ b ∷ drop (suc place) bytes) h.is
    ∙ ap (λ n. take place bytes ++ 10 ∷ drop n bytes) (sym (add-one place))

-- what a read took from the source waits, or it took nothing
pub Keeps-taken : (waiting more : List ℕ) (old new : Option (List ℕ)) → Consumes old new more → Keeps (prepend_known waiting old) (prepend_known (waiting ++ more) new)
Keeps-taken waiting more None new k = tt
Keeps-taken waiting more (Some xs) None k = absurd k
Keeps-taken waiting more (Some xs) (Some ys) k = append_assoc waiting more ys ∙ ap (λ t. waiting ++ t) (sym k)

pub Keeps-nothing : (waiting more : List ℕ) (old new : Option (List ℕ)) → more ≡ [] → Consumes old new more → Keeps (prepend_known waiting old) (prepend_known waiting new)
Keeps-nothing waiting more None new e k = tt
Keeps-nothing waiting more (Some xs) None e k = absurd k
Keeps-nothing waiting more (Some xs) (Some ys) e k = ap (λ t. waiting ++ t) (sym (k ∙ ap (λ t. t ++ ys) e))

pub take_whole : (count : ℕ) (bytes more : List ℕ) → length bytes ≡ count → take count (bytes ++ more) ≡ bytes
take_whole count bytes more e = take-append-le count bytes more (omega (arith, e)) ∙ take_all count bytes (omega (arith, e))

pub Keeps-some : (old : List ℕ) (pending left : List ℕ) → Keeps (Some old) (prepend_known pending (Some left)) → old ≡ pending ++ left
Keeps-some old pending left k = sym k

pub given-line : (old left : Option (List ℕ)) (pending : List ℕ) (budget place : ℕ) (line rest : List ℕ)
    → Keeps old (prepend_known pending left) → IsNewlineAt pending budget place → line ≡ take place pending → rest ≡ drop (place + 1) pending
    → GivesKnown (Line line) old budget (prepend_known rest left) (budget - (place + 1))
given-line None left pending budget place line rest k h e f = tt
given-line (Some old) None pending budget place line rest k h e f = absurd k
given-line (Some old) (Some left) pending budget place line rest k h e f =
    let n : length line ≡ place = ap length e ∙ length-take place pending ∙ omega (arith, h.inside) in
    let clear : NoNewline line = subst NoNewline (sym e) h.first in
    let whole : old ≡ line ++ 10 ∷ (rest ++ left) =
    sym k ∙ ap (λ p. p ++ left) (at_newline pending budget place h)
    ∙ append_assoc (take place pending) (10 ∷ drop (place + 1) pending) left
    ∙ ap (λ p. p ++ 10 ∷ (drop (place + 1) pending ++ left)) (sym e)
    ∙ ap (λ p. line ++ 10 ∷ (p ++ left)) (sym f) in
    subst (λ (o : List ℕ). Gives (Line line) o budget (rest ++ left) (budget - (place + 1))) (sym whole)
    (subst (λ (p : ℕ). Gives (Line line) (line ++ 10 ∷ (rest ++ left)) budget (rest ++ left) (budget - (p + 1))) n
    (Gives-line budget line (rest ++ left) clear (omega (arith, n, h.allowed))))

pub given-long : (old left : Option (List ℕ)) (pending : List ℕ) (budget : ℕ)
    → Keeps old (prepend_known pending left) → NoNewline (take budget pending) → budget < length pending
    → GivesKnown TooLong old budget (prepend_known pending left) budget
given-long None left pending budget k h long = tt
given-long (Some old) None pending budget k h long = absurd k
given-long (Some old) (Some left) pending budget k h long =
    subst (λ (o : List ℕ). Gives TooLong o budget (pending ++ left) budget) k (
      lines_within-long budget (pending ++ left)
          (subst NoNewline (sym (take-append-le budget pending left (omega (arith, long)))) h)
          (omega (arith, long, length-append pending left)),
      omega (arith, long, length-append pending left),
    )

pub given-last : (old left : Option (List ℕ)) (pending : List ℕ) (budget : ℕ)
    → Keeps old (prepend_known pending left) → IsAtEnd left → NoNewline pending → 0 < length pending → length pending ≤ budget
    → GivesKnown (Line pending) old budget (prepend_known [] left) (budget - length pending)
given-last None left pending budget k e h some fits = tt
given-last (Some old) None pending budget k e h some fits = absurd k
given-last (Some old) (Some left) pending budget k e h some fits =
    subst (λ (l : List ℕ). (pending ++ l ≡ old) → Gives (Line pending) old budget ([] ++ l) (budget - length pending)) (sym e)
    (λ (w : pending ++ [] ≡ old).
    subst (λ (o : List ℕ). Gives (Line pending) o budget [] (budget - length pending)) (sym (append-nil pending) ∙ w) (
      lines_within-last budget pending h some fits ∙ ap (λ ls. pending ∷ ls) (sym (lines_within-none (budget - length pending))),
      ((λ p. omega arith), (λ p. fits)),
    )) k

pub given-end : (old left : Option (List ℕ)) (pending : List ℕ) (budget : ℕ)
    → Keeps old (prepend_known pending left) → IsAtEnd left → length pending ≡ 0
    → GivesKnown End old budget (prepend_known pending left) budget
given-end None left pending budget k e empty = tt
given-end (Some old) None pending budget k e empty = absurd k
given-end (Some old) (Some left) [] budget k e empty =
    subst (λ (o : List ℕ). Gives End o budget left budget) k
    (subst (λ (l : List ℕ). Gives End l budget l budget) (sym e) (lines_within-none budget, omega arith, refl))
given-end (Some old) (Some left) (b ∷ pending) budget k e empty = absurd (omega (arith, empty))

-- the last line, in the words of the loop that filled the buffer
pub given-rest : (old left : Option (List ℕ)) (pending : List ℕ) (budget : ℕ) (ended : Bool) (line cleared : List ℕ) (count : ℕ)
    → Keeps old (prepend_known pending left) → NoNewline (take budget pending) × ((budget < length pending) ⊎ IsTrue ended)
    → (IsTrue ended → IsAtEnd left) → length pending ≤ budget → 0 < length pending → line ≡ pending → cleared ≡ [] → count ≡ length pending
    → GivesKnown (Line line) old budget (prepend_known cleared left) (budget - count)
given-rest old left pending budget ended line cleared count k found at_end fits some e f n =
    rw (e, f, n) (given-last old left pending budget k
    (elim found.1 [ inl long ↦ absurd (omega (arith, long, fits)) | inr stopped ↦ at_end stopped ])
    (subst NoNewline (take_all budget pending fits) found.0) some fits)
