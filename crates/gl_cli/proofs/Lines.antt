-- The lines of a text, from its front.
use Rattle.std.specs.Prelude.{◌≡◌, ℕ, suc, ◌+◌, ◌-◌, ◌<◌, ◌≤◌, false, List, [], ◌∷◌, ◌++◌, length, take, All, ◌==◌, if◌then◌else◌}
use Rattle.std.proofs.Common.{refl, ◌∙◌, ap, sym, arith, length-append, inl, inr, get_or}
use Rattle.std.proofs.lemmas.Bool.{cases_lt, le-leb, lt-leb}
use Rattle.std.proofs.lemmas.Bool.Decides.{eqb_tells}
use Rattle.std.proofs.lemmas.List.Splits.{slice_split_none, slice_split_at, length-slice_split}
use Rattle.std.proofs.Math.Seq.{take-append-add}
use Rattle.gl_cli.specs.Script.{lines_within, all_lines, ended_lines, parts_of, but_last, last_line}
use Rattle.gl_cli.specs.LineReading.{NoNewline}

pub is_newline_not : (bytes : List ℕ) → NoNewline bytes → All (λ b. (b == 10) ≡ false) bytes
is_newline_not bytes h = λ k d within. elim (eqb_tells (get_or bytes k d) 10) [ inl p ↦ absurd (h k d within p.1) | inr q ↦ q.0 ]

pub parts_of-line : (line rest : List ℕ) → NoNewline line → parts_of (line ++ 10 ∷ rest) ≡ line ∷ parts_of rest
parts_of-line line rest h = slice_split_at (λ b. b == 10) line 10 rest (is_newline_not line h) refl

pub parts_of-none : (line : List ℕ) → NoNewline line → parts_of line ≡ line ∷ []
parts_of-none line h = slice_split_none (λ b. b == 10) line (is_newline_not line h)

-- there is always a part
pub parts_of-some : (text : List ℕ) → 0 < length (parts_of text)
parts_of-some text = rw (length-slice_split (λ b. b == 10) text) (omega arith)

pub but_last-cons : (part : List ℕ) (parts : List (List ℕ)) → 0 < length parts → but_last (part ∷ parts) ≡ part ∷ but_last parts
but_last-cons part [] h = absurd (omega (arith, h))
but_last-cons part (next ∷ parts) h = refl

pub last_line-cons : (part : List ℕ) (parts : List (List ℕ)) → 0 < length parts → last_line (part ∷ parts) ≡ last_line parts
last_line-cons part [] h = absurd (omega (arith, h))
last_line-cons part (next ∷ parts) h = refl

pub ended_lines-line : (line rest : List ℕ) → NoNewline line → ended_lines (line ++ 10 ∷ rest) ≡ line ∷ ended_lines rest
ended_lines-line line rest h =
    ap but_last (parts_of-line line rest h) ∙ but_last-cons line (parts_of rest) (parts_of-some rest)

pub all_lines-line : (line rest : List ℕ) → NoNewline line → all_lines (line ++ 10 ∷ rest) ≡ line ∷ all_lines rest
all_lines-line line rest h =
    ap (λ ps. but_last ps ++ last_line ps) (parts_of-line line rest h)
    ∙ ap (λ ls. ls ++ last_line (line ∷ parts_of rest)) (but_last-cons line (parts_of rest) (parts_of-some rest))
    ∙ ap (λ ls. line ∷ (but_last (parts_of rest) ++ ls)) (last_line-cons line (parts_of rest) (parts_of-some rest))

-- the two cases of a budget
pub lines_within-all : (budget : ℕ) (text : List ℕ) → length text ≤ budget → lines_within budget text ≡ all_lines text
lines_within-all budget text fits = ap (λ b. if b then all_lines text else ended_lines (take budget text)) (le-leb (length text) budget fits)

pub lines_within-cut : (budget : ℕ) (text : List ℕ) → budget < length text → lines_within budget text ≡ ended_lines (take budget text)
lines_within-cut budget text long = ap (λ b. if b then all_lines text else ended_lines (take budget text)) (lt-leb (length text) budget long)

pub take-line : (budget : ℕ) (line rest : List ℕ) → length line < budget
    → take budget (line ++ 10 ∷ rest) ≡ line ++ 10 ∷ take (budget - (length line + 1)) rest
take-line budget line rest fits =
    let e : budget ≡ length line + suc (budget - (length line + 1)) = omega (arith, fits) in
    ap (λ n. take n (line ++ 10 ∷ rest)) e ∙ take-append-add line (10 ∷ rest) (suc (budget - (length line + 1)))

pub lines_within-line : (budget : ℕ) (line rest : List ℕ) → NoNewline line → length line < budget
    → lines_within budget (line ++ 10 ∷ rest) ≡ line ∷ lines_within (budget - (length line + 1)) rest
lines_within-line budget line rest h fits = elim (cases_lt budget (length (line ++ 10 ∷ rest))) [
  | inl long ↦
      lines_within-cut budget (line ++ 10 ∷ rest) long
      ∙ ap ended_lines (take-line budget line rest fits)
      ∙ ended_lines-line line (take (budget - (length line + 1)) rest) h
      ∙ ap (λ ls. line ∷ ls) (sym (lines_within-cut (budget - (length line + 1)) rest (omega (arith, fits, long, length-append line (10 ∷ rest)))))
  | inr short ↦
      lines_within-all budget (line ++ 10 ∷ rest) short
      ∙ all_lines-line line rest h
      ∙ ap (λ ls. line ∷ ls) (sym (lines_within-all (budget - (length line + 1)) rest (omega (arith, fits, short, length-append line (10 ∷ rest)))))
]

pub last_line-one : (text : List ℕ) → 0 < length text → last_line (text ∷ []) ≡ text ∷ []
last_line-one [] h = absurd (omega (arith, h))
last_line-one (b ∷ text) h = elim (eqb_tells (suc (length text)) 0) [
  | inl p ↦ absurd (omega (arith, p.1))
  | inr q ↦ ap (λ v. if v then [] else (b ∷ text) ∷ []) q.0
]

pub lines_within-last : (budget : ℕ) (text : List ℕ) → NoNewline text → 0 < length text → length text ≤ budget → lines_within budget text ≡ text ∷ []
lines_within-last budget text h some fits =
    lines_within-all budget text fits ∙ ap (λ ps. but_last ps ++ last_line ps) (parts_of-none text h) ∙ last_line-one text some

pub lines_within-none : (budget : ℕ) → lines_within budget [] ≡ []
lines_within-none budget = lines_within-all budget [] (omega arith)

pub lines_within-long : (budget : ℕ) (text : List ℕ) → NoNewline (take budget text) → budget < length text → lines_within budget text ≡ []
lines_within-long budget text h long = lines_within-cut budget text long ∙ ap but_last (parts_of-none (take budget text) h)
