-- Cutting a text from left to right.
use Rattle.std.proofs.Common.{◌≡◌, ℕ, zero, suc, ◌+◌, ◌-◌, ◌<◌, ◌≤◌, List, [], ◌∷◌, ◌++◌, length, drop, Result, Ok, Err, refl, sym, ap, ◌∙◌, arith}
use Rattle.std.specs.Str.{IsUtf8}
use Rattle.gl_rulelang.specs.declared.token.Placed.{Placed}
use Rattle.gl_rulelang.specs.Tokens.{Tokens, end, token_view, tokens_from}
use Rattle.gl_rulelang.specs.Faults.{Fault, bad_token}
use Rattle.std.proofs.lemmas.List.{length-drop}
use Rattle.std.proofs.lemmas.Str.{IsUtf8-drop}
use Rattle.gl_rulelang.specs.Fronts.{EndsAt, Front, blank, lexeme, bad, front_of}
use Rattle.gl_rulelang.specs.Cutting.{with_token, cut_front, cutting, tokens_of}

-- these tokens, and then what the rest gives
abbrev pub before : List Placed → Result Tokens Fault → Result Tokens Fault
before [] read = read
before (p ∷ ps) read = with_token (token_view p.token) p.at (before ps read)

-- the tokens so far and those of the rest are those of the text
pub record Stands (text : List ℕ) (placed : List Placed) (at : ℕ) (rest : List ℕ) : Type 0 where
  pub turns : ℕ
  pub enough : length rest ≤ turns
  pub told : before placed (cutting turns at rest) ≡ tokens_of text
  pub place : at + length rest ≡ length text
  pub utf8 : IsUtf8 rest

pub before-push : (ps : List Placed) (p : Placed) (read : Result Tokens Fault) → before (ps ++ p ∷ []) read ≡ before ps (with_token (token_view p.token) p.at read)
before-push [] p read = refl
before-push (q ∷ ps) p read = ap (with_token (token_view q.token) q.at) (before-push ps p read)

pub before-end : (ps : List Placed) (at : ℕ) → before ps (Ok (end at)) ≡ Ok (tokens_from at ps)
before-end [] at = refl
before-end (p ∷ ps) at = ap (with_token (token_view p.token) p.at) (before-end ps at)

pub before-err : (ps : List Placed) (e : Fault) → before ps (Err e) ≡ Err e
before-err [] e = refl
before-err (p ∷ ps) e = ap (with_token (token_view p.token) p.at) (before-err ps e)

-- one turn
pub cutting-turn : (n at : ℕ) (text : List ℕ) → 0 < length text → length text ≤ n → cutting n at text ≡ cut_front (front_of text) (cutting (n - 1)) at text
unfolding cutting
cutting-turn n at [] some enough = absurd (omega arith)
cutting-turn zero at (b ∷ text) some enough = absurd (omega arith)
cutting-turn (suc n) at (b ∷ text) some enough = let one : suc n - 1 ≡ n = omega arith in rw one refl

pub cutting-end : (n at : ℕ) (text : List ℕ) → length text ≡ 0 → cutting n at text ≡ Ok (end at)
unfolding cutting
cutting-end n at [] none = refl
cutting-end n at (b ∷ text) none = absurd (omega arith)

pub stands_blank : (text : List ℕ) (ps : List Placed) (at : ℕ) (rest : List ℕ) (n : ℕ) → Stands text ps at rest → 0 < length rest → front_of rest ≡ blank n → EndsAt rest n → Stands text ps (at + n) (drop n rest)
stands_blank text ps at rest n st some f ends =
    let turn : cutting st.turns at rest ≡ cutting (st.turns - 1) (at + n) (drop n rest) = cutting-turn st.turns at rest some st.enough ∙ ap (λ (g : Front). cut_front g (cutting (st.turns - 1)) at rest) f in
    record {
      turns = st.turns - 1;
      enough = omega (arith, length-drop n rest, st.enough, ends.some, ends.within);
      told = ap (before ps) (sym turn) ∙ st.told;
      place = omega (arith, length-drop n rest, st.place, ends.within);
      utf8 = IsUtf8-drop rest n st.utf8 ends.boundary;
    }

pub stands_token : (text : List ℕ) (ps : List Placed) (p : Placed) (rest : List ℕ) (n : ℕ) → Stands text ps p.at rest → 0 < length rest → front_of rest ≡ lexeme (token_view p.token) n → EndsAt rest n
    → Stands text (ps ++ p ∷ []) (p.at + n) (drop n rest)
stands_token text ps p rest n st some f ends =
    let turn : cutting st.turns p.at rest ≡ with_token (token_view p.token) p.at (cutting (st.turns - 1) (p.at + n) (drop n rest))
    = cutting-turn st.turns p.at rest some st.enough ∙ ap (λ (g : Front). cut_front g (cutting (st.turns - 1)) p.at rest) f in
    record {
      turns = st.turns - 1;
      enough = omega (arith, length-drop n rest, st.enough, ends.some, ends.within);
      told = before-push ps p (cutting (st.turns - 1) (p.at + n) (drop n rest)) ∙ ap (before ps) (sym turn) ∙ st.told;
      place = omega (arith, length-drop n rest, st.place, ends.within);
      utf8 = IsUtf8-drop rest n st.utf8 ends.boundary;
    }

pub stands_bad : (text : List ℕ) (ps : List Placed) (at : ℕ) (rest : List ℕ) → Stands text ps at rest → 0 < length rest → front_of rest ≡ bad → tokens_of text ≡ Err (bad_token at)
stands_bad text ps at rest st some f =
    sym st.told ∙ ap (before ps) (cutting-turn st.turns at rest some st.enough ∙ ap (λ (g : Front). cut_front g (cutting (st.turns - 1)) at rest) f) ∙ before-err ps (bad_token at)

pub stands_end : (text : List ℕ) (ps : List Placed) (at : ℕ) (rest : List ℕ) → Stands text ps at rest → length rest ≡ 0 → tokens_of text ≡ Ok (tokens_from (length text) ps)
stands_end text ps at rest st none =
    let place : at ≡ length text = omega (arith, st.place) in
    sym st.told ∙ ap (before ps) (cutting-end st.turns at rest none) ∙ before-end ps at ∙ ap (λ (n : ℕ). Ok (tokens_from n ps)) place
