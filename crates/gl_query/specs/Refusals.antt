-- Where a query's text is refused (this project): at the first token that no case of the grammar takes behind those before it.
use Rattle.std.specs.Prelude.{ℕ, ◌+◌, Bool, true, false, List, [], ◌∷◌, length, min, nat_lt, if◌then◌else◌, Option, Some, None}
use Rattle.gl_query.specs.declared.token.Token.{Token}
use Rattle.gl_query.specs.declared.step.Want.{Want}
use Rattle.gl_query.specs.declared.step.Want.TheVariants.{Start, Operand, Operator}
use Rattle.gl_query.specs.declared.step.Step.{Step}
use Rattle.gl_query.specs.declared.step.Step.TheVariants.{Refused, Takes, Completes, Negates, Opens, Closes, Joins, Splits}
use Rattle.gl_query.specs.Tokens.{tokens_of}
use Rattle.gl_query.specs.Steps.{step_of}

-- A place between two tokens: what is wanted, how many NOT stand before the operand, and how many stood before each open
-- parenthesis, the innermost first.
pub record Position : Type 0 where
  pub want : Want
  pub negations : ℕ
  pub outer : List ℕ

-- how many NOT and parentheses are open
abbrev pub nesting : ℕ → List ℕ → ℕ
nesting negations [] = negations
nesting negations (n ∷ outer) = negations + 1 + nesting n outer

abbrev pub may_nest : ℕ → List ℕ → Bool
may_nest negations outer = nat_lt (nesting negations outer) 64

abbrev pub left : List ℕ → Option Position
left [] = None
left (n ∷ outer) = Some (record { want = Operator; negations = 0; outer = outer })

-- the place behind a token, if it may stand here
abbrev pub moved : Step → Position → Option Position
moved Refused p = None
moved (Takes want) p = Some (record { want = want; negations = p.negations; outer = p.outer })
moved (Completes term) p = Some (record { want = Operator; negations = 0; outer = p.outer })
moved Negates p = if may_nest p.negations p.outer then Some (record { want = Operand; negations = p.negations + 1; outer = p.outer }) else None
moved Opens p = if may_nest p.negations p.outer then Some (record { want = Operand; negations = 0; outer = p.negations ∷ p.outer }) else None
moved Closes p = left p.outer
moved Joins p = Some (record { want = Operand; negations = p.negations; outer = p.outer })
moved Splits p = Some (record { want = Operand; negations = p.negations; outer = p.outer })

-- a query may end here
abbrev pub may_end : Want → List ℕ → Bool
may_end Start [] = true
may_end Operator [] = true
may_end _ _ = false

abbrev pub refused_behind : Option Position → ℕ → (Position → Option ℕ) → Option ℕ
refused_behind None at go = Some at
refused_behind (Some p) at go = go p

-- where the first of these tokens stands that can't follow, or the end where the query isn't whole there
unfoldable pub refused_from : Position → List (ℕ × Token) → (end : ℕ) → Option ℕ
refused_from p [] end = if may_end p.want p.outer then None else Some end
refused_from p (t ∷ ts) end = refused_behind (moved (step_of p.want t.1) p) t.0 (λ q. refused_from q ts end)

abbrev pub start : Position
start = record { want = Start; negations = 0; outer = [] }

-- a text of more than 4,096 bytes is refused there, or before
abbrev pub within_limit : ℕ → Option ℕ → Option ℕ
within_limit len None = if nat_lt 4096 len then Some 4096 else None
within_limit len (Some at) = Some (min at 4096)

-- where a query's text is refused
abbrev pub refusal_of : List ℕ → Option ℕ
refusal_of text = within_limit (length text) (refused_from start (tokens_of text) (length text))
