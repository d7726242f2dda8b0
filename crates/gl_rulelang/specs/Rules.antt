-- The grammar of rules, and of what rules and pipelines share. Each reader gives a value and the tokens behind
-- it, or the place of the first token that can't follow.
use Rattle.std.specs.Prelude.{◌≡◌, ℕ, zero, suc, Bool, List, [], ◌∷◌, Option, Some, None, Result, Ok, Err, if◌then◌else◌}
use Rattle.gl_rulelang.specs.declared.token.Sign.{Sign}
use Rattle.gl_rulelang.specs.declared.token.Sign.TheVariants as signs
use Rattle.gl_rulelang.specs.declared.refusal.TextRefusal.{TextRefusal}
use Rattle.gl_rulelang.specs.Tree.{Tree, call, Step, assign, perform, RuleTree}
use Rattle.gl_rulelang.specs.Tokens.{Lexeme, name, string, Tokens, end, token, first, rest, place, is_sign}
use Rattle.gl_rulelang.specs.Faults.{Fault, unexpected, Reads, ◌>>=◌, Fails}
use Rattle.gl_rulelang.specs.Nesting.{performed}
use Rattle.gl_rulelang.specs.Expressions.{anywhere, first_argument, wants, run}
use Rattle.gl_rulelang.specs.Cutting.{tokens_of}

-- how many tokens there are
abbrev pub count : Tokens → ℕ
count (end at) = 0
count (token l at ts) = suc (count ts)

abbrev pub is_at : Sign → Tokens → Bool
is_at s ts = is_sign s (first ts)

-- a sign or keyword that has to stand here
unfoldable pub sign_at : Sign → Tokens → Result Tokens Fault
sign_at s ts = if is_at s ts then Ok (rest ts) else Err (unexpected (place ts))

abbrev pub string_of : Lexeme → Option (List ℕ)
string_of (string s) = Some s
string_of _ = None

abbrev pub name_of : Lexeme → Option (List ℕ)
name_of (name n) = Some n
name_of _ = None

abbrev pub taken : {A : Type 0} → Option A → Tokens → Reads A
taken None ts = Err (unexpected (place ts))
taken (Some x) ts = Ok (x, rest ts)

abbrev pub of_first : {A : Type 0} → (Lexeme → Option A) → Tokens → Option A
of_first f (end at) = None
of_first f (token l at ts) = f l

unfoldable pub string_at : Tokens → Reads (List ℕ)
string_at ts = taken (of_first string_of ts) ts

unfoldable pub name_at : Tokens → Reads (List ℕ)
name_at ts = taken (of_first name_of ts) ts

abbrev pub expression_at : Tokens → Reads Tree
expression_at ts = run ts [] (wants anywhere)

-- behind the parenthesis of a call that is an action
abbrev pub performed_at : List ℕ → Tokens → Reads Tree
performed_at f ts = run ts (performed f [] None ∷ []) (wants first_argument)

abbrev pub performing : Tree → Tokens → Reads Step
performing (call f given) ts = Ok (perform f given, ts)
performing _ ts = Err (unexpected (place ts))

-- `let` NAME = EXPRESSION ;
unfoldable pub let_at : Tokens → Reads Step
let_at ts = do
  before ← sign_at signs.Let ts
  x ← name_at before
  behind ← sign_at signs.Assign x.1
  e ← expression_at behind
  after ← sign_at signs.Semicolon e.1
  Ok (assign x.0 e.0, after)

-- NAME ( ARGUMENTS ) ;
unfoldable pub call_at : Tokens → Reads Step
call_at ts = do
  f ← name_at ts
  behind ← sign_at signs.Open f.1
  c ← performed_at f.0 behind
  after ← sign_at signs.Semicolon c.1
  performing c.0 after

abbrev pub action_at : Tokens → Reads Step
action_at ts = if is_at signs.Let ts then let_at ts else call_at ts

abbrev pub with_step : Step → Reads (List Step) → Reads (List Step)
with_step s (Ok x) = Ok (s ∷ x.0, x.1)
with_step s (Err e) = Err e

-- actions up to `end`; the number bounds the turns, and one more than the count of the tokens is always enough
unfoldable pub steps_at : ℕ → Tokens → Reads (List Step)
steps_at zero ts = Err (unexpected (place ts))
steps_at (suc n) ts = if is_at signs.End ts then Ok ([], rest ts) else (action_at ts >>= λ a. with_step a.0 (steps_at n a.1))

-- nothing may follow
abbrev pub whole : {A : Type 0} → A → Tokens → Result A Fault
whole x (end at) = Ok x
whole x (token l at ts) = Err (unexpected at)

-- `rule` STRING `when` EXPRESSION `then` ACTIONS `end`
unfoldable pub rule_at : Tokens → Result RuleTree Fault
rule_at ts = do
  before ← sign_at signs.Rule ts
  n ← string_at before
  behind ← sign_at signs.When n.1
  e ← expression_at behind
  after ← sign_at signs.Then e.1
  steps ← steps_at (suc (count after)) after
  whole (record { name = n.0; condition = e.0; steps = steps.0 }) steps.1

-- the rule that a text is, or its first fault
abbrev pub rule_text : List ℕ → Result RuleTree Fault
rule_text text = tokens_of text >>= rule_at

-- A sign was there, and the tokens behind it are left; or a call refused for this fault.
abbrev pub Passes : {A : Type 0} → Result A TextRefusal → Tokens → Result Tokens Fault → Type 0
Passes (Ok x) behind read = read ≡ Ok behind
Passes (Err e) behind read = Fails e read
