-- The grammar of pipelines.
use Rattle.std.specs.Prelude.{ℕ, zero, suc, pos, negsuc, ℤ, Bool, List, [], ◌∷◌, ◌++◌, Option, Some, None, Result, Ok, Err, nat_lt, nat_le, ◌==◌, take, drop, if◌then◌else◌}
use Rattle.std.specs.List.{prefix_len, list_any}
use Rattle.gl_rulelang.specs.declared.token.Sign.TheVariants as signs
use Rattle.gl_rulelang.specs.declared.pipeline.Mode.{Mode}
use Rattle.gl_rulelang.specs.declared.pipeline.Mode.TheVariants as modes
use Rattle.gl_rulelang.specs.declared.pipeline.Stage.{Stage}
use Rattle.gl_rulelang.specs.declared.pipeline.Pipeline.{Pipeline}
use Rattle.gl_rulelang.specs.Tokens.{Lexeme, number, Tokens, rest, place}
use Rattle.gl_rulelang.specs.Faults.{Fault, unexpected, Reads, ◌>>=◌}
use Rattle.gl_rulelang.specs.Rules.{count, is_at, sign_at, string_at, of_first, taken, whole}
use Rattle.gl_rulelang.specs.Cutting.{tokens_of}

abbrev pub last_stage : ℕ
last_stage = 9999

abbrev pub in_stages : ℤ → Option ℕ
in_stages (pos n) = if nat_le n last_stage then Some n else None
in_stages (negsuc n) = None

-- the number of a stage, at most 9,999
abbrev pub stage_number : Lexeme → Option ℕ
stage_number (number z) = in_stages z
stage_number _ = None

abbrev pub has_number : ℕ → List Stage → Bool
has_number n stages = list_any (λ s. s.number == n) stages

-- a number that none of these stages has
abbrev pub new_number : List Stage → Option ℕ → Option ℕ
new_number stages None = None
new_number stages (Some n) = if has_number n stages then None else Some n

unfoldable pub number_at : List Stage → Tokens → Reads ℕ
number_at stages ts = taken (new_number stages (of_first stage_number ts)) ts

unfoldable pub mode_at : Tokens → Reads Mode
mode_at ts =
    if is_at signs.All ts then Ok (modes.All, rest ts)
    else if is_at signs.Either ts then Ok (modes.Either, rest ts)
    else if is_at signs.Pass ts then Ok (modes.Pass, rest ts)
    else Err (unexpected (place ts))

-- `rule` STRING ;
unfoldable pub rule_name_at : Tokens → Reads (List ℕ)
rule_name_at ts = do
  before ← sign_at signs.Rule ts
  n ← string_at before
  after ← sign_at signs.Semicolon n.1
  Ok (n.0, after)

abbrev pub with_name : List ℕ → Reads (List (List ℕ)) → Reads (List (List ℕ))
with_name n (Ok x) = Ok (n ∷ x.0, x.1)
with_name n (Err e) = Err e

-- the rules of a stage; the number bounds the turns, and one more than the count of the tokens is always enough
unfoldable pub names_at : ℕ → Tokens → Reads (List (List ℕ))
names_at zero ts = Err (unexpected (place ts))
names_at (suc n) ts = if is_at signs.Rule ts then (rule_name_at ts >>= λ r. with_name r.0 (names_at n r.1)) else Ok ([], ts)

-- `stage` NUMBER `match` MODE RULES, behind these stages
unfoldable pub stage_at : List Stage → Tokens → Reads Stage
stage_at stages ts = do
  before ← sign_at signs.Stage ts
  n ← number_at stages before
  behind ← sign_at signs.Match n.1
  m ← mode_at behind
  rules ← names_at (suc (count m.1)) m.1
  Ok (record { number = n.0; mode = m.0; rules = rules.0 }, rules.1)

abbrev pub is_lower : ℕ → Stage → Bool
is_lower n s = nat_lt s.number n

-- the stages with this one, by rising number
abbrev pub with_stage : List Stage → Stage → List Stage
with_stage stages s = take (prefix_len (is_lower s.number) stages) stages ++ s ∷ drop (prefix_len (is_lower s.number) stages) stages

-- stages up to `end`, behind these
unfoldable pub stages_at : ℕ → List Stage → Tokens → Reads (List Stage)
stages_at zero stages ts = Err (unexpected (place ts))
stages_at (suc n) stages ts = if is_at signs.End ts then Ok (stages, rest ts) else (stage_at stages ts >>= λ s. stages_at n (with_stage stages s.0) s.1)

-- `pipeline` STRING STAGES `end`
unfoldable pub pipeline_at : Tokens → Result Pipeline Fault
pipeline_at ts = do
  before ← sign_at signs.Pipeline ts
  n ← string_at before
  stages ← stages_at (suc (count n.1)) [] n.1
  whole (record { name = n.0; stages = stages.0 }) stages.1

-- the pipeline that a text is, or its first fault
abbrev pub pipeline_text : List ℕ → Result Pipeline Fault
pipeline_text text = tokens_of text >>= pipeline_at
