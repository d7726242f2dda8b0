-- What is printed of a pipeline that was read reads back to it.
use Rattle.std.proofs.Common.{◌≡◌, ℕ, ◌<◌, ◌≤◌, ◌^◌, List, [], ◌∷◌, ◌++◌, Result, Ok, Err, refl, sym, ap, subst, ◌∙◌, append_assoc, arith}
use Rattle.std.specs.Prelude.{pos, codes, IfOk}
use Rattle.std.specs.List.{flat_map, AllByRecursion}
use Rattle.std.specs.Fmt.{decimal as decimal_text}
use Rattle.std.proofs.lemmas.List.Elements.{All-from_recursion, recursion_from_All}
use Rattle.std.proofs.lemmas.List.Sorted.{IsPermutation-refl, All-permutation}
use Rattle.gl_rulelang.specs.declared.token.Sign.TheVariants as signs
use Rattle.gl_rulelang.specs.declared.pipeline.Mode.{Mode}
use Rattle.gl_rulelang.specs.declared.pipeline.Mode.TheVariants as modes
use Rattle.gl_rulelang.specs.declared.pipeline.Stage.{Stage}
use Rattle.gl_rulelang.specs.declared.pipeline.Pipeline.{Pipeline}
use Rattle.gl_rulelang.specs.Tokens.{Lexeme, string, number, sign}
use Rattle.gl_rulelang.specs.Pipelines.{last_stage, pipeline_text}
use Rattle.gl_rulelang.specs.Printing.{quote, mode_text, rule_line, stage_text, pipeline_print}
use Rattle.gl_rulelang.specs.Sentences.{member_spelled, mode_sign, stage_spelled, pipeline_spelled, IsPipeline}
use Rattle.gl_rulelang.proofs.Lexing.{Lexed, lexed_end, lexed_is_cut, lexed_word, lexed_number, lexed_string, space_lexed, line_lexed, semicolon_lexed}
use Rattle.gl_rulelang.proofs.PipelineForms.{text_is_pipeline, pipeline_is_read}

member_text : (n rest : List ℕ) → rule_line n ++ rest ≡ 32 ∷ 32 ∷ (codes "rule" ++ 32 ∷ (quote n ++ 59 ∷ 10 ∷ rest))
member_text n rest = ap (λ (y : List ℕ). 32 ∷ 32 ∷ 114 ∷ 117 ∷ 108 ∷ 101 ∷ 32 ∷ y) (append_assoc (quote n) (59 ∷ 10 ∷ []) rest)

member_lexed : (n rest : List ℕ) (xs : List Lexeme) → Lexed rest xs → Lexed (rule_line n ++ rest) (member_spelled n ++ xs)
member_lexed n rest xs h =
    let from_name = lexed_string n (59 ∷ 10 ∷ rest) (sign signs.Semicolon ∷ xs) (semicolon_lexed (10 ∷ rest) xs (line_lexed rest xs h)) in
    let named = string n ∷ sign signs.Semicolon ∷ xs in
    let body = quote n ++ 59 ∷ 10 ∷ rest in
    let from_word = lexed_word (codes "rule") (sign signs.Rule) (32 ∷ body) named (record { starts = refl; all = refl }) refl refl (space_lexed body named from_name) in
    subst (λ (y : List ℕ). Lexed y (sign signs.Rule ∷ named)) (sym (member_text n rest))
    (space_lexed (32 ∷ (codes "rule" ++ 32 ∷ body)) (sign signs.Rule ∷ named) (space_lexed (codes "rule" ++ 32 ∷ body) (sign signs.Rule ∷ named) from_word))

members_lexed : (names : List (List ℕ)) (rest : List ℕ) (xs : List Lexeme) → Lexed rest xs → Lexed (flat_map rule_line names ++ rest) (flat_map member_spelled names ++ xs)
members_lexed [] rest xs h = h
members_lexed (n ∷ names) rest xs h =
    subst (λ (y : List ℕ). Lexed y (flat_map member_spelled (n ∷ names) ++ xs)) (sym (append_assoc (rule_line n) (flat_map rule_line names) rest))
    (member_lexed n (flat_map rule_line names ++ rest) (flat_map member_spelled names ++ xs) (members_lexed names rest xs h))

mode_lexed : (m : Mode) (rest : List ℕ) (xs : List Lexeme) → Lexed rest xs → Lexed (mode_text m ++ 10 ∷ rest) (sign (mode_sign m) ∷ xs)
mode_lexed modes.All rest xs h = lexed_word (codes "all") (sign signs.All) (10 ∷ rest) xs (record { starts = refl; all = refl }) refl refl (line_lexed rest xs h)
mode_lexed modes.Either rest xs h = lexed_word (codes "either") (sign signs.Either) (10 ∷ rest) xs (record { starts = refl; all = refl }) refl refl (line_lexed rest xs h)
mode_lexed modes.Pass rest xs h = lexed_word (codes "pass") (sign signs.Pass) (10 ∷ rest) xs (record { starts = refl; all = refl }) refl refl (line_lexed rest xs h)

regrouped : (number_part mode members rest : List ℕ) → (codes "stage " ++ (number_part ++ (codes " match " ++ (mode ++ (codes "\n" ++ members))))) ++ rest
    ≡ codes "stage" ++ 32 ∷ (number_part ++ 32 ∷ (codes "match" ++ 32 ∷ (mode ++ 10 ∷ (members ++ rest))))
regrouped number_part mode members rest =
    ap (λ (y : List ℕ). codes "stage" ++ 32 ∷ y) (append_assoc number_part (32 ∷ (codes "match" ++ 32 ∷ (mode ++ 10 ∷ members))) rest
    ∙ ap (λ (y : List ℕ). number_part ++ 32 ∷ (codes "match" ++ 32 ∷ y)) (append_assoc mode (10 ∷ members) rest))

stage_lexed : (s : Stage) (rest : List ℕ) (xs : List Lexeme) → s.number ≤ last_stage → Lexed rest xs → Lexed (stage_text s ++ rest) (stage_spelled s ++ xs)
stage_lexed s rest xs low h =
    let members_text = flat_map rule_line s.rules ++ rest in
    let members = flat_map member_spelled s.rules ++ xs in
    let from_mode = mode_lexed s.mode members_text members (members_lexed s.rules rest xs h) in
    let mode_body = mode_text s.mode ++ 10 ∷ members_text in
    let mode_tokens = sign (mode_sign s.mode) ∷ members in
    let from_match = lexed_word (codes "match") (sign signs.Match) (32 ∷ mode_body) mode_tokens (record { starts = refl; all = refl }) refl refl (space_lexed mode_body mode_tokens from_mode) in
    let match_body = codes "match" ++ 32 ∷ mode_body in
    let small : s.number < 2 ^ 63 = omega (arith, low) in
    let from_number = lexed_number s.number (32 ∷ match_body) (sign signs.Match ∷ mode_tokens) small refl (space_lexed match_body (sign signs.Match ∷ mode_tokens) from_match) in
    let number_body = decimal_text s.number ++ 32 ∷ match_body in
    let number_tokens = number (pos s.number) ∷ sign signs.Match ∷ mode_tokens in
    subst (λ (y : List ℕ). Lexed y (sign signs.Stage ∷ number_tokens)) (sym (regrouped (decimal_text s.number) (mode_text s.mode) (flat_map rule_line s.rules) rest))
    (lexed_word (codes "stage") (sign signs.Stage) (32 ∷ number_body) number_tokens (record { starts = refl; all = refl }) refl refl (space_lexed number_body number_tokens from_number))

stages_lexed : (stages : List Stage) (rest : List ℕ) (xs : List Lexeme) → AllByRecursion (λ s. s.number ≤ last_stage) stages → Lexed rest xs → Lexed (flat_map stage_text stages ++ rest) (flat_map stage_spelled stages ++ xs)
stages_lexed [] rest xs low h = h
stages_lexed (s ∷ more) rest xs low h =
    subst (λ (y : List ℕ). Lexed y (flat_map stage_spelled (s ∷ more) ++ xs)) (sym (append_assoc (stage_text s) (flat_map stage_text more) rest))
    (subst (Lexed (stage_text s ++ (flat_map stage_text more ++ rest))) (sym (append_assoc (stage_spelled s) (flat_map stage_spelled more) xs))
    (stage_lexed s (flat_map stage_text more ++ rest) (flat_map stage_spelled more ++ xs) low.0 (stages_lexed more rest xs low.1 h)))

pipeline_lexed : (p : Pipeline) → AllByRecursion (λ s. s.number ≤ last_stage) p.stages → Lexed (pipeline_print p) (pipeline_spelled p.name p.stages)
pipeline_lexed p low =
    let ends : Lexed (codes "end\n") (sign signs.End ∷ []) = lexed_word (codes "end") (sign signs.End) (10 ∷ []) [] (record { starts = refl; all = refl }) refl refl (line_lexed [] [] lexed_end) in
    let body = flat_map stage_text p.stages ++ codes "end\n" in
    let tokens = flat_map stage_spelled p.stages ++ sign signs.End ∷ [] in
    let from_stages : Lexed body tokens = stages_lexed p.stages (codes "end\n") (sign signs.End ∷ []) low ends in
    let from_name = lexed_string p.name (10 ∷ body) tokens (line_lexed body tokens from_stages) in
    lexed_word (codes "pipeline") (sign signs.Pipeline) (32 ∷ (quote p.name ++ 10 ∷ body)) (string p.name ∷ tokens) (record { starts = refl; all = refl }) refl refl
    (space_lexed (quote p.name ++ 10 ∷ body) (string p.name ∷ tokens) from_name)

pub pipeline_reads_back : (source : List ℕ) (p : Pipeline) → pipeline_text source ≡ Ok p → pipeline_text (pipeline_print p) ≡ Ok p
pipeline_reads_back source p h =
    let is = text_is_pipeline source p h in
    let low_all = All-permutation (λ (s : Stage). s.number ≤ last_stage) is.stages p.stages is.same (All-from_recursion (λ (s : Stage). s.number ≤ last_stage) is.stages is.numbers) in
    let low = recursion_from_All (λ (s : Stage). s.number ≤ last_stage) p.stages low_all in
    pipeline_is_read (pipeline_print p) p (record { stages = p.stages; numbers = low; spells = lexed_is_cut (pipeline_print p) (pipeline_spelled p.name p.stages) (pipeline_lexed p low); rising = is.rising; same = IsPermutation-refl p.stages })

pub printed_pipeline_reads_back : {E : Type 0} (result : Result (List ℕ) E) (p : Pipeline) → IfOk result (λ printed. printed ≡ pipeline_print p) → IfOk result (λ printed. (source : List ℕ) → pipeline_text source ≡ Ok p → pipeline_text printed ≡ Ok p)
printed_pipeline_reads_back (Ok printed) p h = λ source k. ap pipeline_text h ∙ pipeline_reads_back source p k
printed_pipeline_reads_back (Err e) p h = tt
