-- Pipelines as their tokens: what is accepted is spelled as stages, and each spelling of stages is accepted.
use Rattle.std.proofs.Common.{◌≡◌, ℕ, zero, suc, ◌+◌, ◌<◌, ◌≤◌, Bool, true, false, cond, eqb, ltb, leb, List, [], ◌∷◌, ◌++◌, length, take, drop, Option, Some, None, Result, Ok, Err, refl, sym, ap, ap₂, subst, ◌∙◌, append_assoc, append-nil, arith, inl, inr, ◌⊎◌}
use Rattle.std.specs.Prelude.{pos, negsuc, IfOk, sum_by}
use Rattle.std.specs.List.{flat_map, prefix_len, AllByRecursion, All, Contains}
use Rattle.std.specs.List.Sorted.{IsPermutation}
use Rattle.std.proofs.lemmas.Bool.{leb-true, le-leb, ltb-true, ltb-false, eqb-true, eqb-false, eq-eqb, ne_eqb, or_parts, or_cases, cases_Bool}
use Rattle.std.proofs.lemmas.List.{take-append-drop}
use Rattle.std.proofs.lemmas.List.Elements.{All-from_recursion, recursion_from_All, All-contains}
use Rattle.std.proofs.lemmas.List.Sorted.{IsPermutation-refl, IsPermutation-sym, IsPermutation-trans, IsPermutation-middle, IsPermutation-append_left, Contains-permutation, sum_by-IsPermutation, All-permutation}
use Rattle.std.proofs.lemmas.List.Sums.{sum_by-cons, sum_by-append}
use Rattle.gl_rulelang.specs.declared.token.Sign.TheVariants as signs
use Rattle.gl_rulelang.specs.declared.refusal.TextRefusal.{TextRefusal}
use Rattle.gl_rulelang.specs.declared.pipeline.Mode.{Mode}
use Rattle.gl_rulelang.specs.declared.pipeline.Mode.TheVariants as modes
use Rattle.gl_rulelang.specs.declared.pipeline.Stage.{Stage}
use Rattle.gl_rulelang.specs.declared.pipeline.Pipeline.{Pipeline}
use Rattle.gl_rulelang.specs.Tokens.{Lexeme, name, string, number, operator, sign, Tokens, end, token, rest, place, is_sign}
use Rattle.gl_rulelang.specs.Faults.{Fault, unexpected, Reads, ◌>>=◌, Answers}
use Rattle.gl_rulelang.specs.Cutting.{tokens_of}
use Rattle.gl_rulelang.specs.Rules.{count, is_at, sign_at, string_at, of_first, taken, whole}
use Rattle.gl_rulelang.specs.Pipelines.{last_stage, in_stages, stage_number, has_number, new_number, number_at, mode_at, rule_name_at, with_name, names_at, stage_at, is_lower, with_stage, stages_at, pipeline_at, pipeline_text}
use Rattle.gl_rulelang.specs.Sentences.{lexemes, IsCut, member_spelled, mode_sign, stage_spelled, pipeline_spelled, IsRising, IsPipeline}
use Rattle.gl_rulelang.proofs.Steps.{fewer_is}
use Rattle.gl_rulelang.proofs.StageSteps.{name_fewer, stage_fewer}
use Rattle.gl_rulelang.proofs.RuleForms.{bind_then, bind_goes, begins_lexemes, at_is, at_sign_is, sign_takes, sign_reads, string_takes, string_reads, whole_is, ends_whole, is_let}

-- ---- the rules of a stage

member_whole : (ts a : Tokens) (n : List ℕ × Tokens) (d : Tokens) (x : List ℕ × Tokens) → sign_at signs.Rule ts ≡ Ok a → string_at a ≡ Ok n → sign_at signs.Semicolon n.1 ≡ Ok d → (n.0, d) ≡ x → lexemes ts ≡ member_spelled x.0 ++ lexemes x.1
member_whole ts a n d x ea en ed same =
    let one = begins_lexemes (sign signs.Rule ∷ []) ts a (sign_takes signs.Rule ts a ea) in
    let two = begins_lexemes (string n.0 ∷ []) a n.1 (string_takes a n en) in
    let three = begins_lexemes (sign signs.Semicolon ∷ []) n.1 d (sign_takes signs.Semicolon n.1 d ed) in
    one ∙ ap (λ (y : List Lexeme). sign signs.Rule ∷ y) (two ∙ ap (λ (y : List Lexeme). string n.0 ∷ y) three) ∙ ap (λ (y : List ℕ × Tokens). member_spelled y.0 ++ lexemes y.1) same

member_takes : (ts : Tokens) (x : List ℕ × Tokens) → rule_name_at ts ≡ Ok x → lexemes ts ≡ member_spelled x.0 ++ lexemes x.1
unfolding rule_name_at
member_takes ts x h =
    bind_then (lexemes ts ≡ member_spelled x.0 ++ lexemes x.1) (sign_at signs.Rule ts) _ x h (λ a ea ha.
    bind_then (lexemes ts ≡ member_spelled x.0 ++ lexemes x.1) (string_at a) _ x ha (λ n en hn.
    bind_then (lexemes ts ≡ member_spelled x.0 ++ lexemes x.1) (sign_at signs.Semicolon n.1) _ x hn (λ d ed hd.
    member_whole ts a n d x ea en ed (cc))))

with_name_is : (n : List ℕ) (r : Reads (List (List ℕ))) (x : List (List ℕ) × Tokens) → with_name n r ≡ Ok x → (y : List (List ℕ) × Tokens) × (r ≡ Ok y) × ((n ∷ y.0, y.1) ≡ x)
with_name_is n (Ok y) x h = (y, refl, cc)
with_name_is n (Err e) x h = absurd cc

names_take : (n : ℕ) (ts : Tokens) (x : List (List ℕ) × Tokens) → names_at n ts ≡ Ok x → lexemes ts ≡ flat_map member_spelled x.0 ++ lexemes x.1
unfolding names_at
names_take zero ts x h = absurd cc
names_take (suc n) ts x h = by_test n ts x (names_take n) (is_at signs.Rule ts) h
  where
    by_test : (n : ℕ) (ts : Tokens) (x : List (List ℕ) × Tokens) → ((us : Tokens) (y : List (List ℕ) × Tokens) → names_at n us ≡ Ok y → lexemes us ≡ flat_map member_spelled y.0 ++ lexemes y.1) → (b : Bool)
        → cond b (rule_name_at ts >>= λ r. with_name r.0 (names_at n r.1)) (Ok ([], ts)) ≡ Ok x → lexemes ts ≡ flat_map member_spelled x.0 ++ lexemes x.1
    by_test n ts x more true e =
        bind_then (lexemes ts ≡ flat_map member_spelled x.0 ++ lexemes x.1) (rule_name_at ts) (λ r. with_name r.0 (names_at n r.1)) x e (λ r er hr.
        let p = with_name_is r.0 (names_at n r.1) x hr in
        member_takes ts r er ∙ ap (λ (y : List Lexeme). member_spelled r.0 ++ y) (more r.1 p.0 p.1) ∙ sym (append_assoc (member_spelled r.0) (flat_map member_spelled p.0.0) (lexemes p.0.1))
        ∙ ap (λ (y : List (List ℕ) × Tokens). flat_map member_spelled y.0 ++ lexemes y.1) p.2)
    by_test n ts x more false e = let same : ([], ts) ≡ x = cc in ap (λ (y : List (List ℕ) × Tokens). flat_map member_spelled y.0 ++ lexemes y.1) same

member_reads : (n : List ℕ) (ys : List Lexeme) (ts : Tokens) → lexemes ts ≡ member_spelled n ++ ys → (us : Tokens) × (rule_name_at ts ≡ Ok (n, us)) × (lexemes us ≡ ys)
unfolding rule_name_at
member_reads n ys ts h =
    let a = sign_reads signs.Rule (string n ∷ sign signs.Semicolon ∷ ys) ts h in
    let b = string_reads n (sign signs.Semicolon ∷ ys) a.0 a.2 in
    let d = sign_reads signs.Semicolon ys b.0 b.2 in
    (d.0, bind_goes (sign_at signs.Rule ts) _ a.0 _ a.1 (bind_goes (string_at a.0) _ (n, b.0) _ b.1 (bind_goes (sign_at signs.Semicolon b.0) _ d.0 _ d.1 refl)), d.2)

-- whether another rule begins
abbrev begins_rule : List Lexeme → Bool
begins_rule [] = false
begins_rule (l ∷ ys) = is_sign signs.Rule (Some l)

no_rule : (ys : List Lexeme) (ts : Tokens) → lexemes ts ≡ ys → begins_rule ys ≡ false → is_at signs.Rule ts ≡ false
no_rule ys (end at) h b = refl
no_rule ys (token l at ts) h b = ap begins_rule h ∙ b

names_read : (names : List (List ℕ)) (n : ℕ) (ys : List Lexeme) (ts : Tokens) → count ts < n → begins_rule ys ≡ false → lexemes ts ≡ flat_map member_spelled names ++ ys → (us : Tokens) × (names_at n ts ≡ Ok (names, us)) × (lexemes us ≡ ys)
unfolding names_at
names_read names zero ys ts lt b h = absurd (omega (arith, lt))
names_read [] (suc n) ys ts lt b h =
    (ts, ap (λ (t : Bool). cond t (rule_name_at ts >>= λ r. with_name r.0 (names_at n r.1)) (Ok ([], ts))) (no_rule ys ts h b), h)
names_read (m ∷ names) (suc n) ys ts lt b h =
    let p = member_reads m (flat_map member_spelled names ++ ys) ts (h ∙ append_assoc (member_spelled m) (flat_map member_spelled names) ys) in
    let less = fewer_is ts (rule_name_at ts) (m, p.0) (name_fewer ts) p.1 in
    let q = names_read names n ys p.0 (omega (arith, lt, less)) b p.2 in
    let at_rule : is_at signs.Rule ts ≡ true = is_let (sign signs.Rule) _ ts signs.Rule h in (
      q.0,
      ap (λ (t : Bool). cond t (rule_name_at ts >>= λ r. with_name r.0 (names_at n r.1)) (Ok ([], ts))) at_rule
          ∙ bind_goes (rule_name_at ts) (λ (x : List ℕ × Tokens). with_name x.0 (names_at n x.1)) (m, p.0) _ p.1 (ap (with_name m) q.1),
      q.2,
    )

-- ---- numbers and modes

record NewNumber (stages : List Stage) (ts : Tokens) (x : ℕ × Tokens) : Type 0 where
  spells : lexemes ts ≡ number (pos x.0) ∷ lexemes x.1
  low : x.0 ≤ last_stage
  new : has_number x.0 stages ≡ false

number_tested : (stages : List Stage) (k at : ℕ) (ts : Tokens) (x : ℕ × Tokens) (a b : Bool) → leb k last_stage ≡ a → has_number k stages ≡ b
    → taken (new_number stages (cond a (Some k) None)) (token (number (pos k)) at ts) ≡ Ok x → NewNumber stages (token (number (pos k)) at ts) x
number_tested stages k at ts x false b ea eb h = absurd cc
number_tested stages k at ts x true true ea eb h =
    let e : taken (cond true None (Some k)) (token (number (pos k)) at ts) ≡ Ok x = ap (λ (t : Bool). taken (cond t None (Some k)) (token (number (pos k)) at ts)) (sym eb) ∙ h in absurd cc
number_tested stages k at ts x true false ea eb h =
    let e : taken (cond false None (Some k)) (token (number (pos k)) at ts) ≡ Ok x = ap (λ (t : Bool). taken (cond t None (Some k)) (token (number (pos k)) at ts)) (sym eb) ∙ h in
    let same : (k, ts) ≡ x = cc in
    subst (λ (y : ℕ × Tokens). NewNumber stages (token (number (pos k)) at ts) y) same (record { spells = refl; low = leb-true k last_stage ea; new = eb })

number_takes : (stages : List Stage) (ts : Tokens) (x : ℕ × Tokens) → number_at stages ts ≡ Ok x → NewNumber stages ts x
unfolding number_at
number_takes stages (end at) x h = absurd cc
number_takes stages (token (name n) at ts) x h = absurd cc
number_takes stages (token (string n) at ts) x h = absurd cc
number_takes stages (token (number (pos k)) at ts) x h = number_tested stages k at ts x (leb k last_stage) (has_number k stages) refl refl h
number_takes stages (token (number (negsuc k)) at ts) x h = absurd cc
number_takes stages (token (operator n) at ts) x h = absurd cc
number_takes stages (token (sign n) at ts) x h = absurd cc

number_reads : (stages : List Stage) (k : ℕ) (ys : List Lexeme) (ts : Tokens) → k ≤ last_stage → has_number k stages ≡ false → lexemes ts ≡ number (pos k) ∷ ys → (us : Tokens) × (number_at stages ts ≡ Ok (k, us)) × (lexemes us ≡ ys)
unfolding number_at
number_reads stages k ys (end at) low new h = absurd cc
number_reads stages k ys (token l at ts) low new h =
    let same : l ≡ number (pos k) = cc in let more : lexemes ts ≡ ys = cc in (
      ts,
      ap (λ (x : Lexeme). taken (new_number stages (stage_number x)) (token l at ts)) same
          ∙ ap (λ (t : Bool). taken (new_number stages (cond t (Some k) None)) (token l at ts)) (le-leb k last_stage low)
          ∙ ap (λ (t : Bool). taken (cond t None (Some k)) (token l at ts)) new,
      more,
    )

abbrev mode_so : Mode → Tokens → Reads Mode
mode_so m ts = Ok (m, rest ts)

mode_is : (m : Mode) (ts : Tokens) (x : Mode × Tokens) → is_at (mode_sign m) ts ≡ true → mode_so m ts ≡ Ok x → lexemes ts ≡ sign (mode_sign x.0) ∷ lexemes x.1
mode_is m ts x t e =
    let same : (m, rest ts) ≡ x = cc in
    begins_lexemes (sign (mode_sign m) ∷ []) ts (rest ts) (at_is (mode_sign m) ts t) ∙ ap (λ (y : Mode × Tokens). sign (mode_sign y.0) ∷ lexemes y.1) same

mode_tested : (a b p : Bool) (ts : Tokens) (x : Mode × Tokens) → is_at signs.All ts ≡ a → is_at signs.Either ts ≡ b → is_at signs.Pass ts ≡ p
    → cond a (mode_so modes.All ts) (cond b (mode_so modes.Either ts) (cond p (mode_so modes.Pass ts) (Err (unexpected (place ts))))) ≡ Ok x → lexemes ts ≡ sign (mode_sign x.0) ∷ lexemes x.1
mode_tested true b p ts x ea eb ep h = mode_is modes.All ts x ea h
mode_tested false true p ts x ea eb ep h = mode_is modes.Either ts x eb h
mode_tested false false true ts x ea eb ep h = mode_is modes.Pass ts x ep h
mode_tested false false false ts x ea eb ep h = absurd cc

mode_takes : (ts : Tokens) (x : Mode × Tokens) → mode_at ts ≡ Ok x → lexemes ts ≡ sign (mode_sign x.0) ∷ lexemes x.1
unfolding mode_at
mode_takes ts x h = mode_tested (is_at signs.All ts) (is_at signs.Either ts) (is_at signs.Pass ts) ts x refl refl refl h

mode_reads : (m : Mode) (ys : List Lexeme) (ts : Tokens) → lexemes ts ≡ sign (mode_sign m) ∷ ys → (us : Tokens) × (mode_at ts ≡ Ok (m, us)) × (lexemes us ≡ ys)
unfolding mode_at
mode_reads m ys (end at) h = absurd cc
mode_reads modes.All ys (token l at ts) h =
    let same : l ≡ sign signs.All = cc in let more : lexemes ts ≡ ys = cc in
    (ts, ap (λ (x : Lexeme). cond (is_sign signs.All (Some x)) (mode_so modes.All (token l at ts)) (cond (is_sign signs.Either (Some x)) (mode_so modes.Either (token l at ts)) (cond (is_sign signs.Pass (Some x)) (mode_so modes.Pass (token l at ts)) (Err (unexpected at))))) same, more)
mode_reads modes.Either ys (token l at ts) h =
    let same : l ≡ sign signs.Either = cc in let more : lexemes ts ≡ ys = cc in
    (ts, ap (λ (x : Lexeme). cond (is_sign signs.All (Some x)) (mode_so modes.All (token l at ts)) (cond (is_sign signs.Either (Some x)) (mode_so modes.Either (token l at ts)) (cond (is_sign signs.Pass (Some x)) (mode_so modes.Pass (token l at ts)) (Err (unexpected at))))) same, more)
mode_reads modes.Pass ys (token l at ts) h =
    let same : l ≡ sign signs.Pass = cc in let more : lexemes ts ≡ ys = cc in
    (ts, ap (λ (x : Lexeme). cond (is_sign signs.All (Some x)) (mode_so modes.All (token l at ts)) (cond (is_sign signs.Either (Some x)) (mode_so modes.Either (token l at ts)) (cond (is_sign signs.Pass (Some x)) (mode_so modes.Pass (token l at ts)) (Err (unexpected at))))) same, more)

-- ---- one stage

record NewStage (stages : List Stage) (ts : Tokens) (x : Stage × Tokens) : Type 0 where
  spells : lexemes ts ≡ stage_spelled x.0 ++ lexemes x.1
  low : x.0.number ≤ last_stage
  new : has_number x.0.number stages ≡ false

stage_whole : (stages : List Stage) (ts a : Tokens) (n : ℕ × Tokens) (b : Tokens) (m : Mode × Tokens) (r : List (List ℕ) × Tokens) (x : Stage × Tokens) → sign_at signs.Stage ts ≡ Ok a → number_at stages a ≡ Ok n → sign_at signs.Match n.1 ≡ Ok b → mode_at b ≡ Ok m → names_at (suc (count m.1)) m.1 ≡ Ok r
    → (record { number = n.0; mode = m.0; rules = r.0 }, r.1) ≡ x → NewStage stages ts x
stage_whole stages ts a n b m r x ea en eb em er same =
    let one = begins_lexemes (sign signs.Stage ∷ []) ts a (sign_takes signs.Stage ts a ea) in
    let two = number_takes stages a n en in
    let three = begins_lexemes (sign signs.Match ∷ []) n.1 b (sign_takes signs.Match n.1 b eb) in
    let four = mode_takes b m em in
    let five = names_take (suc (count m.1)) m.1 r er in
    subst (λ (y : Stage × Tokens). NewStage stages ts y) same (record {
      spells = one ∙ ap (λ (y : List Lexeme). sign signs.Stage ∷ y) (two.spells ∙ ap (λ (y : List Lexeme). number (pos n.0) ∷ y) (three ∙ ap (λ (y : List Lexeme). sign signs.Match ∷ y) (four ∙ ap (λ (y : List Lexeme). sign (mode_sign m.0) ∷ y) five)));
      low = two.low;
      new = two.new;
    })

stage_takes : (stages : List Stage) (ts : Tokens) (x : Stage × Tokens) → stage_at stages ts ≡ Ok x → NewStage stages ts x
unfolding stage_at
stage_takes stages ts x h =
    bind_then (NewStage stages ts x) (sign_at signs.Stage ts) _ x h (λ a ea ha.
    bind_then (NewStage stages ts x) (number_at stages a) _ x ha (λ n en hn.
    bind_then (NewStage stages ts x) (sign_at signs.Match n.1) _ x hn (λ b eb hb.
    bind_then (NewStage stages ts x) (mode_at b) _ x hb (λ m em hm.
    bind_then (NewStage stages ts x) (names_at (suc (count m.1)) m.1) _ x hm (λ r er hr.
    stage_whole stages ts a n b m r x ea en eb em er (cc))))))

stage_reads : (stages : List Stage) (s : Stage) (ys : List Lexeme) (ts : Tokens) → s.number ≤ last_stage → has_number s.number stages ≡ false → begins_rule ys ≡ false → lexemes ts ≡ stage_spelled s ++ ys
    → (us : Tokens) × (stage_at stages ts ≡ Ok (s, us)) × (lexemes us ≡ ys) × (is_at signs.End ts ≡ false)
unfolding stage_at
stage_reads stages s ys ts low new b h =
    let members = flat_map member_spelled s.rules ++ ys in
    let a = sign_reads signs.Stage (number (pos s.number) ∷ sign signs.Match ∷ sign (mode_sign s.mode) ∷ members) ts h in
    let n = number_reads stages s.number (sign signs.Match ∷ sign (mode_sign s.mode) ∷ members) a.0 low new a.2 in
    let m = sign_reads signs.Match (sign (mode_sign s.mode) ∷ members) n.0 n.2 in
    let o = mode_reads s.mode members m.0 m.2 in
    let r = names_read s.rules (suc (count o.0)) ys o.0 (omega arith) b o.2 in (
      r.0,
      bind_goes (sign_at signs.Stage ts) _ a.0 _ a.1 (bind_goes (number_at stages a.0) _ (s.number, n.0) _ n.1 (bind_goes (sign_at signs.Match n.0) _ m.0 _ m.1 (bind_goes (mode_at m.0) _ (s.mode, o.0) _ o.1
          (bind_goes (names_at (suc (count o.0)) o.0) _ (s.rules, r.0) _ r.1 refl)))),
      r.2,
      is_let (sign signs.Stage) _ ts signs.End h,
    )

-- ---- stages by rising number

with_stage_cons : (d : Stage) (done : List Stage) (s : Stage) → with_stage (d ∷ done) s ≡ cond (ltb d.number s.number) (d ∷ with_stage done s) (s ∷ d ∷ done)
with_stage_cons d done s = by_test (ltb d.number s.number) refl
  where
    by_test : (t : Bool) → ltb d.number s.number ≡ t → with_stage (d ∷ done) s ≡ cond t (d ∷ with_stage done s) (s ∷ d ∷ done)
    by_test true e =
        let more : prefix_len (is_lower s.number) (d ∷ done) ≡ suc (prefix_len (is_lower s.number) done) = rw e (omega arith) in
        rw more refl
    by_test false e =
        let none : prefix_len (is_lower s.number) (d ∷ done) ≡ 0 = rw e refl in
        rw none refl

all_with : (P : Stage → Type 0) (done : List Stage) (s : Stage) → AllByRecursion P done → P s → AllByRecursion P (with_stage done s)
all_with P [] s all one = (one, tt)
all_with P (d ∷ done) s all one = subst (AllByRecursion P) (sym (with_stage_cons d done s)) (by_test (all_with P done s all.1 one) (ltb d.number s.number))
  where
    by_test : AllByRecursion P (with_stage done s) → (t : Bool) → AllByRecursion P (cond t (d ∷ with_stage done s) (s ∷ d ∷ done))
    by_test more true = (all.0, more)
    by_test more false = (one, all)

above_more : (m n : ℕ) (stages : List Stage) → m < n → AllByRecursion (λ t. n < t.number) stages → AllByRecursion (λ t. m < t.number) stages
above_more m n [] lt all = tt
above_more m n (s ∷ more) lt all = (omega (arith, lt, all.0), above_more m n more lt all.1)

with_rises : (done : List Stage) (s : Stage) → IsRising done → has_number s.number done ≡ false → IsRising (with_stage done s)
with_rises [] s up new = (tt, tt)
with_rises (d ∷ done) s up new = subst IsRising (sym (with_stage_cons d done s)) (by_test (with_rises done s up.1) (ltb d.number s.number) refl)
  where
    by_test : (has_number s.number done ≡ false → IsRising (with_stage done s)) → (t : Bool) → ltb d.number s.number ≡ t → IsRising (cond t (d ∷ with_stage done s) (s ∷ d ∷ done))
    by_test more true e =
        let both = or_parts (eqb d.number s.number) (has_number s.number done) new in
        (all_with (λ t. d.number < t.number) done s up.0 (ltb-true d.number s.number e), more both.1)
    by_test more false e =
        let both = or_parts (eqb d.number s.number) (has_number s.number done) new in
        let other = eqb-false d.number s.number both.0 in
        let least = ltb-false d.number s.number e in
        let lt : s.number < d.number = omega (arith, least, other) in
        ((lt, above_more s.number d.number done lt up.0), up)

with_same : (done : List Stage) (s : Stage) → IsPermutation (s ∷ done) (with_stage done s)
with_same done s =
    let p = prefix_len (is_lower s.number) done in
    let middle = IsPermutation-middle (take p done) s (drop p done) in
    subst (λ (x : List Stage). IsPermutation (s ∷ x) (with_stage done s)) (take-append-drop p done) (IsPermutation-sym _ _ middle)

moved_in : (done : List Stage) (s : Stage) (more : List Stage) → IsPermutation (done ++ s ∷ more) (with_stage done s ++ more)
moved_in done s more =
    IsPermutation-trans (done ++ s ∷ more) (s ∷ (done ++ more)) (with_stage done s ++ more) (IsPermutation-middle done s more)
    (IsPermutation-append_left more (s ∷ done) (with_stage done s) (with_same done s))

-- how many stages have this number
counted : ℕ → List Stage → ℕ
counted n stages = sum_by (λ s. cond (eqb s.number n) 1 0) stages

none_above : (m n : ℕ) (stages : List Stage) → n ≤ m → AllByRecursion (λ t. m < t.number) stages → counted n stages ≡ 0
unfolding counted
none_above m n [] le all = refl
none_above m n (s ∷ more) le all =
    let rest_none : counted n more ≡ 0 = none_above m n more le all.1 in
    let test : eqb s.number n ≡ false = ne_eqb s.number n (λ e. omega (arith, le, all.0, e)) in
    sum_by-cons (λ (t : Stage). cond (eqb t.number n) 1 0) s more ∙ ap (λ (b : Bool). cond b 1 0 + counted n more) test ∙ omega (arith, rest_none)

at_most_once : (n : ℕ) (stages : List Stage) → IsRising stages → counted n stages ≤ 1
unfolding counted
at_most_once n [] up = omega arith
at_most_once n (s ∷ more) up = by_test (at_most_once n more up.1) (eqb s.number n) refl
  where
    by_test : counted n more ≤ 1 → (t : Bool) → eqb s.number n ≡ t → counted n (s ∷ more) ≤ 1
    by_test rest_one true e =
        let none : counted n more ≡ 0 = none_above s.number n more (omega (arith, eqb-true s.number n e)) up.0 in
        let this : counted n (s ∷ more) ≡ cond true 1 0 + counted n more = sum_by-cons (λ (t : Stage). cond (eqb t.number n) 1 0) s more ∙ ap (λ (b : Bool). cond b 1 0 + counted n more) e in
        omega (arith, none, this)
    by_test rest_one false e =
        let this : counted n (s ∷ more) ≡ cond false 1 0 + counted n more = sum_by-cons (λ (t : Stage). cond (eqb t.number n) 1 0) s more ∙ ap (λ (b : Bool). cond b 1 0 + counted n more) e in
        omega (arith, rest_one, this)

has_counts : (n : ℕ) (stages : List Stage) → has_number n stages ≡ true → 0 < counted n stages
unfolding counted
has_counts n [] h = absurd cc
has_counts n (s ∷ more) h = by_test (has_counts n more) (eqb s.number n) refl (or_cases (eqb s.number n) (has_number n more) h)
  where
    by_test : (has_number n more ≡ true → 0 < counted n more) → (t : Bool) → eqb s.number n ≡ t → (eqb s.number n ≡ true) ⊎ (has_number n more ≡ true) → 0 < counted n (s ∷ more)
    by_test some true e c =
        let this : counted n (s ∷ more) ≡ cond true 1 0 + counted n more = sum_by-cons (λ (t : Stage). cond (eqb t.number n) 1 0) s more ∙ ap (λ (b : Bool). cond b 1 0 + counted n more) e in
        omega (arith, this)
    by_test some false e (inl c) = absurd cc
    by_test some false e (inr c) =
        let rest_some : 0 < counted n more = some c in
        let this : counted n (s ∷ more) ≡ cond false 1 0 + counted n more = sum_by-cons (λ (t : Stage). cond (eqb t.number n) 1 0) s more ∙ ap (λ (b : Bool). cond b 1 0 + counted n more) e in
        omega (arith, rest_some, this)

-- of stages that stand in rising order no number stood before
new_in_order : (done : List Stage) (s : Stage) (more final : List Stage) → IsRising final → IsPermutation (done ++ s ∷ more) final → has_number s.number done ≡ false
unfolding counted
new_in_order done s more final up same =
    let n = s.number in
    let once : counted n final ≤ 1 = at_most_once n final up in
    let both : counted n final ≡ counted n (done ++ s ∷ more) = sum_by-IsPermutation (λ (t : Stage). cond (eqb t.number n) 1 0) (done ++ s ∷ more) final same in
    let parts : counted n (done ++ s ∷ more) ≡ counted n done + counted n (s ∷ more) = sum_by-append (λ (t : Stage). cond (eqb t.number n) 1 0) done (s ∷ more) in
    let this : counted n (s ∷ more) ≡ cond true 1 0 + counted n more = sum_by-cons (λ (t : Stage). cond (eqb t.number n) 1 0) s more ∙ ap (λ (b : Bool). cond b 1 0 + counted n more) (eq-eqb n n refl) in
    elim (cases_Bool (has_number n done)) [
      | inl h ↦ let some : 0 < counted n done = has_counts n done h in absurd (omega (arith, once, both, parts, this, some))
      | inr h ↦ h
    ]

contains_cases : (y : Stage) (ys : List Stage) (x : Stage) → Contains (y ∷ ys) x → (y ≡ x) ⊎ Contains ys x
contains_cases y ys x (zero, lt, e) = inl e
contains_cases y ys x (suc k, lt, e) = inr (k, omega (arith, lt), e)

contains_more : (y : Stage) (ys : List Stage) (x : Stage) → Contains ys x → Contains (y ∷ ys) x
contains_more y ys x c = (suc c.0, omega (arith, c.1), c.2)

above : (m : ℕ) (ys : List Stage) (x : Stage) → AllByRecursion (λ t. m < t.number) ys → Contains ys x → m < x.number
above m ys x all c = All-contains (λ (t : Stage). m < t.number) ys x (All-from_recursion (λ (t : Stage). m < t.number) ys all) c

abbrev Within : List Stage → List Stage → Type 0
Within xs ys = (z : Stage) → Contains xs z → Contains ys z

heads_same : (x : Stage) (xs : List Stage) (y : Stage) (ys : List Stage) → IsRising (x ∷ xs) → IsRising (y ∷ ys) → Within (x ∷ xs) (y ∷ ys) → Within (y ∷ ys) (x ∷ xs) → y ≡ x
heads_same x xs y ys up uq there back =
    elim (contains_cases y ys x (there x (0, omega arith, refl))) [
      | inl e ↦ e
      | inr c ↦ elim (contains_cases x xs y (back y (0, omega arith, refl))) [
        | inl e ↦ sym e
        | inr d ↦ let a = above y.number ys x uq.0 c in let b = above x.number xs y up.0 d in absurd (omega (arith, a, b))
      ]
    ]

tail_within : (x : Stage) (xs : List Stage) (y : Stage) (ys : List Stage) → IsRising (x ∷ xs) → y ≡ x → Within (x ∷ xs) (y ∷ ys) → Within xs ys
tail_within x xs y ys up same there z c =
    elim (contains_cases y ys z (there z (contains_more x xs z c))) [
      | inl e ↦ let a = above x.number xs z up.0 c in let equal : x.number ≡ z.number = ap (λ (s : Stage). s.number) (sym same ∙ e) in absurd (omega (arith, a, equal))
      | inr d ↦ d
    ]

only_order : (xs ys : List Stage) → IsRising xs → IsRising ys → Within xs ys → Within ys xs → xs ≡ ys
only_order [] [] up uq there back = refl
only_order [] (y ∷ ys) up uq there back = let c = back y (0, omega arith, refl) in absurd (omega (arith, c.1))
only_order (x ∷ xs) [] up uq there back = let c = there x (0, omega arith, refl) in absurd (omega (arith, c.1))
only_order (x ∷ xs) (y ∷ ys) up uq there back =
    let same = heads_same x xs y ys up uq there back in
    ap₂ (λ (s : Stage) (more : List Stage). s ∷ more) (sym same) (only_order xs ys up.1 uq.1 (tail_within x xs y ys up same there) (tail_within y ys x xs uq (sym same) back))

one_order : (xs ys : List Stage) → IsRising xs → IsRising ys → IsPermutation xs ys → xs ≡ ys
one_order xs ys up uq same = only_order xs ys up uq (λ z c. Contains-permutation xs ys z same c) (λ z c. Contains-permutation ys xs z (IsPermutation-sym xs ys same) c)

-- ---- all stages

record Staged (done : List Stage) (ts : Tokens) (x : List Stage × Tokens) : Type 0 where
  stages : List Stage
  numbers : AllByRecursion (λ s. s.number ≤ last_stage) stages
  spells : lexemes ts ≡ flat_map stage_spelled stages ++ sign signs.End ∷ lexemes x.1
  rising : IsRising x.0
  same : IsPermutation (done ++ stages) x.0

one_more_stage : (done : List Stage) (ts : Tokens) (s : Stage × Tokens) (x : List Stage × Tokens) → NewStage done ts s → Staged (with_stage done s.0) s.1 x → Staged done ts x
one_more_stage done ts s x one all = record {
  stages = s.0 ∷ all.stages;
  numbers = (one.low, all.numbers);
  spells = one.spells ∙ ap (λ (y : List Lexeme). stage_spelled s.0 ++ y) all.spells ∙ sym (append_assoc (stage_spelled s.0) (flat_map stage_spelled all.stages) (sign signs.End ∷ lexemes x.1));
  rising = all.rising;
  same = IsPermutation-trans (done ++ s.0 ∷ all.stages) (with_stage done s.0 ++ all.stages) x.0 (moved_in done s.0 all.stages) all.same;
}

stages_take : (n : ℕ) (done : List Stage) (ts : Tokens) (x : List Stage × Tokens) → IsRising done → stages_at n done ts ≡ Ok x → Staged done ts x
unfolding stages_at
stages_take zero done ts x up h = absurd cc
stages_take (suc n) done ts x up h = by_test n done ts x up (stages_take n) (is_at signs.End ts) refl h
  where
    by_test : (n : ℕ) (done : List Stage) (ts : Tokens) (x : List Stage × Tokens) → IsRising done → ((d : List Stage) (us : Tokens) (y : List Stage × Tokens) → IsRising d → stages_at n d us ≡ Ok y → Staged d us y) → (b : Bool) → is_at signs.End ts ≡ b
        → cond b (Ok (done, rest ts)) (stage_at done ts >>= λ s. stages_at n (with_stage done s.0) s.1) ≡ Ok x → Staged done ts x
    by_test n done ts x up more true t e =
        let same : (done, rest ts) ≡ x = cc in
        subst (λ (y : List Stage × Tokens). Staged done ts y) same (record {
          stages = [];
          numbers = tt;
          spells = begins_lexemes (sign signs.End ∷ []) ts (rest ts) (at_is signs.End ts t);
          rising = up;
          same = subst (λ (z : List Stage). IsPermutation z done) (sym (append-nil done)) (IsPermutation-refl done);
        })
    by_test n done ts x up more false t e =
        bind_then (Staged done ts x) (stage_at done ts) (λ s. stages_at n (with_stage done s.0) s.1) x e (λ s es hs.
        let one = stage_takes done ts s es in
        one_more_stage done ts s x one (more (with_stage done s.0) s.1 x (with_rises done s.0 up one.new) hs))

stages_begin : (stages : List Stage) (ys : List Lexeme) → begins_rule (flat_map stage_spelled stages ++ sign signs.End ∷ ys) ≡ false
stages_begin [] ys = refl
stages_begin (s ∷ more) ys = refl

stages_read : (stages : List Stage) (n : ℕ) (done : List Stage) (ys : List Lexeme) (ts : Tokens) (final : List Stage) → AllByRecursion (λ s. s.number ≤ last_stage) stages → count ts < n → IsRising done → IsRising final → IsPermutation (done ++ stages) final
    → lexemes ts ≡ flat_map stage_spelled stages ++ sign signs.End ∷ ys → (us : Tokens) × (stages_at n done ts ≡ Ok (final, us)) × (lexemes us ≡ ys)
unfolding stages_at
stages_read stages zero done ys ts final low lt up uq same h = absurd (omega (arith, lt))
stages_read [] (suc n) done ys ts final low lt up uq same h =
    let p = at_sign_is signs.End ys ts h in
    let order : done ≡ final = one_order done final up uq (subst (λ (z : List Stage). IsPermutation z final) (append-nil done) same) in
    (rest ts, ap (λ (b : Bool). cond b (Ok (done, rest ts)) (stage_at done ts >>= λ s. stages_at n (with_stage done s.0) s.1)) p.0 ∙ ap (λ (z : List Stage). Ok (z, rest ts)) order, p.1)
stages_read (s ∷ more) (suc n) done ys ts final low lt up uq same h =
    let new = new_in_order done s more final uq same in
    let p = stage_reads done s (flat_map stage_spelled more ++ sign signs.End ∷ ys) ts low.0 new (stages_begin more ys) (h ∙ append_assoc (stage_spelled s) (flat_map stage_spelled more) (sign signs.End ∷ ys)) in
    let less = fewer_is ts (stage_at done ts) (s, p.0) (stage_fewer done ts) p.1 in
    let moved = IsPermutation-trans (with_stage done s ++ more) (done ++ s ∷ more) final (IsPermutation-sym _ _ (moved_in done s more)) same in
    let q = stages_read more n (with_stage done s) ys p.0 final low.1 (omega (arith, lt, less)) (with_rises done s up new) uq moved p.2 in (
      q.0,
      ap (λ (b : Bool). cond b (Ok (done, rest ts)) (stage_at done ts >>= λ s. stages_at n (with_stage done s.0) s.1)) p.3
          ∙ bind_goes (stage_at done ts) (λ (x : Stage × Tokens). stages_at n (with_stage done x.0) x.1) (s, p.0) _ p.1 q.1,
      q.2,
    )

-- ---- pipelines

record Piped (ts : Tokens) (p : Pipeline) : Type 0 where
  stages : List Stage
  numbers : AllByRecursion (λ s. s.number ≤ last_stage) stages
  spells : lexemes ts ≡ pipeline_spelled p.name stages
  rising : IsRising p.stages
  same : IsPermutation stages p.stages

pipeline_whole : (ts a : Tokens) (n : List ℕ × Tokens) (s : List Stage × Tokens) (p : Pipeline) → sign_at signs.Pipeline ts ≡ Ok a → string_at a ≡ Ok n → stages_at (suc (count n.1)) [] n.1 ≡ Ok s → whole (record { name = n.0; stages = s.0 }) s.1 ≡ Ok p → Piped ts p
pipeline_whole ts a n s p ea en es hs =
    let one = begins_lexemes (sign signs.Pipeline ∷ []) ts a (sign_takes signs.Pipeline ts a ea) in
    let two = begins_lexemes (string n.0 ∷ []) a n.1 (string_takes a n en) in
    let three = stages_take (suc (count n.1)) [] n.1 s tt es in
    let value : Pipeline = record { name = n.0; stages = s.0 } in
    let closing = whole_is value p s.1 hs in
    subst (Piped ts) closing.1 (record {
      stages = three.stages;
      numbers = three.numbers;
      spells = one ∙ ap (λ (y : List Lexeme). sign signs.Pipeline ∷ y) (two ∙ ap (λ (y : List Lexeme). string n.0 ∷ y) (three.spells ∙ ap (λ (y : List Lexeme). flat_map stage_spelled three.stages ++ sign signs.End ∷ y) closing.0));
      rising = three.rising;
      same = three.same;
    })

pipeline_takes : (ts : Tokens) (p : Pipeline) → pipeline_at ts ≡ Ok p → Piped ts p
unfolding pipeline_at
pipeline_takes ts p h =
    bind_then (Piped ts p) (sign_at signs.Pipeline ts) _ p h (λ a ea ha.
    bind_then (Piped ts p) (string_at a) _ p ha (λ n en hn.
    bind_then (Piped ts p) (stages_at (suc (count n.1)) [] n.1) _ p hn (λ s es hs.
    pipeline_whole ts a n s p ea en es hs)))

pipeline_reads : (stages : List Stage) (p : Pipeline) (ts : Tokens) → AllByRecursion (λ s. s.number ≤ last_stage) stages → IsRising p.stages → IsPermutation stages p.stages → lexemes ts ≡ pipeline_spelled p.name stages → pipeline_at ts ≡ Ok p
unfolding pipeline_at
pipeline_reads stages p ts low up same h =
    let a = sign_reads signs.Pipeline (string p.name ∷ (flat_map stage_spelled stages ++ sign signs.End ∷ [])) ts h in
    let n = string_reads p.name (flat_map stage_spelled stages ++ sign signs.End ∷ []) a.0 a.2 in
    let s = stages_read stages (suc (count n.0)) [] [] n.0 p.stages low (omega arith) tt up same n.2 in
    bind_goes (sign_at signs.Pipeline ts) _ a.0 _ a.1 (bind_goes (string_at a.0) _ (p.name, n.0) _ n.1 (bind_goes (stages_at (suc (count n.0)) [] n.0) _ (p.stages, s.0) _ s.1 (ends_whole p s.0 s.2)))

pub text_is_pipeline : (bytes : List ℕ) (p : Pipeline) → pipeline_text bytes ≡ Ok p → IsPipeline bytes p
text_is_pipeline bytes p h =
    bind_then (IsPipeline bytes p) (tokens_of bytes) pipeline_at p h (λ ts cut read.
    let a = pipeline_takes ts p read in
    record { stages = a.stages; numbers = a.numbers; spells = record { tokens = ts; read = cut; same = a.spells }; rising = a.rising; same = a.same })

pub pipeline_is_read : (bytes : List ℕ) (p : Pipeline) → IsPipeline bytes p → pipeline_text bytes ≡ Ok p
pipeline_is_read bytes p is = bind_goes (tokens_of bytes) pipeline_at is.spells.tokens (Ok p) is.spells.read (pipeline_reads is.stages p is.spells.tokens is.numbers is.rising is.same is.spells.same)

pub pipeline_found : (result : Result Pipeline TextRefusal) (bytes : List ℕ) → Answers (λ p. p) result (pipeline_text bytes) → IfOk result (λ p. IsPipeline bytes p)
pipeline_found (Ok p) bytes h = text_is_pipeline bytes p h
pipeline_found (Err e) bytes h = tt

pub pipeline_only : (result : Result Pipeline TextRefusal) (bytes : List ℕ) → Answers (λ p. p) result (pipeline_text bytes) → (p : Pipeline) → IsPipeline bytes p → Answers (λ p. p) result (Ok p)
pipeline_only result bytes h p is = subst (Answers (λ (q : Pipeline). q) result) (pipeline_is_read bytes p is) h

pub one_pipeline : (bytes : List ℕ) (one other : Pipeline) → IsPipeline bytes one → IsPipeline bytes other → one ≡ other
one_pipeline bytes one other a b = let e = sym (pipeline_is_read bytes one a) ∙ pipeline_is_read bytes other b in cc
