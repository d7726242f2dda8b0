-- Reading one rule of a stage after the other, and one stage after the other.
use Rattle.std.proofs.Common.{◌≡◌, ℕ, zero, suc, ◌-◌, ◌<◌, Bool, true, false, cond, List, [], ◌∷◌, ◌++◌, Option, Some, None, Ok, Err, refl, sym, ap, ◌∙◌, arith}
use Rattle.gl_rulelang.specs.declared.token.Sign.TheVariants as signs
use Rattle.gl_rulelang.specs.declared.pipeline.Mode.TheVariants as modes
use Rattle.gl_rulelang.specs.declared.pipeline.Stage.{Stage}
use Rattle.gl_rulelang.specs.declared.refusal.TextRefusal.{TextRefusal}
use Rattle.gl_rulelang.specs.declared.refusal.TextRefusal.TheVariants as refusals
use Rattle.gl_rulelang.specs.Tokens.{Tokens, end, token, rest, place}
use Rattle.gl_rulelang.specs.Faults.{Fault, unexpected, Reads, ◌>>=◌, Fails}
use Rattle.gl_rulelang.specs.Rules.{count, is_at, sign_at, string_at, taken}
use Rattle.gl_rulelang.specs.Pipelines.{number_at, stage_number, new_number, mode_at, rule_name_at, with_name, names_at, stage_at, with_stage, stages_at}
use Rattle.gl_rulelang.proofs.Steps.{Fewer, NoMore, sign_fewer, at_sign, string_fewer, after_sign, after_read, after_any, no_more, fewer_is}

-- ---- rules

pub name_fewer : (ts : Tokens) → Fewer ts (rule_name_at ts)
unfolding rule_name_at
name_fewer ts =
    after_sign ts (sign_at signs.Rule ts) _ (sign_fewer signs.Rule ts) (λ a. no_more a _ (
    after_read a (string_at a) _ (string_fewer a) (λ n. no_more n.1 _ (
    after_sign n.1 (sign_at signs.Semicolon n.1) _ (sign_fewer signs.Semicolon n.1) (λ d. omega arith)))))

abbrev pub names_before : List (List ℕ) → Reads (List (List ℕ)) → Reads (List (List ℕ))
names_before [] read = read
names_before (a ∷ more) read = with_name a (names_before more read)

pub record NamesSoFar (all : Tokens) (done : List (List ℕ)) (ts : Tokens) : Type 0 where
  pub turns : ℕ
  pub enough : count ts < turns
  pub told : names_before done (names_at turns ts) ≡ names_at (suc (count all)) all

names-push : (done : List (List ℕ)) (a : List ℕ) (read : Reads (List (List ℕ))) → names_before (done ++ a ∷ []) read ≡ names_before done (with_name a read)
names-push [] a read = refl
names-push (b ∷ done) a read = ap (with_name b) (names-push done a read)

names-ok : (done : List (List ℕ)) (ts : Tokens) → names_before done (Ok ([], ts)) ≡ Ok (done, ts)
names-ok [] ts = refl
names-ok (b ∷ done) ts = ap (with_name b) (names-ok done ts)

names-err : (done : List (List ℕ)) (e : Fault) → names_before done (Err e) ≡ Err e
names-err [] e = refl
names-err (b ∷ done) e = ap (with_name b) (names-err done e)

turn : (n : ℕ) (ts : Tokens) → 0 < n → is_at signs.Rule ts ≡ true → names_at n ts ≡ (rule_name_at ts >>= λ a. with_name a.0 (names_at (n - 1) a.1))
unfolding names_at
turn zero ts some more = absurd (omega arith)
turn (suc n) ts some more = let one : suc n - 1 ≡ n = omega arith in rw (more, one) refl

last : (n : ℕ) (ts : Tokens) → 0 < n → is_at signs.Rule ts ≡ false → names_at n ts ≡ Ok ([], ts)
unfolding names_at
last zero ts some at_end = absurd (omega arith)
last (suc n) ts some at_end = rw at_end refl

pub names_more : (all : Tokens) (done : List (List ℕ)) (ts : Tokens) (a : List ℕ) (us : Tokens) → NamesSoFar all done ts → is_at signs.Rule ts ≡ true → rule_name_at ts ≡ Ok (a, us)
    → NamesSoFar all (done ++ a ∷ []) us
names_more all done ts a us so more read =
    let less : count us < count ts = fewer_is ts (rule_name_at ts) (a, us) (name_fewer ts) read in
    record {
      turns = so.turns - 1;
      enough = omega (arith, so.enough, less);
      told = names-push done a (names_at (so.turns - 1) us)
          ∙ ap (names_before done) (sym (turn so.turns ts (omega (arith, so.enough)) more ∙ ap (λ (r : Reads (List ℕ)). r >>= λ a. with_name a.0 (names_at (so.turns - 1) a.1)) read))
          ∙ so.told;
    }

pub names_fewer : (ts : Tokens) (x : List ℕ × Tokens) → rule_name_at ts ≡ Ok x → count x.1 < count ts
names_fewer ts x read = fewer_is ts (rule_name_at ts) x (name_fewer ts) read

names_fault : (all : Tokens) (done : List (List ℕ)) (ts : Tokens) (e : Fault) → NamesSoFar all done ts → is_at signs.Rule ts ≡ true → rule_name_at ts ≡ Err e → names_at (suc (count all)) all ≡ Err e
names_fault all done ts e so more h = sym so.told ∙ ap (names_before done) (turn so.turns ts (omega (arith, so.enough)) more ∙ ap (λ (r : Reads (List ℕ)). r >>= λ a. with_name a.0 (names_at (so.turns - 1) a.1)) h) ∙ names-err done e

pub names_fail : (all : Tokens) (done : List (List ℕ)) (ts : Tokens) (e : TextRefusal) → NamesSoFar all done ts → is_at signs.Rule ts ≡ true → Fails e (rule_name_at ts) → Fails e (names_at (suc (count all)) all)
names_fail all done ts refusals.OutOfMemory so more h = tt
names_fail all done ts (refusals.BadToken at) so more h = names_fault all done ts _ so more h
names_fail all done ts (refusals.Unexpected at) so more h = names_fault all done ts _ so more h
names_fail all done ts refusals.TooDeep so more h = names_fault all done ts _ so more h

pub names_end : (all : Tokens) (done : List (List ℕ)) (ts : Tokens) → NamesSoFar all done ts → is_at signs.Rule ts ≡ false → names_at (suc (count all)) all ≡ Ok (done, ts)
names_end all done ts so at_end = sym so.told ∙ ap (names_before done) (last so.turns ts (omega (arith, so.enough)) at_end) ∙ names-ok done ts

-- ---- stages

names_no_more_with : (ts : Tokens) (a : List ℕ) (r : Reads (List (List ℕ))) → NoMore ts r → NoMore ts (with_name a r)
names_no_more_with ts a (Ok x) h = h
names_no_more_with ts a (Err e) h = tt

names_step : (b : Bool) (n : ℕ) (ts : Tokens) → ((us : Tokens) → NoMore us (names_at n us)) → NoMore ts (cond b (rule_name_at ts >>= λ r. with_name r.0 (names_at n r.1)) (Ok ([], ts)))
names_step true n ts h = no_more ts _ (after_read ts (rule_name_at ts) _ (name_fewer ts) (λ r. names_no_more_with r.1 r.0 (names_at n r.1) (h r.1)))
names_step false n ts h = omega arith

names_no_more : (n : ℕ) (ts : Tokens) → NoMore ts (names_at n ts)
unfolding names_at
names_no_more zero ts = tt
names_no_more (suc n) ts = names_step (is_at signs.Rule ts) n ts (names_no_more n)

number_fewer : (stages : List Stage) (ts : Tokens) → Fewer ts (number_at stages ts)
unfolding number_at
number_fewer stages (end at) = tt
number_fewer stages (token l at ts) = some (new_number stages (stage_number l))
  where
    some : (o : Option ℕ) → Fewer (token l at ts) (taken o (token l at ts))
    some None = tt
    some (Some x) = omega arith

mode_step : (a b p : Bool) (ts : Tokens) → (a ≡ true → count (rest ts) < count ts) → (b ≡ true → count (rest ts) < count ts) → (p ≡ true → count (rest ts) < count ts)
    → Fewer ts (cond a (Ok (modes.All, rest ts)) (cond b (Ok (modes.Either, rest ts)) (cond p (Ok (modes.Pass, rest ts)) (Err (unexpected (place ts))))))
mode_step true b p ts f g h = f refl
mode_step false true p ts f g h = g refl
mode_step false false true ts f g h = h refl
mode_step false false false ts f g h = tt

mode_fewer : (ts : Tokens) → Fewer ts (mode_at ts)
unfolding mode_at
mode_fewer ts = mode_step (is_at signs.All ts) (is_at signs.Either ts) (is_at signs.Pass ts) ts (at_sign signs.All ts) (at_sign signs.Either ts) (at_sign signs.Pass ts)

pub stage_fewer : (stages : List Stage) (ts : Tokens) → Fewer ts (stage_at stages ts)
unfolding stage_at
stage_fewer stages ts =
    after_sign ts (sign_at signs.Stage ts) _ (sign_fewer signs.Stage ts) (λ a. no_more a _ (
    after_read a (number_at stages a) _ (number_fewer stages a) (λ n. no_more n.1 _ (
    after_sign n.1 (sign_at signs.Match n.1) _ (sign_fewer signs.Match n.1) (λ b. no_more b _ (
    after_read b (mode_at b) _ (mode_fewer b) (λ m.
    after_any m.1 (names_at (suc (count m.1)) m.1) _ (names_no_more (suc (count m.1)) m.1) (λ r. omega arith))))))))

pub record StagesSoFar (all : Tokens) (done : List Stage) (ts : Tokens) : Type 0 where
  pub turns : ℕ
  pub enough : count ts < turns
  pub told : stages_at turns done ts ≡ stages_at (suc (count all)) [] all

stages_turn : (n : ℕ) (done : List Stage) (ts : Tokens) → 0 < n → is_at signs.End ts ≡ false → stages_at n done ts ≡ (stage_at done ts >>= λ s. stages_at (n - 1) (with_stage done s.0) s.1)
unfolding stages_at
stages_turn zero done ts some no_end = absurd (omega arith)
stages_turn (suc n) done ts some no_end = let one : suc n - 1 ≡ n = omega arith in rw (no_end, one) refl

stages_last : (n : ℕ) (done : List Stage) (ts : Tokens) → 0 < n → is_at signs.End ts ≡ true → stages_at n done ts ≡ Ok (done, rest ts)
unfolding stages_at
stages_last zero done ts some at_end = absurd (omega arith)
stages_last (suc n) done ts some at_end = rw at_end refl

pub stages_more : (all : Tokens) (done : List Stage) (ts : Tokens) (s : Stage) (us : Tokens) → StagesSoFar all done ts → is_at signs.End ts ≡ false → stage_at done ts ≡ Ok (s, us)
    → StagesSoFar all (with_stage done s) us
stages_more all done ts s us so no_end read =
    let less : count us < count ts = fewer_is ts (stage_at done ts) (s, us) (stage_fewer done ts) read in
    record {
      turns = so.turns - 1;
      enough = omega (arith, so.enough, less);
      told = sym (stages_turn so.turns done ts (omega (arith, so.enough)) no_end ∙ ap (λ (r : Reads Stage). r >>= λ s. stages_at (so.turns - 1) (with_stage done s.0) s.1) read) ∙ so.told;
    }

pub stages_fewer : (done : List Stage) (ts : Tokens) (x : Stage × Tokens) → stage_at done ts ≡ Ok x → count x.1 < count ts
stages_fewer done ts x read = fewer_is ts (stage_at done ts) x (stage_fewer done ts) read

stages_fault : (all : Tokens) (done : List Stage) (ts : Tokens) (e : Fault) → StagesSoFar all done ts → is_at signs.End ts ≡ false → stage_at done ts ≡ Err e → stages_at (suc (count all)) [] all ≡ Err e
stages_fault all done ts e so no_end h = sym so.told ∙ stages_turn so.turns done ts (omega (arith, so.enough)) no_end ∙ ap (λ (r : Reads Stage). r >>= λ s. stages_at (so.turns - 1) (with_stage done s.0) s.1) h

pub stages_fail : (all : Tokens) (done : List Stage) (ts : Tokens) (e : TextRefusal) → StagesSoFar all done ts → is_at signs.End ts ≡ false → Fails e (stage_at done ts) → Fails e (stages_at (suc (count all)) [] all)
stages_fail all done ts refusals.OutOfMemory so no_end h = tt
stages_fail all done ts (refusals.BadToken at) so no_end h = stages_fault all done ts _ so no_end h
stages_fail all done ts (refusals.Unexpected at) so no_end h = stages_fault all done ts _ so no_end h
stages_fail all done ts refusals.TooDeep so no_end h = stages_fault all done ts _ so no_end h

pub stages_end : (all : Tokens) (done : List Stage) (ts : Tokens) → StagesSoFar all done ts → is_at signs.End ts ≡ true → stages_at (suc (count all)) [] all ≡ Ok (done, rest ts)
stages_end all done ts so at_end = sym so.told ∙ stages_last so.turns done ts (omega (arith, so.enough)) at_end
