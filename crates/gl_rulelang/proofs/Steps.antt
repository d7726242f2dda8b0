-- Reading one action after the other.
use Rattle.std.proofs.Common.{◌≡◌, ℕ, zero, suc, ◌-◌, ◌<◌, ◌≤◌, Bool, true, false, cond, List, [], ◌∷◌, ◌++◌, map, Option, Some, None, Result, Ok, Err, refl, sym, ap, subst, ◌∙◌, arith}
use Rattle.gl_rulelang.specs.declared.token.Sign.{Sign}
use Rattle.gl_rulelang.specs.declared.token.Sign.TheVariants as signs
use Rattle.gl_rulelang.specs.declared.rule.Action.{Action}
use Rattle.gl_rulelang.specs.declared.refusal.TextRefusal.{TextRefusal}
use Rattle.gl_rulelang.specs.declared.refusal.TextRefusal.TheVariants as refusals
use Rattle.gl_rulelang.specs.Tree.{Tree, text, whole, boolean, field, variable, unary, binary, call, Step, action_of}
use Rattle.gl_rulelang.specs.Tokens.{Lexeme, Tokens, end, token, first, rest, place}
use Rattle.gl_rulelang.specs.Faults.{Fault, unexpected, Reads, ◌>>=◌, Fails}
use Rattle.gl_rulelang.specs.Nesting.{Open}
use Rattle.gl_rulelang.specs.Expressions.{Place, Move, goes, ends, stuck, deep, move, moved, run}
use Rattle.gl_rulelang.specs.Rules.{count, is_at, sign_at, of_first, taken, name_at, string_at, performing, let_at, call_at, action_at, with_step, steps_at}

-- ---- what was read leaves fewer tokens

abbrev pub Fewer : {A : Type 0} → Tokens → Reads A → Type 0
Fewer ts (Ok x) = count x.1 < count ts
Fewer ts (Err e) = Unit {0}

abbrev pub NoMore : {A : Type 0} → Tokens → Reads A → Type 0
NoMore ts (Ok x) = count x.1 ≤ count ts
NoMore ts (Err e) = Unit {0}

abbrev pub FewerLeft : Tokens → Result Tokens Fault → Type 0
FewerLeft ts (Ok x) = count x < count ts
FewerLeft ts (Err e) = Unit {0}

rest_fewer : (ts : Tokens) (l : Lexeme) → first ts ≡ Some l → count (rest ts) < count ts
rest_fewer (end at) l e = absurd cc
rest_fewer (token m at ts) l e = omega arith

sign_step : (b : Bool) (ts : Tokens) → (b ≡ true → count (rest ts) < count ts) → FewerLeft ts (cond b (Ok (rest ts)) (Err (unexpected (place ts))))
sign_step true ts h = h refl
sign_step false ts h = tt

pub at_sign : (s : Sign) (ts : Tokens) → is_at s ts ≡ true → count (rest ts) < count ts
at_sign s (end at) e = absurd cc
at_sign s (token l at ts) e = omega arith

pub sign_fewer : (s : Sign) (ts : Tokens) → FewerLeft ts (sign_at s ts)
unfolding sign_at
sign_fewer s ts = sign_step (is_at s ts) ts (at_sign s ts)

taken_fewer : {A : Type 0} (f : Lexeme → Option A) (ts : Tokens) → Fewer ts (taken (of_first f ts) ts)
taken_fewer f (end at) = tt
taken_fewer {A} f (token l at ts) = some (f l)
  where
    some : (o : Option A) → Fewer (token l at ts) (taken o (token l at ts))
    some None = tt
    some (Some x) = omega arith

pub name_fewer : (ts : Tokens) → Fewer ts (name_at ts)
unfolding name_at
name_fewer ts = taken_fewer _ ts

pub string_fewer : (ts : Tokens) → Fewer ts (string_at ts)
unfolding string_at
string_fewer ts = taken_fewer _ ts

moved_no_more : (m : Move) (next : List Open → Place → Reads Tree) (l : Lexeme) (at : ℕ) (ts : Tokens) → ((stack : List Open) (p : Place) → NoMore ts (next stack p)) → NoMore (token l at ts) (moved m next l at ts)
moved_no_more (goes stack p) next l at ts h = more (next stack p) (h stack p)
  where
    more : (r : Reads Tree) → NoMore ts r → NoMore (token l at ts) r
    more (Ok x) h = omega arith
    more (Err e) h = tt
moved_no_more (ends e) next l at ts h = omega arith
moved_no_more stuck next l at ts h = tt
moved_no_more deep next l at ts h = tt

pub run_no_more : (ts : Tokens) (stack : List Open) (p : Place) → NoMore ts (run ts stack p)
unfolding run
run_no_more (end at) stack p = tt
run_no_more (token l at ts) stack p = moved_no_more (move stack p l) (run ts) l at ts (run_no_more ts)

-- a step behind another
pub after_sign : {A : Type 0} (ts : Tokens) (r : Result Tokens Fault) (f : Tokens → Reads A) → FewerLeft ts r → ((us : Tokens) → NoMore us (f us)) → Fewer ts (r >>= f)
after_sign ts (Err e) f h g = tt
after_sign {A} ts (Ok us) f h g = less (f us) (g us)
  where
    less : (r : Reads A) → NoMore us r → Fewer ts r
    less (Ok x) k = omega (arith, h, k)
    less (Err e) k = tt

pub after_read : {A B : Type 0} (ts : Tokens) (r : Reads A) (f : A × Tokens → Reads B) → Fewer ts r → ((x : A × Tokens) → NoMore x.1 (f x)) → Fewer ts (r >>= f)
after_read ts (Err e) f h g = tt
after_read {A} {B} ts (Ok x) f h g = less (f x) (g x)
  where
    less : (r : Reads B) → NoMore x.1 r → Fewer ts r
    less (Ok y) k = omega (arith, h, k)
    less (Err e) k = tt

pub after_any : {A B : Type 0} (ts : Tokens) (r : Reads A) (f : A × Tokens → Reads B) → NoMore ts r → ((x : A × Tokens) → NoMore x.1 (f x)) → NoMore ts (r >>= f)
after_any ts (Err e) f h g = tt
after_any {A} {B} ts (Ok x) f h g = less (f x) (g x)
  where
    less : (r : Reads B) → NoMore x.1 r → NoMore ts r
    less (Ok y) k = omega (arith, h, k)
    less (Err e) k = tt

pub no_more : {A : Type 0} (ts : Tokens) (r : Reads A) → Fewer ts r → NoMore ts r
no_more ts (Ok x) h = omega (arith, h)
no_more ts (Err e) h = tt

performing_no_more : (t : Tree) (ts : Tokens) → NoMore ts (performing t ts)
performing_no_more (text s) ts = tt
performing_no_more (whole n) ts = tt
performing_no_more (boolean b) ts = tt
performing_no_more (field s) ts = tt
performing_no_more (variable s) ts = tt
performing_no_more (unary s e) ts = tt
performing_no_more (binary s a b) ts = tt
performing_no_more (call f given) ts = omega arith

pub let_fewer : (ts : Tokens) → Fewer ts (let_at ts)
unfolding let_at
let_fewer ts =
    after_sign ts (sign_at signs.Let ts) _ (sign_fewer signs.Let ts) (λ a. no_more a _ (
    after_read a (name_at a) _ (name_fewer a) (λ x. no_more x.1 _ (
    after_sign x.1 (sign_at signs.Assign x.1) _ (sign_fewer signs.Assign x.1) (λ b.
    after_any b (run b _ _) _ (run_no_more b _ _) (λ e. no_more e.1 _ (
    after_sign e.1 (sign_at signs.Semicolon e.1) _ (sign_fewer signs.Semicolon e.1) (λ d. omega arith))))))))

pub call_fewer : (ts : Tokens) → Fewer ts (call_at ts)
unfolding call_at
call_fewer ts =
    after_read ts (name_at ts) _ (name_fewer ts) (λ f. no_more f.1 _ (
    after_sign f.1 (sign_at signs.Open f.1) _ (sign_fewer signs.Open f.1) (λ b.
    after_any b (run b _ _) _ (run_no_more b _ _) (λ c. no_more c.1 _ (
    after_sign c.1 (sign_at signs.Semicolon c.1) _ (sign_fewer signs.Semicolon c.1) (λ d. performing_no_more c.0 d))))))

action_step : (b : Bool) (ts : Tokens) → Fewer ts (cond b (let_at ts) (call_at ts))
action_step true ts = let_fewer ts
action_step false ts = call_fewer ts

pub action_fewer : (ts : Tokens) → Fewer ts (action_at ts)
action_fewer ts = action_step (is_at signs.Let ts) ts

-- ---- the loop

-- the actions so far and then those of the rest
abbrev pub steps_before : List Action → Reads (List Step) → Reads (List Step)
steps_before [] read = read
steps_before (a ∷ more) read = with_step (action_of a) (steps_before more read)

pub record StepsSoFar (all : Tokens) (done : List Action) (ts : Tokens) : Type 0 where
  pub turns : ℕ
  pub enough : count ts < turns
  pub told : steps_before done (steps_at turns ts) ≡ steps_at (suc (count all)) all

before-push : (done : List Action) (a : Action) (read : Reads (List Step)) → steps_before (done ++ a ∷ []) read ≡ steps_before done (with_step (action_of a) read)
before-push [] a read = refl
before-push (b ∷ done) a read = ap (with_step (action_of b)) (before-push done a read)

before-ok : (done : List Action) (ts : Tokens) → steps_before done (Ok ([], ts)) ≡ Ok (map action_of done, ts)
before-ok [] ts = refl
before-ok (b ∷ done) ts = ap (with_step (action_of b)) (before-ok done ts)

before-err : (done : List Action) (e : Fault) → steps_before done (Err e) ≡ Err e
before-err [] e = refl
before-err (b ∷ done) e = ap (with_step (action_of b)) (before-err done e)

turn : (n : ℕ) (ts : Tokens) → 0 < n → is_at signs.End ts ≡ false → steps_at n ts ≡ (action_at ts >>= λ a. with_step a.0 (steps_at (n - 1) a.1))
unfolding steps_at
turn zero ts some no_end = absurd (omega arith)
turn (suc n) ts some no_end = let one : suc n - 1 ≡ n = omega arith in rw (no_end, one) refl

last : (n : ℕ) (ts : Tokens) → 0 < n → is_at signs.End ts ≡ true → steps_at n ts ≡ Ok ([], rest ts)
unfolding steps_at
last zero ts some at_end = absurd (omega arith)
last (suc n) ts some at_end = rw at_end refl

pub steps_start : (all : Tokens) → StepsSoFar all [] all
steps_start all = record { turns = suc (count all); enough = omega arith; told = refl }

pub fewer_is : {A : Type 0} (ts : Tokens) (r : Reads A) (x : A × Tokens) → Fewer ts r → r ≡ Ok x → count x.1 < count ts
fewer_is ts r x h e = let k = subst (Fewer ts) e h in k

pub steps_more : (all : Tokens) (done : List Action) (ts : Tokens) (a : Action) (us : Tokens) → StepsSoFar all done ts → is_at signs.End ts ≡ false → action_at ts ≡ Ok (action_of a, us)
    → StepsSoFar all (done ++ a ∷ []) us
steps_more all done ts a us so no_end read =
    let less : count us < count ts = fewer_is ts (action_at ts) (action_of a, us) (action_fewer ts) read in
    record {
      turns = so.turns - 1;
      enough = omega (arith, so.enough, less);
      told = before-push done a (steps_at (so.turns - 1) us)
          ∙ ap (steps_before done) (sym (turn so.turns ts (omega (arith, so.enough)) no_end ∙ ap (λ (r : Reads Step). r >>= λ a. with_step a.0 (steps_at (so.turns - 1) a.1)) read))
          ∙ so.told;
    }

pub steps_fewer : (ts : Tokens) (x : Step × Tokens) → action_at ts ≡ Ok x → count x.1 < count ts
steps_fewer ts x read = fewer_is ts (action_at ts) x (action_fewer ts) read

pub steps_fail : (all : Tokens) (done : List Action) (ts : Tokens) (e : TextRefusal) → StepsSoFar all done ts → is_at signs.End ts ≡ false → Fails e (action_at ts) → Fails e (steps_at (suc (count all)) all)
steps_fail all done ts refusals.OutOfMemory so no_end h = tt
steps_fail all done ts (refusals.BadToken at) so no_end h = sym so.told ∙ ap (steps_before done) (turn so.turns ts (omega (arith, so.enough)) no_end ∙ ap (λ (r : Reads Step). r >>= λ a. with_step a.0 (steps_at (so.turns - 1) a.1)) h) ∙ before-err done _
steps_fail all done ts (refusals.Unexpected at) so no_end h = sym so.told ∙ ap (steps_before done) (turn so.turns ts (omega (arith, so.enough)) no_end ∙ ap (λ (r : Reads Step). r >>= λ a. with_step a.0 (steps_at (so.turns - 1) a.1)) h) ∙ before-err done _
steps_fail all done ts refusals.TooDeep so no_end h = sym so.told ∙ ap (steps_before done) (turn so.turns ts (omega (arith, so.enough)) no_end ∙ ap (λ (r : Reads Step). r >>= λ a. with_step a.0 (steps_at (so.turns - 1) a.1)) h) ∙ before-err done _

pub steps_end : (all : Tokens) (done : List Action) (ts : Tokens) → StepsSoFar all done ts → is_at signs.End ts ≡ true → steps_at (suc (count all)) all ≡ Ok (map action_of done, rest ts)
steps_end all done ts so at_end = sym so.told ∙ ap (steps_before done) (last so.turns ts (omega (arith, so.enough)) at_end) ∙ before-ok done (rest ts)
