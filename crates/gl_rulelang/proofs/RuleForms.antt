-- Rules as forms: what is accepted is spelled as a lawful rule, and each lawful rule is accepted.
use Rattle.std.proofs.Common.{◌≡◌, ℕ, zero, suc, ◌+◌, ◌<◌, ◌≤◌, Bool, true, false, cond, List, [], ◌∷◌, ◌++◌, map, Option, Some, None, Result, Ok, Err, refl, sym, ap, ap₂, subst, ◌∙◌, append_assoc, append-nil, arith, inl, inr, ◌⊎◌}
use Rattle.std.specs.Prelude.{if◌then◌else◌, ◌==◌, IfOk}
use Rattle.std.specs.List.{flat_map, AllByRecursion}
use Rattle.std.proofs.lemmas.Bool.{eqb-true}
use Rattle.gl_rulelang.specs.declared.token.Sign.{Sign}
use Rattle.gl_rulelang.specs.declared.token.Sign.TheVariants as signs
use Rattle.gl_rulelang.specs.Tree.{Tree, call, Arguments, row, height, heights, Step, assign, perform, RuleTree, rule_of}
use Rattle.gl_rulelang.specs.Tokens.{Lexeme, name, string, number, operator, sign, Tokens, end, token, first, rest, place, sign_number, same_sign, is_sign}
use Rattle.gl_rulelang.specs.Faults.{Fault, unexpected, Reads, ◌>>=◌, Answers}
use Rattle.gl_rulelang.specs.Cutting.{tokens_of}
use Rattle.gl_rulelang.specs.declared.refusal.TextRefusal.{TextRefusal}
use Rattle.gl_rulelang.specs.declared.rule.Rule.{Rule}
use Rattle.gl_rulelang.specs.Nesting.{performed}
use Rattle.gl_rulelang.specs.Expressions.{anywhere, first_argument, wants, acted, moved, run}
use Rattle.gl_rulelang.specs.Rules.{count, rule_text, is_at, sign_at, string_of, name_of, taken, of_first, string_at, name_at, performed_at, performing, let_at, call_at, action_at, with_step, steps_at, whole, rule_at}
use Rattle.gl_rulelang.specs.Grammar.{Form, Forms, spelled, first_spelled, meant, pairs, IsLawful, AreLawful, nested, all_nested, Begins, EndsExpression}
use Rattle.gl_rulelang.specs.Sentences.{lexemes, IsCut, IsRule, IsExpression, AreArguments, ActionForm, giving, doing, action_spelled, action_meant, IsAction, RuleForm, rule_spelled, rule_meant}
use Rattle.gl_rulelang.proofs.Forms.{form_is_read, reads_call}
use Rattle.gl_rulelang.proofs.Accepted.{Accepts, expression_accepts, action_accepts}
use Rattle.gl_rulelang.proofs.Steps.{action_fewer, fewer_is}

-- ---- one step behind another

pub bind_then : {A B : Type 0} (P : Type 0) (r : Result A Fault) (f : A → Result B Fault) (y : B) → (r >>= f) ≡ Ok y → ((x : A) → r ≡ Ok x → f x ≡ Ok y → P) → P
bind_then P (Ok x) f y e k = k x refl e
bind_then P (Err d) f y e k = absurd cc

pub bind_goes : {A B : Type 0} (r : Result A Fault) (f : A → Result B Fault) (x : A) (y : Result B Fault) → r ≡ Ok x → f x ≡ y → (r >>= f) ≡ y
bind_goes {A} {B} r f x y e g = ap (λ (q : Result A Fault). q >>= f) e ∙ g

-- ---- tokens and their lexemes

pub begins_lexemes : (xs : List Lexeme) (ts us : Tokens) → Begins xs ts us → lexemes ts ≡ xs ++ lexemes us
begins_lexemes [] ts us h = ap lexemes h
begins_lexemes (x ∷ xs) (end at) us h = absurd h
begins_lexemes (x ∷ xs) (token l at ts) us h = ap₂ (λ (y : Lexeme) (ys : List Lexeme). y ∷ ys) h.0 (begins_lexemes xs ts us h.1)

pub lexemes_begin : (xs ys : List Lexeme) (ts : Tokens) → lexemes ts ≡ xs ++ ys → (us : Tokens) × Begins xs ts us × (lexemes us ≡ ys)
lexemes_begin [] ys ts h = (ts, refl, h)
lexemes_begin (x ∷ xs) ys (end at) h = absurd cc
lexemes_begin (x ∷ xs) ys (token l at ts) h =
    let same : l ≡ x = cc in
    let more : lexemes ts ≡ xs ++ ys = cc in
    let p = lexemes_begin xs ys ts more in (p.0, (same, p.1), p.2)

-- ---- signs

sign_from : ℕ → Sign
sign_from n =
    if n == 0 then signs.Rule
    else if n == 1 then signs.When
    else if n == 2 then signs.Then
    else if n == 3 then signs.End
    else if n == 4 then signs.Let
    else if n == 5 then signs.Pipeline
    else if n == 6 then signs.Stage
    else if n == 7 then signs.Match
    else if n == 8 then signs.All
    else if n == 9 then signs.Either
    else if n == 10 then signs.Pass
    else if n == 11 then signs.True
    else if n == 12 then signs.False
    else if n == 13 then signs.Not
    else if n == 14 then signs.Open
    else if n == 15 then signs.Close
    else if n == 16 then signs.Comma
    else if n == 17 then signs.Semicolon
    else if n == 18 then signs.Colon
    else if n == 19 then signs.Dot
    else if n == 20 then signs.Assign
    else signs.Message

sign_back : (s : Sign) → sign_from (sign_number s) ≡ s
unfolding sign_from
sign_back signs.Rule = refl
sign_back signs.When = refl
sign_back signs.Then = refl
sign_back signs.End = refl
sign_back signs.Let = refl
sign_back signs.Pipeline = refl
sign_back signs.Stage = refl
sign_back signs.Match = refl
sign_back signs.All = refl
sign_back signs.Either = refl
sign_back signs.Pass = refl
sign_back signs.True = refl
sign_back signs.False = refl
sign_back signs.Not = refl
sign_back signs.Open = refl
sign_back signs.Close = refl
sign_back signs.Comma = refl
sign_back signs.Semicolon = refl
sign_back signs.Colon = refl
sign_back signs.Dot = refl
sign_back signs.Assign = refl
sign_back signs.Message = refl

same_is : (a b : Sign) → same_sign a b ≡ true → a ≡ b
same_is a b h = sym (sign_back a) ∙ ap sign_from (eqb-true (sign_number a) (sign_number b) h) ∙ sign_back b

same_self : (s : Sign) → same_sign s s ≡ true
same_self signs.Rule = refl
same_self signs.When = refl
same_self signs.Then = refl
same_self signs.End = refl
same_self signs.Let = refl
same_self signs.Pipeline = refl
same_self signs.Stage = refl
same_self signs.Match = refl
same_self signs.All = refl
same_self signs.Either = refl
same_self signs.Pass = refl
same_self signs.True = refl
same_self signs.False = refl
same_self signs.Not = refl
same_self signs.Open = refl
same_self signs.Close = refl
same_self signs.Comma = refl
same_self signs.Semicolon = refl
same_self signs.Colon = refl
same_self signs.Dot = refl
same_self signs.Assign = refl
same_self signs.Message = refl

pub at_is : (s : Sign) (ts : Tokens) → is_at s ts ≡ true → Begins (sign s ∷ []) ts (rest ts)
at_is s (end at) h = absurd cc
at_is s (token (name n) at ts) h = absurd cc
at_is s (token (string n) at ts) h = absurd cc
at_is s (token (number n) at ts) h = absurd cc
at_is s (token (operator n) at ts) h = absurd cc
at_is s (token (sign found) at ts) h = (ap sign (same_is found s h), refl)

pub sign_takes : (s : Sign) (ts us : Tokens) → sign_at s ts ≡ Ok us → Begins (sign s ∷ []) ts us
unfolding sign_at
sign_takes s ts us h = taken_so (is_at s ts) refl h
  where
    taken_so : (b : Bool) → is_at s ts ≡ b → cond b (Ok (rest ts)) (Err (unexpected (place ts))) ≡ Ok us → Begins (sign s ∷ []) ts us
    taken_so true t e = let same : rest ts ≡ us = cc in subst (Begins (sign s ∷ []) ts) same (at_is s ts t)
    taken_so false t e = absurd cc

pub at_sign_is : (s : Sign) (ys : List Lexeme) (ts : Tokens) → lexemes ts ≡ sign s ∷ ys → (is_at s ts ≡ true) × (lexemes (rest ts) ≡ ys)
at_sign_is s ys (end at) h = absurd cc
at_sign_is s ys (token l at ts) h =
    let same : l ≡ sign s = cc in let more : lexemes ts ≡ ys = cc in
    (ap (λ (x : Lexeme). is_sign s (Some x)) same ∙ same_self s, more)

pub sign_reads : (s : Sign) (ys : List Lexeme) (ts : Tokens) → lexemes ts ≡ sign s ∷ ys → (us : Tokens) × (sign_at s ts ≡ Ok us) × (lexemes us ≡ ys)
unfolding sign_at
sign_reads s ys ts h = let p = at_sign_is s ys ts h in (rest ts, ap (λ (b : Bool). cond b (Ok (rest ts)) (Err (unexpected (place ts)))) p.0, p.1)

pub string_takes : (ts : Tokens) (x : List ℕ × Tokens) → string_at ts ≡ Ok x → Begins (string x.0 ∷ []) ts x.1
unfolding string_at
string_takes (end at) x h = absurd cc
string_takes (token (name n) at ts) x h = absurd cc
string_takes (token (string n) at ts) x h = let same : (n, ts) ≡ x = cc in subst (λ (y : List ℕ × Tokens). Begins (string y.0 ∷ []) (token (string n) at ts) y.1) same (refl, refl)
string_takes (token (number n) at ts) x h = absurd cc
string_takes (token (operator n) at ts) x h = absurd cc
string_takes (token (sign n) at ts) x h = absurd cc

pub name_takes : (ts : Tokens) (x : List ℕ × Tokens) → name_at ts ≡ Ok x → Begins (name x.0 ∷ []) ts x.1
unfolding name_at
name_takes (end at) x h = absurd cc
name_takes (token (string n) at ts) x h = absurd cc
name_takes (token (name n) at ts) x h = let same : (n, ts) ≡ x = cc in subst (λ (y : List ℕ × Tokens). Begins (name y.0 ∷ []) (token (name n) at ts) y.1) same (refl, refl)
name_takes (token (number n) at ts) x h = absurd cc
name_takes (token (operator n) at ts) x h = absurd cc
name_takes (token (sign n) at ts) x h = absurd cc

pub string_reads : (s : List ℕ) (ys : List Lexeme) (ts : Tokens) → lexemes ts ≡ string s ∷ ys → (us : Tokens) × (string_at ts ≡ Ok (s, us)) × (lexemes us ≡ ys)
unfolding string_at
string_reads s ys (end at) h = absurd cc
string_reads s ys (token l at ts) h =
    let same : l ≡ string s = cc in let more : lexemes ts ≡ ys = cc in
    (ts, ap (λ (x : Lexeme). taken (string_of x) (token l at ts)) same, more)

pub name_reads : (s : List ℕ) (ys : List Lexeme) (ts : Tokens) → lexemes ts ≡ name s ∷ ys → (us : Tokens) × (name_at ts ≡ Ok (s, us)) × (lexemes us ≡ ys)
unfolding name_at
name_reads s ys (end at) h = absurd cc
name_reads s ys (token l at ts) h =
    let same : l ≡ name s = cc in let more : lexemes ts ≡ ys = cc in
    (ts, ap (λ (x : Lexeme). taken (name_of x) (token l at ts)) same, more)

-- ---- expressions

pub record Expressed (ts : Tokens) (t : Tree) (us : Tokens) : Type 0 where
  pub form : Form
  pub is : IsExpression form
  pub spells : lexemes ts ≡ spelled form ++ lexemes us
  pub means : meant form ≡ t

pub expressed : (ts : Tokens) (x : Tree × Tokens) → run ts [] (wants anywhere) ≡ Ok x → Expressed ts x.0 x.1
expressed ts x h =
    let a = expression_accepts ts x.0 x.1 h in
    record {
      form = a.ended_so.form;
      is = record { lawful = a.ended_so.lawful; high = a.ended_so.low; nests = a.ended_so.few };
      spells = begins_lexemes a.lexemes ts x.1 a.begins_so ∙ ap (λ (y : List Lexeme). y ++ lexemes x.1) (sym a.ended_so.spells);
      means = a.ended_so.means;
    }

pub expression_reads : (f : Form) (s : Sign) (ys : List Lexeme) (ts : Tokens) → ((us : Tokens) → first us ≡ Some (sign s) → EndsExpression us) → IsExpression f → lexemes ts ≡ spelled f ++ sign s ∷ ys
    → (us : Tokens) × (run ts [] (wants anywhere) ≡ Ok (meant f, us)) × (lexemes us ≡ sign s ∷ ys)
expression_reads f s ys ts ends is h =
    let p = lexemes_begin (spelled f) (sign s ∷ ys) ts h in
    (p.0, form_is_read f ts p.0 is.lawful p.1 is.high is.nests (ends p.0 (first_is p.0 p.2)), p.2)
  where
    first_is : (us : Tokens) → lexemes us ≡ sign s ∷ ys → first us ≡ Some (sign s)
    first_is (end at) e = absurd cc
    first_is (token l at us) e = let same : l ≡ sign s = cc in ap (λ (x : Lexeme). Some x) same

-- ---- actions

pub record Acted (ts : Tokens) (s : Step) (us : Tokens) : Type 0 where
  pub form : ActionForm
  pub is : IsAction form
  pub spells : lexemes ts ≡ action_spelled form ++ lexemes us
  pub means : action_meant form ≡ s

four : (a : List Lexeme) (x y z w : Lexeme) (f b : List Lexeme) → a ≡ x ∷ y ∷ z ∷ (f ++ w ∷ b) → a ≡ (x ∷ y ∷ z ∷ (f ++ w ∷ [])) ++ b
four a x y z w f b e = e ∙ simp append_assoc

abbrev read_so : Step → Tokens → Reads Step
read_so s ts = Ok (s, ts)

let_takes : (ts : Tokens) (x : Step × Tokens) → let_at ts ≡ Ok x → Acted ts x.0 x.1
unfolding let_at
let_takes ts x h =
    bind_then (Acted ts x.0 x.1) (sign_at signs.Let ts) _ x h (λ a ea ha.
    bind_then (Acted ts x.0 x.1) (name_at a) _ x ha (λ n en hn.
    bind_then (Acted ts x.0 x.1) (sign_at signs.Assign n.1) _ x hn (λ b eb hb.
    bind_then (Acted ts x.0 x.1) (run b [] (wants anywhere)) _ x hb (λ e ee he.
    bind_then (Acted ts x.0 x.1) (sign_at signs.Semicolon e.1) _ x he (λ d ed hd.
    let_whole ts a n b e d x ea en eb ee ed hd)))))
  where
    let_whole : (ts a : Tokens) (n : List ℕ × Tokens) (b : Tokens) (e : Tree × Tokens) (d : Tokens) (x : Step × Tokens) → sign_at signs.Let ts ≡ Ok a → name_at a ≡ Ok n → sign_at signs.Assign n.1 ≡ Ok b → run b [] (wants anywhere) ≡ Ok e → sign_at signs.Semicolon e.1 ≡ Ok d
        → read_so (assign n.0 e.0) d ≡ Ok x → Acted ts x.0 x.1
    let_whole ts a n b e d x ea en eb ee ed hd =
        let one = begins_lexemes (sign signs.Let ∷ []) ts a (sign_takes signs.Let ts a ea) in
        let two = begins_lexemes (name n.0 ∷ []) a n.1 (name_takes a n en) in
        let three = begins_lexemes (sign signs.Assign ∷ []) n.1 b (sign_takes signs.Assign n.1 b eb) in
        let value = expressed b e ee in
        let last = begins_lexemes (sign signs.Semicolon ∷ []) e.1 d (sign_takes signs.Semicolon e.1 d ed) in
        let all : lexemes ts ≡ sign signs.Let ∷ name n.0 ∷ sign signs.Assign ∷ (spelled value.form ++ sign signs.Semicolon ∷ lexemes d)
        = one ∙ ap (λ (y : List Lexeme). sign signs.Let ∷ y) (two ∙ ap (λ (y : List Lexeme). name n.0 ∷ y) (three ∙ ap (λ (y : List Lexeme). sign signs.Assign ∷ y) (value.spells ∙ ap (λ (y : List Lexeme). spelled value.form ++ y) last))) in
        let same : (assign n.0 e.0, d) ≡ x = cc in
        subst (λ (y : Step × Tokens). Acted ts y.0 y.1) same (record {
          form = giving n.0 value.form;
          is = value.is;
          spells = four (lexemes ts) (sign signs.Let) (name n.0) (sign signs.Assign) (sign signs.Semicolon) (spelled value.form) (lexemes d) all;
          means = ap (assign n.0) value.means;
        })

two : (a : List Lexeme) (x y w : Lexeme) (f b : List Lexeme) → a ≡ x ∷ y ∷ (f ++ w ∷ b) → a ≡ (x ∷ y ∷ (f ++ w ∷ [])) ++ b
two a x y w f b e = e ∙ simp append_assoc

performing_is : (f : List ℕ) (given : Arguments) (t : Tree) (ts : Tokens) (x : Step × Tokens) → call f given ≡ t → performing t ts ≡ Ok x → (perform f given, ts) ≡ x
performing_is f given t ts x e h = let k : performing (call f given) ts ≡ Ok x = ap (λ (y : Tree). performing y ts) e ∙ h in cc

begins_both : (x y : Lexeme) (ts us vs : Tokens) → Begins (x ∷ []) ts us → Begins (y ∷ []) us vs → Begins (x ∷ y ∷ []) ts vs
begins_both x y (end at) us vs h k = absurd h
begins_both x y (token l at ts) us vs h k = (h.0, subst (λ (z : Tokens). Begins (y ∷ []) z vs) (sym h.1) k)

call_takes : (ts : Tokens) (x : Step × Tokens) → call_at ts ≡ Ok x → Acted ts x.0 x.1
unfolding call_at
call_takes ts x h =
    bind_then (Acted ts x.0 x.1) (name_at ts) _ x h (λ f ef hf.
    bind_then (Acted ts x.0 x.1) (sign_at signs.Open f.1) _ x hf (λ b eb hb.
    bind_then (Acted ts x.0 x.1) (performed_at f.0 b) _ x hb (λ c ec hc.
    bind_then (Acted ts x.0 x.1) (sign_at signs.Semicolon c.1) _ x hc (λ d ed hd.
    call_whole ts f b c d x ef eb ec ed hd))))
  where
    call_whole : (ts : Tokens) (f : List ℕ × Tokens) (b : Tokens) (c : Tree × Tokens) (d : Tokens) (x : Step × Tokens) → name_at ts ≡ Ok f → sign_at signs.Open f.1 ≡ Ok b → performed_at f.0 b ≡ Ok c → sign_at signs.Semicolon c.1 ≡ Ok d → performing c.0 d ≡ Ok x
        → Acted ts x.0 x.1
    call_whole ts f b c d x ef eb ec ed hd =
        let a = action_accepts ts b f.0 c.0 c.1 (begins_both (name f.0) (sign signs.Open) ts f.1 b (name_takes ts f ef) (sign_takes signs.Open f.1 b eb)) ec in
        let w = a.ended_so in
        let last = begins_lexemes (sign signs.Semicolon ∷ []) c.1 d (sign_takes signs.Semicolon c.1 d ed) in
        let all : lexemes ts ≡ name w.function ∷ sign signs.Open ∷ (first_spelled w.given ++ sign signs.Semicolon ∷ lexemes d)
        = begins_lexemes a.lexemes ts c.1 a.begins_so ∙ ap₂ (λ (y z : List Lexeme). y ++ z) (sym w.spells) last in
        let same : (perform w.function (row (pairs w.given)), d) ≡ x = performing_is w.function (row (pairs w.given)) c.0 d x w.means hd in
        subst (λ (y : Step × Tokens). Acted ts y.0 y.1) same (record {
          form = doing w.function w.given;
          is = record { lawful = w.whole_call.lawful; high = w.whole_call.low; nests = w.whole_call.few };
          spells = two (lexemes ts) (name w.function) (sign signs.Open) (sign signs.Semicolon) (first_spelled w.given) (lexemes d) all;
          means = refl;
        })

pub action_takes : (ts : Tokens) (x : Step × Tokens) → action_at ts ≡ Ok x → Acted ts x.0 x.1
action_takes ts x h = by_test (is_at signs.Let ts) h
  where
    by_test : (b : Bool) → cond b (let_at ts) (call_at ts) ≡ Ok x → Acted ts x.0 x.1
    by_test true e = let_takes ts x e
    by_test false e = call_takes ts x e

pub record AllActed (ts : Tokens) (s : List Step) (us : Tokens) : Type 0 where
  pub forms : List ActionForm
  pub are : AllByRecursion IsAction forms
  pub spells : lexemes ts ≡ flat_map action_spelled forms ++ sign signs.End ∷ lexemes us
  pub means : map action_meant forms ≡ s

more_acted : (ts : Tokens) (a : Step × Tokens) (s : List Step) (us : Tokens) → Acted ts a.0 a.1 → AllActed a.1 s us → AllActed ts (a.0 ∷ s) us
more_acted ts a s us one all = record {
  forms = one.form ∷ all.forms;
  are = (one.is, all.are);
  spells = one.spells ∙ ap (λ (y : List Lexeme). action_spelled one.form ++ y) all.spells ∙ sym (append_assoc (action_spelled one.form) (flat_map action_spelled all.forms) (sign signs.End ∷ lexemes us));
  means = ap₂ (λ (y : Step) (ys : List Step). y ∷ ys) one.means all.means;
}

with_step_is : (s : Step) (r : Reads (List Step)) (x : List Step × Tokens) → with_step s r ≡ Ok x → (y : List Step × Tokens) × (r ≡ Ok y) × ((s ∷ y.0, y.1) ≡ x)
with_step_is s (Ok y) x h = (y, refl, cc)
with_step_is s (Err e) x h = absurd cc

pub steps_take : (n : ℕ) (ts : Tokens) (x : List Step × Tokens) → steps_at n ts ≡ Ok x → AllActed ts x.0 x.1
unfolding steps_at
steps_take zero ts x h = absurd cc
steps_take (suc n) ts x h = by_test n ts x (steps_take n) (is_at signs.End ts) refl h
  where
    by_test : (n : ℕ) (ts : Tokens) (x : List Step × Tokens) → ((us : Tokens) (y : List Step × Tokens) → steps_at n us ≡ Ok y → AllActed us y.0 y.1) → (b : Bool) → is_at signs.End ts ≡ b
        → cond b (Ok ([], rest ts)) (action_at ts >>= λ a. with_step a.0 (steps_at n a.1)) ≡ Ok x → AllActed ts x.0 x.1
    by_test n ts x more true t e =
        let same : ([], rest ts) ≡ x = cc in
        subst (λ (y : List Step × Tokens). AllActed ts y.0 y.1) same (record { forms = []; are = tt; spells = begins_lexemes (sign signs.End ∷ []) ts (rest ts) (at_is signs.End ts t); means = refl })
    by_test n ts x more false t e =
        bind_then (AllActed ts x.0 x.1) (action_at ts) (λ a. with_step a.0 (steps_at n a.1)) x e (λ a ea ha.
        let p = with_step_is a.0 (steps_at n a.1) x ha in
        subst (λ (y : List Step × Tokens). AllActed ts y.0 y.1) p.2 (more_acted ts a p.0.0 p.0.1 (action_takes ts a ea) (more a.1 p.0 p.1)))

-- ---- rules

pub record Ruled (ts : Tokens) (r : RuleTree) : Type 0 where
  pub form : RuleForm
  pub condition : IsExpression form.condition
  pub actions : AllByRecursion IsAction form.actions
  pub spells : lexemes ts ≡ rule_spelled form
  pub means : rule_meant form ≡ r

pub whole_is : {A : Type 0} (x y : A) (ts : Tokens) → whole x ts ≡ Ok y → (lexemes ts ≡ []) × (x ≡ y)
whole_is x y (end at) h = (refl, cc)
whole_is x y (token l at ts) h = absurd cc

pub rule_takes : (ts : Tokens) (r : RuleTree) → rule_at ts ≡ Ok r → Ruled ts r
unfolding rule_at
rule_takes ts r h =
    bind_then (Ruled ts r) (sign_at signs.Rule ts) _ r h (λ a ea ha.
    bind_then (Ruled ts r) (string_at a) _ r ha (λ n en hn.
    bind_then (Ruled ts r) (sign_at signs.When n.1) _ r hn (λ b eb hb.
    bind_then (Ruled ts r) (run b [] (wants anywhere)) _ r hb (λ e ee he.
    bind_then (Ruled ts r) (sign_at signs.Then e.1) _ r he (λ d ed hd.
    bind_then (Ruled ts r) (steps_at (suc (count d)) d) _ r hd (λ s es hs.
    rule_whole ts a n b e d s r ea en eb ee ed es hs))))))
  where
    rule_whole : (ts a : Tokens) (n : List ℕ × Tokens) (b : Tokens) (e : Tree × Tokens) (d : Tokens) (s : List Step × Tokens) (r : RuleTree) → sign_at signs.Rule ts ≡ Ok a → string_at a ≡ Ok n → sign_at signs.When n.1 ≡ Ok b → run b [] (wants anywhere) ≡ Ok e
        → sign_at signs.Then e.1 ≡ Ok d → steps_at (suc (count d)) d ≡ Ok s → whole (record { name = n.0; condition = e.0; steps = s.0 }) s.1 ≡ Ok r → Ruled ts r
    rule_whole ts a n b e d s r ea en eb ee ed es hs =
        let one = begins_lexemes (sign signs.Rule ∷ []) ts a (sign_takes signs.Rule ts a ea) in
        let two = begins_lexemes (string n.0 ∷ []) a n.1 (string_takes a n en) in
        let three = begins_lexemes (sign signs.When ∷ []) n.1 b (sign_takes signs.When n.1 b eb) in
        let condition = expressed b e ee in
        let five = begins_lexemes (sign signs.Then ∷ []) e.1 d (sign_takes signs.Then e.1 d ed) in
        let steps = steps_take (suc (count d)) d s es in
        let tree : RuleTree = record { name = n.0; condition = e.0; steps = s.0 } in
        let closing = whole_is tree r s.1 hs in
        let form : RuleForm = record { name = n.0; condition = condition.form; actions = steps.forms } in
        let end_here : lexemes d ≡ flat_map action_spelled steps.forms ++ sign signs.End ∷ [] = steps.spells ∙ ap (λ (y : List Lexeme). flat_map action_spelled steps.forms ++ sign signs.End ∷ y) closing.0 in
        let all : lexemes ts ≡ rule_spelled form
        = one ∙ ap (λ (y : List Lexeme). sign signs.Rule ∷ y) (two ∙ ap (λ (y : List Lexeme). string n.0 ∷ y) (three ∙ ap (λ (y : List Lexeme). sign signs.When ∷ y)
        (condition.spells ∙ ap (λ (y : List Lexeme). spelled condition.form ++ y) (five ∙ ap (λ (y : List Lexeme). sign signs.Then ∷ y) end_here)))) in
        let means : rule_meant form ≡ tree = ap₂ (λ (c : Tree) (st : List Step). record { name = n.0; condition = c; steps = st }) condition.means steps.means in
        record { form = form; condition = condition.is; actions = steps.are; spells = all; means = means ∙ closing.1 }

-- ---- each lawful rule is accepted

acted_at : (x : Lexeme) (ys : List Lexeme) (mid : Tokens) (t : Tree) → lexemes mid ≡ x ∷ ys → run mid [] (acted t) ≡ Ok (t, mid)
unfolding run
acted_at x ys (end at) t h = absurd cc
acted_at x ys (token l at us) t h = refl

let_reads : (x : List ℕ) (f : Form) (ys : List Lexeme) (ts : Tokens) → IsExpression f → lexemes ts ≡ action_spelled (giving x f) ++ ys → (us : Tokens) × (let_at ts ≡ Ok (assign x (meant f), us)) × (lexemes us ≡ ys)
unfolding let_at
let_reads x f ys ts is h =
    let a = sign_reads signs.Let (name x ∷ sign signs.Assign ∷ (spelled f ++ sign signs.Semicolon ∷ ys)) ts (h ∙ simp append_assoc) in
    let n = name_reads x (sign signs.Assign ∷ (spelled f ++ sign signs.Semicolon ∷ ys)) a.0 a.2 in
    let b = sign_reads signs.Assign (spelled f ++ sign signs.Semicolon ∷ ys) n.0 n.2 in
    let e = expression_reads f signs.Semicolon ys b.0 (λ us k. inr k) is b.2 in
    let d = sign_reads signs.Semicolon ys e.0 e.2 in
    (d.0, bind_goes (sign_at signs.Let ts) _ a.0 _ a.1 (bind_goes (name_at a.0) _ (x, n.0) _ n.1 (bind_goes (sign_at signs.Assign n.0) _ b.0 _ b.1 (bind_goes (run b.0 [] (wants anywhere)) _ (meant f, e.0) _ e.1 (bind_goes (sign_at signs.Semicolon e.0) _ d.0 _ d.1 refl)))), d.2)

call_reads : (f : List ℕ) (given : Forms) (ys : List Lexeme) (ts : Tokens) → AreArguments given → lexemes ts ≡ action_spelled (doing f given) ++ ys → (us : Tokens) × (call_at ts ≡ Ok (perform f (row (pairs given)), us)) × (lexemes us ≡ ys)
unfolding call_at
call_reads f given ys ts is h =
    let n = name_reads f (sign signs.Open ∷ (first_spelled given ++ sign signs.Semicolon ∷ ys)) ts (h ∙ simp append_assoc) in
    let b = sign_reads signs.Open (first_spelled given ++ sign signs.Semicolon ∷ ys) n.0 n.2 in
    let p = lexemes_begin (first_spelled given) (sign signs.Semicolon ∷ ys) b.0 b.2 in
    let c : run b.0 (performed f [] None ∷ []) (wants first_argument) ≡ Ok (call f (row (pairs given)), p.0)
    = reads_call false f given [] b.0 p.0 is.lawful p.1 (omega (arith, is.high)) (omega (arith, is.nests)) ∙ acted_at (sign signs.Semicolon) ys p.0 (call f (row (pairs given))) p.2 in
    let d = sign_reads signs.Semicolon ys p.0 p.2 in
    (d.0, bind_goes (name_at ts) _ (f, n.0) _ n.1 (bind_goes (sign_at signs.Open n.0) _ b.0 _ b.1 (bind_goes (performed_at f b.0) _ (call f (row (pairs given)), p.0) _ c (bind_goes (sign_at signs.Semicolon p.0) _ d.0 _ d.1 refl))), d.2)

pub is_let : (x : Lexeme) (ys : List Lexeme) (ts : Tokens) (s : Sign) → lexemes ts ≡ x ∷ ys → is_at s ts ≡ is_sign s (Some x)
is_let x ys (end at) s h = absurd cc
is_let x ys (token l at ts) s h = let same : l ≡ x = cc in ap (λ (y : Lexeme). is_sign s (Some y)) same

action_reads : (a : ActionForm) (ys : List Lexeme) (ts : Tokens) → IsAction a → lexemes ts ≡ action_spelled a ++ ys → (us : Tokens) × (action_at ts ≡ Ok (action_meant a, us)) × (lexemes us ≡ ys) × (is_at signs.End ts ≡ false)
action_reads (giving x f) ys ts is h =
    let p = let_reads x f ys ts is h in
    (p.0, ap (λ (b : Bool). cond b (let_at ts) (call_at ts)) (is_let (sign signs.Let) _ ts signs.Let h) ∙ p.1, p.2, is_let (sign signs.Let) _ ts signs.End h)
action_reads (doing f given) ys ts is h =
    let p = call_reads f given ys ts is h in
    (p.0, ap (λ (b : Bool). cond b (let_at ts) (call_at ts)) (is_let (name f) _ ts signs.Let h) ∙ p.1, p.2, is_let (name f) _ ts signs.End h)

steps_read : (forms : List ActionForm) (n : ℕ) (ys : List Lexeme) (ts : Tokens) → AllByRecursion IsAction forms → count ts < n → lexemes ts ≡ flat_map action_spelled forms ++ sign signs.End ∷ ys
    → (us : Tokens) × (steps_at n ts ≡ Ok (map action_meant forms, us)) × (lexemes us ≡ ys)
unfolding steps_at
steps_read forms zero ys ts are lt h = absurd (omega (arith, lt))
steps_read [] (suc n) ys ts are lt h =
    let p = at_sign_is signs.End ys ts h in
    (rest ts, ap (λ (b : Bool). cond b (Ok ([], rest ts)) (action_at ts >>= λ a. with_step a.0 (steps_at n a.1))) p.0, p.1)
steps_read (a ∷ forms) (suc n) ys ts are lt h =
    let p = action_reads a (flat_map action_spelled forms ++ sign signs.End ∷ ys) ts are.0 (h ∙ append_assoc (action_spelled a) (flat_map action_spelled forms) (sign signs.End ∷ ys)) in
    let less = fewer_is ts (action_at ts) (action_meant a, p.0) (action_fewer ts) p.1 in
    let q = steps_read forms n ys p.0 are.1 (omega (arith, lt, less)) p.2 in (
      q.0,
      ap (λ (b : Bool). cond b (Ok ([], rest ts)) (action_at ts >>= λ a. with_step a.0 (steps_at n a.1))) p.3
          ∙ bind_goes (action_at ts) (λ (x : Step × Tokens). with_step x.0 (steps_at n x.1)) (action_meant a, p.0) _ p.1 (ap (with_step (action_meant a)) q.1),
      q.2,
    )

pub ends_whole : {A : Type 0} (x : A) (ts : Tokens) → lexemes ts ≡ [] → whole x ts ≡ Ok x
ends_whole x (end at) h = refl
ends_whole x (token l at ts) h = absurd cc

pub rule_reads : (form : RuleForm) (ts : Tokens) → IsExpression form.condition → AllByRecursion IsAction form.actions → lexemes ts ≡ rule_spelled form → rule_at ts ≡ Ok (rule_meant form)
unfolding rule_at
rule_reads form ts condition actions h =
    let behind = flat_map action_spelled form.actions ++ sign signs.End ∷ [] in
    let a = sign_reads signs.Rule (string form.name ∷ sign signs.When ∷ (spelled form.condition ++ sign signs.Then ∷ behind)) ts h in
    let n = string_reads form.name (sign signs.When ∷ (spelled form.condition ++ sign signs.Then ∷ behind)) a.0 a.2 in
    let b = sign_reads signs.When (spelled form.condition ++ sign signs.Then ∷ behind) n.0 n.2 in
    let e = expression_reads form.condition signs.Then behind b.0 (λ us k. inl k) condition b.2 in
    let d = sign_reads signs.Then behind e.0 e.2 in
    let s = steps_read form.actions (suc (count d.0)) [] d.0 actions (omega arith) d.2 in
    bind_goes (sign_at signs.Rule ts) _ a.0 _ a.1 (bind_goes (string_at a.0) _ (form.name, n.0) _ n.1 (bind_goes (sign_at signs.When n.0) _ b.0 _ b.1 (bind_goes (run b.0 [] (wants anywhere)) _ (meant form.condition, e.0) _ e.1
    (bind_goes (sign_at signs.Then e.0) _ d.0 _ d.1 (bind_goes (steps_at (suc (count d.0)) d.0) _ (map action_meant form.actions, s.0) _ s.1 (ends_whole (rule_meant form) s.0 s.2))))))

-- ---- texts

pub text_is_rule : (text : List ℕ) (r : RuleTree) → rule_text text ≡ Ok r → IsRule text r
text_is_rule text r h =
    bind_then (IsRule text r) (tokens_of text) rule_at r h (λ ts cut read.
    let a = rule_takes ts r read in
    record { form = a.form; condition = a.condition; actions = a.actions; spells = record { tokens = ts; read = cut; same = a.spells }; means = a.means })

pub rule_is_read : (text : List ℕ) (r : RuleTree) → IsRule text r → rule_text text ≡ Ok r
rule_is_read text r is =
    bind_goes (tokens_of text) rule_at is.spells.tokens (Ok r) is.spells.read (rule_reads is.form is.spells.tokens is.condition is.actions is.spells.same ∙ ap (λ (x : RuleTree). Ok x) is.means)

pub rule_found : (result : Result Rule TextRefusal) (text : List ℕ) → Answers rule_of result (rule_text text) → IfOk result (λ r. IsRule text (rule_of r))
rule_found (Ok r) text h = text_is_rule text (rule_of r) h
rule_found (Err e) text h = tt

pub rule_only : (result : Result Rule TextRefusal) (text : List ℕ) → Answers rule_of result (rule_text text) → (r : RuleTree) → IsRule text r → Answers rule_of result (Ok r)
rule_only result text h r is = subst (Answers rule_of result) (rule_is_read text r is) h

pub one_rule : (text : List ℕ) (one other : RuleTree) → IsRule text one → IsRule text other → one ≡ other
one_rule text one other a b = let e = sym (rule_is_read text one a) ∙ rule_is_read text other b in cc
