-- What is printed of a rule that was read reads back to it.
use Rattle.std.proofs.Common.{◌≡◌, ℕ, zero, suc, ◌+◌, ◌-◌, ◌<◌, ◌≤◌, ◌^◌, Bool, true, false, cond, eqb, ltb, List, [], ◌∷◌, ◌++◌, length, get_or, take, drop, map, Option, Some, None, Result, Ok, Err, refl, sym, ap, ap₂, subst, ◌∙◌, append_assoc, append-nil, arith}
use Rattle.std.specs.Prelude.{ℤ, pos, codes, max, ◌==◌, IfOk}
use Rattle.std.specs.List.{flat_map, prefix_len, AllByRecursion, starts_with}
use Rattle.std.specs.Str.{bytes_eq}
use Rattle.std.proofs.lemmas.Bool.{eqb-true, cond_both, ltb-true}
use Rattle.std.proofs.lemmas.List.{length-take-le}
use Rattle.std.proofs.lemmas.List.Sums.{prefix_len-le-length}
use Rattle.gl_rulelang.specs.declared.rule.Binary.TheVariants as ops
use Rattle.gl_rulelang.specs.declared.token.Sign.TheVariants as signs
use Rattle.gl_rulelang.specs.declared.text.Class.TheVariants as classes
use Rattle.std.specs.Char.{is_ascii_digit}
use Rattle.gl_base.specs.Digits.{decimal}
use Rattle.gl_rulelang.specs.Bytes.{in_class, is_letter, is_blank, string_len, comment_len}
use Rattle.gl_rulelang.specs.Tree.{Tree, text, whole, boolean, field, variable, unary, binary, call, Arguments, none, argument, row, height, heights, is_operation, Step, assign, perform, RuleTree}
use Rattle.gl_rulelang.specs.Tokens.{Lexeme, name, string, number, operator, sign, Tokens, end, token}
use Rattle.gl_rulelang.specs.Faults.{Fault}
use Rattle.gl_rulelang.specs.Fronts.{Front, blank, lexeme, bad, word, word_front, numeral_front, string_front, comment_front, slash, next_is, single, pair, message_front, punctuation, front_of}
use Rattle.gl_rulelang.specs.Cutting.{with_token, cut_front, cutting, tokens_of}
use Rattle.gl_rulelang.specs.Grammar.{Form, a_string, a_number, a_truth, a_field, a_name, before, between, inside, calling, Forms, no_more, one_more, prefix_lexeme, naming, spelled, first_spelled, rest_spelled, meant, pairs, nested, all_nested, operand_form, form_of, forms_of}
use Rattle.gl_rulelang.specs.Printing.{quote, tree_text, listed, call_text, step_text, rule_print}
use Rattle.gl_rulelang.specs.Rules.{rule_text}
use Rattle.gl_rulelang.specs.Sentences.{lexemes, IsCut, IsExpression, AreArguments, ActionForm, giving, doing, action_spelled, action_meant, IsAction, RuleForm, rule_spelled, rule_meant, IsRule}
use Rattle.gl_rulelang.proofs.Lexing.{Lexed, lexed_end, lexed_is_cut, IsWord, IsName, IsNaming, IsSpelledNumber, IsPlain, ArePlain, Stops, lexed_word, lexed_name, lexed_string, tree_lexes, first_lexed, opens_lexed, closes_lexed, space_lexed, line_lexed, semicolon_lexed, assign_lexed}
use Rattle.gl_rulelang.proofs.Shown.{shown_means, shown_row, shown_lawful, all_lawful, shown_nests}
use Rattle.gl_rulelang.proofs.RuleForms.{text_is_rule, rule_is_read}

-- ---- tokens that a text can have

abbrev pub IsToken : Lexeme → Type 0
IsToken (name n) = IsName n
IsToken (string s) = Unit {0}
IsToken (number z) = IsSpelledNumber z
IsToken (operator op) = Unit {0}
IsToken (sign s) = Unit {0}

abbrev HasToken : Front → Type 0
HasToken (blank n) = Unit {0}
HasToken (lexeme l n) = IsToken l
HasToken bad = Unit {0}

-- a word is a keyword or a name
abbrev Named : List ℕ → Lexeme → Type 0
Named w l = word w ≡ l → IsToken l

word_is_token : (w : List ℕ) → IsWord w → IsToken (word w)
word_is_token w is = all refl
  where
    all : Named w (word w)
    all =
        cond_both (bytes_eq w (codes "rule")) _ _ (Named w) (λ t e. tt) (λ f.
        cond_both (bytes_eq w (codes "when")) _ _ (Named w) (λ t e. tt) (λ f.
        cond_both (bytes_eq w (codes "then")) _ _ (Named w) (λ t e. tt) (λ f.
        cond_both (bytes_eq w (codes "end")) _ _ (Named w) (λ t e. tt) (λ f.
        cond_both (bytes_eq w (codes "let")) _ _ (Named w) (λ t e. tt) (λ f.
        cond_both (bytes_eq w (codes "pipeline")) _ _ (Named w) (λ t e. tt) (λ f.
        cond_both (bytes_eq w (codes "stage")) _ _ (Named w) (λ t e. tt) (λ f.
        cond_both (bytes_eq w (codes "match")) _ _ (Named w) (λ t e. tt) (λ f.
        cond_both (bytes_eq w (codes "all")) _ _ (Named w) (λ t e. tt) (λ f.
        cond_both (bytes_eq w (codes "either")) _ _ (Named w) (λ t e. tt) (λ f.
        cond_both (bytes_eq w (codes "pass")) _ _ (Named w) (λ t e. tt) (λ f.
        cond_both (bytes_eq w (codes "true")) _ _ (Named w) (λ t e. tt) (λ f.
        cond_both (bytes_eq w (codes "false")) _ _ (Named w) (λ t e. tt) (λ f.
        cond_both (bytes_eq w (codes "not")) _ _ (Named w) (λ t e. tt) (λ f.
        cond_both (bytes_eq w (codes "and")) _ _ (Named w) (λ t e. tt) (λ f.
        cond_both (bytes_eq w (codes "or")) _ _ (Named w) (λ t e. tt) (λ f e. record { is_word = is; plain = e }))))))))))))))))

-- the bytes of a class at the front are of that class all through
run_of_run : (p : ℕ → Bool) (bytes : List ℕ) → prefix_len p (take (prefix_len p bytes) bytes) ≡ prefix_len p bytes
run_of_run p [] = refl
run_of_run p (b ∷ bytes) = by_test (p b) refl (run_of_run p bytes)
  where
    by_test : (t : Bool) → p b ≡ t → prefix_len p (take (prefix_len p bytes) bytes) ≡ prefix_len p bytes → prefix_len p (take (prefix_len p (b ∷ bytes)) (b ∷ bytes)) ≡ prefix_len p (b ∷ bytes)
    by_test true e h =
        let more : prefix_len p (b ∷ bytes) ≡ suc (prefix_len p bytes) = rw e (omega arith) in
        let again : prefix_len p (b ∷ take (prefix_len p bytes) bytes) ≡ suc (prefix_len p (take (prefix_len p bytes) bytes)) = rw e (omega arith) in
        rw (more, again) (ap suc h)
    by_test false e h =
        let none : prefix_len p (b ∷ bytes) ≡ 0 = rw e refl in
        rw none refl

letter_is_name_byte : (b : ℕ) → is_letter b ≡ true → in_class classes.Name b ≡ true
letter_is_name_byte b h = rw h refl

first_word : (b : ℕ) (bytes : List ℕ) → is_letter b ≡ true → IsWord (take (prefix_len (in_class classes.Name) (b ∷ bytes)) (b ∷ bytes))
first_word b bytes h =
    let p = in_class classes.Name in
    let more : prefix_len p (b ∷ bytes) ≡ suc (prefix_len p bytes) = rw (letter_is_name_byte b h) (omega arith) in
    let within = prefix_len-le-length p (b ∷ bytes) in
    record {
      starts = ap (λ (n : ℕ). is_letter (get_or (take n (b ∷ bytes)) 0 0)) more ∙ h;
      all = run_of_run p (b ∷ bytes) ∙ sym (length-take-le (prefix_len p (b ∷ bytes)) (b ∷ bytes) within);
    }

numeral_has_token : (bytes : List ℕ) → HasToken (numeral_front bytes)
numeral_has_token bytes =
    let digits = take (prefix_len is_ascii_digit bytes) bytes in
    cond_both (ltb (decimal 0 digits) (2 ^ 63)) (lexeme (number (pos (decimal 0 digits))) (prefix_len is_ascii_digit bytes)) bad HasToken (λ t. (decimal 0 digits, refl, ltb-true (decimal 0 digits) (2 ^ 63) t)) (λ f. tt)

string_has_token : (o : Option ℕ) (bytes : List ℕ) → HasToken (string_front o bytes)
string_has_token None bytes = tt
string_has_token (Some n) bytes = tt

comment_has_token : (o : Option ℕ) → HasToken (comment_front o)
comment_has_token None = tt
comment_has_token (Some n) = tt

slash_has_token : (bytes : List ℕ) → HasToken (slash bytes)
slash_has_token [] = tt
slash_has_token (b ∷ bytes) = cond_both (eqb b 47) _ _ HasToken (λ t. tt) (λ f. cond_both (eqb b 42) _ _ HasToken (λ t. comment_has_token (comment_len false bytes)) (λ g. tt))

pair_has_token : (second : ℕ) (l : Lexeme) (o : Option Lexeme) (bytes : List ℕ) → IsToken l → HasToken (single o) → HasToken (pair second l o bytes)
pair_has_token second l o bytes is h = cond_both (next_is second bytes) (lexeme l 2) (single o) HasToken (λ t. is) (λ f. h)

punctuation_has_token : (b : ℕ) (bytes : List ℕ) → HasToken (punctuation b bytes)
punctuation_has_token b bytes =
    cond_both (eqb b 40) _ _ HasToken (λ t. tt) (λ f.
    cond_both (eqb b 41) _ _ HasToken (λ t. tt) (λ f.
    cond_both (eqb b 44) _ _ HasToken (λ t. tt) (λ f.
    cond_both (eqb b 59) _ _ HasToken (λ t. tt) (λ f.
    cond_both (eqb b 58) _ _ HasToken (λ t. tt) (λ f.
    cond_both (eqb b 46) _ _ HasToken (λ t. tt) (λ f.
    cond_both (eqb b 43) _ _ HasToken (λ t. tt) (λ f.
    cond_both (eqb b 45) _ _ HasToken (λ t. tt) (λ f.
    cond_both (eqb b 42) _ _ HasToken (λ t. tt) (λ f.
    cond_both (eqb b 37) _ _ HasToken (λ t. tt) (λ f.
    cond_both (eqb b 61) _ _ HasToken (λ t. pair_has_token 61 (operator ops.Equal) (Some (sign signs.Assign)) bytes tt tt) (λ f.
    cond_both (eqb b 33) _ _ HasToken (λ t. pair_has_token 61 (operator ops.NotEqual) (Some (sign signs.Not)) bytes tt tt) (λ f.
    cond_both (eqb b 60) _ _ HasToken (λ t. pair_has_token 61 (operator ops.AtMost) (Some (operator ops.Less)) bytes tt tt) (λ f.
    cond_both (eqb b 62) _ _ HasToken (λ t. pair_has_token 61 (operator ops.AtLeast) (Some (operator ops.Greater)) bytes tt tt) (λ f.
    cond_both (eqb b 38) _ _ HasToken (λ t. pair_has_token 38 (operator ops.And) None bytes tt tt) (λ f.
    cond_both (eqb b 124) _ _ HasToken (λ t. pair_has_token 124 (operator ops.Or) None bytes tt tt) (λ f.
    cond_both (eqb b 36) _ _ HasToken (λ t. cond_both (starts_with ◌==◌ bytes (codes "message")) _ _ HasToken (λ u. tt) (λ g. tt)) (λ f. tt)))))))))))))))))

front_has_token : (bytes : List ℕ) → HasToken (front_of bytes)
unfolding front_of
front_has_token [] = tt
front_has_token (b ∷ bytes) =
    cond_both (is_blank b) _ _ HasToken (λ t. tt) (λ f.
    cond_both (is_letter b) _ _ HasToken (λ t. word_is_token (take (prefix_len (in_class classes.Name) (b ∷ bytes)) (b ∷ bytes)) (first_word b bytes t)) (λ f.
    cond_both (is_ascii_digit b) _ _ HasToken (λ t. numeral_has_token (b ∷ bytes)) (λ f.
    cond_both (eqb b 34) _ _ HasToken (λ t. string_has_token (string_len false bytes) bytes) (λ f.
    cond_both (eqb b 47) _ _ HasToken (λ t. slash_has_token bytes) (λ f. punctuation_has_token b bytes)))))

abbrev pub AreTokens : List Lexeme → Type 0
AreTokens xs = AllByRecursion IsToken xs

with_token_is : (l : Lexeme) (at : ℕ) (r : Result Tokens Fault) (ts : Tokens) → with_token l at r ≡ Ok ts → (us : Tokens) × (r ≡ Ok us) × (token l at us ≡ ts)
with_token_is l at (Ok us) ts h = (us, refl, cc)
with_token_is l at (Err e) ts h = absurd cc

cutting_has_tokens : (n at : ℕ) (bytes : List ℕ) (ts : Tokens) → cutting n at bytes ≡ Ok ts → AreTokens (lexemes ts)
unfolding cutting
cutting_has_tokens n at [] ts h = let same : end at ≡ ts = cc in subst (λ (x : Tokens). AreTokens (lexemes x)) same tt
cutting_has_tokens zero at (b ∷ bytes) ts h = absurd cc
cutting_has_tokens (suc n) at (b ∷ bytes) ts h = by_front (front_of (b ∷ bytes)) (front_has_token (b ∷ bytes)) h (cutting_has_tokens n)
  where
    by_front : (f : Front) → HasToken f → cut_front f (cutting n) at (b ∷ bytes) ≡ Ok ts → ((at : ℕ) (rest : List ℕ) (us : Tokens) → cutting n at rest ≡ Ok us → AreTokens (lexemes us)) → AreTokens (lexemes ts)
    by_front (blank k) is e more = more (at + k) (drop k (b ∷ bytes)) ts e
    by_front (lexeme l k) is e more =
        let p = with_token_is l at (cutting n (at + k) (drop k (b ∷ bytes))) ts e in
        subst (λ (x : Tokens). AreTokens (lexemes x)) p.2 (is, more (at + k) (drop k (b ∷ bytes)) p.0 p.1)
    by_front bad is e more = absurd cc

pub cut_has_tokens : (bytes : List ℕ) (xs : List Lexeme) → IsCut bytes xs → AreTokens xs
cut_has_tokens bytes xs is = subst AreTokens is.same (cutting_has_tokens (length bytes) 0 bytes is.tokens is.read)

-- ---- a tree that is spelled by such tokens is plain

pub split_tokens : (xs ys : List Lexeme) → AreTokens (xs ++ ys) → AreTokens xs × AreTokens ys
split_tokens [] ys h = (tt, h)
split_tokens (x ∷ xs) ys h = let p = split_tokens xs ys h.1 in ((h.0, p.0), p.1)

naming_plain : (n : Option (List ℕ)) → AreTokens (naming n) → IsNaming n
naming_plain None h = tt
naming_plain (Some n) h = h.0

mutual
  pub form_plain : (f : Form) → AreTokens (spelled f) → IsPlain (meant f)
  form_plain (a_string s) h = tt
  form_plain (a_number z) h = h.0
  form_plain (a_truth b) h = tt
  form_plain (a_field f) h = h.1.1.0
  form_plain (a_name x) h = h.0
  form_plain (before s f) h = form_plain f h.1
  form_plain (between op a b) h =
      let p = split_tokens (spelled a) (operator op ∷ spelled b) h in
      (form_plain a p.0, form_plain b p.1.1)
  form_plain (inside f) h = form_plain f (split_tokens (spelled f) (sign signs.Close ∷ []) h.1).0
  form_plain (calling f given) h = (h.0, first_plain given h.1.1)

  pub first_plain : (given : Forms) → AreTokens (first_spelled given) → ArePlain (row (pairs given))
  first_plain no_more h = tt
  first_plain (one_more n f given) h =
      let p = split_tokens (naming n) (spelled f ++ rest_spelled given) h in
      let q = split_tokens (spelled f) (rest_spelled given) p.1 in
      (naming_plain n p.0, form_plain f q.0, rest_plain given q.1)

  rest_plain : (given : Forms) → AreTokens (rest_spelled given) → ArePlain (row (pairs given))
  rest_plain no_more h = tt
  rest_plain (one_more n f given) h =
      let p = split_tokens (naming n) (spelled f ++ rest_spelled given) h.1 in
      let q = split_tokens (spelled f) (rest_spelled given) p.1 in
      (naming_plain n p.0, form_plain f q.0, rest_plain given q.1)

-- ---- how many parentheses the shown form opens

-- how many calls stand inside one another
abbrev mutual
  pub calls : Tree → ℕ
  calls (unary s e) = calls e
  calls (binary op a b) = max (calls a) (calls b)
  calls (call f given) = suc (all_calls given)
  calls _ = 0

  pub all_calls : Arguments → ℕ
  all_calls none = 0
  all_calls (argument n e given) = max (calls e) (all_calls given)

mutual
  pub form_calls : (f : Form) → calls (meant f) ≤ nested f
  form_calls (a_string s) = omega arith
  form_calls (a_number z) = omega arith
  form_calls (a_truth b) = omega arith
  form_calls (a_field f) = omega arith
  form_calls (a_name x) = omega arith
  form_calls (before s f) = form_calls f
  form_calls (between op a b) = let x = form_calls a in let y = form_calls b in omega (arith, x, y)
  form_calls (inside f) = let x = form_calls f in omega (arith, x)
  form_calls (calling f given) = let x = all_form_calls given in omega (arith, x)

  pub all_form_calls : (given : Forms) → all_calls (row (pairs given)) ≤ all_nested given
  all_form_calls no_more = omega arith
  all_form_calls (one_more n f given) = let x = form_calls f in let y = all_form_calls given in omega (arith, x, y)

mutual
  calls_low : (t : Tree) → calls t ≤ height t
  calls_low (text s) = omega arith
  calls_low (whole z) = omega arith
  calls_low (boolean b) = omega arith
  calls_low (field f) = omega arith
  calls_low (variable x) = omega arith
  calls_low (unary s e) = let x = calls_low e in omega (arith, x)
  calls_low (binary op a b) = let x = calls_low a in let y = calls_low b in omega (arith, x, y)
  calls_low (call f given) = let x = all_calls_low given in omega (arith, x)

  all_calls_low : (given : Arguments) → all_calls given ≤ heights given
  all_calls_low none = omega arith
  all_calls_low (argument n e given) = let x = calls_low e in let y = all_calls_low given in omega (arith, x, y)

-- an operation of calls alone opens one less than it is high
below_operation : (t : Tree) → is_operation t ≡ true → suc (calls t) ≤ height t
below_operation (text s) h = absurd cc
below_operation (whole z) h = absurd cc
below_operation (boolean b) h = absurd cc
below_operation (field f) h = absurd cc
below_operation (variable x) h = absurd cc
below_operation (unary s e) h = let x = calls_low e in omega (arith, x)
below_operation (binary op a b) h = let x = calls_low a in let y = calls_low b in omega (arith, x, y)
below_operation (call f given) h = absurd cc

operand_opens : (b : Bool) (f : Form) (n : ℕ) → (b ≡ true → suc (nested f) ≤ n) → nested f ≤ n → nested (operand_form b f) ≤ n
operand_opens true f n h k = h refl
operand_opens false f n h k = k

one_opens : (t : Tree) → nested (form_of t) ≤ max (height t - 1) (calls t) → nested (operand_form (is_operation t) (form_of t)) ≤ max (height t) (calls t)
one_opens t x = operand_opens (is_operation t) (form_of t) (max (height t) (calls t)) (λ h. let y = below_operation t h in omega (arith, x, y)) (omega (arith, x))

mutual
  pub shown_opens : (t : Tree) → nested (form_of t) ≤ max (height t - 1) (calls t)
  shown_opens (text s) = omega arith
  shown_opens (whole z) = omega arith
  shown_opens (boolean b) = omega arith
  shown_opens (field f) = omega arith
  shown_opens (variable x) = omega arith
  shown_opens (unary s e) = let x = one_opens e (shown_opens e) in omega (arith, x)
  shown_opens (binary op a b) = let x = one_opens a (shown_opens a) in let y = one_opens b (shown_opens b) in omega (arith, x, y)
  shown_opens (call f given) = let x = all_open given in omega (arith, x)

  pub all_open : (given : Arguments) → all_nested (forms_of given) ≤ max (heights given - 1) (all_calls given)
  all_open none = omega arith
  all_open (argument n e given) = let x = shown_opens e in let y = all_open given in omega (arith, x, y)

-- ---- rules

abbrev pub shown_action : Step → ActionForm
shown_action (assign x e) = giving x (form_of e)
shown_action (perform f given) = doing f (forms_of given)

abbrev pub shown_rule : RuleTree → RuleForm
shown_rule r = record { name = r.name; condition = form_of r.condition; actions = map shown_action r.steps }

-- what a text can say
abbrev pub IsSaid : Step → Type 0
IsSaid (assign x e) = IsName x × IsPlain e × (height e ≤ 64)
IsSaid (perform f given) = IsName f × ArePlain given × (heights given ≤ 64) × (all_calls given < 64)

action_said : (a : ActionForm) → IsAction a → AreTokens (action_spelled a) → IsSaid (action_meant a)
action_said (giving x f) is h = (h.1.0, form_plain f (split_tokens (spelled f) (sign signs.Semicolon ∷ []) h.1.1.1).0, is.high)
action_said (doing f given) is h =
    let x = all_form_calls given in
    (h.0, first_plain given (split_tokens (first_spelled given) (sign signs.Semicolon ∷ []) h.1.1).0, is.high, omega (arith, x, is.nests))

actions_said : (acts : List ActionForm) (ys : List Lexeme) → AllByRecursion IsAction acts → AreTokens (flat_map action_spelled acts ++ ys) → AllByRecursion IsSaid (map action_meant acts)
actions_said [] ys is h = tt
actions_said (a ∷ more) ys is h =
    let p = split_tokens (action_spelled a) (flat_map action_spelled more ++ ys) (subst AreTokens (append_assoc (action_spelled a) (flat_map action_spelled more) ys) h) in
    (action_said a is.0 p.0, actions_said more ys is.1 p.1)

shown_action_means : (s : Step) → action_meant (shown_action s) ≡ s
shown_action_means (assign x e) = ap (assign x) (shown_means e)
shown_action_means (perform f given) = ap (perform f) (shown_row given)

shown_actions_mean : (steps : List Step) → map action_meant (map shown_action steps) ≡ steps
shown_actions_mean [] = refl
shown_actions_mean (s ∷ more) = ap₂ (λ (x : Step) (y : List Step). x ∷ y) (shown_action_means s) (shown_actions_mean more)

shown_expression : (t : Tree) → height t ≤ 64 → IsExpression (form_of t)
shown_expression t high =
    let nests = shown_nests t in
    record { lawful = shown_lawful t; high = subst (λ (x : Tree). height x ≤ 64) (sym (shown_means t)) high; nests = omega (arith, nests, high) }

shown_action_is : (s : Step) → IsSaid s → IsAction (shown_action s)
shown_action_is (assign x e) is = shown_expression e is.2
shown_action_is (perform f given) is =
    let few = all_open given in
    record { lawful = all_lawful given; high = subst (λ (x : Arguments). heights x ≤ 64) (sym (shown_row given)) is.2; nests = omega (arith, few, is.2, is.3) }

shown_actions_are : (steps : List Step) → AllByRecursion IsSaid steps → AllByRecursion IsAction (map shown_action steps)
shown_actions_are [] is = tt
shown_actions_are (s ∷ more) is = (shown_action_is s is.0, shown_actions_are more is.1)

keyword_lexed : (w : List ℕ) (s : Lexeme) (rest : List ℕ) (xs : List Lexeme) → IsWord w → word w ≡ s → Stops rest → Lexed rest xs → Lexed (w ++ rest) (s ∷ xs)
keyword_lexed w s rest xs is e stops h = lexed_word w s rest xs is e stops h

assign_text : (x t rest : List ℕ) → (codes "  let " ++ (x ++ (codes " = " ++ (t ++ codes ";\n")))) ++ rest ≡ 32 ∷ 32 ∷ (codes "let" ++ (32 ∷ (x ++ (32 ∷ 61 ∷ 32 ∷ (t ++ (59 ∷ 10 ∷ rest))))))
assign_text x t rest = ap (λ (y : List ℕ). 32 ∷ 32 ∷ 108 ∷ 101 ∷ 116 ∷ 32 ∷ y) (append_assoc x (32 ∷ 61 ∷ 32 ∷ (t ++ 59 ∷ 10 ∷ [])) rest ∙ ap (λ (y : List ℕ). x ++ 32 ∷ 61 ∷ 32 ∷ y) (append_assoc t (59 ∷ 10 ∷ []) rest))

perform_text : (f a rest : List ℕ) → (codes "  " ++ ((f ++ (codes "(" ++ (a ++ codes ")"))) ++ codes ";\n")) ++ rest ≡ 32 ∷ 32 ∷ (f ++ (40 ∷ (a ++ (41 ∷ 59 ∷ 10 ∷ rest))))
perform_text f a rest =
    ap (λ (y : List ℕ). 32 ∷ 32 ∷ y) (append_assoc (f ++ 40 ∷ (a ++ 41 ∷ [])) (59 ∷ 10 ∷ []) rest ∙ append_assoc f (40 ∷ (a ++ 41 ∷ [])) (59 ∷ 10 ∷ rest) ∙ ap (λ (y : List ℕ). f ++ 40 ∷ y) (append_assoc a (41 ∷ []) (59 ∷ 10 ∷ rest)))

step_lexed : (s : Step) → IsSaid s → (rest : List ℕ) (xs : List Lexeme) → Lexed rest xs → Lexed (step_text s ++ rest) (action_spelled (shown_action s) ++ xs)
step_lexed (assign x e) is rest xs h =
    let value = spelled (form_of e) in
    let behind : Lexed (59 ∷ 10 ∷ rest) (sign signs.Semicolon ∷ xs) = semicolon_lexed (10 ∷ rest) xs (line_lexed rest xs h) in
    let from_value = tree_lexes e is.1 (59 ∷ 10 ∷ rest) (sign signs.Semicolon ∷ xs) refl behind in
    let from_sign = space_lexed (61 ∷ 32 ∷ (tree_text e ++ 59 ∷ 10 ∷ rest)) (sign signs.Assign ∷ (value ++ sign signs.Semicolon ∷ xs)) (assign_lexed (tree_text e ++ 59 ∷ 10 ∷ rest) (value ++ sign signs.Semicolon ∷ xs) from_value) in
    let from_name = lexed_name x (32 ∷ 61 ∷ 32 ∷ (tree_text e ++ 59 ∷ 10 ∷ rest)) (sign signs.Assign ∷ (value ++ sign signs.Semicolon ∷ xs)) is.0 refl from_sign in
    let body = x ++ 32 ∷ 61 ∷ 32 ∷ (tree_text e ++ 59 ∷ 10 ∷ rest) in
    let named = name x ∷ sign signs.Assign ∷ (value ++ sign signs.Semicolon ∷ xs) in
    let from_let = keyword_lexed (codes "let") (sign signs.Let) (32 ∷ body) named (record { starts = refl; all = refl }) refl refl (space_lexed body named from_name) in
    let all = space_lexed (32 ∷ (codes "let" ++ 32 ∷ body)) (sign signs.Let ∷ named) (space_lexed (codes "let" ++ 32 ∷ body) (sign signs.Let ∷ named) from_let) in
    let tokens_are : sign signs.Let ∷ named ≡ action_spelled (giving x (form_of e)) ++ xs = ap (λ (y : List Lexeme). sign signs.Let ∷ name x ∷ sign signs.Assign ∷ y) (sym (append_assoc value (sign signs.Semicolon ∷ []) xs)) in
    subst (λ (y : List ℕ). Lexed y (action_spelled (giving x (form_of e)) ++ xs)) (sym (assign_text x (tree_text e) rest)) (subst (Lexed (32 ∷ 32 ∷ (codes "let" ++ 32 ∷ body))) tokens_are all)
step_lexed (perform f given) is rest xs h =
    let args = first_spelled (forms_of given) in
    let behind : Lexed (59 ∷ 10 ∷ rest) (sign signs.Semicolon ∷ xs) = semicolon_lexed (10 ∷ rest) xs (line_lexed rest xs h) in
    let from_args = first_lexed given is.1 (59 ∷ 10 ∷ rest) (sign signs.Semicolon ∷ xs) behind in
    let from_open = opens_lexed (listed [] given ++ 41 ∷ 59 ∷ 10 ∷ rest) (args ++ sign signs.Semicolon ∷ xs) from_args in
    let from_name = lexed_name f (40 ∷ (listed [] given ++ 41 ∷ 59 ∷ 10 ∷ rest)) (sign signs.Open ∷ (args ++ sign signs.Semicolon ∷ xs)) is.0 refl from_open in
    let body = f ++ 40 ∷ (listed [] given ++ 41 ∷ 59 ∷ 10 ∷ rest) in
    let named = name f ∷ sign signs.Open ∷ (args ++ sign signs.Semicolon ∷ xs) in
    let all = space_lexed (32 ∷ body) named (space_lexed body named from_name) in
    let tokens_are : named ≡ action_spelled (doing f (forms_of given)) ++ xs = ap (λ (y : List Lexeme). name f ∷ sign signs.Open ∷ y) (sym (append_assoc args (sign signs.Semicolon ∷ []) xs)) in
    subst (λ (y : List ℕ). Lexed y (action_spelled (doing f (forms_of given)) ++ xs)) (sym (perform_text f (listed [] given) rest)) (subst (Lexed (32 ∷ 32 ∷ body)) tokens_are all)

steps_lexed : (steps : List Step) → AllByRecursion IsSaid steps → (rest : List ℕ) (xs : List Lexeme) → Lexed rest xs → Lexed (flat_map step_text steps ++ rest) (flat_map action_spelled (map shown_action steps) ++ xs)
steps_lexed [] is rest xs h = h
steps_lexed (s ∷ more) is rest xs h =
    let a = step_lexed s is.0 (flat_map step_text more ++ rest) (flat_map action_spelled (map shown_action more) ++ xs) (steps_lexed more is.1 rest xs h) in
    subst (λ (y : List ℕ). Lexed y (flat_map action_spelled (map shown_action (s ∷ more)) ++ xs)) (sym (append_assoc (step_text s) (flat_map step_text more) rest))
    (subst (Lexed (step_text s ++ (flat_map step_text more ++ rest))) (sym (append_assoc (action_spelled (shown_action s)) (flat_map action_spelled (map shown_action more)) xs)) a)

rule_lexed : (r : RuleTree) → IsPlain r.condition → AllByRecursion IsSaid r.steps → Lexed (rule_print r) (rule_spelled (shown_rule r))
rule_lexed r condition steps =
    let ends : Lexed (codes "end\n") (sign signs.End ∷ []) = keyword_lexed (codes "end") (sign signs.End) (10 ∷ []) [] (record { starts = refl; all = refl }) refl refl (line_lexed [] [] lexed_end) in
    let actions_text = flat_map step_text r.steps ++ codes "end\n" in
    let actions_tokens = flat_map action_spelled (map shown_action r.steps) ++ sign signs.End ∷ [] in
    let from_actions : Lexed actions_text actions_tokens = steps_lexed r.steps steps (codes "end\n") (sign signs.End ∷ []) ends in
    let from_then = line_lexed (codes "then" ++ 10 ∷ actions_text) (sign signs.Then ∷ actions_tokens) (keyword_lexed (codes "then") (sign signs.Then) (10 ∷ actions_text) actions_tokens (record { starts = refl; all = refl }) refl refl (line_lexed actions_text actions_tokens from_actions)) in
    let condition_text = tree_text r.condition ++ 10 ∷ (codes "then" ++ 10 ∷ actions_text) in
    let condition_tokens = spelled (form_of r.condition) ++ sign signs.Then ∷ actions_tokens in
    let from_condition : Lexed condition_text condition_tokens = tree_lexes r.condition condition (10 ∷ (codes "then" ++ 10 ∷ actions_text)) (sign signs.Then ∷ actions_tokens) refl from_then in
    let from_when = line_lexed (codes "when" ++ 10 ∷ 32 ∷ 32 ∷ condition_text) (sign signs.When ∷ condition_tokens)
    (keyword_lexed (codes "when") (sign signs.When) (10 ∷ 32 ∷ 32 ∷ condition_text) condition_tokens (record { starts = refl; all = refl }) refl refl
    (line_lexed (32 ∷ 32 ∷ condition_text) condition_tokens (space_lexed (32 ∷ condition_text) condition_tokens (space_lexed condition_text condition_tokens from_condition)))) in
    let when_text = 10 ∷ (codes "when" ++ 10 ∷ 32 ∷ 32 ∷ condition_text) in
    let from_name = lexed_string r.name when_text (sign signs.When ∷ condition_tokens) from_when in
    keyword_lexed (codes "rule") (sign signs.Rule) (32 ∷ (quote r.name ++ when_text)) (string r.name ∷ sign signs.When ∷ condition_tokens) (record { starts = refl; all = refl }) refl refl
    (space_lexed (quote r.name ++ when_text) (string r.name ∷ sign signs.When ∷ condition_tokens) from_name)

printed_rule : (r : RuleTree) → IsPlain r.condition → height r.condition ≤ 64 → AllByRecursion IsSaid r.steps → IsRule (rule_print r) r
printed_rule r plain high steps = record {
  form = shown_rule r;
  condition = shown_expression r.condition high;
  actions = shown_actions_are r.steps steps;
  spells = lexed_is_cut (rule_print r) (rule_spelled (shown_rule r)) (rule_lexed r plain steps);
  means = ap₂ (λ (c : Tree) (s : List Step). record { name = r.name; condition = c; steps = s }) (shown_means r.condition) (shown_actions_mean r.steps);
}

-- what a text of a rule says is printed so that it is read again
pub rule_reads_back : (source : List ℕ) (r : RuleTree) → rule_text source ≡ Ok r → rule_text (rule_print r) ≡ Ok r
rule_reads_back source r h =
    let is = text_is_rule source r h in
    let tokens_are = cut_has_tokens source (rule_spelled is.form) is.spells in
    let parts = split_tokens (spelled is.form.condition) (sign signs.Then ∷ (flat_map action_spelled is.form.actions ++ sign signs.End ∷ [])) tokens_are.1.1.1 in
    let plain : IsPlain (meant is.form.condition) = form_plain is.form.condition parts.0 in
    let said = actions_said is.form.actions (sign signs.End ∷ []) is.actions parts.1.1 in
    rule_is_read (rule_print r) r (subst (λ (x : RuleTree). IsRule (rule_print x) x) is.means (printed_rule (rule_meant is.form) plain is.condition.high said))

pub printed_reads_back : {E : Type 0} (result : Result (List ℕ) E) (r : RuleTree) → IfOk result (λ printed. printed ≡ rule_print r) → IfOk result (λ printed. (source : List ℕ) → rule_text source ≡ Ok r → rule_text printed ≡ Ok r)
printed_reads_back (Ok printed) r h = λ source k. ap rule_text h ∙ rule_reads_back source r k
printed_reads_back (Err e) r h = tt
