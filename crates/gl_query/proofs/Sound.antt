-- What is read is a query of the grammar.
use Rattle.std.proofs.Common.{◌≡◌, ℕ, zero, suc, ◌+◌, ◌-◌, ◌<◌, ◌≤◌, ℤ, Bool, true, false, cond, nat_lt, List, [], ◌∷◌, ◌++◌, replicate, Option, Some, None, refl, sym, ap, ◌∙◌, subst, arith, append_assoc}
use Rattle.std.proofs.lemmas.Bool.Decides.{nat_tests}
use Rattle.std.proofs.lemmas.List.{append-nil, replicate_more}
use Rattle.gl_query.specs.declared.token.Token.{Token}
use Rattle.gl_query.specs.declared.token.Token.TheVariants.{Word, Field, Phrase, Open, Close, And, Or, Not, To, Compare, Begin}
use Rattle.gl_query.specs.declared.token.Token.TheVariants as token
use Rattle.gl_query.specs.declared.token.Comparison.{Comparison}
use Rattle.gl_query.specs.declared.token.Edge.{Edge}
use Rattle.gl_query.specs.declared.term.Limit.{Limit}
use Rattle.gl_query.specs.declared.term.Term.{Term}
use Rattle.gl_query.specs.declared.term.Term.TheVariants as term
use Rattle.gl_query.specs.declared.step.Want.{Want}
use Rattle.gl_query.specs.declared.step.Want.TheVariants.{Start, Operand, Operator, Content, Name, Number, Low, Range, High, End}
use Rattle.gl_query.specs.declared.step.Step.{Step}
use Rattle.gl_query.specs.declared.step.Step.TheVariants as step
use Rattle.gl_query.specs.Words.{plain, word_term, number_of, bound_of, limit_of, comparison_term}
use Rattle.gl_query.specs.Steps.{operand_step, operator_step, content_step, name_step, compared, number_step, low_step, range_step, high_step, end_step, bounded, step_of}
use Rattle.gl_query.specs.Steps as steps
use Rattle.gl_query.specs.Tree.{Tree, leaf, negation, both, Trees, none, also, push, one_of, negated}
use Rattle.gl_query.specs.Grammar.{IsTerm, word, phrase, exists, field_word, field_phrase, comparison, range, IsOperand, a_term, a_negation, in_parentheses, AreFactors, last_factor, joined, AreAlternatives, last_alternative, parted_by_or, side_by_side, IsQuery, nothing, something}
use Rattle.gl_query.specs.Refusals.{nesting, may_nest, may_end}
use Rattle.gl_query.specs.Building.{Layer, Building, empty, split, with_operand, completed, whole, one_negation, closed, open_before, grown}
use Rattle.gl_query.specs.Building as building
use Rattle.gl_query.specs.QueryReading.{and_then, built_from, tree_of, ended, read_tree}
use Rattle.gl_query.proofs.Complete.{appended, appended_push, appended_one}

some_same : {A : Type 0} {x y : A} → Some x ≡ Some y → x ≡ y
some_same h = cc h

-- factors that AND follows, and alternatives that something follows
data EndedFactors : ℕ → List Token → Trees → Type 0 where
  no_factor : (n : ℕ) → EndedFactors n [] none
  factor_and : (n : ℕ) (ts us : List Token) (fs : Trees) (t : Tree) → EndedFactors n ts fs → IsOperand n us t → EndedFactors n (ts ++ (us ++ And ∷ [])) (push fs t)

data EndedAlternatives : ℕ → List Token → Trees → Type 0 where
  no_alternative : (n : ℕ) → EndedAlternatives n [] none
  alternative_or : (n : ℕ) (ts us : List Token) (alts fs : Trees) → EndedAlternatives n ts alts → AreFactors n us fs → EndedAlternatives n (ts ++ (us ++ Or ∷ [])) (push alts (one_of both fs))
  alternative_beside : (n : ℕ) (ts us : List Token) (alts fs : Trees) → EndedAlternatives n ts alts → AreFactors n us fs → EndedAlternatives n (ts ++ us) (push alts (one_of both fs))

regrouped : (a b : List Token) (x : Token) (c : List Token) → (a ++ (b ++ x ∷ [])) ++ c ≡ a ++ (b ++ x ∷ c)
regrouped a b x c = append_assoc a (b ++ x ∷ []) c ∙ ap (λ l. a ++ l) (append_assoc b (x ∷ []) c)

factors_with : (n : ℕ) (ts : List Token) (fs : Trees) → EndedFactors n ts fs → (us : List Token) (gs : Trees) → AreFactors n us gs → AreFactors n (ts ++ us) (appended fs gs)
factors_with n ts fs (no_factor m) us gs g = g
factors_with n ts fs (factor_and m a b hs t e o) us gs g =
    subst (λ l. AreFactors m l (appended (push hs t) gs)) (sym (regrouped a b And us))
    (subst (λ v. AreFactors m (a ++ (b ++ And ∷ us)) v) (sym (appended_push hs gs t))
    (factors_with m a hs e (b ++ And ∷ us) (also t gs) (joined m b us t gs o g)))

alternatives_with : (n : ℕ) (ts : List Token) (alts : Trees) → EndedAlternatives n ts alts → (us : List Token) (bs : Trees) → AreAlternatives n us bs → AreAlternatives n (ts ++ us) (appended alts bs)
alternatives_with n ts alts (no_alternative m) us bs g = g
alternatives_with n ts alts (alternative_or m a b cs fs e f) us bs g =
    subst (λ l. AreAlternatives m l (appended (push cs (one_of both fs)) bs)) (sym (regrouped a b Or us))
    (subst (λ v. AreAlternatives m (a ++ (b ++ Or ∷ us)) v) (sym (appended_push cs bs (one_of both fs)))
    (alternatives_with m a cs e (b ++ Or ∷ us) (also (one_of both fs) bs) (parted_by_or m b us fs bs f g)))
alternatives_with n ts alts (alternative_beside m a b cs fs e f) us bs g =
    subst (λ l. AreAlternatives m l (appended (push cs (one_of both fs)) bs)) (sym (append_assoc a b us))
    (subst (λ v. AreAlternatives m (a ++ (b ++ us)) v) (sym (appended_push cs bs (one_of both fs)))
    (alternatives_with m a cs e (b ++ us) (also (one_of both fs) bs) (side_by_side m b us fs bs f g)))

negated_operand : (k n m : ℕ) (ts : List Token) (t : Tree) → m ≡ k + n → IsOperand n ts t → IsOperand m (replicate k Not ++ ts) (negated k t)
negated_operand zero n m ts t e o = subst (λ x. IsOperand x ts t) (let f : n ≡ m = omega (arith, e) in f) o
negated_operand (suc k) n m ts t e o =
    let f : suc (k + n) ≡ m = omega (arith, e) in
    subst (λ x. IsOperand x (Not ∷ (replicate k Not ++ ts)) (negation (negated k t))) f (a_negation (k + n) (replicate k Not ++ ts) (negated k t) (negated_operand k n (k + n) ts t refl o))

-- an operand is wanted behind these tokens of a layer
record Wants (n : ℕ) (l : Layer) (ts : List Token) : Type 0 where
  a : List Token
  c : List Token
  alts : EndedAlternatives n a l.alternatives
  facts : EndedFactors n c l.factors
  tokens : ts ≡ a ++ (c ++ replicate l.negations Not)
  room : l.negations ≤ n

-- an operand has ended there
record After (n : ℕ) (l : Layer) (ts : List Token) : Type 0 where
  a : List Token
  c : List Token
  d : List Token
  fs : Trees
  t : Tree
  alts : EndedAlternatives n a l.alternatives
  facts : EndedFactors n c fs
  operand : IsOperand n d t
  factors_are : l.factors ≡ push fs t
  tokens : ts ≡ a ++ (c ++ d)
  settled : l.negations ≡ 0

after_operand : (n m : ℕ) (l : Layer) (ts us : List Token) (t : Tree) → Wants n l ts → n ≡ l.negations + m → IsOperand m us t → After n (with_operand t l) (ts ++ us)
after_operand n m l ts us t w e o =
    record {
      a = w.a;
      c = w.c;
      d = replicate l.negations Not ++ us;
      fs = l.factors;
      t = negated l.negations t;
      alts = w.alts;
      facts = w.facts;
      operand = negated_operand l.negations m n us t e o;
      factors_are = refl;
      tokens = ap (λ x. x ++ us) w.tokens ∙ append_assoc w.a (w.c ++ replicate l.negations Not) us ∙ ap (λ x. w.a ++ x) (append_assoc w.c (replicate l.negations Not) us);
      settled = refl;
    }

after_term : (n : ℕ) (l : Layer) (ts us : List Token) (x : Term) → Wants n l ts → IsTerm us x → After n (with_operand (leaf x) l) (ts ++ us)
after_term n l ts us x w i = after_operand n (n - l.negations) l ts us (leaf x) w (let e : n ≡ l.negations + (n - l.negations) = omega (arith, w.room) in e) (a_term (n - l.negations) us x i)

after_factors : (n : ℕ) (l : Layer) (ts : List Token) (w : After n l ts) → AreFactors n (w.c ++ w.d) l.factors
after_factors n l ts w = subst (λ v. AreFactors n (w.c ++ w.d) v) (sym (appended_one w.fs w.t) ∙ sym w.factors_are) (factors_with n w.c w.fs w.facts w.d (also w.t none) (last_factor n w.d w.t w.operand))

and_wants : (n : ℕ) (l : Layer) (ts : List Token) → After n l ts → Wants n l (ts ++ And ∷ [])
and_wants n l ts w =
    record {
      a = w.a;
      c = w.c ++ (w.d ++ And ∷ []);
      alts = w.alts;
      facts = subst (λ v. EndedFactors n (w.c ++ (w.d ++ And ∷ [])) v) (sym w.factors_are) (factor_and n w.c w.d w.fs w.t w.facts w.operand);
      tokens =
          ap (λ x. x ++ And ∷ []) w.tokens ∙ append_assoc w.a (w.c ++ w.d) (And ∷ [])
          ∙ ap (λ x. w.a ++ x) (append_assoc w.c w.d (And ∷ []) ∙ sym (append-nil (w.c ++ (w.d ++ And ∷ []))) ∙ ap (λ k. (w.c ++ (w.d ++ And ∷ [])) ++ replicate k Not) (sym w.settled));
      room = omega (arith, w.settled);
    }

or_wants : (n : ℕ) (l : Layer) (ts : List Token) → After n l ts → Wants n (split l) (ts ++ Or ∷ [])
or_wants n l ts w =
    record {
      a = w.a ++ ((w.c ++ w.d) ++ Or ∷ []);
      c = [];
      alts = alternative_or n w.a (w.c ++ w.d) l.alternatives l.factors w.alts (after_factors n l ts w);
      facts = no_factor n;
      tokens =
          ap (λ x. x ++ Or ∷ []) w.tokens ∙ append_assoc w.a (w.c ++ w.d) (Or ∷ [])
          ∙ sym (append-nil (w.a ++ ((w.c ++ w.d) ++ Or ∷ []))) ∙ ap (λ k. (w.a ++ ((w.c ++ w.d) ++ Or ∷ [])) ++ replicate k Not) (sym w.settled);
      room = omega (arith, w.settled);
    }

beside_wants : (n : ℕ) (l : Layer) (ts : List Token) → After n l ts → Wants n (split l) ts
beside_wants n l ts w =
    record {
      a = w.a ++ (w.c ++ w.d);
      c = [];
      alts = alternative_beside n w.a (w.c ++ w.d) l.alternatives l.factors w.alts (after_factors n l ts w);
      facts = no_factor n;
      tokens = w.tokens ∙ sym (append-nil (w.a ++ (w.c ++ w.d))) ∙ ap (λ k. (w.a ++ (w.c ++ w.d)) ++ replicate k Not) (sym w.settled);
      room = omega (arith, w.settled);
    }

after_whole : (n : ℕ) (l : Layer) (ts : List Token) → After n l ts → AreAlternatives n ts (split l).alternatives
after_whole n l ts w =
    subst (λ x. AreAlternatives n x (split l).alternatives) (sym w.tokens)
    (subst (λ v. AreAlternatives n (w.a ++ (w.c ++ w.d)) v) (sym (appended_one l.alternatives (one_of both l.factors)))
    (alternatives_with n w.a l.alternatives w.alts (w.c ++ w.d) (also (one_of both l.factors) none) (last_alternative n (w.c ++ w.d) l.factors (after_factors n l ts w))))

not_wants : (n : ℕ) (l : Layer) (ts : List Token) → Wants n l ts → l.negations + 1 ≤ n → Wants n (one_negation l) (ts ++ Not ∷ [])
not_wants n l ts w room =
    record {
      a = w.a;
      c = w.c;
      alts = w.alts;
      facts = w.facts;
      tokens =
          ap (λ x. x ++ Not ∷ []) w.tokens ∙ append_assoc w.a (w.c ++ replicate l.negations Not) (Not ∷ [])
          ∙ ap (λ x. w.a ++ x) (append_assoc w.c (replicate l.negations Not) (Not ∷ []) ∙ ap (λ x. w.c ++ x) (replicate_more l.negations Not));
      room = room;
    }

-- the tokens of the layers around
abbrev OuterIs : List Layer → List Token → ℕ → Type 0
OuterIs [] ts n = (ts ≡ []) × (n ≡ 64)
OuterIs (l ∷ outer) ts n = (pre : List Token) × (us : List Token) × (m : ℕ) × OuterIs outer pre m × Wants m l us × (ts ≡ pre ++ (us ++ Open ∷ [])) × (m ≡ l.negations + suc n)

abbrev Partial : Want → List Token → Type 0
Partial Start p = p ≡ []
Partial Operand p = p ≡ []
Partial Operator p = ⊥
Partial (Content name) p = (f : List ℕ) × (name ≡ plain false f) × (p ≡ Field f ∷ [])
Partial Name p = p ≡ token.Exists ∷ []
Partial (Number name c) p = (f : List ℕ) × (name ≡ plain false f) × (p ≡ Field f ∷ Compare c ∷ [])
Partial (Low name e) p = (f : List ℕ) × (name ≡ plain false f) × (p ≡ Field f ∷ Begin e ∷ [])
Partial (Range name low) p = (f : List ℕ) × (v : List ℕ) × (e : Edge) × (lo : Option ℤ) × (name ≡ plain false f) × (bound_of v ≡ Some lo) × (low ≡ limit_of e lo) × (p ≡ Field f ∷ Begin e ∷ Word v ∷ [])
Partial (High name low) p = (f : List ℕ) × (v : List ℕ) × (e : Edge) × (lo : Option ℤ) × (name ≡ plain false f) × (bound_of v ≡ Some lo) × (low ≡ limit_of e lo) × (p ≡ Field f ∷ Begin e ∷ Word v ∷ To ∷ [])
Partial (End name low high) p =
    (f : List ℕ) × (v : List ℕ) × (w : List ℕ) × (e : Edge) × (lo : Option ℤ) × (name ≡ plain false f) × (bound_of v ≡ Some lo) × (low ≡ limit_of e lo) × (bound_of w ≡ Some high)
    × (p ≡ Field f ∷ Begin e ∷ Word v ∷ To ∷ Word w ∷ [])

-- a term has begun, or its beginning is awaited
record Halfway (n : ℕ) (w : Want) (l : Layer) (ts : List Token) : Type 0 where
  vs : List Token
  p : List Token
  wants : Wants n l vs
  partial : Partial w p
  tokens : ts ≡ vs ++ p

abbrev Here : ℕ → Want → Layer → List Token → Type 0
Here n Operator l ts = After n l ts
Here n Start l ts = Halfway n Start l ts
Here n Operand l ts = Halfway n Operand l ts
Here n (Content name) l ts = Halfway n (Content name) l ts
Here n Name l ts = Halfway n Name l ts
Here n (Number name c) l ts = Halfway n (Number name c) l ts
Here n (Low name e) l ts = Halfway n (Low name e) l ts
Here n (Range name low) l ts = Halfway n (Range name low) l ts
Here n (High name low) l ts = Halfway n (High name low) l ts
Here n (End name low high) l ts = Halfway n (End name low high) l ts

record Sound (b : Building) (ts : List Token) : Type 0 where
  pre : List Token
  us : List Token
  n : ℕ
  around : OuterIs b.outer pre n
  fits : n + nesting 0 (open_before b.outer) ≡ 64
  here : Here n b.want b.here us
  tokens : ts ≡ pre ++ us
  started : b.want ≡ Start → ts ≡ []

abbrev at : Want → Layer → List Layer → Building
at w here outer = record { want = w; here = here; outer = outer }

nest_zero : (k : ℕ) (ns : List ℕ) → nesting k ns ≡ k + nesting 0 ns
nest_zero k [] = omega arith
nest_zero k (n ∷ ns) = omega arith

cond_some : {A : Type 0} (b : Bool) (x y : A) → cond b (Some x) None ≡ Some y → (b ≡ true) × (x ≡ y)
cond_some true x y h = (refl, (cc h))
cond_some false x y h = cc h

less : (n : ℕ) → nat_lt n 64 ≡ true → n < 64
less n h = grind (arith, nat_tests)

module _ (n : ℕ) (l : Layer) (outer : List Layer) (pre us : List Token) (o : OuterIs outer pre n) (fits : n + nesting 0 (open_before outer) ≡ 64) where
  -- a term has ended
  ended_term : (vs q : List Token) (x : Term) → Wants n l vs → IsTerm q x → (ts : List Token) → ts ≡ pre ++ (vs ++ q) → Sound (completed (leaf x) l outer) ts
  ended_term vs q x w i ts e =
      record { pre = pre; us = vs ++ q; n = n; around = o; fits = fits; here = after_term n l vs q x w i; tokens = e; started = λ h. cc h }

  -- a term goes on
  half : (w : Want) (vs p : List Token) → Wants n l vs → Partial w p → Halfway n w l (vs ++ p)
  half w vs p wants q = record { vs = vs; p = p; wants = wants; partial = q; tokens = refl }

  placed : (ts : List Token) (vs p : List Token) (x : Token) → us ≡ vs ++ p → ts ≡ pre ++ us → ts ++ x ∷ [] ≡ pre ++ (vs ++ (p ++ x ∷ []))
  placed ts vs p x e t = ap (λ y. y ++ x ∷ []) (t ∙ ap (λ y. pre ++ y) e) ∙ append_assoc pre (vs ++ p) (x ∷ []) ∙ ap (λ y. pre ++ y) (append_assoc vs p (x ∷ []))

  -- an operand begins here
  operand_sound : (ts : List Token) → ts ≡ pre ++ us → Wants n l us → (x : Token) (c : Building) → grown (operand_step x) (at Operand l outer) ≡ Some c → Sound c (ts ++ x ∷ [])
  operand_sound ts t w (Word v) c h = subst (λ b. Sound b (ts ++ Word v ∷ [])) (some_same h) (ended_term us (Word v ∷ []) (word_term None v) w (word v) (ts ++ Word v ∷ []) (ap (λ y. y ++ Word v ∷ []) t ∙ append_assoc pre us (Word v ∷ [])))
  operand_sound ts t w (Phrase v) c h = subst (λ b. Sound b (ts ++ Phrase v ∷ [])) (some_same h) (ended_term us (Phrase v ∷ []) (term.Text None (plain false v)) w (phrase v) (ts ++ Phrase v ∷ []) (ap (λ y. y ++ Phrase v ∷ []) t ∙ append_assoc pre us (Phrase v ∷ [])))
  operand_sound ts t w (Field f) c h =
      subst (λ b. Sound b (ts ++ Field f ∷ [])) (some_same h)
      (record { pre = pre; us = us ++ Field f ∷ []; n = n; around = o; fits = fits; here = half (Content (plain false f)) us (Field f ∷ []) w (f, refl, refl); tokens = ap (λ y. y ++ Field f ∷ []) t ∙ append_assoc pre us (Field f ∷ []); started = λ h. cc h })
  operand_sound ts t w token.Exists c h =
      subst (λ b. Sound b (ts ++ token.Exists ∷ [])) (some_same h)
      (record { pre = pre; us = us ++ token.Exists ∷ []; n = n; around = o; fits = fits; here = half Name us (token.Exists ∷ []) w refl; tokens = ap (λ y. y ++ token.Exists ∷ []) t ∙ append_assoc pre us (token.Exists ∷ []); started = λ h. cc h })
  operand_sound ts t w Not c h =
      let g = cond_some (may_nest l.negations (open_before outer)) _ c h in
      let lt = less (nesting l.negations (open_before outer)) g.0 in
      subst (λ b. Sound b (ts ++ Not ∷ [])) g.1
      (record {
        pre = pre;
        us = us ++ Not ∷ [];
        n = n;
        around = o;
        fits = fits;
        here = record { vs = us ++ Not ∷ []; p = []; wants = not_wants n l us w (omega (arith, fits, lt, nest_zero l.negations (open_before outer))); partial = refl; tokens = sym (append-nil (us ++ Not ∷ [])) };
        tokens = ap (λ y. y ++ Not ∷ []) t ∙ append_assoc pre us (Not ∷ []);
        started = λ h. cc h;
      })
  operand_sound ts t w Open c h =
      let g = cond_some (may_nest l.negations (open_before outer)) _ c h in
      let lt = less (nesting l.negations (open_before outer)) g.0 in
      let m : ℕ = n - (l.negations + 1) in
      subst (λ b. Sound b (ts ++ Open ∷ [])) g.1
      (record {
        pre = pre ++ (us ++ Open ∷ []);
        us = [];
        n = m;
        around = (pre, us, n, o, w, refl, (let e : n ≡ l.negations + suc m = omega (arith, fits, lt, nest_zero l.negations (open_before outer)) in e));
        fits = let e : m + nesting 0 (l.negations ∷ open_before outer) ≡ 64 = omega (arith, fits, lt, nest_zero l.negations (open_before outer)) in e;
        here = record { vs = []; p = []; wants = record { a = []; c = []; alts = no_alternative m; facts = no_factor m; tokens = refl; room = omega arith }; partial = refl; tokens = refl };
        tokens = ap (λ y. y ++ Open ∷ []) t ∙ append_assoc pre us (Open ∷ []) ∙ sym (append-nil (pre ++ (us ++ Open ∷ [])));
        started = λ h. cc h;
      })
  operand_sound ts t w Close c h = cc h
  operand_sound ts t w And c h = cc h
  operand_sound ts t w Or c h = cc h
  operand_sound ts t w To c h = cc h
  operand_sound ts t w (Compare k) c h = cc h
  operand_sound ts t w (Begin e) c h = cc h
  operand_sound ts t w (token.End e) c h = cc h
  operand_sound ts t w token.Unreadable c h = cc h

  -- a term ends behind its beginning
  finish : (ts : List Token) → ts ≡ pre ++ us → (vs p q : List Token) (x : Token) (y : Term) → Wants n l vs → us ≡ vs ++ p → p ≡ q → IsTerm (q ++ x ∷ []) y → Sound (completed (leaf y) l outer) (ts ++ x ∷ [])
  finish ts t vs p q x y wants tok e i =
      ended_term vs (q ++ x ∷ []) y wants i (ts ++ x ∷ []) (placed ts vs p x tok t ∙ ap (λ z. pre ++ (vs ++ (z ++ x ∷ []))) e)

  -- or goes on
  goes : (ts : List Token) → ts ≡ pre ++ us → (vs p q : List Token) (x : Token) (w : Want) → us ≡ vs ++ p → p ≡ q → Here n w l (vs ++ (q ++ x ∷ [])) → (w ≡ Start → ⊥) → Sound (at w l outer) (ts ++ x ∷ [])
  goes ts t vs p q x w tok e here other =
      record { pre = pre; us = vs ++ (q ++ x ∷ []); n = n; around = o; fits = fits; here = here; tokens = placed ts vs p x tok t ∙ ap (λ z. pre ++ (vs ++ (z ++ x ∷ []))) e; started = λ h. absurd (other h) }

close_sound : (n : ℕ) (l : Layer) (outer : List Layer) (pre us ts : List Token) → OuterIs outer pre n → n + nesting 0 (open_before outer) ≡ 64 → After n l us → ts ≡ pre ++ us → (c : Building) → closed (whole l) outer ≡ Some c → Sound c (ts ++ Close ∷ [])
close_sound n l [] pre us ts o fits w t c h = cc h
close_sound n l (k ∷ outer) pre us ts (pre', us', m, o, wants, e, eq) fits w t c h =
    subst (λ b. Sound b (ts ++ Close ∷ [])) (some_same h)
    (record {
      pre = pre';
      us = us' ++ Open ∷ (us ++ Close ∷ []);
      n = m;
      around = o;
      fits = omega (arith, fits, eq, nest_zero k.negations (open_before outer));
      here = after_operand m (suc n) k us' (Open ∷ (us ++ Close ∷ [])) (whole l) wants eq (in_parentheses n us (split l).alternatives (after_whole n l us w));
      tokens =
          ap (λ x. x ++ Close ∷ []) (t ∙ ap (λ x. x ++ us) e ∙ regrouped pre' us' Open us)
          ∙ append_assoc pre' (us' ++ Open ∷ us) (Close ∷ [])
          ∙ ap (λ x. pre' ++ x) (append_assoc us' (Open ∷ us) (Close ∷ []));
      started = λ h. cc h;
    })

same_start : (s : Step) (l : Layer) (outer : List Layer) → grown s (at Start l outer) ≡ grown s (at Operand l outer)
same_start step.Refused l outer = refl
same_start (step.Takes w) l outer = refl
same_start (step.Completes t) l outer = refl
same_start step.Negates l outer = refl
same_start step.Opens l outer = refl
same_start step.Closes l outer = refl
same_start step.Joins l outer = refl
same_start step.Splits l outer = refl

whole_wants : (n : ℕ) (w : Want) (l : Layer) (us : List Token) (h : Halfway n w l us) → h.p ≡ [] → Wants n l us
whole_wants n w l us h e = subst (Wants n l) (sym (h.tokens ∙ ap (λ p. h.vs ++ p) e ∙ append-nil h.vs)) h.wants

module _ (l : Layer) (outer : List Layer) (ts : List Token) where
  operator_sound : (x : Token) (c : Building) → Sound (at Operator l outer) ts → grown (operator_step x) (at Operator l outer) ≡ Some c → Sound c (ts ++ x ∷ [])
  operator_sound And c s h =
      subst (λ b. Sound b (ts ++ And ∷ [])) (some_same h)
      (record {
        pre = s.pre;
        us = s.us ++ And ∷ [];
        n = s.n;
        around = s.around;
        fits = s.fits;
        here = record { vs = s.us ++ And ∷ []; p = []; wants = and_wants s.n l s.us s.here; partial = refl; tokens = sym (append-nil (s.us ++ And ∷ [])) };
        tokens = ap (λ y. y ++ And ∷ []) s.tokens ∙ append_assoc s.pre s.us (And ∷ []);
        started = λ h. cc h;
      })
  operator_sound Or c s h =
      subst (λ b. Sound b (ts ++ Or ∷ [])) (some_same h)
      (record {
        pre = s.pre;
        us = s.us ++ Or ∷ [];
        n = s.n;
        around = s.around;
        fits = s.fits;
        here = record { vs = s.us ++ Or ∷ []; p = []; wants = or_wants s.n l s.us s.here; partial = refl; tokens = sym (append-nil (s.us ++ Or ∷ [])) };
        tokens = ap (λ y. y ++ Or ∷ []) s.tokens ∙ append_assoc s.pre s.us (Or ∷ []);
        started = λ h. cc h;
      })
  operator_sound Close c s h = close_sound s.n l outer s.pre s.us ts s.around s.fits s.here s.tokens c h
  operator_sound (Word v) c s h = operand_sound s.n (split l) outer s.pre s.us s.around s.fits ts s.tokens (beside_wants s.n l s.us s.here) (Word v) c h
  operator_sound (Phrase v) c s h = operand_sound s.n (split l) outer s.pre s.us s.around s.fits ts s.tokens (beside_wants s.n l s.us s.here) (Phrase v) c h
  operator_sound (Field f) c s h = operand_sound s.n (split l) outer s.pre s.us s.around s.fits ts s.tokens (beside_wants s.n l s.us s.here) (Field f) c h
  operator_sound token.Exists c s h = operand_sound s.n (split l) outer s.pre s.us s.around s.fits ts s.tokens (beside_wants s.n l s.us s.here) token.Exists c h
  operator_sound Not c s h = operand_sound s.n (split l) outer s.pre s.us s.around s.fits ts s.tokens (beside_wants s.n l s.us s.here) Not c h
  operator_sound Open c s h = operand_sound s.n (split l) outer s.pre s.us s.around s.fits ts s.tokens (beside_wants s.n l s.us s.here) Open c h
  operator_sound To c s h = cc h
  operator_sound (Compare k) c s h = cc h
  operator_sound (Begin e) c s h = cc h
  operator_sound (token.End e) c s h = cc h
  operator_sound token.Unreadable c s h = cc h

  number_sound : (name : List ℕ) (k : Comparison) (v : List ℕ) (i : Option ℤ) (c : Building) → number_of v ≡ i → Sound (at (Number name k) l outer) ts → grown (compared name k i) (at (Number name k) l outer) ≡ Some c → Sound c (ts ++ Word v ∷ [])
  number_sound name k v None c e s h = cc h
  number_sound name k v (Some i) c e s h =
      let y = s.here.partial in
      subst (λ b. Sound b (ts ++ Word v ∷ [])) (some_same h)
      (finish s.n l outer s.pre s.us s.around s.fits ts s.tokens s.here.vs s.here.p (Field y.0 ∷ Compare k ∷ []) (Word v) (comparison_term name k i) s.here.wants s.here.tokens y.2
      (subst (λ m. IsTerm (Field y.0 ∷ Compare k ∷ Word v ∷ []) (comparison_term m k i)) (sym y.1) (comparison y.0 v k i e)))

  low_sound : (name : List ℕ) (e : Edge) (v : List ℕ) (i : Option (Option ℤ)) (c : Building) → bound_of v ≡ i → Sound (at (Low name e) l outer) ts → grown (steps.begun name e i) (at (Low name e) l outer) ≡ Some c → Sound c (ts ++ Word v ∷ [])
  low_sound name e v None c q s h = cc h
  low_sound name e v (Some i) c q s h =
      let y = s.here.partial in
      subst (λ b. Sound b (ts ++ Word v ∷ [])) (some_same h)
      (goes s.n l outer s.pre s.us s.around s.fits ts s.tokens s.here.vs s.here.p (Field y.0 ∷ Begin e ∷ []) (Word v) (Range name (limit_of e i)) s.here.tokens y.2
      (record { vs = s.here.vs; p = Field y.0 ∷ Begin e ∷ Word v ∷ []; wants = s.here.wants; partial = (y.0, v, e, i, y.1, q, refl, refl); tokens = refl }) (λ h. cc h))

  high_sound : (name : List ℕ) (low : Limit) (v : List ℕ) (i : Option (Option ℤ)) (c : Building) → bound_of v ≡ i → Sound (at (High name low) l outer) ts → grown (bounded name low i) (at (High name low) l outer) ≡ Some c → Sound c (ts ++ Word v ∷ [])
  high_sound name low v None c q s h = cc h
  high_sound name low v (Some i) c q s h =
      let y = s.here.partial in
      subst (λ b. Sound b (ts ++ Word v ∷ [])) (some_same h)
      (goes s.n l outer s.pre s.us s.around s.fits ts s.tokens s.here.vs s.here.p (Field y.0 ∷ Begin y.2 ∷ Word y.1 ∷ To ∷ []) (Word v) (End name low i) s.here.tokens y.7
      (record { vs = s.here.vs; p = Field y.0 ∷ Begin y.2 ∷ Word y.1 ∷ To ∷ Word v ∷ []; wants = s.here.wants; partial = (y.0, y.1, v, y.2, y.3, y.4, y.5, y.6, q, refl); tokens = refl }) (λ h. cc h))

  sound_step : (w : Want) (x : Token) (c : Building) → Sound (at w l outer) ts → grown (step_of w x) (at w l outer) ≡ Some c → Sound c (ts ++ x ∷ [])
  sound_step Start x c s h = operand_sound s.n l outer s.pre s.us s.around s.fits ts s.tokens (whole_wants s.n Start l s.us s.here s.here.partial) x c (sym (same_start (operand_step x) l outer) ∙ h)
  sound_step Operand x c s h = operand_sound s.n l outer s.pre s.us s.around s.fits ts s.tokens (whole_wants s.n Operand l s.us s.here s.here.partial) x c h
  sound_step Operator x c s h = operator_sound x c s h
  sound_step (Content name) (Word v) c s h =
      let y = s.here.partial in
      subst (λ b. Sound b (ts ++ Word v ∷ [])) (some_same h)
      (finish s.n l outer s.pre s.us s.around s.fits ts s.tokens s.here.vs s.here.p (Field y.0 ∷ []) (Word v) (word_term (Some name) v) s.here.wants s.here.tokens y.2
      (subst (λ m. IsTerm (Field y.0 ∷ Word v ∷ []) (word_term (Some m) v)) (sym y.1) (field_word y.0 v)))
  sound_step (Content name) (Phrase v) c s h =
      let y = s.here.partial in
      subst (λ b. Sound b (ts ++ Phrase v ∷ [])) (some_same h)
      (finish s.n l outer s.pre s.us s.around s.fits ts s.tokens s.here.vs s.here.p (Field y.0 ∷ []) (Phrase v) (term.Text (Some name) (plain false v)) s.here.wants s.here.tokens y.2
      (subst (λ m. IsTerm (Field y.0 ∷ Phrase v ∷ []) (term.Text (Some m) (plain false v))) (sym y.1) (field_phrase y.0 v)))
  sound_step (Content name) (Compare k) c s h =
      let y = s.here.partial in
      subst (λ b. Sound b (ts ++ Compare k ∷ [])) (some_same h)
      (goes s.n l outer s.pre s.us s.around s.fits ts s.tokens s.here.vs s.here.p (Field y.0 ∷ []) (Compare k) (Number name k) s.here.tokens y.2
      (record { vs = s.here.vs; p = Field y.0 ∷ Compare k ∷ []; wants = s.here.wants; partial = (y.0, y.1, refl); tokens = refl }) (λ h. cc h))
  sound_step (Content name) (Begin e) c s h =
      let y = s.here.partial in
      subst (λ b. Sound b (ts ++ Begin e ∷ [])) (some_same h)
      (goes s.n l outer s.pre s.us s.around s.fits ts s.tokens s.here.vs s.here.p (Field y.0 ∷ []) (Begin e) (Low name e) s.here.tokens y.2
      (record { vs = s.here.vs; p = Field y.0 ∷ Begin e ∷ []; wants = s.here.wants; partial = (y.0, y.1, refl); tokens = refl }) (λ h. cc h))
  sound_step (Content name) _ c s h = cc h
  sound_step Name (Word v) c s h =
      subst (λ b. Sound b (ts ++ Word v ∷ [])) (some_same h)
      (finish s.n l outer s.pre s.us s.around s.fits ts s.tokens s.here.vs s.here.p (token.Exists ∷ []) (Word v) (term.Exists (plain false v)) s.here.wants s.here.tokens s.here.partial (exists v))
  sound_step Name _ c s h = cc h
  sound_step (Number name k) (Word v) c s h = number_sound name k v (number_of v) c refl s h
  sound_step (Number name k) _ c s h = cc h
  sound_step (Low name e) (Word v) c s h = low_sound name e v (bound_of v) c refl s h
  sound_step (Low name e) _ c s h = cc h
  sound_step (Range name low) To c s h =
      let y = s.here.partial in
      subst (λ b. Sound b (ts ++ To ∷ [])) (some_same h)
      (goes s.n l outer s.pre s.us s.around s.fits ts s.tokens s.here.vs s.here.p (Field y.0 ∷ Begin y.2 ∷ Word y.1 ∷ []) To (High name low) s.here.tokens y.7
      (record { vs = s.here.vs; p = Field y.0 ∷ Begin y.2 ∷ Word y.1 ∷ To ∷ []; wants = s.here.wants; partial = (y.0, y.1, y.2, y.3, y.4, y.5, y.6, refl); tokens = refl }) (λ h. cc h))
  sound_step (Range name low) _ c s h = cc h
  sound_step (High name low) (Word v) c s h = high_sound name low v (bound_of v) c refl s h
  sound_step (High name low) _ c s h = cc h
  sound_step (End name low high) (token.End d) c s h =
      let y = s.here.partial in
      subst (λ b. Sound b (ts ++ token.End d ∷ [])) (some_same h)
      (finish s.n l outer s.pre s.us s.around s.fits ts s.tokens s.here.vs s.here.p (Field y.0 ∷ Begin y.3 ∷ Word y.1 ∷ To ∷ Word y.2 ∷ []) (token.End d) (term.Within name low (limit_of d high)) s.here.wants s.here.tokens y.9
      (subst (λ m. IsTerm (Field y.0 ∷ Begin y.3 ∷ Word y.1 ∷ To ∷ Word y.2 ∷ token.End d ∷ []) (term.Within m low (limit_of d high))) (sym y.5)
      (subst (λ m. IsTerm (Field y.0 ∷ Begin y.3 ∷ Word y.1 ∷ To ∷ Word y.2 ∷ token.End d ∷ []) (term.Within (plain false y.0) m (limit_of d high))) (sym y.7)
      (range y.0 y.1 y.2 y.3 d y.4 high y.6 y.8))))
  sound_step (End name low high) _ c s h = cc h

run_goes : (o : Option Building) (xs : List Token) (c : Building) → and_then o (λ d. built_from d xs) ≡ Some c → (d : Building) × (o ≡ Some d) × (built_from d xs ≡ Some c)
run_goes None xs c h = cc h
run_goes (Some d) xs c h = (d, refl, h)

sound_run : (xs ts : List Token) (b c : Building) → Sound b ts → built_from b xs ≡ Some c → Sound c (ts ++ xs)
unfolding built_from
sound_run [] ts b c s h = subst (λ x. Sound x (ts ++ [])) (some_same h) (subst (Sound b) (sym (append-nil ts)) s)
sound_run (x ∷ xs) ts b c s h =
    let g = run_goes (grown (step_of b.want x) b) xs c h in
    subst (Sound c) (append_assoc ts (x ∷ []) xs) (sound_run xs (ts ++ x ∷ []) g.0 c (sound_step b.here b.outer ts b.want x g.0 s g.1) g.2)

sound_begun : Sound building.begun []
sound_begun =
    record {
      pre = [];
      us = [];
      n = 64;
      around = (refl, refl);
      fits = refl;
      here = record { vs = []; p = []; wants = record { a = []; c = []; alts = no_alternative 64; facts = no_factor 64; tokens = refl; room = omega arith }; partial = refl; tokens = refl };
      tokens = refl;
      started = λ h. refl;
    }

end_case : (w : Want) (l : Layer) (outer : List Layer) (xs : List Token) (t : Tree) → Sound (at w l outer) xs → may_end w (open_before outer) ≡ true → tree_of w l ≡ t → IsQuery xs t
end_case Start l [] xs t s m e = subst (λ y. IsQuery y t) (sym (s.started refl)) (subst (IsQuery []) e nothing)
end_case Operator l [] xs t s m e =
    let whole_text : s.us ≡ xs = sym (s.tokens ∙ ap (λ y. y ++ s.us) s.around.0) in
    subst (λ y. IsQuery y t) whole_text (subst (IsQuery s.us) e (something s.us (split l).alternatives (subst (λ k. AreAlternatives k s.us (split l).alternatives) s.around.1 (after_whole s.n l s.us s.here))))
end_case Start l (k ∷ outer) xs t s m e = cc m
end_case Operator l (k ∷ outer) xs t s m e = cc m
end_case _ l outer xs t s m e = cc m

ends : (o : Option Building) (t : Tree) → and_then o ended ≡ Some t → (c : Building) × (o ≡ Some c) × (ended c ≡ Some t)
ends None t h = cc h
ends (Some c) t h = (c, refl, h)

-- what builds a tree is a query with that tree
pub is_query : (xs : List Token) (t : Tree) → read_tree xs ≡ Some t → IsQuery xs t
is_query xs t h =
    let e = ends (built_from building.begun xs) t h in
    let c = e.0 in
    let g = cond_some (may_end c.want (open_before c.outer)) (tree_of c.want c.here) t e.2 in
    end_case c.want c.here c.outer xs t (sound_run xs [] building.begun c sound_begun e.1) g.0 g.1
