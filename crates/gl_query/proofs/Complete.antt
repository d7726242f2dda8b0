-- A query of the grammar is read, and its tree is built.
use Rattle.std.proofs.Common.{◌≡◌, ℕ, zero, suc, ◌+◌, ◌<◌, ◌≤◌, ℤ, Bool, true, false, cond, nat_lt, List, [], ◌∷◌, ◌++◌, Option, Some, None, refl, sym, ap, ◌∙◌, subst, arith, append_assoc, add-one}
use Rattle.std.proofs.lemmas.Bool.Decides.{nat_tests}
use Rattle.std.proofs.lemmas.List.{append-nil}
use Rattle.gl_query.specs.declared.token.Token.{Token}
use Rattle.gl_query.specs.declared.token.Token.TheVariants as token
use Rattle.gl_query.specs.declared.token.Comparison.{Comparison}
use Rattle.gl_query.specs.declared.token.Edge.{Edge}
use Rattle.gl_query.specs.declared.term.Limit.{Limit}
use Rattle.gl_query.specs.declared.term.Term.{Term}
use Rattle.gl_query.specs.declared.step.Want.{Want}
use Rattle.gl_query.specs.declared.step.Want.TheVariants.{Start, Operand, Operator, Content, Number}
use Rattle.gl_query.specs.declared.step.Want.TheVariants as want
use Rattle.gl_query.specs.Words.{plain, number_of, bound_of, limit_of, comparison_term}
use Rattle.gl_query.specs.Steps.{compared, begun, bounded}
use Rattle.gl_query.specs.Tree.{Tree, leaf, negation, both, either, Trees, none, also, push, one_of, negated}
use Rattle.gl_query.specs.Grammar.{IsTerm, word, phrase, exists, field_word, field_phrase, comparison, range, IsOperand, a_term, a_negation, in_parentheses, AreFactors, last_factor, joined, AreAlternatives, last_alternative, parted_by_or, side_by_side, IsQuery, nothing, something}
use Rattle.gl_query.specs.Refusals.{nesting, may_nest}
use Rattle.gl_query.specs.Building.{Layer, Building, empty, split, with_operand, completed, whole, one_negation, closed, open_before, grown}
use Rattle.gl_query.specs.Building as building
use Rattle.gl_query.specs.QueryReading.{and_then, built_from, ended, read_tree}

-- trees behind others
abbrev pub appended : Trees → Trees → Trees
appended none us = us
appended (also t ts) us = also t (appended ts us)

pub appended_push : (ts us : Trees) (t : Tree) → appended (push ts t) us ≡ appended ts (also t us)
appended_push none us t = refl
appended_push (also u ts) us t = ap (λ vs. also u vs) (appended_push ts us t)

pub appended_one : (ts : Trees) (t : Tree) → push ts t ≡ appended ts (also t none)
appended_one none t = refl
appended_one (also u ts) t = ap (λ vs. also u vs) (appended_one ts t)

negated_inside : (n : ℕ) (t : Tree) → negated n (negation t) ≡ negation (negated n t)
negated_inside zero t = refl
negated_inside (suc n) t = ap negation (negated_inside n t)

pub negated_more : (n : ℕ) (t : Tree) → negated (n + 1) t ≡ negated n (negation t)
negated_more n t = ap (λ m. negated m t) (add-one n) ∙ sym (negated_inside n t)

-- an operand may begin here
data MayBegin : Want → Type 0 where
  at_start : MayBegin Start
  at_operand : MayBegin Operand

abbrev at : Want → Layer → List Layer → Building
at w here outer = record { want = w; here = here; outer = outer }

some : {A B : Type 0} (o : Option A) (x : A) (f : A → Option B) → o ≡ Some x → and_then o f ≡ f x
some o x f e = ap (λ p. and_then p f) e

compares : (name : List ℕ) (c : Comparison) (n : ℤ) (w : List ℕ) (here : Layer) (outer : List Layer) (rest : List Token) → number_of w ≡ Some n
    → built_from (at (Number name c) here outer) (token.Word w ∷ rest) ≡ built_from (completed (leaf (comparison_term name c n)) here outer) rest
unfolding built_from
compares name c n w here outer rest e = ap (λ o. and_then (grown (compared name c o) (at (Number name c) here outer)) (λ b. built_from b rest)) e

begins : (name : List ℕ) (d : Edge) (low : Option ℤ) (w : List ℕ) (here : Layer) (outer : List Layer) (rest : List Token) → bound_of w ≡ Some low
    → built_from (at (want.Low name d) here outer) (token.Word w ∷ rest) ≡ built_from (at (want.Range name (limit_of d low)) here outer) rest
unfolding built_from
begins name d low w here outer rest e = ap (λ o. and_then (grown (begun name d o) (at (want.Low name d) here outer)) (λ b. built_from b rest)) e

bounds : (name : List ℕ) (low : Limit) (high : Option ℤ) (w : List ℕ) (here : Layer) (outer : List Layer) (rest : List Token) → bound_of w ≡ Some high
    → built_from (at (want.High name low) here outer) (token.Word w ∷ rest) ≡ built_from (at (want.End name low high) here outer) rest
unfolding built_from
bounds name low high w here outer rest e = ap (λ o. and_then (grown (bounded name low o) (at (want.High name low) here outer)) (λ b. built_from b rest)) e

builds_content : (ts : List Token) (x : Term) → IsTerm ts x → (w : Want) → MayBegin w → (here : Layer) (outer : List Layer) (rest : List Token)
    → built_from (at w here outer) (ts ++ rest) ≡ built_from (completed (leaf x) here outer) rest
unfolding built_from
builds_content ts x (word v) w at_start here outer rest = refl
builds_content ts x (word v) w at_operand here outer rest = refl
builds_content ts x (phrase v) w at_start here outer rest = refl
builds_content ts x (phrase v) w at_operand here outer rest = refl
builds_content ts x (exists v) w at_start here outer rest = refl
builds_content ts x (exists v) w at_operand here outer rest = refl
builds_content ts x (field_word f v) w at_start here outer rest = refl
builds_content ts x (field_word f v) w at_operand here outer rest = refl
builds_content ts x (field_phrase f v) w at_start here outer rest = refl
builds_content ts x (field_phrase f v) w at_operand here outer rest = refl
builds_content ts x (comparison f v c n e) w at_start here outer rest = compares (plain false f) c n v here outer rest e
builds_content ts x (comparison f v c n e) w at_operand here outer rest = compares (plain false f) c n v here outer rest e
builds_content ts x (range f u v e d low high l h) w at_start here outer rest =
    begins (plain false f) e low u here outer (token.To ∷ token.Word v ∷ token.End d ∷ rest) l
    ∙ bounds (plain false f) (limit_of e low) high v here outer (token.End d ∷ rest) h
builds_content ts x (range f u v e d low high l h) w at_operand here outer rest =
    begins (plain false f) e low u here outer (token.To ∷ token.Word v ∷ token.End d ∷ rest) l
    ∙ bounds (plain false f) (limit_of e low) high v here outer (token.End d ∷ rest) h

less : (n m : ℕ) → n + suc m ≤ 64 → nat_lt n 64 ≡ true
less n m h = let lt : n < 64 = omega arith in grind (arith, nat_tests)

opened : {A : Type 0} (b : Bool) (x : A) → b ≡ true → cond b (Some x) None ≡ Some x
opened true x h = refl
opened false x h = cc h

-- a token that begins an operand begins an alternative behind another one
abbrev Begins : List Token → Type 0
Begins ts = (here : Layer) (outer : List Layer) → built_from (at Operator here outer) ts ≡ built_from (at Operand (split here) outer) ts

term_begins : (ts : List Token) (x : Term) → IsTerm ts x → (rest : List Token) → Begins (ts ++ rest)
unfolding built_from
term_begins ts x (word v) rest here outer = refl
term_begins ts x (phrase v) rest here outer = refl
term_begins ts x (exists v) rest here outer = refl
term_begins ts x (field_word f v) rest here outer = refl
term_begins ts x (field_phrase f v) rest here outer = refl
term_begins ts x (comparison f v c n e) rest here outer = refl
term_begins ts x (range f u v e d low high l h) rest here outer = refl

operand_begins : (n : ℕ) (ts : List Token) (t : Tree) → IsOperand n ts t → (rest : List Token) → Begins (ts ++ rest)
unfolding built_from
operand_begins n ts t (a_term m us x i) rest here outer = term_begins us x i rest here outer
operand_begins n ts t (a_negation m us u i) rest here outer = refl
operand_begins n ts t (in_parentheses m us alts i) rest here outer = refl

regrouped : (a : List Token) (x : Token) (b rest : List Token) → (a ++ x ∷ b) ++ rest ≡ a ++ (x ∷ (b ++ rest))
regrouped a x b rest = append_assoc a (x ∷ b) rest

factors_begin : (n : ℕ) (ts : List Token) (fs : Trees) → AreFactors n ts fs → (rest : List Token) → Begins (ts ++ rest)
factors_begin n ts fs (last_factor m us t i) rest = operand_begins m us t i rest
factors_begin n ts fs (joined m us vs t gs i j) rest = subst Begins (sym (regrouped us token.And vs rest)) (operand_begins m us t i (token.And ∷ (vs ++ rest)))

alternatives_begin : (n : ℕ) (ts : List Token) (alts : Trees) → AreAlternatives n ts alts → (rest : List Token) → Begins (ts ++ rest)
alternatives_begin n ts alts (last_alternative m us fs i) rest = factors_begin m us fs i rest
alternatives_begin n ts alts (parted_by_or m us vs fs bs i j) rest = subst Begins (sym (regrouped us token.Or vs rest)) (factors_begin m us fs i (token.Or ∷ (vs ++ rest)))
alternatives_begin n ts alts (side_by_side m us vs fs bs i j) rest = subst Begins (sym (append_assoc us vs rest)) (factors_begin m us fs i (vs ++ rest))

-- the layer behind these alternatives
record Behind (w : Want) (here : Layer) (outer : List Layer) (ts : List Token) (alts : Trees) : Type 0 where
  layer : Layer
  built : (rest : List Token) → built_from (at w here outer) (ts ++ rest) ≡ built_from (at Operator layer outer) rest
  settled : layer.negations ≡ 0
  holds : (split layer).alternatives ≡ appended here.alternatives alts

negates : (w : Want) → MayBegin w → (here : Layer) (outer : List Layer) (m : ℕ) (rest : List Token) → nesting here.negations (open_before outer) + suc m ≤ 64
    → built_from (at w here outer) (token.Not ∷ rest) ≡ built_from (at Operand (one_negation here) outer) rest
unfolding built_from
negates w at_start here outer m rest room = ap (λ o. and_then o (λ b. built_from b rest)) (opened (may_nest here.negations (open_before outer)) (at Operand (one_negation here) outer) (less (nesting here.negations (open_before outer)) m room))
negates w at_operand here outer m rest room = ap (λ o. and_then o (λ b. built_from b rest)) (opened (may_nest here.negations (open_before outer)) (at Operand (one_negation here) outer) (less (nesting here.negations (open_before outer)) m room))

opens : (w : Want) → MayBegin w → (here : Layer) (outer : List Layer) (m : ℕ) (rest : List Token) → nesting here.negations (open_before outer) + suc m ≤ 64
    → built_from (at w here outer) (token.Open ∷ rest) ≡ built_from (at Operand empty (here ∷ outer)) rest
unfolding built_from
opens w at_start here outer m rest room = ap (λ o. and_then o (λ b. built_from b rest)) (opened (may_nest here.negations (open_before outer)) (at Operand empty (here ∷ outer)) (less (nesting here.negations (open_before outer)) m room))
opens w at_operand here outer m rest room = ap (λ o. and_then o (λ b. built_from b rest)) (opened (may_nest here.negations (open_before outer)) (at Operand empty (here ∷ outer)) (less (nesting here.negations (open_before outer)) m room))

closes : (layer here : Layer) (outer : List Layer) (rest : List Token) → built_from (at Operator layer (here ∷ outer)) (token.Close ∷ rest) ≡ built_from (completed (whole layer) here outer) rest
unfolding built_from
closes layer here outer rest = refl

joins : (here : Layer) (outer : List Layer) (rest : List Token) → built_from (at Operator here outer) (token.And ∷ rest) ≡ built_from (at Operand here outer) rest
unfolding built_from
joins here outer rest = refl

splits : (here : Layer) (outer : List Layer) (rest : List Token) → built_from (at Operator here outer) (token.Or ∷ rest) ≡ built_from (at Operand (split here) outer) rest
unfolding built_from
splits here outer rest = refl

deeper : (n : ℕ) (ns : List ℕ) (m : ℕ) → nesting n ns + suc m ≤ 64 → nesting (n + 1) ns + m ≤ 64
deeper n [] m room = omega arith
deeper n (k ∷ ns) m room = omega arith

inside : (n : ℕ) (ns : List ℕ) (m : ℕ) → nesting n ns + suc m ≤ 64 → nesting 0 (n ∷ ns) + m ≤ 64
inside n ns m room = omega arith

-- where no factor stood before
fresh : (here : Layer) (outer : List Layer) (fs : Trees) (rest : List Token) → here.factors ≡ none
    → built_from (at Operator (record { negations = 0; alternatives = here.alternatives; factors = appended here.factors fs }) outer) rest
    ≡ built_from (at Operator (record { negations = 0; alternatives = here.alternatives; factors = fs }) outer) rest
fresh here outer fs rest e = ap (λ v. built_from (at Operator (record { negations = 0; alternatives = here.alternatives; factors = appended v fs }) outer) rest) e

mutual
  builds_operand : (n : ℕ) (ts : List Token) (t : Tree) → IsOperand n ts t → (w : Want) → MayBegin w → (here : Layer) (outer : List Layer)
      → nesting here.negations (open_before outer) + n ≤ 64 → (rest : List Token) → built_from (at w here outer) (ts ++ rest) ≡ built_from (completed t here outer) rest
  builds_operand n ts t (a_term m us x i) w begin here outer room rest = builds_content us x i w begin here outer rest
  builds_operand n ts t (a_negation m us u i) w begin here outer room rest =
      negates w begin here outer m (us ++ rest) room
      ∙ builds_operand m us u i Operand at_operand (one_negation here) outer (deeper here.negations (open_before outer) m room) rest
      ∙ ap (λ v. built_from (at Operator (record { negations = 0; alternatives = here.alternatives; factors = push here.factors v }) outer) rest) (negated_more here.negations u)
  builds_operand n ts t (in_parentheses m us alts i) w begin here outer room rest =
      let b = builds_alternatives m us alts i Operand at_operand empty (here ∷ outer) refl refl (inside here.negations (open_before outer) m room) in
      opens w begin here outer m ((us ++ token.Close ∷ []) ++ rest) room
      ∙ ap (λ ts. built_from (at Operand empty (here ∷ outer)) ts) (regrouped us token.Close [] rest)
      ∙ b.built (token.Close ∷ rest)
      ∙ closes b.layer here outer rest
      ∙ ap (λ v. built_from (completed (one_of either v) here outer) rest) b.holds

  builds_factors : (n : ℕ) (ts : List Token) (fs : Trees) → AreFactors n ts fs → (w : Want) → MayBegin w → (here : Layer) (outer : List Layer) → here.negations ≡ 0
      → nesting here.negations (open_before outer) + n ≤ 64 → (rest : List Token)
      → built_from (at w here outer) (ts ++ rest) ≡ built_from (at Operator (record { negations = 0; alternatives = here.alternatives; factors = appended here.factors fs }) outer) rest
  builds_factors n ts fs (last_factor m us t i) w begin here outer e room rest =
      builds_operand m us t i w begin here outer room rest
      ∙ ap (λ k. built_from (at Operator (record { negations = 0; alternatives = here.alternatives; factors = push here.factors (negated k t) }) outer) rest) e
      ∙ ap (λ v. built_from (at Operator (record { negations = 0; alternatives = here.alternatives; factors = v }) outer) rest) (appended_one here.factors t)
  builds_factors n ts fs (joined m us vs t gs i j) w begin here outer e room rest =
      ap (λ l. built_from (at w here outer) l) (regrouped us token.And vs rest)
      ∙ builds_operand m us t i w begin here outer room (token.And ∷ (vs ++ rest))
      ∙ ap (λ k. built_from (at Operator (record { negations = 0; alternatives = here.alternatives; factors = push here.factors (negated k t) }) outer) (token.And ∷ (vs ++ rest))) e
      ∙ joins (record { negations = 0; alternatives = here.alternatives; factors = push here.factors t }) outer (vs ++ rest)
      ∙ builds_factors m vs gs j Operand at_operand (record { negations = 0; alternatives = here.alternatives; factors = push here.factors t }) outer refl (subst (λ k. nesting k (open_before outer) + m ≤ 64) e room) rest
      ∙ ap (λ v. built_from (at Operator (record { negations = 0; alternatives = here.alternatives; factors = v }) outer) rest) (appended_push here.factors gs t)

  builds_alternatives : (n : ℕ) (ts : List Token) (alts : Trees) → AreAlternatives n ts alts → (w : Want) → MayBegin w → (here : Layer) (outer : List Layer) → here.negations ≡ 0 → here.factors ≡ none
      → nesting here.negations (open_before outer) + n ≤ 64 → Behind w here outer ts alts
  builds_alternatives n ts alts (last_alternative m us fs i) w begin here outer e f room =
      record {
        layer = record { negations = 0; alternatives = here.alternatives; factors = fs };
        built = λ rest. builds_factors m us fs i w begin here outer e room rest ∙ fresh here outer fs rest f;
        settled = refl;
        holds = appended_one here.alternatives (one_of both fs);
      }
  builds_alternatives n ts alts (parted_by_or m us vs fs bs i j) w begin here outer e f room =
      let b = builds_alternatives m vs bs j Operand at_operand (record { negations = 0; alternatives = push here.alternatives (one_of both fs); factors = none }) outer refl refl (subst (λ k. nesting k (open_before outer) + m ≤ 64) e room) in
      record {
        layer = b.layer;
        built = λ rest.
            ap (λ l. built_from (at w here outer) l) (regrouped us token.Or vs rest)
            ∙ builds_factors m us fs i w begin here outer e room (token.Or ∷ (vs ++ rest))
            ∙ fresh here outer fs (token.Or ∷ (vs ++ rest)) f
            ∙ splits (record { negations = 0; alternatives = here.alternatives; factors = fs }) outer (vs ++ rest)
            ∙ b.built rest;
        settled = b.settled;
        holds = b.holds ∙ appended_push here.alternatives bs (one_of both fs);
      }
  builds_alternatives n ts alts (side_by_side m us vs fs bs i j) w begin here outer e f room =
      let b = builds_alternatives m vs bs j Operand at_operand (record { negations = 0; alternatives = push here.alternatives (one_of both fs); factors = none }) outer refl refl (subst (λ k. nesting k (open_before outer) + m ≤ 64) e room) in
      record {
        layer = b.layer;
        built = λ rest.
            ap (λ l. built_from (at w here outer) l) (append_assoc us vs rest)
            ∙ builds_factors m us fs i w begin here outer e room (vs ++ rest)
            ∙ fresh here outer fs (vs ++ rest) f
            ∙ alternatives_begin m vs bs j rest (record { negations = 0; alternatives = here.alternatives; factors = fs }) outer
            ∙ b.built rest;
        settled = b.settled;
        holds = b.holds ∙ appended_push here.alternatives bs (one_of both fs);
      }

pub query_built : (ts : List Token) (t : Tree) → IsQuery ts t → read_tree ts ≡ Some t
unfolding built_from
query_built ts t nothing = refl
query_built ts t (something us alts i) =
    let b = builds_alternatives 64 us alts i Start at_start empty [] refl refl (omega arith) in
    ap (λ l. and_then (built_from building.begun l) ended) (sym (append-nil us))
    ∙ ap (λ o. and_then o ended) (b.built [])
    ∙ ap (λ v. Some (one_of either v)) b.holds
