-- Steps over the tokens of a text.
use Rattle.std.proofs.Common.{◌≡◌, ℕ, zero, suc, ◌+◌, ◌-◌, ◌<◌, ◌≤◌, ◌==◌, max, Bool, true, false, cond, List, [], ◌∷◌, ◌++◌, length, get_or, drop, Option, Some, None, option_map, refl, sym, ap, ◌∙◌, subst, arith}
use Rattle.std.proofs.lemmas.List.{drop_more, drop-drop, drop_all}
use Rattle.gl_query.specs.declared.token.Token.{Token}
use Rattle.gl_query.specs.declared.step.Want.{Want}
use Rattle.gl_query.specs.declared.step.Want.TheVariants.{Start, Operand, Operator, Content, Name, Number, Low, Range, High, End}
use Rattle.gl_query.specs.declared.token.Token.TheVariants.{Word, Field, Phrase, Open, Close, And, Or, Not, To, Compare, Begin}
use Rattle.gl_query.specs.declared.token.Token.TheVariants as token
use Rattle.gl_query.specs.Words.{number_of, bound_of}
use Rattle.gl_query.specs.declared.token.Edge.{Edge}
use Rattle.gl_query.specs.declared.token.Comparison.{Comparison}
use Rattle.gl_query.specs.declared.term.Limit.{Limit}
use Rattle.std.proofs.Common.{ℤ, ◌≢◌}
use Rattle.std.proofs.lemmas.Bool.Decides.{nat_tests}
use Rattle.gl_query.specs.declared.step.Step.{Step}
use Rattle.gl_query.specs.declared.step.Step.TheVariants.{Refused, Takes, Completes, Negates, Opens, Closes, Joins, Splits}
use Rattle.gl_query.specs.Tokens.{token_at, token_here, bytes_inside, tokens_from}
use Rattle.gl_query.specs.Steps.{operand_step, operator_step, content_step, name_step, compared, begun, bounded, low_step, range_step, high_step, end_step, number_step, step_of}
use Rattle.gl_query.specs.Tree.{Tree}
use Rattle.gl_query.specs.Refusals.{Position, moved, may_nest, left, refused_behind, refused_from}
use Rattle.gl_query.specs.Building.{Layer, Building, is_operator, parted, closed, whole, open_before, grown, IsFit}
use Rattle.gl_query.specs.QueryReading.{position_of, and_then, built_from, units}

-- the bytes of a token are passed over
tokens_past : (k at : ℕ) (text : List ℕ) → tokens_from at k text ≡ tokens_from (at + k) 0 (drop k text)
unfolding tokens_from
tokens_past zero at text = ap (λ n. tokens_from n 0 text) (let e : at ≡ at + 0 = omega arith in e)
tokens_past (suc k) at [] = refl
tokens_past (suc k) at (b ∷ bs) = tokens_past k (at + 1) bs ∙ ap (λ n. tokens_from n 0 (drop k bs)) (let e : at + 1 + k ≡ at + suc k = omega arith in e)

-- a space
pub space_passes : (text : List ℕ) (at : ℕ) → at < length text → get_or text at 0 ≡ 32 → tokens_from at 0 (drop at text) ≡ tokens_from (at + 1) 0 (drop (at + 1) text)
unfolding tokens_from
space_passes text at lt h =
    ap (λ t. tokens_from at 0 t) (drop_more text at 0 lt)
    ∙ ap (λ b. token_here b at (get_or text at 0 ∷ drop (at + 1) text) ++ tokens_from (at + 1) (bytes_inside b (get_or text at 0 ∷ drop (at + 1) text)) (drop (at + 1) text)) (ap (λ n. n == 32) h)

-- a token
pub token_comes : (text : List ℕ) (at : ℕ) → at < length text → (get_or text at 0 == 32) ≡ false
    → tokens_from at 0 (drop at text) ≡ (at, (token_at (drop at text)).0) ∷ tokens_from (at + max (token_at (drop at text)).1 1) 0 (drop (at + max (token_at (drop at text)).1 1) text)
unfolding tokens_from
token_comes text at lt h =
    let cut = drop_more text at 0 lt in
    let here = get_or text at 0 ∷ drop (at + 1) text in
    ap (λ t. tokens_from at 0 t) cut
    ∙ ap (λ b. token_here b at here ++ tokens_from (at + 1) (bytes_inside b here) (drop (at + 1) text)) h
    ∙ ap (λ t. (at, (token_at t).0) ∷ tokens_from (at + 1) ((token_at t).1 - 1) (drop (at + 1) text)) (sym cut)
    ∙ ap (λ ts. (at, (token_at (drop at text)).0) ∷ ts)
    (tokens_past ((token_at (drop at text)).1 - 1) (at + 1) (drop (at + 1) text)
    ∙ ap (λ t. tokens_from (at + 1 + ((token_at (drop at text)).1 - 1)) 0 t) (drop-drop ((token_at (drop at text)).1 - 1) (at + 1) text)
    ∙ ap (λ n. tokens_from n 0 (drop n text)) (let e : at + 1 + ((token_at (drop at text)).1 - 1) ≡ at + max (token_at (drop at text)).1 1 = omega arith in e))

nested : (b : Bool) (x : Building) (y : Position) → position_of x ≡ y → cond b (Some y) None ≡ option_map position_of (cond b (Some x) None)
nested true x y e = ap Some (sym e)
nested false x y e = refl

parted_negations : (b : Bool) (l : Layer) → (parted b l).negations ≡ l.negations
parted_negations true l = refl
parted_negations false l = refl

-- a place moves as what stands before it grows
pub moved_grown : (s : Step) (b : Building) → moved s (position_of b) ≡ option_map position_of (grown s b)
moved_grown Refused b = refl
moved_grown (Takes want) b = ap (λ n. Some (record { want = want; negations = n; outer = open_before b.outer })) (sym (parted_negations (is_operator b.want) b.here))
moved_grown (Completes t) b = refl
moved_grown Negates b = nested (may_nest b.here.negations (open_before b.outer)) _ _ (ap (λ n. record { want = Operand; negations = n + 1; outer = open_before b.outer }) (parted_negations (is_operator b.want) b.here))
moved_grown Opens b = nested (may_nest b.here.negations (open_before b.outer)) _ _ (ap (λ n. record { want = Operand; negations = 0; outer = n ∷ open_before b.outer }) (parted_negations (is_operator b.want) b.here))
moved_grown Closes b = closes (whole b.here) b.outer
  where
    closes : (t : Tree) (outer : List Layer) → left (open_before outer) ≡ option_map position_of (closed t outer)
    closes t [] = refl
    closes t (l ∷ outer) = refl
moved_grown Joins b = refl
moved_grown Splits b = refl

-- one token of a text's
pub built_more : (b c : Building) (t : ℕ × Token) (ts : List (ℕ × Token)) → grown (step_of b.want t.1) b ≡ Some c → built_from b (units (t ∷ ts)) ≡ built_from c (units ts)
unfolding built_from
built_more b c t ts h = ap (λ o. and_then o (λ d. built_from d (units ts))) h

pub refused_more : (b c : Building) (t : ℕ × Token) (ts : List (ℕ × Token)) (end : ℕ) → grown (step_of b.want t.1) b ≡ Some c
    → refused_from (position_of b) (t ∷ ts) end ≡ refused_from (position_of c) ts end
unfolding refused_from
refused_more b c t ts end h = ap (λ o. refused_behind o t.0 (λ q. refused_from q ts end)) (moved_grown (step_of b.want t.1) b ∙ ap (λ o. option_map position_of o) h)

pub refused_here : (b : Building) (t : ℕ × Token) (ts : List (ℕ × Token)) (end : ℕ) → grown (step_of b.want t.1) b ≡ None
    → refused_from (position_of b) (t ∷ ts) end ≡ Some t.0
unfolding refused_from
refused_here b t ts end h = ap (λ o. refused_behind o t.0 (λ q. refused_from q ts end)) (moved_grown (step_of b.want t.1) b ∙ ap (λ o. option_map position_of o) h)

-- what a token does fits what stands before it
fit_operand : (behind : Bool) (t : Token) → IsFit behind (operand_step t)
fit_operand behind (Word w) = tt
fit_operand behind (Phrase p) = tt
fit_operand behind (Field f) = refl
fit_operand behind token.Exists = refl
fit_operand behind Not = tt
fit_operand behind Open = tt
fit_operand behind _ = tt

fit_operator : (t : Token) → IsFit true (operator_step t)
fit_operator And = refl
fit_operator Or = refl
fit_operator Close = refl
fit_operator (Word w) = tt
fit_operator (Phrase p) = tt
fit_operator (Field f) = refl
fit_operator token.Exists = refl
fit_operator Not = tt
fit_operator Open = tt
fit_operator _ = tt

fit_content : (name : List ℕ) (t : Token) → IsFit false (content_step name t)
fit_content name (Word w) = tt
fit_content name (Phrase p) = tt
fit_content name (Compare comparison) = refl
fit_content name (Begin edge) = refl
fit_content name _ = tt

fit_name : (t : Token) → IsFit false (name_step t)
fit_name (Word w) = tt
fit_name _ = tt

fit_compared : (name : List ℕ) (comparison : Comparison) (n : Option ℤ) → IsFit false (compared name comparison n)
fit_compared name comparison None = tt
fit_compared name comparison (Some n) = tt

fit_number : (name : List ℕ) (comparison : Comparison) (t : Token) → IsFit false (number_step name comparison t)
fit_number name comparison (Word w) = fit_compared name comparison (number_of w)
fit_number name comparison _ = tt

fit_begun : (name : List ℕ) (edge : Edge) (n : Option (Option ℤ)) → IsFit false (begun name edge n)
fit_begun name edge None = tt
fit_begun name edge (Some n) = refl

fit_low : (name : List ℕ) (edge : Edge) (t : Token) → IsFit false (low_step name edge t)
fit_low name edge (Word w) = fit_begun name edge (bound_of w)
fit_low name edge _ = tt

fit_range : (name : List ℕ) (low : Limit) (t : Token) → IsFit false (range_step name low t)
fit_range name low To = refl
fit_range name low _ = tt

fit_bounded : (name : List ℕ) (low : Limit) (n : Option (Option ℤ)) → IsFit false (bounded name low n)
fit_bounded name low None = tt
fit_bounded name low (Some n) = refl

fit_high : (name : List ℕ) (low : Limit) (t : Token) → IsFit false (high_step name low t)
fit_high name low (Word w) = fit_bounded name low (bound_of w)
fit_high name low _ = tt

fit_end : (name : List ℕ) (low : Limit) (high : Option ℤ) (t : Token) → IsFit false (end_step name low high t)
fit_end name low high (token.End edge) = tt
fit_end name low high _ = tt

fit : (want : Want) (t : Token) → IsFit (is_operator want) (step_of want t)
fit Start t = fit_operand false t
fit Operand t = fit_operand false t
fit Operator t = fit_operator t
fit (Content name) t = fit_content name t
fit Name t = fit_name t
fit (Number name comparison) t = fit_number name comparison t
fit (Low name edge) t = fit_low name edge t
fit (Range name low) t = fit_range name low t
fit (High name low) t = fit_high name low t
fit (End name low high) t = fit_end name low high t

pub step_fits : (want : Want) (t : Token) (behind : Bool) (step : Step) → behind ≡ is_operator want → step ≡ step_of want t → IsFit behind step
step_fits want t behind step b s = subst (λ x. IsFit x step) (sym b) (subst (IsFit (is_operator want)) (sym s) (fit want t))

no_space : (n : ℕ) → n ≢ 32 → (n == 32) ≡ false
no_space n h = grind (arith, nat_tests)

module _ (text : List ℕ) (at len m end : ℕ) (t : Token) (b : Building) (step : Step) (want : Want) where
  come : at < length text → get_or text at 0 ≢ 32 → (t, len) ≡ token_at (drop at text) → m ≡ max len 1 → tokens_from at 0 (drop at text) ≡ (at, t) ∷ tokens_from (at + m) 0 (drop (at + m) text)
  come lt h e n =
      token_comes text at lt (no_space (get_or text at 0) h)
      ∙ ap (λ (x : Token × ℕ). (at, x.0) ∷ tokens_from (at + max x.1 1) 0 (drop (at + max x.1 1) text)) (sym e)
      ∙ ap (λ k. (at, t) ∷ tokens_from (at + k) 0 (drop (at + k) text)) (sym n)

  stepped : (o : Option Building) → step ≡ step_of want t → b.want ≡ want → grown step b ≡ o → grown (step_of b.want t) b ≡ o
  stepped o s w h = ap (λ v. grown (step_of v t) b) w ∙ ap (λ x. grown x b) (sym s) ∙ h

  pub step_built : at < length text → get_or text at 0 ≢ 32 → (t, len) ≡ token_at (drop at text) → m ≡ max len 1 → step ≡ step_of want t → b.want ≡ want → (c : Building) → grown step b ≡ Some c
      → built_from c (units (tokens_from (at + m) 0 (drop (at + m) text))) ≡ built_from b (units (tokens_from at 0 (drop at text)))
  step_built lt h e n s w c g = sym (ap (λ ts. built_from b (units ts)) (come lt h e n) ∙ built_more b c (at, t) _ (stepped (Some c) s w g))

  pub step_refused : at < length text → get_or text at 0 ≢ 32 → (t, len) ≡ token_at (drop at text) → m ≡ max len 1 → step ≡ step_of want t → b.want ≡ want → (c : Building) → grown step b ≡ Some c
      → refused_from (position_of c) (tokens_from (at + m) 0 (drop (at + m) text)) end ≡ refused_from (position_of b) (tokens_from at 0 (drop at text)) end
  step_refused lt h e n s w c g = sym (ap (λ ts. refused_from (position_of b) ts end) (come lt h e n) ∙ refused_more b c (at, t) _ end (stepped (Some c) s w g))

  pub step_refuses : at < length text → get_or text at 0 ≢ 32 → (t, len) ≡ token_at (drop at text) → m ≡ max len 1 → step ≡ step_of want t → b.want ≡ want → grown step b ≡ None
      → refused_from (position_of b) (tokens_from at 0 (drop at text)) end ≡ Some at
  step_refuses lt h e n s w g = ap (λ ts. refused_from (position_of b) ts end) (come lt h e n) ∙ refused_here b (at, t) _ end (stepped None s w g)

pub at_end : (text : List ℕ) (at : ℕ) → length text ≤ at → tokens_from at 0 (drop at text) ≡ []
unfolding tokens_from
at_end text at le = ap (λ t. tokens_from at 0 t) (drop_all at text le)

pub built_none : (b : Building) → built_from b (units []) ≡ Some b
unfolding built_from
built_none b = refl
