-- What a builder stands for behind a token.
use Rattle.std.proofs.Common.{◌≡◌, ℕ, ◌-◌, ◌<◌, ◌≤◌, Bool, true, false, cond, nat_lt, List, [], ◌∷◌, ◌++◌, length, Some, None, refl, sym, ap, ◌∙◌, subst, arith, length-append}
use Rattle.std.proofs.lemmas.List.{same_from_push}
use Rattle.std.proofs.lemmas.Bool.Decides.{nat_tests}
use Rattle.gl_query.specs.declared.term.Node.{Node}
use Rattle.gl_query.specs.declared.term.Term.{Term}
use Rattle.gl_query.specs.declared.builder.Level.{Level}
use Rattle.gl_query.specs.declared.builder.Builder.{Builder}
use Rattle.gl_query.specs.declared.step.Want.{Want}
use Rattle.gl_query.specs.declared.step.Want.TheVariants.{Operand, Operator}
use Rattle.gl_query.specs.declared.step.Step.{Step}
use Rattle.gl_query.specs.declared.step.Step.TheVariants.{Takes, Completes, Negates, Opens, Closes, Joins, Splits}
use Rattle.gl_query.specs.Tree.{Tree, leaf, polish}
use Rattle.gl_query.specs.Refusals.{nesting, may_nest}
use Rattle.gl_query.specs.Building.{Layer, Building, empty, is_operator, split, parted, with_operand, completed, whole, one_negation, closed, open_before, grown, outer_nodes, level_of, outer_levels, HasParts, HasLayers, StandsFor, Closed, IsFit}

cond_true : {A : Type 0} (b : Bool) (x y : A) → b ≡ true → cond b x y ≡ x
cond_true true x y h = refl
cond_true false x y h = cc h

less : (n : ℕ) → n < 64 → nat_lt n 64 ≡ true
less n h = grind (arith, nat_tests)

abbrev pub Next : Builder → Want → Building → Step → Type 0
Next k want b step = (x : Building) × (grown step b ≡ Some x) × (x.want ≡ want) × StandsFor k x

module _ (k : Builder) (b : Building) (behind : Bool) (step : Step) (o : is_operator b.want ≡ behind) where
  abbrev Parted : Bool → Type 0
  Parted x = HasLayers k (parted x b.here) b.outer []

  pub takes : (want : Want) → step ≡ Takes want → IsFit behind step → HasLayers k (parted behind b.here) b.outer [] → Next k want b step
  takes want e fit keeps =
      let goes_on : is_operator want ≡ false = subst (IsFit behind) e fit in (
        record { want = want; here = parted (is_operator b.want) b.here; outer = b.outer },
        ap (λ s. grown s b) e,
        refl,
        record { keeps = subst Parted (sym o) keeps; settled = λ h. (cc) },
      )

  pub completes : (t : Term) → step ≡ Completes t → HasLayers k (with_operand (leaf t) (parted behind b.here)) b.outer [] → Next k Operator b step
  completes t e keeps = (
    completed (leaf t) (parted (is_operator b.want) b.here) b.outer,
    ap (λ s. grown s b) e,
    refl,
    record { keeps = subst (λ x. HasLayers k (with_operand (leaf t) (parted x b.here)) b.outer []) (sym o) keeps; settled = λ h. refl },
  )

  pub negates : (depth : ℕ) → depth ≡ nesting b.here.negations (open_before b.outer) → depth < 64 → step ≡ Negates → HasLayers k (one_negation (parted behind b.here)) b.outer [] → Next k Operand b step
  negates depth d lt e keeps =
      let x : Building = record { want = Operand; here = one_negation (parted (is_operator b.want) b.here); outer = b.outer } in (
        x,
        ap (λ s. grown s b) e ∙ cond_true (may_nest b.here.negations (open_before b.outer)) (Some x) None (less _ (subst (λ n. n < 64) d lt)),
        refl,
        record { keeps = subst (λ x. HasLayers k (one_negation (parted x b.here)) b.outer []) (sym o) keeps; settled = λ h. cc h },
      )

  pub opens : (depth : ℕ) → depth ≡ nesting b.here.negations (open_before b.outer) → depth < 64 → step ≡ Opens → HasLayers k empty (parted behind b.here ∷ b.outer) [] → Next k Operand b step
  opens depth d lt e keeps =
      let x : Building = record { want = Operand; here = empty; outer = parted (is_operator b.want) b.here ∷ b.outer } in (
        x,
        ap (λ s. grown s b) e ∙ cond_true (may_nest b.here.negations (open_before b.outer)) (Some x) None (less _ (subst (λ n. n < 64) d lt)),
        refl,
        record { keeps = subst (λ x. HasLayers k empty (parted x b.here ∷ b.outer) []) (sym o) keeps; settled = λ h. cc h },
      )

  pub joins : step ≡ Joins → HasLayers k b.here b.outer [] → Next k Operand b step
  joins e keeps = (record { want = Operand; here = b.here; outer = b.outer }, ap (λ s. grown s b) e, refl, record { keeps = keeps; settled = λ h. cc h })

  pub splits : step ≡ Splits → HasLayers k (split b.here) b.outer [] → Next k Operand b step
  splits e keeps = (record { want = Operand; here = split b.here; outer = b.outer }, ap (λ s. grown s b) e, refl, record { keeps = keeps; settled = λ h. cc h })

  closes_into : (t : Tree) (outer : List Layer) → Closed k true t outer → (x : Building) × (closed t outer ≡ Some x) × (x.want ≡ Operator) × StandsFor k x
  closes_into t [] h = absurd h
  closes_into t (l ∷ outer) h = (completed t l outer, refl, refl, record { keeps = h; settled = λ _. refl })

  pub closes : step ≡ Closes → Closed k true (whole b.here) b.outer → Next k Operator b step
  closes e h = let x = closes_into (whole b.here) b.outer h in (x.0, ap (λ s. grown s b) e ∙ x.1, x.2, x.3)

  stays : (t : Tree) (outer : List Layer) → Closed k false t outer → closed t outer ≡ None
  stays t [] h = refl
  stays t (l ∷ outer) h = absurd h

  pub closes_none : step ≡ Closes → Closed k false (whole b.here) b.outer → grown step b ≡ None
  closes_none e h = ap (λ s. grown s b) e ∙ stays (whole b.here) b.outer h

  -- behind an operand no NOT is left over
  pub settles : StandsFor k b → IsFit behind step → step ≡ Splits → b.here.negations ≡ 0
  settles s fit e = s.settled (o ∙ subst (IsFit behind) e fit)

  pub settles_closing : StandsFor k b → IsFit behind step → step ≡ Closes → b.here.negations ≡ 0
  settles_closing s fit e = s.settled (o ∙ subst (IsFit behind) e fit)

-- a parenthesis is popped
pub closing : (levels rest_levels : List Level) (level : Level) (depth : ℕ) (nodes : List Node) (t : Tree) (outer : List Layer)
    → levels ≡ outer_levels outer → depth ≡ nesting 0 (open_before outer) → nodes ≡ outer_nodes outer ++ polish t → levels ≡ rest_levels ++ level ∷ []
    → (l : Layer) × (rest : List Layer) × (outer ≡ l ∷ rest) × (1 ≤ depth) × HasParts level rest_levels (depth - 1) nodes l rest (polish t)
closing levels rest_levels level depth nodes t [] at d n popped = absurd (omega (arith, ap length (sym at ∙ popped), length-append rest_levels (level ∷ [])))
closing levels rest_levels level depth nodes t (l ∷ rest) at d n popped =
    let same = same_from_push rest_levels (outer_levels rest) level (level_of (length (outer_nodes rest)) l) (sym popped ∙ at) in (
      l,
      rest,
      refl,
      omega (arith, d),
      record { level_is = same.1; levels_are = same.0; nodes_are = n; depth_is = let e : depth - 1 ≡ nesting l.negations (open_before rest) = omega (arith, d) in e },
    )

-- none is open
pub none_open : (k : Builder) (levels rest_levels : List Level) (t : Tree) (outer : List Layer) → levels ≡ outer_levels outer → length levels ≡ 0 → Closed k false t outer
none_open k levels rest_levels t [] at none = tt
none_open k levels rest_levels t (l ∷ rest) at none = absurd (omega (arith, ap length at, length-append (outer_levels rest) (level_of (length (outer_nodes rest)) l ∷ [])))
