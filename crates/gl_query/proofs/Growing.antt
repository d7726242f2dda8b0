-- How the nodes in Polish notation grow.
use Rattle.std.proofs.Common.{◌≡◌, ℕ, zero, suc, ◌+◌, ◌-◌, ◌≤◌, Bool, true, false, cond, eqb, List, [], ◌∷◌, ◌++◌, length, drop, replicate, refl, sym, ap, ◌∙◌, arith, append_assoc, length-append}
use Rattle.std.specs.List.{insert}
use Rattle.std.proofs.lemmas.List.{append-nil, take_at, drop_at, replicate_more}
use Rattle.std.proofs.lemmas.Bool.Decides.{nat_tests}
use Rattle.gl_query.specs.declared.term.Node.{Node}
use Rattle.gl_query.specs.declared.term.Node.TheVariants.{Negation, Both, Either}
use Rattle.gl_query.specs.declared.builder.Level.{Level}
use Rattle.gl_query.specs.Tree.{Tree, both, either, Trees, none, also, count, polish, polish_all, push, one_of, negated}
use Rattle.gl_query.specs.Refusals.{nesting}
use Rattle.gl_query.specs.Building.{Layer, empty, split, with_operand, one_negation, open_before, layer_nodes, outer_nodes, outer_levels, HasParts}

pub polish_push : (ts : Trees) (t : Tree) → polish_all (push ts t) ≡ polish_all ts ++ polish t
polish_push none t = append-nil (polish t)
polish_push (also u us) t = ap (λ ns. polish u ++ ns) (polish_push us t) ∙ sym (append_assoc (polish u) (polish_all us) (polish t))

pub count_push : (ts : Trees) (t : Tree) → count (push ts t) ≡ count ts + 1
count_push none t = refl
count_push (also u us) t = ap (λ n. n + 1) (count_push us t)

not_one : (n : ℕ) {A : Type 0} (x y : A) → y ≡ cond (eqb (n + 1 + 1) 1) x y
not_one n x y = grind (arith, nat_tests)

pub polish_both : (ts : Trees) → polish (one_of both ts) ≡ cond (eqb (count ts) 1) (polish_all ts) (Both (count ts) ∷ polish_all ts)
polish_both none = refl
polish_both (also t none) = sym (append-nil (polish t))
polish_both (also t (also u us)) = not_one (count us) (polish_all (also t (also u us))) (Both (count us + 1 + 1) ∷ polish_all (also t (also u us)))

pub polish_either : (ts : Trees) → polish (one_of either ts) ≡ cond (eqb (count ts) 1) (polish_all ts) (Either (count ts) ∷ polish_all ts)
polish_either none = refl
polish_either (also t none) = sym (append-nil (polish t))
polish_either (also t (also u us)) = not_one (count us) (polish_all (also t (also u us))) (Either (count us + 1 + 1) ∷ polish_all (also t (also u us)))

pub polish_negated : (n : ℕ) (t : Tree) → polish (negated n t) ≡ replicate n Negation ++ polish t
polish_negated zero t = refl
polish_negated (suc n) t = ap (λ ns. Negation ∷ ns) (polish_negated n t)

pub insert_seam : {X : Type 0} (a b : List X) (n : ℕ) (x : X) → n ≡ length a → insert (a ++ b) n x ≡ a ++ x ∷ b
insert_seam a b n x e = ap (λ l. l ++ x ∷ drop n (a ++ b)) (take_at a b n (sym e)) ∙ ap (λ l. a ++ x ∷ l) (drop_at a b n (sym e))

-- the nodes of the factors, with their operation before them
grouped : {X : Type 0} (b : Bool) (a f : List X) (n : ℕ) (x : X) → n ≡ length a → cond b (a ++ f) (insert (a ++ f) n x) ≡ a ++ cond b f (x ∷ f)
grouped true a f n x e = refl
grouped false a f n x e = insert_seam a f n x e

-- where no NOT is left over
settled_nodes : (l : Layer) → l.negations ≡ 0 → layer_nodes l ≡ polish_all l.alternatives ++ polish_all l.factors
settled_nodes l e = ap (λ n. polish_all l.alternatives ++ (polish_all l.factors ++ replicate n Negation)) e ∙ ap (λ ns. polish_all l.alternatives ++ ns) (append-nil (polish_all l.factors))

module _ (level : Level) (levels : List Level) (depth : ℕ) (nodes : List Node) (here : Layer) (outer : List Layer) where
  abbrev before : List Node
  before = outer_nodes outer ++ polish_all here.alternatives

  before_len : HasParts level levels depth nodes here outer [] → level.factors_at ≡ length before
  before_len k = ap (λ (l : Level). l.factors_at) k.level_is ∙ sym (length-append (outer_nodes outer) (polish_all here.alternatives))

  split_nodes : HasParts level levels depth nodes here outer [] → here.negations ≡ 0 → nodes ≡ before ++ polish_all here.factors
  split_nodes k e = k.nodes_are ∙ append-nil _ ∙ ap (λ ns. outer_nodes outer ++ ns) (settled_nodes here e) ∙ sym (append_assoc (outer_nodes outer) (polish_all here.alternatives) (polish_all here.factors))

  pub split_place : HasParts level levels depth nodes here outer [] → here.negations ≡ 0 → level.factors_at ≤ length nodes
  split_place k e = omega (arith, before_len k, ap length (split_nodes k e), length-append before (polish_all here.factors))

  split_grows : (after : List Node) → HasParts level levels depth nodes here outer [] → here.negations ≡ 0
      → after ≡ cond (eqb level.factors 1) nodes (insert nodes level.factors_at (Both level.factors)) → after ≡ outer_nodes outer ++ polish_all (split here).alternatives
  split_grows after k e h =
      h ∙ ap (λ ns. cond (eqb level.factors 1) ns (insert ns level.factors_at (Both level.factors))) (split_nodes k e)
      ∙ grouped (eqb level.factors 1) before (polish_all here.factors) level.factors_at (Both level.factors) (before_len k)
      ∙ ap (λ n. before ++ cond (eqb n 1) (polish_all here.factors) (Both n ∷ polish_all here.factors)) (ap (λ (l : Level). l.factors) k.level_is)
      ∙ ap (λ ns. before ++ ns) (sym (polish_both here.factors))
      ∙ append_assoc (outer_nodes outer) (polish_all here.alternatives) (polish (one_of both here.factors))
      ∙ ap (λ ns. outer_nodes outer ++ ns) (sym (polish_push here.alternatives (one_of both here.factors)))

  pub keeps_split : (after : List Node) → HasParts level levels depth nodes here outer [] → here.negations ≡ 0
      → after ≡ cond (eqb level.factors 1) nodes (insert nodes level.factors_at (Both level.factors))
      → HasParts (record { negations = level.negations; start = level.start; alternatives = level.alternatives + 1; factors_at = length after; factors = 0 }) levels depth after (split here) outer []
  keeps_split after k e h =
      let grows = split_grows after k e h in
      record {
        level_is =
            ap (λ (l : Level). record { negations = l.negations; start = l.start; alternatives = l.alternatives + 1; factors_at = length after; factors = 0 }) k.level_is
            ∙ ap (λ n. record { negations = here.negations; start = length (outer_nodes outer); alternatives = n; factors_at = length after; factors = 0 }) (sym (count_push here.alternatives (one_of both here.factors)))
            ∙ ap (λ n. record { negations = here.negations; start = length (outer_nodes outer); alternatives = count (split here).alternatives; factors_at = n; factors = 0 })
            (ap length grows ∙ length-append (outer_nodes outer) (polish_all (split here).alternatives));
        levels_are = k.levels_are;
        nodes_are = grows ∙ ap (λ ns. outer_nodes outer ++ ns) (sym (append-nil _) ∙ ap (λ n. polish_all (split here).alternatives ++ replicate n Negation) (sym e)) ∙ sym (append-nil _);
        depth_is = k.depth_is;
      }

  pub keeps_operand : (t : Tree) → HasParts level levels depth nodes here outer (polish t)
      → HasParts (record { negations = 0; start = level.start; alternatives = level.alternatives; factors_at = level.factors_at; factors = level.factors + 1 }) levels (depth - level.negations) nodes (with_operand t here) outer []
  keeps_operand t k =
      record {
        level_is =
            ap (λ (l : Level). record { negations = 0; start = l.start; alternatives = l.alternatives; factors_at = l.factors_at; factors = l.factors + 1 }) k.level_is
            ∙ ap (λ n. record { negations = 0; start = length (outer_nodes outer); alternatives = count here.alternatives; factors_at = length (outer_nodes outer) + length (polish_all here.alternatives); factors = n }) (sym (count_push here.factors (negated here.negations t)));
        levels_are = k.levels_are;
        nodes_are = k.nodes_are ∙ regrouped ∙ sym (append-nil _);
        depth_is = ap (λ n. n - level.negations) k.depth_is ∙ ap (λ (l : Level). nesting here.negations (open_before outer) - l.negations) k.level_is ∙ nest here.negations (open_before outer);
      }
    where
      nest : (n : ℕ) (ns : List ℕ) → nesting n ns - n ≡ nesting 0 ns
      nest n [] = omega arith
      nest n (m ∷ ms) = omega arith

      regrouped : (outer_nodes outer ++ layer_nodes here) ++ polish t ≡ outer_nodes outer ++ layer_nodes (with_operand t here)
      regrouped =
          append_assoc (outer_nodes outer) (layer_nodes here) (polish t)
          ∙ ap (λ ns. outer_nodes outer ++ ns)
          (append_assoc (polish_all here.alternatives) (polish_all here.factors ++ replicate here.negations Negation) (polish t)
          ∙ ap (λ ns. polish_all here.alternatives ++ ns)
          (append_assoc (polish_all here.factors) (replicate here.negations Negation) (polish t)
          ∙ ap (λ ns. polish_all here.factors ++ ns) (sym (polish_negated here.negations t))
          ∙ sym (polish_push here.factors (negated here.negations t))
          ∙ sym (append-nil _)))

  pub keeps_negation : HasParts level levels depth nodes here outer []
      → HasParts (record { negations = level.negations + 1; start = level.start; alternatives = level.alternatives; factors_at = level.factors_at; factors = level.factors }) levels (depth + 1) (nodes ++ Negation ∷ []) (one_negation here) outer []
  keeps_negation k =
      record {
        level_is = ap (λ (l : Level). record { negations = l.negations + 1; start = l.start; alternatives = l.alternatives; factors_at = l.factors_at; factors = l.factors }) k.level_is;
        levels_are = k.levels_are;
        nodes_are =
            ap (λ ns. ns ++ Negation ∷ []) (k.nodes_are ∙ append-nil _)
            ∙ append_assoc (outer_nodes outer) (layer_nodes here) (Negation ∷ [])
            ∙ ap (λ ns. outer_nodes outer ++ ns)
            (append_assoc (polish_all here.alternatives) (polish_all here.factors ++ replicate here.negations Negation) (Negation ∷ [])
            ∙ ap (λ ns. polish_all here.alternatives ++ ns)
            (append_assoc (polish_all here.factors) (replicate here.negations Negation) (Negation ∷ []) ∙ ap (λ ns. polish_all here.factors ++ ns) (replicate_more here.negations Negation)))
            ∙ sym (append-nil _);
        depth_is = ap (λ n. n + 1) k.depth_is ∙ nest here.negations (open_before outer);
      }
    where
      nest : (n : ℕ) (ns : List ℕ) → nesting n ns + 1 ≡ nesting (n + 1) ns
      nest n [] = omega arith
      nest n (m ∷ ms) = omega arith

  pub keeps_open : HasParts level levels depth nodes here outer []
      → HasParts (record { negations = 0; start = length nodes; alternatives = 0; factors_at = length nodes; factors = 0 }) (levels ++ level ∷ []) (depth + 1) nodes empty (here ∷ outer) []
  keeps_open k =
      let same : nodes ≡ outer_nodes (here ∷ outer) = k.nodes_are ∙ append-nil _ in
      record {
        level_is =
            ap (λ n. record { negations = 0; start = n; alternatives = 0; factors_at = n; factors = 0 }) (ap length same)
            ∙ ap (λ n. record { negations = 0; start = length (outer_nodes (here ∷ outer)); alternatives = 0; factors_at = n; factors = 0 }) (let e : length (outer_nodes (here ∷ outer)) ≡ length (outer_nodes (here ∷ outer)) + 0 = omega arith in e);
        levels_are = ap (λ ls. ls ++ level ∷ []) k.levels_are ∙ ap (λ l. outer_levels outer ++ l ∷ []) k.level_is;
        nodes_are = same ∙ sym (append-nil _) ∙ sym (append-nil _);
        depth_is = ap (λ n. n + 1) k.depth_is ∙ nest (nesting here.negations (open_before outer));
      }
    where
      nest : (n : ℕ) → n + 1 ≡ 0 + 1 + n
      nest n = omega arith

  pub keeps_more : (after more : List Node) → after ≡ nodes ++ more → HasParts level levels depth nodes here outer [] → HasParts level levels depth after here outer more
  keeps_more after more e k =
      record { level_is = k.level_is; levels_are = k.levels_are; nodes_are = e ∙ ap (λ ns. ns ++ more) (k.nodes_are ∙ append-nil _); depth_is = k.depth_is }

  pub keeps_room : (more : List Node) → HasParts level levels depth nodes here outer more → level.negations ≤ depth
  keeps_room more k = omega (arith, ap (λ (l : Level). l.negations) k.level_is, k.depth_is, room here.negations (open_before outer))
    where
      room : (n : ℕ) (ns : List ℕ) → n ≤ nesting n ns
      room n [] = omega arith
      room n (m ∷ ms) = omega arith

  pub whole_place : HasParts level levels depth nodes here outer [] → level.start ≤ length nodes
  whole_place k = omega (arith, ap (λ (l : Level). l.start) k.level_is, ap length (k.nodes_are ∙ append-nil _), length-append (outer_nodes outer) (layer_nodes here))

  -- the nodes of a layer that is whole
  pub whole_nodes : (after : List Node) → HasParts level levels depth nodes here outer [] → here.negations ≡ 0 → here.factors ≡ none
      → after ≡ cond (eqb level.alternatives 1) nodes (insert nodes level.start (Either level.alternatives)) → after ≡ outer_nodes outer ++ polish (one_of either here.alternatives)
  whole_nodes after k e f h =
      let same : nodes ≡ outer_nodes outer ++ polish_all here.alternatives =
      split_nodes k e ∙ ap (λ ts. before ++ polish_all ts) f ∙ append-nil _ in
      h ∙ ap (λ ns. cond (eqb level.alternatives 1) ns (insert ns level.start (Either level.alternatives))) same
      ∙ grouped (eqb level.alternatives 1) (outer_nodes outer) (polish_all here.alternatives) level.start (Either level.alternatives) (ap (λ (l : Level). l.start) k.level_is)
      ∙ ap (λ n. outer_nodes outer ++ cond (eqb n 1) (polish_all here.alternatives) (Either n ∷ polish_all here.alternatives)) (ap (λ (l : Level). l.alternatives) k.level_is)
      ∙ ap (λ ns. outer_nodes outer ++ ns) (sym (polish_either here.alternatives))
