-- How a tree grows while its tokens are read, and what is kept of it.
use Rattle.std.specs.Prelude.{◌≡◌, ℕ, ◌+◌, Bool, true, false, ⊤, List, [], ◌∷◌, ◌++◌, length, map, replicate, if◌then◌else◌, Option, Some, None}
use Rattle.gl_query.specs.declared.term.Node.{Node}
use Rattle.gl_query.specs.declared.term.Node.TheVariants.{Negation}
use Rattle.gl_query.specs.declared.builder.Level.{Level}
use Rattle.gl_query.specs.declared.builder.Builder.{Builder}
use Rattle.gl_query.specs.declared.step.Want.{Want}
use Rattle.gl_query.specs.declared.step.Want.TheVariants.{Start, Operand, Operator}
use Rattle.gl_query.specs.declared.step.Step.{Step}
use Rattle.gl_query.specs.declared.step.Step.TheVariants.{Refused, Takes, Completes, Negates, Opens, Closes, Joins, Splits}
use Rattle.gl_query.specs.Tree.{Tree, leaf, both, either, Trees, none, count, polish, polish_all, push, one_of, negated}
use Rattle.gl_query.specs.Refusals.{nesting, may_nest}

-- what stands inside one pair of parentheses so far: its alternatives, the factors of the next one, and the NOT before the next operand
pub record Layer : Type 0 where
  pub negations : ℕ
  pub alternatives : Trees
  pub factors : Trees

pub record Building : Type 0 where
  pub want : Want
  pub here : Layer
  pub outer : List Layer

abbrev pub empty : Layer
empty = record { negations = 0; alternatives = none; factors = none }

abbrev pub begun : Building
begun = record { want = Start; here = empty; outer = [] }

abbrev pub is_operator : Want → Bool
is_operator Operator = true
is_operator _ = false

-- an alternative has ended
abbrev pub split : Layer → Layer
split l = record { negations = l.negations; alternatives = push l.alternatives (one_of both l.factors); factors = none }

-- an operand begins, and behind another one it begins an alternative
abbrev pub parted : Bool → Layer → Layer
parted behind l = if behind then split l else l

abbrev pub with_operand : Tree → Layer → Layer
with_operand t l = record { negations = 0; alternatives = l.alternatives; factors = push l.factors (negated l.negations t) }

abbrev pub completed : Tree → Layer → List Layer → Building
completed t l outer = record { want = Operator; here = with_operand t l; outer = outer }

abbrev pub whole : Layer → Tree
whole l = one_of either (split l).alternatives

abbrev pub one_negation : Layer → Layer
one_negation l = record { negations = l.negations + 1; alternatives = l.alternatives; factors = l.factors }

abbrev pub closed : Tree → List Layer → Option Building
closed t [] = None
closed t (l ∷ outer) = Some (completed t l outer)

abbrev pub open_before : List Layer → List ℕ
open_before outer = map (λ l. l.negations) outer

abbrev pub grown : Step → Building → Option Building
grown Refused b = None
grown (Takes want) b = Some (record { want = want; here = parted (is_operator b.want) b.here; outer = b.outer })
grown (Completes t) b = Some (completed (leaf t) (parted (is_operator b.want) b.here) b.outer)
grown Negates b =
    if may_nest b.here.negations (open_before b.outer)
    then Some (record { want = Operand; here = one_negation (parted (is_operator b.want) b.here); outer = b.outer }) else None
grown Opens b =
    if may_nest b.here.negations (open_before b.outer)
    then Some (record { want = Operand; here = empty; outer = parted (is_operator b.want) b.here ∷ b.outer }) else None
grown Closes b = closed (whole b.here) b.outer
grown Joins b = Some (record { want = Operand; here = b.here; outer = b.outer })
grown Splits b = Some (record { want = Operand; here = split b.here; outer = b.outer })

-- What is kept: the nodes in Polish notation so far, and for each open parenthesis where its nodes begin and how many there are.
abbrev pub layer_nodes : Layer → List Node
layer_nodes l = polish_all l.alternatives ++ (polish_all l.factors ++ replicate l.negations Negation)

abbrev pub outer_nodes : List Layer → List Node
outer_nodes [] = []
outer_nodes (l ∷ outer) = outer_nodes outer ++ layer_nodes l

abbrev pub level_of : ℕ → Layer → Level
level_of start l =
    record {
      negations = l.negations;
      start = start;
      alternatives = count l.alternatives;
      factors_at = start + length (polish_all l.alternatives);
      factors = count l.factors;
    }

abbrev pub outer_levels : List Layer → List Level
outer_levels [] = []
outer_levels (l ∷ outer) = outer_levels outer ++ level_of (length (outer_nodes outer)) l ∷ []

-- what is kept stands for this layer and those around it, with more nodes behind
pub record HasParts (level : Level) (levels : List Level) (depth : ℕ) (nodes : List Node) (here : Layer) (outer : List Layer) (more : List Node) : Type 0 where
  pub level_is : level ≡ level_of (length (outer_nodes outer)) here
  pub levels_are : levels ≡ outer_levels outer
  pub nodes_are : nodes ≡ (outer_nodes outer ++ layer_nodes here) ++ more
  pub depth_is : depth ≡ nesting here.negations (open_before outer)

abbrev pub HasLayers : Builder → Layer → List Layer → List Node → Type 0
HasLayers k here outer more = HasParts k.level k.outer.items k.depth k.nodes.items here outer more

-- behind an operand no NOT is left over
abbrev pub IsSettled : Building → Type 0
IsSettled b = is_operator b.want ≡ true → b.here.negations ≡ 0

pub record StandsFor (k : Builder) (b : Building) : Type 0 where
  pub keeps : HasLayers k b.here b.outer []
  pub settled : IsSettled b

-- a layer is whole, and what is kept around it stays
pub record IsWhole (old new : Builder) (here : Layer) (outer : List Layer) : Type 0 where
  pub nodes_are : new.nodes.items ≡ outer_nodes outer ++ polish (whole here)
  pub levels_are : new.outer.items ≡ outer_levels outer
  pub depth_is : new.depth ≡ nesting 0 (open_before outer)

-- a parenthesis ends around this tree, if one is open
abbrev pub Closed : Builder → Bool → Tree → List Layer → Type 0
Closed k true t [] = ⊥
Closed k true t (l ∷ outer) = HasLayers k (with_operand t l) outer []
Closed k false t [] = ⊤
Closed k false t (l ∷ outer) = ⊥

-- an operator stands behind an operand, and a term that goes on has not ended
abbrev pub IsFit : Bool → Step → Type 0
IsFit behind Refused = ⊤
IsFit behind (Takes want) = is_operator want ≡ false
IsFit behind (Completes t) = ⊤
IsFit behind Negates = ⊤
IsFit behind Opens = ⊤
IsFit behind Closes = behind ≡ true
IsFit behind Joins = behind ≡ true
IsFit behind Splits = behind ≡ true

-- what is kept stands for what grew, and this is wanted next
abbrev pub Grew : Builder → Option Want → Option Building → Type 0
Grew k None b = b ≡ None
Grew k (Some want) b = (c : Building) × (b ≡ Some c) × (c.want ≡ want) × StandsFor k c
