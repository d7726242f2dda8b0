-- How walks over nodes go on: what a walk over the rest answers is the answer over all.
use Rattle.std.proofs.Common.{◌≡◌, ℕ, ◌+◌, ◌<◌, ◌≤◌, get_or, drop, map, subst, List, [], ◌∷◌, ◌++◌, length, Option, Some, None, Result, Ok, Err, filter_map, slice_get, refl, sym, ap, ◌∙◌, length-append, arith}
use Rattle.std.specs.List.{enumerate_from}
use Rattle.std.proofs.lemmas.List.{drop_all}
use Rattle.std.proofs.lemmas.List.Elements.{filter_map-append}
use Rattle.gl_check.specs.declared.refusal.CheckRefusal.{CheckRefusal}
use Rattle.gl_check.specs.declared.refusal.CheckRefusal.TheVariants.{UnknownFunction, BadArguments, WrongType, UnknownVariable, OutOfMemory}
use Rattle.gl_rulelang.specs.declared.rule.Unary.{Unary}
use Rattle.gl_rulelang.specs.declared.rule.Binary.{Binary}
use Rattle.gl_rulelang.specs.declared.rule.Expr.{Expr}
use Rattle.gl_rulelang.specs.declared.rule.Action.{Action}
use Rattle.gl_rulelang.specs.Tree.{Tree, unary, binary, tree_of, args_view, row, action_of, RuleTree}
use Rattle.gl_check.specs.declared.stand.Stand.{Stand}
use Rattle.gl_check.specs.declared.stand.Stand.TheVariants as stands
use Rattle.gl_check.specs.Checking.{Kinds, Node, node, nodes_of, argument_nodes, step_nodes, steps_nodes, known_behind, rule_nodes, fault_at, faults_from, first_fault, IsChecked, Walks}
use Rattle.gl_check.proofs.Lists.{enumerate_from-append, left_at}

faults_from-append : (at : ℕ) (xs ys : List Node) → faults_from at (xs ++ ys) ≡ faults_from at xs ++ faults_from (at + length xs) ys
faults_from-append at xs ys =
    ap (filter_map fault_at) (enumerate_from-append at xs ys) ∙ filter_map-append fault_at (enumerate_from at xs) (enumerate_from (at + length xs) ys)

-- behind nodes without a fault the faults are those of the rest
faults_behind : (at next : ℕ) (xs ys : List Node) → Walks at xs (Ok next) → faults_from at (xs ++ ys) ≡ faults_from next ys
faults_behind at next xs ys h =
    faults_from-append at xs ys ∙ ap (λ (l : List CheckRefusal). l ++ faults_from (at + length xs) ys) h.0 ∙ ap (λ (k : ℕ). faults_from k ys) (sym h.1)

pub on : (at next : ℕ) (xs ys : List Node) (r : Result ℕ CheckRefusal) → Walks at xs (Ok next) → Walks next ys r → Walks at (xs ++ ys) r
on at next xs ys (Ok end) h more = (faults_behind at next xs ys h ∙ more.0, omega (arith, h.1, more.1, length-append xs ys))
on at next xs ys (Err (UnknownFunction k)) h more = ap (λ (l : List CheckRefusal). slice_get l 0) (faults_behind at next xs ys h) ∙ more
on at next xs ys (Err (BadArguments k)) h more = ap (λ (l : List CheckRefusal). slice_get l 0) (faults_behind at next xs ys h) ∙ more
on at next xs ys (Err (WrongType k)) h more = ap (λ (l : List CheckRefusal). slice_get l 0) (faults_behind at next xs ys h) ∙ more
on at next xs ys (Err (UnknownVariable k)) h more = ap (λ (l : List CheckRefusal). slice_get l 0) (faults_behind at next xs ys h) ∙ more
on at next xs ys (Err OutOfMemory) h more = tt

-- the first of a list stays it
first_kept : {X : Type 0} (x : X) (xs ys : List X) → slice_get xs 0 ≡ Some x → slice_get (xs ++ ys) 0 ≡ Some x
first_kept x [] ys h = cc h
first_kept x (y ∷ xs) ys h = h

kept : (at : ℕ) (xs ys : List Node) (f : CheckRefusal) → slice_get (faults_from at xs) 0 ≡ Some f → slice_get (faults_from at (xs ++ ys)) 0 ≡ Some f
kept at xs ys f h =
    ap (λ (l : List CheckRefusal). slice_get l 0) (faults_from-append at xs ys) ∙ first_kept f (faults_from at xs) (faults_from (at + length xs) ys) h

pub stopped : (at : ℕ) (xs ys : List Node) (f : CheckRefusal) → Walks at xs (Err f) → Walks at (xs ++ ys) (Err f)
stopped at xs ys (UnknownFunction k) h = kept at xs ys (UnknownFunction k) h
stopped at xs ys (BadArguments k) h = kept at xs ys (BadArguments k) h
stopped at xs ys (WrongType k) h = kept at xs ys (WrongType k) h
stopped at xs ys (UnknownVariable k) h = kept at xs ys (UnknownVariable k) h
stopped at xs ys OutOfMemory h = tt

-- no node is left
pub at_end : (next : ℕ) → Walks next [] (Ok next)
at_end next = (refl, omega arith)

-- Operations.

pub unary_on : (at next : ℕ) (stand : Stand) (known : Kinds) (sign : Unary) (e t : Tree) (r : Result ℕ CheckRefusal) → t ≡ unary sign e
    → Walks at (nodes_of stands.Operand known e) (Ok next) → Walks next (node stand known t ∷ []) r → Walks at (nodes_of stand known t) r
unary_on at next stand known sign e t r is h more =
    subst (λ (u : Tree). Walks next (node stand known u ∷ []) r → Walks at (nodes_of stand known u) r) (sym is)
    (on at next (nodes_of stands.Operand known e) (node stand known (unary sign e) ∷ []) r h) more

pub unary_stops : (at : ℕ) (stand : Stand) (known : Kinds) (sign : Unary) (e t : Tree) (f : CheckRefusal) → t ≡ unary sign e
    → Walks at (nodes_of stands.Operand known e) (Err f) → Walks at (nodes_of stand known t) (Err f)
unary_stops at stand known sign e t f is h =
    subst (λ (u : Tree). Walks at (nodes_of stand known u) (Err f)) (sym is) (stopped at (nodes_of stands.Operand known e) (node stand known (unary sign e) ∷ []) f h)

pub binary_on : (at middle next : ℕ) (stand : Stand) (known : Kinds) (sign : Binary) (a b t : Tree) (r : Result ℕ CheckRefusal) → t ≡ binary sign a b
    → Walks at (nodes_of stands.Operand known a) (Ok middle) → Walks middle (nodes_of stands.Operand known b) (Ok next) → Walks next (node stand known t ∷ []) r
    → Walks at (nodes_of stand known t) r
binary_on at middle next stand known sign a b t r is first second more =
    subst (λ (u : Tree). Walks next (node stand known u ∷ []) r → Walks at (nodes_of stand known u) r) (sym is)
    (λ last. on at middle (nodes_of stands.Operand known a) (nodes_of stands.Operand known b ++ node stand known (binary sign a b) ∷ []) r first
    (on middle next (nodes_of stands.Operand known b) (node stand known (binary sign a b) ∷ []) r second last))
    more

pub first_stops : (at : ℕ) (stand : Stand) (known : Kinds) (sign : Binary) (a b t : Tree) (f : CheckRefusal) → t ≡ binary sign a b
    → Walks at (nodes_of stands.Operand known a) (Err f) → Walks at (nodes_of stand known t) (Err f)
first_stops at stand known sign a b t f is h =
    subst (λ (u : Tree). Walks at (nodes_of stand known u) (Err f)) (sym is)
    (stopped at (nodes_of stands.Operand known a) (nodes_of stands.Operand known b ++ node stand known (binary sign a b) ∷ []) f h)

pub second_stops : (at middle : ℕ) (stand : Stand) (known : Kinds) (sign : Binary) (a b t : Tree) (f : CheckRefusal) → t ≡ binary sign a b
    → Walks at (nodes_of stands.Operand known a) (Ok middle) → Walks middle (nodes_of stands.Operand known b) (Err f) → Walks at (nodes_of stand known t) (Err f)
second_stops at middle stand known sign a b t f is first h =
    subst (λ (u : Tree). Walks at (nodes_of stand known u) (Err f)) (sym is)
    (on at middle (nodes_of stands.Operand known a) (nodes_of stands.Operand known b ++ node stand known (binary sign a b) ∷ []) (Err f) first
    (stopped middle (nodes_of stands.Operand known b) (node stand known (binary sign a b) ∷ []) f h))

-- What is left of the arguments of a call, from one on.
module _ (known : Kinds) (xs : List (Option (List ℕ) × Expr)) (i : ℕ) (x : Option (List ℕ) × Expr) (lt : i < length xs) (is : x ≡ get_or xs i x) where
  pub arguments_on : (next after : ℕ) (r : Result ℕ CheckRefusal) → Walks next (nodes_of stands.Operand known (tree_of x.1)) (Ok after)
      → Walks after (argument_nodes known (row (args_view (drop (i + 1) xs)))) r → Walks next (argument_nodes known (row (args_view (drop i xs)))) r
  arguments_on next after r h more =
      subst (λ (l : List (Option (List ℕ) × Expr)). Walks next (argument_nodes known (row (args_view l))) r) (sym (left_at xs i x lt is))
      (on next after (nodes_of stands.Operand known (tree_of x.1)) (argument_nodes known (row (args_view (drop (i + 1) xs)))) r h more)

  pub arguments_stop : (next : ℕ) (f : CheckRefusal) → Walks next (nodes_of stands.Operand known (tree_of x.1)) (Err f) → Walks next (argument_nodes known (row (args_view (drop i xs)))) (Err f)
  arguments_stop next f h =
      subst (λ (l : List (Option (List ℕ) × Expr)). Walks next (argument_nodes known (row (args_view l))) (Err f)) (sym (left_at xs i x lt is))
      (stopped next (nodes_of stands.Operand known (tree_of x.1)) (argument_nodes known (row (args_view (drop (i + 1) xs)))) f h)

pub arguments_end : (known : Kinds) (xs : List (Option (List ℕ) × Expr)) (i next : ℕ) → length xs ≤ i → Walks next (argument_nodes known (row (args_view (drop i xs)))) (Ok next)
arguments_end known xs i next le =
    subst (λ (l : List (Option (List ℕ) × Expr)). Walks next (argument_nodes known (row (args_view l))) (Ok next)) (sym (drop_all i xs le)) (at_end next)

-- What is left of the actions of a rule, from one on.
module _ (known : Kinds) (xs : List Action) (i : ℕ) (x : Action) (lt : i < length xs) (is : x ≡ get_or xs i x) where
  pub steps_on : (behind : Kinds) (next after : ℕ) (r : Result ℕ CheckRefusal) → behind ≡ known_behind known (action_of x) → Walks next (step_nodes known (action_of x)) (Ok after)
      → Walks after (steps_nodes behind (map action_of (drop (i + 1) xs))) r → Walks next (steps_nodes known (map action_of (drop i xs))) r
  steps_on behind next after r same h more =
      subst (λ (l : List Action). Walks next (steps_nodes known (map action_of l)) r) (sym (left_at xs i x lt is))
      (on next after (step_nodes known (action_of x)) (steps_nodes (known_behind known (action_of x)) (map action_of (drop (i + 1) xs))) r h
      (subst (λ (k : Kinds). Walks after (steps_nodes k (map action_of (drop (i + 1) xs))) r) same more))

  pub steps_stop : (next : ℕ) (f : CheckRefusal) → Walks next (step_nodes known (action_of x)) (Err f) → Walks next (steps_nodes known (map action_of (drop i xs))) (Err f)
  steps_stop next f h =
      subst (λ (l : List Action). Walks next (steps_nodes known (map action_of l)) (Err f)) (sym (left_at xs i x lt is))
      (stopped next (step_nodes known (action_of x)) (steps_nodes (known_behind known (action_of x)) (map action_of (drop (i + 1) xs))) f h)

pub steps_end : (known : Kinds) (xs : List Action) (i next : ℕ) → length xs ≤ i → Walks next (steps_nodes known (map action_of (drop i xs))) (Ok next)
steps_end known xs i next le = subst (λ (l : List Action). Walks next (steps_nodes known (map action_of l)) (Ok next)) (sym (drop_all i xs le)) (at_end next)

-- The whole rule.

pub no_fault : (rule : RuleTree) (next : ℕ) → Walks 0 (rule_nodes rule) (Ok next) → first_fault rule ≡ None
unfolding first_fault
no_fault rule next h = ap (λ (l : List CheckRefusal). slice_get l 0) h.0

pub is_refused : (rule : RuleTree) (f : CheckRefusal) → Walks 0 (rule_nodes rule) (Err f) → IsChecked rule (Err f)
unfolding first_fault
is_refused rule (UnknownFunction k) h = h
is_refused rule (BadArguments k) h = h
is_refused rule (WrongType k) h = h
is_refused rule (UnknownVariable k) h = h
is_refused rule OutOfMemory h = tt
