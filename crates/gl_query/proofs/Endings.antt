-- Where a query may end.
use Rattle.std.proofs.Common.{◌≡◌, ℕ, ◌+◌, ◌<◌, ◌==◌, Bool, true, false, cond, List, [], ◌∷◌, length, Option, Some, None, refl, sym, ap, ◌∙◌, arith, length-append}
use Rattle.std.proofs.lemmas.Bool.Decides.{nat_tests}
use Rattle.gl_query.specs.declared.term.Term.TheVariants.{All}
use Rattle.gl_query.specs.declared.builder.Level.{Level}
use Rattle.gl_query.specs.declared.step.Want.{Want}
use Rattle.gl_query.specs.declared.step.Want.TheVariants.{Start, Operator}
use Rattle.gl_query.specs.Tree.{Tree, leaf}
use Rattle.gl_query.specs.Refusals.{may_end}
use Rattle.gl_query.specs.Building.{Layer, Building, open_before, outer_nodes, outer_levels, level_of}
use Rattle.gl_query.specs.QueryReading.{tree_of, ended, position_of, units, and_then, built_from, read_tree}
use Rattle.std.proofs.Common.{◌≤◌, min, nat_lt}
use Rattle.gl_query.specs.declared.token.Token.{Token}
use Rattle.gl_query.specs.Steps.{step_of}
use Rattle.gl_query.specs.Refusals.{refused_behind, refused_from, within_limit, start, refusal_of}
use Rattle.gl_query.specs.Tokens.{tokens_of}
use Rattle.gl_query.specs.Building.{begun, grown}
use Rattle.gl_query.specs.Grammar.{IsQuery}
use Rattle.gl_query.proofs.Steps.{moved_grown}
use Rattle.gl_query.proofs.Complete.{query_built}
use Rattle.std.proofs.Common.{option_map, ◌≢◌}
use Rattle.gl_query.specs.declared.query.QueryRefusal.{QueryRefusal}
use Rattle.gl_query.specs.declared.query.QueryRefusal.TheVariants.{BadQuery, OutOfMemory}
use Rattle.gl_query.specs.Refused.{TellsRefusal}

pub starts : (b : Building) (w : Want) → b.want ≡ w → w ≡ Start → b.outer ≡ [] → ended b ≡ Some (leaf All)
starts b w e s o =
    ap (λ v. cond (may_end v (open_before b.outer)) (Some (tree_of v b.here)) None) (e ∙ s)
    ∙ ap (λ l. cond (may_end Start (open_before l)) (Some (leaf All)) None) o

open_ends : (w : Want) (n : ℕ) (ns : List ℕ) → may_end w (n ∷ ns) ≡ false
open_ends Start n ns = refl
open_ends Operator n ns = refl
open_ends _ n ns = refl

none_ended : (b : Bool) (t : Tree) → b ≡ false → cond b (Some t) None ≡ None
none_ended true t h = cc h
none_ended false t h = refl

ended_open : (w : Want) (here : Layer) (outer : List Layer) → (length (outer_levels outer) == 0) ≡ false → cond (may_end w (open_before outer)) (Some (tree_of w here)) None ≡ None
ended_open w here [] h = cc h
ended_open w here (l ∷ outer) h = none_ended (may_end w (open_before (l ∷ outer))) (tree_of w here) (open_ends w l.negations (open_before outer))

pub not_ended : (b : Building) (levels : List Level) → levels ≡ outer_levels b.outer → (length levels == 0) ≡ false → ended b ≡ None
not_ended b levels e h = ended_open b.want b.here b.outer (ap (λ ls. length ls == 0) (sym e) ∙ h)

pub none_outer : (levels : List Level) (outer : List Layer) → levels ≡ outer_levels outer → (length levels == 0) ≡ true → outer ≡ []
none_outer levels [] e h = refl
none_outer levels (l ∷ outer) e h =
    let n : length levels ≡ length (outer_levels outer) + 1 = ap length e ∙ length-append (outer_levels outer) (level_of (length (outer_nodes outer)) l ∷ []) in
    absurd (some (length levels) (length (outer_levels outer)) n h)
  where
    some : (m n : ℕ) → m ≡ n + 1 → (m == 0) ≡ true → ⊥
    some m n e h = grind (arith, nat_tests)

either_end : {A : Type 0} (m : Bool) (x : A) (end : ℕ) → cond m (Some x) None ≡ None → cond m None (Some end) ≡ Some end
either_end true x end h = cc h
either_end false x end h = refl

or_end : {A : Type 0} (m : Bool) (x y : A) (end : ℕ) → cond m (Some x) None ≡ Some y → ◌≡◌ {A = Option ℕ} (cond m None (Some end)) None
or_end true x y end h = refl
or_end false x y end h = cc h

ended_none : (b : Building) (end : ℕ) → ended b ≡ None → refused_from (position_of b) [] end ≡ Some end
unfolding refused_from
ended_none b end h = either_end (may_end b.want (open_before b.outer)) (tree_of b.want b.here) end h

ended_some : (b : Building) (end : ℕ) (t : Tree) → ended b ≡ Some t → refused_from (position_of b) [] end ≡ None
unfolding refused_from
ended_some b end t h = or_end (may_end b.want (open_before b.outer)) (tree_of b.want b.here) t end h

-- the text ends too early
pub ends_early : (text : List ℕ) (b : Building) → refused_from start (tokens_of text) (length text) ≡ refused_from (position_of b) [] (length text) → ended b ≡ None → refusal_of text ≡ Some (min (length text) 4096)
ends_early text b e h = ap (λ o. within_limit (length text) o) (e ∙ ended_none b (length text) h)

limit_some : (len : ℕ) → 4096 < len → within_limit len None ≡ Some (min len 4096)
limit_some len h = long (nat_lt 4096 len) (grind (arith, nat_tests))
  where
    long : (x : Bool) → x ≡ true → cond x (Some 4096) None ≡ Some (min len 4096)
    long true e = ap Some (let q : 4096 ≡ min len 4096 = omega arith in q)
    long false e = cc e

limit_none : (len : ℕ) → len ≤ 4096 → within_limit len None ≡ None
limit_none len h = short (nat_lt 4096 len) (grind (arith, nat_tests))
  where
    short : (x : Bool) → x ≡ false → ◌≡◌ {A = Option ℕ} (cond x (Some 4096) None) None
    short true e = cc e
    short false e = refl

-- the text is too long
pub is_long : (text : List ℕ) (b : Building) (t : Tree) → refused_from start (tokens_of text) (length text) ≡ refused_from (position_of b) [] (length text) → ended b ≡ Some t → 4096 < length text
    → refusal_of text ≡ Some (min (length text) 4096)
is_long text b t e h long = ap (λ o. within_limit (length text) o) (e ∙ ended_some b (length text) t h) ∙ limit_some (length text) long

pub is_taken : (text : List ℕ) (b : Building) (t : Tree) → refused_from start (tokens_of text) (length text) ≡ refused_from (position_of b) [] (length text) → ended b ≡ Some t → length text ≤ 4096
    → refusal_of text ≡ None
is_taken text b t e h short = ap (λ o. within_limit (length text) o) (e ∙ ended_some b (length text) t h) ∙ limit_none (length text) short

pub is_built : (ts : List Token) (b : Building) (t : Tree) → built_from begun ts ≡ Some b → ended b ≡ Some t → read_tree ts ≡ Some t
is_built ts b t e h = ap (λ o. and_then o ended) e ∙ h

goes : (t : Tree) (end at : ℕ) (ts : List (ℕ × Token)) (o : Option Building) → ((c : Building) → and_then (built_from c (units ts)) ended ≡ Some t → refused_from (position_of c) ts end ≡ None)
    → and_then (and_then o (λ c. built_from c (units ts))) ended ≡ Some t → refused_behind (option_map position_of o) at (λ q. refused_from q ts end) ≡ None
goes t end at ts None more h = cc h
goes t end at ts (Some c) more h = more c h

-- what builds a tree isn't refused
not_refused : (ts : List (ℕ × Token)) (b : Building) (t : Tree) (end : ℕ) → and_then (built_from b (units ts)) ended ≡ Some t → refused_from (position_of b) ts end ≡ None
unfolding refused_from built_from
not_refused [] b t end h = ended_some b end t h
not_refused (x ∷ ts) b t end h =
    ap (λ o. refused_behind o x.0 (λ q. refused_from q ts end)) (moved_grown (step_of b.want x.1) b)
    ∙ goes t end x.0 ts (grown (step_of b.want x.1) b) (λ c i. not_refused ts c t end i) h

-- a query of the grammar isn't refused
pub query_taken : (text : List ℕ) (t : Tree) → IsQuery (units (tokens_of text)) t → length text ≤ 4096 → refusal_of text ≡ None
query_taken text t q short = ap (λ o. within_limit (length text) o) (not_refused (tokens_of text) begun t (length text) (query_built _ t q)) ∙ limit_none (length text) short

pub one_tree : (ts : List Token) (t u : Tree) → IsQuery ts t → read_tree ts ≡ Some u → u ≡ t
one_tree ts t u q h = let e = sym h ∙ query_built ts t q in (cc)

pub no_memory : (e : QueryRefusal) (refused : Option ℕ) → (e ≢ OutOfMemory → TellsRefusal e refused) → refused ≡ None → e ≡ OutOfMemory
no_memory (BadQuery at) refused tells none = let x = (tells (λ h. (cc h))).1 in cc (x, none)
no_memory OutOfMemory refused tells none = refl
