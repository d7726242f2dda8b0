-- Spans of positions and the frontier: the first position that is open, and what a cut leaves.
use Rattle.std.proofs.Common.{◌≡◌, ◌⊎◌, inl, ℕ, ◌<◌, ◌≤◌, Bool, true, false, ◌&&◌, ◌||◌, cond, nat_le, nat_lt, min, max, List, [], ◌∷◌, map, filter, find, fold, Option, Some, None, option_map, refl, ◌∙◌, ap, arith}
use Rattle.std.specs.List.{All, list_any}
use Rattle.std.proofs.lemmas.Bool.Decides.{nat_tests}
use Rattle.gl_pool.specs.declared.mark.Mark.{Mark}
use Rattle.gl_pool.specs.declared.mark.Claim.{Claim}
use Rattle.gl_pool.specs.declared.span.Span.{Span}
use Rattle.gl_pool.specs.Claims.{lies_in}
use Rattle.gl_pool.specs.Kept.{is_open, spans_over, cut_at}
use Rattle.std.proofs.lemmas.List.Elements.{All-head, All-tail, All-cons}

-- the span that is found
abbrev pub end_over : ℕ → List Span → Option ℕ
end_over p spans = option_map (λ (s : Span). s.end) (find (spans_over p) spans)

none_cons : (b : Bool) (s : Span) (o : Option Span) (rest : Bool) → option_map (λ (x : Span). x.end) (cond b (Some s) o) ≡ None
    → (option_map (λ (x : Span). x.end) o ≡ None → rest ≡ false) → (b || rest) ≡ false
none_cons true s o rest none so_far = cc none
none_cons false s o rest none so_far = so_far none

pub none_over : (p : ℕ) (spans : List Span) → end_over p spans ≡ None → list_any (spans_over p) spans ≡ false
none_over p [] none = refl
none_over p (s ∷ spans) none = none_cons (spans_over p s) s (find (spans_over p) spans) (list_any (spans_over p) spans) none (none_over p spans)

later : (b c : Bool) → c ≡ true → (b || c) ≡ true
later true c h = refl
later false c h = h

earlier : (b c : Bool) → b ≡ true → (b || c) ≡ true
earlier true c h = refl
earlier false c h = cc h

over_low : (p e : ℕ) (s : Span) → spans_over p s ≡ true → s.end ≡ e → p < e
over_low p e s over h = grind (arith, nat_tests)

over_more : (p e q : ℕ) (s : Span) → spans_over p s ≡ true → s.end ≡ e → p ≤ q → q < e → spans_over q s ≡ true
over_more p e q s over h low high = grind (arith, nat_tests)

some_is : {X : Type 0} (x y : X) → ◌≡◌ {A = Option X} (Some x) (Some y) → x ≡ y
some_is x y h = cc h

over_cons : (b : Bool) (p e : ℕ) (s : Span) (spans : List Span) → spans_over p s ≡ b
    → option_map (λ (x : Span). x.end) (cond b (Some s) (find (spans_over p) spans)) ≡ Some e
    → (end_over p spans ≡ Some e → (p < e) × ((q : ℕ) → p ≤ q → q < e → list_any (spans_over q) spans ≡ true))
    → (p < e) × ((q : ℕ) → p ≤ q → q < e → list_any (spans_over q) (s ∷ spans) ≡ true)
over_cons true p e s spans is found so_far =
    let end_is : s.end ≡ e = some_is s.end e found in
    (over_low p e s is end_is, λ q low high. earlier (spans_over q s) (list_any (spans_over q) spans) (over_more p e q s is end_is low high))
over_cons false p e s spans is found so_far =
    ((so_far found).0, λ q low high. later (spans_over q s) (list_any (spans_over q) spans) ((so_far found).1 q low high))

pub some_over : (p e : ℕ) (spans : List Span) → end_over p spans ≡ Some e
    → (p < e) × ((q : ℕ) → p ≤ q → q < e → list_any (spans_over q) spans ≡ true)
some_over p e [] found = cc found
some_over p e (s ∷ spans) found = over_cons (spans_over p s) p e s spans refl found (some_over p e spans)

-- the least position that is open
abbrev pub least_open : ℕ → List Span → ℕ
least_open frontier spans = fold (λ (least : ℕ) (s : Span). min least s.first) frontier spans

pub least_open-le : (frontier : ℕ) (spans : List Span) → least_open frontier spans ≤ frontier
least_open-le frontier [] = omega arith
least_open-le frontier (s ∷ spans) = omega (arith, least_open-le (min frontier s.first) spans)

below_cons : (p frontier : ℕ) (s : Span) (any : Bool) → (nat_le (min frontier s.first) p || any) ≡ false → (nat_le frontier p || (spans_over p s || any)) ≡ false
below_cons p frontier s any h = grind (arith, nat_tests)

pub below_least : (frontier : ℕ) (spans : List Span) (p : ℕ) → p < least_open frontier spans → is_open frontier spans p ≡ false
below_least frontier [] p lt = grind (arith, nat_tests)
below_least frontier (s ∷ spans) p lt = below_cons p frontier s (list_any (spans_over p) spans) (below_least (min frontier s.first) spans p lt)

at_cons : (n frontier : ℕ) (s : Span) (any : Bool) → s.first < s.end → n ≤ min frontier s.first → (nat_le (min frontier s.first) n || any) ≡ true
    → (nat_le frontier n || (spans_over n s || any)) ≡ true
at_cons n frontier s any some le h = grind (arith, nat_tests)

pub least_is_open : (frontier : ℕ) (spans : List Span) → All (λ (s : Span). s.first < s.end) spans → is_open frontier spans (least_open frontier spans) ≡ true
least_is_open frontier [] all = grind (arith, nat_tests)
least_is_open frontier (s ∷ spans) all =
    at_cons (least_open (min frontier s.first) spans) frontier s (list_any (spans_over (least_open (min frontier s.first) spans)) spans)
    (All-head (λ (x : Span). x.first < x.end) s spans all) (least_open-le (min frontier s.first) spans)
    (least_is_open (min frontier s.first) spans (All-tail (λ (x : Span). x.first < x.end) s spans all))

-- the least position of the claims
abbrev pub holds_at : ℕ → Claim → Bool
holds_at p claim = lies_in p claim.mark

abbrev pub least_claimed : ℕ → List Claim → ℕ
least_claimed limit claims = fold (λ (least : ℕ) (c : Claim). min least c.mark.first) limit claims

pub least_claimed-le : (limit : ℕ) (claims : List Claim) → least_claimed limit claims ≤ limit
least_claimed-le limit [] = omega arith
least_claimed-le limit (c ∷ claims) = omega (arith, least_claimed-le (min limit c.mark.first) claims)

before_cons : (p : ℕ) (m : Mark) (any : Bool) → p < m.first → any ≡ false → (lies_in p m || any) ≡ false
before_cons p m any lt h = grind (arith, nat_tests)

pub none_before : (limit : ℕ) (claims : List Claim) (p : ℕ) → p < least_claimed limit claims → list_any (holds_at p) claims ≡ false
none_before limit [] p lt = refl
none_before limit (c ∷ claims) p lt =
    before_cons p c.mark (list_any (holds_at p) claims) (omega (arith, least_claimed-le (min limit c.mark.first) claims))
    (none_before (min limit c.mark.first) claims p lt)

first_or_later : (n limit : ℕ) (m : Mark) (any : Bool) → 0 < m.count → (n ≡ min limit m.first) ⊎ (any ≡ true) → (n ≡ limit) ⊎ ((lies_in n m || any) ≡ true)
first_or_later n limit m any some h = grind (arith, nat_tests)

pub least_is_claimed : (limit : ℕ) (claims : List Claim) → All (λ (c : Claim). 0 < c.mark.count) claims
    → (least_claimed limit claims ≡ limit) ⊎ (list_any (holds_at (least_claimed limit claims)) claims ≡ true)
least_is_claimed limit [] all = inl refl
least_is_claimed limit (c ∷ claims) all =
    let n = least_claimed (min limit c.mark.first) claims in
    first_or_later n limit c.mark (list_any (holds_at n) claims) (All-head (λ (x : Claim). 0 < x.mark.count) c claims all)
    (least_is_claimed (min limit c.mark.first) claims (All-tail (λ (x : Claim). 0 < x.mark.count) c claims all))

-- what is left of spans from a position on
abbrev pub cut_spans : ℕ → List Span → List Span
cut_spans end spans = map (cut_at end) (filter (λ (s : Span). nat_lt end s.end) spans)

keeps : (end p : ℕ) (s : Span) (any rest : Bool) → nat_lt end s.end ≡ true → any ≡ (nat_le end p && rest)
    → ((nat_le (max s.first end) p && nat_lt p s.end) || any) ≡ (nat_le end p && ((nat_le s.first p && nat_lt p s.end) || rest))
keeps end p s any rest is so_far = grind (arith, nat_tests)

drops : (end p : ℕ) (s : Span) (any rest : Bool) → nat_lt end s.end ≡ false → any ≡ (nat_le end p && rest)
    → any ≡ (nat_le end p && ((nat_le s.first p && nat_lt p s.end) || rest))
drops end p s any rest is so_far = grind (arith, nat_tests)

over_cut_cons : (b : Bool) (end p : ℕ) (s : Span) (spans : List Span) → nat_lt end s.end ≡ b
    → list_any (spans_over p) (cut_spans end spans) ≡ (nat_le end p && list_any (spans_over p) spans)
    → list_any (spans_over p) (map (cut_at end) (cond b (s ∷ filter (λ (x : Span). nat_lt end x.end) spans) (filter (λ (x : Span). nat_lt end x.end) spans)))
    ≡ (nat_le end p && (spans_over p s || list_any (spans_over p) spans))
over_cut_cons true end p s spans is so_far = keeps end p s (list_any (spans_over p) (cut_spans end spans)) (list_any (spans_over p) spans) is so_far
over_cut_cons false end p s spans is so_far = drops end p s (list_any (spans_over p) (cut_spans end spans)) (list_any (spans_over p) spans) is so_far

pub over_cut : (end p : ℕ) (spans : List Span) → list_any (spans_over p) (cut_spans end spans) ≡ (nat_le end p && list_any (spans_over p) spans)
over_cut end p [] = none (nat_le end p)
  where
    none : (b : Bool) → false ≡ (b && false)
    none true = refl
    none false = refl
over_cut end p (s ∷ spans) = over_cut_cons (nat_lt end s.end) end p s spans refl (over_cut end p spans)

pub open_cut : (frontier end p : ℕ) (spans : List Span) → is_open (max frontier end) (cut_spans end spans) p ≡ (nat_le end p && is_open frontier spans p)
open_cut frontier end p spans = ap (λ b. nat_le (max frontier end) p || b) (over_cut end p spans) ∙ joined (list_any (spans_over p) spans)
  where
    joined : (any : Bool) → (nat_le (max frontier end) p || (nat_le end p && any)) ≡ (nat_le end p && (nat_le frontier p || any))
    joined true = grind (arith, nat_tests)
    joined false = grind (arith, nat_tests)

cut_some : (end : ℕ) (s : Span) → nat_lt end s.end ≡ true → s.first < s.end → max s.first end < s.end
cut_some end s more some = grind (arith, nat_tests)

some_cons : (b : Bool) (end : ℕ) (s : Span) (spans : List Span) → nat_lt end s.end ≡ b → s.first < s.end
    → All (λ (x : Span). x.first < x.end) (cut_spans end spans)
    → All (λ (x : Span). x.first < x.end) (map (cut_at end) (cond b (s ∷ filter (λ (x : Span). nat_lt end x.end) spans) (filter (λ (x : Span). nat_lt end x.end) spans)))
some_cons true end s spans is some so_far = All-cons (λ (x : Span). x.first < x.end) (cut_at end s) (cut_spans end spans) (cut_some end s is some) so_far
some_cons false end s spans is some so_far = so_far

-- a cut leaves no span without a position
pub all_cut : (end : ℕ) (spans : List Span) → All (λ (s : Span). s.first < s.end) spans → All (λ (s : Span). s.first < s.end) (cut_spans end spans)
all_cut end [] all = all
all_cut end (s ∷ spans) all =
    some_cons (nat_lt end s.end) end s spans refl (All-head (λ (x : Span). x.first < x.end) s spans all)
    (all_cut end spans (All-tail (λ (x : Span). x.first < x.end) s spans all))
