-- Which ids stand among those that were put in.
use Rattle.std.proofs.Common.{◌≡◌, ℕ, Bool, true, false, not, ◌&&◌, ◌||◌, ◌==◌, cond, List, [], ◌∷◌, filter, fold, map, nat_lt, eqb-true, refl, ap, ◌∙◌, arith}
use Rattle.std.specs.List.{list_any}
use Rattle.std.proofs.lemmas.Bool.Decides.{nat_tests}
use Rattle.std.proofs.lemmas.List.Folds.{list_any-append}
use Rattle.gl_fields.specs.declared.field.Field.{Field}
use Rattle.gl_streams.specs.declared.stream.Stream.{Stream}
use Rattle.gl_streams.specs.Ids.{matching, one_removes, with_id, ids_of, streams_of, has_id, is_given}

either : (b e : Bool) (x : ℕ) (id : ℕ) (rest : List ℕ) → has_id id (cond b (x ∷ rest) rest) ≡ ((b && (x == id)) || has_id id rest)
either true e x id rest = refl
either false e x id rest = refl

mixed : (at here e rest : Bool) → (e ≡ true → at ≡ here) → ((at && e) || (here && rest)) ≡ (here && (e || rest))
mixed true true true rest h = refl
mixed true false true rest h = cc (h refl)
mixed false true true rest h = cc (h refl)
mixed false false true rest h = refl
mixed true here false rest h = refl
mixed false here false rest h = refl

no_and : (b : Bool) → false ≡ (b && false)
no_and true = refl
no_and false = refl

filter_has : (id : ℕ) (p : ℕ → Bool) (ids : List ℕ) → has_id id (filter p ids) ≡ (p id && has_id id ids)
filter_has id p [] = no_and (p id)
filter_has id p (x ∷ xs) =
    either (p x) true x id (filter p xs)
    ∙ ap (λ t. (p x && (x == id)) || t) (filter_has id p xs)
    ∙ mixed (p x) (p id) (x == id) (has_id id xs) (λ e. ap p (eqb-true x id e))

ordered : (new id : ℕ) (has : Bool) → ((nat_lt id new && has) || ((new == id) || (nat_lt new id && has))) ≡ (has || (new == id))
ordered new id true = grind (arith, nat_tests)
ordered new id false = grind (arith, nat_tests)

has_with : (id : ℕ) (ids : List ℕ) (new : ℕ) → has_id id (with_id ids new) ≡ (has_id id ids || (new == id))
has_with id ids new =
    list_any-append (λ other. other == id) (filter (λ other. nat_lt other new) ids) (new ∷ filter (λ other. nat_lt new other) ids)
    ∙ ap (λ t. t || ((new == id) || has_id id (filter (λ other. nat_lt new other) ids))) (filter_has id (λ other. nat_lt other new) ids)
    ∙ ap (λ t. (nat_lt id new && has_id id ids) || ((new == id) || t)) (filter_has id (λ other. nat_lt new other) ids)
    ∙ ordered new id (has_id id ids)

or_assoc : (a b c : Bool) → ((a || b) || c) ≡ (a || (b || c))
or_assoc true b c = refl
or_assoc false b c = refl

or_none : (a : Bool) → a ≡ (a || false)
or_none true = refl
or_none false = refl

has_along : (id : ℕ) (ids news : List ℕ) → has_id id (fold with_id ids news) ≡ (has_id id ids || has_id id news)
has_along id ids [] = or_none (has_id id ids)
has_along id ids (new ∷ news) =
    has_along id (with_id ids new) news
    ∙ ap (λ t. t || has_id id news) (has_with id ids new)
    ∙ or_assoc (has_id id ids) (new == id) (has_id id news)

has_mapped : (id : ℕ) (streams : List Stream) → has_id id (map (λ stream. stream.id) streams) ≡ list_any (λ stream. stream.id == id) streams
has_mapped id [] = refl
has_mapped id (stream ∷ streams) = ap (λ t. (stream.id == id) || t) (has_mapped id streams)

and_true : (b : Bool) → b ≡ (b && true)
and_true true = refl
and_true false = refl

chosen_has : (id : ℕ) (ids : List ℕ) (given removes : Bool) → has_id id ids ≡ given → has_id id (cond removes ids (with_id ids 1)) ≡ (given || ((1 == id) && not removes))
chosen_has id ids given true h = h ∙ or_none given ∙ ap (λ t. given || t) (no_and (1 == id))
chosen_has id ids given false h = has_with id ids 1 ∙ ap (λ t. t || (1 == id)) h ∙ ap (λ t. given || t) (and_true (1 == id))

pub exactly_given : (streams : List Stream) (fields : List Field) (id : ℕ) → has_id id (streams_of streams fields) ≡ is_given id streams fields
exactly_given streams fields id =
    let found = matching streams fields in
    chosen_has id (ids_of found) (list_any (λ stream. stream.id == id) found) (one_removes found)
    (has_along id [] (map (λ stream. stream.id) found) ∙ has_mapped id found)
