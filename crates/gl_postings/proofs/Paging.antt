-- The page of the hits is the page of the rows.
use Rattle.std.proofs.Common.{◌≡◌, ℕ, suc, Bool, true, false, cond, ℤ, List, [], ◌∷◌, ◌++◌, length, map, filter, take, drop, refl, sym, ◌∙◌, ap}
use Rattle.std.specs.Prelude.{int_le}
use Rattle.std.proofs.lemmas.List.{take-map, drop-map, length-map, map-append}
use Rattle.std.proofs.lemmas.List.Elements.{filter-append}
use Rattle.gl_fields.specs.declared.field.Field.{Field}
use Rattle.gl_indexset.specs.declared.row.Row.{Row}
use Rattle.gl_query.specs.Tree.{Tree}
use Rattle.gl_pages.specs.declared.ask.Ask.{Ask}
use Rattle.gl_pages.specs.declared.hits.Hit.{Hit}
use Rattle.gl_pages.specs.declared.hits.Page.{Page}
use Rattle.gl_pages.specs.Hits.{page_from}
use Rattle.gl_pages.specs.Pages.{finds, put_by, in_order, cut, time_of}
use Rattle.gl_postings.specs.Found.{found, hit_of, hits_of, page_of}

put_map : {A B : Type 0} (f : A → B) (number : B → ℤ) (x : A) (ys : List A) → put_by number (f x) (map f ys) ≡ map f (put_by (λ z. number (f z)) x ys)
put_map f number x [] = refl
put_map f number x (y ∷ ys) = over (int_le (number (f x)) (number (f y))) (put_map f number x ys)
  where
    over : (b : Bool) → put_by number (f x) (map f ys) ≡ map f (put_by (λ z. number (f z)) x ys)
        → cond b (f x ∷ (f y ∷ map f ys)) (f y ∷ put_by number (f x) (map f ys)) ≡ map f (cond b (x ∷ (y ∷ ys)) (y ∷ put_by (λ z. number (f z)) x ys))
    over true h = refl
    over false h = ap (λ zs. f y ∷ zs) h

pub in_order-map : {A B : Type 0} (f : A → B) (number : B → ℤ) (xs : List A) → in_order number (map f xs) ≡ map f (in_order (λ z. number (f z)) xs)
in_order-map f number [] = refl
in_order-map f number (x ∷ xs) = ap (λ zs. put_by number (f x) zs) (in_order-map f number xs) ∙ put_map f number x (in_order (λ z. number (f z)) xs)

length-put : {A : Type 0} (number : A → ℤ) (x : A) (ys : List A) → length (put_by number x ys) ≡ suc (length ys)
length-put number x [] = refl
length-put number x (y ∷ ys) = over (int_le (number x) (number y)) (length-put number x ys)
  where
    over : (b : Bool) → length (put_by number x ys) ≡ suc (length ys) → length (cond b (x ∷ (y ∷ ys)) (y ∷ put_by number x ys)) ≡ suc (suc (length ys))
    over true h = refl
    over false h = ap suc h

length-in_order : {A : Type 0} (number : A → ℤ) (xs : List A) → length (in_order number xs) ≡ length xs
length-in_order number [] = refl
length-in_order number (x ∷ xs) = length-put number x (in_order number xs) ∙ ap suc (length-in_order number xs)

map_twice : {A B C : Type 0} (f : A → B) (g : B → C) (xs : List A) → map g (map f xs) ≡ map (λ x. g (f x)) xs
map_twice f g [] = refl
map_twice f g (x ∷ xs) = ap (λ zs. g (f x) ∷ zs) (map_twice f g xs)

abbrev passing : Ask → Tree → List Row → List Row
passing ask t rows = filter (λ (row : Row). finds ask t row.streams row.fields) rows

total_is : (ask : Ask) (t : Tree) (rows : List Row) → length (map hit_of (passing ask t rows)) ≡ length (found ask t rows)
total_is ask t rows = length-map (passing ask t rows) hit_of ∙ sym (length-in_order (λ (row : Row). time_of row.fields) (passing ask t rows))

cut_map : {A B : Type 0} (ask : Ask) (f : A → B) (xs : List A) → cut ask (map f xs) ≡ map f (cut ask xs)
cut_map ask f xs = ap (take ask.limit) (drop-map f ask.offset xs) ∙ take-map f ask.limit (drop ask.offset xs)

rows_are : (ask : Ask) (t : Tree) (rows : List Row)
    → map (λ (hit : Hit). hit.position) (cut ask (in_order (λ (hit : Hit). hit.time) (map hit_of (passing ask t rows)))) ≡ map (λ (row : Row). row.position) (cut ask (found ask t rows))
rows_are ask t rows =
    ap (λ hits. map (λ (hit : Hit). hit.position) (cut ask hits)) (in_order-map hit_of (λ (hit : Hit). hit.time) (passing ask t rows))
    ∙ ap (map (λ (hit : Hit). hit.position)) (cut_map ask hit_of (found ask t rows))
    ∙ map_twice hit_of (λ (hit : Hit). hit.position) (cut ask (found ask t rows))

abbrev page_with : ℕ → List ℕ → Page
page_with total rows = record { total = total; rows = rows }

pub page_is : (ask : Ask) (t : Tree) (rows : List Row) → page_from ask (hits_of ask t rows) ≡ page_of ask t rows
unfolding page_from page_of hits_of
page_is ask t rows =
    ap (λ n. page_with n (map (λ (hit : Hit). hit.position) (cut ask (in_order (λ (hit : Hit). hit.time) (map hit_of (passing ask t rows)))))) (total_is ask t rows)
    ∙ ap (page_with (length (found ask t rows))) (rows_are ask t rows)

abbrev hit_with : ℤ → ℕ → Hit
hit_with time position = record { time = time; position = position }

-- One row more.

pub hits_none : (ask : Ask) (t : Tree) → hits_of ask t [] ≡ []
unfolding hits_of
hits_none ask t = refl

pub hits_joined : (ask : Ask) (t : Tree) (xs ys : List Row) → hits_of ask t (xs ++ ys) ≡ hits_of ask t xs ++ hits_of ask t ys
unfolding hits_of
hits_joined ask t xs ys =
    ap (map hit_of) (filter-append (λ (row : Row). finds ask t row.streams row.fields) xs ys) ∙ map-append hit_of (passing ask t xs) (passing ask t ys)

pub hits_one : (ask : Ask) (t : Tree) (row : Row)
    → hits_of ask t (row ∷ []) ≡ cond (finds ask t row.streams row.fields) (record { time = time_of row.fields; position = row.position } ∷ []) []
unfolding hits_of
hits_one ask t row = over (finds ask t row.streams row.fields)
  where
    over : (b : Bool) → map hit_of (cond b (row ∷ []) []) ≡ cond b (hit_of row ∷ []) []
    over true = refl
    over false = refl

pub hits_met : (ask : Ask) (t : Tree) (row : Row) (streams : List ℕ) (fields : List Field) → streams ≡ row.streams → fields ≡ row.fields
    → cond (finds ask t streams fields) (record { time = time_of fields; position = row.position } ∷ []) [] ≡ hits_of ask t (row ∷ [])
hits_met ask t row streams fields same alike =
    ap (λ ids. cond (finds ask t ids fields) (hit_with (time_of fields) row.position ∷ []) []) same
    ∙ ap (λ held. cond (finds ask t row.streams held) (hit_with (time_of held) row.position ∷ []) []) alike ∙ sym (hits_one ask t row)
