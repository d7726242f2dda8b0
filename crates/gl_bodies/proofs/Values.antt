-- The tokens of arrays and objects whose parts are written in a loop: what is written and what is left are all.
use Rattle.std.proofs.Common.{◌≡◌, ℕ, ◌+◌, ◌<◌, ◌≤◌, Bool, true, false, cond, List, [], ◌∷◌, ◌++◌, length, get_or, map, filter, drop, refl, sym, ◌∙◌, ap, subst}
use Rattle.std.proofs.lemmas.List.{append_assoc, drop_more, drop_all}
use Rattle.json.specs.Token.{Token, key, end_array, end_object}
use Rattle.json.specs.Tree.{json_tokens, items_tokens, members_tokens}
use Rattle.json.specs.Written.{Written}
use Rattle.serde_json.specs.Data.{Data}
use Rattle.serde_json.specs.View.{items_of}
use Rattle.serde_json.specs.Written.{outline, items_outline, members_outline}
use Rattle.gl_bodies.specs.Json.{Member, members_in}
use Rattle.gl_bodies.specs.Writing.{Adds}

-- the tokens of items, and the end of their array
abbrev pub rest_of : {A : Type 0} → (A → Data) → List A → List Token
rest_of form xs = items_tokens (items_outline (items_of (map form xs)))

-- the tokens of members, and the end of their object
abbrev pub members_rest : {A : Type 0} → (A → Member) → List A → List Token
members_rest form xs = members_tokens (members_outline (members_in (map form xs)))

-- what is written and what is left are all
abbrev pub Goes : Written → Written → List Token → List Token → Type 0
Goes start now rest all = (now.before ≡ start.before) × (now.tokens ++ rest ≡ start.tokens ++ all)

pub begun : (start now : Written) (t : Token) (rest : List Token) → Adds start now (t ∷ []) → Goes start now rest (t ∷ rest)
begun start now t rest adds = (adds.0, ap (λ ts. ts ++ rest) adds.1 ∙ append_assoc start.tokens (t ∷ []) rest)

goes_on : (start old new : Written) (ts rest all : List Token) → Adds old new ts → Goes start old (ts ++ rest) all → Goes start new rest all
goes_on start old new ts rest all adds goes =
    (adds.0 ∙ goes.0, ap (λ xs. xs ++ rest) adds.1 ∙ append_assoc old.tokens ts rest ∙ goes.1)

pub item_more : {A : Type 0} (form : A → Data) (xs : List A) (k : ℕ) (d x : A) (start old new : Written) (all : List Token) → k < length xs → x ≡ get_or xs k d
    → Adds old new (json_tokens (outline (form x))) → Goes start old (rest_of form (drop k xs)) all → Goes start new (rest_of form (drop (k + 1) xs)) all
item_more form xs k d x start old new all lt at adds goes =
    let behind = rest_of form (drop (k + 1) xs) in
    let here : json_tokens (outline (form x)) ++ behind ≡ rest_of form (drop k xs)
    = ap (λ y. json_tokens (outline (form y)) ++ behind) at ∙ ap (rest_of form) (sym (drop_more xs k d lt)) in
    goes_on start old new (json_tokens (outline (form x))) behind all adds (goes.0, ap (λ ts. old.tokens ++ ts) here ∙ goes.1)

pub member_more : {A : Type 0} (form : A → Member) (xs : List A) (k : ℕ) (d x : A) (start old new : Written) (all : List Token) → k < length xs → x ≡ get_or xs k d
    → Adds old new (key (form x).0 ∷ json_tokens (outline (form x).1)) → Goes start old (members_rest form (drop k xs)) all
    → Goes start new (members_rest form (drop (k + 1) xs)) all
member_more form xs k d x start old new all lt at adds goes =
    let behind = members_rest form (drop (k + 1) xs) in
    let one = key (form x).0 ∷ json_tokens (outline (form x).1) in
    let here : one ++ behind ≡ members_rest form (drop k xs)
    = ap (λ y. key (form y).0 ∷ (json_tokens (outline (form y).1) ++ behind)) at ∙ ap (members_rest form) (sym (drop_more xs k d lt)) in
    goes_on start old new one behind all adds (goes.0, ap (λ ts. old.tokens ++ ts) here ∙ goes.1)

-- one that passes a test
pub kept_more : {A : Type 0} (form : A → Data) (test : A → Bool) (xs : List A) (k : ℕ) (d x : A) (start old new : Written) (all : List Token) → k < length xs → x ≡ get_or xs k d
    → test x ≡ true → Adds old new (json_tokens (outline (form x)))
    → Goes start old (rest_of form (filter test (drop k xs))) all → Goes start new (rest_of form (filter test (drop (k + 1) xs))) all
kept_more form test xs k d x start old new all lt at passes adds goes =
    let left = filter test (drop (k + 1) xs) in
    let behind = rest_of form left in
    let here : json_tokens (outline (form x)) ++ behind ≡ rest_of form (filter test (drop k xs))
    = ap (λ b. rest_of form (cond b (x ∷ left) left)) (sym passes) ∙ ap (λ y. rest_of form (cond (test y) (y ∷ left) left)) at
    ∙ ap (λ ys. rest_of form (filter test ys)) (sym (drop_more xs k d lt)) in
    goes_on start old new (json_tokens (outline (form x))) behind all adds (goes.0, ap (λ ts. old.tokens ++ ts) here ∙ goes.1)

-- one that doesn't
pub left_out : {A : Type 0} (form : A → Data) (test : A → Bool) (xs : List A) (k : ℕ) (d x : A) (start old : Written) (all : List Token) → k < length xs → x ≡ get_or xs k d
    → test x ≡ false
    → Goes start old (rest_of form (filter test (drop k xs))) all → Goes start old (rest_of form (filter test (drop (k + 1) xs))) all
left_out form test xs k d x start old all lt at fails goes =
    let left = filter test (drop (k + 1) xs) in
    let here : rest_of form left ≡ rest_of form (filter test (drop k xs))
    = ap (λ b. rest_of form (cond b (x ∷ left) left)) (sym fails) ∙ ap (λ y. rest_of form (cond (test y) (y ∷ left) left)) at
    ∙ ap (λ ys. rest_of form (filter test ys)) (sym (drop_more xs k d lt)) in
    (goes.0, ap (λ ts. old.tokens ++ ts) here ∙ goes.1)

-- the same of another value that is equal
pub goes_as : (start now later : Written) (rest all : List Token) → later ≡ now → Goes start now rest all → Goes start later rest all
goes_as start now later rest all is goes = subst (λ (w : Written). Goes start w rest all) (sym is) goes

-- the tokens of items that a function gave
pub rest_over : {A B : Type 0} (form : B → Data) (over : A → B) (xs : List A) → rest_of (λ x. form (over x)) xs ≡ rest_of form (map over xs)
rest_over form over [] = refl
rest_over form over (x ∷ xs) = ap (λ ts. json_tokens (outline (form (over x))) ++ ts) (rest_over form over xs)

-- The end.

pub array_ends : {A : Type 0} (form : A → Data) (xs : List A) (k : ℕ) (start old new : Written) (all : List Token) → length xs ≤ k
    → Adds old new (end_array ∷ []) → Goes start old (rest_of form (drop k xs)) all → Adds start new all
array_ends form xs k start old new all past adds goes =
    (adds.0 ∙ goes.0, adds.1 ∙ ap (λ ys. old.tokens ++ rest_of form ys) (sym (drop_all k xs past)) ∙ goes.1)

pub kept_ends : {A : Type 0} (form : A → Data) (test : A → Bool) (xs : List A) (k : ℕ) (start old new : Written) (all : List Token) → length xs ≤ k
    → Adds old new (end_array ∷ []) → Goes start old (rest_of form (filter test (drop k xs))) all → Adds start new all
kept_ends form test xs k start old new all past adds goes =
    (adds.0 ∙ goes.0, adds.1 ∙ ap (λ ys. old.tokens ++ rest_of form (filter test ys)) (sym (drop_all k xs past)) ∙ goes.1)

pub object_ends : {A : Type 0} (form : A → Member) (xs : List A) (k : ℕ) (start old new : Written) (all : List Token) → length xs ≤ k
    → Adds old new (end_object ∷ []) → Goes start old (members_rest form (drop k xs)) all → Adds start new all
object_ends form xs k start old new all past adds goes =
    (adds.0 ∙ goes.0, adds.1 ∙ ap (λ ys. old.tokens ++ members_rest form ys) (sym (drop_all k xs past)) ∙ goes.1)
