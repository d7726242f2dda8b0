-- What holds of an object with given keys, and of a list, from what holds of the values in it.
use Rattle.std.specs.Prelude.{◌≡◌, ℕ, suc, ◌≤◌, max, ⊤, List, [], ◌∷◌, map}
use Rattle.std.specs.Ordering.{nat_cmp, match_ordering, ordering_reverse}
use Rattle.std.specs.Cmp.Lexicographic.{slice_cmp}
use Rattle.std.specs.List.{All, fold}
use Rattle.std.specs.declared.cmp.Ordering.{Ordering}
use Rattle.std.specs.declared.cmp.Ordering.TheVariants.{Less, Equal, Greater}
use Rattle.std.proofs.Common.{refl, sym, ap, ◌∙◌, arith}
use Rattle.std.proofs.lemmas.Cmp.{nat_list_cmp_total}
use Rattle.std.proofs.lemmas.List.Elements.{All-head, All-tail}
use Rattle.serde_json.specs.Data.{Data, object, array, Items, no_items, item, Members, no_members, member, put, depth, items_depth, members_depth}
use Rattle.serde_json.specs.View.{items_of}
use Rattle.gl_commands.specs.Texts.{Keys, keyed, list_data}
use Rattle.gl_commands.proofs.Canonical.{ComesFirst, IsCanonical, AreCanonical, AreMembers}

-- each value of these keys
abbrev pub EachKey : (Data → Type 0) → Keys → Type 0
EachKey P [] = ⊤
EachKey P (key ∷ keys) = P key.1 × EachKey P keys

abbrev Each : (List ℕ → Data → Type 0) → Members → Type 0
Each P no_members = ⊤
Each P (member k d ms) = P k d × Each P ms

abbrev with_all : Members → Keys → Members
with_all ms keys = fold (λ (members : Members) (key : List ℕ × Data). put key.0 key.1 members) ms keys

each_put_at : (P : List ℕ → Data → Type 0) (o : Ordering) (k l : List ℕ) (d e : Data) (ms rest : Members)
    → P k d → P l d → P l e → Each P ms → Each P rest → Each P (match_ordering o (member k d (member l e ms)) (member l d ms) (member l e rest))
each_put_at P Less k l d e ms rest kd ld le here there = (kd, (le, here))
each_put_at P Equal k l d e ms rest kd ld le here there = (ld, here)
each_put_at P Greater k l d e ms rest kd ld le here there = (le, there)

-- Keys rise.

abbrev Rise : Members → Type 0
Rise no_members = ⊤
Rise (member k d ms) = ComesFirst k ms × Rise ms

first_before : (k l : List ℕ) (ms : Members) → slice_cmp nat_cmp k l ≡ Less → ComesFirst l ms → ComesFirst k ms
first_before k l no_members e h = tt
first_before k l (member m d ms) e h = (nat_list_cmp_total.trans k l m e h.0, first_before k l ms e h.1)

first_at : (o : Ordering) (j k l : List ℕ) (d e : Data) (ms rest : Members)
    → slice_cmp nat_cmp j k ≡ Less → slice_cmp nat_cmp j l ≡ Less → ComesFirst j ms → ComesFirst j rest
    → ComesFirst j (match_ordering o (member k d (member l e ms)) (member l d ms) (member l e rest))
first_at Less j k l d e ms rest below lower here there = (below, (lower, here))
first_at Equal j k l d e ms rest below lower here there = (lower, here)
first_at Greater j k l d e ms rest below lower here there = (lower, there)

first_put : (j k : List ℕ) (d : Data) (ms : Members) → slice_cmp nat_cmp j k ≡ Less → ComesFirst j ms → ComesFirst j (put k d ms)
first_put j k d no_members below h = (below, tt)
first_put j k d (member l e ms) below h =
    first_at (slice_cmp nat_cmp k l) j k l d e ms (put k d ms) below h.0 h.1 (first_put j k d ms below h.1)

rise_at : (o : Ordering) (k l : List ℕ) (d e : Data) (ms rest : Members)
    → slice_cmp nat_cmp k l ≡ o → Rise (member l e ms) → Rise rest → (slice_cmp nat_cmp l k ≡ Less → ComesFirst l rest)
    → Rise (match_ordering o (member k d (member l e ms)) (member l d ms) (member l e rest))
rise_at Less k l d e ms rest is h there first = ((is, first_before k l ms is h.0), (h.0, h.1))
rise_at Equal k l d e ms rest is h there first = (h.0, h.1)
rise_at Greater k l d e ms rest is h there first = (first (nat_list_cmp_total.antisymm l k ∙ ap ordering_reverse is), there)

rise_put : (k : List ℕ) (d : Data) (ms : Members) → Rise ms → Rise (put k d ms)
rise_put k d no_members h = (tt, tt)
rise_put k d (member l e ms) h =
    rise_at (slice_cmp nat_cmp k l) k l d e ms (put k d ms) refl h (rise_put k d ms h.1) (λ below. first_put l k d ms below h.0)

rise_all : (keys : Keys) (ms : Members) → Rise ms → Rise (with_all ms keys)
rise_all [] ms h = h
rise_all (key ∷ keys) ms h = rise_all keys (put key.0 key.1 ms) (rise_put key.0 key.1 ms h)

-- Each value of the keys is one of the members.

each_put : (P : Data → Type 0) (k : List ℕ) (d : Data) (ms : Members) → P d → Each (λ l e. P e) ms → Each (λ l e. P e) (put k d ms)
each_put P k d no_members here h = (here, tt)
each_put P k d (member l e ms) here h =
    each_put_at (λ l e. P e) (slice_cmp nat_cmp k l) k l d e ms (put k d ms) here here h.0 h.1 (each_put P k d ms here h.1)

each_all : (P : Data → Type 0) (keys : Keys) (ms : Members) → EachKey P keys → Each (λ l e. P e) ms → Each (λ l e. P e) (with_all ms keys)
each_all P [] ms here h = h
each_all P (key ∷ keys) ms here h = each_all P keys (put key.0 key.1 ms) here.1 (each_put P key.0 key.1 ms here.0 h)

-- Canonical data that nests to some depth.

abbrev pub IsTidy : ℕ → Data → Type 0
IsTidy n d = IsCanonical d × (depth d ≤ n)

members_tidy : (n : ℕ) (ms : Members) → Rise ms → Each (λ l e. IsTidy n e) ms → AreMembers ms × (members_depth ms ≤ n)
members_tidy n no_members rise each = (tt, omega arith)
members_tidy n (member k d ms) rise each =
    let rest = members_tidy n ms rise.1 each.1 in ((rise.0, each.0.0, rest.0), omega (arith, each.0.1, rest.1))

pub keyed_tidy : (n : ℕ) (keys : Keys) → EachKey (IsTidy n) keys → IsTidy (suc n) (keyed keys)
keyed_tidy n keys each =
    let all = members_tidy n (with_all no_members keys) (rise_all keys no_members tt) (each_all (IsTidy n) keys no_members each tt) in
    (all.0, omega (arith, all.1))

items_tidy : {A : Type 0} (n : ℕ) (form : A → Data) (P : A → Type 0) → ((x : A) → P x → IsTidy n (form x)) → (xs : List A) → All P xs
    → AreCanonical (items_of (map form xs)) × (items_depth (items_of (map form xs)) ≤ n)
items_tidy n form P one [] h = (tt, omega arith)
items_tidy n form P one (x ∷ xs) h =
    let here = one x (All-head P x xs h) in
    let rest = items_tidy n form P one xs (All-tail P x xs h) in
    ((here.0, rest.0), omega (arith, here.1, rest.1))

pub list_tidy : {A : Type 0} (n : ℕ) (form : A → Data) (P : A → Type 0) → ((x : A) → P x → IsTidy n (form x)) → (xs : List A) → All P xs → IsTidy (suc n) (list_data form xs)
list_tidy n form P one xs h = let all = items_tidy n form P one xs h in (all.0, omega (arith, all.1))

pub each_tidy : {A : Type 0} (n : ℕ) (form : A → Data) → ((x : A) → IsTidy n (form x)) → (xs : List A) → IsTidy (suc n) (list_data form xs)
each_tidy n form one [] = (tt, omega arith)
each_tidy n form one (x ∷ xs) =
    let here = one x in
    let rest = each_tidy n form one xs in
    ((here.0, rest.0), omega (arith, here.1, rest.1))
