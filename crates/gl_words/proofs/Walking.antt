-- From word to word, text to text and field to field: what the whole way leaves.
use Rattle.std.proofs.Common.{◌≡◌, ℕ, ℤ, ◌+◌, ◌<◌, ◌==◌, Bool, true, false, cond, not, nat_lt, ◌&&◌, ◌||◌, List, [], ◌∷◌, ◌++◌, length, get_or, take, drop, ◌≤◌, ◌-◌, map, filter, bytes_eq, All, Option, Some, None, Result, Ok, Err, OnErr, refl, sym, ap, ◌∙◌, subst, arith}
use Rattle.std.specs.Char.{is_ascii_digit, to_ascii_lowercase}
use Rattle.std.specs.Cmp.Lexicographic.{slice_cmp}
use Rattle.std.specs.List.{list_all, list_any}
use Rattle.std.specs.Ordering.{nat_cmp, is_eq}
use Rattle.std.specs.declared.cmp.Ordering.{Ordering}
use Rattle.std.specs.declared.cmp.Ordering.TheVariants.{Less, Equal, Greater}
use Rattle.std.proofs.lemmas.Bool.{and_parts, and_from, and_right, or_parts, both_ways, false_from_ne_true, cond-true, cond-false}
use Rattle.std.proofs.lemmas.Bool.Decides.{nat_tests}
use Rattle.std.proofs.lemmas.List.{append-nil, take_all}
use Rattle.std.proofs.lemmas.List.Elements.{All-head, All-tail, filter-append}
use Rattle.std.proofs.lemmas.List.Folds.{list_all-append}
use Rattle.std.proofs.lemmas.Map.Text.{is_eq-slice_cmp}
use Rattle.gl_fields.specs.declared.field.Field.{Field}
use Rattle.gl_fields.specs.declared.value.Value.{Value}
use Rattle.gl_fields.specs.declared.value.Value.TheVariants.{Whole}
use Rattle.gl_fields.specs.declared.value.Value.TheVariants as value
use Rattle.gl_fields.specs.Fields.{Rises, comes_before, first_value, is_less, named}
use Rattle.gl_query.specs.Matching.{holds_of}
use Rattle.gl_query.specs.Required.{has_required, has_token, is_number, lower_tokens}
use Rattle.gl_query.specs.Texts.{TokenAhead, text_tokens}
use Rattle.gl_words.specs.Inside.{Changes, StaysBesides, is_same}
use Rattle.gl_words.specs.Positions.{with_position, without_position}
use Rattle.gl_words.specs.Texts.{field_has, some_has, text_has}
use Rattle.gl_words.proofs.Finding.{lower, same_bytes, tests_same}

-- what is kept of each token in each field
abbrev pub Keeps : Type 0
Keeps = List ℕ → List ℕ → List ℕ

abbrev pub Tests : Type 0
Tests = List ℕ → List ℕ → Bool

-- ---- changes that make no difference a second time
pub with_twice : (position : ℕ) (ps : List ℕ) → with_position position (with_position position ps) ≡ with_position position ps
with_twice position ps = go (list_all (λ p. nat_lt p position) ps) refl
  where
    self : nat_lt position position ≡ false
    self = grind (arith, nat_tests)

    last : (nat_lt position position && true) ≡ false
    last = ap (λ (b : Bool). b && true) self

    go : (b : Bool) → list_all (λ p. nat_lt p position) ps ≡ b → with_position position (cond b (ps ++ position ∷ []) ps) ≡ cond b (ps ++ position ∷ []) ps
    go true is =
        cond-false (list_all (λ p. nat_lt p position) (ps ++ position ∷ [])) ((ps ++ position ∷ []) ++ position ∷ []) (ps ++ position ∷ [])
        (list_all-append (λ p. nat_lt p position) ps (position ∷ []) ∙ and_right (list_all (λ p. nat_lt p position) ps) (nat_lt position position && true) last)
    go false is = cond-false (list_all (λ p. nat_lt p position) ps) (ps ++ position ∷ []) ps is

filter_twice : (p : ℕ → Bool) (xs : List ℕ) → filter p (filter p xs) ≡ filter p xs
filter_twice p [] = refl
filter_twice p (x ∷ xs) = go (p x) refl (filter_twice p xs)
  where
    go : (b : Bool) → p x ≡ b → filter p (filter p xs) ≡ filter p xs → filter p (cond b (x ∷ filter p xs) (filter p xs)) ≡ cond b (x ∷ filter p xs) (filter p xs)
    go true is rest = cond-true (p x) (x ∷ filter p (filter p xs)) (filter p (filter p xs)) is ∙ ap (λ (l : List ℕ). x ∷ l) rest
    go false is rest = rest

pub without_twice : (position : ℕ) (ps : List ℕ) → without_position position (without_position position ps) ≡ without_position position ps
without_twice position ps = filter_twice (λ p. not (p == position)) ps

pub without_with : (position : ℕ) (ps : List ℕ) → without_position position (with_position position ps) ≡ without_position position ps
without_with position ps = go (list_all (λ p. nat_lt p position) ps)
  where
    self : (position == position) ≡ true
    self = grind (arith, nat_tests)

    none : without_position position (position ∷ []) ≡ []
    none = ap (λ (b : Bool). cond (not b) (position ∷ []) []) self

    go : (b : Bool) → without_position position (cond b (ps ++ position ∷ []) ps) ≡ without_position position ps
    go true =
        filter-append (λ p. not (p == position)) ps (position ∷ [])
        ∙ ap (λ (l : List ℕ). without_position position ps ++ l) none
        ∙ append-nil (without_position position ps)
    go false = refl

-- ---- one change after another
module _ (change : List ℕ → List ℕ) (twice : (ps : List ℕ) → change (change ps) ≡ change ps) where
  both_changes : (x y : Bool) (a b c : List ℕ) → b ≡ cond x (change a) a → c ≡ cond y (change b) b → c ≡ cond (x || y) (change a) a
  both_changes true true a b c e f = f ∙ ap change e ∙ twice a
  both_changes true false a b c e f = f ∙ e
  both_changes false true a b c e f = f ∙ ap change e
  both_changes false false a b c e f = f ∙ e

  pub then_changes : (one other : Tests) (a b c : Keeps) → Changes change one a b → Changes change other b c → Changes change (λ g s. one g s || other g s) a c
  then_changes one other a b c h k = λ g s n. both_changes (one g s) (other g s) (a g s) (b g s) (c g s) (h g s n) (k g s n)

-- the same by tests that answer alike
abbrev pub AreAlike : Tests → Tests → Type 0
AreAlike one other = (g s : List ℕ) → is_number s ≡ false → one g s ≡ other g s

pub changes_by : (change : List ℕ → List ℕ) (one other : Tests) (a b : Keeps) → AreAlike one other → Changes change one a b → Changes change other a b
changes_by change one other a b alike h = λ g s n. h g s n ∙ ap (λ (x : Bool). cond x (change (a g s)) (a g s)) (alike g s n)

pub no_change : (change : List ℕ → List ℕ) (test : Tests) (a b : Keeps) → ((g s : List ℕ) → is_number s ≡ false → test g s ≡ false) → ((g s : List ℕ) → b g s ≡ a g s) → Changes change test a b
no_change change test a b none same = λ g s n. same g s ∙ sym (cond-false (test g s) (change (a g s)) (a g s) (none g s n))

pub stays_by : (position : ℕ) (one other : Tests) (a b : Keeps) → AreAlike one other → StaysBesides position one a b → StaysBesides position other a b
stays_by position one other a b alike h = record { others = h.others; elsewhere = λ g s n no. h.elsewhere g s n (alike g s n ∙ no) }

pub at_err : {T E P : Type 0} (r : Result T E) → P → OnErr r P
at_err (Ok value) p = tt
at_err (Err error) p = p

pub stays_same : (position : ℕ) (test : Tests) (a b : Keeps) → ((g s : List ℕ) → b g s ≡ a g s) → StaysBesides position test a b
stays_same position test a b same = record { others = λ g s n. ap (without_position position) (same g s); elsewhere = λ g s n no. same g s }

pub then_stays : (position : ℕ) (one other : Tests) (a b c : Keeps) → Changes (with_position position) one a b → StaysBesides position other b c
    → StaysBesides position (λ g s. one g s || other g s) a c
then_stays position one other a b c h k = record {
  others = λ g s n. k.others g s n ∙ ap (without_position position) (h g s n) ∙ besides (one g s) (a g s);
  elsewhere = λ g s n no.
      let parts = or_parts (one g s) (other g s) no in
      k.elsewhere g s n parts.1 ∙ h g s n ∙ cond-false (one g s) (with_position position (a g s)) (a g s) parts.0;
}
  where
    besides : (x : Bool) (ps : List ℕ) → without_position position (cond x (with_position position ps) ps) ≡ without_position position ps
    besides true ps = without_with position ps
    besides false ps = refl

-- ---- what is left of the way leads to the whole
abbrev pub Leads : (List ℕ → List ℕ) → (left whole : Tests) → (start now : Keeps) → Type 0
Leads change left whole start now = (end : Keeps) → Changes change left now end → Changes change whole start end

abbrev pub Spares : ℕ → (left whole : Tests) → (start now : Keeps) → Type 0
Spares position left whole start now = (end : Keeps) → StaysBesides position left now end → StaysBesides position whole start end

pub leads_on : (change : List ℕ → List ℕ) → ((ps : List ℕ) → change (change ps) ≡ change ps) → (one rest left whole : Tests) (start now next : Keeps)
    → AreAlike left (λ g s. one g s || rest g s) → Changes change one now next → Leads change left whole start now → Leads change rest whole start next
leads_on change twice one rest left whole start now next alike h leads = λ end k.
    leads end (changes_by change (λ g s. one g s || rest g s) left now end (λ g s n. sym (alike g s n)) (then_changes change twice one rest now next end h k))

pub spares_on : (position : ℕ) (one rest left whole : Tests) (start now next : Keeps)
    → AreAlike left (λ g s. one g s || rest g s) → Changes (with_position position) one now next → Spares position left whole start now → Spares position rest whole start next
spares_on position one rest left whole start now next alike h spares = λ end k.
    spares end (stays_by position (λ g s. one g s || rest g s) left now end (λ g s n. sym (alike g s n)) (then_stays position one rest now next end h k))

-- an error in the middle: of the first of what is left something may have changed
pub spares_err : (position : ℕ) (one rest left whole : Tests) (start now end : Keeps)
    → AreAlike left (λ g s. one g s || rest g s) → StaysBesides position one now end → Spares position left whole start now → StaysBesides position whole start end
spares_err position one rest left whole start now end alike h spares =
    spares end (record { others = h.others; elsewhere = λ g s n no. h.elsewhere g s n (or_parts (one g s) (rest g s) (sym (alike g s n) ∙ no)).0 })

-- ---- the tokens of a text
lower_digit : (d : ℕ) → is_ascii_digit (to_ascii_lowercase d) ≡ is_ascii_digit d
lower_digit d = grind (arith, nat_tests)

pub lower_number : (token : List ℕ) → is_number (lower token) ≡ is_number token
lower_number [] = refl
lower_number (d ∷ ds) =
    ap (λ (b : Bool). b && is_number (lower ds)) (lower_digit d) ∙ ap (λ (b : Bool). is_ascii_digit d && b) (lower_number ds)

-- no token that counts is digits alone
pub number_skipped : (name token : List ℕ) → is_number token ≡ true → (g s : List ℕ) → is_number s ≡ false → is_same name (lower token) g s ≡ false
number_skipped name token number g s n = false_from_ne_true (is_same name (lower token) g s) (λ h.
    let equal : s ≡ lower token = same_bytes s (lower token) (and_parts (bytes_eq name g) (bytes_eq s (lower token)) h).1 in
    both_ways (is_number s) n (ap is_number equal ∙ lower_number token ∙ number))

pub text_more : (name text token rest : List ℕ) → TokenAhead text token rest → AreAlike (text_has name text) (λ g s. is_same name (lower token) g s || text_has name rest g s)
text_more name text token rest ahead g s n =
    ap (λ (ts : List (List ℕ)). bytes_eq name g && list_any (bytes_eq s) (map {B = List ℕ} lower ts)) ahead.tokens
    ∙ spread (bytes_eq name g) (bytes_eq s (lower token)) (list_any (bytes_eq s) (lower_tokens rest))
  where
    spread : (a b c : Bool) → (a && (b || c)) ≡ ((a && b) || (a && c))
    spread true b c = refl
    spread false b c = refl

pub text_over : (name text : List ℕ) → text_tokens text ≡ [] → (g s : List ℕ) → is_number s ≡ false → text_has name text g s ≡ false
text_over name text gone g s n =
    ap (λ (ts : List (List ℕ)). bytes_eq name g && list_any (bytes_eq s) (map {B = List ℕ} lower ts)) gone ∙ and_right (bytes_eq name g) false refl

-- ---- the fields
pub text_field : (field : Field) (name bytes text : List ℕ) → name ≡ field.name → bytes ≡ text → field.value ≡ value.Text text → AreAlike (text_has name bytes) (field_has field)
text_field field name bytes text named held is g s n =
    ap (λ (x : List ℕ). text_has x bytes g s) named
    ∙ ap (λ (x : List ℕ). text_has field.name x g s) held
    ∙ ap (λ (v : Value). bytes_eq field.name g && has_token s v) (sym is)

pub number_field : (field : Field) (number : ℤ) → field.value ≡ Whole number → (g s : List ℕ) → is_number s ≡ false → field_has field g s ≡ false
number_field field number is g s n = ap (λ (v : Value). bytes_eq field.name g && has_token s v) is ∙ and_right (bytes_eq field.name g) false refl

apart_names : (a b : List ℕ) → comes_before a b ≡ true → bytes_eq a b ≡ false
apart_names a b h = sym (is_eq-slice_cmp a b) ∙ over (slice_cmp nat_cmp a b) h
  where
    over : (o : Ordering) → is_less o ≡ true → is_eq o ≡ false
    over Less h = refl
    over Equal h = cc h
    over Greater h = cc h

none_named : (name s : List ℕ) (fields : List Field) → All (λ (other : Field). comes_before name other.name ≡ true) fields → (g : List ℕ) → name ≡ g → some_has fields g s ≡ false
none_named name s [] later g is = refl
none_named name s (x ∷ xs) later g is =
    over (bytes_eq x.name g) (has_token s x.value)
    (false_from_ne_true (bytes_eq x.name g) (λ h.
    both_ways (bytes_eq name x.name) (apart_names name x.name (All-head (λ (other : Field). comes_before name other.name ≡ true) x xs later))
    (tests_same name x.name (is ∙ sym (same_bytes x.name g h)))))
    (none_named name s xs (All-tail (λ (other : Field). comes_before name other.name ≡ true) x xs later) g is)
  where
    over : (a b : Bool) → a ≡ false → some_has xs g s ≡ false → ((a && b) || some_has xs g s) ≡ false
    over true b e rest = cc e
    over false b e rest = rest

pub some_required : (fields : List Field) → Rises (λ (a b : Field). comes_before a.name b.name ≡ true) fields → (g s : List ℕ) → some_has fields g s ≡ has_required (g, s) fields
some_required [] rises g s = refl
some_required (x ∷ xs) rises g s = over (bytes_eq x.name g) refl (some_required xs rises.1 g s)
  where
    over : (b : Bool) → bytes_eq x.name g ≡ b → some_has xs g s ≡ has_required (g, s) xs
        → ((b && has_token s x.value) || some_has xs g s) ≡ holds_of (has_token s) (first_value (cond b (x ∷ named g xs) (named g xs)))
    over true is rest = last (has_token s x.value) (none_named x.name s xs rises.0 g (same_bytes x.name g is))
      where
        last : (a : Bool) → some_has xs g s ≡ false → (a || some_has xs g s) ≡ a
        last true e = refl
        last false e = e
    over false is rest = rest

pub row_alike : (slice held own : List Field) → slice ≡ own → held ≡ own → Rises (λ (a b : Field). comes_before a.name b.name ≡ true) held → AreAlike (some_has slice) (λ g s. has_required (g, s) own)
row_alike slice held own same kept rises g s n =
    ap (λ (fields : List Field). some_has fields g s) (same ∙ sym kept) ∙ some_required held rises g s ∙ ap (has_required (g, s)) kept

-- the first of some fields, and those behind it
pub fields_more : (left : List Field) (field : Field) → 0 < length left → field ≡ get_or left 0 field
    → AreAlike (some_has left) (λ g s. field_has field g s || some_has (take (length left - 1) (drop 1 left)) g s)
fields_more [] field some is g s n = absurd (omega arith)
fields_more (x ∷ xs) field some is g s n =
    let len : length (x ∷ xs) - 1 ≡ length xs = omega arith in
    let rest : take (length (x ∷ xs) - 1) xs ≡ xs = ap (λ k. take k xs) len ∙ take_all (length xs) xs (omega arith) in
    ap (λ (own : Field). field_has own g s || some_has xs g s) (sym is)
    ∙ ap (λ (fields : List Field). field_has field g s || some_has fields g s) (sym rest)

pub fields_over : (left : List Field) → length left ≤ 0 → (g s : List ℕ) → is_number s ≡ false → some_has left g s ≡ false
fields_over [] none g s n = refl
fields_over (x ∷ xs) none g s n = absurd (omega arith)
