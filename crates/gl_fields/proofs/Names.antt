-- The order of names.
use Rattle.std.proofs.Common.{◌≡◌, ℕ, true, false, List, refl, sym, ◌∙◌, ap}
use Rattle.std.specs.Cmp.Lexicographic.{slice_cmp}
use Rattle.std.specs.Ordering.{nat_cmp, is_eq, ordering_reverse}
use Rattle.std.specs.Str.{bytes_eq}
use Rattle.std.specs.declared.cmp.Ordering.{Ordering}
use Rattle.std.specs.declared.cmp.Ordering.TheVariants.{Less, Equal, Greater}
use Rattle.std.proofs.lemmas.Cmp.{nat_list_cmp_total}
use Rattle.std.proofs.lemmas.Map.Text.{is_eq-slice_cmp}
use Rattle.std.proofs.lemmas.Slice.Eq.{bytes_eq-Decides}
use Rattle.gl_fields.specs.Fields.{comes_before, is_less}

abbrev pub order : List ℕ → List ℕ → Ordering
order a b = slice_cmp nat_cmp a b

less_by : (o : Ordering) → is_less o ≡ true → o ≡ Less
less_by Less e = refl
less_by Equal e = cc
less_by Greater e = cc

pub Less-from_before : (a b : List ℕ) → comes_before a b ≡ true → order a b ≡ Less
Less-from_before a b e = less_by (order a b) e

pub before-from_Less : (a b : List ℕ) → order a b ≡ Less → comes_before a b ≡ true
before-from_Less a b e = ap is_less e

pub before-from_Greater : (a b : List ℕ) → order a b ≡ Greater → comes_before b a ≡ true
before-from_Greater a b e = ap is_less (nat_list_cmp_total.antisymm b a ∙ ap ordering_reverse e)

pub Greater-from_before : (a b : List ℕ) → comes_before b a ≡ true → order a b ≡ Greater
Greater-from_before a b e = nat_list_cmp_total.antisymm a b ∙ ap ordering_reverse (Less-from_before b a e)

pub before-trans : (a b c : List ℕ) → comes_before a b ≡ true → comes_before b c ≡ true → comes_before a c ≡ true
before-trans a b c first second =
    before-from_Less a c (nat_list_cmp_total.trans a b c (Less-from_before a b first) (Less-from_before b c second))

pub same-from_Equal : (a b : List ℕ) → order a b ≡ Equal → a ≡ b
same-from_Equal a b e = (bytes_eq-Decides a b).0 (sym (is_eq-slice_cmp a b) ∙ ap is_eq e)

pub itself_same : (a : List ℕ) → bytes_eq a a ≡ true
itself_same a = (bytes_eq-Decides a a).1 refl

pub same_differs : (a b : List ℕ) → comes_before a b ≡ true → bytes_eq a b ≡ false
same_differs a b e = sym (is_eq-slice_cmp a b) ∙ ap is_eq (Less-from_before a b e)

pub same_differs_back : (a b : List ℕ) → comes_before b a ≡ true → bytes_eq a b ≡ false
same_differs_back a b e = sym (is_eq-slice_cmp a b) ∙ ap is_eq (Greater-from_before a b e)

pub not_before_back : (a b : List ℕ) → comes_before b a ≡ true → comes_before a b ≡ false
not_before_back a b e = ap is_less (Greater-from_before a b e)

unlike : (o : Ordering) → o ≡ ordering_reverse o → is_less o ≡ false
unlike Less e = cc
unlike Equal e = refl
unlike Greater e = refl

pub not_before_itself : (a : List ℕ) → comes_before a a ≡ false
not_before_itself a = unlike (order a a) (nat_list_cmp_total.antisymm a a)
