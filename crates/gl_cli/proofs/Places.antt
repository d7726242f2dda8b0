-- Where a connection stands among those that are open.
use Rattle.std.specs.Prelude.{◌≡◌, ℕ, zero, suc, ◌<◌, ◌==◌, ◌&&◌, ◌||◌, Bool, true, false, not, List, [], ◌∷◌, ◌++◌, length, take, drop, get_or, set, All, Some, None, if◌then◌else◌, cond}
use Rattle.std.specs.List.{list_any}
use Rattle.std.specs.Str.{bytes_eq}
use Rattle.std.proofs.Common.{refl, ◌∙◌, ap, sym, subst, arith, eqb-true, eq-eqb}
use Rattle.std.proofs.lemmas.Bool.{false≢true}
use Rattle.std.proofs.lemmas.List.Elements.{All-head, All-tail}
use Rattle.std.proofs.lemmas.Slice.Eq.{bytes_eq-Decides}
use Rattle.gl_cli.specs.declared.connections.Open.{Open}
use Rattle.gl_cli.specs.Connections.{Connection, connection_of, forgotten, is_closed, is_of, replaced, with_sent}
use Rattle.gl_cli.specs.Opened.{IsOpen, IsPlace, ConnectionsStandFor, is_named}

-- ---- tests

both_true : (a b : Bool) → (a && b) ≡ true → (a ≡ true) × (b ≡ true)
both_true true b e = (refl, e)
both_true false b e = absurd (false≢true e)

true_both : (a b : Bool) → a ≡ true → b ≡ true → (a && b) ≡ true
true_both a b p q = ap (λ (x : Bool). x && b) p ∙ q

neither : (a b : Bool) → (a || b) ≡ false → (a ≡ false) × (b ≡ false)
neither true b e = absurd (false≢true (sym e))
neither false b e = (refl, e)

false_by : (a : Bool) → (a ≡ true → ⊥) → a ≡ false
false_by true no_way = absurd (no_way refl)
false_by false no_way = refl

is_of_by : (input : List ℕ) (number : ℕ) (c : Connection) → is_of input number c ≡ true → (c.input ≡ input) × (c.number ≡ number)
is_of_by input number c e =
    let p : (bytes_eq c.input input ≡ true) × ((c.number == number) ≡ true) = both_true (bytes_eq c.input input) (c.number == number) e in
    ((bytes_eq-Decides c.input input).0 p.0, eqb-true c.number number p.1)

is_of_when : (input : List ℕ) (number : ℕ) (c : Connection) → c.input ≡ input → c.number ≡ number → is_of input number c ≡ true
is_of_when input number c p q = true_both (bytes_eq c.input input) (c.number == number) ((bytes_eq-Decides c.input input).1 p) (eq-eqb c.number number q)

-- what is open has the name of what it was sent
named_is : (input : List ℕ) (number : ℕ) (o : Open) (c : Connection) → IsOpen o c → is_named input number o ≡ is_of input number c
named_is input number o c opened =
    ap (λ (bs : List ℕ). bytes_eq bs input && o.number == number) opened.input ∙ ap (λ (n : ℕ). bytes_eq c.input input && n == number) opened.number

-- one apart from another is so the other way round
apart : (c d : Connection) → is_of c.input c.number d ≡ false → is_of d.input d.number c ≡ false
apart c d e = false_by (is_of d.input d.number c) (λ same.
    let p : (c.input ≡ d.input) × (c.number ≡ d.number) = is_of_by d.input d.number c same in
    false≢true (sym e ∙ is_of_when c.input c.number d (sym p.0) (sym p.1)))

-- ---- lists

pub as_many_open : (all : List Open) (cs : List Connection) → ConnectionsStandFor all cs → length all ≡ length cs
as_many_open [] [] stand = refl
as_many_open [] (c ∷ cs) stand = absurd stand
as_many_open (o ∷ all) [] stand = absurd stand
as_many_open (o ∷ all) (c ∷ cs) stand = ap (λ (n : ℕ). suc n) (as_many_open all cs stand.2)

any_more : (p : Connection → Bool) (cs : List Connection) (c : Connection) → list_any p cs ≡ false → p c ≡ false → list_any p (cs ++ c ∷ []) ≡ false
any_more p [] c e f = ap (λ (b : Bool). b || false) f
any_more p (d ∷ cs) c e f =
    let q : (p d ≡ false) × (list_any p cs ≡ false) = neither (p d) (list_any p cs) e in
    ap (λ (b : Bool). b || list_any p (cs ++ c ∷ [])) q.0 ∙ any_more p cs c q.1 f

-- another connection behind all
pub stand_more : (all : List Open) (cs : List Connection) (o : Open) (c : Connection) → ConnectionsStandFor all cs → IsOpen o c
    → All (λ (x : Open). is_named c.input c.number x ≡ false) all → ConnectionsStandFor (all ++ o ∷ []) (cs ++ c ∷ [])
stand_more [] [] o c stand opened none = (opened, refl, tt)
stand_more [] (d ∷ cs) o c stand opened none = absurd stand
stand_more (x ∷ all) [] o c stand opened none = absurd stand
stand_more (x ∷ all) (d ∷ cs) o c stand opened none = (
  stand.0,
  any_more (is_of d.input d.number) cs c stand.1
      (apart c d (sym (named_is c.input c.number x d stand.0) ∙ All-head (λ (y : Open). is_named c.input c.number y ≡ false) x all none)),
  stand_more all cs o c stand.2 opened (All-tail (λ (y : Open). is_named c.input c.number y ≡ false) x all none),
)

module _ (input : List ℕ) (number : ℕ) where
  abbrev Other : Open → Type 0
  Other o = is_named input number o ≡ false

  pub none_named : (all : List Open) (cs : List Connection) → ConnectionsStandFor all cs → All Other all → connection_of input number cs ≡ None
  none_named [] [] stand none = refl
  none_named [] (c ∷ cs) stand none = absurd stand
  none_named (o ∷ all) [] stand none = absurd stand
  none_named (o ∷ all) (c ∷ cs) stand none =
      ap (λ (b : Bool). cond b (Some c) (connection_of input number cs)) (sym (named_is input number o c stand.0) ∙ All-head Other o all none)
      ∙ none_named all cs stand.2 (All-tail Other o all none)

  pub none_forgotten : (all : List Open) (cs : List Connection) → ConnectionsStandFor all cs → All Other all → forgotten input number cs ≡ cs
  none_forgotten [] [] stand none = refl
  none_forgotten [] (c ∷ cs) stand none = absurd stand
  none_forgotten (o ∷ all) [] stand none = absurd stand
  none_forgotten (o ∷ all) (c ∷ cs) stand none =
      ap (λ (b : Bool). cond (not b) (c ∷ forgotten input number cs) (forgotten input number cs)) (sym (named_is input number o c stand.0) ∙ All-head Other o all none)
      ∙ ap (λ (ds : List Connection). c ∷ ds) (none_forgotten all cs stand.2 (All-tail Other o all none))

-- the connection at a place
pub record Found (all : List Open) (cs : List Connection) (input : List ℕ) (number : ℕ) (o : Open) : Type 0 where
  pub one : Connection
  pub found : connection_of input number cs ≡ Some one
  pub opened : IsOpen o one
  pub input_is : one.input ≡ input
  pub number_is : one.number ≡ number

abbrev NamedAt : List ℕ → ℕ → List Open → ℕ → Type 0
NamedAt input number all place = (d : Open) → is_named input number (get_or all place d) ≡ true

module _ (input : List ℕ) (number : ℕ) where
  found_by : (all : List Open) (cs : List Connection) (place : ℕ) (d : Open) → ConnectionsStandFor all cs → place < length all → NamedAt input number all place
      → All (λ (o : Open). is_named input number o ≡ false) (take place all) → Found all cs input number (get_or all place d)
  found_by [] cs place d stand inside is first = absurd (omega arith)
  found_by (o ∷ all) [] place d stand inside is first = absurd stand
  found_by (o ∷ all) (c ∷ cs) zero d stand inside is first =
      let here : is_of input number c ≡ true = sym (named_is input number o c stand.0) ∙ is d in
      record {
        one = c;
        found = ap (λ (b : Bool). cond b (Some c) (connection_of input number cs)) here;
        opened = stand.0;
        input_is = (is_of_by input number c here).0;
        number_is = (is_of_by input number c here).1;
      }
  found_by (o ∷ all) (c ∷ cs) (suc place) d stand inside is first =
      let more : Found all cs input number (get_or all place d)
      = found_by all cs place d stand.2 (omega arith) is (All-tail (λ (x : Open). is_named input number x ≡ false) o (take place all) first) in
      let here : is_of input number c ≡ false
      = sym (named_is input number o c stand.0) ∙ All-head (λ (x : Open). is_named input number x ≡ false) o (take place all) first in
      record {
        one = more.one;
        found = ap (λ (b : Bool). cond b (Some c) (connection_of input number cs)) here ∙ more.found;
        opened = more.opened;
        input_is = more.input_is;
        number_is = more.number_is;
      }

  pub place_found : (all : List Open) (cs : List Connection) (place : ℕ) (d : Open) → ConnectionsStandFor all cs → IsPlace all input number place → Found all cs input number (get_or all place d)
  place_found all cs place d stand is = found_by all cs place d stand is.inside is.is is.first

  -- ---- without one

  kept_or_not : (c : Connection) (cs : List Connection) (b : Bool) → is_of input number c ≡ b → forgotten input number (c ∷ cs) ≡ (if b then forgotten input number cs else c ∷ forgotten input number cs)
  kept_or_not c cs true is = ap (λ (x : Bool). cond (not x) (c ∷ forgotten input number cs) (forgotten input number cs)) is
  kept_or_not c cs false is = ap (λ (x : Bool). cond (not x) (c ∷ forgotten input number cs) (forgotten input number cs)) is

  none_without : (cs : List Connection) → list_any (is_of input number) cs ≡ false → forgotten input number cs ≡ cs
  none_without [] none = refl
  none_without (c ∷ cs) none =
      let q : (is_of input number c ≡ false) × (list_any (is_of input number) cs ≡ false) = neither (is_of input number c) (list_any (is_of input number) cs) none in
      kept_or_not c cs false q.0 ∙ ap (λ (ds : List Connection). c ∷ ds) (none_without cs q.1)

  any_without : (p : Connection → Bool) (cs : List Connection) → list_any p cs ≡ false → list_any p (forgotten input number cs) ≡ false
  any_without p [] none = refl
  any_without p (c ∷ cs) none =
      let q : (p c ≡ false) × (list_any p cs ≡ false) = neither (p c) (list_any p cs) none in
      more q.0 (any_without p cs q.1) (is_of input number c) refl
    where
      more : p c ≡ false → list_any p (forgotten input number cs) ≡ false → (b : Bool) → is_of input number c ≡ b → list_any p (forgotten input number (c ∷ cs)) ≡ false
      more pc rest true is = ap (λ (ds : List Connection). list_any p ds) (kept_or_not c cs true is) ∙ rest
      more pc rest false is =
          ap (λ (ds : List Connection). list_any p ds) (kept_or_not c cs false is)
          ∙ ap (λ (x : Bool). x || list_any p (forgotten input number cs)) pc ∙ rest

  without_by : (all : List Open) (cs : List Connection) (place : ℕ) → ConnectionsStandFor all cs → place < length all → NamedAt input number all place
      → All (λ (o : Open). is_named input number o ≡ false) (take place all) → ConnectionsStandFor (take place all ++ drop (suc place) all) (forgotten input number cs)
  without_by [] cs place stand inside is first = absurd (omega arith)
  without_by (o ∷ all) [] place stand inside is first = absurd stand
  without_by (o ∷ all) (c ∷ cs) zero stand inside is first =
      let here : is_of input number c ≡ true = sym (named_is input number o c stand.0) ∙ is o in
      let names : (c.input ≡ input) × (c.number ≡ number) = is_of_by input number c here in
      let others : list_any (is_of input number) cs ≡ false
      = ap (λ (n : ℕ). list_any (is_of input n) cs) (sym names.1) ∙ ap (λ (bs : List ℕ). list_any (is_of bs c.number) cs) (sym names.0) ∙ stand.1 in
      subst (λ (ds : List Connection). ConnectionsStandFor all ds)
      (sym (kept_or_not c cs true here ∙ none_without cs others)) stand.2
  without_by (o ∷ all) (c ∷ cs) (suc place) stand inside is first =
      let here : is_of input number c ≡ false
      = sym (named_is input number o c stand.0) ∙ All-head (λ (x : Open). is_named input number x ≡ false) o (take place all) first in
      let more : ConnectionsStandFor (take place all ++ drop (suc place) all) (forgotten input number cs)
      = without_by all cs place stand.2 (omega arith) is (All-tail (λ (x : Open). is_named input number x ≡ false) o (take place all) first) in
      subst (λ (ds : List Connection). ConnectionsStandFor (o ∷ (take place all ++ drop (suc place) all)) ds)
      (sym (kept_or_not c cs false here))
      (stand.0, any_without (is_of c.input c.number) cs stand.1, more)

  pub stand_without : (all : List Open) (cs : List Connection) (place : ℕ) → ConnectionsStandFor all cs → IsPlace all input number place → ConnectionsStandFor (take place all ++ drop (suc place) all) (forgotten input number cs)
  stand_without all cs place stand is = without_by all cs place stand is.inside is.is is.first

-- ---- one in the place of another

module _ (one : Connection) where
  abbrev put : Connection → Connection
  put other = if is_of one.input one.number other then one else other

  -- it has the name of the one before
  put_is : (input : List ℕ) (number : ℕ) (other : Connection) → is_of input number (put other) ≡ is_of input number other
  put_is input number other = more (is_of one.input one.number other) refl
    where
      more : (b : Bool) → is_of one.input one.number other ≡ b → is_of input number (put other) ≡ is_of input number other
      more true is =
          let names : (other.input ≡ one.input) × (other.number ≡ one.number) = is_of_by one.input one.number other is in
          ap (λ (x : Bool). is_of input number (if x then one else other)) is
          ∙ ap (λ (bs : List ℕ). bytes_eq bs input && one.number == number) (sym names.0)
          ∙ ap (λ (n : ℕ). bytes_eq other.input input && n == number) (sym names.1)
      more false is = ap (λ (x : Bool). is_of input number (if x then one else other)) is

  any_replaced : (input : List ℕ) (number : ℕ) (cs : List Connection) → list_any (is_of input number) (replaced one cs) ≡ list_any (is_of input number) cs
  any_replaced input number [] = refl
  any_replaced input number (c ∷ cs) =
      ap (λ (x : Bool). x || list_any (is_of input number) (replaced one cs)) (put_is input number c)
      ∙ ap (λ (x : Bool). is_of input number c || x) (any_replaced input number cs)

  none_replaced : (cs : List Connection) → list_any (is_of one.input one.number) cs ≡ false → replaced one cs ≡ cs
  none_replaced [] none = refl
  none_replaced (c ∷ cs) none =
      let q : (is_of one.input one.number c ≡ false) × (list_any (is_of one.input one.number) cs ≡ false) = neither (is_of one.input one.number c) (list_any (is_of one.input one.number) cs) none in
      ap (λ (x : Bool). (if x then one else c) ∷ replaced one cs) q.0 ∙ ap (λ (ds : List Connection). c ∷ ds) (none_replaced cs q.1)

  replaced_by : (all : List Open) (cs : List Connection) (place : ℕ) (o : Open) → ConnectionsStandFor all cs → IsOpen o one → place < length all → NamedAt one.input one.number all place
      → All (λ (x : Open). is_named one.input one.number x ≡ false) (take place all) → ConnectionsStandFor (set all place o) (replaced one cs)
  replaced_by [] cs place o stand opened inside is first = absurd (omega arith)
  replaced_by (x ∷ all) [] place o stand opened inside is first = absurd stand
  replaced_by (x ∷ all) (c ∷ cs) zero o stand opened inside is first =
      let here : is_of one.input one.number c ≡ true = sym (named_is one.input one.number x c stand.0) ∙ is x in
      let names : (c.input ≡ one.input) × (c.number ≡ one.number) = is_of_by one.input one.number c here in
      let others : list_any (is_of one.input one.number) cs ≡ false
      = ap (λ (n : ℕ). list_any (is_of one.input n) cs) (sym names.1) ∙ ap (λ (bs : List ℕ). list_any (is_of bs c.number) cs) (sym names.0) ∙ stand.1 in
      subst (λ (ds : List Connection). ConnectionsStandFor (o ∷ all) ds)
      (sym (ap (λ (b : Bool). (if b then one else c) ∷ replaced one cs) here ∙ ap (λ (ds : List Connection). one ∷ ds) (none_replaced cs others)))
      (opened, others, stand.2)
  replaced_by (x ∷ all) (c ∷ cs) (suc place) o stand opened inside is first =
      let here : is_of one.input one.number c ≡ false
      = sym (named_is one.input one.number x c stand.0) ∙ All-head (λ (y : Open). is_named one.input one.number y ≡ false) x (take place all) first in
      let more : ConnectionsStandFor (set all place o) (replaced one cs)
      = replaced_by all cs place o stand.2 opened (omega arith) is (All-tail (λ (y : Open). is_named one.input one.number y ≡ false) x (take place all) first) in
      subst (λ (ds : List Connection). ConnectionsStandFor (x ∷ set all place o) ds)
      (sym (ap (λ (b : Bool). (if b then one else c) ∷ replaced one cs) here))
      (stand.0, any_replaced c.input c.number cs ∙ stand.1, more)

-- what was sent leaves the name
sent_input : (peer payload : List ℕ) (c : Connection) (b : Bool) → (if b then c else record c { peer = peer; bytes = c.bytes ++ payload }).input ≡ c.input
sent_input peer payload c true = refl
sent_input peer payload c false = refl

sent_number : (peer payload : List ℕ) (c : Connection) (b : Bool) → (if b then c else record c { peer = peer; bytes = c.bytes ++ payload }).number ≡ c.number
sent_number peer payload c true = refl
sent_number peer payload c false = refl

-- the one at a place was sent something
pub stand_sent : (all : List Open) (cs : List Connection) (input : List ℕ) (number place : ℕ) (peer payload : List ℕ) (c : Connection) (o : Open) → ConnectionsStandFor all cs → IsPlace all input number place
    → c.input ≡ input → c.number ≡ number → IsOpen o (with_sent peer payload c) → ConnectionsStandFor (set all place o) (replaced (with_sent peer payload c) cs)
stand_sent all cs input number place peer payload c o stand is p q opened =
    let one : Connection = with_sent peer payload c in
    let i : input ≡ one.input = sym (sent_input peer payload c (is_closed c.kind c.bytes) ∙ p) in
    let n : number ≡ one.number = sym (sent_number peer payload c (is_closed c.kind c.bytes) ∙ q) in
    replaced_by one all cs place o stand opened is.inside
    (λ d. ap (λ (bs : List ℕ). is_named bs one.number (get_or all place d)) (sym i) ∙ ap (λ (m : ℕ). is_named input m (get_or all place d)) (sym n) ∙ is.is d)
    (subst (λ (m : ℕ). All (λ (x : Open). is_named one.input m x ≡ false) (take place all)) n
    (subst (λ (bs : List ℕ). All (λ (x : Open). is_named bs number x ≡ false) (take place all)) i is.first))
