-- A number that is read has the form of one, and a number before what doesn't continue it is read.
use Rattle.std.proofs.Common.{◌≡◌, ℕ, ◌&&◌, ◌||◌, ◌==◌, not, Bool, true, false, List, [], ◌∷◌, ◌++◌, Ok, refl, sym, ap, subst, ◌∙◌, inl, inr, arith, append_assoc}
use Rattle.std.proofs.lemmas.Bool.{and_from, and_parts}
use Rattle.std.specs.Int.{is_in_range}
use Rattle.std.specs.List.{list_all}
use Rattle.gl_base.specs.Bytes.{is_digit, is_sign, is_e}
use Rattle.gl_json.specs.Numbers.{are_digits, is_minus, is_int, is_frac, are_signed_digits, is_exp, IsNumber}
use Rattle.gl_json.specs.JsonReading.{◌>>=◌, past, one_at, digits_at, int_at, minus_at, frac_at, signed_at, exp_at, number_at}
use Rattle.gl_json.proofs.Taking.{bound, goes_on, ok_is, split, one_sound, one_complete, past_over, past_is}
use Rattle.gl_json.proofs.CharRead.{take_yes, take_no, eq_is}

-- bytes of this form stand at the front
pub record Fronts (is : List ℕ → Bool) (bytes rest : List ℕ) : Type 0 where
  pub front : List ℕ
  pub form : is front ≡ true
  pub text : bytes ≡ front ++ rest

digits_sound : (bytes rest : List ℕ) → digits_at bytes ≡ Ok rest → Fronts are_digits bytes rest
unfolding digits_at
digits_sound bytes rest e =
    let p = bound (one_at is_digit bytes) (λ d. Ok (past is_digit d.1)) rest e in
    let d = one_sound is_digit bytes p.0 p.1 in
    let q = past_is is_digit p.0.1 in
    let same : past is_digit p.0.1 ≡ rest = ok_is (past is_digit p.0.1) rest p.2 in
    record {
      front = p.0.0 ∷ q.front;
      form = and_from (is_digit p.0.0) (list_all is_digit q.front) d.0 q.are;
      text = d.1 ∙ ap (λ (l : List ℕ). p.0.0 ∷ l) (q.text ∙ ap (λ (l : List ℕ). q.front ++ l) same);
    }

digit_high : (d : ℕ) → is_digit d ≡ true → (d == 48) ≡ false → is_in_range 49 57 d ≡ true
digit_high d h k = grind arith

int_from : (ds : List ℕ) (b : ℕ) (bytes rest : List ℕ) → are_digits ds ≡ true → b ∷ bytes ≡ ds ++ rest → (b == 48) ≡ false → is_int ds ≡ true
int_from [] b bytes rest h e k = absurd cc
int_from (d ∷ []) b bytes rest h e k = (and_parts (is_digit d) true h).0
int_from (d ∷ f ∷ ds) b bytes rest h e k =
    let p = and_parts (is_digit d) (list_all is_digit (f ∷ ds)) h in
    let same : b ≡ d = cc in
    and_from (is_in_range 49 57 d) (are_digits (f ∷ ds)) (digit_high d p.0 (ap (λ (x : ℕ). x == 48) (sym same) ∙ k)) p.1

int_sound : (bytes rest : List ℕ) → int_at bytes ≡ Ok rest → Fronts is_int bytes rest
unfolding int_at
int_sound [] rest e = absurd cc
int_sound (b ∷ bytes) rest e = elim (split (b == 48) (Ok bytes) (digits_at (b ∷ bytes)) (Ok rest) e) [
  | inl h ↦ record {
    front = 48 ∷ [];
    form = refl;
    text = ap (λ (x : ℕ). x ∷ bytes) (eq_is b 48 h.0) ∙ ap (λ (l : List ℕ). 48 ∷ l) (ok_is bytes rest h.1);
  }
  | inr h ↦
      let d = digits_sound (b ∷ bytes) rest h.1 in
      record { front = d.front; form = int_from d.front b bytes rest d.form d.text h.0; text = d.text }
]

pub record Signed (bytes rest : List ℕ) : Type 0 where
  pub minus : List ℕ
  pub int : List ℕ
  pub minus_is : is_minus minus ≡ true
  pub int_is : is_int int ≡ true
  pub text : bytes ≡ minus ++ (int ++ rest)

minus_sound : (bytes rest : List ℕ) → minus_at bytes ≡ Ok rest → Signed bytes rest
unfolding minus_at
minus_sound [] rest e = absurd cc
minus_sound (b ∷ bytes) rest e = elim (split (b == 45) (int_at bytes) (int_at (b ∷ bytes)) (Ok rest) e) [
  | inl h ↦ let i = int_sound bytes rest h.1 in record {
    minus = 45 ∷ [];
    int = i.front;
    minus_is = refl;
    int_is = i.form;
    text = ap (λ (x : ℕ). x ∷ bytes) (eq_is b 45 h.0) ∙ ap (λ (l : List ℕ). 45 ∷ l) i.text;
  }
  | inr h ↦ let i = int_sound (b ∷ bytes) rest h.1 in record { minus = []; int = i.front; minus_is = refl; int_is = i.form; text = i.text }
]

frac_sound : (bytes rest : List ℕ) → frac_at bytes ≡ Ok rest → Fronts is_frac bytes rest
unfolding frac_at
frac_sound [] rest e = record { front = []; form = refl; text = ok_is [] rest e }
frac_sound (b ∷ bytes) rest e = elim (split (b == 46) (digits_at bytes) (Ok (b ∷ bytes)) (Ok rest) e) [
  | inl h ↦ let d = digits_sound bytes rest h.1 in record {
    front = b ∷ d.front;
    form = and_from (b == 46) (are_digits d.front) h.0 d.form;
    text = ap (λ (l : List ℕ). b ∷ l) d.text;
  }
  | inr h ↦ record { front = []; form = refl; text = ok_is (b ∷ bytes) rest h.1 }
]

signed_unsigned : (ds : List ℕ) (b : ℕ) (bytes rest : List ℕ) → are_digits ds ≡ true → b ∷ bytes ≡ ds ++ rest → is_sign b ≡ false → are_signed_digits ds ≡ true
signed_unsigned [] b bytes rest h e k = absurd cc
signed_unsigned (d ∷ ds) b bytes rest h e k =
    let same : b ≡ d = cc in
    let no_sign : is_sign d ≡ false = ap is_sign (sym same) ∙ k in
    take_no (is_sign d) (are_digits ds) (are_digits (d ∷ ds)) no_sign ∙ h

signed_sound : (bytes rest : List ℕ) → signed_at bytes ≡ Ok rest → Fronts are_signed_digits bytes rest
unfolding signed_at
signed_sound [] rest e = absurd cc
signed_sound (b ∷ bytes) rest e = elim (split (is_sign b) (digits_at bytes) (digits_at (b ∷ bytes)) (Ok rest) e) [
  | inl h ↦ let d = digits_sound bytes rest h.1 in record {
    front = b ∷ d.front;
    form = take_yes (is_sign b) (are_digits d.front) (are_digits (b ∷ d.front)) h.0 ∙ d.form;
    text = ap (λ (l : List ℕ). b ∷ l) d.text;
  }
  | inr h ↦ let d = digits_sound (b ∷ bytes) rest h.1 in record { front = d.front; form = signed_unsigned d.front b bytes rest d.form d.text h.0; text = d.text }
]

exp_sound : (bytes rest : List ℕ) → exp_at bytes ≡ Ok rest → Fronts is_exp bytes rest
unfolding exp_at
exp_sound [] rest e = record { front = []; form = refl; text = ok_is [] rest e }
exp_sound (b ∷ bytes) rest e = elim (split (is_e b) (signed_at bytes) (Ok (b ∷ bytes)) (Ok rest) e) [
  | inl h ↦ let d = signed_sound bytes rest h.1 in record {
    front = b ∷ d.front;
    form = and_from (is_e b) (are_signed_digits d.front) h.0 d.form;
    text = ap (λ (l : List ℕ). b ∷ l) d.text;
  }
  | inr h ↦ record { front = []; form = refl; text = ok_is (b ∷ bytes) rest h.1 }
]

pub record NumberEnd (bytes rest : List ℕ) : Type 0 where
  pub literal : List ℕ
  pub is : IsNumber literal
  pub text : bytes ≡ literal ++ rest

regrouped : (a b c d rest : List ℕ) → a ++ (b ++ (c ++ (d ++ rest))) ≡ (a ++ (b ++ (c ++ d))) ++ rest
regrouped a b c d rest = sym (simp append_assoc)

pub number_sound : (bytes rest : List ℕ) → number_at bytes ≡ Ok rest → NumberEnd bytes rest
unfolding number_at
number_sound bytes rest e =
    let p = bound (minus_at bytes) (λ int. frac_at int >>= (λ frac. exp_at frac)) rest e in
    let i = minus_sound bytes p.0 p.1 in
    let q = bound (frac_at p.0) (λ frac. exp_at frac) rest p.2 in
    let f = frac_sound p.0 q.0 q.1 in
    let x = exp_sound q.0 rest q.2 in
    record {
      literal = i.minus ++ (i.int ++ (f.front ++ x.front));
      is = record { minus = i.minus; int = i.int; frac = f.front; exp = x.front; parts = refl; minus_is = i.minus_is; int_is = i.int_is; frac_is = f.form; exp_is = x.form };
      text = i.text ∙ ap (λ (l : List ℕ). i.minus ++ (i.int ++ l)) (f.text ∙ ap (λ (l : List ℕ). f.front ++ l) x.text)
          ∙ regrouped i.minus i.int f.front x.front rest;
    }

-- the other way

-- the first byte, if there is one, is of this kind
abbrev pub heads : (ℕ → Bool) → List ℕ → Bool
heads p [] = true
heads p (b ∷ bytes) = p b

abbrev pub goes_no_digit : ℕ → Bool
goes_no_digit b = not (is_digit b)

abbrev pub goes_no_frac : ℕ → Bool
goes_no_frac b = not (is_digit b) && not (b == 46)

-- no byte that continues a number
abbrev pub goes_no_number : ℕ → Bool
goes_no_number b = not (is_digit b) && not (b == 46) && not (is_e b)

past_stays : (rest : List ℕ) → heads goes_no_digit rest ≡ true → past is_digit rest ≡ rest
unfolding past
past_stays [] h = refl
past_stays (b ∷ rest) h = let k : is_digit b ≡ false = grind arith in take_no (is_digit b) _ _ k

digits_complete : (ds rest : List ℕ) → are_digits ds ≡ true → heads goes_no_digit rest ≡ true → digits_at (ds ++ rest) ≡ Ok rest
unfolding digits_at
digits_complete [] rest h k = absurd cc
digits_complete (d ∷ ds) rest h k =
    let p = and_parts (is_digit d) (list_all is_digit ds) h in
    goes_on (one_at is_digit (d ∷ (ds ++ rest))) (λ x. Ok (past is_digit x.1)) (d, ds ++ rest) (one_complete is_digit d (ds ++ rest) p.0)
    ∙ ap Ok (past_over is_digit ds rest p.1 ∙ past_stays rest k)

signed_complete : (ds rest : List ℕ) → are_signed_digits ds ≡ true → heads goes_no_digit rest ≡ true → signed_at (ds ++ rest) ≡ Ok rest
unfolding signed_at
signed_complete [] rest h k = absurd cc
signed_complete (d ∷ ds) rest h k = elim (split (is_sign d) (are_digits ds) (are_digits (d ∷ ds)) true h) [
  | inl m ↦ take_yes (is_sign d) _ _ m.0 ∙ digits_complete ds rest m.1 k
  | inr m ↦ take_no (is_sign d) _ _ m.0 ∙ digits_complete (d ∷ ds) rest m.1 k
]

number_digit : (rest : List ℕ) → heads goes_no_number rest ≡ true → heads goes_no_digit rest ≡ true
number_digit [] h = refl
number_digit (b ∷ rest) h = grind arith

exp_complete : (x rest : List ℕ) → is_exp x ≡ true → heads goes_no_number rest ≡ true → exp_at (x ++ rest) ≡ Ok rest
unfolding exp_at
exp_complete [] [] h k = refl
exp_complete [] (b ∷ rest) h k = let n : is_e b ≡ false = grind arith in take_no (is_e b) _ _ n
exp_complete (b ∷ ds) rest h k =
    let p = and_parts (is_e b) (are_signed_digits ds) h in
    take_yes (is_e b) _ _ p.0 ∙ signed_complete ds rest p.1 (number_digit rest k)

e_heads : (b : ℕ) → is_e b ≡ true → goes_no_frac b ≡ true
e_heads b e = grind arith

exp_heads : (x rest : List ℕ) → is_exp x ≡ true → heads goes_no_number rest ≡ true → heads goes_no_frac (x ++ rest) ≡ true
exp_heads [] [] h k = refl
exp_heads [] (b ∷ rest) h k = grind arith
exp_heads (b ∷ ds) rest h k = let e : is_e b ≡ true = (and_parts (is_e b) (are_signed_digits ds) h).0 in e_heads b e

frac_digit : (rest : List ℕ) → heads goes_no_frac rest ≡ true → heads goes_no_digit rest ≡ true
frac_digit [] h = refl
frac_digit (b ∷ rest) h = grind arith

frac_complete : (f rest : List ℕ) → is_frac f ≡ true → heads goes_no_frac rest ≡ true → frac_at (f ++ rest) ≡ Ok rest
unfolding frac_at
frac_complete [] [] h k = refl
frac_complete [] (b ∷ rest) h k = let n : (b == 46) ≡ false = grind arith in take_no (b == 46) _ _ n
frac_complete (b ∷ ds) rest h k =
    let p = and_parts (b == 46) (are_digits ds) h in
    take_yes (b == 46) _ _ p.0 ∙ digits_complete ds rest p.1 (frac_digit rest k)

point_heads : (b : ℕ) → (b == 46) ≡ true → goes_no_digit b ≡ true
point_heads b e = grind arith

frac_heads : (f rest : List ℕ) → is_frac f ≡ true → heads goes_no_frac rest ≡ true → heads goes_no_digit (f ++ rest) ≡ true
frac_heads [] rest h k = frac_digit rest k
frac_heads (b ∷ ds) rest h k = point_heads b (and_parts (b == 46) (are_digits ds) h).0

high_not_zero : (d : ℕ) → is_in_range 49 57 d ≡ true → (d == 48) ≡ false
high_not_zero d h = grind arith

high_digit : (d : ℕ) → is_in_range 49 57 d ≡ true → is_digit d ≡ true
high_digit d h = grind arith

int_one : (d : ℕ) (rest : List ℕ) (t : Bool) → (d == 48) ≡ t → is_digit d ≡ true → heads goes_no_digit rest ≡ true → int_at (d ∷ rest) ≡ Ok rest
unfolding int_at
int_one d rest true e h k = take_yes (d == 48) _ _ e
int_one d rest false e h k = take_no (d == 48) _ _ e ∙ digits_complete (d ∷ []) rest (and_from (is_digit d) true h refl) k

int_complete : (i rest : List ℕ) → is_int i ≡ true → heads goes_no_digit rest ≡ true → int_at (i ++ rest) ≡ Ok rest
unfolding int_at
int_complete [] rest h k = absurd cc
int_complete (d ∷ []) rest h k = int_one d rest (d == 48) refl h k
int_complete (d ∷ f ∷ ds) rest h k =
    let p = and_parts (is_in_range 49 57 d) (are_digits (f ∷ ds)) h in
    take_no (d == 48) _ _ (high_not_zero d p.0) ∙ digits_complete (d ∷ f ∷ ds) rest (and_from (is_digit d) (list_all is_digit (f ∷ ds)) (high_digit d p.0) p.1) k

digit_no_minus : (d : ℕ) → is_digit d ≡ true → (d == 45) ≡ false
digit_no_minus d h = grind arith

pub int_first : (i rest : List ℕ) → is_int i ≡ true → (d : ℕ) × (ds : List ℕ) × (i ≡ d ∷ ds) × (is_digit d ≡ true)
int_first [] rest h = absurd cc
int_first (d ∷ []) rest h = (d, [], refl, h)
int_first (d ∷ f ∷ ds) rest h = (d, f ∷ ds, refl, high_digit d (and_parts (is_in_range 49 57 d) (are_digits (f ∷ ds)) h).0)

minus_complete : (m i rest : List ℕ) → is_minus m ≡ true → is_int i ≡ true → heads goes_no_digit rest ≡ true → minus_at (m ++ (i ++ rest)) ≡ Ok rest
unfolding minus_at
minus_complete [] i rest h k n =
    let f = int_first i rest k in
    subst (λ (l : List ℕ). minus_at (l ++ rest) ≡ Ok rest) (sym f.2)
    (take_no (f.0 == 45) _ _ (digit_no_minus f.0 f.3) ∙ int_complete (f.0 ∷ f.1) rest (subst (λ (l : List ℕ). is_int l ≡ true) f.2 k) n)
minus_complete (b ∷ []) i rest h k n = take_yes (b == 45) _ _ h ∙ int_complete i rest k n
minus_complete (b ∷ c ∷ m) i rest h k n = absurd cc

pub number_complete : (t rest : List ℕ) → IsNumber t → heads goes_no_number rest ≡ true → number_at (t ++ rest) ≡ Ok rest
unfolding number_at
number_complete t rest is k =
    let after_exp = is.exp ++ rest in
    let one = exp_heads is.exp rest is.exp_is k in
    let two = frac_heads is.frac (is.exp ++ rest) is.frac_is one in
    let group : t ++ rest ≡ is.minus ++ (is.int ++ (is.frac ++ (is.exp ++ rest))) = ap (λ (l : List ℕ). l ++ rest) is.parts ∙ sym (regrouped is.minus is.int is.frac is.exp rest) in
    ap number_at group
    ∙ goes_on (minus_at (is.minus ++ (is.int ++ (is.frac ++ (is.exp ++ rest))))) (λ int. frac_at int >>= (λ frac. exp_at frac)) (is.frac ++ (is.exp ++ rest))
    (minus_complete is.minus is.int (is.frac ++ (is.exp ++ rest)) is.minus_is is.int_is two)
    ∙ goes_on (frac_at (is.frac ++ (is.exp ++ rest))) (λ frac. exp_at frac) (is.exp ++ rest) (frac_complete is.frac (is.exp ++ rest) is.frac_is one)
    ∙ exp_complete is.exp rest is.exp_is k

digit_or : (b : ℕ) → is_digit b ≡ true → is_digit b || (b == 45) ≡ true
digit_or b h = grind arith

minus_or : (b : ℕ) → (b == 45) ≡ true → is_digit b || (b == 45) ≡ true
minus_or b h = grind arith

minus_first : (m i f x t : List ℕ) → t ≡ m ++ (i ++ (f ++ x)) → is_minus m ≡ true → is_int i ≡ true → (b : ℕ) × (bs : List ℕ) × (t ≡ b ∷ bs) × (is_digit b || (b == 45) ≡ true)
minus_first [] i f x t e h k =
    let d = int_first i [] k in
    (d.0, d.1 ++ (f ++ x), e ∙ ap (λ (l : List ℕ). l ++ (f ++ x)) d.2, digit_or d.0 d.3)
minus_first (b ∷ []) i f x t e h k = (b, i ++ (f ++ x), e, minus_or b h)
minus_first (b ∷ c ∷ m) i f x t e h k = absurd cc

-- a number begins with a digit or a minus
pub number_first : (t : List ℕ) → IsNumber t → (b : ℕ) × (bs : List ℕ) × (t ≡ b ∷ bs) × (is_digit b || (b == 45) ≡ true)
number_first t is = minus_first is.minus is.int is.frac is.exp t is.parts is.minus_is is.int_is
