-- What a chain of options that gives something has at each of its links.
use Rattle.std.specs.Prelude.{◌≡◌, Bool, true, false, Option, Some, None, option_and_then}
use Rattle.std.proofs.Common.{refl, cond, subst}

pub of_some : {A : Type 0} (P : A → Type 0) (x y : A) → Some x ≡ Some y → P x → P y
of_some P x y is h = let same : x ≡ y = cc in subst P same h

pub of_test : {A : Type 0} (b : Bool) (o : Option A) (y : A) → cond b o None ≡ Some y → (b ≡ true) × (o ≡ Some y)
of_test true o y is = (refl, is)
of_test false o y is = absurd cc

pub of_refusal : {A : Type 0} (b : Bool) (o : Option A) (y : A) → cond b None o ≡ Some y → (b ≡ false) × (o ≡ Some y)
of_refusal true o y is = absurd cc
of_refusal false o y is = (refl, is)

pub of_one : {A Y : Type 0} (P : Y → Type 0) (o : Option A) (f : A → Option Y) (y : Y)
    → option_and_then (λ a. f a) o ≡ Some y
    → ((a : A) → o ≡ Some a → f a ≡ Some y → P y) → P y
of_one P None f y is next = absurd cc
of_one P (Some a) f y is next = next a refl is

pub of_two : {A B Y : Type 0} (P : Y → Type 0) (o : Option A) (p : Option B) (f : A → B → Option Y) (y : Y)
    → option_and_then (λ a. option_and_then (λ b. f a b) p) o ≡ Some y
    → ((a : A) (b : B) → o ≡ Some a → p ≡ Some b → f a b ≡ Some y → P y) → P y
of_two P None p f y is next = absurd cc
of_two P (Some a) None f y is next = absurd cc
of_two P (Some a) (Some b) f y is next = next a b refl refl is

pub of_three : {A B C Y : Type 0} (P : Y → Type 0) (o : Option A) (p : Option B) (q : Option C) (f : A → B → C → Option Y) (y : Y)
    → option_and_then (λ a. option_and_then (λ b. option_and_then (λ c. f a b c) q) p) o ≡ Some y
    → ((a : A) (b : B) (c : C) → o ≡ Some a → p ≡ Some b → q ≡ Some c → f a b c ≡ Some y → P y) → P y
of_three P None p q f y is next = absurd cc
of_three P (Some a) None q f y is next = absurd cc
of_three P (Some a) (Some b) None f y is next = absurd cc
of_three P (Some a) (Some b) (Some c) f y is next = next a b c refl refl refl is

pub of_four : {A B C D Y : Type 0} (P : Y → Type 0) (o : Option A) (p : Option B) (q : Option C) (r : Option D) (f : A → B → C → D → Option Y) (y : Y)
    → option_and_then (λ a. option_and_then (λ b. option_and_then (λ c. option_and_then (λ d. f a b c d) r) q) p) o ≡ Some y
    → ((a : A) (b : B) (c : C) (d : D) → o ≡ Some a → p ≡ Some b → q ≡ Some c → r ≡ Some d → f a b c d ≡ Some y → P y) → P y
of_four P None p q r f y is next = absurd cc
of_four P (Some a) None q r f y is next = absurd cc
of_four P (Some a) (Some b) None r f y is next = absurd cc
of_four P (Some a) (Some b) (Some c) None f y is next = absurd cc
of_four P (Some a) (Some b) (Some c) (Some d) f y is next = next a b c d refl refl refl refl is

pub of_five : {A B C D E Y : Type 0} (P : Y → Type 0) (o : Option A) (p : Option B) (q : Option C) (r : Option D) (s : Option E) (f : A → B → C → D → E → Option Y) (y : Y)
    → option_and_then (λ a. option_and_then (λ b. option_and_then (λ c. option_and_then (λ d. option_and_then (λ e. f a b c d e) s) r) q) p) o ≡ Some y
    → ((a : A) (b : B) (c : C) (d : D) (e : E) → o ≡ Some a → p ≡ Some b → q ≡ Some c → r ≡ Some d → s ≡ Some e → f a b c d e ≡ Some y → P y) → P y
of_five P None p q r s f y is next = absurd cc
of_five P (Some a) None q r s f y is next = absurd cc
of_five P (Some a) (Some b) None r s f y is next = absurd cc
of_five P (Some a) (Some b) (Some c) None s f y is next = absurd cc
of_five P (Some a) (Some b) (Some c) (Some d) None f y is next = absurd cc
of_five P (Some a) (Some b) (Some c) (Some d) (Some e) f y is next = next a b c d e refl refl refl refl refl is

pub none_unless : {A : Type 0} (o : Option A) → ((x : A) → o ≡ Some x → ⊥) → o ≡ None
none_unless None h = refl
none_unless (Some x) h = absurd (h x refl)
