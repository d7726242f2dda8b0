-- What building patterns by a shop says, one step behind another.
use Rattle.std.proofs.Common.{◌≡◌, ℕ, ◌+◌, ◌<◌, ◌≤◌, List, [], ◌∷◌, ◌++◌, length, take, get_or, is_ok, Result, Ok, Err, refl, sym, ap, ◌∙◌, subst, arith}
use Rattle.std.specs.Prelude.{⊤, IsOk, IsErrOf, Contains, flat_map}
use Rattle.std.specs.List.{All}
use Rattle.std.proofs.lemmas.List.{append-nil, take_more, take_all}
use Rattle.std.proofs.lemmas.List.Elements.{All-append, All-cons, All-nil}
use Rattle.std.proofs.lemmas.List.Folds.{length-flat_map-take}
use Rattle.std.proofs.lemmas.List.Concat.{get_or-flat_map}
use Rattle.std.proofs.lemmas.Grind.{flat_map-append}
use Rattle.gl_base.specs.Counts.{Rose, HasCause}
use Rattle.gl_outside.specs.declared.fault.Outside.{Outside}
use Rattle.gl_outside.specs.declared.fault.Outside.TheVariants as outside
use Rattle.gl_patterns.specs.Patterns.{IsPattern}
use Rattle.gl_patterns.specs.Shop.{refused_after}
use Rattle.gl_building.specs.declared.fault.StageFault.{StageFault}
use Rattle.gl_building.specs.declared.fault.StageFault.TheVariants.{PatternFault, OutOfMemory}
use Rattle.gl_building.specs.Building.{Builds}

abbrev error_or : {T : Type 0} → StageFault → Result T StageFault → StageFault
error_or e (Ok x) = e
error_or e (Err f) = f

same_error : {T : Type 0} (e f : StageFault) → IsErrOf {T = T} {E = StageFault} (Err e) f → e ≡ f
same_error {T} e f is = ap (error_or {T = T} e) is

abbrev IsMemory : StageFault → Type 0
IsMemory PatternFault = ⊥
IsMemory OutOfMemory = ⊤

no_fault : {T : Type 0} → IsErrOf {T = T} {E = StageFault} (Err OutOfMemory) PatternFault → ⊥
no_fault {T} is = subst IsMemory (same_error {T = T} OutOfMemory PatternFault is) tt

abbrev IsDone : {T E : Type 0} → Result T E → Type 0
IsDone (Ok x) = ⊤
IsDone (Err e) = ⊥

not_refused : {T E : Type 0} (x : T) (e : E) → IsErrOf {T = T} {E = E} (Ok x) e → ⊥
not_refused {T} {E} x e is = subst (IsDone {T = T} {E = E}) is tt

abbrev IsOutsideMemory : {T : Type 0} → Result T Outside → Type 0
IsOutsideMemory (Err outside.OutOfMemory) = ⊤
IsOutsideMemory other = ⊥

-- Nothing was refused so far.
pub record IsSteady (texts : List (List ℕ)) (f0 f1 : ℕ) (r0 r1 : List ℕ) : Type 0 where
  pub patterns : All IsPattern texts
  pub faults : f1 ≡ f0
  pub refused : r1 ≡ r0

pub none_built : (f0 : ℕ) (r0 : List ℕ) → IsSteady [] f0 f0 r0 r0
none_built f0 r0 = record { patterns = All-nil IsPattern; faults = refl; refused = refl }

-- a call that succeeded
pub was_built : {T : Type 0} (texts : List (List ℕ)) (f0 f1 : ℕ) (r0 r1 : List ℕ) (x : T) → Builds texts f0 f1 r0 r1 (Ok x) → IsSteady texts f0 f1 r0 r1
was_built texts f0 f1 r0 r1 x built = record {
  patterns = built.patterns refl;
  faults = built.cause.steady (not_refused x PatternFault);
  refused = built.kept (not_refused x PatternFault);
}

-- the same, of texts that are these
pub was_built_as : {T : Type 0} (texts whole : List (List ℕ)) (f0 f1 : ℕ) (r0 r1 : List ℕ) (x : T) → texts ≡ whole → Builds texts f0 f1 r0 r1 (Ok x) → IsSteady whole f0 f1 r0 r1
was_built_as texts whole f0 f1 r0 r1 x same built = subst (λ (l : List (List ℕ)). IsSteady l f0 f1 r0 r1) same (was_built texts f0 f1 r0 r1 x built)

-- one behind another
pub both_built : (front texts : List (List ℕ)) (f0 f1 f2 : ℕ) (r0 r1 r2 : List ℕ) → IsSteady front f0 f1 r0 r1 → IsSteady texts f1 f2 r1 r2 → IsSteady (front ++ texts) f0 f2 r0 r2
both_built front texts f0 f1 f2 r0 r1 r2 first second = record {
  patterns = All-append IsPattern front texts first.patterns second.patterns;
  faults = second.faults ∙ first.faults;
  refused = second.refused ∙ first.refused;
}

-- The answers of a call behind such steps.

pub builds_all : {T : Type 0} (texts : List (List ℕ)) (f0 f1 : ℕ) (r0 r1 : List ℕ) (x : T) → IsSteady texts f0 f1 r0 r1 → Builds texts f0 f1 r0 r1 (Ok x)
builds_all texts f0 f1 r0 r1 x steady = record {
  patterns = λ _. steady.patterns;
  cause = record {
    later = subst (λ (n : ℕ). f0 ≤ n) (sym steady.faults) (omega arith);
    rose = λ is. absurd (not_refused x PatternFault is);
    steady = λ _. steady.faults;
  };
  refused = λ is. absurd (not_refused x PatternFault is);
  kept = λ _. steady.refused;
}

no_memory : {T : Type 0} (whole front : List (List ℕ)) (f0 f1 : ℕ) (r0 r1 : List ℕ) → IsSteady front f0 f1 r0 r1 → Builds {T = T} whole f0 f1 r0 r1 (Err OutOfMemory)
no_memory {T} whole front f0 f1 r0 r1 steady = record {
  patterns = λ is. absurd (cc is);
  cause = record {
    later = subst (λ (n : ℕ). f0 ≤ n) (sym steady.faults) (omega arith);
    rose = λ is. absurd (no_fault {T = T} is);
    steady = λ _. steady.faults;
  };
  refused = λ is. absurd (no_fault {T = T} is);
  kept = λ _. steady.refused;
}

-- a step failed, whose texts are among the whole call's
step_failed : {T U : Type 0} (whole front texts : List (List ℕ)) (f0 f1 f2 : ℕ) (r0 r1 r2 : List ℕ) (e : StageFault)
    → IsSteady front f0 f1 r0 r1 → Builds {T = T} texts f1 f2 r1 r2 (Err e) → ((text : List ℕ) → Contains texts text → Contains whole text) → Builds {T = U} whole f0 f2 r0 r2 (Err e)
step_failed {T} {U} whole front texts f0 f1 f2 r0 r1 r2 e steady built among = record {
  patterns = λ is. absurd (cc is);
  cause = record {
    later = subst (λ (n : ℕ). n ≤ f2) steady.faults built.cause.later;
    rose = λ is. subst (λ (n : ℕ). Rose n f2) steady.faults (built.cause.rose (ap (λ (x : StageFault). Err x) (same_error {T = U} e PatternFault is)));
    steady = λ other. built.cause.steady (λ is. other (ap (λ (x : StageFault). Err x) (same_error {T = T} e PatternFault is))) ∙ steady.faults;
  };
  refused = λ is. among r2 (built.refused (ap (λ (x : StageFault). Err x) (same_error {T = U} e PatternFault is)));
  kept = λ other. built.kept (λ is. other (ap (λ (x : StageFault). Err x) (same_error {T = T} e PatternFault is))) ∙ steady.refused;
}

-- The same at the exit of a `?`, whose error is this one.
abbrev pub Hands : {T : Type 0} → Result T StageFault → StageFault → Type 0
Hands r e = (y : StageFault) × (r ≡ Err y) × (y ≡ e)

pub memory_handed : {T : Type 0} (whole front : List (List ℕ)) (f0 f1 : ℕ) (r0 r1 : List ℕ) (r : Result T StageFault) → Hands r OutOfMemory → IsSteady front f0 f1 r0 r1 → Builds whole f0 f1 r0 r1 r
memory_handed {T} whole front f0 f1 r0 r1 r hands steady =
    subst (λ (x : Result T StageFault). Builds whole f0 f1 r0 r1 x) (sym (hands.1 ∙ ap (λ (y : StageFault). Err y) hands.2)) (no_memory whole front f0 f1 r0 r1 steady)

pub fault_handed : {T U : Type 0} (whole front texts : List (List ℕ)) (f0 f1 f2 : ℕ) (r0 r1 r2 : List ℕ) (e : StageFault) (r : Result U StageFault) → Hands r e
    → IsSteady front f0 f1 r0 r1 → Builds {T = T} texts f1 f2 r1 r2 (Err e) → ((text : List ℕ) → Contains texts text → Contains whole text) → Builds whole f0 f2 r0 r2 r
fault_handed {T} {U} whole front texts f0 f1 f2 r0 r1 r2 e r hands steady built among =
    subst (λ (x : Result U StageFault). Builds whole f0 f2 r0 r2 x) (sym (hands.1 ∙ ap (λ (y : StageFault). Err y) hands.2))
    (step_failed {T = T} whole front texts f0 f1 f2 r0 r1 r2 e steady built among)

-- the same, of texts that are these
pub among_as : (texts more whole : List (List ℕ)) → texts ≡ more → ((text : List ℕ) → Contains more text → Contains whole text) → (text : List ℕ) → Contains texts text → Contains whole text
among_as texts more whole same among text found = among text (subst (λ (l : List (List ℕ)). Contains l text) same found)

-- What a shop answers to one text.

module _ {T U : Type 0} (text given : List ℕ) (f0 f1 : ℕ) (r0 r1 : List ℕ) (r : Result T Outside) (same : given ≡ text) (cause : HasCause outside.Failed f0 f1 r) (refused : r1 ≡ refused_after r given r0) where
  pub one_built : (x : T) (y : U) → r ≡ Ok x → (IsOk r → IsPattern given) → Builds (text ∷ []) f0 f1 r0 r1 (Ok y)
  one_built x y is read = builds_all (text ∷ []) f0 f1 r0 r1 y (record {
    patterns = All-cons IsPattern text [] (subst IsPattern same (read (ap (λ (o : Result T Outside). is_ok o) is))) (All-nil IsPattern);
    faults = cause.steady (λ failed. not_refused x outside.Failed (sym is ∙ failed));
    refused = refused ∙ ap (λ (o : Result T Outside). refused_after o given r0) is;
  })

  pub one_refused : r ≡ Err outside.Failed → Builds {T = U} (text ∷ []) f0 f1 r0 r1 (Err PatternFault)
  one_refused is = record {
    patterns = λ done. absurd (cc done);
    cause = record {
      later = cause.later;
      rose = λ _. cause.rose is;
      steady = λ other. absurd (other refl);
    };
    refused = λ _. (0, omega arith, sym same ∙ sym (refused ∙ ap (λ (o : Result T Outside). refused_after o given r0) is));
    kept = λ other. absurd (other refl);
  }

  pub one_unbuilt : r ≡ Err outside.OutOfMemory → Builds {T = U} (text ∷ []) f0 f1 r0 r1 (Err OutOfMemory)
  one_unbuilt is = no_memory (text ∷ []) [] f0 f1 r0 r1 (record {
    patterns = All-nil IsPattern;
    faults = cause.steady (λ failed. subst (IsOutsideMemory {T = T}) (sym is ∙ failed) tt);
    refused = refused ∙ ap (λ (o : Result T Outside). refused_after o given r0) is;
  })

-- Which texts are among others.

module _ {X : Type 0} (g : X → List (List ℕ)) (xs : List X) (i : ℕ) (x : X) (within : i < length xs) (there : x ≡ get_or xs i x) where
  pub among : (text : List ℕ) → Contains (g x) text → Contains (flat_map g xs) text
  among text found =
      let at : Contains (g (get_or xs i x)) text = subst (λ (y : X). Contains (g y) text) there found in (
        length (flat_map g (take i xs)) + at.0,
        omega (arith, at.1, length-flat_map-take g xs i x within),
        get_or-flat_map g xs i at.0 x text within at.1 ∙ at.2,
      )

  -- one element more
  one_more : flat_map g (take (i + 1) xs) ≡ flat_map g (take i xs) ++ g x
  one_more =
      ap (flat_map g) (take_more xs i x within ∙ ap (λ (y : X). take i xs ++ y ∷ []) (sym there))
      ∙ flat_map-append g (take i xs) (x ∷ [])
      ∙ ap (λ (l : List (List ℕ)). flat_map g (take i xs) ++ l) (append-nil (g x))

  pub more_built : (f0 f1 f2 : ℕ) (r0 r1 r2 : List ℕ) → IsSteady (flat_map g (take i xs)) f0 f1 r0 r1 → IsSteady (g x) f1 f2 r1 r2 → IsSteady (flat_map g (take (i + 1) xs)) f0 f2 r0 r2
  more_built f0 f1 f2 r0 r1 r2 first second =
      subst (λ (texts : List (List ℕ)). IsSteady texts f0 f2 r0 r2) (sym one_more) (both_built (flat_map g (take i xs)) (g x) f0 f1 f2 r0 r1 r2 first second)

-- behind all elements
pub all_built : {X T : Type 0} (g : X → List (List ℕ)) (xs : List X) (i : ℕ) (f0 f1 : ℕ) (r0 r1 : List ℕ) (y : T) → length xs ≤ i → IsSteady (flat_map g (take i xs)) f0 f1 r0 r1 → Builds (flat_map g xs) f0 f1 r0 r1 (Ok y)
all_built {X} g xs i f0 f1 r0 r1 y past steady =
    builds_all (flat_map g xs) f0 f1 r0 r1 y (subst (λ (ys : List X). IsSteady (flat_map g ys) f0 f1 r0 r1) (take_all i xs past) steady)

-- Texts that are built one by one.

abbrev pub alone : List ℕ → List (List ℕ)
alone text = text ∷ []

each_alone : (texts : List (List ℕ)) → flat_map alone texts ≡ texts
each_alone [] = refl
each_alone (text ∷ texts) = ap (λ (l : List (List ℕ)). text ∷ l) (each_alone texts)

pub among_alone : (texts : List (List ℕ)) (i : ℕ) (text : List ℕ) → i < length texts → text ≡ get_or texts i text → (other : List ℕ) → Contains (text ∷ []) other → Contains texts other
among_alone texts i text within there other found =
    subst (λ (l : List (List ℕ)). Contains l other) (each_alone texts) (among alone texts i text within there other found)

pub all_alone : {T : Type 0} (texts : List (List ℕ)) (i : ℕ) (f0 f1 : ℕ) (r0 r1 : List ℕ) (y : T) → length texts ≤ i → IsSteady (flat_map alone (take i texts)) f0 f1 r0 r1 → Builds texts f0 f1 r0 r1 (Ok y)
all_alone {T} texts i f0 f1 r0 r1 y past steady =
    subst (λ (l : List (List ℕ)). Builds l f0 f1 r0 r1 (Ok y)) (each_alone texts) (all_built alone texts i f0 f1 r0 r1 y past steady)
