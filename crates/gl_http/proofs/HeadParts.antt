-- The parts of a head: what is read of some bytes is what stands there, and what stands there is read.
use Rattle.std.proofs.Common.{◌≡◌, ℕ, zero, suc, ◌<◌, ◌≤◌, inl, inr, Bool, true, false, cond, eqb, List, [], ◌∷◌, ◌++◌, length, take, drop, Option, Some, None, refl, sym, ap, ap₂, subst, ◌&&◌, ◌∙◌, arith, take-append-drop}
use Rattle.std.specs.Prelude.{option_map, option_and_then, take_while, ltb, ◌⊎◌, IsUtf8}
use Rattle.std.specs.List.{prefix_len}
use Rattle.std.specs.Str.{is_utf8, bytes_eq}
use Rattle.std.proofs.lemmas.Bool.{cases_eq, eq-eqb, ne_eqb, lt-ltb, ltb-true, eqb-true, and_parts, or_cases}
use Rattle.std.proofs.lemmas.List.Elements.{All-head, All-tail, All-cons, All-nil}
use Rattle.std.proofs.lemmas.List.Folds.{length-prefix_len}
use Rattle.std.proofs.lemmas.List.Sums.{take_while-cons}
use Rattle.std.proofs.lemmas.Option.{option_and_then_some, cond_some, none-some, same_Some}
use Rattle.std.proofs.lemmas.Slice.Eq.{bytes_eq-Decides}
use Rattle.std.proofs.lemmas.Str.{is_utf8-from_IsUtf8, IsUtf8-from_is_utf8}
use Rattle.httparse.specs.Grammar.{AllPass, LineEnd, crlf, lf, print_end, print_blank, print_version, is_uri_byte}
use Rattle.httparse.specs.Pieces.{Stops, is_newline}
use Rattle.gl_http.specs.Heads.{byte_at, run_at, some_at, end_at, ends_in, blank_at, target_at, version_at}

-- a run of bytes, and what stops it

module _ (test : ℕ → Bool) where
  pub run_is : (w r : List ℕ) → AllPass test w → Stops test r → take_while test (w ++ r) ≡ w
  run_is [] [] all s = absurd s
  run_is [] (b ∷ r) all s = take_while-cons test b r ∙ ap (λ t. cond t (b ∷ take_while test r) []) s
  run_is (b ∷ w) r all s =
      take_while-cons test b (w ++ r) ∙ ap (λ t. cond t (b ∷ take_while test (w ++ r)) []) (All-head (λ v. test v ≡ true) b w all)
      ∙ ap (λ (v : List ℕ). b ∷ v) (run_is w r (All-tail (λ v. test v ≡ true) b w all) s)

  passing : (b : ℕ) (bytes : List ℕ) (t : Bool) → test b ≡ t → AllPass test (take_while test bytes) → AllPass test (cond t (b ∷ take_while test bytes) [])
  passing b bytes true is all = All-cons (λ v. test v ≡ true) b (take_while test bytes) is all
  passing b bytes false is all = All-nil (λ v. test v ≡ true)

  pub run_passes : (bytes : List ℕ) → AllPass test (take_while test bytes)
  run_passes [] = All-nil (λ v. test v ≡ true)
  run_passes (b ∷ bytes) = subst (AllPass test) (sym (take_while-cons test b bytes)) (passing b bytes (test b) refl (run_passes bytes))

  pub run_splits : (bytes : List ℕ) → bytes ≡ take_while test bytes ++ drop (length (take_while test bytes)) bytes
  run_splits bytes =
      sym (take-append-drop (prefix_len test bytes) bytes)
      ∙ ap (λ (n : ℕ). take_while test bytes ++ drop n bytes) (sym (length-prefix_len test bytes))

past_front : (w r : List ℕ) → drop (length w) (w ++ r) ≡ r
past_front [] r = refl
past_front (b ∷ w) r = past_front w r

module _ (test : ℕ → Bool) where
  pub run_found : (w r : List ℕ) → AllPass test w → Stops test r → run_at test (w ++ r) ≡ Some (w, r)
  run_found w r all s = rw (run_is test w r all s, past_front w r) refl

  pub run_reads : (bytes : List ℕ) (x : List ℕ × List ℕ) → run_at test bytes ≡ Some x → (bytes ≡ x.0 ++ x.1) × AllPass test x.0
  run_reads bytes x h =
      let same = same_Some (take_while test bytes, drop (length (take_while test bytes)) bytes) x h in
      subst (λ (y : List ℕ × List ℕ). (bytes ≡ y.0 ++ y.1) × AllPass test y.0) same (run_splits test bytes, run_passes test bytes)

  pub some_found : (w r : List ℕ) → 0 < length w → AllPass test w → Stops test r → some_at test (w ++ r) ≡ Some (w, r)
  some_found w r some all s =
      let taken = run_is test w r all s in
      let long : ltb 0 (length (take_while test (w ++ r))) ≡ true = ap (λ (v : List ℕ). ltb 0 (length v)) taken ∙ lt-ltb 0 (length w) some in
      ap (λ (t : Bool). cond t (run_at test (w ++ r)) None) long ∙ run_found w r all s

  pub some_reads : (bytes : List ℕ) (x : List ℕ × List ℕ) → some_at test bytes ≡ Some x → (bytes ≡ x.0 ++ x.1) × (0 < length x.0) × AllPass test x.0
  some_reads bytes x h =
      let both = cond_some (ltb 0 (length (take_while test bytes))) (take_while test bytes, drop (length (take_while test bytes)) bytes) x h in
      let r = run_reads bytes x (ap Some both.1) in
      (r.0, subst (λ (y : List ℕ × List ℕ). 0 < length y.0) both.1 (ltb-true 0 (length (take_while test bytes)) both.0), r.1)

-- one byte

pub byte_found : (b : ℕ) (r : List ℕ) → byte_at b (b ∷ r) ≡ Some (b, r)
byte_found b r = rw (eq-eqb b b refl) refl

pub byte_reads : (b : ℕ) (bytes : List ℕ) (x : ℕ × List ℕ) → byte_at b bytes ≡ Some x → bytes ≡ b ∷ x.1
byte_reads b [] x h = absurd (none-some x h)
byte_reads b (c ∷ bytes) x h = elim (cases_eq c b) [
  | inl same ↦
      let read = same_Some (c, bytes) x (sym (ap (λ t. cond t (Some (c, bytes)) None) (eq-eqb c b same)) ∙ h) in
      ap (λ (y : ℕ). y ∷ bytes) same ∙ ap (λ (y : ℕ × List ℕ). b ∷ y.1) read
  | inr other ↦ absurd (none-some x (sym (ap (λ t. cond t (Some (c, bytes)) None) (ne_eqb c b other)) ∙ h))
]

-- ends of lines

pub end_found : (e : LineEnd) (r : List ℕ) → end_at (print_end e ++ r) ≡ Some (e, r)
end_found crlf r = refl
end_found lf [] = refl
end_found lf (b ∷ r) = refl

end_one : (b : ℕ) (x : LineEnd × List ℕ) → cond {A = Option (LineEnd × List ℕ)} (eqb b 10) (Some (lf, [])) None ≡ Some x → b ∷ [] ≡ print_end x.0 ++ x.1
end_one b x h = elim (cases_eq b 10) [
  | inl same ↦
      let read = same_Some (lf, []) x (sym (ap (λ t. cond {A = Option (LineEnd × List ℕ)} t (Some (lf, [])) None) (eq-eqb b 10 same)) ∙ h) in
      ap (λ (y : ℕ). y ∷ []) same ∙ ap (λ (y : LineEnd × List ℕ). print_end y.0 ++ y.1) read
  | inr other ↦ absurd (none-some x (sym (ap (λ t. cond {A = Option (LineEnd × List ℕ)} t (Some (lf, [])) None) (ne_eqb b 10 other)) ∙ h))
]

-- ends of lines, in all that is read
end_two : (b c : ℕ) (bytes : List ℕ) (x : LineEnd × List ℕ) → end_at (b ∷ c ∷ bytes) ≡ Some x → b ∷ c ∷ bytes ≡ print_end x.0 ++ x.1
end_two b c bytes x h = elim (cases_eq b 10) [
  | inl same ↦
      let read = same_Some (lf, c ∷ bytes) x (sym (ap (λ t. cond {A = Option (LineEnd × List ℕ)} t (Some (lf, c ∷ bytes)) (cond (eqb b 13 && eqb c 10) (Some (crlf, bytes)) None)) (eq-eqb b 10 same)) ∙ h) in
      ap (λ (y : ℕ). y ∷ c ∷ bytes) same ∙ ap (λ (y : LineEnd × List ℕ). print_end y.0 ++ y.1) read
  | inr other ↦
      let both = cond_some (eqb b 13 && eqb c 10) (crlf, bytes) x (sym (ap (λ t. cond {A = Option (LineEnd × List ℕ)} t (Some (lf, c ∷ bytes)) (cond (eqb b 13 && eqb c 10) (Some (crlf, bytes)) None)) (ne_eqb b 10 other)) ∙ h) in
      let first : b ≡ 13 = eqb-true b 13 (and_parts (eqb b 13) (eqb c 10) both.0).0 in
      let second : c ≡ 10 = eqb-true c 10 (and_parts (eqb b 13) (eqb c 10) both.0).1 in
      ap₂ (λ (y z : ℕ). y ∷ z ∷ bytes) first second ∙ ap (λ (y : LineEnd × List ℕ). print_end y.0 ++ y.1) both.1
]

pub end_reads : (bytes : List ℕ) (x : LineEnd × List ℕ) → end_at bytes ≡ Some x → bytes ≡ print_end x.0 ++ x.1
end_reads [] x h = absurd (none-some x h)
end_reads (b ∷ []) x h = end_one b x h
end_reads (b ∷ c ∷ bytes) x h = end_two b c bytes x h

-- empty lines

pub mapped : {A B : Type 0} (f : A → B) (o : Option A) (y : B) → option_map f o ≡ Some y → (x : A) × (o ≡ Some x) × (f x ≡ y)
mapped f None y h = absurd (none-some y h)
mapped f (Some x) y h = (x, refl, same_Some (f x) y h)

ends_found : (ends : List LineEnd) → ends_in false (print_blank ends) ≡ Some ends
ends_found [] = refl
ends_found (crlf ∷ ends) = ap (option_map (λ (es : List LineEnd). crlf ∷ es)) (ends_found ends)
ends_found (lf ∷ ends) = ap (option_map (λ (es : List LineEnd). lf ∷ es)) (ends_found ends)

newline_cr : (b : ℕ) → is_newline b ≡ true → (b ≡ 10 → ⊥) → b ≡ 13
newline_cr b h other = elim (or_cases (eqb b 13) (eqb b 10) h) [
  | inl cr ↦ eqb-true b 13 cr
  | inr feed ↦ absurd (other (eqb-true b 10 feed))
]

-- a run of CR and LF is what its line ends print, also where a CR stands before it
abbrev Ends : List ℕ → Type 0
Ends bytes =
    ((ends : List LineEnd) → ends_in false bytes ≡ Some ends → bytes ≡ print_blank ends)
    × ((ends : List LineEnd) → ends_in true bytes ≡ Some ends → 13 ∷ bytes ≡ print_blank ends)

feed_ends : (e : LineEnd) (front bytes : List ℕ) (ends : List LineEnd) → Ends bytes → print_end e ≡ front → option_map (λ es. e ∷ es) (ends_in false bytes) ≡ Some ends → front ++ bytes ≡ print_blank ends
feed_ends e front bytes ends below same h =
    let m = mapped (λ es. e ∷ es) (ends_in false bytes) ends h in
    ap₂ (λ (a b : List ℕ). a ++ b) (sym same) (below.0 m.0 m.1) ∙ ap print_blank m.2

at_feed : (b : ℕ) (bytes : List ℕ) → is_newline b ≡ true → Ends bytes → Ends (b ∷ bytes)
at_feed b bytes is below = elim (cases_eq b 10) [
  | inl same ↦ (
    λ ends h.
        let k : option_map (λ es. lf ∷ es) (ends_in false bytes) ≡ Some ends = sym (ap (λ t. cond t (option_map (λ es. lf ∷ es) (ends_in false bytes)) (ends_in true bytes)) (eq-eqb b 10 same)) ∙ h in
        ap (λ (y : ℕ). y ∷ bytes) same ∙ feed_ends lf (10 ∷ []) bytes ends below refl k,
    λ ends h.
        let k : option_map (λ es. crlf ∷ es) (ends_in false bytes) ≡ Some ends = sym (ap (λ t. cond t (option_map (λ es. crlf ∷ es) (ends_in false bytes)) None) (eq-eqb b 10 same)) ∙ h in
        ap (λ (y : ℕ). 13 ∷ y ∷ bytes) same ∙ feed_ends crlf (13 ∷ 10 ∷ []) bytes ends below refl k,
  )
  | inr other ↦ (
    λ ends h.
        let k : ends_in true bytes ≡ Some ends = sym (ap (λ t. cond t (option_map (λ es. lf ∷ es) (ends_in false bytes)) (ends_in true bytes)) (ne_eqb b 10 other)) ∙ h in
        ap (λ (y : ℕ). y ∷ bytes) (newline_cr b is other) ∙ below.1 ends k,
    λ ends h. absurd (none-some ends (sym (ap (λ t. cond t (option_map (λ es. crlf ∷ es) (ends_in false bytes)) None) (ne_eqb b 10 other)) ∙ h)),
  )
]

ends_read : (bytes : List ℕ) → AllPass is_newline bytes → Ends bytes
ends_read [] all = (λ ends h. ap print_blank (same_Some [] ends h), λ ends h. absurd (none-some ends h))
ends_read (b ∷ bytes) all =
    at_feed b bytes (All-head (λ v. is_newline v ≡ true) b bytes all) (ends_read bytes (All-tail (λ v. is_newline v ≡ true) b bytes all))

blank_passes : (ends : List LineEnd) → AllPass is_newline (print_blank ends)
blank_passes [] = All-nil (λ v. is_newline v ≡ true)
blank_passes (crlf ∷ ends) =
    All-cons (λ v. is_newline v ≡ true) 13 (10 ∷ print_blank ends) refl (All-cons (λ v. is_newline v ≡ true) 10 (print_blank ends) refl (blank_passes ends))
blank_passes (lf ∷ ends) = All-cons (λ v. is_newline v ≡ true) 10 (print_blank ends) refl (blank_passes ends)

pub blank_found : (ends : List LineEnd) (r : List ℕ) → Stops is_newline r → blank_at (print_blank ends ++ r) ≡ Some (ends, r)
blank_found ends r s =
    ap (option_and_then (λ (run : List ℕ × List ℕ). option_and_then (λ (es : List LineEnd). Some (es, run.1)) (ends_in false run.0))) (run_found is_newline (print_blank ends) r (blank_passes ends) s)
    ∙ ap (option_and_then (λ (es : List LineEnd). Some (es, r))) (ends_found ends)

pub blank_reads : (bytes : List ℕ) (x : List LineEnd × List ℕ) → blank_at bytes ≡ Some x → bytes ≡ print_blank x.0 ++ x.1
blank_reads bytes x h =
    option_and_then_some (λ (run : List ℕ × List ℕ). option_and_then (λ (ends : List LineEnd). Some (ends, run.1)) (ends_in false run.0)) (run_at is_newline bytes) x h (λ run read k.
    option_and_then_some (λ (ends : List LineEnd). Some (ends, run.1)) (ends_in false run.0) x k (λ ends is same.
    let r = run_reads is_newline bytes run read in
    r.0 ∙ ap (λ (w : List ℕ). w ++ run.1) ((ends_read run.0 r.1).0 ends is) ∙ ap (λ (y : List LineEnd × List ℕ). print_blank y.0 ++ y.1) (same_Some (ends, run.1) x same)))

-- the target and the version

pub target_found : (w r : List ℕ) → 0 < length w → AllPass is_uri_byte w → IsUtf8 w → Stops is_uri_byte r → target_at (w ++ r) ≡ Some (w, r)
target_found w r some all text s = rw (some_found is_uri_byte w r some all s, is_utf8-from_IsUtf8 w text) refl

pub target_reads : (bytes : List ℕ) (x : List ℕ × List ℕ) → target_at bytes ≡ Some x → (bytes ≡ x.0 ++ x.1) × ((0 < length x.0) × AllPass is_uri_byte x.0) × IsUtf8 x.0
target_reads bytes x h =
    option_and_then_some (λ (t : List ℕ × List ℕ). cond (is_utf8 t.0) (Some t) None) (some_at is_uri_byte bytes) x h (λ t read k.
    let both = cond_some (is_utf8 t.0) t x k in
    let r = some_reads is_uri_byte bytes t read in
    subst (λ (y : List ℕ × List ℕ). (bytes ≡ y.0 ++ y.1) × ((0 < length y.0) × AllPass is_uri_byte y.0) × IsUtf8 y.0) both.1
    (r.0, (r.1, r.2), IsUtf8-from_is_utf8 t.0 both.0))

pub version_found : (minor : ℕ) (r : List ℕ) → minor ≤ 1 → version_at (print_version minor ++ r) ≡ Some (minor, r)
version_found zero r le = refl
version_found (suc zero) r le = refl
version_found (suc (suc minor)) r le = absurd (omega arith)

one_of_two : {A : Type 0} (s t : Bool) (a b x : A) → cond s (Some a) (cond t (Some b) None) ≡ Some x → ((s ≡ true) × (a ≡ x)) ⊎ ((t ≡ true) × (b ≡ x))
one_of_two true t a b x h = inl (refl, same_Some a x h)
one_of_two false t a b x h = inr (cond_some t b x h)

version_is : (bytes : List ℕ) (minor : ℕ) (x : ℕ × List ℕ) → minor ≤ 1 → bytes_eq (take 8 bytes) (print_version minor) ≡ true → (minor, drop 8 bytes) ≡ x → (bytes ≡ print_version x.0 ++ x.1) × (x.0 ≤ 1)
version_is bytes minor x le is same =
    subst (λ (y : ℕ × List ℕ). (bytes ≡ print_version y.0 ++ y.1) × (y.0 ≤ 1)) same
    (sym (take-append-drop 8 bytes) ∙ ap (λ (w : List ℕ). w ++ drop 8 bytes) ((bytes_eq-Decides (take 8 bytes) (print_version minor)).0 is), le)

pub version_reads : (bytes : List ℕ) (x : ℕ × List ℕ) → version_at bytes ≡ Some x → (bytes ≡ print_version x.0 ++ x.1) × (x.0 ≤ 1)
version_reads bytes x h = elim (one_of_two (bytes_eq (take 8 bytes) (print_version 0)) (bytes_eq (take 8 bytes) (print_version 1)) (0, drop 8 bytes) (1, drop 8 bytes) x h) [
  | inl zeroth ↦ version_is bytes 0 x (omega arith) zeroth.0 zeroth.1
  | inr first ↦ version_is bytes 1 x (omega arith) first.0 first.1
]
