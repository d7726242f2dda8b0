-- What one image of those that a crash may leave is, step by step and in plain words.
use Rattle.std.proofs.Common.{◌≡◌, ◌≢◌, inl, inr, ◌⊎◌, ℕ, zero, suc, ◌+◌, ◌-◌, ◌/◌, ◌≤◌, Bool, true, false, List, [], ◌∷◌, ◌++◌, length, take, drop, if◌then◌else◌, refl, sym, ◌∙◌, ap, subst, arith, length-append, length-drop}
use Rattle.std.proofs.lemmas.Bool.{cases_eq}
use Rattle.std.proofs.lemmas.Bool.Decides.{nat_tests}
use Rattle.std.proofs.lemmas.List.{take-take, take_at, drop-drop, append-nil, length-take, length-replicate}
use lib.Dec.{leb}
use Rattle.gl_outside.specs.declared.crash.Unsynced.{Unsynced}
use Rattle.gl_outside.specs.declared.crash.Unsynced.TheVariants.{Absent, Half, Whole, Zeros, Ones}
use Rattle.gl_outside.specs.AfterCrash.{first_calls, of_written, of_cut, left_by}
use Rattle.gl_outside.specs.Disk.{Image, Torn, CutTo, overwritten}
use Rattle.gl_outside.specs.Events.{Event, Looked, Wrote, WasCut, Synced, content, IsImage, LeftSince, put, put_there, put_elsewhere, written_over, torn_whole, counts}
use Rattle.gl_outside.specs.Crash.{IsCrashImage, AreLawful}
use Rattle.gl_outside.proofs.CrashImages.{after_write, after_cut, after_sync, later, same_write, same_cut, same_sync, by_steps}

-- ---- a part is no longer than the whole

written_short : (k : Unsynced) (bytes : List ℕ) → length (of_written k bytes) ≤ length bytes
written_short Absent bytes = omega arith
written_short Half bytes = omega (arith, length-take (length bytes / 2) bytes)
written_short Whole bytes = omega arith
written_short Zeros bytes = omega (arith, length-replicate {A = ℕ} (length bytes) 0)
written_short Ones bytes = omega (arith, length-replicate {A = ℕ} (length bytes) 255)

cut_short : (k : Unsynced) (bytes : List ℕ) → length (of_cut k bytes) ≤ length bytes
cut_short Absent bytes = omega arith
cut_short Half bytes = omega (arith, length-take (length bytes / 2) bytes)
cut_short Whole bytes = omega arith
cut_short Zeros bytes = omega (arith, length-replicate {A = ℕ} (length bytes) 0)
cut_short Ones bytes = omega (arith, length-replicate {A = ℕ} (length bytes) 255)

-- ---- each step is one that a crash may cut short

wider : (at m n : ℕ) (l new : List ℕ) → m ≤ n → Torn at m l new → Torn at n l new
wider at m n l new le torn =
    let place : at + m + (n - m) ≡ at + n = omega arith in record {
      before = torn.before;
      after = sym (drop-drop (n - m) (at + m) new ∙ ap (λ (j : ℕ). drop j new) place) ∙ ap (λ (x : List ℕ). drop (n - m) x) torn.after ∙ (drop-drop (n - m) (at + m) l ∙ ap (λ (j : ℕ). drop j l) place);
      no_shorter = torn.no_shorter;
      no_longer = omega (arith, torn.no_longer);
    }

over_is_torn : (at n : ℕ) (part l : List ℕ) → length part ≤ n → Torn at n l (written_over at part l)
over_is_torn at n part l short = within (leb at (length l)) refl
  where
    within : (b : Bool) → leb at (length l) ≡ b → Torn at n l (if b then overwritten at part l else l)
    within true is = wider at (length part) n l (overwritten at part l) short (torn_whole at part l (grind (arith, nat_tests)))
    within false is = record { before = refl; after = refl; no_shorter = omega arith; no_longer = omega arith }

no_bytes : (l : List ℕ) → length l ≤ 0 → l ≡ []
no_bytes [] le = refl
no_bytes (x ∷ l) le = absurd (omega arith)

end_is_cut : (n : ℕ) (end l : List ℕ) → length end ≤ length (drop n l) → CutTo n l (take n l ++ end)
end_is_cut n end l short = record {
  before = elim (cases_eq (length (take n l)) n) [
    | inl full ↦ take_at (take n l) end n full
    | inr less ↦
        let none : end ≡ [] = no_bytes end (omega (arith, short, less, length-take n l, length-drop n l)) in
        ap (λ (x : List ℕ). take n (take n l ++ x)) none ∙ ap (take n) (append-nil (take n l)) ∙ take-take n n l (omega arith)
  ];
  no_longer = omega (arith, short, length-append (take n l) end, length-take n l, length-drop n l);
}

-- ---- so it is an image

pub put_at : (a : ℕ) (l : List ℕ) (image : Image) (b : ℕ) → (P : ℕ → List ℕ → Type 0) → P a l → (b ≢ a → P b (image b)) → P b (put a l image b)
put_at a l image b P there elsewhere = elim (cases_eq b a) [
  | inl here ↦ subst (λ (k : ℕ). P k (put a l image k)) (sym here) (subst (λ (x : List ℕ). P a x) (sym (put_there a l image)) there)
  | inr ne ↦ subst (λ (x : List ℕ). P b x) (sym (put_elsewhere a l image b ne)) (elsewhere ne)
]

pub left_in_words : (k : Unsynced) (events : List Event) (b : ℕ) → IsCrashImage b events (left_by k events b)
left_in_words k [] b = record { least = omega arith; most = omega arith; kept = λ j lt off. absurd (omega arith) }
left_in_words k (Looked ∷ events) b = let was = left_in_words k events b in record { least = was.least; most = was.most; kept = was.kept }
left_in_words k (Wrote a at bytes done ∷ events) b =
    put_at a (written_over at (of_written k bytes) (left_by k events a)) (left_by k events) b (λ j l. IsCrashImage j (Wrote a at bytes done ∷ events) l)
    (after_write a at bytes done events (left_by k events a) _ (left_in_words k events a) (over_is_torn at (length bytes) (of_written k bytes) (left_by k events a) (written_short k bytes)))
    (λ ne. later b (Wrote a at bytes done ∷ events) events _ (same_write a at bytes done events b ne) (left_in_words k events b))
left_in_words k (WasCut a n done ∷ events) b =
    put_at a (take n (left_by k events a) ++ of_cut k (drop n (left_by k events a))) (left_by k events) b (λ j l. IsCrashImage j (WasCut a n done ∷ events) l)
    (after_cut a n done events (left_by k events a) _ (left_in_words k events a) (end_is_cut n (of_cut k (drop n (left_by k events a))) (left_by k events a) (cut_short k (drop n (left_by k events a)))))
    (λ ne. later b (WasCut a n done ∷ events) events _ (same_cut a n done events b ne) (left_in_words k events b))
left_in_words k (Synced a ∷ events) b =
    put_at a (content events a) (left_by k events) b (λ j l. IsCrashImage j (Synced a ∷ events) l)
    (after_sync a events (content events a) refl)
    (λ ne. later b (Synced a ∷ events) events _ (same_sync a events b ne) (left_in_words k events b))

pub lawful_front : (m : ℕ) (events : List Event) → AreLawful events → AreLawful (drop m events)
lawful_front zero events lawful = lawful
lawful_front (suc m) [] lawful = lawful
lawful_front (suc m) (Looked ∷ events) lawful = lawful_front m events lawful
lawful_front (suc m) (Wrote a at bytes done ∷ events) lawful = lawful_front m events lawful.1
lawful_front (suc m) (WasCut a n done ∷ events) lawful = lawful_front m events lawful
lawful_front (suc m) (Synced a ∷ events) lawful = lawful_front m events lawful

pub left_is_image : (k : Unsynced) (n : ℕ) (events : List Event) (c : Image) → AreLawful events → ((b : ℕ) → c b ≡ left_by k (first_calls n events) b) → IsImage (first_calls n events) c
left_is_image k n events c lawful is = by_steps (first_calls n events) c (lawful_front (length events - n) events lawful) (λ b. subst (λ (l : List ℕ). IsCrashImage b (first_calls n events) l) (sym (is b)) (left_in_words k (first_calls n events) b))

-- ---- what may be left behind the first so many calls may be left since any earlier moment

whole : (events : List Event) (n : ℕ) → length events ≤ n → first_calls n events ≡ events
whole events n le = ap (λ (j : ℕ). drop j events) (none (length events) n le)
  where
    none : (m n : ℕ) → m ≤ n → m - n ≡ 0
    none m n le = omega arith

fewer : (e : Event) (events : List Event) (n : ℕ) → n ≤ length events → first_calls n (e ∷ events) ≡ first_calls n events
fewer e events n le = ap (λ (j : ℕ). drop j (e ∷ events)) (one_more (length events) n le)
  where
    one_more : (m n : ℕ) → n ≤ m → suc m - n ≡ suc (m - n)
    one_more m n le = omega arith

pub since : (events : List Event) (n t : ℕ) (c : Image) → t ≤ n → t ≤ length events → IsImage (first_calls n events) c → LeftSince events t c
since [] n t c le few is = subst (λ (l : List Event). IsImage l c) (whole [] n (omega arith)) is
since (e ∷ events) n t c le few is = elim (late n (length events)) [
  | inl all ↦ counts (e ∷ events) t c few (subst (λ (l : List Event). IsImage l c) (whole (e ∷ events) n all) is)
  | inr less ↦ inr (omega arith, since events n t c le (omega arith) (subst (λ (l : List Event). IsImage l c) (fewer e events n less) is))
]
  where
    late : (n m : ℕ) → (suc m ≤ n) ⊎ (n ≤ m)
    late n m = grind (arith, nat_tests)
