-- The images that a crash may leave, in words alone: the lengths that an area had, and the bytes that were touched.
use Rattle.std.proofs.Common.{◌≡◌, inl, inr, ◌⊎◌, ℕ, ◌+◌, ◌≤◌, ◌<◌, Bool, true, false, ◌&&◌, ◌||◌, nat_lt, nat_le, ◌==◌, List, [], ◌∷◌, ◌++◌, min, max, length, take, drop, if◌then◌else◌, refl, sym, ◌∙◌, ap, subst, arith, length-append, length-drop}
use Rattle.std.proofs.lemmas.Bool.{cases_eq, true≢false}
use Rattle.std.proofs.lemmas.Bool.Decides.{nat_tests}
use Rattle.std.proofs.lemmas.List.{length-take}
use lib.Dec.{leb}
use Rattle.gl_outside.specs.Disk.{Image, overwritten}
use Rattle.gl_outside.specs.Events.{Event, Looked, Wrote, WasCut, Synced, content, IsImage, put_there, put_elsewhere, written, written_over}
use Rattle.gl_outside.specs.Crash.{synced, least_length, greatest_length, is_touched, IsCrashImage, AreLawful}
use Rattle.gl_outside.specs.ImageWords.{HadLength, WasTouched, MayBeLeft}
use Rattle.gl_outside.proofs.CrashImages.{in_words, by_steps, now_in_words, same_write, same_cut, same_sync, greatest_write, least_cut, at_sync}

which : (m n : ℕ) → (m ≤ n) ⊎ (n < m)
which m n = grind (arith, nat_tests)

-- ---- what a call makes of a length

length_over : (at : ℕ) (bytes l : List ℕ) → at ≤ length l → length (overwritten at bytes l) ≡ max (length l) (at + length bytes)
length_over at bytes l le = omega (arith, length-append (take at l ++ bytes) (drop (at + length bytes) l), length-append (take at l) bytes, length-take at l, length-drop (at + length bytes) l)

after_write : (a at : ℕ) (bytes : List ℕ) (events : List Event) → at ≤ length (content events a) → length (content (Wrote a at bytes true ∷ events) a) ≡ max (length (content events a)) (at + length bytes)
after_write a at bytes events begins = ap length (put_there a (written_over at bytes (content events a)) (content events)) ∙ over (leb at (length (content events a))) refl
  where
    over : (t : Bool) → leb at (length (content events a)) ≡ t → length (if t then overwritten at bytes (content events a) else content events a) ≡ max (length (content events a)) (at + length bytes)
    over true is = length_over at bytes (content events a) begins
    over false is = absurd (grind (arith, nat_tests, begins))

after_cut : (a m : ℕ) (events : List Event) → length (content (WasCut a m true ∷ events) a) ≡ min m (length (content events a))
after_cut a m events = ap length (put_there a (take m (content events a)) (content events)) ∙ length-take m (content events a)

-- ---- the least and the greatest are lengths that it had, and the others lie between

had_least : (b : ℕ) (events : List Event) → HadLength b events (least_length b events)
had_least b [] = refl
had_least b (Looked ∷ events) = had_least b events
had_least b (Wrote a at bytes done ∷ events) = inl (had_least b events)
had_least b (WasCut a m done ∷ events) = elim (cases_eq b a) [
  | inl here ↦ subst (λ (k : ℕ). HadLength k (WasCut a m done ∷ events) (least_length k (WasCut a m done ∷ events))) (sym here) (elim (which (least_length a events) m) [
    | inl short ↦ inl (subst (λ (n : ℕ). HadLength a events n) (omega (arith, least_cut a m done events, short)) (had_least a events))
    | inr less ↦ inr (omega (arith, least_cut a m done events, less, after_cut a m events, (now_in_words events a).least))
  ])
  | inr ne ↦ inl (subst (λ (n : ℕ). HadLength b events n) (sym (same_cut a m done events b ne).least) (had_least b events))
]
had_least b (Synced a ∷ events) = elim (cases_eq b a) [
  | inl here ↦ subst (λ (k : ℕ). HadLength k (Synced a ∷ events) (least_length k (Synced a ∷ events))) (sym here) (inl (refl, (at_sync a events).least))
  | inr ne ↦ inr ((λ e. ne (sym e)), subst (λ (n : ℕ). HadLength b events n) (sym (same_sync a events b ne).least) (had_least b events))
]

had_greatest : (b : ℕ) (events : List Event) → AreLawful events → HadLength b events (greatest_length b events)
had_greatest b [] lawful = refl
had_greatest b (Looked ∷ events) lawful = had_greatest b events lawful
had_greatest b (Wrote a at bytes done ∷ events) lawful = elim (cases_eq b a) [
  | inl here ↦ subst (λ (k : ℕ). HadLength k (Wrote a at bytes done ∷ events) (greatest_length k (Wrote a at bytes done ∷ events))) (sym here) (elim (which (at + length bytes) (greatest_length a events)) [
    | inl short ↦ inl (subst (λ (n : ℕ). HadLength a events n) (omega (arith, greatest_write a at bytes done events, short)) (had_greatest a events lawful.1))
    | inr more ↦ inr (omega (arith, greatest_write a at bytes done events, more, after_write a at bytes events lawful.0, (now_in_words events a).most))
  ])
  | inr ne ↦ inl (subst (λ (n : ℕ). HadLength b events n) (sym (same_write a at bytes done events b ne).greatest) (had_greatest b events lawful.1))
]
had_greatest b (WasCut a m done ∷ events) lawful = inl (had_greatest b events lawful)
had_greatest b (Synced a ∷ events) lawful = elim (cases_eq b a) [
  | inl here ↦ subst (λ (k : ℕ). HadLength k (Synced a ∷ events) (greatest_length k (Synced a ∷ events))) (sym here) (inl (refl, (at_sync a events).greatest))
  | inr ne ↦ inr ((λ e. ne (sym e)), subst (λ (n : ℕ). HadLength b events n) (sym (same_sync a events b ne).greatest) (had_greatest b events lawful))
]

grows : (b a at : ℕ) (bytes : List ℕ) (done : Bool) (events : List Event) → greatest_length b events ≤ greatest_length b (Wrote a at bytes done ∷ events)
grows b a at bytes done events = elim (cases_eq b a) [
  | inl here ↦ subst (λ (k : ℕ). greatest_length k events ≤ greatest_length k (Wrote a at bytes done ∷ events)) (sym here) (omega (arith, greatest_write a at bytes done events))
  | inr ne ↦ omega (arith, (same_write a at bytes done events b ne).greatest)
]

shrinks : (b a m : ℕ) (done : Bool) (events : List Event) → least_length b (WasCut a m done ∷ events) ≤ least_length b events
shrinks b a m done events = elim (cases_eq b a) [
  | inl here ↦ subst (λ (k : ℕ). least_length k (WasCut a m done ∷ events) ≤ least_length k events) (sym here) (omega (arith, least_cut a m done events))
  | inr ne ↦ omega (arith, (same_cut a m done events b ne).least)
]

between : (b : ℕ) (events : List Event) (n : ℕ) → HadLength b events n → (least_length b events ≤ n) × (n ≤ greatest_length b events)
between b [] n had = (omega arith, omega (arith, had))
between b (Looked ∷ events) n had = between b events n had
between b (Wrote a at bytes done ∷ events) n (inl had) = let was = between b events n had in (was.0, omega (arith, was.1, grows b a at bytes done events))
between b (Wrote a at bytes done ∷ events) n (inr is) =
    let now = now_in_words (Wrote a at bytes true ∷ events) b in (
      subst (λ (k : ℕ). least_length b events ≤ k) (sym is) now.least,
      subst (λ (k : ℕ). k ≤ greatest_length b (Wrote a at bytes true ∷ events)) (sym is) now.most,
    )
between b (WasCut a m done ∷ events) n (inl had) = let was = between b events n had in (omega (arith, was.0, shrinks b a m done events), was.1)
between b (WasCut a m done ∷ events) n (inr is) =
    let now = now_in_words (WasCut a m true ∷ events) b in (
      subst (λ (k : ℕ). least_length b (WasCut a m true ∷ events) ≤ k) (sym is) now.least,
      subst (λ (k : ℕ). k ≤ greatest_length b events) (sym is) now.most,
    )
between b (Synced a ∷ events) n (inl had) =
    let now = now_in_words (Synced a ∷ events) b in (
      subst (λ (k : ℕ). least_length b (Synced a ∷ events) ≤ k) (sym had.1) now.least,
      subst (λ (k : ℕ). k ≤ greatest_length b (Synced a ∷ events)) (sym had.1) now.most,
    )
between b (Synced a ∷ events) n (inr had) =
    let same = same_sync a events b (λ e. had.0 (sym e)) in
    let was = between b events n had.1 in
    (omega (arith, was.0, same.least), omega (arith, was.1, same.greatest))

-- ---- the bytes that were touched

or_true : (x t : Bool) → t ≡ true → (x || t) ≡ true
or_true true t is = refl
or_true false t is = is

marked : (b p : ℕ) (events : List Event) → WasTouched b p events → is_touched b p events ≡ true
marked b p [] touched = absurd touched
marked b p (Looked ∷ events) touched = marked b p events touched
marked b p (Wrote a at bytes done ∷ events) (inl touched) = or_true (a == b && nat_le at p && nat_lt p (at + length bytes)) (is_touched b p events) (marked b p events touched)
marked b p (Wrote a at bytes done ∷ events) (inr touched) = let here = touched.0 in let le = touched.1 in let lt = touched.2 in grind (arith, nat_tests)
marked b p (WasCut a m done ∷ events) (inl touched) = or_true (a == b && nat_le m p) (is_touched b p events) (marked b p events touched)
marked b p (WasCut a m done ∷ events) (inr touched) = let here = touched.0 in let le = touched.1 in grind (arith, nat_tests)
marked b p (Synced a ∷ events) touched = (same_sync a events b (λ e. touched.0 (sym e))).touched p ∙ marked b p events touched.1

-- a byte that was there at the last sync and is gone was cut away
gone : (b p : ℕ) (events : List Event) → p < length (synced b events) → length (content events b) ≤ p → WasTouched b p events
gone b p [] lt off = absurd (omega (arith, lt))
gone b p (Looked ∷ events) lt off = gone b p events lt off
gone b p (Wrote a at bytes true ∷ events) lt off = inl (gone b p events lt (omega (arith, off, longer)))
  where
    longer : length (content events b) ≤ length (content (Wrote a at bytes true ∷ events) b)
    longer = elim (cases_eq b a) [
      | inl here ↦ subst (λ (k : ℕ). length (content events k) ≤ length (content (Wrote a at bytes true ∷ events) k)) (sym here) (written a at bytes events).there.no_shorter
      | inr ne ↦ omega (arith, ap length ((written a at bytes events).elsewhere b ne))
    ]
gone b p (Wrote a at bytes false ∷ events) lt off = inl (gone b p events lt off)
gone b p (WasCut a m true ∷ events) lt off = elim (cases_eq b a) [
  | inl here ↦ elim (which (length (content events b)) p) [
    | inl before ↦ inl (gone b p events lt before)
    | inr there ↦ inr (sym here, omega (arith, off, there, subst (λ (k : ℕ). length (content (WasCut a m true ∷ events) k) ≡ min m (length (content events k))) (sym here) (after_cut a m events)), there)
  ]
  | inr ne ↦ inl (gone b p events lt (omega (arith, off, ap length (put_elsewhere a (take m (content events a)) (content events) b ne))))
]
gone b p (WasCut a m false ∷ events) lt off = inl (gone b p events lt off)
gone b p (Synced a ∷ events) lt off = elim (cases_eq b a) [
  | inl here ↦ absurd (omega (arith, lt, off, subst (λ (k : ℕ). length (synced k (Synced a ∷ events)) ≡ length (content events k)) (sym here) (ap length (at_sync a events).bytes)))
  | inr ne ↦ ((λ e. ne (sym e)), gone b p events (omega (arith, lt, ap length (same_sync a events b ne).bytes)) off)
]

mark : (x t : Bool) → (x || t) ≡ true → (t ≡ true) ⊎ (x ≡ true)
mark true t is = inr refl
mark false t is = inl is

-- a byte of the last sync that is marked was touched
touched : (b p : ℕ) (events : List Event) → p < length (synced b events) → is_touched b p events ≡ true → WasTouched b p events
touched b p [] lt is = absurd (true≢false (sym is))
touched b p (Looked ∷ events) lt is = touched b p events lt is
touched b p (Wrote a at bytes done ∷ events) lt is = elim (mark (a == b && nat_le at p && nat_lt p (at + length bytes)) (is_touched b p events) is) [
  | inl before ↦ inl (touched b p events lt before)
  | inr now ↦ inr (grind (arith, nat_tests), grind (arith, nat_tests), grind (arith, nat_tests))
]
touched b p (WasCut a m done ∷ events) lt is = elim (mark (a == b && nat_le m p) (is_touched b p events) is) [
  | inl before ↦ inl (touched b p events lt before)
  | inr now ↦ elim (which (length (content events b)) p) [
    | inl off ↦ inl (gone b p events lt off)
    | inr there ↦ inr (grind (arith, nat_tests), grind (arith, nat_tests), there)
  ]
]
touched b p (Synced a ∷ events) lt is = elim (cases_eq b a) [
  | inl here ↦ absurd (true≢false (sym is ∙ subst (λ (k : ℕ). is_touched k p (Synced a ∷ events) ≡ false) (sym here) ((at_sync a events).touched p)))
  | inr ne ↦ ((λ e. ne (sym e)), touched b p events (omega (arith, lt, ap length (same_sync a events b ne).bytes)) (sym ((same_sync a events b ne).touched p) ∙ is))
]

-- ---- one form and the other

to_words : (b : ℕ) (events : List Event) (l : List ℕ) → AreLawful events → IsCrashImage b events l → MayBeLeft b events l
to_words b events l lawful is = record {
  no_shorter = (least_length b events, had_least b events, is.least);
  no_longer = (greatest_length b events, had_greatest b events lawful, is.most);
  kept = λ p lt off. is.kept p lt (unmarked p lt off (is_touched b p events) refl);
}
  where
    unmarked : (p : ℕ) → p < length (synced b events) → (WasTouched b p events → ⊥) → (t : Bool) → is_touched b p events ≡ t → is_touched b p events ≡ false
    unmarked p lt off true is = absurd (off (touched b p events lt is))
    unmarked p lt off false is = is

from_words : (b : ℕ) (events : List Event) (l : List ℕ) → MayBeLeft b events l → IsCrashImage b events l
from_words b events l is = record {
  least = omega (arith, (between b events is.no_shorter.0 is.no_shorter.1).0, is.no_shorter.2);
  most = omega (arith, (between b events is.no_longer.0 is.no_longer.1).1, is.no_longer.2);
  kept = λ p lt off. is.kept p lt (λ t. true≢false (sym (marked b p events t) ∙ off));
}

pub said : (events : List Event) (c : Image) → AreLawful events → IsImage events c → (b : ℕ) → MayBeLeft b events (c b)
said events c lawful is b = to_words b events (c b) lawful (in_words events c is b)

pub meant : (events : List Event) (c : Image) → AreLawful events → ((b : ℕ) → MayBeLeft b events (c b)) → IsImage events c
meant events c lawful is = by_steps events c lawful (λ b. from_words b events (c b) (is b))
