-- The images that a crash may leave, by its steps and in plain words.
use Rattle.std.proofs.Common.{◌≡◌, ◌≢◌, inl, inr, ⊎_elim, ◌⊎◌, ℕ, ◌+◌, ◌-◌, ◌≤◌, ◌<◌, Bool, true, false, ◌&&◌, ◌||◌, not, nat_lt, nat_le, ◌==◌, List, [], ◌∷◌, min, max, length, get_or, if◌then◌else◌, refl, sym, ◌∙◌, ap, subst, arith}
use Rattle.std.proofs.lemmas.Bool.{cases_eq, true≢false}
use Rattle.std.proofs.lemmas.Bool.Decides.{nat_tests}
use Rattle.std.proofs.lemmas.List.{length-take, get_or-take, get_or-drop, ext_get_or}
use Rattle.gl_outside.specs.Disk.{Image, InArea, Torn, CutTo}
use Rattle.gl_outside.specs.Events.{Event, Looked, Wrote, WasCut, Synced, content, IsImage, content_is_image, put, put_there, put_elsewhere}
use Rattle.gl_outside.specs.Crash.{synced, least_length, greatest_length, is_touched, IsCrashImage, AreLawful}
use Rattle.gl_outside.proofs.CrashLists.{before_write, before_cut}

-- ---- which bytes are untouched

or_false : (x t : Bool) → (x || t) ≡ false → (x ≡ false) × (t ≡ false)
or_false true t e = absurd (true≢false e)
or_false false t e = (refl, e)

untouched_write : (a k at n : ℕ) (t : Bool) → (a == a && nat_le at k && nat_lt k (at + n) || t) ≡ false → ((k < at) ⊎ (at + n ≤ k)) × (t ≡ false)
untouched_write a k at n t e = let both = or_false (a == a && nat_le at k && nat_lt k (at + n)) t e in (outside (nat_le at k) refl (nat_lt k (at + n)) refl both.0, both.1)
  where
    same : a == a ≡ true
    same = grind (arith, nat_tests)

    outside : (x : Bool) → nat_le at k ≡ x → (y : Bool) → nat_lt k (at + n) ≡ y → (a == a && nat_le at k && nat_lt k (at + n)) ≡ false → (k < at) ⊎ (at + n ≤ k)
    outside false e y f off = inl (grind (arith, nat_tests))
    outside true e false f off = inr (grind (arith, nat_tests))
    outside true e true f off = absurd (grind (arith, nat_tests, same))

untouched_cut : (a k n : ℕ) (t : Bool) → (a == a && nat_le n k || t) ≡ false → (k < n) × (t ≡ false)
untouched_cut a k n t e = let both = or_false (a == a && nat_le n k) t e in (grind (arith, nat_tests), both.1)

-- ---- an event of another area changes nothing here

pub other : (a b : ℕ) → b ≢ a → a == b ≡ false
other a b ne = grind (arith, nat_tests)

pub own : (a : ℕ) → a == a ≡ true
own a = grind (arith, nat_tests)

-- the same bounds after one event more
pub record Same (b : ℕ) (now before : List Event) : Type 0 where
  pub bytes : synced b now ≡ synced b before
  pub least : least_length b now ≡ least_length b before
  pub greatest : greatest_length b now ≡ greatest_length b before
  pub touched : (k : ℕ) → is_touched b k now ≡ is_touched b k before

pub same_write : (a at : ℕ) (bytes : List ℕ) (done : Bool) (events : List Event) (b : ℕ) → b ≢ a → Same b (Wrote a at bytes done ∷ events) events
same_write a at bytes done events b ne = let off = other a b ne in record {
  bytes = refl;
  least = refl;
  greatest = ap (λ (x : Bool). if x then max (at + length bytes) (greatest_length b events) else greatest_length b events) off;
  touched = λ k. ap (λ (x : Bool). x && nat_le at k && nat_lt k (at + length bytes) || is_touched b k events) off;
}

pub same_cut : (a n : ℕ) (done : Bool) (events : List Event) (b : ℕ) → b ≢ a → Same b (WasCut a n done ∷ events) events
same_cut a n done events b ne = let off = other a b ne in record {
  bytes = refl;
  least = ap (λ (x : Bool). if x then min n (least_length b events) else least_length b events) off;
  greatest = refl;
  touched = λ k. ap (λ (x : Bool). x && nat_le n k || is_touched b k events) off;
}

pub same_sync : (a : ℕ) (events : List Event) (b : ℕ) → b ≢ a → Same b (Synced a ∷ events) events
same_sync a events b ne = let off = other a b ne in record {
  bytes = ap (λ (x : Bool). if x then content events b else synced b events) off;
  least = ap (λ (x : Bool). if x then length (content events b) else least_length b events) off;
  greatest = ap (λ (x : Bool). if x then length (content events b) else greatest_length b events) off;
  touched = λ k. ap (λ (x : Bool). not x && is_touched b k events) off;
}

pub later : (b : ℕ) (now before : List Event) (l : List ℕ) → Same b now before → IsCrashImage b before l → IsCrashImage b now l
later b now before l same is = record {
  least = omega (arith, same.least, is.least);
  most = omega (arith, same.greatest, is.most);
  kept = λ k lt off. is.kept k (omega (arith, ap length same.bytes)) (sym (same.touched k) ∙ off) ∙ sym (ap (λ (s : List ℕ). get_or s k 0) same.bytes);
}

earlier_on : (b : ℕ) (now before : List Event) (l : List ℕ) → Same b now before → IsCrashImage b now l → IsCrashImage b before l
earlier_on b now before l same is = later b before now l (record { bytes = sym same.bytes; least = sym same.least; greatest = sym same.greatest; touched = λ k. sym (same.touched k) }) is

-- ---- an event of this area

pub greatest_write : (a at : ℕ) (bytes : List ℕ) (done : Bool) (events : List Event) → greatest_length a (Wrote a at bytes done ∷ events) ≡ max (at + length bytes) (greatest_length a events)
greatest_write a at bytes done events = ap (λ (x : Bool). if x then max (at + length bytes) (greatest_length a events) else greatest_length a events) (own a)

pub least_cut : (a n : ℕ) (done : Bool) (events : List Event) → least_length a (WasCut a n done ∷ events) ≡ min n (least_length a events)
least_cut a n done events = ap (λ (x : Bool). if x then min n (least_length a events) else least_length a events) (own a)

-- the bounds after a sync
pub record AtSync (a : ℕ) (events : List Event) : Type 0 where
  pub bytes : synced a (Synced a ∷ events) ≡ content events a
  pub least : least_length a (Synced a ∷ events) ≡ length (content events a)
  pub greatest : greatest_length a (Synced a ∷ events) ≡ length (content events a)
  pub touched : (k : ℕ) → is_touched a k (Synced a ∷ events) ≡ false

pub at_sync : (a : ℕ) (events : List Event) → AtSync a events
at_sync a events = let yes = own a in record {
  bytes = ap (λ (x : Bool). if x then content events a else synced a events) yes;
  least = ap (λ (x : Bool). if x then length (content events a) else least_length a events) yes;
  greatest = ap (λ (x : Bool). if x then length (content events a) else greatest_length a events) yes;
  touched = λ k. ap (λ (x : Bool). not x && is_touched a k events) yes;
}

pub after_write : (a at : ℕ) (bytes : List ℕ) (done : Bool) (events : List Event) (d l : List ℕ) → IsCrashImage a events d → Torn at (length bytes) d l → IsCrashImage a (Wrote a at bytes done ∷ events) l
after_write a at bytes done events d l is torn = record {
  least = omega (arith, is.least, torn.no_shorter);
  most = omega (arith, is.most, torn.no_longer, greatest_write a at bytes done events);
  kept = λ k lt off. let out = untouched_write a k at (length bytes) (is_touched a k events) off in ⊎_elim (λ front. before k front) (λ back. after k back) out.0 ∙ is.kept k lt out.1;
}
  where
    before : (k : ℕ) → k < at → get_or l k 0 ≡ get_or d k 0
    before k lt = sym (get_or-take at l k 0 lt) ∙ ap (λ (x : List ℕ). get_or x k 0) torn.before ∙ get_or-take at d k 0 lt

    after : (k : ℕ) → at + length bytes ≤ k → get_or l k 0 ≡ get_or d k 0
    after k le =
        let place : at + length bytes + (k - (at + length bytes)) ≡ k = omega arith in
        sym (ap (λ (j : ℕ). get_or l j 0) place) ∙ sym (get_or-drop (at + length bytes) l (k - (at + length bytes)) 0) ∙ ap (λ (x : List ℕ). get_or x (k - (at + length bytes)) 0) torn.after ∙ get_or-drop (at + length bytes) d (k - (at + length bytes)) 0 ∙ ap (λ (j : ℕ). get_or d j 0) place

pub after_cut : (a n : ℕ) (done : Bool) (events : List Event) (d l : List ℕ) → IsCrashImage a events d → CutTo n d l → IsCrashImage a (WasCut a n done ∷ events) l
after_cut a n done events d l is cut = record {
  least = omega (arith, is.least, least_cut a n done events, ap length cut.before, length-take n l, length-take n d);
  most = omega (arith, is.most, cut.no_longer);
  kept = λ k lt off. let out = untouched_cut a k n (is_touched a k events) off in sym (get_or-take n l k 0 out.0) ∙ ap (λ (x : List ℕ). get_or x k 0) cut.before ∙ get_or-take n d k 0 out.0 ∙ is.kept k lt out.1;
}

pub after_sync : (a : ℕ) (events : List Event) (l : List ℕ) → l ≡ content events a → IsCrashImage a (Synced a ∷ events) l
after_sync a events l is = let at = at_sync a events in record {
  least = omega (arith, at.least, ap length is);
  most = omega (arith, at.greatest, ap length is);
  kept = λ k lt off. ap (λ (x : List ℕ). get_or x k 0) (is ∙ sym at.bytes);
}

-- ---- each image by steps is one in plain words

pub in_words : (events : List Event) (c : Image) → IsImage events c → (b : ℕ) → IsCrashImage b events (c b)
in_words [] c is b = record { least = omega arith; most = omega (arith, ap length (is b)); kept = λ k lt off. absurd (omega arith) }
in_words (Looked ∷ events) c is b = let was = in_words events c is b in record { least = was.least; most = was.most; kept = was.kept }
in_words (Wrote a at bytes done ∷ events) c is b = elim (cases_eq b a) [
  | inl here ↦ subst (λ (k : ℕ). IsCrashImage k (Wrote a at bytes done ∷ events) (c k)) (sym here) (after_write a at bytes done events (is.0 a) (c a) (in_words events is.0 is.1 a) is.2.there)
  | inr ne ↦ later b (Wrote a at bytes done ∷ events) events (c b) (same_write a at bytes done events b ne) (subst (λ (l : List ℕ). IsCrashImage b events l) (sym (is.2.elsewhere b ne)) (in_words events is.0 is.1 b))
]
in_words (WasCut a n done ∷ events) c is b = elim (cases_eq b a) [
  | inl here ↦ subst (λ (k : ℕ). IsCrashImage k (WasCut a n done ∷ events) (c k)) (sym here) (after_cut a n done events (is.0 a) (c a) (in_words events is.0 is.1 a) is.2.there)
  | inr ne ↦ later b (WasCut a n done ∷ events) events (c b) (same_cut a n done events b ne) (subst (λ (l : List ℕ). IsCrashImage b events l) (sym (is.2.elsewhere b ne)) (in_words events is.0 is.1 b))
]
in_words (Synced a ∷ events) c is b = elim (cases_eq b a) [
  | inl here ↦ subst (λ (k : ℕ). IsCrashImage k (Synced a ∷ events) (c k)) (sym here) (after_sync a events (c a) is.1)
  | inr ne ↦ later b (Synced a ∷ events) events (c b) (same_sync a events b ne) (in_words events c is.0 b)
]

-- ---- the bounds are in order

order : (b : ℕ) (events : List Event) → least_length b events ≤ greatest_length b events
order b [] = omega arith
order b (Looked ∷ events) = order b events
order b (Wrote a at bytes done ∷ events) = elim (cases_eq a b) [
  | inl here ↦ subst (λ (k : ℕ). least_length k (Wrote a at bytes done ∷ events) ≤ greatest_length k (Wrote a at bytes done ∷ events)) here (omega (arith, order a events, greatest_write a at bytes done events))
  | inr ne ↦ omega (arith, order b events, (same_write a at bytes done events b (λ e. ne (sym e))).greatest)
]
order b (WasCut a n done ∷ events) = elim (cases_eq a b) [
  | inl here ↦ subst (λ (k : ℕ). least_length k (WasCut a n done ∷ events) ≤ greatest_length k (WasCut a n done ∷ events)) here (omega (arith, order a events, least_cut a n done events))
  | inr ne ↦ omega (arith, order b events, (same_cut a n done events b (λ e. ne (sym e))).least)
]
order b (Synced a ∷ events) = elim (cases_eq a b) [
  | inl here ↦ subst (λ (k : ℕ). least_length k (Synced a ∷ events) ≤ greatest_length k (Synced a ∷ events)) here (omega (arith, (at_sync a events).least, (at_sync a events).greatest))
  | inr ne ↦ omega (arith, order b events, (same_sync a events b (λ e. ne (sym e))).least, (same_sync a events b (λ e. ne (sym e))).greatest)
]

-- a byte that is untouched lies before the least length
within : (b : ℕ) (events : List Event) (k : ℕ) → k < length (synced b events) → is_touched b k events ≡ false → k < least_length b events
within b [] k lt off = absurd (omega arith)
within b (Looked ∷ events) k lt off = within b events k lt off
within b (Wrote a at bytes done ∷ events) k lt off = within b events k lt (or_false (a == b && nat_le at k && nat_lt k (at + length bytes)) (is_touched b k events) off).1
within b (WasCut a n done ∷ events) k lt off = elim (cases_eq a b) [
  | inl here ↦ subst (λ (j : ℕ). k < length (synced j events) → is_touched j k (WasCut a n done ∷ events) ≡ false → k < least_length j (WasCut a n done ∷ events)) here (λ l t. let out = untouched_cut a k n (is_touched a k events) t in omega (arith, out.0, within a events k l out.1, least_cut a n done events)) lt off
  | inr ne ↦ let same = same_cut a n done events b (λ e. ne (sym e)) in omega (arith, same.least, within b events k lt (sym (same.touched k) ∙ off))
]
within b (Synced a ∷ events) k lt off = elim (cases_eq a b) [
  | inl here ↦ subst (λ (j : ℕ). k < length (synced j (Synced a ∷ events)) → k < least_length j (Synced a ∷ events)) here (λ l. omega (arith, ap length (at_sync a events).bytes, (at_sync a events).least)) lt
  | inr ne ↦ let same = same_sync a events b (λ e. ne (sym e)) in omega (arith, same.least, within b events k (omega (arith, ap length same.bytes)) (sym (same.touched k) ∙ off))
]

-- ---- each image in plain words is one by steps

touched_not : (a k at n : ℕ) (t : Bool) → (k < at) ⊎ (at + n ≤ k) → t ≡ false → (a == a && nat_le at k && nat_lt k (at + n) || t) ≡ false
touched_not a k at n t out is = ⊎_elim (λ front. grind (arith, nat_tests)) (λ back. grind (arith, nat_tests)) out

touched_not_cut : (a k n : ℕ) (t : Bool) → k < n → t ≡ false → (a == a && nat_le n k || t) ≡ false
touched_not_cut a k n t lt is = grind (arith, nat_tests)

-- an image with another list in one area
filled : (a : ℕ) (events : List Event) (c : Image) (l : List ℕ) → IsCrashImage a events l → ((b : ℕ) → b ≢ a → IsCrashImage b events (c b)) → (b : ℕ) → IsCrashImage b events (put a l c b)
filled a events c l there elsewhere b = elim (cases_eq b a) [
  | inl here ↦ subst (λ (k : ℕ). IsCrashImage k events (put a l c k)) (sym here) (subst (λ (x : List ℕ). IsCrashImage a events x) (sym (put_there a l c)) there)
  | inr ne ↦ subst (λ (x : List ℕ). IsCrashImage b events x) (sym (put_elsewhere a l c b ne)) (elsewhere b ne)
]

step_from : (a : ℕ) (step : List ℕ → List ℕ → Type 0) (c : Image) (l : List ℕ) → step l (c a) → InArea a step (put a l c) c
step_from a step c l made = record {
  there = subst (λ (x : List ℕ). step x (c a)) (sym (put_there a l c)) made;
  elsewhere = λ b ne. sym (put_elsewhere a l c b ne);
}

-- what the area may have been before the write, and before the cut
unwritten : (a at : ℕ) (bytes : List ℕ) (done : Bool) (events : List Event) (l : List ℕ) → at ≤ greatest_length a events → IsCrashImage a (Wrote a at bytes done ∷ events) l → (d : List ℕ) × IsCrashImage a events d × Torn at (length bytes) d l
unwritten a at bytes done events l begins is =
    let found = before_write (least_length a events) (greatest_length a events) at (length bytes) (synced a events) (λ k. is_touched a k events) l
    is.least (omega (arith, is.most, greatest_write a at bytes done events))
    (λ k lt off out. is.kept k lt (touched_not a k at (length bytes) (is_touched a k events) out off))
    (order a events) begins (within a events) in
    (found.0, record { least = found.1.least; most = found.1.most; kept = found.1.kept }, found.2)

uncut : (a n : ℕ) (done : Bool) (events : List Event) (l : List ℕ) → IsCrashImage a (WasCut a n done ∷ events) l → (d : List ℕ) × IsCrashImage a events d × CutTo n d l
uncut a n done events l is =
    let found = before_cut (least_length a events) (greatest_length a events) n (synced a events) (λ k. is_touched a k events) l
    (omega (arith, is.least, least_cut a n done events)) is.most
    (λ k lt off out. is.kept k lt (touched_not_cut a k n (is_touched a k events) out off))
    (order a events) (within a events) in
    (found.0, record { least = found.1.least; most = found.1.most; kept = found.1.kept }, found.2)

-- after a sync nothing but what it read as is left
as_synced : (a : ℕ) (events : List Event) (l : List ℕ) → IsCrashImage a (Synced a ∷ events) l → l ≡ content events a
as_synced a events l is =
    let at = at_sync a events in
    let long : length l ≡ length (content events a) = omega (arith, is.least, is.most, at.least, at.greatest) in
    ext_get_or 0 l (content events a) long (λ k lt. is.kept k (omega (arith, ap length at.bytes, long)) (at.touched k) ∙ ap (λ (x : List ℕ). get_or x k 0) at.bytes)

pub now_in_words : (events : List Event) (b : ℕ) → IsCrashImage b events (content events b)
now_in_words events b = in_words events (content events) (content_is_image events) b

pub by_steps : (events : List Event) (c : Image) → AreLawful events → ((b : ℕ) → IsCrashImage b events (c b)) → IsImage events c
by_steps [] c lawful is = λ b. nothing (c b) (is b).most
  where
    nothing : (l : List ℕ) → length l ≤ 0 → l ≡ []
    nothing [] le = refl
    nothing (x ∷ l) le = absurd (omega arith)
by_steps (Looked ∷ events) c lawful is = by_steps events c lawful (λ b. record { least = (is b).least; most = (is b).most; kept = (is b).kept })
by_steps (Wrote a at bytes done ∷ events) c lawful is =
    let before = unwritten a at bytes done events (c a) (omega (arith, lawful.0, (now_in_words events a).most)) (is a) in (
      put a before.0 c,
      by_steps events (put a before.0 c) lawful.1 (filled a events c before.0 before.1 (λ b ne. earlier_on b (Wrote a at bytes done ∷ events) events (c b) (same_write a at bytes done events b ne) (is b))),
      step_from a (Torn at (length bytes)) c before.0 before.2,
    )
by_steps (WasCut a n done ∷ events) c lawful is =
    let before = uncut a n done events (c a) (is a) in (
      put a before.0 c,
      by_steps events (put a before.0 c) lawful (filled a events c before.0 before.1 (λ b ne. earlier_on b (WasCut a n done ∷ events) events (c b) (same_cut a n done events b ne) (is b))),
      step_from a (CutTo n) c before.0 before.2,
    )
by_steps (Synced a ∷ events) c lawful is =
    let there = as_synced a events (c a) (is a) in (
      by_steps events c lawful (λ b. elim (cases_eq b a) [
        | inl here ↦ subst (λ (k : ℕ). IsCrashImage k events (c k)) (sym here) (subst (λ (l : List ℕ). IsCrashImage a events l) (sym there) (now_in_words events a))
        | inr ne ↦ earlier_on b (Synced a ∷ events) events (c b) (same_sync a events b ne) (is b)
      ]),
      there,
    )
