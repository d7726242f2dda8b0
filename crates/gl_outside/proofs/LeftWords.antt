-- What is left where nothing that wasn't synced is there, and where each such byte is the same.
use Rattle.std.proofs.Common.{◌≡◌, inl, inr, ◌⊎◌, ℕ, ◌+◌, ◌-◌, ◌≤◌, ◌<◌, Bool, true, false, List, [], ◌∷◌, ◌++◌, max, length, take, drop, replicate, get_or, if◌then◌else◌, refl, sym, ◌∙◌, ap, subst, arith, length-append, length-drop}
use Rattle.std.proofs.lemmas.Bool.Decides.{nat_tests}
use Rattle.std.proofs.lemmas.List.{append-nil, take-append-drop, length-take, length-take-le, length-replicate, get_or-take, get_or-drop, get_or-replicate, get_or_append_left, get_or-append_right}
use lib.Dec.{leb}
use Rattle.gl_outside.specs.declared.crash.Unsynced.{Unsynced}
use Rattle.gl_outside.specs.declared.crash.Unsynced.TheVariants.{Absent, Zeros, Ones}
use Rattle.gl_outside.specs.AfterCrash.{of_written, of_cut, left_by, IsFilled}
use Rattle.gl_outside.specs.Disk.{overwritten}
use Rattle.gl_outside.specs.Events.{Event, Looked, Wrote, WasCut, Synced, content, written_over}
use Rattle.gl_outside.specs.Crash.{synced, is_touched, AreLawful}
use Rattle.gl_outside.proofs.CrashImages.{Same, same_write, same_cut, same_sync, now_in_words, greatest_write, at_sync, own}
use Rattle.gl_outside.proofs.LeftParts.{put_at}

-- ---- nothing is there

none_over : (at : ℕ) (old : List ℕ) → written_over at [] old ≡ old
none_over at old = within (leb at (length old))
  where
    none : (n : ℕ) → n + 0 ≡ n
    none n = omega arith

    within : (b : Bool) → (if b then overwritten at [] old else old) ≡ old
    within true = ap (λ (l : List ℕ). l ++ drop (at + 0) old) (append-nil (take at old)) ∙ ap (λ (k : ℕ). take at old ++ drop k old) (none at) ∙ take-append-drop at old
    within false = refl

pub absent : (events : List Event) (b : ℕ) → left_by Absent events b ≡ synced b events
absent [] b = refl
absent (Looked ∷ events) b = absent events b
absent (Wrote a at bytes done ∷ events) b =
    put_at a (written_over at [] (left_by Absent events a)) (left_by Absent events) b (λ j l. l ≡ synced j events)
    (none_over at (left_by Absent events a) ∙ absent events a)
    (λ ne. absent events b)
absent (WasCut a n done ∷ events) b =
    put_at a (take n (left_by Absent events a) ++ drop n (left_by Absent events a)) (left_by Absent events) b (λ j l. l ≡ synced j events)
    (take-append-drop n (left_by Absent events a) ∙ absent events a)
    (λ ne. absent events b)
absent (Synced a ∷ events) b =
    put_at a (content events a) (left_by Absent events) b (λ j l. l ≡ synced j (Synced a ∷ events))
    (sym (at_sync a events).bytes)
    (λ ne. absent events b ∙ sym (same_sync a events b ne).bytes)

-- ---- each such byte is the same

-- the byte at a place
abbrev wanted : ℕ → ℕ → List Event → ℕ → ℕ
wanted f area events p = if is_touched area p events then f else get_or (synced area events) p 0

untouched : (f p : ℕ) (t : Bool) (l : List ℕ) (x : ℕ) → t ≡ false → x ≡ get_or l p 0 → x ≡ (if t then f else get_or l p 0)
untouched f p t l x is same = grind (arith, nat_tests)

same_wanted : (f area p : ℕ) (now before : List Event) → is_touched area p now ≡ is_touched area p before → synced area now ≡ synced area before → wanted f area before p ≡ wanted f area now p
same_wanted f area p now before touched bytes =
    ap (λ (t : Bool). if t then f else get_or (synced area before) p 0) (sym touched)
    ∙ ap (λ (l : List ℕ). if is_touched area p now then f else get_or l p 0) (sym bytes)

elsewhere : (f b : ℕ) (now before : List Event) (l : List ℕ) → Same b now before → IsFilled f b before l → IsFilled f b now l
elsewhere f b now before l same is = record {
  longest = is.longest ∙ sym same.greatest;
  each = λ p lt. is.each p lt ∙ same_wanted f b p now before (same.touched p) same.bytes;
}

-- where a place lies about a range
about : (p at n : ℕ) → (p < at) ⊎ ((at ≤ p) × (p < at + n)) ⊎ (at + n ≤ p)
about p at n = grind (arith, nat_tests)

after_write : (f a at : ℕ) (bytes : List ℕ) (done : Bool) (events : List Event) (old : List ℕ) → at ≤ length old → IsFilled f a events old
    → IsFilled f a (Wrote a at bytes done ∷ events) (take at old ++ replicate (length bytes) f ++ drop (at + length bytes) old)
after_write f a at bytes done events old begins is =
    let n : ℕ = length bytes in
    let front : length (take at old) ≡ at = length-take-le at old begins in
    let filled : length (take at old ++ replicate n f) ≡ at + n = omega (arith, front, length-append (take at old) (replicate n f), length-replicate n f) in
    let long : length (take at old ++ replicate n f ++ drop (at + n) old) ≡ max (at + n) (length old) = omega (arith, filled, length-append (take at old ++ replicate n f) (drop (at + n) old), length-drop (at + n) old) in
    record {
      longest = omega (arith, long, is.longest, greatest_write a at bytes done events);
      each = λ p lt. elim (about p at n) [
        | inl before ↦
            get_or_append_left (take at old ++ replicate n f) (drop (at + n) old) 0 p (omega (arith, filled, before))
            ∙ get_or_append_left (take at old) (replicate n f) 0 p (omega (arith, front, before))
            ∙ get_or-take at old p 0 before
            ∙ is.each p (omega (arith, before, begins))
            ∙ same_wanted f a p (Wrote a at bytes done ∷ events) events (touched_out p (inl before)) refl
        | inr (inl within) ↦
            get_or_append_left (take at old ++ replicate n f) (drop (at + n) old) 0 p (omega (arith, filled, within.1))
            ∙ get_or-append_right (take at old) (replicate n f) at p 0 front within.0
            ∙ get_or-replicate n (p - at) f 0 (omega (arith, within.0, within.1))
            ∙ ap (λ (t : Bool). if t then f else get_or (synced a events) p 0) (sym (touched_in p within.0 within.1))
        | inr (inr after) ↦
            get_or-append_right (take at old ++ replicate n f) (drop (at + n) old) (at + n) p 0 filled after
            ∙ get_or-drop (at + n) old (p - (at + n)) 0
            ∙ ap (λ (k : ℕ). get_or old k 0) (back p after)
            ∙ is.each p (omega (arith, lt, long, after))
            ∙ same_wanted f a p (Wrote a at bytes done ∷ events) events (touched_out p (inr after)) refl
      ];
    }
  where
    back : (p : ℕ) → at + length bytes ≤ p → at + length bytes + (p - (at + length bytes)) ≡ p
    back p le = omega arith

    touched_in : (p : ℕ) → at ≤ p → p < at + length bytes → is_touched a p (Wrote a at bytes done ∷ events) ≡ true
    touched_in p le lt = grind (arith, nat_tests, own a)

    touched_out : (p : ℕ) → (p < at) ⊎ (at + length bytes ≤ p) → is_touched a p (Wrote a at bytes done ∷ events) ≡ is_touched a p events
    touched_out p (inl lt) = grind (arith, nat_tests, own a)
    touched_out p (inr le) = grind (arith, nat_tests, own a)

-- a kind that puts one byte in place of each that is not synced
record Fills (k : Unsynced) (f : ℕ) : Type 0 where
  pub on_write : (bytes : List ℕ) → of_written k bytes ≡ replicate (length bytes) f
  pub on_cut : (bytes : List ℕ) → of_cut k bytes ≡ replicate (length bytes) f

-- what such a write makes of an area
over : (f at n : ℕ) (part old : List ℕ) → at ≤ length old → part ≡ replicate n f → written_over at part old ≡ take at old ++ replicate n f ++ drop (at + n) old
over f at n part old begins is = within (leb at (length old)) refl ∙ ap (λ (l : List ℕ). overwritten at l old) is ∙ ap (λ (k : ℕ). take at old ++ replicate n f ++ drop (at + k) old) (length-replicate n f)
  where
    within : (t : Bool) → leb at (length old) ≡ t → (if t then overwritten at part old else old) ≡ overwritten at part old
    within true is = refl
    within false is = absurd (grind (arith, nat_tests, begins))

written : (k : Unsynced) (f : ℕ) → Fills k f → (a at : ℕ) (bytes : List ℕ) (done : Bool) (events : List Event) (old : List ℕ) → at ≤ length (content events a) → IsFilled f a events old
    → IsFilled f a (Wrote a at bytes done ∷ events) (written_over at (of_written k bytes) old)
written k f fills a at bytes done events old lawful was =
    let begins : at ≤ length old = omega (arith, lawful, (now_in_words events a).most, was.longest) in
    subst (λ (l : List ℕ). IsFilled f a (Wrote a at bytes done ∷ events) l) (sym (over f at (length bytes) (of_written k bytes) old begins (fills.on_write bytes))) (after_write f a at bytes done events old begins was)

after_cut : (f a n : ℕ) (done : Bool) (events : List Event) (old : List ℕ) → IsFilled f a events old
    → IsFilled f a (WasCut a n done ∷ events) (take n old ++ replicate (length (drop n old)) f)
after_cut f a n done events old is =
    let rest : ℕ = length (drop n old) in
    let long : length (take n old ++ replicate rest f) ≡ length old = omega (arith, length-append (take n old) (replicate rest f), length-replicate rest f, length-take n old, length-drop n old) in
    record {
      longest = long ∙ is.longest;
      each = λ p lt. elim (about p n 0) [
        | inl before ↦
            get_or_append_left (take n old) (replicate rest f) 0 p (omega (arith, length-take n old, long, lt, before))
            ∙ get_or-take n old p 0 before
            ∙ is.each p (omega (arith, long, lt))
            ∙ same_wanted f a p (WasCut a n done ∷ events) events (touched_out p before) refl
        | inr (inl within) ↦ absurd (omega (arith, within.0, within.1))
        | inr (inr after) ↦
            get_or-append_right (take n old) (replicate rest f) n p 0 (length-take-le n old (omega (arith, long, lt, after))) (omega (arith, after))
            ∙ get_or-replicate rest (p - n) f 0 (omega (arith, length-drop n old, long, lt, after))
            ∙ ap (λ (t : Bool). if t then f else get_or (synced a events) p 0) (sym (touched_in p (omega (arith, after))))
      ];
    }
  where
    touched_in : (p : ℕ) → n ≤ p → is_touched a p (WasCut a n done ∷ events) ≡ true
    touched_in p le = grind (arith, nat_tests, own a)

    touched_out : (p : ℕ) → p < n → is_touched a p (WasCut a n done ∷ events) ≡ is_touched a p events
    touched_out p lt = grind (arith, nat_tests, own a)

after_sync : (f a : ℕ) (events : List Event) → IsFilled f a (Synced a ∷ events) (content events a)
after_sync f a events = let at = at_sync a events in record {
  longest = sym at.greatest;
  each = λ p lt. untouched f p (is_touched a p (Synced a ∷ events)) (synced a (Synced a ∷ events)) (get_or (content events a) p 0) (at.touched p) (sym (ap (λ (l : List ℕ). get_or l p 0) at.bytes));
}

filled : (k : Unsynced) (f : ℕ) → Fills k f → (events : List Event) → AreLawful events → (b : ℕ) → IsFilled f b events (left_by k events b)
filled k f fills [] lawful b = record { longest = refl; each = λ p lt. absurd (omega arith) }
filled k f fills (Looked ∷ events) lawful b = let was = filled k f fills events lawful b in record { longest = was.longest; each = was.each }
filled k f fills (Wrote a at bytes done ∷ events) lawful b =
    put_at a (written_over at (of_written k bytes) (left_by k events a)) (left_by k events) b (λ j l. IsFilled f j (Wrote a at bytes done ∷ events) l)
    (written k f fills a at bytes done events (left_by k events a) lawful.0 (filled k f fills events lawful.1 a))
    (λ ne. elsewhere f b (Wrote a at bytes done ∷ events) events _ (same_write a at bytes done events b ne) (filled k f fills events lawful.1 b))
filled k f fills (WasCut a n done ∷ events) lawful b =
    put_at a (take n (left_by k events a) ++ of_cut k (drop n (left_by k events a))) (left_by k events) b (λ j l. IsFilled f j (WasCut a n done ∷ events) l)
    (subst (λ (l : List ℕ). IsFilled f a (WasCut a n done ∷ events) (take n (left_by k events a) ++ l)) (sym (fills.on_cut (drop n (left_by k events a)))) (after_cut f a n done events (left_by k events a) (filled k f fills events lawful a)))
    (λ ne. elsewhere f b (WasCut a n done ∷ events) events _ (same_cut a n done events b ne) (filled k f fills events lawful b))
filled k f fills (Synced a ∷ events) lawful b =
    put_at a (content events a) (left_by k events) b (λ j l. IsFilled f j (Synced a ∷ events) l)
    (after_sync f a events)
    (λ ne. elsewhere f b (Synced a ∷ events) events _ (same_sync a events b ne) (filled k f fills events lawful b))

pub zeros : (events : List Event) → AreLawful events → (b : ℕ) → IsFilled 0 b events (left_by Zeros events b)
zeros = filled Zeros 0 (record { on_write = λ bytes. refl; on_cut = λ bytes. refl })

pub ones : (events : List Event) → AreLawful events → (b : ℕ) → IsFilled 255 b events (left_by Ones events b)
ones = filled Ones 255 (record { on_write = λ bytes. refl; on_cut = λ bytes. refl })
