-- What a piece does to the frames so far.
use Rattle.std.proofs.Common.{◌≡◌, ℕ, zero, suc, ◌+◌, ◌-◌, ◌<◌, ◌≤◌, ◌||◌, ◌==◌, ◌⊎◌, inl, inr, Bool, true, false, cond, List, [], ◌∷◌, ◌++◌, length, take, drop, refl, sym, ap, subst, ◌∙◌, arith, append_assoc}
use Rattle.std.specs.List.{list_any, list_all, prefix_len}
use Rattle.std.specs.Prelude.{not, Option, Some, None}
use Rattle.std.specs.Option.{is_some}
use Rattle.std.proofs.lemmas.List.{append-nil, length-append, take_at, take-append-drop}
use Rattle.std.proofs.lemmas.Bool.{and_parts, and_from}
use Rattle.std.proofs.lemmas.Bool.Decides.{nat_tests}
use Rattle.gl_base.specs.declared.fed.Fed.{Fed}
use Rattle.gl_base.specs.declared.fed.Fed.TheVariants as fed
use Rattle.gl_lines.specs.ZeroFraming.{parts_of, is_long, with_part, ended_of, frames_of, is_too_long, open_of}
use Rattle.gl_lines.specs.ZeroReader.{ZeroView, Leaves, StandsFor, Takes, IsDropped, IsEnd}
use Rattle.gl_lines.specs.declared.zero_front.Stage.{Stage}
use Rattle.gl_lines.specs.declared.zero_front.Stage.TheVariants as stages
use Rattle.gl_lines.specs.declared.zero_front.ZeroFront.{ZeroFront}
use Rattle.gl_lines.specs.ZeroFronts.{is_zero, is_not_zero, skip_len, rest_at, lent_at, zero_view, IsOpen}
use Rattle.gl_lines.proofs.Parts.{some_part, is_joined, with_last, parts_join, parts_end, frames_join, open_join, open_end, too_long_end, frames_end, too_long_join}

zero_is : (b : ℕ) → is_zero b ≡ true → b ≡ 0
zero_is b h = grind arith

byte_is : (b : ℕ) → (b ≡ 0) ⊎ (is_joined (b ∷ []) ≡ true)
byte_is zero = inl refl
byte_is (suc b) = inr (let no : not (suc b == 0) ≡ true = grind arith in and_from (not (suc b == 0)) true no refl)

regroup : (a x : List ℕ) (b : ℕ) → a ++ b ∷ x ≡ (a ++ b ∷ []) ++ x
regroup a x b = sym (append_assoc a (b ∷ []) x)

-- zero bytes behind no open frame

-- bytes behind those that were given add no frame, and this one is open
pub record Adds (kept given all : List ℕ) : Type 0 where
  pub short : is_too_long all ≡ false
  pub going : open_of all ≡ kept
  pub same : frames_of all ≡ frames_of given

adds_zero : (given a : List ℕ) → Adds [] given a → Adds [] given (a ++ 0 ∷ [])
adds_zero given a s = record {
  short = too_long_end a ∙ s.short;
  going = open_end a;
  same = frames_end a s.short ∙ ap (λ (l : List ℕ). frames_of a ++ with_part l []) s.going ∙ append-nil (frames_of a) ∙ s.same;
}

adds_zeros : (x given a : List ℕ) → list_all is_zero x ≡ true → Adds [] given a → Adds [] given (a ++ x)
adds_zeros [] given a h s = subst (Adds [] given) (sym (append-nil a)) s
adds_zeros (b ∷ x) given a h s =
    let p = and_parts (is_zero b) (list_all is_zero x) h in
    let first : Adds [] given (a ++ b ∷ []) = subst (λ (c : ℕ). Adds [] given (a ++ c ∷ [])) (sym (zero_is b p.0)) (adds_zero given a s) in
    subst (Adds [] given) (sym (regroup a x b)) (adds_zeros x given (a ++ b ∷ []) p.1 first)

adds_none : (kept given : List ℕ) → Leaves (Some kept) given → Adds kept given given
adds_none kept given s = record { short = s.0; going = s.1; same = refl }

step_passes : (p : ℕ → Bool) (b : ℕ) (bytes : List ℕ) (t : Bool) → p b ≡ t → list_all p (take (prefix_len p bytes) bytes) ≡ true → list_all p (take (prefix_len p (b ∷ bytes)) (b ∷ bytes)) ≡ true
step_passes p b bytes true e h =
    let n : prefix_len p (b ∷ bytes) ≡ suc (prefix_len p bytes) = rw e (omega arith) in
    rw n (and_from (p b) (list_all p (take (prefix_len p bytes) bytes)) e h)
step_passes p b bytes false e h = let n : prefix_len p (b ∷ bytes) ≡ 0 = rw e refl in rw n refl

pub front_passes : (p : ℕ → Bool) (bytes : List ℕ) → list_all p (take (prefix_len p bytes) bytes) ≡ true
front_passes p [] = refl
front_passes p (b ∷ bytes) = step_passes p b bytes (p b) refl (front_passes p bytes)

front_stops : (p : ℕ → Bool) (bytes : List ℕ) (c : ℕ) (more : List ℕ) → drop (prefix_len p bytes) bytes ≡ c ∷ more → p c ≡ false
front_stops p [] c more e = absurd cc
front_stops p (b ∷ bytes) c more e = step_stops p b bytes c more (p b) refl e (front_stops p bytes c more)
  where
    step_stops : (p : ℕ → Bool) (b : ℕ) (bytes : List ℕ) (c : ℕ) (more : List ℕ) (t : Bool) → p b ≡ t → drop (prefix_len p (b ∷ bytes)) (b ∷ bytes) ≡ c ∷ more
        → (drop (prefix_len p bytes) bytes ≡ c ∷ more → p c ≡ false) → p c ≡ false
    step_stops p b bytes c more true e h go =
        let n : prefix_len p (b ∷ bytes) ≡ suc (prefix_len p bytes) = rw e (omega arith) in
        go (ap (λ (k : ℕ). drop k (b ∷ bytes)) (sym n) ∙ h)
    step_stops p b bytes c more false e h go =
        let n : prefix_len p (b ∷ bytes) ≡ 0 = rw e refl in
        let same : b ∷ bytes ≡ c ∷ more = ap (λ (k : ℕ). drop k (b ∷ bytes)) (sym n) ∙ h in
        let head : b ≡ c = cc in
        ap p (sym head) ∙ e

pub adds_skipped : (kept given piece : List ℕ) → Leaves (Some kept) given → Adds kept given (given ++ take (skip_len kept piece) piece)
adds_skipped [] given piece s = adds_zeros (take (prefix_len is_zero piece) piece) given given (front_passes is_zero piece) (adds_none [] given s)
adds_skipped (b ∷ kept) given piece s = subst (Adds (b ∷ kept) given) (sym (append-nil given)) (adds_none (b ∷ kept) given s)

-- an open frame goes on
pub adds_part : (kept given a part : List ℕ) → Adds kept given a → is_joined part ≡ true → length (kept ++ part) ≤ 1048576 → Adds (kept ++ part) given (a ++ part)
adds_part kept given a part s joined few = record {
  short = too_long_join a part joined s.short ∙ ap (λ (l : List ℕ). is_long (l ++ part)) s.going ∙ not_long (kept ++ part) few;
  going = open_join a part joined ∙ ap (λ (l : List ℕ). l ++ part) s.going;
  same = frames_join a part joined ∙ s.same;
}
  where
    not_long : (l : List ℕ) → length l ≤ 1048576 → is_long l ≡ false
    not_long l h = grind (arith, nat_tests)

-- behind a frame that is too long

pub record Closes (given all : List ℕ) : Type 0 where
  pub long : is_too_long all ≡ true
  pub same : frames_of all ≡ frames_of given

long_more : (p x : List ℕ) → is_long p ≡ true → is_long (p ++ x) ≡ true
long_more p x h = let n = length-append p x in grind (arith, nat_tests)

or_right : (a b : Bool) → b ≡ true → a || b ≡ true
or_right true b h = refl
or_right false b h = h

one_long : (p x : List ℕ) (t : Bool) → is_long p ≡ t → t || false ≡ true → is_long (p ++ x) || false ≡ true
one_long p x true e h = rw (long_more p x e) refl
one_long p x false e h = absurd cc

either_long : (t a b : Bool) → t || a ≡ true → (a ≡ true → b ≡ true) → t || b ≡ true
either_long true a b h go = refl
either_long false a b h go = go h

any_join : (x first : List ℕ) (rest : List (List ℕ)) → list_any is_long (first ∷ rest) ≡ true → list_any is_long (with_last x (first ∷ rest)) ≡ true
any_join x first [] h = one_long first x (is_long first) refl h
any_join x first (next ∷ rest) h = either_long (is_long first) (list_any is_long (next ∷ rest)) (list_any is_long (with_last x (next ∷ rest))) h (any_join x next rest)

one_stop : (t : Bool) (frames : List (List ℕ)) → t || false ≡ true → cond t [] frames ≡ []
one_stop true frames h = refl
one_stop false frames h = absurd cc

either_stop : (t a : Bool) (first : List ℕ) (frames others : List (List ℕ)) → t || a ≡ true → (a ≡ true → frames ≡ others) → cond t [] (with_part first frames) ≡ cond t [] (with_part first others)
either_stop true a first frames others h go = refl
either_stop false a first frames others h go = ap (with_part first) (go h)

ended_stop : (first : List ℕ) (rest : List (List ℕ)) → list_any is_long (first ∷ rest) ≡ true → ended_of ((first ∷ rest) ++ [] ∷ []) ≡ ended_of (first ∷ rest)
ended_stop first [] h = one_stop (is_long first) (with_part first []) h
ended_stop first (next ∷ rest) h =
    either_stop (is_long first) (list_any is_long (next ∷ rest)) first (ended_of ((next ∷ rest) ++ [] ∷ [])) (ended_of (next ∷ rest)) h (ended_stop next rest)

closes_zero : (given a : List ℕ) → Closes given a → Closes given (a ++ 0 ∷ [])
unfolding frames_of is_too_long
closes_zero given a s =
    let p = some_part a in
    record {
      long = too_long_end a ∙ s.long;
      same = ap ended_of (parts_end a ∙ ap (λ (l : List (List ℕ)). l ++ [] ∷ []) p.is) ∙ ended_stop p.first p.rest (ap (list_any is_long) (sym p.is) ∙ s.long) ∙ ap ended_of (sym p.is) ∙ s.same;
    }

closes_join : (given a x : List ℕ) → is_joined x ≡ true → Closes given a → Closes given (a ++ x)
unfolding is_too_long
closes_join given a x joined s =
    let p = some_part a in
    record {
      long = ap (list_any is_long) (parts_join a x joined ∙ ap (with_last x) p.is) ∙ any_join x p.first p.rest (ap (list_any is_long) (sym p.is) ∙ s.long);
      same = frames_join a x joined ∙ s.same;
    }

pub closes_more : (x given a : List ℕ) → Closes given a → Closes given (a ++ x)
closes_more [] given a s = subst (Closes given) (sym (append-nil a)) s
closes_more (b ∷ x) given a s = subst (Closes given) (sym (regroup a x b)) (closes_more x given (a ++ b ∷ []) (elim (byte_is b) [
  | inl e ↦ subst (λ (c : ℕ). Closes given (a ++ c ∷ [])) (sym e) (closes_zero given a s)
  | inr j ↦ closes_join given a (b ∷ []) j s
]))

pub closes_part : (kept given a part : List ℕ) → Adds kept given a → is_joined part ≡ true → 1048576 < length (kept ++ part) → Closes given (a ++ part)
closes_part kept given a part s joined many = record {
  long = too_long_join a part joined s.short ∙ ap (λ (l : List ℕ). is_long (l ++ part)) s.going ∙ is_then (kept ++ part) many;
  same = frames_join a part joined ∙ s.same;
}
  where
    is_then : (l : List ℕ) → 1048576 < length l → is_long l ≡ true
    is_then l h = grind (arith, nat_tests)

-- whole calls

pub takes_whole : (z : ZeroView) (kept given zeros part more piece : List ℕ) (n : ℕ) → Adds kept given (given ++ zeros) → is_joined part ≡ true → length (kept ++ part) ≤ 1048576 → 0 < length (kept ++ part)
    → piece ≡ zeros ++ (part ++ 0 ∷ more) → n ≡ length piece - length (let l : List ℕ = 0 ∷ more in l) + 1 → z.frame ≡ kept ++ part → z.rest ≡ Some [] → Takes z given piece n fed.Whole
takes_whole z kept given zeros part more piece n s joined few some parts n_is kept_is rest_is =
    let a = adds_part kept given (given ++ zeros) part s joined few in
    let len : length piece ≡ length (zeros ++ part) + length (let l : List ℕ = 0 ∷ more in l) = ap length (parts ∙ sym (append_assoc zeros part (0 ∷ more))) ∙ length-append (zeros ++ part) (0 ∷ more) in
    let before : piece ≡ (zeros ++ part) ++ 0 ∷ more = parts ∙ sym (append_assoc zeros part (0 ∷ more)) in
    let through : piece ≡ ((zeros ++ part) ++ 0 ∷ []) ++ more = before ∙ sym (append_assoc (zeros ++ part) (0 ∷ []) more) in
    let m : length (zeros ++ part) ≡ n - 1 = omega (arith, n_is, len) in
    let m_one : length ((zeros ++ part) ++ 0 ∷ []) ≡ n = omega (arith, n_is, len, length-append (zeros ++ part) (0 ∷ [])) in
    let take_before : take (n - 1) piece ≡ zeros ++ part = ap (take (n - 1)) before ∙ take_at (zeros ++ part) (0 ∷ more) (n - 1) m in
    let take_through : take n piece ≡ (zeros ++ part) ++ 0 ∷ [] = ap (take n) through ∙ take_at ((zeros ++ part) ++ 0 ∷ []) more n m_one in
    let all_before : given ++ take (n - 1) piece ≡ (given ++ zeros) ++ part = ap (λ (l : List ℕ). given ++ l) take_before ∙ sym (append_assoc given zeros part) in
    let all_through : given ++ take n piece ≡ ((given ++ zeros) ++ part) ++ 0 ∷ [] =
    ap (λ (l : List ℕ). given ++ l) take_through ∙ sym (append_assoc given (zeros ++ part) (0 ∷ [])) ∙ ap (λ (l : List ℕ). l ++ 0 ∷ []) (sym (append_assoc given zeros part)) in
    let framed : frames_of (given ++ take n piece) ≡ frames_of given ++ z.frame ∷ [] =
    ap frames_of all_through ∙ frames_end ((given ++ zeros) ++ part) a.short ∙ ap (λ (l : List ℕ). frames_of ((given ++ zeros) ++ part) ++ with_part l []) a.going
    ∙ ap (λ (l : List (List ℕ)). l ++ with_part (kept ++ part) []) a.same ∙ ap (λ (l : List (List ℕ)). frames_of given ++ l) (framed_is (kept ++ part) some ∙ ap (λ (l : List ℕ). l ∷ []) (sym kept_is)) in
    let stands : Leaves (Some []) (given ++ take n piece) = (ap is_too_long all_through ∙ too_long_end ((given ++ zeros) ++ part) ∙ a.short, ap open_of all_through ∙ open_end ((given ++ zeros) ++ part)) in
    record {
      feeds = (omega (arith, n_is), omega (arith, n_is, len), stands.0, framed, ap frames_of all_before ∙ a.same);
      stands = subst (λ (o : Option (List ℕ)). Leaves o (given ++ take n piece)) (sym rest_is) stands;
    }
  where
    framed_is : (l : List ℕ) → 0 < length l → with_part l [] ≡ l ∷ []
    framed_is [] h = absurd (omega arith)
    framed_is (b ∷ l) h = refl

take_all : (piece : List ℕ) (n : ℕ) → n ≡ length piece → take n piece ≡ piece
take_all piece n h = ap (take n) (sym (append-nil piece)) ∙ take_at piece [] n (sym h)

pub takes_nothing : (z : ZeroView) (kept given zeros part piece : List ℕ) (n : ℕ) → Adds kept given (given ++ zeros) → is_joined part ≡ true → length (kept ++ part) ≤ 1048576
    → piece ≡ zeros ++ part → n ≡ length piece → z.rest ≡ Some (kept ++ part) → Takes z given piece n fed.Nothing
takes_nothing z kept given zeros part piece n s joined few parts n_is rest_is =
    let a = adds_part kept given (given ++ zeros) part s joined few in
    let all : given ++ piece ≡ (given ++ zeros) ++ part = ap (λ (l : List ℕ). given ++ l) parts ∙ sym (append_assoc given zeros part) in
    let taken : given ++ take n piece ≡ (given ++ zeros) ++ part = ap (λ (l : List ℕ). given ++ l) (take_all piece n n_is) ∙ all in
    let stands : Leaves (Some (kept ++ part)) (given ++ take n piece) = (ap is_too_long taken ∙ a.short, ap open_of taken ∙ a.going) in
    record {
      feeds = (n_is, ap is_too_long all ∙ a.short, ap frames_of all ∙ a.same);
      stands = subst (λ (o : Option (List ℕ)). Leaves o (given ++ take n piece)) (sym rest_is) stands;
    }

pub takes_too_long : (z : ZeroView) (kept given zeros part tail piece : List ℕ) (n : ℕ) → Leaves (Some kept) given → Adds kept given (given ++ zeros) → is_joined part ≡ true → 1048576 < length (kept ++ part)
    → piece ≡ zeros ++ (part ++ tail) → n ≡ length piece → z.rest ≡ None → Takes z given piece n fed.TooLong
takes_too_long z kept given zeros part tail piece n begun s joined many parts n_is rest_is =
    let c = closes_more tail given ((given ++ zeros) ++ part) (closes_part kept given (given ++ zeros) part s joined many) in
    let all : given ++ piece ≡ ((given ++ zeros) ++ part) ++ tail = ap (λ (l : List ℕ). given ++ l) parts ∙ sym (append_assoc given zeros (part ++ tail)) ∙ sym (append_assoc (given ++ zeros) part tail) in
    let taken : given ++ take n piece ≡ ((given ++ zeros) ++ part) ++ tail = ap (λ (l : List ℕ). given ++ l) (take_all piece n n_is) ∙ all in
    let stands : Leaves None (given ++ take n piece) = ap is_too_long taken ∙ c.long in
    record {
      feeds = (n_is, begun.0, ap is_too_long all ∙ c.long, ap frames_of all ∙ c.same);
      stands = subst (λ (o : Option (List ℕ)). Leaves o (given ++ take n piece)) (sym rest_is) stands;
    }

pub takes_closed : (z : ZeroView) (given piece : List ℕ) (n : ℕ) → is_too_long given ≡ true → z.rest ≡ None → n ≡ length piece → Takes z given piece n fed.Closed
takes_closed z given piece n long rest_is n_is =
    let c = closes_more piece given given (record { long = long; same = refl }) in
    let taken : given ++ take n piece ≡ given ++ piece = ap (λ (l : List ℕ). given ++ l) (take_all piece n n_is) in
    let stands : Leaves None (given ++ take n piece) = ap is_too_long taken ∙ c.long in
    record {
      feeds = (n_is, long, c.same);
      stands = subst (λ (o : Option (List ℕ)). Leaves o (given ++ take n piece)) (sym rest_is) stands;
    }

pub nothing_given : (z : ZeroView) → z.rest ≡ Some [] → StandsFor z []
unfolding open_of is_too_long parts_of
nothing_given z rest_is =
    let stands : Leaves (Some []) [] = (refl, refl) in
    subst (λ (o : Option (List ℕ)). Leaves o []) (sym rest_is) stands

-- how a piece is cut

pub record Cut (kept piece part tail : List ℕ) : Type 0 where
  pub joined : is_joined part ≡ true
  pub parts : piece ≡ take (skip_len kept piece) piece ++ (part ++ tail)
  pub stops : (c : ℕ) (more : List ℕ) → tail ≡ c ∷ more → c ≡ 0
  pub some : 0 < length tail → 0 < length (kept ++ part)

not_zero_is : (c : ℕ) → is_not_zero c ≡ false → c ≡ 0
not_zero_is c h = grind arith

part_some : (kept piece part tail : List ℕ) → drop (skip_len kept piece) piece ≡ part ++ tail → ((c : ℕ) (more : List ℕ) → tail ≡ c ∷ more → c ≡ 0) → 0 < length tail → 0 < length (kept ++ part)
part_some (b ∷ kept) piece part tail e stops h = omega arith
part_some [] piece (b ∷ part) tail e stops h = omega arith
part_some [] piece [] [] e stops h = absurd (omega arith)
part_some [] piece [] (c ∷ more) e stops h =
    let zero_c : c ≡ 0 = stops c more refl in
    let not_c : is_zero c ≡ false = front_stops is_zero piece c more e in
    let not_zero : is_zero 0 ≡ false = ap is_zero (sym zero_c) ∙ not_c in
    absurd cc

pub cut_is : (kept piece rest part tail : List ℕ) (s n : ℕ) → s ≡ skip_len kept piece → rest ≡ drop s piece → n ≡ prefix_len is_not_zero rest → part ≡ take n rest → tail ≡ drop n rest → Cut kept piece part tail
cut_is kept piece rest part tail s n s_is rest_is n_is part_is tail_is =
    let rest_now : rest ≡ drop (skip_len kept piece) piece = rest_is ∙ ap (λ (k : ℕ). drop k piece) s_is in
    let split : part ++ tail ≡ rest = ap (λ (l : List ℕ). l ++ tail) part_is ∙ ap (λ (l : List ℕ). take n rest ++ l) tail_is ∙ take-append-drop n rest in
    let stops : (c : ℕ) (more : List ℕ) → tail ≡ c ∷ more → c ≡ 0 =
    λ c more e. not_zero_is c (front_stops is_not_zero rest c more (ap (λ (k : ℕ). drop k rest) (sym n_is) ∙ sym tail_is ∙ e)) in
    record {
      joined = ap is_joined (part_is ∙ ap (λ (k : ℕ). take k rest) n_is) ∙ front_passes is_not_zero rest;
      parts = sym (take-append-drop (skip_len kept piece) piece) ∙ ap (λ (l : List ℕ). take (skip_len kept piece) piece ++ l) (sym rest_now ∙ sym split);
      stops = stops;
      some = part_some kept piece part tail (sym rest_now ∙ sym split) stops;
    }

pub call_whole : (z : ZeroView) (kept given part tail piece : List ℕ) (n : ℕ) → Leaves (Some kept) given → Cut kept piece part tail → length (kept ++ part) ≤ 1048576 → 0 < length tail
    → n ≡ length piece - length tail + 1 → z.frame ≡ kept ++ part → z.rest ≡ Some [] → Takes z given piece n fed.Whole
call_whole z kept given part [] piece n s c few some n_is kept_is rest_is = absurd (omega arith)
call_whole z kept given part (b ∷ more) piece n s c few some n_is kept_is rest_is =
    let zero_b : b ≡ 0 = c.stops b more refl in
    let parts : piece ≡ take (skip_len kept piece) piece ++ (part ++ 0 ∷ more) = c.parts ∙ ap (λ (x : ℕ). take (skip_len kept piece) piece ++ (part ++ x ∷ more)) zero_b in
    takes_whole z kept given (take (skip_len kept piece) piece) part more piece n (adds_skipped kept given piece s) c.joined few (c.some some) parts n_is kept_is rest_is

pub call_nothing : (z : ZeroView) (kept given part tail piece : List ℕ) (n : ℕ) → Leaves (Some kept) given → Cut kept piece part tail → length (kept ++ part) ≤ 1048576 → length tail ≡ 0
    → n ≡ length piece → z.rest ≡ Some (kept ++ part) → Takes z given piece n fed.Nothing
call_nothing z kept given part (b ∷ more) piece n s c few none n_is rest_is = absurd (omega arith)
call_nothing z kept given part [] piece n s c few none n_is rest_is =
    takes_nothing z kept given (take (skip_len kept piece) piece) part piece n (adds_skipped kept given piece s) c.joined few (c.parts ∙ ap (λ (l : List ℕ). take (skip_len kept piece) piece ++ l) (append-nil part)) n_is rest_is

pub call_too_long : (z : ZeroView) (kept given part tail piece : List ℕ) (n : ℕ) → Leaves (Some kept) given → Cut kept piece part tail → 1048576 < length (kept ++ part)
    → n ≡ length piece → z.rest ≡ None → Takes z given piece n fed.TooLong
call_too_long z kept given part tail piece n s c many n_is rest_is =
    takes_too_long z kept given (take (skip_len kept piece) piece) part tail piece n s (adds_skipped kept given piece s) c.joined many c.parts n_is rest_is

-- a reader that is closed
pub closed_view : (front : ZeroFront) → front.stage ≡ stages.Closed → ((zero_view front).rest ≡ None) × ((zero_view front).frame ≡ [])
closed_view front e = (ap (λ (s : Stage). rest_at s front.bytes.items) e, ap (λ (s : Stage). lent_at s front.bytes.items) e)

pub open_rest : (front : ZeroFront) → IsOpen front.stage → (zero_view front).rest ≡ Some front.bytes.items
open_rest front open_ = at_stage front.stage front.bytes.items open_
  where
    at_stage : (stage : Stage) (kept : List ℕ) → IsOpen stage → rest_at stage kept ≡ Some kept
    at_stage stages.Open kept h = refl
    at_stage stages.Ended kept h = absurd h
    at_stage stages.Closed kept h = absurd h

pub open_given : (front : ZeroFront) (given : List ℕ) → IsOpen front.stage → Leaves (zero_view front).rest given → Leaves (Some front.bytes.items) given
open_given front given open_ s = subst (λ (o : Option (List ℕ)). Leaves o given) (open_rest front open_) s

pub some_rest : (front : ZeroFront) → IsOpen front.stage → is_some (zero_view front).rest ≡ true
some_rest front open_ = ap is_some (open_rest front open_)

-- public calls
pub closed_takes : (z : ZeroView) (given piece : List ℕ) (n : ℕ) → z.rest ≡ None → n ≡ length piece → StandsFor z given → Takes z given piece n fed.Closed
closed_takes z given piece n none n_is s = takes_closed z given piece n (subst (λ (o : Option (List ℕ)). Leaves o given) none s) none n_is

pub dropped_end : (rest : Option (List ℕ)) (answer : Fed) (z : ZeroView) (given : List ℕ) → IsDropped rest answer z → Leaves rest given → IsEnd answer z given
dropped_end None answer z given d s =
    subst (λ (a : Fed). IsEnd a z given) (sym d.0) (s, subst (λ (o : Option (List ℕ)). Leaves o given) (sym d.1) s)
dropped_end (Some rest) answer z given d s =
    subst (λ (a : Fed). IsEnd a z given) (sym d.1.0) (s.0, nothing_given z d.0)
