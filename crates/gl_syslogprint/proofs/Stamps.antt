-- Time stamps: what is printed of lawful ones is read.
use Rattle.std.proofs.Common.{◌≡◌, ℕ, suc, ◌+◌, ◌-◌, ◌*◌, ◌/◌, ◌%◌, ◌<◌, ◌≤◌, true, false, ◌&&◌, eqb, nat_le, List, [], ◌∷◌, ◌++◌, length, get_or, codes, refl, ap, arith}
use Rattle.std.specs.Prelude.{ℤ, pos, negsuc, neg_ℤ, Option, Some, None, option_map}
use Rattle.std.specs.Int.{is_in_range}
use Rattle.std.specs.List.{list_all, prefix_len}
use Rattle.std.specs.Str.{bytes_eq}
use Rattle.std.proofs.Math.Seq.{take-append_seam, drop-append_seam}
use Rattle.gl_syslogtext.specs.declared.parts.Stamp.{Stamp}
use Rattle.std.specs.Char.{is_ascii_digit}
use Rattle.gl_syslogtext.specs.Sections.{two_at, hour_minute_at, clock_at, is_date, date_at, fraction_at, shift_of, offset_of, time_of, stamp_of}
use Rattle.gl_syslogtext.specs.Rfc5424.{has_none, IsSection}
use Rattle.gl_syslogprint.specs.Printing.{two_digits, hours_minutes, offset_text, is_offset, fraction_text, date_text, clock_text, time_text, is_moment, is_time, stamp_text, is_stamp}
use Rattle.std.proofs.lemmas.Bool.{and_parts as and_both}
use Rattle.gl_syslogtext.proofs.Peel.{prefix_seam}
use Rattle.gl_syslogprint.proofs.Printed.{none_cons}

pub digit_so : (n : ℕ) → n < 10 → is_ascii_digit (48 + n) ≡ true
digit_so n h = grind arith

less_so : (n m : ℕ) → n ≤ m → nat_le n m ≡ true
less_so n m h = grind arith

tens_small : (n : ℕ) → n ≤ 99 → n / 10 < 10
tens_small n h = omega arith

ones_small : (n : ℕ) → n % 10 < 10
ones_small n = omega arith

two_value : (n : ℕ) → (48 + n / 10 - 48) * 10 + (48 + n % 10 - 48) ≡ n
two_value n = omega arith

two_read : (n at : ℕ) (text : List ℕ) → n ≤ 99 → get_or text at 0 ≡ 48 + n / 10 → get_or text (at + 1) 0 ≡ 48 + n % 10 → two_at at text ≡ Some n
unfolding two_at
two_read n at text h a b =
    rw (a, b, digit_so (n / 10) (tens_small n h), digit_so (n % 10) (ones_small n)) (ap (λ (m : ℕ). Some m) (two_value n))

hm_read : (at h m : ℕ) (text : List ℕ) → h ≤ 23 → m ≤ 59 → two_at at text ≡ Some h → two_at (at + 3) text ≡ Some m → get_or text (at + 2) 0 ≡ 58 → hour_minute_at at text ≡ Some (h, m)
unfolding hour_minute_at
hm_read at h m text hs ms a b e = rw (a, b, e, less_so h 23 hs, less_so m 59 ms) refl

clock_read : (at h m s : ℕ) (text : List ℕ) → s ≤ 59 → hour_minute_at at text ≡ Some (h, m) → two_at (at + 6) text ≡ Some s → get_or text (at + 5) 0 ≡ 58 → clock_at at text ≡ Some (h, m, s)
unfolding clock_at
clock_read at h m s text ss a b e = rw (a, b, e, less_so s 59 ss) refl

year_so : (y : ℕ) → y / 100 * 100 + y % 100 ≡ y
year_so y = omega arith

date_read : (y m d : ℕ) (text : List ℕ) → is_date y m d ≡ true → two_at 0 text ≡ Some (y / 100) → two_at 2 text ≡ Some (y % 100) → two_at 5 text ≡ Some m → two_at 8 text ≡ Some d → get_or text 4 0 ≡ 45 → get_or text 7 0 ≡ 45
    → date_at text ≡ Some (y, m, d)
unfolding date_at
date_read y m d text is a b e f p q = rw (a, b, e, f, p, q, year_so y, is) refl

fraction_read : (ds : List ℕ) (y : ℕ) (ys : List ℕ) → length ds ≤ 6 → list_all is_ascii_digit ds ≡ true → is_ascii_digit y ≡ false → eqb y 46 ≡ false → fraction_at (fraction_text ds ++ y ∷ ys) ≡ Some (ds, y ∷ ys)
unfolding fraction_at
fraction_read [] y ys few all other point = rw point refl
fraction_read (d ∷ ds) y ys few all other point =
    let n : prefix_len is_ascii_digit ((d ∷ ds) ++ y ∷ ys) ≡ length (d ∷ ds) = prefix_seam is_ascii_digit (d ∷ ds) y ys all other in
    let range : is_in_range 1 6 (length (d ∷ ds)) ≡ true = grind arith in
    rw (n, range, take-append_seam (d ∷ ds) (y ∷ ys), drop-append_seam (d ∷ ds) (y ∷ ys)) refl

minutes_so : (n : ℕ) → n / 60 * 60 + n % 60 ≡ n
minutes_so n = omega arith

hours_read : (sign n : ℕ) → n ≤ 1439 → hour_minute_at 1 (sign ∷ hours_minutes n) ≡ Some (n / 60, n % 60)
hours_read sign n h =
    let hour : n / 60 ≤ 23 = omega arith in
    let minute : n % 60 ≤ 59 = omega arith in
    hm_read 1 (n / 60) (n % 60) (sign ∷ hours_minutes n) hour minute (two_read (n / 60) 1 (sign ∷ hours_minutes n) (omega arith) refl refl) (two_read (n % 60) 4 (sign ∷ hours_minutes n) (omega arith) refl refl) refl

east_read : (n : ℕ) → n ≤ 1439 → shift_of (43 ∷ hours_minutes n) ≡ Some (pos n)
unfolding shift_of
east_read n h = rw (hours_read 43 n h) (ap (λ (m : ℕ). Some (pos m)) (minutes_so n))

west_read : (n : ℕ) → n ≤ 1439 → shift_of (45 ∷ hours_minutes n) ≡ Some (neg_ℤ (pos n))
unfolding shift_of
west_read n h = rw (hours_read 45 n h) (ap (λ (m : ℕ). Some (neg_ℤ (pos m))) (minutes_so n))

le_so : (n m : ℕ) → nat_le n m ≡ true → n ≤ m
le_so n m h = grind arith

offset_read : (o : Option ℤ) → is_offset o ≡ true → offset_of (offset_text o) ≡ Some o
unfolding offset_of
offset_read None is = refl
offset_read (Some (pos n)) is = ap (option_map (λ (z : ℤ). Some z)) (east_read n (le_so n 1439 is))
offset_read (Some (negsuc n)) is = ap (option_map (λ (z : ℤ). Some z)) (west_read (suc n) (le_so (suc n) 1439 is))

-- an offset begins with a byte that is no digit and no point
record Begins (text : List ℕ) : Type 0 where
  first : ℕ
  more : List ℕ
  whole : text ≡ first ∷ more
  other : is_ascii_digit first ≡ false
  point : eqb first 46 ≡ false

offset_begins : (o : Option ℤ) → Begins (offset_text o)
offset_begins None = record { first = 90; more = []; whole = refl; other = refl; point = refl }
offset_begins (Some (pos n)) = record { first = 43; more = hours_minutes n; whole = refl; other = refl; point = refl }
offset_begins (Some (negsuc n)) = record { first = 45; more = hours_minutes (suc n); whole = refl; other = refl; point = refl }

fraction_before : (ds rest : List ℕ) → length ds ≤ 6 → list_all is_ascii_digit ds ≡ true → Begins rest → fraction_at (fraction_text ds ++ rest) ≡ Some (ds, rest)
fraction_before ds rest few all b = rw b.whole (fraction_read ds b.first b.more few all b.other b.point)

-- the bounds of a lawful stamp
record Bounded (s : Stamp) : Type 0 where
  year : s.year ≤ 9999
  month : s.month ≤ 99
  day : s.day ≤ 99
  date : is_date s.year s.month s.day ≡ true
  hour : s.hour ≤ 23
  minute : s.minute ≤ 59
  second : s.second ≤ 59
  few : length s.fraction ≤ 6
  digits : list_all is_ascii_digit s.fraction ≡ true
  offset : is_offset s.offset_minutes ≡ true

bounded : (s : Stamp) → is_time s ≡ true → Bounded s
unfolding is_time is_moment
bounded s h =
    let day_part = nat_le s.day 99 && is_date s.year s.month s.day in
    let date_part = nat_le s.year 9999 && (nat_le s.month 99 && day_part) in
    let clock_part = nat_le s.hour 23 && (nat_le s.minute 59 && nat_le s.second 59) in
    let fraction_part = nat_le (length s.fraction) 6 && list_all is_ascii_digit s.fraction in
    let a = and_both (date_part && clock_part) (fraction_part && is_offset s.offset_minutes) h in
    let b = and_both date_part clock_part a.0 in
    let y = and_both (nat_le s.year 9999) (nat_le s.month 99 && day_part) b.0 in
    let m = and_both (nat_le s.month 99) day_part y.1 in
    let d = and_both (nat_le s.day 99) (is_date s.year s.month s.day) m.1 in
    let k = and_both (nat_le s.hour 23) (nat_le s.minute 59 && nat_le s.second 59) b.1 in
    let l = and_both (nat_le s.minute 59) (nat_le s.second 59) k.1 in
    let e = and_both fraction_part (is_offset s.offset_minutes) a.1 in
    let f = and_both (nat_le (length s.fraction) 6) (list_all is_ascii_digit s.fraction) e.0 in
    record {
      year = le_so s.year 9999 y.0;
      month = le_so s.month 99 m.0;
      day = le_so s.day 99 d.0;
      date = d.1;
      hour = le_so s.hour 23 k.0;
      minute = le_so s.minute 59 l.0;
      second = le_so s.second 59 l.1;
      few = le_so (length s.fraction) 6 f.0;
      digits = f.1;
      offset = e.1;
    }

time_read : (s : Stamp) → Bounded s → time_of (time_text s) ≡ Some s
unfolding time_of time_text date_text clock_text
time_read s b =
    let rest = fraction_text s.fraction ++ offset_text s.offset_minutes in
    let text = time_text s in
    let date : date_at text ≡ Some (s.year, s.month, s.day) =
    date_read s.year s.month s.day text b.date (two_read (s.year / 100) 0 text (omega (arith, b.year)) refl refl) (two_read (s.year % 100) 2 text (omega arith) refl refl)
    (two_read s.month 5 text b.month refl refl) (two_read s.day 8 text b.day refl refl) refl refl in
    let hm : hour_minute_at 11 text ≡ Some (s.hour, s.minute) =
    hm_read 11 s.hour s.minute text b.hour b.minute (two_read s.hour 11 text (omega (arith, b.hour)) refl refl) (two_read s.minute 14 text (omega (arith, b.minute)) refl refl) refl in
    let clock : clock_at 11 text ≡ Some (s.hour, s.minute, s.second) = clock_read 11 s.hour s.minute s.second text b.second hm (two_read s.second 17 text (omega (arith, b.second)) refl refl) refl in
    let fraction : fraction_at rest ≡ Some (s.fraction, offset_text s.offset_minutes) = fraction_before s.fraction (offset_text s.offset_minutes) b.few b.digits (offset_begins s.offset_minutes) in
    let offset : offset_of (offset_text s.offset_minutes) ≡ Some s.offset_minutes = offset_read s.offset_minutes b.offset in
    rw (date, clock, fraction, offset) refl

-- no space stands in a time stamp
two_none : (c n : ℕ) (rest : List ℕ) → c < 48 → has_none c rest ≡ true → has_none c (two_digits n ++ rest) ≡ true
two_none c n rest h e =
    let a : eqb (48 + n / 10) c ≡ false = grind arith in
    let b : eqb (48 + n % 10) c ≡ false = grind arith in
    none_cons c (48 + n / 10) ((48 + n % 10) ∷ rest) a (none_cons c (48 + n % 10) rest b e)

digits_none : (ds rest : List ℕ) → list_all is_ascii_digit ds ≡ true → has_none 32 rest ≡ true → has_none 32 (ds ++ rest) ≡ true
digits_none [] rest all e = e
digits_none (d ∷ ds) rest all e =
    let both = and_both (is_ascii_digit d) (list_all is_ascii_digit ds) all in
    let one = both.0 in
    let other : eqb d 32 ≡ false = grind arith in
    none_cons 32 d (ds ++ rest) other (digits_none ds rest both.1 e)

fraction_none : (ds rest : List ℕ) → list_all is_ascii_digit ds ≡ true → has_none 32 rest ≡ true → has_none 32 (fraction_text ds ++ rest) ≡ true
fraction_none [] rest all e = e
fraction_none (d ∷ ds) rest all e = none_cons 32 46 ((d ∷ ds) ++ rest) refl (digits_none (d ∷ ds) rest all e)

hours_none : (n : ℕ) → has_none 32 (hours_minutes n) ≡ true
hours_none n = two_none 32 (n / 60) (58 ∷ two_digits (n % 60)) (omega arith) (none_cons 32 58 (two_digits (n % 60)) refl (two_none 32 (n % 60) [] (omega arith) refl))

offset_none : (o : Option ℤ) → has_none 32 (offset_text o) ≡ true
offset_none None = refl
offset_none (Some (pos n)) = none_cons 32 43 (hours_minutes n) refl (hours_none n)
offset_none (Some (negsuc n)) = none_cons 32 45 (hours_minutes (suc n)) refl (hours_none (suc n))

time_none : (s : Stamp) → list_all is_ascii_digit s.fraction ≡ true → has_none 32 (time_text s) ≡ true
unfolding time_text date_text clock_text
time_none s all =
    let rest = fraction_text s.fraction ++ offset_text s.offset_minutes in
    let e0 : has_none 32 rest ≡ true = fraction_none s.fraction (offset_text s.offset_minutes) all (offset_none s.offset_minutes) in
    let second = two_digits s.second ++ rest in
    let minute = two_digits s.minute ++ 58 ∷ second in
    let hour = two_digits s.hour ++ 58 ∷ minute in
    let day = two_digits s.day ++ 84 ∷ hour in
    let month = two_digits s.month ++ 45 ∷ day in
    let year = two_digits (s.year % 100) ++ 45 ∷ month in
    let e1 : has_none 32 second ≡ true = two_none 32 s.second rest (omega arith) e0 in
    let e2 : has_none 32 minute ≡ true = two_none 32 s.minute (58 ∷ second) (omega arith) (none_cons 32 58 second refl e1) in
    let e3 : has_none 32 hour ≡ true = two_none 32 s.hour (58 ∷ minute) (omega arith) (none_cons 32 58 minute refl e2) in
    let e4 : has_none 32 day ≡ true = two_none 32 s.day (84 ∷ hour) (omega arith) (none_cons 32 84 hour refl e3) in
    let e5 : has_none 32 month ≡ true = two_none 32 s.month (45 ∷ day) (omega arith) (none_cons 32 45 day refl e4) in
    let e6 : has_none 32 year ≡ true = two_none 32 (s.year % 100) (45 ∷ month) (omega arith) (none_cons 32 45 month refl e5) in
    two_none 32 (s.year / 100) year (omega arith) e6

not_dash : (s : Stamp) → bytes_eq (time_text s) (codes "-") ≡ false
unfolding time_text date_text clock_text
not_dash s =
    let other : eqb (48 + s.year / 100 / 10) 45 ≡ false = grind arith in
    rw other refl

stamp_here : (s : Stamp) → time_of (time_text s) ≡ Some s → stamp_of (time_text s) ≡ Some (Some s)
unfolding stamp_of
stamp_here s h = rw (not_dash s, h) refl

none_dash : stamp_of (codes "-") ≡ Some None
unfolding stamp_of
none_dash = refl

pub stamp_so : (s : Option Stamp) → is_stamp s ≡ true → IsSection 32 stamp_of (stamp_text s) s
stamp_so None is = record { none = refl; is = none_dash }
stamp_so (Some s) is =
    let b = bounded s is in
    record { none = time_none s b.digits; is = stamp_here s (time_read s b) }
