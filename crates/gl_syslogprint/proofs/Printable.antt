-- Some message has just the lawful parts.
use Rattle.std.proofs.Common.{◌≡◌, ℕ, zero, suc, ◌+◌, ◌-◌, ◌*◌, ◌/◌, ◌%◌, ◌<◌, ◌≤◌, Bool, true, false, not, ◌&&◌, ◌||◌, cond, eqb, nat_lt, nat_le, List, [], ◌∷◌, length, get_or, take, drop, codes, refl, ap, subst, arith}
use Rattle.std.specs.Prelude.{ℤ, pos, neg_ℤ, Option, Some, None, option_map}
use Rattle.std.specs.Int.{is_in_range}
use Rattle.std.specs.List.{list_all, prefix_len}
use Rattle.std.specs.Str.{bytes_eq}
use Rattle.std.proofs.lemmas.List.Folds.{length-prefix_len}
use Rattle.gl_syslogtext.specs.declared.parts.Stamp.{Stamp}
use Rattle.gl_syslogtext.specs.declared.parts.Parts.{Parts}
use Rattle.std.specs.Char.{is_ascii_digit}
use Rattle.gl_base.specs.Digits.{decimal}
use Rattle.gl_syslogtext.specs.Sections.{pri_value, pri_in, two_at, hour_minute_at, clock_at, is_date, date_at, fraction_at, minutes, shift_of, offset_of, time_of, stamp_of}
use Rattle.gl_syslogtext.specs.MessageReading.{are_distinct, ids_of}
use Rattle.gl_syslogtext.specs.Rfc5424.{has_none, IsSection, Reads5424}
use Rattle.gl_syslogprint.specs.Printing.{two_digits, pri_digits, is_offset, is_moment, is_time, is_stamp, stamp_text, is_name, name_text, is_element, data_text, is_message, message_text, is_header, are_lawful, text_of}
use Rattle.std.proofs.lemmas.Bool.{and_parts as and_both, and_from as and_holds}
use Rattle.gl_syslogtext.proofs.Peel.{bind_then, some_is, guard_ok, prefix_passes}
use Rattle.gl_syslogtext.proofs.Spelled.{if_some}
use Rattle.gl_syslogprint.proofs.Printed.{none_cons, name_so, name_lawful, data_so, data_lawful, message_so, message_lawful}
use Rattle.gl_syslogprint.proofs.Stamps.{digit_so, stamp_so}

-- the priority
record IsPri (digits : List ℕ) (pri : ℕ) : Type 0 where
  value : pri_value digits ≡ Some pri
  all : list_all is_ascii_digit digits ≡ true

pri_of : (digits : List ℕ) (pri : ℕ) → nat_lt 0 (length digits) ≡ true → nat_le (length digits) 3 ≡ true → list_all is_ascii_digit digits ≡ true → (not (eqb (get_or digits 0 0) 48) || eqb (length digits) 1) ≡ true
    → decimal 0 digits ≡ pri → nat_le pri 191 ≡ true → IsPri digits pri
unfolding pri_value
pri_of digits pri some few all front value small = record { value = rw (some, few, all, front, value, small) refl; all = all }

or_right : (a : Bool) → (a || true) ≡ true
or_right true = refl
or_right false = refl

pri_one : (p : ℕ) → p < 10 → IsPri ((48 + p) ∷ []) p
pri_one p h =
    let value : 0 * 10 + (48 + p - 48) ≡ p = omega arith in
    let small : nat_le p 191 ≡ true = grind arith in
    pri_of ((48 + p) ∷ []) p refl refl (and_holds (is_ascii_digit (48 + p)) true (digit_so p h) refl) (or_right (not (eqb (48 + p) 48))) value small

two_all : (n : ℕ) → n ≤ 99 → list_all is_ascii_digit (two_digits n) ≡ true
two_all n h =
    let tens : n / 10 < 10 = omega arith in
    let ones : n % 10 < 10 = omega arith in
    and_holds (is_ascii_digit (48 + n / 10)) (is_ascii_digit (48 + n % 10) && true) (digit_so (n / 10) tens) (and_holds (is_ascii_digit (48 + n % 10)) true (digit_so (n % 10) ones) refl)

pri_two : (p : ℕ) → 10 ≤ p → p < 100 → IsPri (two_digits p) p
pri_two p low h =
    let value : (0 * 10 + (48 + p / 10 - 48)) * 10 + (48 + p % 10 - 48) ≡ p = omega arith in
    let small : nat_le p 191 ≡ true = grind arith in
    let tens : 1 ≤ p / 10 = omega arith in
    let front : eqb (48 + p / 10) 48 ≡ false = grind arith in
    pri_of (two_digits p) p refl refl (two_all p (omega arith)) (ap (λ (b : Bool). not b || false) front) value small

pri_three : (p : ℕ) → 100 ≤ p → p ≤ 191 → IsPri ((48 + p / 100) ∷ two_digits (p % 100)) p
pri_three p low h =
    let value : ((0 * 10 + (48 + p / 100 - 48)) * 10 + (48 + p % 100 / 10 - 48)) * 10 + (48 + p % 100 % 10 - 48) ≡ p = omega arith in
    let small : nat_le p 191 ≡ true = grind arith in
    let hundreds : p / 100 ≡ 1 = omega arith in
    let front : eqb (48 + p / 100) 48 ≡ false = grind arith in
    pri_of ((48 + p / 100) ∷ two_digits (p % 100)) p refl refl (and_holds (is_ascii_digit (48 + p / 100)) (list_all is_ascii_digit (two_digits (p % 100))) (digit_so (p / 100) (omega (arith, hundreds))) (two_all (p % 100) (omega arith)))
    (ap (λ (b : Bool). not b || false) front) value small

pri_cases : (s t : Bool) (p : ℕ) → nat_lt p 10 ≡ s → nat_lt p 100 ≡ t → p ≤ 191 → IsPri (cond s ((48 + p) ∷ []) (cond t (two_digits p) ((48 + p / 100) ∷ two_digits (p % 100)))) p
pri_cases true t p a b h = pri_one p (grind arith)
pri_cases false true p a b h = pri_two p (grind arith) (grind arith)
pri_cases false false p a b h = pri_three p (grind arith) h

digits_none : (ds : List ℕ) → list_all is_ascii_digit ds ≡ true → has_none 62 ds ≡ true
digits_none [] all = refl
digits_none (d ∷ ds) all =
    let both = and_both (is_ascii_digit d) (list_all is_ascii_digit ds) all in
    let one = both.0 in
    let other : eqb d 62 ≡ false = grind arith in
    none_cons 62 d ds other (digits_none ds both.1)

pri_so : (p : ℕ) → nat_le p 191 ≡ true → IsSection 62 pri_in (60 ∷ pri_digits p) p
pri_so p h =
    let small : p ≤ 191 = grind arith in
    let r = pri_cases (nat_lt p 10) (nat_lt p 100) p refl refl small in
    record { none = none_cons 62 60 (pri_digits p) refl (digits_none (pri_digits p) r.all); is = r.value }

value_lawful : (digits : List ℕ) (p : ℕ) → pri_value digits ≡ Some p → nat_le p 191 ≡ true
unfolding pri_value
value_lawful digits p h =
    let g = guard_ok _ (decimal 0 digits) p h in
    let both = and_both _ (nat_le (decimal 0 digits) 191) g.0 in
    subst (λ (n : ℕ). nat_le n 191 ≡ true) g.1 both.1

pri_lawful : (text : List ℕ) (p : ℕ) → pri_in text ≡ Some p → nat_le p 191 ≡ true
pri_lawful [] p h = absurd cc
pri_lawful (b ∷ digits) p h = value_lawful digits p (if_some (eqb b 60) (pri_value digits) p h).1

-- the time stamp
two_bound : (a b : ℕ) → is_ascii_digit a ≡ true → is_ascii_digit b ≡ true → nat_le ((a - 48) * 10 + (b - 48)) 99 ≡ true
two_bound a b h k = grind arith

two_small : (at n : ℕ) (text : List ℕ) → two_at at text ≡ Some n → nat_le n 99 ≡ true
unfolding two_at
two_small at n text h =
    let a = get_or text at 0 in
    let b = get_or text (at + 1) 0 in
    let g = guard_ok (is_ascii_digit a && is_ascii_digit b) ((a - 48) * 10 + (b - 48)) n h in
    let both = and_both (is_ascii_digit a) (is_ascii_digit b) g.0 in
    subst (λ (m : ℕ). nat_le m 99 ≡ true) g.1 (two_bound a b both.0 both.1)

abbrev HourMinute : ℕ × ℕ → Type 0
HourMinute x = (nat_le x.0 23 ≡ true) × (nat_le x.1 59 ≡ true)

hm_small : (at : ℕ) (text : List ℕ) (x : ℕ × ℕ) → hour_minute_at at text ≡ Some x → HourMinute x
unfolding hour_minute_at
hm_small at text x h =
    bind_then (two_at at text) _ x h (λ hour h1 k1.
    bind_then (two_at (at + 3) text) _ x k1 (λ minute h2 k2.
    let colon = eqb (get_or text (at + 2) 0) 58 in
    let y : ℕ × ℕ = (hour, minute) in
    let g = guard_ok (colon && nat_le hour 23 && nat_le minute 59) y x k2 in
    let a = and_both (colon && nat_le hour 23) (nat_le minute 59) g.0 in
    let b = and_both colon (nat_le hour 23) a.0 in
    subst HourMinute g.1 (b.1, a.1)))

abbrev Clock : ℕ × ℕ × ℕ → Type 0
Clock x = (nat_le x.0 23 ≡ true) × (nat_le x.1 59 ≡ true) × (nat_le x.2 59 ≡ true)

clock_small : (at : ℕ) (text : List ℕ) (x : ℕ × ℕ × ℕ) → clock_at at text ≡ Some x → Clock x
unfolding clock_at
clock_small at text x h =
    bind_then (hour_minute_at at text) _ x h (λ front h1 k1.
    bind_then (two_at (at + 6) text) _ x k1 (λ second h2 k2.
    let colon = eqb (get_or text (at + 5) 0) 58 in
    let y : ℕ × ℕ × ℕ = (front.0, front.1, second) in
    let g = guard_ok (colon && nat_le second 59) y x k2 in
    let a = and_both colon (nat_le second 59) g.0 in
    let b = hm_small at text front h1 in
    subst Clock g.1 (b.0, b.1, a.1)))

abbrev Day : ℕ × ℕ × ℕ → Type 0
Day x = (nat_le x.0 9999 && (nat_le x.1 99 && (nat_le x.2 99 && is_date x.0 x.1 x.2))) ≡ true

year_bound : (c y : ℕ) → nat_le c 99 ≡ true → nat_le y 99 ≡ true → nat_le (c * 100 + y) 9999 ≡ true
year_bound c y h k = grind arith

date_small : (text : List ℕ) (x : ℕ × ℕ × ℕ) → date_at text ≡ Some x → Day x
unfolding date_at
date_small text x h =
    bind_then (two_at 0 text) _ x h (λ century h1 k1.
    bind_then (two_at 2 text) _ x k1 (λ years h2 k2.
    bind_then (two_at 5 text) _ x k2 (λ month h3 k3.
    bind_then (two_at 8 text) _ x k3 (λ day h4 k4.
    let year = century * 100 + years in
    let y : ℕ × ℕ × ℕ = (year, month, day) in
    let dashes = eqb (get_or text 4 0) 45 && eqb (get_or text 7 0) 45 in
    let g = guard_ok (dashes && is_date year month day) y x k4 in
    let is = and_both dashes (is_date year month day) g.0 in
    subst Day g.1 (and_holds (nat_le year 9999) (nat_le month 99 && (nat_le day 99 && is_date year month day)) (year_bound century years (two_small 0 century text h1) (two_small 2 years text h2))
    (and_holds (nat_le month 99) (nat_le day 99 && is_date year month day) (two_small 5 month text h3) (and_holds (nat_le day 99) (is_date year month day) (two_small 8 day text h4) is.1)))))))

abbrev Fraction : List ℕ × List ℕ → Type 0
Fraction x = (nat_le (length x.0) 6 && list_all is_ascii_digit x.0) ≡ true

fraction_step : (s t : Bool) (text behind : List ℕ) (x : List ℕ × List ℕ) → is_in_range 1 6 (prefix_len is_ascii_digit behind) ≡ t
    → cond {A = Option (List ℕ × List ℕ)} s (cond t (Some (take (prefix_len is_ascii_digit behind) behind, drop (prefix_len is_ascii_digit behind) behind)) None) (Some ([], text)) ≡ Some x → Fraction x
fraction_step true true text behind x e h =
    let n = prefix_len is_ascii_digit behind in
    let y : List ℕ × List ℕ = (take n behind, drop n behind) in
    let len : length (take n behind) ≡ n = length-prefix_len is_ascii_digit behind in
    let few : nat_le (length (take n behind)) 6 ≡ true = grind arith in
    subst Fraction (some_is y x h) (and_holds (nat_le (length (take n behind)) 6) (list_all is_ascii_digit (take n behind)) few (prefix_passes is_ascii_digit behind))
fraction_step true false text behind x e h = absurd cc
fraction_step false t text behind x e h = let y : List ℕ × List ℕ = ([], text) in subst Fraction (some_is y x h) refl

fraction_small : (text : List ℕ) (x : List ℕ × List ℕ) → fraction_at text ≡ Some x → Fraction x
unfolding fraction_at
fraction_small text x h = fraction_step (eqb (get_or text 0 0) 46) (is_in_range 1 6 (prefix_len is_ascii_digit (drop 1 text))) text (drop 1 text) x refl h

sign_step : (s : Bool) (n : ℕ) → nat_le n 1439 ≡ true → is_offset (Some (cond s (pos n) (neg_ℤ (pos n)))) ≡ true
sign_step true n h = h
sign_step false zero h = refl
sign_step false (suc n) h = h

hours_bound : (h m : ℕ) → nat_le h 23 ≡ true → nat_le m 59 ≡ true → nat_le (h * 60 + m) 1439 ≡ true
hours_bound h m a b = grind arith

shift_lawful : (text : List ℕ) (z : ℤ) → shift_of text ≡ Some z → is_offset (Some z) ≡ true
unfolding shift_of
shift_lawful text z h =
    bind_then (hour_minute_at 1 text) _ z h (λ front h1 k1.
    let sign = get_or text 0 0 in
    let g = guard_ok _ (minutes sign front) z k1 in
    let b = hm_small 1 text front h1 in
    subst (λ (y : ℤ). is_offset (Some y) ≡ true) g.1 (sign_step (eqb sign 43) (front.0 * 60 + front.1) (hours_bound front.0 front.1 b.0 b.1)))

offset_step : (s : Bool) (shift : Option ℤ) (o : Option ℤ) → ((z : ℤ) → shift ≡ Some z → is_offset (Some z) ≡ true) → cond s (Some None) (option_map (λ z. Some z) shift) ≡ Some o → is_offset o ≡ true
offset_step true shift o from h = subst (λ (y : Option ℤ). is_offset y ≡ true) (some_is None o h) refl
offset_step false None o from h = absurd cc
offset_step false (Some z) o from h = subst (λ (y : Option ℤ). is_offset y ≡ true) (some_is (Some z) o h) (from z refl)

offset_lawful : (text : List ℕ) (o : Option ℤ) → offset_of text ≡ Some o → is_offset o ≡ true
unfolding offset_of
offset_lawful text o h = offset_step (bytes_eq text (codes "Z")) (shift_of text) o (shift_lawful text) h

built : (date clock : ℕ × ℕ × ℕ) (fraction : List ℕ × List ℕ) (offset : Option ℤ) → Day date → Clock clock → Fraction fraction → is_offset offset ≡ true
    → is_time (record { year = date.0; month = date.1; day = date.2; hour = clock.0; minute = clock.1; second = clock.2; fraction = fraction.0; offset_minutes = offset }) ≡ true
unfolding is_time is_moment
built date clock fraction offset d k f o =
    and_holds _ _ (and_holds _ _ d (and_holds (nat_le clock.0 23) (nat_le clock.1 59 && nat_le clock.2 59) k.0 (and_holds (nat_le clock.1 59) (nat_le clock.2 59) k.1 k.2))) (and_holds _ _ f o)

time_lawful : (text : List ℕ) (s : Stamp) → time_of text ≡ Some s → is_time s ≡ true
unfolding time_of
time_lawful text s h =
    bind_then (date_at text) _ s h (λ date h1 k1.
    bind_then (clock_at 11 text) _ s k1 (λ clock h2 k2.
    bind_then (fraction_at (drop 19 text)) _ s k2 (λ fraction h3 k3.
    bind_then (offset_of fraction.1) _ s k3 (λ offset h4 k4.
    let g = guard_ok (eqb (get_or text 10 0) 84) _ s k4 in
    subst (λ (y : Stamp). is_time y ≡ true) g.1 (built date clock fraction offset (date_small text date h1) (clock_small 11 text clock h2) (fraction_small (drop 19 text) fraction h3) (offset_lawful fraction.1 offset h4))))))

stamp_step : (s : Bool) (time : Option Stamp) (o : Option Stamp) → ((z : Stamp) → time ≡ Some z → is_time z ≡ true) → cond s (Some None) (option_map (λ z. Some z) time) ≡ Some o → is_stamp o ≡ true
stamp_step true time o from h = subst (λ (y : Option Stamp). is_stamp y ≡ true) (some_is None o h) refl
stamp_step false None o from h = absurd cc
stamp_step false (Some z) o from h = subst (λ (y : Option Stamp). is_stamp y ≡ true) (some_is (Some z) o h) (from z refl)

stamp_lawful : (text : List ℕ) (s : Option Stamp) → stamp_of text ≡ Some s → is_stamp s ≡ true
unfolding stamp_of
stamp_lawful text s h = stamp_step (bytes_eq text (codes "-")) (time_of text) s (time_lawful text) h

-- the whole
pub lawful : (text : List ℕ) (p : Parts) → Reads5424 text p → are_lawful p ≡ true
unfolding are_lawful is_header
lawful text p r =
    and_holds _ _
    (and_holds _ _ (pri_lawful r.priority p.pri r.is_priority.is) (and_holds _ _ (stamp_lawful r.stamp p.stamp r.is_stamp.is) (and_holds _ _ (name_lawful 255 r.host p.host r.is_host.is)
    (and_holds _ _ (name_lawful 48 r.app p.app r.is_app.is) (and_holds _ _ (name_lawful 128 r.proc_id p.proc_id r.is_proc_id.is) (name_lawful 32 r.msg_id p.msg_id r.is_msg_id.is))))))
    (and_holds _ _ (data_lawful r.elements p.elements r.is_data) (and_holds _ _ r.once (message_lawful r.message p.bom p.msg r.is_message)))

pub printed : (p : Parts) → are_lawful p ≡ true → Reads5424 (text_of p) p
unfolding text_of are_lawful is_header
printed p h =
    let names = is_name 255 p.host && (is_name 48 p.app && (is_name 128 p.proc_id && is_name 32 p.msg_id)) in
    let header = nat_le p.pri 191 && (is_stamp p.stamp && names) in
    let a = and_both header (list_all is_element p.elements && (are_distinct (ids_of p.elements) && is_message p.bom p.msg)) h in
    let b = and_both (nat_le p.pri 191) (is_stamp p.stamp && names) a.0 in
    let d = and_both (is_stamp p.stamp) names b.1 in
    let host = and_both (is_name 255 p.host) (is_name 48 p.app && (is_name 128 p.proc_id && is_name 32 p.msg_id)) d.1 in
    let app = and_both (is_name 48 p.app) (is_name 128 p.proc_id && is_name 32 p.msg_id) host.1 in
    let ids = and_both (is_name 128 p.proc_id) (is_name 32 p.msg_id) app.1 in
    let e = and_both (list_all is_element p.elements) (are_distinct (ids_of p.elements) && is_message p.bom p.msg) a.1 in
    let f = and_both (are_distinct (ids_of p.elements)) (is_message p.bom p.msg) e.1 in
    record {
      priority = 60 ∷ pri_digits p.pri;
      stamp = stamp_text p.stamp;
      host = name_text p.host;
      app = name_text p.app;
      proc_id = name_text p.proc_id;
      msg_id = name_text p.msg_id;
      elements = data_text p.elements;
      message = message_text p.bom p.msg;
      whole = refl;
      is_priority = pri_so p.pri b.0;
      is_stamp = stamp_so p.stamp d.0;
      is_host = name_so 255 p.host host.0;
      is_app = name_so 48 p.app app.0;
      is_proc_id = name_so 128 p.proc_id ids.0;
      is_msg_id = name_so 32 p.msg_id ids.1;
      is_data = data_so p.elements e.0;
      once = f.0;
      is_message = message_so p.bom p.msg f.1;
    }
