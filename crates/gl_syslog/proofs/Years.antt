-- The year in which a day lies.
use Rattle.std.proofs.Common.{◌≡◌, ℕ, zero, suc, ◌+◌, ◌-◌, ◌/◌, ◌<◌, ◌≤◌, ◌⊎◌, inl, inr, Bool, true, false, cond, nat_lt, refl, arith, pos}
use Rattle.std.proofs.lemmas.Bool.{cases_lt}
use Rattle.jiff_core.specs.Calendar.{days_in_year, day_count}
use Rattle.jiff_core.specs.Date.{epoch_day}
use Rattle.jiff_core.specs.declared.civil.date.Date.{Date}
use Rattle.jiff_core.proofs.CalendarLemmas.{day_count-epoch, days_from_civil-day_count, days_in_year_bounds, day_count-next_year, day_count-later_year, day_count-end, day_count_bounds, day_count-year_is}
use Rattle.jiff_core.proofs.DateLemmas.{civil}
use Rattle.jiff_core.proofs.SignedLemmas.{signed_arith}
use Rattle.gl_syslog.specs.Moments.{year_after, year_of}

-- the day that comes so many days after 1 January of the one year lies in the other
record LiesIn (year days y : ℕ) : Type 0 where
  begins : day_count (pos y) 1 1 ≤ day_count (pos year) 1 1 + days
  ends : day_count (pos year) 1 1 + days < day_count (pos y) 1 1 + days_in_year (pos y)
  later : year ≤ y

lies_in : (n year days : ℕ) → days ≤ n → LiesIn year days (year_after n year days)
lies_in zero year days few =
    let some = days_in_year_bounds (pos year) in
    record { begins = omega arith; ends = omega arith; later = omega arith }
lies_in (suc n) year days few = lies_step (nat_lt days (days_in_year (pos year))) n year days few refl
    (λ less. lies_in n (year + 1) (days - days_in_year (pos year)) less)
  where
    lies_step : (t : Bool) (n year days : ℕ) → days ≤ suc n → nat_lt days (days_in_year (pos year)) ≡ t → (days - days_in_year (pos year) ≤ n → LiesIn (year + 1) (days - days_in_year (pos year)) (year_after n (year + 1) (days - days_in_year (pos year))))
        → LiesIn year days (cond t year (year_after n (year + 1) (days - days_in_year (pos year))))
    lies_step true n year days few e rest =
        let within : days < days_in_year (pos year) = grind arith in
        record { begins = omega arith; ends = omega arith; later = omega arith }
    lies_step false n year days few e rest =
        let some = days_in_year_bounds (pos year) in
        let past : days_in_year (pos year) ≤ days = grind arith in
        let next = day_count-next_year (pos year) (pos (year + 1)) (omega (arith, signed_arith)) (omega (arith, signed_arith)) in
        let r = rest (omega arith) in
        record { begins = omega (arith, next, past, r.begins); ends = omega (arith, next, past, r.ends); later = omega (arith, r.later) }

within_by : (y : ℕ) → (9999 < y) ⊎ (y ≤ 9999) → day_count (pos y) 1 1 ≤ 7304849 → y ≤ 9999
within_by y (inr le) h = le
within_by y (inl lt) h =
    let next = day_count-later_year (pos 9999) (pos y) (omega (arith, signed_arith)) (omega (arith, signed_arith)) in
    let end = day_count-next_year (pos 9999) (pos 10000) (omega (arith, signed_arith)) (omega (arith, signed_arith)) in
    absurd (omega (arith, next, end, day_count-end, h))

within : (y : ℕ) → day_count (pos y) 1 1 ≤ 7304849 → y ≤ 9999
within y = within_by y (cases_lt 9999 y)

pub record IsYear (date : Date) (y : ℕ) : Type 0 where
  pub is : date.year ≡ pos y
  pub first : 1970 ≤ y
  pub last : y ≤ 9999

pub year_found : (moment : ℕ) (date : Date) → epoch_day date ≡ pos (moment / 86400000) → IsYear date (year_of moment)
unfolding year_of
year_found moment date h =
    let days = moment / 86400000 in
    let y = year_after days 1970 days in
    let lies : LiesIn 1970 days y = lies_in days 1970 days (omega arith) in
    let c = civil date in
    let count : day_count date.year date.month date.day ≡ days + 4371953 = omega (arith, signed_arith, days_from_civil-day_count date.year date.month date.day, h) in
    let epoch : day_count (pos 1970) 1 1 ≡ 4371953 = day_count-epoch in
    let most = day_count_bounds date.year date.month date.day c in
    let last : y ≤ 9999 = within y (omega (arith, lies.begins, count, epoch, most.1)) in
    record {
      is = day_count-year_is (pos y) date.year date.month date.day (omega (arith, signed_arith), omega (arith, signed_arith)) c (omega (arith, lies.begins, count, epoch)) (omega (arith, lies.ends, count, epoch));
      first = lies.later;
      last = last;
    }
