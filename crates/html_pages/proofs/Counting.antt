-- The days counted one after another are the calendar's, and each moment's date is the one text that shows it.
use Rattle.std.proofs.Common.{◌≡◌, ℕ, zero, suc, ◌+◌, ◌-◌, ◌*◌, ◌/◌, ◌%◌, ◌<◌, ◌≤◌, nat_lt, refl, sym, ◌∙◌, ap, arith, Bool, true, false, if◌then◌else◌}
use Rattle.std.proofs.lemmas.Bool.Decides.{nat_tests}
use Rattle.httpdate.specs.Calendar.{days_in_month, days_in_year, days_of_years, days_of_months, days_from_civil, weekday}
use Rattle.httpdate.specs.declared.date.HttpDate.{HttpDate}
use Rattle.httpdate.specs.Date.{unix_secs, date_text}
use Rattle.httpdate.specs.Text.{imf_fixdate}
use Rattle.httpdate.proofs.CalendarLemmas.{days_of_years_closed, days_of_months_more, days_of_months_all}
use Rattle.httpdate.proofs.Theorems.{unix_secs_injective}
use Rattle.html_pages.specs.Dates.{Day, day_of, parts_on, date_of, NO_DATE}

-- A day of the calendar, so many days after 1 January 1970.
pub record IsDay (d : Day) (n : ℕ) : Type 0 where
  pub from : 1970 ≤ d.year
  pub month : (1 ≤ d.month) × (d.month ≤ 12)
  pub day : (1 ≤ d.day) × (d.day ≤ days_in_month d.year d.month)
  pub count : days_from_civil d.year d.month d.day ≡ n

-- Each month has a day.
some_day : (february leap short : Bool) → 1 ≤ (if february then (if leap then 29 else 28) else (if short then 30 else 31))
some_day true true short = omega arith
some_day true false short = omega arith
some_day false leap true = omega arith
some_day false leap false = omega arith

has_day : (y m : ℕ) → 1 ≤ days_in_month y m
has_day y m = some_day _ _ _

-- The first day of a month comes behind the last one of the month before.
behind_month : (years months more day last n : ℕ) → more ≡ months + last → 1 ≤ day → day ≤ last → last ≤ day → years + months + (day - 1) ≡ n →
    years + more + (1 - 1) ≡ suc n
behind_month years months more day last n h low high end count = omega arith

behind_year : (years next months all day last n : ℕ) → next ≡ years + all → all ≡ months + last → 1 ≤ day → day ≤ last → last ≤ day →
    years + months + (day - 1) ≡ n → next + 0 + (1 - 1) ≡ suc n
behind_year years next months all day last n h k low high end count = omega arith

year_more : (k : ℕ) → days_of_years (suc k) ≡ days_of_years k + days_in_year (1970 + k)
unfolding days_of_years
year_more k = refl

next_year : (y : ℕ) → 1970 ≤ y → days_of_years (y + 1 - 1970) ≡ days_of_years (y - 1970) + days_in_year y
next_year y h =
    let next : y + 1 - 1970 ≡ suc (y - 1970) = omega arith in
    let year : 1970 + (y - 1970) ≡ y = omega arith in
    ap days_of_years next ∙ year_more (y - 1970) ∙ ap (λ z. days_of_years (y - 1970) + days_in_year z) year

no_months : (y : ℕ) → days_of_months y (1 - 1) ≡ 0
unfolding days_of_months
no_months y = refl

day_more : (years months day n : ℕ) → 1 ≤ day → years + months + (day - 1) ≡ n → years + months + (day + 1 - 1) ≡ suc n
day_more years months day n low count = omega arith

below : (a b : ℕ) → nat_lt a b ≡ true → a + 1 ≤ b
below a b e = grind (arith, nat_tests)

not_below : (a b : ℕ) → nat_lt a b ≡ false → b ≤ a
not_below a b e = grind (arith, nat_tests)

after_by : (d : Day) (n : ℕ) (in_month in_year : Bool) → nat_lt d.day (days_in_month d.year d.month) ≡ in_month → nat_lt d.month 12 ≡ in_year →
    IsDay d n → IsDay (if in_month then record { year = d.year; month = d.month; day = d.day + 1 } else
    if in_year then record { year = d.year; month = d.month + 1; day = 1 } else record { year = d.year + 1; month = 1; day = 1 }) (suc n)
after_by d n true in_year e k h = record {
  from = h.from;
  month = h.month;
  day = (omega arith, below _ _ e);
  count = day_more (days_of_years (d.year - 1970)) (days_of_months d.year (d.month - 1)) d.day n h.day.0 h.count;
}
after_by d n false true e k h =
    let back : d.month + 1 - 1 ≡ d.month = omega arith in
    let more : days_of_months d.year (d.month + 1 - 1) ≡ days_of_months d.year (d.month - 1) + days_in_month d.year d.month =
    ap (days_of_months d.year) back ∙ days_of_months_more d.year d.month h.month.0 in
    record {
      from = h.from;
      month = (omega arith, below _ _ k);
      day = (omega arith, has_day d.year (d.month + 1));
      count = behind_month (days_of_years (d.year - 1970)) (days_of_months d.year (d.month - 1)) (days_of_months d.year (d.month + 1 - 1)) d.day
          (days_in_month d.year d.month) n more h.day.0 h.day.1 (not_below _ _ e) h.count;
    }
after_by d n false false e k h =
    let last : d.month ≡ 12 = omega (arith, not_below _ _ k, h.month.1) in
    let all : days_in_year d.year ≡ days_of_months d.year (d.month - 1) + days_in_month d.year d.month =
    sym (days_of_months_all d.year) ∙ ap (days_of_months d.year) (sym last) ∙ days_of_months_more d.year d.month h.month.0 in
    record {
      from = omega (arith, h.from);
      month = (omega arith, omega arith);
      day = (omega arith, has_day (d.year + 1) 1);
      count = ap (λ z. days_of_years (d.year + 1 - 1970) + z + (1 - 1)) (no_months (d.year + 1))
          ∙ behind_year (days_of_years (d.year - 1970)) (days_of_years (d.year + 1 - 1970)) (days_of_months d.year (d.month - 1)) (days_in_year d.year) d.day
          (days_in_month d.year d.month) n (next_year d.year h.from) all h.day.0 h.day.1 (not_below _ _ e) h.count;
    }

first_day : IsDay (record { year = 1970; month = 1; day = 1 }) 0
unfolding days_of_years days_of_months
first_day = record { from = omega arith; month = (omega arith, omega arith); day = (omega arith, omega arith); count = refl }

pub is_day : (n : ℕ) → IsDay (day_of n) n
unfolding day_of
is_day zero = first_day
is_day (suc n) = after_by (day_of n) n _ _ refl refl (is_day n)

few_years : (k : ℕ) → days_of_years k < 2932897 → k < 8030
few_years k h = omega (arith, days_of_years_closed k)

pub year_within : (d : Day) (n : ℕ) → n < 2932897 → IsDay d n → d.year ≤ 9999
year_within d n h day =
    let few : days_of_years (d.year - 1970) < 2932897 = omega (arith, day.count) in
    omega (arith, few_years (d.year - 1970) few)

clock : (t : ℕ) → (t / 86400) * 86400 + (t % 86400 / 3600) * 3600 + (t % 3600 / 60) * 60 + t % 60 ≡ t
clock t = omega arith

-- The date of a moment.
abbrev pub shown_at : (moment : ℕ) → moment < NO_DATE → HttpDate
shown_at moment h =
    let day = is_day (moment / 86400) in
    let few : moment / 86400 < 2932897 = omega arith in
    record {
      parts = parts_on (day_of (moment / 86400)) moment;
      civil = ((day.from, year_within _ _ few day), day.month, day.day);
      time = (omega arith, omega arith, omega arith);
      right_day = ap weekday (sym day.count);
    }

-- It is that second.
pub shown_secs : (moment : ℕ) (h : moment < NO_DATE) → unix_secs (shown_at moment h) ≡ moment
shown_secs moment h =
    ap (λ days. days * 86400 + (moment % 86400 / 3600) * 3600 + (moment % 3600 / 60) * 60 + moment % 60) (is_day (moment / 86400)).count ∙ clock moment

-- The date's text is the moment's.
pub date_text_of : (d : HttpDate) (moment : ℕ) → moment < NO_DATE → unix_secs d ≡ moment → date_text d ≡ date_of moment
unfolding date_of
date_text_of d moment h same = ap imf_fixdate (unix_secs_injective d (shown_at moment h) (same ∙ sym (shown_secs moment h)))
