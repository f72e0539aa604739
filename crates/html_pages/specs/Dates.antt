-- The date of a moment, a number of seconds since 1 January 1970.
use Rattle.std.specs.Prelude.{ℕ, zero, suc, ◌+◌, ◌/◌, ◌%◌, List, nat_lt, if◌then◌else◌}
use Rattle.httpdate.specs.Calendar.{days_in_month, weekday}
use Rattle.httpdate.specs.declared.parts.Parts.{Parts}
use Rattle.httpdate.specs.Text.{imf_fixdate}

pub record Day : Type 0 where
  pub year : ℕ
  pub month : ℕ
  pub day : ℕ

-- The day after: of the same month, the first of the next one, or the first of the next year.
abbrev pub day_after : Day → Day
day_after d =
    if nat_lt d.day (days_in_month d.year d.month) then record { year = d.year; month = d.month; day = d.day + 1 } else
    if nat_lt d.month 12 then record { year = d.year; month = d.month + 1; day = 1 } else
    record { year = d.year + 1; month = 1; day = 1 }

-- The day so many days after 1 January 1970.
unfoldable pub day_of : ℕ → Day
day_of zero = record { year = 1970; month = 1; day = 1 }
day_of (suc n) = day_after (day_of n)

-- The day, the time of day and the day of the week at a moment.
abbrev pub parts_on : Day → ℕ → Parts
parts_on d moment = record {
  year = d.year;
  mon = d.month;
  day = d.day;
  hour = moment % 86400 / 3600;
  min = moment % 3600 / 60;
  sec = moment % 60;
  wday = weekday (moment / 86400);
}

-- The text of a moment (RFC 9110, section 5.6.7), as `Thu, 01 Jan 1970 00:00:00 GMT`.
unfoldable pub date_of : ℕ → List ℕ
date_of moment = imf_fixdate (parts_on (day_of (moment / 86400)) moment)

-- The first moment that has no date, the year 10000.
abbrev pub NO_DATE : ℕ
NO_DATE = 253_402_300_800
