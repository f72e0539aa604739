-- What a clock tells.
use Rattle.std.specs.Prelude.{◌≡◌, ℕ, Option, Some, None}

-- the moment that it shows, where it tells that, and how many calls failed
pub record Dial : Type 0 where
  pub shows : Option ℕ
  pub faults : ℕ

-- A moment is the one that a clock shows, where it tells that.
abbrev pub IsShown : Option ℕ → ℕ → Type 0
IsShown None moment = Unit {0}
IsShown (Some shown) moment = moment ≡ shown
