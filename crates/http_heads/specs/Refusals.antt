-- Definitions by steps, of which the first that refuses gives the status (RFC 9110, section 15): what a `do` in a definition stands for.
use Rattle.std.specs.Prelude.{ℕ, Bool, true, false, Result, Ok, Err}

-- A step, and the further ones with what it gives.
infixl 10 ◌>>=◌
abbrev pub ◌>>=◌ : {A B : Type 0} → Result A ℕ → (A → Result B ℕ) → Result B ℕ
(Ok x) >>= f = f x
(Err status) >>= f = Err status

-- The status, where the test holds.
abbrev pub refused_if : Bool → ℕ → Result (Unit {0}) ℕ
refused_if true status = Err status
refused_if false status = Ok tt
