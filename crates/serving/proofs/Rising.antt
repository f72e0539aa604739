-- A count that rises with another.
use Rattle.std.proofs.Common.{ℕ, ◌≡◌, ◌≢◌, ◌<◌, ◌≤◌, ◌+◌, ◌-◌, ◌^◌, ⊎_elim, arith}
use Rattle.std.proofs.lemmas.Bool.{cases_lt}
use Rattle.outside.specs.Causes.{one_more}
use Rattle.serving.specs.Ports.{RoseBy}

pub rose_none : (a : ℕ) → RoseBy a a 0
rose_none a room = omega arith

pub rose_one : (a b c n : ℕ) → RoseBy a b n → c ≡ one_more b → RoseBy a c (one_more n)
rose_one a b c n so_far more room = let is = so_far room in omega arith

pub gave_fewer : (accept tally given given' : ℕ) → (accept ≢ 0 → tally < accept) → RoseBy given given' tally → accept ≢ 0 → given' < 2 ^ 64 - 1 → given' < given + accept
gave_fewer accept tally given given' fewer rose some low = let less = fewer some in
    ⊎_elim (λ (room : given < 2 ^ 64). let is = rose room in omega arith) (λ (past : 2 ^ 64 ≤ given). omega arith) (cases_lt given (2 ^ 64))
