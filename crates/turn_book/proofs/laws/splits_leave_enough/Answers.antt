use Rattle.std.proofs.Common.{ℕ, ◌≡◌, ◌+◌, ◌-◌, ◌*◌, ◌/◌, ◌^◌, ◌<◌, ◌≤◌, suc, ap, ◌∙◌, arith}
use Rattle.std.proofs.Math.Nat.{pow-suc}
use Rattle.turn_book.specs.Seats.{Seated, Halves}
use Rattle.turn_book.proofs.laws.splits_leave_enough.Goals as goal

pub returns : goal.returns
returns c n s t u small enough h =
    let m : ℕ = 63 - (n + 1) in
    let up : 63 - n ≡ suc m = omega arith in
    let twice : 2 ^ (63 - n) ≡ 2 ^ m * 2 = ap (λ (k : ℕ). 2 ^ k) up ∙ pow-suc 2 m in
    let tl = h.kept.4 in let th = h.kept.5 in let ul = h.given.3 in let uh = h.given.4 in
    (omega arith, omega arith)
