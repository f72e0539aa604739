-- How many phases there can be.
use Rattle.std.specs.Prelude.{ℕ, zero, suc, ◌+◌, ◌*◌, ◌/◌, min}
use Rattle.trust_types.specs.declared.accounts.Node.{Node}
use Rattle.trust_types.specs.declared.accounts.Node.TheVariants.{Root, Account}
use Rattle.trust_types.specs.Sum.{sum_below}

-- The least of f 1, f 2, .., f (n + 1).
abbrev pub least_of : ℕ → (ℕ → ℕ) → ℕ
least_of zero f = f 1
least_of (suc n) f = min (least_of n f) (f (n + 2))

-- The least value of d + s / d + 1 over the numbers d from 1 to 2,000, where the division drops its rest.
abbrev pub phase_bound : ℕ → ℕ
phase_bound s = least_of 1999 (λ d. d + s / d + 1)

-- The root's capacity, and twice those of all accounts.
abbrev pub capacity_sum : ℕ → (Node → ℕ) → ℕ
capacity_sum n cap = cap Root + 2 * sum_below n (λ a. cap (Account a))

-- The lesser of phase_bound and of the number of units sent and one.
abbrev pub most_phases : ℕ → ℕ → ℕ
most_phases s sent = min (phase_bound s) (sent + 1)

-- How many steps a solve takes at most: by the numbers of accounts and of residual arcs, by all capacities, and by the units sent.
abbrev pub most_steps : ℕ → ℕ → ℕ → ℕ → ℕ
most_steps accounts arcs s sent = 3 * arcs * (most_phases s sent + 1) + sent * (2 * accounts + 4)
