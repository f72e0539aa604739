-- Draws: numbers one after another, by a linear congruence. The multiplier and the increment are those of Knuth's MMIX.
use Rattle.std.specs.Prelude.{ℕ, zero, suc, ◌+◌, ◌*◌, ◌/◌, ◌%◌, ◌^◌, ◌==◌, List, [], ◌∷◌, if◌then◌else◌}
use Rattle.trust_types.specs.declared.levels.Level.{Level}
use Rattle.trust_types.specs.declared.levels.Level.TheVariants.{Apprentice, Journeyer, Master}
use Rattle.trust_types.specs.declared.graphs.Cert.{Cert}

-- The state after one more draw.
abbrev pub next : ℕ → ℕ
next s = (s * 6364136223846793005 + 1442695040888963407) % 2 ^ 64

-- The number below m that is drawn where this is the state afterwards.
abbrev pub drawn : ℕ → ℕ → ℕ
drawn m s = s / 2 ^ 33 % m

-- The account next to one that certifies no other, and else the one that was drawn.
abbrev pub taker : ℕ → ℕ → ℕ
taker a b = if a == b then (a + 1) % 2000 else b

abbrev pub level_at : ℕ → Level
level_at l = if l == 0 then Apprentice else if l == 1 then Journeyer else Master

-- The certificate of these draws: of one account for another, at a level.
abbrev pub cert : ℕ → ℕ → ℕ → Cert
cert a b l = record { from = a; to = taker a b; level = level_at l }

-- The certificate of three draws from a state on.
abbrev pub cert_from : ℕ → Cert
cert_from s = cert (drawn 2000 (next s)) (drawn 2000 (next (next s))) (drawn 3 (next (next (next s))))

-- So many certificates from a state on.
unfoldable pub certs_from : ℕ → ℕ → List Cert
certs_from zero s = []
certs_from (suc n) s = cert_from s ∷ certs_from n (next (next (next s)))
