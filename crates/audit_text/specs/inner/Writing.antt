-- For the functions that write: what is written of a graph, in order, and the lines that it gives.
use Rattle.std.specs.Prelude.{ℕ, List, [], ◌∷◌, codes, decimal, map, filter, flat_map}
use Rattle.std.specs.List.{range_with_len}
use Rattle.trust_types.specs.declared.graphs.Cert.{Cert}
use Rattle.trust_types.specs.Graph.{Certificates}
use Rattle.audit_text.specs.Canonical.{line}

-- The words of the line of a table's entries, and of that of a number of levels.
abbrev pub entries_words : List ℕ → List (List ℕ)
entries_words entries = codes "caps" ∷ map decimal entries

abbrev pub count_words : ℕ → List (List ℕ)
count_words levels = codes "levels" ∷ decimal levels ∷ []

-- The numbers below a bound.
abbrev pub below : ℕ → List ℕ
below n = range_with_len 0 n

-- The seeds among the first accounts, in rising order.
abbrev pub seeds_below : Certificates → ℕ → List ℕ
seeds_below g n = filter g.is_seed (below n)

-- The first certificates that an account gives.
abbrev pub first_given : (ℕ → ℕ → Cert) → ℕ → ℕ → List Cert
first_given given a n = map (given a) (below n)

-- The certificates that the first accounts give, by giver.
abbrev pub certs_below : (ℕ → ℕ) → (ℕ → ℕ → Cert) → ℕ → List Cert
certs_below degree given n = flat_map (λ a. first_given given a (degree a)) (below n)

-- A line for each of some items, of its words.
abbrev pub lines_for : {X : Type 0} → (X → List (List ℕ)) → List X → List ℕ
lines_for words_of xs = flat_map (λ x. line (words_of x)) xs
