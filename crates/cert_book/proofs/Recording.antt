-- The rules of a book, said of the records that its changes come from.
use Rattle.std.proofs.Common.{◌≡◌, ◌+◌, ap, arith, refl, List, ◌++◌, ◌∷◌, []}
use Rattle.trust_types.specs.declared.graphs.Cert.{Cert as Certificate}
use Rattle.trust_types.specs.declared.records.Record.{Record}
use Rattle.trust_types.specs.declared.records.Record.TheVariants.{Join, Seed, Unseed, Cert, Table, Diary, Article, Reply, Project}
use Rattle.trust_types.specs.Kept.{certs_of, standing}
use Rattle.trust_types.specs.Changes.{standing_count, standing_among}
use Rattle.trust_types.proofs.Changing.{certs_of-cert}
use Rattle.cert_log.proofs.Counting.{count_push}
use Rattle.frozen.specs.Writes.{graded}
use Rattle.cert_book.specs.Laws.{FollowsWhereContinues, HasPlaceWhereFits}

pub follows : FollowsWhereContinues
follows opening k (Join moment name secret) = (λ h. h, λ h. h)
follows opening k (Seed moment subject) = (λ h. h, λ h. h)
follows opening k (Unseed moment subject) = (λ h. h, λ h. h)
follows opening k (Cert moment author subject level) = (λ h. h, λ h. h)
follows opening k (Table moment caps) = (λ h. h, λ h. h)
follows opening k (Diary moment author text) = tt
follows opening k (Article moment author title text) = tt
follows opening k (Reply moment author article text) = tt
follows opening k (Project moment author name text) = tt

counted : (k : List Record) (x : Record) (c : Certificate) → certs_of (k ++ x ∷ []) ≡ certs_of k ++ c ∷ []
    → standing_count (certs_of (k ++ x ∷ [])) + graded (standing k c.from c.to) ≡ standing_count (certs_of k) + graded c.level
counted k x c is =
    let pushed : standing_count (certs_of k ++ c ∷ []) + graded (standing_among (certs_of k) c.from c.to) ≡ standing_count (certs_of k) + graded c.level = count_push (certs_of k) c in
    omega (arith, pushed, ap standing_count is)

pub place : HasPlaceWhereFits
place opening k (Join moment name secret) = (λ h. h, λ h. h)
place opening k (Seed moment subject) = (λ h. h, λ h. h)
place opening k (Unseed moment subject) = (λ h. h, λ h. h)
place opening k (Cert moment author subject level) =
    let x : Record = Cert moment author subject level in
    let c : Certificate = record { from = author; to = subject; level = level } in
    let count : standing_count (certs_of (k ++ x ∷ [])) + graded (standing k author subject) ≡ standing_count (certs_of k) + graded level = counted k x c (certs_of-cert k x c refl) in
    (λ h. omega (arith, count, h), λ h. omega (arith, count, h))
place opening k (Table moment caps) = (λ h. h, λ h. h)
place opening k (Diary moment author text) = tt
place opening k (Article moment author title text) = tt
place opening k (Reply moment author article text) = tt
place opening k (Project moment author name text) = tt
