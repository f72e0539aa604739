use Rattle.site_state.proofs.parts.Parts.reserve.Goals as goal

pub returns-in_ok-reserve-in-Join-clause-same : goal.returns-in_ok-reserve-in-Join-clause-same
returns-in_ok-reserve-in-Join-clause-same g c opening k live is =
    c.reserve_change.ensures.same opening k live (record { site = rw c.reserve.ensures.items is.site; graph = is.graph; authors = is.authors })
