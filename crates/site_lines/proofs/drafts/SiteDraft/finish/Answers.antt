use Rattle.std.proofs.Common.{subst, sym}
use Rattle.trust_types.specs.NameLists.{AreApart}
use Rattle.std.specs.Prelude.{◌↔◌, Contains, IsTrue, ℕ}
use Rattle.trust_types.specs.Kept.{certs_of}
use Rattle.site_lines.specs.Drafts.{flag}
use Rattle.site_lines.proofs.Parting.{are_parts}
use Rattle.site_lines.proofs.drafts.SiteDraft.finish.Goals as goal

pub returns : goal.returns
returns c = λ k is.
    let just : (a : ℕ) → Contains c.in_ok-marked.field-0.items a ↔ IsTrue (flag c.args.self.seeds.items a) =
    subst (λ flags. (a : ℕ) → Contains c.in_ok-marked.field-0.items a ↔ IsTrue (flag flags a)) c.deref.ensures.value c.in_ok-marked.ensures.just in
    are_parts c.args.self k _ is c.into_names.ensures.names (subst AreApart (sym c.into_names.ensures.names) c.into_names.ensures.apart) c.in_ok-marked.ensures.rises just (c.in_ok-into_standing.ensures (certs_of k) is.logged)
