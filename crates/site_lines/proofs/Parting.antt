-- The parts of a draft are those of its records' site.
use Rattle.std.proofs.Common.{◌≡◌, ℕ, ◌<◌, List, length, get_or, sym, ◌∙◌, subst}
use Rattle.std.specs.Prelude.{◌↔◌, Contains, IsTrue}
use Rattle.std.specs.List.Sorted.{IsStrictlyIncreasing}
use Rattle.std.proofs.lemmas.List.Elements.{Contains-get_or}
use Rattle.trust_types.specs.declared.records.Record.{Record}
use Rattle.trust_types.specs.NameLists.{AreApart}
use Rattle.trust_types.specs.Kept.{accounts, certs_of}
use Rattle.cert_log.specs.Standing.{AreStanding}
use Rattle.cert_log.proofs.Standing.{can_stand}
use Rattle.site_lines.specs.Drafts.{IsSiteDraft, ArePartsOf, flag}
use Rattle.site_lines.specs.declared.drafts.SiteDraft.{SiteDraft}
use Rattle.site_lines.specs.declared.parts.SiteParts.{SiteParts}
use Rattle.site_lines.proofs.Marking.{inside}

pub are_parts : (d : SiteDraft) (k : List Record) (parts : SiteParts) → IsSiteDraft d k
    → parts.names.items ≡ d.names → AreApart parts.names.items → IsStrictlyIncreasing parts.seeds.items
    → ((a : ℕ) → Contains parts.seeds.items a ↔ IsTrue (flag d.seeds.items a)) → AreStanding (certs_of k) parts.certs.items → ArePartsOf k parts
are_parts d k parts is names apart rises just are = record {
  named = names ∙ is.named;
  apart = apart;
  few = is.few;
  rises = rises;
  among = λ i e within. subst (λ n. get_or parts.seeds.items i e < n) is.flags (inside d.seeds.items _ ((just _).0 (Contains-get_or parts.seeds.items i e within)));
  seeded = λ a. (λ has. sym (is.seeded a) ∙ (just a).0 has, λ seed. (just a).1 (is.seeded a ∙ seed));
  stand = can_stand (length (accounts k)) (certs_of k) parts.certs.items is.between are;
  standing = are.just;
}
