-- With which statuses requests are answered by nothing of a site.
use Rattle.std.proofs.Common.{◌≡◌, ℕ, ◌<◌, ◌&&◌, List, Option, Some, None, is_none, refl, ◌∙◌, arith}
use Rattle.std.specs.Prelude.{Contains, slice_index_or}
use Rattle.std.proofs.lemmas.Option.{same_Some}
use Rattle.http_requests.specs.declared.routes.Route.{Route}
use Rattle.http_requests.specs.declared.routes.Route.TheVariants.{Front, Account, Stewards, PersonOf, DiaryOf, ProjectOf, ArticleOf, RosterOf, ProofOf, Join, Login, Logout, Cert, Diary, Article, Reply, Project, Seed, Unseed, Table, NotFound, NotImplemented, BadForm}
use Rattle.http_requests.specs.Refusals.{needs_session, unmet, or_403}
use Rattle.http_pages.specs.Fixed.{fixed_statuses}
use Rattle.exchanges.specs.Asked.{or_forms}

-- What the cookies name.
abbrev Cookies : Type 0
Cookies = Option (List ℕ × List ℕ)

abbrev fixed : Route → Cookies → Option ℕ
fixed r session = or_forms (or_403 (unmet r) (needs_session r && is_none session)) r

among : (a s k : ℕ) → k < 7 → slice_index_or fixed_statuses k s ≡ a → Some a ≡ Some s → Contains fixed_statuses s
among a s k less at is = (k, less, at ∙ same_Some a s is)

-- What is answered so has one of the statuses of pages in which nothing of a site is shown.
pub is_fixed : (r : Route) (session : Cookies) (status : ℕ) → fixed r session ≡ Some status → Contains fixed_statuses status
is_fixed Front session status is = absurd (cc)
is_fixed Stewards session status is = absurd (cc)
is_fixed (PersonOf name) session status is = absurd (cc)
is_fixed (DiaryOf name) session status is = absurd (cc)
is_fixed (ProjectOf name) session status is = absurd (cc)
is_fixed (ArticleOf article) session status is = absurd (cc)
is_fixed (RosterOf level) session status is = absurd (cc)
is_fixed (ProofOf level) session status is = absurd (cc)
is_fixed (Join name password) session status is = absurd (cc)
is_fixed (Login name password) session status is = absurd (cc)
is_fixed Account session status is = among 200 status 0 (omega arith) refl is
is_fixed Logout None status is = among 403 status 2 (omega arith) refl is
is_fixed Logout (Some s) status is = absurd (cc)
is_fixed (Cert subject level) None status is = among 403 status 2 (omega arith) refl is
is_fixed (Cert subject level) (Some s) status is = absurd (cc)
is_fixed (Diary text) None status is = among 403 status 2 (omega arith) refl is
is_fixed (Diary text) (Some s) status is = absurd (cc)
is_fixed (Article title text) None status is = among 403 status 2 (omega arith) refl is
is_fixed (Article title text) (Some s) status is = absurd (cc)
is_fixed (Reply article text) None status is = among 403 status 2 (omega arith) refl is
is_fixed (Reply article text) (Some s) status is = absurd (cc)
is_fixed (Project name text) None status is = among 403 status 2 (omega arith) refl is
is_fixed (Project name text) (Some s) status is = absurd (cc)
is_fixed (Seed subject) None status is = among 403 status 2 (omega arith) refl is
is_fixed (Seed subject) (Some s) status is = absurd (cc)
is_fixed (Unseed subject) None status is = among 403 status 2 (omega arith) refl is
is_fixed (Unseed subject) (Some s) status is = absurd (cc)
is_fixed (Table caps) None status is = among 403 status 2 (omega arith) refl is
is_fixed (Table caps) (Some s) status is = absurd (cc)
is_fixed NotFound session status is = among 404 status 3 (omega arith) refl is
is_fixed NotImplemented session status is = among 501 status 6 (omega arith) refl is
is_fixed BadForm session status is = among 400 status 1 (omega arith) refl is
