use Rattle.std.proofs.Common.{sym, subst}
use Rattle.postings.specs.inner.Places.{AreAt}
use Rattle.postings.specs.Posts.{is_project}
use Rattle.std.specs.List.{filter}
use Rattle.postings.proofs.places.Places.reserve.Goals as goal

pub returns-in_ok-reserve-in-Project-clause-same : goal.returns-in_ok-reserve-in-Project-clause-same
returns-in_ok-reserve-in-Project-clause-same c = λ posts are. record {
  diaries = are.diaries;
  articles = are.articles;
  replies = are.replies;
  names = c.reserve-in-Project-2.ensures.same _ are.names;
  projects = subst (λ places. AreAt posts places (filter is_project posts)) (sym c.in_ok-reserve-in-Project.ensures.same) are.projects;
}
