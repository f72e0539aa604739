-- What is known where a judge finds no fault.
use Rattle.std.proofs.Common.{◌≡◌, ◌<◌, ℕ, List, Ok, Err, None, OnOk, length, sym}
use Rattle.trust_types.specs.declared.records.Record.{Record}
use Rattle.trust_types.specs.NameLists.{number_of}
use Rattle.postings.specs.Posts.{articles, projects}
use Rattle.postings.specs.Judged.{Judged, judged_reply, judged_project}
use Rattle.postings.proofs.Accepted.{name_is_free, article_is_there}

pub where_name_free : (posts : List Record) (name text : List ℕ) (result : Judged) → result ≡ judged_project posts name text →
    OnOk result (number_of (projects posts) name ≡ None)
where_name_free posts name text (Ok u) is = name_is_free posts name text u (sym is)
where_name_free posts name text (Err fault) is = record {}

pub where_article_there : (posts : List Record) (article : ℕ) (text : List ℕ) (result : Judged) → result ≡ judged_reply posts article text →
    OnOk result (article < length (articles posts))
where_article_there posts article text (Ok u) is = article_is_there posts article text u (sym is)
where_article_there posts article text (Err fault) is = record {}
