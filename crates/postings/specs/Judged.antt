-- Whether a post may be added to these: nothing, or the first fault.
use Rattle.std.specs.Prelude.{ℕ, List, Option, Some, None, Result, Ok, Err, nat_le, nat_lt, length, if◌then◌else◌}
use Rattle.std.specs.Result.{result_and}
use Rattle.trust_types.specs.declared.limits.TheConstants.{LONGEST_TEXT}
use Rattle.trust_types.specs.declared.records.Record.{Record}
use Rattle.trust_types.specs.Names.{is_name}
use Rattle.trust_types.specs.NameLists.{number_of}
use Rattle.postings.specs.declared.judging.PostFault.{PostFault}
use Rattle.postings.specs.declared.judging.PostFault.TheVariants.{NoSuchArticle, BadName, NameTaken, LongText}
use Rattle.postings.specs.Posts.{articles, projects}

abbrev pub Judged : Type 0
Judged = Result (Unit {0}) PostFault

-- A text is within its limit of bytes.
abbrev pub fits : List ℕ → Judged
fits text = if nat_le (length text) LONGEST_TEXT then Ok record {} else Err (LongText (length text))

-- There is an article of this number.
abbrev pub article_there : List Record → ℕ → Judged
article_there posts n = if nat_lt n (length (articles posts)) then Ok record {} else Err NoSuchArticle

-- Nothing where no project was found, else that the name is taken, with the project's number.
abbrev pub not_taken : Option ℕ → Judged
not_taken (Some n) = Err (NameTaken n)
not_taken None = Ok record {}

-- A word is a name, and no project has it.
abbrev pub name_free : List Record → List ℕ → Judged
name_free posts word = if is_name word then not_taken (number_of (projects posts) word) else Err BadName

-- The judgement on a post is the first of these that finds a fault.
abbrev pub judged_diary : List ℕ → Judged
judged_diary text = fits text

abbrev pub judged_article : List ℕ → List ℕ → Judged
judged_article title text = result_and (fits title) (fits text)

abbrev pub judged_reply : List Record → ℕ → List ℕ → Judged
judged_reply posts article text = result_and (article_there posts article) (fits text)

abbrev pub judged_project : List Record → List ℕ → List ℕ → Judged
judged_project posts name text = result_and (name_free posts name) (fits text)
