-- What a judge that finds no fault tells whoever adds the post.
use Rattle.std.proofs.Common.{◌≡◌, ◌<◌, Bool, true, false, ℕ, List, Option, Some, None, nat_lt, length, refl, ltb-true}
use Rattle.std.specs.Prelude.{Ok, Err, if◌then◌else◌}
use Rattle.std.specs.Result.{result_and}
use Rattle.trust_types.specs.declared.records.Record.{Record}
use Rattle.trust_types.specs.Names.{is_name}
use Rattle.trust_types.specs.NameLists.{number_of}
use Rattle.postings.specs.declared.judging.PostFault.TheVariants.{BadName, NoSuchArticle}
use Rattle.postings.specs.Posts.{articles, projects}
use Rattle.postings.specs.Judged.{Judged, fits, not_taken, judged_reply, judged_project}

-- A name that is accepted is free.
pub name_is_free : (posts : List Record) (name text : List ℕ) (u : Unit {0}) → judged_project posts name text ≡ Ok u → number_of (projects posts) name ≡ None
name_is_free posts name text u accepted = by_form (is_name name) (number_of (projects posts) name) (fits text) accepted
  where
    by_form : (named : Bool) (number : Option ℕ) (rest : Judged) → result_and (if named then not_taken number else Err BadName) rest ≡ Ok u → number ≡ None
    by_form true None rest is = refl
    by_form true (Some n) rest is = absurd (cc)
    by_form false number rest is = absurd (cc)

-- The article of a reply that is accepted is there.
pub article_is_there : (posts : List Record) (article : ℕ) (text : List ℕ) (u : Unit {0}) → judged_reply posts article text ≡ Ok u → article < length (articles posts)
article_is_there posts article text u accepted = ltb-true _ _ (by_form (nat_lt article (length (articles posts))) (fits text) accepted)
  where
    by_form : (there : Bool) (rest : Judged) → result_and {T = Unit {0}} (if there then Ok record {} else Err NoSuchArticle) rest ≡ Ok u → there ≡ true
    by_form true rest is = refl
    by_form false rest is = absurd (cc)
