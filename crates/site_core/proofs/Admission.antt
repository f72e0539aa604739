-- The reply of a history admits by the level.
use Rattle.std.proofs.Common.{◌≡◌, ◌≤◌, ◌<◌, ◌⊎◌, ℕ, Bool, true, false, Option, Some, None, Result, Ok, Err, IfOk, inl, inr, if◌then◌else◌, nat_le, refl, sym, ap, ◌∙◌, subst, arith, length, ◌==◌}
use Rattle.std.proofs.lemmas.Bool.Decides.{nat_tests}
use Rattle.trust_types.specs.declared.levels.Level.{Level}
use Rattle.trust_types.specs.Levels.{rank}
use Rattle.trust_types.specs.Kept.{accounts}
use Rattle.trust_types.specs.NameLists.{number_of}
use Rattle.posting_policy.specs.declared.PostKind.{PostKind}
use Rattle.posting_policy.specs.declared.PostKind.TheVariants as kinds
use Rattle.posting_policy.specs.Policy.{needs, admits}
use Rattle.postings.specs.declared.judging.PostFault.{PostFault}
use Rattle.postings.specs.declared.judging.PostFault.TheVariants as posts
use Rattle.postings.specs.Judged.{judged_diary, judged_article, judged_reply, judged_project}
use Rattle.postings.specs.Posts.{diary_of, articles, replies_to, projects}
use Rattle.sessions.specs.Sessions.{who}
use Rattle.site_history.specs.declared.acts.Act.{Act}
use Rattle.site_history.specs.declared.commands.Author.{Author}
use Rattle.site_history.specs.declared.commands.Author.TheVariants as author
use Rattle.site_history.specs.declared.commands.Command.{Command}
use Rattle.site_history.specs.declared.commands.Command.TheVariants.{Join, Seed, Unseed, Cert, Table, Diary, Article, Reply as ReplyTo, Project, Login, Logout}
use Rattle.site_history.specs.declared.replies.Reply.{Reply}
use Rattle.site_history.specs.declared.replies.Reply.TheVariants.{Posted, NoSession, NoSuchAuthor, Denied, Fault}
use Rattle.site_history.specs.declared.replies.Refusal.{Refusal}
use Rattle.site_history.specs.Answers.{IsReply}
use Rattle.site_history.specs.Histories.{History, records, author_of, is_kept}
use Rattle.site_history.specs.Held.{level_of}
use Rattle.site_history.specs.Replies.{judge, judged_author, named_account, same_account, reply_by, reply_to, by_posts, number_in}
use Rattle.site_history.specs.Sites.{Site, site_of}
use Rattle.site_state.proofs.ActsJudged.{author-found}
use Rattle.site_core.specs.Admission.{kind_asked, is_before_level, GoesByLevel, GoesByLevelOf, IsAdmitted}

-- what is known of a judged reply: it goes by the level, and so would a fault in its place
abbrev Goes : Option PostKind → Level → Reply → Type 0
Goes kind held judged = GoesByLevelOf kind held judged × (is_kept judged ≡ true → GoesByLevelOf kind held Fault)

by_test : (b : Bool) (kind : PostKind) (held : Level) (number : ℕ) → nat_le (rank (needs kind)) (rank held) ≡ b
    → Goes (Some kind) held (if b then Posted kind number else Denied held (needs kind))
by_test true kind held number test = let enough : rank (needs kind) ≤ rank held = grind (arith, nat_tests) in ((refl, enough), λ kept. enough)
by_test false kind held number test = let below : rank held < rank (needs kind) = grind (arith, nat_tests) in ((refl, refl, below), λ kept. absurd (cc))

posted : (fault : Result (Unit {0}) PostFault) (kind : PostKind) (held : Level) (number : ℕ) → Goes (Some kind) held (by_posts fault kind held number)
posted (Err posts.NoSuchArticle) kind held number = (refl, λ kept. absurd (cc))
posted (Err posts.BadName) kind held number = (refl, λ kept. absurd (cc))
posted (Err (posts.NameTaken n)) kind held number = (refl, λ kept. absurd (cc))
posted (Err (posts.LongText n)) kind held number = (refl, λ kept. absurd (cc))
posted (Ok x) kind held number = by_test (admits kind held) kind held number refl

by_command : (s : Site) (held : Level) (author : Option ℕ) (command : Command) → Goes (kind_asked command) held (reply_to s held author command)
by_command s held author (Join name secret) = (tt, λ kept. tt)
by_command s held author (Seed subject) = (tt, λ kept. tt)
by_command s held author (Unseed subject) = (tt, λ kept. tt)
by_command s held author (Cert subject level) = (tt, λ kept. tt)
by_command s held author (Table caps) = (tt, λ kept. tt)
by_command s held author (Diary text) = posted (judged_diary text) kinds.Diary held (length (diary_of s.posts (number_in author)))
by_command s held author (Article title text) = posted (judged_article title text) kinds.Article held (length (articles s.posts))
by_command s held author (ReplyTo article text) = posted (judged_reply s.posts article text) kinds.Reply held (length (replies_to s.posts article))
by_command s held author (Project name text) = posted (judged_project s.posts name text) kinds.Project held (length (projects s.posts))
by_command s held author (Login name proof token) = (tt, λ kept. tt)
by_command s held author Logout = (tt, λ kept. tt)

-- a refusal of the author comes before the level
refused_for : (kind : Option PostKind) (held : Level) (reply : Reply) → (reply ≡ NoSession) ⊎ (reply ≡ NoSuchAuthor) → Goes kind held reply
refused_for None held reply is = (tt, λ kept. tt)
refused_for (Some kind) held reply (inl is) = subst (Goes (Some kind) held) (sym is) (refl, λ kept. absurd (cc))
refused_for (Some kind) held reply (inr is) = subst (Goes (Some kind) held) (sym is) (refl, λ kept. absurd (cc))

named_refused : (o : Option ℕ) (reply : Reply) → named_account o ≡ Err reply → reply ≡ NoSuchAuthor
named_refused None reply is = cc
named_refused (Some a) reply is = absurd (cc)

one_refused : (b : Bool) (a : ℕ) (reply : Reply) → (if b then Ok (Some a) else Err NoSession) ≡ Err reply → reply ≡ NoSession
one_refused true a reply is = absurd (cc)
one_refused false a reply is = cc

session_refused : (o session : Option ℕ) (reply : Reply) → same_account o session ≡ Err reply → reply ≡ NoSession
session_refused None session reply is = cc
session_refused (Some a) None reply is = cc
session_refused (Some a) (Some b) reply is = one_refused (a == b) a reply is

author_refused : (s : Site) (a : Option Author) (reply : Reply) → judged_author s a ≡ Err reply → (reply ≡ NoSession) ⊎ (reply ≡ NoSuchAuthor)
author_refused s None reply is = absurd (cc)
author_refused s (Some (author.Named name)) reply is = inr (named_refused (number_of s.certs.names name) reply is)
author_refused s (Some (author.Session name token)) reply is = inl (session_refused (number_of s.certs.names name) (who s.live token) reply is)

by_author : (h : History) (act : Act) (found : Result (Option ℕ) Reply) → judged_author (site_of h) act.author ≡ found
    → Goes (kind_asked act.command) (level_of h (author_of (accounts (records h)) act.author)) (reply_by h act.command found)
by_author h act (Err reply) is = refused_for (kind_asked act.command) _ reply (author_refused (site_of h) act.author reply is)
by_author h act (Ok found) is = subst
    (λ (a : ℕ). Goes (kind_asked act.command) (level_of h a) (reply_to (site_of h) (level_of h (number_in found)) found act.command))
    (author-found (site_of h) act.author found is) (by_command (site_of h) (level_of h (number_in found)) found act.command)

judged : (h : History) (act : Act) → Goes (kind_asked act.command) (level_of h (author_of (accounts (records h)) act.author)) (judge h act)
unfolding judge
judged h act = by_author h act (judged_author (site_of h) act.author) refl

given_or_fault : (h : History) (act : Act) (reply : Reply) → IsReply h act reply → (reply ≡ judge h act) ⊎ ((reply ≡ Fault) × (is_kept (judge h act) ≡ true))
given_or_fault h act Fault is = inr (refl, is)
given_or_fault h act reply is = inl is

by_given : (h : History) (act : Act) (reply : Reply) → (reply ≡ judge h act) ⊎ ((reply ≡ Fault) × (is_kept (judge h act) ≡ true)) → IsAdmitted h act reply
by_given h act reply (inl is) = subst (IsAdmitted h act) (sym is) (judged h act).0
by_given h act reply (inr is) = subst (IsAdmitted h act) (sym is.0) ((judged h act).1 is.1)

-- the reply to a post goes by the level that its author holds
pub admitted : (h : History) (act : Act) (reply : Reply) → IsReply h act reply → IsAdmitted h act reply
admitted h act reply is = by_given h act reply (given_or_fault h act reply is)

pub all_admitted : (h : History) (act : Act) (answer : Result Reply Refusal) → IfOk answer (λ reply. IsReply h act reply) → IfOk answer (λ reply. IsAdmitted h act reply)
all_admitted h act (Ok reply) is = admitted h act reply is
all_admitted h act (Err refusal) is = tt
