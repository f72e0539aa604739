-- An act judged by its author and its command.
use Rattle.std.proofs.Common.{◌≡◌, ℕ, Bool, true, false, Option, Some, None, Result, Ok, Err, IsTrue, is_some, if◌then◌else◌, unwrap_or, ◌==◌, rules, refl, sym, ap, ◌∙◌, subst}
use Rattle.trust_types.specs.Kept.{accounts}
use Rattle.trust_types.specs.NameLists.{number_of}
use Rattle.site_history.specs.declared.acts.Act.{Act}
use Rattle.site_history.specs.declared.commands.Author.{Author}
use Rattle.site_history.specs.declared.commands.Author.TheVariants as author
use Rattle.site_history.specs.declared.commands.Command.{Command}
use Rattle.site_history.specs.declared.commands.Command.TheVariants.{Join, Seed, Unseed, Cert, Table, Diary, Article, Reply, Project, Login, Logout}
use Rattle.site_history.specs.declared.replies.Reply as replies
use Rattle.site_history.specs.declared.replies.Reply.TheVariants.{NoSession}
use Rattle.site_history.specs.Acts.{may_have, has_author}
use Rattle.site_history.specs.Histories.{History, records, author_of, record_of}
use Rattle.site_history.specs.Held.{level_of}
use Rattle.site_history.specs.Replies.{judge, judged_author, named_account, same_account, reply_by, number_in}
use Rattle.site_history.specs.Sites.{Site, site_of}
use Rattle.sessions.specs.Sessions.{who}
use Rattle.site_state.specs.declared.judged.Judged.{Judged}
use Rattle.site_state.specs.declared.judged.Judged.TheVariants.{Refused, Kept, LogsIn, LogsOut}
use Rattle.site_state.specs.Weighed.{IsWeighed, IsJudged, is_given}

-- a command that has an author was given one
pub given : (command : Command) (a : Option Author) (found : Option ℕ) → IsTrue (may_have command a) → is_some found ≡ has_author a → IsTrue (is_given command found)
given (Join name secret) a found may same = search rules
given (Seed subject) a found may same = search rules
given (Unseed subject) a found may same = search rules
given (Cert subject level) a found may same = subst (λ (b : Bool). IsTrue b) (sym same) may
given (Table caps) a found may same = search rules
given (Diary text) a found may same = subst (λ (b : Bool). IsTrue b) (sym same) may
given (Article title text) a found may same = subst (λ (b : Bool). IsTrue b) (sym same) may
given (Reply article text) a found may same = subst (λ (b : Bool). IsTrue b) (sym same) may
given (Project name text) a found may same = subst (λ (b : Bool). IsTrue b) (sym same) may
given (Login name proof token) a found may same = search rules
given Logout a found may same = search rules

named_found : (o found : Option ℕ) → named_account o ≡ Ok found → found ≡ o
named_found None found is = absurd (cc)
named_found (Some a) found is = cc

abbrev one_if : Bool → ℕ → Result (Option ℕ) replies.Reply
one_if b a = if b then Ok (Some a) else Err NoSession

same_if : (b : Bool) (a : ℕ) (found : Option ℕ) → one_if b a ≡ Ok found → found ≡ Some a
same_if true a found is = cc
same_if false a found is = absurd (cc)

same_found : (o session found : Option ℕ) → same_account o session ≡ Ok found → found ≡ o
same_found None session found is = absurd (cc)
same_found (Some a) None found is = absurd (cc)
same_found (Some a) (Some b) found is = same_if (a == b) a found is

number_is : (o : Option ℕ) → number_in o ≡ unwrap_or o 0
number_is None = refl
number_is (Some a) = refl

-- the account that an author was found to be is the one that its name has
pub author-found : (s : Site) (a : Option Author) (found : Option ℕ) → judged_author s a ≡ Ok found → number_in found ≡ author_of s.certs.names a
author-found s None found is = let e : found ≡ None = cc is in ap number_in e
author-found s (Some (author.Named name)) found is =
    ap number_in (named_found (number_of s.certs.names name) found is) ∙ number_is (number_of s.certs.names name)
author-found s (Some (author.Session name token)) found is =
    ap number_in (same_found (number_of s.certs.names name) (who s.live token) found is) ∙ number_is (number_of s.certs.names name)

pub judge-refused : (h : History) (act : Act) (reply : replies.Reply) → Err reply ≡ judged_author (site_of h) act.author → reply ≡ judge h act
unfolding judge
judge-refused h act reply is = ap (reply_by h act.command) is

pub judge-weighed : (h : History) (act : Act) (found : Option ℕ) → Ok found ≡ judged_author (site_of h) act.author → reply_by h act.command (Ok found) ≡ judge h act
unfolding judge
judge-weighed h act found is = ap (reply_by h act.command) is

-- what becomes of an act whose author was found is what becomes of its command
pub act_judged : (h : History) (act : Act) (found : Option ℕ) (moment : ℕ) (judged : Judged) → Ok found ≡ judged_author (site_of h) act.author
    → IsWeighed (site_of h) (level_of h (number_in found)) found moment act.command judged → IsJudged h act moment judged
act_judged h act found moment (Refused reply) is w = (w.0 ∙ judge-weighed h act found is, w.1)
act_judged h act found moment (Kept x reply) is w =
    (w.0 ∙ judge-weighed h act found is, w.1, ap (λ (a : ℕ). record_of (accounts (records h)) a moment act.command) (sym (author-found (site_of h) act.author found (sym is))) ∙ w.2, w.3)
act_judged h act found moment (LogsIn account token) is w = (sym (judge-weighed h act found is) ∙ w.0, w.1, w.2)
act_judged h act found moment LogsOut is w = (sym (judge-weighed h act found is) ∙ w.0, w.1)
