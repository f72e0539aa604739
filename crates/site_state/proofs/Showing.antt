-- What a query shows of a site, and of its history.
use Rattle.std.proofs.Common.{◌≡◌, ℕ, List, [], length, All, Some, None, Result, Ok, Err, IfOk, sym, ap, ◌∙◌, subst}
use Rattle.std.specs.Prelude.{slice_index_or}
use Rattle.std.specs.Str.{bytes_eq}
use Rattle.std.proofs.lemmas.List.Quantifiers.{position-Some}
use Rattle.std.proofs.lemmas.Slice.Eq.{bytes_eq-Decides}
use Rattle.trust_types.specs.Tables.{Table}
use Rattle.trust_types.specs.NameLists.{number_of}
use Rattle.trust_types.specs.declared.levels.Level.{Level}
use Rattle.trust_types.specs.declared.records.Record.{Record}
use Rattle.sessions.specs.Sessions.{Session}
use Rattle.site_history.specs.declared.queries.Query.{Query}
use Rattle.site_history.specs.declared.queries.Query.TheVariants.{Person}
use Rattle.site_history.specs.declared.views.PersonView.{PersonView}
use Rattle.site_history.specs.declared.views.DiaryView.{DiaryView}
use Rattle.site_history.specs.declared.views.View.{View}
use Rattle.site_history.specs.declared.views.View.TheVariants as views
use Rattle.site_history.specs.Histories.{History}
use Rattle.site_history.specs.Held.{level_of}
use Rattle.site_history.specs.Sites.{Site, site_of}
use Rattle.site_history.specs.Views.{said, shown, shown_of, Missing, OfPerson, OfDiary, person_shown, diary_shown, name_of, given_by, taken_by, entries_of}
use Rattle.site_state.specs.declared.parts.Parts.{Parts}
use Rattle.site_state.specs.inner.Parts.{ArePartsOf, IsPostedBy, site_in}

-- each post of the parts is an account's
pub all_posted : (opening : Table) (k : List Record) (live : List Session) (p : Parts) → ArePartsOf opening k live p
    → All (IsPostedBy (length (site_in p).certs.names)) (site_in p).posts
all_posted opening k live p are = subst (λ (s : Site). All (IsPostedBy (length s.certs.names)) s.posts) (sym are.site) are.authors

-- what is shown of the site is shown of its history
pub view_shown : {E : Type 0} (h : History) (s : Site) (query : Query) (r : Result View E) → s ≡ site_of h → IfOk r (λ v. said v ≡ shown_of s (level_of h) query)
    → IfOk r (λ v. said v ≡ shown h query)
unfolding shown
view_shown h s query (Ok v) same is = is ∙ ap (λ s. shown_of s (level_of h) query) same
view_shown h s query (Err e) same is = is

-- the name of the account that has a name
name_found : (names : List (List ℕ)) (word : List ℕ) (a : ℕ) → Some a ≡ number_of names word → slice_index_or names a [] ≡ word
name_found names word a is = (bytes_eq-Decides (slice_index_or names a []) word).0 (position-Some (λ other. bytes_eq other word) names a [] (sym is)).1

pub missing_shown : (h : History) (s : Site) (word : List ℕ) → s ≡ site_of h → None ≡ number_of s.certs.names word → Missing ≡ shown h (Person word)
unfolding shown
missing_shown h s word same none = ap (person_shown s (level_of h) word) none ∙ ap (λ (s : Site). shown_of s (level_of h) (Person word)) same

pub person_is : (h : History) (s : Site) (word : List ℕ) (a : ℕ) (level : Level) (view : PersonView) → s ≡ site_of h → Some a ≡ number_of s.certs.names word → level ≡ level_of h a
    → view.name ≡ name_of s a → view.level ≡ level → view.given.items ≡ given_by s a → view.taken.items ≡ taken_by s a → said (views.Person view) ≡ shown h (Person word)
unfolding shown
person_is h s word a level view same number held name at given taken =
    let name_is : view.name ≡ word = name ∙ name_found s.certs.names word a number in
    let level_is : view.level ≡ level_of h a = at ∙ held in
    let it : said (views.Person view) ≡ person_shown s (level_of h) word (Some a) =
    λ i. OfPerson (record { name = name_is i; level = level_is i; given = given i; taken = taken i }) in
    it ∙ (ap (person_shown s (level_of h) word) number ∙ ap (λ (s : Site). shown_of s (level_of h) (Person word)) same)

pub diary_is : (s : Site) (word : List ℕ) (a : ℕ) (view : DiaryView) → Some a ≡ number_of s.certs.names word → view.name ≡ name_of s a → view.posts.items ≡ entries_of s a
    → said (views.Diary view) ≡ diary_shown s word (number_of s.certs.names word)
diary_is s word a view number name posts =
    let name_is : view.name ≡ word = name ∙ name_found s.certs.names word a number in
    let it : said (views.Diary view) ≡ diary_shown s word (Some a) = λ i. OfDiary (name_is i) (posts i) in
    it ∙ ap (diary_shown s word) number
