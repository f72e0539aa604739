-- The grammar of pages: which lines a page may have, and what stands in each. It knows nothing of a site, and no text of a member can add to it.
use Rattle.std.specs.Prelude.{ℕ, List, [], ◌++◌, All, codes, decimal}
use Rattle.std.specs.Str.{IsUtf8}
use Rattle.markup.specs.Escapes.{escaped}
use Rattle.markup.specs.Safe.{IsSafeHtml}
use Rattle.trust_types.specs.declared.levels.Level.{Level}
use Rattle.trust_types.specs.Names.{IsName}
use Rattle.site_history.specs.declared.replies.Reply.{Reply}
use Rattle.site_history.specs.declared.replies.Refusal.{Refusal}
use Rattle.site_history.specs.declared.views.PostView.{PostView}
use Rattle.site_history.specs.Views.{Shown, Front, OfPerson, OfDiary, OfArticle, OfProject, OfStewards, Missing}
use Rattle.site_history.specs.Words.{reply_words, refusal_words}
use Rattle.html_pages.specs.Dates.{date_of}
use Rattle.http_pages.specs.Fixed.{fixed_response}
use Rattle.html_pages.specs.Lines.{paragraph, heading, list, block, form}
use Rattle.html_pages.specs.Pages.{page, error_page, roster_page, no_roster}
use Rattle.http_pages.specs.Views.{view_response}

-- Text without markup: any text, escaped; a number; a date; and these one after another.
pub data IsWords : List ℕ → Type 0 where
  Escaped : (text : List ℕ) → IsWords (escaped text)
  Number : (n : ℕ) → IsWords (decimal n)
  Date : (moment : ℕ) → IsWords (date_of moment)
  MoreWords : {words others : List ℕ} → IsWords words → IsWords others → IsWords (words ++ others)

-- The items of a list: words, a link, or two links with a word between them.
pub data AreItems : List ℕ → Type 0 where
  NoItem : AreItems []
  Item : (words : List ℕ) → IsWords words → AreItems (codes "<li>" ++ words ++ codes "</li>\n")
  Link : (path words : List ℕ) → IsWords path → IsWords words → AreItems (codes "<li><a href=\"" ++ path ++ codes "\">" ++ words ++ codes "</a></li>\n")
  LinkBy : (path words whose who : List ℕ) → IsWords path → IsWords words → IsWords whose → IsWords who →
      AreItems (codes "<li><a href=\"" ++ path ++ codes "\">" ++ words ++ codes "</a> by <a href=\"" ++ whose ++ codes "\">" ++ who ++ codes "</a></li>\n")
  MoreItems : {items others : List ℕ} → AreItems items → AreItems others → AreItems (items ++ others)

-- The lines of a page: words in a paragraph or a heading, a list, a text of a member as safe markup, and a form.
pub data AreLines : List ℕ → Type 0 where
  NoLine : AreLines []
  Paragraph : (words : List ℕ) → IsWords words → AreLines (paragraph words)
  Heading : (words : List ℕ) → IsWords words → AreLines (heading words)
  Items : (items : List ℕ) → AreItems items → AreLines (list items)
  Block : (html : List ℕ) → IsSafeHtml html → AreLines (block html)
  Form : (word : List ℕ) → IsWords word → AreLines (form word)
  MoreLines : {lines others : List ℕ} → AreLines lines → AreLines others → AreLines (lines ++ others)

-- The frame of a page, with words as its title, and such lines.
pub data IsSafePage : List ℕ → Type 0 where
  Page : (title lines : List ℕ) → IsWords title → AreLines lines → IsSafePage (page title lines)

-- What the types of a view say: names are names, and texts are UTF-8.
pub record IsPost (post : PostView) : Type 0 where
  pub author : IsName post.author
  pub text : IsUtf8 post.text

abbrev pub IsCertName : List ℕ × Level → Type 0
IsCertName c = IsName c.0

abbrev pub IsView : Shown → Type 0
IsView (Front heads) = All (λ h. IsName h.author) heads
IsView (OfPerson p) = IsName p.name × All IsCertName p.given × All IsCertName p.taken
IsView (OfDiary name posts) = IsName name × All IsPost posts
IsView (OfArticle a) = IsPost a.post × All IsPost a.replies
IsView (OfProject name post) = IsName name × IsPost post
IsView (OfStewards table seeds) = All IsName seeds
IsView Missing = Unit {0}

-- Whatever members wrote, each page is in the grammar: that of a view, of a roster, of a fixed status, and of a refusal.
abbrev pub ViewsAreSafe : Type 0
ViewsAreSafe = (v : Shown) → IsView v → IsSafePage (view_response v).body

abbrev pub RostersAreSafe : Type 0
RostersAreSafe = (grade : Level) (number revision : ℕ) (names : List (List ℕ)) → All IsName names →
    IsSafePage (roster_page grade number revision names) × IsSafePage (no_roster grade)

abbrev pub FixedAreSafe : Type 0
FixedAreSafe = (status : ℕ) → IsSafePage (fixed_response status).body

abbrev pub RefusalsAreSafe : Type 0
RefusalsAreSafe = ((reply : Reply) → IsSafePage (error_page (reply_words reply))) × ((refusal : Refusal) → IsSafePage (error_page (refusal_words refusal)))
