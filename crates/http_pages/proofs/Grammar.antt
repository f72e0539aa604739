-- Each page is in the grammar of pages.
use Rattle.std.proofs.Common.{◌≡◌, ℕ, suc, Bool, true, false, List, [], ◌∷◌, ◌++◌, All, refl, sym, ap, subst, ◌∙◌, append_assoc, arith, rules, cond}
use Rattle.std.specs.Prelude.{codes, decimal, ◌&&◌, ◌==◌}
use Rattle.std.specs.List.{flat_map, list_all}
use Rattle.std.proofs.lemmas.Bool.{and_parts}
use Rattle.std.proofs.lemmas.Bool.Decides.{nat_tests}
use Rattle.markup.specs.Escapes.{escaped, is_plain}
use Rattle.markup.specs.Cleaning.{cleaned}
use Rattle.markup.proofs.Safety.{cleaned-safe}
use Rattle.markup.proofs.Fronts.{escape_of-plain}
use Rattle.trust_types.specs.declared.levels.Level.{Level}
use Rattle.trust_types.specs.declared.levels.Level.TheVariants.{Observer, Apprentice, Journeyer, Master, Fellow, Warden, Elder}
use Rattle.trust_types.specs.Levels.{level_name}
use Rattle.trust_types.specs.Names.{IsName, is_name_byte}
use Rattle.posting_policy.specs.declared.PostKind.{PostKind}
use Rattle.posting_policy.specs.declared.PostKind.TheVariants as kind
use Rattle.site_history.specs.declared.replies.Reply.{Reply}
use Rattle.site_history.specs.declared.replies.Reply.TheVariants as reply
use Rattle.site_history.specs.declared.replies.Refusal.{Refusal}
use Rattle.site_history.specs.declared.replies.Refusal.TheVariants as refusal
use Rattle.site_history.specs.declared.views.ArticleHead.{ArticleHead}
use Rattle.site_history.specs.declared.views.PostView.{PostView}
use Rattle.site_history.specs.Views.{Front, OfPerson, OfDiary, OfArticle, OfProject, OfStewards, Missing}
use Rattle.site_history.specs.Words.{reply_words, refusal_words, kind_word}
use Rattle.html_pages.specs.Dates.{date_of}
use Rattle.http_pages.specs.Fixed.{fault_text}
use Rattle.html_pages.specs.Lines.{paragraph, heading, list, form, article_line, roster_line, cert_line, seed_line, level_line, publication_line, levels_line, spaced, caps_line, signed, entry_lines, post_lines, reply_lines}
use Rattle.html_pages.specs.Pages.{account_page, error_page, person_page, stewards_page, roster_page, no_roster, front_page, diary_page, article_page, project_page}
use Rattle.http_pages.specs.Views.{headline_of, entry_of, written_of, reply_of}
use Rattle.http_pages.specs.Safe.{IsWords, Escaped, Number, Date, MoreWords, AreItems, NoItem, Item, Link, LinkBy, MoreItems, AreLines, NoLine, Paragraph, Heading, Items, Block, Form, MoreLines, IsSafePage, Page, IsPost, IsCertName, ViewsAreSafe, RostersAreSafe, FixedAreSafe, RefusalsAreSafe}

-- Text without a byte that is escaped stands for itself.
escaped-plain : (text : List ℕ) → list_all is_plain text ≡ true → escaped text ≡ text
escaped-plain [] e = refl
escaped-plain (b ∷ text) e =
    let p = and_parts (is_plain b) (list_all is_plain text) e in
    ap (λ front. front ++ escaped text) (escape_of-plain b p.0) ∙ ap (λ rest. b ∷ rest) (escaped-plain text p.1)

plain : (text : List ℕ) → list_all is_plain text ≡ true → IsWords text
plain text e = subst IsWords (escaped-plain text e) (Escaped text)

-- So does a name.
name_byte-plain : (b : ℕ) → is_name_byte b ≡ true → is_plain b ≡ true
name_byte-plain b e = grind (arith, nat_tests)

name_bytes-plain : (bytes : List ℕ) → list_all is_name_byte bytes ≡ true → list_all is_plain bytes ≡ true
name_bytes-plain [] e = refl
name_bytes-plain (b ∷ bytes) e =
    let p = and_parts (is_name_byte b) (list_all is_name_byte bytes) e in
    ap (λ t. t && list_all is_plain bytes) (name_byte-plain b p.0) ∙ name_bytes-plain bytes p.1

name-plain : (name : List ℕ) → IsName name → list_all is_plain name ≡ true
name-plain name named = let each : list_all is_name_byte name ≡ true = search rules in name_bytes-plain name each

pub escaped-name : (name : List ℕ) → IsName name → escaped name ≡ name
escaped-name name named = escaped-plain name (name-plain name named)

name_words : (name : List ℕ) → IsName name → IsWords name
name_words name named = plain name (name-plain name named)

level_words : (level : Level) → IsWords (level_name level)
level_words Observer = plain (codes "Observer") refl
level_words Apprentice = plain (codes "Apprentice") refl
level_words Journeyer = plain (codes "Journeyer") refl
level_words Master = plain (codes "Master") refl
level_words Fellow = plain (codes "Fellow") refl
level_words Warden = plain (codes "Warden") refl
level_words Elder = plain (codes "Elder") refl

space : IsWords (codes " ")
space = plain (codes " ") refl

-- Items.
cert_item : (c : List ℕ × Level) → IsCertName c → AreItems (cert_line c)
unfolding cert_line
cert_item c named =
    Item (c.0 ++ codes " " ++ level_name c.1) (MoreWords (MoreWords (name_words c.0 named) space) (level_words c.1))

seed_item : (name : List ℕ) → IsName name → AreItems (seed_line name)
unfolding seed_line
seed_item name named = Item name (name_words name named)

person_words : (name : List ℕ) → IsName name → IsWords (codes "/person/" ++ name)
person_words name named = MoreWords (plain (codes "/person/") refl) (name_words name named)

roster_item : (name : List ℕ) → IsName name → AreItems (roster_line name)
unfolding roster_line
roster_item name named = Link (codes "/person/" ++ name) name (person_words name named) (name_words name named)

beside : (front a b text : List ℕ) → front ++ a ++ (b ++ text) ≡ front ++ (a ++ b) ++ text
beside front a b text = sym (append_assoc (front ++ a) b text) ∙ ap (λ joined. joined ++ text) (append_assoc front a b)

head_item : (h : ArticleHead) → IsName h.author → AreItems (headline_of h)
unfolding headline_of article_line
head_item h named =
    subst (λ front. AreItems (front ++ codes "\">" ++ h.author ++ codes "</a></li>\n"))
    (beside (codes "<li><a href=\"/article/" ++ decimal h.no ++ codes "\">" ++ escaped h.title) (codes "</a> by <a href=\"") (codes "/person/") h.author)
    (LinkBy (codes "/article/" ++ decimal h.no) (escaped h.title) (codes "/person/" ++ h.author) h.author
    (MoreWords (plain (codes "/article/") refl) (Number h.no)) (Escaped h.title) (person_words h.author named) (name_words h.author named))

first_of : {X : Type 0} (P : X → Type 0) (x : X) (xs : List X) → All P (x ∷ xs) → P x
first_of P x xs all = all 0 x (omega arith)

others_of : {X : Type 0} (P : X → Type 0) (x : X) (xs : List X) → All P (x ∷ xs) → All P xs
others_of P x xs all = λ k d within. all (suc k) d (omega (arith, within))

all_items : {X : Type 0} (P : X → Type 0) (line : X → List ℕ) → ((x : X) → P x → AreItems (line x)) → (xs : List X) → All P xs → AreItems (flat_map line xs)
all_items P line each [] all = NoItem
all_items P line each (x ∷ xs) all = MoreItems (each x (first_of P x xs all)) (all_items P line each xs (others_of P x xs all))

all_lines : {X : Type 0} (P : X → Type 0) (line : X → List ℕ) → ((x : X) → P x → AreLines (line x)) → (xs : List X) → All P xs → AreLines (flat_map line xs)
all_lines P line each [] all = NoLine
all_lines P line each (x ∷ xs) all = MoreLines (each x (first_of P x xs all)) (all_lines P line each xs (others_of P x xs all))

-- Lines.
level_safe : (level : Level) → AreLines (level_line level)
unfolding level_line paragraph
level_safe level = Paragraph (codes "level " ++ level_name level) (MoreWords (plain (codes "level ") refl) (level_words level))

publication_safe : (number revision : ℕ) → AreLines (publication_line number revision)
unfolding publication_line paragraph
publication_safe number revision =
    Paragraph (codes "publication " ++ decimal number ++ codes " revision " ++ decimal revision)
    (MoreWords (MoreWords (MoreWords (plain (codes "publication ") refl) (Number number)) (plain (codes " revision ") refl)) (Number revision))

levels_safe : (levels : ℕ) → AreLines (levels_line levels)
unfolding levels_line paragraph
levels_safe levels = Paragraph (codes "levels " ++ decimal levels) (MoreWords (plain (codes "levels ") refl) (Number levels))

entries_words : (entries : List ℕ) → IsWords (flat_map spaced entries)
unfolding spaced
entries_words [] = plain [] refl
entries_words (n ∷ entries) = MoreWords (MoreWords space (Number n)) (entries_words entries)

caps_safe : (entries : List ℕ) → AreLines (caps_line entries)
unfolding caps_line paragraph
caps_safe entries = Paragraph (codes "caps" ++ flat_map spaced entries) (MoreWords (plain (codes "caps") refl) (entries_words entries))

signed_words : (author : List ℕ) (moment : ℕ) → IsName author → IsWords (signed author moment)
unfolding signed
signed_words author moment named = MoreWords (MoreWords (name_words author named) space) (Date moment)

entry_safe : (post : PostView) → IsPost post → AreLines (entry_of post)
unfolding entry_of entry_lines
entry_safe post is = MoreLines (Heading (date_of post.moment) (Date post.moment)) (Block (cleaned post.text) (cleaned-safe post.text is.text))

written_safe : (post : PostView) → IsPost post → AreLines (written_of post)
unfolding written_of post_lines paragraph
written_safe post is =
    let by : IsWords (codes "by " ++ signed post.author post.moment) = MoreWords (plain (codes "by ") refl) (signed_words post.author post.moment is.author) in
    MoreLines (Paragraph (codes "by " ++ signed post.author post.moment) by) (Block (cleaned post.text) (cleaned-safe post.text is.text))

reply_safe : (post : PostView) → IsPost post → AreLines (reply_of post)
unfolding reply_of reply_lines
reply_safe post is =
    MoreLines (Heading (signed post.author post.moment) (signed_words post.author post.moment is.author)) (Block (cleaned post.text) (cleaned-safe post.text is.text))

-- Pages.
front_safe : (heads : List ArticleHead) → All (λ h. IsName h.author) heads → IsSafePage (front_page (flat_map headline_of heads))
unfolding front_page
front_safe heads all =
    Page (codes "virgule") (list (flat_map headline_of heads)) (plain (codes "virgule") refl)
    (Items (flat_map headline_of heads) (all_items (λ h. IsName h.author) headline_of head_item heads all))

certs_safe : (certs : List (List ℕ × Level)) → All IsCertName certs → AreLines (list (flat_map cert_line certs))
certs_safe certs all = Items (flat_map cert_line certs) (all_items IsCertName cert_line cert_item certs all)

person_safe : (name : List ℕ) (level : Level) (given taken : List (List ℕ × Level)) → IsName name → All IsCertName given → All IsCertName taken →
    IsSafePage (person_page name level given taken)
unfolding person_page
person_safe name level given taken named gives takes =
    Page name (level_line level ++ heading (codes "certifies") ++ list (flat_map cert_line given) ++ heading (codes "certified by") ++ list (flat_map cert_line taken))
    (name_words name named)
    (MoreLines (MoreLines (MoreLines (MoreLines (level_safe level) (Heading (codes "certifies") (plain (codes "certifies") refl))) (certs_safe given gives))
    (Heading (codes "certified by") (plain (codes "certified by") refl))) (certs_safe taken takes))

diary_safe : (name : List ℕ) (posts : List PostView) → IsName name → All IsPost posts → IsSafePage (diary_page name (flat_map entry_of posts))
unfolding diary_page
diary_safe name posts named all =
    Page (codes "Diary of " ++ name) (flat_map entry_of posts) (MoreWords (plain (codes "Diary of ") refl) (name_words name named))
    (all_lines IsPost entry_of entry_safe posts all)

article_safe : (title : List ℕ) (post : PostView) (replies : List PostView) → IsPost post → All IsPost replies →
    IsSafePage (article_page (escaped title) (written_of post) (flat_map reply_of replies))
unfolding article_page
article_safe title post replies is all =
    Page (escaped title) (written_of post ++ flat_map reply_of replies) (Escaped title)
    (MoreLines (written_safe post is) (all_lines IsPost reply_of reply_safe replies all))

project_safe : (name : List ℕ) (post : PostView) → IsName name → IsPost post → IsSafePage (project_page name (written_of post))
unfolding project_page
project_safe name post named is = Page name (written_of post) (name_words name named) (written_safe post is)

names_safe : (line : List ℕ → List ℕ) → ((name : List ℕ) → IsName name → AreItems (line name)) → (names : List (List ℕ)) → All IsName names → AreLines (list (flat_map line names))
names_safe line each names all = Items (flat_map line names) (all_items IsName line each names all)

error_safe : (text : List ℕ) → IsWords text → IsSafePage (error_page text)
unfolding error_page
error_safe text is = Page (codes "Error") (paragraph text) (plain (codes "Error") refl) (Paragraph text is)

pub views_are_safe : ViewsAreSafe
unfolding stewards_page
views_are_safe (Front heads) is = front_safe heads is
views_are_safe (OfPerson p) is = person_safe p.name p.level p.given p.taken is.0 is.1 is.2
views_are_safe (OfDiary name posts) is = diary_safe name posts is.0 is.1
views_are_safe (OfArticle a) is = article_safe a.title a.post a.replies is.0 is.1
views_are_safe (OfProject name post) is = project_safe name post is.0 is.1
views_are_safe (OfStewards table seeds) is =
    Page (codes "stewards") (levels_line table.levels ++ caps_line table.entries ++ list (flat_map seed_line seeds)) (plain (codes "stewards") refl)
    (MoreLines (MoreLines (levels_safe table.levels) (caps_safe table.entries)) (names_safe seed_line seed_item seeds is))
views_are_safe Missing is = error_safe (codes "not found") (plain (codes "not found") refl)

pub rosters_are_safe : RostersAreSafe
unfolding roster_page no_roster
rosters_are_safe grade number revision names all = (
  Page (level_name grade) (publication_line number revision ++ list (flat_map roster_line names)) (level_words grade)
      (MoreLines (publication_safe number revision) (names_safe roster_line roster_item names all)),
  Page (level_name grade) (paragraph (codes "no publication")) (level_words grade) (Paragraph (codes "no publication") (plain (codes "no publication") refl)),
)

account_safe : IsSafePage account_page
unfolding account_page
account_safe =
    Page (codes "account") (form (codes "join") ++ form (codes "login")) (plain (codes "account") refl)
    (MoreLines (Form (codes "join") (plain (codes "join") refl)) (Form (codes "login") (plain (codes "login") refl)))

fault_words : (a b c d e : Bool) →
    IsWords (cond a (codes "bad request") (cond b (codes "no session") (cond c (codes "not found") (cond d (codes "too long") (cond e (codes "head too long") (codes "not implemented"))))))
fault_words true b c d e = plain (codes "bad request") refl
fault_words false true c d e = plain (codes "no session") refl
fault_words false false true d e = plain (codes "not found") refl
fault_words false false false true e = plain (codes "too long") refl
fault_words false false false false true = plain (codes "head too long") refl
fault_words false false false false false = plain (codes "not implemented") refl

fixed_by : (account : Bool) (text : List ℕ) → IsWords text → IsSafePage (cond account account_page (error_page text))
fixed_by true text is = account_safe
fixed_by false text is = error_safe text is

pub fixed_are_safe : FixedAreSafe
fixed_are_safe status =
    fixed_by (status == 200) (fault_text status) (fault_words (status == 400) (status == 403) (status == 404) (status == 413) (status == 431))

numbered : (words : List ℕ) → list_all is_plain words ≡ true → (n : ℕ) → IsWords (words ++ decimal n)
numbered words e n = MoreWords (plain words e) (Number n)

kind_words : (k : PostKind) → IsWords (kind_word k)
kind_words kind.Diary = plain (codes "diary") refl
kind_words kind.Reply = plain (codes "reply") refl
kind_words kind.Project = plain (codes "project") refl
kind_words kind.Article = plain (codes "article") refl

words_of : (r : Reply) → IsWords (reply_words r)
words_of (reply.Joined n) = numbered (codes "joined ") refl n
words_of (reply.Revised n) = numbered (codes "revision ") refl n
words_of (reply.Posted k n) = MoreWords (plain (codes "posted ") refl) (MoreWords (kind_words k) (numbered (codes " ") refl n))
words_of (reply.LoggedIn n) = numbered (codes "logged in ") refl n
words_of reply.LoggedOut = plain (codes "logged out") refl
words_of reply.NoSession = plain (codes "no session") refl
words_of reply.NoSuchAuthor = plain (codes "no such author") refl
words_of reply.BadName = plain (codes "bad name") refl
words_of (reply.NameTaken n) = numbered (codes "name taken ") refl n
words_of reply.AccountsFull = plain (codes "accounts full") refl
words_of reply.NoSuchAccount = plain (codes "no such account") refl
words_of reply.SelfCert = plain (codes "self cert") refl
words_of (reply.NoSuchLevel n) = numbered (codes "no such level ") refl n
words_of reply.Same = plain (codes "same") refl
words_of reply.CertsFull = plain (codes "certificates full") refl
words_of reply.NotSeed = plain (codes "not a seed") refl
words_of reply.LastSeed = plain (codes "last seed") refl
words_of (reply.LevelsFall n) = numbered (codes "levels fall ") refl n
words_of reply.NoSuchArticle = plain (codes "no such article") refl
words_of (reply.LongText n) = numbered (codes "long text ") refl n
words_of reply.WrongPassword = plain (codes "wrong password") refl
words_of reply.TokenTaken = plain (codes "token taken") refl
words_of reply.SessionsFull = plain (codes "sessions full") refl
words_of (reply.Denied held needed) =
    MoreWords (plain (codes "denied ") refl) (MoreWords (level_words held) (MoreWords (plain (codes " needs ") refl) (level_words needed)))
words_of reply.NotSteward = plain (codes "not a steward") refl
words_of reply.Fault = plain (codes "keeper fault") refl

refusal_words_of : (r : Refusal) → IsWords (refusal_words r)
refusal_words_of refusal.HistoryFull = plain (codes "history full") refl
refusal_words_of (refusal.TextFull n) = numbered (codes "text full ") refl n
refusal_words_of refusal.NoMemory = plain (codes "out of memory") refl

pub refusals_are_safe : RefusalsAreSafe
refusals_are_safe = (λ r. error_safe (reply_words r) (words_of r), λ r. error_safe (refusal_words r) (refusal_words_of r))
