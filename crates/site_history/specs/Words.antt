-- What a site answers, in words.
use Rattle.std.specs.Prelude.{ℕ, List, ◌++◌, codes, decimal}
use Rattle.posting_policy.specs.declared.PostKind.{PostKind}
use Rattle.posting_policy.specs.declared.PostKind.TheVariants as kind
use Rattle.trust_types.specs.Levels.{level_name}
use Rattle.site_history.specs.declared.replies.Reply.{Reply}
use Rattle.site_history.specs.declared.replies.Reply.TheVariants.{Joined, Revised, Posted, LoggedIn, LoggedOut, NoSession, NoSuchAuthor, BadName, NameTaken, AccountsFull, NoSuchAccount, SelfCert, NoSuchLevel, Same, CertsFull, NotSeed, LastSeed, LevelsFall, NoSuchArticle, LongText, WrongPassword, TokenTaken, SessionsFull, Denied, NotSteward, Fault}
use Rattle.site_history.specs.declared.replies.Refusal.{Refusal}
use Rattle.site_history.specs.declared.replies.Refusal.TheVariants.{HistoryFull, TextFull, NoMemory}

abbrev pub kind_word : PostKind → List ℕ
kind_word kind.Diary = codes "diary"
kind_word kind.Reply = codes "reply"
kind_word kind.Project = codes "project"
kind_word kind.Article = codes "article"

abbrev pub reply_words : Reply → List ℕ
reply_words (Joined n) = codes "joined " ++ decimal n
reply_words (Revised r) = codes "revision " ++ decimal r
reply_words (Posted kind n) = codes "posted " ++ (kind_word kind ++ (codes " " ++ decimal n))
reply_words (LoggedIn n) = codes "logged in " ++ decimal n
reply_words LoggedOut = codes "logged out"
reply_words NoSession = codes "no session"
reply_words NoSuchAuthor = codes "no such author"
reply_words BadName = codes "bad name"
reply_words (NameTaken n) = codes "name taken " ++ decimal n
reply_words AccountsFull = codes "accounts full"
reply_words NoSuchAccount = codes "no such account"
reply_words SelfCert = codes "self cert"
reply_words (NoSuchLevel n) = codes "no such level " ++ decimal n
reply_words Same = codes "same"
reply_words CertsFull = codes "certificates full"
reply_words NotSeed = codes "not a seed"
reply_words LastSeed = codes "last seed"
reply_words (LevelsFall n) = codes "levels fall " ++ decimal n
reply_words NoSuchArticle = codes "no such article"
reply_words (LongText n) = codes "long text " ++ decimal n
reply_words WrongPassword = codes "wrong password"
reply_words TokenTaken = codes "token taken"
reply_words SessionsFull = codes "sessions full"
reply_words (Denied held needed) = codes "denied " ++ (level_name held ++ (codes " needs " ++ level_name needed))
reply_words NotSteward = codes "not a steward"
reply_words Fault = codes "keeper fault"

abbrev pub refusal_words : Refusal → List ℕ
refusal_words HistoryFull = codes "history full"
refusal_words (TextFull n) = codes "text full " ++ decimal n
refusal_words NoMemory = codes "out of memory"
