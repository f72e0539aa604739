-- What the calls on a site answer, and which entry each adds.
use Rattle.std.specs.Prelude.{ℕ, Bool, true, false, ◌≡◌, ◌≢◌, ◌<◌, ◌≤◌, ◌+◌, Some, length}
use Rattle.trust_types.specs.Kept.{revision}
use Rattle.site_history.specs.declared.acts.Act.{Act}
use Rattle.site_history.specs.declared.faults.FreezeFault.{FreezeFault}
use Rattle.site_history.specs.declared.faults.FreezeFault.TheVariants as freeze
use Rattle.site_history.specs.declared.faults.PublishFault.{PublishFault}
use Rattle.site_history.specs.declared.faults.PublishFault.TheVariants as publish
use Rattle.site_history.specs.declared.replies.Reply.{Reply}
use Rattle.site_history.specs.declared.replies.Reply.TheVariants.{Joined, Revised, Posted, LoggedIn, LoggedOut, Fault}
use Rattle.site_history.specs.declared.replies.Refusal.{Refusal}
use Rattle.site_history.specs.declared.replies.Refusal.TheVariants.{HistoryFull, TextFull, NoMemory}
use Rattle.site_history.specs.Histories.{Entry, Done, KeeperFault, History, places, records, publications, last_revision, is_kept}
use Rattle.site_history.specs.Texts.{texts, texts_in}
use Rattle.site_history.specs.Replies.{judge}
use Rattle.site_history.specs.Legal.{MOST_PLACES, MOST_TEXTS, MOST_PUBLICATIONS, IsNewer}

-- A reply that takes memory: its act adds a record or a session.
abbrev pub takes_memory : Reply → Bool
takes_memory (LoggedIn account) = true
takes_memory reply = is_kept reply

-- Why an act gets no reply: the first of these that applies. Out of memory may come where neither of the other two applies, and the reply would
-- take memory: an act that is refused is told so with none left.
abbrev pub Refuses : History → Act → Refusal → Type 0
Refuses h act HistoryFull = places h ≡ MOST_PLACES
Refuses h act (TextFull t) = (places h < MOST_PLACES) × (t ≡ texts h) × (MOST_TEXTS < texts h + texts_in act)
Refuses h act NoMemory = (places h < MOST_PLACES) × (texts h + texts_in act ≤ MOST_TEXTS) × (takes_memory (judge h act) ≡ true)

-- The reply is the one that the history gives, or a fault of the keeper in place of one that adds a record.
abbrev pub IsReply : History → Act → Reply → Type 0
IsReply h act Fault = is_kept (judge h act) ≡ true
IsReply h act reply = reply ≡ judge h act

-- The entry of an act that got a reply. Of a fault the act isn't kept.
abbrev pub entry_of : ℕ → Act → Reply → ℕ → Entry
entry_of caller act Fault moment = KeeperFault caller
entry_of caller act reply moment = Done caller act reply moment

-- A reply that changes nothing but the history.
abbrev pub is_refusal : Reply → Bool
is_refusal (Joined account) = false
is_refusal (Revised revision) = false
is_refusal (Posted kind number) = false
is_refusal (LoggedIn account) = false
is_refusal LoggedOut = false
is_refusal Fault = false
is_refusal _ = true

-- Why there is no frozen graph: the first of these that applies.
abbrev pub FreezeRefuses : History → FreezeFault → Type 0
FreezeRefuses h (freeze.Same r) = (last_revision h ≡ Some r) × (revision (records h) ≡ r)
FreezeRefuses h freeze.HistoryFull = (last_revision h ≢ Some (revision (records h))) × (places h ≡ MOST_PLACES)
FreezeRefuses h freeze.NoMemory = (last_revision h ≢ Some (revision (records h))) × (places h < MOST_PLACES)

-- Why a candidate of a revision isn't published: the first of these that applies.
abbrev pub PublishRefuses : History → ℕ → PublishFault → Type 0
PublishRefuses h r (publish.Stale last) = (last_revision h ≡ Some last) × (r ≤ last)
PublishRefuses h r publish.PublicationsFull = IsNewer (last_revision h) r × (length (publications h) ≡ MOST_PUBLICATIONS)
PublishRefuses h r publish.HistoryFull = IsNewer (last_revision h) r × (length (publications h) < MOST_PUBLICATIONS) × (places h ≡ MOST_PLACES)
PublishRefuses h r publish.NoMemory = IsNewer (last_revision h) r × (length (publications h) < MOST_PUBLICATIONS) × (places h < MOST_PLACES)
