-- What may go to another thread.
use denote.RattleType.{RattleType}
use denote.Param.Send.{IsSend, IsSync, sendable}
use denote.Struct.Declared.{shape}
use denote.Struct.Struct.{Struct}
use Rattle.std.proofs.Crossing.{crosses}
use Rattle.std.proofs.MapsCrossing as maps
use Rattle.std.proofs.MapsCrossingOver as over
use Rattle.std.specs.contracts.option.Option.{the_row as OptionOf}
use Rattle.trust_types.specs.contracts.records.Record as Record
use Rattle.outside.specs.declared.keeper.Keeper.{Ghosts}
use Rattle.cert_book.specs.contracts.book.CertBook as CertBook
use Rattle.postings.specs.contracts.postings.Postings as Postings
use Rattle.sessions.specs.contracts.live.Sessions as Sessions
use Rattle.roster_form.specs.contracts.publications.Publication as Publication
use Rattle.site_state.specs.contracts.state.State as State
use Rattle.site_core.specs.contracts.book.Book as Book
use Rattle.turn_book.specs.contracts.rule.Knowledge as Knowledge
use Rattle.turn_book.specs.contracts.seat.Seat as Seat
use Rattle.turn_book.specs.contracts.site.Site as Site
use Rattle.atomic_table.specs.contracts.shared.Seat as Token
use Rattle.atomic_table.proofs.shared.Seat.TheSendSync as token
use Rattle.atomic_table.proofs.shared.Shared.TheSendSync as shared
use Rattle.atomic_table.proofs.send_lease.SendLease.TheSendSync as lease

certs_send : IsSend CertBook.the_row
certs_send = search (sendable, crosses, maps.crosses) depth 60 fits 20000

posts_send : IsSend Postings.the_row
posts_send = search (sendable, crosses, maps.crosses) depth 60 fits 20000

sessions_send : IsSend Sessions.the_row
sessions_send = search (sendable, crosses, maps.crosses, over.crosses) depth 60 fits 20000

record_sends : IsSend Record.the_row
record_sends = search (sendable, crosses, maps.crosses) depth 60 fits 20000

publication_sends : IsSend Publication.the_row
publication_sends = search (sendable, crosses, maps.crosses) depth 60 fits 20000

publication_syncs : IsSync Publication.the_row
publication_syncs = search (sendable, crosses, maps.crosses) depth 60 fits 20000

state_sends : IsSend State.the_row
state_sends =
    let certs = certs_send in
    let posts = posts_send in
    let sessions = sessions_send in
    let record' = record_sends in
    let sends = publication_sends in
    let syncs = publication_syncs in
    search (sendable, crosses, maps.crosses) depth 60 fits 20000

pub book_sends : (K : RattleType) (keeper : Ghosts K.Denot) → IsSend K → IsSend (Book.the_row K keeper)
book_sends K keeper s = let state = state_sends in search (sendable, crosses) depth 60

slot_sends : (K : RattleType) (keeper : Ghosts K.Denot) → IsSend K → IsSend (OptionOf (Book.the_row K keeper))
slot_sends K keeper s = let book = book_sends K keeper s in search sendable depth 12

token_sends : (K : RattleType) (keeper : Ghosts K.Denot) → IsSend K → IsSend (Token.the_row (OptionOf (Book.the_row K keeper)) Knowledge.the_row)
token_sends K keeper s = token.the_send (OptionOf (Book.the_row K keeper)) Knowledge.the_row (slot_sends K keeper s)

pub seat_sends : (K : RattleType) (keeper : Ghosts K.Denot) → IsSend K → IsSend (Seat.the_row K keeper)
seat_sends K keeper s = let token = token_sends K keeper s in search sendable depth 30

module _ (K : RattleType) (keeper : Ghosts K.Denot) (s : IsSend K) where
  abbrev S : RattleType
  S = OptionOf (Book.the_row K keeper)

  pub site_sends : IsSend (Site.the_row K keeper)
  site_sends =
      let slot : IsSend S = slot_sends K keeper s in
      search (sendable, crosses, shared.the_send, lease.the_send) depth 40

  -- the same of its fields, as a struct holds them
  pub site_fields_send : IsSend (Struct (shape (Site.the_type K keeper)))
  site_fields_send =
      let slot : IsSend S = slot_sends K keeper s in
      search (sendable, crosses, shared.the_send, lease.the_send) depth 40

  pub site_fields_sync : IsSync (Struct (shape (Site.the_type K keeper)))
  site_fields_sync =
      let slot : IsSend S = slot_sends K keeper s in
      search (sendable, crosses, shared.the_sync, lease.the_sync) depth 40

  pub site_syncs : IsSync (Site.the_row K keeper)
  site_syncs =
      let slot : IsSend S = slot_sends K keeper s in
      search (sendable, crosses, shared.the_sync, lease.the_sync) depth 40
