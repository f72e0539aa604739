-- The rules of a book are those of kept records.
use Rattle.std.specs.Prelude.{◌↔◌, List, IfSome}
use Rattle.trust_types.specs.declared.records.Record.{Record}
use Rattle.trust_types.specs.Tables.{Table}
use Rattle.trust_types.specs.Kept.{change_of, changes, Continues, Fits}
use Rattle.cert_book.specs.Books.{book_of, Follows, HasPlace}

-- A change may follow in the book of some records exactly where a record that makes it continues them,
abbrev pub FollowsWhereContinues : Type 0
FollowsWhereContinues = (opening : Table) (k : List Record) (x : Record) →
    IfSome (change_of x) (λ change. Follows (book_of opening (changes k)) change ↔ Continues opening k x)

-- and it has a place there exactly where the record fits them.
abbrev pub HasPlaceWhereFits : Type 0
HasPlaceWhereFits = (opening : Table) (k : List Record) (x : Record) →
    IfSome (change_of x) (λ change. HasPlace (book_of opening (changes k)) change ↔ Fits k x)
