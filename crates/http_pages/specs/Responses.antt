-- A response, head and body (RFC 9112, section 2.1).
use Rattle.std.specs.Prelude.{ℕ, Bool, List, [], ◌++◌, Option, Some, None, codes, decimal, length, unwrap_or, if◌then◌else◌}
use Rattle.http.specs.StatusCode.{reason_phrase}
use Rattle.html_pages.specs.Dates.{date_of}
use Rattle.html_pages.specs.Pages.{error_page}
use Rattle.http_pages.specs.declared.responses.Kind.{Kind}
use Rattle.http_pages.specs.declared.responses.Kind.TheVariants.{Html, Plain}

-- What a request is answered with: a status, the type of the body, the path of the page to look at next, a cookie to keep, and the body.
pub record Response : Type 0 where
  pub status : ℕ
  pub kind : Kind
  pub location : Option (List ℕ)
  pub cookie : Option (List ℕ)
  pub body : List ℕ

-- A body of HTML under a status.
abbrev pub html : ℕ → List ℕ → Response
html status body = record { status = status; kind = Html; location = None; cookie = None; body = body }

-- A page that is there, and the page that says why there is none.
abbrev pub found : List ℕ → Response
found body = html 200 body

abbrev pub failed : ℕ → List ℕ → Response
failed status text = html status (error_page text)

unfoldable pub status_line : ℕ → List ℕ
status_line status = codes "HTTP/1.1 " ++ decimal status ++ codes " " ++ unwrap_or (reason_phrase status) [] ++ codes "\r\n"

unfoldable pub date_line : ℕ → List ℕ
date_line moment = codes "Date: " ++ date_of moment ++ codes "\r\n"

unfoldable pub kind_word : Kind → List ℕ
kind_word Html = codes "text/html"
kind_word Plain = codes "text/plain"

unfoldable pub type_line : Kind → List ℕ
type_line kind = codes "Content-Type: " ++ kind_word kind ++ codes "; charset=utf-8\r\n"

unfoldable pub length_line : ℕ → List ℕ
length_line n = codes "Content-Length: " ++ decimal n ++ codes "\r\n"

-- RFC 9110, section 10.2.2.
unfoldable pub location_line : Option (List ℕ) → List ℕ
location_line None = []
location_line (Some path) = codes "Location: " ++ path ++ codes "\r\n"

-- RFC 6265, section 4.1.
unfoldable pub cookie_line : Option (List ℕ) → List ℕ
cookie_line None = []
cookie_line (Some cookie) = codes "Set-Cookie: " ++ cookie ++ codes "\r\n"

abbrev pub connection_word : Bool → List ℕ
connection_word close = if close then codes "close" else codes "keep-alive"

unfoldable pub connection_line : Bool → List ℕ
connection_line close = codes "Connection: " ++ connection_word close ++ codes "\r\n"

-- The head, by the length of the body, and the empty line behind it.
unfoldable pub head : ℕ → Kind → ℕ → Option (List ℕ) → Option (List ℕ) → Bool → ℕ → List ℕ
head status kind n location cookie close moment =
    status_line status ++ date_line moment ++ type_line kind ++ length_line n ++ location_line location ++ cookie_line cookie ++ connection_line close
    ++ codes "\r\n"

-- What is sent of a body: nothing where the request was for the head alone.
abbrev pub sent : Bool → List ℕ → List ℕ
sent bare body = if bare then [] else body

-- The bytes that are sent at a moment. The length is the body's, sent or not.
unfoldable pub bytes_of : Response → Bool → Bool → ℕ → List ℕ
bytes_of response close bare moment =
    head response.status response.kind (length response.body) response.location response.cookie close moment ++ sent bare response.body
