-- The answers in which nothing of a site is shown.
use Rattle.std.specs.Prelude.{ℕ, List, [], ◌∷◌, ◌==◌, codes, if◌then◌else◌}
use Rattle.html_pages.specs.Pages.{account_page, error_page}
use Rattle.http_pages.specs.Responses.{Response, html}

-- Why there is no page (RFC 9110, section 15).
abbrev pub fault_text : ℕ → List ℕ
fault_text status =
    if status == 400 then codes "bad request" else
    if status == 403 then codes "no session" else
    if status == 404 then codes "not found" else
    if status == 413 then codes "too long" else
    if status == 431 then codes "head too long" else codes "not implemented"

-- The statuses that are answered so.
abbrev pub fixed_statuses : List ℕ
fixed_statuses = 200 ∷ 400 ∷ 403 ∷ 404 ∷ 413 ∷ 431 ∷ 501 ∷ []

-- The forms, or an error.
abbrev pub fixed_response : ℕ → Response
fixed_response status = html status (if status == 200 then account_page else error_page (fault_text status))
