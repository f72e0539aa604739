-- The response that a head and a body are.
use Rattle.std.specs.Prelude.{option_map}
use Rattle.html_pages.specs.declared.bodies.Body.{Body}
use Rattle.html_pages.specs.Bodies.{body_of}
use Rattle.http_pages.specs.declared.responses.Head.{Head}
use Rattle.http_pages.specs.Responses.{Response}
use Rattle.http_pages.specs.inner.Leads.{path, cookie_text}

abbrev pub response_of : Head → Body → Response
response_of told shown = record {
  status = told.status;
  kind = told.kind;
  location = option_map path told.location;
  cookie = option_map cookie_text told.cookie;
  body = body_of shown;
}
