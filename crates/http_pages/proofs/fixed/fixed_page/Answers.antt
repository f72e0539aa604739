use Rattle.http_pages.proofs.fixed.fixed_page.Goals as goal

pub returns : goal.returns
returns c = rw c.fixed_body.ensures at c.respond_html.ensures
