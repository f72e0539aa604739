use Rattle.std.proofs.Common.{rules, ap₂, ◌≡◌, ◌∙◌}
use Rattle.clap.specs.Words.{app_of, with_rule}
use Rattle.serve_words.specs.Options.{bare_app, serve_app}
use Rattle.serve_words.proofs.command.serve_command.Goals as goal

-- one option more, behind those so far
pub returns : goal.returns
unfolding serve_app
returns c =
    let start : app_of c.no_binary_name.result ≡ bare_app = search rules in
    c.in_ok-command.ensures.shape c.accept_arg-accept.ensures.local ∙ ap₂ with_rule
    (c.in_ok-arg-5.ensures.shape c.workers_arg-workers.ensures.local ∙ ap₂ with_rule
    (c.in_ok-arg-4.ensures.shape c.links_arg-links.ensures.local ∙ ap₂ with_rule
    (c.in_ok-arg-3.ensures.shape c.caps_arg-caps.ensures.local ∙ ap₂ with_rule
    (c.in_ok-arg-2.ensures.shape c.db_arg-db.ensures.local ∙ ap₂ with_rule
    (c.in_ok-arg.ensures.shape c.listen_arg-listen.ensures.local ∙ ap₂ with_rule start c.listen_arg-listen.ensures.rule)
    c.db_arg-db.ensures.rule) c.caps_arg-caps.ensures.rule) c.links_arg-links.ensures.rule) c.workers_arg-workers.ensures.rule) c.accept_arg-accept.ensures.rule
