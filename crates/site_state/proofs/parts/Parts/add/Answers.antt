use Rattle.std.proofs.Common.{◌≡◌, ◌++◌, ◌∷◌, [], List, length, true, false, sym, ap, ◌∙◌}
use Rattle.trust_types.specs.declared.records.Record.{Record}
use Rattle.site_history.specs.Histories.{changes_graph}
use Rattle.site_history.specs.Sites.{Site}
use Rattle.site_state.proofs.Adding.{site_changed, site_posted, graph_more, graph_same, no_post, a_post}
use Rattle.site_state.proofs.Posting.{still_posted, posted_too, author_there}
use Rattle.site_state.proofs.parts.Parts.add.Goals as goal

pub returns-then-changes_graph : goal.returns-then-changes_graph
returns-then-changes_graph g c opening k live is =
    let x = c.args.entry in
    let old = c.args.self.now in
    let graph : changes_graph x ≡ true = sym c.changes_graph.ensures ∙ c.if-changes_graph.true in
    let more : c.push_reserved.new.self.items ≡ old.graph.items ++ x ∷ [] =
    c.push_reserved.ensures.items ∙ ap (λ (l : List Record). l ++ x ∷ []) (ap (λ v. v.items) c.change.ensures.graph) in
    let site = site_changed opening k live x _ _ _ _ _ _ is.site graph c.change.ensures.certs c.change.ensures.secrets in
    record {
      site = rw (c.change.ensures.posts, c.change.ensures.sessions) site;
      graph = more ∙ (ap (λ (l : List Record). l ++ x ∷ []) is.graph ∙ sym (graph_more k x graph));
      authors = still_posted k x (no_post x graph) is.authors;
    }

pub returns-else-changes_graph : goal.returns-else-changes_graph
returns-else-changes_graph g c opening k live is =
    let x = c.args.entry in
    let graph : changes_graph x ≡ false = sym c.changes_graph.ensures ∙ c.if-changes_graph.false in
    record {
      site = site_posted opening k live x _ _ _ _ _ is.site graph c.add.ensures.posts;
      graph = is.graph ∙ sym (graph_same k x graph);
      authors = posted_too k x (a_post x graph).post (author_there k x _ (ap (λ (s : Site). length s.certs.names) is.site) (a_post x graph).post c.requires.can.author) is.authors;
    }
