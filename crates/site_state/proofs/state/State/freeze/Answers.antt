use Rattle.std.proofs.Common.{◌≡◌, ◌+◌, sym, ap, ◌∙◌, subst}
use Rattle.trust_types.specs.Kept.{revision}
use Rattle.cert_book.specs.Books.{book}
use Rattle.site_history.specs.Histories.{History, records}
use Rattle.site_history.specs.Sites.{Site, site_of}
use Rattle.site_state.specs.declared.parts.Parts.{Parts}
use Rattle.site_state.specs.inner.Parts.{site_in}
use Rattle.site_state.specs.inner.States.{IsState}
use Rattle.site_state.proofs.Stating.{state_frozen}
use Rattle.site_state.proofs.state.State.freeze.Goals as goal

pub invariant_of-self-2 : goal.invariant_of-self-2
invariant_of-self-2 g c =
    let s = c.self.inside in
    let h = s.past.value in
    let needs = rw (← c.self.view_is) at c.requires in
    let are = c.self.invariant.state.parts_are in
    let at : c.revision-revision.result ≡ revision (records h) =
    c.revision-revision.ensures ∙ (ap (λ b. (book b).revision) c.freeze.ensures.same ∙ ap (λ (s : Site). s.certs.revision) are.site) in
    let parts : Parts = record { certs = c.freeze.new.self; posts = s.parts.posts; secrets = s.parts.secrets; graph = s.parts.graph; sessions = s.parts.sessions } in
    let site : site_in parts ≡ site_of h = rw c.freeze.ensures.same are.site in
    record {
      state = subst (λ (h : History). IsState h parts (s.places + 1) s.texts s.published s.last) (sym c.frozen.ensures)
          (state_frozen h s.parts parts s.places s.texts s.published c.args.caller c.revision-revision.result s.last c.self.invariant.state at needs.newer needs.places
          (record { site = site; graph = are.graph; authors = are.authors }));
      opening = c.self.invariant.opening ∙ sym (ap (λ (h : History). h.opening) c.frozen.ensures);
      room = tt;
    }
