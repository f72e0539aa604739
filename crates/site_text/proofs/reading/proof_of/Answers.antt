use Rattle.std.proofs.Common.{◌≡◌, length, refl, All, ap, sym, subst, ◌∙◌, rules}
use Rattle.trust_types.specs.NameLists.{AreApart}
use Rattle.std.specs.Vec.{vec_len}
use Rattle.trust_types.specs.Kept.{accounts}
use Rattle.trust_types.specs.Certs.{IsMadeOf}
use Rattle.trust_types.specs.Layout.{row_certificates, accounts as accounts_in}
use Rattle.trust_types.specs.Lines.{IsLineAmong, IsNodeAmong}
use Rattle.site_lines.proofs.Graphs.{parts_graph}
use Rattle.site_text.proofs.reading.proof_of.Goals as goal

pub returns : goal.returns
returns c = λ k claim parts claimed.
    let named = parts.named in
    let long : vec_len c.args.site.names ≡ length (accounts k) = search rules ∙ ap length named in
    let made : IsMadeOf (row_certificates c.in_ok-graph.graph) (length (accounts k)) c.args.site.seeds.items c.args.site.certs.items =
    subst (λ n. IsMadeOf (row_certificates c.in_ok-graph.graph) n c.args.site.seeds.items c.args.site.certs.items) (c.len.ensures ∙ long) c.in_ok-graph.ensures.made in
    record {
      same = λ i. record { table = c.args.caps; names = named i; graph = parts_graph k c.args.site (row_certificates c.in_ok-graph.graph) parts made i };
      level = refl;
      flow = λ i x b. claimed.units x b i;
      pass = claimed.pass;
      full = claimed.full;
    }

pub invariant_of-result : goal.invariant_of-result
invariant_of-result c =
    let parts = c.requires.parts in
    let long : vec_len c.args.site.names ≡ length (accounts parts.0) = search rules ∙ ap length parts.2.named in
    let size : accounts_in c.in_ok-graph.graph ≡ length (accounts parts.0) = c.in_ok-graph.ensures.made.size ∙ c.len.ensures ∙ long in
    record {
      named = long ∙ sym size;
      names_differ = parts.2.apart;
      grade = c.requires.grade;
      lines = subst (λ n. All (IsLineAmong n) c.args.claim.flow.items) (sym size) parts.4.lines;
      lines_rise = parts.3.rises;
      pass_among = subst (λ n. All (IsNodeAmong n) c.args.claim.pass.items) (sym size) parts.4.pass;
      full_among = subst (λ n. All (IsNodeAmong n) c.args.claim.full.items) (sym size) parts.4.full;
      nodes_differ = parts.4.nodes_differ;
      root = parts.3.root parts.5;
    }
