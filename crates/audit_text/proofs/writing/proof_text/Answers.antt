use Rattle.std.proofs.Common.{◌<◌, ◌^◌, ◌∙◌, List, All, arith, refl, subst}
use Rattle.trust_types.specs.declared.flows.FlowLine.{FlowLine}
use Rattle.trust_types.specs.NameLists.{AreApart}
use Rattle.trust_types.specs.Names.{IsName}
use Rattle.trust_types.specs.Tables.{IsTable}
use Rattle.roster_form.specs.LevelRosters.{lists_of}
use Rattle.audit_text.proofs.Texted.{AreTold, Parts, parts_of, canonical, readable}
use Rattle.audit_text.proofs.writing.proof_text.Goals as goal

told : (c : goal.In_ok-put_nodes-2) → AreTold c.args.frozen.now c.args.roster.now.level (lists_of c.args.roster.now)
told c = record {
  readers = c.accounts.ensures.readers;
  outside = λ a b past. c.accounts.ensures.outside a b (omega (arith, c.accounts.ensures.value));
  no_seeds = λ a past. c.accounts.ensures.no_seeds a (omega (arith, c.accounts.ensures.value));
  accounts = omega (arith, c.accounts.ensures.value, c.accounts.ensures.few);
  certs = omega (arith, c.certs.ensures.sum, c.certs.ensures.few);
  known = c.accounts.ensures.named ∙ c.accounts.ensures.value;
  named = c.in_ok-put_accounts.ensures.named;
  apart = c.put_accounts.ensures.apart;
  table = subst IsTable c.caps-caps.ensures c.entries.ensures.table;
  grade = c.args.roster.now.grade;
  among = c.requires.among;
  order = c.args.roster.now.in_order;
  small = subst (λ (flow : List FlowLine). All (λ (edge : FlowLine). edge.units < 2 ^ 32) flow) c.deref.ensures.value c.in_ok-put_flow.ensures.small;
  root = c.args.roster.now.root;
}

parts : (c : goal.In_ok-put_nodes-2) → Parts c.args.frozen.now c.args.roster.now.level (lists_of c.args.roster.now) c.put_nodes-2.new.text.items
parts c =
    parts_of c.args.frozen.now c.args.roster.now.level (lists_of c.args.roster.now) c.caps-caps.result.now c.entries.result.now c.args.frozen.now.names c.deref.result.now c.deref-2.result.now
    c.deref-3.result.now c.in_ok-text.text.items c.put_caps.new.text.items c.put_levels.new.text.items c.put_accounts.new.text.items c.put_seeds.new.text.items c.put_certs.new.text.items
    c.put_level.new.text.items c.put_flow.new.text.items c.put_nodes.new.text.items c.put_nodes-2.new.text.items
    c.caps-caps.ensures c.entries.ensures.all refl c.deref.ensures.value c.deref-2.ensures.value c.deref-3.ensures.value c.in_ok-text.ensures.items
    c.in_ok-put_caps.ensures c.in_ok-put_levels.ensures c.in_ok-put_accounts.ensures.written c.in_ok-put_seeds.ensures c.in_ok-put_certs.ensures c.in_ok-put_level.ensures
    c.in_ok-put_flow.ensures.written c.in_ok-put_nodes.ensures c.in_ok-put_nodes-2.ensures

pub returns-clause-canonical : goal.returns-clause-canonical
returns-clause-canonical c = canonical c.args.frozen.now c.args.roster.now.level (lists_of c.args.roster.now) c.put_nodes-2.new.text.items (told c) (parts c)

pub returns-clause-readable : goal.returns-clause-readable
returns-clause-readable c = λ keeps has. readable c.args.frozen.now c.args.roster.now.level (lists_of c.args.roster.now) c.put_nodes-2.new.text.items (told c) (parts c) keeps has
