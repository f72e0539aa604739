use Rattle.std.proofs.Common.{◌≡◌, ◌<◌, ℕ, ◌++◌, take}
use Rattle.trust_types.specs.Names.{IsName}
use Rattle.trust_types.specs.NodeWords.{name_of}
use Rattle.audit_text.specs.Canonical.{account_words}
use Rattle.audit_text.specs.inner.Writing.{lines_for}
use Rattle.audit_text.proofs.writing.put_accounts.Given as goal

abbrev pub invariant-loop-account : goal.invariant-loop-account
invariant-loop-account l = record {
  written : l.text.items ≡ l.initial.text.items ++ lines_for account_words (take l.account l.frozen.names);
  named : (k : ℕ) → k < l.account → IsName (name_of l.frozen.names k);
}
