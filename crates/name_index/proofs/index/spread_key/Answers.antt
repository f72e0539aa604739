use Rattle.std.proofs.Common.{◌≡◌, ◌∙◌, ◌*◌, ◌%◌, ◌^◌, ℕ, sym, ap}
use Rattle.name_index.specs.inner.Indexes.{spread_key}
use Rattle.name_index.specs.declared.index.TheConstants.{SPREAD}
use Rattle.name_index.proofs.SpreadKeys.{same_from_spread_keys}
use Rattle.name_index.proofs.index.spread_key.Goals as goal

pub returns-clause-value : goal.returns-clause-value
returns-clause-value c = unfold spread_key in ap (λ (key : ℕ). key * SPREAD % 2 ^ 128) c.key.ensures.value

pub returns-clause-apart : goal.returns-clause-apart
returns-clause-apart c =
    let whole : c.key.result * SPREAD % 2 ^ 128 ≡ spread_key c.args.name.now = returns-clause-value c in
    λ other is_one. (λ same. same_from_spread_keys other _ is_one c.key.ensures.name (same ∙ whole), λ same. ap spread_key same ∙ sym whole)
