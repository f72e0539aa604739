-- For the ghost of a history alone: how it is made of what was done to it.
use Rattle.std.specs.Prelude.{[]}
use Rattle.site_history.specs.declared.pasts.Step.{Step}
use Rattle.site_history.specs.declared.pasts.Step.TheVariants.{Begin, Open, Do, Freeze, Publish, Fail}
use Rattle.site_history.specs.Histories as entries
use Rattle.site_history.specs.Histories.{History, just_opened, with_opened, with_entry, published_of}

abbrev pub history_of : Step → History
history_of (Begin opening) = just_opened opening []
history_of (Open before x) = with_opened before.value.value x.value
history_of (Do before caller act reply moment) = with_entry before.value.value (entries.Done caller act.value reply moment)
history_of (Freeze before caller revision) = with_entry before.value.value (entries.Freeze caller revision)
history_of (Publish before caller number candidate) = with_entry before.value.value (entries.Publish caller (published_of number candidate.value))
history_of (Fail before caller) = with_entry before.value.value (entries.KeeperFault caller)
