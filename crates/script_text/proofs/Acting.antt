-- An act is told by its author and its command.
use Rattle.std.proofs.Common.{◌≡◌, ap}
use Rattle.std.specs.Prelude.{Option, IsTrue}
use mathlib.Core.Bool.{Bool-set}
use Rattle.site_history.specs.declared.commands.Author.{Author}
use Rattle.site_history.specs.declared.commands.Command.{Command}
use Rattle.site_history.specs.Acts.{may_have}
use Rattle.script_text.specs.Lines.{act}

-- That the author may give the command is so in one way.
pub same_act : (author : Option Author) (command : Command) (may fits : IsTrue (may_have command author)) → act author command may ≡ act author command fits
same_act author command may fits = ap (act author command) (Bool-set _ _ may fits)
