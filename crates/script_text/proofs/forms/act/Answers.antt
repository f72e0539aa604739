use Rattle.script_text.proofs.Acting.{same_act}
use Rattle.script_text.proofs.forms.act.Goals as goal

pub returns : goal.returns
returns c = λ fits. same_act c.args.author c.args.command _ fits
