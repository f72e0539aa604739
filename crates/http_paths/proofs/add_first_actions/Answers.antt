use Rattle.std.proofs.Common.{refl}
use Rattle.http_paths.proofs.add_first_actions.Goals as goal

pub returns : goal.returns
returns c = rw (c.in_ok-add_action-5.ensures, c.in_ok-add_action-4.ensures, c.in_ok-add_action-3.ensures, c.in_ok-add_action-2.ensures, c.in_ok-add_action.ensures) refl
