use Rattle.site_state.proofs.Stating.{state_few}
use Rattle.site_state.proofs.state.State.weigh_command.Goals as goal

pub weigh-requires-clause-few : goal.weigh-requires-clause-few
weigh-requires-clause-few c =
    let s = c.self.inside in state_few s.past.value s.parts s.places s.texts s.published s.last c.self.invariant.state
