use Rattle.std.proofs.Common.{◌≡◌, arith}
use Rattle.std.specs.Prelude.{slice_index}
use Rattle.distances.proofs.Reaching.{room_for}
use Rattle.distances.proofs.layers.reach.Goals as goal

pub push_reserved-requires : goal.push_reserved-requires
push_reserved-requires c =
    let unseen : slice_index c.args.out.now c.args.account ≡ 0 = cc in
    omega (arith, room_for c.args.account c.args.capacity c.requires.room c.requires.within unseen c.requires.some, c.args.queue.now.ok.0)
