use Rattle.std.proofs.Common.{Ok, Err, arith}
use Rattle.name_index.proofs.Buckets.{FindsKey, search_is, has_entry, lacks_key}
use Rattle.name_index.proofs.key_table.KeyTable.find.Goals as goal

pub returns-in-Ok : goal.returns-in-Ok
returns-in-Ok c =
    let found : FindsKey c.self.inside.keys.items c.args.key c.index.result.now (Ok c.in-Ok.place) =
    search_is _ _ _ _ c.len.result _ _ _ (Ok c.in-Ok.place) c.self.invariant (omega (arith, c.len.ensures)) c.bucket_of-bucket.ensures.is c.bucket_of-bucket.ensures.below c.index.ensures c.index-2.ensures (rw c.deref.ensures.value at c.in-Ok.ensures.position) in
    rw (← c.self.view_is) (has_entry _ _ _ _ _ c.self.invariant.numbered found.0 found.1 c.index-in-Ok.ensures)

pub returns-in-Err : goal.returns-in-Err
returns-in-Err c =
    let none : FindsKey c.self.inside.keys.items c.args.key c.index.result.now (Err c.in-Err.field-0) =
    search_is _ _ _ _ c.len.result _ _ _ (Err c.in-Err.field-0) c.self.invariant (omega (arith, c.len.ensures)) c.bucket_of-bucket.ensures.is c.bucket_of-bucket.ensures.below c.index.ensures c.index-2.ensures (rw c.deref.ensures.value at c.in-Err.ensures.position) in
    rw (← c.self.view_is) (lacks_key _ _ _ c.self.invariant.numbered none)
