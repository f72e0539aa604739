use Rattle.std.proofs.Common.{◌≡◌, ◌≤◌, ◌++◌, drop, take}
use Rattle.cert_log.specs.inner.Order.{standing_list}
use Rattle.cert_log.proofs.sorted.move_to_front.Given as goal

abbrev pub invariant-loop-place : goal.invariant-loop-place
invariant-loop-place l = record {
  count : l.count ≤ l.place;
  left : drop l.place l.certs ≡ drop l.place l.initial.certs;
  front : take l.count l.certs ++ standing_list (drop l.place l.initial.certs) ≡ standing_list l.initial.certs;
}
