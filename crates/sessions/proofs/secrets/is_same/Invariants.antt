use Rattle.std.proofs.Common.{◌≡◌, ◌&&◌, length}
use Rattle.std.specs.Str.{bytes_eq}
use Rattle.sessions.proofs.secrets.is_same.Given as goal

-- What is left is as long in both, and the digests are the same where they were so far and what is left is.
abbrev pub invariant-loop-a : goal.invariant-loop-a
invariant-loop-a l =
    (length l.a-iterator.a.rest.now ≡ length l.a-iterator.b.rest.now)
    × (bytes_eq l.kept l.proof ≡ (l.same && bytes_eq l.a-iterator.a.rest.now l.a-iterator.b.rest.now))
