-- What a link tells, and what its calls do to that.
use Rattle.std.specs.Prelude.{◌≡◌, ◌<◌, ℕ, List, take}
use Rattle.std.specs.Io.KnownBytes.{prepend_known, append_known, IsAtEnd}
use Rattle.outside.specs.Bytes.{Told}
use Rattle.outside.specs.Causes.{one_more}

-- the bytes left to read and those written, where they are told; how many calls failed, and how many reads met the end
pub record Line : Type 0 where
  pub left : Told
  pub written : Told
  pub faults : ℕ
  pub ends : ℕ

-- A read that gave the first n bytes of `into` took them from the front of those left. It gives none only at the end, which it then counts.
pub record Took (before now : Line) (n : ℕ) (into : List ℕ) : Type 0 where
  pub bytes : before.left ≡ prepend_known (take n into) now.left
  pub written : now.written ≡ before.written
  pub faults : now.faults ≡ before.faults
  pub ended : n ≡ 0 → IsAtEnd now.left × (now.ends ≡ one_more before.ends)
  pub ends : 0 < n → now.ends ≡ before.ends

-- A write that took these bytes appended them.
pub record Put (before now : Line) (bytes : List ℕ) : Type 0 where
  pub left : now.left ≡ before.left
  pub written : now.written ≡ append_known before.written bytes
  pub faults : now.faults ≡ before.faults
  pub ends : now.ends ≡ before.ends

-- A call that failed counted a fault, and changed nothing else.
pub record Broke (before now : Line) : Type 0 where
  pub left : now.left ≡ before.left
  pub written : now.written ≡ before.written
  pub faults : now.faults ≡ one_more before.faults
  pub ends : now.ends ≡ before.ends
