-- How long a peer may take, in milliseconds. A peer that takes longer has failed.
use Rattle.std.specs.Prelude.{ℕ, ◌-◌, Bool, true, false, min}
use Rattle.outside_real.specs.declared.pace.Stage.{Stage}
use Rattle.outside_real.specs.declared.pace.Stage.TheVariants.{Idle, Asking, Taking}

-- How long a read may wait that begins now: 5 seconds for the first byte of a request. Within a request 10 seconds, and no longer than 30 seconds
-- after its first bytes came.
abbrev pub read_wait : Stage → ℕ → ℕ
read_wait Idle now = 5000
read_wait (Asking since) now = min 10000 (30000 - (now - since))
read_wait (Taking since) now = 5000

-- How long a write may wait that begins now: no longer than 30 seconds after the first write of the same piece began.
abbrev pub write_wait : Stage → ℕ → ℕ
write_wait Idle now = 30000
write_wait (Asking since) now = 30000
write_wait (Taking since) now = 30000 - (now - since)

-- What a link waits for after a read that gave bytes, which had come by a moment.
abbrev pub with_read : Stage → ℕ → Stage
with_read Idle came = Asking came
with_read (Asking since) came = Asking since
with_read (Taking since) came = Asking came

-- What a link waits for after a write that began at a moment, and took the whole piece or a part of it.
abbrev pub with_write : Stage → Bool → ℕ → Stage
with_write stage true began = Idle
with_write Idle false began = Taking began
with_write (Asking since) false began = Taking began
with_write (Taking since) false began = Taking since
