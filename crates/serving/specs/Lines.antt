-- What a server writes.
use Rattle.std.specs.Prelude.{ℕ, List, codes}

-- the line that it writes before it accepts
abbrev pub listening : List ℕ
listening = codes "listening\n"

-- the line behind it, where the port had a fault
abbrev pub port_fault : List ℕ
port_fault = codes "port fault\n"
