-- Live sessions: which tokens are logged in, and who under each.
use Rattle.std.specs.Prelude.{ℕ, List, Option, Result, Ok, Err, is_some, nat_lt, length, if◌then◌else◌}
use Rattle.std.specs.Str.{bytes_eq}
use Rattle.std.specs.Map.{lookup, remove_entry}
use Rattle.trust_types.specs.declared.records.Secret.{Secret}
use Rattle.sessions.specs.declared.live.LoginFault.{LoginFault}
use Rattle.sessions.specs.declared.live.LoginFault.TheVariants.{WrongPassword, TokenTaken, SessionsFull}
use Rattle.sessions.specs.Secrets.{is_proof}

-- A token, and the account that logged in under it.
abbrev pub Session : Type 0
Session = List ℕ × ℕ

-- The sessions in the order of their logins, and how many more fit before memory is taken.
pub record Sessions : Type 0 where
  pub live : List Session
  pub room : ℕ

-- The account that is logged in under a token.
abbrev pub who : List Session → List ℕ → Option ℕ
who live token = lookup (bytes_eq token) live

-- The sessions but that of a token.
abbrev pub without : List Session → List ℕ → List Session
without live token = remove_entry (bytes_eq token) live

-- Whether who proves a password may log in under a token: nothing, or the first fault. A site has at most 65,536 live sessions.
abbrev pub judged_login : Secret → List ℕ → List Session → List ℕ → Result (Unit {0}) LoginFault
judged_login kept proof live token =
    if is_proof kept proof
    then (if is_some (who live token) then Err TokenTaken else if nat_lt (length live) 65536 then Ok record {} else Err SessionsFull)
    else Err WrongPassword
