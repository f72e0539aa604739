-- A row more of a router's table.
use Rattle.std.proofs.Common.{◌≡◌, Result, Ok, Err, inl, inr}
use Rattle.std.specs.Prelude.{OnOk}
use Rattle.matchit.specs.Router.{InsertsRead}
use Rattle.matchit.specs.Route.{Scan}
use Rattle.matchit.specs.declared.error.InsertError.{InsertError}
use Rattle.http_paths.specs.inner.Tables.{Rows, with_scan}

module _ {A : Type 0} where
  pub inserted : (x : Result Scan InsertError) (v : A) (old new : Rows A) (r : Result (Unit {0}) InsertError) → InsertsRead x v old new r → OnOk r (new ≡ with_scan x v old)
  inserted (Ok s) v old new (Ok u) h = h.1
  inserted (Ok s) v old new (Err e) h = tt
  inserted (Err e) v old new (Err f) h = tt
  inserted (Err e) v old new (Ok u) h =
      let never : ⊥ = elim h.1 [
        | inl q ↦ cc
        | inr q ↦ cc
      ] in
      absurd never
