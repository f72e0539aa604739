use Rattle.std.proofs.Common.{◌<◌, ◌++◌, ◌∷◌, [], ◌∙◌, sym, ap, subst, Result}
use Rattle.std.specs.Prelude.{OnOk, IsOk, Ok, Err}
use Rattle.indexmap.proofs.CallerLemmas.{insert_entry-new}
use Rattle.std.specs.Str.{bytes_eq}
use Rattle.sessions.specs.Sessions.{who}
use Rattle.sessions.proofs.live.Sessions.login.Goals as goal

pub returns-clause-live : goal.returns-clause-live
returns-clause-live c =
    taken _ (c.insert-inserted.ensures.succeeds (subst (λ sessions. 0 < sessions.room) (sym c.self.view_is) c.requires.room)) c.insert-inserted.ensures.entries
    ∙ insert_entry-new bytes_eq c.self.inside.accounts c.args.token c.args.account (ap (λ sessions. who sessions.live c.args.token) c.self.view_is ∙ c.requires.new)
    ∙ ap (λ sessions. sessions.live ++ (c.args.token, c.args.account) ∷ []) c.self.view_is
  where
    taken : {A E P : Type 0} (r : Result A E) → IsOk r → OnOk r P → P
    taken (Ok x) ok h = h
    taken (Err e) ok h = absurd (cc)
