-- A row while it is written: a serializer, by the text before its form and the form.
use Rattle.std.specs.Prelude.{ℕ, List, [], ◌∷◌, ◌++◌, codes}
use Rattle.form_urlencoded.specs.Form.{append_pair, extend_pairs}
use Rattle.form_urlencoded.specs.Target.{Target}
use Rattle.site_records.specs.Rows.{of_kind}

-- The version, a kind and a moment.
abbrev pub begun : List ℕ → ℕ → Target
begun kind moment = record { prefix = []; form = extend_pairs [] ((codes "v", codes "2") ∷ of_kind kind moment []) }

-- With one pair more.
abbrev pub with_pair : Target → List ℕ → List ℕ → Target
with_pair form name value = record { prefix = form.prefix; form = append_pair form.form name value }

-- The bytes that were written.
abbrev pub finished : Target → List ℕ
finished form = form.prefix ++ form.form
