-- The first changes of records, and frozen graphs of them.
use Rattle.std.proofs.Common.{◌≡◌, ℕ, zero, suc, ◌≤◌, List, [], ◌∷◌, ◌++◌, length, Option, Some, None, take, refl, sym, ap, subst, ◌∙◌, arith, length-append, take_all}
use Rattle.std.proofs.lemmas.List.{take-append-le}
use Rattle.std.proofs.lemmas.List.Elements.{filter_map-append}
use Rattle.std.specs.List.{cons_option}
use Rattle.trust_types.specs.declared.records.Record.{Record}
use Rattle.trust_types.specs.Changes.{Change, names, changed_certificates, table_among}
use Rattle.trust_types.specs.Kept.{changes, change_of, upto, left_after, revision}
use Rattle.trust_types.specs.Tables.{Table}
use Rattle.frozen.specs.Revision.{Revision}
use Rattle.site_history.specs.Legal.{IsFrozenOf, IsOfPast}

step : (k : List Record) (r : ℕ) (o : Option Change) → ((n : ℕ) → changes (upto k n) ≡ take n (changes k))
    → cons_option o (changes (upto k (left_after o r))) ≡ take (suc r) (cons_option o (changes k))
step k r (Some c) is = ap (λ (l : List Change). c ∷ l) (is r)
step k r None is = is (suc r)

-- the prefix of records up to a revision has its first changes
pub changes-upto : (k : List Record) (r : ℕ) → changes (upto k r) ≡ take r (changes k)
changes-upto [] zero = refl
changes-upto [] (suc r) = refl
changes-upto (x ∷ k) zero = refl
changes-upto (x ∷ k) (suc r) = step k r (change_of x) (changes-upto k)

-- records with the same changes have the same graph
pub frozen_along : (opening : Table) (k l : List Record) (f : Revision) → changes k ≡ changes l → IsFrozenOf opening k f → IsFrozenOf opening l f
frozen_along opening k l f same is = record {
  number = is.number ∙ ap length same;
  table = is.table ∙ ap (table_among opening) same;
  names = is.names ∙ ap names same;
  graph = is.graph ∙ ap changed_certificates same;
}

-- the changes up to a revision stay, whatever records follow
pub changes-later : (k l : List Record) (r : ℕ) → r ≤ revision k → changes (upto k r) ≡ changes (upto (k ++ l) r)
changes-later k l r past =
    changes-upto k r ∙ (sym (take-append-le r (changes k) (changes l) past) ∙ (ap (take r) (sym (filter_map-append change_of k l)) ∙ sym (changes-upto (k ++ l) r)))

-- a graph of the first records is that of the first of more
pub frozen_later : (opening : Table) (k l : List Record) (r : ℕ) (f : Revision) → r ≤ revision k → IsFrozenOf opening (upto k r) f → IsFrozenOf opening (upto (k ++ l) r) f
frozen_later opening k l r f past is = frozen_along opening (upto k r) (upto (k ++ l) r) f (changes-later k l r past) is

-- the graph of all records is that of those up to their revision
pub frozen_now : (opening : Table) (k : List Record) (f : Revision) → IsFrozenOf opening k f → IsFrozenOf opening (upto k (revision k)) f
frozen_now opening k f is =
    frozen_along opening k (upto k (revision k)) f (sym (changes-upto k (revision k) ∙ take_all (revision k) (changes k) (omega arith))) is

-- the revision doesn't fall, whatever records follow
revision-later : (k l : List Record) → revision k ≤ revision (k ++ l)
revision-later k l = omega (arith, ap length (filter_map-append change_of k l), length-append (changes k) (changes l))

-- a graph of the past stays one
pub past_later : (opening : Table) (k l : List Record) (f : Revision) → IsOfPast opening k f → IsOfPast opening (k ++ l) f
past_later opening k l f is = record {
  past = omega (arith, is.past, revision-later k l);
  graph = frozen_later opening k l f.number f is.past is.graph;
}

-- a graph of all records is one of their past
pub past_now : (opening : Table) (k : List Record) (f : Revision) → IsFrozenOf opening k f → IsOfPast opening k f
past_now opening k f is = record {
  past = omega (arith, is.number);
  graph = subst (λ (r : ℕ). IsFrozenOf opening (upto k r) f) (sym is.number) (frozen_now opening k f is);
}
