use Rattle.std.proofs.Common.{◌≡◌, ◌≤◌, ◌+◌, ℕ, vec_len}
use Rattle.std.specs.Prelude.{vec_capacity}
use Rattle.postings.specs.inner.Shelves.{places_at}
use Rattle.postings.proofs.shelves.grow.Given as goal

-- There is room for what is missing, and no shelf changes.
abbrev pub invariant-loop-added : goal.invariant-loop-added
invariant-loop-added l =
    record {
      long : vec_len l.shelves ≡ vec_len l.initial.shelves + l._added;
      room : vec_len l.initial.shelves + l.missing ≤ vec_capacity l.shelves;
      same : (m : ℕ) → places_at l.shelves.items m ≡ places_at l.fn.shelves.items m;
    }
