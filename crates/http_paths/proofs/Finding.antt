-- What the router of each table finds at a path is what the path names.
use Rattle.std.proofs.Common.{◌≡◌, true, refl, ap, ◌∙◌, option_map, List, ℕ}
use Rattle.matchit.specs.Level.{IsText}
use Rattle.matchit.proofs.OnLiterals.{matchit_on_literals}
use Rattle.http_paths.specs.Places.{named_in, pages, actions}
use Rattle.http_paths.specs.inner.Tables.{with_route, page_table, action_table, page_at, action_at}
use Rattle.http_paths.proofs.Flat.{all_flat}
use Rattle.http_paths.proofs.FlatLemmas.{seek-flat}
use Rattle.http_paths.proofs.Placing.{AreRows, all_apart, walk-named}

pages-flat : all_flat page_table ≡ true
unfolding matchit_on_literals with_route
pages-flat = refl

pages-apart : all_apart page_table ≡ true
unfolding matchit_on_literals with_route
pages-apart = refl

pages-rows : AreRows page_table pages
unfolding matchit_on_literals with_route
pages-rows = (refl, refl, (refl, refl, (refl, refl, (refl, refl, (refl, refl, (refl, refl, (refl, refl, (refl, refl, (refl, refl, tt)))))))))

pub finds-pages : (path : List ℕ) → IsText path → page_at path ≡ named_in pages path
finds-pages path text = ap (option_map (λ row. row.value)) (seek-flat page_table path pages-flat text) ∙ walk-named page_table pages path pages-rows refl pages-apart text

actions-flat : all_flat action_table ≡ true
unfolding matchit_on_literals with_route
actions-flat = refl

actions-apart : all_apart action_table ≡ true
unfolding matchit_on_literals with_route
actions-apart = refl

actions-rows : AreRows action_table actions
unfolding matchit_on_literals with_route
actions-rows = (refl, refl, (refl, refl, (refl, refl, (refl, refl, (refl, refl, (refl, refl, (refl, refl, (refl, refl, (refl, refl, (refl, refl, (refl, refl, tt)))))))))))

pub finds-actions : (path : List ℕ) → IsText path → action_at path ≡ named_in actions path
finds-actions path text = ap (option_map (λ row. row.value)) (seek-flat action_table path actions-flat text) ∙ walk-named action_table actions path actions-rows refl actions-apart text
