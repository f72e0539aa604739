-- Each post is an account's, also with one record more.
use Rattle.std.proofs.Common.{◌≡◌, ℕ, ◌≤◌, true, false, List, [], ◌∷◌, ◌++◌, length, Option, Some, None, IfSome, sym, ap, ◌∙◌, subst, arith, length-append, All, is_some}
use Rattle.std.proofs.lemmas.List.Elements.{All-push, All-weaker, filter_map-append}
use Rattle.trust_types.specs.declared.records.Record.{Record}
use Rattle.trust_types.specs.declared.records.Record.TheVariants.{Join, Seed, Unseed, Cert, Table, Diary, Article, Reply, Project}
use Rattle.trust_types.specs.Kept.{accounts, changes, change_of}
use Rattle.trust_types.specs.Changes.{names, joined_name}
use Rattle.postings.specs.declared.places.Room.{Room}
use Rattle.postings.specs.Posts.{room_of}
use Rattle.site_history.specs.Sites.{is_post, posts_of}
use Rattle.site_state.specs.inner.Parts.{IsPostedBy}
use Rattle.site_state.proofs.Adding.{posts_more, posts_same}

more-accounts : (k : List Record) (x : Record) → length (accounts k) ≤ length (accounts (k ++ x ∷ []))
more-accounts k x =
    let later : accounts (k ++ x ∷ []) ≡ accounts k ++ names (changes (x ∷ [])) =
    ap names (filter_map-append change_of k (x ∷ [])) ∙ filter_map-append joined_name (changes k) (changes (x ∷ [])) in
    omega (arith, ap length later, length-append (accounts k) (names (changes (x ∷ []))))

of_more : (n m : ℕ) → n ≤ m → (x : Record) → IsPostedBy n x → IsPostedBy m x
of_more n m le (Diary moment author text) is = omega arith
of_more n m le (Article moment author title text) is = omega arith
of_more n m le (Reply moment author article text) is = omega arith
of_more n m le (Project moment author name text) is = omega arith
of_more n m le (Join moment name secret) is = is
of_more n m le (Seed moment subject) is = is
of_more n m le (Unseed moment subject) is = is
of_more n m le (Cert moment author subject level) is = is
of_more n m le (Table moment caps) is = is

later : (k : List Record) (x : Record) → All (IsPostedBy (length (accounts k))) (posts_of k) → All (IsPostedBy (length (accounts (k ++ x ∷ [])))) (posts_of k)
later k x all = All-weaker (IsPostedBy (length (accounts k))) (IsPostedBy (length (accounts (k ++ x ∷ [])))) (of_more _ _ (more-accounts k x)) (posts_of k) all

pub still_posted : (k : List Record) (x : Record) → is_post x ≡ false → All (IsPostedBy (length (accounts k))) (posts_of k)
    → All (IsPostedBy (length (accounts (k ++ x ∷ [])))) (posts_of (k ++ x ∷ []))
still_posted k x none all = subst (λ (l : List Record). All (IsPostedBy (length (accounts (k ++ x ∷ [])))) l) (sym (posts_same k x none)) (later k x all)

pub posted_too : (k : List Record) (x : Record) → is_post x ≡ true → IsPostedBy (length (accounts k)) x → All (IsPostedBy (length (accounts k))) (posts_of k)
    → All (IsPostedBy (length (accounts (k ++ x ∷ [])))) (posts_of (k ++ x ∷ []))
posted_too k x post by all =
    let pushed = All-push (IsPostedBy (length (accounts (k ++ x ∷ [])))) (posts_of k) x (later k x all) (of_more _ _ (more-accounts k x) x by) in
    subst (λ (l : List Record). All (IsPostedBy (length (accounts (k ++ x ∷ [])))) l) (sym (posts_more k x post)) pushed

there : (o : Option Room) (P : Type 0) → is_some o ≡ true → IfSome o (λ room. P) → P
there None P post p = absurd (cc)
there (Some room) P post p = p

pub author_there : (k : List Record) (x : Record) (n : ℕ) → n ≡ length (accounts k) → is_post x ≡ true → IfSome (room_of x) (λ room. IsPostedBy n x) → IsPostedBy (length (accounts k)) x
author_there k x n same post by = subst (λ (n : ℕ). IsPostedBy n x) same (there (room_of x) (IsPostedBy n x) post by)
