-- Lines written one after another, of lists and of what readers give.
use Rattle.std.proofs.Common.{◌≡◌, ℕ, zero, suc, ◌+◌, ◌<◌, ◌≤◌, All, subst, true, false, List, [], ◌∷◌, ◌++◌, length, take, get_or, map, refl, ap, sym, ◌∙◌, arith, add-one, append_assoc, codes, decimal, ◌==◌}
use Rattle.std.specs.List.{flat_map, filter, range_with_len, join_with_byte}
use Rattle.std.proofs.lemmas.Grind.{flat_map-append}
use Rattle.std.proofs.lemmas.List.{append-nil, flat_map_more, take_more, get_or_default}
use Rattle.std.proofs.lemmas.List.Elements.{filter-append}
use Rattle.std.proofs.lemmas.List.FromFn.{map-range_with_len_more}
use Rattle.std.proofs.Math.Seq.{take-length}
use Rattle.trust_types.specs.declared.graphs.Cert.{Cert}
use Rattle.trust_types.specs.Graph.{Certificates}
use Rattle.trust_types.specs.Names.{IsName}
use Rattle.trust_types.specs.Tables.{Table}
use Rattle.trust_types.specs.NodeWords.{name_of}
use Rattle.audit_text.specs.Canonical.{line, levels_words, seed_words, cert_words}
use Rattle.audit_text.specs.inner.Writing.{entries_words, count_words, below, seeds_below, first_given, certs_below, lines_for}

pub all_taken : {X : Type 0} (xs : List X) (n : ℕ) → n ≡ length xs → take n xs ≡ xs
all_taken xs n e = rw e (take-length xs)

joined : (word : List ℕ) (numbers : List ℕ) → join_with_byte 32 (word ∷ map decimal numbers) ≡ word ++ flat_map (λ n. 32 ∷ decimal n) numbers
joined word [] = sym (append-nil word)
joined word (n ∷ numbers) = ap (λ others. word ++ 32 ∷ others) (joined (decimal n) numbers)

-- The table's line, entry by entry.
caps-bytes : (bs entries : List ℕ) → ((bs ++ codes "caps") ++ flat_map (λ n. 32 ∷ decimal n) entries) ++ 10 ∷ [] ≡ bs ++ line (entries_words entries)
caps-bytes bs entries =
    ap (λ text. text ++ 10 ∷ []) (append_assoc bs (codes "caps") (flat_map (λ n. 32 ∷ decimal n) entries) ∙ ap (λ words. bs ++ words) (sym (joined (codes "caps") entries)))
    ∙ append_assoc bs (join_with_byte 32 (entries_words entries)) (10 ∷ [])

pub caps_done : (old after text new entries : List ℕ) (n : ℕ) → after ≡ old ++ codes "caps" → text ≡ after ++ flat_map (λ m. 32 ∷ decimal m) (take n entries) → n ≡ length entries →
    new ≡ text ++ 10 ∷ [] → new ≡ old ++ line (entries_words entries)
caps_done old after text new entries n begun entered all ended =
    ended ∙ ap (λ bs. bs ++ 10 ∷ []) (entered ∙ ap (λ bs. bs ++ flat_map (λ m. 32 ∷ decimal m) (take n entries)) begun
    ∙ ap (λ ns. (old ++ codes "caps") ++ flat_map (λ m. 32 ∷ decimal m) ns) (all_taken entries n all))
    ∙ caps-bytes old entries

-- The line of the number of levels, where it is written.
pub count_none : (bs : List ℕ) (table : Table) (n : ℕ) → n ≡ table.levels → (n == 4) ≡ true → bs ≡ bs ++ flat_map line (levels_words table)
count_none bs table n is four =
    let same : (table.levels == 4) ≡ true = ap (λ m. m == 4) (sym is) ∙ four in
    rw same (sym (append-nil bs))

pub count_done : (bs new : List ℕ) (table : Table) (n : ℕ) → n ≡ table.levels → (n == 4) ≡ false → new ≡ bs ++ line (count_words n) → new ≡ bs ++ flat_map line (levels_words table)
count_done bs new table n is other written =
    let same : (table.levels == 4) ≡ false = ap (λ m. m == 4) (sym is) ∙ other in
    rw same (written ∙ ap (λ m. bs ++ line (count_words m)) is ∙ ap (λ text. bs ++ text) (sym (append-nil (line (count_words table.levels)))))

-- One item more of a list.
pub more_taken : {X : Type 0} (words_of : X → List (List ℕ)) (bs : List ℕ) (xs : List X) (i : ℕ) (x : X) → i < length xs → get_or xs i x ≡ x →
    (bs ++ lines_for words_of (take i xs)) ++ line (words_of x) ≡ bs ++ lines_for words_of (take (i + 1) xs)
more_taken words_of bs xs i x inside is =
    flat_map_more (λ y. line (words_of y)) bs (take i xs) x
    ∙ ap (λ ys. bs ++ lines_for words_of ys) (ap (λ y. take i xs ++ y ∷ []) (sym is) ∙ sym (take_more xs i x inside))

range_more : (a n j : ℕ) → a + n ≡ j → range_with_len a (suc n) ≡ range_with_len a n ++ j ∷ []
range_more a zero j e = let same : a ≡ j = omega arith in ap (λ b. b ∷ []) same
range_more a (suc n) j e = ap (λ others. a ∷ others) (range_more (a + 1) n j (omega arith))

below_more : (n : ℕ) → below (n + 1) ≡ below n ++ n ∷ []
below_more n = rw add-one (range_more 0 n n (omega arith))

-- One account more, which is a seed or none.
pub more_seeds : (g : Certificates) (n : ℕ) → g.is_seed n ≡ true → seeds_below g (n + 1) ≡ seeds_below g n ++ n ∷ []
more_seeds g n is = ap (filter g.is_seed) (below_more n) ∙ filter-append g.is_seed (below n) (n ∷ []) ∙ rw is refl

pub same_seeds : (g : Certificates) (n : ℕ) → g.is_seed n ≡ false → seeds_below g (n + 1) ≡ seeds_below g n
same_seeds g n none = ap (filter g.is_seed) (below_more n) ∙ filter-append g.is_seed (below n) (n ∷ []) ∙ rw none (append-nil (seeds_below g n))

pub seeds_step : (names known : List (List ℕ)) (bs old new : List ℕ) (g : Certificates) (n : ℕ) → g.is_seed n ≡ true → known ≡ names → old ≡ bs ++ lines_for (seed_words names) (seeds_below g n) →
    new ≡ old ++ line (seed_words known n) → new ≡ bs ++ lines_for (seed_words names) (seeds_below g (n + 1))
seeds_step names known bs old new g n is same before more =
    more ∙ ap (λ ns. old ++ line (seed_words ns n)) same ∙ ap (λ text. text ++ line (seed_words names n)) before
    ∙ flat_map_more (λ a. line (seed_words names a)) bs (seeds_below g n) n ∙ ap (λ seeds. bs ++ lines_for (seed_words names) seeds) (sym (more_seeds g n is))

-- One certificate more of an account.
more_given : (words_of : Cert → List (List ℕ)) (bs : List ℕ) (given : ℕ → ℕ → Cert) (a i : ℕ) →
    (bs ++ lines_for words_of (first_given given a i)) ++ line (words_of (given a i)) ≡ bs ++ lines_for words_of (first_given given a (i + 1))
more_given words_of bs given a i =
    flat_map_more (λ c. line (words_of c)) bs (first_given given a i) (given a i)
    ∙ ap (λ certs. bs ++ lines_for words_of certs) (sym (map-range_with_len_more (given a) 0 i i (omega arith)))

pub given_step : (names known : List (List ℕ)) (bs old new : List ℕ) (given : ℕ → ℕ → Cert) (a i : ℕ) (c : Cert) → known ≡ names → c ≡ given a i →
    old ≡ bs ++ lines_for (cert_words names) (first_given given a i) → new ≡ old ++ line (cert_words known c) → new ≡ bs ++ lines_for (cert_words names) (first_given given a (i + 1))
given_step names known bs old new given a i c same is before more =
    more ∙ ap (λ ns. old ++ line (cert_words ns c)) same ∙ ap (λ d. old ++ line (cert_words names d)) is ∙ ap (λ text. text ++ line (cert_words names (given a i))) before
    ∙ more_given (cert_words names) bs given a i

-- The certificates of one account more.
pub certs_more : (degree : ℕ → ℕ) (given : ℕ → ℕ → Cert) (n : ℕ) → certs_below degree given (n + 1) ≡ certs_below degree given n ++ first_given given n (degree n)
certs_more degree given n =
    ap (flat_map (λ a. first_given given a (degree a))) (below_more n)
    ∙ flat_map-append (λ a. first_given given a (degree a)) (below n) (n ∷ [])
    ∙ ap (λ certs. certs_below degree given n ++ certs) (append-nil (first_given given n (degree n)))

pub more_certs : (words_of : Cert → List (List ℕ)) (bs : List ℕ) (degree : ℕ → ℕ) (given : ℕ → ℕ → Cert) (n : ℕ) →
    (bs ++ lines_for words_of (certs_below degree given n)) ++ lines_for words_of (first_given given n (degree n)) ≡ bs ++ lines_for words_of (certs_below degree given (n + 1))
more_certs words_of bs degree given n =
    append_assoc bs (lines_for words_of (certs_below degree given n)) (lines_for words_of (first_given given n (degree n)))
    ∙ ap (λ lines. bs ++ lines) (sym (flat_map-append (λ c. line (words_of c)) (certs_below degree given n) (first_given given n (degree n))))
    ∙ ap (λ certs. bs ++ lines_for words_of certs) (sym (certs_more degree given n))

-- The name of each account, and so each of the list.
pub all_named : (names : List (List ℕ)) (n : ℕ) → length names ≤ n → ((k : ℕ) → k < n → IsName (name_of names k)) → All IsName names
all_named names n all each k d inside = subst IsName (get_or_default names k [] d inside) (each k (omega arith))
