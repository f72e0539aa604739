-- What a draft tells of the records so far, and that it tells it after one record more.
use Rattle.std.proofs.Common.{bytes_eq, ◌≡◌, ◌≢◌, ℕ, zero, suc, ◌+◌, ◌<◌, ◌≤◌, Bool, true, false, cond, List, [], ◌∷◌, ◌++◌, length, get_or, set, Option, Some, None, Result, Ok, subst, refl, sym, ◌∙◌, ap, arith, nat_lt, nat_eq}
use Rattle.std.specs.Prelude.{position, IfSome}
use Rattle.std.specs.List.{All}
use Rattle.std.proofs.lemmas.List.{length_push, length-set, get_or-set_same, get_or-set_other}
use Rattle.std.proofs.lemmas.List.Elements.{All-push, All-weaker}
use Rattle.std.proofs.lemmas.List.Folds.{position_or_len_push}
use Rattle.std.proofs.lemmas.List.Sums.{prefix_len-le-length}
use Rattle.std.proofs.lemmas.Option.{cond_some}
use Rattle.trust_types.specs.declared.graphs.Cert.{Cert}
use Rattle.trust_types.specs.declared.limits.TheConstants.{MOST_ACCOUNTS}
use Rattle.trust_types.specs.declared.records.Record.{Record}
use Rattle.trust_types.specs.Kept.{accounts, certs_of}
use Rattle.trust_types.specs.NameLists.{number_of}
use Rattle.std.specs.Option.{ok_or}
use Rattle.trust_types.specs.declared.levels.Level.{Level}
use Rattle.trust_types.specs.Tables.{Table}
use Rattle.trust_types.proofs.Changing.{accounts-join, is_seed-join, certs_of-join, accounts-seed, is_seed-seed, certs_of-seed, accounts-cert, is_seed-cert, certs_of-cert}
use Rattle.text_lines.specs.declared.faults.TextKind.{TextKind}
use Rattle.text_lines.specs.declared.faults.TextKind.TheVariants.{Unknown, SelfCert}
use Rattle.text_lines.specs.Steps.{fault_if}
use Rattle.text_lines.specs.Places.{three_words, name_in, level_in}
use Rattle.text_lines.proofs.Stepping.{bind-ok, ok_or-ok, fault_if-ok}
use Rattle.cert_log.specs.Log.{IsLog}
use Rattle.cert_log.specs.Standing.{IsBetween}
use Rattle.site_lines.specs.Site.{join, seed, cert, pair_in, given_cert}
use Rattle.site_lines.specs.Drafts.{IsSiteDraft}
use Rattle.site_lines.specs.declared.drafts.SiteDraft.{SiteDraft}
use Rattle.site_lines.specs.declared.drafts.Known.{Known}

pub below : {X : Type 0} (p : X → Bool) (xs : List X) (i : ℕ) → position p xs ≡ Some i → i < length xs
below p xs i e = let both = cond_some _ _ _ e in grind (arith, both.0, both.1)

get_or-push_default : {X : Type 0} (xs : List X) (a : ℕ) (d : X) → get_or (xs ++ d ∷ []) a d ≡ get_or xs a d
get_or-push_default [] zero d = refl
get_or-push_default [] (suc a) d = refl
get_or-push_default (x ∷ xs) zero d = refl
get_or-push_default (x ∷ xs) (suc a) d = get_or-push_default xs a d

between_more : (n m : ℕ) (certs : List Cert) → n ≤ m → All (IsBetween n) certs → All (IsBetween m) certs
between_more n m certs le each = All-weaker (IsBetween n) (IsBetween m) (λ c is. record { giver = omega (arith, is.giver); taker = omega (arith, is.taker); others = is.others }) certs each

some_by : (n l m k i : ℕ) (b : Bool) → cond (nat_lt n l) (Some n) None ≡ Some i → n ≤ l → m ≡ cond (nat_eq n l) (l + cond b 0 1) n → k ≡ l + 1 → cond (nat_lt m k) (Some m) None ≡ Some i
some_by n l m k i b h le m_is k_is = grind arith

-- a name that has a number keeps it
number-push : (names : List (List ℕ)) (new name : List ℕ) (i : ℕ) → number_of names name ≡ Some i → number_of (names ++ new ∷ []) name ≡ Some i
number-push names new name i h =
    some_by _ (length names) _ _ i (bytes_eq new name) h (prefix_len-le-length _ names) (position_or_len_push (λ other. bytes_eq other name) names new) (length_push names new)

known_more : (last : Option Known) (names : List (List ℕ)) (new : List ℕ) → IfSome last (λ known. number_of names known.name ≡ Some known.account)
    → IfSome last (λ known. number_of (names ++ new ∷ []) known.name ≡ Some known.account)
known_more None names new is = tt
known_more (Some known) names new is = number-push names new known.name known.account is

pub draft-join : (d new : SiteDraft) (k : List Record) (name : List ℕ) → IsSiteDraft d k
    → new.names ≡ d.names ++ name ∷ [] → new.seeds.items ≡ d.seeds.items ++ false ∷ [] → new.certs ≡ d.certs → new.giver ≡ d.giver → length d.names < MOST_ACCOUNTS
    → IsSiteDraft new (k ++ join name ∷ [])
draft-join d new k name is ne fe ce ge less =
    let acc : accounts (k ++ join name ∷ []) ≡ accounts k ++ name ∷ [] = accounts-join k (join name) name refl in
    let more : length (accounts (k ++ join name ∷ [])) ≡ length (accounts k) + 1 = ap length acc ∙ length_push (accounts k) name in
    let given : certs_of (k ++ join name ∷ []) ≡ certs_of k = certs_of-join k (join name) name refl in
    record {
      named = ne ∙ ap (λ xs. xs ++ name ∷ []) is.named ∙ sym acc;
      few = rw more (omega (arith, less, ap length is.named));
      flags = ap length fe ∙ length_push d.seeds.items false ∙ ap (λ m. m + 1) is.flags ∙ sym more;
      seeded = λ a. ap (λ xs. get_or xs a false) fe ∙ get_or-push_default d.seeds.items a false ∙ is.seeded a ∙ sym (is_seed-join k (join name) name a refl);
      logged = rw (ce, given) is.logged;
      known = rw (ge, acc) (known_more d.giver (accounts k) name is.known);
      between = rw given (between_more _ _ _ (rw more (omega arith)) is.between);
    }

set-is : (xs : List Bool) (i a : ℕ) (b : Bool) → i < length xs → nat_eq a i ≡ b → get_or (set xs i true) a false ≡ cond b true (get_or xs a false)
set-is xs i a true l e = let same : a ≡ i = grind arith in rw (same, get_or-set_same xs i true false l) refl
set-is xs i a false l e = let other : a ≢ i = grind arith in rw (get_or-set_other xs i a true false other) refl

pub draft-seed : (d new : SiteDraft) (k : List Record) (i : ℕ) → IsSiteDraft d k → i < length (accounts k)
    → new.names ≡ d.names → new.seeds.items ≡ set d.seeds.items i true → new.certs ≡ d.certs → new.giver ≡ d.giver → IsSiteDraft new (k ++ seed i ∷ [])
draft-seed d new k i is l ne fe ce ge =
    let acc : accounts (k ++ seed i ∷ []) ≡ accounts k = accounts-seed k (seed i) i refl in
    let given : certs_of (k ++ seed i ∷ []) ≡ certs_of k = certs_of-seed k (seed i) i refl in
    let inside : i < length d.seeds.items = rw is.flags l in
    record {
      named = ne ∙ is.named ∙ sym acc;
      few = rw acc is.few;
      flags = ap length fe ∙ length-set d.seeds.items i true ∙ is.flags ∙ ap length (sym acc);
      seeded = λ a. ap (λ xs. get_or xs a false) fe ∙ set-is d.seeds.items i a (nat_eq a i) inside refl ∙ ap (λ b. cond (nat_eq a i) true b) (is.seeded a) ∙ sym (is_seed-seed k (seed i) i a refl);
      logged = rw (ce, given) is.logged;
      known = rw (ge, acc) is.known;
      between = rw (acc, given) is.between;
    }

-- the records' certificates, after one more
pub given-push : (k : List Record) (c : Cert) → certs_of (k ++ cert c.from c.to c.level ∷ []) ≡ certs_of k ++ c ∷ []
given-push k c = certs_of-cert k (cert c.from c.to c.level) c refl

pub draft-cert : (d new : SiteDraft) (k : List Record) (c : Cert) → IsSiteDraft d k → IsBetween (length (accounts k)) c
    → new.names ≡ d.names → new.seeds.items ≡ d.seeds.items → IsLog new.certs (certs_of k ++ c ∷ []) → new.giver ≡ d.giver → IsSiteDraft new (k ++ cert c.from c.to c.level ∷ [])
draft-cert d new k c is between ne fe ce ge =
    let acc : accounts (k ++ cert c.from c.to c.level ∷ []) ≡ accounts k = accounts-cert k (cert c.from c.to c.level) c refl in
    record {
      named = ne ∙ is.named ∙ sym acc;
      few = rw acc is.few;
      flags = ap length fe ∙ is.flags ∙ ap length (sym acc);
      seeded = λ a. ap (λ xs. get_or xs a false) fe ∙ is.seeded a ∙ sym (is_seed-cert k (cert c.from c.to c.level) c a refl);
      logged = rw (given-push k c) ce;
      known = rw (ge, acc) is.known;
      between = rw (acc, given-push k c) (All-push (IsBetween (length (accounts k))) (certs_of k) c is.between between);
    }

pair-between : (names : List (List ℕ)) (giver taker : List ℕ) (pair : ℕ × ℕ) (level : Level) → pair_in names giver taker ≡ Ok pair → IsBetween (length names) (record { from = pair.0; to = pair.1; level = level })
pair-between names giver taker pair level e =
    let from = bind-ok (name_in giver) _ pair e in
    let to = bind-ok (name_in taker) _ pair from.2 in
    let a = bind-ok (ok_or (number_of names from.0) Unknown) _ pair to.2 in
    let b = bind-ok (ok_or (number_of names to.0) Unknown) _ pair a.2 in
    let apart = bind-ok (fault_if (nat_eq a.0 b.0) SelfCert) _ pair b.2 in
    let other : nat_eq a.0 b.0 ≡ false = fault_if-ok (nat_eq a.0 b.0) SelfCert apart.0 apart.1 in
    let is : ◌≡◌ {A = Result (ℕ × ℕ) TextKind} (Ok (a.0, b.0)) (Ok pair) = apart.2 in
    let same : (a.0, b.0) ≡ pair = cc in
    subst (λ (p : ℕ × ℕ). IsBetween (length names) (record { from = p.0; to = p.1; level = level })) same (record {
      giver = below (λ (m : List ℕ). bytes_eq m from.0) names a.0 (ok_or-ok _ Unknown a.0 a.1);
      taker = below (λ (m : List ℕ). bytes_eq m to.0) names b.0 (ok_or-ok _ Unknown b.0 b.1);
      others = λ same. grind arith;
    })

-- A certificate that a line gives is between two of the accounts.
pub given-between : (table : Table) (k : List Record) (ws : List (List ℕ)) (c : Cert) → given_cert table (accounts k) ws ≡ Ok c → IsBetween (length (accounts k)) c
given-between table k ws c e =
    let three = bind-ok (three_words ws) _ c e in
    let level = bind-ok (level_in table three.0.2) _ c three.2 in
    let pair = bind-ok (pair_in (accounts k) three.0.0 three.0.1) _ c level.2 in
    let given : Cert = record { from = pair.0.0; to = pair.0.1; level = level.0 } in
    let is : ◌≡◌ {A = Result Cert TextKind} (Ok given) (Ok c) = pair.2 in
    let same : given ≡ c = cc in
    subst (IsBetween (length (accounts k))) same (pair-between (accounts k) three.0.0 three.0.1 pair.0 level.0 pair.1)
