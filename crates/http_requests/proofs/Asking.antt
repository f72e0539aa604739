-- What bytes ask for is one thing, and stays what it is when more bytes follow.
use Rattle.std.proofs.Common.{◌≡◌, ◌≢◌, ℕ, ◌+◌, ◌-◌, ◌<◌, ◌≤◌, Bool, true, false, cond, ◌&&◌, inl, inr, nat_lt, List, [], ◌++◌, length, take, drop, Option, Some, None, Result, Ok, Err, refl, sym, ap, ◌∙◌, subst, arith, length-append, append_assoc, codes}
use Rattle.std.proofs.lemmas.List.{take-append-le, drop-append-le, length-drop}
use Rattle.std.proofs.lemmas.Bool.Decides.{nat_tests}
use Rattle.httparse.proofs.GrammarLemmas.{request_unique}
use Rattle.http_heads.specs.declared.fronts.Front.{Front}
use Rattle.http_heads.specs.declared.fronts.Front.TheVariants.{TooLong, Unfinished, Ended}
use Rattle.http_heads.specs.HeadEnd.{front_of}
use Rattle.http_heads.specs.Heads.{Head, IsHeadOf, said_by}
use Rattle.std.specs.Option.{ok_or}
use Rattle.http_heads.specs.Bodies.{body_length, count_of, stated_length, is_encoded, has_wrong_hosts}
use Rattle.http_heads.specs.Fields.{values_of}
use Rattle.http_heads.specs.Refusals.{◌>>=◌, refused_if}
use Rattle.http_heads.proofs.Staying.{front_of-append, front_of-ended, ended-within, ended-some, unfinished-within}
use Rattle.http_requests.specs.declared.requests.Request.{Request}
use Rattle.http_requests.specs.declared.progress.Progress.{Progress}
use Rattle.http_requests.specs.declared.next.Next.{Next}
use Rattle.http_requests.specs.declared.next.Next.TheVariants.{Whole, NeedMore, Bad, NoMemory}
use Rattle.http_requests.specs.Requests.{request_of, with_body, after_head, IsRequestAfter, IsRequest, IsAnswer}
use Rattle.http_requests.specs.Laws.{IsRefusal}
use Rattle.http_requests.specs.Progress.{IsProgress}

-- Bytes are one head, or none.
one_head : (bytes : List ℕ) (a b : Option Head) → IsHeadOf bytes a → IsHeadOf bytes b → a ≡ b
one_head bytes None None x y = refl
one_head bytes None (Some b) x y = absurd (x y.0 y.1)
one_head bytes (Some a) None x y = absurd (y x.0 x.1)
one_head bytes (Some a) (Some b) x y =
    let same = (request_unique bytes x.0 y.0 [] [] x.1 y.1).0 in
    ap (λ h. Some h) (x.2 ∙ ap said_by same ∙ sym y.2)

asks-once_after : (front : Front) (bytes : List ℕ) (one other : Next) → IsRequestAfter front bytes one → IsRequestAfter front bytes other → one ≡ other
asks-once_after TooLong bytes one other x y = x ∙ sym y
asks-once_after Unfinished bytes one other x y = x ∙ sym y
asks-once_after (Ended end) bytes one other x y =
    x.2 ∙ ap (λ head. after_head head end (drop end bytes)) (one_head (take end bytes) x.0 y.0 x.1 y.1) ∙ sym y.2

pub asks-once : (bytes : List ℕ) (one other : Next) → IsRequest bytes one → IsRequest bytes other → one ≡ other
asks-once bytes = asks-once_after (front_of bytes) bytes

-- ---- more bytes

-- A whole body is there whatever follows.
with_body-append : (head : Head) (end : ℕ) (rest more : List ℕ) (r : Result ℕ ℕ) → with_body head end rest r ≢ NeedMore → with_body head end (rest ++ more) r ≡ with_body head end rest r
with_body-append head end rest more (Err status) known = refl
with_body-append head end rest more (Ok n) known = by (nat_lt (length rest) n) refl
  where
    by : (v : Bool) → nat_lt (length rest) n ≡ v → with_body head end (rest ++ more) (Ok n) ≡ with_body head end rest (Ok n)
    by true e = let wants : with_body head end rest (Ok n) ≡ NeedMore = rw e refl in absurd (known wants)
    by false e =
        let total = length-append rest more in
        let some : nat_lt (length (rest ++ more)) n ≡ false = grind (arith, nat_tests) in
        let fits : n ≤ length rest = grind (arith, nat_tests) in
        let same : take n (rest ++ more) ≡ take n rest = take-append-le n rest more fits in
        let there : with_body head end (rest ++ more) (Ok n) ≡ Whole (request_of head (take n (rest ++ more))) (end + n) = rw some refl in
        let here : with_body head end rest (Ok n) ≡ Whole (request_of head (take n rest)) (end + n) = rw e refl in
        there ∙ ap (λ (l : List ℕ). Whole (request_of head l) (end + n)) same ∙ sym here

after_head-append : (head : Option Head) (end : ℕ) (rest more : List ℕ) → after_head head end rest ≢ NeedMore → after_head head end (rest ++ more) ≡ after_head head end rest
after_head-append None end rest more known = refl
after_head-append (Some head) end rest more known = with_body-append head end rest more (body_length head) known

-- The same front, of a head that has ended, in more bytes.
ended-append : (bytes more : List ℕ) (end : ℕ) → front_of bytes ≡ Ended end → (front_of (bytes ++ more) ≡ Ended end) × (take end (bytes ++ more) ≡ take end bytes) × (drop end (bytes ++ more) ≡ drop end bytes ++ more)
ended-append bytes more end is =
    let within = (ended-within bytes end is).0 in (
      front_of-append bytes more (λ z. let both : Ended end ≡ Unfinished = sym is ∙ z in cc) ∙ is,
      take-append-le end bytes more within,
      drop-append-le end bytes more within,
    )

pub is-stable : (bytes more : List ℕ) (next : Next) → next ≢ NeedMore → IsRequest bytes next → IsRequest (bytes ++ more) next
is-stable bytes more next known asks = by (front_of bytes) refl asks
  where
    by : (front : Front) → front_of bytes ≡ front → IsRequestAfter front bytes next → IsRequest (bytes ++ more) next
    by TooLong e x =
        let same : front_of (bytes ++ more) ≡ TooLong = front_of-append bytes more (λ z. let both : TooLong ≡ Unfinished = sym e ∙ z in cc) ∙ e in
        rw same x
    by Unfinished e x = absurd (known x)
    by (Ended end) e x =
        let same = ended-append bytes more end e in
        let front = same.0 in
        let head : IsHeadOf (take end (bytes ++ more)) x.0 = subst (λ (l : List ℕ). IsHeadOf l x.0) (sym same.1) x.1 in
        let wanted : after_head x.0 end (drop end bytes) ≢ NeedMore = λ z. known (x.2 ∙ z) in
        let answer : next ≡ after_head x.0 end (drop end (bytes ++ more)) =
        x.2 ∙ sym (after_head-append x.0 end (drop end bytes) more wanted) ∙ ap (after_head x.0 end) (sym same.2) in
        rw front (x.0, head, answer)

-- An answer, which may stand for a whole request, is the answer whatever follows.
pub answer-stable : (bytes more : List ℕ) (next : Next) → next ≢ NeedMore → IsAnswer bytes next → IsAnswer (bytes ++ more) next
answer-stable bytes more NoMemory known is = (is.0, is.1, is-stable bytes more (Whole is.0 is.1) (λ z. cc) is.2)
answer-stable bytes more (Whole request used) known is = is-stable bytes more (Whole request used) known is
answer-stable bytes more NeedMore known is = absurd (known refl)
answer-stable bytes more (Bad status) known is = is-stable bytes more (Bad status) known is

-- ---- how many bytes

-- A step of a definition, and what it gave or refused.
passed : {A B : Type 0} (r : Result A ℕ) (f : A → Result B ℕ) (y : B) → (r >>= f) ≡ Ok y → (x : A) × (r ≡ Ok x) × (f x ≡ Ok y)
passed (Ok x) f y h = (x, refl, h)
passed (Err status) f y h = absurd (cc)

refuses : {A B : Type 0} (P : ℕ → Type 0) (r : Result A ℕ) (f : A → Result B ℕ) (s : ℕ) → ((t : ℕ) → r ≡ Err t → P t) → ((x : A) → f x ≡ Err s → P s) → (r >>= f) ≡ Err s → P s
refuses P (Ok x) f s one other h = other x h
refuses P (Err status) f s one other h = let same : status ≡ s = cc in subst P same (one status refl)

-- What a test that was passed says, and which status it refuses with.
untrue : (v : Bool) (status : ℕ) (u : Unit {0}) → refused_if v status ≡ Ok u → v ≡ false
untrue true status u h = absurd (cc)
untrue false status u h = refl

status_is : (v : Bool) (status t : ℕ) → refused_if v status ≡ Err t → t ≡ status
status_is true status t h = cc
status_is false status t h = absurd (cc)

missing_is : {A : Type 0} (o : Option A) (status t : ℕ) → ok_or o status ≡ Err t → t ≡ status
missing_is None status t h = cc
missing_is (Some x) status t h = absurd (cc)

-- The steps of a body's length.
abbrev lengths : Head → Option ℕ
lengths head = stated_length (values_of (codes "content-length") head.fields)

abbrev given : ℕ → Unit {0} → Result ℕ ℕ
given n _ = Ok n

abbrev plain : Head → ℕ → Unit {0} → Result ℕ ℕ
plain head n _ = refused_if (nat_lt 0 n && is_encoded head) 400 >>= given n

abbrev within : Head → ℕ → Result ℕ ℕ
within head n = refused_if (nat_lt 65536 n) 413 >>= plain head n

abbrev stated : Head → Result ℕ ℕ
stated head = ok_or (lengths head) 400 >>= within head

abbrev sent : Head → Result ℕ ℕ
sent head = refused_if (nat_lt 0 (count_of head (codes "transfer-encoding"))) 501 >>= λ _. stated head

-- A body is 65,536 bytes at most.
few_within : (head : Head) (m n : ℕ) → within head m ≡ Ok n → n ≤ 65536
few_within head m n h =
    let first = passed (refused_if (nat_lt 65536 m) 413) (plain head m) n h in
    let second = passed (refused_if (nat_lt 0 m && is_encoded head) 400) (given m) n first.2 in
    let fits : nat_lt 65536 m ≡ false = untrue (nat_lt 65536 m) 413 first.0 first.1 in
    let same : m ≡ n = cc (second.2) in
    grind (arith, nat_tests)

pub few_bytes : (head : Head) (n : ℕ) → body_length head ≡ Ok n → n ≤ 65536
few_bytes head n h =
    let first = passed (refused_if (has_wrong_hosts head) 400) (λ _. sent head) n h in
    let second = passed (refused_if (nat_lt 0 (count_of head (codes "transfer-encoding"))) 501) (λ _. stated head) n first.2 in
    let third = passed (ok_or (lengths head) 400) (within head) n second.2 in
    few_within head third.0 n third.2

-- What a head and its body give, by their lengths.
few_after : (head : Option Head) (end : ℕ) (rest : List ℕ) → NeedMore ≡ after_head head end rest → length rest < 65536
few_after None end rest h = absurd (cc)
few_after (Some head) end rest h = by (body_length head) refl h
  where
    short : (n : ℕ) (v : Bool) → nat_lt (length rest) n ≡ v → n ≤ 65536 → NeedMore ≡ cond v NeedMore (Whole (request_of head (take n rest)) (end + n)) → length rest < 65536
    short n true e few k = grind (arith, nat_tests)
    short n false e few k = absurd (cc)

    by : (r : Result ℕ ℕ) → body_length head ≡ r → NeedMore ≡ with_body head end rest r → length rest < 65536
    by (Err status) e k = absurd (cc)
    by (Ok n) e k = short n (nat_lt (length rest) n) refl (few_bytes head n e) k

pub needs-few : (bytes : List ℕ) → IsRequest bytes NeedMore → length bytes < 81920
needs-few bytes asks = by (front_of bytes) refl asks
  where
    by : (front : Front) → front_of bytes ≡ front → IsRequestAfter front bytes NeedMore → length bytes < 81920
    by TooLong e x = absurd (cc)
    by Unfinished e x = let few = unfinished-within bytes e in omega arith
    by (Ended end) e x =
        let within = ended-within bytes end e in
        let few = few_after x.0 end (drop end bytes) x.2 in
        let rest = length-drop end bytes in
        omega (arith, within.0, within.1)

some_after : (head : Option Head) (end : ℕ) (rest : List ℕ) (request : Request) (used : ℕ) → Whole request used ≡ after_head head end rest → (end ≤ used) × (used ≤ end + length rest)
some_after None end rest request used h = absurd (cc)
some_after (Some head) end rest request used h = by (body_length head) h
  where
    long : (n : ℕ) (v : Bool) → nat_lt (length rest) n ≡ v → Whole request used ≡ cond v NeedMore (Whole (request_of head (take n rest)) (end + n)) → (end ≤ used) × (used ≤ end + length rest)
    long n true e k = absurd (cc)
    long n false e k =
        let same : used ≡ end + n = cc in
        let fits : n ≤ length rest = grind (arith, nat_tests) in
        (omega arith, omega arith)

    by : (r : Result ℕ ℕ) → Whole request used ≡ with_body head end rest r → (end ≤ used) × (used ≤ end + length rest)
    by (Err status) k = absurd (cc)
    by (Ok n) k = long n (nat_lt (length rest) n) refl k

pub uses-some : (bytes : List ℕ) (request : Request) (used : ℕ) → IsRequest bytes (Whole request used) → (0 < used) × (used ≤ length bytes)
uses-some bytes request used asks = by (front_of bytes) refl asks
  where
    by : (front : Front) → front_of bytes ≡ front → IsRequestAfter front bytes (Whole request used) → (0 < used) × (used ≤ length bytes)
    by TooLong e x = absurd (cc)
    by Unfinished e x = absurd (cc)
    by (Ended end) e x =
        let within = ended-within bytes end e in
        let some = ended-some bytes end (front_of-ended bytes end e).1 in
        let uses = some_after x.0 end (drop end bytes) request used x.2 in
        let rest = length-drop end bytes in
        (omega (arith, uses.0), omega (arith, uses.1, within.0))

-- ---- the statuses of refusals

status_within : (head : Head) (m s : ℕ) → within head m ≡ Err s → IsRefusal s
status_within head m s h =
    refuses IsRefusal (refused_if (nat_lt 65536 m) 413) (plain head m) s
    (λ t e. inr (inl (status_is (nat_lt 65536 m) 413 t e)))
    (λ x e. refuses IsRefusal (refused_if (nat_lt 0 m && is_encoded head) 400) (given m) s (λ t k. inl (status_is (nat_lt 0 m && is_encoded head) 400 t k)) (λ y k. absurd (cc)) e)
    h

status_bytes : (head : Head) (s : ℕ) → body_length head ≡ Err s → IsRefusal s
status_bytes head s h =
    refuses IsRefusal (refused_if (has_wrong_hosts head) 400) (λ _. sent head) s
    (λ t e. inl (status_is (has_wrong_hosts head) 400 t e))
    (λ x e. refuses IsRefusal (refused_if (nat_lt 0 (count_of head (codes "transfer-encoding"))) 501) (λ _. stated head) s
    (λ t k. inr (inr (inr (status_is (nat_lt 0 (count_of head (codes "transfer-encoding"))) 501 t k))))
    (λ y k. refuses IsRefusal (ok_or (lengths head) 400) (within head) s (λ t l. inl (missing_is (lengths head) 400 t l)) (λ m l. status_within head m s l) k)
    e)
    h

status_after : (head : Option Head) (end : ℕ) (rest : List ℕ) (s : ℕ) → Bad s ≡ after_head head end rest → IsRefusal s
status_after None end rest s h = let same : s ≡ 400 = cc in inl same
status_after (Some head) end rest s h = by (body_length head) refl h
  where
    long : (n : ℕ) (v : Bool) → Bad s ≡ cond v NeedMore (Whole (request_of head (take n rest)) (end + n)) → IsRefusal s
    long n true k = absurd (cc)
    long n false k = absurd (cc)

    by : (r : Result ℕ ℕ) → body_length head ≡ r → Bad s ≡ with_body head end rest r → IsRefusal s
    by (Err status) e k = let same : status ≡ s = cc in status_bytes head s (e ∙ ap (λ n. Err n) same)
    by (Ok n) e k = long n (nat_lt (length rest) n) k

pub refuses-by-status : (bytes : List ℕ) (status : ℕ) → IsRequest bytes (Bad status) → IsRefusal status
refuses-by-status bytes status asks = by (front_of bytes) asks
  where
    by : (front : Front) → IsRequestAfter front bytes (Bad status) → IsRefusal status
    by TooLong x = let same : status ≡ 431 = cc in inr (inr (inl same))
    by Unfinished x = absurd (cc)
    by (Ended end) x = status_after x.0 end (drop end bytes) status x.2

pub progress-stays : (p : Progress) (bytes more : List ℕ) → IsProgress p bytes → IsProgress p (bytes ++ more)
progress-stays p bytes more is = record {
  scan = record {
    front = is.scan.front;
    rest = is.scan.rest ++ more;
    parts = ap (λ (l : List ℕ). l ++ more) is.scan.parts ∙ append_assoc is.scan.front is.scan.rest more;
    scan = is.scan.scan;
    few = is.scan.few;
  };
  least = λ others less.
      let moved : (bytes ++ more) ++ others ≡ bytes ++ (more ++ others) = append_assoc bytes more others in
      subst (λ (l : List ℕ). IsRequest l NeedMore) (sym moved) (is.least (more ++ others) (subst (λ (l : List ℕ). length l < p.least) moved less));
}

-- ---- what is answered once the head has ended

module _ (bytes : List ℕ) (end : ℕ) (front : front_of bytes ≡ Ended end) where
  pub asked : (next : Next) (head : Option Head) → IsHeadOf (take end bytes) head → next ≡ after_head head end (drop end bytes) → IsRequest bytes next
  asked next head is same = rw front (head, is, same)

  pub asked-bad : (head : Head) (status : ℕ) → IsHeadOf (take end bytes) (Some head) → body_length head ≡ Err status → IsRequest bytes (Bad status)
  asked-bad head status is refuses = asked (Bad status) (Some head) is (sym (ap (with_body head end (drop end bytes)) refuses))

  pub asked-whole : (head : Head) (n : ℕ) → IsHeadOf (take end bytes) (Some head) → body_length head ≡ Ok n → n ≤ length (drop end bytes)
      → IsRequest bytes (Whole (request_of head (take n (drop end bytes))) (end + n))
  asked-whole head n is long there =
      let all : nat_lt (length (drop end bytes)) n ≡ false = grind (arith, nat_tests) in
      let whole : with_body head end (drop end bytes) (Ok n) ≡ Whole (request_of head (take n (drop end bytes))) (end + n) = rw all refl in
      asked (Whole (request_of head (take n (drop end bytes))) (end + n)) (Some head) is (sym (ap (with_body head end (drop end bytes)) long ∙ whole))

  pub asked-more : (head : Head) (n : ℕ) → IsHeadOf (take end bytes) (Some head) → body_length head ≡ Ok n
      → (more : List ℕ) → length (bytes ++ more) < end + n → IsRequest (bytes ++ more) NeedMore
  asked-more head n is long more less =
      let same = ended-append bytes more end front in
      let same_front = same.0 in
      let there : IsHeadOf (take end (bytes ++ more)) (Some head) = subst (λ (l : List ℕ). IsHeadOf l (Some head)) (sym same.1) is in
      let rest = length-drop end (bytes ++ more) in
      let within = (ended-within bytes end front).0 in
      let total = length-append bytes more in
      let inside : end ≤ length (bytes ++ more) = omega arith in
      let some : nat_lt (length (drop end (bytes ++ more))) n ≡ true = lacks (length (bytes ++ more)) (length (drop end (bytes ++ more))) n rest inside less in
      let wants : with_body head end (drop end (bytes ++ more)) (Ok n) ≡ NeedMore = rw some refl in
      rw same_front (Some head, there, sym (ap (with_body head end (drop end (bytes ++ more))) long ∙ wants))
    where
      lacks : (all rest n : ℕ) → rest ≡ all - end → end ≤ all → all < end + n → nat_lt rest n ≡ true
      lacks all rest n e k l = grind (arith, nat_tests)

  pub asked-now : (head : Head) (n : ℕ) → IsHeadOf (take end bytes) (Some head) → body_length head ≡ Ok n → length (drop end bytes) < n → IsRequest bytes NeedMore
  asked-now head n is long less =
      let some : nat_lt (length (drop end bytes)) n ≡ true = grind (arith, nat_tests) in
      let wants : with_body head end (drop end bytes) (Ok n) ≡ NeedMore = rw some refl in
      asked NeedMore (Some head) is (sym (ap (with_body head end (drop end bytes)) long ∙ wants))
