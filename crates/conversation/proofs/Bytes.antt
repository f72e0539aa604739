-- Bytes that are read, moved and written.
use Rattle.std.proofs.Common.{ℕ, ◌≡◌, ◌+◌, ◌-◌, ◌<◌, ◌≤◌, List, [], ◌++◌, length, take, drop, refl, sym, ap, ◌∙◌, arith, subst, length-drop, length-append, append_assoc}
use Rattle.std.specs.Io.KnownBytes.{prepend_known, append_known}
use Rattle.std.proofs.lemmas.List.{take-append-le, drop-append-le, length-take-le, drop-take, append-nil, take-take, take-append-drop}
use Rattle.std.proofs.lemmas.List.Edits.{take-paste}
use Rattle.std.proofs.Math.Seq.{take-append-add, paste}
use Rattle.std.specs.Prelude.{Result, Ok, Err, MatchResult}
use Rattle.http_requests.specs.declared.progress.Progress.{Progress}
use Rattle.http_requests.specs.Progress.{IsProgress}
use Rattle.http_requests.proofs.Asking.{progress-stays}
use Rattle.outside.specs.Bytes.{Told}
use Rattle.outside.specs.Causes.{one_more}
use Rattle.outside.proofs.Known.{append_known-nil, append_known-append, prepend_known-nil, prepend_known-prepend}
use Rattle.outside_serving.specs.Links.{Line, Broke, Put, Took}
use Rattle.conversation.specs.inner.Hearing.{Got, Reads, Stuck}

pulled : (xs into post : List ℕ) (s e n : ℕ) → s ≤ e → e ≤ length xs → n ≤ length into
    → drop s (take (e + n) (take e xs ++ (into ++ post))) ≡ drop s (take e xs) ++ take n into
pulled xs into post s e n p q r =
    let long : length (take e xs) ≡ e = length-take-le e xs q in
    let a : take (e + n) (take e xs ++ (into ++ post)) ≡ take e xs ++ take n (into ++ post) =
    subst (λ (k : ℕ). take (k + n) (take e xs ++ (into ++ post)) ≡ take e xs ++ take n (into ++ post)) long (take-append-add (take e xs) (into ++ post) n) in
    let b : take n (into ++ post) ≡ take n into = take-append-le n into post r in
    ap (drop s) (a ∙ ap (λ (z : List ℕ). take e xs ++ z) b) ∙ drop-append-le s (take e xs) (take n into) (omega arith)

-- a read into the places behind the bytes of a buffer
pub got : (o m : Line) (xs into post rest : List ℕ) (s e k : ℕ) → s ≤ e → e ≤ length xs → e ≤ s + 81920 → length into ≤ s + 81920 - e → drop s (take e xs) ≡ rest → k ≤ length into → Took o m k into
    → Got o m rest (drop s (take (e + k) (take e xs ++ (into ++ post)))) k
got o m xs into post rest s e k p q r l same few t =
    let grows = pulled xs into post s e k p q few ∙ ap (λ (z : List ℕ). z ++ take k into) same in
    let long : length (take k into) ≡ k = length-take-le k into few in
    let before : length rest ≡ e - s = sym (ap length same) ∙ (length-drop s (take e xs) ∙ ap (λ (z : ℕ). z - s) (length-take-le e xs q)) in
    record {
      bytes = take k into;
      long = long;
      within = rw grows (omega (arith, length-append rest (take k into), few));
      grows = grows;
      read = t.bytes;
      written = t.written;
      faults = t.faults;
      ended = t.ended;
      ends = t.ends;
    }

-- bytes that are moved to the front
pub moved : (xs : List ℕ) (s e : ℕ) → s ≤ e → e ≤ length xs → take (e - s) (paste xs 0 (drop s xs) (e - s)) ≡ drop s (take e xs)
moved xs s e p q =
    let a : take (0 + (e - s)) (paste xs 0 (drop s xs) (e - s)) ≡ take 0 xs ++ take (e - s) (drop s xs) =
    take-paste xs 0 (drop s xs) (e - s) (omega arith) (omega (arith, length-drop s xs)) in
    let b : drop s (take (s + (e - s)) xs) ≡ take (e - s) (drop s xs) = drop-take s (e - s) xs in
    let z : 0 + (e - s) ≡ e - s = omega arith in
    let y : s + (e - s) ≡ e = omega arith in
    subst (λ (k : ℕ). take k (paste xs 0 (drop s xs) (e - s)) ≡ take (e - s) (drop s xs)) z a
    ∙ sym (subst (λ (k : ℕ). drop s (take k xs) ≡ take (e - s) (drop s xs)) y b)

-- what reads one after the other did
pub prepend_twice : (o m n : Told) (a b : List ℕ) → o ≡ prepend_known a m → m ≡ prepend_known b n → o ≡ prepend_known (a ++ b) n
prepend_twice o m n a b p q = p ∙ (ap (prepend_known a) q ∙ prepend_known-prepend a b n)

-- what writes one after the other did
pub append_twice : (o m n : Told) (a b : List ℕ) → m ≡ append_known o a → n ≡ append_known m b → n ≡ append_known o (a ++ b)
append_twice o m n a b p q = q ∙ (ap (λ (z : Told). append_known z b) p ∙ append_known-append o a b)

pub reads_none : (o : Line) (rest : List ℕ) → Reads o o rest rest
reads_none o rest = record { bytes = []; grows = sym (append-nil rest); read = sym (prepend_known-nil o.left); written = refl; few = λ l. l }

pub reads_got : (o m n : Line) (rest more most : List ℕ) (k : ℕ) → Reads o m rest more → Got m n more most k → Reads o n rest most
reads_got o m n rest more most k h g =
    record {
      bytes = h.bytes ++ g.bytes;
      grows = g.grows ∙ (ap (λ (z : List ℕ). z ++ g.bytes) h.grows ∙ append_assoc rest h.bytes g.bytes);
      read = prepend_twice o.left m.left n.left h.bytes g.bytes h.read g.read;
      written = g.written ∙ h.written;
      few = λ _. g.within;
    }

pub reads_broke : (o m n : Line) (rest more most : List ℕ) → Reads o m rest more → Broke m n → most ≡ more → Reads o n rest most
reads_broke o m n rest more most h b e =
    record { bytes = h.bytes; grows = e ∙ h.grows; read = h.read ∙ ap (prepend_known h.bytes) (sym b.left); written = b.written ∙ h.written; few = λ l. subst (λ (z : List ℕ). length z ≤ 81920) (sym e) (h.few l) }

pub put_none : (o : Line) (piece : List ℕ) → Put o o (take 0 piece)
put_none o piece = record { left = refl; written = sym (append_known-nil o.written); faults = refl; ends = refl }

take_on : (xs : List ℕ) (i k : ℕ) → take i xs ++ take k (drop i xs) ≡ take (i + k) xs
take_on xs i k =
    let l : i ≤ i + k = omega arith in
    ap (λ (z : List ℕ). z ++ take k (drop i xs)) (sym (take-take i (i + k) xs l)) ∙ (ap (λ (z : List ℕ). take i (take (i + k) xs) ++ z) (sym (drop-take i k xs)) ∙ take-append-drop i (take (i + k) xs))

pub put_more : (o m n : Line) (piece : List ℕ) (i k : ℕ) → Put o m (take i piece) → Put m n (take k (drop i piece)) → Put o n (take (i + k) piece)
put_more o m n piece i k a b =
    record {
      left = b.left ∙ a.left;
      written = append_twice o.written m.written n.written _ _ a.written b.written ∙ ap (append_known o.written) (take_on piece i k);
      faults = b.faults ∙ a.faults;
      ends = b.ends ∙ a.ends;
    }

pub put_stuck : (o m n : Line) (piece : List ℕ) (i : ℕ) → i < length piece → Put o m (take i piece) → Broke m n → Stuck o n piece
put_stuck o m n piece i short a b =
    record {
      left = b.left ∙ a.left;
      said = i;
      short = short;
      written = b.written ∙ a.written;
      faults = b.faults ∙ ap one_more a.faults;
      ends = b.ends ∙ a.ends;
    }

-- what is known of bytes is known of them after a read
pub known_later : {E : Type 0} (p : Progress) (before now : Line) (rest more : List ℕ) (r : Result ℕ E)
    → MatchResult r (λ n. Got before now rest more n) (λ _. Broke before now × (more ≡ rest)) → IsProgress p rest → IsProgress p more
known_later p before now rest more (Ok n) g is = subst (λ (z : List ℕ). IsProgress p z) (sym g.grows) (progress-stays p rest g.bytes is)
known_later p before now rest more (Err e) b is = subst (λ (z : List ℕ). IsProgress p z) (sym b.1) is
