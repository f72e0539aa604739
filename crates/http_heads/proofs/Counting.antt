-- A head of the grammar has a line that isn't empty for its start line and for each of its fields.
use Rattle.std.proofs.Common.{◌≡◌, ℕ, suc, ◌+◌, ◌<◌, ◌≤◌, Bool, true, false, cond, not, ◌==◌, List, [], ◌∷◌, ◌++◌, length, refl, sym, ap, ◌∙◌, arith, append_assoc}
use Rattle.std.specs.Prelude.{count_by}
use Rattle.std.specs.List.{All, flat_map}
use Rattle.std.proofs.lemmas.List.Sums.{sum_by-cons}
use Rattle.std.proofs.lemmas.Bool.Decides.{nat_tests}
use Rattle.httparse.specs.Grammar.{LineEnd, crlf, lf, print_end, print_blank, print_version, Field, IsField, print_field, RequestHead, ReadsRequest, AllPass, IsToken, is_token_byte, is_value_byte, is_uri_byte}
use Rattle.httparse.proofs.GrammarLemmas.{print_request-append, cons-append}
use Rattle.http_heads.specs.Lines.{is_end, whole_lines, is_filled, filled_lines}
use Rattle.http_heads.proofs.Lining.{Lines, whole_lines-finish, whole_lines-go_on}

-- no LF among the bytes
abbrev NoEnd : List ℕ → Type 0
NoEnd [] = Unit {0}
NoEnd (b ∷ bytes) = (is_end b ≡ false) × NoEnd bytes

NoEnd-append : (a b : List ℕ) → NoEnd a → NoEnd b → NoEnd (a ++ b)
NoEnd-append [] b h g = g
NoEnd-append (x ∷ a) b h g = (h.0, NoEnd-append a b h.1 g)

NoEnd-from : (test : ℕ → Bool) → ((b : ℕ) → test b ≡ true → is_end b ≡ false) → (bytes : List ℕ) → AllPass test bytes → NoEnd bytes
NoEnd-from test fact [] all = tt
NoEnd-from test fact (b ∷ bytes) all = (fact b (all 0 0 (omega arith)), NoEnd-from test fact bytes (λ k d inside. all (suc k) d (omega arith)))

no_lines : (bytes : List ℕ) → NoEnd bytes → whole_lines bytes ≡ []
no_lines [] h = refl
no_lines (b ∷ bytes) h =
    let n = h.0 in
    rw (n, no_lines bytes h.1) refl

-- a byte that passes the test, which one byte fails, isn't that one
not_byte : (test : ℕ → Bool) (x : ℕ) → test x ≡ false → (b : ℕ) → test b ≡ true → (b == x) ≡ false
not_byte test x fails b passes = by (b == x) refl
  where
    by : (v : Bool) → (b == x) ≡ v → v ≡ false
    by false e = refl
    by true e =
        let same : b ≡ x = grind (arith, nat_tests) in
        let both : true ≡ false = sym passes ∙ ap test same ∙ fails in
        absurd (cc)

token_10 : is_token_byte 10 ≡ false
unfolding is_token_byte
token_10 = refl

token_13 : is_token_byte 13 ≡ false
unfolding is_token_byte
token_13 = refl

-- the bytes begin a line that isn't empty
abbrev Begins : List ℕ → Type 0
Begins [] = ⊥
Begins (b ∷ bytes) = (b == 13) ≡ false

Begins-append : (a b : List ℕ) → Begins a → Begins (a ++ b)
Begins-append [] b h = absurd h
Begins-append (x ∷ a) b h = h

Begins-token : (bytes : List ℕ) → IsToken bytes → Begins bytes
Begins-token [] h = let no : 0 < 0 = h.0 in absurd (omega arith)
Begins-token (b ∷ bytes) h = not_byte is_token_byte 13 token_13 b (h.1 0 0 (omega arith))

filled-begins : (line : List ℕ) → Begins line → is_filled line ≡ true
filled-begins [] h = absurd h
filled-begins (b ∷ []) h = ap not h
filled-begins (b ∷ c ∷ line) h = refl

abbrev filled : Lines → ℕ
filled ls = count_by is_filled ls

count-cons : (l : List ℕ) (ls : Lines) → is_filled l ≡ true → filled (l ∷ ls) ≡ 1 + filled ls
count-cons l ls h = sum_by-cons (λ l. cond (is_filled l) 1 0) l ls ∙ ap (λ v. cond v 1 0 + filled ls) h

-- A line that isn't empty, whichever end it has, counts as one.
line_counts : (text : List ℕ) (end : LineEnd) (rest : List ℕ) → NoEnd text → Begins text → filled_lines (text ++ (print_end end ++ rest)) ≡ 1 + filled_lines rest
line_counts text lf rest free begins = ap filled (whole_lines-finish text rest (no_lines text free)) ∙ count-cons text (whole_lines rest) (filled-begins text begins)
line_counts text crlf rest free begins =
    let moved : text ++ 13 ∷ (10 ∷ rest) ≡ (text ++ 13 ∷ []) ++ 10 ∷ rest = sym (append_assoc text (13 ∷ []) (10 ∷ rest)) in
    let lines = whole_lines-finish (text ++ 13 ∷ []) rest (whole_lines-go_on text 13 (no_lines text free) refl) in
    ap filled_lines moved ∙ ap filled lines ∙ count-cons (text ++ 13 ∷ []) (whole_lines rest) (filled-begins (text ++ 13 ∷ []) (Begins-append text (13 ∷ []) begins))

-- Empty lines don't count.
blank_counts : (ends : List LineEnd) (rest : List ℕ) → filled_lines (print_blank ends ++ rest) ≡ filled_lines rest
blank_counts [] rest = refl
blank_counts (lf ∷ ends) rest = blank_counts ends rest
blank_counts (crlf ∷ ends) rest = blank_counts ends rest

value_no_end : (b : ℕ) → is_value_byte b ≡ true → is_end b ≡ false
value_no_end b h = not_byte is_value_byte 10 refl b h

uri_no_end : (b : ℕ) → is_uri_byte b ≡ true → is_end b ≡ false
uri_no_end b h = not_byte is_uri_byte 10 refl b h

token_no_end : (b : ℕ) → is_token_byte b ≡ true → is_end b ≡ false
token_no_end b h = not_byte is_token_byte 10 token_10 b h

field_text : Field → List ℕ
field_text f = f.name ++ 58 ∷ f.raw

field_counts : (f : Field) (rest : List ℕ) → IsField f → filled_lines (print_field f ++ rest) ≡ 1 + filled_lines rest
field_counts f rest is =
    let text = f.name ++ 58 ∷ f.raw in
    let moved : print_field f ++ rest ≡ text ++ (print_end f.end ++ rest) = simp (append_assoc, cons-append) in
    let free : NoEnd text = NoEnd-append f.name (58 ∷ f.raw) (NoEnd-from is_token_byte token_no_end f.name is.name.1) (refl, NoEnd-from is_value_byte value_no_end f.raw is.raw) in
    ap filled_lines moved ∙ line_counts text f.end rest free (Begins-append f.name (58 ∷ f.raw) (Begins-token f.name is.name))

fields_count : (fields : List Field) (rest : List ℕ) → All IsField fields → filled_lines (flat_map print_field fields ++ rest) ≡ length fields + filled_lines rest
fields_count [] rest all = omega arith
fields_count (f ∷ fields) rest all =
    let moved : (print_field f ++ flat_map print_field fields) ++ rest ≡ print_field f ++ (flat_map print_field fields ++ rest) = append_assoc (print_field f) (flat_map print_field fields) rest in
    let one = field_counts f (flat_map print_field fields ++ rest) (all 0 f (omega arith)) in
    let others = fields_count fields rest (λ k d inside. all (suc k) d (omega arith)) in
    ap filled_lines moved ∙ one ∙ ap (λ n. 1 + n) others ∙ omega arith

-- A head has at most as many fields as lines that aren't empty, less one for its start line.
pub fields_few : (bytes : List ℕ) (h : RequestHead) → ReadsRequest bytes h [] → 1 + length h.fields ≤ filled_lines bytes
fields_few bytes h reads =
    let is = reads.0 in
    let section = flat_map print_field h.fields ++ print_end h.last in
    let start = h.method ++ 32 ∷ (h.target ++ 32 ∷ print_version h.minor) in
    let laid : bytes ≡ print_blank h.blank ++ (start ++ (print_end h.line_end ++ (section ++ []))) =
    reads.1 ∙ print_request-append h [] ∙ ap (λ (l : List ℕ). print_blank h.blank ++ l) (sym (regroup h.method h.target (print_version h.minor) (print_end h.line_end ++ (section ++ [])))) in
    let small : h.minor ≤ 1 = is.minor in
    let digit : is_end (48 + h.minor) ≡ false = grind (arith, nat_tests) in
    let version : NoEnd (print_version h.minor) = (refl, (refl, (refl, (refl, (refl, (refl, (refl, (digit, tt)))))))) in
    let free : NoEnd start = NoEnd-append h.method _ (NoEnd-from is_token_byte token_no_end h.method is.method.1)
    (refl, NoEnd-append h.target _ (NoEnd-from is_uri_byte uri_no_end h.target is.target.1) (refl, version)) in
    let first = line_counts start h.line_end (section ++ []) free (Begins-append h.method _ (Begins-token h.method is.method)) in
    let fields : filled_lines (section ++ []) ≡ length h.fields + filled_lines (print_end h.last ++ []) = ap filled_lines (append_assoc (flat_map print_field h.fields) (print_end h.last) []) ∙ fields_count h.fields (print_end h.last ++ []) is.fields in
    let all : filled_lines bytes ≡ 1 + filled_lines (section ++ []) = ap filled_lines laid ∙ blank_counts h.blank _ ∙ first in
    omega arith
  where
    regroup : (a b c r : List ℕ) → (a ++ 32 ∷ (b ++ 32 ∷ c)) ++ r ≡ a ++ 32 ∷ (b ++ 32 ∷ (c ++ r))
    regroup a b c r = simp (append_assoc, cons-append)
