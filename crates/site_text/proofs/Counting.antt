-- How many records a site's lines have, and how many lines a text.
use Rattle.std.proofs.Common.{ℕ, ◌≡◌, ◌+◌, ◌≤◌, Bool, true, false, List, [], ◌∷◌, ◌++◌, Result, Ok, Err, length, ap, sym, ◌∙◌, refl, arith, if◌then◌else◌}
use Rattle.std.specs.List.{onto_first}
use Rattle.std.proofs.lemmas.List.{length_push}
use Rattle.trust_types.specs.declared.records.Record.{Record}
use Rattle.trust_types.specs.Tables.{Table}
use Rattle.text_lines.specs.declared.faults.TextKind.{TextKind}
use Rattle.text_lines.specs.declared.faults.TextKind.TheVariants.{BadLine}
use Rattle.text_lines.specs.Words.{lines, is_end, words, is_line}
use Rattle.text_lines.specs.Reading.{reading}
use Rattle.text_lines.specs.Steps.{fault_unless}
use Rattle.text_lines.proofs.Following.{reading-bad, reading-more}
use Rattle.text_lines.proofs.Stepping.{bind-ok}
use Rattle.site_lines.specs.Site.{site_line, form}
use Rattle.site_text.specs.Site.{fault}

-- Each line adds one record.
grown : (table : Table) (k next : List Record) (line : List ℕ) → site_line table k line ≡ Ok next → length next ≡ length k + 1
unfolding site_line
grown table k next line e =
    let one = bind-ok (fault_unless (is_line line) BadLine) _ next e in
    let said = bind-ok (form table k (words line)) _ next one.2 in
    let is : ◌≡◌ {A = Result (List Record) TextKind} (Ok (k ++ said.0 ∷ [])) (Ok next) = said.2 in
    let same : k ++ said.0 ∷ [] ≡ next = cc in
    ap length (sym same) ∙ length_push k said.0

reading-length_by : (table : Table) (n : ℕ) (k all : List Record) (line : List ℕ) (others : List (List ℕ)) (r : Result (List Record) TextKind) → site_line table k line ≡ r →
    reading (site_line table) n k (line ∷ others) ≡ Ok all →
    ((next : List Record) → reading (site_line table) (n + 1) next others ≡ Ok all → length all ≡ length next + length others) →
    length all ≡ length k + length (line ∷ others)
reading-length_by table n k all line others (Err kind) e read further = let clash : Err (fault n kind) ≡ Ok all = sym (reading-bad (site_line table) n k line others kind e) ∙ read in cc
reading-length_by table n k all line others (Ok next) e read further =
    let more : length all ≡ length next + length others = further next (sym (reading-more (site_line table) n k line others next e) ∙ read) in
    omega (arith, more, grown table k next line e)

pub reading-length : (table : Table) (n : ℕ) (k all : List Record) (others : List (List ℕ)) → reading (site_line table) n k others ≡ Ok all → length all ≡ length k + length others
unfolding reading
reading-length table n k all [] e = let same : k ≡ all = cc in ap length (sym same) ∙ omega arith
reading-length table n k all (line ∷ others) e = reading-length_by table n k all line others (site_line table k line) refl e (λ next read. reading-length table (n + 1) next all others read)

onto_first-le : (byte : ℕ) (ls : List (List ℕ)) (m : ℕ) → length ls ≤ m → length (onto_first byte ls) ≤ m + 1
onto_first-le byte [] m le = omega arith
onto_first-le byte (l ∷ ls) m le = omega (arith, le)

lines-le_by : (b : Bool) (byte : ℕ) (ls : List (List ℕ)) (m : ℕ) → length ls ≤ m → length (if b then [] ∷ ls else onto_first byte ls) ≤ m + 1
lines-le_by true byte ls m le = omega (arith, le)
lines-le_by false byte ls m le = onto_first-le byte ls m le

-- A text has no more lines than bytes.
pub lines-le : (bytes : List ℕ) → length (lines bytes) ≤ length bytes
unfolding lines
lines-le [] = omega arith
lines-le (byte ∷ bytes) = omega (arith, lines-le_by (is_end byte) byte (lines bytes) (length bytes) (lines-le bytes))
