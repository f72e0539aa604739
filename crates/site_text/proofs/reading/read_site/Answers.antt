use Rattle.std.proofs.Common.{ℕ, ◌≡◌, ◌+◌, ◌<◌, [], List, Ok, Err, length, All, vec_len, rules, ◌≤◌, subst, ap, sym, ◌∙◌, arith}
use Rattle.std.specs.Prelude.{IfSome, option_map}
use Rattle.std.specs.List.{before_first}
use Rattle.trust_types.specs.declared.records.Record.{Record}
use Rattle.trust_types.specs.Tables.{Table, has_level}
use Rattle.trust_types.specs.Graph.{KeepsLevels}
use Rattle.trust_types.specs.Kept.{accounts, kept_certificates}
use Rattle.trust_types.specs.Certs.{IsMadeOf, CanStand}
use Rattle.frozen.specs.Revision.{certificates}
use Rattle.text_lines.specs.Words.{lines}
use Rattle.text_lines.specs.Reading.{reading}
use Rattle.text_lines.specs.Steps.{◌>>=◌}
use Rattle.text_lines.proofs.Stepping.{refused_text, passed_text}
use Rattle.site_lines.specs.Site.{site_line}
use Rattle.site_lines.proofs.Graphs.{parts_graph}
use Rattle.site_lines.proofs.Keeping.{keeps-none, keeps-reading}
use Rattle.site_text.specs.Faults.{fault_of}
use Rattle.site_text.specs.declared.faults.SiteFault.TheVariants.{Text}
use Rattle.site_text.specs.Site.{site_of, table_of, head_count, behind_head}
use Rattle.site_text.specs.View.{IsFrozenOf}
use Rattle.site_text.proofs.Composing.{with_table, with_records}
use Rattle.site_text.proofs.Counting.{reading-length, lines-le}
use Rattle.site_text.proofs.Heading.{behind-le}
use Rattle.site_text.proofs.Parting.{never, before-never, all-read}
use Rattle.site_text.proofs.reading.read_site.Goals as goal

pub returns-in_err-caps-clause-read : goal.returns-in_err-caps-clause-read
unfolding site_of
returns-in_err-caps-clause-read c =
    let same : c.of-text.result.bytes ≡ c.args.bytes.now = ap (λ u. u.bytes) c.of-text.ensures in
    refused_text (λ f s. IsFrozenOf s f.value) fault_of c.from_residual.result (table_of (lines c.args.bytes.now)) (with_table (lines c.args.bytes.now)) (Text c.in_err-caps.field-0.0)
    c.from_residual.ensures.1 (ap (λ bs. table_of (lines bs)) (sym same) ∙ sym c.in_err-caps.ensures.table)

pub returns-in_err-part-clause-read : goal.returns-in_err-part-clause-read
unfolding site_of
returns-in_err-part-clause-read c =
    let same : c.of-text.result.bytes ≡ c.args.bytes.now = ap (λ u. u.bytes) c.of-text.ensures in
    let ls : List (List ℕ) = lines c.args.bytes.now in
    let table : Table = c.in_ok-caps.caps in
    let start : c.read_head.new.text.number ≡ head_count ls = c.in_ok-caps.ensures.number ∙ ap (λ bs. head_count (lines bs)) same in
    let all : before_first never (lines c.read_head.new.text.bytes) ≡ behind_head ls = before-never _ ∙ c.in_ok-caps.ensures.left ∙ ap (λ bs. behind_head (lines bs)) same in
    passed_text (λ f s. IsFrozenOf s f.value) fault_of c.from_residual-in_err-part.result (table_of ls) (with_table ls) table
    (ap (λ bs. table_of (lines bs)) (sym same) ∙ sym c.in_ok-caps.ensures.table)
    (refused_text (λ f s. IsFrozenOf s f.value) fault_of c.from_residual-in_err-part.result (reading (site_line table) (head_count ls + 1) [] (behind_head ls)) (with_records table) c.in_err-part.field-0.0
    c.from_residual-in_err-part.ensures.1 (subst (λ said. IfSome (fault_of c.in_err-part.field-0.0) (λ f. said ≡ Err f)) (λ i. reading (site_line table) (start i + 1) [] (all i)) c.in_err-part.ensures.read))

pub overflow_sub-revision : goal.overflow_sub-revision
overflow_sub-revision c =
    let number : c.read_site_part.new.text.number ≡ c.read_head.new.text.number + length (lines c.read_head.new.text.bytes) =
    all-read (option_map (λ l. l.now) c.in_ok-part.part.level_line) (lines c.read_head.new.text.bytes) (lines c.read_site_part.new.text.bytes) c.read_head.new.text.number c.read_site_part.new.text.number c.in_ok-part.ensures.left c.in_ok-part.ensures.number in
    omega (arith, number)

-- all lines were read
pub overflow_cast-revision : goal.overflow_cast-revision
overflow_cast-revision c =
    let same : c.of-text.result.bytes ≡ c.args.bytes.now = ap (λ u. u.bytes) c.of-text.ensures in
    let number : c.read_site_part.new.text.number ≡ c.read_head.new.text.number + length (lines c.read_head.new.text.bytes) =
    all-read (option_map (λ l. l.now) c.in_ok-part.part.level_line) (lines c.read_head.new.text.bytes) (lines c.read_site_part.new.text.bytes) c.read_head.new.text.number c.read_site_part.new.text.number c.in_ok-part.ensures.left c.in_ok-part.ensures.number in
    let left : lines c.read_head.new.text.bytes ≡ behind_head (lines c.args.bytes.now) = c.in_ok-caps.ensures.left ∙ ap (λ bs. behind_head (lines bs)) same in
    omega (arith, number, ap length left, behind-le (lines c.args.bytes.now), lines-le c.args.bytes.now, c.requires.few)

pub freeze-requires-clause-few : goal.freeze-requires-clause-few
freeze-requires-clause-few c =
    let parts = c.in_ok-site.ensures c.in_ok-part.ensures.read.0 c.in_ok-part.ensures.read.2 in
    let n : length c.in_ok-site.site.names.items ≡ vec_len c.in_ok-site.site.names = search rules in
    omega (arith, n, ap length parts.named, parts.few)

pub freeze-requires-clause-apart : goal.freeze-requires-clause-apart
freeze-requires-clause-apart c = (c.in_ok-site.ensures c.in_ok-part.ensures.read.0 c.in_ok-part.ensures.read.2).apart

pub freeze-requires-clause-seeds : goal.freeze-requires-clause-seeds
freeze-requires-clause-seeds c =
    let parts = c.in_ok-site.ensures c.in_ok-part.ensures.read.0 c.in_ok-part.ensures.read.2 in
    let n : length c.in_ok-site.site.names.items ≡ vec_len c.in_ok-site.site.names = search rules in
    subst (λ n. All (λ a. a < n) c.in_ok-site.site.seeds.items) (sym (ap length parts.named) ∙ n) parts.among

pub freeze-requires-clause-certs : goal.freeze-requires-clause-certs
freeze-requires-clause-certs c =
    let parts = c.in_ok-site.ensures c.in_ok-part.ensures.read.0 c.in_ok-part.ensures.read.2 in
    let n : length c.in_ok-site.site.names.items ≡ vec_len c.in_ok-site.site.names = search rules in
    subst (λ n. CanStand n c.in_ok-site.site.certs.items) (sym (ap length parts.named) ∙ n) parts.stand

pub returns-clause-read : goal.returns-clause-read
unfolding site_of
returns-clause-read c =
    let same : c.of-text.result.bytes ≡ c.args.bytes.now = ap (λ u. u.bytes) c.of-text.ensures in
    let ls : List (List ℕ) = lines c.args.bytes.now in
    let table : Table = c.in_ok-caps.caps in
    let others : List (List ℕ) = lines c.read_head.new.text.bytes in
    let start : c.read_head.new.text.number ≡ head_count ls = c.in_ok-caps.ensures.number ∙ ap (λ bs. head_count (lines bs)) same in
    let all : before_first never others ≡ behind_head ls = before-never others ∙ c.in_ok-caps.ensures.left ∙ ap (λ bs. behind_head (lines bs)) same in
    let k : List Record = c.in_ok-part.ensures.read.0 in
    let read : reading (site_line table) (c.read_head.new.text.number + 1) [] (before_first never others) ≡ Ok k = c.in_ok-part.ensures.read.1 in
    let number : c.read_site_part.new.text.number ≡ c.read_head.new.text.number + length (lines c.read_head.new.text.bytes) =
    all-read (option_map (λ l. l.now) c.in_ok-part.part.level_line) (lines c.read_head.new.text.bytes) (lines c.read_site_part.new.text.bytes) c.read_head.new.text.number c.read_site_part.new.text.number c.in_ok-part.ensures.left c.in_ok-part.ensures.number in
    let parts = c.in_ok-site.ensures k c.in_ok-part.ensures.read.2 in
    let frozen = c.in_ok-freeze.ensures in
    let made : IsMadeOf (certificates c.in_ok-freeze.field-0.value) (length (accounts k)) c.in_ok-site.site.seeds.items c.in_ok-site.site.certs.items =
    subst (λ n. IsMadeOf (certificates c.in_ok-freeze.field-0.value) n c.in_ok-site.site.seeds.items c.in_ok-site.site.certs.items) (ap length parts.named) frozen.graph in (
      record { table = table; records = k },
      ap (λ r. r >>= with_table ls) (ap (λ bs. table_of (lines bs)) (sym same) ∙ sym c.in_ok-caps.ensures.table)
          ∙ ap (λ r. r >>= with_records table) (sym (λ i. reading (site_line table) (start i + 1) [] (all i)) ∙ read),
      record {
        same = λ i. record { table = frozen.table i; names = (frozen.named ∙ parts.named) i; graph = parts_graph k c.in_ok-site.site (certificates c.in_ok-freeze.field-0.value) parts made i };
        number = omega (arith, frozen.revision, number, ap length (before-never others), reading-length table (c.read_head.new.text.number + 1) [] k (before_first never others) read);
      },
    )

pub returns-clause-levels : goal.returns-clause-levels
returns-clause-levels c =
    let k : List Record = c.in_ok-part.ensures.read.0 in
    let table : Table = c.in_ok-caps.caps in
    let parts = c.in_ok-site.ensures k c.in_ok-part.ensures.read.2 in
    let frozen = c.in_ok-freeze.ensures in
    let made : IsMadeOf (certificates c.in_ok-freeze.field-0.value) (length (accounts k)) c.in_ok-site.site.seeds.items c.in_ok-site.site.certs.items =
    subst (λ n. IsMadeOf (certificates c.in_ok-freeze.field-0.value) n c.in_ok-site.site.seeds.items c.in_ok-site.site.certs.items) (ap length parts.named) frozen.graph in
    let keeps : KeepsLevels table (kept_certificates k) = keeps-reading table _ [] k _ (keeps-none table c.in_ok-caps.ensures.levels) c.in_ok-part.ensures.read.1 in
    λ a b. (λ i. has_level (frozen.table i) ((parts_graph k c.in_ok-site.site (certificates c.in_ok-freeze.field-0.value) parts made i).standing a b)) ∙ keeps a b
