use Rattle.std.proofs.Common.{ℕ, Vec, Global, ap, ◌∙◌, string_bytes, rules}
use Rattle.site_records.proofs.Written.{cert_written}
use Rattle.site_records.proofs.writing.cert_row.Goals as goal

pub returns : goal.returns
returns c =
    ap (λ (v : Vec ℕ Global). v.items) c.into_bytes.ensures.value ∙
    cert_written (string_bytes c.in_ok-text.text) (string_bytes c.put_plain.new.text) (string_bytes c.put_plain-2.new.text) (string_bytes c.put_plain-3.new.text)
    (string_bytes c.push_str.new.self) (string_bytes c.push_str-2.new.self) c.args.moment c.args.author c.args.subject c.args.level
    (search rules) (search rules) (search rules) c.in_ok-text.ensures.bytes c.in_ok-put_plain.ensures (search rules) (search rules) c.in_ok-push_str.ensures.bytes (search rules)
