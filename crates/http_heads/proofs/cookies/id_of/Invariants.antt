use Rattle.std.proofs.Common.{◌≡◌, option_map}
use Rattle.std.specs.List.{slice_split}
use Rattle.http_heads.specs.Parts.{parts_of}
use Rattle.http_heads.specs.Cookies.{first_given, id_in, is_part_end}
use Rattle.http_heads.proofs.Finding.{left_over}
use Rattle.http_heads.proofs.cookies.id_of.Given as goal

abbrev pub invariant-parts : goal.invariant-parts
invariant-parts l = first_given id_in (slice_split is_part_end l.value) ≡ first_given id_in (parts_of is_part_end (option_map (λ bytes. bytes.now) l.left))

abbrev pub decreases-parts : goal.decreases-parts
decreases-parts l = left_over (option_map (λ bytes. bytes.now) l.left)
