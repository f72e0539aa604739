-- For this crate's own functions: what the code's tags, which borrow from a text, are as values.
use Rattle.markup.specs.declared.tags.Tag.{Tag}
use Rattle.markup.specs.declared.tags.Tag.TheVariants as code
use Rattle.markup.specs.declared.tags.Found.{Found}
use Rattle.markup.specs.Tags as spec

abbrev pub tag_of : Tag → spec.Tag
tag_of code.LineBreak = spec.LineBreak
tag_of (code.PageLink page name) = spec.PageLink page name.now
tag_of (code.AnchorStart url) = spec.AnchorStart url.now
tag_of (code.Start x) = spec.Start x
tag_of (code.End x) = spec.End x

abbrev pub seen : Found → spec.Found
seen found = record { tag = tag_of found.tag; rest = found.rest.now }
