-- What a message is beside its body.
use Rattle.std.specs.Prelude.{Bool, true, false, ◌&&◌, ◌==◌}
use Rattle.chorus_ui.specs.Name.{same_ui}
use Rattle.chorus_entry.specs.declared.tag.Tag.{Tag}
use Rattle.chorus_entry.specs.declared.tag.Tag.TheVariants.{Plain, Request, Reply}

-- the two tags are one
abbrev pub same_tag : Tag → Tag → Bool
same_tag Plain Plain = true
same_tag (Request n q) (Request m r) = (n == m) && same_ui q r
same_tag (Reply c n) (Reply d m) = (c == d) && (n == m)
same_tag _ _ = false
