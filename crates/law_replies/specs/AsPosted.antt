-- What was posted under an id. A past has its newest entry first.
use Rattle.std.specs.Prelude.{◌≡◌, List}
use Rattle.chorus_entry.specs.declared.entry.Entry.{Entry}
use Rattle.chorus_entry.specs.declared.dest.Dest.{Dest}
use Rattle.chorus_entry.specs.declared.message.Message.{Message}
use Rattle.chorus_entry.specs.declared.act.Act.{Act}
use Rattle.chorus_world.specs.Posts.{source}
use Rattle.chorus_world.specs.SentLaws.{StandsIn}

-- m has the tag and the body that were posted under its id, and a copy those of the post of which it is a copy
pub record IsAsPosted (m : Message) (past : List Entry) : Type 0 where
  pub entry : Entry
  pub message : Message
  pub dest : Dest
  pub stands : StandsIn entry past
  pub posts : entry.act ≡ Act.Post message dest
  pub id : message.id ≡ source m.id
  pub tag : m.tag ≡ message.tag
  pub body : m.body ≡ message.body
