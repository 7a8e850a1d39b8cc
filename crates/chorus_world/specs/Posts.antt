-- Posts: what was posted under an id, and for whom. The first Post of an id settles it for ever.
use Rattle.std.specs.Prelude.{ℕ, ◌==◌, Bool, true, if◌then◌else◌, List, [], ◌∷◌, Option, Some, None}
use Rattle.std.specs.Option.{option_or}
use Rattle.chorus_ui.specs.declared.layout.Layout.{Layout}
use Rattle.chorus_ui.specs.Layout.{site_of}
use Rattle.chorus_entry.specs.declared.entry.Entry.{Entry}
use Rattle.chorus_entry.specs.declared.id.MsgId.{MsgId}
use Rattle.chorus_entry.specs.declared.tag.Tag.{Tag}
use Rattle.chorus_entry.specs.declared.tag.Tag.TheVariants.{Plain}
use Rattle.chorus_entry.specs.declared.dest.Dest.{Dest}
use Rattle.chorus_entry.specs.declared.message.Message.{Message}
use Rattle.chorus_entry.specs.declared.act.Act.{Act}
use Rattle.chorus_entry.specs.declared.act.Act.TheVariants.{Post}
use Rattle.chorus_entry.specs.Dest.{site_in}
use Rattle.chorus_entry.specs.MsgId.{same_id}
use Rattle.chorus_world.specs.Views.{by}

-- a post: where it was made, the message, and where it goes
pub record Posted : Type 0 where
  pub place : ℕ
  pub message : Message
  pub dest : Dest

abbrev pub posted_by : MsgId → ℕ → Act → Option Posted
posted_by x p (Post m d) = if same_id m.id x then Some (record { place = p; message = m; dest = d }) else None
posted_by x p _ = None

abbrev pub posted_in : MsgId → List Entry → Option Posted
posted_in x [] = None
posted_in x (e ∷ mine) = option_or (posted_in x mine) (posted_by x e.place e.act)

-- the post with copy 0 of which x is a copy, or x itself
abbrev pub source : MsgId → MsgId
source x = record x { copy = 0 }

-- that post, among the entries of its seat
abbrev pub post_of : MsgId → List Entry → Option Posted
post_of x past = posted_in (source x) (by x.seat past)

-- the message x as it was posted; plain and empty where it was not
abbrev pub as_posted : MsgId → Option Posted → Message
as_posted x None = record { id = x; tag = Plain; body = [] }
as_posted x (Some m) = record m.message { id = x }

abbrev pub tag_from : Option Posted → Tag
tag_from None = Plain
tag_from (Some m) = m.message.tag

-- the tag of the message x, which its copies share
abbrev pub tag_of : MsgId → List Entry → Tag
tag_of x past = tag_from (post_of x past)

-- the site on which alone a functional message at a site may be accepted
abbrev pub site_from : Option Posted → Option ℕ
site_from None = None
site_from (Some m) = site_in m.dest

abbrev pub site_asked : MsgId → List Entry → Option ℕ
site_asked x past = site_from (post_of x past)

-- the place is on the site, where one is asked for
abbrev pub is_on_site : Layout → Option ℕ → ℕ → Bool
is_on_site l None p = true
is_on_site l (Some s) p = site_of l p == s
