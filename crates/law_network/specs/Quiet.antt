-- Nothing is left to be done (quiescence).
-- l is a layout, p the number of a place, q a port, x an id, d a destination. A past has its newest entry first.
use Rattle.std.specs.Prelude.{ℕ, ◌≡◌, ◌≢◌, Bool, false, List, [], Option, Some, None}
use Rattle.chorus_ui.specs.declared.ui.Ui.{Ui}
use Rattle.chorus_ui.specs.declared.layout.Layout.{Layout}
use Rattle.chorus_entry.specs.declared.entry.Entry.{Entry}
use Rattle.chorus_entry.specs.declared.id.MsgId.{MsgId}
use Rattle.chorus_entry.specs.declared.dest.Dest.{Dest}
use Rattle.chorus_entry.specs.declared.answer.Answer.{Answer}
use Rattle.chorus_entry.specs.declared.act.Act.{Act}
use Rattle.chorus_entry.specs.declared.packet.Packet.{Packet}
use Rattle.chorus_world.specs.declared.progress.Progress.TheVariants.{Asked}
use Rattle.chorus_world.specs.Views.{at, about, on, views}
use Rattle.chorus_world.specs.Messages.{progress}
use Rattle.chorus_world.specs.Ports.{PortState, fate, is_moving}
use Rattle.chorus_world.specs.Places.{sent, unsettled, just_taken}
use Rattle.chorus_world.specs.Steps.{may_hear}

-- the port is made, and on its way
abbrev pub is_moving_port : Option PortState → Bool
is_moving_port None = false
is_moving_port (Some f) = is_moving f.spot

-- no packet is left and no port is on its way; each place has each message settled that was sent from it; each post to
-- a group has its choice; nothing more is to be heard; and no journal ends with the Take of a reply
pub record IsQuiet (l : Layout) (past : List Entry) (rest : List Packet) : Type 0 where
  pub packets : rest ≡ []
  pub ports : (q : Ui) → is_moving_port (fate (on q past)) ≡ false
  pub messages : (p : ℕ) → unsettled (at p past) (sent (at p past)) ≡ []
  pub posts : (x : MsgId) (p : ℕ) (d : Dest) → progress (about x past) ≢ Asked p d
  pub reports : (p : ℕ) (x : MsgId) (answer : Answer) → may_hear l (views past p 0 (Act.Heard x answer)) p x answer
      ≡ false
  pub replies : (p : ℕ) → just_taken past (at p past) ≡ None
