-- The law of what a port accepts: it was sent to it.
use Rattle.std.specs.Prelude.{ℕ, ◌≡◌, ◌⊎◌, ◌+◌, List, ◌∷◌, ◌++◌, Some, slice_get}
use Rattle.chorus_ui.specs.declared.ui.Ui.{Ui}
use Rattle.chorus_entry.specs.declared.entry.Entry.{Entry}
use Rattle.chorus_entry.specs.declared.id.MsgId.{MsgId}
use Rattle.chorus_entry.specs.declared.message.Message.{Message}
use Rattle.chorus_entry.specs.declared.dest.Dest.{Dest}
use Rattle.chorus_entry.specs.declared.dest.Dest.TheVariants.{Port}
use Rattle.chorus_entry.specs.declared.act.Act.TheVariants.{Post, Choose}
use Rattle.chorus_entry.specs.Dest.{group_in}
use Rattle.chorus_world.specs.Posts.{source}
use Rattle.chorus_world.specs.AcceptedLaws.{accepted_by}

-- the entry stands in the past
pub record StandsIn (e : Entry) (past : List Entry) : Type 0 where
  pub newer : List Entry
  pub older : List Entry
  pub is : past ≡ newer ++ e ∷ older

-- x was posted to the port q
pub record IsPostedTo (x : MsgId) (q : Ui) (past : List Entry) : Type 0 where
  pub entry : Entry
  pub message : Message
  pub stands : StandsIn entry past
  pub posts : entry.act ≡ Post message (Port q)
  pub id : message.id ≡ x

-- x was posted to the group g
pub record IsPostedToGroup (x : MsgId) (g : Ui) (past : List Entry) : Type 0 where
  pub entry : Entry
  pub message : Message
  pub dest : Dest
  pub stands : StandsIn entry past
  pub posts : entry.act ≡ Post message dest
  pub group : group_in dest ≡ Some g
  pub id : message.id ≡ x

-- x is the copy that the choice for its post made for the port q: copy n is for the n-th member, counted from 1. The
-- post was posted before, to the group which the Choose names
pub record IsCopiedTo (x : MsgId) (q : Ui) (past : List Entry) : Type 0 where
  pub entry : Entry
  pub post : MsgId
  pub group : Ui
  pub members : List Ui
  pub position : ℕ
  pub stands : StandsIn entry past
  pub chooses : entry.act ≡ Choose post group members
  pub posted : IsPostedToGroup post group stands.older
  pub member : slice_get members position ≡ Some q
  pub copy : x.copy ≡ position + 1
  pub source : source x ≡ source post

-- what a port accepted was posted to it, or is the copy that a Choose made for it, of a post to the group that is named
abbrev pub AcceptsWhatWasSent : List Entry → Type 0
AcceptsWhatWasSent past =
    (q : Ui) (i : ℕ) (x : MsgId) → slice_get (accepted_by q past) i ≡ Some x → IsPostedTo x q past ⊎ IsCopiedTo x q past
