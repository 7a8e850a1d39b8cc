-- What two journals tell alike.
-- j and k are journals, the newest entry first, x is an id, g a group, q a port, e an entry.
use Rattle.std.specs.Prelude.{◌≡◌, List, map, Some}
use Rattle.std.specs.List.{All}
use Rattle.std.specs.Option.{option_map}
use Rattle.chorus_ui.specs.declared.ui.Ui.{Ui}
use Rattle.chorus_entry.specs.declared.act.Act.{Act}
use Rattle.chorus_entry.specs.declared.act.Act.TheVariants.{GroupMake, Delete}
use Rattle.chorus_entry.specs.declared.entry.Entry.{Entry}
use Rattle.chorus_entry.specs.declared.id.MsgId.{MsgId}
use Rattle.chorus_entry.specs.Act.{message_of}
use Rattle.chorus_world.specs.Groups.{members, rotation}
use Rattle.chorus_world.specs.GroupLaws.{copies_of}
use Rattle.chorus_world.specs.Messages.{verdict}
use Rattle.chorus_world.specs.Places.{is_deleted}
use Rattle.chorus_world.specs.Views.{is_group}
use Rattle.chorus_world.specs.declared.place.Sent.{Sent}
use Rattle.law_explore.specs.Outcome.{plain_answer, is_stale_at}

abbrev pub ids_of : List Sent → List MsgId
ids_of ms = map (λ (m : Sent). m.id) ms

-- of a message
pub record TellSame (x : MsgId) (j k : List Entry) : Type 0 where
  pub verdicts : option_map plain_answer (verdict x j) ≡ option_map plain_answer (verdict x k)
  pub copies : ids_of (copies_of x j) ≡ ids_of (copies_of x k)
  pub stale : is_stale_at x j ≡ is_stale_at x k

-- of a group
pub record HaveSame (g : Ui) (j k : List Entry) : Type 0 where
  pub named : is_group g j ≡ is_group g k
  pub members_are : members g j ≡ members g k
  pub rotates : rotation g j ≡ rotation g k

-- of what the act names
pub record Agree (j k : List Entry) (act : Act) : Type 0 where
  pub message : (x : MsgId) → message_of act ≡ Some x → TellSame x j k
  pub group : (g : Ui) → act ≡ GroupMake g → HaveSame g j k
  pub deleted : (q : Ui) (discarded : List MsgId) → act ≡ Delete q discarded → is_deleted q j ≡ is_deleted q k

-- of what each of these entries names
abbrev pub AgreeAll : List Entry → List Entry → List Entry → Type 0
AgreeAll j k es = All (λ (e : Entry). Agree j k e.act) es
