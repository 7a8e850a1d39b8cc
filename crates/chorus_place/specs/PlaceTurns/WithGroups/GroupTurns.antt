-- Groups in whole turns: what is ready for a choice, and what is carried out then.
-- m is a post, x its id, d its destination, g the group, q a port, c a member with its copy, p the tables of a place, t
-- a turn; `home` is the place where the post was made.
use Rattle.std.specs.Prelude.{ℕ, ◌≡◌, ◌+◌, ◌≤◌, ◌^◌, true, Some, All, List, [], ◌∷◌, length}
use Rattle.chorus_ui.specs.declared.ui.Ui.{Ui}
use Rattle.chorus_entry.specs.declared.id.MsgId.{MsgId}
use Rattle.chorus_entry.specs.declared.dest.Dest.{Dest}
use Rattle.chorus_entry.specs.declared.message.Message.{Message}
use Rattle.chorus_entry.specs.Dest.{group_in}
use Rattle.chorus_entry.specs.Members.{are_distinct}
use Rattle.chorus_groups.specs.declared.choice.Choice.{Choice}
use Rattle.chorus_groups.specs.Made.{made_of}
use Rattle.place_unsettled.specs.Queues.{queue, room}
use Rattle.law_machine.specs.PlaceState.{Turn}
use Rattle.law_machine.specs.Choosing.{all_go, copy, choice}
use Rattle.chorus_place.specs.declared.tables.copies.Course.{Course}
use Rattle.chorus_place.specs.declared.tables.copies.MemberCopy.{MemberCopy}
use Rattle.chorus_place.specs.declared.turns.with_groups.group_turns.Chosen.{Chosen}
use Rattle.chorus_place.specs.PlaceTables.Tables.{Tables, state, IsPort}
use Rattle.chorus_place.specs.PlaceTables.Groups.{waiting_for, members_of, HaveLines, IsCopy, courses_of, no_member, chosen}

-- the copies of the post for these members, numbered from `number` on
abbrev pub copies : Message → Dest → ℕ → ℕ → List Ui → List MemberCopy
copies m d home number [] = []
copies m d home number (q ∷ qs) = record { port = q; wait = copy m d home number } ∷ copies m d home (number + 1) qs

-- all is ready for this choice: `entries` more than the messages need that wait
pub record IsChoiceReady (g : Ui) (home : ℕ) (choice : Choice) (copies : List MemberCopy) (course : List Course) (entries : ℕ)
    (p : Tables) : Type 0 where
  pub chosen : choice ≡ made_of (members_of copies)
  pub kinds : All IsPort (members_of copies)
  pub distinct : are_distinct (members_of copies) ≡ true
  pub copied : All (IsCopy home) copies
  pub courses : course ≡ courses_of g (state p) copies
  pub lines : HaveLines g p.waits (members_of copies)
  pub few : waiting_for g (members_of copies) (queue p.waits) + length copies ≤ 2 ^ 62
  pub spare : entries + waiting_for g (members_of copies) (queue p.waits) + length copies ≤ p.journal.spare
  pub room : 1 + waiting_for g (members_of copies) (queue p.waits) + length copies + length copies ≤ p.room

-- this choice is ready
abbrev pub IsPrepared : Ui → ℕ → Chosen → ℕ → Tables → Type 0
IsPrepared g home made entries p = IsChoiceReady g home made.choice made.copies.items made.courses.items entries p

-- this choice is ready for a post that the place `home` asks for
pub record IsAskReady (home : ℕ) (m : Message) (d : Dest) (made : Chosen) (p : Tables) : Type 0 where
  pub group : Ui
  pub asked : group_in d ≡ Some group
  pub prepared : IsPrepared group home made 1 p
  pub those : made.copies.items ≡ copies m d home 1 (choice d (state p))

-- the copies are chosen and go; without one the group has no member
abbrev pub chosen_go : MsgId → Ui → ℕ → List MemberCopy → Turn → Turn
chosen_go x g home [] t = no_member x g home t
chosen_go x g home (c ∷ cs) t = all_go g (members_of (c ∷ cs)) (chosen x g home (c ∷ cs) t)
