-- Choices: whom a post to a group chooses, and in which order the members take turns. g is a group, q is a port; here
-- are the entries of the group's place, the newest first.
use Rattle.std.specs.Prelude.{ℕ, ◌≡◌, ◌<◌, Bool, true, false, not, ◌&&◌, ◌||◌, if◌then◌else◌, List, [], ◌∷◌, ◌++◌, length, Some}
use Rattle.std.specs.Option.{unwrap_or}
use Rattle.std.specs.List.{list_all}
use Rattle.chorus_ui.specs.declared.ui.Ui.{Ui}
use Rattle.chorus_ui.specs.declared.layout.Layout.{Layout}
use Rattle.chorus_ui.specs.Layout.{group_place}
use Rattle.chorus_ui.specs.Name.{same_ui}
use Rattle.chorus_entry.specs.declared.entry.Entry.{Entry}
use Rattle.chorus_entry.specs.declared.id.MsgId.{MsgId}
use Rattle.chorus_entry.specs.declared.dest.Dest.{Dest}
use Rattle.chorus_entry.specs.declared.dest.Dest.TheVariants as dests
use Rattle.chorus_entry.specs.declared.act.Act.{Act}
use Rattle.chorus_entry.specs.declared.act.Act.TheVariants.{NoMember, Choose, Join, Leave}
use Rattle.chorus_entry.specs.Dest.{group_in}
use Rattle.chorus_entry.specs.Members.{is_member, are_distinct, without, first_of}
use Rattle.chorus_world.specs.Views.{at}
use Rattle.chorus_world.specs.Posts.{Posted, post_of}
use Rattle.chorus_world.specs.Groups.{members, in_turn, is_at_site}

-- Who belongs to a group.

abbrev pub joins : Ui → Ui → Act → Bool
joins g q (Join h r) = same_ui h g && same_ui r q
joins g q _ = false

abbrev pub leaves : Ui → Ui → Act → Bool
leaves g q (Leave h r) = same_ui h g && same_ui r q
leaves g q _ = false

-- the port joined the group, and did not leave it since
abbrev pub belongs : Ui → Ui → List Entry → Bool
belongs g q [] = false
belongs g q (e ∷ here) = joins g q e.act || (not (leaves g q e.act) && belongs g q here)

-- when it joined last: how many entries stand before that Join
abbrev pub joined_at : Ui → Ui → List Entry → ℕ
joined_at g q [] = 0
joined_at g q (e ∷ here) = if joins g q e.act then length here else joined_at g q here

-- each of the ports joined before all those behind it
abbrev pub AreInJoinOrder : Ui → List Entry → List Ui → Type 0
AreInJoinOrder g here [] = Unit {0}
AreInJoinOrder g here (q ∷ qs) =
    ((r : Ui) → is_member r qs ≡ true → joined_at g q here < joined_at g r here) × AreInJoinOrder g here qs

-- these are the ports that belong to the group, each once, in the order in which they joined
pub record AreMembers (g : Ui) (here : List Entry) (qs : List Ui) : Type 0 where
  pub all : (q : Ui) → is_member q qs ≡ belongs g q here
  pub once : are_distinct qs ≡ true
  pub order : AreInJoinOrder g here qs

-- Whom a post chooses.

-- x was posted to the group, and this is where its members are chosen: the group's place, or the place of the post
-- where the layout has no such place
pub record IsPostTo (l : Layout) (past : List Entry) (p : ℕ) (x : MsgId) (g : Ui) (post : Posted) : Type 0 where
  pub posted : post_of x past ≡ Some post
  pub own : x.copy ≡ 0
  pub group : group_in post.dest ≡ Some g
  pub place : unwrap_or (group_place l g) post.place ≡ p

-- the list is of one port, which belongs to the group and passes the test; and none passes it that is in turn before
pub record IsFirstInTurn (test : Ui → Bool) (g : Ui) (here : List Entry) (qs : List Ui) : Type 0 where
  pub member : Ui
  pub is : qs ≡ member ∷ []
  pub belongs : belongs g member here ≡ true
  pub passes : test member ≡ true
  pub before : List Ui
  pub after : List Ui
  pub turn : in_turn g here ≡ before ++ member ∷ after
  pub first : list_all (λ q. not (test q)) before ≡ true

-- all members, where it is posted to all; one, the first in turn, where it is posted to one; and where it is posted to
-- one at a site, the first in turn of those that the place locates there
abbrev pub NamesMembers : Layout → Ui → List Entry → Dest → List Ui → Type 0
NamesMembers l g here (dests.Port q) qs = ⊥
NamesMembers l g here (dests.All h) qs = AreMembers g here qs × (0 < length qs)
NamesMembers l g here (dests.One h) qs = IsFirstInTurn (λ q. true) g here qs
NamesMembers l g here (dests.OneAt h s) qs = IsFirstInTurn (is_at_site l s here) g here qs

abbrev pub ChoosesMembers : Layout → List Entry → Entry → Type 0
ChoosesMembers l past e =
    (x : MsgId) (g : Ui) (qs : List Ui) → e.act ≡ Choose x g qs →
    (post : Posted) × IsPostTo l past e.place x g post × NamesMembers l g (at e.place past) post.dest qs

-- no port belongs to the group, or none that the place locates at the site
abbrev pub HasNoMember : Layout → Ui → List Entry → Dest → Type 0
HasNoMember l g here (dests.Port q) = ⊥
HasNoMember l g here (dests.All h) = (q : Ui) → belongs g q here ≡ false
HasNoMember l g here (dests.One h) = (q : Ui) → belongs g q here ≡ false
HasNoMember l g here (dests.OneAt h s) = (q : Ui) → belongs g q here ≡ true → is_at_site l s here q ≡ false

abbrev pub FindsNoMember : Layout → List Entry → Entry → Type 0
FindsNoMember l past e =
    (x : MsgId) (g : Ui) → e.act ≡ NoMember x g →
    (post : Posted) × IsPostTo l past e.place x g post × HasNoMember l g (at e.place past) post.dest

-- Turns.

-- the members are in turn in the order in which they joined, from one of them on, round the list
pub record GoRound (g : Ui) (here : List Entry) : Type 0 where
  pub before : List Ui
  pub after : List Ui
  pub members : members g here ≡ before ++ after
  pub turn : in_turn g here ≡ after ++ before

-- the act changes who is in turn: it chooses one member of the group, or one joins or leaves it
abbrev pub turns : Ui → Act → Bool
turns g (Choose x h (q ∷ [])) = same_ui h g
turns g (Join h q) = same_ui h g
turns g (Leave h q) = same_ui h g
turns g _ = false

-- Who is chosen alone is the last in turn then, and those that were before it are so after the others; where one
-- leaves, the others keep their turn; and where one joins, the first in turn stays the first. No other act changes the
-- turns.
pub record KeepsTurns (g : Ui) (here : List Entry) (e : Entry) : Type 0 where
  pub chosen :
      (x : MsgId) (q : Ui) (before after : List Ui) → e.act ≡ Choose x g (q ∷ []) →
      in_turn g here ≡ before ++ q ∷ after →
      in_turn g (e ∷ here) ≡ after ++ before ++ q ∷ []
  pub left : (q : Ui) → e.act ≡ Leave g q → in_turn g (e ∷ here) ≡ without q (in_turn g here)
  pub joined :
      (q : Ui) → e.act ≡ Join g q →
      first_of (in_turn g (e ∷ here)) ≡ Some (unwrap_or (first_of (in_turn g here)) q)
  pub same : turns g e.act ≡ false → in_turn g (e ∷ here) ≡ in_turn g here

abbrev pub TurnsGoOn : List Entry → Entry → Type 0
TurnsGoOn past e = (g : Ui) → GoRound g (at e.place past) × KeepsTurns g (at e.place past) e
