-- Names: how ports, groups and messages get theirs. l is a layout, past what stands before the entry e, q is a port, g a
-- group, a an actor, p a place.
use Rattle.std.specs.Prelude.{ℕ, ◌≡◌, ◌≤◌, ◌<◌, Bool, true, false, List, count_by, Some, None, is_some}
use Rattle.chorus_ui.specs.declared.kind.Kind.TheVariants as kinds
use Rattle.chorus_ui.specs.declared.limits.TheConstants.{PORTS_PER_SITE_LIMIT, GROUPS_PER_SITE_LIMIT}
use Rattle.chorus_ui.specs.declared.ui.Ui.{Ui}
use Rattle.chorus_ui.specs.declared.layout.Layout.{Layout}
use Rattle.chorus_ui.specs.Layout.{can_make_port, creation_place, group_place, place_at}
use Rattle.chorus_entry.specs.declared.dest.Dest.{Dest}
use Rattle.chorus_entry.specs.declared.entry.Entry.{Entry}
use Rattle.chorus_entry.specs.declared.id.MsgId.{MsgId}
use Rattle.chorus_entry.specs.declared.message.Message.{Message}
use Rattle.chorus_entry.specs.declared.act.Act.{Act}
use Rattle.chorus_entry.specs.declared.act.Act.TheVariants.{Make, MakeFull, Post, GroupMake, GroupsFull}
use Rattle.chorus_entry.specs.MsgId.{same_id}
use Rattle.chorus_world.specs.Views.{is_group, makes_group}
use Rattle.chorus_world.specs.Places.{makes, is_made_here}
use Rattle.chorus_world.specs.Posts.{post_of}

-- A name is made once.

-- at most one entry makes the port
abbrev pub MakesOnce : List Entry → Type 0
MakesOnce past = (q : Ui) → count_by (λ (e : Entry). makes q e.act) past ≤ 1

-- at most one makes the group
abbrev pub MakesGroupsOnce : List Entry → Type 0
MakesGroupsOnce past = (g : Ui) → count_by (λ (e : Entry). makes_group g e.act) past ≤ 1

-- and at most one posts a message with this id
abbrev pub posts : MsgId → Act → Bool
posts x (Post m d) = same_id m.id x
posts x _ = false

abbrev pub PostsOnce : List Entry → Type 0
PostsOnce past = (x : MsgId) → count_by (λ (e : Entry). posts x e.act) past ≤ 1

-- The next name is the least.

-- the port can be made at the place p, was not made, and has the least number of such a one
pub record IsLeastPort (l : Layout) (past : List Entry) (p : ℕ) (q : Ui) : Type 0 where
  pub can : can_make_port l q ≡ true
  pub place : creation_place l q ≡ p
  pub new : is_made_here q past ≡ false
  pub least :
      (n : ℕ) → 1 ≤ n → n < q.number → creation_place l (record q { number = n }) ≡ p →
      is_made_here (record q { number = n }) past ≡ true

abbrev pub MakesTheLeast : Layout → List Entry → Entry → Type 0
MakesTheLeast l past e =
    (q a : Ui) (c : ℕ) → e.act ≡ Make q a c →
    IsLeastPort l past e.place q × (q.site ≡ a.site) × (place_at l a.site a ≡ e.place)

-- where no port can be made any more, each one was made that the place makes
abbrev pub MadeAllPorts : Layout → List Entry → Entry → Type 0
MadeAllPorts l past e =
    (a : Ui) (n : ℕ) → e.act ≡ MakeFull a → 1 ≤ n → n ≤ PORTS_PER_SITE_LIMIT →
    creation_place l (record { site = a.site; kind = kinds.Port; number = n }) ≡ e.place →
    is_made_here (record { site = a.site; kind = kinds.Port; number = n }) past ≡ true

-- the same of groups, which stand at the first place of their site
pub record IsLeastGroup (l : Layout) (past : List Entry) (p : ℕ) (g : Ui) : Type 0 where
  pub some : 1 ≤ g.number
  pub few : g.number ≤ GROUPS_PER_SITE_LIMIT
  pub place : group_place l g ≡ Some p
  pub new : is_group g past ≡ false
  pub least : (n : ℕ) → 1 ≤ n → n < g.number → is_group (record g { number = n }) past ≡ true

abbrev pub GroupMakesTheLeast : Layout → List Entry → Entry → Type 0
GroupMakesTheLeast l past e = (g : Ui) → e.act ≡ GroupMake g → IsLeastGroup l past e.place g

abbrev pub MadeAllGroups : List Entry → Entry → Type 0
MadeAllGroups past e =
    (s n : ℕ) → e.act ≡ GroupsFull s → 1 ≤ n → n ≤ GROUPS_PER_SITE_LIMIT →
    is_group (record { site = s; kind = kinds.Group; number = n }) past ≡ true

-- and of messages: the id of a post is of its seat, is no copy's, was not posted, and has the least number of such a
-- one
pub record IsLeastId (past : List Entry) (s : ℕ) (x : MsgId) : Type 0 where
  pub seat : x.seat ≡ s
  pub own : x.copy ≡ 0
  pub some : 1 ≤ x.number
  pub new : post_of x past ≡ None
  pub least : (n : ℕ) → 1 ≤ n → n < x.number → is_some (post_of (record x { number = n }) past) ≡ true

abbrev pub PostsTheLeast : List Entry → Entry → Type 0
PostsTheLeast past e = (m : Message) (d : Dest) → e.act ≡ Post m d → IsLeastId past e.seat m.id
