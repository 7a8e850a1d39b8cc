-- The laws of posts to groups: what a functional post reaches, and the order of a group's posts at its members.
use Rattle.std.specs.Prelude.{ℕ, ◌≡◌, ◌<◌, ◌≤◌, Bool, true, false, if◌then◌else◌, List, [], ◌∷◌, ◌++◌, length, Some, slice_get}
use Rattle.chorus_ui.specs.declared.ui.Ui.{Ui}
use Rattle.chorus_ui.specs.declared.layout.Layout.{Layout}
use Rattle.chorus_ui.specs.Name.{same_ui}
use Rattle.chorus_ui.specs.Layout.{site_of}
use Rattle.chorus_entry.specs.declared.entry.Entry.{Entry}
use Rattle.chorus_entry.specs.declared.id.MsgId.{MsgId}
use Rattle.chorus_entry.specs.declared.dest.Dest.{Dest}
use Rattle.chorus_entry.specs.declared.dest.Dest.TheVariants.{One, OneAt}
use Rattle.chorus_entry.specs.declared.act.Act.{Act}
use Rattle.chorus_entry.specs.declared.act.Act.TheVariants.{Accept, Choose}
use Rattle.chorus_entry.specs.MsgId.{same_id}
use Rattle.chorus_world.specs.declared.place.Sent.{Sent}
use Rattle.chorus_world.specs.Places.{copies}
use Rattle.chorus_world.specs.Posts.{Posted, post_of, source, site_asked}
use Rattle.chorus_world.specs.AcceptedLaws.{accepted_by}
use Rattle.chorus_world.specs.SenderLaws.{route_of}

-- it goes to one member of a group
abbrev pub is_functional : Dest → Bool
is_functional (One g) = true
is_functional (OneAt g s) = true
is_functional _ = false

-- the copies that the Choose entries of the post x make
abbrev pub copies_by : MsgId → Act → List Sent
copies_by x (Choose y g qs) = if same_id y x then copies y g 1 qs else []
copies_by x _ = []

abbrev pub copies_of : MsgId → List Entry → List Sent
copies_of x [] = []
copies_of x (e ∷ past) = copies_of x past ++ copies_by x e.act

-- a functional post has at most one copy
abbrev pub HasOneCopy : List Entry → Type 0
HasOneCopy past =
    (x : MsgId) (post : Posted) → post_of x past ≡ Some post → is_functional post.dest ≡ true →
    length (copies_of x past) ≤ 1

-- it is accepted at most once: two accepted messages of one functional post are one message at one position of one port
abbrev pub ReachesOneMember : List Entry → Type 0
ReachesOneMember past =
    (q r : Ui) (i j : ℕ) (x y : MsgId) (post : Posted) → post_of x past ≡ Some post → is_functional post.dest ≡ true →
    source x ≡ source y → slice_get (accepted_by q past) i ≡ Some x → slice_get (accepted_by r past) j ≡ Some y →
    (x ≡ y) × (q ≡ r) × (i ≡ j)

-- and one that asks for a site is accepted only by a place on that site
abbrev pub AcceptsOnSite : Layout → List Entry → Entry → Type 0
AcceptsOnSite l past e =
    (x : MsgId) (q : Ui) (position site : ℕ) → e.act ≡ Accept x q position → site_asked x past ≡ Some site →
    site_of l e.place ≡ site

-- the posts of the Choose entries of a group, in order
abbrev pub choice_by : Ui → Act → List MsgId
choice_by g (Choose x h qs) = if same_ui h g then x ∷ [] else []
choice_by g _ = []

abbrev pub choices_of : Ui → List Entry → List MsgId
choices_of g [] = []
choices_of g (e ∷ past) = choices_of g past ++ choice_by g e.act

-- each post has at most one Choose, of one group
abbrev pub IsChosenOnce : List Entry → Type 0
IsChosenOnce past =
    (g h : Ui) (i j : ℕ) (x : MsgId) → slice_get (choices_of g past) i ≡ Some x →
    slice_get (choices_of h past) j ≡ Some x →
    (g ≡ h) × (i ≡ j)

-- x stands in the list before y
pub record StandsBefore (x y : MsgId) (xs : List MsgId) : Type 0 where
  pub first : ℕ
  pub second : ℕ
  pub less : first < second
  pub is_first : slice_get xs first ≡ Some x
  pub is_second : slice_get xs second ≡ Some y

-- the copies of a group's posts stand in each port in the order of their Choose entries
abbrev pub KeepsChoiceOrder : List Entry → Type 0
KeepsChoiceOrder past =
    (q : Ui) (i j : ℕ) (x y : MsgId) (g : Ui) → i < j → slice_get (accepted_by q past) i ≡ Some x →
    slice_get (accepted_by q past) j ≡ Some y → route_of x past ≡ Some g → route_of y past ≡ Some g →
    StandsBefore (source x) (source y) (choices_of g past)
