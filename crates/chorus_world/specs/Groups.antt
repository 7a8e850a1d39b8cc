-- Groups: what the entries of a group's place say of it, and the members that a post chooses: all (multicast), or one
-- in turn (anycast, by round robin).
use Rattle.std.specs.Prelude.{ℕ, ◌+◌, ◌==◌, Bool, false, ◌&&◌, ◌||◌, if◌then◌else◌, List, [], ◌∷◌, ◌++◌, find, Option, Some, None, unwrap_or, not}
use Rattle.std.specs.List.{filter}
use Rattle.chorus_ui.specs.declared.ui.Ui.{Ui}
use Rattle.chorus_ui.specs.declared.layout.Layout.{Layout}
use Rattle.chorus_ui.specs.Name.{same_ui}
use Rattle.chorus_ui.specs.Layout.{has_site, site_of, group_place}
use Rattle.chorus_entry.specs.declared.entry.Entry.{Entry}
use Rattle.chorus_entry.specs.declared.id.MsgId.{MsgId}
use Rattle.chorus_entry.specs.declared.dest.Dest.{Dest}
use Rattle.chorus_entry.specs.declared.dest.Dest.TheVariants.{Port, All, One, OneAt}
use Rattle.chorus_entry.specs.declared.act.Act.{Act}
use Rattle.chorus_entry.specs.declared.act.Act.TheVariants.{Post, NoMember, Choose, GroupMake, Join, Leave}
use Rattle.chorus_entry.specs.Dest.{group_in}
use Rattle.chorus_entry.specs.MsgId.{same_id}
use Rattle.chorus_world.specs.Views.{at}
use Rattle.chorus_entry.specs.Same.{are_same, is_number}
use Rattle.chorus_entry.specs.Members.{first_of, listed, round_from, turned, turned_back, without}
use Rattle.chorus_world.specs.Places.{located}

-- how many groups were made
abbrev pub groups_after : Act → ℕ → ℕ
groups_after (GroupMake g) n = n + 1
groups_after _ n = n

abbrev pub groups_made : List Entry → ℕ
groups_made [] = 0
groups_made (e ∷ here) = groups_after e.act (groups_made here)

-- the members of the group, in the order in which they joined
abbrev pub members_after : Ui → Act → List Ui → List Ui
members_after g (Join h q) qs = if same_ui h g then qs ++ q ∷ [] else qs
members_after g (Leave h q) qs = if same_ui h g then without q qs else qs
members_after g _ qs = qs

abbrev pub members : Ui → List Entry → List Ui
members g [] = []
members g (e ∷ here) = members_after g e.act (members g here)

-- the rotation place of the group: a position in the list of its members, 0 in an empty one
abbrev pub rotation_after : Ui → List Ui → Act → ℕ → ℕ
rotation_after g qs (Choose x h ms) i = if same_ui h g then turned qs ms i else i
rotation_after g qs (Leave h q) i = if same_ui h g then turned_back qs q i else i
rotation_after g qs _ i = i

abbrev pub rotation : Ui → List Entry → ℕ
rotation g [] = 0
rotation g (e ∷ here) = rotation_after g (members g here) e.act (rotation g here)

-- the members from the rotation place on, round the list
abbrev pub in_turn : Ui → List Entry → List Ui
in_turn g here = round_from (rotation g here) (members g here)

-- the port is on the site, as far as this place knows
abbrev pub is_at_site : Layout → ℕ → List Entry → Ui → Bool
is_at_site l s here q = has_site l q.site && (site_of l (located l q here).to == s)

-- the members that a post chooses: all, one, or one at a site
abbrev pub choice : Layout → Dest → List Entry → List Ui
choice l (Port q) here = []
choice l (All g) here = members g here
choice l (One g) here = listed (first_of (in_turn g here))
choice l (OneAt g s) here = listed (find (is_at_site l s here) (in_turn g here))

-- the ids of the posts to the group, in order
abbrev pub post_to : Ui → Act → List MsgId
post_to g (Post m d) = if are_same same_ui (Some g) (group_in d) then m.id ∷ [] else []
post_to g _ = []

abbrev pub posts_to : Ui → List Entry → List MsgId
posts_to g [] = []
posts_to g (e ∷ there) = posts_to g there ++ post_to g e.act

-- the post x has its choice here, or has no member here
abbrev pub chooses : MsgId → Act → Bool
chooses x (Choose y g qs) = same_id y x
chooses x (NoMember y g) = same_id y x
chooses x _ = false

abbrev pub is_chosen : MsgId → List Entry → Bool
is_chosen x [] = false
is_chosen x (e ∷ here) = chooses x e.act || is_chosen x here

abbrev pub first_unchosen : List Entry → List MsgId → Option MsgId
first_unchosen here [] = None
first_unchosen here (x ∷ xs) = if is_chosen x here then first_unchosen here xs else Some x

-- those of the posts that have no choice here
abbrev pub unchosen : List Entry → List MsgId → List MsgId
unchosen here xs = filter (λ (x : MsgId). not (is_chosen x here)) xs

-- the post x, made at the place `from`, is the next of that place's posts to the group to be chosen here
abbrev pub is_next_to : Ui → MsgId → ℕ → List Entry → List Entry → Bool
is_next_to g x from here past = are_same same_id (Some x) (first_unchosen here (posts_to g (at from past)))

-- p is the group's place
abbrev pub is_group_place : Layout → Ui → ℕ → Bool
is_group_place l g p = is_number p (group_place l g)

-- p is where members are chosen for a post to the group that was made at the place `from`: the group's place, or `from`
-- where the layout has no such place
abbrev pub is_choosing_place : Layout → Ui → ℕ → ℕ → Bool
is_choosing_place l g from p = unwrap_or (group_place l g) from == p
