-- Steps of groups: members are chosen, and the messages for them go.
-- m is a post, x its id, d its destination, g the group, q a port, k a port and route, c a member with its copy, w a
-- message that waits, s a place, p the tables of one, t a turn; `home` is the place where the post was made.
use Rattle.std.specs.Prelude.{ℕ, ◌≡◌, ◌+◌, ◌<◌, ◌≤◌, ◌^◌, true, if◌then◌else◌, All, Option, Some, None, List, [], ◌∷◌, ◌++◌, length, map}
use Rattle.chorus_ui.specs.declared.ui.Ui.{Ui}
use Rattle.chorus_ui.specs.Layout.{has_site, site_of}
use Rattle.chorus_entry.specs.declared.id.MsgId.{MsgId}
use Rattle.chorus_entry.specs.declared.dest.Dest.{Dest}
use Rattle.chorus_entry.specs.declared.message.Message.{Message}
use Rattle.chorus_entry.specs.declared.act.Act.{Act}
use Rattle.chorus_entry.specs.declared.answer.Answer.TheVariants as A
use Rattle.chorus_entry.specs.Members.{are_distinct}
use Rattle.chorus_calls.specs.Callers.{after_post}
use Rattle.place_unsettled.specs.declared.wait.Key.{Key}
use Rattle.place_unsettled.specs.declared.wait.Wait.{Wait}
use Rattle.place_unsettled.specs.Queues.{Queue, Row, queue, room, changed, with_last}
use Rattle.law_machine.specs.PlaceState.{PlaceState, Turn, newest, greatest_clock, unchanged, say}
use Rattle.law_machine.specs.Trying.{report}
use Rattle.law_machine.specs.Choosing.{by_group, all_go}
use Rattle.chorus_place.specs.declared.tables.copies.Course.{Course}
use Rattle.chorus_place.specs.declared.tables.copies.MemberCopy.{MemberCopy}
use Rattle.chorus_place.specs.PlaceTables.Tables.{IsPort, IsSound}
use Rattle.chorus_place.specs.PlaceTables.Going.{leaving, leaving_to}

-- The messages for members go, member by member.

abbrev pub ports_of : List Course → List Ui
ports_of courses = map (λ (c : Course). c.port) courses

-- the message that is tried at another place, unless one is under way
abbrev pub when_free : Option ℕ → Option Wait → Option Wait
when_free None again = again
when_free (Some to) again = None

abbrev pub free_leaving : Key → PlaceState → Option Wait
free_leaving k s = when_free (s.waiting k).tried (leaving k s)

-- of each of these members, the message that is tried at another place
abbrev pub going : Ui → PlaceState → List Ui → List Course
going g s qs = map (λ q. record { port = q; again = free_leaving (by_group g q) s }) qs

-- how many messages wait for these members by the group's route
abbrev pub waiting_for : Ui → List Ui → (Key → Queue) → ℕ
waiting_for g [] queues = 0
waiting_for g (q ∷ qs) queues = length (queues (by_group g q)).waits + waiting_for g qs queues

-- the messages for some first members of `all` went since the turn was `start`: what is left to do is the same, and
-- there is room for it
pub record AllGoing (g : Ui) (all : List Ui) (start now : Turn) (left : List Course)
    (entries packets : ℕ) : Type 0 where
  pub same : all_go g (ports_of left) now ≡ all_go g all start
  pub kinds : All IsPort (ports_of left)
  pub distinct : are_distinct (ports_of left) ≡ true
  pub courses : left ≡ going g now.place (ports_of left)
  pub spare : waiting_for g (ports_of left) now.place.waiting ≤ entries
  pub room : waiting_for g (ports_of left) now.place.waiting + length left ≤ packets
  pub clock : greatest_clock now + waiting_for g (ports_of left) now.place.waiting + length left < 2 ^ 64

-- Members are chosen, and each has its copy.

abbrev pub members_of : List MemberCopy → List Ui
members_of copies = map (λ (c : MemberCopy). c.port) copies

-- each copy waits behind the other messages for its member
abbrev pub with_each : Ui → List MemberCopy → (Key → Queue) → Key → Queue
with_each g [] queues = queues
with_each g (c ∷ cs) queues = with_each g cs (changed (by_group g c.port) (with_last c.wait) queues)

-- there is room for a message more for each member
abbrev pub HaveLines : Ui → List (Key × Row) → List Ui → Type 0
HaveLines g rows qs = All (λ q. 0 < room rows (by_group g q)) qs

-- a copy of a post of the place `home`, within its ranges
abbrev pub IsCopy : ℕ → MemberCopy → Type 0
IsCopy home c = (c.wait.home ≡ home) × IsSound c.wait.message

-- some copies were put since the queues were those of `start`: with those that are left they become the same, and there
-- is room for them
pub record Putting (g : Ui) (all : List MemberCopy) (start now : List (Key × Row))
    (left : List MemberCopy) : Type 0 where
  pub same : (k : Key) → with_each g left (queue now) k ≡ with_each g all (queue start) k
  pub distinct : are_distinct (members_of left) ≡ true
  pub lines : HaveLines g now (members_of left)

abbrev pub no_member : MsgId → Ui → ℕ → Turn → Turn
no_member x g home t =
    say (Act.NoMember x g) (record (unchanged t) { loads = report t.place.number home x A.NoMember }) t

abbrev pub chosen : MsgId → Ui → ℕ → List MemberCopy → Turn → Turn
chosen x g home cs t =
    say (Act.Choose x g (members_of cs)) (record (unchanged t) {
      waiting = with_each g cs t.place.waiting;
      loads = report t.place.number home x (A.Chosen (length (members_of cs)));
    }) t

-- the same of k, once w waits behind the others
abbrev pub leaving_with : Key → Wait → PlaceState → Option Wait
leaving_with k w s =
    when_free (s.waiting k).tried (leaving_to s.layout s.number k.port (newest s k.port).to ((s.waiting k).waits
    ++ w ∷ []))

abbrev pub courses_of : Ui → PlaceState → List MemberCopy → List Course
courses_of g s cs =
    map (λ (c : MemberCopy). record { port = c.port; again = leaving_with (by_group g c.port) c.wait s }) cs

-- What a choice is made of.

-- the site where the port is located, 0 where the layout has no such site
abbrev pub site_at : PlaceState → Ui → ℕ
site_at s q = if has_site s.layout q.site then site_of s.layout (newest s q).to else 0

-- Posting to a group.

-- the post alone
abbrev pub posted_alone : Message → Dest → Turn → Turn
posted_alone m d t = say (Act.Post m d) (record (unchanged t) { caller = after_post t.caller }) t
