-- Commands: which entry answers a command, and which lists perform a script of commands.
use Rattle.std.specs.Prelude.{ℕ, ◌==◌, Bool, true, false, ◌&&◌, not, if◌then◌else◌, List, [], ◌∷◌, is_none}
use Rattle.chorus_ui.specs.declared.ui.Ui.{Ui}
use Rattle.chorus_ui.specs.declared.layout.Layout.{Layout}
use Rattle.chorus_ui.specs.Name.{same_ui}
use Rattle.chorus_entry.specs.declared.entry.Entry.{Entry}
use Rattle.chorus_entry.specs.Body.{same_body}
use Rattle.chorus_entry.specs.Dest.{same_dest}
use Rattle.chorus_entry.specs.declared.dest.Dest.{Dest}
use Rattle.chorus_entry.specs.declared.tag.Tag.{Tag}
use Rattle.chorus_entry.specs.declared.command.Command.{Command}
use Rattle.chorus_entry.specs.declared.act.Act.{Act}
use Rattle.chorus_entry.specs.Act.{is_command_entry}
use Rattle.chorus_entry.specs.Places.{place_for}
use Rattle.chorus_world.specs.Views.{at, by, on, is_by}
use Rattle.chorus_entry.specs.Same.{is_number}
use Rattle.chorus_world.specs.Ports.{fate}
use Rattle.chorus_world.specs.Groups.{members}
use Rattle.chorus_entry.specs.Members.{is_member}
use Rattle.chorus_world.specs.Seats.{call, first_call}
use Rattle.chorus_world.specs.Runs.{is_held_at_by}

abbrev pub is_plain : Tag → Bool
is_plain Tag.Plain = true
is_plain _ = false

abbrev pub is_reply : Tag → Bool
is_reply (Tag.Reply c n) = true
is_reply _ = false

-- a request of a number that the seat has not posted, with this reply port
abbrev pub is_new_request : Ui → List Entry → Tag → Bool
is_new_request back mine (Tag.Request n b) = same_ui b back && is_none (first_call n mine)
is_new_request back mine _ = false

-- the outstanding request again
abbrev pub is_request_again : List Entry → Tag → Bool
is_request_again mine (Tag.Request n b) = is_number n (call mine)
is_request_again mine _ = false

-- the act answers a Make: it is of the actor
abbrev pub make_answers : Ui → ℕ → Act → Bool
make_answers actor capacity (Act.Make q a n) = same_ui a actor && (n == capacity)
make_answers actor capacity (Act.MakeFull a) = same_ui a actor
make_answers actor capacity (Act.NoActor a) = same_ui a actor
make_answers actor capacity _ = false

abbrev pub send_answers : Dest → List ℕ → Act → Bool
send_answers dest body (Act.Post m d) = is_plain m.tag && same_dest d dest && same_body m.body body
send_answers dest body _ = false

abbrev pub call_answers : List Entry → Ui → Ui → List ℕ → Act → Bool
call_answers mine port back body (Act.Post m d) =
    is_new_request back mine m.tag && same_dest d (Dest.Port port) && same_body m.body body
call_answers mine port back body (Act.Outstanding n) = true
call_answers mine port back body _ = false

abbrev pub retry_answers : List Entry → Act → Bool
retry_answers mine (Act.Post m d) = is_request_again mine m.tag
retry_answers mine Act.NoCall = true
retry_answers mine _ = false

abbrev pub cancel_answers : Act → Bool
cancel_answers (Act.Cancel n) = true
cancel_answers Act.NoCall = true
cancel_answers _ = false

abbrev pub reply_answers : List ℕ → Act → Bool
reply_answers body (Act.Post m d) = is_reply m.tag && same_body m.body body
reply_answers body Act.NoRequest = true
reply_answers body _ = false

abbrev pub take_answers : Ui → Act → Bool
take_answers port (Act.Take q n x) = same_ui q port
take_answers port (Act.Empty q) = same_ui q port
take_answers port (Act.NotHere q) = same_ui q port
take_answers port _ = false

-- NoActor answers where the caller's actor holds the port here
abbrev pub move_answers : Bool → Ui → Ui → Act → Bool
move_answers holds port actor (Act.Rehome q b) = same_ui q port && same_ui b actor
move_answers holds port actor (Act.Depart q to b hop) = same_ui q port && same_ui b actor
move_answers holds port actor (Act.NotHere q) = same_ui q port
move_answers holds port actor (Act.NoActor b) = same_ui b actor && holds
move_answers holds port actor _ = false

abbrev pub delete_answers : Ui → Act → Bool
delete_answers port (Act.Delete q xs) = same_ui q port
delete_answers port (Act.NotHere q) = same_ui q port
delete_answers port _ = false

abbrev pub group_answers : ℕ → Act → Bool
group_answers site (Act.GroupMake g) = g.site == site
group_answers site (Act.GroupsFull n) = n == site
group_answers site (Act.NoSite n) = n == site
group_answers site _ = false

-- MembersFull answers where the port is no member
abbrev pub join_answers : Bool → Ui → Ui → Act → Bool
join_answers belongs group port (Act.Join g q) = same_ui g group && same_ui q port
join_answers belongs group port (Act.There g q) = same_ui g group && same_ui q port
join_answers belongs group port (Act.NoGroup g) = same_ui g group
join_answers belongs group port (Act.MembersFull g) = same_ui g group && not belongs
join_answers belongs group port _ = false

abbrev pub leave_answers : Ui → Ui → Act → Bool
leave_answers group port (Act.Leave g q) = same_ui g group && same_ui q port
leave_answers group port (Act.NotThere g q) = same_ui g group && same_ui q port
leave_answers group port (Act.NoGroup g) = same_ui g group
leave_answers group port _ = false

-- the act answers a command of the seat s, which runs in the actor a, at the place p
abbrev pub act_answers : List Entry → ℕ → ℕ → Ui → Command → Act → Bool
act_answers past p s a (Command.Make actor capacity) act = make_answers actor capacity act
act_answers past p s a (Command.Send dest body) act = send_answers dest body act
act_answers past p s a (Command.Call port back body) act = call_answers (by s past) port back body act
act_answers past p s a Command.Retry act = retry_answers (by s past) act
act_answers past p s a Command.Cancel act = cancel_answers act
act_answers past p s a (Command.Reply body) act = reply_answers body act
act_answers past p s a (Command.Take port) act = take_answers port act
act_answers past p s a (Command.Move port actor) act =
    move_answers (is_held_at_by p a (fate (on port past))) port actor act
act_answers past p s a (Command.GroupMake site) act = group_answers site act
act_answers past p s a (Command.Join group port) act =
    join_answers (is_member port (members group (at p past))) group port act
act_answers past p s a (Command.Leave group port) act = leave_answers group port act
act_answers past p s a (Command.Delete port) act = delete_answers port act

-- the entry answers a command of its seat, which runs in the actor a
abbrev pub answers : Layout → List Entry → Ui → Command → Entry → Bool
answers l past a c e = (e.place == place_for l a c) && act_answers past e.place e.seat a c e.act

-- an entry that a command of the seat s appended first
abbrev pub is_own_of : ℕ → Entry → Bool
is_own_of s e = is_by s e && is_command_entry e.act

-- the entries perform the commands of the seat s in the actor a: its own entries are as many as the commands, and each
-- answers its command in the world before it. Both lists have the newest first.
abbrev pub performs : Layout → ℕ → Ui → List Entry → List Command → Bool
performs l s a [] [] = true
performs l s a [] (c ∷ cs) = false
performs l s a (e ∷ past) [] = not (is_own_of s e) && performs l s a past []
performs l s a (e ∷ past) (c ∷ cs) =
    if is_own_of s e then answers l past a c e && performs l s a past cs else performs l s a past (c ∷ cs)
