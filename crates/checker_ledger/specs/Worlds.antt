-- Worlds: the words of the ledger's contracts.
use Rattle.std.specs.Prelude.{ℕ, Bool, List, ◌∷◌, ◌≡◌, Some, Option}
use Rattle.chorus_ui.specs.declared.ui.Ui.{Ui}
use Rattle.chorus_entry.specs.declared.entry.Entry.{Entry}
use Rattle.chorus_entry.specs.declared.id.MsgId.{MsgId}
use Rattle.chorus_entry.specs.declared.message.Message.{Message}
use Rattle.chorus_entry.specs.declared.dest.Dest.{Dest}
use Rattle.chorus_entry.specs.Same.{are_same}
use Rattle.chorus_world.specs.Views.{at, by}
use Rattle.chorus_world.specs.Groups.{first_unchosen, posts_to}
use Rattle.chorus_world.specs.Seats.{Call, call, call_in, first_call, same_call}
use Rattle.chorus_world.specs.Steps.{State}

-- the world with one entry more
abbrev pub with_entry : State → Entry → State
with_entry w e = record { layout = w.layout; past = e ∷ w.past }

-- a call with this port, reply port and body
abbrev pub call_to : Ui → Ui → List ℕ → Call
call_to port back body = record { port = port; back = back; body = body }

-- the message is a call of this number, and the first one again, where that is there
abbrev pub repeats : Option Call → ℕ → Message → Dest → Bool
repeats first number m dest = are_same same_call first (call_in number m.tag dest m.body)

-- and it is the seat's request of this number again
abbrev pub is_call_again : State → ℕ → ℕ → Message → Dest → Bool
is_call_again w seat number m dest = repeats (first_call number (by seat w.past)) number m dest

-- the number of the seat's outstanding call
abbrev pub IsOutstanding : State → ℕ → ℕ → Type 0
IsOutstanding w seat number = call (by seat w.past) ≡ Some number

-- the first of the posts to the group that were made at `from` and have no choice at the place
abbrev pub next_to : State → Ui → ℕ → ℕ → Option MsgId
next_to w group from place = first_unchosen (at place w.past) (posts_to group (at from w.past))
