-- What happens to a client, one event after another.
use Rattle.std.specs.Prelude.{◌≡◌, ℕ, ◌+◌, ◌==◌, Bool, ◌&&◌, true, false, List, [], ◌∷◌, Result, Ok, Err, if◌then◌else◌}
use Rattle.chorus_ui.specs.declared.ui.Ui.{Ui}
use Rattle.chorus_calls.specs.declared.client.Outstanding.{Outstanding}
use Rattle.chorus_calls.specs.declared.client.Settle.{Settle}
use Rattle.chorus_calls.specs.declared.client.Settle.TheVariants.{Done, Late}
use Rattle.chorus_calls.specs.Clients.{Calling, new_client, begun, after_begin, is_outstanding, answer_to, after_settle, after_cancel}

-- a call is begun, a reply to the call of a number comes, or the outstanding call is cancelled
pub data Event : Type 0 where
  Begin : (port back : Ui) (body : List ℕ) → Event
  Reply : (number : ℕ) → Event
  Cancel : Event

-- Each event does what the call of its name ensures. One at which that call refuses changes nothing.
abbrev pub happens : Event → Calling → Calling
happens (Begin port back body) c = after_begin c port back body
happens (Reply number) c = after_settle c number
happens Cancel c = after_cancel c

-- a client that was just made, after these events, of which the newest stands first
abbrev pub client_after : List Event → Calling
client_after [] = new_client
client_after (event ∷ past) = happens event (client_after past)

-- a begin that is answered with this number
abbrev pub is_given : ℕ → Result ℕ (List ℕ × Outstanding) → Bool
is_given n (Ok number) = number == n
is_given n (Err refused) = false

-- the event is a call that gets this number
abbrev pub gives : ℕ → Event → Calling → Bool
gives n (Begin port back body) c = is_given n (begun c body)
gives n (Reply number) c = false
gives n Cancel c = false

abbrev pub is_done : Settle → Bool
is_done Done = true
is_done Late = false

-- the event ends the call of this number: a reply to it, or a cancel
abbrev pub settles : ℕ → Event → Calling → Bool
settles n (Begin port back body) c = false
settles n (Reply number) c = (number == n) && is_done (answer_to c number)
settles n Cancel c = is_outstanding n c

-- how often the number was given
abbrev pub times_given : ℕ → List Event → ℕ
times_given n [] = 0
times_given n (event ∷ past) = (if gives n event (client_after past) then 1 else 0) + times_given n past

-- how often it was settled, by a reply or a cancel
abbrev pub times_settled : ℕ → List Event → ℕ
times_settled n [] = 0
times_settled n (event ∷ past) = (if settles n event (client_after past) then 1 else 0) + times_settled n past

-- A number that was given was settled, or is the outstanding one: each once.
abbrev pub SettlesOnce : Type 0
SettlesOnce = (number : ℕ) (events : List Event) → times_given number events
    ≡ times_settled number events + (if is_outstanding number (client_after events) then 1 else 0)
