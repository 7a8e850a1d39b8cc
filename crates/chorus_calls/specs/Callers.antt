-- A caller, as contracts see it.
use Rattle.std.specs.Prelude.{ℕ, ◌≡◌, ◌+◌, ◌≤◌, max, Option, None, IfSome}
use Rattle.chorus_ui.specs.declared.ui.Ui.{Ui}
use Rattle.chorus_ui.specs.declared.kind.Kind.TheVariants as kinds
use Rattle.chorus_entry.specs.declared.hand.Hand.{Hand}
use Rattle.chorus_calls.specs.Clients.{Calling, new_client}

-- the seat, its actor, its clock, how many messages it posted, its calls, and the request that it took and did not
-- reply to
pub record Seated : Type 0 where
  pub seat : ℕ
  pub actor : Ui
  pub last : ℕ
  pub posts : ℕ
  pub client : Calling
  pub hand : Option Hand

abbrev pub new_caller : ℕ → Ui → ℕ → Seated
new_caller seat actor last =
    record { seat = seat; actor = actor; last = last; posts = 0; client = new_client; hand = None }

-- a request in hand has a number from 1 on
abbrev pub IsNumbered : Option Hand → Type 0
IsNumbered hand = IfSome hand (λ h. 1 ≤ h.number)

-- and its reply goes to a port
abbrev pub HasBack : Option Hand → Type 0
HasBack hand = IfSome hand (λ h. h.back.kind ≡ kinds.Port)

abbrev pub after_tick : Seated → ℕ → Seated
after_tick c last = record c { last = last }

-- who has seen an entry with this clock: its own is at least that
abbrev pub raised : ℕ → Seated → Seated
raised clock c = after_tick c (max c.last clock)

abbrev pub after_post : Seated → Seated
after_post c = record c { posts = c.posts + 1 }

abbrev pub with_client : Seated → Calling → Seated
with_client c client = record c { client = client }

abbrev pub with_hand : Seated → Option Hand → Seated
with_hand c hand = record c { hand = hand }
