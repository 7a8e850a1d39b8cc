-- The calls of one caller, as contracts see them.
use Rattle.std.specs.Prelude.{◌≡◌, ◌≤◌, ℕ, ◌+◌, ◌==◌, Bool, false, List, Option, Some, None, IfSome, Result, Ok, Err, if◌then◌else◌}
use Rattle.chorus_ui.specs.declared.ui.Ui.{Ui}
use Rattle.chorus_ui.specs.declared.kind.Kind.TheVariants as kinds
use Rattle.chorus_calls.specs.declared.client.Outstanding.{Outstanding}
use Rattle.chorus_calls.specs.declared.client.Settle.{Settle}
use Rattle.chorus_calls.specs.declared.client.Settle.TheVariants.{Done, Late}

-- a call as it was begun: its number, the port that it goes to, the port of its reply, and what it carries
pub record Call : Type 0 where
  pub number : ℕ
  pub port : Ui
  pub back : Ui
  pub body : List ℕ

-- the call that is outstanding, and how many numbers were given
pub record Calling : Type 0 where
  pub outstanding : Option Call
  pub given : ℕ

abbrev pub new_client : Calling
new_client = record { outstanding = None; given = 0 }

abbrev pub number_of : Call → ℕ
number_of call = call.number

-- an outstanding call has the last number given
abbrev pub IsLatest : Calling → Type 0
IsLatest c = IfSome c.outstanding (λ call. call.number ≡ c.given)

-- it has a number from 1 on, and goes to a port, as its reply does
pub record IsRequest (call : Call) : Type 0 where
  pub number : 1 ≤ call.number
  pub port : call.port.kind ≡ kinds.Port
  pub back : call.back.kind ≡ kinds.Port

abbrev pub IsRequested : Calling → Type 0
IsRequested c = IfSome c.outstanding IsRequest

-- the next number, where no call is outstanding; the body again and the number of the outstanding one, where one is
abbrev pub answered : Option Call → ℕ → List ℕ → Result ℕ (List ℕ × Outstanding)
answered None given body = Ok (given + 1)
answered (Some call) given body = Err (body, record { number = call.number })

abbrev pub begun : Calling → List ℕ → Result ℕ (List ℕ × Outstanding)
begun c body = answered c.outstanding c.given body

-- the call with the next number is outstanding, unless another one is
abbrev pub with_call : Option Call → Calling → Ui → Ui → List ℕ → Calling
with_call None c port back body =
    record {
      outstanding = Some (record { number = c.given + 1; port = port; back = back; body = body });
      given = c.given + 1;
    }
with_call (Some call) c port back body = c

abbrev pub after_begin : Calling → Ui → Ui → List ℕ → Calling
after_begin c port back body = with_call c.outstanding c port back body

-- the outstanding call has this number
abbrev pub has_number : ℕ → Option Call → Bool
has_number n None = false
has_number n (Some call) = call.number == n

abbrev pub is_outstanding : ℕ → Calling → Bool
is_outstanding n c = has_number n c.outstanding

abbrev pub answer_to : Calling → ℕ → Settle
answer_to c n = if is_outstanding n c then Done else Late

-- nothing is outstanding
abbrev pub after_cancel : Calling → Calling
after_cancel c = record c { outstanding = None }

abbrev pub after_settle : Calling → ℕ → Calling
after_settle c n = if is_outstanding n c then after_cancel c else c
