-- The calls of a caller, lent to be changed.
use Rattle.std.specs.Borrow.{Lends, MutBor, Fml}
use Rattle.chorus_calls.specs.Clients.{Calling}
use Rattle.chorus_calls.specs.Callers.{Seated, with_client}
use Rattle.chorus_calls.specs.contracts.caller.Caller as caller
use Rattle.chorus_calls.specs.contracts.client.Client as client

-- the caller ends with the calls that are left behind r, and is otherwise as it was
abbrev pub LendsClient : MutBor Seated → MutBor Calling → Fml
LendsClient c r = Lends caller.the_row client.the_row c r (with_client c.now)
