-- A call that is to be sent again.
use Rattle.chorus_calls.specs.Clients.{Call}
use Rattle.chorus_calls.specs.declared.client.Again.{Again}

-- the call that it is
abbrev pub call_again : Again → Call
call_again again = record { number = again.number; port = again.port; back = again.back; body = again.body.now }
