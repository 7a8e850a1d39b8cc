-- What is kept of a call.
use Rattle.chorus_calls.specs.Clients.{Call}
use Rattle.chorus_calls.specs.declared.client.Call as inside

-- the call that is kept
abbrev pub kept : inside.Call → Call
kept call = record { number = call.number; port = call.port; back = call.back; body = call.body }
