-- What is so where a command is given, and where a packet is worked off.
use Rattle.std.proofs.Common.{ℕ, ◌≡◌, ◌≤◌, true, List, [], Some, None}
use Rattle.chorus_entry.specs.declared.entry.Entry.{Entry}
use Rattle.chorus_entry.specs.declared.command.Command.{Command}
use Rattle.chorus_entry.specs.declared.packet.Packet.{Packet}
use Rattle.chorus_entry.specs.Command.{meets_conditions}
use Rattle.chorus_entry.specs.Places.{place_for}
use Rattle.chorus_world.specs.Views.{at}
use Rattle.chorus_world.specs.Places.{just_taken}
use Rattle.law_machine.specs.declared.outgoing.Outgoing.{Outgoing}
use Rattle.law_machine.specs.PlaceState.{Turn}
use Rattle.law_network.specs.Packets.{first_on}
use Rattle.law_network.specs.Network.{NetState}
use Rattle.law_network.proofs.Standing.Steps.{Stood}
use Rattle.law_network.proofs.Standing.Leading.{Calm}

-- a command is given, at its place
pub record IsGiven (n : NetState) (us : List Outgoing) (past : List Entry) (t : Turn) (c : Command) : Type 0 where
  pub stood : Stood n us past t
  pub rests : just_taken past (at t.place.number past) ≡ None
  pub place : t.place.number ≡ place_for t.place.layout t.caller.actor c
  pub conditions : meets_conditions c ≡ true

-- a packet comes first from a, at the place of a turn that begins
pub record Comes (n : NetState) (us : List Outgoing) (past : List Entry) (t : Turn) (a : ℕ) (k : Packet) : Type 0 where
  pub calm : Calm n us past t
  pub none : t.puts ≡ []
  pub first : first_on a t.place.number us ≡ Some k
  pub clock : k.clock ≤ t.caller.last
