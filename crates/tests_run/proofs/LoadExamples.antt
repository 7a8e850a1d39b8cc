-- A load: how much room its ports have, and a draw in which each digit in base eight is another one, computed.
use Rattle.std.proofs.Common.{◌≡◌, [], ◌∷◌, length, Some, refl}
use Rattle.std.specs.Prelude.{slice_get}
use Rattle.chorus_entry.specs.declared.command.Command.{Command}
use Rattle.law_network.specs.Network.{Act, Deliver}
use Rattle.law_network.specs.Tasks.{Do}
use Rattle.chorus_replay.specs.Load.{drawn, load_actor, load_group, load_port, load_setup, turn_tasks}

-- eight ports for 64 messages each, the group, and its eight members
setup : (length load_setup ≡ 17) × (slice_get load_setup 0 ≡ Some (Command.Make (load_actor 1) 64)) × (slice_get load_setup 7 ≡ Some (Command.Make (load_actor 8) 64)) × (slice_get load_setup 8 ≡ Some (Command.GroupMake 1)) × (slice_get load_setup 16 ≡ Some (Command.Join load_group (load_port 8)))
setup = (refl, refl, refl, refl, refl)

-- 18063 is 43217 in base eight: a move of the port of site 2 to the actor of site 3, and a delivery from place 4 to place 5
each-digit : turn_tasks (drawn 6 18063) ≡ Do (Act 6 (Command.Move (load_port 2) (load_actor 3))) ∷ Do (Deliver 0 4 5) ∷ []
each-digit = refl
