use Rattle.std.proofs.Common.{◌≡◌, ◌++◌, length, take}
use Rattle.std.specs.List.{flat_map, AllByRecursion}
use Rattle.chorus_frame.specs.Numbers.{number}
use Rattle.chorus_frame.specs.Spelling.{client_fields}
use Rattle.chorus_frame.specs.Held.{IsHeldClient}
use Rattle.chorus_frame.proofs.encoding.record.push_clients.Given as goal

abbrev pub invariant-loop-at : goal.invariant-loop-at
invariant-loop-at l = record {
  written : l.out.items ≡ l.fn.out.items ++ (number 1 (length l.clients) ++ flat_map client_fields (take l.at l.clients));
  held : AllByRecursion IsHeldClient (take l.at l.clients);
}
