use Rattle.std.proofs.Common.{◌≡◌, ◌++◌, length, take}
use Rattle.std.specs.List.{flat_map, AllByRecursion}
use Rattle.chorus_frame.specs.Numbers.{number}
use Rattle.chorus_frame.specs.Spelling.{message_fields}
use Rattle.chorus_frame.specs.Held.{IsHeldMessage}
use Rattle.chorus_frame.proofs.encoding.record.push_pending.Given as goal

abbrev pub invariant-loop-at : goal.invariant-loop-at
invariant-loop-at l = record {
  written : l.out.items ≡ l.fn.out.items ++ (number 1 (length l.pending) ++ flat_map message_fields (take l.at l.pending));
  held : AllByRecursion IsHeldMessage (take l.at l.pending);
}
