use Rattle.std.proofs.Common.{◌≡◌, ◌++◌, take}
use Rattle.std.specs.List.{flat_map, AllWithin}
use Rattle.chorus_show.proofs.Lent.{lent_line, IsLentWithin}
use Rattle.chorus_show.proofs.journal.push_lines.Given as goal

abbrev pub invariant-loop-entry : goal.invariant-loop-entry
invariant-loop-entry l = record {
  text : l.out.items ≡ l.fn.out.items ++ flat_map (λ e. lent_line e) (take l.entry-index l.entries);
  within : AllWithin IsLentWithin l.entries 0 l.entry-index;
}
