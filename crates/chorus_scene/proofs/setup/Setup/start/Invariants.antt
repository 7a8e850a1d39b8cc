use Rattle.std.proofs.Common.{◌≡◌, ℕ, [], length, map, get_or}
use Rattle.std.specs.Global.{Vec}
use Rattle.chorus_ui.specs.declared.ui.Ui.{Ui}
use Rattle.chorus_scene.proofs.setup.Setup.start.Given as goal

-- so many lists, each of them empty
abbrev pub invariant-loop-at : goal.invariant-loop-at
invariant-loop-at l = record {
  many : length l.members.items ≡ l._at;
  none : (k : ℕ) → get_or (map (λ (x : Vec Ui). x.items) l.members.items) k [] ≡ [];
}
