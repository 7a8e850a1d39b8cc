-- The law of what is open.
use Rattle.std.specs.Prelude.{◌≡◌, ◌↔◌, true, List, []}
use Rattle.chorus_ui.specs.declared.layout.Layout.{Layout}
use Rattle.chorus_ui.specs.Layout.{IsLayout}
use Rattle.chorus_entry.specs.declared.entry.Entry.{Entry}
use Rattle.chorus_world.specs.Steps.{is_legal}
use Rattle.law_network.specs.Quiet.{IsQuiet}
use Rattle.law_judge.specs.Open.{all_open}

-- in a legal list nothing is open exactly where the list is quiet, with no packet left
abbrev pub NothingOpenIsQuiet : Type 0
NothingOpenIsQuiet =
    (l : Layout) (past : List Entry) → IsLayout l → is_legal l past ≡ true → (all_open l past ≡ []) ↔ IsQuiet l past []
