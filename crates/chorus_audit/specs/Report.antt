-- When a text is the report of a legal list of entries.
use Rattle.std.specs.Prelude.{◌≡◌, ℕ, ◌<◌, ◌^◌, length, true, List, reverse}
use Rattle.chorus_ui.specs.declared.layout.Layout.{Layout}
use Rattle.chorus_entry.specs.declared.entry.Entry.{Entry}
use Rattle.chorus_world.specs.Steps.{is_legal}
use Rattle.chorus_show.specs.declared.stuck.Stuck.{Stuck}
use Rattle.chorus_show.specs.Report.{report_with}
use Rattle.chorus_show.specs.Bounds.{AreWithin}
use Rattle.chorus_audit.specs.Stuck.{AreStuck}

-- the text is the report of these entries, the oldest first, in which these scripts are stuck, and they are a legal list
pub record IsReport (l : Layout) (text : List ℕ) (es : List Entry) : Type 0 where
  pub number : length es < 2 ^ 32
  pub within : AreWithin es
  pub legal : is_legal l (reverse es) ≡ true
  pub stuck : List Stuck
  pub are : AreStuck es 0 stuck
  pub is : text ≡ report_with stuck es
