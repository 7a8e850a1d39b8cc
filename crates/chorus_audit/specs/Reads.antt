-- What is read of a text for a layout.
use Rattle.std.specs.Prelude.{◌≡◌, ℕ, List, reverse}
use Rattle.chorus_ui.specs.declared.layout.Layout.{Layout}
use Rattle.chorus_audit.specs.declared.judging.Reading.{Reading}
use Rattle.chorus_audit.specs.Tests.{IsRead}

-- what an audit finds, with the entries, in a world of this layout
pub record IsReading (l : Layout) (text : List ℕ) (reading : Reading) : Type 0 where
  pub read : IsRead l text reading.audit (reverse reading.world.past)
  pub layout_is : reading.world.layout ≡ l
