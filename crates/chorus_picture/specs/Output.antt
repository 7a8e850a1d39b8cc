-- What a picture did to its source and sink, by its status.
use Rattle.std.specs.Prelude.{◌≡◌, ℕ, ◌<◌, ◌≤◌, ◌⊎◌, List, length, Option, IfSome}
use Rattle.std.specs.Io.KnownBytes.{Appends}
use Rattle.chorus_ui.specs.declared.layout.Layout.{Layout}
use Rattle.chorus_entry.specs.declared.entry.Entry.{Entry}
use Rattle.chorus_io.specs.Bytes.{AppendsPrefix, IsReadWhole, IsReadWithin, IsTooLong}
use Rattle.chorus_show.specs.declared.status.Status.{Status}
use Rattle.chorus_show.specs.declared.status.Status.TheVariants.{Done, Usage, Scenario, ReadFault, WriteFault, Memory, Worn}
use Rattle.chorus_show.specs.declared.status.TheConstants.Status.{TOO_LONG}
use Rattle.chorus_audit.specs.declared.judging.Audit.{Audit}
use Rattle.chorus_audit.specs.declared.limits.TheConstants.{AUDIT_LIMIT}
use Rattle.chorus_audit.specs.Tests.{IsRead}
use Rattle.picture_rows.specs.declared.limits.TheConstants.{ENTRIES_LIMIT}
use Rattle.chorus_picture.specs.Picture.{picture_text}

-- what is read of the text, few enough entries to be drawn
pub record IsDrawn (l : Layout) (text picture : List ℕ) : Type 0 where
  pub entries : List Entry
  pub audit : Audit
  pub read : IsRead l text audit entries
  pub few : length entries ≤ ENTRIES_LIMIT
  pub is : picture ≡ picture_text l text entries audit

-- or too many
pub record HasMany (l : Layout) (text : List ℕ) : Type 0 where
  pub entries : List Entry
  pub audit : Audit
  pub read : IsRead l text audit entries
  pub many : ENTRIES_LIMIT < length entries

-- how a picture ends, and what it read
abbrev pub ReadsBy : Layout → Status → Option (List ℕ) → Option (List ℕ) → Type 0
ReadsBy l Done old new = (bytes : List ℕ) × IsReadWhole AUDIT_LIMIT bytes old new
ReadsBy l WriteFault old new = (bytes : List ℕ) × IsReadWhole AUDIT_LIMIT bytes old new
ReadsBy l (Scenario line reason) old new =
    (Scenario line reason ≡ TOO_LONG)
    × ((bytes : List ℕ) × (IsTooLong AUDIT_LIMIT bytes old new ⊎
    (IsReadWhole AUDIT_LIMIT bytes old new × HasMany l bytes)))
ReadsBy l ReadFault old new = (bytes : List ℕ) × IsReadWithin AUDIT_LIMIT bytes old new
ReadsBy l Memory old new = (bytes : List ℕ) × IsReadWithin AUDIT_LIMIT bytes old new
ReadsBy l Usage old new = ⊥
ReadsBy l (Worn clock) old new = ⊥

-- the sink took the picture of what the source had at Done, a prefix of it at WriteFault, and nothing with any other
-- status
abbrev pub Draws : Layout → Status → Option (List ℕ) → Option (List ℕ) → Option (List ℕ) → Type 0
Draws l Done input old new =
    (picture : List ℕ) × IfSome input (λ text. IsDrawn l text picture) × Appends old new picture
Draws l WriteFault input old new =
    (picture : List ℕ) × IfSome input (λ text. IsDrawn l text picture) × AppendsPrefix old new picture
Draws l _ input old new = new ≡ old
