-- What was read, and what scenario it gives.
-- l is a layout, told what a source tells of the bytes left in it, if it does.
use Rattle.std.specs.Prelude.{ℕ, ◌≡◌, ◌+◌, ◌⊎◌, Bool, nat_lt, if◌then◌else◌, List, take, length, Option, IfSome, Result, Ok, Err}
use Rattle.std.specs.List.{list_any}
use Rattle.chorus_io.specs.Bytes.{IsReadWhole, IsReadWithin, IsTooLong}
use Rattle.chorus_ui.specs.declared.layout.Layout.{Layout}
use Rattle.chorus_scene.specs.declared.limits.TheConstants.{TEXT_LIMIT}
use Rattle.chorus_lines.specs.Reasons.{reason_number}
use Rattle.chorus_lines.specs.declared.word.Reason.TheVariants as reasons
use Rattle.chorus_scene.specs.Scene.{Scene, Script}
use Rattle.chorus_scene.specs.Grammar.{read_scene}

-- the bytes that are read of an input: all of it, or one more than the limit where there are more
abbrev pub bytes_read : List ℕ → List ℕ
bytes_read input = take (TEXT_LIMIT + 1) input

-- What a call reads that takes no awaits: a text in which something waits is refused at line 0, for reason 2.
abbrev pub has_wait : Scene → Bool
has_wait c = list_any (λ (script : Script). nat_lt 0 (length script.waits)) c.scripts

abbrev pub if_nothing_waits : Result Scene (ℕ × ℕ) → Result Scene (ℕ × ℕ)
if_nothing_waits (Ok c) = if has_wait c then Err (0, reason_number reasons.Word) else Ok c
if_nothing_waits (Err fault) = Err fault

abbrev pub read_without_waits : Layout → List ℕ → Result Scene (ℕ × ℕ)
read_without_waits l text = if_nothing_waits (read_scene l text)

-- what is read of a text for a layout: a scenario, or the line and the reason for which it is refused
abbrev pub ReadsText : Type 0
ReadsText = Layout → List ℕ → Result Scene (ℕ × ℕ)

-- there are bytes of which this is read: those that are read of the source, where it tells them
pub record IsGivenBy (reads : ReadsText) (l : Layout) (told : Option (List ℕ))
    (outcome : Result Scene (ℕ × ℕ)) : Type 0 where
  pub bytes : List ℕ
  pub read : IfSome told (λ input. bytes ≡ bytes_read input)
  pub given : reads l bytes ≡ outcome

abbrev pub IsGiven : Layout → Option (List ℕ) → Result Scene (ℕ × ℕ) → Type 0
IsGiven l told outcome = IsGivenBy read_scene l told outcome

-- the same of a call that takes no awaits
abbrev pub IsGivenNoWait : Layout → Option (List ℕ) → Result Scene (ℕ × ℕ) → Type 0
IsGivenNoWait l told outcome = IsGivenBy read_without_waits l told outcome

-- the source was read to its end, or to one byte more than the limit
pub record IsRead (old new : Option (List ℕ)) : Type 0 where
  pub bytes : List ℕ
  pub read : IsReadWhole TEXT_LIMIT bytes old new ⊎ IsTooLong TEXT_LIMIT bytes old new

-- no more than the limit was read of the source
abbrev pub ReadsWithin : Option (List ℕ) → Option (List ℕ) → Type 0
ReadsWithin old new = (bytes : List ℕ) × IsReadWithin TEXT_LIMIT bytes old new

-- no more than one byte more than the limit was read of the source, whatever came of it
abbrev pub ReadsNoFurther : Option (List ℕ) → Option (List ℕ) → Type 0
ReadsNoFurther old new = (bytes : List ℕ) × IsReadWithin (TEXT_LIMIT + 1) bytes old new
