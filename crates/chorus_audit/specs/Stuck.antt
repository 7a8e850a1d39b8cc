-- Which scripts may be said to be stuck behind a journal's entries, and what is read of the lines that say it.
use Rattle.std.specs.Prelude.{◌≡◌, ◌≢◌, ℕ, ◌+◌, ◌<◌, ◌^◌, List, [], ◌∷◌, ◌++◌, length, unwrap_or}
use Rattle.std.specs.List.{filter}
use Rattle.std.specs.Ordering.{nat_cmp}
use Rattle.std.specs.BTreeMap.{BTreeMap, get}
use Rattle.chorus_entry.specs.declared.entry.Entry.{Entry}
use Rattle.chorus_world.specs.Commands.{is_own_of}
use Rattle.chorus_show.specs.declared.stuck.Stuck.{Stuck}
use Rattle.chorus_show.specs.Report.{stuck_line}

-- the number of commands that the seat gave
abbrev pub commands_of : ℕ → List Entry → ℕ
commands_of k es = length (filter (is_own_of k) es)

-- a script above the last one, at the command behind those that its seat gave
pub record MayBeStuck (es : List Entry) (last : ℕ) (s : Stuck) : Type 0 where
  pub rises : last < s.script
  pub fits : s.script < 2 ^ 32
  pub is_next : s.command ≡ commands_of s.script es + 1

-- so it is of each of them, and the scripts rise
abbrev pub AreStuck : List Entry → ℕ → List Stuck → Type 0
AreStuck es last [] = Unit {0}
AreStuck es last (s ∷ stuck) = MayBeStuck es last s × AreStuck es s.script stuck

-- the text begins with no line of such a script
abbrev pub HasNoStuck : List Entry → ℕ → List ℕ → Type 0
HasNoStuck es last text = (s : Stuck) (more : List ℕ) → MayBeStuck es last s → text ≢ stuck_line s ++ more

-- it begins with the line of this one, and this stands behind it
pub record BeginsStuck (es : List Entry) (last : ℕ) (text : List ℕ) (script : ℕ) (more : List ℕ) : Type 0 where
  pub stuck : Stuck
  pub may : MayBeStuck es last stuck
  pub script_is : script ≡ stuck.script
  pub is : text ≡ stuck_line stuck ++ more

-- it begins with the lines of these, one after another, and this is left, which begins with none more
abbrev pub Skips : List Entry → ℕ → List ℕ → List ℕ → List Stuck → Type 0
Skips es last text left [] = (text ≡ left) × HasNoStuck es last text
Skips es last text left (s ∷ stuck) =
    MayBeStuck es last s × ((more : List ℕ) × (text ≡ stuck_line s ++ more) × Skips es s.script more left stuck)

-- so many of them
pub record SkipsSome (es : List Entry) (last : ℕ) (text : List ℕ) (count : ℕ) (left : List ℕ) : Type 0 where
  pub stuck : List Stuck
  pub count_is : count ≡ length stuck
  pub skips : Skips es last text left stuck

-- what a table has of a seat
abbrev pub given_by : BTreeMap ℕ ℕ → ℕ → ℕ
given_by table k = unwrap_or (get nat_cmp table k) 0

-- it has the number of commands that each seat gave
abbrev pub AreGiven : BTreeMap ℕ ℕ → List Entry → Type 0
AreGiven table es = (k : ℕ) → given_by table k ≡ commands_of k es
