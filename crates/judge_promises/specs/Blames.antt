-- What is said of an entry that breaks a promise: its line in a printed journal, the promise, and the line of the earlier
-- entry that the promise is about, which is one that is read.
use Rattle.std.specs.Prelude.{ℕ, ◌+◌, ◌-◌, ◌==◌, ◌≡◌, true, ◌&&◌, List, [], ◌∷◌, ◌++◌, length, reverse, Option, Some, None, slice_get, unwrap_or, if◌then◌else◌}
use Rattle.std.specs.Option.{option_map}
use Rattle.chorus_ui.specs.declared.ui.Ui.{Ui}
use Rattle.chorus_ui.specs.declared.layout.Layout.{Layout}
use Rattle.chorus_entry.specs.declared.entry.Entry.{Entry}
use Rattle.chorus_entry.specs.declared.id.MsgId.{MsgId}
use Rattle.chorus_entry.specs.declared.act.Act.{Act}
use Rattle.chorus_entry.specs.declared.act.Act.TheVariants.{Make, Post, Accept, Full, Already, ClientsFull, Early, NoPort, Elsewhere, NoMember, Choose, Take, Depart, Arrive, Delete, Gone}
use Rattle.chorus_world.specs.Posts.{source}
use Rattle.judge_rules.specs.declared.about.About.{About}
use Rattle.judge_rules.specs.declared.about.About.TheVariants as abouts
use Rattle.judge_rules.specs.declared.blame.Blame.{Blame}
use Rattle.judge_rules.specs.About.{passes}
use Rattle.judge_promises.specs.declared.breach.Breach.{Breach}
use Rattle.judge_promises.specs.Breaches.{breach_by, keeps_promises}
use Rattle.judge_promises.specs.Terms.{is_read}

-- The earlier entry that each condition is about, in the order of the conditions.

abbrev pub timely_about : ℕ → List About
timely_about p = abouts.Nothing ∷ abouts.At p ∷ abouts.Nothing ∷ []

abbrev pub deciding_about : MsgId → List About → List About
deciding_about x more = abouts.Source (source x) ∷ abouts.Message x ∷ more

abbrev pub act_about : ℕ → Act → List About
act_about s (Make q a c) = abouts.Moves q ∷ abouts.Nothing ∷ []
act_about s (Post m d) = abouts.Nothing ∷ abouts.Posts s ∷ []
act_about s (Accept x q n) =
    deciding_about x (abouts.Moves q ∷ abouts.Queue q ∷ abouts.Accepts q
    ∷ abouts.AcceptsOf q x.seat ∷ abouts.AcceptsOf q x.seat ∷ [])
act_about s (Full x q n) = deciding_about x (abouts.Moves q ∷ abouts.Queue q ∷ [])
act_about s (Already x q) = deciding_about x (abouts.Moves q ∷ abouts.AcceptsOf q x.seat ∷ [])
act_about s (ClientsFull x q) = deciding_about x (abouts.Moves q ∷ abouts.Source (source x) ∷ [])
act_about s (Early x q hop) = deciding_about x (abouts.Moves q ∷ [])
act_about s (NoPort x q) = deciding_about x (abouts.Moves q ∷ [])
act_about s (Elsewhere x q to hop) = deciding_about x (abouts.Source (source x) ∷ [])
act_about s (Gone x q) = deciding_about x (abouts.Moves q ∷ [])
act_about s (NoMember x g) = deciding_about x []
act_about s (Choose x g qs) = deciding_about x (abouts.Source (source x) ∷ [])
act_about s (Take q n x) = abouts.Moves q ∷ abouts.AcceptsAt q n ∷ abouts.Queue q ∷ []
act_about s (Depart q to a hop) = abouts.Moves q ∷ abouts.Nothing ∷ abouts.Moves q ∷ []
act_about s (Arrive q hop) = abouts.Moves q ∷ abouts.Moves q ∷ []
act_about s (Delete q xs) = abouts.Moves q ∷ abouts.Queue q ∷ []
act_about s _ = []

-- of these, that of the condition with this number, from 1
abbrev pub about_at : List About → ℕ → About
about_at all n = unwrap_or (slice_get all (n - 1)) abouts.Nothing

abbrev pub broken_about : Entry → Breach → About
broken_about e b =
    if b.rule == 0 then about_at (timely_about e.place) b.condition
    else about_at (act_about e.seat e.act) b.condition

-- the line of the last entry that is so, of those that are read; 0 where there is none
abbrev pub read_line : List Entry → About → ℕ
read_line [] about = 0
read_line (e ∷ past) about =
    if is_read e.act && passes about e then length past + 2 else read_line past about

abbrev pub blame_with : List Entry → Entry → Breach → Blame
blame_with past e b =
    record {
      line = length past + 2;
      rule = b.rule;
      condition = b.condition;
      about = read_line past (broken_about e b);
    }

-- what is said of an entry behind these, where it breaks a promise
abbrev pub blame_by : Layout → List Entry → Entry → Option Blame
blame_by l past e = option_map (blame_with past e) (breach_by l past e)

-- What is kept of a list of entries, the oldest first: its longest front that keeps the promises, and what is said of the
-- entry behind it, if there is one.

abbrev pub BlamesNext : Layout → List Entry → List Entry → Option Blame → Type 0
BlamesNext l past behind None = behind ≡ []
BlamesNext l past behind (Some b) =
    (e : Entry) × (more : List Entry) × (behind ≡ e ∷ more) × (blame_by l past e ≡ Some b)

pub record IsKept (l : Layout) (es past : List Entry) (blame : Option Blame) : Type 0 where
  pub behind : List Entry
  pub is : es ≡ reverse past ++ behind
  pub kept : keeps_promises l past ≡ true
  pub blamed : BlamesNext l past behind blame
