-- What a reader keeps: what the lines so far have said, and tables beside that.
use Rattle.std.specs.Prelude.{◌≡◌, ℕ, ◌+◌, ◌-◌, ◌*◌, ◌≤◌, ◌<◌, ◌%◌, Bool, true, false, ◌&&◌, List, [], ◌∷◌, length, map, Option, Result, Ok, Err, slice_index, slice_index_or, nat_le, count_by}
use Rattle.chorus_ui.specs.declared.kind.Kind.{Kind}
use Rattle.chorus_ui.specs.declared.kind.Kind.TheVariants as kinds
use Rattle.chorus_ui.specs.Kind.{same_kind}
use Rattle.chorus_ui.specs.declared.ui.Ui.{Ui}
use Rattle.chorus_ui.specs.declared.layout.Layout.{Layout}
use Rattle.chorus_entry.specs.declared.command.Command.{Command}
use Rattle.chorus_entry.specs.Members.{is_member}
use Rattle.chorus_lines.specs.declared.word.Word.{Word}
use Rattle.chorus_lines.specs.declared.word.Word.TheVariants as words
use Rattle.chorus_lines.specs.declared.word.Verb.{Verb}
use Rattle.chorus_lines.specs.declared.word.Section.{Section}
use Rattle.chorus_lines.specs.declared.word.Section.TheVariants as sections
use Rattle.chorus_lines.specs.declared.word.Reason.{Reason}
use Rattle.chorus_scene.specs.declared.scenario.SetupLine.{SetupLine}
use Rattle.chorus_scene.specs.declared.setup.Setup.{Setup}
use Rattle.chorus_scene.specs.declared.reader.Reader.{Reader}
use Rattle.chorus_lines.specs.declared.fault.Stop.{Stop}
use Rattle.chorus_lines.specs.declared.fault.Stop.TheVariants as stops
use Rattle.chorus_ui.specs.declared.limits.TheConstants.{SITES_LIMIT, PORTS_PER_SITE_LIMIT, GROUPS_PER_SITE_LIMIT}
use Rattle.chorus_scene.specs.declared.limits.TheConstants.{SCRIPTS_LIMIT}
use Rattle.chorus_scene.specs.declared.setup.TheConstants.{SITE_COUNTS, PORT_COUNTS, COUNTS, SITE_LISTS, LISTS}
use Rattle.chorus_lines.specs.Text.{fields}
use Rattle.chorus_scene.specs.Scene.{Scene}
use Rattle.chorus_scene.specs.Making.{stride, next_name, shares_place, makes, made_after, name_said, names_said, members_of}
use Rattle.chorus_scene.specs.Line.{Line, CommandLine, cuts}
use Rattle.chorus_scene.specs.Grammar.{State, command_counts, judge_fields, then_after, is_step}

-- where the table of a setup counts what one place has given: four places for each site, ports and then groups
abbrev pub count_at : Layout → Kind → ℕ → ℕ → ℕ
count_at l kinds.Group site number = PORT_COUNTS + (site - 1) * SITE_COUNTS + (number - 1) % stride l kinds.Group
count_at l kind site number = (site - 1) * SITE_COUNTS + (number - 1) % stride l kind

abbrev pub is_actor : Kind → Bool
is_actor kinds.Actor = true
is_actor kinds.Port = false
is_actor kinds.Group = false

-- a group that has a list of members: four groups a site
abbrev pub is_listed : Ui → Bool
is_listed g = same_kind g.kind kinds.Group && nat_le 1 g.site && nat_le g.site SITES_LIMIT && nat_le 1 g.number
    && nat_le g.number GROUPS_PER_SITE_LIMIT

abbrev pub list_number : Ui → ℕ
list_number g = (g.site - 1) * SITE_LISTS + (g.number - 1)

abbrev pub listed : Setup → Ui → List Ui
listed s g = slice_index_or (map (λ v. v.items) s.members.items) (list_number g) []

-- the most that a site makes
abbrev pub most_number : Kind → ℕ
most_number kinds.Group = GROUPS_PER_SITE_LIMIT
most_number _ = PORTS_PER_SITE_LIMIT

-- what the setup lines of a setup have made
abbrev pub made_by : Layout → Setup → List Ui
made_by l s = made_after l [] s.lines.items

-- the line makes a port or group, by the place of the site that gives the number n: u is of its kind, with a number that
-- the site may give
pub record IsMaking (l : Layout) (line : SetupLine) (u : Ui) (site n : ℕ) : Type 0 where
  pub kind : is_actor u.kind ≡ false
  pub from_one : 1 ≤ n
  pub room : u.number ≤ most_number u.kind
  pub made : (before : List Ui) → makes l before line ≡ next_name l u.kind site n before ∷ []
  pub said : (before : List Ui) → name_said l before line ≡ next_name l u.kind site n before
  pub joined : (g : Ui) → members_of g (line ∷ []) ≡ []

-- the tables of a setup are those of its lines
pub record IsSetup (l : Layout) (s : Setup) : Type 0 where
  pub names : s.names.items ≡ names_said l [] s.lines.items
  pub counts_len : length s.counts ≡ COUNTS
  pub counts : (kind : Kind) (site number : ℕ) → is_actor kind ≡ false → 1 ≤ site → site ≤ SITES_LIMIT →
      slice_index s.counts (count_at l kind site number) ≡ count_by (shares_place l kind site number) (made_by l s)
  pub lists : length s.members.items ≡ LISTS
  pub members : (g : Ui) → is_listed g ≡ true → listed s g ≡ members_of g s.lines.items
  pub strangers : (g : Ui) → is_listed g ≡ false → members_of g s.lines.items ≡ []
  pub groups : (g : Ui) → same_kind g.kind kinds.Group ≡ true → is_member g (made_by l s) ≡ true → is_listed g ≡ true

abbrev pub scene_of : Reader → Scene
scene_of r = record {
  layout = r.layout;
  version = r.version;
  sites = r.sites;
  setup = r.setup.lines.items;
  scripts = r.scripts.items;
  claims = r.claims.items;
  schedule = r.schedule.items;
}

abbrev pub state_of : Reader → State
state_of r = record { section = r.section; scene = scene_of r }

-- what a line with this word is judged as
abbrev pub read_with : Reader → Word → Option (List ℕ) → Result State Reason
read_with r w rest = then_after (state_of r) (judge_fields (scene_of r) w (fields (cuts w) rest))

abbrev pub command_with : Reader → Verb → Option (List ℕ) → Result Line Reason
command_with r verb rest = judge_fields (scene_of r) (words.Command verb) (fields (cuts (words.Command verb)) rest)

abbrev pub await_with : Reader → Option (List ℕ) → Result Line Reason
await_with r rest = judge_fields (scene_of r) words.Await (fields (cuts words.Await) rest)

-- what a function returned is what judging gives, unless memory ran out
abbrev pub Fails : {X : Type 0} → Stop → Result X Reason → Type 0
Fails (stops.Memory error) judged = Unit {0}
Fails (stops.Fault reason) judged = judged ≡ Err reason

abbrev pub Gives : {X : Type 0} → State → Result X Stop → Result State Reason → Type 0
Gives t (Ok x) judged = judged ≡ Ok t
Gives t (Err stop) judged = Fails stop judged

abbrev pub Tells : Result Command Stop → Result Line Reason → Type 0
Tells (Ok command) judged = judged ≡ Ok (CommandLine command)
Tells (Err stop) judged = Fails stop judged

abbrev pub IsMemory : Stop → Type 0
IsMemory (stops.Memory error) = Unit {0}
IsMemory (stops.Fault reason) = ⊥

-- the schedule has not begun
abbrev pub is_early : Section → Bool
is_early sections.Schedule = false
is_early sections.Ended = false
is_early _ = true

-- a script has begun
abbrev pub is_in_scripts : Section → Bool
is_in_scripts sections.Scripts = true
is_in_scripts _ = false

-- the tables and counts of a reader are those of the lines so far
pub record Stands (r : Reader) : Type 0 where
  pub tables : IsSetup r.layout r.setup
  pub sites : r.sites ≤ SITES_LIMIT
  pub used_len : length r.used.items ≡ length r.scripts.items
  pub used : (k : ℕ) → k < length r.scripts.items → slice_index r.used.items k
      ≡ count_by (is_step (k + 1)) r.schedule.items
  pub counts : r.counts.items ≡ command_counts r.scripts.items
  pub early : is_early r.section ≡ true → r.schedule.items ≡ []
  pub some_script : is_in_scripts r.section ≡ true → 0 < length r.scripts.items
  pub few_scripts : length r.scripts.items ≤ SCRIPTS_LIMIT
