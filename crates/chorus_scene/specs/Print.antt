-- The one text of a scenario.
use Rattle.std.specs.Prelude.{◌≡◌, ℕ, ◌+◌, Bool, true, List, [], ◌∷◌, ◌++◌, map, Ok, codes, decimal}
use Rattle.std.specs.List.{flat_map}
use Rattle.chorus_ui.specs.declared.ui.Ui.{Ui}
use Rattle.chorus_ui.specs.Text.{name_text}
use Rattle.chorus_ui.specs.declared.layout.Layout.{Layout}
use Rattle.chorus_entry.specs.declared.dest.Dest.{Dest}
use Rattle.chorus_entry.specs.declared.dest.Dest.TheVariants as dests
use Rattle.chorus_entry.specs.declared.command.Command.{Command}
use Rattle.chorus_entry.specs.declared.command.Command.TheVariants as commands
use Rattle.chorus_scene.specs.declared.scenario.SetupLine.{SetupLine}
use Rattle.chorus_scene.specs.declared.scenario.SetupLine.TheVariants as setups
use Rattle.chorus_scene.specs.declared.scenario.Step as step
use Rattle.chorus_scene.specs.declared.scenario.Step.TheVariants as steps
use Rattle.chorus_lines.specs.Body.{body_text}
use Rattle.chorus_scene.specs.Scene.{Scene, Script, is_await}
use Rattle.chorus_scene.specs.Making.{makes, name_said}
use Rattle.chorus_scene.specs.Line.{Line, VersionLine, SitesLine, PortLine, GroupLine, MemberLine, ScriptLine, CommandLine, AwaitLine, ClaimLine, ScheduleLine, StepLine, EndLine}
use Rattle.chorus_scene.specs.Grammar.{read_scene}

-- fields, each behind one space
abbrev pub behind : List (List ℕ) → List ℕ
behind [] = []
behind (field ∷ fields) = 32 ∷ field ++ behind fields

abbrev pub dest_text : Dest → List ℕ → List ℕ
dest_text (dests.Port port) body = codes "send" ++ behind (name_text port ∷ body ∷ [])
dest_text (dests.All group) body = codes "all" ++ behind (name_text group ∷ body ∷ [])
dest_text (dests.One group) body = codes "one" ++ behind (name_text group ∷ body ∷ [])
dest_text (dests.OneAt group site) body = codes "at" ++ behind (name_text group ∷ decimal site ∷ body ∷ [])

abbrev pub command_text : Command → List ℕ
command_text (commands.Send dest body) = dest_text dest (body_text body)
command_text (commands.Call port back body) =
    codes "call" ++ behind (name_text port ∷ name_text back ∷ body_text body ∷ [])
command_text commands.Retry = codes "retry"
command_text commands.Cancel = codes "cancel"
command_text (commands.Reply body) = codes "reply" ++ behind (body_text body ∷ [])
command_text (commands.Take port) = codes "take" ++ behind (name_text port ∷ [])
command_text (commands.Move port actor) = codes "move" ++ behind (name_text port ∷ name_text actor ∷ [])
command_text (commands.Delete port) = codes "delete" ++ behind (name_text port ∷ [])
command_text (commands.Make actor capacity) = codes "newport" ++ behind (name_text actor ∷ decimal capacity ∷ [])
command_text (commands.GroupMake site) = codes "newgroup" ++ behind (decimal site ∷ [])
command_text (commands.Join group port) = codes "join" ++ behind (name_text group ∷ name_text port ∷ [])
command_text (commands.Leave group port) = codes "leave" ++ behind (name_text group ∷ name_text port ∷ [])

abbrev pub await_text : Ui → List ℕ
await_text port = codes "await" ++ behind (name_text port ∷ [])

-- a command of a script, which may be an await
abbrev pub said_as : Bool → Command → List ℕ
said_as true (commands.Take port) = await_text port
said_as waits command = command_text command

-- the commands of a script from this number on
abbrev pub command_texts : List ℕ → ℕ → List Command → List (List ℕ)
command_texts waits i [] = []
command_texts waits i (command ∷ commands) =
    said_as (is_await waits i) command ∷ command_texts waits (i + 1) commands

abbrev pub version_text : ℕ → List ℕ
version_text v = codes "chorus" ++ behind (decimal v ∷ [])

abbrev pub sites_text : ℕ → List ℕ
sites_text n = codes "sites" ++ behind (decimal n ∷ [])

abbrev pub port_text : Ui → Ui → ℕ → List ℕ
port_text u actor capacity = codes "port" ++ behind (name_text u ∷ name_text actor ∷ decimal capacity ∷ [])

abbrev pub group_text : Ui → List ℕ
group_text u = codes "group" ++ behind (name_text u ∷ [])

abbrev pub member_text : Ui → Ui → List ℕ
member_text group port = codes "member" ++ behind (name_text group ∷ name_text port ∷ [])

abbrev pub actor_text : Ui → List ℕ
actor_text actor = codes "script" ++ behind (name_text actor ∷ [])

-- a line of the setup that begins with this name
abbrev pub said_text : Ui → SetupLine → List ℕ
said_text name (setups.Port actor capacity) = port_text name actor capacity
said_text name (setups.Group site) = group_text name
said_text name (setups.Member group port) = member_text name port

-- the line that makes something says the name that the making gives, where these were made before
abbrev pub setup_text : Layout → List Ui → SetupLine → List ℕ
setup_text l made line = said_text (name_said l made line) line

abbrev pub setup_texts : Layout → List Ui → List SetupLine → List (List ℕ)
setup_texts l made [] = []
setup_texts l made (line ∷ lines) = setup_text l made line ∷ setup_texts l (made ++ makes l made line) lines

abbrev pub script_texts : Script → List (List ℕ)
script_texts s = actor_text s.actor ∷ command_texts s.waits 0 s.commands

abbrev pub claim_text : List ℕ → List ℕ
claim_text text = codes "claim" ++ behind (text ∷ [])

abbrev pub step_text : step.Step → List ℕ
step_text (steps.Step k) = codes "step" ++ behind (decimal k ∷ [])
step_text (steps.Deliver from to) = codes "deliver" ++ behind (decimal from ∷ decimal to ∷ [])
step_text steps.Drain = codes "drain"

-- the one text of a line
abbrev pub text_of : Line → List ℕ
text_of (VersionLine v) = version_text v
text_of (SitesLine n) = sites_text n
text_of (PortLine u actor capacity) = port_text u actor capacity
text_of (GroupLine u) = group_text u
text_of (MemberLine group port) = member_text group port
text_of (ScriptLine actor) = actor_text actor
text_of (CommandLine command) = command_text command
text_of (AwaitLine port) = await_text port
text_of (ClaimLine text) = claim_text text
text_of ScheduleLine = codes "schedule"
text_of (StepLine step) = step_text step
text_of EndLine = codes "end"

-- the lines before the claims
abbrev pub before_claims : Scene → List (List ℕ)
before_claims c =
    version_text c.version ∷ sites_text c.sites ∷ (setup_texts c.layout [] c.setup ++ flat_map script_texts c.scripts)

-- the lines before the schedule
abbrev pub before_schedule : Scene → List (List ℕ)
before_schedule c = before_claims c ++ map claim_text c.claims

-- LF behind each line but the last
unfoldable pub joined : List (List ℕ) → List ℕ
joined [] = []
joined (line ∷ []) = line
joined (line ∷ second ∷ lines) = line ++ 10 ∷ joined (second ∷ lines)

-- the lines of a scenario
abbrev pub scene_texts : Scene → List (List ℕ)
scene_texts c = (before_schedule c ++ codes "schedule" ∷ map step_text c.schedule) ++ codes "end" ∷ []

-- the text of a scenario
abbrev pub printed : Scene → List ℕ
printed c = joined (scene_texts c)

-- what is printed of it says the same
abbrev pub IsReadAgain : Scene → Type 0
IsReadAgain c = read_scene c.layout (printed c) ≡ Ok c

-- lines with LF behind each
abbrev pub ended : List ℕ → List ℕ
ended line = line ++ 10 ∷ []

abbrev pub all_ended : List (List ℕ) → List ℕ
all_ended lines = flat_map ended lines

-- the lines of a setup, where these are the names that they begin with
abbrev pub said_texts : List Ui → List SetupLine → List (List ℕ)
said_texts [] lines = []
said_texts (name ∷ names) [] = []
said_texts (name ∷ names) (line ∷ lines) = said_text name line ∷ said_texts names lines
