-- The grammar: which lines are refused, and what a text says that is not refused.
use Rattle.std.specs.Prelude.{◌≡◌, ℕ, ◌+◌, ◌*◌, ◌-◌, ◌^◌, Bool, true, false, not, ◌&&◌, ◌||◌, List, [], ◌∷◌, ◌++◌, length, map, Option, Some, None, Result, Ok, Err, nat_lt, nat_le, ◌==◌, if◌then◌else◌, codes, slice_index_or, slice_set, count_by}
use Rattle.std.specs.List.{list_any}
use Rattle.std.specs.Option.{is_some}
use Rattle.std.specs.Str.{bytes_eq}
use Rattle.chorus_ui.specs.declared.kind.Kind.TheVariants as kinds
use Rattle.chorus_ui.specs.Name.{same_ui}
use Rattle.chorus_ui.specs.declared.ui.Ui.{Ui}
use Rattle.chorus_ui.specs.declared.layout.Layout.{Layout}
use Rattle.chorus_entry.specs.declared.dest.Dest.{Dest}
use Rattle.chorus_entry.specs.declared.dest.Dest.TheVariants as dests
use Rattle.chorus_entry.specs.declared.command.Command.{Command}
use Rattle.chorus_entry.specs.declared.command.Command.TheVariants as commands
use Rattle.chorus_entry.specs.Members.{is_member}
use Rattle.chorus_scene.specs.declared.scenario.SetupLine.{SetupLine}
use Rattle.chorus_scene.specs.declared.scenario.SetupLine.TheVariants as setups
use Rattle.chorus_scene.specs.declared.scenario.Step as step
use Rattle.chorus_scene.specs.declared.scenario.Step.TheVariants as steps
use Rattle.chorus_lines.specs.declared.word.Word.{Word}
use Rattle.chorus_lines.specs.declared.word.Section.{Section}
use Rattle.chorus_lines.specs.declared.word.Section.TheVariants as sections
use Rattle.chorus_lines.specs.declared.word.Reason.{Reason}
use Rattle.chorus_lines.specs.declared.word.Reason.TheVariants as reasons
use Rattle.chorus_ui.specs.declared.limits.TheConstants.{SITES_LIMIT, ACTORS_PER_SITE_LIMIT, PORTS_PER_SITE_LIMIT, GROUPS_PER_SITE_LIMIT, BODY_LIMIT, MEMBERS_LIMIT, PENDING_LIMIT}
use Rattle.chorus_scene.specs.declared.limits.TheConstants.{TEXT_LIMIT, VERSION_ONE_SITES, VERSION_ONE_BODY, SCRIPTS_LIMIT, COMMANDS_LIMIT, CLAIMS_LIMIT, STEPS_LIMIT}
use Rattle.chorus_lines.specs.declared.fault.ReadFault.{ReadFault}
use Rattle.chorus_lines.specs.declared.fault.ReadFault.TheVariants as faults
use Rattle.chorus_lines.specs.Text.{cut, fields, lines, is_text, is_skipped}
use Rattle.chorus_lines.specs.Reasons.{reason_number}
use Rattle.chorus_claims.specs.Shapes.{fault_of}
use Rattle.chorus_scene.specs.Scene.{Scene, Script}
use Rattle.chorus_scene.specs.Making.{next_port, next_group, made_after, members_of}
use Rattle.chorus_scene.specs.Line.{Line, VersionLine, SitesLine, PortLine, GroupLine, MemberLine, ScriptLine, CommandLine, AwaitLine, ClaimLine, ScheduleLine, StepLine, EndLine, cuts, is_misshapen, line_of}
use Rattle.chorus_lines.specs.Words.{word_of, may_stand}

-- what the lines so far have said, and the section that they came to
pub record State : Type 0 where
  pub section : Section
  pub scene : Scene

abbrev pub opening : Layout → State
opening l = record {
  section = sections.Head;
  scene = record {
    layout = l;
    version = 0;
    sites = 0;
    setup = [];
    scripts = [];
    claims = [];
    schedule = [];
  };
}

-- the names that the setup lines so far have made
abbrev pub made : Scene → List Ui
made c = made_after c.layout [] c.setup

abbrev pub no_script : Script
no_script = record { actor = record { site = 0; kind = kinds.Actor; number = 0 }; commands = []; waits = [] }

-- the script of a number from 1, and the last one
abbrev pub script_at : ℕ → List Script → Script
script_at k scripts = slice_index_or scripts (k - 1) no_script

abbrev pub last_script : List Script → Script
last_script scripts = script_at (length scripts) scripts

abbrev pub is_step : ℕ → step.Step → Bool
is_step k (steps.Step n) = n == k
is_step k _ = false

-- of each script how many commands it has
abbrev pub command_counts : List Script → List ℕ
command_counts scripts = map (λ (script : Script). length script.commands) scripts

-- why the text is no claim of the scenario; none where it is one
abbrev pub claim_fault : Scene → List ℕ → Option Reason
claim_fault c text = fault_of c.sites (command_counts c.scripts) text

abbrev pub is_for : Reason → Option Reason → Bool
is_for reason None = false
is_for reason (Some other) = reason_number other == reason_number reason

-- one of the claims is spelled so
abbrev pub is_claimed : List ℕ → List (List ℕ) → Bool
is_claimed text claims = list_any (bytes_eq text) claims

abbrev pub most_sites : ℕ → ℕ
most_sites version = if version == 1 then VERSION_ONE_SITES else SITES_LIMIT

abbrev pub most_bytes : ℕ → ℕ
most_bytes version = if version == 1 then VERSION_ONE_BODY else BODY_LIMIT

-- a decimal of more than 64 bits, which counts as 2 ^ 64
abbrev pub is_huge : ℕ → Bool
is_huge n = nat_le (2 ^ 64) n

abbrev pub is_no_capacity : ℕ → Bool
is_no_capacity n = (n == 0) || nat_lt PENDING_LIMIT n

abbrev pub dest_is_huge : Dest → Bool
dest_is_huge (dests.OneAt group site) = is_huge site
dest_is_huge _ = false

-- a body or a number of the command is beyond its limit
abbrev pub command_is_beyond : ℕ → Command → Bool
command_is_beyond version (commands.Send dest body) = dest_is_huge dest || nat_lt (most_bytes version) (length body)
command_is_beyond version (commands.Call port back body) = nat_lt (most_bytes version) (length body)
command_is_beyond version (commands.Reply body) = nat_lt (most_bytes version) (length body)
command_is_beyond version (commands.Make actor capacity) = is_no_capacity capacity
command_is_beyond version (commands.GroupMake site) = is_huge site
command_is_beyond version _ = false

abbrev pub step_is_beyond : step.Step → Bool
step_is_beyond (steps.Step n) = is_huge n
step_is_beyond (steps.Deliver from to) = is_huge from || is_huge to
step_is_beyond steps.Drain = false

-- the last script has as many commands as a script may have
abbrev pub last_is_full : Scene → Bool
last_is_full c = nat_le COMMANDS_LIMIT (length (last_script c.scripts).commands)

-- test 5 of a claim: it is none
abbrev pub is_no_claim : Scene → Line → Bool
is_no_claim c (ClaimLine text) = is_for reasons.Word (claim_fault c text)
is_no_claim c _ = false

-- test 6 of a claim: a number, an id or a name in it is not spelled as one
abbrev pub is_misspelled : Scene → Line → Bool
is_misspelled c (ClaimLine text) = is_for reasons.Number (claim_fault c text)
is_misspelled c _ = false

-- test 7: a number or a count is beyond its limit
abbrev pub is_beyond : Scene → Line → Bool
is_beyond c (SitesLine n) = (n == 0) || nat_lt c.layout.sites n || nat_lt (most_sites c.version) n
is_beyond c (PortLine u actor capacity) = is_no_capacity capacity || nat_lt PORTS_PER_SITE_LIMIT u.number
is_beyond c (GroupLine u) = nat_lt GROUPS_PER_SITE_LIMIT u.number
is_beyond c (MemberLine group port) = nat_le MEMBERS_LIMIT (length (members_of group c.setup))
is_beyond c (ScriptLine actor) = nat_le SCRIPTS_LIMIT (length c.scripts)
is_beyond c (CommandLine command) = last_is_full c || command_is_beyond c.version command
is_beyond c (AwaitLine port) = last_is_full c
is_beyond c (ClaimLine text) = is_for reasons.Limit (claim_fault c text) || nat_le CLAIMS_LIMIT (length c.claims)
is_beyond c (StepLine step) = nat_le STEPS_LIMIT (length c.schedule) || step_is_beyond step
is_beyond c _ = false

-- on a site above the last
abbrev pub is_far : Scene → Ui → Bool
is_far c u = nat_lt c.sites u.site

abbrev pub is_no_actor : Scene → Ui → Bool
is_no_actor c actor = is_far c actor || nat_lt ACTORS_PER_SITE_LIMIT actor.number

abbrev pub is_no_site : Scene → ℕ → Bool
is_no_site c site = (site == 0) || nat_lt c.sites site

-- its site is one of the scenario's, and an earlier line made it
abbrev pub is_known : Scene → Ui → Bool
is_known c u = not (is_far c u) && is_member u (made c)

abbrev pub dest_is_unknown : Scene → Dest → Bool
dest_is_unknown c (dests.Port port) = is_far c port
dest_is_unknown c (dests.All group) = is_far c group
dest_is_unknown c (dests.One group) = is_far c group
dest_is_unknown c (dests.OneAt group site) = is_far c group || is_no_site c site

-- what a command names need not be made
abbrev pub command_is_unknown : Scene → Command → Bool
command_is_unknown c (commands.Send dest body) = dest_is_unknown c dest
command_is_unknown c (commands.Call port back body) = is_far c port || is_far c back
command_is_unknown c commands.Retry = false
command_is_unknown c commands.Cancel = false
command_is_unknown c (commands.Reply body) = false
command_is_unknown c (commands.Take port) = is_far c port
command_is_unknown c (commands.Move port actor) = is_far c port || is_no_actor c actor
command_is_unknown c (commands.Delete port) = is_far c port
command_is_unknown c (commands.Make actor capacity) = is_no_actor c actor
command_is_unknown c (commands.GroupMake site) = is_no_site c site
command_is_unknown c (commands.Join group port) = is_far c group || is_far c port
command_is_unknown c (commands.Leave group port) = is_far c group || is_far c port

-- test 8: a name or a site is unknown; of a claim it is all that is not told before
abbrev pub names_unknown : Scene → Line → Bool
names_unknown c (PortLine u actor capacity) = is_far c u || is_no_actor c actor
names_unknown c (GroupLine u) = is_far c u
names_unknown c (MemberLine group port) = not (is_known c group) || not (is_known c port)
names_unknown c (ScriptLine actor) = is_no_actor c actor
names_unknown c (CommandLine command) = command_is_unknown c command
names_unknown c (AwaitLine port) = is_far c port
names_unknown c (ClaimLine text) = is_some (claim_fault c text)
names_unknown c _ = false

-- test 9: a setup line or a claim says again what an earlier one said
abbrev pub repeats : Scene → Line → Bool
repeats c (PortLine u actor capacity) = is_member u (made c)
repeats c (GroupLine u) = is_member u (made c)
repeats c (MemberLine group port) = is_member port (members_of group c.setup)
repeats c (ClaimLine text) = is_claimed text c.claims
repeats c _ = false

-- test 10: the name is not the one that the making gives
abbrev pub is_not_given : Scene → Line → Bool
is_not_given c (PortLine u actor capacity) = not (same_ui u (next_port c.layout actor (made c)))
is_not_given c (GroupLine u) = not (same_ui u (next_group c.layout u.site (made c)))
is_not_given c _ = false

abbrev pub is_no_place : Scene → ℕ → Bool
is_no_place c place = (place == 0) || nat_lt (c.sites * c.layout.turns) place

-- the script has no command left
abbrev pub is_done : Scene → ℕ → Bool
is_done c k = nat_le (length (script_at k c.scripts).commands) (count_by (is_step k) c.schedule)

abbrev pub cannot_go : Scene → step.Step → Bool
cannot_go c (steps.Step k) = (k == 0) || nat_lt (length c.scripts) k || is_done c k
cannot_go c (steps.Deliver from to) = is_no_place c from || is_no_place c to || (from == to)
cannot_go c steps.Drain = false

-- test 11: a step cannot be done
abbrev pub is_unscheduled : Scene → Line → Bool
is_unscheduled c (StepLine step) = cannot_go c step
is_unscheduled c _ = false

-- refused for this reason where a test fails
abbrev pub unless : {A : Type 0} → Bool → Reason → Result A Reason → Result A Reason
unless fails reason goes_on = if fails then Err reason else goes_on

abbrev pub known : {A B : Type 0} → Option A → Reason → (A → Result B Reason) → Result B Reason
known None reason goes_on = Err reason
known (Some a) reason goes_on = goes_on a

-- tests 7 to 11, of a line that is spelled as it should be; of a claim 5 and 6 too
abbrev pub judge_line : Scene → Line → Result Line Reason
judge_line c line =
    unless (is_no_claim c line) reasons.Word
    (unless (is_misspelled c line) reasons.Number
    (unless (is_beyond c line) reasons.Limit
    (unless (names_unknown c line) reasons.Unknown
    (unless (repeats c line) reasons.Twice
    (unless (is_not_given c line) reasons.Order
    (unless (is_unscheduled c line) reasons.Schedule
    (Ok line)))))))

-- tests 5 and 6, and those behind them
abbrev pub judge_fields : Scene → Word → List (List ℕ) → Result Line Reason
judge_fields c w fields =
    unless (is_misshapen c.version w fields) reasons.Word
    (known (line_of w fields) reasons.Number
    (judge_line c))

-- tests 3 and 4, and those behind them
abbrev pub judge_word : State → List ℕ × Option (List ℕ) → Result Line Reason
judge_word s (word, rest) =
    known (word_of s.scene.version word) reasons.Word (λ w.
    unless (not (may_stand s.section w)) reasons.Order
    (judge_fields s.scene w (fields (cuts w) rest)))

-- test 2
abbrev pub judge_head : List ℕ → Result Line Reason
judge_head bytes =
    if bytes_eq bytes (codes "chorus 1") then Ok (VersionLine 1)
    else if bytes_eq bytes (codes "chorus 2") then Ok (VersionLine 2)
    else if bytes_eq bytes (codes "chorus 3") then Ok (VersionLine 3) else Err reasons.Header

abbrev pub is_head : Section → Bool
is_head sections.Head = true
is_head _ = false

-- tests 2 to 11: what a line that is not skipped says
abbrev pub judge_bytes : State → List ℕ → Result Line Reason
judge_bytes s bytes = if is_head s.section then judge_head bytes else judge_word s (cut 32 bytes)

abbrev pub with_command : Command → Script → Script
with_command command script = record script { commands = script.commands ++ command ∷ [] }

-- an await is the command that receives from the port, with its number among those that wait
abbrev pub with_await : Ui → Script → Script
with_await port script =
    record script {
      commands = script.commands ++ commands.Take port ∷ [];
      waits = script.waits ++ length script.commands ∷ [];
    }

-- the last script changes
abbrev pub with_last : (Script → Script) → State → State
with_last change s = record {
  section = sections.Scripts;
  scene = record s.scene {
    scripts = slice_set s.scene.scripts (length s.scene.scripts - 1) (change (last_script s.scene.scripts));
  };
}

abbrev pub with_setup : State → SetupLine → State
with_setup s line = record { section = sections.Setup; scene = record s.scene { setup = s.scene.setup ++ line ∷ [] } }

-- what is said with the line too
abbrev pub after : State → Line → State
after s (VersionLine v) = record { section = sections.Sites; scene = record s.scene { version = v } }
after s (SitesLine n) = record { section = sections.Setup; scene = record s.scene { sites = n } }
after s (PortLine u actor capacity) = with_setup s (setups.Port actor capacity)
after s (GroupLine u) = with_setup s (setups.Group u.site)
after s (MemberLine group port) = with_setup s (setups.Member group port)
after s (ScriptLine actor) = record {
  section = sections.Scripts;
  scene = record s.scene { scripts = s.scene.scripts ++ record { actor = actor; commands = []; waits = [] } ∷ [] };
}
after s (CommandLine command) = with_last (with_command command) s
after s (AwaitLine port) = with_last (with_await port) s
after s (ClaimLine text) = record {
  section = sections.Claims;
  scene = record s.scene { claims = s.scene.claims ++ text ∷ [] };
}
after s ScheduleLine = record { section = sections.Schedule; scene = s.scene }
after s (StepLine step) = record {
  section = sections.Schedule;
  scene = record s.scene { schedule = s.scene.schedule ++ step ∷ [] };
}
after s EndLine = record { section = sections.Ended; scene = s.scene }

abbrev pub then_after : State → Result Line Reason → Result State Reason
then_after s (Ok line) = Ok (after s line)
then_after s (Err reason) = Err reason

-- what the lines have said when this one is read too, or the reason of the first test that it fails. Test 1 is for
-- skipped lines too, which say nothing
unfoldable pub next : State → List ℕ → Result State Reason
next s bytes =
    unless (not (is_text bytes)) reasons.Text (if is_skipped bytes then Ok s else then_after s (judge_bytes s bytes))

abbrev pub is_ended : Section → Bool
is_ended sections.Ended = true
is_ended _ = false

abbrev pub or_at : {A B : Type 0} → ℕ → Result A Reason → (A → Result B (ℕ × ℕ)) → Result B (ℕ × ℕ)
or_at n (Ok a) goes_on = goes_on a
or_at n (Err reason) goes_on = Err (n, reason_number reason)

-- the lines from number n on: what the text says, or the first line that is refused, and why
unfoldable pub judge : ℕ → State → List (List ℕ) → Result Scene (ℕ × ℕ)
judge n s [] = if is_ended s.section then Ok s.scene else Err (n, reason_number reasons.Unfinished)
judge n s (line ∷ lines) = or_at n (next s line) (λ t. judge (n + 1) t lines)

-- the scenario that a text says for a layout, or the line and the reason of its fault
unfoldable pub read_scene : Layout → List ℕ → Result Scene (ℕ × ℕ)
read_scene l text =
    if nat_lt TEXT_LIMIT (length text) then Err (0, reason_number reasons.Limit) else judge 1 (opening l) (lines text)

-- what reading returned is what the definition says, unless memory ran out
abbrev pub Refuses : ReadFault → Result Scene (ℕ × ℕ) → Type 0
Refuses (faults.Memory error) judged = Unit {0}
Refuses (faults.Scene fault) judged = judged ≡ Err (fault.line, fault.reason)

abbrev pub Reads : Result Scene ReadFault → Result Scene (ℕ × ℕ) → Type 0
Reads (Ok scene) judged = judged ≡ Ok scene
Reads (Err fault) judged = Refuses fault judged
