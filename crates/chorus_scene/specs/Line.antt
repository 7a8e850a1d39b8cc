-- The words, where they may stand, and the fields of their lines.
use Rattle.std.specs.Prelude.{ℕ, ◌-◌, Bool, true, false, not, ◌&&◌, ◌||◌, List, [], Option, Some, None, option_map, if◌then◌else◌, slice_index_or}
use Rattle.chorus_ui.specs.declared.kind.Kind.{Kind}
use Rattle.chorus_ui.specs.declared.kind.Kind.TheVariants as kinds
use Rattle.chorus_ui.specs.Kind.{same_kind}
use Rattle.chorus_ui.specs.declared.ui.Ui.{Ui}
use Rattle.chorus_ui.specs.Text.{parse_name}
use Rattle.chorus_entry.specs.declared.dest.Dest.{Dest}
use Rattle.chorus_entry.specs.declared.dest.Dest.TheVariants as dests
use Rattle.chorus_entry.specs.declared.command.Command.{Command}
use Rattle.chorus_entry.specs.declared.command.Command.TheVariants as commands
use Rattle.chorus_scene.specs.declared.scenario.Step as step
use Rattle.chorus_scene.specs.declared.scenario.Step.TheVariants as steps
use Rattle.chorus_lines.specs.declared.word.Target.{Target}
use Rattle.chorus_lines.specs.declared.word.Target.TheVariants as targets
use Rattle.chorus_lines.specs.declared.word.Verb.{Verb}
use Rattle.chorus_lines.specs.declared.word.Verb.TheVariants as verbs
use Rattle.chorus_lines.specs.declared.word.Word.{Word}
use Rattle.chorus_lines.specs.declared.word.Word.TheVariants as words
use Rattle.chorus_lines.specs.Text.{number_in, are_fields}
use Rattle.chorus_lines.specs.Body.{begins_a_body, body_in}

-- how many fields stand behind a word
abbrev pub verb_wants : Verb → ℕ
verb_wants (verbs.Send target) = 2
verb_wants verbs.At = 3
verb_wants verbs.Call = 3
verb_wants verbs.Retry = 0
verb_wants verbs.Cancel = 0
verb_wants verbs.Reply = 1
verb_wants verbs.Take = 1
verb_wants verbs.Move = 2
verb_wants verbs.Delete = 1
verb_wants verbs.NewPort = 2
verb_wants verbs.NewGroup = 1
verb_wants verbs.Join = 2
verb_wants verbs.Leave = 2

abbrev pub wants : Word → ℕ
wants words.Chorus = 1
wants words.Sites = 1
wants words.Port = 3
wants words.Group = 1
wants words.Member = 2
wants words.Script = 1
wants (words.Command verb) = verb_wants verb
wants words.Await = 1
wants words.Claim = 1
wants words.Schedule = 0
wants words.Step = 1
wants words.Deliver = 2
wants words.Drain = 0
wants words.End = 0

-- whether the last field is a body
abbrev pub verb_has_body : Verb → Bool
verb_has_body (verbs.Send target) = true
verb_has_body verbs.At = true
verb_has_body verbs.Call = true
verb_has_body verbs.Reply = true
verb_has_body _ = false

abbrev pub has_body : Word → Bool
has_body (words.Command verb) = verb_has_body verb
has_body _ = false

-- whether the last field goes to the end of its line: a body, or a claim
abbrev pub has_rest : Word → Bool
has_rest words.Claim = true
has_rest w = has_body w

-- one field fewer is cut off then
abbrev pub cuts : Word → ℕ
cuts w = if has_rest w then wants w - 1 else wants w

abbrev pub field : ℕ → List (List ℕ) → List ℕ
field i fields = slice_index_or fields i []

-- test 5: too few or too many fields, an empty one, or a body that does not begin as one
abbrev pub is_misshapen : ℕ → Word → List (List ℕ) → Bool
is_misshapen version w fields =
    not (are_fields (wants w) fields) || (has_body w && not (begins_a_body version (field (wants w - 1) fields)))

-- a line that is spelled as it should be
pub data Line : Type 0 where
  VersionLine : ℕ → Line
  SitesLine : ℕ → Line
  PortLine : Ui → Ui → ℕ → Line
  GroupLine : Ui → Line
  MemberLine : Ui → Ui → Line
  ScriptLine : Ui → Line
  CommandLine : Command → Line
  AwaitLine : Ui → Line
  ClaimLine : List ℕ → Line
  ScheduleLine : Line
  StepLine : step.Step → Line
  EndLine : Line

abbrev pub with_two : {A B C : Type 0} → (A → B → C) → Option A → Option B → Option C
with_two f (Some a) (Some b) = Some (f a b)
with_two f (Some a) None = None
with_two f None b = None

abbrev pub with_three : {A B C D : Type 0} → (A → B → C → D) → Option A → Option B → Option C → Option D
with_three f (Some a) (Some b) (Some c) = Some (f a b c)
with_three f (Some a) (Some b) None = None
with_three f (Some a) None c = None
with_three f None b c = None

-- it, where it is of this kind
abbrev pub if_of_kind : Kind → Option Ui → Option Ui
if_of_kind kind None = None
if_of_kind kind (Some u) = if same_kind u.kind kind then Some u else None

-- the name of this kind that is spelled so
abbrev pub name_in : Kind → List ℕ → Option Ui
name_in kind text = if_of_kind kind (parse_name text)

abbrev pub target_kind : Target → Kind
target_kind targets.Port = kinds.Port
target_kind targets.All = kinds.Group
target_kind targets.One = kinds.Group

abbrev pub dest_of : Target → Ui → Dest
dest_of targets.Port port = dests.Port port
dest_of targets.All group = dests.All group
dest_of targets.One group = dests.One group

abbrev pub command_of : Verb → List (List ℕ) → Option Command
command_of (verbs.Send target) fields = with_two (λ name body. commands.Send (dest_of target name) body)
    (name_in (target_kind target) (field 0 fields)) (body_in (field 1 fields))
command_of verbs.At fields = with_three (λ group site body. commands.Send (dests.OneAt group site) body)
    (name_in kinds.Group (field 0 fields)) (number_in (field 1 fields)) (body_in (field 2 fields))
command_of verbs.Call fields = with_three commands.Call (name_in kinds.Port (field 0 fields))
    (name_in kinds.Port (field 1 fields)) (body_in (field 2 fields))
command_of verbs.Retry fields = Some commands.Retry
command_of verbs.Cancel fields = Some commands.Cancel
command_of verbs.Reply fields = option_map commands.Reply (body_in (field 0 fields))
command_of verbs.Take fields = option_map commands.Take (name_in kinds.Port (field 0 fields))
command_of verbs.Move fields =
    with_two commands.Move (name_in kinds.Port (field 0 fields)) (name_in kinds.Actor (field 1 fields))
command_of verbs.Delete fields = option_map commands.Delete (name_in kinds.Port (field 0 fields))
command_of verbs.NewPort fields =
    with_two commands.Make (name_in kinds.Actor (field 0 fields)) (number_in (field 1 fields))
command_of verbs.NewGroup fields = option_map commands.GroupMake (number_in (field 0 fields))
command_of verbs.Join fields =
    with_two commands.Join (name_in kinds.Group (field 0 fields)) (name_in kinds.Port (field 1 fields))
command_of verbs.Leave fields =
    with_two commands.Leave (name_in kinds.Group (field 0 fields)) (name_in kinds.Port (field 1 fields))

-- test 6: none where a number, a name or a body is not spelled as one
abbrev pub line_of : Word → List (List ℕ) → Option Line
line_of words.Chorus fields = None
line_of words.Sites fields = option_map SitesLine (number_in (field 0 fields))
line_of words.Port fields = with_three PortLine (name_in kinds.Port (field 0 fields))
    (name_in kinds.Actor (field 1 fields)) (number_in (field 2 fields))
line_of words.Group fields = option_map GroupLine (name_in kinds.Group (field 0 fields))
line_of words.Member fields =
    with_two MemberLine (name_in kinds.Group (field 0 fields)) (name_in kinds.Port (field 1 fields))
line_of words.Script fields = option_map ScriptLine (name_in kinds.Actor (field 0 fields))
line_of (words.Command verb) fields = option_map CommandLine (command_of verb fields)
line_of words.Await fields = option_map AwaitLine (name_in kinds.Port (field 0 fields))
line_of words.Claim fields = Some (ClaimLine (field 0 fields))
line_of words.Schedule fields = Some ScheduleLine
line_of words.Step fields = option_map (λ n. StepLine (steps.Step n)) (number_in (field 0 fields))
line_of words.Deliver fields =
    with_two (λ from to. StepLine (steps.Deliver from to)) (number_in (field 0 fields)) (number_in (field 1 fields))
line_of words.Drain fields = Some (StepLine steps.Drain)
line_of words.End fields = Some EndLine
