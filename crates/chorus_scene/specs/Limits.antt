-- The limits that a scenario keeps, whatever text said it.
use Rattle.std.specs.Prelude.{◌≡◌, ℕ, ◌+◌, ◌≤◌, ◌<◌, ◌*◌, Bool, true, false, not, ◌&&◌, ◌||◌, List, [], ◌∷◌, ◌++◌, length, Ok, nat_lt, nat_le, ◌==◌, count_by, Option, Some, slice_get}
use Rattle.std.specs.List.{list_all}
use Rattle.std.specs.Option.{is_none}
use Rattle.chorus_ui.specs.declared.ui.Ui.{Ui}
use Rattle.chorus_ui.specs.Layout.{has_actor}
use Rattle.chorus_ui.specs.declared.layout.Layout.{Layout}
use Rattle.chorus_ui.specs.declared.limits.TheConstants.{PORTS_PER_SITE_LIMIT, GROUPS_PER_SITE_LIMIT, MEMBERS_LIMIT}
use Rattle.chorus_entry.specs.declared.dest.Dest.{Dest}
use Rattle.chorus_entry.specs.declared.dest.Dest.TheVariants as dests
use Rattle.chorus_entry.specs.declared.command.Command.{Command}
use Rattle.chorus_entry.specs.declared.command.Command.TheVariants as commands
use Rattle.chorus_ui.specs.NameKind.{is_actor, is_port, is_group}
use Rattle.chorus_entry.specs.Command.{is_capacity, meets_conditions}
use Rattle.chorus_entry.specs.Members.{is_member}
use Rattle.chorus_scene.specs.declared.scenario.SetupLine.{SetupLine}
use Rattle.chorus_scene.specs.declared.scenario.SetupLine.TheVariants as setups
use Rattle.chorus_scene.specs.declared.scenario.Step as step
use Rattle.chorus_scene.specs.declared.scenario.Step.TheVariants as steps
use Rattle.chorus_scene.specs.declared.limits.TheConstants.{SCRIPTS_LIMIT, COMMANDS_LIMIT, CLAIMS_LIMIT, STEPS_LIMIT}
use Rattle.chorus_scene.specs.Scene.{Scene, Script, HasNoWait}
use Rattle.chorus_scene.specs.Making.{next_port, next_group, made_after, members_of}
use Rattle.chorus_scene.specs.Grammar.{most_sites, most_bytes, script_at, is_step, claim_fault, is_claimed, read_scene}

-- one of the sites 1 to n
abbrev pub is_site : ℕ → ℕ → Bool
is_site n site = nat_le 1 site && nat_le site n

-- an actor that the layout has, on one of n sites
abbrev pub is_actor_of : Layout → ℕ → Ui → Bool
is_actor_of l n actor = is_actor actor && has_actor l actor && is_site n actor.site

-- one of the places of n sites
abbrev pub is_place_of : Layout → ℕ → ℕ → Bool
is_place_of l n place = nat_le 1 place && nat_le place (n * l.turns)

-- the destination's name is of one of n sites, and so is the site that it demands
abbrev pub dest_is_of : ℕ → Dest → Bool
dest_is_of n (dests.Port port) = is_site n port.site
dest_is_of n (dests.All group) = is_site n group.site
dest_is_of n (dests.One group) = is_site n group.site
dest_is_of n (dests.OneAt group site) = is_site n group.site && is_site n site

-- what the command names is of one of n sites, and its actor is the layout's
abbrev pub command_is_of : Layout → ℕ → Command → Bool
command_is_of l n (commands.Make actor capacity) = is_actor_of l n actor
command_is_of l n (commands.Send dest body) = dest_is_of n dest
command_is_of l n (commands.Call port back body) = is_site n port.site && is_site n back.site
command_is_of l n commands.Retry = true
command_is_of l n commands.Cancel = true
command_is_of l n (commands.Reply body) = true
command_is_of l n (commands.Take port) = is_site n port.site
command_is_of l n (commands.Move port actor) = is_site n port.site && is_actor_of l n actor
command_is_of l n (commands.GroupMake site) = is_site n site
command_is_of l n (commands.Join group port) = is_site n group.site && is_site n port.site
command_is_of l n (commands.Leave group port) = is_site n group.site && is_site n port.site
command_is_of l n (commands.Delete port) = is_site n port.site

-- the bytes that a command sends; one that sends none has none
abbrev pub bytes_sent : Command → List ℕ
bytes_sent (commands.Send dest body) = body
bytes_sent (commands.Call port back body) = body
bytes_sent (commands.Reply body) = body
bytes_sent _ = []

-- delete is a command from version 2 on
abbrev pub is_of_version : ℕ → Command → Bool
is_of_version version (commands.Delete port) = nat_le 2 version
is_of_version version _ = true

abbrev pub command_keeps : Layout → ℕ → ℕ → Command → Bool
command_keeps l version n command =
    meets_conditions command && command_is_of l n command
    && nat_le (length (bytes_sent command)) (most_bytes version) && is_of_version version command

abbrev pub script_keeps : Layout → ℕ → ℕ → Script → Bool
script_keeps l version n script =
    is_actor_of l n script.actor && nat_le (length script.commands) COMMANDS_LIMIT
    && list_all (command_keeps l version n) script.commands

-- the numbers rise, from this one on
abbrev pub are_rising : ℕ → List ℕ → Bool
are_rising from [] = true
are_rising from (i ∷ is) = nat_le from i && are_rising (i + 1) is

abbrev pub is_take : Option Command → Bool
is_take (Some (commands.Take port)) = true
is_take _ = false

-- the awaits rise, and each is a command that receives; there is none before version 3
abbrev pub waits_keep : ℕ → Script → Bool
waits_keep version script =
    are_rising 0 script.waits && list_all (λ (i : ℕ). is_take (slice_get script.commands i)) script.waits
    && (nat_le 3 version || (length script.waits == 0))

-- a line of the setup, where these lines stand before it
abbrev pub setup_line_keeps : Layout → ℕ → List SetupLine → SetupLine → Bool
setup_line_keeps l n before (setups.Port actor capacity) =
    is_capacity capacity && is_actor_of l n actor
    && nat_le (next_port l actor (made_after l [] before)).number PORTS_PER_SITE_LIMIT
setup_line_keeps l n before (setups.Group site) =
    is_site n site && nat_le (next_group l site (made_after l [] before)).number GROUPS_PER_SITE_LIMIT
setup_line_keeps l n before (setups.Member group port) =
    is_group group && is_port port && is_site n group.site && is_site n port.site
    && is_member group (made_after l [] before) && is_member port (made_after l [] before)
    && nat_lt (length (members_of group before)) MEMBERS_LIMIT && not (is_member port (members_of group before))

abbrev pub setup_keeps : Layout → ℕ → List SetupLine → List SetupLine → Bool
setup_keeps l n before [] = true
setup_keeps l n before (line ∷ lines) = setup_line_keeps l n before line && setup_keeps l n (before ++ line ∷ []) lines

-- the text is a claim of the scenario
abbrev pub is_claim : Scene → List ℕ → Bool
is_claim c text = is_none (claim_fault c text)

-- no text stands twice
abbrev pub none_twice : List (List ℕ) → Bool
none_twice [] = true
none_twice (text ∷ texts) = not (is_claimed text texts) && none_twice texts

-- a step, where these steps stand before it: its script has a command left, and its two places differ
abbrev pub step_keeps : Layout → ℕ → List Script → List step.Step → step.Step → Bool
step_keeps l n scripts before (steps.Step k) =
    nat_le 1 k && nat_le k (length scripts) && nat_lt (count_by (is_step k) before)
    (length (script_at k scripts).commands)
step_keeps l n scripts before (steps.Deliver from to) = is_place_of l n from && is_place_of l n to && not (from == to)
step_keeps l n scripts before steps.Drain = true

abbrev pub schedule_keeps : Layout → ℕ → List Script → List step.Step → List step.Step → Bool
schedule_keeps l n scripts before [] = true
schedule_keeps l n scripts before (step ∷ rest) =
    step_keeps l n scripts before step && schedule_keeps l n scripts (before ++ step ∷ []) rest

-- all limits of a scenario
pub record Keeps (c : Scene) : Type 0 where
  pub version_from_one : 1 ≤ c.version
  pub version_to_three : c.version ≤ 3
  pub sites_from_one : 1 ≤ c.sites
  pub sites_of_layout : c.sites ≤ c.layout.sites
  pub sites_of_version : c.sites ≤ most_sites c.version
  pub setup : setup_keeps c.layout c.sites [] c.setup ≡ true
  pub few_scripts : length c.scripts ≤ SCRIPTS_LIMIT
  pub scripts : list_all (script_keeps c.layout c.version c.sites) c.scripts ≡ true
  pub waits : list_all (waits_keep c.version) c.scripts ≡ true
  pub claims_from_three : c.version < 3 → c.claims ≡ []
  pub few_claims : length c.claims ≤ CLAIMS_LIMIT
  pub claims : list_all (is_claim c) c.claims ≡ true
  pub claims_once : none_twice c.claims ≡ true
  pub few_steps : length c.schedule ≤ STEPS_LIMIT
  pub schedule : schedule_keeps c.layout c.sites c.scripts [] c.schedule ≡ true

-- a scenario that was read keeps them
abbrev pub ReadKeeps : Type 0
ReadKeeps = (l : Layout) (text : List ℕ) (c : Scene) → read_scene l text ≡ Ok c → Keeps c

-- and in versions 1 and 2 nothing waits
abbrev pub OldTextsDoNotWait : Type 0
OldTextsDoNotWait =
    (l : Layout) (text : List ℕ) (c : Scene) → read_scene l text ≡ Ok c → c.version < 3 → HasNoWait c
