-- The tasks of a scenario that was read name sites of its layout alone.
-- l is a layout, n a number of sites from that of l on, m the sites of the scenario, c a scenario.
use Rattle.std.proofs.Common.{ℕ, ◌≡◌, ◌≤◌, ◌==◌, ◌+◌, ◌-◌, nat_le, nat_lt, true, not, ◌&&◌, List, [], ◌∷◌, ◌++◌, length, map, drop, count_by, option_to_list, Option, Some, None, slice_get, refl, arith}
use Rattle.std.specs.List.{All, list_all}
use Rattle.std.specs.Option.{option_map}
use Rattle.std.proofs.lemmas.Bool.{and_parts, and_from, leb-true, le-leb}
use Rattle.std.proofs.lemmas.Option.{slice_get-get_or}
use Rattle.std.proofs.lemmas.List.Elements.{All-nil, All-cons, All-append, All-map}
use Rattle.chorus_ui.specs.declared.ui.Ui.{Ui}
use Rattle.chorus_ui.specs.declared.layout.Layout.{Layout}
use Rattle.chorus_ui.specs.declared.limits.TheConstants.{PORTS_PER_SITE_LIMIT, GROUPS_PER_SITE_LIMIT, MEMBERS_LIMIT}
use Rattle.chorus_ui.specs.Layout.{IsLayout, has_actor, has_place}
use Rattle.chorus_entry.specs.declared.dest.Dest.{Dest}
use Rattle.chorus_entry.specs.declared.dest.Dest.TheVariants as dests
use Rattle.chorus_entry.specs.declared.command.Command.{Command}
use Rattle.chorus_ui.specs.NameKind.{is_actor, is_group, is_port}
use Rattle.chorus_entry.specs.Command.{is_capacity, meets_conditions}
use Rattle.chorus_entry.specs.Members.{is_member}
use Rattle.law_network.specs.Network.{Event, Enter, Act, Deliver}
use Rattle.law_network.specs.Calls.{starting, last_of}
use Rattle.law_network.specs.Tasks.{Task, Do, Drain}
use Rattle.law_network.proofs.Merge.Parts.{All-reverse}
use Rattle.chorus_scene.specs.declared.scenario.SetupLine.{SetupLine}
use Rattle.chorus_scene.specs.declared.scenario.SetupLine.TheVariants as setups
use Rattle.chorus_scene.specs.declared.scenario.Step as step
use Rattle.chorus_scene.specs.declared.scenario.Step.TheVariants as steps
use Rattle.chorus_scene.specs.declared.limits.TheConstants.{COMMANDS_LIMIT}
use Rattle.chorus_scene.specs.Scene.{Scene, Script}
use Rattle.chorus_scene.specs.Making.{next_port, next_group, made_after, members_of}
use Rattle.chorus_scene.specs.Grammar.{most_bytes, script_at, no_script, is_step}
use Rattle.chorus_scene.specs.Limits.{Keeps, is_site, is_actor_of, is_place_of, dest_is_of, command_is_of, bytes_sent, is_of_version, command_keeps, script_keeps, setup_line_keeps, setup_keeps, step_keeps, schedule_keeps}
use Rattle.chorus_report.specs.Setup.{setup_command}
use Rattle.chorus_replay.specs.Order.{in_setup, set_up, entering, step_tasks, in_schedule, then_drain, left_from, order, tasks}
use Rattle.chorus_replay.proofs.May.{all-get, all-drop, place-fits}
use Rattle.law_replay.proofs.Places.{BothHave, Within, DestWithin, CommandWithin}
use Rattle.law_replay.proofs.Pasts.{both-have}
use Rattle.law_replay.proofs.Nets.{EventWithin, is_near}
use Rattle.law_replay.proofs.Carrying.{TaskWithin}

-- an event of the tasks
abbrev pub EventFits : ℕ → Layout → Event → Type 0
EventFits n l e = EventWithin n l e × (is_near l e ≡ true)

module _ (n : ℕ) (l : Layout) (wider : l.sites ≤ n) (version m : ℕ) (sites : m ≤ l.sites) where
  -- What is named.

  site-within : (site : ℕ) → is_site m site ≡ true → BothHave n l site
  site-within site h =
      let two = and_parts (nat_le 1 site) (nat_le site m) h in
      let high = leb-true site m two.1 in
      both-have n l site wider (and_from (nat_le 1 site) (nat_le site l.sites) two.0 (le-leb site l.sites (omega (arith, high, sites))))

  actor-within : (u : Ui) → is_actor_of l m u ≡ true → Within n l u
  actor-within u h = site-within u.site (and_parts (is_actor u && has_actor l u) (is_site m u.site) h).1

  dest-within : (d : Dest) → dest_is_of m d ≡ true → DestWithin n l d
  dest-within (dests.Port q) h = site-within q.site h
  dest-within (dests.All g) h = site-within g.site h
  dest-within (dests.One g) h = site-within g.site h
  dest-within (dests.OneAt g site) h = site-within g.site (and_parts (is_site m g.site) (is_site m site) h).0

  named-within : (c : Command) → command_is_of l m c ≡ true → CommandWithin n l c
  named-within (Command.Make actor capacity) h = actor-within actor h
  named-within (Command.Send d body) h = dest-within d h
  named-within (Command.Call q back body) h =
      let two = and_parts (is_site m q.site) (is_site m back.site) h in (site-within q.site two.0, site-within back.site two.1)
  named-within Command.Retry h = tt
  named-within Command.Cancel h = tt
  named-within (Command.Reply body) h = tt
  named-within (Command.Take q) h = tt
  named-within (Command.Move q actor) h = actor-within actor (and_parts (is_site m q.site) (is_actor_of l m actor) h).1
  named-within (Command.GroupMake site) h = site-within site h
  named-within (Command.Join g q) h =
      let two = and_parts (is_site m g.site) (is_site m q.site) h in (site-within g.site two.0, site-within q.site two.1)
  named-within (Command.Leave g q) h = site-within g.site (and_parts (is_site m g.site) (is_site m q.site) h).0
  named-within (Command.Delete q) h = tt

  command-within : (k : ℕ) (c : Command) → command_keeps l version m c ≡ true → TaskWithin n l (Do (Act k c))
  command-within k c keeps =
      let bytes = nat_le (length (bytes_sent c)) (most_bytes version) in
      let of = command_is_of l m c in
      let four = and_parts (meets_conditions c && of && bytes) (is_of_version version c) keeps in
      let three = and_parts (meets_conditions c && of) bytes four.0 in
      (named-within c (and_parts (meets_conditions c) of three.0).1, refl)

  -- The setup, and the scripts' callers.

  line-within : (before : List SetupLine) (line : SetupLine) → setup_line_keeps l m before line ≡ true → CommandWithin n l (setup_command line)
  line-within before (setups.Port actor capacity) keeps =
      let numbered = nat_le (next_port l actor (made_after l [] before)).number PORTS_PER_SITE_LIMIT in
      let outer = and_parts (is_capacity capacity && is_actor_of l m actor) numbered keeps in
      actor-within actor (and_parts (is_capacity capacity) (is_actor_of l m actor) outer.0).1
  line-within before (setups.Group site) keeps =
      site-within site (and_parts (is_site m site) (nat_le (next_group l site (made_after l [] before)).number GROUPS_PER_SITE_LIMIT) keeps).0
  line-within before (setups.Member group port) keeps =
      let two = is_group group && is_port port in
      let four = two && is_site m group.site && is_site m port.site in
      let six = four && is_member group (made_after l [] before) && is_member port (made_after l [] before) in
      let seven = six && nat_lt (length (members_of group before)) MEMBERS_LIMIT in
      let h7 = (and_parts seven (not (is_member port (members_of group before))) keeps).0 in
      let h6 = (and_parts six (nat_lt (length (members_of group before)) MEMBERS_LIMIT) h7).0 in
      let h5 = (and_parts (four && is_member group (made_after l [] before)) (is_member port (made_after l [] before)) h6).0 in
      let h4 = (and_parts four (is_member group (made_after l [] before)) h5).0 in
      let h3 = and_parts (two && is_site m group.site) (is_site m port.site) h4 in
      let h2 = and_parts two (is_site m group.site) h3.0 in
      (site-within group.site h2.1, site-within port.site h3.1)

  setup-within : (before lines : List SetupLine) → setup_keeps l m before lines ≡ true → All (EventFits n l) (map (Act 0) (map setup_command lines))
  setup-within before [] keeps = All-nil (EventFits n l)
  setup-within before (line ∷ lines) keeps =
      let k = and_parts (setup_line_keeps l m before line) (setup_keeps l m (before ++ line ∷ []) lines) keeps in
      All-cons (EventFits n l) (Act 0 (setup_command line)) (map (Act 0) (map setup_command lines)) (line-within before line k.0, refl) (setup-within (before ++ line ∷ []) lines k.1)

  entering-within : (last : ℕ) (scripts : List Script) → list_all (script_keeps l version m) scripts ≡ true → All (EventFits n l) (map (λ (script : Script). Enter script.actor last) scripts)
  entering-within last [] keeps = All-nil (EventFits n l)
  entering-within last (script ∷ scripts) keeps =
      let k = and_parts (script_keeps l version m script) (list_all (script_keeps l version m) scripts) keeps in
      let few = nat_le (length script.commands) COMMANDS_LIMIT in
      let outer = and_parts (is_actor_of l m script.actor && few) (list_all (command_keeps l version m) script.commands) k.0 in
      let actor = actor-within script.actor (and_parts (is_actor_of l m script.actor) few outer.0).0 in
      All-cons (EventFits n l) (Enter script.actor last) (map (λ (s : Script). Enter s.actor last) scripts) (actor, refl) (entering-within last scripts k.1)

  -- The steps, and what is left.

  script-commands : (script : Script) → script_keeps l version m script ≡ true → list_all (command_keeps l version m) script.commands ≡ true
  script-commands script keeps =
      (and_parts (is_actor_of l m script.actor && nat_le (length script.commands) COMMANDS_LIMIT) (list_all (command_keeps l version m) script.commands) keeps).1

  drains-within : (k : ℕ) (cs : List Command) → list_all (command_keeps l version m) cs ≡ true → All (TaskWithin n l) (then_drain k cs)
  drains-within k [] keeps = All-nil (TaskWithin n l)
  drains-within k (c ∷ cs) keeps =
      let two = and_parts (command_keeps l version m c) (list_all (command_keeps l version m) cs) keeps in
      All-cons (TaskWithin n l) (Do (Act k c)) (Drain 0 ∷ then_drain k cs) (command-within k c two.0) (All-cons (TaskWithin n l) (Drain 0) (then_drain k cs) tt (drains-within k cs two.1))

  left-within : (schedule : List step.Step) (k : ℕ) (scripts : List Script) → list_all (script_keeps l version m) scripts ≡ true → All (TaskWithin n l) (left_from schedule k scripts)
  left-within schedule k [] keeps = All-nil (TaskWithin n l)
  left-within schedule k (script ∷ scripts) keeps =
      let two = and_parts (script_keeps l version m script) (list_all (script_keeps l version m) scripts) keeps in
      let cs = drop (count_by (is_step k) schedule) script.commands in
      All-append (TaskWithin n l) (then_drain k cs) (left_from schedule (k + 1) scripts)
      (drains-within k cs (all-drop (command_keeps l version m) (count_by (is_step k) schedule) script.commands (script-commands script two.0)))
      (left-within schedule (k + 1) scripts two.1)

  module _ (scripts : List Script) (all : list_all (script_keeps l version m) scripts ≡ true) where
    option-within : (k : ℕ) (o : Option Command) → ((c : Command) → o ≡ Some c → command_keeps l version m c ≡ true) → All (TaskWithin n l) (option_to_list (option_map (λ (command : Command). Do (Act k command)) o))
    option-within k None keeps = All-nil (TaskWithin n l)
    option-within k (Some c) keeps = All-cons (TaskWithin n l) (Do (Act k c)) [] (command-within k c (keeps c refl)) (All-nil (TaskWithin n l))

    step-within : (before : List step.Step) (s : step.Step) → step_keeps l m scripts before s ≡ true → All (TaskWithin n l) (step_tasks scripts before s)
    step-within before (steps.Step k) keeps =
        let i = count_by (is_step k) before in
        let cs = (script_at k scripts).commands in
        let outer = and_parts (nat_le 1 k && nat_le k (length scripts)) (nat_lt i (length cs)) keeps in
        let inner = and_parts (nat_le 1 k) (nat_le k (length scripts)) outer.0 in
        let low = leb-true 1 k inner.0 in
        let high = leb-true k (length scripts) inner.1 in
        let found = slice_get-get_or scripts (k - 1) no_script (omega (arith, low, high)) in
        let script = all-get (script_keeps l version m) scripts (k - 1) (script_at k scripts) all found in
        let commands = script-commands (script_at k scripts) script in
        option-within k (slice_get cs i) (λ c e. all-get (command_keeps l version m) cs i c commands e)
    step-within before (steps.Deliver from to) keeps =
        let outer = and_parts (is_place_of l m from && is_place_of l m to) (not (from == to)) keeps in
        let inner = and_parts (is_place_of l m from) (is_place_of l m to) outer.0 in
        All-cons (TaskWithin n l) (Do (Deliver 0 from to)) [] (tt, and_from (has_place l from) (has_place l to) (place-fits l m from sites inner.0) (place-fits l m to sites inner.1)) (All-nil (TaskWithin n l))
    step-within before steps.Drain keeps = All-cons (TaskWithin n l) (Drain 0) [] tt (All-nil (TaskWithin n l))

    schedule-within : (before rest : List step.Step) → schedule_keeps l m scripts before rest ≡ true → All (TaskWithin n l) (in_schedule scripts before rest)
    schedule-within before [] keeps = All-nil (TaskWithin n l)
    schedule-within before (s ∷ rest) keeps =
        let two = and_parts (step_keeps l m scripts before s) (schedule_keeps l m scripts (before ++ s ∷ []) rest) keeps in
        All-append (TaskWithin n l) (step_tasks scripts before s) (in_schedule scripts (before ++ s ∷ []) rest) (step-within before s two.0) (schedule-within (before ++ s ∷ []) rest two.1)

-- All of it.
module _ (n : ℕ) (c : Scene) (shape : IsLayout c.layout) (wider : c.layout.sites ≤ n) (keeps : Keeps c) where
  pub setup-fits : All (EventFits n c.layout) (starting ∷ in_setup c)
  setup-fits =
      let low = shape.sites_from_one in
      let start : EventFits n c.layout starting = (both-have n c.layout 1 wider (and_from (nat_le 1 1) (nat_le 1 c.layout.sites) refl (le-leb 1 c.layout.sites low)), refl) in
      All-cons (EventFits n c.layout) starting (in_setup c) start (setup-within n c.layout wider c.version c.sites keeps.sites_of_layout [] c.setup keeps.setup)

  order-within : All (EventFits n c.layout) (starting ∷ in_setup c ++ entering c)
  order-within =
      All-append (EventFits n c.layout) (starting ∷ in_setup c) (entering c) setup-fits
      (entering-within n c.layout wider c.version c.sites keeps.sites_of_layout (last_of (slice_get (set_up c).callers 0)) c.scripts keeps.scripts)

  pub tasks-within : All (TaskWithin n c.layout) (tasks c)
  tasks-within =
      let first = starting ∷ in_setup c ++ entering c in
      let scheduled = in_schedule c.scripts [] c.schedule in
      let rest = left_from c.schedule 1 c.scripts in
      let P : Task → Type 0 = TaskWithin n c.layout in
      All-reverse P (order c)
      (All-append P (map Do first ++ scheduled ++ rest) (Drain 0 ∷ [])
      (All-append P (map Do first ++ scheduled) rest
      (All-append P (map Do first) scheduled (All-map P Do first order-within) (schedule-within n c.layout wider c.version c.sites keeps.sites_of_layout c.scripts keeps.scripts [] c.schedule keeps.schedule))
      (left-within n c.layout wider c.version c.sites keeps.sites_of_layout c.schedule 1 c.scripts keeps.scripts))
      (All-cons P (Drain 0) [] tt (All-nil P)))
