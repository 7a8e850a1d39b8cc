-- A line that passes the tests keeps the limits.
use Rattle.std.proofs.Common.{◌≡◌, ℕ, ◌*◌, ◌<◌, ◌≤◌, Bool, true, false, not, ◌&&◌, ◌||◌, cond, List, ◌⊎◌, inl, inr, length, Option, Some, None, IfSome, refl, ap, arith, subst}
use Rattle.std.specs.Prelude.{nat_lt, nat_le, ◌==◌, count_by, is_some, is_none}
use Rattle.std.proofs.lemmas.Bool.Decides.{nat_tests}
use Rattle.chorus_ui.specs.declared.kind.Kind.{Kind}
use Rattle.chorus_ui.specs.declared.kind.Kind.TheVariants as kinds
use Rattle.chorus_ui.specs.Kind.{same_kind}
use Rattle.chorus_ui.specs.Name.{IsName, same_ui}
use Rattle.chorus_ui.specs.declared.ui.Ui.{Ui}
use Rattle.chorus_ui.specs.declared.layout.Layout.{Layout}
use Rattle.chorus_ui.specs.Text.{parse_name}
use Rattle.chorus_ui.proofs.Names.{from_same_ui}
use Rattle.chorus_ui.proofs.Texts.{parse_name_named}
use Rattle.chorus_entry.specs.declared.dest.Dest.TheVariants as dests
use Rattle.chorus_entry.specs.declared.command.Command.{Command}
use Rattle.chorus_entry.specs.declared.command.Command.TheVariants as commands
use Rattle.chorus_entry.specs.Kinds.{has_kinds_in_dest}
use Rattle.chorus_entry.specs.Command.{is_capacity, meets_conditions, demands_a_site}
use Rattle.chorus_entry.specs.Members.{is_member}
use Rattle.chorus_scene.specs.declared.scenario.SetupLine.TheVariants as setups
use Rattle.chorus_scene.specs.declared.scenario.Step.TheVariants as steps
use Rattle.chorus_lines.specs.declared.word.Target.{Target}
use Rattle.chorus_lines.specs.declared.word.Target.TheVariants as targets
use Rattle.chorus_lines.specs.declared.word.Verb.{Verb}
use Rattle.chorus_lines.specs.declared.word.Verb.TheVariants as verbs
use Rattle.chorus_lines.specs.declared.word.Word.{Word}
use Rattle.chorus_lines.specs.declared.word.Word.TheVariants as words
use Rattle.chorus_lines.specs.declared.word.Reason.{Reason}
use Rattle.chorus_lines.specs.declared.word.Reason.TheVariants as reasons
use Rattle.chorus_lines.specs.Text.{number_in}
use Rattle.chorus_lines.specs.Body.{body_in}
use Rattle.chorus_scene.specs.Scene.{Scene}
use Rattle.chorus_scene.specs.Making.{next_port, next_group, members_of}
use Rattle.chorus_scene.specs.Line.{Line, VersionLine, SitesLine, PortLine, GroupLine, MemberLine, ScriptLine, CommandLine, AwaitLine, ClaimLine, ScheduleLine, StepLine, EndLine, line_of, command_of, name_in, if_of_kind, target_kind, dest_of, field}
use Rattle.chorus_lines.specs.Words.{word_of}
use Rattle.chorus_scene.specs.Grammar.{made, claim_fault, is_for, is_claimed, is_far, is_no_actor, is_no_site, is_known, is_no_capacity, is_huge, dest_is_huge, dest_is_unknown, command_is_beyond, command_is_unknown, last_is_full, last_script, most_sites, most_bytes, script_at, is_step}
use Rattle.chorus_scene.specs.Limits.{is_claim, is_site, is_actor_of, dest_is_of, command_is_of, bytes_sent, is_of_version, command_keeps, setup_line_keeps, step_keeps}
use Rattle.chorus_scene.proofs.Again.{Passes, Clear, clear, inv_map, inv_two, inv_three, and_join, or_first, or_second}
use Rattle.chorus_scene.proofs.Spelled.{both}
use Rattle.chorus_scene.proofs.Words.{delete_from_two, claim_from_three, await_from_three}

-- a line with a word passes the tests on its fields
pub record Worded (c : Scene) (x : Line) : Type 0 where
  pub word : Word
  pub text : List ℕ
  pub fields : List (List ℕ)
  pub is : word_of c.version text ≡ Some word
  pub passes : Passes c word fields x

-- a line is the head of version 1, 2 or 3, or has a word
abbrev pub Tested : Scene → Line → Type 0
Tested c x = ((v : ℕ) × (VersionLine v ≡ x) × (1 ≤ v) × (v ≤ 3)) ⊎ Worded c x

-- the sites are counted
pub record Counted (l : Layout) (version n : ℕ) : Type 0 where
  pub from_one : 1 ≤ n
  pub of_layout : n ≤ l.sites
  pub of_version : n ≤ most_sites version

abbrev pub IsCounted : Scene → Type 0
IsCounted c = Counted c.layout c.version c.sites

-- what a line that passes keeps; what it is about is counted, but for the first two
abbrev pub Fits : Scene → Line → Type 0
Fits c (VersionLine v) = (1 ≤ v) × (v ≤ 3)
Fits c (SitesLine n) = (1 ≤ n) × (n ≤ c.layout.sites) × (n ≤ most_sites c.version)
Fits c (PortLine u actor capacity) = IsCounted c → setup_line_keeps c.layout c.sites c.setup (setups.Port actor capacity) ≡ true
Fits c (GroupLine u) = IsCounted c → setup_line_keeps c.layout c.sites c.setup (setups.Group u.site) ≡ true
Fits c (MemberLine group port) = IsCounted c → setup_line_keeps c.layout c.sites c.setup (setups.Member group port) ≡ true
Fits c (ScriptLine actor) = (IsCounted c → is_actor_of c.layout c.sites actor ≡ true) × (length c.scripts < 16)
Fits c (CommandLine command) = (IsCounted c → command_keeps c.layout c.version c.sites command ≡ true) × (length (last_script c.scripts).commands < 4096)
Fits c (AwaitLine port) = (command_keeps c.layout c.version c.sites (commands.Take port) ≡ true) × (length (last_script c.scripts).commands < 4096) × (nat_le 3 c.version ≡ true)
Fits c (ClaimLine text) = (is_claim c text ≡ true) × (length c.claims < 64) × (is_claimed text c.claims ≡ false) × (nat_le 3 c.version ≡ true)
Fits c ScheduleLine = Unit {0}
Fits c (StepLine step) = (step_keeps c.layout c.sites c.scripts c.schedule step ≡ true) × (length c.schedule < 131072)
Fits c EndLine = Unit {0}

-- what a command that passes keeps, where delete has a version from 2 on
abbrev CommandFits : Scene → Verb → Command → Type 0
CommandFits c verb x = command_is_beyond c.version x ≡ false → command_is_unknown c x ≡ false → (verb ≡ verbs.Delete → nat_le 2 c.version ≡ true) → command_keeps c.layout c.version c.sites x ≡ true

-- names
pub not_so : (b : Bool) → not b ≡ false → b ≡ true
not_so true h = refl
not_so false h = absurd cc

pub so_not : (b : Bool) → b ≡ false → not b ≡ true
so_not true h = absurd cc
so_not false h = refl

of_kind_by : (kind : Kind) (b : Bool) (v u : Ui) → same_kind v.kind kind ≡ b → cond b (Some v) None ≡ Some u → (same_kind u.kind kind ≡ true) × (◌≡◌ {A = Option Ui} (Some v) (Some u))
of_kind_by kind true v u e h = let same : v ≡ u = cc in (subst (λ (w : Ui). same_kind w.kind kind ≡ true) same e, h)
of_kind_by kind false v u e h = absurd cc

of_kind : (kind : Kind) (o : Option Ui) (u : Ui) → if_of_kind kind o ≡ Some u → (same_kind u.kind kind ≡ true) × (o ≡ Some u)
of_kind kind None u h = absurd cc
of_kind kind (Some v) u h = of_kind_by kind (same_kind v.kind kind) v u refl h

named : (kind : Kind) (text : List ℕ) (u : Ui) → name_in kind text ≡ Some u → (same_kind u.kind kind ≡ true) × IsName u
named kind text u h =
    let p = of_kind kind (parse_name text) u h in
    (p.0, subst (λ (o : Option Ui). IfSome o IsName) p.1 (parse_name_named text))

-- numbers
near : (n site : ℕ) → nat_lt n site ≡ false → 1 ≤ site → is_site n site ≡ true
near n site h k = grind (arith, nat_tests)

one_of : (n site : ℕ) → ((site == 0) || nat_lt n site) ≡ false → is_site n site ≡ true
one_of n site h = grind (arith, nat_tests)

room : (n : ℕ) → ((n == 0) || nat_lt 64 n) ≡ false → is_capacity n ≡ true
room n h = grind (arith, nat_tests)

at_most : (n m : ℕ) → nat_lt m n ≡ false → nat_le n m ≡ true
at_most n m h = grind (arith, nat_tests)

below : (n m : ℕ) → nat_le m n ≡ false → n < m
below n m h = grind (arith, nat_tests)

fewer : (n m : ℕ) → nat_le m n ≡ false → nat_lt n m ≡ true
fewer n m h = grind (arith, nat_tests)

demanded : (version n site : ℕ) → is_site n site ≡ true → n ≤ most_sites version → (nat_le 1 site && nat_le site 16) ≡ true
demanded version n site h k = grind (arith, nat_tests)

counted : (n l m : ℕ) → ((n == 0) || nat_lt l n || nat_lt m n) ≡ false → (1 ≤ n) × (n ≤ l) × (n ≤ m)
counted n l m h = (grind (arith, nat_tests), grind (arith, nat_tests), grind (arith, nat_tests))

there : (sites site number : ℕ) (n : ℕ) → is_site n site ≡ true → n ≤ sites → 1 ≤ number → nat_lt 8 number ≡ false → (nat_le 1 site && nat_le site sites && nat_le 1 number && nat_le number 8) ≡ true
there sites site number n h k some few = grind (arith, nat_tests)

pub un_not : (b : Bool) → not b ≡ true → b ≡ false
un_not true h = absurd cc
un_not false h = refl

is_one : (o : Option Reason) → is_some o ≡ false → is_none o ≡ true
is_one None h = refl
is_one (Some r) h = absurd cc

bare : (y x : Line) → ◌≡◌ {A = Option Line} (Some y) (Some x) → y ≡ x
bare y x h = cc

stepped : (k n m a : ℕ) → ((k == 0) || nat_lt n k || nat_le m a) ≡ false → (nat_le 1 k && nat_le k n && nat_lt a m) ≡ true
stepped k n m a h = grind (arith, nat_tests)

delivered : (a b n : ℕ) → (((a == 0) || nat_lt n a) || ((b == 0) || nat_lt n b) || (a == b)) ≡ false → ((nat_le 1 a && nat_le a n) && (nat_le 1 b && nat_le b n) && not (a == b)) ≡ true
delivered a b n h = grind (arith, nat_tests)

module _ (c : Scene) where
  site_of : (kind : Kind) (text : List ℕ) (u : Ui) → name_in kind text ≡ Some u → is_far c u ≡ false → is_site c.sites u.site ≡ true
  site_of kind text u name far = near c.sites u.site far (named kind text u name).1.site_from_one

  actor_of : (text : List ℕ) (actor : Ui) → name_in kinds.Actor text ≡ Some actor → is_no_actor c actor ≡ false → IsCounted c → is_actor_of c.layout c.sites actor ≡ true
  actor_of text actor name there_is sites =
      let far = or_first (is_far c actor) (nat_lt 8 actor.number) there_is in
      let few = or_second (is_far c actor) (nat_lt 8 actor.number) there_is in
      let p = named kinds.Actor text actor name in
      let near = site_of kinds.Actor text actor name far in
      and_join _ _ (and_join _ _ p.0 (there c.layout.sites actor.site actor.number c.sites near sites.of_layout p.1.number_from_one few)) near

  -- a command that is of the sites, with what else it keeps
  command_by : (command : Command) → meets_conditions command ≡ true → command_is_of c.layout c.sites command ≡ true → nat_lt (most_bytes c.version) (length (bytes_sent command)) ≡ false → is_of_version c.version command ≡ true → command_keeps c.layout c.version c.sites command ≡ true
  command_by command meets of short version =
      and_join _ _ (and_join _ _ (and_join _ _ meets of) (at_most (length (bytes_sent command)) (most_bytes c.version) short)) version

  no_bytes : nat_lt (most_bytes c.version) 0 ≡ false
  no_bytes = grind (arith, nat_tests)

  module _ (sites : IsCounted c) where
    dest_by : (target : Target) (text : List ℕ) (u : Ui) → name_in (target_kind target) text ≡ Some u → dest_is_unknown c (dest_of target u) ≡ false
        → (has_kinds_in_dest (dest_of target u) ≡ true) × (demands_a_site (dest_of target u) ≡ true) × (dest_is_of c.sites (dest_of target u) ≡ true)
    dest_by targets.Port text u name far = ((named kinds.Port text u name).0, refl, site_of kinds.Port text u name far)
    dest_by targets.All text u name far = ((named kinds.Group text u name).0, refl, site_of kinds.Group text u name far)
    dest_by targets.One text u name far = ((named kinds.Group text u name).0, refl, site_of kinds.Group text u name far)

    -- the commands, by their verbs
    verb_fits : (verb : Verb) (fs : List (List ℕ)) (command : Command) → command_of verb fs ≡ Some command → CommandFits c verb command
    verb_fits (verbs.Send target) fs command h =
        let make : Ui → List ℕ → Command = λ name body. commands.Send (dest_of target name) body in
        let q = inv_two make (name_in (target_kind target) (field 0 fs)) (body_in (field 1 fs)) command h in
        subst (CommandFits c (verbs.Send target)) q.4
        (λ beyond unknown two.
        let d = dest_by target (field 0 fs) q.0 q.2 unknown in
        command_by (make q.0 q.1) (and_join _ _ d.0 d.1) d.2 (or_second (dest_is_huge (dest_of target q.0)) (nat_lt (most_bytes c.version) (length q.1)) beyond) refl)
    verb_fits verbs.At fs command h =
        let make : Ui → ℕ → List ℕ → Command = λ group site body. commands.Send (dests.OneAt group site) body in
        let q = inv_three make (name_in kinds.Group (field 0 fs)) (number_in (field 1 fs)) (body_in (field 2 fs)) command h in
        subst (CommandFits c verbs.At) q.6
        (λ beyond unknown two.
        let kind = (named kinds.Group (field 0 fs) q.0 q.3).0 in
        let site = one_of c.sites q.1 (or_second (is_far c q.0) (is_no_site c q.1) unknown) in
        let group = site_of kinds.Group (field 0 fs) q.0 q.3 (or_first (is_far c q.0) (is_no_site c q.1) unknown) in
        command_by (make q.0 q.1 q.2) (and_join _ _ kind (demanded c.version c.sites q.1 site sites.of_version)) (and_join _ _ group site) (or_second (is_huge q.1) (nat_lt (most_bytes c.version) (length q.2)) beyond) refl)
    verb_fits verbs.Call fs command h =
        let q = inv_three commands.Call (name_in kinds.Port (field 0 fs)) (name_in kinds.Port (field 1 fs)) (body_in (field 2 fs)) command h in
        subst (CommandFits c verbs.Call) q.6
        (λ beyond unknown two.
        command_by (commands.Call q.0 q.1 q.2) (and_join _ _ (named kinds.Port (field 0 fs) q.0 q.3).0 (named kinds.Port (field 1 fs) q.1 q.4).0)
        (and_join _ _ (site_of kinds.Port (field 0 fs) q.0 q.3 (or_first (is_far c q.0) (is_far c q.1) unknown)) (site_of kinds.Port (field 1 fs) q.1 q.4 (or_second (is_far c q.0) (is_far c q.1) unknown))) beyond refl)
    verb_fits verbs.Retry fs command h = let same : commands.Retry ≡ command = cc in subst (CommandFits c verbs.Retry) same (λ beyond unknown two. command_by commands.Retry refl refl no_bytes refl)
    verb_fits verbs.Cancel fs command h = let same : commands.Cancel ≡ command = cc in subst (CommandFits c verbs.Cancel) same (λ beyond unknown two. command_by commands.Cancel refl refl no_bytes refl)
    verb_fits verbs.Reply fs command h =
        let q = inv_map commands.Reply (body_in (field 0 fs)) command h in
        subst (CommandFits c verbs.Reply) q.2 (λ beyond unknown two. command_by (commands.Reply q.0) refl refl beyond refl)
    verb_fits verbs.Take fs command h =
        let q = inv_map commands.Take (name_in kinds.Port (field 0 fs)) command h in
        subst (CommandFits c verbs.Take) q.2
        (λ beyond unknown two. command_by (commands.Take q.0) (named kinds.Port (field 0 fs) q.0 q.1).0 (site_of kinds.Port (field 0 fs) q.0 q.1 unknown) no_bytes refl)
    verb_fits verbs.Move fs command h =
        let q = inv_two commands.Move (name_in kinds.Port (field 0 fs)) (name_in kinds.Actor (field 1 fs)) command h in
        subst (CommandFits c verbs.Move) q.4
        (λ beyond unknown two.
        command_by (commands.Move q.0 q.1) (and_join _ _ (named kinds.Port (field 0 fs) q.0 q.2).0 (named kinds.Actor (field 1 fs) q.1 q.3).0)
        (and_join _ _ (site_of kinds.Port (field 0 fs) q.0 q.2 (or_first (is_far c q.0) (is_no_actor c q.1) unknown)) (actor_of (field 1 fs) q.1 q.3 (or_second (is_far c q.0) (is_no_actor c q.1) unknown) sites)) no_bytes refl)
    verb_fits verbs.Delete fs command h =
        let q = inv_map commands.Delete (name_in kinds.Port (field 0 fs)) command h in
        subst (CommandFits c verbs.Delete) q.2
        (λ beyond unknown two. command_by (commands.Delete q.0) (named kinds.Port (field 0 fs) q.0 q.1).0 (site_of kinds.Port (field 0 fs) q.0 q.1 unknown) no_bytes (two refl))
    verb_fits verbs.NewPort fs command h =
        let q = inv_two commands.Make (name_in kinds.Actor (field 0 fs)) (number_in (field 1 fs)) command h in
        subst (CommandFits c verbs.NewPort) q.4
        (λ beyond unknown two. command_by (commands.Make q.0 q.1) (and_join _ _ (named kinds.Actor (field 0 fs) q.0 q.2).0 (room q.1 beyond)) (actor_of (field 0 fs) q.0 q.2 unknown sites) no_bytes refl)
    verb_fits verbs.NewGroup fs command h =
        let q = inv_map commands.GroupMake (number_in (field 0 fs)) command h in
        subst (CommandFits c verbs.NewGroup) q.2
        (λ beyond unknown two. command_by (commands.GroupMake q.0) refl (one_of c.sites q.0 unknown) no_bytes refl)
    verb_fits verbs.Join fs command h =
        let q = inv_two commands.Join (name_in kinds.Group (field 0 fs)) (name_in kinds.Port (field 1 fs)) command h in
        subst (CommandFits c verbs.Join) q.4
        (λ beyond unknown two.
        command_by (commands.Join q.0 q.1) (and_join _ _ (named kinds.Group (field 0 fs) q.0 q.2).0 (named kinds.Port (field 1 fs) q.1 q.3).0)
        (and_join _ _ (site_of kinds.Group (field 0 fs) q.0 q.2 (or_first (is_far c q.0) (is_far c q.1) unknown)) (site_of kinds.Port (field 1 fs) q.1 q.3 (or_second (is_far c q.0) (is_far c q.1) unknown))) no_bytes refl)
    verb_fits verbs.Leave fs command h =
        let q = inv_two commands.Leave (name_in kinds.Group (field 0 fs)) (name_in kinds.Port (field 1 fs)) command h in
        subst (CommandFits c verbs.Leave) q.4
        (λ beyond unknown two.
        command_by (commands.Leave q.0 q.1) (and_join _ _ (named kinds.Group (field 0 fs) q.0 q.2).0 (named kinds.Port (field 1 fs) q.1 q.3).0)
        (and_join _ _ (site_of kinds.Group (field 0 fs) q.0 q.2 (or_first (is_far c q.0) (is_far c q.1) unknown)) (site_of kinds.Port (field 1 fs) q.1 q.3 (or_second (is_far c q.0) (is_far c q.1) unknown))) no_bytes refl)

  known_of : (kind : Kind) (text : List ℕ) (u : Ui) → name_in kind text ≡ Some u → not (is_known c u) ≡ false → (is_site c.sites u.site ≡ true) × (is_member u (made c) ≡ true)
  known_of kind text u name known =
      let p = both (not (is_far c u)) (is_member u (made c)) (not_so (is_known c u) known) in
      (site_of kind text u name (un_not (is_far c u) p.0), p.1)

  line_fits : (w : Word) (fs : List (List ℕ)) (x : Line) → line_of w fs ≡ Some x → (w ≡ words.Command verbs.Delete → nat_le 2 c.version ≡ true) → (w ≡ words.Claim → nat_le 3 c.version ≡ true) → (w ≡ words.Await → nat_le 3 c.version ≡ true) → Clear c x → Fits c x
  line_fits words.Chorus fs x h two three waits = absurd (let e : ◌≡◌ {A = Option Line} None (Some x) = h in cc)
  line_fits words.Sites fs x h two three waits =
      let p = inv_map SitesLine (number_in (field 0 fs)) x h in
      subst (λ y. Clear c y → Fits c y) p.2 (λ k. counted p.0 c.layout.sites (most_sites c.version) k.limit)
  line_fits words.Port fs x h two three waits =
      let p = inv_three PortLine (name_in kinds.Port (field 0 fs)) (name_in kinds.Actor (field 1 fs)) (number_in (field 2 fs)) x h in
      subst (λ y. Clear c y → Fits c y) p.6 (λ k sites.
      let given = from_same_ui p.0 (next_port c.layout p.1 (made c)) (not_so (same_ui p.0 (next_port c.layout p.1 (made c))) k.order) in
      and_join _ _ (and_join _ _ (room p.2 (or_first (is_no_capacity p.2) (nat_lt 32 p.0.number) k.limit)) (actor_of (field 1 fs) p.1 p.4 (or_second (is_far c p.0) (is_no_actor c p.1) k.unknown) sites)) (subst (λ (u : Ui). nat_le u.number 32 ≡ true) given (at_most p.0.number 32 (or_second (is_no_capacity p.2) (nat_lt 32 p.0.number) k.limit))))
  line_fits words.Group fs x h two three waits =
      let p = inv_map GroupLine (name_in kinds.Group (field 0 fs)) x h in
      subst (λ y. Clear c y → Fits c y) p.2 (λ k sites.
      let given = from_same_ui p.0 (next_group c.layout p.0.site (made c)) (not_so (same_ui p.0 (next_group c.layout p.0.site (made c))) k.order) in
      and_join _ _ (site_of kinds.Group (field 0 fs) p.0 p.1 k.unknown) (subst (λ (u : Ui). nat_le u.number 4 ≡ true) given (at_most p.0.number 4 k.limit)))
  line_fits words.Member fs x h two three waits =
      let p = inv_two MemberLine (name_in kinds.Group (field 0 fs)) (name_in kinds.Port (field 1 fs)) x h in
      subst (λ y. Clear c y → Fits c y) p.4 (λ k sites.
      let g = known_of kinds.Group (field 0 fs) p.0 p.2 (or_first (not (is_known c p.0)) (not (is_known c p.1)) k.unknown) in
      let q = known_of kinds.Port (field 1 fs) p.1 p.3 (or_second (not (is_known c p.0)) (not (is_known c p.1)) k.unknown) in
      and_join _ _ (and_join _ _ (and_join _ _ (and_join _ _ (and_join _ _ (and_join _ _ (and_join _ _ (named kinds.Group (field 0 fs) p.0 p.2).0 (named kinds.Port (field 1 fs) p.1 p.3).0) g.0) q.0) g.1) q.1)
      (fewer (length (members_of p.0 c.setup)) 32 k.limit)) (so_not (is_member p.1 (members_of p.0 c.setup)) k.twice))
  line_fits words.Script fs x h two three waits =
      let p = inv_map ScriptLine (name_in kinds.Actor (field 0 fs)) x h in
      subst (λ y. Clear c y → Fits c y) p.2 (λ k. (actor_of (field 0 fs) p.0 p.1 k.unknown, below (length c.scripts) 16 k.limit))
  line_fits (words.Command verb) fs x h two three waits =
      let p = inv_map CommandLine (command_of verb fs) x h in
      subst (λ y. Clear c y → Fits c y) p.2 (λ k. (
        λ sites. verb_fits sites verb fs p.0 p.1 (or_second (last_is_full c) (command_is_beyond c.version p.0) k.limit) k.unknown (λ e. two (ap words.Command e)),
        below (length (last_script c.scripts).commands) 4096 (or_first (last_is_full c) (command_is_beyond c.version p.0) k.limit),
      ))
  line_fits words.Await fs x h two three waits =
      let p = inv_map AwaitLine (name_in kinds.Port (field 0 fs)) x h in
      subst (λ y. Clear c y → Fits c y) p.2 (λ k. (
        command_by (commands.Take p.0) (named kinds.Port (field 0 fs) p.0 p.1).0 (site_of kinds.Port (field 0 fs) p.0 p.1 k.unknown) no_bytes refl,
        below (length (last_script c.scripts).commands) 4096 k.limit,
        waits refl,
      ))
  line_fits words.Claim fs x h two three waits =
      let same : ClaimLine (field 0 fs) ≡ x = bare (ClaimLine (field 0 fs)) x h in
      subst (λ y. Clear c y → Fits c y) same (λ k. (
        is_one (claim_fault c (field 0 fs)) k.unknown,
        below (length c.claims) 64 (or_second (is_for reasons.Limit (claim_fault c (field 0 fs))) (nat_le 64 (length c.claims)) k.limit),
        k.twice,
        three refl,
      ))
  line_fits words.Schedule fs x h two three waits = let same : ScheduleLine ≡ x = bare ScheduleLine x h in subst (λ y. Clear c y → Fits c y) same (λ k. tt)
  line_fits words.Step fs x h two three waits =
      let p = inv_map (λ n. StepLine (steps.Step n)) (number_in (field 0 fs)) x h in
      subst (λ y. Clear c y → Fits c y) p.2 (λ k. (
        stepped p.0 (length c.scripts) (length (script_at p.0 c.scripts).commands) (count_by (is_step p.0) c.schedule) k.schedule,
        below (length c.schedule) 131072 (or_first (nat_le 131072 (length c.schedule)) (is_huge p.0) k.limit),
      ))
  line_fits words.Deliver fs x h two three waits =
      let p = inv_two (λ a b. StepLine (steps.Deliver a b)) (number_in (field 0 fs)) (number_in (field 1 fs)) x h in
      subst (λ y. Clear c y → Fits c y) p.4 (λ k. (
        delivered p.0 p.1 (c.sites * c.layout.turns) k.schedule,
        below (length c.schedule) 131072 (or_first (nat_le 131072 (length c.schedule)) (is_huge p.0 || is_huge p.1) k.limit),
      ))
  line_fits words.Drain fs x h two three waits =
      let same : StepLine steps.Drain ≡ x = bare (StepLine steps.Drain) x h in
      subst (λ y. Clear c y → Fits c y) same (λ k. (refl, below (length c.schedule) 131072 (or_first (nat_le 131072 (length c.schedule)) false k.limit)))
  line_fits words.End fs x h two three waits = let same : EndLine ≡ x = bare EndLine x h in subst (λ y. Clear c y → Fits c y) same (λ k. tt)

  pub fits : (x : Line) → Tested c x → Fits c x
  fits x (inl p) = subst (Fits c) p.1 (p.2, p.3)
  fits x (inr w) = line_fits w.word w.fields x w.passes.line (λ e. delete_from_two c.version w.text (subst (λ v. word_of c.version w.text ≡ Some v) e w.is)) (λ e. claim_from_three c.version w.text (subst (λ v. word_of c.version w.text ≡ Some v) e w.is)) (λ e. await_from_three c.version w.text (subst (λ v. word_of c.version w.text ≡ Some v) e w.is)) (clear c x w.passes.judged)
