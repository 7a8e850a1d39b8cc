-- What a scenario's scripts keep.
-- c is a scenario, i the place of a script, d a command.
use Rattle.std.proofs.Common.{ℕ, zero, suc, ◌≡◌, ◌≤◌, nat_le, Bool, true, ◌&&◌, List, [], ◌∷◌, length, Some, slice_get, sym, ◌∙◌, ap}
use Rattle.std.specs.List.{list_all}
use Rattle.std.proofs.lemmas.Bool.{and_parts, leb-true}
use Rattle.chorus_ui.specs.declared.limits.TheConstants.{ACTORS_PER_SITE_LIMIT}
use Rattle.chorus_ui.specs.Layout.{has_actor, has_site}
use Rattle.chorus_ui.specs.NameKind.{is_actor}
use Rattle.chorus_entry.specs.Command.{meets_conditions}
use Rattle.chorus_entry.specs.declared.command.Command.{Command}
use Rattle.chorus_scene.specs.declared.limits.TheConstants.{COMMANDS_LIMIT}
use Rattle.chorus_scene.specs.Grammar.{most_bytes}
use Rattle.chorus_scene.specs.Limits.{Keeps, is_site, is_actor_of, command_is_of, bytes_sent, is_of_version, command_keeps, script_keeps}
use Rattle.chorus_scene.specs.Scene.{Scene, Script}

all-get : {X : Type 0} (p : X → Bool) (xs : List X) (i : ℕ) (x : X) → list_all p xs ≡ true → slice_get xs i ≡ Some x → p x ≡ true
all-get p [] i x all found = absurd (cc)
all-get p (y ∷ ys) zero x all found =
    let e : y ≡ x = cc in
    ap p (sym e) ∙ (and_parts (p y) (list_all p ys) all).0
all-get p (y ∷ ys) (suc i) x all found = all-get p ys i x (and_parts (p y) (list_all p ys) all).1 found

-- its actor is on a site of the layout, and its commands are few and meet their conditions
pub record ScriptKeeps (c : Scene) (script : Script) : Type 0 where
  pub site : has_site c.layout script.actor.site ≡ true
  pub few : length script.commands ≤ COMMANDS_LIMIT
  pub commands : (n : ℕ) (d : Command) → slice_get script.commands n ≡ Some d → meets_conditions d ≡ true

pub script-keeps : (c : Scene) → Keeps c → (i : ℕ) (script : Script) → slice_get c.scripts i ≡ Some script → ScriptKeeps c script
script-keeps c keeps i script e =
    let l = c.layout in
    let a = script.actor in
    let few = nat_le (length script.commands) COMMANDS_LIMIT in
    let each = list_all (command_keeps l c.version c.sites) script.commands in
    let whole = and_parts (is_actor_of l c.sites a && few) each (all-get (script_keeps l c.version c.sites) c.scripts i script keeps.scripts e) in
    let front = and_parts (is_actor_of l c.sites a) few whole.0 in
    let actor = (and_parts (is_actor a) (has_actor l a) (and_parts (is_actor a && has_actor l a) (is_site c.sites a.site) front.0).0).1 in
    record {
      site = (and_parts (has_site l a.site) (nat_le 1 a.number) (and_parts (has_site l a.site && nat_le 1 a.number) (nat_le a.number ACTORS_PER_SITE_LIMIT) actor).0).0;
      few = leb-true (length script.commands) COMMANDS_LIMIT front.1;
      commands = λ n d at.
          let bytes = nat_le (length (bytes_sent d)) (most_bytes c.version) in
          let keeps = all-get (command_keeps l c.version c.sites) script.commands n d whole.1 at in
          (and_parts (meets_conditions d) (command_is_of l c.sites d)
          (and_parts (meets_conditions d && command_is_of l c.sites d) bytes
          (and_parts (meets_conditions d && command_is_of l c.sites d && bytes) (is_of_version c.version d) keeps).0).0).0;
    }
