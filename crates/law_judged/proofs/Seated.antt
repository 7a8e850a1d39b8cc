-- The callers of a scenario are in actors of its layout.
use Rattle.std.proofs.Common.{ℕ, zero, suc, ◌≡◌, nat_le, true, ◌&&◌, List, [], ◌∷◌, length, map, Some, None, slice_get, refl, subst}
use Rattle.std.proofs.lemmas.Bool.{and_from, and_parts, le-leb}
use Rattle.std.specs.List.{list_all}
use Rattle.std.specs.Prelude.{Ok}
use Rattle.chorus_ui.specs.declared.ui.Ui.{Ui}
use Rattle.chorus_ui.specs.declared.layout.Layout.{Layout}
use Rattle.chorus_ui.specs.Layout.{IsLayout, has_actor}
use Rattle.chorus_ui.specs.NameKind.{is_actor}
use Rattle.chorus_scene.specs.Scene.{Scene, Script}
use Rattle.chorus_scene.specs.Grammar.{read_scene}
use Rattle.chorus_scene.specs.declared.limits.TheConstants.{COMMANDS_LIMIT}
use Rattle.chorus_scene.specs.Limits.{command_keeps, is_actor_of, is_site, script_keeps}
use Rattle.chorus_scene.proofs.Kept.{kept}
use Rattle.chorus_scene.proofs.Law.{printed_again}
use Rattle.chorus_report.specs.Headline.{callers_of}
use Rattle.law_network.specs.Calls.{first_actor}

none-some : {A : Type 0} → (a : A) → None ≡ Some a → ⊥
none-some a h = cc

some-same : {A : Type 0} → (a b : A) → Some a ≡ Some b → a ≡ b
some-same a b h = cc

abbrev IsIn : Layout → Ui → Type 0
IsIn l a = (is_actor a ≡ true) × (has_actor l a ≡ true)

-- of each script
module _ (l : Layout) (version n : ℕ) where
  actor-in : (script : Script) → script_keeps l version n script ≡ true → IsIn l script.actor
  actor-in script h =
      let first = and_parts (is_actor_of l n script.actor && nat_le (length script.commands) COMMANDS_LIMIT) (list_all (command_keeps l version n) script.commands) h in
      let actor = and_parts (is_actor_of l n script.actor) (nat_le (length script.commands) COMMANDS_LIMIT) first.0 in
      let both = and_parts (is_actor script.actor && has_actor l script.actor) (is_site n script.actor.site) actor.0 in
      and_parts (is_actor script.actor) (has_actor l script.actor) both.0

  script-in : (scripts : List Script) (k : ℕ) (a : Ui) → list_all (script_keeps l version n) scripts ≡ true → slice_get (map (λ (script : Script). script.actor) scripts) k ≡ Some a → IsIn l a
  script-in [] k a h is = absurd (none-some a is)
  script-in (script ∷ scripts) zero a h is =
      subst (IsIn l) (some-same script.actor a is) (actor-in script (and_parts (script_keeps l version n script) (list_all (script_keeps l version n) scripts) h).0)
  script-in (script ∷ scripts) (suc k) a h is = script-in scripts k a (and_parts (script_keeps l version n script) (list_all (script_keeps l version n) scripts) h).1 is

-- and of the first actor
first-in : (l : Layout) → IsLayout l → IsIn l first_actor
first-in l shape = (refl, and_from (nat_le 1 l.sites && true) true (and_from (nat_le 1 l.sites) true (le-leb 1 l.sites shape.sites_from_one) refl) refl)

pub callers_in : (l : Layout) (bytes : List ℕ) (c : Scene) → IsLayout l → read_scene l bytes ≡ Ok c → (k : ℕ) (a : Ui) → callers_of c k ≡ Some a → IsIn l a
callers_in l bytes c shape read zero a is = subst (IsIn l) (some-same first_actor a is) (first-in l shape)
callers_in l bytes c shape read (suc k) a is =
    let same : c.layout ≡ l = (printed_again l bytes c read).0 in
    subst (λ m. IsIn m a) same (script-in c.layout c.version c.sites c.scripts k a (kept l bytes c read).scripts is)
