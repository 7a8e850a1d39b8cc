-- The setup, line by line.
use Rattle.std.proofs.Common.{ℕ, zero, suc, ◌≡◌, ◌+◌, ◌<◌, Bool, true, false, ◌&&◌, List, [], ◌∷◌, ◌++◌, take, length, map, slice_index_or, refl, sym, ◌∙◌, ap, subst, arith}
use Rattle.std.proofs.lemmas.Bool.{and_parts, and_from, false≢true}
use Rattle.std.proofs.lemmas.List.{length-map}
use Rattle.chorus_ui.specs.declared.layout.Layout.{Layout}
use Rattle.chorus_entry.specs.declared.command.Command.{Command}
use Rattle.chorus_entry.specs.Command.{meets_conditions, is_capacity, is_post}
use Rattle.chorus_ui.specs.NameKind.{is_actor}
use Rattle.chorus_scene.specs.declared.scenario.SetupLine.{SetupLine}
use Rattle.chorus_scene.specs.declared.scenario.SetupLine.TheVariants as setups
use Rattle.chorus_scene.specs.Scene.{Scene}
use Rattle.chorus_scene.specs.Limits.{Keeps, setup_keeps, setup_line_keeps}
use Rattle.chorus_report.specs.Setup.{setup_command, setup_commands}
use Rattle.chorus_nucleus.specs.declared.pass.Pass.{Pass}
use Rattle.chorus_perform.specs.Going.{Goes}
use Rattle.chorus_perform.proofs.Steps.{step-more}

left : (a b : Bool) → a && b ≡ true → a ≡ true
left a b h = (and_parts a b h).0

right : (a b : Bool) → a && b ≡ true → b ≡ true
right a b h = (and_parts a b h).1

line-meets : (l : Layout) (n : ℕ) (before : List SetupLine) (line : SetupLine) → setup_line_keeps l n before line ≡ true → meets_conditions (setup_command line) ≡ true
line-meets l n before (setups.Port actor capacity) h =
    let two = left _ _ h in and_from (is_actor actor) (is_capacity capacity) (left _ _ (left _ _ (right _ _ two))) (left _ _ two)
line-meets l n before (setups.Group site) h = refl
line-meets l n before (setups.Member group port) h =
    let both = left _ _ (left _ _ (left _ _ (left _ _ (left _ _ (left _ _ h))))) in both

at-line : (l : Layout) (n : ℕ) (before lines : List SetupLine) (i : ℕ) (x : SetupLine) → setup_keeps l n before lines ≡ true → i < length lines → x ≡ slice_index_or lines i x → meets_conditions (setup_command x) ≡ true
at-line l n before [] i x h lt is = absurd (omega (arith, lt))
at-line l n before (line ∷ lines) zero x h lt is =
    ap (λ y. meets_conditions (setup_command y)) is ∙ line-meets l n before line (left _ _ h)
at-line l n before (line ∷ lines) (suc i) x h lt is = at-line l n (before ++ line ∷ []) lines i x (right _ _ h) (omega (arith, lt)) is

pub setup-meets : (c : Scene) → Keeps c → (i : ℕ) (x : SetupLine) (xs : List SetupLine) → xs ≡ c.setup → i < length c.setup → x ≡ slice_index_or xs i x → meets_conditions (setup_command x) ≡ true
setup-meets c keeps i x xs same lt is = at-line c.layout c.sites [] c.setup i x keeps.setup lt (is ∙ ap (λ ys. slice_index_or ys i x) same)

-- no line posts
line-posts : (line : SetupLine) → is_post (setup_command line) ≡ false
line-posts (setups.Port actor capacity) = refl
line-posts (setups.Group site) = refl
line-posts (setups.Member group port) = refl

pub setup-silent : (x : SetupLine) (command : Command) → command ≡ setup_command x → is_post command ≡ true → ⊥
setup-silent x command is h = absurd (false≢true (sym (ap is_post is ∙ line-posts x) ∙ h))

map-at : {X Y : Type 0} (f : X → Y) (xs : List X) (i : ℕ) (x : X) → i < length xs → x ≡ slice_index_or xs i x → f x ≡ slice_index_or (map f xs) i (f x)
map-at f [] i x lt is = absurd (omega (arith, lt))
map-at f (y ∷ xs) zero x lt is = ap f is
map-at f (y ∷ xs) (suc i) x lt is = map-at f xs i x (omega (arith, lt)) is

pub setup-more : (c : Scene) (i : ℕ) (x : SetupLine) (xs : List SetupLine) (command : Command) (a b d : Pass) → xs ≡ c.setup → i < length c.setup → x ≡ slice_index_or xs i x → command ≡ setup_command x → Goes (take i (setup_commands c)) a b → Goes (command ∷ []) b d → Goes (take (i + 1) (setup_commands c)) a d
setup-more c i x xs command a b d same lt is e g h =
    let count = length-map c.setup setup_command in
    step-more (setup_commands c) i (setup_command x) a b d (omega (arith, lt, count)) (map-at setup_command c.setup i x lt (is ∙ ap (λ ys. slice_index_or ys i x) same)) g
    (subst (λ (z : Command). Goes (z ∷ []) b d) e h)
