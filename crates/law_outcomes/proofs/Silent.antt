-- What the commands of a scenario's scripts were answered is what the events of its history say.
-- c is a scenario, ms are moves, es events, both with the latest first, k is a seat, i the place of a script.
use Rattle.std.proofs.Common.{ℕ, suc, ◌≡◌, Bool, cond, List, [], ◌∷◌, ◌++◌, map, reverse, option_to_list, Some, slice_get, refl, ◌∙◌, ap, ap₂, arith}
use Rattle.std.specs.List.{All}
use Rattle.std.specs.Option.{option_map}
use Rattle.std.proofs.lemmas.Bool.{ne_eqb}
use Rattle.std.proofs.lemmas.List.Elements.{All-nil, All-cons, All-head, All-tail, All-append}
use Rattle.std.proofs.lemmas.Option.{slice_get-map}
use Rattle.chorus_ui.specs.declared.layout.Layout.{Layout}
use Rattle.law_network.specs.Calls.{starting}
use Rattle.law_network.specs.Network.{NetState, Event, Act, schedule}
use Rattle.law_network.proofs.Merge.Parts.{All-reverse}
use Rattle.law_explore.specs.declared.moves.Move.{Move}
use Rattle.law_explore.specs.Races.{Order, own_by}
use Rattle.law_moments.specs.Answers.{answer_by, answered_by}
use Rattle.law_replay.specs.Shown.{orders_of, race_of}
use Rattle.chorus_scene.specs.Scene.{Scene, Script}
use Rattle.chorus_report.specs.Setup.{setup_commands}
use Rattle.chorus_replay.specs.Order.{entering, in_setup}
use Rattle.chorus_explore.specs.Stages.{position}
use Rattle.chorus_explore.proofs.Happening.{events}
use Rattle.chorus_explore.proofs.Racing.{base}
use Rattle.law_outcomes.proofs.Told.{answered-at}

-- Before the race seats with scripts gave no command.

module _ (k : ℕ) where
  abbrev IsSilent : Event → Type 0
  IsSilent e = (n : NetState) → answer_by (suc k) e n ≡ []

  silent : (l : Layout) (es : List Event) → All IsSilent es → answered_by l (suc k) es ≡ []
  silent l [] h = refl
  silent l (e ∷ es) h = ap₂ (λ xs ys. xs ++ ys) (All-head IsSilent e es h (schedule l es)) (silent l es (All-tail IsSilent e es h))

  each : {X : Type 0} (f : X → Event) (xs : List X) → ((x : X) → IsSilent (f x)) → All IsSilent (map f xs)
  each f [] h = All-nil IsSilent
  each f (x ∷ xs) h = All-cons IsSilent (f x) (map f xs) (h x) (each f xs h)

  pub silent-first : (c : Scene) → answered_by c.layout (suc k) (reverse (base c)) ≡ []
  silent-first c =
      silent c.layout (reverse (base c))
      (All-reverse IsSilent (base c)
      (All-append IsSilent (starting ∷ in_setup c) (entering c)
      (All-cons IsSilent starting (in_setup c) (λ n. refl) (each (Act 0) (setup_commands c) (λ d n. ap (λ (b : Bool). cond b (option_to_list (own_by d n (slice_get n.callers 0))) []) (ne_eqb 0 (suc k) (λ e. omega (arith, e))))))
      (each _ c.scripts (λ s n. refl))))

-- the list of what each script was answered
pub told-is-at : (c : Scene) (ms : List Move) (i : ℕ) → slice_get (position c ms).told i ≡ option_map (λ (os : List Order). answered_by c.layout (suc i) (events c ms)) (slice_get (race_of c).scripts i)
told-is-at c ms i = answered-at (race_of c) c.layout (reverse (base c)) refl (λ j script e. silent-first j c) ms i

pub told-at : (c : Scene) (ms : List Move) (i : ℕ) (script : Script) → slice_get c.scripts i ≡ Some script → slice_get (position c ms).told i ≡ Some (answered_by c.layout (suc i) (events c ms))
told-at c ms i script there =
    told-is-at c ms i
    ∙ ap (option_map (λ (os : List Order). answered_by c.layout (suc i) (events c ms)))
    (slice_get-map orders_of c.scripts i ∙ ap (option_map orders_of) there)
