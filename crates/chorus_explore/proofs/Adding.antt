-- The moves that are added for a script and for two places.
-- c is a scenario, s a stage, i the place of a script, d its next command, a and b are places, old and new are moves.
use Rattle.std.proofs.Common.{ℕ, suc, ◌≡◌, ◌+◌, ◌==◌, true, false, ◌&&◌, ◌||◌, not, List, [], ◌∷◌, ◌++◌, length, Option, Some, None, Bor, is_some, slice_get, refl, sym, ◌∙◌, ap, arith}
use Rattle.std.proofs.lemmas.List.{append-nil}
use Rattle.std.specs.Option.{IfSome, IsNone, option_copied}
use Rattle.std.specs.Slice.{IsItemAt}
use Rattle.std.proofs.lemmas.Option.{slice_get_past, slice_get_read}
use Rattle.chorus_ui.specs.Layout.{has_place}
use Rattle.chorus_entry.specs.declared.command.Command.{Command}
use Rattle.law_network.specs.Packets.{first_on}
use Rattle.law_explore.specs.declared.moves.Move.{Move}
use Rattle.law_explore.specs.declared.moves.Move.TheVariants.{Go, Carry}
use Rattle.law_awaits.specs.Awaits.{would_take}
use Rattle.law_explore.specs.Races.{Order, may_now}
use Rattle.law_replay.proofs.Steps.{order-at}
use Rattle.chorus_scene.specs.Scene.{Scene, Script, is_await}
use Rattle.chorus_net.specs.Sites.{net}
use Rattle.chorus_explore.specs.declared.race_sites.Progress.{Progress}
use Rattle.chorus_explore.specs.declared.race_sites.Stage.{Stage}
use Rattle.chorus_explore.specs.Stages.{IsNext, IsReached, coming, goes_on, may_go, moves_of, next_command, position}
use Rattle.chorus_explore.proofs.Moving.{carry-comes, left-is, next-may, order-next, none-comes, none-may, one-comes, waits-on}

module _ (c : Scene) (s : Stage) where
  abbrev at_end : Move → List Move
  at_end m = coming c (moves_of s) (m ∷ [])

  added : (m : Move) (old new : List Move) → may_go c m (moves_of s) ≡ true → new ≡ old ++ m ∷ [] → new ≡ old ++ at_end m
  added m old new may e = e ∙ ap (λ xs. old ++ xs) (sym (one-comes c (moves_of s) m may))

  -- A script.

  pub script-added : IsReached c s → (i : ℕ) (d : Command) (old new : List Move) → IsNext c (moves_of s) i d → goes_on c (moves_of s) i ≡ true → new ≡ old ++ Go i ∷ [] → new ≡ old ++ at_end (Go i)
  script-added h i d old new e on e' = added (Go i) old new (next-may c s h i d e on) e'

  pub script-none : (i : ℕ) (old : List Move) → next_command c (moves_of s) i ≡ None → old ≡ old ++ at_end (Go i)
  script-none i old none = sym (append-nil old) ∙ ap (λ xs. old ++ xs) (sym (none-comes c (moves_of s) (Go i) (none-may c (moves_of s) i none)))

  pub script-waits : (i : ℕ) (old : List Move) → goes_on c (moves_of s) i ≡ false → old ≡ old ++ at_end (Go i)
  script-waits i old off = sym (append-nil old) ∙ ap (λ xs. old ++ xs) (sym (none-comes c (moves_of s) (Go i) (waits-on c (moves_of s) i off)))

  -- it may come where it does not wait, or would be answered by a message
  pub goes-on-is : IsReached c s → (i : ℕ) (script : Script) (p : Progress) → slice_get c.scripts i ≡ Some script → slice_get s.scripts.items i ≡ Some p → (d : Command) → IsNext c (moves_of s) i d
      → goes_on c (moves_of s) i ≡ (not (is_await script.waits p.next) || would_take (i + 1) d (net s.sites))
  goes-on-is h i script p e f d next =
      let o = order-next c (moves_of s) i d next in
      let n = (position c (moves_of s)).net in
      let at = order-at script.waits 0 script.commands p.next o.0 (sym (left-is c s h i script p e f) ∙ o.1.0) in
      ap (λ x. is_some x && may_now x i (position c (moves_of s)).net) o.1.0
      ∙ (λ j. not (waits o.0 at.1 j) || would_take (seat i j) (o.1.1 j) (sym h.at.net j))
    where
      waits : (o : Order) → o.waits ≡ is_await script.waits (0 + p.next) → o.waits ≡ is_await script.waits p.next
      waits o w = w ∙ ap (is_await script.waits) (plus p.next)
        where
          plus : (n : ℕ) → 0 + n ≡ n
          plus n = omega arith

      seat : (i : ℕ) → suc i ≡ i + 1
      seat i = omega arith

  -- Two places.

  pub carry-added : IsReached c s → (a b : ℕ) (old new : List Move) → has_place c.layout a ≡ true → has_place c.layout b ≡ true → (a == b) ≡ false
      → is_some (first_on a b (net s.sites).packets) ≡ true → new ≡ old ++ Carry a b ∷ [] → new ≡ old ++ at_end (Carry a b)
  carry-added h a b old new from to apart waits e = added (Carry a b) old new (carry-comes c s h a b from to apart ∙ waits) e

-- A command that is looked for.

pub found-next : (c : Scene) (ms : List Move) (i : ℕ) (o : Option (Bor Command)) → option_copied o ≡ next_command c ms i → IfSome o (λ d. IsNext c ms i d.now)
found-next c ms i None e = tt
found-next c ms i (Some d) e = sym e

pub found-none : (c : Scene) (ms : List Move) (i : ℕ) (o : Option (Bor Command)) → option_copied o ≡ next_command c ms i → IsNone o → next_command c ms i ≡ None
found-none c ms i None e none = sym e
found-none c ms i (Some d) e none = absurd (cc)

pub lent-at : (ds : List Command) (n : ℕ) (o : Option (Bor Command)) → IsItemAt ds n o → option_copied o ≡ slice_get ds n
lent-at ds n None h = sym (slice_get_past ds n h.3)
lent-at ds n (Some x) h = sym (slice_get_read ds (length ds) n x.now refl h.3.0 h.1)
