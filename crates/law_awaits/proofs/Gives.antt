-- A take is answered by a message exactly where the port gives one in the world.
use Rattle.std.proofs.Common.{ℕ, zero, suc, ◌≡◌, ◌≢◌, ◌≤◌, ◌==◌, Bool, true, false, ◌&&◌, not, cond, List, [], ◌∷◌, length, map, drop, Option, Some, None, slice_get, refl, sym, ◌∙◌, ap, subst, inl, inr, arith}
use Rattle.std.specs.Option.{option_map}
use Rattle.std.proofs.lemmas.Bool.Decides.{nat_tests}
use Rattle.chorus_ui.specs.declared.ui.Ui.{Ui}
use Rattle.chorus_ui.specs.Name.{same_ui}
use Rattle.chorus_ui.proofs.Names.{from_same_ui, same_ui-self, same_ui_tells}
use Rattle.chorus_ui.specs.declared.layout.Layout.{Layout}
use Rattle.chorus_ui.specs.Layout.{IsLayout}
use Rattle.chorus_entry.specs.declared.command.Command.{Command}
use Rattle.chorus_entry.specs.declared.entry.Entry.{Entry}
use Rattle.chorus_entry.specs.declared.id.MsgId.{MsgId}
use Rattle.chorus_entry.specs.declared.record.PortRecord.{PortRecord}
use Rattle.chorus_entry.specs.Places.{place_for}
use Rattle.chorus_world.specs.declared.spot.Spot.{Spot}
use Rattle.chorus_world.specs.declared.spot.Spot.TheVariants as spots
use Rattle.chorus_world.specs.Views.{on}
use Rattle.chorus_world.specs.Ports.{PortState, fate, last_of}
use Rattle.chorus_world.proofs.Sorted.Holders.{run_is_legal}
use Rattle.chorus_ports.specs.declared.taking.Taken.TheVariants as takes
use Rattle.chorus_ports.specs.Table.{find}
use Rattle.chorus_ports.specs.Taking.{first_at, taken}
use Rattle.chorus_calls.specs.Callers.{Seated}
use Rattle.law_machine.specs.Own.{take_act}
use Rattle.law_network.specs.Network.{NetState, place, schedule}
use Rattle.law_network.specs.Records.{message, record_for, record_held, record_here, record_at}
use Rattle.law_network.specs.Left.{merged_past}
use Rattle.law_network.specs.History.{history}
use Rattle.law_network.specs.Stands.{Stands, actor_of}
use Rattle.law_network.proofs.Events.InOrder.{in-order}
use Rattle.law_network.proofs.Merge.Journals.{merge-is, views}
use Rattle.law_network.proofs.Places.Layouts.{schedule-keeps}
use Rattle.law_network.proofs.Ports.HeldPorts.{line-facts}
use Rattle.law_awaits.specs.Awaits.{is_taken, takes_by, would_take, gives, WouldTakeIsGives}

swapped : (u v : Ui) → same_ui u v ≡ same_ui v u
swapped u v =
    elim (same_ui_tells u v) [
      | inl same ↦ (same.0 ∙ sym (ap (same_ui v) same.1 ∙ same_ui-self v))
      | inr differ ↦ (differ.0 ∙ sym (apart differ.1 (same_ui v u) refl))
    ]
  where
    apart : u ≢ v → (b : Bool) → same_ui v u ≡ b → same_ui v u ≡ false
    apart n true e = absurd (n (sym (from_same_ui v u e)))
    apart n false e = e

-- a port gives something out where it has not given out all that it accepted
left-over : (past : List Entry) (q : Ui) (n k : ℕ) (xs : List MsgId) → k ≤ length xs → is_taken (take_act q (first_at n (map (message past) (drop k xs)))) ≡ not (k == length xs)
left-over past q n zero [] h = refl
left-over past q n (suc k) [] h = absurd (omega (arith, h))
left-over past q n zero (x ∷ xs) h = some (length xs)
  where
    some : (m : ℕ) → true ≡ not (0 == suc m)
    some m = grind (arith, nat_tests)
left-over past q n (suc k) (x ∷ xs) h =
    left-over past q n k xs (omega (arith, h)) ∙ same k (length xs)
  where
    same : (a b : ℕ) → not (a == b) ≡ not (suc a == suc b)
    same a b = grind (arith, nat_tests)

module _ (past : List Entry) (q a : Ui) (p : ℕ) where
  abbrev Within : PortState → Type 0
  Within f = f.taken ≤ length f.accepted

  -- the machine's answer, from a record that may be at the place
  abbrev answered : Option PortRecord → Bool
  answered o = is_taken (take_act q (taken a o))

  at-place : (f : PortState) → Within f → (b : Ui) (here : Bool) → answered (cond here (Some (record_for past (on q past) q b f)) None) ≡ (same_ui a b && here) && not (f.taken == length f.accepted)
  at-place f w b true = by (same_ui b a) ∙ ap (λ c. (c && true) && not (f.taken == length f.accepted)) (swapped b a)
    where
      by : (c : Bool) → is_taken (take_act q (cond c (first_at f.taken (map (message past) (drop f.taken f.accepted))) takes.NotHere)) ≡ (c && true) && not (f.taken == length f.accepted)
      by true = left-over past q f.taken f.taken f.accepted w
      by false = refl
  at-place f w b false = none (same_ui a b)
    where
      none : (c : Bool) → false ≡ (c && false) && not (f.taken == length f.accepted)
      none true = refl
      none false = refl

  at-spot : (f : PortState) → Within f → (spot : Spot) → answered (record_held past (on q past) q p f spot) ≡ gives p a (Some (record f { spot = spot }))
  at-spot f w (spots.Held b) = at-place f w b (last_of 0 f.path == p)
  at-spot f w (spots.Moving b) = refl
  at-spot f w spots.Ended = refl

  pub by-fate : ((f : PortState) → fate (on q past) ≡ Some f → Within f) → answered (record_at past q p) ≡ gives p a (fate (on q past))
  by-fate w = by (fate (on q past)) refl
    where
      by : (o : Option PortState) → fate (on q past) ≡ o → answered (record_here past (on q past) q p o) ≡ gives p a o
      by None e = refl
      by (Some f) e = at-spot f (w f e) f.spot

-- who has an actor is a caller in it
some-caller : (o : Option Seated) (a : Ui) → option_map (λ (c : Seated). c.actor) o ≡ Some a → (c : Seated) × (o ≡ Some c) × (c.actor ≡ a)
some-caller None a h = absurd (cc)
some-caller (Some c) a h = (c, refl, cc)

module _ (n : NetState) (past : List Entry) (shape : IsLayout n.layout) (s : Stands n past) where
  stands-gives : (k : ℕ) (a q : Ui) → actor_of n k ≡ Some a → would_take k (Command.Take q) n ≡ gives (place_for n.layout a (Command.Take q)) a (fate (on q (merged_past n)))
  stands-gives k a q who =
      let found = some-caller (slice_get n.callers k) a who in
      let c : Seated = found.0 in
      let p = place_for n.layout a (Command.Take q) in
      ap (takes_by (Command.Take q) n) found.1
      ∙ ap (λ (b : Ui). is_taken (take_act q (taken b (find q (place (place_for n.layout b (Command.Take q)) n).ports)))) found.2
      ∙ ap (λ o. is_taken (take_act q (taken a o))) (s.ports p q)
      ∙ by-fate past q a p (λ f e. (line-facts n.layout past q f shape (run_is_legal n.layout (actor_of n) past s.run) e).within)
      ∙ ap (λ es. gives p a (fate es)) (sym (ap (on q) (merge-is n past s) ∙ (views n past s).ports q))

pub would-take-is-gives : WouldTakeIsGives
would-take-is-gives l es shape may =
    let same = (schedule-keeps l es).layout in
    subst (λ (k : Layout). (i : ℕ) (a q : Ui) → actor_of (schedule l es) i ≡ Some a → would_take i (Command.Take q) (schedule l es) ≡ gives (place_for k a (Command.Take q)) a (fate (on q (merged_past (schedule l es))))) same
    (stands-gives (schedule l es) (history l es) (subst IsLayout (sym same) shape) (in-order l es shape may).0)
