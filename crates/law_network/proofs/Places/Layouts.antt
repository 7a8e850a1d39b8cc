-- Every schedule keeps the layout and its places: one field of what a network stands for.
use Rattle.std.proofs.Common.{ℕ, ◌≡◌, ◌==◌, Bool, true, false, cond, List, [], ◌∷◌, map, Option, Some, None, refl, ◌∙◌, ap}
use Rattle.std.specs.Prelude.{slice_get}
use Rattle.chorus_ui.specs.declared.layout.Layout.{Layout}
use Rattle.chorus_entry.specs.declared.command.Command.{Command}
use Rattle.chorus_entry.specs.declared.packet.Packet.{Packet}
use Rattle.chorus_entry.specs.Places.{place_for}
use Rattle.chorus_calls.specs.Callers.{Seated}
use Rattle.law_machine.specs.PlaceState.{PlaceState, Turn, started}
use Rattle.law_machine.specs.PlaceMachine.{act, work, begun_by}
use Rattle.law_machine.proofs.Machine.Stays.{act-stays, work-stays}
use Rattle.law_network.specs.Packets.{first_on, rest_on}
use Rattle.law_network.specs.Network.{NetState, Event, Enter, Act, Deliver, See, place, place_in, place_numbers, ended, turn_for, commanded, works_off, delivered, shown, happened, schedule}
use Rattle.law_network.specs.Stands.{AreOf}
use Rattle.law_network.proofs.Places.PlacesStay.{with-numbers, with-layouts}

pub record Keeps (l : Layout) (n : NetState) : Type 0 where
  pub layout : n.layout ≡ l
  pub numbers : map (λ (s : PlaceState). s.number) n.places ≡ place_numbers l
  pub layouts : map (λ (s : PlaceState). s.layout) n.places ≡ map (λ (p : ℕ). l) (place_numbers l)

-- each place is of the layout
place-layout : (l k : Layout) (p : ℕ) (rs : List PlaceState) (ks : List ℕ) → k ≡ l → map (λ (s : PlaceState). s.layout) rs ≡ map (λ (p : ℕ). l) ks → (place_in k p rs).layout ≡ l
place-layout l k p [] ks e h = e
place-layout l k p (r ∷ rs) [] e h = absurd (cc)
place-layout l k p (r ∷ rs) (j ∷ ks) e h = by (r.number == p) (cc) (place-layout l k p rs ks e (cc))
  where
    by : (b : Bool) → r.layout ≡ l → (place_in k p rs).layout ≡ l → (cond b r (place_in k p rs)).layout ≡ l
    by true f ih = f
    by false f ih = ih

ended-keeps : (l : Layout) (k : ℕ) (t : Turn) (n : NetState) → t.place.layout ≡ l → Keeps l n → Keeps l (ended k t n)
ended-keeps l k t n e h =
    record {
      layout = h.layout;
      numbers = with-numbers t.place n.places ∙ h.numbers;
      layouts = with-layouts l t.place n.places e (place_numbers l) h.layouts;
    }

commanded-keeps : (l : Layout) (k : ℕ) (c : Command) (o : Option Seated) (n : NetState) → Keeps l n → Keeps l (commanded k c o n)
commanded-keeps l k c None n h = h
commanded-keeps l k c (Some caller) n h =
    let t = turn_for c caller n in
    ended-keeps l k (act c t) n ((act-stays c t).layout ∙ place-layout l n.layout (place_for n.layout caller.actor c) n.places (place_numbers l) h.layout h.layouts) h

worked-keeps : (l : Layout) (k a b : ℕ) (caller : Seated) (o : Option Packet) (n : NetState) → Keeps l n → Keeps l (works_off k a b caller o n)
worked-keeps l k a b caller None n h = h
worked-keeps l k a b caller (Some q) n h =
    let t = begun_by (place b n) caller q in
    ended-keeps l k (work q t) (record n { packets = rest_on a b n.packets }) ((work-stays q t).layout ∙ place-layout l n.layout b n.places (place_numbers l) h.layout h.layouts)
    (record { layout = h.layout; numbers = h.numbers; layouts = h.layouts })

delivered-keeps : (l : Layout) (k a b : ℕ) (o : Option Seated) (n : NetState) → Keeps l n → Keeps l (delivered k a b o n)
delivered-keeps l k a b None n h = h
delivered-keeps l k a b (Some caller) n h = worked-keeps l k a b caller (first_on a b n.packets) n h

shown-keeps : (l : Layout) (k c : ℕ) (o : Option Seated) (n : NetState) → Keeps l n → Keeps l (shown k c o n)
shown-keeps l k c None n h = h
shown-keeps l k c (Some caller) n h = record { layout = h.layout; numbers = h.numbers; layouts = h.layouts }

happened-keeps : (l : Layout) (e : Event) (n : NetState) → Keeps l n → Keeps l (happened e n)
happened-keeps l (Enter actor last) n h = record { layout = h.layout; numbers = h.numbers; layouts = h.layouts }
happened-keeps l (Act k c) n h = commanded-keeps l k c (slice_get n.callers k) n h
happened-keeps l (Deliver k a b) n h = delivered-keeps l k a b (slice_get n.callers k) n h
happened-keeps l (See k c) n h = shown-keeps l k c (slice_get n.callers k) n h

started-numbers : (l : Layout) (ks : List ℕ) → map (λ (s : PlaceState). s.number) (map (started l) ks) ≡ ks
started-numbers l [] = refl
started-numbers l (k ∷ ks) = ap (λ xs. k ∷ xs) (started-numbers l ks)

started-layouts : (l : Layout) (ks : List ℕ) → map (λ (s : PlaceState). s.layout) (map (started l) ks) ≡ map (λ (p : ℕ). l) ks
started-layouts l [] = refl
started-layouts l (k ∷ ks) = ap (λ xs. l ∷ xs) (started-layouts l ks)

pub schedule-keeps : (l : Layout) (es : List Event) → Keeps l (schedule l es)
schedule-keeps l [] = record { layout = refl; numbers = started-numbers l (place_numbers l); layouts = started-layouts l (place_numbers l) }
schedule-keeps l (e ∷ es) = happened-keeps l e (schedule l es) (schedule-keeps l es)

pub schedule-places : (l : Layout) (es : List Event) → AreOf l (schedule l es).places
schedule-places l es = let k = schedule-keeps l es in record { numbers = k.numbers; layouts = k.layouts }
