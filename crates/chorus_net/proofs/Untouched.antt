-- A place whose journal has no entry is as it was started.
use Rattle.std.proofs.Common.{ℕ, ◌≡◌, ◌==◌, Bool, true, false, cond, List, [], ◌∷◌, map, Option, Some, None, slice_get, refl, sym, subst}
use Rattle.std.specs.List.{All}
use Rattle.std.proofs.lemmas.Bool.{false≢true}
use Rattle.std.proofs.lemmas.List.Elements.{All-nil, All-cons, All-head, All-tail}
use Rattle.chorus_ui.specs.declared.layout.Layout.{Layout}
use Rattle.chorus_entry.specs.declared.command.Command.{Command}
use Rattle.chorus_entry.specs.declared.dest.Dest.TheVariants as dests
use Rattle.chorus_entry.specs.declared.entry.Entry.{Entry}
use Rattle.chorus_entry.specs.declared.packet.Cargo.{Cargo}
use Rattle.chorus_entry.specs.declared.packet.Cargo.TheVariants as cargos
use Rattle.chorus_entry.specs.declared.packet.Packet.{Packet}
use Rattle.chorus_calls.specs.Callers.{Seated}
use Rattle.law_machine.specs.PlaceState.{PlaceState, Turn, next_entry, started}
use Rattle.law_machine.specs.PlaceMachine.{act, begun_by, work}
use Rattle.law_machine.specs.Working.{opens}
use Rattle.law_machine.proofs.Machine.Chains.{act-gives}
use Rattle.law_network.specs.Packets.{first_on}
use Rattle.law_network.specs.Network.{NetState, Event, Enter, Act, Deliver, See, shown, after, commanded, delivered, happened, place, place_in, place_numbers, opening, schedule, turn_for, with_place, works_off}
use Rattle.law_history.specs.PlaceTurns.{brings_entry}
use Rattle.law_history.proofs.Working.{work-gives}
use Rattle.chorus_net.specs.Starting.{IsUntouched}

-- A turn appends an entry, or leaves the place as it is.

abbrev HasEntry : Turn → Type 0
HasEntry t = t.place.journal ≡ [] → ⊥

never : (e : Entry) (es : List Entry) → e ∷ es ≡ [] → ⊥
never e es h = cc

act-says : (c : Command) (t : Turn) → HasEntry (act c t)
act-says c t =
    act-gives HasEntry (λ a x u s h. never (next_entry a u) u.place.journal) c t (λ a x s. never (next_entry a t) t.place.journal)

work-says : (k : Packet) (t : Turn) → brings_entry k.cargo ≡ true → HasEntry (work k t)
work-says k t b =
    work-gives HasEntry (λ a x u s h. never (next_entry a u) u.place.journal) t (λ a x s. never (next_entry a t) t.place.journal) k b

true≢false : true ≡ false → ⊥
true≢false e = false≢true (sym e)

quiet : (from : ℕ) (k : Cargo) (t : Turn) → brings_entry k ≡ false → opens from k t ≡ t
quiet from (cargos.Ask m (dests.Port q)) t e = refl
quiet from (cargos.Ask m (dests.All g)) t e = absurd (true≢false e)
quiet from (cargos.Ask m (dests.One g)) t e = absurd (true≢false e)
quiet from (cargos.Ask m (dests.OneAt g n)) t e = absurd (true≢false e)
quiet from (cargos.Try m q route only hop) t e = absurd (true≢false e)
quiet from (cargos.Verdict x q route a) t e = absurd (true≢false e)
quiet from (cargos.Transfer port) t e = absurd (true≢false e)
quiet from (cargos.Report x a) t e = absurd (true≢false e)

act-untouched : (c : Command) (t : Turn) → IsUntouched (act c t).place
act-untouched c t = λ none. absurd (act-says c t none)

work-untouched : (k : Packet) (t : Turn) → IsUntouched t.place → IsUntouched (work k t).place
work-untouched k t h = go (brings_entry k.cargo) refl
  where
    go : (b : Bool) → brings_entry k.cargo ≡ b → IsUntouched (work k t).place
    go true e = λ none. absurd (work-says k t e none)
    go false e = subst (λ (u : Turn). IsUntouched u.place) (sym (quiet k.from k.cargo t e)) h

-- Networks.

finds-untouched : (l : Layout) (p : ℕ) (ss : List PlaceState) → All IsUntouched ss → IsUntouched (place_in l p ss)
finds-untouched l p [] h = λ none. refl
finds-untouched l p (s ∷ ss) h = go (s.number == p) (finds-untouched l p ss (All-tail IsUntouched s ss h))
  where
    go : (b : Bool) → IsUntouched (place_in l p ss) → IsUntouched (cond b s (place_in l p ss))
    go true rest = All-head IsUntouched s ss h
    go false rest = rest

with-untouched : (t : PlaceState) (ss : List PlaceState) → IsUntouched t → All IsUntouched ss → All IsUntouched (with_place t ss)
with-untouched t [] u h = All-nil IsUntouched
with-untouched t (s ∷ ss) u h = go (s.number == t.number) (with-untouched t ss u (All-tail IsUntouched s ss h))
  where
    go : (b : Bool) → All IsUntouched (with_place t ss) → All IsUntouched (cond b (t ∷ ss) (s ∷ with_place t ss))
    go true rest = All-cons IsUntouched t ss u (All-tail IsUntouched s ss h)
    go false rest = All-cons IsUntouched s (with_place t ss) (All-head IsUntouched s ss h) rest

by-command : (k : ℕ) (c : Command) (n : NetState) (o : Option Seated) → All IsUntouched n.places → All IsUntouched (commanded k c o n).places
by-command k c n None h = h
by-command k c n (Some w) h =
    with-untouched (act c (turn_for c w n)).place n.places (act-untouched c (turn_for c w n)) h

by-packet : (k a b : ℕ) (n : NetState) (w : Seated) (o : Option Packet) → All IsUntouched n.places → All IsUntouched (works_off k a b w o n).places
by-packet k a b n w None h = h
by-packet k a b n w (Some packet) h =
    with-untouched (work packet (begun_by (place b n) w packet)).place n.places
    (work-untouched packet (begun_by (place b n) w packet) (finds-untouched n.layout b n.places h)) h

by-delivery : (k a b : ℕ) (n : NetState) (o : Option Seated) → All IsUntouched n.places → All IsUntouched (delivered k a b o n).places
by-delivery k a b n None h = h
by-delivery k a b n (Some w) h = by-packet k a b n w (first_on a b n.packets) h

by-showing : (k clock : ℕ) (n : NetState) (o : Option Seated) → All IsUntouched n.places → All IsUntouched (shown k clock o n).places
by-showing k clock n None h = h
by-showing k clock n (Some w) h = h

happens-untouched : (e : Event) (n : NetState) → All IsUntouched n.places → All IsUntouched (happened e n).places
happens-untouched (Enter actor last) n h = h
happens-untouched (Act k c) n h = by-command k c n (slice_get n.callers k) h
happens-untouched (Deliver k a b) n h = by-delivery k a b n (slice_get n.callers k) h
happens-untouched (See k clock) n h = by-showing k clock n (slice_get n.callers k) h

opens-untouched : (l : Layout) (ks : List ℕ) → All IsUntouched (map (started l) ks)
opens-untouched l [] = All-nil IsUntouched
opens-untouched l (k ∷ ks) = All-cons IsUntouched (started l k) (map (started l) ks) (λ none. refl) (opens-untouched l ks)

after-untouched : (es : List Event) (n : NetState) → All IsUntouched n.places → All IsUntouched (after es n).places
after-untouched [] n h = h
after-untouched (e ∷ es) n h = happens-untouched e (after es n) (after-untouched es n h)

-- what a schedule leaves
pub scheduled-untouched : (l : Layout) (es : List Event) → All IsUntouched (schedule l es).places
scheduled-untouched l es = after-untouched es (opening l) (opens-untouched l (place_numbers l))
