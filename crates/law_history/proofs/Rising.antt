-- The clocks of a turn of the place machine rise: what it leaves and puts has at least the clock of its first entry.
use Rattle.std.proofs.Common.{ℕ, ◌≡◌, ◌<◌, ◌≤◌, ◌==◌, true, ◌&&◌, not, List, [], ◌∷◌, map, Some, refl, sym, subst, arith}
use Rattle.std.specs.List.{All}
use Rattle.std.proofs.lemmas.Bool.{and_parts, eqb-true}
use Rattle.std.proofs.lemmas.List.Elements.{All-nil, All-cons, All-append, All-head, All-tail}
use Rattle.chorus_ui.specs.declared.layout.Layout.{Layout}
use Rattle.chorus_ui.specs.Layout.{has_place}
use Rattle.chorus_entry.specs.declared.act.Act.{Act}
use Rattle.chorus_entry.specs.declared.command.Command.{Command}
use Rattle.chorus_entry.specs.declared.packet.Packet.{Packet}
use Rattle.chorus_entry.specs.declared.packet.Cargo.{Cargo}
use Rattle.chorus_entry.specs.Places.{place_for}
use Rattle.chorus_world.specs.Places.{last_clock}
use Rattle.chorus_calls.specs.Callers.{Seated}
use Rattle.law_machine.specs.declared.outgoing.Outgoing.{Outgoing}
use Rattle.law_machine.specs.PlaceState.{PlaceState, Turn, Change, next_clock, packed, say}
use Rattle.law_machine.specs.PlaceMachine.{begun, begun_by, act, work}
use Rattle.law_machine.proofs.Machine.Chains.{act-gives}
use Rattle.law_network.specs.Schedules.{may_give}
use Rattle.law_history.specs.Turns.{Input, Sent, Rises}
use Rattle.law_history.proofs.Working.{work-gives}
use Rattle.law_history.specs.PlaceTurns.{as_sent, turn, brings_entry, may_come, may_take, machine}

-- the packet is put by the place p, with a clock of at least `first`
pub record IsPut (first p : ℕ) (o : Outgoing) : Type 0 where
  pub clock : first ≤ o.packet.clock
  pub from : o.packet.from ≡ p

-- a turn that appended an entry with the clock `first`, and perhaps more
pub record Rose (first p : ℕ) (t : Turn) : Type 0 where
  pub number : t.place.number ≡ p
  pub place : first ≤ last_clock t.place.journal
  pub caller : first ≤ t.caller.last
  pub puts : All (IsPut first p) t.puts

all-packed : (first p : ℕ) (t : Turn) (loads : List (ℕ × Cargo)) → first ≤ next_clock t → t.place.number ≡ p → All (IsPut first p) (map (packed t) loads)
all-packed first p t [] le n = All-nil (IsPut first p)
all-packed first p t (load ∷ loads) le n =
    All-cons (IsPut first p) (packed t load) (map (packed t) loads) (record { clock = le; from = n }) (all-packed first p t loads le n)

-- one entry, with a clock of at least `first`
said : (first p : ℕ) (a : Act) (c : Change) (t : Turn) → first ≤ next_clock t → t.place.number ≡ p → All (IsPut first p) t.puts → Rose first p (say a c t)
said first p a c t le n puts =
    record {
      number = n;
      place = le;
      caller = le;
      puts = All-append (IsPut first p) t.puts (map (packed t) c.loads) puts (all-packed first p t c.loads le n);
    }

-- one entry more
said-more : (first p : ℕ) (a : Act) (c : Change) (t : Turn) → Rose first p t → Rose first p (say a c t)
said-more first p a c t h =
    let le = h.place in said first p a c t (omega (arith, le)) h.number h.puts

-- the first entry of a turn that put nothing yet
said-first : (a : Act) (c : Change) (t : Turn) → t.puts ≡ [] → Rose (next_clock t) t.place.number (say a c t)
said-first a c t e = said (next_clock t) t.place.number a c t (omega arith) refl (subst (All (IsPut (next_clock t) t.place.number)) (sym e) (All-nil (IsPut (next_clock t) t.place.number)))

pub act-rises : (c : Command) (t : Turn) → t.puts ≡ [] → Rose (next_clock t) t.place.number (act c t)
act-rises c t e =
    act-gives (Rose (next_clock t) t.place.number) (λ a x u s h. said-more (next_clock t) t.place.number a x u h) c t (λ a x s. said-first a x t e)

pub work-rises : (k : Packet) (t : Turn) → t.puts ≡ [] → brings_entry k.cargo ≡ true → Rose (next_clock t) t.place.number (work k t)
work-rises k t e b =
    work-gives (Rose (next_clock t) t.place.number) (λ a x u s h. said-more (next_clock t) t.place.number a x u h) t (λ a x s. said-first a x t e) k b

-- So the place machine is a machine of histories.

abbrev start : Input Command Packet → PlaceState → Seated → Turn
start (Input.Command c) s w = begun s w
start (Input.Packet a k) s w = begun_by s w k

abbrev end : Input Command Packet → PlaceState → Seated → Turn
end (Input.Command c) s w = act c (begun s w)
end (Input.Packet a k) s w = work k (begun_by s w k)

pub turn-rises : (l : Layout) (p : ℕ) (i : Input Command Packet) (s : PlaceState) (w : Seated) → may_take l p i s w ≡ true → Rose (next_clock (start i s w)) s.number (end i s w)
turn-rises l p (Input.Command c) s w m = act-rises c (begun s w) refl
turn-rises l p (Input.Packet a k) s w m =
    let comes = (and_parts (has_place l p) (may_come l p (Input.Packet a k) w) m).1 in
    work-rises k (begun_by s w k) refl (and_parts (has_place l a && not (a == p)) (brings_entry k.cargo) comes).1

above-place : (i : Input Command Packet) (s : PlaceState) (w : Seated) → last_clock s.journal < (turn i s w).first
above-place (Input.Command c) s w = omega arith
above-place (Input.Packet a k) s w = omega arith

above-caller : (i : Input Command Packet) (s : PlaceState) (w : Seated) → w.last < (turn i s w).first
above-caller (Input.Command c) s w = omega arith
above-caller (Input.Packet a k) s w = omega arith

all-sent : (first p : ℕ) (os : List Outgoing) → All (IsPut first p) os → All (λ (s : Sent Packet). first ≤ s.packet.clock) (map as_sent os)
all-sent first p [] h = All-nil (λ (s : Sent Packet). first ≤ s.packet.clock)
all-sent first p (o ∷ os) h =
    let own = All-head (IsPut first p) o os h in
    All-cons (λ (s : Sent Packet). first ≤ s.packet.clock) (as_sent o) (map as_sent os) own.clock (all-sent first p os (All-tail (IsPut first p) o os h))

to-place : (l : Layout) (p : ℕ) (i : Input Command Packet) (s : PlaceState) (w : Seated) → may_take l p i s w ≡ true → (turn i s w).first ≤ last_clock (turn i s w).place.journal
to-place l p (Input.Command c) s w m = (turn-rises l p (Input.Command c) s w m).place
to-place l p (Input.Packet a k) s w m = (turn-rises l p (Input.Packet a k) s w m).place

to-caller : (l : Layout) (p : ℕ) (i : Input Command Packet) (s : PlaceState) (w : Seated) → may_take l p i s w ≡ true → (turn i s w).first ≤ (turn i s w).caller.last
to-caller l p (Input.Command c) s w m = (turn-rises l p (Input.Command c) s w m).caller
to-caller l p (Input.Packet a k) s w m = (turn-rises l p (Input.Packet a k) s w m).caller

to-packets : (l : Layout) (p : ℕ) (i : Input Command Packet) (s : PlaceState) (w : Seated) → may_take l p i s w ≡ true → All (λ (x : Sent Packet). (turn i s w).first ≤ x.packet.clock) (turn i s w).puts
to-packets l p (Input.Command c) s w m = (let h = turn-rises l p (Input.Command c) s w m in all-sent _ _ _ h.puts)
to-packets l p (Input.Packet a k) s w m = (let h = turn-rises l p (Input.Packet a k) s w m in all-sent _ _ _ h.puts)

pub place-rises : (l : Layout) → Rises (machine l)
place-rises l =
    record {
      at_place = λ p c s w m.
          let comes = (and_parts (has_place l p) (may_come l p (Input.Command c) w) m).1 in
          eqb-true (place_for l w.actor c) p (and_parts (place_for l w.actor c == p) (may_give (Some w) c) comes).0;
      above_place = λ p i s w m. above-place i s w;
      above_caller = λ p i s w m. above-caller i s w;
      above_packet = λ p a k s w m. omega arith;
      to_place = to-place l;
      to_caller = to-caller l;
      to_packets = to-packets l;
      to_shown = λ clock w. omega arith;
    }
