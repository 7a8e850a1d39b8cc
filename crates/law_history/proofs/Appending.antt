-- A turn appends entries of its place and caller, the first with the clock that was next when it began.
use Rattle.std.proofs.Common.{◌≡◌, ◌==◌, true, ◌&&◌, not, List, [], ◌∷◌, ◌++◌, refl, ◌∙◌, ap}
use Rattle.std.specs.List.{All}
use Rattle.std.proofs.lemmas.Bool.{and_parts}
use Rattle.std.proofs.lemmas.List.Elements.{All-nil, All-cons}
use Rattle.chorus_ui.specs.Layout.{has_place}
use Rattle.chorus_entry.specs.declared.entry.Entry.{Entry}
use Rattle.chorus_entry.specs.declared.act.Act.{Act}
use Rattle.chorus_entry.specs.declared.command.Command.{Command}
use Rattle.chorus_entry.specs.declared.packet.Packet.{Packet}
use Rattle.law_machine.specs.PlaceState.{Turn, Change, next_clock, next_entry, say}
use Rattle.law_machine.specs.PlaceMachine.{begun, begun_by, act, work}
use Rattle.law_machine.proofs.Machine.Chains.{act-gives}
use Rattle.law_machine.proofs.Machine.Follows.{IsSame}
use Rattle.law_history.specs.Turns.{Input}
use Rattle.law_history.specs.PlaceTurns.{brings_entry, may_come}
use Rattle.law_history.specs.Entries.{IsMadeBy, TurnsAppendEntries}
use Rattle.law_history.proofs.Working.{work-gives}

-- the turn u, which began as t, has appended a first entry and these newer ones
record Said (t u : Turn) : Type 0 where
  pub newer : List Entry
  pub entry : Entry
  pub journal : u.place.journal ≡ newer ++ entry ∷ t.place.journal
  pub clock : entry.clock ≡ next_clock t
  pub made : All (IsMadeBy t.place.number t.caller.seat) (newer ++ entry ∷ [])
  pub layout : u.place.layout ≡ t.place.layout
  pub number : u.place.number ≡ t.place.number
  pub seat : u.caller.seat ≡ t.caller.seat
  pub actor : u.caller.actor ≡ t.caller.actor

said-first : (a : Act) (c : Change) (t : Turn) → IsSame c.caller t.caller → Said t (say a c t)
said-first a c t s =
    record {
      newer = [];
      entry = next_entry a t;
      journal = refl;
      clock = refl;
      made =
          All-cons (IsMadeBy t.place.number t.caller.seat) (next_entry a t) [] (record { place = refl; seat_is = refl })
          (All-nil (IsMadeBy t.place.number t.caller.seat));
      layout = refl;
      number = refl;
      seat = s.seat;
      actor = s.actor;
    }

said-more : (t : Turn) (a : Act) (c : Change) (u : Turn) → IsSame c.caller u.caller → Said t u → Said t (say a c u)
said-more t a c u s h =
    record {
      newer = next_entry a u ∷ h.newer;
      entry = h.entry;
      journal = ap (λ es. next_entry a u ∷ es) h.journal;
      clock = h.clock;
      made =
          All-cons (IsMadeBy t.place.number t.caller.seat) (next_entry a u) (h.newer ++ h.entry ∷ [])
          (record { place = h.number; seat_is = h.seat }) h.made;
      layout = h.layout;
      number = h.number;
      seat = s.seat ∙ h.seat;
      actor = s.actor ∙ h.actor;
    }

act-says : (c : Command) (t : Turn) → Said t (act c t)
act-says c t = act-gives (Said t) (said-more t) c t (λ a x s. said-first a x t s)

work-says : (k : Packet) (t : Turn) → brings_entry k.cargo ≡ true → Said t (work k t)
work-says k t b = work-gives (Said t) (said-more t) t (λ a x s. said-first a x t s) k b

pub turns-append : TurnsAppendEntries
turns-append l p (Input.Command c) s w m =
    let h = act-says c (begun s w) in
    record { newer = h.newer; entry = h.entry; journal = h.journal; clock = h.clock; made = h.made; layout = h.layout; number = h.number; seat = h.seat; actor = h.actor }
turns-append l p (Input.Packet a k) s w m =
    let comes = (and_parts (has_place l p) (may_come l p (Input.Packet a k) w) m).1 in
    let h = work-says k (begun_by s w k) (and_parts (has_place l a && not (a == p)) (brings_entry k.cargo) comes).1 in
    record { newer = h.newer; entry = h.entry; journal = h.journal; clock = h.clock; made = h.made; layout = h.layout; number = h.number; seat = h.seat; actor = h.actor }
