-- One entry more: what it brings, and that all stays within the ranges.
use Rattle.std.proofs.Common.{ℕ, ◌≡◌, ◌≤◌, nat_lt, Bool, true, false, ◌&&◌, cond, List, [], ◌∷◌, map, Some, IfSome, refl, sym, subst, arith, All}
use Rattle.std.proofs.lemmas.Bool.{and_from}
use Rattle.std.proofs.lemmas.Option.{IfSome_then}
use Rattle.std.proofs.lemmas.List.Elements.{All-nil, All-cons, All-head, All-tail, All-append, All-weaker}
use Rattle.std.proofs.Math.Nat.{le-max_left}
use Rattle.chorus_ui.specs.declared.ui.Ui.{Ui}
use Rattle.chorus_ui.specs.Name.{same_ui}
use Rattle.chorus_entry.specs.declared.act.Act.{Act}
use Rattle.chorus_entry.specs.declared.packet.Cargo.{Cargo}
use Rattle.chorus_entry.specs.Ranges.{is_place_number, has_ranges_of_cargo}
use Rattle.chorus_world.specs.Places.{last_clock}
use Rattle.chorus_world.specs.Groups.{members, members_after}
use Rattle.place_unsettled.specs.declared.wait.Key.{Key}
use Rattle.place_unsettled.specs.Queues.{Queue, changed, same_key}
use Rattle.law_machine.specs.declared.outgoing.Outgoing.{Outgoing}
use Rattle.law_machine.specs.PlaceState.{Turn, Change, unchanged, greatest_clock, next_clock, packed, say, note}
use Rattle.law_machine.proofs.Machine.Keys.{same_key-is}
use Rattle.chorus_hints.specs.Known.{Pairs, learned, hop_of}
use Rattle.law_bounds.specs.Bounds.{IsPortWithin, IsPairWithin, IsWaitWithin, AreMembersWithin, HasRanges, IsTurnWithin}
use Rattle.law_bounds.proofs.Ports as ports

-- the cargo may go with this clock
abbrev pub IsLoadWithin : ℕ → ℕ × Cargo → Type 0
IsLoadWithin clock load = has_ranges_of_cargo clock load.1 ≡ true

-- the tables with an entry of this clock are within their ranges, and so is what it puts
pub record Brings (a : Act) (c : Change) (t : Turn) : Type 0 where
  pub ports : All (IsPortWithin (next_clock t)) c.ports
  pub known : (q : Ui) → IfSome (c.known q) (IsPairWithin (next_clock t))
  pub waiting : (k : Key) → All (IsWaitWithin k) (c.waiting k).waits
  pub members : (g : Ui) → AreMembersWithin (members_after g a (members g t.place.journal))
  pub loads : All (IsLoadWithin (next_clock t)) c.loads

pub clock-later : (t : Turn) → last_clock t.place.journal ≤ greatest_clock t
clock-later t = le-max_left (last_clock t.place.journal) t.caller.last

clock-next : (t : Turn) → last_clock t.place.journal ≤ next_clock t
clock-next t = let le = clock-later t in omega (arith, le)

pub says : (a : Act) (c : Change) (t : Turn) → IsTurnWithin t → Brings a c t → IsTurnWithin (say a c t)
says a c t h b =
    record {
      place = record {
        layout = h.place.layout;
        number = h.place.number;
        ports = b.ports;
        known = b.known;
        waiting = b.waiting;
        members = b.members;
      };
      puts = All-append (λ (o : Outgoing). HasRanges o.packet) t.puts (map (packed t) c.loads) h.puts (put c.loads b.loads);
    }
  where
    put : (loads : List (ℕ × Cargo)) → All (IsLoadWithin (next_clock t)) loads → All (λ (o : Outgoing). HasRanges o.packet) (map (packed t) loads)
    put [] k = All-nil (λ (o : Outgoing). HasRanges o.packet)
    put (x ∷ xs) k =
        All-cons (λ (o : Outgoing). HasRanges o.packet) (packed t x) (map (packed t) xs)
        (and_from (is_place_number t.place.number) (has_ranges_of_cargo (next_clock t) x.1) h.place.number (All-head (IsLoadWithin (next_clock t)) x xs k))
        (put xs (All-tail (IsLoadWithin (next_clock t)) x xs k))

-- What stays.

pub ports-still : (t : Turn) → IsTurnWithin t → All (IsPortWithin (next_clock t)) t.place.ports
ports-still t h = All-weaker (IsPortWithin (last_clock t.place.journal)) (IsPortWithin (next_clock t)) (λ r k. ports.later (last_clock t.place.journal) (next_clock t) r (clock-next t) k) t.place.ports h.place.ports

pub pair-later : (c d : ℕ) (pair : ℕ × ℕ) → c ≤ d → IsPairWithin c pair → IsPairWithin d pair
pair-later c d pair le k = let less = k.1 in (k.0, omega (arith, le, less))

pub known-still : (t : Turn) → IsTurnWithin t → (q : Ui) → IfSome (t.place.known q) (IsPairWithin (next_clock t))
known-still t h q = IfSome_then (t.place.known q) (h.place.known q) (λ pair k. pair-later (last_clock t.place.journal) (next_clock t) pair (clock-next t) k)

-- an entry that changes no group
abbrev pub IsMute : Act → Type 0
IsMute a = (g : Ui) (qs : List Ui) → members_after g a qs ≡ qs

pub members-still : (a : Act) (t : Turn) → IsMute a → IsTurnWithin t → (g : Ui) → AreMembersWithin (members_after g a (members g t.place.journal))
members-still a t mute h g = subst AreMembersWithin (sym (mute g (members g t.place.journal))) (h.place.members g)

-- an entry that changes nothing, or the caller alone
pub still : (a : Act) (t : Turn) → IsMute a → IsTurnWithin t → Brings a (unchanged t) t
still a t mute h =
    record {
      ports = ports-still t h;
      known = known-still t h;
      waiting = h.place.waiting;
      members = members-still a t mute h;
      loads = All-nil (IsLoadWithin (next_clock t));
    }

pub notes : (a : Act) (t : Turn) → IsMute a → IsTurnWithin t → IsTurnWithin (note a t)
notes a t mute h = says a (unchanged t) t h (still a t mute h)

-- What changes.

-- a location is learned
pub learned-within : (c : ℕ) (q : Ui) (to hop : ℕ) (known : Pairs) → is_place_number to ≡ true → hop ≤ c → ((u : Ui) → IfSome (known u) (IsPairWithin c))
    → (u : Ui) → IfSome (learned q to hop known u) (IsPairWithin c)
learned-within c q to hop known place le k u = by (nat_lt (hop_of (known q)) hop && same_ui q u)
  where
    by : (b : Bool) → IfSome (cond b (Some (to, hop)) (known u)) (IsPairWithin c)
    by true = (place, le)
    by false = k u

-- the queue of one key changed
pub waiting-changed : (k : Key) (f : Queue → Queue) (waiting : Key → Queue) → ((j : Key) → All (IsWaitWithin j) (waiting j).waits) → All (IsWaitWithin k) (f (waiting k)).waits
    → (j : Key) → All (IsWaitWithin j) (changed k f waiting j).waits
waiting-changed k f waiting h own j = by (same_key k j) refl
  where
    by : (b : Bool) → same_key k j ≡ b → All (IsWaitWithin j) (cond b (f (waiting k)) (waiting j)).waits
    by true e = subst (λ z. All (IsWaitWithin z) (f (waiting k)).waits) (same_key-is k j e) own
    by false e = h j
