-- What waits to go, and what a place keeps, is within the ranges of packets.
use Rattle.std.proofs.Common.{◌≡◌, ◌+◌, max, arith, ℕ, zero, suc, true, List, [], ◌∷◌, ◌++◌, drop, replicate, slice_get, Option, IfSome, IsTrue, sym, ◌∙◌, ap, subst, All}
use Rattle.std.proofs.lemmas.List.Elements.{All-nil, All-cons, All-head, All-tail, All-set, All-push, All-drop}
use Rattle.chorus_entry.specs.declared.command.Command.{Command}
use Rattle.chorus_entry.specs.declared.packet.Packet.{Packet}
use Rattle.chorus_ui.specs.declared.layout.Layout.{Layout}
use Rattle.chorus_ui.specs.Layout.{IsLayout, has_place}
use Rattle.chorus_entry.specs.Ranges.{has_ranges}
use Rattle.chorus_entry.specs.Command.{meets_conditions, has_body_in_limit}
use Rattle.chorus_calls.specs.Callers.{Seated, after_tick}
use Rattle.place_outbox.specs.Waiting.{nothing_to, list_to, with_last, with_first, without_first}
use Rattle.law_machine.specs.declared.outgoing.Outgoing.{Outgoing}
use Rattle.law_machine.specs.PlaceState.{Turn, started}
use Rattle.law_machine.specs.PlaceMachine.{begun, begun_by, act, work}
use Rattle.law_machine.specs.Lawful.{is_lawful}
use Rattle.law_bounds.specs.Bounds.{IsWithin, IsCallerWithin, HasRanges, IsTurnWithin, AreWaitingWithin}
use Rattle.law_bounds.proofs.Starting.{start-within}
use Rattle.law_bounds.proofs.Commands.{act-within}
use Rattle.law_bounds.proofs.Packets.{work-within}
use Rattle.chorus_place.specs.PlaceTables.Tables.{Tables, state, turn}
use Rattle.chorus_place.specs.PlaceTables.Commands.{StaysOut}
use Rattle.chorus_place.specs.PlaceTables.Sending.{with_all}
use Rattle.chorus_place.specs.Calls.{IsAtRest}
use Rattle.chorus_place.proofs.Ended.{Sent, begins, still-none}

-- What waits.

list-within : (p : ℕ) (lists : List (List Packet)) → AreWaitingWithin lists → All HasRanges (list_to p lists)
list-within p [] h = All-nil HasRanges
list-within zero (l ∷ ls) h = All-head (All HasRanges) l ls h
list-within (suc p) (l ∷ ls) h = list-within p ls (All-tail (All HasRanges) l ls h)

pub last-within : (p : ℕ) (packet : Packet) (lists : List (List Packet)) → HasRanges packet → AreWaitingWithin lists → AreWaitingWithin (with_last p packet lists)
last-within p packet lists k h = All-set (All HasRanges) lists p (list_to p lists ++ packet ∷ []) (All-push HasRanges (list_to p lists) packet (list-within p lists h) k) h

pub first-within : (p : ℕ) (packet : Packet) (lists : List (List Packet)) → HasRanges packet → AreWaitingWithin lists → AreWaitingWithin (with_first p packet lists)
first-within p packet lists k h = All-set (All HasRanges) lists p (packet ∷ list_to p lists) (All-cons HasRanges packet (list_to p lists) k (list-within p lists h)) h

pub rest-within : (p : ℕ) (lists : List (List Packet)) → AreWaitingWithin lists → AreWaitingWithin (without_first p lists)
rest-within p lists h = All-set (All HasRanges) lists p (drop 1 (list_to p lists)) (All-drop HasRanges 1 (list_to p lists) (list-within p lists h)) h

-- the packet that is taken out
pub taken_within : (p : ℕ) (old : Tables) (o : Option Packet) → IsAtRest old → o ≡ slice_get (list_to p old.out.lists) 0 → IfSome o (λ packet. IsTrue (has_ranges packet))
taken_within p old o h e = subst (λ z. IfSome z HasRanges) (sym e) (by (list_to p old.out.lists) (list-within p old.out.lists h.waits))
  where
    by : (l : List Packet) → All HasRanges l → IfSome (slice_get l 0) HasRanges
    by [] k = tt
    by (packet ∷ l) k = All-head HasRanges packet l k

nothing-within : (n : ℕ) → AreWaitingWithin (replicate n [])
nothing-within zero = All-nil (All HasRanges)
nothing-within (suc n) = All-cons (All HasRanges) [] (replicate n []) (All-nil HasRanges) (nothing-within n)

all-within : (os : List Outgoing) (lists : List (List Packet)) → All (λ (o : Outgoing). HasRanges o.packet) os → AreWaitingWithin lists → AreWaitingWithin (with_all os lists)
all-within [] lists k h = h
all-within (o ∷ os) lists k h =
    all-within os (with_last o.to o.packet lists) (All-tail (λ (o : Outgoing). HasRanges o.packet) o os k)
    (last-within o.to o.packet lists (All-head (λ (o : Outgoing). HasRanges o.packet) o os k) h)

-- What a place keeps.

pub starts-at-rest : (l : Layout) (n places : ℕ) (p : Tables) → IsLayout l → has_place l n ≡ true → state p ≡ started l n → p.puts ≡ [] → p.out.lists ≡ nothing_to places → IsAtRest p
starts-at-rest l n places p shape place begins none waits =
    record {
      none = none;
      within = subst IsWithin (sym begins) (start-within l n shape place);
      waits = subst AreWaitingWithin (sym waits) (nothing-within (places + 1));
    }

-- a turn begins so
pub begins-within : (p : Tables) (c : Seated) → IsAtRest p → IsTurnWithin (begun (state p) c)
begins-within p c h = record { place = h.within; puts = All-nil (λ (o : Outgoing). HasRanges o.packet) }

-- the state and what waits are the same
pub still-at-rest : (old new : Tables) → IsAtRest old → new.puts ≡ [] → state new ≡ state old → new.out.lists ≡ old.out.lists → IsAtRest new
still-at-rest old new h none same waits =
    record { none = none; within = subst IsWithin (sym same) h.within; waits = subst AreWaitingWithin (sym waits) h.waits }

-- a packet was taken out
pub out_at_rest : (p : ℕ) (old new : Tables) → IsAtRest old → new.puts ≡ old.puts → state new ≡ state old → new.out.lists ≡ without_first p old.out.lists → IsAtRest new
out_at_rest p old new h puts same waits =
    record { none = puts ∙ h.none; within = subst IsWithin (sym same) h.within; waits = subst AreWaitingWithin (sym waits) (rest-within p old.out.lists h.waits) }

-- one was put back
pub back-at-rest : (p : ℕ) (packet : Packet) (old new : Tables) → HasRanges packet → IsAtRest old → new.puts ≡ old.puts → state new ≡ state old
    → new.out.lists ≡ with_first p packet old.out.lists → IsAtRest new
back-at-rest p packet old new k h puts same waits =
    record { none = puts ∙ h.none; within = subst IsWithin (sym same) h.within; waits = subst AreWaitingWithin (sym waits) (first-within p packet old.out.lists k h.waits) }

-- a turn was refused
pub refused-at-rest : (old new : Tables) (before after : Seated) → IsAtRest old → turn new after ≡ turn old before → StaysOut old.out new.out → IsAtRest new
refused-at-rest old new before after h same out =
    still-at-rest old new h (still-none old new before after h.none same) (ap (λ t. t.place) same) out.lists

-- a turn ended
pub ends-at-rest : (t : Turn) (old mid new : Tables) (after : Seated) → IsAtRest old → turn mid after ≡ t → StaysOut old.out mid.out → Sent mid new → new.puts ≡ [] → IsTurnWithin t → IsAtRest new
ends-at-rest t old mid new after h done out sent none w =
    record {
      none = none;
      within = subst IsWithin (sym (sent.state ∙ ap (λ u. u.place) done)) w.place;
      waits =
          subst AreWaitingWithin (sym (sent.lists ∙ ap (λ u. with_all u.puts mid.out.lists) done ∙ ap (with_all t.puts) out.lists))
          (all-within t.puts old.out.lists w.puts h.waits);
    }

-- a turn with a command
pub acts-at-rest : (c : Command) (old mid new : Tables) (before after : Seated) → IsAtRest old → turn mid after ≡ act c (turn old before) → StaysOut old.out mid.out → Sent mid new → new.puts ≡ []
    → meets_conditions c ≡ true → has_body_in_limit c ≡ true → IsCallerWithin before → IsAtRest new
acts-at-rest c old mid new before after h done out sent none may body within =
    ends-at-rest (act c (begun (state old) before)) old mid new after h (done ∙ ap (act c) (begins old before h.none)) out sent none
    (act-within c (begun (state old) before) may body within (begins-within old before h))

-- a turn with a packet, which raises the caller's clock before
pub works-at-rest : (k : Packet) (old mid new : Tables) (before raised after : Seated) → IsAtRest old → raised ≡ after_tick before (max before.last k.clock) → turn mid after ≡ work k (turn old raised)
    → StaysOut old.out mid.out → Sent mid new → new.puts ≡ [] → is_lawful k.from k (state old) ≡ true → IsAtRest new
works-at-rest k old mid new before raised after h ticked done out sent none lawful =
    let same = begins old raised h.none ∙ ap (begun (state old)) ticked in
    ends-at-rest (work k (begun_by (state old) before k)) old mid new after h (done ∙ ap (work k) same) out sent none
    (work-within k (begun_by (state old) before k) lawful (omega arith) (begins-within old (after_tick before (max before.last k.clock)) h))
