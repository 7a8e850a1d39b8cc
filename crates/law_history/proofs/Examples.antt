-- A small history, worked out by hand, and histories that fail one premise each. On two sites of one place the first caller sends a
-- message to a port that is not made, and the second works the packet off.
use Rattle.std.proofs.Common.{ℕ, zero, suc, ◌≡◌, ◌<◌, ◌==◌, true, false, cond, List, [], ◌∷◌, ◌++◌, None, slice_get, refl, sym, ◌∙◌, ap, arith}
use Rattle.std.specs.List.{filter}
use Rattle.std.proofs.lemmas.Bool.{ne_eqb, false≢true}
use Rattle.std.proofs.lemmas.List.Elements.{All-nil, All-cons, All-head}
use Rattle.chorus_ui.specs.declared.ui.Ui.{Ui}
use Rattle.chorus_ui.specs.declared.layout.Layout.{Layout}
use Rattle.chorus_ui.specs.declared.kind.Kind.TheVariants as kinds
use Rattle.chorus_entry.specs.declared.tag.Tag.{Tag}
use Rattle.chorus_entry.specs.declared.dest.Dest.{Dest}
use Rattle.chorus_entry.specs.declared.message.Message.{Message}
use Rattle.chorus_entry.specs.declared.answer.Answer.TheVariants as answers
use Rattle.chorus_entry.specs.declared.command.Command.{Command}
use Rattle.chorus_entry.specs.declared.packet.Packet.{Packet}
use Rattle.chorus_entry.specs.declared.packet.Cargo.{Cargo}
use Rattle.chorus_calls.specs.Callers.{Seated, new_caller}
use Rattle.law_machine.specs.PlaceState.{PlaceState, started}
use Rattle.law_network.specs.Network.{Event, Enter, Act as Acts, Deliver, See, schedule}
use Rattle.law_network.specs.Schedules.{may_be}
use Rattle.law_history.specs.Turns.{Input, is_at, is_by, put_to, got_from, before}
use Rattle.law_history.specs.Network.{Network}
use Rattle.law_history.specs.Histories.{Takes, Follows}
use Rattle.law_history.specs.PlaceTurns.{turn, machine}
use Rattle.law_history.specs.Journals.{PlaceTurn, Comer, IsComer, at_start, AreHistories, events, on_link}

-- Names.

abbrev two_sites : Layout
two_sites = record { sites = 2; turns = 1 }

abbrev actor : ℕ → Ui
actor site = record { site = site; kind = kinds.Actor; number = 1 }

abbrev port : Ui
port = record { site = 2; kind = kinds.Port; number = 1 }

abbrev message : Message
message = record { id = record { seat = 0; number = 1; copy = 0 }; tag = Tag.Plain; body = [] }

abbrev first_comer : Comer
first_comer = record { actor = actor 1; last = 0 }

abbrev second_comer : Comer
second_comer = record { actor = actor 2; last = 5 }

abbrev comers : List Comer
comers = first_comer ∷ second_comer ∷ []

abbrev sending : Input Command Packet
sending = Input.Command (Command.Send (Dest.Port port) [])

abbrev try_packet : Packet
try_packet = record { clock = 2; from = 1; cargo = Cargo.Try message port None None 0 }

abbrev verdict_packet : Packet
verdict_packet = record { clock = 6; from = 2; cargo = Cargo.Verdict message.id port None answers.NoPort }

abbrev sender : Seated
sender = new_caller 0 (actor 1) 0

abbrev worker : Seated
worker = new_caller 1 (actor 2) 5

-- The history: the post has clock 1 and the try clock 2; the second caller's last clock is 5, so its entry has clock 6.

abbrev send_turn : PlaceTurn
send_turn =
    record {
      place = 1;
      seat = 0;
      first = 1;
      input = sending;
      before = sender;
      after = record sender { last = 2; posts = 1 };
      puts = record { to = 2; packet = try_packet } ∷ [];
    }

abbrev work_turn : PlaceTurn
work_turn =
    record {
      place = 2;
      seat = 1;
      first = 6;
      input = Input.Packet 1 try_packet;
      before = worker;
      after = record worker { last = 6 };
      puts = record { to = 1; packet = verdict_packet } ∷ [];
    }

abbrev of_places : ℕ → List PlaceTurn
of_places (suc zero) = send_turn ∷ []
of_places (suc (suc zero)) = work_turn ∷ []
of_places _ = []

abbrev of_seats : ℕ → List PlaceTurn
of_seats zero = send_turn ∷ []
of_seats (suc zero) = work_turn ∷ []
of_seats _ = []

abbrev places_end : ℕ → PlaceState
places_end zero = started two_sites 0
places_end (suc zero) = (turn sending (started two_sites 1) sender).place
places_end (suc (suc zero)) = (turn (Input.Packet 1 try_packet) (started two_sites 2) worker).place
places_end (suc (suc (suc p))) = started two_sites (suc (suc (suc p)))

abbrev callers_end : ℕ → Seated
callers_end zero = send_turn.after
callers_end (suc zero) = work_turn.after
callers_end (suc (suc q)) = new_caller (suc (suc q)) (actor 1) 0

abbrev links_end : ℕ → ℕ → List Packet
links_end (suc (suc zero)) (suc zero) = verdict_packet ∷ []
links_end _ _ = []

abbrev end : Network PlaceState Seated Packet
end = record { places = places_end; links = links_end; callers = callers_end }

-- numbers that differ
apart : (a b : ℕ) → a < b → (a == b) ≡ false
apart a b lt = ne_eqb a b (λ e. omega (arith, lt, e))

none_of : {X : Type 0} (x : X) (a b : ℕ) → a < b → cond (a == b) (x ∷ []) [] ≡ []
none_of x a b lt = ap (λ c. cond c (x ∷ []) []) (apart a b lt)

takes : (p : ℕ) → Takes (machine two_sites) p (started two_sites p) (of_places p) (places_end p)
takes zero = refl
takes (suc zero) = (record { place = refl; may = refl; first = refl; after = refl; puts = refl }, refl)
takes (suc (suc zero)) = (record { place = refl; may = refl; first = refl; after = refl; puts = refl }, refl)
takes (suc (suc (suc p))) = refl

follows : (q : ℕ) → Follows (machine two_sites) ((at_start two_sites comers).callers q) (of_seats q) (callers_end q)
follows zero = (refl, refl)
follows (suc zero) = (refl, refl)
follows (suc (suc q)) = refl

shared : (p q : ℕ) → filter (is_by q) (of_places p) ≡ filter (is_at p) (of_seats q)
shared zero zero = refl
shared zero (suc zero) = refl
shared zero (suc (suc q)) = refl
shared (suc zero) zero = refl
shared (suc zero) (suc zero) = refl
shared (suc zero) (suc (suc q)) = none_of send_turn 0 (suc (suc q)) (omega arith)
shared (suc (suc zero)) zero = refl
shared (suc (suc zero)) (suc zero) = refl
shared (suc (suc zero)) (suc (suc q)) = none_of work_turn 1 (suc (suc q)) (omega arith)
shared (suc (suc (suc p))) zero = sym (none_of send_turn 1 (suc (suc (suc p))) (omega arith))
shared (suc (suc (suc p))) (suc zero) = sym (none_of work_turn 2 (suc (suc (suc p))) (omega arith))
shared (suc (suc (suc p))) (suc (suc q)) = refl

in_order : (a b : ℕ) → put_to b (of_places a) ≡ got_from a (of_places b) ++ links_end a b
in_order zero zero = refl
in_order zero (suc zero) = refl
in_order zero (suc (suc zero)) = refl
in_order zero (suc (suc (suc b))) = refl
in_order (suc zero) zero = refl
in_order (suc zero) (suc zero) = refl
in_order (suc zero) (suc (suc zero)) = refl
in_order (suc zero) (suc (suc (suc b))) = ap (λ ks. ks ++ []) (none_of try_packet 2 (suc (suc (suc b))) (omega arith))
in_order (suc (suc zero)) zero = refl
in_order (suc (suc zero)) (suc zero) = refl
in_order (suc (suc zero)) (suc (suc zero)) = refl
in_order (suc (suc zero)) (suc (suc (suc b))) = ap (λ ks. ks ++ []) (none_of verdict_packet 1 (suc (suc (suc b))) (omega arith))
in_order (suc (suc (suc a))) zero = refl
in_order (suc (suc (suc a))) (suc zero) = refl
in_order (suc (suc (suc a))) (suc (suc zero)) = sym (ap (λ ks. (ks ++ []) ++ []) (none_of try_packet 1 (suc (suc (suc a))) (omega arith)))
in_order (suc (suc (suc a))) (suc (suc (suc b))) = refl

nobody_else : (q : ℕ) → slice_get comers q ≡ None → of_seats q ≡ []
nobody_else zero e = absurd (cc)
nobody_else (suc zero) e = absurd (cc)
nobody_else (suc (suc q)) e = refl

-- it meets all premises
pub meets : AreHistories two_sites comers of_places of_seats end
meets =
    record {
      came =
          All-cons (IsComer two_sites) first_comer (second_comer ∷ []) (record { kind = refl; actor = refl })
          (All-cons (IsComer two_sites) second_comer [] (record { kind = refl; actor = refl }) (All-nil (IsComer two_sites)));
      histories = record { takes = takes; follows = follows; shared = shared; in_order = in_order };
      no_caller = nobody_else;
    }

-- The schedule that it is: the send comes before the packet is worked off, and what is left is the verdict.

abbrev its_events : List Event
its_events = events comers (send_turn ∷ work_turn ∷ [])

pub are-its-events : its_events ≡ Deliver 1 1 2 ∷ See 1 5 ∷ Acts 0 (Command.Send (Dest.Port port) []) ∷ See 0 0 ∷ Enter (actor 2) 5 ∷ Enter (actor 1) 0 ∷ []
are-its-events = refl

pub in-order : before send_turn work_turn ≡ true
in-order = refl

pub may-be : may_be two_sites its_events ≡ true
may-be = refl

pub link-left : on_link 2 1 (schedule two_sites its_events) ≡ verdict_packet ∷ []
link-left = refl

pub link-empty : on_link 1 2 (schedule two_sites its_events) ≡ []
link-empty = refl

-- Histories that fail a premise each, whatever the rest is.

-- a packet that was not put is worked off
pub not-put : (seats : ℕ → List PlaceTurn) (closing : Network PlaceState Seated Packet) →
    AreHistories two_sites comers (λ p. cond (p == 2) (work_turn ∷ []) []) seats closing → ⊥
not-put seats closing h = (let e = h.histories.in_order 1 2 in absurd (cc))

-- a packet is worked off twice
pub twice : (seats : ℕ → List PlaceTurn) (closing : Network PlaceState Seated Packet) →
    AreHistories two_sites comers (λ p. cond (p == 2) (work_turn ∷ work_turn ∷ []) (cond (p == 1) (send_turn ∷ []) [])) seats closing → ⊥
twice seats closing h = (let e = h.histories.in_order 1 2 in absurd (cc))

-- a packet that was put is gone
pub lost : (seats : ℕ → List PlaceTurn) (closing : Network PlaceState Seated Packet) → closing.links 1 2 ≡ [] →
    AreHistories two_sites comers (λ p. cond (p == 1) (send_turn ∷ []) []) seats closing → ⊥
lost seats closing none h = (let e = h.histories.in_order 1 2 ∙ none in absurd (cc))

-- the command stands at another place than its own
pub elsewhere : (seats : ℕ → List PlaceTurn) (closing : Network PlaceState Seated Packet) →
    AreHistories two_sites comers (λ p. cond (p == 2) (record send_turn { place = 2 } ∷ []) []) seats closing → ⊥
elsewhere seats closing h = (let is = (h.histories.takes 2).0 in absurd (false≢true is.may))

-- the turn begins with a caller that has a lower last clock, or posted more
pub lower-clock : (places : ℕ → List PlaceTurn) (closing : Network PlaceState Seated Packet) →
    AreHistories two_sites comers places (λ q. cond (q == 1) (record work_turn { before = new_caller 1 (actor 2) 3 } ∷ []) []) closing → ⊥
lower-clock places closing h = (let e = ap (λ (w : Seated). w.last) (h.histories.follows 1).0 in absurd (omega (arith, e)))

pub other-caller : (places : ℕ → List PlaceTurn) (closing : Network PlaceState Seated Packet) →
    AreHistories two_sites comers places (λ q. cond (q == 0) (record send_turn { before = record sender { posts = 1 } } ∷ []) []) closing → ⊥
other-caller places closing h = (let e = ap (λ (w : Seated). w.posts) (h.histories.follows 0).0 in absurd (omega (arith, e)))

-- it may begin with one that was shown entries since, and so has a higher last clock
pub higher-clock : Follows (machine two_sites) worker (record work_turn { before = record worker { last = 7 } } ∷ []) work_turn.after
higher-clock = (refl, refl)

-- the first entry has another clock, or what the turn put is not noted
pub other-clock : (seats : ℕ → List PlaceTurn) (closing : Network PlaceState Seated Packet) →
    AreHistories two_sites comers (λ p. cond (p == 1) (record send_turn { first = 2 } ∷ []) []) seats closing → ⊥
other-clock seats closing h = (let is = (h.histories.takes 1).0 in let e = is.first in absurd (omega (arith, e)))

pub not-noted : (seats : ℕ → List PlaceTurn) (closing : Network PlaceState Seated Packet) →
    AreHistories two_sites comers (λ p. cond (p == 1) (record send_turn { puts = [] } ∷ []) []) seats closing → ⊥
not-noted seats closing h = (let is = (h.histories.takes 1).0 in let e = is.puts in absurd (cc))

-- a turn of the caller stands at no place
pub not-shared : (closing : Network PlaceState Seated Packet) → AreHistories two_sites comers (λ p. []) of_seats closing → ⊥
not-shared closing h = (let e = h.histories.shared 1 0 in absurd (cc))

-- the place is not as its turns left it
pub not-left : (seats : ℕ → List PlaceTurn) (closing : Network PlaceState Seated Packet) → closing.places 1 ≡ started two_sites 1 →
    AreHistories two_sites comers (λ p. cond (p == 1) (send_turn ∷ []) []) seats closing → ⊥
not-left seats closing same h = (let e = ap (λ (s : PlaceState). s.journal) ((h.histories.takes 1).1 ∙ same) in absurd (cc))

-- a turn is given to a seat to which nobody came
pub nobody : (places : ℕ → List PlaceTurn) (closing : Network PlaceState Seated Packet) →
    AreHistories two_sites comers places (λ q. cond (q == 2) (work_turn ∷ []) []) closing → ⊥
nobody places closing h = (let e = h.no_caller 2 refl in absurd (cc))

-- somebody comes in an actor that the layout does not have
pub no-actor : (places seats : ℕ → List PlaceTurn) (closing : Network PlaceState Seated Packet) →
    AreHistories two_sites (record first_comer { actor = actor 3 } ∷ []) places seats closing → ⊥
no-actor places seats closing h =
    let Comes : Comer → Type 0 = IsComer two_sites in
    let is = All-head Comes (record first_comer { actor = actor 3 }) [] h.came in
    absurd (false≢true is.actor)
