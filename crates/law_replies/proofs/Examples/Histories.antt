-- Histories worked out: one caller makes a port and sends to it, at the one place, and then looks and takes; and a place that no turn led
-- to.
use Rattle.std.proofs.Common.{ℕ, zero, suc, ◌≡◌, ◌<◌, ◌==◌, cond, List, [], ◌∷◌, ◌++◌, None, slice_get, refl, sym, ap, arith}
use Rattle.std.specs.List.{filter}
use Rattle.std.proofs.lemmas.Bool.{ne_eqb}
use Rattle.std.proofs.lemmas.List.Elements.{All-nil, All-cons}
use Rattle.chorus_entry.specs.declared.dest.Dest.{Dest}
use Rattle.chorus_entry.specs.declared.answer.Answer.TheVariants as A
use Rattle.chorus_entry.specs.declared.command.Command.{Command}
use Rattle.chorus_entry.specs.declared.packet.Packet.{Packet}
use Rattle.chorus_calls.specs.Callers.{Seated, new_caller}
use Rattle.law_machine.specs.declared.reply.Reply.{Reply}
use Rattle.law_machine.specs.declared.outcome.Outcome.{Outcome}
use Rattle.law_machine.specs.PlaceState.{PlaceState, started}
use Rattle.law_machine.specs.PlaceMachine.{begun}
use Rattle.law_machine.specs.Outcomes.{outcome}
use Rattle.law_machine.specs.Replies.{reply}
use Rattle.law_history.specs.declared.turns.Input.{Input}
use Rattle.law_history.specs.Turns.{is_at, is_by, put_to, got_from}
use Rattle.law_history.specs.Network.{Network}
use Rattle.law_history.specs.Histories.{Takes, Follows}
use Rattle.law_history.specs.PlaceTurns.{turn, machine}
use Rattle.law_history.specs.Journals.{PlaceTurn, Comer, IsComer, at_start}
use Rattle.law_history.specs.Runs.{merged_at}
use Rattle.law_replies.specs.AsPosted.{IsAsPosted}
use Rattle.law_replies.specs.Outcomes.{OutcomeIsTrue}
use Rattle.law_replies.specs.Histories.{LedTo}
use Rattle.law_replies.proofs.Histories.{histories-take-posted, histories-outcomes}
use Rattle.law_replies.proofs.Examples.Replies.{actor, port, msg, plain, one_place}

abbrev making : Input Command Packet
making = Input.Command (Command.Make (actor 1) 1)

abbrev sending : Input Command Packet
sending = Input.Command (Command.Send (Dest.Port (port 1)) (97 ∷ []))

abbrev comers : List Comer
comers = record { actor = actor 1; last = 0 } ∷ []

-- the place and the caller, before the turns, between them and behind them
abbrev w0 : Seated
w0 = new_caller 0 (actor 1) 0

abbrev s1 : PlaceState
s1 = (turn making (started one_place 1) w0).place

abbrev w1 : Seated
w1 = (turn making (started one_place 1) w0).caller

abbrev s2 : PlaceState
s2 = (turn sending s1 w1).place

abbrev w2 : Seated
w2 = (turn sending s1 w1).caller

abbrev make_turn : PlaceTurn
make_turn = record { place = 1; seat = 0; first = 1; input = making; before = w0; after = w1; puts = [] }

abbrev send_turn : PlaceTurn
send_turn = record { place = 1; seat = 0; first = 2; input = sending; before = w1; after = w2; puts = [] }

abbrev of_places : ℕ → List PlaceTurn
of_places (suc zero) = make_turn ∷ send_turn ∷ []
of_places _ = []

abbrev of_seats : ℕ → List PlaceTurn
of_seats zero = make_turn ∷ send_turn ∷ []
of_seats _ = []

abbrev places_end : ℕ → PlaceState
places_end zero = started one_place 0
places_end (suc zero) = s2
places_end (suc (suc p)) = started one_place (suc (suc p))

abbrev callers_end : ℕ → Seated
callers_end zero = w2
callers_end (suc q) = new_caller (suc q) (actor 1) 0

abbrev end : Network PlaceState Seated Packet
end = record { places = places_end; links = λ a b. []; callers = callers_end }

takes : (p : ℕ) → Takes (machine one_place) p (started one_place p) (of_places p) (places_end p)
takes zero = refl
takes (suc zero) = (
  record { place = refl; may = refl; first = refl; after = refl; puts = refl },
  (record { place = refl; may = refl; first = refl; after = refl; puts = refl }, refl),
)
takes (suc (suc p)) = refl

follows : (q : ℕ) → Follows (machine one_place) ((at_start one_place comers).callers q) (of_seats q) (callers_end q)
follows zero = (refl, (refl, refl))
follows (suc q) = refl

-- two elements are left out by a number that differs
two_out : {X : Type 0} (x y : X) (a b : ℕ) → a < b → cond (a == b) (x ∷ cond (a == b) (y ∷ []) []) (cond (a == b) (y ∷ []) []) ≡ []
two_out x y a b lt = ap (λ c. cond c (x ∷ cond c (y ∷ []) []) (cond c (y ∷ []) [])) (ne_eqb a b (λ e. omega (arith, lt, e)))

shared : (p q : ℕ) → filter (is_by q) (of_places p) ≡ filter (is_at p) (of_seats q)
shared zero zero = refl
shared zero (suc q) = refl
shared (suc zero) zero = refl
shared (suc zero) (suc q) = two_out make_turn send_turn 0 (suc q) (omega arith)
shared (suc (suc p)) zero = sym (two_out make_turn send_turn 1 (suc (suc p)) (omega arith))
shared (suc (suc p)) (suc q) = refl

in_order : (a b : ℕ) → put_to b (of_places a) ≡ got_from a (of_places b) ++ []
in_order zero zero = refl
in_order zero (suc zero) = refl
in_order zero (suc (suc b)) = refl
in_order (suc zero) zero = refl
in_order (suc zero) (suc zero) = refl
in_order (suc zero) (suc (suc b)) = refl
in_order (suc (suc a)) zero = refl
in_order (suc (suc a)) (suc zero) = refl
in_order (suc (suc a)) (suc (suc b)) = refl

nobody_else : (q : ℕ) → slice_get comers q ≡ None → of_seats q ≡ []
nobody_else zero e = absurd (cc)
nobody_else (suc q) e = refl

-- they meet what the laws ask, behind both turns
pub led : LedTo one_place comers of_places of_seats end 1 s2
led =
    record {
      shape = record {
        sites_from_one = omega arith;
        sites_to_max = omega arith;
        turns_from_one = omega arith;
        turns_to_four = omega arith;
        turns_not_three = λ e. cc;
      };
      histories = record {
        came = All-cons (IsComer one_place) (record { actor = actor 1; last = 0 }) [] (record { kind = refl; actor = refl }) (All-nil (IsComer one_place));
        histories = record { takes = takes; follows = follows; shared = shared; in_order = in_order };
        no_caller = nobody_else;
      };
      older = make_turn ∷ send_turn ∷ [];
      later = [];
      turns = refl;
      leads = takes 1;
    }

-- a take there would give the message, and so it was posted
pub would-take : reply (Command.Take (port 1)) (begun s2 w2) ≡ Reply.Taken 0 (plain 1 (97 ∷ [])) None
would-take = refl

pub was-posted : IsAsPosted (plain 1 (97 ∷ [])) (merged_at one_place end)
was-posted = histories-take-posted one_place comers of_places of_seats end 1 s2 led w2 (Command.Take (port 1)) 0 (plain 1 (97 ∷ [])) None would-take

-- a look there tells the verdict
pub would-tell : outcome (msg 1 0) s2.journal ≡ Outcome.Answer (A.Accepted 0)
would-tell = refl

pub is-true : OutcomeIsTrue (msg 1 0) s2.journal (merged_at one_place end)
is-true = histories-outcomes one_place comers of_places of_seats end 1 s2 led (msg 1 0)

-- no turn, no entry
pub not-led : (seats : ℕ → List PlaceTurn) (closing : Network PlaceState Seated Packet) → LedTo one_place comers (λ p. []) seats closing 1 s2 → ⊥
not-led seats closing h = by h.older h.turns h.leads
  where
    by : (older : List PlaceTurn) → [] ≡ older ++ h.later → Takes (machine one_place) 1 (started one_place 1) older s2 → ⊥
    by [] e t = (let none : [] ≡ s2.journal = ap (λ (s : PlaceState). s.journal) t in absurd (cc))
    by (o ∷ older) e t = absurd (cc)
