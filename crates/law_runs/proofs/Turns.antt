-- The events of turns: those of the setup stand before all others.
-- ts are turns, the first one first, es are events, the latest first, q is a seat, clock that up to which the setup was performed.
use Rattle.std.proofs.Common.{ℕ, zero, suc, ◌≡◌, ◌<◌, ◌≤◌, ◌==◌, Bool, true, false, cond, List, [], ◌∷◌, ◌++◌, map, reverse, inl, inr, refl, sym, ◌∙◌, ap, append_assoc, arith}
use Rattle.std.specs.List.{All, filter}
use Rattle.std.proofs.lemmas.Bool.{cases_lt, eq-eqb}
use Rattle.std.proofs.lemmas.Bool.Decides.{nat_tests}
use Rattle.std.proofs.lemmas.List.{append-nil}
use Rattle.std.proofs.lemmas.List.Elements.{All-nil, All-cons, All-head, All-tail, All-weaker}
use Rattle.chorus_entry.specs.declared.command.Command.{Command}
use Rattle.chorus_entry.specs.declared.packet.Packet.{Packet}
use Rattle.law_history.specs.Journals.{Comer, PlaceTurn, coming, event_of, event_with, events, events_after}
use Rattle.law_history.specs.Runs.{commands_given, with_command}
use Rattle.law_history.specs.declared.turns.Input.{Input}
use Rattle.law_history.specs.Turns.{IsInOrder, before, is_by}
use Rattle.law_history.proofs.Lists.{reverse-first}
use Rattle.law_network.specs.Network.{Event, See}
use Rattle.law_network.specs.Schedules.{command_in, commands_of}
use Rattle.chorus_perform.specs.Going.{BeginsUpTo}
use Rattle.law_outcomes.specs.Anybody.{IsOfRace, IsOfSetup}
use Rattle.law_outcomes.proofs.Beginning.{come-gives}

-- What turns gave.

given-one : (i : Input Command Packet) (b : Bool) (p seat q : ℕ) (gs cs : List Command) → (seat == q) ≡ b
    → reverse gs ++ command_in q (event_with p seat i) cs ≡ reverse (cond b (with_command i gs) gs) ++ cs
given-one (Input.Command c) true p seat q gs cs e = ap (λ z. reverse gs ++ cond z (c ∷ cs) cs) e ∙ sym (reverse-first c gs cs)
given-one (Input.Command c) false p seat q gs cs e = ap (λ z. reverse gs ++ cond z (c ∷ cs) cs) e
given-one (Input.Packet a k) true p seat q gs cs e = refl
given-one (Input.Packet a k) false p seat q gs cs e = refl

one-command : (q : ℕ) (t : PlaceTurn) (ts : List PlaceTurn) (cs : List Command)
    → reverse (commands_given (filter (is_by q) ts)) ++ command_in q (event_of t) cs ≡ reverse (commands_given (filter (is_by q) (t ∷ ts))) ++ cs
one-command q t ts cs =
    given-one t.input (t.seat == q) t.place t.seat q (commands_given (filter (is_by q) ts)) cs refl ∙ ap (λ gs. reverse gs ++ cs) (sym (by (t.seat == q)))
  where
    by : (b : Bool) → commands_given (cond b (t ∷ filter (is_by q) ts) (filter (is_by q) ts)) ≡ cond b (with_command t.input (commands_given (filter (is_by q) ts))) (commands_given (filter (is_by q) ts))
    by true = refl
    by false = refl

given-after : (q : ℕ) (ts : List PlaceTurn) (es : List Event) → commands_of q (events_after ts es) ≡ reverse (commands_given (filter (is_by q) ts)) ++ commands_of q es
given-after q [] es = refl
given-after q (t ∷ ts) es = given-after q ts (event_of t ∷ See t.seat t.before.last ∷ es) ∙ one-command q t ts (commands_of q es)

pub given-by : (q : ℕ) (comers : List Comer) (ts : List PlaceTurn) → commands_of q (events comers ts) ≡ reverse (commands_given (filter (is_by q) ts))
given-by q comers ts =
    given-after q ts (reverse (map coming comers)) ∙ ap (λ cs. reverse (commands_given (filter (is_by q) ts)) ++ cs) (come-gives comers q)
    ∙ append-nil (reverse (commands_given (filter (is_by q) ts)))

-- Events behind others.

events-behind : (ts : List PlaceTurn) (es : List Event) → events_after ts es ≡ events_after ts [] ++ es
events-behind [] es = refl
events-behind (t ∷ ts) es =
    let two = event_of t ∷ See t.seat t.before.last ∷ [] in
    events-behind ts (event_of t ∷ See t.seat t.before.last ∷ es) ∙ sym (append_assoc (events_after ts []) two es)
    ∙ ap (λ xs. xs ++ es) (sym (events-behind ts two))

events-append : (ts us : List PlaceTurn) (es : List Event) → events_after (ts ++ us) es ≡ events_after us (events_after ts es)
events-append [] us es = refl
events-append (t ∷ ts) us es = events-append ts us (event_of t ∷ See t.seat t.before.last ∷ es)

all-events : (P : Event → Type 0) → ((k clock : ℕ) → P (See k clock)) → (ts : List PlaceTurn) (es : List Event) → All (λ (t : PlaceTurn). P (event_of t)) ts → All P es → All P (events_after ts es)
all-events P sees [] es h k = k
all-events P sees (t ∷ ts) es h k =
    all-events P sees ts (event_of t ∷ See t.seat t.before.last ∷ es) (All-tail (λ (u : PlaceTurn). P (event_of u)) t ts h)
    (All-cons P (event_of t) (See t.seat t.before.last ∷ es) (All-head (λ (u : PlaceTurn). P (event_of u)) t ts h) (All-cons P (See t.seat t.before.last) es (sees t.seat t.before.last) k))

-- Up to a clock, and above it.

module _ (clock : ℕ) where
  -- of seat 0 the commands were given up to the clock, of all others above it
  abbrev pub IsPlacedAt : ℕ → ℕ → Input Command Packet → Type 0
  IsPlacedAt zero first input = BeginsUpTo clock first input
  IsPlacedAt (suc i) first input = clock < first

  abbrev pub IsPlaced : PlaceTurn → Type 0
  IsPlaced t = IsPlacedAt t.seat t.first t.input

  -- so it is of all, where it is of each seat's
  pub placed-all : (ts : List PlaceTurn) → ((q : ℕ) → All (λ (t : PlaceTurn). IsPlacedAt q t.first t.input) (filter (is_by q) ts)) → All IsPlaced ts
  placed-all [] h = All-nil IsPlaced
  placed-all (t ∷ ts) h = All-cons IsPlaced t ts (here (t.seat == t.seat) (eq-eqb t.seat t.seat refl) (h t.seat)) (placed-all ts (λ q. rest q (t.seat == q) (h q)))
    where
      here : (b : Bool) → b ≡ true → All (λ (u : PlaceTurn). IsPlacedAt t.seat u.first u.input) (cond b (t ∷ filter (is_by t.seat) ts) (filter (is_by t.seat) ts)) → IsPlacedAt t.seat t.first t.input
      here true e k = All-head (λ (u : PlaceTurn). IsPlacedAt t.seat u.first u.input) t (filter (is_by t.seat) ts) k
      here false e k = absurd (cc)

      rest : (q : ℕ) (b : Bool) → All (λ (u : PlaceTurn). IsPlacedAt q u.first u.input) (cond b (t ∷ filter (is_by q) ts) (filter (is_by q) ts)) → All (λ (u : PlaceTurn). IsPlacedAt q u.first u.input) (filter (is_by q) ts)
      rest q true k = All-tail (λ (u : PlaceTurn). IsPlacedAt q u.first u.input) t (filter (is_by q) ts) k
      rest q false k = k

  pub record Split (ts : List PlaceTurn) : Type 0 where
    pub early : List PlaceTurn
    pub late : List PlaceTurn
    pub is : ts ≡ early ++ late
    pub low : All (λ (t : PlaceTurn). IsOfSetup (event_of t)) early
    pub high : All (λ (t : PlaceTurn). IsOfRace (event_of t)) late

  early-is : (p seat first : ℕ) (i : Input Command Packet) → first ≤ clock → IsPlacedAt seat first i → IsOfSetup (event_with p seat i)
  early-is p seat first (Input.Packet a k) le h = tt
  early-is p zero first (Input.Command c) le h = refl
  early-is p (suc seat) first (Input.Command c) le h = absurd (omega (arith, le, h))

  late-is : (p seat first : ℕ) (i : Input Command Packet) → clock < first → IsPlacedAt seat first i → IsOfRace (event_with p seat i)
  late-is p seat first (Input.Packet a k) lt h = tt
  late-is p zero first (Input.Command c) lt h = absurd (omega (arith, lt, h))
  late-is p (suc seat) first (Input.Command c) lt h = omega arith

  all-late : (ts : List PlaceTurn) → All (λ (t : PlaceTurn). clock < t.first) ts → All IsPlaced ts → All (λ (t : PlaceTurn). IsOfRace (event_of t)) ts
  all-late [] h k = All-nil (λ (t : PlaceTurn). IsOfRace (event_of t))
  all-late (t ∷ ts) h k =
      All-cons (λ (u : PlaceTurn). IsOfRace (event_of u)) t ts (late-is t.place t.seat t.first t.input (All-head (λ (u : PlaceTurn). clock < u.first) t ts h) (All-head IsPlaced t ts k))
      (all-late ts (All-tail (λ (u : PlaceTurn). clock < u.first) t ts h) (All-tail IsPlaced t ts k))

  no-earlier : (t u : PlaceTurn) → clock < t.first → before t u ≡ true → clock < u.first
  no-earlier t u lt h = grind (arith, nat_tests)

  pub split : (ts : List PlaceTurn) → IsInOrder ts → All IsPlaced ts → Split ts
  split [] order h = record { early = []; late = []; is = refl; low = All-nil (λ (t : PlaceTurn). IsOfSetup (event_of t)); high = All-nil (λ (t : PlaceTurn). IsOfRace (event_of t)) }
  split (t ∷ ts) order h =
      elim (cases_lt clock t.first) [
        | inl lt ↦ record {
          early = [];
          late = t ∷ ts;
          is = refl;
          low = All-nil (λ (u : PlaceTurn). IsOfSetup (event_of u));
          high = all-late (t ∷ ts) (All-cons (λ (u : PlaceTurn). clock < u.first) t ts lt (All-weaker (λ (u : PlaceTurn). before t u ≡ true) (λ (u : PlaceTurn). clock < u.first) (λ u k. no-earlier t u lt k) ts order.0)) h;
        }
        | inr le ↦
            (let rest = split ts order.1 (All-tail IsPlaced t ts h) in
            record {
              early = t ∷ rest.early;
              late = rest.late;
              is = ap (λ us. t ∷ us) rest.is;
              low = All-cons (λ (u : PlaceTurn). IsOfSetup (event_of u)) t rest.early (early-is t.place t.seat t.first t.input le (All-head IsPlaced t ts h)) rest.low;
              high = rest.high;
            })
      ]

-- the events of a split
pub split-events : (early late : List PlaceTurn) (es : List Event) → events_after (early ++ late) es ≡ events_after late [] ++ (events_after early [] ++ es)
split-events early late es =
    events-append early late es ∙ events-behind late (events_after early es) ∙ ap (λ xs. events_after late [] ++ xs) (events-behind early es)

pub setup-events : (ts : List PlaceTurn) → All (λ (t : PlaceTurn). IsOfSetup (event_of t)) ts → All IsOfSetup (events_after ts [])
setup-events ts h = all-events IsOfSetup (λ k clock. tt) ts [] h (All-nil IsOfSetup)

pub race-events : (ts : List PlaceTurn) → All (λ (t : PlaceTurn). IsOfRace (event_of t)) ts → All IsOfRace (events_after ts [])
race-events ts h = all-events IsOfRace (λ k clock. tt) ts [] h (All-nil IsOfRace)
