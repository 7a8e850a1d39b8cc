-- A race that meets what the laws ask, one that does not, and what comes of it; what is alike and what is not: computed.
use Rattle.std.proofs.Common.{ℕ, zero, suc, ◌≡◌, ◌<◌, ◌≤◌, ◌==◌, Bool, true, false, List, [], ◌∷◌, length, slice_get, refl, sym, ap, arith}
use Rattle.std.proofs.lemmas.Bool.{false≢true}
use Rattle.chorus_ui.specs.declared.kind.Kind.TheVariants as kinds
use Rattle.chorus_ui.specs.declared.ui.Ui.{Ui}
use Rattle.chorus_ui.specs.declared.layout.Layout.{Layout}
use Rattle.chorus_entry.specs.declared.act.Act.{Act}
use Rattle.chorus_entry.specs.declared.act.Act.TheVariants as acts
use Rattle.chorus_entry.specs.declared.command.Command.{Command}
use Rattle.chorus_entry.specs.declared.dest.Dest.{Dest}
use Rattle.chorus_entry.specs.declared.entry.Entry.{Entry}
use Rattle.chorus_entry.specs.declared.id.MsgId.{MsgId}
use Rattle.law_network.specs.Calls.{first_actor, just_started}
use Rattle.law_machine.specs.PlaceState.{PlaceState}
use Rattle.law_network.specs.Network.{Enter, happened}
use Rattle.law_explore.specs.declared.moves.Move.{Move}
use Rattle.law_explore.specs.declared.moves.Move.TheVariants.{Go}
use Rattle.law_explore.specs.Alike.{CallerAlike}
use Rattle.law_explore.specs.Search.{state_after}
use Rattle.law_explore.specs.Races.{Race, Order, Told, start_of, next_moves, replaying, IsRace, IsWhole}
use Rattle.law_explore.specs.Outcome.{Answered, Stuck, is_stale_at, outcome_after}
use Rattle.law_explore.specs.Positions.{TellAlike, ComeAlike}
use Rattle.law_explore.specs.Levels.{Class, histories_of, level}

abbrev one_site : Layout
one_site = record { sites = 1; turns = 1 }

abbrev a_port : Ui
a_port = record { site = 1; kind = kinds.Port; number = 1 }

abbrev at_once : Command → Order
at_once command = record { command = command; waits = false }

-- one caller, which receives once from a port that is not there
abbrev alone : Race
alone = record { net = happened (Enter first_actor 0) (just_started one_site); scripts = (at_once (Command.Take a_port) ∷ []) ∷ [] }

pub alone-is : IsRace alone
alone-is = record { order = tt; seats = omega arith }

-- two scripts, and one caller beside seat 0
pub too-few : IsRace (record { net = alone.net; scripts = [] ∷ [] ∷ [] }) → ⊥
too-few h = let lt : 2 < 2 = h.seats in omega (arith, lt)

pub goes : next_moves alone (start_of alone) ≡ Go 0 ∷ []
goes = refl

pub ends : IsWhole alone (Go 0 ∷ [])
ends = ((refl, tt), refl)

pub comes : outcome_after alone (Go 0 ∷ []) ≡ Answered 1 1 (acts.NotHere a_port) ∷ []
comes = refl

-- Where it waits at that port, it never comes, and the outcome tells so.

abbrev waiting : Race
waiting =
    record {
      net = alone.net;
      scripts = (record { command = Command.Take a_port; waits = true } ∷ at_once (Command.Take a_port) ∷ []) ∷ [];
    }

pub never-comes : IsWhole waiting []
never-comes = (tt, refl)

pub is-stuck : outcome_after waiting [] ≡ Stuck 1 1 ∷ []
is-stuck = refl

-- where a message waits it comes: the caller makes a port and posts to it first
abbrev its_port : Ui
its_port = record { site = 1; kind = kinds.Port; number = 1 }

abbrev serving : Race
serving =
    record {
      net = alone.net;
      scripts =
          (at_once (Command.Make first_actor 1) ∷ at_once (Command.Send (Dest.Port its_port) []) ∷ record { command = Command.Take its_port; waits = true } ∷ []) ∷ [];
    }

pub comes-then : next_moves serving (state_after (replaying serving) (Go 0 ∷ Go 0 ∷ [])) ≡ Go 0 ∷ []
comes-then = refl

pub is-done : IsWhole serving (Go 0 ∷ Go 0 ∷ Go 0 ∷ [])
is-done = ((refl, (refl, (refl, tt))), refl)

-- A journal that tells one copy of a post that it is stale, and no other.

abbrev copy : ℕ → MsgId
copy n = record { seat = 1; number = 1; copy = n }

abbrev told : Entry
told = record { clock = 5; place = 1; seat = 0; act = acts.Stale (copy 1) a_port 0 2 1 }

pub is-stale : is_stale_at (copy 1) (told ∷ []) ≡ true
is-stale = refl

pub is-not : is_stale_at (copy 2) (told ∷ []) ≡ false
is-not = refl

-- of a journal that tells it, something else is told than of one that does not
pub unlike : TellAlike (told ∷ []) [] → ⊥
unlike h = false≢true (sym (h.stale (copy 1)))

-- Two callers at one place, with one command each. Where each receives from a port that is not there, either order comes
-- alike, though the journals differ.

abbrev both : Command → Race
both command = record { net = happened (Enter first_actor 0) alone.net; scripts = (at_once command ∷ []) ∷ (at_once command ∷ []) ∷ [] }

abbrev taking : Race
taking = both (Command.Take a_port)

abbrev journal_of : List PlaceState → List Entry
journal_of [] = []
journal_of (s ∷ ss) = s.journal

pub either-order : ComeAlike taking (Go 1 ∷ Go 0 ∷ []) (Go 0 ∷ Go 1 ∷ [])
either-order =
    record {
      nets =
          record {
            layout = refl;
            places = (
              record {
                journal = journal_of (state_after (replaying taking) (Go 0 ∷ Go 1 ∷ [])).net.places;
                is = refl;
                journals =
                    record {
                      reads = record { ports = refl; groups = refl; named = λ g. refl; members_are = λ g. refl; rotates = λ g. refl; gone = λ q. refl };
                      verdicts = λ x. refl;
                      copies = λ x. refl;
                      stale = λ x. refl;
                      made = refl;
                    };
              },
              tt,
            );
            packets = refl;
            callers = λ k low high. caller k low high;
          };
      left = refl;
      told = refl;
    }
  where
    caller : (k : ℕ) → 1 ≤ k → k ≤ 2 → CallerAlike (slice_get (state_after (replaying taking) (Go 1 ∷ Go 0 ∷ [])).net.callers k) (slice_get (state_after (replaying taking) (Go 0 ∷ Go 1 ∷ [])).net.callers k)
    caller zero low high = absurd (omega (arith, low))
    caller (suc zero) low high = record { last = 2; is = refl }
    caller (suc (suc zero)) low high = record { last = 1; is = refl }
    caller (suc (suc (suc k))) low high = absurd (omega (arith, high))

-- So one of the two orders stands for both.

abbrev two_moves : List Move → List Move → Bool
two_moves h k = length h == 2

pub all-orders : histories_of taking 2 ≡ (Go 1 ∷ Go 0 ∷ []) ∷ (Go 0 ∷ Go 1 ∷ []) ∷ []
all-orders = refl

abbrev one_order : Class
one_order = record { shows = Go 1 ∷ Go 0 ∷ []; stands_for = 2 }

pub one-class : level taking two_moves 2 ≡ one_order ∷ []
one-class = refl

-- Where each makes a port the orders do not come alike: who was first has port 1.

abbrev making : Race
making = both (Command.Make first_actor 1)

abbrev made_number : Act → ℕ
made_number (acts.Make q actor capacity) = q.number
made_number act = 0

abbrev first_made : List (List Told) → ℕ
first_made [] = 0
first_made ([] ∷ rest) = 0
first_made ((it ∷ answers) ∷ rest) = made_number it.act

pub not-either : ComeAlike making (Go 1 ∷ Go 0 ∷ []) (Go 0 ∷ Go 1 ∷ []) → ⊥
not-either h = let e : ◌≡◌ {A = ℕ} 2 1 = ap first_made h.told in omega (arith, e)
