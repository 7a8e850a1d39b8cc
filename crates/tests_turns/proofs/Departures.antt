-- What the publishes of the tests owe to the contract of `publish`.
use Rattle.std.proofs.Common.{◌≡◌, ℕ, zero, suc, ◌+◌, ◌%◌, [], ◌∷◌, ◌++◌, length, reverse, rules, refl, ap, sym, ◌∙◌, arith, length-append}
use Rattle.std.proofs.lemmas.List.{reverse-append}
use Rattle.std.proofs.lemmas.List.Elements.{All-append}
use Rattle.std.specs.List.{All}
use Rattle.chorus_ui.specs.declared.layout.Layout.{Layout}
use Rattle.chorus_ui.specs.declared.ui.Ui.{Ui}
use Rattle.chorus_entry.specs.declared.act.Act.TheVariants.{Depart}
use Rattle.chorus_entry.specs.declared.entry.Entry.{Entry}
use Rattle.chorus_world.specs.Places.{farther, last_clock}
use Rattle.chorus_board.specs.declared.board.Board.{Board}
use Rattle.chorus_board.specs.Boards.{IsNewBoard}
use Rattle.chorus_board.specs.Located.{located_after, last_clock_in, told_of, IsOfPlace}
use Rattle.chorus_board.proofs.Whereabouts.{located_more, of_place}
use Rattle.tests_turns.specs.Moves.{entry_of, departure, departures, HasDeparted}

pub departure_located : (l : Layout) (port : Ui) (place hop : ℕ) (q : Ui) → farther (located_after l [] q) (told_of q port place hop) ≡ located_after l (departure port place hop) q
unfolding located_after
departure_located l port place hop q = refl

pub departure_clock : (port : Ui) (place hop : ℕ) → 3 ≡ last_clock_in (departure port place hop)
unfolding last_clock_in
departure_clock port place hop = refl

pub departure_of_place : (port : Ui) (place hop : ℕ) → IsOfPlace 1 (departure port place hop)
departure_of_place port place hop = of_place 1 (departure port place hop) (search rules)

abbrev pub next_entry : Ui → ℕ → Entry
next_entry port n = entry_of (n + 1) (Depart port ((n + 1) % 2 + 1) port (n + 1))

no_departures : (port : Ui) → departures port 0 ≡ []
unfolding departures
no_departures port = refl

-- of a new board nothing departed
pub none_departed : (l : Layout) (board : Board) (port : Ui) → IsNewBoard l 1 board → HasDeparted board port 0
none_departed l board port new = (new.3 ∙ sym (no_departures port), new.2 ∙ sym (no_departures port), new.1)

pub next_departures : (port : Ui) (n : ℕ) → departures port (n + 1) ≡ departures port n ++ next_entry port n ∷ []
unfolding departures
next_departures port n = let e : n + 1 ≡ suc n = omega arith in ap (departures port) e

pub length_departures : (port : Ui) (n : ℕ) → length (departures port n) ≡ n
unfolding departures
length_departures port zero = refl
length_departures port (suc n) = let more = length_departures port n in let all = length-append (departures port n) (next_entry port n ∷ []) in omega (arith, all, more)

pub departures_clock : (port : Ui) (n : ℕ) → n + 1 ≡ last_clock_in (departures port (n + 1))
unfolding last_clock_in
departures_clock port n =
    sym (ap (λ log. last_clock (reverse log)) (next_departures port n) ∙ ap last_clock (reverse-append (departures port n) (next_entry port n ∷ [])))

one_here : (e : Entry) → e.place ≡ 1 → All (λ (x : Entry). x.place ≡ 1) (e ∷ [])
one_here e here zero d inside = here
one_here e here (suc k) d inside = absurd (omega (arith, inside))

all_here : (port : Ui) (n : ℕ) → All (λ (e : Entry). e.place ≡ 1) (departures port n)
unfolding departures
all_here port zero = λ k d inside. absurd (omega (arith, inside))
all_here port (suc n) = All-append (λ (e : Entry). e.place ≡ 1) (departures port n) (next_entry port n ∷ []) (all_here port n) (one_here (next_entry port n) refl)

pub departures_of_place : (port : Ui) (n : ℕ) → IsOfPlace 1 (departures port n)
departures_of_place port n = of_place 1 (departures port n) (all_here port n)

pub departures_located : (l : Layout) (port : Ui) (n : ℕ) (q : Ui) → farther (located_after l (departures port n) q) (told_of q port ((n + 1) % 2 + 1) (n + 1)) ≡ located_after l (departures port (n + 1)) q
departures_located l port n q =
    sym (located_more l (departures port n) (next_entry port n) q) ∙ ap (λ log. located_after l log q) (sym (next_departures port n))
