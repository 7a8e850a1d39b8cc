-- How passes begin, come and go.
-- n is a nucleus, l a layout, q the number of a place.
use Rattle.std.specs.Prelude.{ℕ, ◌≡◌, ◌≢◌, ◌≤◌, ◌+◌, ◌==◌, nat_lt, Bool, true, ◌&&◌, ◌||◌, cond, [], ◌++◌, Option, Some, None, is_some, option_to_list, IfSome, Result, IsErrOf, ◌↔◌, false}
use Rattle.std.specs.List.{All}
use Rattle.std.specs.declared.alloc.AllocError.{AllocError}
use Rattle.std.specs.Option.{option_or}
use Rattle.chorus_ui.specs.declared.ui.Ui.{Ui}
use Rattle.chorus_ui.specs.declared.layout.Layout.{Layout}
use Rattle.chorus_ui.specs.Layout.{places, has_actor}
use Rattle.chorus_board.specs.declared.reader.BoardReader.{BoardReader}
use Rattle.chorus_board.specs.declared.start.TheConstants.{READERS_PER_BOARD}
use Rattle.chorus_board.specs.Boards.{entries_seen}
use Rattle.chorus_calls.specs.Callers.{new_caller, raised}
use Rattle.chorus_turn.specs.Lists.{StartsWithBoth}
use Rattle.chorus_turn.specs.Knowing.{limit, opening_knowledge, newcomer, after_draw, after_retirement}
use Rattle.law_network.specs.Calls.{first_actor}
use Rattle.law_closing.specs.Closing.{IsPlace}
use Rattle.chorus_net.specs.declared.fault.EnterFault.{EnterFault}
use Rattle.chorus_net.specs.declared.fault.EnterFault.TheVariants as faults
use Rattle.chorus_nucleus.specs.declared.nucleus.Nucleus.{Nucleus}
use Rattle.chorus_nucleus.specs.declared.pass.Pass.{Pass}
use Rattle.chorus_nucleus.specs.Passes.{layout_of, known, caller_of, worn_by, reader_of, spare_at, readers_at, home_of, IsPassOf}

-- the reader has seen no entry
abbrev pub HasSeenNone : BoardReader → Type 0
HasSeenNone r = entries_seen r ≡ []

-- nothing happened yet, and the pass is the opening one, with seat 0 in the first actor; it has all readers but the one
-- of its own, and none has seen an entry
pub record IsStarted (l : Layout) (n : Nucleus) (pass : Pass) : Type 0 where
  pub layout : layout_of n ≡ l
  pub pass_of : IsPassOf n pass
  pub knows : known pass ≡ opening_knowledge
  pub caller : caller_of pass ≡ new_caller 0 first_actor 0
  pub worn : worn_by pass ≡ None
  pub own : is_some (reader_of pass) ≡ true
  pub readers : (q : ℕ) → IsPlace (places l) q → readers_at q pass + cond (q == 1) 1 0 ≡ READERS_PER_BOARD
  pub own_new : IfSome (reader_of pass) HasSeenNone
  pub new : (q : ℕ) → 1 ≤ q → All HasSeenNone (spare_at q pass)

-- the new pass has a reader exactly where there was one of its place's board, the last of the keeper's, which then no
-- longer has it
pub record GetsReader (place : ℕ) (old new p : Pass) : Type 0 where
  pub taken : spare_at place old ≡ spare_at place new ++ option_to_list (reader_of p)
  pub none : reader_of p ≡ None → readers_at place old ≡ 0
  pub others : (q : ℕ) → 1 ≤ q → q ≢ place → readers_at q new ≡ readers_at q old
  pub own : (q : ℕ) → readers_at q p ≡ 0

-- the pass p came, of a caller in the actor, with the next number and the keeper's last clock; it has seen what the
-- keeper has seen
pub record Enters (n : Nucleus) (actor : Ui) (old new p : Pass) : Type 0 where
  pub pass : IsPassOf n p
  pub knows : known p ≡ newcomer (known old)
  pub drawn : known new ≡ after_draw (known old)
  pub caller : caller_of p ≡ new_caller (known old).made actor (caller_of old).last
  pub worn : worn_by p ≡ None
  pub reader : GetsReader (home_of (layout_of n) (caller_of p)) old new p

-- why none came: the layout has no such actor, or else no number is left; no other fault comes
pub record FailsToEnter (n : Nucleus) (actor : Ui) (old : Pass) (r : Result Pass EnterFault) : Type 0 where
  pub no_actor : IsErrOf r faults.NoActor ↔ (has_actor (layout_of n) actor ≡ false)
  pub no_seat : (made : ℕ) → IsErrOf r (faults.NoSeat made)
      ↔ ((has_actor (layout_of n) actor ≡ true) × ((known old).made ≡ limit) × (made ≡ limit))
  pub no_memory : (none : AllocError) → IsErrOf r (faults.Memory none) → ⊥

-- the keeper is as it was, but for the number drawn and a reader
pub record IsKeptKeeper (n : Nucleus) (old new : Pass) : Type 0 where
  pub pass : IsPassOf n new
  pub caller : caller_of new ≡ caller_of old
  pub worn : worn_by new ≡ worn_by old
  pub reader : reader_of new ≡ reader_of old

-- with a reader that is given back, where it is given to the keeper and there is room
abbrev pub given_back : Bool → Option BoardReader → ℕ → ℕ
given_back to_keeper None count = count
given_back to_keeper (Some r) count = cond (to_keeper && nat_lt count READERS_PER_BOARD) (count + 1) count

-- how many readers of the place q the pass `into` has for others, after `ended` was retired into it: those of the
-- keeper
abbrev pub readers_after : Layout → Pass → Pass → ℕ → ℕ
readers_after l ended into q =
    let kept : ℕ = cond (known ended).keeper (readers_at q ended) (readers_at q into) in
    cond (q == home_of l (caller_of ended)) (given_back ((known ended).keeper || (known into).keeper)
    (reader_of ended) kept) kept

-- the pass `ended` was retired into `old`, which is now `new`: its caller was shown what the ended one had seen
pub record Retires (n : Nucleus) (ended old new : Pass) : Type 0 where
  pub pass : IsPassOf n new
  pub knows : known new ≡ after_retirement (known old) (known ended)
  pub sees : StartsWithBoth (known new).seen (known old).seen (known ended).seen
  pub caller : caller_of new ≡ raised (caller_of ended).last (caller_of old)
  pub worn : worn_by new ≡ option_or (worn_by old) (worn_by ended)
  pub reader : reader_of new ≡ reader_of old
  pub readers : (q : ℕ) → IsPlace (places (layout_of n)) q → readers_at q new ≡ readers_after (layout_of n) ended old q
