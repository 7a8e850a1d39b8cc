-- The turns that entries with remarks (ghost variables) tell: of a place, and of a pass.
-- p is the number of a place, log are entries with remarks, the oldest first, made are entries with the places where
-- they were made.
use Rattle.std.specs.Prelude.{ℕ, ◌==◌, ◌+◌, Bool, List, [], ◌∷◌, map}
use Rattle.std.specs.List.{filter}
use Rattle.chorus_entry.specs.declared.entry.Entry.{Entry}
use Rattle.chorus_turn.specs.declared.knowledge.Remarked.{Remarked}
use Rattle.chorus_turn.specs.declared.knowledge.Placed.{Placed}
use Rattle.law_history.specs.Turns.{Turn}
use Rattle.law_closing.specs.declared.noted.Noted.{Noted}

module _ {C M K : Type 0} where
  -- the turn that begins with the entry
  abbrev pub turn_of : ℕ → Remarked (Noted C M K) → Turn C M K
  turn_of p r =
      record {
        place = p;
        seat = r.entry.seat;
        first = r.entry.clock;
        input = r.remark.input;
        before = r.remark.before;
        after = r.remark.after;
        puts = r.remark.puts;
      }

  -- no entry of its turn stands before it
  abbrev pub begins : Remarked (Noted C M K) → Bool
  begins r = r.remark.nth == 0

  -- the turns that made the entries of a place, and those that made the entries of a pass
  abbrev pub turns_at : ℕ → List (Remarked (Noted C M K)) → List (Turn C M K)
  turns_at p log = map (turn_of p) (filter begins log)

  abbrev pub turns_in : List (Placed (Noted C M K)) → List (Turn C M K)
  turns_in made =
      map (λ (m : Placed (Noted C M K)). turn_of m.place m.remarked)
      (filter (λ (m : Placed (Noted C M K)). begins m.remarked) made)

  -- the entries of a turn with its remark, numbered from n on
  abbrev pub numbered : ℕ → Noted C M K → List Entry → List (Remarked (Noted C M K))
  numbered n r [] = []
  numbered n r (e ∷ es) = record { entry = e; remark = record r { nth = n } } ∷ numbered (n + 1) r es

  abbrev pub remarked : Noted C M K → List Entry → List (Remarked (Noted C M K))
  remarked r es = numbered 0 r es
