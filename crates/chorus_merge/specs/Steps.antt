-- What the steps of the merge say: the entries that references lend, and the merge of two lists.
use Rattle.std.specs.Prelude.{Bool, if◌then◌else◌, List, [], ◌∷◌, map}
use Rattle.std.specs.Borrow.{Bor}
use Rattle.std.specs.Global.{Vec}
use Rattle.chorus_entry.specs.declared.entry.Entry.{Entry}
use Rattle.chorus_entry.specs.Order.{comes_before}

-- the journals as lists
abbrev pub journals_of : List (Vec Entry) → List (List Entry)
journals_of journals = map (λ (journal : Vec Entry). journal.items) journals

-- the entries that the references point to
abbrev pub lent : List (Bor Entry) → List Entry
lent entries = map (λ (entry : Bor Entry). entry.now) entries

module _ {X : Type 0} (before : X → X → Bool) where
  -- the second list with x put in before the first element that is not before it, and what comes after x in what is
  -- left
  unfoldable pub put_in : X → (List X → List X) → List X → List X
  put_in x after [] = x ∷ after []
  put_in x after (y ∷ ys) = if before y x then y ∷ put_in x after ys else x ∷ after (y ∷ ys)

  -- both lists in one, each in its order: of two first elements that of the second list only where it is before the
  -- other
  unfoldable pub merge_by : List X → List X → List X
  merge_by [] ys = ys
  merge_by (x ∷ xs) ys = put_in x (merge_by xs) ys

abbrev pub merge_two : List Entry → List Entry → List Entry
merge_two xs ys = merge_by comes_before xs ys
