-- The merge: again and again the least head, of several such the one of the earliest journal.
use Rattle.std.specs.Prelude.{ℕ, zero, suc, Bool, true, not, if◌then◌else◌, Option, Some, None, option_to_list, List, [], ◌∷◌, ◌++◌, length}
use Rattle.chorus_entry.specs.declared.entry.Entry.{Entry}
use Rattle.chorus_entry.specs.Order.{comes_before}

-- e, the head of a journal, is taken before the least head of the journals behind: that one does not come before e
abbrev pub leads : Entry → Option Entry → Bool
leads e None = true
leads e (Some f) = not (comes_before f e)

-- of the first entries of the journals the least, of several such the one of the earliest journal
abbrev pub least_head : List (List Entry) → Option Entry
least_head [] = None
least_head ([] ∷ journals) = least_head journals
least_head ((e ∷ es) ∷ journals) = if leads e (least_head journals) then Some e else least_head journals

-- the journals when that entry is taken out
abbrev pub without_least_head : List (List Entry) → List (List Entry)
without_least_head [] = []
without_least_head ([] ∷ journals) = [] ∷ without_least_head journals
without_least_head ((e ∷ es) ∷ journals) =
    if leads e (least_head journals) then es ∷ journals else (e ∷ es) ∷ without_least_head journals

-- what is taken out in so many steps
abbrev pub taken : ℕ → List (List Entry) → List Entry
taken zero journals = []
taken (suc n) journals = option_to_list (least_head journals) ++ taken n (without_least_head journals)

-- the journals end to end
abbrev pub all_entries : List (List Entry) → List Entry
all_entries [] = []
all_entries (journal ∷ journals) = journal ++ all_entries journals

-- a step for each entry
abbrev pub merged : List (List Entry) → List Entry
merged journals = taken (length (all_entries journals)) journals
