-- What a push and a change of a number leave of a table of clients.
use Rattle.std.proofs.Common.{◌≡◌, ◌==◌, ℕ, ◌<◌, ◌≤◌, Bool, true, false, ◌&&◌, ◌||◌, not, cond, Option, Some, None, is_some, List, [], ◌∷◌, ◌++◌, ◌+◌, take, drop, length, get_or, refl, ap, ◌∙◌, sym, arith}
use Rattle.std.proofs.lemmas.Bool.{eqb-false, eq-eqb, ne_eqb}
use Rattle.std.proofs.lemmas.List.Edits.{map_over_more}
use Rattle.std.proofs.lemmas.List.{append-nil, get_or_default, take_all}
use Rattle.std.proofs.Math.ListN.{drop_of_length-le, set}
use Rattle.std.proofs.Math.Seq.{take-append_seam}
use Rattle.chorus_entry.specs.ClientTable.{number_of, are_distinct, renumbered, with_number}

-- the clients of a table with one more entry
known-snoc : (table : List (ℕ × ℕ)) (entry : ℕ × ℕ) (client : ℕ) → is_some (number_of (table ++ entry ∷ []) client) ≡ (is_some (number_of table client) || (entry.0 == client))
known-snoc [] entry client = by (entry.0 == client)
  where
    by : (b : Bool) → is_some (cond b (Some entry.1) None) ≡ b
    by true = refl
    by false = refl
known-snoc (first ∷ table) entry client = by (first.0 == client) (known-snoc table entry client)
  where
    by : (b : Bool) → is_some (number_of (table ++ entry ∷ []) client) ≡ (is_some (number_of table client) || (entry.0 == client)) → is_some (cond b (Some first.1) (number_of (table ++ entry ∷ []) client)) ≡ (is_some (cond b (Some first.1) (number_of table client)) || (entry.0 == client))
    by true h = refl
    by false h = h

-- equality of numbers, the other way round
eqb_flip : (a b : ℕ) → (a == b) ≡ false → (b == a) ≡ false
eqb_flip a b h = ne_eqb b a (λ e. eqb-false a b h (sym e))

-- the step of that: `known` says that the table behind the first entry has its client, `rest` that its clients are distinct
distinct-step : (known rest more same : Bool) → (not known && rest) ≡ true → same ≡ false → (rest ≡ true → more ≡ true) → (not (known || same) && more) ≡ true
distinct-step true rest more same distinct differs on = absurd (cc)
distinct-step false rest more true distinct differs on = absurd (cc)
distinct-step false rest more false distinct differs on = on distinct

-- one more client keeps the clients distinct
pub are_distinct-snoc : (table : List (ℕ × ℕ)) (client number : ℕ) → is_some (number_of table client) ≡ false → are_distinct table ≡ true → are_distinct (table ++ (client, number) ∷ []) ≡ true
are_distinct-snoc [] client number absent distinct = refl
are_distinct-snoc (first ∷ table) client number absent distinct =
    by (first.0 == client) refl absent (are_distinct-snoc table client number)
  where
    by : (b : Bool) → (first.0 == client) ≡ b → is_some (cond b (Some first.1) (number_of table client)) ≡ false → (is_some (number_of table client) ≡ false → are_distinct table ≡ true → are_distinct (table ++ (client, number) ∷ []) ≡ true) → (not (is_some (number_of (table ++ (client, number) ∷ []) first.0)) && are_distinct (table ++ (client, number) ∷ [])) ≡ true
    by true same here on = absurd (cc)
    by false differs later on =
        rw (known-snoc table (client, number) first.0)
        (distinct-step _ _ _ (client == first.0) distinct (eqb_flip first.0 client differs) (on later))

-- a change of number keeps the clients
known-map : (client number other : ℕ) (table : List (ℕ × ℕ)) → is_some (number_of (with_number table client number) other) ≡ is_some (number_of table other)
known-map client number other [] = refl
known-map client number other (first ∷ table) = by (first.0 == client) (known-map client number other table)
  where
    choice : (b : Bool) (m n : ℕ) (o p : Option ℕ) → is_some o ≡ is_some p → is_some (cond b (Some m) o) ≡ is_some (cond b (Some n) p)
    choice true m n o p same = refl
    choice false m n o p same = same

    by : (b : Bool) → is_some (number_of (with_number table client number) other) ≡ is_some (number_of table other) → is_some (number_of (cond b (first.0, number) first ∷ with_number table client number) other) ≡ is_some (cond (first.0 == other) (Some first.1) (number_of table other))
    by true on = choice (first.0 == other) number first.1 _ _ on
    by false on = choice (first.0 == other) first.1 first.1 _ _ on

-- the client of a renumbered entry
client-renumbered : (client number : ℕ) (entry : ℕ × ℕ) → (renumbered client number entry).0 ≡ entry.0
client-renumbered client number entry = by (entry.0 == client)
  where
    by : (b : Bool) → (cond b (entry.0, number) entry).0 ≡ entry.0
    by true = refl
    by false = refl

-- and keeps them distinct
pub are_distinct-with_number : (table : List (ℕ × ℕ)) (client number : ℕ) → are_distinct (with_number table client number) ≡ are_distinct table
are_distinct-with_number [] client number = refl
are_distinct-with_number (first ∷ table) client number =
    rw (client-renumbered client number first, known-map client number first.0 table, are_distinct-with_number table client number) refl

-- the entry of the client, and that of another
renumbered-own : (client number : ℕ) (entry : ℕ × ℕ) → entry.0 ≡ client → renumbered client number entry ≡ (entry.0, number)
renumbered-own client number entry same = rw (eq-eqb entry.0 client same) refl

renumbered-other : (client number : ℕ) (entry : ℕ × ℕ) → (entry.0 ≡ client → ⊥) → renumbered client number entry ≡ entry
renumbered-other client number entry differs = rw (ne_eqb entry.0 client differs) refl

-- a loop that writes the number to each entry of the client
pub own_more : (table now : List (ℕ × ℕ)) (client number i : ℕ) → i < length table → length now ≡ length table → now ≡ with_number (take i table) client number ++ drop i table → (get_or now i (0, 0)).0 ≡ client → set now i ((get_or now i (0, 0)).0, number) ≡ with_number (take (i + 1) table) client number ++ drop (i + 1) table
own_more table now client number i within long passed same =
    let found = get_or now i (0, 0) in
    rw (← renumbered-own client number found same)
    (map_over_more (renumbered client number) table now i found within passed (get_or_default now i (0, 0) found (omega arith)))

pub other_more : (table now : List (ℕ × ℕ)) (client number i : ℕ) → i < length table → length now ≡ length table → now ≡ with_number (take i table) client number ++ drop i table → ((get_or now i (0, 0)).0 ≡ client → ⊥) → set now i (get_or now i (0, 0)) ≡ with_number (take (i + 1) table) client number ++ drop (i + 1) table
other_more table now client number i within long passed differs =
    let found = get_or now i (0, 0) in
    rw (renumbered-other client number found differs) at
    (map_over_more (renumbered client number) table now i found within passed (get_or_default now i (0, 0) found (omega arith)))

-- what the loop leaves, written back into a vector
pub all_renumbered : (table now : List (ℕ × ℕ)) (client number len i : ℕ) → len ≡ length now → length table ≤ i → now ≡ with_number (take i table) client number ++ drop i table → take len (now ++ drop (length now) table) ≡ with_number table client number
all_renumbered table now client number len i long all passed =
    ap (λ n. take n (now ++ drop (length now) table)) long
    ∙ take-append_seam now (drop (length now) table)
    ∙ passed
    ∙ (λ k. with_number (take_all i table all k) client number ++ drop_of_length-le table all k)
    ∙ append-nil (with_number table client number)
