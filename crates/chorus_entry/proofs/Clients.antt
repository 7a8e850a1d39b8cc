-- What is kept of each client after a request of one is remembered.
use Rattle.std.proofs.Common.{◌≡◌, ℕ, ◌+◌, nat_le, length, length-append, Bool, true, false, cond, ◌==◌, if◌then◌else◌, Option, Some, None, is_some, List, [], ◌∷◌, ◌++◌, refl, sym, ◌∙◌, ap, arith}
use Rattle.std.specs.Option.{option_map, option_or}
use Rattle.std.proofs.lemmas.List.{length-map}
use Rattle.std.proofs.lemmas.Bool.{eqb-true, eq-eqb}
use Rattle.std.proofs.lemmas.Bool.Decides.{nat_tests}
use Rattle.chorus_ui.specs.declared.ui.Ui.{Ui}
use Rattle.chorus_entry.specs.ClientTable.{number_of, renumbered, with_number}
use Rattle.chorus_entry.specs.declared.tag.Tag.{Tag}
use Rattle.chorus_entry.specs.declared.tag.Tag.TheVariants.{Plain, Request, Reply}
use Rattle.chorus_entry.specs.Clients.{is_reached, raised, with_client, remembered}

-- of a client that gets another number
number_of-with_number : (clients : List (ℕ × ℕ)) (client number other : ℕ) → number_of (with_number clients client number) other ≡ cond (client == other) (option_map (λ n. number) (number_of clients other)) (number_of clients other)
number_of-with_number [] client number other = by (client == other)
  where
    by : (t : Bool) → number_of [] other ≡ cond t (option_map (λ n. number) (number_of [] other)) (number_of [] other)
    by true = refl
    by false = refl
number_of-with_number (x ∷ xs) client number other =
    by (x.0 == client) (x.0 == other) (client == other) refl refl refl (number_of-with_number xs client number other)
  where
    step : (s t : Bool) → (s ≡ true → t ≡ true → ⊥) → cond s (Some x.1) (cond t (option_map (λ n. number) (number_of xs other)) (number_of xs other)) ≡ cond t (option_map (λ n. number) (cond s (Some x.1) (number_of xs other))) (cond s (Some x.1) (number_of xs other))
    step true true differ = absurd (differ refl refl)
    step true false differ = refl
    step false t differ = refl

    own : (s t : Bool) → s ≡ t → cond s (Some number) (cond t (option_map (λ n. number) (number_of xs other)) (number_of xs other)) ≡ cond t (option_map (λ n. number) (cond s (Some x.1) (number_of xs other))) (cond s (Some x.1) (number_of xs other))
    own true true e = refl
    own true false e = absurd (cc)
    own false true e = absurd (cc)
    own false false e = refl

    by : (b s t : Bool) → (x.0 == client) ≡ b → (x.0 == other) ≡ s → (client == other) ≡ t → number_of (with_number xs client number) other ≡ cond t (option_map (λ n. number) (number_of xs other)) (number_of xs other) → number_of (cond b (x.0, number) x ∷ with_number xs client number) other ≡ cond t (option_map (λ n. number) (cond s (Some x.1) (number_of xs other))) (cond s (Some x.1) (number_of xs other))
    by true s t eb es et on =
        rw (es, on) (own s t (sym es ∙ ap (λ n. n == other) (eqb-true x.0 client eb) ∙ et))
    by false s t eb es et on =
        rw (es, on) (step s t (λ p q. grind (arith, es, et, eb, eqb-true x.0 other (es ∙ p), eqb-true client other (et ∙ q), eq-eqb x.0 client)))

-- of a table with one more
number_of-append : (clients more : List (ℕ × ℕ)) (other : ℕ) → number_of (clients ++ more) other ≡ option_or (number_of clients other) (number_of more other)
number_of-append [] more other = refl
number_of-append (x ∷ xs) more other = by (x.0 == other) (number_of-append xs more other)
  where
    by : (s : Bool) → number_of (xs ++ more) other ≡ option_or (number_of xs other) (number_of more other) → cond s (Some x.1) (number_of (xs ++ more) other) ≡ option_or (cond s (Some x.1) (number_of xs other)) (number_of more other)
    by true on = refl
    by false on = on

-- the client has the number, and what is kept of the others stays
pub number_of-with_client : (clients : List (ℕ × ℕ)) (client number other : ℕ) → number_of (with_client clients client number) other ≡ cond (client == other) (Some (raised number (number_of clients client))) (number_of clients other)
number_of-with_client clients client number other = by (number_of clients client) refl
  where
    or_none : (o : Option ℕ) → option_or o None ≡ o
    or_none None = refl
    or_none (Some n) = refl

    known : (kept new : ℕ) (t : Bool) → number_of clients client ≡ Some kept → (client == other) ≡ t → cond t (option_map (λ n. new) (number_of clients other)) (number_of clients other) ≡ cond t (Some new) (number_of clients other)
    known kept new true e et = ap (option_map (λ n. new)) (ap (number_of clients) (sym (eqb-true client other et)) ∙ e)
    known kept new false e et = refl

    fresh : (t : Bool) → number_of clients client ≡ None → (client == other) ≡ t → option_or (number_of clients other) (cond t (Some number) None) ≡ cond t (Some number) (number_of clients other)
    fresh true e et = ap (λ o. option_or o (Some number)) (ap (number_of clients) (sym (eqb-true client other et)) ∙ e)
    fresh false e et = or_none (number_of clients other)

    by : (o : Option ℕ) → number_of clients client ≡ o → number_of (if is_some o then with_number clients client (raised number o) else clients ++ (client, number) ∷ []) other ≡ cond (client == other) (Some (raised number o)) (number_of clients other)
    by (Some kept) e =
        number_of-with_number clients client (raised number (Some kept)) other
        ∙ known kept (raised number (Some kept)) (client == other) e refl
    by None e = number_of-append clients ((client, number) ∷ []) other ∙ fresh (client == other) e refl

-- as many clients as before, or one more
pub length-with_client : (clients : List (ℕ × ℕ)) (client number : ℕ) → length (with_client clients client number) ≡ length clients + cond (is_some (number_of clients client)) 0 1
length-with_client clients client number = by (number_of clients client)
  where
    by : (o : Option ℕ) → length (if is_some o then with_number clients client (raised number o) else clients ++ (client, number) ∷ []) ≡ length clients + cond (is_some o) 0 1
    by (Some kept) = omega (arith, length-map clients (renumbered client (raised number (Some kept))))
    by None = length-append clients ((client, number) ∷ [])

-- the number of a request is reached once it is remembered
pub reached-now : (client number : ℕ) (back : Ui) (clients : List (ℕ × ℕ)) → is_reached number (number_of (remembered client (Request number back) clients) client) ≡ true
reached-now client number back clients =
    ap (is_reached number)
    (number_of-with_client clients client number client ∙ ap (λ b. cond b (Some (raised number (number_of clients client))) (number_of clients client)) (eq-eqb client client refl))
    ∙ by (number_of clients client)
  where
    by : (o : Option ℕ) → nat_le number (raised number o) ≡ true
    by None = grind (arith, nat_tests)
    by (Some kept) = grind (arith, nat_tests)

-- and stays so
pub reached-later : (client : ℕ) (tag : Tag) (clients : List (ℕ × ℕ)) (other number : ℕ) → is_reached number (number_of clients other) ≡ true → is_reached number (number_of (remembered client tag clients) other) ≡ true
reached-later client Plain clients other number h = h
reached-later client (Reply of n) clients other number h = h
reached-later client (Request n back) clients other number h =
    ap (is_reached number) (number_of-with_client clients client n other) ∙ by (client == other) refl
  where
    greater : (o : Option ℕ) → is_reached number o ≡ true → nat_le number (raised n o) ≡ true
    greater None h = absurd (cc)
    greater (Some kept) h = grind (arith, nat_tests, h)

    by : (b : Bool) → (client == other) ≡ b → is_reached number (cond b (Some (raised n (number_of clients client))) (number_of clients other)) ≡ true
    by true e = greater (number_of clients client) (ap (λ c. is_reached number (number_of clients c)) (eqb-true client other e) ∙ h)
    by false e = h
