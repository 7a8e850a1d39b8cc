-- What is decided here, and what it does to the records.
use Rattle.std.proofs.Common.{◌≡◌, ℕ, Bool, true, false, cond, Option, Some, None, IfSome, is_some, Bor, option_copied, List, [], ◌∷◌, refl, sym, ◌∙◌, ap}
use Rattle.std.proofs.lemmas.Bool.{false≢true}
use Rattle.chorus_ui.specs.declared.ui.Ui.{Ui}
use Rattle.chorus_ui.specs.declared.layout.Layout.{Layout}
use Rattle.chorus_ui.specs.Layout.{has_site, creation_place}
use Rattle.chorus_ui.specs.Name.{same_ui}
use Rattle.chorus_entry.specs.declared.answer.Answer.{Answer}
use Rattle.chorus_entry.specs.declared.answer.Answer.TheVariants as A
use Rattle.chorus_entry.specs.declared.message.Message.{Message}
use Rattle.chorus_entry.specs.declared.record.PortRecord.{PortRecord}
use Rattle.chorus_world.specs.Places.{is_deleted}
use Rattle.chorus_hints.specs.Known.{Known, kept, newest_of}
use Rattle.chorus_hints.specs.Known.{newest as known_newest}
use Rattle.chorus_ports.specs.declared.deciding.Accept.{Accept}
use Rattle.chorus_ports.specs.declared.deciding.Accept.TheVariants as accepts
use Rattle.chorus_ports.specs.Table.{Table, find, replace, changed}
use Rattle.chorus_ports.specs.Deciding.{answer_to, answered, enqueued, after_offer, OnRefused}
use Rattle.place_journal.specs.Counting.{JournalState}
use Rattle.law_machine.specs.PlaceState.{PlaceState, location, newest}
use Rattle.law_machine.specs.Deciding.{answer_in, answer_away, answer_of, records_after}
use Rattle.chorus_place.specs.PlaceTables.Tables.{seen}

-- two changes that make the same of the record make the same of the table
replace-agree : (q : Ui) (f g : PortRecord → PortRecord) (rs : List PortRecord) (r : PortRecord) → find q rs ≡ Some r → f r ≡ g r → replace q f rs ≡ replace q g rs
replace-agree q f g [] r h e = refl
replace-agree q f g (x ∷ xs) r h e = by (same_ui x.ui q) h (replace-agree q f g xs r)
  where
    by : (b : Bool) → cond b (Some x) (find q xs) ≡ Some r → (find q xs ≡ Some r → f r ≡ g r → replace q f xs ≡ replace q g xs)
        → cond b (f x ∷ xs) (x ∷ replace q f xs) ≡ cond b (g x ∷ xs) (x ∷ replace q g xs)
    by true k on = let m : x ≡ r = cc in ap (λ y. y ∷ xs) (ap f m ∙ e ∙ sym (ap g m))
    by false k on = ap (λ ys. x ∷ ys) (on k e)

-- what a port that is held does to the table
pub decided-table : (m : Message) (q : Ui) (t new : Table) (a : Accept) (answer : Answer) → IfSome (find q t.records) (λ r. a ≡ answer_to m r)
    → is_some (find q t.records) ≡ true → new ≡ changed q (after_offer m) t → OnRefused a (new ≡ t) → answer ≡ answer_in a
    → new ≡ record t { records = records_after answer m q t.records }
decided-table m q t new a answer says held is refused e =
    by a says refused ∙ ap (λ x. record t { records = records_after x m q t.records }) (sym e)
  where
    accepted : (pos : ℕ) (o : Option PortRecord) → find q t.records ≡ o → is_some o ≡ true → IfSome o (λ r. accepts.Accepted pos ≡ answer_to m r)
        → replace q (after_offer m) t.records ≡ replace q (enqueued m) t.records
    accepted pos None f h k = absurd (false≢true h)
    accepted pos (Some r) f h k =
        replace-agree q (after_offer m) (enqueued m) t.records r f (ap (λ x. answered x m r) (sym k))

    by : (a : Accept) → IfSome (find q t.records) (λ r. a ≡ answer_to m r) → OnRefused a (new ≡ t)
        → new ≡ record t { records = records_after (answer_in a) m q t.records }
    by (accepts.Accepted pos) k r = is ∙ ap (λ rs. record t { records = rs }) (accepted pos (find q t.records) refl held k)
    by (accepts.Already x) k r = r
    by (accepts.ClientsFull x) k r = r
    by (accepts.Full len x) k r = r

pub absent-of : (b : Option (Bor PortRecord)) (o : Option PortRecord) → option_copied b ≡ o → is_some b ≡ false → o ≡ None
absent-of None o e h = sym e
absent-of (Some x) o e h = absurd (false≢true (sym h))

pub present-of : (b : Option (Bor PortRecord)) (o : Option PortRecord) → option_copied b ≡ o → is_some b ≡ true → is_some o ≡ true
present-of None o e h = absurd (false≢true h)
present-of (Some x) o e h = ap is_some (sym e)

-- where a port is, as the hints tell it
pub located : (l : Layout) (q : Ui) (o : Option (ℕ × ℕ)) (to : ℕ × ℕ) → has_site l q.site ≡ true → to ≡ newest_of l q o
    → location l q o ≡ record { to = to.0; hop = to.1 }
located l q None to h e =
    ap (λ b. record { to = cond b (creation_place l q) 0; hop = 0 }) h ∙ sym (ap (λ (x : ℕ × ℕ). record { to = x.0; hop = x.1 }) e)
located l q (Some pair) to h e = sym (ap (λ (x : ℕ × ℕ). record { to = x.0; hop = x.1 }) e)

-- a port that is not held
pub decided-away : (m : Message) (q : Ui) (only : Option ℕ) (tried p : ℕ) (j : JournalState) (known : Known) (o : Option PortRecord) (to : ℕ × ℕ)
    → o ≡ None → is_deleted q j.past ≡ false → to ≡ known_newest known q → has_site known.layout q.site ≡ true
    → answer_away p only tried (record { to = to.0; hop = to.1 }) ≡ answer_of m q only tried (seen p j known) o
decided-away m q only tried p j known o to none deleted e h =
    ap (answer_away p only tried) (sym (located known.layout q (kept known q) to h e))
    ∙ sym (ap (λ b. cond b A.Gone (answer_away p only tried (location known.layout q (kept known q)))) deleted)
    ∙ sym (ap (answer_of m q only tried (seen p j known)) none)

-- the same by the state of the place
pub same-answer : (m : Message) (q : Ui) (only : Option ℕ) (tried : ℕ) (s u : PlaceState) (o : Option PortRecord)
    → s.number ≡ u.number → s.journal ≡ u.journal → newest s q ≡ newest u q → answer_of m q only tried s o ≡ answer_of m q only tried u o
same-answer m q only tried s u (Some r) n j k = refl
same-answer m q only tried s u None n j k = λ i. cond (is_deleted q (j i)) A.Gone (answer_away (n i) only tried (k i))
