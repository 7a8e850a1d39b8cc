-- What holds of a port after each event, and so after every list of them.
use Rattle.std.proofs.Common.{◌≡◌, ℕ, ◌+◌, ◌<◌, ◌≤◌, nat_le, Bool, true, false, ◌&&◌, cond, ◌==◌, if◌then◌else◌, Option, Some, None, List, [], ◌∷◌, ◌++◌, length, refl, sym, ◌∙◌, ap, subst, arith, append_assoc, length-append}
use Rattle.std.proofs.lemmas.Bool.{eqb-true}
use Rattle.std.proofs.lemmas.Bool.Decides.{nat_tests}
use Rattle.std.proofs.lemmas.List.{append-nil}
use Rattle.std.specs.List.{count_by}
use Rattle.std.proofs.lemmas.List.Sums.{sum_by-append, sum_by-cons}
use Rattle.chorus_ui.specs.declared.ui.Ui.{Ui}
use Rattle.chorus_ui.specs.Name.{same_ui}
use Rattle.chorus_entry.specs.declared.message.Message.{Message}
use Rattle.chorus_entry.specs.declared.tag.Tag.{Tag}
use Rattle.chorus_entry.specs.declared.tag.Tag.TheVariants.{Plain, Request, Reply}
use Rattle.chorus_entry.specs.ClientTable.{number_of}
use Rattle.chorus_ports.specs.declared.deciding.Accept.{Accept}
use Rattle.chorus_ports.specs.declared.deciding.Accept.TheVariants.{Accepted, Already, ClientsFull, Full}
use Rattle.chorus_ports.specs.declared.taking.Taken.TheVariants as T
use Rattle.chorus_ports.specs.Deciding.{is_full, answer_to, enqueued, answered}
use Rattle.chorus_entry.specs.Clients.{is_reached, is_repeated, is_one_too_many, raised, with_client, remembered}
use Rattle.chorus_ports.specs.Taking.{first_at, passed}
use Rattle.chorus_ports.specs.History.{Event, Offer, Take, Rehome, Migrate, History, accepted_by, taken_by, happens, run, history, has_request, is_request}
use Rattle.chorus_entry.proofs.Clients.{number_of-with_client}

-- what every event keeps: the last says that a request whose number is not reached was not accepted
pub record Holds (h : History) : Type 0 where
  pub waiting : h.accepted ≡ h.taken ++ h.port.pending
  pub counted : h.port.first ≡ length h.taken
  pub once : (client number : ℕ) → count_by (is_request client number) h.accepted ≤ 1
  pub fresh : (client number : ℕ) → is_reached number (number_of h.port.clients client) ≡ false → count_by (is_request client number) h.accepted ≡ 0

count_by-last : (p : Message → Bool) (ms : List Message) (m : Message) → count_by p (ms ++ m ∷ []) ≡ count_by p ms + cond (p m) 1 0
count_by-last p ms m =
    let f : Message → ℕ = λ x. cond (p x) 1 0 in
    omega (arith, sum_by-append f ms (m ∷ []), sum_by-cons f m [])

-- a number above one that is not reached is not reached
above : (o : Option ℕ) (low high : ℕ) → is_reached low o ≡ false → low < high → is_reached high o ≡ false
above None low high h lt = refl
above (Some kept) low high h lt = grind (arith, nat_tests)

-- a number that is not reached once k is remembered is above k
below : (k number : ℕ) (o : Option ℕ) → nat_le number (raised k o) ≡ false → k < number
below k number None h = grind (arith, nat_tests, h)
below k number (Some kept) h = grind (arith, nat_tests, h)

-- what the count of one client and number becomes with one more that was accepted, which may be its own
record Counts (client number n : ℕ) (own : Bool) (after : List (ℕ × ℕ)) : Type 0 where
  once : n + cond own 1 0 ≤ 1
  fresh : is_reached number (number_of after client) ≡ false → n + cond own 1 0 ≡ 0

counts-same : (client number n : ℕ) (clients : List (ℕ × ℕ)) → n ≤ 1 → (is_reached number (number_of clients client) ≡ false → n ≡ 0) → Counts client number n false clients
counts-same client number n clients le on = record { once = omega arith; fresh = λ h. let e = on h in omega (arith, e) }

counts : (client number seat : ℕ) (tag : Tag) (clients : List (ℕ × ℕ)) (n : ℕ) → is_repeated seat tag clients ≡ false → n ≤ 1 → (is_reached number (number_of clients client) ≡ false → n ≡ 0) → Counts client number n (has_request client number seat tag) (remembered seat tag clients)
counts client number seat Plain clients n new le on = counts-same client number n clients le on
counts client number seat (Reply of k) clients n new le on = counts-same client number n clients le on
counts client number seat (Request k back) clients n new le on = by (seat == client) (k == number) refl refl
  where
    same_client : (seat == client) ≡ true → is_reached k (number_of clients client) ≡ false
    same_client s = ap (λ c. is_reached k (number_of clients c)) (sym (eqb-true seat client s)) ∙ new

    none_yet : (seat == client) ≡ true → (k == number) ≡ true → n ≡ 0
    none_yet s t = on (ap (λ j. is_reached j (number_of clients client)) (sym (eqb-true k number t)) ∙ same_client s)

    kept : (s : Bool) → (seat == client) ≡ s → is_reached number (number_of (with_client clients seat k) client) ≡ false → is_reached number (cond s (Some (raised k (number_of clients seat))) (number_of clients client)) ≡ false
    kept s es h =
        sym (ap (is_reached number) (number_of-with_client clients seat k client ∙ ap (λ b. cond b (Some (raised k (number_of clients seat))) (number_of clients client)) es)) ∙ h

    by : (s t : Bool) → (seat == client) ≡ s → (k == number) ≡ t → Counts client number n (s && t) (with_client clients seat k)
    by true true es et =
        record {
          once = let e = none_yet es et in omega (arith, e);
          fresh = λ h. let lt = below k number (number_of clients seat) (kept true es h) in absurd (omega (arith, lt, eqb-true k number et));
        }
    by true false es et =
        record {
          once = omega arith;
          fresh = λ h.
              let lt = below k number (number_of clients seat) (kept true es h) in
              let e = on (above (number_of clients client) k number (same_client es) lt) in
              omega (arith, e);
        }
    by false t es et =
        record { once = omega arith; fresh = λ h. let e = on (kept false es h) in omega (arith, e) }

refused_keeps : (h : History) → Holds h → Holds (record h { accepted = h.accepted ++ [] })
refused_keeps h k = subst (λ ms. Holds (record h { accepted = ms })) (sym (append-nil h.accepted)) k

accepted_keeps : (m : Message) (h : History) → is_repeated m.id.seat m.tag h.port.clients ≡ false → Holds h → Holds (record h { port = enqueued m h.port; accepted = h.accepted ++ m ∷ [] })
accepted_keeps m h new k =
    let before : ℕ → ℕ → ℕ = λ client number. count_by (is_request client number) h.accepted in
    let now : (client number : ℕ) → Counts client number (before client number) (is_request client number m) (remembered m.id.seat m.tag h.port.clients) =
    λ client number. counts client number m.id.seat m.tag h.port.clients (before client number) new (k.once client number) (k.fresh client number) in
    record {
      waiting = ap (λ ms. ms ++ m ∷ []) k.waiting ∙ append_assoc h.taken h.port.pending (m ∷ []);
      counted = k.counted;
      once = λ client number. rw (count_by-last (is_request client number) h.accepted m) (now client number).once;
      fresh = λ client number unreached. count_by-last (is_request client number) h.accepted m ∙ (now client number).fresh unreached;
    }

offer_keeps : (m : Message) (h : History) → Holds h → Holds (happens h (Offer m))
offer_keeps m h k =
    by (is_repeated m.id.seat m.tag h.port.clients) (is_one_too_many m.id.seat m.tag h.port.clients) (is_full h.port) refl
  where
    by : (r o f : Bool) → is_repeated m.id.seat m.tag h.port.clients ≡ r → let a : Accept = if r then Already m else if o then ClientsFull m else if f then Full (length h.port.pending) m else Accepted (h.port.first + length h.port.pending) in Holds (record h { port = answered a m h.port; accepted = h.accepted ++ accepted_by a m })
    by true o f e = refused_keeps h k
    by false true f e = refused_keeps h k
    by false false true e = refused_keeps h k
    by false false false e = accepted_keeps m h e k

nothing_taken_keeps : (h : History) → Holds h → Holds (record h { taken = h.taken ++ [] })
nothing_taken_keeps h k = subst (λ ms. Holds (record h { taken = ms })) (sym (append-nil h.taken)) k

passed_keeps : (ms : List Message) (h : History) → h.port.pending ≡ ms → Holds h → Holds (record h { port = passed ms h.port; taken = h.taken ++ taken_by (first_at h.port.first ms) })
passed_keeps [] h e k = nothing_taken_keeps h k
passed_keeps (m ∷ ms) h e k =
    record {
      waiting = k.waiting ∙ ap (λ xs. h.taken ++ xs) e ∙ sym (append_assoc h.taken (m ∷ []) ms);
      counted = rw length-append (omega (arith, k.counted));
      once = k.once;
      fresh = k.fresh;
    }

take_keeps : (actor : Ui) (h : History) → Holds h → Holds (happens h (Take actor))
take_keeps actor h k = by (same_ui h.port.actor actor)
  where
    by : (b : Bool) → Holds (record h { port = if b then passed h.port.pending h.port else h.port; taken = h.taken ++ taken_by (if b then first_at h.port.first h.port.pending else T.NotHere) })
    by true = passed_keeps h.port.pending h refl k
    by false = nothing_taken_keeps h k

event_keeps : (e : Event) (h : History) → Holds h → Holds (happens h e)
event_keeps (Offer m) h k = offer_keeps m h k
event_keeps (Take actor) h k = take_keeps actor h k
event_keeps (Rehome actor) h k = record { waiting = k.waiting; counted = k.counted; once = k.once; fresh = k.fresh }
event_keeps (Migrate hop actor) h k = record { waiting = k.waiting; counted = k.counted; once = k.once; fresh = k.fresh }

pub run_keeps : (es : List Event) (h : History) → Holds h → Holds (run es h)
run_keeps [] h k = k
run_keeps (e ∷ es) h k = run_keeps es (happens h e) (event_keeps e h k)

-- every port, after every list of events
pub history_holds : (ui actor : Ui) (capacity : ℕ) (events : List Event) → Holds (history ui actor capacity events)
history_holds ui actor capacity events =
    run_keeps events _
    (record { waiting = refl; counted = refl; once = λ client number. omega arith; fresh = λ client number unreached. refl })

-- what is accepted next is counted by what was accepted
pub next_position : (h : History) (m : Message) (pos : ℕ) → Holds h → answer_to m h.port ≡ Accepted pos → pos ≡ length h.accepted
next_position h m pos k e =
    by (is_repeated m.id.seat m.tag h.port.clients) (is_one_too_many m.id.seat m.tag h.port.clients) (is_full h.port) e
  where
    long : h.port.first + length h.port.pending ≡ length h.accepted
    long = let all : length h.accepted ≡ length h.taken + length h.port.pending = ap length k.waiting ∙ length-append h.taken h.port.pending in omega (arith, all, k.counted)

    by : (r o f : Bool) → let a : Accept = if r then Already m else if o then ClientsFull m else if f then Full (length h.port.pending) m else Accepted (h.port.first + length h.port.pending) in a ≡ Accepted pos → pos ≡ length h.accepted
    by true o f e = absurd (cc)
    by false true f e = absurd (cc)
    by false false true e = absurd (cc)
    by false false false e = let same : h.port.first + length h.port.pending ≡ pos = cc in sym same ∙ long
