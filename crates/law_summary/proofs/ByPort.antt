-- The numbers of a summary that are sums over the ports.
use Rattle.std.proofs.Common.{ℕ, ◌≡◌, ◌+◌, ◌-◌, ◌<◌, Bool, true, false, cond, if◌then◌else◌, List, [], ◌∷◌, ◌++◌, length, drop, reverse, Option, Some, None, sum_by, count_by, refl, sym, ◌∙◌, ap, subst, arith, inl, inr, length-drop}
use Rattle.std.proofs.lemmas.Bool.{and_parts, false≢true, cases_Bool}
use Rattle.std.proofs.lemmas.List.{length_push}
use Rattle.std.proofs.lemmas.List.Sums.{sum_by-cons}
use Rattle.chorus_ui.specs.declared.ui.Ui.{Ui}
use Rattle.chorus_ui.specs.declared.layout.Layout.{Layout}
use Rattle.chorus_ui.specs.Layout.{IsLayout}
use Rattle.chorus_ui.specs.Name.{same_ui}
use Rattle.chorus_ui.proofs.Names.{from_same_ui, same_ui-self}
use Rattle.chorus_entry.specs.declared.entry.Entry.{Entry}
use Rattle.chorus_entry.specs.declared.act.Act.{Act}
use Rattle.chorus_entry.specs.declared.act.Act.TheVariants.{Make, Accept, Full, Already, ClientsFull, Take, Empty, Rehome, Depart, Arrive, Delete}
use Rattle.chorus_entry.specs.Act.{held_port_of}
use Rattle.chorus_entry.specs.Same.{are_same}
use Rattle.chorus_entry.proofs.Same.{from_same_ids}
use Rattle.chorus_world.specs.declared.spot.Spot as world
use Rattle.chorus_world.specs.declared.spot.Spot.TheVariants as spots
use Rattle.chorus_world.specs.Views.{views, on, is_on}
use Rattle.chorus_world.specs.Ports.{PortState, fate, fate_after, is_made, is_held, is_moving, is_ended, is_held_at, are_waiting, arrived}
use Rattle.chorus_world.specs.Ports as ports
use Rattle.chorus_world.specs.Steps.{act_may, is_legal}
use Rattle.chorus_world.specs.AcceptedLaws.{accepted_from, accepted_by, taken_from, taken_by}
use Rattle.chorus_world.specs.LocationLaws.{path_of}
use Rattle.chorus_world.proofs.Steps.LegalLemmas.{legal_parts, on_is}
use Rattle.chorus_world.proofs.Ports.LineLemmas.{Needs, needs, none_some}
use Rattle.chorus_world.proofs.Ports.PortMoves.{held_fate, coming_fate, make_new}
use Rattle.chorus_world.proofs.Messages.MessageSteps.{legal_inv}
use Rattle.chorus_world.proofs.Messages.SendingLemmas.{some_is}
use Rattle.chorus_show.specs.declared.queues.Spot.TheVariants.{Held, Moving, Ended}
use Rattle.chorus_show.specs.Summary.{is_accept, is_take, is_depart, accepts, gives, ids_discarded, ports_at}
use Rattle.law_summary.specs.Counted.{once_at}
use Rattle.law_summary.specs.Numbers.{made_ports, left_in, hops_of, SumsOfPorts}
use Rattle.law_summary.proofs.Counting.{count_more, accepted_in, taken_in, shows, summaries_count}
use Rattle.law_summary.proofs.Adding.{sum-reverse, sum-zero, sum-one, Each, each-more, sum-same, sum-by-keys}

-- Ports, each once.

once-in : (o : Option PortState) → once_at Held o + once_at Moving o + once_at Ended o ≡ (if is_made o then 1 else 0)
once-in None = refl
once-in (Some f) = by f.spot
  where
    by : (s : world.Spot) → (once_at Held (Some (record f { spot = s })) + once_at Moving (Some (record f { spot = s }))) + once_at Ended (Some (record f { spot = s })) ≡ 1
    by (spots.Held a) = refl
    by (spots.Moving a) = refl
    by spots.Ended = refl

ports-once : (l : Layout) (past : List Entry) (q : Ui) → IsLayout l → is_legal l past ≡ true → count_by (same_ui q) (made_ports (reverse past)) ≡ (if is_made (fate (on q past)) then 1 else 0)
ports-once l past q layout h =
    let es = reverse past in
    let c = summaries_count l past layout h in
    count_more (same_ui q) (ports_at Held es ++ ports_at Moving es) (ports_at Ended es)
    ∙ ((λ i. count_more (same_ui q) (ports_at Held es) (ports_at Moving es) i + c.ports Ended q i)
    ∙ ((λ i. (c.ports Held q i + c.ports Moving q i) + once_at Ended (fate (on q past))) ∙ once-in (fate (on q past))))

-- Entries stand for ports that are made, whatever comes after.

after-made : (p : ℕ) (a : Act) (f : PortState) → is_made (fate_after p a (Some f)) ≡ true
after-made p (Make q b c) f = refl
after-made p _ f = refl

made-stays : (q : Ui) (e : Entry) (past : List Entry) → is_made (fate (on q past)) ≡ true → is_made (fate (on q (e ∷ past))) ≡ true
made-stays q e past h = go (is_on (Some q) e)
  where
    some : (o : Option PortState) → is_made o ≡ true → is_made (fate_after e.place e.act o) ≡ true
    some None k = absurd (false≢true k)
    some (Some f) k = after-made e.place e.act f

    go : (b : Bool) → is_made (fate (cond b (e ∷ on q past) (on q past))) ≡ true
    go true = some (fate (on q past)) h
    go false = h

-- the port that an entry counts for
abbrev counted : Act → Option Ui
counted (Accept x q n) = Some q
counted (Take q n x) = Some q
counted (Depart q to a hop) = Some q
counted (Delete q xs) = Some q
counted _ = None

counted-line : (a : Act) (q : Ui) → counted a ≡ Some q → held_port_of a ≡ Some q
counted-line (Accept x r n) q h = h
counted-line (Take r n x) q h = h
counted-line (Depart r to a hop) q h = h
counted-line (Delete r xs) q h = h
counted-line _ q h = none_some q h

made-held : (p : ℕ) (o : Option PortState) → is_held_at p o ≡ true → is_made o ≡ true
made-held p None k = absurd (false≢true k)
made-held p (Some f) k = refl

counted-made : (p : ℕ) (a : Act) (q : Ui) (o : Option PortState) → counted a ≡ Some q → Needs p a o → is_made o ≡ true
counted-made p (Accept x r n) q o h k = made-held p o k
counted-made p (Take r n x) q o h k = made-held p o k
counted-made p (Depart r to a hop) q o h k = made-held p o k
counted-made p (Delete r xs) q o h k = made-held p o k
counted-made p _ q o h k = none_some q h

abbrev IsCounted : List Entry → Entry → Type 0
IsCounted past e = (q : Ui) → counted e.act ≡ Some q → is_made (fate (on q past)) ≡ true

all-counted : (l : Layout) (past : List Entry) → is_legal l past ≡ true → Each (IsCounted past) past
all-counted l [] h = tt
all-counted l (e ∷ past) h =
    let two = legal_parts l e past h in (
      λ q c. made-stays q e past (counted-made e.place e.act q (fate (on q past)) c (needs l past e.clock e.place e.seat e.act q (counted-line e.act q c) two.0)),
      each-more (IsCounted past) (IsCounted (e ∷ past)) (λ f k q c. made-stays q e past (k q c)) past (all-counted l past two.1),
    )

-- What the entries count of one port.

abbrev pub one : Bool → ℕ
one b = cond b 1 0

abbrev discards : Ui → Act → ℕ
discards q (Delete r xs) = cond (same_ui r q) (length xs) 0
discards q _ = 0

abbrev departs : Ui → Act → ℕ
departs q (Depart r to a hop) = cond (same_ui r q) 1 0
departs q _ = 0

-- a number that grows by what each entry on the line of the port counts
module _ (q : Ui) (part : Act → ℕ) (value : Option PortState → ℕ) (begins : value None ≡ 0) (off : (a : Act) → are_same same_ui (Some q) (held_port_of a) ≡ false → part a ≡ 0)
    (grows : (l : Layout) (past : List Entry) (p s : ℕ) (a : Act) → IsLayout l → is_legal l past ≡ true → held_port_of a ≡ Some q → Needs p a (fate (on q past)) → act_may l (views past p s a) p s a ≡ true → value (fate_after p a (fate (on q past))) ≡ part a + value (fate (on q past))) where
  pub line-number : (l : Layout) (past : List Entry) → IsLayout l → is_legal l past ≡ true → sum_by (λ (e : Entry). part e.act) past ≡ value (fate (on q past))
  line-number l [] layout h = sym begins
  line-number l (e ∷ past) layout h =
      sum_by-cons (λ (f : Entry). part f.act) e past ∙ go (is_on (Some q) e) refl (line-number l past layout two.1)
    where
      two : (act_may l (views past e.place e.seat e.act) e.place e.seat e.act ≡ true) × (is_legal l past ≡ true)
      two = legal_parts l e past h

      go : (b : Bool) → is_on (Some q) e ≡ b → sum_by (λ (f : Entry). part f.act) past ≡ value (fate (on q past)) → part e.act + sum_by (λ (f : Entry). part f.act) past ≡ value (fate (cond b (e ∷ on q past) (on q past)))
      go true t ih =
          let line = on_is q (held_port_of e.act) t in
          ap (λ n. part e.act + n) ih ∙ sym (grows l past e.place e.seat e.act layout two.1 line (needs l past e.clock e.place e.seat e.act q line two.0) two.0)
      go false f ih =
          (λ i. off e.act f i + ih i) ∙ (let z : 0 + value (fate (on q past)) ≡ value (fate (on q past)) = omega arith in z)

off-port : (q r : Ui) → same_ui q r ≡ false → same_ui r q ≡ false
off-port q r h =
    elim (cases_Bool (same_ui r q)) [
      | inr f ↦ f
      | inl t ↦ absurd (false≢true (sym h ∙ (ap (same_ui q) (from_same_ui r q t) ∙ same_ui-self q)))
    ]

off-discards : (q : Ui) (a : Act) → are_same same_ui (Some q) (held_port_of a) ≡ false → discards q a ≡ 0
off-discards q (Delete r xs) h = ap (λ b. cond b (length xs) 0) (off-port q r h)
off-discards q _ h = refl

off-departs : (q : Ui) (a : Act) → are_same same_ui (Some q) (held_port_of a) ≡ false → departs q a ≡ 0
off-departs q (Depart r to a hop) h = ap (λ b. cond b 1 0) (off-port q r h)
off-departs q _ h = refl

-- one that is held did not end
held-left : (s : world.Spot) (n : ℕ) → is_held s ≡ true → cond (is_ended s) n 0 ≡ 0
held-left (spots.Held a) n h = refl
held-left (spots.Moving a) n h = absurd (false≢true h)
held-left spots.Ended n h = absurd (false≢true h)

moving-left : (s : world.Spot) (n : ℕ) → is_moving s ≡ true → cond (is_ended s) n 0 ≡ 0
moving-left (spots.Held a) n h = absurd (false≢true h)
moving-left (spots.Moving a) n h = refl
moving-left spots.Ended n h = absurd (false≢true h)

arrived-left : (s : world.Spot) (n : ℕ) → is_moving s ≡ true → cond (is_ended (arrived s)) n 0 ≡ 0
arrived-left (spots.Held a) n h = absurd (false≢true h)
arrived-left (spots.Moving a) n h = refl
arrived-left spots.Ended n h = absurd (false≢true h)

zero-more : (n : ℕ) → n ≡ 0 + n
zero-more n = omega arith

module _ (l : Layout) (past : List Entry) (p s : ℕ) (q : Ui) (layout : IsLayout l) (legal : is_legal l past ≡ true) where
  abbrev o : Option PortState
  o = fate (on q past)

  abbrev May : Act → Type 0
  May a = act_may l (views past p s a) p s a ≡ true

  -- a number of a port that is held, and of it after the act
  at-held : (value : Option PortState → ℕ) (n : ℕ) (a : Act) → is_held_at p o ≡ true → ((f : PortState) → is_held f.spot ≡ true → o ≡ Some f → value (fate_after p a (Some f)) ≡ n + value (Some f)) → value (fate_after p a o) ≡ n + value o
  at-held value n a h k =
      let f = held_fate p o h in
      subst (λ z. value (fate_after p a z) ≡ n + value z) (sym f.2) (k f.0 (ap is_held f.3) f.2)

  none-left : (f : PortState) → is_held f.spot ≡ true → left_in (Some f) ≡ 0
  none-left f h = held-left f.spot (ports.waiting f) h

  -- both are 0
  stays-none : (a : Act) → is_held_at p o ≡ true → ((f : PortState) → is_held f.spot ≡ true → left_in (fate_after p a (Some f)) ≡ 0) → left_in (fate_after p a o) ≡ 0 + left_in o
  stays-none a h k = at-held left_in 0 a h (λ f i e. k f i ∙ (sym (none-left f i) ∙ zero-more (left_in (Some f))))

  left-grows : (a : Act) → held_port_of a ≡ Some q → Needs p a o → May a → left_in (fate_after p a o) ≡ discards q a + left_in o
  left-grows (Make r b c) e n m =
      let same : r ≡ q = some_is r q e in
      let none : o ≡ None = subst (λ z. fate (on z past) ≡ None) same (make_new l past p s r b c layout ((legal_inv l past layout legal).ports r) m).0 in
      ap (λ z. 0 + left_in z) (sym none)
  left-grows (Delete r xs) e n m =
      let same : r ≡ q = some_is r q e in
      at-held left_in (discards q (Delete r xs)) (Delete r xs) n
      (λ f i is.
      let waits : are_waiting xs (Some f) ≡ true = subst (λ z. are_waiting xs z ≡ true) is (subst (λ z. are_waiting xs (fate (on z past)) ≡ true) same (and_parts (is_held_at p (fate (on r past))) (are_waiting xs (fate (on r past))) m).1) in
      let ids : length xs ≡ length f.accepted - f.taken = ap length (from_same_ids xs (drop f.taken f.accepted) waits) ∙ length-drop f.taken f.accepted in
      let part : discards q (Delete r xs) ≡ length xs = ap (λ z. cond (same_ui z q) (length xs) 0) same ∙ ap (λ b. cond b (length xs) 0) (same_ui-self q) in
      let old = none-left f i in
      omega (arith, ids, part, old))
  left-grows (Arrive r hop) e n m =
      let f = coming_fate p hop o n in
      let moving : is_moving (f.0).spot ≡ true = ap is_moving f.3 in
      subst (λ z. left_in (fate_after p (Arrive r hop) z) ≡ 0 + left_in z) (sym f.2)
      (arrived-left (f.0).spot (ports.waiting (f.0)) moving ∙ (sym (moving-left (f.0).spot (ports.waiting (f.0)) moving) ∙ zero-more (left_in (Some f.0))))
  left-grows (Accept x r k) e n m = stays-none (Accept x r k) n (λ f i. held-left f.spot _ i)
  left-grows (Full x r k) e n m = stays-none (Full x r k) n (λ f i. none-left f i)
  left-grows (Already x r) e n m = stays-none (Already x r) n (λ f i. none-left f i)
  left-grows (ClientsFull x r) e n m = stays-none (ClientsFull x r) n (λ f i. none-left f i)
  left-grows (Take r k x) e n m = stays-none (Take r k x) n (λ f i. held-left f.spot _ i)
  left-grows (Empty r) e n m = stays-none (Empty r) n (λ f i. none-left f i)
  left-grows (Rehome r b) e n m = stays-none (Rehome r b) n (λ f i. refl)
  left-grows (Depart r to b hop) e n m = stays-none (Depart r to b hop) n (λ f i. refl)
  left-grows _ e n m = none_some q e

  hops-grow : (a : Act) → held_port_of a ≡ Some q → Needs p a o → May a → hops_of (fate_after p a o) ≡ departs q a + hops_of o
  hops-grow (Make r b c) e n m =
      let same : r ≡ q = some_is r q e in
      let none : o ≡ None = subst (λ z. fate (on z past) ≡ None) same (make_new l past p s r b c layout ((legal_inv l past layout legal).ports r) m).0 in
      ap (λ z. 0 + hops_of z) (sym none)
  hops-grow (Depart r to b hop) e n m =
      let same : r ≡ q = some_is r q e in
      at-held hops_of (departs q (Depart r to b hop)) (Depart r to b hop) n
      (λ f i is.
      let part : departs q (Depart r to b hop) ≡ 1 = ap (λ z. cond (same_ui z q) 1 0) same ∙ ap (λ b. cond b 1 0) (same_ui-self q) in
      let some : 0 < length f.path = subst (λ z. 0 < length (path_of l q z)) is ((legal_inv l past layout legal).ports q).some in
      let more = length_push f.path to in
      omega (arith, part, some, more))
  hops-grow (Arrive r hop) e n m =
      let f = coming_fate p hop o n in
      subst (λ z. hops_of (fate_after p (Arrive r hop) z) ≡ 0 + hops_of z) (sym f.2) (zero-more (hops_of (Some f.0)))
  hops-grow (Delete r xs) e n m = at-held hops_of 0 (Delete r xs) n (λ f i is. zero-more (hops_of (Some f)))
  hops-grow (Accept x r k) e n m = at-held hops_of 0 (Accept x r k) n (λ f i is. zero-more (hops_of (Some f)))
  hops-grow (Full x r k) e n m = at-held hops_of 0 (Full x r k) n (λ f i is. zero-more (hops_of (Some f)))
  hops-grow (Already x r) e n m = at-held hops_of 0 (Already x r) n (λ f i is. zero-more (hops_of (Some f)))
  hops-grow (ClientsFull x r) e n m = at-held hops_of 0 (ClientsFull x r) n (λ f i is. zero-more (hops_of (Some f)))
  hops-grow (Take r k x) e n m = at-held hops_of 0 (Take r k x) n (λ f i is. zero-more (hops_of (Some f)))
  hops-grow (Empty r) e n m = at-held hops_of 0 (Empty r) n (λ f i is. zero-more (hops_of (Some f)))
  hops-grow (Rehome r b) e n m = at-held hops_of 0 (Rehome r b) n (λ f i is. zero-more (hops_of (Some f)))
  hops-grow _ e n m = none_some q e

-- Sums over the ports.

module _ (l : Layout) (past : List Entry) (layout : IsLayout l) (h : is_legal l past ≡ true) where
  abbrev qs : List Ui
  qs = made_ports (reverse past)

  once-made : (q : Ui) → is_made (fate (on q past)) ≡ true → count_by (same_ui q) qs ≡ 1
  once-made q m = ports-once l past q layout h ∙ ap (λ b. if b then 1 else 0) m

  nothing : (n : ℕ) → n ≡ 0 → sum_by (λ (q : Ui). 0) qs ≡ n
  nothing n e = sum-zero qs ∙ sym e

  accept-told : (e : Entry) → IsCounted past e → sum_by (λ q. one (accepts q e.act)) qs ≡ one (is_accept e.act)
  accept-told e k = go e.act k
    where
      go : (a : Act) → ((q : Ui) → counted a ≡ Some q → is_made (fate (on q past)) ≡ true) → sum_by (λ q. one (accepts q a)) (made_ports (reverse past)) ≡ one (is_accept a)
      go (Accept x r n) k = sum-one (same_ui r) 1 (made_ports (reverse past)) (once-made r (k r refl))
      go _ k = nothing 0 refl

  take-told : (e : Entry) → IsCounted past e → sum_by (λ q. one (gives q e.act)) qs ≡ one (is_take e.act)
  take-told e k = go e.act k
    where
      go : (a : Act) → ((q : Ui) → counted a ≡ Some q → is_made (fate (on q past)) ≡ true) → sum_by (λ q. one (gives q a)) (made_ports (reverse past)) ≡ one (is_take a)
      go (Take r n x) k = sum-one (same_ui r) 1 (made_ports (reverse past)) (once-made r (k r refl))
      go _ k = nothing 0 refl

  discard-told : (e : Entry) → IsCounted past e → sum_by (λ q. discards q e.act) qs ≡ ids_discarded e.act
  discard-told e k = go e.act k
    where
      go : (a : Act) → ((q : Ui) → counted a ≡ Some q → is_made (fate (on q past)) ≡ true) → sum_by (λ q. discards q a) (made_ports (reverse past)) ≡ ids_discarded a
      go (Delete r xs) k = sum-one (same_ui r) (length xs) (made_ports (reverse past)) (once-made r (k r refl))
      go _ k = nothing 0 refl

  depart-told : (e : Entry) → IsCounted past e → sum_by (λ q. departs q e.act) qs ≡ one (is_depart e.act)
  depart-told e k = go e.act k
    where
      go : (a : Act) → ((q : Ui) → counted a ≡ Some q → is_made (fate (on q past)) ≡ true) → sum_by (λ q. departs q a) (made_ports (reverse past)) ≡ one (is_depart a)
      go (Depart r to b hop) k = sum-one (same_ui r) 1 (made_ports (reverse past)) (once-made r (k r refl))
      go _ k = nothing 0 refl

  -- a number of all entries, by port
  by-port : (weight : Entry → ℕ) (part : Ui → Entry → ℕ) (value : Ui → ℕ) → ((e : Entry) → IsCounted past e → sum_by (λ q. part q e) qs ≡ weight e) → ((q : Ui) → sum_by (part q) past ≡ value q) → sum_by weight (reverse past) ≡ sum_by value qs
  by-port weight part value told each =
      sum-reverse weight past
      ∙ (sum-by-keys weight part qs past (each-more (IsCounted past) (λ (e : Entry). sum_by (λ q. part q e) qs ≡ weight e) told past (all-counted l past h))
      ∙ sum-same (λ q. sum_by (part q) past) value each qs)

  accepted-in-is : (o : Option PortState) → accepted_in o ≡ length (accepted_from o)
  accepted-in-is None = refl
  accepted-in-is (Some f) = refl

  taken-in-is : (o : Option PortState) → taken_in o ≡ taken_from o
  taken-in-is None = refl
  taken-in-is (Some f) = refl

  pub sums-of-ports : SumsOfPorts past
  sums-of-ports =
      record {
        once = λ q. ports-once l past q layout h;
        accepted =
            by-port (λ e. one (is_accept e.act)) (λ q e. one (accepts q e.act)) (λ q. length (accepted_by q past)) accept-told
            (λ q. sym (sum-reverse (λ (e : Entry). one (accepts q e.act)) past) ∙ ((shows l past q layout h).accepted ∙ accepted-in-is (fate (on q past))));
        taken =
            by-port (λ e. one (is_take e.act)) (λ q e. one (gives q e.act)) (λ q. taken_by q past) take-told
            (λ q. sym (sum-reverse (λ (e : Entry). one (gives q e.act)) past) ∙ ((shows l past q layout h).taken ∙ taken-in-is (fate (on q past))));
        discarded =
            by-port (λ e. ids_discarded e.act) (λ q e. discards q e.act) (λ q. left_in (fate (on q past))) discard-told
            (λ q. line-number q (discards q) left_in refl (off-discards q) (λ m older p s a i k line n may. left-grows m older p s q i k a line n may) l past layout h);
        departs =
            by-port (λ e. one (is_depart e.act)) (λ q e. departs q e.act) (λ q. hops_of (fate (on q past))) depart-told
            (λ q. line-number q (departs q) hops_of refl (off-departs q) (λ m older p s a i k line n may. hops-grow m older p s q i k a line n may) l past layout h);
      }
