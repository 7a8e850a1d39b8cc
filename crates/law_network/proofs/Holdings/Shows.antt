-- The records and the Transfers of a network stand for the past that it stands for, and for the merge of its journals.
use Rattle.chorus_world.specs.Clients.{clients_kept, clients_after}
use Rattle.std.proofs.Common.{ℕ, zero, suc, ◌≡◌, ◌≢◌, ◌<◌, ◌≤◌, ◌+◌, ◌==◌, nat_lt, nat_le, Bool, true, false, not, cond, List, [], ◌∷◌, ◌++◌, map, drop, Option, Some, None, is_some, option_to_list, refl, sym, ◌∙◌, ap, subst, inl, inr, arith}
use Rattle.std.specs.List.{filter, flat_map}
use Rattle.std.proofs.lemmas.Bool.{cases_Bool, eqb-true, eq-eqb, ne_eqb, and_parts, false≢true, ltb-false, ltb-true, leb-true, leb-false}
use Rattle.std.proofs.lemmas.List.Elements.{filter-append}
use Rattle.std.proofs.lemmas.List.{append-nil}
use Rattle.chorus_ui.specs.declared.ui.Ui.{Ui}
use Rattle.chorus_ui.specs.Layout as layout
use Rattle.chorus_ui.specs.Name.{same_ui}
use Rattle.chorus_ui.proofs.Names.{from_same_ui}
use Rattle.chorus_entry.specs.declared.entry.Entry.{Entry}
use Rattle.chorus_entry.specs.declared.id.MsgId.{MsgId}
use Rattle.chorus_entry.specs.declared.act.Act.{Act}
use Rattle.chorus_entry.specs.declared.packet.Cargo.{Cargo}
use Rattle.chorus_entry.specs.declared.record.PortRecord.{PortRecord}
use Rattle.chorus_world.specs.declared.spot.Spot.{Spot}
use Rattle.chorus_world.specs.declared.spot.Spot.TheVariants as spots
use Rattle.chorus_world.specs.Views.{on}
use Rattle.chorus_world.specs.Posts.{posted_in, source, tag_from, as_posted}
use Rattle.chorus_world.specs.Ports.{PortState, fate, last_of}
use Rattle.chorus_world.specs.Order.{sort}
use Rattle.chorus_world.specs.SortingLaws.{SortsViews}
use Rattle.chorus_entry.specs.Clients.{remembered}
use Rattle.chorus_ports.specs.Table.{find, are_distinct}
use Rattle.law_machine.specs.declared.outgoing.Outgoing.{Outgoing}
use Rattle.law_machine.specs.PlaceState.{PlaceState}
use Rattle.law_network.proofs.Standing.Turning.{number-is}
use Rattle.law_network.specs.Network.{NetState, numbers, place}
use Rattle.law_network.specs.Records.{message, record_for, record_held, record_here, record_at}
use Rattle.law_network.specs.UnderWay.{moves, is_with, before_last, transfer_in, transfer_of, transfer}
use Rattle.law_network.specs.Stands.{Stands}
use Rattle.law_network.specs.Left.{merged_past}
use Rattle.law_network.specs.Holdings.{Holding, At, OnTheWay, holds, told_of, told_in, holding_told, StandsFor, held_at, moved_in, moved_by, holdings_in}
use Rattle.law_network.proofs.Merge.Journals.{map-from, map-places, place-absent, views, merge-is}

-- Lists of lists, end to end.

abbrev join : {X : Type 0} → List (List X) → List X
join [] = []
join (xs ∷ xss) = xs ++ join xss

flat-join : {X Y : Type 0} → (f : X → List Y) (xs : List X) → flat_map f xs ≡ join (map f xs)
flat-join f [] = refl
flat-join f (x ∷ xs) = ap (λ ys. f x ++ ys) (flat-join f xs)

filter-join : {X Y : Type 0} → (t : Y → Bool) (g : X → List Y) (xs : List X) → filter t (join (map g xs)) ≡ join (map (λ x. filter t (g x)) xs)
filter-join t g [] = refl
filter-join t g (x ∷ xs) = filter-append t (g x) (join (map g xs)) ∙ ap (λ ys. filter t (g x) ++ ys) (filter-join t g xs)

join-none : {X Y : Type 0} → (g : X → List Y) (xs : List X) → ((x : X) → g x ≡ []) → join (map g xs) ≡ []
join-none g [] h = refl
join-none g (x ∷ xs) h = ap (λ ys. ys ++ join (map g xs)) (h x) ∙ join-none g xs h

-- where one number alone has something
join-before : {Y : Type 0} → (g : ℕ → List Y) (m p j : ℕ) → j < p → ((k : ℕ) → k ≢ j → g k ≡ []) → join (map g (numbers m p)) ≡ []
join-before g zero p j lt h = refl
join-before g (suc m) p j lt h =
    ap (λ ys. ys ++ join (map g (numbers m (p + 1)))) (h p (λ same. omega (arith, lt, same))) ∙ join-before g m (p + 1) j (omega (arith, lt)) h

join-one : {Y : Type 0} → (g : ℕ → List Y) (m p j : ℕ) → p ≤ j → j < p + m → ((k : ℕ) → k ≢ j → g k ≡ []) → join (map g (numbers m p)) ≡ g j
join-one g zero p j le lt h = absurd (omega (arith, le, lt))
join-one g (suc m) p j le lt h =
    elim (cases_Bool (p == j)) [
      | inl here ↦ (
          let same : p ≡ j = eqb-true p j here in
          ap (λ ys. g p ++ ys) (join-before g m (p + 1) j (omega (arith, same)) h) ∙ append-nil (g p) ∙ ap g same)
      | inr other ↦ (
          let ne : p ≢ j = (λ same. false≢true (sym other ∙ eq-eqb p j same)) in
          ap (λ ys. ys ++ join (map g (numbers m (p + 1)))) (h p ne) ∙ join-one g m (p + 1) j (omega (arith, le, ne)) (omega (arith, lt)) h)
    ]

-- Records.

find-filter : (q : Ui) (ports : List PortRecord) → are_distinct ports ≡ true → filter (λ (r : PortRecord). same_ui r.ui q) ports ≡ option_to_list (find q ports)
find-filter q [] h = refl
find-filter q (r ∷ rs) h = go (same_ui r.ui q) refl (find-filter q rs (and_parts (not (is_some (find r.ui rs))) (are_distinct rs) h).1)
  where
    none : (o : Option PortRecord) → not (is_some o) ≡ true → option_to_list o ≡ []
    none None k = refl
    none (Some x) k = absurd (false≢true k)

    go : (b : Bool) → same_ui r.ui q ≡ b → filter (λ (r : PortRecord). same_ui r.ui q) rs ≡ option_to_list (find q rs) → cond b (r ∷ filter (λ (r : PortRecord). same_ui r.ui q) rs) (filter (λ (r : PortRecord). same_ui r.ui q) rs) ≡ option_to_list (cond b (Some r) (find q rs))
    go true e ih =
        let alone : not (is_some (find q rs)) ≡ true = subst (λ u. not (is_some (find u rs)) ≡ true) (from_same_ui r.ui q e) (and_parts (not (is_some (find r.ui rs))) (are_distinct rs) h).0 in
        ap (λ ys. r ∷ ys) (ih ∙ none (find q rs) alone)
    go false e ih = ih

filter-at : (q : Ui) (p : ℕ) (ports : List PortRecord) → filter (holds q) (map (At p) ports) ≡ map (At p) (filter (λ (r : PortRecord). same_ui r.ui q) ports)
filter-at q p [] = refl
filter-at q p (r ∷ rs) = go (same_ui r.ui q) (filter-at q p rs)
  where
    go : (b : Bool) → filter (holds q) (map (At p) rs) ≡ map (At p) (filter (λ (r : PortRecord). same_ui r.ui q) rs) → cond b (At p r ∷ filter (holds q) (map (At p) rs)) (filter (holds q) (map (At p) rs)) ≡ map (At p) (cond b (r ∷ filter (λ (r : PortRecord). same_ui r.ui q) rs) (filter (λ (r : PortRecord). same_ui r.ui q) rs))
    go true ih = ap (λ ys. At p r ∷ ys) ih
    go false ih = ih

-- Transfers.

moved-filter : (q : Ui) (os : List Outgoing) → filter (holds q) (flat_map moved_by os) ≡ flat_map moved_by (filter (is_with q) os)
moved-filter q [] = refl
moved-filter q (o ∷ os) =
    filter-append (holds q) (moved_by o) (flat_map moved_by os)
    ∙ ap (λ ys. filter (holds q) (moved_by o) ++ ys) (moved-filter q os)
    ∙ go (filter (is_with q) os) o.packet.cargo refl
  where
    go : (us : List Outgoing) (k : Cargo) → o.packet.cargo ≡ k → filter (holds q) (moved_in o.packet.from o.to k) ++ flat_map moved_by us ≡ flat_map moved_by (cond (moves q k) (o ∷ us) us)
    go us (Cargo.Transfer port) e = kept (same_ui port.ui q)
      where
        kept : (b : Bool) → cond b (OnTheWay o.packet.from o.to port ∷ []) [] ++ flat_map moved_by us ≡ flat_map moved_by (cond b (o ∷ us) us)
        kept true = sym (ap (λ c. moved_in o.packet.from o.to c ++ flat_map moved_by us) e)
        kept false = refl
    go us _ e = refl

-- the record at each place, as a holding
abbrev one_at : ℕ → Option PortRecord → List Holding
one_at p o = map (At p) (option_to_list o)

module _ (n : NetState) (past : List Entry) (s : Stands n past) where
  held-filter : (q : Ui) → filter (holds q) (flat_map held_at n.places) ≡ join (map (λ (k : ℕ). one_at k (record_at past q k)) (numbers (layout.places n.layout) 1))
  held-filter q =
      ap (filter (holds q)) (flat-join held_at n.places ∙ ap join (map-places held_at n.layout n.places (layout.places n.layout) 1 s.places.numbers))
      ∙ filter-join (holds q) (λ k. held_at (place k n)) (numbers (layout.places n.layout) 1)
      ∙ ap join (map-from (λ k. filter (holds q) (held_at (place k n))) (λ k. one_at k (record_at past q k)) (layout.places n.layout) 1 (λ k le.
      ap (λ i. filter (holds q) (map (At i) (place k n).ports)) (number-is n.layout k n.places)
      ∙ filter-at q k (place k n).ports
      ∙ ap (map (At k)) (find-filter q (place k n).ports (s.once k) ∙ ap option_to_list (s.ports k q))))

  -- who is held is held at a place of the layout
  in-layout : (q : Ui) (j : ℕ) (r : PortRecord) → record_at past q j ≡ Some r → (1 ≤ j) × (j < 1 + layout.places n.layout)
  in-layout q j r h =
      elim (cases_Bool (nat_le 1 j)) [
        | inl a ↦ elim (cases_Bool (nat_lt j (1 + layout.places n.layout))) [
          | inl b ↦ (leb-true 1 j a, ltb-true j (1 + layout.places n.layout) b)
          | inr b ↦ (let far = ltb-false j (1 + layout.places n.layout) b in absurd (gone (λ c d. omega (arith, far, d))))
        ]
        | inr a ↦ (let low = leb-false 1 j a in absurd (gone (λ c d. omega (arith, low, c))))
      ]
    where
      gone : (1 ≤ j → j < 1 + layout.places n.layout → ⊥) → ⊥
      gone o =
          let absent = ap (λ (p : PlaceState). find q p.ports) (place-absent n.layout n.places (layout.places n.layout) 1 j s.places.numbers o) in
          let both : None ≡ Some r = sym absent ∙ s.ports j q ∙ h in
          absurd (cc)

  pub shows-past : StandsFor past (holdings_in n)
  shows-past = record {
    shown = λ q.
        filter-append (holds q) (flat_map held_at n.places) (flat_map moved_by n.packets)
        ∙ ap (λ ys. filter (holds q) (flat_map held_at n.places) ++ ys) (moved-filter q n.packets ∙ ap (flat_map moved_by) (s.transfers q))
        ∙ ap (λ ys. ys ++ flat_map moved_by (transfer past q)) (held-filter q)
        ∙ by-fate q (fate (on q past)) refl;
  }
    where
      nowhere : (q : Ui) (o : Option PortState) → fate (on q past) ≡ o → ((p : ℕ) → record_here past (on q past) q p o ≡ None) → join (map (λ (k : ℕ). one_at k (record_at past q k)) (numbers (layout.places n.layout) 1)) ≡ []
      nowhere q o e h = join-none (λ (k : ℕ). one_at k (record_at past q k)) (numbers (layout.places n.layout) 1) (λ k. ap (one_at k) (ap (record_here past (on q past) q k) e ∙ h k))

      by-spot : (q : Ui) (f : PortState) (spot : Spot) → f.spot ≡ spot → fate (on q past) ≡ Some f → join (map (λ (k : ℕ). one_at k (record_at past q k)) (numbers (layout.places n.layout) 1)) ++ flat_map moved_by (transfer_in past (on q past) q f spot) ≡ told_in past q f spot
      by-spot q f (spots.Held actor) e g =
          let j = last_of 0 f.path in
          let r = record_for past (on q past) q actor f in
          let is : (k : ℕ) → record_at past q k ≡ cond (j == k) (Some r) None = λ k. ap (record_here past (on q past) q k) g ∙ ap (record_held past (on q past) q k f) e in
          let held : record_at past q j ≡ Some r = is j ∙ ap (λ b. cond b (Some r) None) (eq-eqb j j refl) in
          let inside = in-layout q j r held in
          append-nil (join (map (λ (k : ℕ). one_at k (record_at past q k)) (numbers (layout.places n.layout) 1)))
          ∙ join-one (λ (k : ℕ). one_at k (record_at past q k)) (layout.places n.layout) 1 j inside.0 inside.1
          (λ k ne. ap (one_at k) (is k ∙ ap (λ b. cond b (Some r) None) (ne_eqb j k (λ same. ne (sym same)))))
          ∙ ap (one_at j) held
      by-spot q f (spots.Moving actor) e g =
          ap (λ ys. ys ++ OnTheWay (before_last 0 0 f.path) (last_of 0 f.path) (record_for past (on q past) q actor f) ∷ []) (nowhere q (Some f) g (λ p. ap (record_held past (on q past) q p f) e))
      by-spot q f spots.Ended e g = ap (λ ys. ys ++ []) (nowhere q (Some f) g (λ p. ap (record_held past (on q past) q p f) e))

      by-fate : (q : Ui) (o : Option PortState) → fate (on q past) ≡ o → join (map (λ (k : ℕ). one_at k (record_at past q k)) (numbers (layout.places n.layout) 1)) ++ flat_map moved_by (transfer past q) ≡ told_of past q (fate (on q past))
      by-fate q None g =
          ap (λ ys. ys ++ flat_map moved_by (transfer past q)) (nowhere q None g (λ p. refl))
          ∙ ap (λ o. flat_map moved_by (transfer_of past (on q past) q o)) g ∙ sym (ap (told_of past q) g)
      by-fate q (Some f) g =
          ap (λ o. join (map (λ (k : ℕ). one_at k (record_at past q k)) (numbers (layout.places n.layout) 1)) ++ flat_map moved_by (transfer_of past (on q past) q o)) g
          ∙ by-spot q f f.spot refl g ∙ sym (ap (told_of past q) g)

-- The same of the sorted past.

message-sort : (past : List Entry) (x : MsgId) → SortsViews past → message (sort past) x ≡ message past x
message-sort past x v = ap (λ mine. as_posted x (posted_in (source x) mine)) (v.seats x.seat)

messages-sort : (past : List Entry) (xs : List MsgId) → SortsViews past → map (message (sort past)) xs ≡ map (message past) xs
messages-sort past [] v = refl
messages-sort past (x ∷ xs) v =
    ap (λ y. y ∷ map (message (sort past)) xs) (message-sort past x v) ∙ ap (λ ys. message past x ∷ ys) (messages-sort past xs v)

after-sort : (past : List Entry) (act : Act) (table : List (ℕ × ℕ)) → SortsViews past → clients_after (sort past) act table ≡ clients_after past act table
after-sort past (Act.Accept x q n) table v = ap (λ mine. remembered x.seat (tag_from (posted_in (source x) mine)) table) (v.seats x.seat)
after-sort past _ table v = refl

clients-sort : (past line : List Entry) → SortsViews past → clients_kept (sort past) line ≡ clients_kept past line
clients-sort past [] v = refl
clients-sort past (e ∷ line) v =
    ap (clients_after (sort past) e.act) (clients-sort past line v) ∙ after-sort past e.act (clients_kept past line) v

record-sort : (past : List Entry) (q a : Ui) (f : PortState) → SortsViews past → record_for (sort past) (on q (sort past)) q a f ≡ record_for past (on q past) q a f
record-sort past q a f v =
    let pending = messages-sort past (drop f.taken f.accepted) v in
    let clients : clients_kept (sort past) (on q (sort past)) ≡ clients_kept past (on q past) = ap (clients_kept (sort past)) (v.ports q) ∙ clients-sort past (on q past) v in
    ap (λ ms. record (record_for (sort past) (on q (sort past)) q a f) { pending = ms }) pending ∙ ap (λ cs. record (record_for past (on q past) q a f) { clients = cs }) clients

told-sort : (past : List Entry) (q : Ui) → SortsViews past → holding_told (sort past) q ≡ holding_told past q
told-sort past q v = ap (λ line. told_of (sort past) q (fate line)) (v.ports q) ∙ by-fate (fate (on q past))
  where
    by-spot : (f : PortState) (spot : Spot) → told_in (sort past) q f spot ≡ told_in past q f spot
    by-spot f (spots.Held actor) = ap (λ r. At (last_of 0 f.path) r ∷ []) (record-sort past q actor f v)
    by-spot f (spots.Moving actor) = ap (λ r. OnTheWay (before_last 0 0 f.path) (last_of 0 f.path) r ∷ []) (record-sort past q actor f v)
    by-spot f spots.Ended = refl

    by-fate : (o : Option PortState) → told_of (sort past) q o ≡ told_of past q o
    by-fate None = refl
    by-fate (Some f) = by-spot f f.spot

pub shows-merge : (n : NetState) (past : List Entry) → Stands n past → StandsFor (merged_past n) (holdings_in n)
shows-merge n past s =
    record { shown = λ q. (shows-past n past s).shown q ∙ sym (told-sort past q (views n past s)) ∙ ap (λ all. holding_told all q) (sym (merge-is n past s)) }
