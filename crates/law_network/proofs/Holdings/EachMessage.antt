-- Each accepted message stands in holdings by its fate.
use Rattle.std.proofs.Common.{ℕ, zero, suc, ◌≡◌, ◌<◌, ◌≤◌, ◌+◌, ◌-◌, Bool, true, false, ◌||◌, cond, nat_lt, List, [], ◌∷◌, map, drop, Option, Some, None, refl, sym, ◌∙◌, ap, subst, arith}
use Rattle.std.specs.Prelude.{slice_get}
use Rattle.std.specs.List.{All, filter}
use Rattle.std.proofs.lemmas.Bool.{or_left, or_right, false≢true, ltb-true, ltb-false}
use Rattle.std.proofs.lemmas.List.Elements.{All-nil, All-cons, All-head, All-tail, All-weaker}
use Rattle.std.proofs.lemmas.Option.{slice_get_within}
use Rattle.chorus_ui.specs.declared.ui.Ui.{Ui}
use Rattle.chorus_ui.specs.Name.{same_ui}
use Rattle.chorus_ui.proofs.Names.{same_ui-self}
use Rattle.chorus_entry.specs.declared.entry.Entry.{Entry}
use Rattle.chorus_entry.specs.declared.id.MsgId.{MsgId}
use Rattle.chorus_entry.specs.declared.message.Message.{Message}
use Rattle.chorus_entry.specs.declared.record.PortRecord.{PortRecord}
use Rattle.chorus_entry.specs.MsgId.{same_id}
use Rattle.chorus_entry.proofs.Same.{from_same_id, same_id-self}
use Rattle.chorus_world.specs.declared.spot.Spot.{Spot}
use Rattle.chorus_world.specs.declared.spot.Spot.TheVariants as spots
use Rattle.chorus_world.specs.Views.{on}
use Rattle.chorus_world.specs.Posts.{Posted, as_posted, post_of}
use Rattle.chorus_world.specs.Ports.{PortState, fate, last_of}
use Rattle.chorus_world.specs.Fates.{fate_at, fate_left}
use Rattle.chorus_world.specs.Fates.MessageFate.{Received}
use Rattle.chorus_world.specs.AcceptedLaws.{accepted_by, accepted_from}
use Rattle.law_network.specs.Records.{message, record_for}
use Rattle.law_network.specs.UnderWay.{before_last}
use Rattle.law_network.specs.Holdings.{Holding, At, OnTheWay, record_in, holds, told_in, told_of, holding_told, StandsFor}
use Rattle.law_network.specs.EachMessage.{waiting_in, is_among, is_waiting_in, fate_in, WaitsOnce, StandsByFate, HoldsAccepted, HoldingsHoldEach}

-- Lists of ids.

drop-index : (xs : List MsgId) (n j : ℕ) → slice_get (drop n xs) j ≡ slice_get xs (n + j)
drop-index xs zero j = let e : j ≡ 0 + j = omega arith in ap (slice_get xs) e
drop-index [] (suc n) j = refl
drop-index (x ∷ xs) (suc n) j = let e : suc (n + j) ≡ suc n + j = omega arith in drop-index xs n j ∙ ap (slice_get (x ∷ xs)) e

none-in : (k : ℕ) (x : MsgId) → slice_get {X = MsgId} [] k ≡ Some x → ⊥
none-in k x h = let lt : k < 0 = slice_get_within [] k x h in omega (arith, lt)

index-of : (x : MsgId) (xs : List MsgId) → is_among x xs ≡ true → (j : ℕ) × (slice_get xs j ≡ Some x)
index-of x [] h = absurd (false≢true h)
index-of x (y ∷ ys) h = go (same_id x y) refl h (index-of x ys)
  where
    go : (b : Bool) → same_id x y ≡ b → b || is_among x ys ≡ true → (is_among x ys ≡ true → (j : ℕ) × (slice_get ys j ≡ Some x)) → (j : ℕ) × (slice_get (y ∷ ys) j ≡ Some x)
    go true e k later = (0, ap (λ z. Some z) (sym (from_same_id x y e)))
    go false e k later = let rest = later k in (suc rest.0, rest.1)

among-at : (x : MsgId) (xs : List MsgId) (j : ℕ) → slice_get xs j ≡ Some x → is_among x xs ≡ true
among-at x [] j h = absurd (none-in j x h)
among-at x (y ∷ ys) zero h =
    let same : y ≡ x = cc in
    or_left (same_id x y) (is_among x ys) (subst (λ z. same_id x z ≡ true) (sym same) (same_id-self x))
among-at x (y ∷ ys) (suc j) h = or_right (same_id x y) (is_among x ys) (among-at x ys j h)

filter-nowhere : (x : MsgId) (xs : List MsgId) → ((j : ℕ) → slice_get xs j ≡ Some x → ⊥) → filter (same_id x) xs ≡ []
filter-nowhere x [] none = refl
filter-nowhere x (y ∷ ys) none = go (same_id x y) refl (filter-nowhere x ys (λ j h. none (suc j) h))
  where
    go : (b : Bool) → same_id x y ≡ b → filter (same_id x) ys ≡ [] → cond b (y ∷ filter (same_id x) ys) (filter (same_id x) ys) ≡ []
    go true e later = absurd (none 0 (ap (λ z. Some z) (sym (from_same_id x y e))))
    go false e later = later

-- an id that stands at one index alone
filter-once : (x : MsgId) (xs : List MsgId) (k : ℕ) → slice_get xs k ≡ Some x → ((j : ℕ) → slice_get xs j ≡ Some x → j ≡ k) → filter (same_id x) xs ≡ x ∷ []
filter-once x [] k h only = absurd (none-in k x h)
filter-once x (y ∷ ys) k h only = go (same_id x y) refl (λ i at alone. filter-once x ys i at alone)
  where
    Rest : Type 0
    Rest = (i : ℕ) → slice_get ys i ≡ Some x → ((j : ℕ) → slice_get ys j ≡ Some x → j ≡ i) → filter (same_id x) ys ≡ x ∷ []

    later : (i : ℕ) → k ≡ i → slice_get (y ∷ ys) i ≡ Some x → same_id x y ≡ false → Rest → filter (same_id x) ys ≡ x ∷ []
    later zero e at differ rest =
        let same : y ≡ x = cc in
        absurd (false≢true (sym differ ∙ subst (λ z. same_id x z ≡ true) (sym same) (same_id-self x)))
    later (suc i) e at differ rest = rest i at (λ j g. let next : suc j ≡ k = only (suc j) g in omega (arith, next, e))

    go : (b : Bool) → same_id x y ≡ b → Rest → cond b (y ∷ filter (same_id x) ys) (filter (same_id x) ys) ≡ x ∷ []
    go true e rest =
        let same : x ≡ y = from_same_id x y e in
        let first : 0 ≡ k = only 0 (ap (λ z. Some z) (sym same)) in
        ap (λ zs. y ∷ zs) (filter-nowhere x ys (λ j g. let next : suc j ≡ k = only (suc j) g in omega (arith, first, next)))
        ∙ ap (λ z. z ∷ []) (sym same)
    go false e rest = later k refl h e rest

-- Holdings.

-- those of each port are those of all
all-by-port : (P : Holding → Type 0) (hs : List Holding) → ((q : Ui) → All P (filter (holds q) hs)) → All P hs
all-by-port P [] h = All-nil P
all-by-port P (g ∷ hs) h =
    let u : Ui = (record_in g).ui in
    All-cons P g hs
    (All-head P g (filter (holds u) hs) (subst (λ b. All P (cond b (g ∷ filter (holds u) hs) (filter (holds u) hs))) (same_ui-self u) (h u)))
    (all-by-port P hs (λ q. go q (holds q g) (h q)))
  where
    go : (q : Ui) (b : Bool) → All P (cond b (g ∷ filter (holds q) hs) (filter (holds q) hs)) → All P (filter (holds q) hs)
    go q true k = All-tail P g (filter (holds q) hs) k
    go q false k = k

-- what passes one test only where it passes another
filter-through : (t u : Holding → Bool) (hs : List Holding) → All (λ (h : Holding). t h ≡ true → u h ≡ true) hs → filter t hs ≡ filter t (filter u hs)
filter-through t u [] a = refl
filter-through t u (h ∷ hs) a = go (t h) (u h) refl refl (All-head P h hs a) (filter-through t u hs (All-tail P h hs a))
  where
    P : Holding → Type 0
    P = λ (g : Holding). t g ≡ true → u g ≡ true

    go : (b c : Bool) → t h ≡ b → u h ≡ c → (t h ≡ true → u h ≡ true) → filter t hs ≡ filter t (filter u hs) → cond b (h ∷ filter t hs) (filter t hs) ≡ filter t (cond c (h ∷ filter u hs) (filter u hs))
    go true true e f imp ih = ap (λ gs. h ∷ gs) ih ∙ sym (ap (λ b. cond b (h ∷ filter t (filter u hs)) (filter t (filter u hs))) e)
    go true false e f imp ih = absurd (false≢true (sym f ∙ imp e))
    go false true e f imp ih = ih ∙ sym (ap (λ b. cond b (h ∷ filter t (filter u hs)) (filter t (filter u hs))) e)
    go false false e f imp ih = ih

-- the messages of a record have the ids that they were accepted under
message-id : (past : List Entry) (x : MsgId) → (message past x).id ≡ x
message-id past x = go (post_of x past)
  where
    go : (o : Option Posted) → (as_posted x o).id ≡ x
    go None = refl
    go (Some m) = refl

ids-are : (past : List Entry) (xs : List MsgId) → map (λ (m : Message). m.id) (map (message past) xs) ≡ xs
ids-are past [] = refl
ids-are past (x ∷ xs) = ap (λ y. y ∷ map (λ (m : Message). m.id) (map (message past) xs)) (message-id past x) ∙ ap (λ ys. x ∷ ys) (ids-are past xs)

-- a holding with the record that the past tells
record IsTold (past : List Entry) (q : Ui) (f : PortState) (h : Holding) : Type 0 where
  actor : Ui
  is : record_in h ≡ record_for past (on q past) q actor f

module _ (past : List Entry) (q : Ui) (f : PortState) (made : fate (on q past) ≡ Some f) (h : Holding) (t : IsTold past q f h) where
  told-ui : (record_in h).ui ≡ q
  told-ui = ap (λ (r : PortRecord). r.ui) t.is

  told-first : (record_in h).first ≡ f.taken
  told-first = ap (λ (r : PortRecord). r.first) t.is

  told-waiting : waiting_in h ≡ drop f.taken f.accepted
  told-waiting = ap (λ (r : PortRecord). map (λ (m : Message). m.id) r.pending) t.is ∙ ids-are past (drop f.taken f.accepted)

  told-index : (j : ℕ) → slice_get (waiting_in h) j ≡ slice_get f.accepted (f.taken + j)
  told-index j = ap (λ xs. slice_get xs j) told-waiting ∙ drop-index f.accepted f.taken j

  told-accepted : HoldsAccepted past h
  told-accepted j x at =
      ap (λ u. slice_get (accepted_by u past) ((record_in h).first + j)) told-ui
      ∙ ap (λ o. slice_get (accepted_from o) ((record_in h).first + j)) made
      ∙ ap (λ n. slice_get f.accepted (n + j)) told-first ∙ sym (told-index j) ∙ at

all-told : (past : List Entry) (q : Ui) → All (HoldsAccepted past) (holding_told past q)
all-told past q = go (fate (on q past)) refl
  where
    one : (f : PortState) (h : Holding) → fate (on q past) ≡ Some f → IsTold past q f h → All (HoldsAccepted past) (h ∷ [])
    one f h made t = All-cons (HoldsAccepted past) h [] (told-accepted past q f made h t) (All-nil (HoldsAccepted past))

    by-spot : (f : PortState) (spot : Spot) → fate (on q past) ≡ Some f → All (HoldsAccepted past) (told_in past q f spot)
    by-spot f (spots.Held actor) made = one f (At (last_of 0 f.path) (record_for past (on q past) q actor f)) made (record { actor = actor; is = refl })
    by-spot f (spots.Moving actor) made =
        one f (OnTheWay (before_last 0 0 f.path) (last_of 0 f.path) (record_for past (on q past) q actor f)) made (record { actor = actor; is = refl })
    by-spot f spots.Ended made = All-nil (HoldsAccepted past)

    go : (o : Option PortState) → fate (on q past) ≡ o → All (HoldsAccepted past) (told_of past q o)
    go None made = All-nil (HoldsAccepted past)
    go (Some f) made = by-spot f f.spot made

module _ (past : List Entry) (holdings : List Holding) (s : StandsFor past holdings) where
  only-accepted : All (HoldsAccepted past) holdings
  only-accepted = all-by-port (HoldsAccepted past) holdings (λ q. subst (All (HoldsAccepted past)) (sym (s.shown q)) (all-told past q))

  -- a message that was accepted at one position of one port alone
  module _ (q : Ui) (i : ℕ) (x : MsgId) (f : PortState) (made : fate (on q past) ≡ Some f) (at : slice_get f.accepted i ≡ Some x) (alone : (r : Ui) (j : ℕ) → slice_get (accepted_by r past) j ≡ Some x → (r ≡ q) × (j ≡ i)) where
    -- waits in holdings of its port alone
    of-port : All (λ (h : Holding). is_waiting_in x h ≡ true → holds q h ≡ true) holdings
    of-port =
        All-weaker (HoldsAccepted past) (λ (h : Holding). is_waiting_in x h ≡ true → holds q h ≡ true)
        (λ h a w.
        let index = index-of x (waiting_in h) w in
        let same : (record_in h).ui ≡ q = (alone (record_in h).ui ((record_in h).first + index.0) (a index.0 x index.1)).0 in
        subst (λ u. same_ui u q ≡ true) (sym same) (same_ui-self q))
        holdings only-accepted

    waits-told : (hs : List Holding) → told_in past q f f.spot ≡ hs → filter (is_waiting_in x) holdings ≡ filter (is_waiting_in x) hs
    waits-told hs told =
        filter-through (is_waiting_in x) (holds q) holdings of-port
        ∙ ap (filter (is_waiting_in x)) (s.shown q ∙ ap (told_of past q) made ∙ told)

    module _ (h : Holding) (t : IsTold past q f h) (told : told_in past q f f.spot ≡ h ∷ []) where
      -- at its position alone
      index-is : (j : ℕ) → slice_get (waiting_in h) j ≡ Some x → f.taken + j ≡ i
      index-is j g =
          (alone q (f.taken + j) (ap (λ o. slice_get (accepted_from o) (f.taken + j)) made ∙ sym (told-index past q f made h t j) ∙ g)).1

      gone : i < f.taken → filter (is_waiting_in x) holdings ≡ []
      gone taken = waits-told (h ∷ []) told ∙ go (is_waiting_in x h) refl
        where
          go : (b : Bool) → is_waiting_in x h ≡ b → cond b (h ∷ []) [] ≡ []
          go true w =
              let index = index-of x (waiting_in h) w in
              let same = index-is index.0 index.1 in
              absurd (omega (arith, taken, same))
          go false w = refl

      waits : f.taken ≤ i → WaitsOnce holdings q i x (fate_in h)
      waits le =
          let back : f.taken + (i - f.taken) ≡ i = omega (arith, le) in
          let here : slice_get (waiting_in h) (i - f.taken) ≡ Some x = told-index past q f made h t (i - f.taken) ∙ ap (slice_get f.accepted) back ∙ at in
          let first = told-first past q f made h t in
          record {
            holding = h;
            is = refl;
            port = told-ui past q f made h t;
            position = (subst (λ n. n ≤ i) (sym first) le, ap (λ n. slice_get (waiting_in h) (i - n)) first ∙ here);
            alone =
                waits-told (h ∷ []) told
                ∙ ap (λ b. cond b (h ∷ []) []) (among-at x (waiting_in h) (i - f.taken) here);
            once = filter-once x (waiting_in h) (i - f.taken) here (λ j g. let same = index-is j g in omega (arith, same, le));
          }

    by-fate : StandsByFate holdings q i x (fate_at i f)
    by-fate = by-spot f.spot refl
      where
        by-spot : (spot : Spot) → f.spot ≡ spot → StandsByFate holdings q i x (fate_at i f)
        by-spot (spots.Held actor) e = go (nat_lt i f.taken) refl
          where
            h : Holding
            h = At (last_of 0 f.path) (record_for past (on q past) q actor f)

            t : IsTold past q f h
            t = record { actor = actor; is = refl }

            told : told_in past q f f.spot ≡ h ∷ []
            told = ap (told_in past q f) e

            go : (b : Bool) → nat_lt i f.taken ≡ b → StandsByFate holdings q i x (cond b Received (fate_left f.spot))
            go true lt = gone h t told (ltb-true i f.taken lt)
            go false ge = subst (λ z. StandsByFate holdings q i x (fate_left z)) (sym e) (waits h t told (ltb-false i f.taken ge))
        by-spot (spots.Moving actor) e = go (nat_lt i f.taken) refl
          where
            h : Holding
            h = OnTheWay (before_last 0 0 f.path) (last_of 0 f.path) (record_for past (on q past) q actor f)

            t : IsTold past q f h
            t = record { actor = actor; is = refl }

            told : told_in past q f f.spot ≡ h ∷ []
            told = ap (told_in past q f) e

            go : (b : Bool) → nat_lt i f.taken ≡ b → StandsByFate holdings q i x (cond b Received (fate_left f.spot))
            go true lt = gone h t told (ltb-true i f.taken lt)
            go false ge = subst (λ z. StandsByFate holdings q i x (fate_left z)) (sym e) (waits h t told (ltb-false i f.taken ge))
        by-spot spots.Ended e = go (nat_lt i f.taken)
          where
            none : filter (is_waiting_in x) holdings ≡ []
            none = waits-told [] (ap (told_in past q f) e)

            go : (b : Bool) → StandsByFate holdings q i x (cond b Received (fate_left f.spot))
            go true = none
            go false = subst (λ z. StandsByFate holdings q i x (fate_left z)) (sym e) none

pub holdings-hold-each : HoldingsHoldEach
holdings-hold-each past holdings s keeps =
    record {
      each = λ q i x f made at.
          let stands = keeps q i x (ap (λ o. slice_get (accepted_from o) i) made ∙ at) in
          by-fate past holdings s q i x f made at stands.1.alone;
      only = only-accepted past holdings s;
    }
