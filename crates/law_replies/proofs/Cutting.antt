-- Histories cut at a moment are histories: what places and callers did up to there, with what was then on the links.
-- m is a machine, `front` are the turns up to the moment and `back` those behind it, in the order of all.
use Rattle.std.proofs.Common.{ℕ, ◌≡◌, ◌<◌, ◌≤◌, Bool, true, false, cond, List, [], ◌∷◌, ◌++◌, eqb, refl, sym, ◌∙◌, ap, subst, append_assoc, arith}
use Rattle.std.specs.List.{All, filter}
use Rattle.std.proofs.lemmas.List.{append-nil}
use Rattle.std.proofs.lemmas.List.Elements.{All-nil, All-cons, All-head, All-tail, All-weaker, All-filter, All-append, filter-append}
use Rattle.chorus_merge.proofs.Places.{All-append_parts}
use Rattle.law_history.specs.declared.turns.Input.{Input}
use Rattle.law_history.specs.declared.turns.Sent.{Sent}
use Rattle.law_history.specs.Turns.{Machine, Turn, Rises, is_at, is_by, puts_to, packet_from, put_to, got_from, before, IsInOrder}
use Rattle.law_history.specs.Network.{Network}
use Rattle.law_history.specs.Histories.{Takes, Follows, Histories}
use Rattle.law_history.proofs.Lists.{filter_takes, filter_skip, filter_swap, flat_map-append}
use Rattle.law_history.proofs.Order.{before-true}
use Rattle.law_history.proofs.Clocks.{IsSound, sound_takes, all_from_places}

-- Where every element of the second part of a list is of one kind, and none of a front of the list is, the front ends in the first part.
front-ends : {X : Type 0} (P Q : X → Type 0) → ((x : X) → P x → Q x → ⊥) → (us vs gs hs : List X) → us ++ vs ≡ gs ++ hs → All P vs → All Q gs → (rest : List X) × (us ≡ gs ++ rest)
front-ends P Q never us vs [] hs e a b = (us, refl)
front-ends P Q never [] vs (k ∷ gs) hs e a b = absurd (never k (All-head P k (gs ++ hs) (subst (All P) e a)) (All-head Q k gs b))
front-ends P Q never (u ∷ us) vs (k ∷ gs) hs e a b =
    let same : u ≡ k = cc in
    let rest : us ++ vs ≡ gs ++ hs = cc in
    let less = front-ends P Q never us vs gs hs rest a (All-tail Q k gs b) in
    (less.0, (λ i. same i ∷ less.1 i))

module _ {P C M K : Type 0} (m : Machine P C M K) where
  -- a place after turns, and a caller
  abbrev pub state_after : ℕ → P → List (Turn C M K) → P
  state_after p x [] = x
  state_after p x (t ∷ ts) = state_after p (m.turn p t.input x t.before).place ts

  abbrev caller_after : C → List (Turn C M K) → C
  caller_after c [] = c
  caller_after c (t ∷ ts) = caller_after t.after ts

  pub takes-front : (p : ℕ) (xs ys : List (Turn C M K)) (x y : P) → Takes m p x (xs ++ ys) y → Takes m p x xs (state_after p x xs) × Takes m p (state_after p x xs) ys y
  takes-front p [] ys x y h = (refl, h)
  takes-front p (t ∷ xs) ys x y h = let rest = takes-front p xs ys (m.turn p t.input x t.before).place y h.1 in ((h.0, rest.0), rest.1)

  -- turns lead to one state
  pub takes-one : (p : ℕ) (ts : List (Turn C M K)) (x y : P) → Takes m p x ts y → y ≡ state_after p x ts
  takes-one p [] x y h = sym h
  takes-one p (t ∷ ts) x y h = takes-one p ts (m.turn p t.input x t.before).place y h.1

  follows-front : (xs ys : List (Turn C M K)) (c d : C) → Follows m c (xs ++ ys) d → Follows m c xs (caller_after c xs)
  follows-front [] ys c d h = refl
  follows-front (t ∷ xs) ys c d h = (h.0, follows-front xs ys t.after d h.1)

  -- Clocks of what is put and taken: at least n, or below n.

  abbrev AtLeast : ℕ → K → Type 0
  AtLeast n k = n ≤ m.stamp k

  abbrev Below : ℕ → K → Type 0
  Below n k = m.stamp k < n

  abbrev Later : ℕ → Turn C M K → Type 0
  Later n t = n ≤ t.first

  abbrev Earlier : ℕ → Turn C M K → Type 0
  Earlier n t = t.first ≤ n

  puts-late : (n b : ℕ) (ss : List (Sent K)) → All (λ (s : Sent K). n ≤ m.stamp s.packet) ss → All (AtLeast n) (puts_to b ss)
  puts-late n b [] h = All-nil (AtLeast n)
  puts-late n b (s ∷ ss) h = by (eqb s.to b) (puts-late n b ss (All-tail High s ss h))
    where
      High : Sent K → Type 0
      High z = n ≤ m.stamp z.packet

      by : (c : Bool) → All (AtLeast n) (puts_to b ss) → All (AtLeast n) (cond c (s.packet ∷ puts_to b ss) (puts_to b ss))
      by true rest = All-cons (AtLeast n) s.packet (puts_to b ss) (All-head High s ss h) rest
      by false rest = rest

  put-late : (n b : ℕ) (ts : List (Turn C M K)) → All (IsSound m) ts → All (Later n) ts → All (AtLeast n) (put_to b ts)
  put-late n b [] s h = All-nil (AtLeast n)
  put-late n b (t ∷ ts) s h =
      let own = All-head (IsSound m) t ts s in
      let le : n ≤ t.first = All-head (Later n) t ts h in
      All-append (AtLeast n) (puts_to b t.puts) (put_to b ts)
      (puts-late n b t.puts (All-weaker (λ (z : Sent K). t.first ≤ m.stamp z.packet) (λ (z : Sent K). n ≤ m.stamp z.packet) (λ z k. omega (arith, le, k)) t.puts own.puts))
      (put-late n b ts (All-tail (IsSound m) t ts s) (All-tail (Later n) t ts h))

  got-early : (n a : ℕ) (ts : List (Turn C M K)) → All (IsSound m) ts → All (Earlier n) ts → All (Below n) (got_from a ts)
  got-early n a [] s h = All-nil (Below n)
  got-early n a (t ∷ ts) s h =
      All-append (Below n) (packet_from a t.input) (got_from a ts) (by t.input refl) (got-early n a ts (All-tail (IsSound m) t ts s) (All-tail (Earlier n) t ts h))
    where
      one : (b : ℕ) (k : K) → t.input ≡ Input.Packet b k → (c : Bool) → All (Below n) (cond c (k ∷ []) [])
      one b k e true =
          let lt = (All-head (IsSound m) t ts s).packet b k e in
          let le : t.first ≤ n = All-head (Earlier n) t ts h in
          All-cons (Below n) k [] (omega (arith, lt, le)) (All-nil (Below n))
      one b k e false = All-nil (Below n)

      by : (i : Input M K) → t.input ≡ i → All (Below n) (packet_from a i)
      by (Input.Command c) e = All-nil (Below n)
      by (Input.Packet b k) e = one b k e (eqb b a)

  -- The turns in front of a turn are no later, and those from it on no earlier.
  ordered : (front back : List (Turn C M K)) (t : Turn C M K) → IsInOrder (front ++ t ∷ back) → All (Earlier t.first) front × All (Later t.first) (t ∷ back)
  ordered [] back t o = (
    All-nil (Earlier t.first),
    All-cons (Later t.first) t back (omega arith) (All-weaker (λ (u : Turn C M K). before t u ≡ true) (Later t.first) (λ u h. (before-true t u h).0) back o.0),
  )
  ordered (f ∷ front) back t o =
      let rest = ordered front back t o.1 in
      let behind = (All-append_parts (λ (u : Turn C M K). before f u ≡ true) front (t ∷ back) o.0).1 in
      let first : f.first ≤ t.first = (before-true f t (All-head (λ (u : Turn C M K). before f u ≡ true) t back behind)).0 in
      (All-cons (Earlier t.first) f front first rest.0, rest.1)

  module _ (rises : Rises m) (opening closing : Network P C K) (places seats : ℕ → List (Turn C M K)) (turns front back : List (Turn C M K)) (h : Histories m opening places seats closing) (sorted : IsInOrder turns) (by_place : (p : ℕ) → filter (is_at p) turns ≡ places p) (by_seat : (q : ℕ) → filter (is_by q) turns ≡ seats q) (split : turns ≡ front ++ back) where
    place-split : (p : ℕ) → places p ≡ filter (is_at p) front ++ filter (is_at p) back
    place-split p = sym (by_place p) ∙ (ap (filter (is_at p)) split ∙ filter-append (is_at p) front back)

    seat-split : (q : ℕ) → seats q ≡ filter (is_by q) front ++ filter (is_by q) back
    seat-split q = sym (by_seat q) ∙ (ap (filter (is_by q)) split ∙ filter-append (is_by q) front back)

    all-sound : All (IsSound m) (front ++ back)
    all-sound =
        subst (All (IsSound m)) split
        (all_from_places (IsSound m) turns (λ p. subst (All (IsSound m)) (sym (by_place p)) (sound_takes m rises p (places p) (opening.places p) (closing.places p) (h.takes p))))

    pub takes-there : (p : ℕ) → Takes m p (opening.places p) (filter (is_at p) front) (state_after p (opening.places p) (filter (is_at p) front))
    takes-there p =
        (takes-front p (filter (is_at p) front) (filter (is_at p) back) (opening.places p) (closing.places p)
        (subst (λ ts. Takes m p (opening.places p) ts (closing.places p)) (place-split p) (h.takes p))).0

    follows-there : (q : ℕ) → Follows m (opening.callers q) (filter (is_by q) front) (caller_after (opening.callers q) (filter (is_by q) front))
    follows-there q =
        follows-front (filter (is_by q) front) (filter (is_by q) back) (opening.callers q) (closing.callers q)
        (subst (λ ts. Follows m (opening.callers q) ts (closing.callers q)) (seat-split q) (h.follows q))

    -- what was put up to there is what was taken and then what is left
    links-there : (a b : ℕ) → (rest : List K) × (opening.links a b ++ put_to b (filter (is_at a) front) ≡ got_from a (filter (is_at b) front) ++ rest)
    links-there a b = by back split all-sound
      where
        put : List K
        put = put_to b (filter (is_at a) front)

        got : List K
        got = got_from a (filter (is_at b) front)

        whole : (late : List (Turn C M K)) → turns ≡ front ++ late → (opening.links a b ++ put) ++ put_to b (filter (is_at a) late) ≡ got ++ (got_from a (filter (is_at b) late) ++ closing.links a b)
        whole late e =
            let parts : (p : ℕ) → places p ≡ filter (is_at p) front ++ filter (is_at p) late = λ p. sym (by_place p) ∙ (ap (filter (is_at p)) e ∙ filter-append (is_at p) front late) in
            let puts : put_to b (places a) ≡ put ++ put_to b (filter (is_at a) late) = ap (put_to b) (parts a) ∙ flat_map-append (λ (t : Turn C M K). puts_to b t.puts) (filter (is_at a) front) (filter (is_at a) late) in
            let gets : got_from a (places b) ≡ got ++ got_from a (filter (is_at b) late) = ap (got_from a) (parts b) ∙ flat_map-append (λ (t : Turn C M K). packet_from a t.input) (filter (is_at b) front) (filter (is_at b) late) in
            append_assoc (opening.links a b) put (put_to b (filter (is_at a) late)) ∙ (ap (λ ks. opening.links a b ++ ks) (sym puts) ∙ (h.in_order a b ∙ (ap (λ ks. ks ++ closing.links a b) gets ∙ append_assoc got (got_from a (filter (is_at b) late)) (closing.links a b))))

        by : (late : List (Turn C M K)) → turns ≡ front ++ late → All (IsSound m) (front ++ late) → (rest : List K) × (opening.links a b ++ put ≡ got ++ rest)
        by [] e s = (closing.links a b, sym (append-nil (opening.links a b ++ put)) ∙ whole [] e)
        by (t ∷ late) e s =
            let sound = All-append_parts (IsSound m) front (t ∷ late) s in
            let times = ordered front late t (subst IsInOrder e sorted) in
            front-ends (AtLeast t.first) (Below t.first) (λ k le lt. omega (arith, le, lt)) (opening.links a b ++ put) (put_to b (filter (is_at a) (t ∷ late))) got (got_from a (filter (is_at b) (t ∷ late)) ++ closing.links a b)
            (whole (t ∷ late) e)
            (put-late t.first b (filter (is_at a) (t ∷ late)) (All-filter (is_at a) (IsSound m) (t ∷ late) sound.1) (All-filter (is_at a) (Later t.first) (t ∷ late) times.1))
            (got-early t.first a (filter (is_at b) front) (All-filter (is_at b) (IsSound m) front sound.0) (All-filter (is_at b) (Earlier t.first) front times.0))

    -- the network at that moment
    pub there : Network P C K
    there =
        record {
          places = λ p. state_after p (opening.places p) (filter (is_at p) front);
          links = λ a b. (links-there a b).0;
          callers = λ q. caller_after (opening.callers q) (filter (is_by q) front);
        }

    pub cut-there : Histories m opening (λ p. filter (is_at p) front) (λ q. filter (is_by q) front) there
    unfolding there
    cut-there =
        record {
          takes = takes-there;
          follows = follows-there;
          shared = λ p q. filter_swap (is_by q) (is_at p) front;
          in_order = λ a b. (links-there a b).1;
        }

    pub place-there : (p : ℕ) → there.places p ≡ state_after p (opening.places p) (filter (is_at p) front)
    unfolding there
    place-there p = refl

-- the turns of all up to where a place has taken these
pub split-at : {C M K : Type 0} (p : ℕ) (turns older later : List (Turn C M K)) → filter (is_at p) turns ≡ older ++ later → (front : List (Turn C M K)) × ((back : List (Turn C M K)) × ((turns ≡ front ++ back) × (filter (is_at p) front ≡ older)))
split-at p turns [] later e = ([], (turns, (refl, refl)))
split-at p [] (o ∷ older) later e = absurd (cc)
split-at {C} {M} {K} p (t ∷ turns) (o ∷ older) later e = by (is_at p t) refl e (split-at p turns older later) (split-at p turns (o ∷ older) later)
  where
    Splits : List (Turn C M K) → List (Turn C M K) → Type 0
    Splits us front_there = (front : List (Turn C M K)) × ((back : List (Turn C M K)) × ((us ≡ front ++ back) × (filter (is_at p) front ≡ front_there)))

    here : is_at p t ≡ true → t ≡ o → Splits turns older → Splits (t ∷ turns) (o ∷ older)
    here at same f = (t ∷ f.0, (f.1.0, (ap (λ us. t ∷ us) f.1.1.0, filter_takes (is_at p) t f.0 at ∙ (λ i. same i ∷ f.1.1.1 i))))

    elsewhere : is_at p t ≡ false → Splits turns (o ∷ older) → Splits (t ∷ turns) (o ∷ older)
    elsewhere at f = (t ∷ f.0, (f.1.0, (ap (λ us. t ∷ us) f.1.1.0, filter_skip (is_at p) t f.0 at ∙ f.1.1.1)))

    by : (b : Bool) → is_at p t ≡ b → cond b (t ∷ filter (is_at p) turns) (filter (is_at p) turns) ≡ o ∷ older ++ later
        → (filter (is_at p) turns ≡ older ++ later → Splits turns older) → (filter (is_at p) turns ≡ o ∷ older ++ later → Splits turns (o ∷ older)) → Splits (t ∷ turns) (o ∷ older)
    by true at h one other = let same : t ≡ o = cc in let rest : filter (is_at p) turns ≡ older ++ later = cc in here at same (one rest)
    by false at h one other = elsewhere at (other h)
