-- Room at each place, one place after the other.
use Rattle.std.proofs.Common.{ℕ, zero, suc, ◌≡◌, ◌+◌, ◌<◌, ◌≤◌, ◌==◌, Bool, true, false, List, [], ◌∷◌, ◌++◌, length, reverse, map, take, get_or, set, cond, refl, sym, ◌∙◌, ap, subst, arith}
use Rattle.std.specs.List.{All}
use Rattle.std.proofs.lemmas.List.{reverse-append}
use Rattle.std.proofs.lemmas.List.Elements.{All-head, All-tail}
use Rattle.chorus_calls.specs.Callers.{Seated}
use Rattle.law_machine.specs.declared.outgoing.Outgoing.{Outgoing}
use Rattle.law_machine.specs.PlaceState.{PlaceState, Turn}
use Rattle.law_network.specs.Network.{NetState, Event, happened, after, one_if}
use Rattle.law_network.proofs.Draining.Drains.{after-append}
use Rattle.chorus_place.specs.Calls.{Place, Ended, state}
use Rattle.chorus_net.specs.Drains.{forward, puts_forward}
use Rattle.chorus_net.specs.Room.{HaveRoom, HasRoomAt, KeepRoom, UsesRoom, room_at, entries_at, count_from, puts_in, puts_of}
use Rattle.chorus_net.specs.Sites.{ArePlaces}
use Rattle.chorus_ui.specs.declared.layout.Layout.{Layout}
use Rattle.std.proofs.lemmas.Bool.{eq-eqb, eqb-true, ne_eqb}

pub keep-self : (ps : List Place) → KeepRoom ps ps
keep-self [] = tt
keep-self (p ∷ ps) = (omega arith, keep-self ps)

pub keep-on : (ps qs rs : List Place) → length ps ≡ length qs → KeepRoom ps qs → KeepRoom qs rs → KeepRoom ps rs
keep-on [] qs rs e g h = tt
keep-on (p ∷ ps) [] rs e g h = absurd (omega (arith, e))
keep-on (p ∷ ps) (q ∷ qs) [] e g h = tt
keep-on (p ∷ ps) (q ∷ qs) (r ∷ rs) e g h = ((let a = g.0 in let b = h.0 in omega (arith, a, b)), keep-on ps qs rs (omega (arith, e)) g.1 h.1)

-- a place that has more room than the one that stood there
pub keep-set : (ps : List Place) (i : ℕ) (p q : Place) → p ≡ get_or ps i p → p.spare ≤ q.spare → KeepRoom ps (set ps i q)
keep-set [] i p q e le = tt
keep-set (r ∷ ps) zero p q e le = ((let s = ap (λ (z : Place). z.spare) e in omega (arith, s, le)), keep-self ps)
keep-set (r ∷ ps) (suc i) p q e le = (omega arith, keep-set ps i p q e le)

pub room-set : (more : ℕ) (ps : List Place) (i : ℕ) (q : Place) → more ≤ q.spare → HasRoomAt more i (set ps i q)
room-set more [] i q le = tt
room-set more (p ∷ ps) zero q le = le
room-set more (p ∷ ps) (suc i) q le = room-set more ps i q le

-- the first ones, and one more
pub room-on : (more i : ℕ) (ps : List Place) → HaveRoom more (take i ps) → HasRoomAt more i ps → HaveRoom more (take (suc i) ps)
room-on more i [] g h = tt
room-on more zero (p ∷ ps) g h = (h, tt)
room-on more (suc i) (p ∷ ps) g h = (g.0, room-on more i ps g.1 h)

-- those before the one that changed
pub room-before : (more i : ℕ) (ps : List Place) (q : Place) → HaveRoom more (take i ps) → HaveRoom more (take i (set ps i q))
room-before more i [] q h = h
room-before more zero (p ∷ ps) q h = tt
room-before more (suc i) (p ∷ ps) q h = (h.0, room-before more i ps q h.1)

-- What turns take of the room.

pub uses-self : (f : ℕ → ℕ) (ps : List Place) → UsesRoom f ps ps
uses-self f ps = λ n. omega arith

-- the first place is another one of its number, which has no less of both but for so much; or the same, and the others have
uses-head : (f : ℕ → ℕ) (r q : Place) (ps : List Place) (n : ℕ) → q.number ≡ r.number → r.spare + length r.journal ≤ q.spare + length q.journal + f r.number
    → room_at n (r ∷ ps) + entries_at n (r ∷ ps) ≤ room_at n (q ∷ ps) + entries_at n (q ∷ ps) + f n
uses-head f r q ps n same le = go (r.number == n) refl
  where
    go : (b : Bool) → (r.number == n) ≡ b → room_at n (r ∷ ps) + entries_at n (r ∷ ps) ≤ room_at n (q ∷ ps) + entries_at n (q ∷ ps) + f n
    go true is =
        let is' : (q.number == n) ≡ true = ap (λ m. m == n) same ∙ is in
        let a = ap (λ c. cond c r.spare (room_at n ps)) is in
        let b = ap (λ c. cond c (length r.journal) (entries_at n ps)) is in
        let c = ap (λ c. cond c q.spare (room_at n ps)) is' in
        let d = ap (λ c. cond c (length q.journal) (entries_at n ps)) is' in
        let e : f r.number ≡ f n = ap f (eqb-true r.number n is) in
        omega (arith, a, b, c, d, e, le)
    go false is =
        let is' : (q.number == n) ≡ false = ap (λ m. m == n) same ∙ is in
        let a = ap (λ c. cond c r.spare (room_at n ps)) is in
        let b = ap (λ c. cond c (length r.journal) (entries_at n ps)) is in
        let c = ap (λ c. cond c q.spare (room_at n ps)) is' in
        let d = ap (λ c. cond c (length q.journal) (entries_at n ps)) is' in
        omega (arith, a, b, c, d)

uses-tail : (k : ℕ) (r : Place) (ps qs : List Place) (n : ℕ) → room_at n ps + entries_at n ps ≤ room_at n qs + entries_at n qs + k
    → room_at n (r ∷ ps) + entries_at n (r ∷ ps) ≤ room_at n (r ∷ qs) + entries_at n (r ∷ qs) + k
uses-tail k r ps qs n le = go (r.number == n)
  where
    go : (b : Bool) → cond b r.spare (room_at n ps) + cond b (length r.journal) (entries_at n ps) ≤ cond b r.spare (room_at n qs) + cond b (length r.journal) (entries_at n qs) + k
    go true = omega arith
    go false = le

pub uses-set : (f : ℕ → ℕ) (ps : List Place) (i : ℕ) (p q : Place) → p ≡ get_or ps i p → q.number ≡ p.number
    → p.spare + length p.journal ≤ q.spare + length q.journal + f p.number → UsesRoom f ps (set ps i q)
uses-set f [] i p q e same le = λ n. omega arith
uses-set f (r ∷ ps) zero p q e same le = λ n.
    uses-head f r q ps n (same ∙ ap (λ (z : Place). z.number) e) (subst (λ (z : Place). z.spare + length z.journal ≤ q.spare + length q.journal + f z.number) e le)
uses-set f (r ∷ ps) (suc i) p q e same le = λ n. uses-tail (f n) r ps (set ps i q) n (uses-set f ps i p q e same le n)

pub uses-on : (f : ℕ → ℕ) (ps qs rs : List Place) → UsesRoom (λ n. 0) ps qs → UsesRoom f qs rs → UsesRoom f ps rs
uses-on f ps qs rs g h = λ n. (let a = g n in let b = h n in omega (arith, a, b))

-- where nothing changed but the room, and each place has as much, none is used
pub kept-uses : (ps qs : List Place) → map state ps ≡ map state qs → KeepRoom ps qs → UsesRoom (λ n. 0) ps qs
kept-uses [] qs e k = λ n. omega arith
kept-uses (p ∷ ps) [] e k = absurd (let n = ap length e in omega (arith, n))
kept-uses (p ∷ ps) (q ∷ qs) e k = λ n. both n (kept-uses ps qs (ap others e) k.1 n)
  where
    first : List PlaceState → PlaceState
    first [] = state p
    first (s ∷ ss) = s

    others : List PlaceState → List PlaceState
    others [] = []
    others (s ∷ ss) = ss

    same : state p ≡ state q
    same = ap first e

    both : (n : ℕ) → room_at n ps + entries_at n ps ≤ room_at n qs + entries_at n qs + 0
        → room_at n (p ∷ ps) + entries_at n (p ∷ ps) ≤ room_at n (q ∷ qs) + entries_at n (q ∷ qs) + 0
    both n rest = go (p.number == n) refl
      where
        is-q : (q.number == n) ≡ (p.number == n)
        is-q = ap (λ (z : PlaceState). z.number == n) (sym same)

        go : (b : Bool) → (p.number == n) ≡ b → room_at n (p ∷ ps) + entries_at n (p ∷ ps) ≤ room_at n (q ∷ qs) + entries_at n (q ∷ qs) + 0
        go true is =
            let a = ap (λ c. cond c p.spare (room_at n ps)) is in
            let b = ap (λ c. cond c (length p.journal) (entries_at n ps)) is in
            let c = ap (λ c. cond c q.spare (room_at n qs)) (is-q ∙ is) in
            let d = ap (λ c. cond c (length q.journal) (entries_at n qs)) (is-q ∙ is) in
            let e : length p.journal ≡ length q.journal = ap (λ (z : PlaceState). length z.journal) same in
            let f = k.0 in
            omega (arith, a, b, c, d, e, f)
        go false is =
            let a = ap (λ c. cond c p.spare (room_at n ps)) is in
            let b = ap (λ c. cond c (length p.journal) (entries_at n ps)) is in
            let c = ap (λ c. cond c q.spare (room_at n qs)) (is-q ∙ is) in
            let d = ap (λ c. cond c (length q.journal) (entries_at n qs)) (is-q ∙ is) in
            omega (arith, a, b, c, d, rest)

-- all the packets of a turn come from its place
pub count-all : (p : ℕ) (os : List Outgoing) → All (λ (o : Outgoing). o.packet.from ≡ p) os → length os ≡ count_from p os
count-all p [] h = refl
count-all p (o ∷ os) h =
    let rest = count-all p os (All-tail (λ (o : Outgoing). o.packet.from ≡ p) o os h) in
    let one : one_if (o.packet.from == p) ≡ 1 = ap one_if (eq-eqb o.packet.from p (All-head (λ (o : Outgoing). o.packet.from ≡ p) o os h)) in
    omega (arith, rest, one)

pub turn-uses : (t : Turn) (ps : List Place) (i : ℕ) (p q : Place) (y : Seated) → p ≡ get_or ps i p → Ended t p q y → t.place.number ≡ p.number
    → All (λ (o : Outgoing). o.packet.from ≡ p.number) t.puts → UsesRoom (λ n. count_from n t.puts) ps (set ps i q)
turn-uses t ps i p q y at e number from =
    uses-set (λ n. count_from n t.puts) ps i p q at (ap (λ (z : PlaceState). z.number) e.state ∙ number)
    (let a = e.spare in let b = count-all p.number t.puts from in omega (arith, a, b))

-- so many a place puts in events one after the other
pub puts-append : (xs ys : List Event) (n : NetState) (p : ℕ) → puts_of (xs ++ ys) n p ≡ puts_of xs (after ys n) p + puts_of ys n p
puts-append [] ys n p = omega arith
puts-append (x ∷ xs) ys n p =
    let rest = puts-append xs ys n p in
    let same : puts_in x (after (xs ++ ys) n) p ≡ puts_in x (after xs (after ys n)) p = ap (λ m. puts_in x m p) (after-append xs ys n) in
    omega (arith, rest, same)

pub puts-forward-append : (es fs : List Event) (n : NetState) (p : ℕ) → puts_forward (es ++ fs) n p ≡ puts_forward es n p + puts_forward fs (forward es n) p
puts-forward-append [] fs n p = omega arith
puts-forward-append (e ∷ es) fs n p = (let rest = puts-forward-append es fs (happened e n) p in omega (arith, rest))

pub puts-reverse : (es : List Event) (n : NetState) (p : ℕ) → puts_of (reverse es) n p ≡ puts_forward es n p
puts-reverse [] n p = refl
puts-reverse (e ∷ es) n p =
    let one = ap (λ fs. puts_of fs n p) (reverse-append (e ∷ []) es) ∙ puts-append (reverse es) (e ∷ []) n p in
    let rest = puts-reverse es (happened e n) p in
    omega (arith, one, rest)

-- and room is used in them
pub uses-forward : (es fs : List Event) (n m : NetState) (ps qs rs : List Place) → m ≡ forward es n
    → UsesRoom (puts_forward es n) ps qs → UsesRoom (puts_forward fs m) qs rs → UsesRoom (puts_forward (es ++ fs) n) ps rs
uses-forward es fs n m ps qs rs is g h = λ p.
    let a = g p in
    let b = h p in
    let c = puts-forward-append es fs n p in
    let d : puts_forward fs m p ≡ puts_forward fs (forward es n) p = ap (λ z. puts_forward fs z p) is in
    omega (arith, a, b, c, d)

pub uses-after : (xs ys : List Event) (n m : NetState) (ps qs rs : List Place) → m ≡ after ys n
    → UsesRoom (puts_of ys n) ps qs → UsesRoom (puts_of xs m) qs rs → UsesRoom (puts_of (xs ++ ys) n) ps rs
uses-after xs ys n m ps qs rs is g h = λ p.
    let a = g p in
    let b = h p in
    let c = puts-append xs ys n p in
    let d : puts_of xs m p ≡ puts_of xs (after ys n) p = ap (λ z. puts_of xs z p) is in
    omega (arith, a, b, c, d)

pub uses-reverse : (es : List Event) (n : NetState) (ps qs : List Place) → UsesRoom (puts_forward es n) ps qs → UsesRoom (puts_of (reverse es) n) ps qs
uses-reverse es n ps qs h = λ p. (let a = h p in let b = puts-reverse es n p in omega (arith, a, b))

-- one delivery
pub uses-one : (e : Event) (n : NetState) (ps qs : List Place) → UsesRoom (puts_in e n) ps qs → UsesRoom (puts_forward (e ∷ []) n) ps qs
uses-one e n ps qs h = λ p. (let a = h p in omega (arith, a))

-- the room at the place of this number
pub room-found : (l : Layout) (k i n : ℕ) (ps : List Place) (p : Place) → ArePlaces l k ps → i < length ps → n ≡ k + i → p ≡ get_or ps i p → room_at n ps ≡ p.spare
room-found l k i n [] p h lt e g = absurd (omega (arith, lt))
room-found l k zero n (q ∷ ps) p h lt e g =
    ap (λ c. cond c q.spare (room_at n ps)) (eq-eqb q.number n (let f = h.0.number in omega (arith, e, f))) ∙ ap (λ (z : Place). z.spare) (sym g)
room-found l k (suc i) n (q ∷ ps) p h lt e g =
    ap (λ c. cond c q.spare (room_at n ps)) (ne_eqb q.number n (λ s. (let f = h.0.number in omega (arith, e, f, s))))
    ∙ room-found l (k + 1) i n ps p h.1 (omega (arith, lt)) (omega (arith, e)) g
