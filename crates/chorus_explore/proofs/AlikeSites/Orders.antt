-- Journals that agree on each entry are in one order.
-- j and k are journals, es entries of them, x is an id, q a port.
use Rattle.std.proofs.Common.{◌≡◌, ◌||◌, Bool, true, false, cond, List, [], ◌∷◌, ◌++◌, map, reverse, refl, sym, ◌∙◌, ap, subst}
use Rattle.std.proofs.lemmas.Bool.{false≢true}
use Rattle.std.proofs.lemmas.List.{reverse-append}
use Rattle.std.proofs.lemmas.List.Elements.{All-head, All-tail}
use Rattle.chorus_ui.specs.declared.ui.Ui.{Ui}
use Rattle.chorus_ui.specs.Name.{same_ui}
use Rattle.chorus_ui.proofs.Names.{from_same_ui}
use Rattle.chorus_entry.specs.declared.act.Act.{Act}
use Rattle.chorus_entry.specs.declared.act.Act.TheVariants as acts
use Rattle.chorus_entry.specs.declared.entry.Entry.{Entry}
use Rattle.chorus_entry.specs.declared.id.MsgId.{MsgId}
use Rattle.chorus_entry.specs.MsgId.{same_id}
use Rattle.chorus_entry.proofs.Same.{from_same_id}
use Rattle.chorus_world.specs.GroupLaws.{copies_by, copies_of}
use Rattle.chorus_world.specs.Places.{copies}
use Rattle.chorus_world.specs.declared.place.Sent.{Sent}
use Rattle.law_explore.specs.Moment.{accept_in, accepts_by, sent_by}
use Rattle.law_explore.specs.Positions.{OrderAlike}
use Rattle.chorus_explore.specs.AlikeSites.Orders.{AgreeOn, AgreeOnAll}

abbrev AgreeOnEach : List Entry → List Entry → List Entry → Type 0
AgreeOnEach j k [] = Unit {0}
AgreeOnEach j k (e ∷ es) = AgreeOn j k e.act × AgreeOnEach j k es

each : (j k es : List Entry) → AgreeOnAll j k es → AgreeOnEach j k es
each j k [] h = tt
each j k (e ∷ es) h =
    (All-head (λ (f : Entry). AgreeOn j k f.act) e es h, each j k es (All-tail (λ (f : Entry). AgreeOn j k f.act) e es h))

all-append : (j k es fs : List Entry) → AgreeOnEach j k es → AgreeOnEach j k fs → AgreeOnEach j k (es ++ fs)
all-append j k [] fs h f = f
all-append j k (e ∷ es) fs h f = (h.0, all-append j k es fs h.1 f)

all-reverse : (j k es : List Entry) → AgreeOnEach j k es → AgreeOnEach j k (reverse es)
all-reverse j k [] h = h
all-reverse j k (e ∷ es) h =
    subst (AgreeOnEach j k) (sym (reverse-append (e ∷ []) es)) (all-append j k (reverse es) (e ∷ []) (all-reverse j k es h.1) (h.0, tt))

or-parts : (a b : Bool) → (a || b) ≡ false → (a ≡ false) × (b ≡ false)
or-parts true b h = absurd (false≢true (sym h))
or-parts false b h = (refl, h)

-- What a port accepted.

abbrev accepts : Ui → Act → Bool
accepts q (acts.Accept x p position) = same_ui p q
accepts q act = false

abbrev is_accepting : Ui → List Entry → Bool
is_accepting q [] = false
is_accepting q (e ∷ es) = accepts q e.act || is_accepting q es

accept-same : (j k : List Entry) (q : Ui) (es : List Entry) → AgreeOnEach j k es → is_accepting q es ≡ true → accepts_by q j ≡ accepts_by q k
accept-same j k q [] a h = absurd (false≢true h)
accept-same j k q (e ∷ es) a h = by (accepts q e.act) refl h (accept-same j k q es a.1)
  where
    found : (act : Act) → AgreeOn j k act → accepts q act ≡ true → accepts_by q j ≡ accepts_by q k
    found (acts.Accept x p position) m s = subst (λ (z : Ui). accepts_by z j ≡ accepts_by z k) (from_same_ui p q s) m
    found act m s = absurd (false≢true s)

    by : (b : Bool) → accepts q e.act ≡ b → (b || is_accepting q es) ≡ true → (is_accepting q es ≡ true → accepts_by q j ≡ accepts_by q k) → accepts_by q j ≡ accepts_by q k
    by true m s rest = found e.act a.0 m
    by false m s rest = rest s

none-accepted : (q : Ui) (es : List Entry) → is_accepting q es ≡ false → accepts_by q es ≡ []
none-accepted q [] h = refl
none-accepted q (e ∷ es) h =
    let both = or-parts (accepts q e.act) (is_accepting q es) h in
    (λ i. none-accepted q es both.1 i ++ none e.act both.0 i)
  where
    none : (act : Act) → accepts q act ≡ false → accept_in q act ≡ []
    none (acts.Accept x p position) n = ap (λ b. cond b ((position, x) ∷ []) []) n
    none act n = refl

accepted-same : (j k : List Entry) → AgreeOnEach j k j → AgreeOnEach j k k → (q : Ui) → accepts_by q j ≡ accepts_by q k
accepted-same j k a b q = by (is_accepting q j) (is_accepting q k) refl refl
  where
    by : (n m : Bool) → is_accepting q j ≡ n → is_accepting q k ≡ m → accepts_by q j ≡ accepts_by q k
    by true m e f = accept-same j k q j a e
    by false true e f = accept-same j k q k b f
    by false false e f = none-accepted q j e ∙ sym (none-accepted q k f)

-- Where copies go.

abbrev chooses : MsgId → Act → Bool
chooses x (acts.Choose y g qs) = same_id y x
chooses x act = false

abbrev is_choosing : MsgId → List Entry → Bool
is_choosing x [] = false
is_choosing x (e ∷ es) = chooses x e.act || is_choosing x es

send-same : (j k : List Entry) (x : MsgId) (es : List Entry) → AgreeOnEach j k es → is_choosing x es ≡ true → sent_by x j ≡ sent_by x k
send-same j k x [] a h = absurd (false≢true h)
send-same j k x (e ∷ es) a h = by (chooses x e.act) refl h (send-same j k x es a.1)
  where
    found : (act : Act) → AgreeOn j k act → chooses x act ≡ true → sent_by x j ≡ sent_by x k
    found (acts.Choose y g qs) m s = subst (λ (z : MsgId). sent_by z j ≡ sent_by z k) (from_same_id y x s) m
    found act m s = absurd (false≢true s)

    by : (b : Bool) → chooses x e.act ≡ b → (b || is_choosing x es) ≡ true → (is_choosing x es ≡ true → sent_by x j ≡ sent_by x k) → sent_by x j ≡ sent_by x k
    by true m s rest = found e.act a.0 m
    by false m s rest = rest s

none-copied : (x : MsgId) (es : List Entry) → is_choosing x es ≡ false → copies_of x es ≡ []
none-copied x [] h = refl
none-copied x (e ∷ es) h =
    let both = or-parts (chooses x e.act) (is_choosing x es) h in
    (λ i. none-copied x es both.1 i ++ none e.act both.0 i)
  where
    none : (act : Act) → chooses x act ≡ false → copies_by x act ≡ []
    none (acts.Choose y g qs) n = ap (λ b. cond b (copies y g 1 qs) []) n
    none act n = refl

sent-same : (j k : List Entry) → AgreeOnEach j k j → AgreeOnEach j k k → (x : MsgId) → sent_by x j ≡ sent_by x k
sent-same j k a b x = by (is_choosing x j) (is_choosing x k) refl refl
  where
    by : (n m : Bool) → is_choosing x j ≡ n → is_choosing x k ≡ m → sent_by x j ≡ sent_by x k
    by true m e f = send-same j k x j a e
    by false true e f = send-same j k x k b f
    by false false e f = ap (map (λ (s : Sent). (s.id, s.port))) (none-copied x j e ∙ sym (none-copied x k f))

-- the entries, with the oldest first
pub in-one-order : (es fs : List Entry) → AgreeOnAll (reverse es) (reverse fs) es → AgreeOnAll (reverse es) (reverse fs) fs → OrderAlike (reverse es) (reverse fs)
in-one-order es fs a b =
    let j = reverse es in
    let k = reverse fs in
    let one = all-reverse j k es (each j k es a) in
    let other = all-reverse j k fs (each j k fs b) in
    record { accepts = accepted-same j k one other; sent = sent-same j k one other }
