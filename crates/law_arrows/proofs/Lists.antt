-- Where the latest entry of a kind stands, in a list with newer entries of one place; and packets in lists.
use Rattle.std.proofs.Common.{ℕ, ◌≡◌, ◌≢◌, ◌⊎◌, Bool, true, false, cond, List, [], ◌∷◌, ◌++◌, Option, Some, refl, sym, ◌∙◌, ap, subst, inl, inr}
use Rattle.std.specs.List.{All, filter}
use Rattle.std.proofs.lemmas.List.Elements.{All-head, All-tail}
use Rattle.chorus_entry.specs.declared.entry.Entry.{Entry}
use Rattle.chorus_world.specs.Places.{last_clock}
use Rattle.chorus_world.proofs.Ports.LineLemmas.{none_some}
use Rattle.law_machine.specs.declared.outgoing.Outgoing.{Outgoing}
use Rattle.law_network.specs.Packets.{is_link_before, put, put_all}
use Rattle.law_picture.specs.declared.row.Row.{Row}
use Rattle.law_picture.specs.Causes.{latest, row_of}
use Rattle.law_picture.proofs.Came.{latest_here, latest_skips}

abbrev pub At : ℕ → Entry → Type 0
At p e = e.place ≡ p

some_row : (a b : Row) → Some a ≡ Some b → a ≡ b
some_row a b h = cc

pub same_row : (o : Option Row) (a b : Row) → o ≡ Some a → o ≡ Some b → a ≡ b
same_row o a b h k = some_row a b (sym h ∙ k)

-- the latest one stands behind newer entries of another place: none of them is of that kind
pub record Behind (test : Entry → Bool) (mid past : List Entry) (row : Row) : Type 0 where
  pub last : latest test past ≡ Some row
  pub view : filter test (mid ++ past) ≡ filter test past

pub behind : (test : Entry → Bool) (p : ℕ) (mid past : List Entry) (row : Row) → All (At p) mid → latest test (mid ++ past) ≡ Some row → row.place ≢ p → Behind test mid past row
behind test p [] past row all h ne = record { last = h; view = refl }
behind test p (e ∷ mid) past row all h ne =
    go (test e) refl (λ k. behind test p mid past row (All-tail (At p) e mid all) k ne)
  where
    go : (b : Bool) → test e ≡ b → (latest test (mid ++ past) ≡ Some row → Behind test mid past row) → Behind test (e ∷ mid) past row
    go true t further =
        let same : row_of (mid ++ past) e ≡ row = some_row (row_of (mid ++ past) e) row (sym (latest_here test e (mid ++ past) t) ∙ h) in
        absurd (ne (sym (ap (λ (r : Row). r.place) same) ∙ All-head (At p) e mid all))
    go false n further =
        let old = further (sym (latest_skips test e (mid ++ past) n) ∙ h) in
        record { last = old.last; view = ap (λ b. cond b (e ∷ filter test (mid ++ past)) (filter test (mid ++ past))) n ∙ old.view }

-- one of the newer entries is of that kind: so is the latest one, which stands at their place
pub latest-among : (test : Entry → Bool) (p : ℕ) (newer : List Entry) (e : Entry) (past : List Entry) → All (At p) newer → At p e → test e ≡ true
    → (row : Row) × (latest test (newer ++ e ∷ past) ≡ Some row) × (row.place ≡ p)
latest-among test p [] e past all here t = (row_of past e, latest_here test e past t, here)
latest-among test p (k ∷ newer) e past all here t =
    go (test k) refl (latest-among test p newer e past (All-tail (At p) k newer all) here t)
  where
    whole : List Entry
    whole = newer ++ e ∷ past

    go : (b : Bool) → test k ≡ b → (row : Row) × (latest test (newer ++ e ∷ past) ≡ Some row) × (row.place ≡ p)
        → (row : Row) × (latest test (k ∷ (newer ++ e ∷ past)) ≡ Some row) × (row.place ≡ p)
    go true y old = (row_of (newer ++ e ∷ past) k, latest_here test k (newer ++ e ∷ past) y, All-head (At p) k newer all)
    go false n old = (old.0, latest_skips test k (newer ++ e ∷ past) n ∙ old.1, old.2)

-- its clock is that of its view
pub latest-clock : (test : Entry → Bool) (past : List Entry) (row : Row) → latest test past ≡ Some row → row.clock ≡ last_clock (filter test past)
latest-clock test [] row h = none_some row h
latest-clock test (e ∷ past) row h = go (test e) refl (latest-clock test past row)
  where
    go : (b : Bool) → test e ≡ b → (latest test past ≡ Some row → row.clock ≡ last_clock (filter test past)) → row.clock ≡ last_clock (filter test (e ∷ past))
    go true t further =
        let same : row_of past e ≡ row = some_row (row_of past e) row (sym (latest_here test e past t) ∙ h) in
        sym (ap (λ (r : Row). r.clock) same) ∙ sym (ap (λ b. last_clock (cond b (e ∷ filter test past) (filter test past))) t)
    go false n further =
        further (sym (latest_skips test e past n) ∙ h) ∙ sym (ap (λ b. last_clock (cond b (e ∷ filter test past) (filter test past))) n)

-- Packets.

abbrev pub In : Outgoing → List Outgoing → Type 0
In o [] = ⊥
In o (u ∷ us) = (u ≡ o) ⊎ In o us

in-put : (o v : Outgoing) (us : List Outgoing) → In o us → In o (put v us)
in-put o v [] h = absurd h
in-put o v (u ∷ us) h = go (is_link_before v u) h (in-put o v us)
  where
    go : (b : Bool) → In o (u ∷ us) → (In o us → In o (put v us)) → In o (cond b (v ∷ u ∷ us) (u ∷ put v us))
    go true k further = inr k
    go false (inl same) further = inl same
    go false (inr k) further = inr (further k)

in-put-all : (o : Outgoing) (vs us : List Outgoing) → In o us → In o (put_all vs us)
in-put-all o [] us h = h
in-put-all o (v ∷ vs) us h = in-put-all o vs (put v us) (in-put o v us h)

in-filter : (v : Outgoing → Bool) (o : Outgoing) (us : List Outgoing) → v o ≡ true → In o us → In o (filter v us)
in-filter v o [] t h = h
in-filter v o (u ∷ us) t (inl same) = subst (λ b. In o (cond b (u ∷ filter v us) (filter v us))) (sym (ap v same ∙ t)) (inl same)
in-filter v o (u ∷ us) t (inr h) = go (v u) (in-filter v o us t h)
  where
    go : (b : Bool) → In o (filter v us) → In o (cond b (u ∷ filter v us) (filter v us))
    go true k = inr k
    go false k = k

from-filter : (v : Outgoing → Bool) (o : Outgoing) (us : List Outgoing) → In o (filter v us) → (v o ≡ true) × In o us
from-filter v o [] h = absurd h
from-filter v o (u ∷ us) h = go (v u) refl h (from-filter v o us)
  where
    go : (b : Bool) → v u ≡ b → In o (cond b (u ∷ filter v us) (filter v us)) → (In o (filter v us) → (v o ≡ true) × In o us) → (v o ≡ true) × In o (u ∷ us)
    go true t (inl same) further = (ap v (sym same) ∙ t, inl same)
    go true t (inr k) further = let old = further k in (old.0, inr old.1)
    go false n k further = let old = further k in (old.0, inr old.1)

-- a packet stays in a view where others are put
pub stays-in : (v : Outgoing → Bool) (o : Outgoing) (vs us : List Outgoing) → In o (filter v us) → In o (filter v (put_all vs us))
stays-in v o vs us h =
    let old = from-filter v o us h in in-filter v o (put_all vs us) old.0 (in-put-all o vs us old.1)
