-- Tables that keep the same for each key, or each post.
-- rows and others are what waits, posts what may still be heard of, k is a key, x an id.
use Rattle.std.proofs.Common.{ℕ, zero, suc, ◌≡◌, ◌<◌, ◌==◌, Bool, true, false, cond, List, [], ◌∷◌, Option, Some, None, slice_index_or, unwrap_or, ◌⊎◌, inl, inr, refl, sym, ◌∙◌, ap, arith}
use Rattle.std.specs.Option.{option_map}
use Rattle.std.specs.Map.{lookup}
use Rattle.std.proofs.lemmas.Bool.{and_parts, eqb-true}
use Rattle.chorus_entry.specs.declared.id.MsgId.{MsgId}
use Rattle.place_unsettled.specs.declared.wait.Key.{Key}
use Rattle.place_unsettled.specs.declared.unheard.Post.{Post}
use Rattle.place_unsettled.specs.declared.unheard.Copies.{Copies}
use Rattle.place_unsettled.specs.Queues.{Row, queue, empty_row, same_key, key_at}
use Rattle.place_unsettled.specs.Unheard.{same_post, post_of, is_open, is_unheard, post_at, copies_of}
use Rattle.place_unsettled.proofs.Keys.{same_row}
use Rattle.chorus_explore.specs.AlikeSites.Places.{AreIn}

-- What waits.

abbrev Keys : Type 0
Keys = List (Key × Row)

-- the rows have the same keys
abbrev SameKeys : Keys → Keys → Type 0
SameKeys [] [] = Unit {0}
SameKeys [] (o ∷ others) = ⊥
SameKeys (r ∷ rows) [] = ⊥
SameKeys (r ∷ rows) (o ∷ others) = (r.0 ≡ o.0) × SameKeys rows others

abbrev key-or : Key → Option Key → Key
key-or k None = k
key-or k (Some l) = l

pub from-some : (k l : Key) → Some k ≡ Some l → k ≡ l
from-some k l e = ap (key-or k) e

keys-till : (rows others : Keys) (n : ℕ) → ((i : ℕ) → i < n → key_at rows i ≡ key_at others i) → key_at rows n ≡ None → key_at others n ≡ None → SameKeys rows others
keys-till [] [] n h e f = tt
keys-till [] (o ∷ others) zero h e f = no o.0 f
  where
    no : (k : Key) → Some k ≡ None → ⊥
    no k g = cc
keys-till [] (o ∷ others) (suc n) h e f = no o.0 (h 0 (omega arith))
  where
    no : (k : Key) → None ≡ Some k → ⊥
    no k g = cc
keys-till (r ∷ rows) [] zero h e f = no r.0 e
  where
    no : (k : Key) → Some k ≡ None → ⊥
    no k g = cc
keys-till (r ∷ rows) [] (suc n) h e f = no r.0 (h 0 (omega arith))
  where
    no : (k : Key) → Some k ≡ None → ⊥
    no k g = cc
keys-till (r ∷ rows) (o ∷ others) zero h e f = no r.0 e
  where
    no : (k : Key) → Some k ≡ None → SameKeys (r ∷ rows) (o ∷ others)
    no k g = absurd (cc)
keys-till (r ∷ rows) (o ∷ others) (suc n) h e f =
    (from-some r.0 o.0 (h 0 (omega arith)), keys-till rows others n (λ i l. h (suc i) (omega (arith, l))) e f)

-- a key is in neither, or stands in the first at some place
abbrev Stands : Keys → Key → Type 0
Stands rows k = (i : ℕ) × ((l : Key) × ((key_at rows i ≡ Some l) × (same_key k l ≡ true)))

stands-or-not : (k : Key) (rows others : Keys) → SameKeys rows others
    → ((lookup (same_key k) rows ≡ None) × (lookup (same_key k) others ≡ None)) ⊎ Stands rows k
stands-or-not k [] [] h = inl (refl, refl)
stands-or-not k [] (o ∷ others) h = absurd h
stands-or-not k (r ∷ rows) [] h = absurd h
stands-or-not k (r ∷ rows) (o ∷ others) h = by (same_key k r.0) refl (stands-or-not k rows others h.1)
  where
    by : (b : Bool) → same_key k r.0 ≡ b → ((lookup (same_key k) rows ≡ None) × (lookup (same_key k) others ≡ None)) ⊎ Stands rows k
        → ((lookup (same_key k) (r ∷ rows) ≡ None) × (lookup (same_key k) (o ∷ others) ≡ None)) ⊎ Stands (r ∷ rows) k
    by true e rest = inr (0, (r.0, (refl, e)))
    by false e (inl both) = inl (
      ap (λ b. cond b (Some r.1) (lookup (same_key k) rows)) e ∙ both.0,
      ap (λ b. cond b (Some o.1) (lookup (same_key k) others)) (ap (same_key k) (sym h.0) ∙ e) ∙ both.1,
    )
    by false e (inr s) = inr (suc s.0, s.1)

past-none : (rows : Keys) (n i : ℕ) (k : Key) → key_at rows n ≡ None → key_at rows i ≡ Some k → i < n
past-none [] n i k e f = absurd (cc)
past-none (r ∷ rows) zero i k e f = absurd (cc)
past-none (r ∷ rows) (suc n) zero k e f = omega arith
past-none (r ∷ rows) (suc n) (suc i) k e f = let l = past-none rows n i k e f in omega (arith, l)

pub same-queues : (rows others : Keys) (n : ℕ) → ((i : ℕ) → i < n → key_at rows i ≡ key_at others i)
    → ((i : ℕ) → i < n → (k : Key) → key_at rows i ≡ Some k → queue rows k ≡ queue others k)
    → key_at rows n ≡ None → key_at others n ≡ None → queue rows ≡ queue others
same-queues rows others n keys same e f = λ i k. at k i
  where
    at : (k : Key) → queue rows k ≡ queue others k
    at k = elim (stands-or-not k rows others (keys-till rows others n keys e f)) [
      | inl both ↦ ap (λ (o : Option Row). (unwrap_or o empty_row).queue) (both.0 ∙ sym both.1)
      | inr s ↦
          (let l = s.1.0 in
          ap (λ (r : Row). r.queue) (same_row rows k l s.1.1.1)
          ∙ same s.0 (past-none rows n s.0 l e s.1.1.0) l s.1.1.0
          ∙ ap (λ (r : Row). r.queue) (sym (same_row others k l s.1.1.1)))
    ]

-- What may still be heard of.

abbrev Posts : Type 0
Posts = List (Post × Copies)

abbrev opened : ℕ → Option (List Bool) → Bool
opened copy None = false
opened copy (Some marks) = slice_index_or marks copy true

is-opened : (copy : ℕ) (o : Option Copies) → is_open copy o ≡ opened copy (option_map (λ (c : Copies). c.open) o)
is-opened copy None = refl
is-opened copy (Some c) = refl

post-or-not : (p : Post) (posts : Posts) → (lookup (same_post p) posts ≡ None) ⊎ ((i : ℕ) × (post_at posts i ≡ Some (p.seat, p.number)))
post-or-not p [] = inl refl
post-or-not p (q ∷ posts) = by (same_post p q.0) refl (post-or-not p posts)
  where
    by : (b : Bool) → same_post p q.0 ≡ b → (lookup (same_post p) posts ≡ None) ⊎ ((i : ℕ) × (post_at posts i ≡ Some (p.seat, p.number)))
        → (lookup (same_post p) (q ∷ posts) ≡ None) ⊎ ((i : ℕ) × (post_at (q ∷ posts) i ≡ Some (p.seat, p.number)))
    by true e rest =
        let both = and_parts (p.seat == q.0.seat) (p.number == q.0.number) e in
        inr (0, (λ j. Some (sym (eqb-true p.seat q.0.seat both.0) j, sym (eqb-true p.number q.0.number both.1) j)))
    by false e (inl none) = inl (ap (λ b. cond b (Some q.1) (lookup (same_post p) posts)) e ∙ none)
    by false e (inr s) = inr (suc s.0, s.1)

same-copies : (posts others : Posts) → AreIn posts others → AreIn others posts → (seat number : ℕ) → copies_of posts seat number ≡ copies_of others seat number
same-copies posts others h f seat number =
    by (post-or-not (record { seat = seat; number = number }) posts) (post-or-not (record { seat = seat; number = number }) others)
  where
    by : (lookup (same_post (record { seat = seat; number = number })) posts ≡ None) ⊎ ((i : ℕ) × (post_at posts i ≡ Some (seat, number)))
        → (lookup (same_post (record { seat = seat; number = number })) others ≡ None) ⊎ ((i : ℕ) × (post_at others i ≡ Some (seat, number)))
        → copies_of posts seat number ≡ copies_of others seat number
    by (inr s) rest = h s.0 seat number s.1
    by (inl none) (inr s) = sym (f s.0 seat number s.1)
    by (inl none) (inl nothing) = ap (option_map (λ (c : Copies). c.open)) (none ∙ sym nothing)

pub same-unheard : (posts others : Posts) → AreIn posts others → AreIn others posts → is_unheard posts ≡ is_unheard others
same-unheard posts others h f = λ i x. at x i
  where
    at : (x : MsgId) → is_unheard posts x ≡ is_unheard others x
    at x =
        is-opened x.copy (lookup (same_post (post_of x)) posts)
        ∙ ap (opened x.copy) (same-copies posts others h f x.seat x.number)
        ∙ sym (is-opened x.copy (lookup (same_post (post_of x)) others))
