-- What a change of the map does to each message that may be heard of.
use Rattle.std.proofs.Common.{◌≡◌, ℕ, ◌<◌, ◌==◌, zero, suc, Bool, true, false, ◌&&◌, ◌||◌, not, cond, Some, IsSome, is_some, List, [], ◌∷◌, length, get_or, set, refl, sym, ◌∙◌, ap, subst, eqb-true, eq-eqb, true≢false, get_or-set_same, get_or-set_other}
use Rattle.std.specs.Map.{lookup}
use Rattle.chorus_entry.specs.declared.id.MsgId.{MsgId}
use Rattle.chorus_entry.specs.MsgId.{same_id}
use Rattle.place_unsettled.specs.declared.unheard.Post.{Post}
use Rattle.place_unsettled.specs.declared.unheard.Copies.{Copies}
use Rattle.place_unsettled.specs.Unheard.{same_post, post_of, is_open, is_unheard}

-- each of them is true
abbrev pub are_all : List Bool → Bool
are_all [] = true
are_all (b ∷ bs) = b && are_all bs

both : (a b : Bool) → (a && b) ≡ true → (a ≡ true) × (b ≡ true)
both true true h = (refl, refl)
both true false h = (refl, h)
both false b h = (h, absurd (true≢false (sym h)))

pub each_of_all : (bs : List Bool) (i : ℕ) → are_all bs ≡ true → get_or bs i true ≡ true
each_of_all [] i h = refl
each_of_all (b ∷ bs) zero h = (both b (are_all bs) h).0
each_of_all (b ∷ bs) (suc i) h = each_of_all bs i (both b (are_all bs) h).1

same-post : (p q : Post) → same_post p q ≡ true → p ≡ q
same-post p q h =
    let e = both (p.seat == q.seat) (p.number == q.number) h in
    ap (λ s. record { seat = s; number = p.number }) (eqb-true p.seat q.seat e.0)
    ∙ ap (λ n. record { seat = q.seat; number = n }) (eqb-true p.number q.number e.1)

pub asked : (m n : List (Post × Copies)) (p : Post) (w : Copies)
    → ((q : Post) → lookup (same_post q) n ≡ cond (same_post p q) (Some w) (lookup (same_post q) m))
    → ((copy : ℕ) → get_or w.open copy true ≡ true)
    → (x : MsgId) → is_unheard n x ≡ same_post p (post_of x) || is_unheard m x
asked m n p w h all x = ap (λ o. is_open x.copy o) (h (post_of x)) ∙ by (same_post p (post_of x))
  where
    by : (b : Bool) → is_open x.copy (cond b (Some w) (lookup (same_post (post_of x)) m)) ≡ b || is_unheard m x
    by true = all x.copy
    by false = refl

-- one flag closed: that of this copy, and no other
closed : (flags : List Bool) (k x : ℕ) → k < length flags → get_or (set flags k false) x true ≡ not (k == x) && get_or flags x true
closed flags k x l = by (k == x) refl
  where
    by : (b : Bool) → (k == x) ≡ b → get_or (set flags k false) x true ≡ not b && get_or flags x true
    by true e = ap (λ i. get_or (set flags k false) i true) (sym (eqb-true k x e)) ∙ get_or-set_same flags k false true l
    by false e = get_or-set_other flags k x false true (λ s. true≢false (sym (subst (λ i. (k == i) ≡ true) (sym s) (eq-eqb k k refl)) ∙ e))

pub heard : (m n : List (Post × Copies)) (y : MsgId) (v w : Copies) → lookup (same_post (post_of y)) m ≡ Some v
    → (IsSome (lookup (same_post (post_of y)) m)
    → (q : Post) → lookup (same_post q) n ≡ cond (same_post (post_of y) q) (Some w) (lookup (same_post q) m))
    → w.open ≡ set v.open y.copy false → y.copy < length v.open
    → (x : MsgId) → is_unheard n x ≡ not (same_id y x) && is_unheard m x
heard m n y v w found h e l x = ap (λ o. is_open x.copy o) (h (ap is_some found) (post_of x)) ∙ by (same_post (post_of y) (post_of x)) refl
  where
    here : same_post (post_of y) (post_of x) ≡ true → lookup (same_post (post_of x)) m ≡ Some v
    here s = subst (λ p. lookup (same_post p) m ≡ Some v) (same-post (post_of y) (post_of x) s) found

    by : (b : Bool) → same_post (post_of y) (post_of x) ≡ b
        → is_open x.copy (cond b (Some w) (lookup (same_post (post_of x)) m)) ≡ not (b && (y.copy == x.copy)) && is_unheard m x
    by true s =
        ap (λ flags. get_or flags x.copy true) e ∙ closed v.open y.copy x.copy l
        ∙ ap (λ o. not (y.copy == x.copy) && is_open x.copy o) (sym (here s))
    by false s = refl

-- the same, of a post that is named otherwise
pub heard_of : (m n : List (Post × Copies)) (p : Post) (y : MsgId) (v w : Copies) → p ≡ post_of y → lookup (same_post p) m ≡ Some v
    → (IsSome (lookup (same_post p) m)
    → (q : Post) → lookup (same_post q) n ≡ cond (same_post p q) (Some w) (lookup (same_post q) m))
    → w.open ≡ set v.open y.copy false → y.copy < length v.open
    → (x : MsgId) → is_unheard n x ≡ not (same_id y x) && is_unheard m x
heard_of m n p y v w named found h =
    heard m n y v w (subst (λ i. lookup (same_post i) m ≡ Some v) named found)
    (subst (λ i. IsSome (lookup (same_post i) m)
    → (q : Post) → lookup (same_post q) n ≡ cond (same_post i q) (Some w) (lookup (same_post q) m)) named h)
