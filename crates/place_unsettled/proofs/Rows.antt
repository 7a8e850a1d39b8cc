-- What a change of the map does to each row.
use Rattle.std.proofs.Common.{◌≡◌, ℕ, Bool, true, false, cond, Option, Some, None, IsSome, is_some, unwrap_or, List, [], ◌∷◌, length, drop, arith, refl, sym, ◌∙◌, ap, subst}
use Rattle.std.specs.Map.{lookup}
use Rattle.place_unsettled.specs.declared.wait.Key.{Key}
use Rattle.place_unsettled.specs.declared.wait.Wait.{Wait}
use Rattle.place_unsettled.specs.Queues.{Queue, Row, row, empty_queue, empty_row, passed, same_key}
use Rattle.place_unsettled.proofs.Keys.{same_row, same_key-refl}

-- the map n has the row w at k, and what the map m has elsewhere
abbrev pub Puts : List (Key × Row) → List (Key × Row) → Key → Row → Type 0
Puts m n k w = (q : Key) → row n q ≡ cond (same_key k q) w (row m q)

-- a row was put
pub put : (m n : List (Key × Row)) (k : Key) (w : Row)
    → ((q : Key) → lookup (same_key q) n ≡ cond (same_key k q) (Some w) (lookup (same_key q) m)) → Puts m n k w
put m n k w h q = ap (λ o. unwrap_or o empty_row) (h q) ∙ by (same_key k q)
  where
    by : (b : Bool) → unwrap_or (cond b (Some w) (lookup (same_key q) m)) empty_row ≡ cond b w (row m q)
    by true = refl
    by false = refl

-- a row was written over one that was found
pub written : (m n : List (Key × Row)) (k : Key) (w v : Row)
    → (IsSome (lookup (same_key k) m) → (q : Key) → lookup (same_key q) n ≡ cond (same_key k q) (Some w) (lookup (same_key q) m))
    → lookup (same_key k) m ≡ Some v → Puts m n k w
written m n k w v h found = put m n k w (h (ap is_some found))

-- a row was taken out
pub taken_out : (m n : List (Key × Row)) (k : Key)
    → ((q : Key) → lookup (same_key q) n ≡ cond (same_key k q) None (lookup (same_key q) m)) → Puts m n k empty_row
taken_out m n k h q = ap (λ o. unwrap_or o empty_row) (h q) ∙ by (same_key k q)
  where
    by : (b : Bool) → unwrap_or (cond b None (lookup (same_key q) m)) empty_row ≡ cond b empty_row (row m q)
    by true = refl
    by false = refl

-- of two rows that are put one after the other the second stays
pub twice : (l m n : List (Key × Row)) (k : Key) (v w : Row) → Puts l m k v → Puts m n k w → Puts l n k w
twice l m n k v w f g q = g q ∙ by (same_key k q) (f q)
  where
    by : (b : Bool) → row m q ≡ cond b v (row l q) → cond b w (row m q) ≡ cond b w (row l q)
    by true e = refl
    by false e = e

pub found_row : (m : List (Key × Row)) (k : Key) (o : Option Row) → lookup (same_key k) m ≡ o → row m k ≡ unwrap_or o empty_row
found_row m k o h = ap (λ x. unwrap_or x empty_row) h

-- a part of the row at k became what f makes of it
pub changes : {A : Type 0} (g : Row → A) (f : A → A) (m n : List (Key × Row)) (k : Key) (w v : Row) → Puts m n k w → row m k ≡ v
    → g w ≡ f (g v) → (q : Key) → g (row n q) ≡ cond (same_key k q) (f (g (row m k))) (g (row m q))
changes g f m n k w v h found e q = ap g (h q) ∙ by (same_key k q)
  where
    by : (b : Bool) → g (cond b w (row m q)) ≡ cond b (f (g (row m k))) (g (row m q))
    by true = e ∙ ap (λ x. f (g x)) (sym found)
    by false = refl

-- each row stands to the one before it as that at k does
pub relates : (R : Row → Row → Type 0) (m n : List (Key × Row)) (k : Key) (w v : Row) → Puts m n k w → row m k ≡ v
    → R v w → ((x : Row) → R x x) → (q : Key) → R (row m q) (row n q)
relates R m n k w v h found r same q = by (same_key k q) refl (h q)
  where
    by : (b : Bool) → same_key k q ≡ b → row n q ≡ cond b w (row m q) → R (row m q) (row n q)
    by true s e = subst (R (row m q)) (sym e) (subst (λ x. R x w) (sym (sym (same_row m k q s) ∙ found)) r)
    by false s e = subst (R (row m q)) (sym e) (same (row m q))

-- the row at k is w
pub here : (m n : List (Key × Row)) (k : Key) (w : Row) → Puts m n k w → row n k ≡ w
here m n k w h = h k ∙ ap (λ b. cond b w (row m k)) (same_key-refl k)

-- the rows of the other keys stay
pub others : {A : Type 0} (g : Row → A) (m n : List (Key × Row)) (k : Key) (w : Row) → Puts m n k w
    → (q : Key) → same_key k q ≡ false → g (row n q) ≡ g (row m q)
others g m n k w h q s = ap g (h q ∙ ap (λ b. cond b w (row m q)) s)

pub seen : (l m n : List (Key × Row)) (k : Key) (w : Row) → m ≡ l → Puts m n k w → Puts l n k w
seen l m n k w e h q = h q ∙ ap (λ x. cond (same_key k q) w (row x q)) e

pub also : (m n o : List (Key × Row)) (k : Key) (w : Row) → o ≡ n → Puts m n k w → Puts m o k w
also m n o k w e h q = ap (λ x. row x q) e ∙ h q

-- a queue whose rest is empty passed into nothing
pub emptied : (w v : Queue) (n : ℕ) → w ≡ passed v → n ≡ length w.waits → n ≡ 0 → empty_queue ≡ passed v
emptied w v n e h z = ap (λ ws. record { tried = None; waits = ws }) (by (drop 1 v.waits) (sym (sym z ∙ h ∙ ap (λ q. length q.waits) e)))
  where
    by : (ws : List Wait) → length ws ≡ 0 → [] ≡ ws
    by [] l = refl
    by (w ∷ ws) l = absurd (omega (arith, l))

-- nothing is under way and nothing waits
pub nothing : (q : Queue) → q.tried ≡ None → length q.waits ≡ 0 → q ≡ empty_queue
nothing q t l = ap (λ x. record { tried = x; waits = q.waits }) t ∙ ap (λ ws. record { tried = None; waits = ws }) (by q.waits l)
  where
    by : (ws : List Wait) → length ws ≡ 0 → ws ≡ []
    by [] l = refl
    by (w ∷ ws) l = absurd (omega (arith, l))
