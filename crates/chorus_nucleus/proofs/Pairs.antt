-- Taking what is left of places, pair by pair of places.
-- The words are those of specs/Leavings.antt.
use Rattle.std.proofs.Common.{ℕ, zero, suc, ◌≡◌, ◌≢◌, ◌+◌, ◌≤◌, ◌==◌, ◌⊎◌, Bool, true, false, cond, List, [], ◌++◌, Option, refl, sym, ◌∙◌, ap, subst, inl, inr, append_assoc, arith}
use Rattle.std.proofs.lemmas.Bool.{eqb-false, cases_eq}
use Rattle.chorus_entry.specs.declared.packet.Packet.{Packet}
use Rattle.place_outbox.specs.Waiting.{list_to}
use Rattle.chorus_ruled_ends.specs.Ruled.{end_to, end_from, sent_by, received_by}
use Rattle.law_closing.specs.Closing.{IsPlace}
use Rattle.chorus_nucleus.specs.declared.leavings.Remains.{Remains}
use Rattle.chorus_nucleus.specs.Leavings.{hand_from, unreceived, between, Settles, SameOut, SameInto, the, remains_of, TakesOne, TakesRow}
use Rattle.law_history.specs.Places.{up_to, from_one, by_link}

-- lists of numbers, one after the other

pub up-next : {A : Type 0} (n : ℕ) (f : ℕ → List A) → up_to (n + 1) f ≡ up_to n f ++ f (n + 1)
up-next n f = by (n + 1) (omega arith)
  where
    by : (m : ℕ) → suc n ≡ m → up_to m f ≡ up_to n f ++ f m
    by m e = subst (λ k. up_to k f ≡ up_to n f ++ f k) e refl

pub up-same : {A : Type 0} (n : ℕ) (f g : ℕ → List A) → ((q : ℕ) → 1 ≤ q → q ≤ n → f q ≡ g q) → up_to n f ≡ up_to n g
up-same zero f g h = refl
up-same (suc n) f g h =
    ap (λ xs. xs ++ f (suc n)) (up-same n f g (λ q low le. h q low (omega (arith, le)))) ∙ ap (λ xs. up_to n g ++ xs) (h (suc n) (omega arith) (omega arith))

pub row-same : {A : Type 0} (a n : ℕ) (f g : ℕ → List A) → ((q : ℕ) → IsPlace n q → q ≢ a → f q ≡ g q) → up_to n (λ q. cond (q == a) [] (f q)) ≡ up_to n (λ q. cond (q == a) [] (g q))
row-same a n f g h = up-same n (λ q. cond (q == a) [] (f q)) (λ q. cond (q == a) [] (g q)) (λ q low le. by q low le (q == a) refl)
  where
    by : (q : ℕ) → 1 ≤ q → q ≤ n → (c : Bool) → (q == a) ≡ c → cond c [] (f q) ≡ cond c [] (g q)
    by q low le true e = refl
    by q low le false e = h q (low, le) (eqb-false q a e)

pub row-of : {A : Type 0} (n : ℕ) (f g : ℕ → ℕ → List A) (a : ℕ) → ((q : ℕ) → IsPlace n q → q ≢ a → f a q ≡ g a q) → from_one n f a ≡ from_one n g a
row-of n f g a h = row-same a n (f a) (g a) h

pub link-same : {A : Type 0} (n : ℕ) (f g : ℕ → ℕ → List A) → ((p q : ℕ) → IsPlace n p → IsPlace n q → q ≢ p → f p q ≡ g p q) → by_link n f ≡ by_link n g
link-same n f g h = up-same n (from_one n f) (from_one n g) (λ p low le. row-of n f g p (λ q is ne. h p q (low, le) is ne))

-- a pair of places

pub same-out : (q : ℕ) (s : Remains) → SameOut q s s
same-out q s = record { end = refl; waits = refl }

pub same-into : (p : ℕ) (s : Remains) → SameInto p s s
same-into p s = record { end = refl; hand = refl }

pub out-then : (q : ℕ) (s t u : Remains) → SameOut q s t → SameOut q t u → SameOut q s u
out-then q s t u h k = record { end = k.end ∙ h.end; waits = k.waits ∙ h.waits }

pub into-then : (p : ℕ) (s t u : Remains) → SameInto p s t → SameInto p t u → SameInto p s u
into-then p s t u h k = record { end = k.end ∙ h.end; hand = k.hand ∙ h.hand }

pub between-as : (a b : ℕ) (s t u v : Remains) → SameOut b s t → SameInto a u v → between a t b v ≡ between a s b u
between-as a b s t u v h k =
    ap (λ xs. xs ++ (unreceived (end_to b t.ends) (end_from a v.ends) ++ list_to b t.out.lists)) k.hand
    ∙ ap (λ e. hand_from a u ++ (unreceived e (end_from a v.ends) ++ list_to b t.out.lists)) h.end
    ∙ ap (λ e. hand_from a u ++ (unreceived (end_to b s.ends) e ++ list_to b t.out.lists)) k.end
    ∙ ap (λ xs. hand_from a u ++ (unreceived (end_to b s.ends) (end_from a u.ends) ++ xs)) h.waits

pub settles-as : (a b : ℕ) (s t u v : Remains) → SameOut b s t → SameInto a u v → Settles a t b v → Settles a s b u
settles-as a b s t u v h k e =
    subst (λ x. sent_by (end_to b s.ends) ≡ received_by x ++ unreceived (end_to b s.ends) x) k.end
    (subst (λ x. sent_by x ≡ received_by (end_from a v.ends) ++ unreceived x (end_from a v.ends)) h.end e)

-- a row: the place and each other one

pub row-more : (a b : ℕ) (p0 p1 p2 : List Packet) (s t u : Remains) (s0 s1 s2 : List (Option Remains)) → TakesRow a b p0 p1 s t s0 s1 → TakesOne a (b + 1) p1 p2 t u s1 s2 → TakesRow a (b + 1) p0 p2 s u s0 s2
row-more a b p0 p1 p2 s t u s0 s1 s2 r o = record {
  packets = o.packets ∙ ap (λ xs. xs ++ cond (b + 1 == a) [] (between a t (b + 1) (remains_of (b + 1) s1))) r.packets
      ∙ append_assoc p0 (up_to b f) (cond (b + 1 == a) [] (between a t (b + 1) (remains_of (b + 1) s1)))
      ∙ ap (λ xs. p0 ++ (up_to b f ++ cond (b + 1 == a) [] xs)) same ∙ ap (λ xs. p0 ++ xs) (sym (up-next b f));
  settled = λ q low le ne. settle q low le ne (cases_eq q (b + 1));
  count = o.count ∙ r.count;
  there = λ q. o.there q ∙ r.there q;
  out = λ q lt. out-then q s t u (r.out q (omega (arith, lt))) (o.out q (λ e. omega (arith, lt, e)));
  kept = λ p. into-then p s t u (r.kept p) (o.kept p);
  ahead = λ q lt. o.others q (omega (arith, lt)) (λ e. omega (arith, lt, e)) ∙ r.ahead q (omega (arith, lt));
  there_out = λ p q low. out-then q (remains_of p s0) (remains_of p s1) (remains_of p s2) (r.there_out p q low) (outs p q low (cases_eq p (b + 1)));
  into = λ p q low ne. into-then p (remains_of q s0) (remains_of q s1) (remains_of q s2) (r.into p q low ne) (intos p q low ne (cases_eq q (b + 1)));
}
  where
    f : ℕ → List Packet
    f q = cond (q == a) [] (between a s q (remains_of q s0))

    at : remains_of (b + 1) s1 ≡ remains_of (b + 1) s0
    at = ap the (r.ahead (b + 1) (omega arith))

    same : between a t (b + 1) (remains_of (b + 1) s1) ≡ between a s (b + 1) (remains_of (b + 1) s0)
    same =
        ap (λ z. between a t (b + 1) z) at
        ∙ between-as a (b + 1) s t (remains_of (b + 1) s0) (remains_of (b + 1) s0) (r.out (b + 1) (omega arith)) (same-into a (remains_of (b + 1) s0))

    settle : (q : ℕ) → 1 ≤ q → q ≤ b + 1 → q ≢ a → (q ≡ b + 1) ⊎ (q ≢ b + 1) → Settles a s q (remains_of q s0)
    settle q low le ne (inl is) = subst (λ z. Settles a s z (remains_of z s0)) (sym is) last
      where
        last : Settles a s (b + 1) (remains_of (b + 1) s0)
        last =
            settles-as a (b + 1) s t (remains_of (b + 1) s0) (remains_of (b + 1) s0) (r.out (b + 1) (omega arith)) (same-into a (remains_of (b + 1) s0))
            (subst (λ z. Settles a t (b + 1) z) at (o.settled (λ e. ne (is ∙ e))))
    settle q low le ne (inr other) = r.settled q low (omega (arith, le, other)) ne

    outs : (p q : ℕ) → 1 ≤ p → (p ≡ b + 1) ⊎ (p ≢ b + 1) → SameOut q (remains_of p s1) (remains_of p s2)
    outs p q low (inl is) = subst (λ z. SameOut q (remains_of z s1) (remains_of z s2)) (sym is) (o.there_out q)
    outs p q low (inr other) = subst (λ z. SameOut q (remains_of p s1) z) (sym (ap the (o.others p low other))) (same-out q (remains_of p s1))

    intos : (p q : ℕ) → 1 ≤ q → p ≢ a → (q ≡ b + 1) ⊎ (q ≢ b + 1) → SameInto p (remains_of q s1) (remains_of q s2)
    intos p q low ne (inl is) = subst (λ z. SameInto p (remains_of z s1) (remains_of z s2)) (sym is) (o.into p ne)
    intos p q low ne (inr other) = subst (λ z. SameInto p (remains_of q s1) z) (sym (ap the (o.others q low other))) (same-into p (remains_of q s1))
