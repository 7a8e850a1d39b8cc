-- What each pool keeps, after each call.
use Rattle.std.proofs.Common.{◌≡◌, ◌≢◌, ℕ, ◌+◌, ◌<◌, ◌≤◌, zero, suc, Bool, true, false, ltb, ltb-false, Option, Some, None, IsSome, List, [], ◌∷◌, ◌++◌, length, get_or, set, replicate, slice_get, refl, sym, ◌∙◌, ap, subst, arith, length-append}
use Rattle.std.proofs.lemmas.Bool.{false≢true}
use Rattle.chorus_entry.specs.declared.packet.Packet.{Packet}
use Rattle.place_outbox.specs.declared.pool.Node.{Node}
use Rattle.place_outbox.specs.declared.pool.Chain.{Chain}
use Rattle.place_outbox.specs.Waiting.{count, list_to, nothing_to}
use Rattle.place_outbox.specs.Fronts.{is_filled}
use Rattle.place_outbox.specs.Chains.{listed, packet_of, next_of, key_after, packets_from, lists_of, total, no_chain, chain_of, key_at, IsPool}
use Rattle.place_outbox.proofs.Lists.{key-first, packets-last, list-at}

pub total-set : (cs : List Chain) (p : ℕ) (c : Chain) → p < length cs → total (set cs p c) + (chain_of cs p).len ≡ total cs + c.len
total-set [] p c l = absurd (omega (arith, l))
total-set (t ∷ cs) zero c l = omega arith
total-set (t ∷ cs) (suc p) c l = omega (arith, total-set cs p c (omega (arith, l)))

pub len-total : (cs : List Chain) (p : ℕ) → (chain_of cs p).len ≤ total cs
len-total [] p = omega arith
len-total (t ∷ cs) zero = omega arith
len-total (t ∷ cs) (suc p) = omega (arith, len-total cs p)

-- a chain whose nodes are there has as many packets

pub length-packets : (f : ℕ → Option Node) (key n : ℕ) → ((i : ℕ) → i < n → IsSome (f (key_after f key i))) → length (packets_from f key n) ≡ n
length-packets f key zero h = refl
length-packets f key (suc n) h =
    ap length (packets-last f key n)
    ∙ length-append (packets_from f key n) (listed (packet_of (f (key_after f key n))))
    ∙ ap (λ x. x + length (listed (packet_of (f (key_after f key n))))) (length-packets f key n (λ i l. h i (omega arith)))
    ∙ one (f (key_after f key n)) (h n (omega arith))
  where
    one : (o : Option Node) → IsSome o → n + length (listed (packet_of o)) ≡ suc n
    one None e = cc
    one (Some v) e = omega arith

pub count-lists_of : (f : ℕ → Option Node) (cs : List Chain)
    → ((p i : ℕ) → i < (chain_of cs p).len → IsSome (f (key_at f cs p i))) → count (lists_of f cs) ≡ total cs
count-lists_of f [] h = refl
count-lists_of f (c ∷ cs) h =
    ap (λ x. x + count (lists_of f cs)) (length-packets f c.first c.len (h 0))
    ∙ ap (λ x. c.len + x) (count-lists_of f cs (λ p. h (suc p)))

pub count-pool : (f : ℕ → Option Node) (cs : List Chain) (puts waiting : ℕ) → IsPool f cs puts waiting → waiting ≡ count (lists_of f cs)
count-pool f cs puts waiting h = h.counted ∙ sym (count-lists_of f cs h.filled)

-- a pool with nothing in it

no_chain-at : (n i : ℕ) → get_or (replicate n no_chain) i no_chain ≡ no_chain
no_chain-at zero i = refl
no_chain-at (suc n) zero = refl
no_chain-at (suc n) (suc i) = no_chain-at n i

total-none : (n : ℕ) → total (replicate n no_chain) ≡ 0
total-none zero = refl
total-none (suc n) = omega (arith, total-none n)

pub new-pool : (f : ℕ → Option Node) (n : ℕ) (cs : List Chain) → cs ≡ replicate n no_chain → IsPool f cs 0 0
new-pool f n cs e = record {
  filled = λ p i l. absurd (let z = none p in omega (arith, z, l));
  last = λ p i l. absurd (let z = none p in omega (arith, z, l));
  apart = λ p i q j l m s. absurd (let z = none p in omega (arith, z, l));
  counted = sym (ap total e ∙ total-none n);
  at_most = omega arith;
}
  where
    none : (p : ℕ) → (chain_of cs p).len ≡ 0
    none p = ap (λ ts. (chain_of ts p).len) e ∙ ap (λ c. c.len) (no_chain-at n p)

lists-none : (f : ℕ → Option Node) (n : ℕ) → lists_of f (replicate n no_chain) ≡ replicate n []
lists-none f zero = refl
lists-none f (suc n) = ap (λ ls. [] ∷ ls) (lists-none f n)

pub new-lists : (f : ℕ → Option Node) (n : ℕ) (cs : List Chain) → cs ≡ replicate (n + 1) no_chain → lists_of f cs ≡ nothing_to n
new-lists f n cs e = ap (lists_of f) e ∙ lists-none f (n + 1)

-- the packet at a position of a chain, and none past its end
pub packet-at : (f : ℕ → Option Node) (key n i : ℕ) → ((j : ℕ) → j < n → IsSome (f (key_after f key j))) → i < n
    → slice_get (packets_from f key n) i ≡ packet_of (f (key_after f key i))
packet-at f key zero i h l = absurd (omega (arith, l))
packet-at f key (suc n) i h l =
    at-first (f key) i refl (h 0 (omega arith)) l
    (λ j less. packet-at f (next_of (f key)) n j (λ m b. subst (λ k. IsSome (f k)) (key-first f key m) (h (suc m) (omega arith))) less)
  where
    at-first : (o : Option Node) (i : ℕ) → f key ≡ o → IsSome o → i < suc n
        → ((j : ℕ) → j < n → slice_get (packets_from f (next_of (f key)) n) j ≡ packet_of (f (key_after f (next_of (f key)) j)))
        → slice_get (listed (packet_of o) ++ packets_from f (next_of (f key)) n) i ≡ packet_of (f (key_after f key i))
    at-first None i e s l r = cc
    at-first (Some v) zero e s l r = ap packet_of (sym e)
    at-first (Some v) (suc i) e s l r = r i (omega (arith, l)) ∙ ap (λ k. packet_of (f k)) (sym (key-first f key i))

none-past : (xs : List Packet) (i : ℕ) → length xs ≤ i → slice_get xs i ≡ None
none-past [] i l = refl
none-past (x ∷ xs) zero l = absurd (omega (arith, l))
none-past (x ∷ xs) (suc i) l = none-past xs i (omega (arith, l))

pub within-chain : (f : ℕ → Option Node) (cs : List Chain) (puts waiting p i : ℕ) → IsPool f cs puts waiting → i < (chain_of cs p).len
    → slice_get (list_to p (lists_of f cs)) i ≡ packet_of (f (key_at f cs p i))
within-chain f cs puts waiting p i h l =
    ap (λ xs. slice_get xs i) (list-at f p cs) ∙ packet-at f (chain_of cs p).first (chain_of cs p).len i (h.filled p) l

pub past-chain : (f : ℕ → Option Node) (cs : List Chain) (puts waiting p i : ℕ) → IsPool f cs puts waiting → (chain_of cs p).len ≤ i
    → slice_get (list_to p (lists_of f cs)) i ≡ None
past-chain f cs puts waiting p i h l =
    let n = length-packets f (chain_of cs p).first (chain_of cs p).len (h.filled p) in
    ap (λ xs. slice_get xs i) (list-at f p cs)
    ∙ none-past (packets_from f (chain_of cs p).first (chain_of cs p).len) i (omega (arith, n, l))

-- whether some wait for a place
above-zero : (n : ℕ) → ltb 0 (suc n) ≡ true
above-zero n = by (ltb 0 (suc n)) refl
  where
    by : (b : Bool) → ltb 0 (suc n) ≡ b → b ≡ true
    by true e = refl
    by false e = absurd (omega (arith, ltb-false 0 (suc n) e))

pub filled-chain : (f : ℕ → Option Node) (cs : List Chain) (puts waiting p : ℕ) (c : Chain) → IsPool f cs puts waiting → c ≡ chain_of cs p
    → ltb 0 c.len ≡ is_filled (list_to p (lists_of f cs))
filled-chain f cs puts waiting p c h e = ap (λ t. ltb 0 t.len) e ∙ by (chain_of cs p).len refl ∙ ap is_filled (sym (list-at f p cs))
  where
    by : (n : ℕ) → (chain_of cs p).len ≡ n → ltb 0 n ≡ is_filled (packets_from f (chain_of cs p).first n)
    by zero q = refl
    by (suc n) q = above-zero n ∙ some (f (chain_of cs p).first) (h.filled p 0 (omega (arith, q)))
      where
        some : (o : Option Node) → IsSome o → true ≡ is_filled (listed (packet_of o) ++ packets_from f (next_of (f (chain_of cs p).first)) n)
        some None k = absurd (false≢true k)
        some (Some v) k = refl

-- the first and the last node of a chain with any are there
pub first-there : (f : ℕ → Option Node) (cs : List Chain) (puts waiting p : ℕ) (c : Chain) → IsPool f cs puts waiting → c ≡ chain_of cs p
    → c.len ≢ 0 → IsSome (f c.first)
first-there f cs puts waiting p c h e ne =
    let n : c.len ≡ (chain_of cs p).len = ap (λ t. t.len) e in
    subst (λ t. IsSome (f t.first)) (sym e) (h.filled p 0 (omega (arith, n, ne)))

pub last-there : (f : ℕ → Option Node) (cs : List Chain) (puts waiting p : ℕ) (c : Chain) → IsPool f cs puts waiting → c ≡ chain_of cs p
    → c.len ≢ 0 → IsSome (f c.last)
last-there f cs puts waiting p c h e ne =
    let n : c.len ≡ (chain_of cs p).len = ap (λ t. t.len) e in
    by (chain_of cs p).len refl (omega (arith, n, ne))
  where
    by : (n : ℕ) → (chain_of cs p).len ≡ n → 0 < n → IsSome (f c.last)
    by zero q l = absurd (omega (arith, l))
    by (suc n) q l = subst (λ k. IsSome (f k)) (h.last p n q ∙ ap (λ t. t.last) (sym e)) (h.filled p n (omega (arith, q)))

-- a chain has at most as many as wait
pub len-waiting : (f : ℕ → Option Node) (cs : List Chain) (puts waiting p : ℕ) (c : Chain) → IsPool f cs puts waiting → c ≡ chain_of cs p
    → c.len ≤ waiting
len-waiting f cs puts waiting p c h e =
    let n : c.len ≡ (chain_of cs p).len = ap (λ t. t.len) e in
    let t = len-total cs p in
    let k = h.counted in
    omega (arith, n, t, k)
