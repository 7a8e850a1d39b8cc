-- Lists that stand in one slab, and what a change of the slab makes of them.
use Rattle.std.proofs.Common.{◌≡◌, ◌≢◌, ℕ, ◌<◌, ◌≤◌, zero, suc, Option, Some, None, IsSome, List, [], ◌∷◌, ◌++◌, length, drop, get_or, set, refl, sym, ◌∙◌, ap, arith, append-nil, append_assoc}
use Rattle.chorus_entry.specs.declared.packet.Packet.{Packet}
use Rattle.place_outbox.specs.declared.pool.Node.{Node}
use Rattle.place_outbox.specs.declared.pool.Chain.{Chain}
use Rattle.place_outbox.specs.Waiting.{list_to, without_first}
use Rattle.place_outbox.specs.Chains.{listed, packet_of, next_of, key_after, packets_from, lists_of, no_chain}

pub any-default : (cs : List Chain) (i : ℕ) (d e : Chain) → i < length cs → get_or cs i d ≡ get_or cs i e
any-default [] i d e l = absurd (omega (arith, l))
any-default (c ∷ cs) zero d e l = refl
any-default (c ∷ cs) (suc i) d e l = any-default cs i d e (omega (arith, l))

pub found : (o : Option Node) → IsSome o → (node : Node) × (o ≡ Some node)
found None h = cc
found (Some node) h = (node, refl)

-- the keys of a chain

pub key-first : (f : ℕ → Option Node) (key n : ℕ) → key_after f key (suc n) ≡ key_after f (next_of (f key)) n
key-first f key zero = refl
key-first f key (suc n) = ap (λ k. next_of (f k)) (key-first f key n)

pub keys-same : (f g : ℕ → Option Node) (key n : ℕ) → ((i : ℕ) → i < n → next_of (g (key_after f key i)) ≡ next_of (f (key_after f key i)))
    → key_after g key n ≡ key_after f key n
keys-same f g key zero h = refl
keys-same f g key (suc n) h = ap (λ k. next_of (g k)) (keys-same f g key n (λ i l. h i (omega arith))) ∙ h n (omega arith)

-- the packets of a chain

pub packets-last : (f : ℕ → Option Node) (key n : ℕ) → packets_from f key (suc n) ≡ packets_from f key n ++ listed (packet_of (f (key_after f key n)))
packets-last f key zero = append-nil (listed (packet_of (f key)))
packets-last f key (suc n) =
    ap (λ l. listed (packet_of (f key)) ++ l)
    (packets-last f (next_of (f key)) n ∙ ap (λ k. packets_from f (next_of (f key)) n ++ listed (packet_of (f k))) (sym (key-first f key n)))
    ∙ sym (append_assoc (listed (packet_of (f key))) (packets_from f (next_of (f key)) n) (listed (packet_of (f (key_after f key (suc n))))))

-- a slab in which these many nodes from this key on have the packets that they had, and all but the last of them the next keys
pub record Keeps (f g : ℕ → Option Node) (key n : ℕ) : Type 0 where
  pub packets : (i : ℕ) → i < n → packet_of (g (key_after f key i)) ≡ packet_of (f (key_after f key i))
  pub nexts : (i : ℕ) → suc i < n → next_of (g (key_after f key i)) ≡ next_of (f (key_after f key i))

pub packets-same : (f g : ℕ → Option Node) (key n : ℕ) → Keeps f g key n → packets_from g key n ≡ packets_from f key n
packets-same f g key zero h = refl
packets-same f g key (suc n) h =
    packets-last g key n
    ∙ ap (λ l. l ++ listed (packet_of (g (key_after g key n))))
    (packets-same f g key n record { packets = λ i l. h.packets i (omega arith); nexts = λ i l. h.nexts i (omega arith) })
    ∙ ap (λ o. packets_from f key n ++ listed o)
    (ap (λ k. packet_of (g k)) (keys-same f g key n (λ i l. h.nexts i (omega arith))) ∙ h.packets n (omega arith))
    ∙ sym (packets-last f key n)

-- the list of each place

pub length-lists_of : (f : ℕ → Option Node) (cs : List Chain) → length (lists_of f cs) ≡ length cs
length-lists_of f [] = refl
length-lists_of f (c ∷ cs) = ap suc (length-lists_of f cs)

pub within : (f : ℕ → Option Node) (cs : List Chain) (ls : List (List Packet)) (place p : ℕ) → lists_of f cs ≡ ls → place < length ls → p ≡ place
    → p < length cs
within f cs ls place p e l same =
    let n : length (lists_of f cs) ≡ length ls = ap length e in
    let m = length-lists_of f cs in
    omega (arith, n, m, l, same)

pub list-at : (f : ℕ → Option Node) (i : ℕ) (cs : List Chain) → list_to i (lists_of f cs) ≡ packets_from f (get_or cs i no_chain).first (get_or cs i no_chain).len
list-at f i [] = refl
list-at f zero (c ∷ cs) = refl
list-at f (suc i) (c ∷ cs) = list-at f i cs

pub lists-same : (f g : ℕ → Option Node) (cs : List Chain)
    → ((q : ℕ) → packets_from g (get_or cs q no_chain).first (get_or cs q no_chain).len ≡ packets_from f (get_or cs q no_chain).first (get_or cs q no_chain).len)
    → lists_of g cs ≡ lists_of f cs
lists-same f g [] h = refl
lists-same f g (c ∷ cs) h =
    ap (λ l. l ∷ lists_of g cs) (h 0) ∙ ap (λ ls. packets_from f c.first c.len ∷ ls) (lists-same f g cs (λ q. h (suc q)))

pub lists-set : (f g : ℕ → Option Node) (cs : List Chain) (p : ℕ) (c' : Chain)
    → ((q : ℕ) → q ≢ p → packets_from g (get_or cs q no_chain).first (get_or cs q no_chain).len ≡ packets_from f (get_or cs q no_chain).first (get_or cs q no_chain).len)
    → lists_of g (set cs p c') ≡ set (lists_of f cs) p (packets_from g c'.first c'.len)
lists-set f g [] p c' h = refl
lists-set f g (c ∷ cs) zero c' h =
    ap (λ ls. packets_from g c'.first c'.len ∷ ls) (lists-same f g cs (λ q. h (suc q) (λ e. absurd (omega (arith, e)))))
lists-set f g (c ∷ cs) (suc p) c' h =
    ap (λ l. l ∷ lists_of g (set cs p c')) (h 0 (λ e. absurd (omega (arith, e))))
    ∙ ap (λ ls. packets_from f c.first c.len ∷ ls) (lists-set f g cs p c' (λ q ne. h (suc q) (λ e. ne (omega (arith, e)))))

-- where nothing waits, nothing is taken
pub nothing-first : (ls : List (List Packet)) (p : ℕ) → list_to p ls ≡ [] → ls ≡ without_first p ls
nothing-first [] p h = refl
nothing-first (l ∷ ls) zero h = ap (λ x. x ∷ ls) (h ∙ ap (drop 1) (sym h))
nothing-first (l ∷ ls) (suc p) h = ap (λ x. l ∷ x) (nothing-first ls p h)

pub past-lists : (f : ℕ → Option Node) (p : ℕ) (cs : List Chain) → length cs ≤ p → list_to p (lists_of f cs) ≡ []
past-lists f p cs l = past (lists_of f cs) p (omega (arith, length-lists_of f cs))
  where
    past : (ls : List (List Packet)) (i : ℕ) → length ls ≤ i → get_or ls i [] ≡ []
    past [] i l = refl
    past (x ∷ ls) zero l = absurd (omega (arith, l))
    past (x ∷ ls) (suc i) l = past ls i (omega (arith, l))

pub empty-list : (f : ℕ → Option Node) (p : ℕ) (cs : List Chain) (c : Chain) → c ≡ get_or cs p no_chain → c.len ≡ 0 → list_to p (lists_of f cs) ≡ []
empty-list f p cs c e z = list-at f p cs ∙ ap (λ t. packets_from f t.first t.len) (sym e) ∙ ap (λ n. packets_from f c.first n) z
