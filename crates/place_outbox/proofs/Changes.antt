-- What a packet that is put and one that is taken make of the chains.
use Rattle.std.proofs.Common.{◌≡◌, ◌≢◌, ◌⊎◌, inl, inr, ℕ, ◌+◌, ◌-◌, ◌<◌, zero, suc, Option, Some, None, IsSome, List, [], ◌∷◌, ◌++◌, length, drop, set, refl, sym, ◌∙◌, ap, subst, arith, add-one, get_or-set_same, get_or-set_other}
use Rattle.std.proofs.lemmas.Bool.{cases_eq, false≢true}
use Rattle.slab.specs.Slab.{Slab, get, with_value, Updates}
use Rattle.slab.proofs.SlabLemmas.{Updates-with_value}
use Rattle.chorus_entry.specs.declared.packet.Packet.{Packet}
use Rattle.place_outbox.specs.declared.pool.Node.{Node}
use Rattle.place_outbox.specs.declared.pool.Chain.{Chain}
use Rattle.place_outbox.specs.Waiting.{list_to, with_last, without_first}
use Rattle.place_outbox.specs.Chains.{listed, packet_of, next_of, key_after, packets_from, lists_of, no_chain, chain_of, key_at, IsPool}
use Rattle.place_outbox.proofs.Lists.{key-first, keys-same, packets-last, packets-same, Keeps, list-at, lists-set}
use Rattle.place_outbox.proofs.Whole.{total-set}

none-some : (o : Option Node) → o ≡ None → IsSome o → ⊥
none-some o e s = false≢true (subst IsSome e s)

still : (o n : Option Node) → packet_of n ≡ packet_of o → IsSome o → IsSome n
still None n e s = absurd (false≢true s)
still (Some a) None e s = absurd (cc)
still (Some a) (Some b) e s = refl

has-packet : (o : Option Node) (packet : Packet) → packet_of o ≡ Some packet → IsSome o
has-packet None packet e = absurd (cc)
has-packet (Some a) packet e = refl

one-more : (n : ℕ) → n ≢ 0 → (m : ℕ) × (n ≡ suc m)
one-more zero ne = absurd (ne refl)
one-more (suc m) ne = (m, refl)

chain-here : (cs : List Chain) (p : ℕ) (c' : Chain) → p < length cs → (q : ℕ) → q ≡ p → chain_of (set cs p c') q ≡ c'
chain-here cs p c' within q e = ap (chain_of (set cs p c')) e ∙ get_or-set_same cs p c' no_chain within

chain-other : (cs : List Chain) (p : ℕ) (c' : Chain) (q : ℕ) → q ≢ p → chain_of (set cs p c') q ≡ chain_of cs q
chain-other cs p c' q ne = get_or-set_other cs p q c' no_chain ne

-- a node with a new key stands behind the last one of the chain c, which is now c'
pub record Joins (f g : ℕ → Option Node) (key : ℕ) (packet : Packet) (c c' : Chain) : Type 0 where
  pub fresh : f key ≡ None
  pub here : packet_of (g key) ≡ Some packet
  pub packets : (k : ℕ) → k ≢ key → packet_of (g k) ≡ packet_of (f k)
  pub nexts : (k : ℕ) → k ≢ key → (c.len ≢ 0 → k ≢ c.last) → next_of (g k) ≡ next_of (f k)
  pub linked : c.len ≢ 0 → next_of (g c.last) ≡ key
  pub first : c.len ≢ 0 → c'.first ≡ c.first
  pub alone : c.len ≡ 0 → c'.first ≡ key
  pub last : c'.last ≡ key
  pub len : c'.len ≡ c.len + 1

-- what another key has where one was filled
pub still-there : (old new : Slab Node) (key other : ℕ) (node : Node) → get old key ≡ None → Updates old new key (Some node) → IsSome (get old other)
    → IsSome (get new other)
still-there old new key other node fresh u s =
    subst IsSome (sym (u.others other (λ e. none-some (get old key) fresh (subst (λ k. IsSome (get old k)) e s)))) s

-- the first one of its chain
joins-alone : (old new : Slab Node) (key next : ℕ) (packet : Packet) (c : Chain) → c.len ≡ 0 → get old key ≡ None
    → Updates old new key (Some record { packet = packet; next = next })
    → Joins (get old) (get new) key packet c record { first = key; last = key; len = c.len + 1 }
joins-alone old new key next packet c z fresh u = record {
  fresh = fresh;
  here = ap packet_of u.changed;
  packets = λ k ne. ap packet_of (u.others k ne);
  nexts = λ k ne other. ap next_of (u.others k ne);
  linked = λ ne. absurd (ne z);
  first = λ ne. absurd (ne z);
  alone = λ e. refl;
  last = refl;
  len = refl;
}

-- one behind the last one of its chain
joins-behind : (old new : Slab Node) (key next : ℕ) (packet : Packet) (c : Chain) (node : Node) → c.len ≢ 0 → get old key ≡ None
    → Updates old new key (Some record { packet = packet; next = next }) → IsSome (get old c.last) → get new c.last ≡ Some node
    → Joins (get old) (get (with_value new c.last record { packet = node.packet; next = key })) key packet c
    record { first = c.first; last = key; len = c.len + 1 }
joins-behind old new key next packet c node ne fresh u there was = record {
  fresh = fresh;
  here = ap packet_of (v.others key (λ e. differs (sym e)) ∙ u.changed);
  packets = λ k other. packets k other (cases_eq k c.last);
  nexts = λ k other differs. ap next_of (v.others k (differs ne) ∙ u.others k other);
  linked = λ some. ap next_of v.changed;
  first = λ some. refl;
  alone = λ z. absurd (ne z);
  last = refl;
  len = refl;
}
  where
    written : Slab Node
    written = with_value new c.last record { packet = node.packet; next = key }

    v : Updates new written c.last (Some record { packet = node.packet; next = key })
    v = Updates-with_value new c.last record { packet = node.packet; next = key } (subst IsSome (sym was) refl)

    differs : c.last ≢ key
    differs e = none-some (get old key) fresh (subst (λ k. IsSome (get old k)) e there)

    packets : (k : ℕ) → k ≢ key → (k ≡ c.last) ⊎ (k ≢ c.last) → packet_of (get written k) ≡ packet_of (get old k)
    packets k other (inl same) =
        ap (λ x. packet_of (get written x)) same
        ∙ ap packet_of v.changed
        ∙ ap packet_of (sym was ∙ u.others c.last differs)
        ∙ ap (λ x. packet_of (get old x)) (sym same)
    packets k other (inr apart) = ap packet_of (v.others k apart ∙ u.others k other)

-- either way
pub joins : (old new nodes : Slab Node) (key next : ℕ) (packet : Packet) (c before now : Chain) → c ≡ before → get old key ≡ None
    → Updates old new key (Some record { packet = packet; next = next }) → (c.len ≢ 0 → IsSome (get old c.last))
    → ((c.len ≡ 0) × (now ≡ record { first = key; last = c.last; len = c.len }) × (nodes ≡ new))
    ⊎ ((c.len ≢ 0) × (now ≡ c) × (node : Node) × (get new c.last ≡ Some node) × (nodes ≡ with_value new c.last record { packet = node.packet; next = key }))
    → Joins (get old) (get nodes) key packet before record { first = now.first; last = key; len = now.len + 1 }
joins old new nodes key next packet c before now same fresh u there way =
    subst (λ t. Joins (get old) (get nodes) key packet t record { first = now.first; last = key; len = now.len + 1 }) same (by way)
  where
    by : ((c.len ≡ 0) × (now ≡ record { first = key; last = c.last; len = c.len }) × (nodes ≡ new))
        ⊎ ((c.len ≢ 0) × (now ≡ c) × (node : Node) × (get new c.last ≡ Some node) × (nodes ≡ with_value new c.last record { packet = node.packet; next = key }))
        → Joins (get old) (get nodes) key packet c record { first = now.first; last = key; len = now.len + 1 }
    by (inl (none, is, kept)) = rw (is, kept) (joins-alone old new key next packet c none fresh u)
    by (inr (some, is, node, was, written)) = rw (is, written) (joins-behind old new key next packet c node some fresh u (there some) was)

module _ (f g : ℕ → Option Node) (cs : List Chain) (puts waiting p key : ℕ) (packet : Packet) (c' : Chain)
    (h : IsPool f cs puts waiting) (j : Joins f g key packet (chain_of cs p) c') where
  old-key : (q i : ℕ) → i < (chain_of cs q).len → key_at f cs q i ≢ key
  old-key q i l e = none-some (f key) j.fresh (subst (λ k. IsSome (f k)) e (h.filled q i l))

  old-next : (q i : ℕ) → suc i < (chain_of cs q).len → next_of (g (key_at f cs q i)) ≡ next_of (f (key_at f cs q i))
  old-next q i l = j.nexts (key_at f cs q i) (old-key q i (omega (arith, l))) not-last
    where
      not-last : (chain_of cs p).len ≢ 0 → key_at f cs q i ≢ (chain_of cs p).last
      not-last some e =
          let m = one-more (chain_of cs p).len some in
          let both = h.apart q i p m.0 (omega (arith, l)) (let z = m.1 in omega (arith, z)) (e ∙ sym (h.last p m.0 m.1)) in
          let lens : (chain_of cs q).len ≡ (chain_of cs p).len = ap (λ x. (chain_of cs x).len) both.0 in
          let at = both.1 in
          let z = m.1 in
          absurd (omega (arith, l, lens, at, z))

  keeps : (q : ℕ) → Keeps f g (chain_of cs q).first (chain_of cs q).len
  keeps q = record { packets = λ i l. j.packets (key_at f cs q i) (old-key q i l); nexts = λ i l. old-next q i l }

  old-keys : (q i : ℕ) → i < (chain_of cs q).len → key_after g (chain_of cs q).first i ≡ key_at f cs q i
  old-keys q i l = keys-same f g (chain_of cs q).first i (λ n m. old-next q n (omega (arith, l, m)))

  first-keys : (i : ℕ) → i < (chain_of cs p).len → key_after g c'.first i ≡ key_at f cs p i
  first-keys i l = ap (λ k. key_after g k i) (j.first (λ z. absurd (omega (arith, z, l)))) ∙ old-keys p i l

  new-key : key_after g c'.first (chain_of cs p).len ≡ key
  new-key = by (chain_of cs p).len refl
    where
      by : (n : ℕ) → (chain_of cs p).len ≡ n → key_after g c'.first n ≡ key
      by zero e = j.alone e
      by (suc n) e =
          ap (λ k. next_of (g k)) (first-keys n (omega (arith, e)) ∙ h.last p n e) ∙ j.linked (λ z. absurd (omega (arith, e, z)))

  pub put-lists : lists_of g (set cs p c') ≡ with_last p packet (lists_of f cs)
  put-lists = lists-set f g cs p c' (λ q ne. packets-same f g _ _ (keeps q)) ∙ ap (λ l. set (lists_of f cs) p l) list
    where
      before : (n : ℕ) → (chain_of cs p).len ≡ n → packets_from g c'.first n ≡ packets_from f (chain_of cs p).first n
      before zero e = refl
      before (suc n) e =
          ap (λ k. packets_from g k (suc n)) (j.first (λ z. absurd (omega (arith, e, z))))
          ∙ packets-same f g (chain_of cs p).first (suc n) (subst (λ m. Keeps f g (chain_of cs p).first m) e (keeps p))

      list : packets_from g c'.first c'.len ≡ list_to p (lists_of f cs) ++ packet ∷ []
      list =
          let n = (chain_of cs p).len in
          ap (λ m. packets_from g c'.first m) (j.len ∙ add-one n)
          ∙ packets-last g c'.first n
          ∙ ap (λ o. packets_from g c'.first n ++ listed o) (ap (λ k. packet_of (g k)) new-key ∙ j.here)
          ∙ ap (λ l. l ++ packet ∷ []) (before n refl ∙ sym (list-at f p cs))

  module _ (within : p < length cs) where
    -- a position with the new node, and one that was there
    abbrev IsNew : ℕ → ℕ → Type 0
    IsNew q i = (q ≡ p) × (i ≡ (chain_of cs p).len) × (key_at g (set cs p c') q i ≡ key)

    abbrev IsOld : ℕ → ℕ → Type 0
    IsOld q i = (i < (chain_of cs q).len) × (key_at g (set cs p c') q i ≡ key_at f cs q i)

    new-or-old : (q i : ℕ) → i < (chain_of (set cs p c') q).len → IsNew q i ⊎ IsOld q i
    new-or-old q i l = elim (cases_eq q p) [ inl same ↦ here same (cases_eq i (chain_of cs p).len) | inr other ↦ inr (there other) ]
      where
        there : q ≢ p → IsOld q i
        there ne =
            let e = chain-other cs p c' q ne in
            let n : (chain_of (set cs p c') q).len ≡ (chain_of cs q).len = ap (λ t. t.len) e in
            let m : i < (chain_of cs q).len = omega (arith, l, n) in
            (m, ap (λ t. key_after g t.first i) e ∙ old-keys q i m)

        here : q ≡ p → (i ≡ (chain_of cs p).len) ⊎ (i ≢ (chain_of cs p).len) → IsNew q i ⊎ IsOld q i
        here same (inl at) = inl (same, at, ap (λ t. key_after g t.first i) (chain-here cs p c' within q same) ∙ ap (key_after g c'.first) at ∙ new-key)
        here same (inr ne) =
            let n : (chain_of (set cs p c') q).len ≡ (chain_of cs p).len + 1 = ap (λ t. t.len) (chain-here cs p c' within q same) ∙ j.len in
            let m : i < (chain_of cs p).len = omega (arith, l, n, ne) in
            let k : (chain_of cs q).len ≡ (chain_of cs p).len = ap (λ x. (chain_of cs x).len) same in
            inr (omega (arith, m, k), ap (λ t. key_after g t.first i) (chain-here cs p c' within q same) ∙ first-keys i m ∙ ap (λ x. key_at f cs x i) (sym same))

    pub put-pool : IsPool g (set cs p c') (puts + 1) (waiting + 1)
    put-pool = record {
      filled = λ q i l. filled q i (new-or-old q i l);
      last = λ q i e. last q i e (cases_eq q p);
      apart = λ q i r k l m e. apart q i r k e (new-or-old q i l) (new-or-old r k m);
      counted = (let t = total-set cs p c' within in let k = h.counted in let n = j.len in omega (arith, t, k, n));
      at_most = (let a = h.at_most in omega (arith, a));
    }
      where
        filled : (q i : ℕ) → IsNew q i ⊎ IsOld q i → IsSome (g (key_at g (set cs p c') q i))
        filled q i (inl n) = subst (λ k. IsSome (g k)) (sym n.2) (has-packet (g key) packet j.here)
        filled q i (inr o) =
            let k = key_at f cs q i in
            subst (λ k. IsSome (g k)) (sym o.1) (still (f k) (g k) (j.packets k (old-key q i o.0)) (h.filled q i o.0))

        last : (q i : ℕ) → (chain_of (set cs p c') q).len ≡ suc i → (q ≡ p) ⊎ (q ≢ p)
            → key_at g (set cs p c') q i ≡ (chain_of (set cs p c') q).last
        last q i e (inl same) =
            let c = chain-here cs p c' within q same in
            let n : i ≡ (chain_of cs p).len = (let a : c'.len ≡ suc i = ap (λ t. t.len) (sym c) ∙ e in let b = j.len in omega (arith, a, b)) in
            ap (λ t. key_after g t.first i) c ∙ ap (key_after g c'.first) n ∙ new-key ∙ sym j.last ∙ ap (λ t. t.last) (sym c)
        last q i e (inr ne) =
            let c = chain-other cs p c' q ne in
            let n : (chain_of cs q).len ≡ suc i = ap (λ t. t.len) (sym c) ∙ e in
            ap (λ t. key_after g t.first i) c ∙ old-keys q i (omega (arith, n)) ∙ h.last q i n ∙ ap (λ t. t.last) (sym c)

        apart : (q i r k : ℕ) → key_at g (set cs p c') q i ≡ key_at g (set cs p c') r k → IsNew q i ⊎ IsOld q i → IsNew r k ⊎ IsOld r k
            → (q ≡ r) × (i ≡ k)
        apart q i r k e (inl a) (inl b) = (a.0 ∙ sym b.0, a.1 ∙ sym b.1)
        apart q i r k e (inl a) (inr b) = absurd (old-key r k b.0 (sym b.1 ∙ sym e ∙ a.2))
        apart q i r k e (inr a) (inl b) = absurd (old-key q i a.0 (sym a.1 ∙ e ∙ b.2))
        apart q i r k e (inr a) (inr b) = h.apart q i r k a.0 b.0 (sym a.1 ∙ e ∙ b.1)

-- the first node of the chain c is gone, and the chain is now c'
pub record Leaves (f g : ℕ → Option Node) (node : Node) (c c' : Chain) : Type 0 where
  pub was : f c.first ≡ Some node
  pub others : (k : ℕ) → k ≢ c.first → g k ≡ f k
  pub first : c'.first ≡ node.next
  pub last : c'.last ≡ c.last
  pub len : c.len ≡ suc c'.len

pub leaves : (old new : Slab Node) (node : Node) (c before : Chain) → c ≡ before → get old c.first ≡ Some node → Updates old new c.first None
    → c.len ≢ 0 → Leaves (get old) (get new) node before record { first = node.next; last = c.last; len = c.len - 1 }
leaves old new node c before same was u ne =
    subst (λ t. Leaves (get old) (get new) node t record { first = node.next; last = c.last; len = c.len - 1 }) same
    record { was = was; others = u.others; first = refl; last = refl; len = omega (arith, ne) }

module _ (f g : ℕ → Option Node) (cs : List Chain) (puts waiting p : ℕ) (node : Node) (c' : Chain)
    (h : IsPool f cs puts waiting) (j : Leaves f g node (chain_of cs p) c') where
  stays : (q i : ℕ) → i < (chain_of cs q).len → (q ≡ p → i ≢ 0) → g (key_at f cs q i) ≡ f (key_at f cs q i)
  stays q i l ne = j.others (key_at f cs q i) (λ e. not-first e)
    where
      not-first : key_at f cs q i ≢ (chain_of cs p).first
      not-first e = let both = h.apart q i p 0 l (let n = j.len in omega (arith, n)) e in ne both.0 both.1

  -- the keys of another chain, and those of this one
  other-keys : (q i : ℕ) → q ≢ p → i < (chain_of cs q).len → key_after g (chain_of cs q).first i ≡ key_at f cs q i
  other-keys q i ne l =
      keys-same f g (chain_of cs q).first i (λ n m. ap next_of (stays q n (omega (arith, l, m)) (λ e. absurd (ne e))))

  one-on : (i : ℕ) → key_after f c'.first i ≡ key_at f cs p (suc i)
  one-on i = ap (λ k. key_after f k i) (j.first ∙ ap next_of (sym j.was)) ∙ sym (key-first f (chain_of cs p).first i)

  rest-stays : (i : ℕ) → i < c'.len → g (key_after f c'.first i) ≡ f (key_after f c'.first i)
  rest-stays i l =
      subst (λ k. g k ≡ f k) (sym (one-on i)) (stays p (suc i) (let n = j.len in omega (arith, n, l)) (λ e z. absurd (omega (arith, z))))

  rest-keys : (i : ℕ) → i < c'.len → key_after g c'.first i ≡ key_at f cs p (suc i)
  rest-keys i l = keys-same f g c'.first i (λ n m. ap next_of (rest-stays n (omega (arith, l, m)))) ∙ one-on i

  pub taken-list : list_to p (lists_of f cs) ≡ node.packet ∷ packets_from f c'.first c'.len
  taken-list =
      list-at f p cs
      ∙ ap (λ n. packets_from f (chain_of cs p).first n) j.len
      ∙ ap (λ o. listed (packet_of o) ++ packets_from f (next_of o) c'.len) j.was
      ∙ ap (λ k. node.packet ∷ packets_from f k c'.len) (sym j.first)

  pub take-lists : lists_of g (set cs p c') ≡ without_first p (lists_of f cs)
  take-lists =
      lists-set f g cs p c' (λ q ne. packets-same f g _ _ (others q ne))
      ∙ ap (λ l. set (lists_of f cs) p l) (packets-same f g c'.first c'.len rest ∙ ap (drop 1) (sym taken-list))
    where
      others : (q : ℕ) → q ≢ p → Keeps f g (chain_of cs q).first (chain_of cs q).len
      others q ne = record {
        packets = λ i l. ap packet_of (stays q i l (λ e. absurd (ne e)));
        nexts = λ i l. ap next_of (stays q i (omega (arith, l)) (λ e. absurd (ne e)));
      }

      rest : Keeps f g c'.first c'.len
      rest = record { packets = λ i l. ap packet_of (rest-stays i l); nexts = λ i l. ap next_of (rest-stays i (omega (arith, l))) }

  module _ (within : p < length cs) where
    -- where the node at a position stood before
    record Stood (q i n : ℕ) : Type 0 where
      before : n < (chain_of cs q).len
      key : key_at g (set cs p c') q i ≡ key_at f cs q n
      here : q ≡ p → n ≡ suc i
      there : q ≢ p → n ≡ i

    stood : (q i : ℕ) → i < (chain_of (set cs p c') q).len → (n : ℕ) × Stood q i n
    stood q i l = by (cases_eq q p)
      where
        by : (q ≡ p) ⊎ (q ≢ p) → (n : ℕ) × Stood q i n
        by (inl same) =
            let c = chain-here cs p c' within q same in
            let m : i < c'.len = (let a : (chain_of (set cs p c') q).len ≡ c'.len = ap (λ t. t.len) c in omega (arith, a, l)) in
            let k : (chain_of cs q).len ≡ (chain_of cs p).len = ap (λ x. (chain_of cs x).len) same in (
              suc i,
              record {
                before = (let n = j.len in omega (arith, m, k, n));
                key = ap (λ t. key_after g t.first i) c ∙ rest-keys i m ∙ ap (λ x. key_at f cs x (suc i)) (sym same);
                here = λ e. refl;
                there = λ ne. absurd (ne same);
              },
            )
        by (inr ne) =
            let c = chain-other cs p c' q ne in
            let m : i < (chain_of cs q).len = (let a : (chain_of (set cs p c') q).len ≡ (chain_of cs q).len = ap (λ t. t.len) c in omega (arith, a, l)) in (
              i,
              record {
                before = m;
                key = ap (λ t. key_after g t.first i) c ∙ other-keys q i ne m;
                here = λ e. absurd (ne e);
                there = λ ne. refl;
              },
            )

    pub take-pool : IsPool g (set cs p c') puts (waiting - 1)
    take-pool = record {
      filled = λ q i l. filled q i (stood q i l);
      last = λ q i e. last q i e (cases_eq q p);
      apart = λ q i r k l m e. apart q i r k e (stood q i l) (stood r k m) (cases_eq q p);
      counted = (let t = total-set cs p c' within in let k = h.counted in let n = j.len in omega (arith, t, k, n));
      at_most = (let a = h.at_most in omega (arith, a));
    }
      where
        filled : (q i : ℕ) → (n : ℕ) × Stood q i n → IsSome (g (key_at g (set cs p c') q i))
        filled q i (n, s) =
            let after-first : q ≡ p → n ≢ 0 = λ e z. absurd (let a = s.here e in omega (arith, a, z)) in
            subst (λ k. IsSome (g k)) (sym s.key) (subst IsSome (sym (stays q n s.before after-first)) (h.filled q n s.before))

        last : (q i : ℕ) → (chain_of (set cs p c') q).len ≡ suc i → (q ≡ p) ⊎ (q ≢ p)
            → key_at g (set cs p c') q i ≡ (chain_of (set cs p c') q).last
        last q i e (inl same) =
            let c = chain-here cs p c' within q same in
            let a : c'.len ≡ suc i = ap (λ t. t.len) (sym c) ∙ e in
            ap (λ t. key_after g t.first i) c ∙ rest-keys i (omega (arith, a)) ∙ h.last p (suc i) (j.len ∙ ap suc a) ∙ sym j.last ∙ ap (λ t. t.last) (sym c)
        last q i e (inr ne) =
            let c = chain-other cs p c' q ne in
            let n : (chain_of cs q).len ≡ suc i = ap (λ t. t.len) (sym c) ∙ e in
            ap (λ t. key_after g t.first i) c ∙ other-keys q i ne (omega (arith, n)) ∙ h.last q i n ∙ ap (λ t. t.last) (sym c)

        apart : (q i r k : ℕ) → key_at g (set cs p c') q i ≡ key_at g (set cs p c') r k → (n : ℕ) × Stood q i n → (n : ℕ) × Stood r k n
            → (q ≡ p) ⊎ (q ≢ p) → (q ≡ r) × (i ≡ k)
        apart q i r k e (n, s) (m, t) cases =
            let both = h.apart q n r m s.before t.before (sym s.key ∙ e ∙ t.key) in
            (both.0, same both.0 both.1 cases)
          where
            same : q ≡ r → n ≡ m → (q ≡ p) ⊎ (q ≢ p) → i ≡ k
            same a b (inl z) = (let x = s.here z in let y = t.here (sym a ∙ z) in omega (arith, b, x, y))
            same a b (inr ne) = (let x = s.there ne in let y = t.there (λ z. ne (a ∙ z)) in omega (arith, b, x, y))
