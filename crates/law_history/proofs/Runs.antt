-- The turns in their order are a schedule: each, when it comes, finds its place, its caller and its packet.
use Rattle.std.proofs.Common.{ℕ, ◌≡◌, ◌<◌, ◌≤◌, true, cond, List, [], ◌∷◌, ◌++◌, map, eqb, refl, sym, ◌∙◌, ap, subst, inl, inr, arith}
use Rattle.std.specs.List.{All, filter}
use Rattle.std.proofs.lemmas.Bool.{eqb-true, cases_Bool, cond_both}
use Rattle.std.proofs.lemmas.List.{append-nil}
use Rattle.std.proofs.lemmas.List.Elements.{All-nil, All-cons, All-head, All-tail, All-weaker, All-filter, All-append}
use Rattle.law_history.specs.Turns.{Input, Sent, Outcome, Machine, Turn, Rises, is_at, is_by, puts_to, packet_from, put_to, got_from, before, IsInOrder}
use Rattle.law_history.specs.Network.{Network, set, relinked, caller_shown, did, carried, happens, May, MayCarry, MayHappen, run, IsSchedule}
use Rattle.law_history.specs.Histories.{event_for, event_of, IsTurn, Takes, Follows, Histories, IsScheduled}
use Rattle.law_history.proofs.Lists.{filter_skip, filter_takes, filter_swap, set_here, set_else, eqb_same, flat_map-cond, append_choice, cancel_front, split_choice, nothing_choice}
use Rattle.law_history.proofs.Order.{before-true, in_order-filter, in_order-rising, same_in_order, IsRising}
use Rattle.law_history.proofs.Sorting.{one_order}
use Rattle.law_history.proofs.Clocks.{IsSound, sound_takes, at_takes, rising_takes, rising_follows, all_from_places}

module _ {P C M K : Type 0} (m : Machine P C M K) where
  -- what is still to come of the histories, when the turns `zs` are
  abbrev ToCome : Network P C K → List (Turn C M K) → Network P C K → Type 0
  ToCome n zs closing = Histories m n (λ p. filter (is_at p) zs) (λ q. filter (is_by q) zs) closing

  record Leads (n : Network P C K) (zs : List (Turn C M K)) (closing : Network P C K) : Type 0 where
    pub schedule : IsSchedule m (map (event_of m) zs) n
    pub places_end : (p : ℕ) → (run m (map (event_of m) zs) n).places p ≡ closing.places p
    pub links_end : (a b : ℕ) → (run m (map (event_of m) zs) n).links a b ≡ closing.links a b
    pub callers_end : (q : ℕ) → (run m (map (event_of m) zs) n).callers q ≡ closing.callers q

  -- the event takes what the turn takes, as the caller w; the links are those without its packet
  record IsTaken (p q clock : ℕ) (w : C) (i : Input M K) (n : Network P C K) : Type 0 where
    pub links : ℕ → ℕ → List K
    pub splits : (a b : ℕ) → n.links a b ≡ cond (eqb p b) (packet_from a i) [] ++ links a b
    pub happens_so : happens m (event_for p q clock i) n ≡ did m p q w i links n
    pub may : MayHappen m (event_for p q clock i) n

  taken : Rises m → (p q clock : ℕ) (i : Input M K) (n : Network P C K) → May m p (caller_shown m q clock n) i n → ((a : ℕ) (k : K) → i ≡ Input.Packet a k → (ks : List K) × (n.links a p ≡ k ∷ ks)) → IsTaken p q clock (caller_shown m q clock n) i n
  taken r p q clock (Input.Command c) n may first =
      let w = caller_shown m q clock n in
      let at = r.at_place p c (n.places p) w may in
      record {
        links = n.links;
        splits = λ a b. nothing_choice (eqb p b) (n.links a b);
        happens_so = ap (λ x. did m x q w (Input.Command c) n.links n) at;
        may = subst (λ x. May m x w (Input.Command c) n) (sym at) may;
      }
  taken r p q clock (Input.Packet a k) n may first =
      let w = caller_shown m q clock n in
      let found = first a k refl in
      let ks : List K = found.0 in
      let is : n.links a p ≡ k ∷ ks = found.1 in
      record {
        links = relinked a p ks n.links;
        splits = λ x b. split_choice (eqb p b) (eqb a x) k ks (n.links x b) (λ u v. ap (λ y. n.links y b) (sym (eqb-true a x v)) ∙ ap (λ z. n.links a z) (sym (eqb-true p b u)) ∙ is);
        happens_so = ap (λ ls. carried m q w a p ls n) is;
        may = subst (λ ls. MayCarry m w a p ls n) (sym is) may;
      }

  -- what is put has a clock as high
  abbrev AtLeast : ℕ → K → Type 0
  AtLeast n k = n ≤ m.stamp k

  abbrev PutsAbove : ℕ → Turn C M K → Type 0
  PutsAbove n t = All (λ (s : Sent K). n ≤ m.stamp s.packet) t.puts

  puts_to-above : (n b : ℕ) (ss : List (Sent K)) → All (λ (s : Sent K). n ≤ m.stamp s.packet) ss → All (AtLeast n) (puts_to b ss)
  puts_to-above n b [] h = All-nil (AtLeast n)
  puts_to-above n b (s ∷ ss) h =
      let High : Sent K → Type 0 = λ s. n ≤ m.stamp s.packet in
      let rest = puts_to-above n b ss (All-tail High s ss h) in
      cond_both (eqb s.to b) (s.packet ∷ puts_to b ss) (puts_to b ss) (All (AtLeast n))
      (λ _. All-cons (AtLeast n) s.packet (puts_to b ss) (All-head High s ss h) rest)
      (λ _. rest)

  put_to-above : (n b : ℕ) (ts : List (Turn C M K)) → All (PutsAbove n) ts → All (AtLeast n) (put_to b ts)
  put_to-above n b [] h = All-nil (AtLeast n)
  put_to-above n b (t ∷ ts) h =
      All-append (AtLeast n) (puts_to b t.puts) (put_to b ts) (puts_to-above n b t.puts (All-head (PutsAbove n) t ts h))
      (put_to-above n b ts (All-tail (PutsAbove n) t ts h))

  higher : (n : ℕ) (zs : List (Turn C M K)) → All (λ (u : Turn C M K). n ≤ u.first) zs → All (IsSound m) zs → All (PutsAbove n) zs
  higher n [] a s = All-nil (PutsAbove n)
  higher n (z ∷ zs) a s =
      let le = All-head (λ (u : Turn C M K). n ≤ u.first) z zs a in
      let own = All-head (IsSound m) z zs s in
      All-cons (PutsAbove n) z zs (All-weaker (λ (s : Sent K). z.first ≤ m.stamp s.packet) (λ (s : Sent K). n ≤ m.stamp s.packet) (λ s h. omega arith) z.puts own.puts)
      (higher n zs (All-tail (λ (u : Turn C M K). n ≤ u.first) z zs a) (All-tail (IsSound m) z zs s))

  -- the turns to come put nothing below the clock of the first of them
  to_come-above : (e : Turn C M K) (zs : List (Turn C M K)) → IsInOrder (e ∷ zs) → All (IsSound m) (e ∷ zs) → All (PutsAbove e.first) (e ∷ zs)
  to_come-above e zs o s =
      let own = All-head (IsSound m) e zs s in
      All-cons (PutsAbove e.first) e zs own.puts (higher e.first zs (All-weaker (λ (u : Turn C M K). before e u ≡ true) (λ (u : Turn C M K). e.first ≤ u.first) (λ u h. (before-true e u h).0) zs o.0) (All-tail (IsSound m) e zs s))

  same_head : (l k : K) (ls ks : List K) → l ∷ ls ≡ k ∷ ks → l ≡ k
  same_head l k ls ks e = cc

  -- the first packet that is got is on the link
  first_on : (n : ℕ) (ls us rest : List K) (k : K) → m.stamp k < n → All (AtLeast n) us → ls ++ us ≡ k ∷ rest → (ks : List K) × (ls ≡ k ∷ ks)
  first_on n [] us rest k lt a e = (let le = All-head (AtLeast n) k rest (subst (All (AtLeast n)) e a) in absurd (omega arith))
  first_on n (l ∷ ls) us rest k lt a e = (ls, ap (λ x. x ∷ ls) (same_head l k (ls ++ us) rest e))

  step : (e : Turn C M K) (zs : List (Turn C M K)) (n closing : Network P C K) → (h : ToCome n (e ∷ zs) closing) → (its : IsTurn m e.place (n.places e.place) e) → (same : e.before ≡ caller_shown m e.seat (m.last e.before) n) → (t : IsTaken e.place e.seat (m.last e.before) (caller_shown m e.seat (m.last e.before) n) e.input n) → ToCome (did m e.place e.seat (caller_shown m e.seat (m.last e.before) n) e.input t.links n) zs closing
  step e zs n closing h its same t =
      let p = e.place in
      let q = e.seat in
      let o : Outcome P C K = m.turn p e.input (n.places p) (caller_shown m q (m.last e.before) n) in
      let was : m.turn p e.input (n.places p) e.before ≡ o = ap (λ w. m.turn p e.input (n.places p) w) same in
      record {
        takes = λ r. elim (cases_Bool (eqb p r)) [
          | inl here ↦
              (let now = subst (λ ts. Takes m r (n.places r) ts (closing.places r)) (filter_takes (is_at r) e zs here) (h.takes r) in
              let there : (m.turn r e.input (n.places r) e.before).place ≡ set p o.place n.places r =
              ap (λ x. (m.turn x e.input (n.places x) e.before).place) (sym (eqb-true p r here)) ∙ ap (λ (z : Outcome P C K). z.place) was ∙ sym (set_here p o.place n.places r here) in
              subst (λ x. Takes m r x (filter (is_at r) zs) (closing.places r)) there now.1)
          | inr away ↦
              subst (λ x. Takes m r x (filter (is_at r) zs) (closing.places r)) (sym (set_else p o.place n.places r away))
              (subst (λ ts. Takes m r (n.places r) ts (closing.places r)) (filter_skip (is_at r) e zs away) (h.takes r))
        ];
        follows = λ r. elim (cases_Bool (eqb q r)) [
          | inl here ↦
              (let now = subst (λ ts. Follows m (n.callers r) ts (closing.callers r)) (filter_takes (is_by r) e zs here) (h.follows r) in
              let there : e.after ≡ set q o.caller n.callers r = its.after ∙ ap (λ (z : Outcome P C K). z.caller) was ∙ sym (set_here q o.caller n.callers r here) in
              subst (λ x. Follows m x (filter (is_by r) zs) (closing.callers r)) there now.1)
          | inr away ↦
              subst (λ x. Follows m x (filter (is_by r) zs) (closing.callers r)) (sym (set_else q o.caller n.callers r away))
              (subst (λ ts. Follows m (n.callers r) ts (closing.callers r)) (filter_skip (is_by r) e zs away) (h.follows r))
        ];
        shared = λ r s. filter_swap (is_by s) (is_at r) zs;
        in_order = λ a b.
            let put : List K = put_to b (filter (is_at a) zs) in
            let got : List K = got_from a (filter (is_at b) zs) in
            let front : List K = cond (eqb p b) (packet_from a e.input) [] in
            let whole =
            ap (λ ls. ls ++ (cond (eqb p a) (puts_to b e.puts) [] ++ put)) (sym (t.splits a b)) ∙ ap (λ ls. n.links a b ++ ls) (sym (flat_map-cond (λ (t : Turn C M K). puts_to b t.puts) (eqb p a) e (filter (is_at a) zs)))
            ∙ h.in_order a b ∙ ap (λ ls. ls ++ closing.links a b) (flat_map-cond (λ (t : Turn C M K). packet_from a t.input) (eqb p b) e (filter (is_at b) zs)) in
            let rest = cancel_front front (t.links a b) (cond (eqb p a) (puts_to b e.puts) [] ++ put) got (closing.links a b) whole in
            append_choice (eqb p a) (t.links a b) (puts_to b o.puts) put
            ∙ ap (λ ss. t.links a b ++ (cond (eqb p a) (puts_to b ss) [] ++ put)) (sym (its.puts ∙ ap (λ (z : Outcome P C K). z.puts) was)) ∙ rest;
      }

  leads : Rises m → (zs : List (Turn C M K)) (n closing : Network P C K) → IsInOrder zs → All (IsSound m) zs → ToCome n zs closing → Leads n zs closing
  leads r [] n closing o s h =
      record {
        schedule = tt;
        places_end = h.takes;
        links_end = λ a b. sym (append-nil (n.links a b)) ∙ h.in_order a b;
        callers_end = h.follows;
      }
  leads r (e ∷ zs) n closing o s h =
      let p = e.place in
      let q = e.seat in
      let now = subst (λ ts. Takes m p (n.places p) ts (closing.places p)) (filter_takes (is_at p) e zs (eqb_same p)) (h.takes p) in
      let its : IsTurn m p (n.places p) e = now.0 in
      let mine = subst (λ ts. Follows m (n.callers q) ts (closing.callers q)) (filter_takes (is_by q) e zs (eqb_same q)) (h.follows q) in
      let w = caller_shown m q (m.last e.before) n in
      let same : e.before ≡ w = mine.0 in
      let sound = All-head (IsSound m) e zs s in
      let above = to_come-above e zs o s in
      let t = taken r p q (m.last e.before) e.input n (subst (λ w. m.may p e.input (n.places p) w ≡ true) same its.may)
      (λ a k is.
      let gets = flat_map-cond (λ (t : Turn C M K). packet_from a t.input) (eqb p p) e (filter (is_at p) zs) ∙ ap (λ b. cond b (packet_from a e.input) [] ++ got_from a (filter (is_at p) zs)) (eqb_same p)
      ∙ ap (λ i. packet_from a i ++ got_from a (filter (is_at p) zs)) is ∙ ap (λ b. cond b (k ∷ []) [] ++ got_from a (filter (is_at p) zs)) (eqb_same a) in
      let whole = h.in_order a p ∙ ap (λ ls. ls ++ closing.links a p) gets in
      first_on e.first (n.links a p) (put_to p (filter (is_at a) (e ∷ zs))) (got_from a (filter (is_at p) zs) ++ closing.links a p) k (sound.packet a k is)
      (put_to-above e.first p (filter (is_at a) (e ∷ zs)) (All-filter (is_at a) (PutsAbove e.first) (e ∷ zs) above)) whole) in
      let after : Network P C K = did m p q w e.input t.links n in
      let ih = leads r zs after closing o.1 (All-tail (IsSound m) e zs s) (step e zs n closing h its same t) in
      let is : happens m (event_of m e) n ≡ after = t.happens_so in
      let back : after ≡ happens m (event_of m e) n = sym is in
      record {
        schedule = (t.may, subst (λ x. IsSchedule m (map (event_of m) zs) x) back ih.schedule);
        places_end = λ x. ap (λ y. (run m (map (event_of m) zs) y).places x) is ∙ ih.places_end x;
        links_end = λ a b. ap (λ y. (run m (map (event_of m) zs) y).links a b) is ∙ ih.links_end a b;
        callers_end = λ x. ap (λ y. (run m (map (event_of m) zs) y).callers x) is ∙ ih.callers_end x;
      }

  -- the turns of a seat, which go from caller to caller, stand in the order of all as they stand in its own
  pub seat_same : Rises m → (places : ℕ → List (Turn C M K)) (turns : List (Turn C M K)) → IsInOrder turns → ((p : ℕ) → filter (is_at p) turns ≡ places p) → ((p : ℕ) → All (IsSound m) (places p)) → (q : ℕ) (ts : List (Turn C M K)) (c d : C) → Follows m c ts d → ((p : ℕ) → filter (is_by q) (places p) ≡ filter (is_at p) ts) → filter (is_by q) turns ≡ ts
  seat_same r places turns sorted by_place sound_at q ts c d follows shared =
      let sound : All (IsSound m) ts = all_from_places (IsSound m) ts (λ p. subst (All (IsSound m)) (shared p) (All-filter (is_by q) (IsSound m) (places p) (sound_at p))) in
      same_in_order (filter (is_by q) turns) ts (in_order-filter (is_by q) turns sorted) (in_order-rising ts (rising_follows m r ts c d sound follows).1)
      (λ p. filter_swap (is_at p) (is_by q) turns ∙ ap (λ us. filter (is_by q) us) (by_place p) ∙ shared p)

  pub scheduled : (count : ℕ) (opening closing : Network P C K) (places seats : ℕ → List (Turn C M K)) → Rises m → ((p : ℕ) → count ≤ p → places p ≡ []) → Histories m opening places seats closing → (turns : List (Turn C M K)) × IsScheduled m opening places seats closing turns
  scheduled count opening closing places seats r few h =
      let at : (p : ℕ) → All (λ (t : Turn C M K). t.place ≡ p) (places p) = λ p. at_takes m p (places p) (opening.places p) (closing.places p) (h.takes p) in
      let sound_at : (p : ℕ) → All (IsSound m) (places p) = λ p. sound_takes m r p (places p) (opening.places p) (closing.places p) (h.takes p) in
      let rising : (p : ℕ) → IsRising (places p) = λ p. (rising_takes m r p (places p) (opening.places p) (closing.places p) (h.takes p)).1 in
      let one = one_order count places at few rising in
      let turns : List (Turn C M K) = one.0 in
      let sorted : IsInOrder turns = one.1 in
      let by_place : (p : ℕ) → filter (is_at p) turns ≡ places p = one.2 in
      let sound : All (IsSound m) turns = all_from_places (IsSound m) turns (λ p. subst (All (IsSound m)) (sym (by_place p)) (sound_at p)) in
      let by_seat : (q : ℕ) → filter (is_by q) turns ≡ seats q =
      λ q. seat_same r places turns sorted by_place sound_at q (seats q) (opening.callers q) (closing.callers q) (h.follows q) (λ p. h.shared p q) in
      let come : ToCome opening turns closing = record {
        takes = λ p. subst (λ ts. Takes m p (opening.places p) ts (closing.places p)) (sym (by_place p)) (h.takes p);
        follows = λ q. subst (λ ts. Follows m (opening.callers q) ts (closing.callers q)) (sym (by_seat q)) (h.follows q);
        shared = λ p q. filter_swap (is_by q) (is_at p) turns;
        in_order = λ a b. ap (λ ts. opening.links a b ++ put_to b ts) (by_place a) ∙ h.in_order a b ∙ ap (λ ts. got_from a ts ++ closing.links a b) (sym (by_place b));
      } in
      let led = leads r turns opening closing sorted sound come in (
        turns,
        record {
          schedule = led.schedule;
          places_end = led.places_end;
          links_end = led.links_end;
          callers_end = led.callers_end;
          sorted = sorted;
          by_place = by_place;
          by_seat = by_seat;
        },
      )
