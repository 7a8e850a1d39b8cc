-- From what is handed out at the close to histories, and to their schedule.
use Rattle.std.proofs.Common.{ℕ, ◌≡◌, ◌≢◌, ◌⊎◌, ◌<◌, ◌≤◌, ◌+◌, ◌-◌, Bool, true, false, ◌&&◌, cond, List, [], ◌∷◌, ◌++◌, map, leb, eqb, refl, sym, ◌∙◌, ap, subst, inl, inr, arith}
use Rattle.std.specs.List.{All, filter}
use Rattle.std.proofs.lemmas.Bool.{leb-true, le-leb, and_parts, and_from, cases_Bool, cases_lt, cases_eq, both_ways, ne_eqb}
use Rattle.std.proofs.lemmas.List.{append_assoc}
use Rattle.std.proofs.lemmas.List.Elements.{All-nil, All-cons, All-head, All-tail, All-weaker, All-map, All-contains}
use Rattle.law_history.specs.Turns.{Machine, Turn, Rises, is_at, is_by, put_to, got_from}
use Rattle.law_history.specs.Network.{Network}
use Rattle.law_history.specs.Histories.{Takes, Follows, Histories, IsScheduled}
use Rattle.chorus_turn.specs.declared.knowledge.Remarked.{Remarked}
use Rattle.chorus_turn.specs.declared.knowledge.Placed.{Placed}
use Rattle.chorus_turn.specs.declared.knowledge.Note.{Note}
use Rattle.chorus_turn.specs.declared.knowledge.Knowledge.{Knowledge}
use Rattle.chorus_turn.specs.Journals.{by_seat, at_place}
use Rattle.chorus_turn.specs.Knowing.{seats_of, Shows}
use Rattle.law_closing.specs.declared.noted.Noted.{Noted}
use Rattle.law_closing.specs.Remarks.{turns_at, turns_in}
use Rattle.law_closing.specs.Closing.{IsPlace, IsThread, IsClosed, HasSchedule}
use Rattle.law_history.proofs.Lists.{filter_none, filter_takes, eqb_same}
use Rattle.law_history.proofs.Clocks.{IsSound, sound_takes}
use Rattle.law_closing.proofs.Remarks.{by_turns_at, at_turns_in}
use Rattle.law_history.proofs.Runs.{scheduled, seat_same}

-- whether a number is that of a place
abbrev inside : ℕ → ℕ → Bool
inside n p = leb 1 p && leb p n

abbrev only : {A : Type 0} → ℕ → ℕ → A → A → A
only n p x d = cond (inside n p) x d

place_or : (n p : ℕ) → IsPlace n p ⊎ (IsPlace n p → ⊥)
place_or n p =
    elim (cases_Bool (inside n p)) [
      | inl h ↦ (let both = and_parts (leb 1 p) (leb p n) h in inl (leb-true 1 p both.0, leb-true p n both.1))
      | inr h ↦ inr (λ is. both_ways (inside n p) h (and_from (leb 1 p) (leb p n) (le-leb 1 p is.0) (le-leb p n is.1)))
    ]

only_in : {A : Type 0} → (n p : ℕ) (x d : A) → IsPlace n p → only n p x d ≡ x
only_in n p x d is = ap (λ b. cond b x d) (and_from (leb 1 p) (leb p n) (le-leb 1 p is.0) (le-leb p n is.1))

only_out : {A : Type 0} → (n p : ℕ) (x d : A) → (IsPlace n p → ⊥) → only n p x d ≡ d
only_out n p x d out =
    elim (cases_Bool (inside n p)) [
      | inl h ↦ (let both = and_parts (leb 1 p) (leb p n) h in absurd (out (leb-true 1 p both.0, leb-true p n both.1)))
      | inr h ↦ ap (λ b. cond b x d) h
    ]

all_both : {X : Type 0} → (F G : X → Type 0) (xs : List X) → All F xs → All G xs → All (λ x. F x × G x) xs
all_both F G xs f g = λ k d lt. (f k d lt, g k d lt)

module _ {P C M K : Type 0} (m : Machine P C M K) (is_new : ℕ → C → Bool) (count : ℕ) (log : ℕ → List (Remarked (Noted C M K))) where
  -- the turns of each place
  abbrev places_of : ℕ → List (Turn C M K)
  places_of p = only count p (turns_at p (log p)) []

  -- what is known of a seat
  record Known (q : ℕ) : Type 0 where
    pub turns : List (Turn C M K)
    pub first : C
    pub last : C
    pub new : is_new q first ≡ true
    pub follows : Follows m first turns last
    pub shared : (p : ℕ) → filter (is_by q) (places_of p) ≡ filter (is_at p) turns

  -- the logs have of the seat just this
  abbrev Shown : ℕ → List (Placed (Noted C M K)) → Type 0
  Shown q mine = (p : ℕ) → IsPlace count p → by_seat q (log p) ≡ at_place p mine

  elsewhere : (p : ℕ) (mine : List (Placed (Noted C M K))) → (IsPlace count p → ⊥) → All (λ (m : Placed (Noted C M K)). IsPlace count m.place) mine → at_place p mine ≡ []
  elsewhere p mine out within =
      ap (λ ms. map (λ (m : Placed (Noted C M K)). m.remarked) ms)
      (filter_none (λ (m : Placed (Noted C M K)). eqb m.place p) mine
      (All-weaker (λ (m : Placed (Noted C M K)). IsPlace count m.place) (λ (m : Placed (Noted C M K)). eqb m.place p ≡ false) (λ m is. ne_eqb m.place p (λ e. out (subst (IsPlace count) e is))) mine within))

  shared_by : (q : ℕ) (mine : List (Placed (Noted C M K))) → Shown q mine → All (λ (m : Placed (Noted C M K)). IsPlace count m.place) mine → (p : ℕ) → filter (is_by q) (places_of p) ≡ filter (is_at p) (turns_in mine)
  shared_by q mine shown within p =
      elim (place_or count p) [
        | inl is ↦
            ap (λ ts. filter (is_by q) ts) (only_in count p (turns_at p (log p)) [] is) ∙ by_turns_at p q (log p) ∙ ap (λ rs. turns_at p rs) (shown p is)
            ∙ sym (at_turns_in p mine)
        | inr out ↦
            ap (λ ts. filter (is_by q) ts) (only_out count p (turns_at p (log p)) [] out) ∙ ap (λ rs. turns_at p rs) (sym (elsewhere p mine out within))
            ∙ sym (at_turns_in p mine)
      ]

  known : (q : ℕ) (mine : List (Placed (Noted C M K))) → IsThread m is_new count q mine → Shown q mine → Known q
  known q mine t shown =
      record { turns = turns_in mine; first = t.first; last = t.last; new = t.new; follows = t.follows; shared = shared_by q mine shown t.within }

  abbrev Told : Note (Noted C M K) → Type 0
  Told n = IsThread m is_new count n.seat n.mine × Shown n.seat n.mine

  find : (q : ℕ) (notes : List (Note (Noted C M K))) → All Told notes → Known q ⊎ All (λ (n : Note (Noted C M K)). n.seat ≢ q) notes
  find q [] told = inr (All-nil (λ (n : Note (Noted C M K)). n.seat ≢ q))
  find q (n ∷ notes) told =
      elim (cases_eq n.seat q) [
        | inl same ↦ (let own = All-head Told n notes told in inl (subst Known same (known n.seat n.mine own.0 own.1)))
        | inr differ ↦
            elim (find q notes (All-tail Told n notes told)) [
              | inl found ↦ inl found
              | inr rest ↦ inr (All-cons (λ (n : Note (Noted C M K)). n.seat ≢ q) n notes differ rest)
            ]
      ]

  -- a seat that was never given made nothing
  nobody : (q : ℕ) (c : C) → is_new q c ≡ true → Shown q [] → Known q
  nobody q c new shown =
      record { turns = []; first = c; last = c; new = new; follows = refl; shared = shared_by q [] shown (All-nil (λ (m : Placed (Noted C M K)). IsPlace count m.place)) }

module _ {P C M K : Type 0} (m : Machine P C M K) (is_new : ℕ → C → Bool) (start : ℕ → P) (count : ℕ) (log : ℕ → List (Remarked (Noted C M K))) (v : Knowledge (Noted C M K)) (end : ℕ → P) (pushed out popped hand left : ℕ → ℕ → List K) where
  abbrev own_note : Note (Noted C M K)
  own_note = record { seat = v.seat; mine = v.mine }

  shows_at : IsClosed m is_new start count log v end pushed out popped hand left → (p : ℕ) → IsPlace count p → Shows p v (log p)
  shows_at h p is =
      let at : p - 1 + 1 ≡ p = (let low = is.0 in omega arith) in
      subst (λ x. Shows x v (log x)) at (h.finished.shows (p - 1) (let low = is.0 in let high = is.1 in omega arith))

  seats_at : IsClosed m is_new start count log v end pushed out popped hand left → (p : ℕ) → IsPlace count p → All (λ (r : Remarked (Noted C M K)). r.entry.seat < v.made) (log p)
  seats_at h p is =
      let at : p - 1 + 1 ≡ p = (let low = is.0 in omega arith) in
      subst (λ x. All (λ (r : Remarked (Noted C M K)). r.entry.seat < v.made) (log x)) at (h.finished.seats (p - 1) (let low = is.0 in let high = is.1 in omega arith))

  told : IsClosed m is_new start count log v end pushed out popped hand left → All (Told m is_new count log) (own_note ∷ v.notes)
  told h =
      let Thread : Note (Noted C M K) → Type 0 = λ n. IsThread m is_new count n.seat n.mine in
      let Has : Note (Noted C M K) → Type 0 = λ n. Shown m is_new count log n.seat n.mine in
      all_both Thread Has (own_note ∷ v.notes) (All-cons Thread own_note v.notes h.thread h.threads)
      (All-cons Has own_note v.notes (λ p is. (shows_at h p is).own) (λ k d lt p is. (shows_at h p is).noted k d lt))

  -- what is known of each seat
  known_of : IsClosed m is_new start count log v end pushed out popped hand left → ((q : ℕ) → (c : C) × (is_new q c ≡ true)) → (q : ℕ) → Known m is_new count log q
  known_of h fresh q =
      elim (find m is_new count log q (own_note ∷ v.notes) (told h)) [
        | inl found ↦ found
        | inr none ↦
            (let others : All (λ (s : ℕ). s ≢ q) (v.seat ∷ seats_of v.notes) = All-map (λ (s : ℕ). s ≢ q) (λ (n : Note (Noted C M K)). n.seat) (own_note ∷ v.notes) none in
            let late : v.made ≤ q = elim (cases_lt q v.made) [
              | inl lt ↦ absurd (All-contains (λ (s : ℕ). s ≢ q) (v.seat ∷ seats_of v.notes) q others (h.finished.every q lt) refl)
              | inr le ↦ le
            ] in
            let c = fresh q in
            nobody m is_new count log q c.0 c.1 (λ p is.
            filter_none (λ (r : Remarked (Noted C M K)). eqb r.entry.seat q) (log p)
            (All-weaker (λ (r : Remarked (Noted C M K)). r.entry.seat < v.made) (λ (r : Remarked (Noted C M K)). eqb r.entry.seat q ≡ false) (λ r lt. ne_eqb r.entry.seat q (λ e. omega arith)) (log p) (seats_at h p is))))
      ]

  -- what is left for b of what a put
  abbrev rest_of : ℕ → ℕ → List K
  rest_of a b = only count a (only count b (hand a b ++ (left a b ++ out a b)) (put_to b (turns_at a (log a)))) []

  gets_nothing : (ls ks : List K) → [] ≡ ls ++ ks → ls ≡ []
  gets_nothing [] ks e = refl
  gets_nothing (l ∷ ls) ks e = cc

  in_order : IsClosed m is_new start count log v end pushed out popped hand left → (a b : ℕ) → put_to b (places_of m is_new count log a) ≡ got_from a (places_of m is_new count log b) ++ rest_of a b
  in_order h a b =
      elim (place_or count a) [
        | inl ina ↦
            (let from : places_of m is_new count log a ≡ turns_at a (log a) = only_in count a (turns_at a (log a)) [] ina in
            elim (place_or count b) [
              | inl inb ↦
                  (let to : places_of m is_new count log b ≡ turns_at b (log b) = only_in count b (turns_at b (log b)) [] inb in
                  let rest : rest_of a b ≡ hand a b ++ (left a b ++ out a b) = only_in count a (only count b (hand a b ++ (left a b ++ out a b)) (put_to b (turns_at a (log a)))) [] ina ∙ only_in count b (hand a b ++ (left a b ++ out a b)) (put_to b (turns_at a (log a))) inb in
                  let got : List K = got_from a (turns_at b (log b)) in
                  ap (λ ts. put_to b ts) from ∙ (h.keeps a ina).put b ∙ ap (λ ks. ks ++ out a b) (h.settled a b ina inb ∙ ap (λ ks. ks ++ left a b) ((h.keeps b inb).got a))
                  ∙ append_assoc (got ++ hand a b) (left a b) (out a b) ∙ append_assoc got (hand a b) (left a b ++ out a b)
                  ∙ ap (λ ks. got ++ ks) (sym rest) ∙ ap (λ ts. got_from a ts ++ rest_of a b) (sym to))
              | inr outb ↦
                  (let to : places_of m is_new count log b ≡ [] = only_out count b (turns_at b (log b)) [] outb in
                  let rest : rest_of a b ≡ put_to b (turns_at a (log a)) = only_in count a (only count b (hand a b ++ (left a b ++ out a b)) (put_to b (turns_at a (log a)))) [] ina ∙ only_out count b (hand a b ++ (left a b ++ out a b)) (put_to b (turns_at a (log a))) outb in
                  ap (λ ts. put_to b ts) from ∙ sym rest ∙ ap (λ ts. got_from a ts ++ rest_of a b) (sym to))
            ])
        | inr outa ↦
            (let from : places_of m is_new count log a ≡ [] = only_out count a (turns_at a (log a)) [] outa in
            let rest : rest_of a b ≡ [] = only_out count a (only count b (hand a b ++ (left a b ++ out a b)) (put_to b (turns_at a (log a)))) [] outa in
            let none : got_from a (places_of m is_new count log b) ≡ [] = elim (place_or count b) [
              | inl inb ↦
                  ap (λ ts. got_from a ts) (only_in count b (turns_at b (log b)) [] inb) ∙ gets_nothing (got_from a (turns_at b (log b))) (hand a b) (sym (h.apart a b outa inb) ∙ (h.keeps b inb).got a)
              | inr outb ↦ ap (λ ts. got_from a ts) (only_out count b (turns_at b (log b)) [] outb)
            ] in
            ap (λ ts. put_to b ts) from ∙ sym rest ∙ ap (λ ks. ks ++ rest_of a b) (sym none))
      ]

  takes : IsClosed m is_new start count log v end pushed out popped hand left → (p : ℕ) → Takes m p (start p) (places_of m is_new count log p) (only count p (end p) (start p))
  takes h p =
      elim (place_or count p) [
        | inl is ↦
            subst (λ y. Takes m p (start p) (places_of m is_new count log p) y) (sym (only_in count p (end p) (start p) is))
            (subst (λ ts. Takes m p (start p) ts (end p)) (sym (only_in count p (turns_at p (log p)) [] is)) (h.keeps p is).takes)
        | inr out ↦
            subst (λ y. Takes m p (start p) (places_of m is_new count log p) y) (sym (only_out count p (end p) (start p) out))
            (subst (λ ts. Takes m p (start p) ts (start p)) (sym (only_out count p (turns_at p (log p)) [] out)) refl)
      ]

  -- a seat that was not drawn made nothing, so it has no turn at any place
  none-at : (ts : List (Turn C M K)) → ((p : ℕ) → filter (is_at p) ts ≡ []) → ts ≡ []
  none-at [] none = refl
  none-at (t ∷ ts) none =
      let here : t ∷ filter (is_at t.place) ts ≡ [] = sym (filter_takes (is_at t.place) t ts (eqb_same t.place)) ∙ none t.place in absurd (cc)

  undrawn-at : IsClosed m is_new start count log v end pushed out popped hand left → (q : ℕ) → v.made ≤ q → (p : ℕ) → filter (is_by q) (places_of m is_new count log p) ≡ []
  undrawn-at h q late p =
      elim (place_or count p) [
        | inl is ↦
            (let none : by_seat q (log p) ≡ [] =
            filter_none (λ (r : Remarked (Noted C M K)). eqb r.entry.seat q) (log p)
            (All-weaker (λ (r : Remarked (Noted C M K)). r.entry.seat < v.made) (λ (r : Remarked (Noted C M K)). eqb r.entry.seat q ≡ false) (λ r lt. ne_eqb r.entry.seat q (λ e. omega arith)) (log p) (seats_at h p is)) in
            ap (λ ts. filter (is_by q) ts) (only_in count p (turns_at p (log p)) [] is) ∙ by_turns_at p q (log p) ∙ ap (λ rs. turns_at p rs) none)
        | inr out ↦ ap (λ ts. filter (is_by q) ts) (only_out count p (turns_at p (log p)) [] out)
      ]

  pub closed : Rises m → ((q : ℕ) → (c : C) × (is_new q c ≡ true)) → IsClosed m is_new start count log v end pushed out popped hand left → HasSchedule m is_new start count log v end out hand left
  closed r fresh h =
      let who : (q : ℕ) → Known m is_new count log q = known_of h fresh in
      let places : ℕ → List (Turn C M K) = places_of m is_new count log in
      let seats : ℕ → List (Turn C M K) = λ q. (who q).turns in
      let opening : Network P C K = record { places = start; links = λ a b. []; callers = λ q. (who q).first } in
      let closing : Network P C K = record { places = λ p. only count p (end p) (start p); links = rest_of; callers = λ q. (who q).last } in
      let few : (p : ℕ) → count + 1 ≤ p → places p ≡ [] = λ p le. only_out count p (turns_at p (log p)) [] (λ is. let high = is.1 in omega arith) in
      let fit : Histories m opening places seats closing = record {
        takes = takes h;
        follows = λ q. (who q).follows;
        shared = λ p q. (who q).shared p;
        in_order = in_order h;
      } in
      let found = scheduled m (count + 1) opening closing places seats r few fit in
      let turns : List (Turn C M K) = found.0 in
      let is : IsScheduled m opening places seats closing turns = found.1 in
      let sound_at : (p : ℕ) → All (IsSound m) (places p) = λ p. sound_takes m r p (places p) (start p) (only count p (end p) (start p)) (takes h p) in
      let same : (n : Note (Noted C M K)) → Told m is_new count log n → seats n.seat ≡ turns_in n.mine =
      λ n t. sym (is.by_seat n.seat) ∙ seat_same m r places turns is.sorted is.by_place sound_at n.seat (turns_in n.mine) t.0.first t.0.last t.0.follows (shared_by m is_new count log n.seat n.mine t.1 t.0.within) in
      let all : All (λ (n : Note (Noted C M K)). seats n.seat ≡ turns_in n.mine) (own_note ∷ v.notes) =
      All-weaker (Told m is_new count log) (λ (n : Note (Noted C M K)). seats n.seat ≡ turns_in n.mine) same (own_note ∷ v.notes) (told h) in
      record {
        callers = opening.callers;
        closing = closing;
        places = places;
        seats = seats;
        turns = turns;
        new = λ q. (who q).new;
        histories = fit;
        scheduled = is;
        ends = λ p at. only_in count p (end p) (start p) at;
        rest = λ a b ina inb. only_in count a (only count b (hand a b ++ (left a b ++ out a b)) (put_to b (turns_at a (log a)))) [] ina ∙ only_in count b (hand a b ++ (left a b ++ out a b)) (put_to b (turns_at a (log a))) inb;
        made = λ p at. only_in count p (turns_at p (log p)) [] at;
        mine = All-head (λ (n : Note (Noted C M K)). seats n.seat ≡ turns_in n.mine) own_note v.notes all;
        noted = All-tail (λ (n : Note (Noted C M K)). seats n.seat ≡ turns_in n.mine) own_note v.notes all;
        undrawn = λ q late. none-at (seats q) (λ p. sym ((who q).shared p) ∙ undrawn-at h q late p);
      }
