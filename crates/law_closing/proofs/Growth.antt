-- One turn more, of a place and of a pass.
use Rattle.std.proofs.Common.{ℕ, ◌≡◌, ◌+◌, Bool, true, List, [], ◌∷◌, ◌++◌, map, refl, sym, ◌∙◌, ap, subst, arith}
use Rattle.std.specs.List.{All, filter}
use Rattle.std.proofs.lemmas.Bool.{ne_eqb}
use Rattle.std.proofs.lemmas.List.{append-nil, append_assoc, map-append}
use Rattle.std.proofs.lemmas.List.Elements.{All-nil, All-cons, All-append, filter-append}
use Rattle.chorus_entry.specs.declared.entry.Entry.{Entry}
use Rattle.law_history.specs.declared.turns.Input.{Input}
use Rattle.law_history.specs.Turns.{Machine, Turn, put_to, got_from, puts_to, packet_from}
use Rattle.law_history.specs.Histories.{IsTurn, Takes, IsShown, Follows}
use Rattle.chorus_turn.specs.declared.knowledge.Remarked.{Remarked}
use Rattle.chorus_turn.specs.declared.knowledge.Placed.{Placed}
use Rattle.chorus_turn.specs.Journals.{with_place}
use Rattle.law_closing.specs.declared.noted.Noted.{Noted}
use Rattle.law_closing.specs.Remarks.{turn_of, begins, turns_at, turns_in, numbered, remarked}
use Rattle.law_closing.specs.Growth.{TurnsKeepPlaces, MovesKeepPlaces, TurnsKeepPasses}
use Rattle.law_closing.specs.Closing.{IsPlace, IsThread, Keeps}
use Rattle.law_history.proofs.Lists.{flat_map-append, filter_skip}
use Rattle.law_closing.proofs.Remarks.{filter-map, map_twice}

module _ {C M K : Type 0} where
  pub turns_at-append : (p : ℕ) (log news : List (Remarked (Noted C M K))) → turns_at p (log ++ news) ≡ turns_at p log ++ turns_at p news
  turns_at-append p log news = ap (λ rs. map (turn_of p) rs) (filter-append begins log news) ∙ map-append (turn_of p) (filter begins log) (filter begins news)

  pub turns_in-append : (made more : List (Placed (Noted C M K))) → turns_in (made ++ more) ≡ turns_in made ++ turns_in more
  turns_in-append made more =
      let heads : Placed (Noted C M K) → Bool = λ m. begins m.remarked in
      let own : Placed (Noted C M K) → Turn C M K = λ m. turn_of m.place m.remarked in
      ap (λ ms. map own ms) (filter-append heads made more) ∙ map-append own (filter heads made) (filter heads more)

  -- the entries as made at the place
  pub turns_in-placed : (p : ℕ) (seen : List (List (Remarked (Noted C M K)))) (news : List (Remarked (Noted C M K))) → turns_in (with_place p seen news) ≡ turns_at p news
  turns_in-placed p seen news =
      let put : Remarked (Noted C M K) → Placed (Noted C M K) = λ r. record { place = p; seen = seen; remarked = r } in
      let heads : Placed (Noted C M K) → Bool = λ m. begins m.remarked in
      let own : Placed (Noted C M K) → Turn C M K = λ m. turn_of m.place m.remarked in
      ap (λ ms. map own ms) (filter-map heads put news) ∙ map_twice own put (filter begins news)

  none_begin : (n : ℕ) (r : Noted C M K) (es : List Entry) → filter begins (numbered (n + 1) r es) ≡ []
  none_begin n r [] = refl
  none_begin n r (e ∷ es) =
      filter_skip begins record { entry = e; remark = record r { nth = n + 1 } } (numbered (n + 1 + 1) r es) (ne_eqb (n + 1) 0 (λ h. omega arith)) ∙ none_begin (n + 1) r es

  -- the entries of one turn are one turn
  pub turns_at-remarked : (p : ℕ) (r : Noted C M K) (e : Entry) (es : List Entry) → turns_at p (remarked r (e ∷ es)) ≡ turn_of p record { entry = e; remark = r } ∷ []
  turns_at-remarked p r e es = ap (λ rs. turn_of p record { entry = e; remark = r } ∷ map (turn_of p) rs) (none_begin 0 r es)

  pub put_to-push : (b : ℕ) (ts : List (Turn C M K)) (t : Turn C M K) → put_to b (ts ++ t ∷ []) ≡ put_to b ts ++ puts_to b t.puts
  put_to-push b ts t =
      flat_map-append (λ (t : Turn C M K). puts_to b t.puts) ts (t ∷ []) ∙ ap (λ ks. put_to b ts ++ ks) (append-nil (puts_to b t.puts))

  pub got_from-push : (a : ℕ) (ts : List (Turn C M K)) (t : Turn C M K) → got_from a (ts ++ t ∷ []) ≡ got_from a ts ++ packet_from a t.input
  got_from-push a ts t =
      flat_map-append (λ (t : Turn C M K). packet_from a t.input) ts (t ∷ []) ∙ ap (λ ks. got_from a ts ++ ks) (append-nil (packet_from a t.input))

  pub all_put : (count p : ℕ) (seen : List (List (Remarked (Noted C M K)))) (news : List (Remarked (Noted C M K))) → IsPlace count p → All (λ (m : Placed (Noted C M K)). IsPlace count m.place) (with_place p seen news)
  all_put count p seen [] is = All-nil (λ (m : Placed (Noted C M K)). IsPlace count m.place)
  all_put count p seen (r ∷ news) is =
      All-cons (λ (m : Placed (Noted C M K)). IsPlace count m.place) record { place = p; seen = seen; remarked = r } (with_place p seen news) is (all_put count p seen news is)

module _ {P C M K : Type 0} (m : Machine P C M K) where
  pub follows-push : (ts : List (Turn C M K)) (t : Turn C M K) (c d : C) → Follows m c ts d → IsShown m d t.before → Follows m c (ts ++ t ∷ []) t.after
  follows-push [] t c d h same = (same ∙ ap (m.shown (m.last t.before)) (sym h), refl)
  follows-push (u ∷ ts) t c d h same = (h.0, follows-push ts t u.after d h.1 same)

  -- a pass has taken a turn more, at the place p, from the caller that its last turn left, to whom entries may have been shown
  pub thread_turn : (is_new : ℕ → C → Bool) (count q p : ℕ) (mine : List (Placed (Noted C M K))) (t : IsThread m is_new count q mine) (seen : List (List (Remarked (Noted C M K)))) (r : Noted C M K) (e : Entry) (es : List Entry) → IsPlace count p → IsShown m t.last r.before
      → (u : IsThread m is_new count q (mine ++ with_place p seen (remarked r (e ∷ es)))) × (u.last ≡ r.after)
  thread_turn is_new count q p mine t seen r e es is same =
      let news : List (Remarked (Noted C M K)) = remarked r (e ∷ es) in
      let head : Turn C M K = turn_of p record { entry = e; remark = r } in
      let all : turns_in (mine ++ with_place p seen news) ≡ turns_in mine ++ head ∷ [] =
      turns_in-append mine (with_place p seen news) ∙ ap (λ ts. turns_in mine ++ ts) (turns_in-placed p seen news ∙ turns_at-remarked p r e es) in (
        record {
          first = t.first;
          last = r.after;
          new = t.new;
          follows = subst (λ ts. Follows m t.first ts r.after) (sym all) (follows-push (turns_in mine) head t.first t.last t.follows same);
          within = All-append (λ (m : Placed (Noted C M K)). IsPlace count m.place) mine (with_place p seen news) t.within (all_put count p seen news is);
        },
        refl,
      )

  pub takes-push : (p : ℕ) (ts : List (Turn C M K)) (t : Turn C M K) (x y : P) → Takes m p x ts y → IsTurn m p y t → Takes m p x (ts ++ t ∷ []) (m.turn p t.input y t.before).place
  takes-push p [] t x y h is = (subst (λ z. IsTurn m p z t) (sym h) is, ap (λ z. (m.turn p t.input z t.before).place) h)
  takes-push p (u ∷ ts) t x y h is = (h.0, takes-push p ts t (m.turn p u.input x u.before).place y h.1 is)

  -- a place has taken a turn more; what it put stands last in what was pushed and what waits, and what it took is no longer in
  -- hand
  pub keeps_turn : (start : P) (p : ℕ) (log : List (Remarked (Noted C M K))) (x : P) (pushed out popped hand : ℕ → List K) → Keeps m start p log x pushed out popped hand → (i : Input M K) (w : C) (q : ℕ) (e : Entry) (es : List Entry) (pushed' out' hand' : ℕ → List K) → let o = m.turn p i x w in let r : Noted C M K = record { nth = 0; input = i; before = w; after = o.caller; puts = o.puts } in m.may p i x w ≡ true → e.clock ≡ o.first → ((b : ℕ) → pushed' b ++ out' b ≡ (pushed b ++ out b) ++ puts_to b o.puts) → ((a : ℕ) → hand a ≡ packet_from a i ++ hand' a) → Keeps m start p (log ++ remarked r (e ∷ es)) o.place pushed' out' popped hand'
  keeps_turn start p log x pushed out popped hand h i w q e es pushed' out' hand' may first puts took =
      let o = m.turn p i x w in
      let r : Noted C M K = record { nth = 0; input = i; before = w; after = o.caller; puts = o.puts } in
      let head : Turn C M K = turn_of p record { entry = e; remark = r } in
      let all : turns_at p (log ++ remarked r (e ∷ es)) ≡ turns_at p log ++ head ∷ [] =
      turns_at-append p log (remarked r (e ∷ es)) ∙ ap (λ ts. turns_at p log ++ ts) (turns_at-remarked p r e es) in
      let is : IsTurn m p x head = record { place = refl; may = may; first = first; after = refl; puts = refl } in
      record {
        takes = subst (λ ts. Takes m p start ts o.place) (sym all) (takes-push p (turns_at p log) head start x h.takes is);
        put = λ b. ap (λ ts. put_to b ts) all ∙ put_to-push b (turns_at p log) head ∙ ap (λ ks. ks ++ puts_to b o.puts) (h.put b) ∙ sym (puts b);
        got = λ a. h.got a ∙ ap (λ ks. got_from a (turns_at p log) ++ ks) (took a) ∙ sym (append_assoc (got_from a (turns_at p log)) (packet_from a i) (hand' a))
            ∙ ap (λ ks. ks ++ hand' a) (sym (ap (λ ts. got_from a ts) all ∙ got_from-push a (turns_at p log) head));
      }

  -- packets were pushed out of the outboxes, or popped into the hand, and no entry was appended
  pub keeps_moves : (start : P) (p : ℕ) (log : List (Remarked (Noted C M K))) (x : P) (pushed out popped hand pushed' out' popped' hand' more : ℕ → List K) → Keeps m start p log x pushed out popped hand → ((b : ℕ) → pushed' b ++ out' b ≡ pushed b ++ out b) → ((a : ℕ) → popped' a ≡ popped a ++ more a) → ((a : ℕ) → hand' a ≡ hand a ++ more a) → Keeps m start p log x pushed' out' popped' hand'
  keeps_moves start p log x pushed out popped hand pushed' out' popped' hand' more h puts pops holds =
      record {
        takes = h.takes;
        put = λ b. h.put b ∙ sym (puts b);
        got = λ a. pops a ∙ ap (λ ks. ks ++ more a) (h.got a) ∙ append_assoc (got_from a (turns_at p log)) (hand a) (more a) ∙ ap (λ ks. got_from a (turns_at p log) ++ ks) (sym (holds a));
      }

module _ (P C M K : Type 0) where
  pub turns-keep-places : TurnsKeepPlaces P C M K
  turns-keep-places m start p log x pushed out popped hand i w e es pushed_now out_now hand_now keeps may first puts took =
      keeps_turn m start p log x pushed out popped hand keeps i w e.seat e es pushed_now out_now hand_now may first puts took

  pub moves-keep-places : MovesKeepPlaces P C M K
  moves-keep-places m start p log x pushed out popped hand pushed_now out_now popped_now hand_now more keeps puts pops holds =
      keeps_moves m start p log x pushed out popped hand pushed_now out_now popped_now hand_now more keeps puts pops holds

  pub turns-keep-passes : TurnsKeepPasses P C M K
  turns-keep-passes m is_new count q p mine t seen r e es is same = thread_turn m is_new count q p mine t seen r e es is same
