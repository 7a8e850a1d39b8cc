-- In a legal past a place tells by itself which actor holds a port there; so a run is a run when it is sorted.
use Rattle.std.proofs.Common.{ℕ, ◌≡◌, ◌+◌, ◌-◌, ◌≤◌, Bool, true, false, ◌==◌, nat_lt, ◌&&◌, not, cond, List, [], ◌∷◌, ◌++◌, length, Option, Some, None, refl, sym, ◌∙◌, ap, subst, arith}
use Rattle.std.specs.Option.{option_or}
use Rattle.std.proofs.lemmas.Bool.{eqb-true, eq-eqb, ne_eqb, false≢true, and_parts, and_from, and_left, and_right}
use Rattle.std.proofs.lemmas.List.{length_push}
use Rattle.std.proofs.lemmas.List.Elements.{All-head, All-tail}
use Rattle.chorus_ui.specs.declared.ui.Ui.{Ui}
use Rattle.chorus_ui.specs.declared.layout.Layout.{Layout}
use Rattle.chorus_ui.specs.Name.{same_ui}
use Rattle.chorus_ui.specs.Layout.{IsLayout, has_actor, place_at, site_of}
use Rattle.chorus_entry.specs.declared.entry.Entry.{Entry}
use Rattle.chorus_entry.specs.declared.id.MsgId.{MsgId}
use Rattle.chorus_entry.specs.declared.act.Act.{Act}
use Rattle.chorus_entry.specs.declared.act.Act.TheVariants.{Make, Take, Empty, NotHere, Rehome, Depart, Arrive, Delete}
use Rattle.chorus_world.specs.declared.spot.Spot.{Spot}
use Rattle.chorus_world.specs.declared.spot.Spot.TheVariants.{Held, Moving, Ended}
use Rattle.chorus_world.specs.Views.{views, at, by, on, is_on}
use Rattle.chorus_entry.specs.Order.{is_at}
use Rattle.chorus_entry.specs.Same.{are_same}
use Rattle.chorus_world.specs.Ports.{PortState, fate, fate_after, last_of, is_held, is_last, is_held_at, is_coming, is_next_hop, are_waiting, arrived}
use Rattle.chorus_world.specs.Places.{last_clock}
use Rattle.chorus_world.specs.Steps.{act_may, may, is_legal}
use Rattle.chorus_world.specs.Runs.{is_held_by, is_held_at_by, fits_caller, fits_callers, may_run, is_run}
use Rattle.chorus_world.specs.Order.{sort}
use Rattle.chorus_world.specs.SortingLaws.{LooksAtHome, AllLookAtHome, SortsRuns}
use Rattle.chorus_world.specs.LocationLaws.{path_of}
use Rattle.chorus_world.proofs.Steps.LegalLemmas.{entry, under, cond_idem, cond_same, keeps, skips}
use Rattle.chorus_world.proofs.Sorted.Local.{is_kept}
use Rattle.chorus_world.proofs.Ports.PortSteps.{PortFacts, spot_in, is_still, spot_still, path_still, same_or_not}
use Rattle.chorus_world.proofs.Ports.PortMoves.{held_fate, coming_fate, make_new}
use Rattle.chorus_world.proofs.Messages.MessageSteps.{may_act, legal_inv}
use Rattle.chorus_world.proofs.Sorted.Exchange.{Chains, chains, all_find, all_find_sort, all_sort, chained, on_chain}
use Rattle.chorus_world.proofs.Sorted.Agreement.{Extends, extends_self, extends_sort, extends_before, extends_at}
use Rattle.chorus_world.proofs.Sorted.Observers.{may_find, may_same, legal_laws, held_here}

-- the actor to which a port departed by its hop, from the entries on its line
abbrev departed_by : ℕ → Act → Option Ui
departed_by hop (Depart q to a n) = cond (n == hop) (Some a) None
departed_by hop _ = None

abbrev departed_to : ℕ → List Entry → Option Ui
departed_to hop [] = None
departed_to hop (e ∷ line) = option_or (departed_to hop line) (departed_by hop e.act)

-- the actor that held the port here last, where `line` has all that is on its line
abbrev holder_after : Ui → List Entry → Act → Option Ui → Option Ui
holder_after q line (Make r a c) o = cond (same_ui r q) (Some a) o
holder_after q line (Rehome r a) o = cond (same_ui r q) (Some a) o
holder_after q line (Arrive r hop) o = cond (same_ui r q) (departed_to hop line) o
holder_after q line _ o = o

abbrev holder : Ui → List Entry → List Entry → Option Ui
holder q line [] = None
holder q line (e ∷ here) = holder_after q line e.act (holder q line here)

-- What is so of one port, on plain variables: s is its spot, if it is made, ps its path, dep the actor of each hop, and hold
-- who holds it as far as a place knows with each table t that goes on with the past.

record Holding (s : Option Spot) (ps : List ℕ) (dep : ℕ → Option Ui) (E : List Entry → Type 0) (hold : List Entry → ℕ → Option Ui) : Type 0 where
  pub held : (t : List Entry) (p : ℕ) (b : Ui) → E t → s ≡ Some (Held b) → last_of 0 ps ≡ p → hold t p ≡ Some b
  pub moving : (b : Ui) → s ≡ Some (Moving b) → dep (length ps - 1) ≡ Some b
  pub beyond : (hop : ℕ) → length ps ≤ hop → dep hop ≡ None

holding_same : {s r : Option Spot} {ps qs : List ℕ} {dep dip : ℕ → Option Ui} {E F : List Entry → Type 0} {hold hald : List Entry → ℕ → Option Ui} → Holding s ps dep E hold → s ≡ r → ps ≡ qs → ((n : ℕ) → dip n ≡ dep n) → ((t : List Entry) → F t → E t) → ((t : List Entry) (p : ℕ) → hald t p ≡ hold t p) → Holding r qs dip F hald
holding_same {s} {r} {ps} {qs} {dep} {dip} {E} {F} {hold} {hald} f es ep ed ee eh =
    record {
      held = λ t p b x y z. eh t p ∙ f.held t p b (ee t x) (es ∙ y) (ap (last_of 0) ep ∙ z);
      moving = λ b y. ed (length qs - 1) ∙ (ap (λ z. dep (length z - 1)) (sym ep) ∙ f.moving b (es ∙ y));
      beyond = λ hop le. ed hop ∙ f.beyond hop (subst (λ z. length z ≤ hop) (sym ep) le);
    }

held_one : (a b : Ui) → Some (Held a) ≡ Some (Held b) → a ≡ b
held_one a b h = cc

moving_one : (a b : Ui) → Some (Moving a) ≡ Some (Moving b) → a ≡ b
moving_one a b h = cc

held_not_moving : (a b : Ui) → Some (Held a) ≡ Some (Moving b) → ⊥
held_not_moving a b h = cc

moving_not_held : (a b : Ui) → Some (Moving a) ≡ Some (Held b) → ⊥
moving_not_held a b h = cc

ended_not_held : (b : Ui) → Some Ended ≡ Some (Held b) → ⊥
ended_not_held b h = cc

ended_not_moving : (b : Ui) → Some Ended ≡ Some (Moving b) → ⊥
ended_not_moving b h = cc

holding_taken : {s : Option Spot} {ps : List ℕ} {dep : ℕ → Option Ui} {E F : List Entry → Type 0} {hold : List Entry → ℕ → Option Ui} (p : ℕ) (a : Ui) → Holding s ps dep E hold → last_of 0 ps ≡ p → Holding (Some (Held a)) ps dep F (λ t r. cond (p == r) (Some a) (hold t r))
holding_taken {s} {ps} {dep} {E} {F} {hold} p a f last =
    record {
      held = λ t r b x y z. ap (λ c. cond c (Some a) (hold t r)) (eq-eqb p r (sym last ∙ z)) ∙ ap (λ c. Some c) (held_one a b y);
      moving = λ b y. absurd (held_not_moving a b y);
      beyond = f.beyond;
    }

holding_departed : {ps : List ℕ} {dep : ℕ → Option Ui} {E F : List Entry → Type 0} {hold : List Entry → ℕ → Option Ui} (to : ℕ) (a b : Ui) → Holding (Some (Held b)) ps dep E hold → Holding (Some (Moving a)) (ps ++ to ∷ []) (λ n. option_or (dep n) (cond (length ps == n) (Some a) None)) F hold
holding_departed {ps} {dep} {E} {F} {hold} to a b f =
    let more : length (ps ++ to ∷ []) ≡ length ps + 1 = length_push ps to in
    record {
      held = λ t r c x y z. absurd (moving_not_held a c y);
      moving = λ c y.
          let n : length (ps ++ to ∷ []) - 1 ≡ length ps = omega arith in
          ap (λ m. option_or (dep m) (cond (length ps == m) (Some a) None)) n
          ∙ (ap (λ o. option_or o (cond (length ps == length ps) (Some a) None)) (f.beyond (length ps) (omega arith))
          ∙ (ap (λ z. cond z (Some a) None) (eq-eqb (length ps) (length ps) refl) ∙ ap (λ z. Some z) (moving_one a c y)));
      beyond = λ hop le.
          ap (λ o. option_or o (cond (length ps == hop) (Some a) None)) (f.beyond hop (omega arith))
          ∙ ap (λ z. cond z (Some a) None) (ne_eqb (length ps) hop (λ e. omega arith));
    }

holding_arrived : {ps : List ℕ} {dep : ℕ → Option Ui} {E F : List Entry → Type 0} {hold : List Entry → ℕ → Option Ui} (p hop : ℕ) (b : Ui) (look : List Entry → Option Ui) → Holding (Some (Moving b)) ps dep E hold → last_of 0 ps ≡ p → hop ≡ length ps - 1 → ((t : List Entry) → F t → dep hop ≡ Some b → look t ≡ Some b) → Holding (Some (Held b)) ps dep F (λ t r. cond (p == r) (look t) (hold t r))
holding_arrived {ps} {dep} {E} {F} {hold} p hop b look f last n found =
    record {
      held = λ t r c x y z.
          ap (λ w. cond w (look t) (hold t r)) (eq-eqb p r (sym last ∙ z))
          ∙ (found t x (ap dep n ∙ f.moving b refl) ∙ ap (λ w. Some w) (held_one b c y));
      moving = λ c y. absurd (held_not_moving b c y);
      beyond = f.beyond;
    }

holding_ended : {s : Option Spot} {ps : List ℕ} {dep : ℕ → Option Ui} {E F : List Entry → Type 0} {hold : List Entry → ℕ → Option Ui} → Holding s ps dep E hold → Holding (Some Ended) ps dep F hold
holding_ended f =
    record {
      held = λ t r c x y z. absurd (ended_not_held c y);
      moving = λ c y. absurd (ended_not_moving c y);
      beyond = f.beyond;
    }

-- The same of the past.

abbrev HolderFacts : Layout → List Entry → Ui → Type 0
HolderFacts l past q =
    Holding (spot_in (fate (on q past))) (path_of l q (fate (on q past))) (λ n. departed_to n (on q past)) (λ t. Extends t past) (λ t p. holder q (on q t) (at p past))

or_none : {A : Type 0} (o : Option A) → option_or o None ≡ o
or_none None = refl
or_none (Some x) = refl

departed_still : (n : ℕ) (a : Act) → is_still a ≡ true → departed_by n a ≡ None
departed_still n (Depart r to a hop) h = absurd (false≢true h)
departed_still n _ h = refl

holder_still : (q : Ui) (line : List Entry) (a : Act) (o : Option Ui) → is_still a ≡ true → holder_after q line a o ≡ o
holder_still q line (Make r a c) o h = absurd (false≢true h)
holder_still q line (Rehome r a) o h = absurd (false≢true h)
holder_still q line (Arrive r hop) o h = absurd (false≢true h)
holder_still q line _ o h = refl

holders_still : (l : Layout) (past : List Entry) (q : Ui) (e : Entry) → is_still e.act ≡ true → HolderFacts l past q → HolderFacts l (e ∷ past) q
holders_still l past q e h f =
    let o = fate (on q past) in
    let b = is_on (Some q) e in
    holding_same f
    (sym (under (λ es. spot_in (fate es)) b (e ∷ on q past) (on q past) ∙ cond_same b (spot_in (fate_after e.place e.act o)) (spot_in o) (λ _. spot_still e.place e.act o h)))
    (sym (under (λ es. path_of l q (fate es)) b (e ∷ on q past) (on q past) ∙ cond_same b (path_of l q (fate_after e.place e.act o)) (path_of l q o) (λ _. path_still l q e.place e.act o h)))
    (λ n. under (departed_to n) b (e ∷ on q past) (on q past)
    ∙ cond_same b (option_or (departed_to n (on q past)) (departed_by n e.act)) (departed_to n (on q past)) (λ _. ap (option_or (departed_to n (on q past))) (departed_still n e.act h) ∙ or_none (departed_to n (on q past))))
    (λ t x. extends_before t past e x)
    (λ t p. under (holder q (on q t)) (is_at p e) (e ∷ at p past) (at p past)
    ∙ cond_same (is_at p e) (holder_after q (on q t) e.act (holder q (on q t) (at p past))) (holder q (on q t) (at p past)) (λ _. holder_still q (on q t) e.act (holder q (on q t) (at p past)) h))

-- an entry on the line of the port
holders_moved : (l : Layout) (past : List Entry) (q : Ui) (e : Entry) → is_on (Some q) e ≡ true → Holding (spot_in (fate_after e.place e.act (fate (on q past)))) (path_of l q (fate_after e.place e.act (fate (on q past)))) (λ n. option_or (departed_to n (on q past)) (departed_by n e.act)) (λ t. Extends t (e ∷ past)) (λ t r. cond (is_at r e) (holder_after q (on q t) e.act (holder q (on q t) (at r past))) (holder q (on q t) (at r past))) → HolderFacts l (e ∷ past) q
holders_moved l past q e t f =
    holding_same f
    (ap (λ b. spot_in (fate (cond b (e ∷ on q past) (on q past)))) (sym t))
    (ap (λ b. path_of l q (fate (cond b (e ∷ on q past) (on q past)))) (sym t))
    (λ n. ap (departed_to n) (keeps (is_on (Some q)) e past t))
    (λ s x. x)
    (λ s p. under (holder q (on q s)) (is_at p e) (e ∷ at p past) (at p past))

-- an entry on the line of another port
holders_other : (l : Layout) (past : List Entry) (q : Ui) (e : Entry) → is_on (Some q) e ≡ false → ((line : List Entry) (o : Option Ui) → holder_after q line e.act o ≡ o) → HolderFacts l past q → HolderFacts l (e ∷ past) q
holders_other l past q e n hh f =
    holding_same f
    (ap (λ b. spot_in (fate (cond b (e ∷ on q past) (on q past)))) (sym n))
    (ap (λ b. path_of l q (fate (cond b (e ∷ on q past) (on q past)))) (sym n))
    (λ m. ap (departed_to m) (skips (is_on (Some q)) e past n))
    (λ t x. extends_before t past e x)
    (λ t p. under (holder q (on q t)) (is_at p e) (e ∷ at p past) (at p past)
    ∙ cond_same (is_at p e) (holder_after q (on q t) e.act (holder q (on q t) (at p past))) (holder q (on q t) (at p past)) (λ _. hh (on q t) (holder q (on q t) (at p past))))

-- the facts of a port whose fate is known
holders_of : (l : Layout) (past : List Entry) (q : Ui) (f : PortState) (s : Spot) → HolderFacts l past q → fate (on q past) ≡ Some f → f.spot ≡ s → Holding (Some s) f.path (λ n. departed_to n (on q past)) (λ t. Extends t past) (λ t p. holder q (on q t) (at p past))
holders_of l past q f s facts was spot =
    holding_same facts (ap spot_in was ∙ ap (λ z. Some z) spot) (ap (path_of l q) was) (λ n. refl) (λ t x. x) (λ t p. refl)

holders_make : (l : Layout) (past : List Entry) (q : Ui) (c p s : ℕ) (r a : Ui) (n : ℕ) → IsLayout l → PortFacts l past q → HolderFacts l past q → act_may l (views past p s (Make r a n)) p s (Make r a n) ≡ true → HolderFacts l (entry c p s (Make r a n) ∷ past) q
holders_make l past q c p s r a n layout ports f h =
    let e = entry c p s (Make r a n) in
    same_or_not q r (HolderFacts l (e ∷ past) q)
    (λ is_r t back.
    let new = make_new l past p s q a n layout ports (subst (λ z. act_may l (views past p s (Make z a n)) p s (Make z a n) ≡ true) (sym is_r) h) in
    holders_moved l past q e t
    (holding_same
    (holding_taken {F = λ t. Extends t (e ∷ past)} p a f (ap (λ o. last_of 0 (path_of l q o)) new.0 ∙ new.2))
    refl (ap (path_of l q) new.0 ∙ ap (λ z. z ∷ []) new.2)
    (λ m. or_none (departed_to m (on q past)))
    (λ t x. x)
    (λ t x. ap (λ b. cond (p == x) (cond b (Some a) (holder q (on q t) (at x past))) (holder q (on q t) (at x past))) back)))
    (λ off back. holders_other l past q e off (λ line o. ap (λ b. cond b (Some a) o) back) f)

holders_rehome : (l : Layout) (past : List Entry) (q : Ui) (c p s : ℕ) (r a : Ui) → HolderFacts l past q → act_may l (views past p s (Rehome r a)) p s (Rehome r a) ≡ true → HolderFacts l (entry c p s (Rehome r a) ∷ past) q
holders_rehome l past q c p s r a f h =
    let e = entry c p s (Rehome r a) in
    let held = (and_parts (is_held_at p (fate (on r past))) _ (and_parts _ (a.site == site_of l p) h).0).0 in
    same_or_not q r (HolderFacts l (e ∷ past) q)
    (λ is_r t back.
    let old = held_fate p (fate (on q past)) (subst (λ z. is_held_at p (fate (on z past)) ≡ true) (sym is_r) held) in
    holders_moved l past q e t
    (holding_same
    (holding_taken {F = λ t. Extends t (e ∷ past)} p a (holders_of l past q old.0 (Held old.1) f old.2 old.3) old.4)
    (sym (ap (λ o. spot_in (fate_after p (Rehome r a) o)) old.2))
    (sym (ap (λ o. path_of l q (fate_after p (Rehome r a) o)) old.2))
    (λ m. or_none (departed_to m (on q past)))
    (λ t x. x)
    (λ t x. ap (λ b. cond (p == x) (cond b (Some a) (holder q (on q t) (at x past))) (holder q (on q t) (at x past))) back)))
    (λ off back. holders_other l past q e off (λ line o. ap (λ b. cond b (Some a) o) back) f)

holders_depart : (l : Layout) (past : List Entry) (q : Ui) (c p s : ℕ) (r : Ui) (to : ℕ) (a : Ui) (hop : ℕ) → HolderFacts l past q → act_may l (views past p s (Depart r to a hop)) p s (Depart r to a hop) ≡ true → HolderFacts l (entry c p s (Depart r to a hop) ∷ past) q
holders_depart l past q c p s r to a hop f h =
    let e = entry c p s (Depart r to a hop) in
    let four = and_parts _ (is_next_hop hop (fate (on r past))) h in
    let three = and_parts _ (to == place_at l a.site r) four.0 in
    let two = and_parts _ (not (a.site == site_of l p)) three.0 in
    let held = (and_parts (is_held_at p (fate (on r past))) (has_actor l a) two.0).0 in
    same_or_not q r (HolderFacts l (e ∷ past) q)
    (λ is_r t back.
    let old = held_fate p (fate (on q past)) (subst (λ z. is_held_at p (fate (on z past)) ≡ true) (sym is_r) held) in
    let next : is_next_hop hop (Some old.0) ≡ true = subst (λ o. is_next_hop hop o ≡ true) old.2 (subst (λ z. is_next_hop hop (fate (on z past)) ≡ true) (sym is_r) four.1) in
    let far : hop ≡ length (old.0).path = eqb-true hop (length (old.0).path) next in
    holders_moved l past q e t
    (holding_same
    (holding_departed {F = λ t. Extends t (e ∷ past)} to a old.1 (holders_of l past q old.0 (Held old.1) f old.2 old.3))
    (sym (ap (λ o. spot_in (fate_after p (Depart r to a hop) o)) old.2))
    (sym (ap (λ o. path_of l q (fate_after p (Depart r to a hop) o)) old.2))
    (λ m. ap (λ z. option_or (departed_to m (on q past)) (cond (z == m) (Some a) None)) far)
    (λ t x. x)
    (λ t x. cond_idem (p == x) (holder q (on q t) (at x past)))))
    (λ off back. holders_other l past q e off (λ line o. refl) f)

-- what the line tells of a hop, a longer line tells too
departed_further : (hop : ℕ) (more line : List Entry) (a : Ui) → departed_to hop line ≡ Some a → departed_to hop (more ++ line) ≡ Some a
departed_further hop [] line a h = h
departed_further hop (e ∷ more) line a h = ap (λ o. option_or o (departed_by hop e.act)) (departed_further hop more line a h)

departed_table : (table past : List Entry) (q : Ui) (hop : ℕ) (a : Ui) → Extends table past → departed_to hop (on q past) ≡ Some a → departed_to hop (on q table) ≡ Some a
departed_table table past q hop a ext h =
    let e = extends_at table past (is_on (Some q)) (on_chain (Some q)) ext in
    ap (departed_to hop) e.1 ∙ departed_further hop e.0 (on q past) a h

holders_arrive : (l : Layout) (past : List Entry) (q : Ui) (c p s : ℕ) (r : Ui) (hop : ℕ) → HolderFacts l past q → act_may l (views past p s (Arrive r hop)) p s (Arrive r hop) ≡ true → HolderFacts l (entry c p s (Arrive r hop) ∷ past) q
holders_arrive l past q c p s r hop f h =
    let e = entry c p s (Arrive r hop) in
    same_or_not q r (HolderFacts l (e ∷ past) q)
    (λ is_r t back.
    let old = coming_fate p hop (fate (on q past)) (subst (λ z. is_coming p hop (fate (on z past)) ≡ true) (sym is_r) h) in
    holders_moved l past q e t
    (holding_same
    (holding_arrived {F = λ t. Extends t (e ∷ past)} p hop old.1 (λ t. departed_to hop (on q t)) (holders_of l past q old.0 (Moving old.1) f old.2 old.3) old.4 old.5
    (λ t x found. departed_table t past q hop old.1 (extends_before t past e x) found))
    (sym (ap (λ o. spot_in (fate_after p (Arrive r hop) o)) old.2 ∙ ap (λ z. Some (arrived z)) old.3))
    (sym (ap (λ o. path_of l q (fate_after p (Arrive r hop) o)) old.2))
    (λ m. or_none (departed_to m (on q past)))
    (λ t x. x)
    (λ t x. ap (λ b. cond (p == x) (cond b (departed_to hop (on q t)) (holder q (on q t) (at x past))) (holder q (on q t) (at x past))) back)))
    (λ off back. holders_other l past q e off (λ line o. ap (λ b. cond b (departed_to hop line) o) back) f)

holders_delete : (l : Layout) (past : List Entry) (q : Ui) (c p s : ℕ) (r : Ui) (xs : List MsgId) → HolderFacts l past q → act_may l (views past p s (Delete r xs)) p s (Delete r xs) ≡ true → HolderFacts l (entry c p s (Delete r xs) ∷ past) q
holders_delete l past q c p s r xs f h =
    let e = entry c p s (Delete r xs) in
    let held = (and_parts (is_held_at p (fate (on r past))) (are_waiting xs (fate (on r past))) h).0 in
    same_or_not q r (HolderFacts l (e ∷ past) q)
    (λ is_r t back.
    let old = held_fate p (fate (on q past)) (subst (λ z. is_held_at p (fate (on z past)) ≡ true) (sym is_r) held) in
    holders_moved l past q e t
    (holding_same
    (holding_ended {F = λ t. Extends t (e ∷ past)} (holders_of l past q old.0 (Held old.1) f old.2 old.3))
    (sym (ap (λ o. spot_in (fate_after p (Delete r xs) o)) old.2))
    (sym (ap (λ o. path_of l q (fate_after p (Delete r xs) o)) old.2))
    (λ m. or_none (departed_to m (on q past)))
    (λ t x. x)
    (λ t x. cond_idem (p == x) (holder q (on q t) (at x past)))))
    (λ off back. holders_other l past q e off (λ line o. refl) f)

holders_step : (l : Layout) (past : List Entry) (q : Ui) (c p s : ℕ) (a : Act) → IsLayout l → PortFacts l past q → HolderFacts l past q → act_may l (views past p s a) p s a ≡ true → HolderFacts l (entry c p s a ∷ past) q
holders_step l past q c p s (Make r a n) layout ports f h = holders_make l past q c p s r a n layout ports f h
holders_step l past q c p s (Rehome r a) layout ports f h = holders_rehome l past q c p s r a f h
holders_step l past q c p s (Depart r to a hop) layout ports f h = holders_depart l past q c p s r to a hop f h
holders_step l past q c p s (Arrive r hop) layout ports f h = holders_arrive l past q c p s r hop f h
holders_step l past q c p s (Delete r xs) layout ports f h = holders_delete l past q c p s r xs f h
holders_step l past q c p s a layout ports f h = holders_still l past q (entry c p s a) refl f

none_some : {A : Type 0} (a : A) → None ≡ Some a → ⊥
none_some a h = cc

legal_holders : (l : Layout) (past : List Entry) (q : Ui) → IsLayout l → is_legal l past ≡ true → HolderFacts l past q
legal_holders l [] q layout h =
    record {
      held = λ t p b x y z. absurd (none_some (Held b) y);
      moving = λ b y. absurd (none_some (Moving b) y);
      beyond = λ hop le. refl;
    }
legal_holders l (e ∷ past) q layout h =
    let two = and_parts (may l past e) (is_legal l past) h in
    holders_step l past q e.clock e.place e.seat e.act layout ((legal_inv l past layout two.1).ports q) (legal_holders l past q layout two.1) (may_act l past e two.0)

-- Whether the actor holds the port here.

and_true : (b : Bool) → (b && true) ≡ b
and_true true = refl
and_true false = refl

held_by_case : (a : Ui) (s : Spot) (last k : Bool) (h : Option Ui) → k ≡ (is_held s && last) → ((b : Ui) → s ≡ Held b → last ≡ true → h ≡ Some b) → (is_held_by a s && last) ≡ (k && are_same same_ui (Some a) h)
held_by_case a (Held b) true k h e f =
    and_true (same_ui a b) ∙ sym (ap (λ z. z && are_same same_ui (Some a) h) e ∙ ap (are_same same_ui (Some a)) (f b refl refl))
held_by_case a (Held b) false k h e f = and_right (same_ui a b) false refl ∙ sym (and_left k (are_same same_ui (Some a) h) e)
held_by_case a (Moving b) last k h e f = sym (and_left k (are_same same_ui (Some a) h) e)
held_by_case a Ended last k h e f = sym (and_left k (are_same same_ui (Some a) h) e)

held_by_fate : (l : Layout) (q a : Ui) (p : ℕ) (o : Option PortState) (k : Bool) (h : Option Ui) → is_held_at p o ≡ k → ((b : Ui) → spot_in o ≡ Some (Held b) → last_of 0 (path_of l q o) ≡ p → h ≡ Some b) → is_held_at_by p a o ≡ (k && are_same same_ui (Some a) h)
held_by_fate l q a p None k h e f = sym (and_left k (are_same same_ui (Some a) h) (sym e))
held_by_fate l q a p (Some g) k h e f =
    held_by_case a g.spot (is_last p g) k h (sym e) (λ b s last. f b (ap (λ z. Some z) s) (eqb-true (last_of 0 g.path) p last))

-- a place tells by itself whether the actor holds the port there
abbrev pub is_holder_here : List Entry → List Entry → Ui → Ui → Bool
is_holder_here table here q a = is_kept q here && are_same same_ui (Some a) (holder q (on q table) here)

pub holder_here : (l : Layout) (table past : List Entry) (p : ℕ) (q a : Ui) → IsLayout l → is_legal l past ≡ true → Extends table past → is_held_at_by p a (fate (on q past)) ≡ is_holder_here table (at p past) q a
holder_here l table past p q a layout h ext =
    let f = legal_holders l past q layout h in
    held_by_fate l q a p (fate (on q past)) (is_kept q (at p past)) (holder q (on q table) (at p past)) (held_here l past q p ((legal_inv l past layout h).ports q))
    (λ b s last. f.held table p b ext s last)

-- Runs.

abbrev fits_here : List Entry → Chains → ℕ → Ui → Act → Bool
fits_here table c p a (Take q n x) = is_held_at_by p a (fate c.port)
fits_here table c p a (Empty q) = is_held_at_by p a (fate c.port)
fits_here table c p a (NotHere q) = not (is_holder_here table c.here q a)
fits_here table c p a (Rehome q b) = is_held_at_by p a (fate c.port)
fits_here table c p a (Depart q to b hop) = is_held_at_by p a (fate c.port)
fits_here table c p a (Delete q xs) = is_held_at_by p a (fate c.port)
fits_here table c p a _ = true

abbrev fit_here : List Entry → Chains → ℕ → Option Ui → Act → Bool
fit_here table c p None act = false
fit_here table c p (Some a) act = fits_here table c p a act

fits_same : (l : Layout) (table past : List Entry) (c p s : ℕ) (a : Ui) (act : Act) → IsLayout l → is_legal l past ≡ true → Extends table past → fits_caller past p a act ≡ fits_here table (chains past (entry c p s act)) p a act
fits_same l table past c p s a (NotHere q) layout h ext = ap not (holder_here l table past p q a layout h ext)
fits_same l table past c p s a _ layout h ext = refl

fit_same : (l : Layout) (table past : List Entry) (c p s : ℕ) (o : Option Ui) (act : Act) → IsLayout l → is_legal l past ≡ true → Extends table past → fits_callers past p o act ≡ fit_here table (chains past (entry c p s act)) p o act
fit_same l table past c p s None act layout h ext = refl
fit_same l table past c p s (Some a) act layout h ext = fits_same l table past c p s a act layout h ext

-- an entry of a run, as far as its own place, seat, message and held port tell
abbrev run_finds : Layout → (ℕ → Option Ui) → List Entry → Chains → Entry → Bool
run_finds l callers table c e =
    may_find l table c e && (nat_lt (last_clock c.mine) e.clock && fit_here table c e.place (callers e.seat) e.act)

run_same : (l : Layout) (callers : ℕ → Option Ui) (table past : List Entry) (e : Entry) → IsLayout l → is_legal l past ≡ true → Extends table past → LooksAtHome l e.place e.act → (may l past e && may_run callers past e) ≡ run_finds l callers table (chains past e) e
run_same l callers table past e layout h ext home =
    ap (λ b. b && may_run callers past e) (may_same l table past e (legal_laws l past layout h) ext home)
    ∙ ap (λ b. may_find l table (chains past e) e && (nat_lt (last_clock (by e.seat past)) e.clock && b)) (fit_same l table past e.clock e.place e.seat (callers e.seat) e.act layout h ext)

pub run_is_legal : (l : Layout) (callers : ℕ → Option Ui) (past : List Entry) → is_run l callers past ≡ true → is_legal l past ≡ true
run_is_legal l callers [] h = refl
run_is_legal l callers (e ∷ past) h =
    let two = and_parts (may l past e && may_run callers past e) (is_run l callers past) h in
    and_from (may l past e) (is_legal l past) (and_parts (may l past e) (may_run callers past e) two.0).0 (run_is_legal l callers past two.1)

run_to_here : (l : Layout) (callers : ℕ → Option Ui) (table past : List Entry) → IsLayout l → Extends table past → AllLookAtHome l past → is_run l callers past ≡ true → all_find (run_finds l callers table) past ≡ true
run_to_here l callers table [] layout ext home h = refl
run_to_here l callers table (e ∷ past) layout ext home h =
    let two = and_parts (may l past e && may_run callers past e) (is_run l callers past) h in
    let before = extends_before table past e ext in
    let looks : (f : Entry) → Type 0 = λ f. LooksAtHome l f.place f.act in
    and_from (run_finds l callers table (chains past e) e) (all_find (run_finds l callers table) past)
    (sym (run_same l callers table past e layout (run_is_legal l callers past two.1) before (All-head looks e past home)) ∙ two.0)
    (run_to_here l callers table past layout before (All-tail looks e past home) two.1)

run_from_here : (l : Layout) (callers : ℕ → Option Ui) (table past : List Entry) → IsLayout l → Extends table past → AllLookAtHome l past → all_find (run_finds l callers table) past ≡ true → is_run l callers past ≡ true
run_from_here l callers table [] layout ext home h = refl
run_from_here l callers table (e ∷ past) layout ext home h =
    let two = and_parts (run_finds l callers table (chains past e) e) (all_find (run_finds l callers table) past) h in
    let before = extends_before table past e ext in
    let looks : (f : Entry) → Type 0 = λ f. LooksAtHome l f.place f.act in
    let back = run_from_here l callers table past layout before (All-tail looks e past home) two.1 in
    and_from (may l past e && may_run callers past e) (is_run l callers past)
    (run_same l callers table past e layout (run_is_legal l callers past back) before (All-head looks e past home) ∙ two.0) back

-- the sorted list is a run
pub sorts_runs : SortsRuns
sorts_runs l callers past layout causal home h =
    let w = chained past causal in
    run_from_here l callers past (sort past) layout (extends_sort past w) (all_sort (λ e. LooksAtHome l e.place e.act) past home)
    (all_find_sort (run_finds l callers past) past w (run_to_here l callers past past layout (extends_self past) home h))
