-- The tables follow an entry more, and tell whether it may stand.
use Rattle.std.proofs.Common.{ℕ, ◌≡◌, ◌==◌, nat_eq, Bool, true, false, not, ◌&&◌, ◌||◌, cond, List, [], ◌∷◌, ◌++◌, Option, Some, None, is_some, is_none, refl, sym, ◌∙◌, ap}
use Rattle.std.proofs.lemmas.Bool.{eq-eqb, true≢false}
use Rattle.std.specs.List.{flat_map}
use Rattle.chorus_ui.specs.declared.ui.Ui.{Ui}
use Rattle.chorus_ui.specs.declared.layout.Layout.{Layout}
use Rattle.chorus_entry.specs.declared.entry.Entry.{Entry}
use Rattle.chorus_world.specs.Views.{is_on}
use Rattle.judge_seats.specs.declared.seats.Sitting.{Sitting}
use Rattle.judge_seats.specs.declared.seating.Tables.{Tables}
use Rattle.judge_seats.specs.Berths.{berth_after, berth_in, needed, needed_in, missed, missed_in, BerthsAfter}
use Rattle.judge_seats.specs.Seats.{all_stand, goes_with, is_it, is_out, is_out_in, may_stand, seat_with, seats_in, sits, sits_by, sitting, sitting_here, sitting_in, OutAfter}
use Rattle.judge_seats.specs.Tables.{Follow, seats_by}
use Rattle.judge_seats.proofs.Berthing.{berth_grows}
use Rattle.judge_seats.proofs.Sittings.{sitting_own}
use Rattle.judge_seats.proofs.Meaning.{seated}

module _ (past : List Entry) (e : Entry) (old new : Tables) (f : Follow past old) where
  pub needed_is : needed_in (berth_in old.berths) e.place e.act ≡ needed past e
  needed_is = λ i. needed_in (λ q. f.berths q i) e.place e.act

  pub missed_is : missed_in (berth_in old.berths) e.place e.act ≡ missed past e
  missed_is = λ i. missed_in (λ q. f.berths q i) e.place e.act

  module _ (n m : Option Ui) (row : Option Sitting) (here : Sitting) (n-is : n ≡ needed_in (berth_in old.berths) e.place e.act) (m-is : m ≡ missed_in (berth_in old.berths) e.place e.act) (row-is : row ≡ sitting_in old.sittings e.seat) (here-is : here ≡ sitting_here n e row) where
    n-now : n ≡ needed past e
    n-now = n-is ∙ needed_is

    m-now : m ≡ missed past e
    m-now = m-is ∙ missed_is

    row-now : row ≡ sitting past e.seat
    row-now = row-is ∙ f.sittings e.seat

    here-now : here ≡ sitting_here (needed past e) e (sitting past e.seat)
    here-now = here-is ∙ (λ i. sitting_here (n-now i) e (row-now i))

    module _ (berths : BerthsAfter e (berth_in old.berths) (berth_in new.berths)) (outs : OutAfter e.seat m (is_out_in old.outs) (is_out_in new.outs)) (order : new.order.items ≡ cond (is_none row) (old.order.items ++ e.seat ∷ []) old.order.items) (sittings : (s : ℕ) → sitting_in new.sittings s ≡ cond (nat_eq e.seat s) (Some here) (sitting_in old.sittings s)) where
      out-now : (s : ℕ) (a : Ui) → is_out_in new.outs s a ≡ is_out (e ∷ past) s a
      out-now s a = outs s a ∙ (λ i. ((e.seat == s) && is_it a (m-now i)) || f.outs s a i)

      pub follows : Follow (e ∷ past) new
      follows = record {
        berths = λ q. berths q ∙ (λ i. cond (is_on (Some q) e) (berth_after e.place e.act (f.berths q i)) (f.berths q i)) ∙ sym (berth_grows past e q);
        sittings = λ s. sittings s ∙ (λ i. cond (e.seat == s) (Some (here-now i)) (f.sittings s i));
        outs = out-now;
        order = order ∙ (λ i. cond (is_none (row-now i)) (f.order i ++ e.seat ∷ []) (f.order i));
      }

      -- where it asks nothing of a caller that is known, the caller sits as before
      kept-case : (l : Layout) (out : Ui → Bool) (a : Option Ui) (r : Option Sitting) → a ≡ None → is_none r ≡ false → sits_by l out (Some (sitting_here a e r)) ≡ sits_by l out r
      kept-case l out None None h k = absurd (true≢false k)
      kept-case l out None (Some r) h k = refl
      kept-case l out (Some b) r h k = absurd cc

      module _ (l : Layout) (stand : all_stand l past ≡ true) where
        sits-now : sits_by l (is_out_in new.outs e.seat) (Some here) ≡ sits l (e ∷ past) e.seat
        sits-now =
            (λ i. sits_by l (λ a. out-now e.seat a i) (Some (here-now i)))
            ∙ ap (sits_by l (is_out (e ∷ past) e.seat)) (sym (sitting_own past e e.seat (eq-eqb e.seat e.seat refl)))

        known : (r : Option Sitting) → is_none r ≡ false → is_some r ≡ true
        known None k = absurd (true≢false k)
        known (Some r) k = refl

        quiet : is_none row ≡ false → n ≡ None → m ≡ None → is_some (sits l (e ∷ past) e.seat) ≡ true
        quiet row-some n-none m-none =
            let none : is_none (sitting past e.seat) ≡ false = ap is_none (sym row-now) ∙ row-some in
            let out : (a : Ui) → is_out (e ∷ past) e.seat a ≡ is_out past e.seat a = λ a. (λ i. (eq-eqb e.seat e.seat refl i && is_it a ((sym m-now ∙ m-none) i)) || is_out past e.seat a) in
            let same : sits l (e ∷ past) e.seat ≡ sits l past e.seat =
            (λ i. sits_by l (λ a. out a i) (sitting_own past e e.seat (eq-eqb e.seat e.seat refl) i))
            ∙ kept-case l (is_out past e.seat) (needed past e) (sitting past e.seat) (sym n-now ∙ n-none) none in
            ap is_some same ∙ seated l past stand e.seat (known (sitting past e.seat) none)

        parts-none : (o : Option Ui) → is_some o ≡ false → o ≡ None
        parts-none None h = refl
        parts-none (Some b) h = absurd (true≢false h)

        or-parts : (x y : Bool) → (x || y) ≡ false → (x ≡ false) × (y ≡ false)
        or-parts true y h = absurd (true≢false h)
        or-parts false y h = (refl, h)

        seated-case : (asks : Bool) → asks ≡ (is_none row || is_some n || is_some m) → (not asks || is_some (sits_by l (is_out_in new.outs e.seat) (Some here))) ≡ is_some (sits l (e ∷ past) e.seat)
        seated-case true h = ap is_some sits-now
        seated-case false h =
            let two = or-parts (is_none row || is_some n) (is_some m) (sym h) in
            let one = or-parts (is_none row) (is_some n) two.0 in
            sym (quiet one.0 (parts-none n one.1) (parts-none m two.1))

        pub tells : (stands goes asks : Bool) → goes ≡ goes_with n e row → asks ≡ (is_none row || is_some n || is_some m) → stands ≡ (goes && (not asks || is_some (sits_by l (is_out_in new.outs e.seat) (Some here)))) → stands ≡ may_stand l past e
        tells stands goes asks goes-is asks-is is = is ∙ (λ i. (goes-is ∙ (λ j. goes_with (n-now j) e (row-now j))) i && seated-case asks asks-is i)

-- the callers that the tables have
pub seats_are : (l : Layout) (past : List Entry) (t : Tables) → Follow past t → seats_by l t ≡ seats_in l past
seats_are l past t f = λ i. flat_map (λ s. seat_with s (sits_by l (λ a. f.outs s a i) (f.sittings s i))) (f.order i)
