-- What an act asks of the actor of its caller, as the definition of a run says it.
use Rattle.std.proofs.Common.{ℕ, ◌≡◌, Bool, true, false, not, ◌&&◌, cond, List, Option, Some, None, refl, sym, ◌∙◌, ap}
use Rattle.std.proofs.lemmas.Bool.{true≢false, false≢true}
use Rattle.chorus_ui.specs.declared.ui.Ui.{Ui}
use Rattle.chorus_ui.specs.declared.layout.Layout.{Layout}
use Rattle.chorus_ui.specs.Name.{same_ui}
use Rattle.chorus_ui.proofs.Names.{from_same_ui, same_ui-self}
use Rattle.chorus_entry.specs.declared.entry.Entry.{Entry}
use Rattle.chorus_entry.specs.declared.act.Act.{Act}
use Rattle.chorus_entry.specs.declared.act.Act.TheVariants.{Take, Empty, NotHere, Rehome, Depart, Delete}
use Rattle.chorus_world.specs.declared.spot.Spot.{Spot}
use Rattle.chorus_world.specs.declared.spot.Spot.TheVariants.{Held, Moving, Ended}
use Rattle.chorus_world.specs.Views.{views, on}
use Rattle.chorus_world.specs.Ports.{PortState, fate, is_held, is_held_at, is_last}
use Rattle.chorus_world.specs.Steps.{act_may}
use Rattle.chorus_world.specs.Runs.{fits_caller, is_held_by, is_held_at_by}
use Rattle.chorus_world.proofs.Ports.LineLemmas.{needs}
use Rattle.judge_seats.specs.Berths.{berth, berth_of, holder, holder_at, missed_in, needed_in}
use Rattle.judge_seats.specs.Seats.{is_it}

and-true : (b : Bool) → (b && true) ≡ b
and-true true = refl
and-true false = refl

and-false : (b : Bool) → (b && false) ≡ false
and-false true = refl
and-false false = refl

turned-by : (a b : Ui) (x y : Bool) → same_ui a b ≡ x → same_ui b a ≡ y → x ≡ y
turned-by a b true true h k = refl
turned-by a b false false h k = refl
turned-by a b true false h k = absurd (true≢false (sym (same_ui-self a) ∙ ap (λ r. same_ui r a) (from_same_ui a b h) ∙ k))
turned-by a b false true h k = absurd (false≢true (sym h ∙ ap (λ r. same_ui r b) (sym (from_same_ui b a k)) ∙ same_ui-self b))

pub turned : (a b : Ui) → same_ui a b ≡ same_ui b a
turned a b = turned-by a b (same_ui a b) (same_ui b a) refl refl

held_case : (a : Ui) (s : Spot) (t : Bool) → (is_held_by a s && t) ≡ is_it a (cond t (holder s) None)
held_case a (Held b) true = and-true (same_ui a b) ∙ turned a b
held_case a (Held b) false = and-false (same_ui a b)
held_case a (Moving b) true = refl
held_case a (Moving b) false = refl
held_case a Ended true = refl
held_case a Ended false = refl

held_by : (p : ℕ) (a : Ui) (o : Option PortState) → is_held_at_by p a o ≡ is_it a (holder_at p (berth_of o))
held_by p a None = refl
held_by p a (Some f) = held_case a f.spot (is_last p f)

some_case : (s : Spot) (t : Bool) → (is_held s && t) ≡ true → (b : Ui) × (cond t (holder s) None ≡ Some b)
some_case (Held b) true h = (b, refl)
some_case (Held b) false h = absurd (false≢true h)
some_case (Moving b) t h = absurd (false≢true h)
some_case Ended t h = absurd (false≢true h)

-- a port that is held has a holder
some_holder : (p : ℕ) (o : Option PortState) → is_held_at p o ≡ true → (b : Ui) × (holder_at p (berth_of o) ≡ Some b)
some_holder p None h = absurd (false≢true h)
some_holder p (Some f) h = some_case f.spot (is_last p f) h

-- The caller of an act is in the actor in which the act puts it, and not in that which holds a port that it does not find.
pub record Suits (past : List Entry) (p : ℕ) (a : Ui) (act : Act) : Type 0 where
  pub needed : (b : Ui) → needed_in (berth past) p act ≡ Some b → a ≡ b
  pub missed : is_it a (missed_in (berth past) p act) ≡ false

module _ (l : Layout) (past : List Entry) (p s : ℕ) (a : Ui) where
  at_holder : (o : Option PortState) → is_held_at p o ≡ true → ((b : Ui) → holder_at p (berth_of o) ≡ Some b → a ≡ b) → is_held_at_by p a o ≡ true
  at_holder o held only =
      let h = some_holder p o held in
      held_by p a o ∙ ap (is_it a) h.1 ∙ ap (λ r. same_ui h.0 r) (only h.0 h.1) ∙ same_ui-self h.0

  negated : (x : Bool) → x ≡ false → not x ≡ true
  negated true h = absurd (true≢false h)
  negated false h = refl

  -- so it fits, where the act may come
  pub fits : (act : Act) → act_may l (views past p s act) p s act ≡ true → Suits past p a act → fits_caller past p a act ≡ true
  fits (Take q n x) may h = at_holder (fate (on q past)) (needs l past 0 p s (Take q n x) q refl may) h.needed
  fits (Empty q) may h = at_holder (fate (on q past)) (needs l past 0 p s (Empty q) q refl may) h.needed
  fits (NotHere q) may h = negated (is_held_at_by p a (fate (on q past))) (held_by p a (fate (on q past)) ∙ h.missed)
  fits (Rehome q b) may h = at_holder (fate (on q past)) (needs l past 0 p s (Rehome q b) q refl may) h.needed
  fits (Depart q to b hop) may h = at_holder (fate (on q past)) (needs l past 0 p s (Depart q to b hop) q refl may) h.needed
  fits (Delete q xs) may h = at_holder (fate (on q past)) (needs l past 0 p s (Delete q xs) q refl may) h.needed
  fits _ may h = refl

-- and where it fits it is so
module _ (past : List Entry) (p : ℕ) (a : Ui) where
  holder-is : (o : Option PortState) → is_held_at_by p a o ≡ true → (b : Ui) → holder_at p (berth_of o) ≡ Some b → a ≡ b
  holder-is o held b is = sym (from_same_ui b a (sym (ap (is_it a) is) ∙ sym (held_by p a o) ∙ held))

  un-negated : (x : Bool) → not x ≡ true → x ≡ false
  un-negated true h = absurd (false≢true h)
  un-negated false h = refl

  none-is : (b : Ui) → None ≡ Some b → a ≡ b
  none-is b h = absurd cc

  pub suits : (act : Act) → fits_caller past p a act ≡ true → Suits past p a act
  suits (Take q n x) h = record { needed = holder-is (fate (on q past)) h; missed = refl }
  suits (Empty q) h = record { needed = holder-is (fate (on q past)) h; missed = refl }
  suits (NotHere q) h = record { needed = none-is; missed = sym (held_by p a (fate (on q past))) ∙ un-negated (is_held_at_by p a (fate (on q past))) h }
  suits (Rehome q b) h = record { needed = holder-is (fate (on q past)) h; missed = refl }
  suits (Depart q to b hop) h = record { needed = holder-is (fate (on q past)) h; missed = refl }
  suits (Delete q xs) h = record { needed = holder-is (fate (on q past)) h; missed = refl }
  suits _ h = record { needed = none-is; missed = refl }
