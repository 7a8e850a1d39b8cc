-- What a legal past says of its last entry, and how the views of a past grow by one entry.
use Rattle.std.proofs.Common.{ℕ, ◌≡◌, Bool, true, false, ◌&&◌, cond, List, ◌∷◌, Option, Some, None, refl, sym, ap}
use Rattle.std.specs.List.{filter}
use Rattle.std.proofs.lemmas.Bool.{and_parts, false≢true}
use Rattle.chorus_ui.specs.declared.ui.Ui.{Ui}
use Rattle.chorus_ui.specs.declared.layout.Layout.{Layout}
use Rattle.chorus_ui.specs.Name.{same_ui}
use Rattle.chorus_ui.proofs.Names.{from_same_ui}
use Rattle.chorus_entry.specs.declared.entry.Entry.{Entry}
use Rattle.chorus_entry.specs.declared.act.Act.{Act}
use Rattle.chorus_entry.specs.Kinds.{has_kinds}
use Rattle.chorus_world.specs.Views.{views}
use Rattle.chorus_entry.specs.Same.{are_same}
use Rattle.chorus_world.specs.Places.{just_taken}
use Rattle.chorus_world.specs.Steps.{act_may, act_follows, may, is_timely, is_legal, may_stand_behind}

abbrev pub entry : ℕ → ℕ → ℕ → Act → Entry
entry c p s a = record { clock = c; place = p; seat = s; act = a }

-- a legal past is legal without its last entry, which had what its act needs
pub legal_parts : (l : Layout) (e : Entry) (past : List Entry) → is_legal l (e ∷ past) ≡ true → (act_may l (views past e.place e.seat e.act) e.place e.seat e.act ≡ true) × (is_legal l past ≡ true)
legal_parts l e past h =
    let v = views past e.place e.seat e.act in
    let two = and_parts (may l past e) (is_legal l past) h in
    let follows = and_parts (is_timely l v e) (act_follows l v e.place e.seat e.act) two.0 in
    ((and_parts (has_kinds e.act && may_stand_behind (just_taken v.all v.here) e.act) (act_may l v e.place e.seat e.act) follows.1).1, two.1)

pub under : {A B : Type 0} → (f : A → B) (b : Bool) (x y : A) → f (cond b x y) ≡ cond b (f x) (f y)
under f true x y = refl
under f false x y = refl

pub cond_idem : {A : Type 0} → (b : Bool) (x : A) → cond b x x ≡ x
cond_idem true x = refl
cond_idem false x = refl

pub cond_same : {A : Type 0} → (b : Bool) (x y : A) → (b ≡ true → x ≡ y) → cond b x y ≡ y
cond_same true x y h = h refl
cond_same false x y h = refl

-- an entry that fails the test of a view does not change it, and one that passes it stands first
pub skips : {X : Type 0} → (test : X → Bool) (x : X) (xs : List X) → test x ≡ false → filter test (x ∷ xs) ≡ filter test xs
skips test x xs e = ap (λ b. cond b (x ∷ filter test xs) (filter test xs)) e

pub keeps : {X : Type 0} → (test : X → Bool) (x : X) (xs : List X) → test x ≡ true → filter test (x ∷ xs) ≡ x ∷ filter test xs
keeps test x xs e = ap (λ b. cond b (x ∷ filter test xs) (filter test xs)) e

pub on_is : (q : Ui) (o : Option Ui) → are_same same_ui (Some q) o ≡ true → o ≡ Some q
on_is q None h = absurd (false≢true h)
on_is q (Some r) h = ap (λ z. Some z) (sym (from_same_ui q r h))
