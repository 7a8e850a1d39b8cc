-- Where a port is located, after one entry more.
use Rattle.std.proofs.Common.{ℕ, ◌≡◌, ◌==◌, Bool, true, false, ◌&&◌, cond, List, ◌∷◌, Option, Some, None, refl, sym, ◌∙◌, ap}
use Rattle.std.specs.Prelude.{unwrap_or}
use Rattle.std.proofs.lemmas.Bool.{eqb-true, false≢true}
use Rattle.chorus_ui.specs.declared.ui.Ui.{Ui}
use Rattle.chorus_ui.specs.declared.layout.Layout.{Layout}
use Rattle.chorus_ui.specs.Name.{same_ui}
use Rattle.chorus_entry.specs.declared.entry.Entry.{Entry}
use Rattle.chorus_entry.specs.declared.act.Act.{Act}
use Rattle.chorus_entry.specs.declared.act.Act.TheVariants.{Told, Depart, Arrive}
use Rattle.chorus_world.specs.declared.place.Sent.{Sent}
use Rattle.chorus_world.specs.declared.place.Location.{Location}
use Rattle.chorus_world.specs.Views.{at}
use Rattle.chorus_world.specs.Places.{taught, is_sent_to, find_sent, sent, learned, farther, named_location, located}
use Rattle.checker_rows.specs.Keys.{same_name_at}
use Rattle.checker_rows.specs.Locations.{told_lesson, lesson, of_port, location_row, location_after}
use Rattle.checker_rows.specs.declared.keys.NameAt.{NameAt}
use Rattle.checker_rows.specs.declared.locations.Lesson.{Lesson}
use Rattle.checker_rows.proofs.KeyLemmas.{from_same_name_at}

-- of what an act tells, s is the message as it was sent
abbrev pub FindsSent : Act → List Entry → Option Sent → Type 0
FindsSent (Told x a) here s = s ≡ find_sent x (sent here)
FindsSent _ here s = Unit {0}

told_case : (q : Ui) (s : Option Sent) (t : Option Location) → cond (is_sent_to q s) t None ≡ of_port q (told_lesson t s)
told_case q None t = refl
told_case q (Some m) None = by (same_ui m.port q)
  where
    by : (b : Bool) → (let r : Option Location = cond b None None in r) ≡ None
    by true = refl
    by false = refl
told_case q (Some m) (Some at) = refl

pub lesson_is : (q : Ui) (p : ℕ) (here : List Entry) (a : Act) (s : Option Sent) → FindsSent a here s → learned q p here a ≡ of_port q (lesson p s a)
lesson_is q p here (Arrive r hop) s h = refl
lesson_is q p here (Depart r to a hop) s h = refl
lesson_is q p here (Told x a) s h = ap (λ o. cond (is_sent_to q o) (taught a) None) (sym h) ∙ told_case q s (taught a)
lesson_is q p here _ s h = refl

pub location_grows : (l : Layout) (past : List Entry) (e : Entry) (s : Option Sent) (k : NameAt) → FindsSent e.act (at e.place past) s → location_row l (e ∷ past) k ≡ location_after k e s (location_row l past k)
location_grows l past e s k h = by (e.place == k.place) refl
  where
    by : (b : Bool) → (e.place == k.place) ≡ b → located l k.name (cond b (e ∷ at k.place past) (at k.place past)) ≡ cond b (farther (located l k.name (at k.place past)) (of_port k.name (lesson e.place s e.act))) (located l k.name (at k.place past))
    by true g =
        ap (farther (located l k.name (at k.place past)))
        (ap (λ p. learned k.name e.place (at p past) e.act) (sym (eqb-true e.place k.place g)) ∙ lesson_is k.name e.place (at e.place past) e.act s h)
    by false g = refl

apart_case : (b c : Bool) (at : Location) (m : Option Location) → (b && c) ≡ false → cond b (farther at (cond c m None)) at ≡ at
apart_case true true at m h = absurd (false≢true (sym h))
apart_case true false at m h = refl
apart_case false c at m h = refl

pub location_apart : (k : NameAt) (e : Entry) (s : Option Sent) (t : Lesson) → lesson e.place s e.act ≡ Some t → same_name_at (record { place = e.place; name = t.port }) k ≡ false → (at : Location) → location_after k e s at ≡ at
location_apart k e s t is h at =
    ap (λ o. cond (e.place == k.place) (farther at (of_port k.name o)) at) is
    ∙ apart_case (e.place == k.place) (same_ui t.port k.name) at (Some t.location) h

pub location_own : (k : NameAt) (e : Entry) (s : Option Sent) (t : Lesson) → lesson e.place s e.act ≡ Some t → (e.place == k.place) ≡ true → same_ui t.port k.name ≡ true → (at : Location) → location_after k e s at ≡ farther at (Some t.location)
location_own k e s t is a b at =
    ap (λ o. cond (e.place == k.place) (farther at (of_port k.name o)) at) is
    ∙ (ap (λ z. cond z (farther at (of_port k.name (Some t))) at) a
    ∙ ap (λ z. farther at (cond z (Some t.location) None)) b)

-- A table after one location is put.
module _ (old new : NameAt → Option Location) (l : Layout) where
  pub put_location : (k : NameAt) (row : Location) (f : NameAt → Location → Location) → ((q : NameAt) → new q ≡ cond (same_name_at k q) (Some row) (old q)) → row ≡ f k (unwrap_or (old k) (named_location l k.name)) → ((q : NameAt) → same_name_at k q ≡ false → (v : Location) → f q v ≡ v) → (q : NameAt) → unwrap_or (new q) (named_location l q.name) ≡ f q (unwrap_or (old q) (named_location l q.name))
  put_location k row f h e a q = ap (λ o. unwrap_or o (named_location l q.name)) (h q) ∙ by (same_name_at k q) refl
    where
      by : (b : Bool) → same_name_at k q ≡ b → unwrap_or (cond b (Some row) (old q)) (named_location l q.name) ≡ f q (unwrap_or (old q) (named_location l q.name))
      by true s = e ∙ ap (λ u. f u (unwrap_or (old u) (named_location l u.name))) (from_same_name_at k q s)
      by false s = sym (a q s (unwrap_or (old q) (named_location l q.name)))
