-- Nothing is open where no entry began something that is.
use Rattle.std.proofs.Common.{◌≡◌, ◌+◌, List, [], ◌∷◌, ◌++◌, length, map, refl, ap, arith}
use Rattle.std.specs.List.{flat_map}
use Rattle.chorus_ui.specs.declared.layout.Layout.{Layout}
use Rattle.chorus_entry.specs.declared.entry.Entry.{Entry}
use Rattle.chorus_world.specs.declared.place.Sent.{Sent}
use Rattle.chorus_world.proofs.Messages.SentFacts.{EachSent}
use Rattle.law_judge.specs.Open.{at_line, open_by, open_in}

pub cons-nil : {A : Type 0} {P : Type 0} (x : A) (xs : List A) → x ∷ xs ≡ [] → P
cons-nil x xs h = absurd (omega (arith, ap length h))

pub append-empty : {A : Type 0} (xs ys : List A) → xs ++ ys ≡ [] → (xs ≡ []) × (ys ≡ [])
append-empty [] ys h = (refl, h)
append-empty (x ∷ xs) ys h = cons-nil x (xs ++ ys) h

map-empty : {A B : Type 0} (f : A → B) (xs : List A) → map f xs ≡ [] → xs ≡ []
map-empty f [] h = refl
map-empty f (x ∷ xs) h = cons-nil (f x) (map f xs) h

pub each-empty : {A : Type 0} (f : Sent → List A) (ms : List Sent) → flat_map f ms ≡ [] → EachSent (λ m. f m ≡ []) ms
each-empty f [] h = tt
each-empty f (m ∷ ms) h = let two = append-empty (f m) (flat_map f ms) h in (two.0, each-empty f ms two.1)

pub all-empty : {A : Type 0} (f : Sent → List A) (ms : List Sent) → EachSent (λ m. f m ≡ []) ms → flat_map f ms ≡ []
all-empty f [] h = refl
all-empty f (m ∷ ms) h = λ i. h.0 i ++ all-empty f ms h.1 i

-- no entry of the past began something that is open after all
abbrev pub NoneOpen : Layout → List Entry → List Entry → Type 0
NoneOpen l all [] = Unit {0}
NoneOpen l all (e ∷ past) = (open_by l all e.clock e.place e.act ≡ []) × NoneOpen l all past

pub none-open : (l : Layout) (all past : List Entry) → open_in l all past ≡ [] → NoneOpen l all past
none-open l all [] h = tt
none-open l all (e ∷ past) h =
    let two = append-empty (open_in l all past) (map (at_line (length past + 2)) (open_by l all e.clock e.place e.act)) h in
    (map-empty (at_line (length past + 2)) (open_by l all e.clock e.place e.act) two.1, none-open l all past two.0)

pub nothing-open : (l : Layout) (all past : List Entry) → NoneOpen l all past → open_in l all past ≡ []
nothing-open l all [] h = refl
nothing-open l all (e ∷ past) h =
    λ i. nothing-open l all past h.1 i ++ map (at_line (length past + 2)) (h.0 i)
