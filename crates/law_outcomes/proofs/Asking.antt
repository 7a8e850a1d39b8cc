-- Networks with the same acts tell the same of a moment, and their places have the same acts.
use Rattle.std.proofs.Common.{ℕ, ◌≡◌, true, List, [], ◌∷◌, ◌++◌, map, reverse, refl, sym, ◌∙◌, ap, ap₂, subst}
use Rattle.std.proofs.lemmas.List.{map-append, reverse-append}
use Rattle.chorus_entry.specs.declared.act.Act.{Act}
use Rattle.chorus_entry.specs.declared.entry.Entry.{Entry}
use Rattle.law_machine.specs.PlaceState.{PlaceState}
use Rattle.law_network.specs.Network.{NetState}
use Rattle.law_explore.specs.Alike.{ActAlike, NetsAlike, PlacesAlike}
use Rattle.law_explore.specs.Positions.{AskAlike}
use Rattle.law_explore.proofs.Telling.{keep_asks}
use Rattle.law_outcomes.specs.Closed.{acts_in}

acts-ask : (j k : List Entry) → ActAlike j k → AskAlike true j k
acts-ask [] [] h = (keep_asks true).none
acts-ask [] (f ∷ k) h = absurd (cc)
acts-ask (e ∷ j) [] h = absurd (cc)
acts-ask (e ∷ j) (f ∷ k) h =
    let same : e.act ≡ f.act = cc in
    let rest : ActAlike j k = cc in
    subst (λ (a : Act). AskAlike true (e ∷ j) (record f { act = a } ∷ k)) same
    ((keep_asks true).more e.act j k e.clock f.clock e.place f.place e.seat f.seat (acts-ask j k rest))

places-ask : (ss rs : List PlaceState) → PlacesAlike ActAlike ss rs → PlacesAlike (AskAlike true) ss rs
places-ask [] [] h = h
places-ask [] (r ∷ rs) h = absurd h
places-ask (s ∷ ss) [] h = absurd h
places-ask (s ∷ ss) (r ∷ rs) h =
    let p = h.0 in (record { journal = p.journal; is = p.is; journals = acts-ask s.journal p.journal p.journals }, places-ask ss rs h.1)

pub nets-ask : (count : ℕ) (n m : NetState) → NetsAlike ActAlike count n m → NetsAlike (AskAlike true) count n m
nets-ask count n m h = record { layout = h.layout; places = places-ask n.places m.places h.places; packets = h.packets; callers = h.callers }

turned : {X Y : Type 0} (f : X → Y) (xs : List X) → map f (reverse xs) ≡ reverse (map f xs)
turned f [] = refl
turned f (x ∷ xs) = ap (map f) (reverse-append (x ∷ []) xs) ∙ map-append f (reverse xs) (x ∷ []) ∙ ap (λ ys. ys ++ f x ∷ []) (turned f xs) ∙ sym (reverse-append (f x ∷ []) (map f xs))

pub same-acts : (ss rs : List PlaceState) → PlacesAlike ActAlike ss rs → acts_in (map (λ (s : PlaceState). reverse s.journal) ss) ≡ acts_in (map (λ (r : PlaceState). reverse r.journal) rs)
same-acts [] [] h = refl
same-acts [] (r ∷ rs) h = absurd h
same-acts (s ∷ ss) [] h = absurd h
same-acts (s ∷ ss) (r ∷ rs) h =
    let p = h.0 in
    ap₂ (λ (x : List Act) xs. x ∷ xs)
    (turned (λ (e : Entry). e.act) s.journal ∙ ap reverse p.journals ∙ sym (turned (λ (e : Entry). e.act) p.journal) ∙ ap (λ (z : PlaceState). map (λ (e : Entry). e.act) (reverse z.journal)) (sym p.is))
    (same-acts ss rs h.1)
