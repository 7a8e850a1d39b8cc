-- Layouts of 1, 2 and 4 places per site, and where names stand in them, computed.
use Rattle.std.proofs.Common.{ℕ, ◌≡◌, true, false, List, [], ◌∷◌, map, Some, None, refl}
use Rattle.chorus_ui.specs.declared.kind.Kind.{Kind}
use Rattle.chorus_ui.specs.declared.kind.Kind.TheVariants.{Actor, Port, Group}
use Rattle.chorus_ui.specs.Name.{Name}
use Rattle.chorus_ui.specs.Layout.{Shape, new_layout, places, has_site, has_place, first_place, place_at, site_of, can_make_port, home, group_place}

abbrev name : ℕ → Kind → ℕ → Name
name site kind number = record { site = site; kind = kind; number = number }

abbrev layout : ℕ → ℕ → Shape
layout sites turns = record { sites = sites; turns = turns }

-- the sites of these places of 8 sites
abbrev sites : ℕ → List ℕ → List ℕ
sites turns numbers = map (site_of (layout 8 turns)) numbers

one-per-site : sites 1 (1 ∷ 2 ∷ 8 ∷ []) ≡ 1 ∷ 2 ∷ 8 ∷ []
one-per-site = refl

two-per-site : sites 2 (1 ∷ 2 ∷ 3 ∷ 4 ∷ 15 ∷ 16 ∷ []) ≡ 1 ∷ 1 ∷ 2 ∷ 2 ∷ 8 ∷ 8 ∷ []
two-per-site = refl

four-per-site : sites 4 (1 ∷ 4 ∷ 5 ∷ 8 ∷ 29 ∷ 32 ∷ []) ≡ 1 ∷ 1 ∷ 2 ∷ 2 ∷ 8 ∷ 8 ∷ []
four-per-site = refl

-- of 1, 2 and 4 places per site
abbrev each : (A : Type 0) → (Shape → A) → List A
each A of = map (λ turns. of (layout 8 turns)) (1 ∷ 2 ∷ 4 ∷ [])

how-many : each ℕ places ≡ 8 ∷ 16 ∷ 32 ∷ []
how-many = refl

at-site-2 : each ℕ (λ l. first_place l 2) ≡ 2 ∷ 3 ∷ 5 ∷ []
at-site-2 = refl

port-at-site-2 : each ℕ (λ l. place_at l 2 (name 1 Port 4)) ≡ 2 ∷ 4 ∷ 8 ∷ []
port-at-site-2 = refl

homes : each _ (λ l. home l (name 2 Actor 3)) ≡ Some 2 ∷ Some 3 ∷ Some 7 ∷ []
homes = refl

groups : each _ (λ l. group_place l (name 2 Group 1)) ≡ Some 2 ∷ Some 3 ∷ Some 5 ∷ []
groups = refl

-- the largest layout, and what is outside it
abbrev largest : Shape
largest = layout 16 4

layouts : map (new_layout 1) (0 ∷ 1 ∷ 2 ∷ 3 ∷ 4 ∷ 5 ∷ []) ≡ None ∷ Some (layout 1 1) ∷ Some (layout 1 2) ∷ None ∷ Some (layout 1 4) ∷ None ∷ []
layouts = refl

layouts-of-sites : map (λ n. new_layout n 4) (0 ∷ 16 ∷ 17 ∷ []) ≡ None ∷ Some largest ∷ None ∷ []
layouts-of-sites = refl

sites-outside : map (has_site largest) (0 ∷ 1 ∷ 16 ∷ 17 ∷ []) ≡ false ∷ true ∷ true ∷ false ∷ []
sites-outside = refl

places-outside : map (has_place largest) (0 ∷ 1 ∷ 64 ∷ 65 ∷ []) ≡ false ∷ true ∷ true ∷ false ∷ []
places-outside = refl

actors-outside : map (home largest) (name 1 Actor 1 ∷ name 16 Actor 8 ∷ name 16 Actor 9 ∷ name 17 Actor 1 ∷ []) ≡ Some 1 ∷ Some 64 ∷ None ∷ None ∷ []
actors-outside = refl

ports-outside : map (can_make_port largest) (name 16 Port 32 ∷ name 16 Port 33 ∷ name 17 Port 1 ∷ []) ≡ true ∷ false ∷ false ∷ []
ports-outside = refl

groups-outside : map (group_place largest) (name 16 Group 5 ∷ name 17 Group 1 ∷ []) ≡ Some 61 ∷ None ∷ []
groups-outside = refl
