-- The eight pairs may be given to a crew.
use Rattle.std.proofs.Common.{◌≡◌, ◌≤◌, nat_le, true, refl, arith}
use Rattle.std.proofs.lemmas.Bool.{le-leb}
use Rattle.chorus_ui.specs.declared.layout.Layout.{Layout}
use Rattle.chorus_crew.specs.Pairs.{are_pairs}
use Rattle.chorus_run.specs.declared.drawn_crew.names.TheConstants.{CREW_PORTS}
use Rattle.chorus_run.specs.DrawnCrew.Names.{crew_pairs}

pub pairs-fit : (l : Layout) → CREW_PORTS ≤ l.sites → are_pairs l crew_pairs ≡ true
pairs-fit l few =
    let a1 : nat_le 1 l.sites ≡ true = le-leb 1 l.sites (omega (arith, few)) in
    let a2 : nat_le 2 l.sites ≡ true = le-leb 2 l.sites (omega (arith, few)) in
    let a3 : nat_le 3 l.sites ≡ true = le-leb 3 l.sites (omega (arith, few)) in
    let a4 : nat_le 4 l.sites ≡ true = le-leb 4 l.sites (omega (arith, few)) in
    let a5 : nat_le 5 l.sites ≡ true = le-leb 5 l.sites (omega (arith, few)) in
    let a6 : nat_le 6 l.sites ≡ true = le-leb 6 l.sites (omega (arith, few)) in
    let a7 : nat_le 7 l.sites ≡ true = le-leb 7 l.sites (omega (arith, few)) in
    let a8 : nat_le 8 l.sites ≡ true = le-leb 8 l.sites (omega (arith, few)) in
    rw (a1, a2, a3, a4, a5, a6, a7, a8) refl
