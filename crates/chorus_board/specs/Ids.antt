-- Two books, two words of books, two rights of pens, and two layouts are the same in one way.
use Rattle.std.specs.Prelude.{◌≡◌}
use Rattle.std.proofs.Common.{ap}
use Rattle.std.proofs.Props.{props}
use base.Stored.{Coded-set}
use native.Mathlib.Nat.{ℕ_set}
use Rattle.logbook.specs.Pages.{Book, book_coded, Named, named_coded, Nib, nib_coded}
use Rattle.chorus_ui.specs.declared.layout.Layout.{Layout}

pub book_set : (a b : Book) → IsProp (a ≡ b)
book_set = Coded-set book_coded

pub named_set : (a b : Named) → IsProp (a ≡ b)
named_set = Coded-set named_coded

pub nib_set : (a b : Nib) → IsProp (a ≡ b)
nib_set = Coded-set nib_coded

pub layout_set : (a b : Layout) → IsProp (a ≡ b)
layout_set a b p q = λ i j. record {
  sites = ℕ_set a.sites b.sites (ap (λ (l : Layout). l.sites) p) (ap (λ (l : Layout). l.sites) q) i j;
  turns = ℕ_set a.turns b.turns (ap (λ (l : Layout). l.turns) p) (ap (λ (l : Layout). l.turns) q) i j;
}

pub ruleset board_props = (props, book_set, named_set, nib_set, layout_set)
