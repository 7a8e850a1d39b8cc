-- What the faults of a crew tell.
-- `gives` says of each fault whether the crew stopped for it, count is how many pairs there are, a and c are the caller's
-- pass before the call and at its end.
use Rattle.std.proofs.Common.{◌≡◌, ◌<◌, ◌≤◌, ◌+◌, ◌↔◌, ℕ, Some, refl, sym, ap, ◌∙◌, arith}
use Rattle.std.specs.declared.alloc.AllocError.{AllocError}
use Rattle.chorus_turn.specs.Knowing.{limit}
use Rattle.chorus_nucleus.specs.declared.pass.Pass.{Pass}
use Rattle.chorus_nucleus.specs.Passes.{known, worn_by}
use Rattle.chorus_crew.specs.declared.fault.CrewFault.{CrewFault}
use Rattle.chorus_crew.specs.declared.fault.CrewFault.TheVariants as faults
use Rattle.chorus_crew.specs.Crews.{FaultsTell}

not-worn : (made clock : ℕ) → faults.NoSeat made ≡ faults.Worn clock → ⊥
not-worn made clock e = absurd (cc)

same-made : (made other : ℕ) → faults.NoSeat made ≡ faults.NoSeat other → made ≡ other
same-made made other e = cc

-- it was not begun, since numbers lack
pub no-seats : (gives : CrewFault → Type 0) (count : ℕ) (f : CrewFault) (a : Pass) → ((e : CrewFault) → gives e ↔ (f ≡ e)) → f ≡ faults.NoSeat (known a).made → limit < (known a).made + count → FaultsTell gives count a a
no-seats gives count f a only is full = record {
  worn = λ clock g. absurd (not-worn (known a).made clock (sym is ∙ (only (faults.Worn clock)).0 g));
  no_seat = λ made. (
    λ g. (sym (same-made (known a).made made (sym is ∙ (only (faults.NoSeat made)).0 g)), full),
    λ both. (only (faults.NoSeat made)).1 (is ∙ ap (λ (k : ℕ). faults.NoSeat k) (sym both.0)),
  );
  unchanged = λ made g. refl;
}

-- there are numbers for all
pub seats-there : (gives : CrewFault → Type 0) (count : ℕ) (a c : Pass) → (known a).made + count ≤ limit → ((clock : ℕ) → gives (faults.Worn clock) → worn_by c ≡ Some clock) → ((made : ℕ) → gives (faults.NoSeat made) → ⊥)
    → FaultsTell gives count a c
seats-there gives count a c room worn none = record {
  worn = worn;
  no_seat = λ made. (λ g. absurd (none made g), λ both. let full = both.1 in absurd (omega (arith, room, full)));
  unchanged = λ made g. absurd (none made g);
}

-- the same faults
pub tells-same : (g h : CrewFault → Type 0) (count : ℕ) (a c : Pass) → ((e : CrewFault) → g e ↔ h e) → FaultsTell g count a c → FaultsTell h count a c
tells-same g h count a c same t = record {
  worn = λ clock x. t.worn clock ((same (faults.Worn clock)).1 x);
  no_seat = λ made. (λ x. (t.no_seat made).0 ((same (faults.NoSeat made)).1 x), λ both. (same (faults.NoSeat made)).0 ((t.no_seat made).1 both));
  unchanged = λ made x. t.unchanged made ((same (faults.NoSeat made)).1 x);
}

memory-worn : (none : AllocError) (clock : ℕ) → faults.Memory none ≡ faults.Worn clock → ⊥
memory-worn none clock e = absurd (cc)

memory-seat : (none : AllocError) (made : ℕ) → faults.Memory none ≡ faults.NoSeat made → ⊥
memory-seat none made e = absurd (cc)

-- there was no memory
pub no-memory : (gives : CrewFault → Type 0) (count : ℕ) (f : CrewFault) (none : AllocError) (a c : Pass) → ((e : CrewFault) → gives e → f ≡ e) → f ≡ faults.Memory none → (known a).made + count ≤ limit → FaultsTell gives count a c
no-memory gives count f none a c only is room =
    seats-there gives count a c room (λ clock g. absurd (memory-worn none clock (sym is ∙ only (faults.Worn clock) g))) (λ made g. memory-seat none made (sym is ∙ only (faults.NoSeat made) g))
