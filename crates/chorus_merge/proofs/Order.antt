-- The order by clock and place: what its test means, and that it is an order of levels.
use Rattle.std.proofs.Common.{◌≡◌, ◌<◌, ◌≤◌, Bool, true, false, ◌&&◌, eqb, ltb, inl, inr, arith}
use Rattle.std.proofs.lemmas.Bool.{and_parts, and_cases, or_cases, or_parts, eqb-true, eqb-false, ltb-true, ltb-false, cases_Bool}
use Rattle.chorus_entry.specs.declared.entry.Entry.{Entry}
use Rattle.chorus_entry.specs.Order.{comes_before}

pub comes_before-true : (e f : Entry) → comes_before e f ≡ true → (e.clock ≤ f.clock) × (e.clock ≡ f.clock → e.place < f.place)
comes_before-true e f h =
    elim (or_cases (ltb e.clock f.clock) (eqb e.clock f.clock && ltb e.place f.place) h) [
      | inl less ↦ (let lt = ltb-true e.clock f.clock less in (omega arith, λ same. absurd (omega arith)))
      | inr both ↦
          (let parts = and_parts (eqb e.clock f.clock) (ltb e.place f.place) both in
          let same = eqb-true e.clock f.clock parts.0 in
          let lt = ltb-true e.place f.place parts.1 in
          (omega arith, λ _. lt))
    ]

pub comes_before-false : (e f : Entry) → comes_before e f ≡ false → (f.clock ≤ e.clock) × (e.clock ≡ f.clock → f.place ≤ e.place)
comes_before-false e f h =
    let parts = or_parts (ltb e.clock f.clock) (eqb e.clock f.clock && ltb e.place f.place) h in (
      ltb-false e.clock f.clock parts.0,
      λ same. elim (and_cases (eqb e.clock f.clock) (ltb e.place f.place) parts.1) [
        | inl other ↦ absurd (eqb-false e.clock f.clock other same)
        | inr le ↦ ltb-false e.place f.place le
      ],
    )

pub comes_before-from : (e f : Entry) → e.clock ≤ f.clock → (e.clock ≡ f.clock → e.place < f.place) → comes_before e f ≡ true
comes_before-from e f clock place =
    elim (cases_Bool (comes_before e f)) [
      | inl h ↦ h
      | inr h ↦ (let back = comes_before-false e f h in
          let same : e.clock ≡ f.clock = omega arith in
          let lt = place same in
          let le = back.1 same in
          absurd (omega arith))
    ]

pub comes_before-not : (e f : Entry) → f.clock ≤ e.clock → (e.clock ≡ f.clock → f.place ≤ e.place) → comes_before e f ≡ false
comes_before-not e f clock place =
    elim (cases_Bool (comes_before e f)) [
      | inl h ↦ (let on = comes_before-true e f h in
          let same : e.clock ≡ f.clock = omega arith in
          let le = place same in
          let lt = on.1 same in
          absurd (omega arith))
      | inr h ↦ h
    ]

-- what is before, and what is not before, goes on from one to the next
pub record IsLevelled {X : Type 0} (before : X → X → Bool) : Type 0 where
  pub on : (x y z : X) → before x y ≡ true → before y z ≡ true → before x z ≡ true
  pub back : (x y z : X) → before x y ≡ false → before y z ≡ false → before x z ≡ false

pub comes_before-levelled : IsLevelled comes_before
comes_before-levelled = record {
  on = λ x y z h k.
      let first = comes_before-true x y h in
      let second = comes_before-true y z k in
      comes_before-from x z (omega arith) (λ same. omega arith);
  back = λ x y z h k.
      let first = comes_before-false x y h in
      let second = comes_before-false y z k in
      comes_before-not x z (omega arith) (λ same. omega arith);
}
