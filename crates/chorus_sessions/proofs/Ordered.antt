-- Of two entries of one seat the one with the lower clock stands first in a run.
-- e and f are entries, s is a seat, past is a run, its newest entry first.
use Rattle.std.proofs.Common.{ℕ, ◌≡◌, ◌<◌, ◌≤◌, nat_lt, inl, inr, Bool, true, false, ◌&&◌, List, [], ◌∷◌, Option, refl, sym, ◌∙◌, ap, subst, arith}
use Rattle.std.proofs.lemmas.Bool.{and_parts, ltb-true}
use Rattle.std.proofs.lemmas.Bool.Decides.{nat_tests}
use Rattle.chorus_ui.specs.declared.ui.Ui.{Ui}
use Rattle.chorus_ui.specs.declared.layout.Layout.{Layout}
use Rattle.chorus_entry.specs.declared.entry.Entry.{Entry}
use Rattle.chorus_world.specs.Views.{is_by, by}
use Rattle.chorus_world.specs.Places.{last_clock}
use Rattle.chorus_world.specs.Steps.{may}
use Rattle.chorus_world.specs.Runs.{fits_callers, is_run, may_run}
use Rattle.law_closing.specs.Behind.{StandsBefore}
use Rattle.chorus_sessions.proofs.Lists.{In}
use Rattle.chorus_sessions.proofs.Received.{keeps, skips, stands-so}

module _ (l : Layout) (callers : ℕ → Option Ui) where
  rises : (e : Entry) (past : List Entry) → is_run l callers (e ∷ past) ≡ true → (last_clock (by e.seat past) < e.clock) × (is_run l callers past ≡ true)
  rises e past run =
      let parts = and_parts (may l past e && may_run callers past e) (is_run l callers past) run in
      let next = (and_parts (may l past e) (may_run callers past e) parts.0).1 in
      let above = (and_parts (nat_lt (last_clock (by e.seat past)) e.clock) (fits_callers past e.place (callers e.seat) e.act) next).0 in
      (ltb-true (last_clock (by e.seat past)) e.clock above, parts.1)

  below : (s : ℕ) (e : Entry) (past : List Entry) → is_run l callers past ≡ true → In e past → e.seat ≡ s → e.clock ≤ last_clock (by s past)
  below s e [] run a same = absurd a
  below s e (f ∷ past) run a same = go (is_by s f) refl a (λ older. below s e past (rises f past run).1 older same)
    where
      go : (b : Bool) → is_by s f ≡ b → In e (f ∷ past) → (In e past → e.clock ≤ last_clock (by s past)) → e.clock ≤ last_clock (by s (f ∷ past))
      go true is (inl here) old =
          let newest : last_clock (by s (f ∷ past)) ≡ f.clock = ap last_clock (keeps (is_by s) f past is) in
          let clock = ap (λ (z : Entry). z.clock) here in
          omega (arith, newest, clock)
      go true is (inr older) old =
          let newest : last_clock (by s (f ∷ past)) ≡ f.clock = ap last_clock (keeps (is_by s) f past is) in
          let seat : f.seat ≡ s = grind (arith, is, nat_tests) in
          let above = subst (λ k. last_clock (by k past) < f.clock) seat (rises f past run).0 in
          let was = old older in
          omega (arith, was, above, newest)
      go false is (inl here) old = absurd (let other : f.seat ≡ s = ap (λ (z : Entry). z.seat) here ∙ same in grind (arith, is, other, nat_tests))
      go false is (inr older) old =
          let rest : last_clock (by s (f ∷ past)) ≡ last_clock (by s past) = ap last_clock (skips (is_by s) f past is) in
          let was = old older in
          omega (arith, was, rest)

  pub stands-before : (e f : Entry) (past : List Entry) → is_run l callers past ≡ true → In e past → In f past → e.seat ≡ f.seat → e.clock < f.clock → StandsBefore f e past
  stands-before e f [] run a b same lt = absurd a
  stands-before e f (g ∷ past) run (inl a) (inl b) same lt = absurd (let clock = ap (λ (z : Entry). z.clock) (sym a ∙ b) in omega (arith, clock, lt))
  stands-before e f (g ∷ past) run (inl a) (inr b) same lt =
      absurd
      (let up = rises g past run in
      let seat = ap (λ (z : Entry). z.seat) a in
      let clock = ap (λ (z : Entry). z.clock) a in
      let old = below g.seat f past up.1 b (sym same ∙ sym seat) in
      let above = up.0 in
      omega (arith, old, above, clock, lt))
  stands-before e f (g ∷ past) run (inr a) (inl b) same lt =
      let s = stands-so e past a in ([], s.newer, s.older, ap (λ z. z ∷ past) b ∙ ap (λ zs. f ∷ zs) s.is)
  stands-before e f (g ∷ past) run (inr a) (inr b) same lt =
      let s = stands-before e f past (rises g past run).1 a b same lt in (g ∷ s.0, s.1, s.2, ap (λ zs. g ∷ zs) s.3)
