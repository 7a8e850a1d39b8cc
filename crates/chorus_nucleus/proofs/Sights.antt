-- Readers of boards that go from pass to pass.
use Rattle.std.proofs.Common.{ℕ, ◌≡◌, ◌+◌, ◌-◌, ◌≤◌, nat_lt, Bool, true, false, cond, List, [], ◌∷◌, ◌++◌, length, Option, Some, None, is_some, option_to_list, IfSome, sym, ◌∙◌, ap, subst, inl, inr, arith}
use Rattle.std.specs.List.{All}
use Rattle.std.specs.Global.{Vec}
use Rattle.std.proofs.lemmas.Bool.{cases_eq, cases_lt}
use Rattle.std.proofs.lemmas.List.{length-append}
use Rattle.std.proofs.lemmas.List.Elements.{All-nil, All-cons, All-append, All-head}
use Rattle.chorus_ui.specs.declared.layout.Layout.{Layout}
use Rattle.chorus_entry.specs.declared.packet.Packet.{Packet}
use Rattle.chorus_merge.proofs.Places.{All-append_parts}
use Rattle.chorus_ruled_ends.specs.Ruled.{Ruled}
use Rattle.chorus_board.specs.declared.reader.BoardReader.{BoardReader}
use Rattle.chorus_board.specs.declared.start.TheConstants.{READERS_PER_BOARD}
use Rattle.chorus_nucleus.specs.declared.site_turns.site.Site.{Site}
use Rattle.chorus_nucleus.specs.Passes.{Reads, AreSpare, row_at}
use Rattle.chorus_nucleus.specs.Readers.{Taken, TakesReader, GivesReader, Inherits}

-- what is so of the readers of each place, after one was taken
module _ (Of : ℕ → BoardReader → Type 0) where
  taken-row : (p : ℕ) (r : Option BoardReader) (old new : List BoardReader) → Taken r old new → All (Of p) old → All (Of p) new × IfSome r (Of p)
  taken-row p None old new t all = (subst (All (Of p)) (sym t.1) (All-nil (Of p)), tt)
  taken-row p (Some r) old new t all =
      (let two = All-append_parts (Of p) new (r ∷ []) (subst (All (Of p)) t all) in (two.0, All-head (Of p) r [] two.1))

  pub rows-taken : (p : ℕ) (old new : List (Vec BoardReader)) (r : Option BoardReader) → 1 ≤ p → ((q : ℕ) → 1 ≤ q → All (Of q) (row_at q old)) → TakesReader p old new r
      → ((q : ℕ) → 1 ≤ q → All (Of q) (row_at q new)) × IfSome r (Of p)
  rows-taken p old new r low h t =
      let own = taken-row p r (row_at p old) (row_at p new) t.taken (h p low) in (
        λ q from. elim (cases_eq q p) [
          | inl same ↦ subst (λ k. All (Of k) (row_at k new)) (sym same) own.0
          | inr other ↦ subst (All (Of q)) (sym (t.others q from other)) (h q from)
        ],
        own.1,
      )

module _ (l : Layout) (handed : List (Site Ruled Packet)) where
  abbrev Of : ℕ → BoardReader → Type 0
  Of p r = Reads l handed p r

  -- a reader was taken
  pub spare-taken : (p : ℕ) (old new : List (Vec BoardReader)) (r : Option BoardReader) → 1 ≤ p → AreSpare l handed old → TakesReader p old new r → AreSpare l handed new × IfSome r (Of p)
  spare-taken p old new r low h t = (let got = rows-taken Of p old new r low h.read t in (record { read = got.0; room = t.room h.room }, got.1))

  given-row : (p : ℕ) (r : BoardReader) (row : List BoardReader) (b : Bool) → All (Of p) row → Of p r → All (Of p) (cond b (row ++ r ∷ []) row)
  given-row p r row true all is = All-append (Of p) row (r ∷ []) all (All-cons (Of p) r [] is (All-nil (Of p)))
  given-row p r row false all is = all

  -- a reader was given back
  pub spare-given : (p : ℕ) (old new : List (Vec BoardReader)) (r : BoardReader) → 1 ≤ p → AreSpare l handed old → Of p r → GivesReader p old new r → AreSpare l handed new
  spare-given p old new r low h is g = record {
    read = λ q from. elim (cases_eq q p) [
      | inl same ↦ subst (λ k. All (Of k) (row_at k new)) (sym same) (elim (cases_lt (p - 1) (length old)) [
        | inl lt ↦ subst (All (Of p)) (sym (g.given (omega (arith, lt, low)))) (given-row p r (row_at p old) (nat_lt (length (row_at p old)) READERS_PER_BOARD) (h.read p low) is)
        | inr le ↦ subst (λ rows. All (Of p) (row_at p rows)) (sym (g.beyond le)) (h.read p low)
      ])
      | inr other ↦ subst (All (Of q)) (sym (g.others q from other)) (h.read q from)
    ];
    room = g.room;
  }

  pub spare-inherited : (keeper : Bool) (r : Option BoardReader) (p : ℕ) (old new : List (Vec BoardReader)) → 1 ≤ p → AreSpare l handed old → IfSome r (Of p) → Inherits keeper r p old new → AreSpare l handed new
  spare-inherited true (Some r) p old new low h is g = spare-given p old new r low h is g
  spare-inherited true None p old new low h is g = subst (AreSpare l handed) (sym g) h
  spare-inherited false (Some r) p old new low h is g = subst (AreSpare l handed) (sym g) h
  spare-inherited false None p old new low h is g = subst (AreSpare l handed) (sym g) h

-- How many there are.

pub taken-count : (r : Option BoardReader) (old new : List BoardReader) → Taken r old new → length old ≡ length new + cond (is_some r) 1 0
taken-count None old new t = ap length t.0 ∙ (let z = ap length t.1 in omega (arith, z))
taken-count (Some r) old new t = ap length t ∙ length-append new (r ∷ [])

pub taken-is : (r : Option BoardReader) (old new : List BoardReader) → Taken r old new → old ≡ new ++ option_to_list r
taken-is None old new t = t.0 ∙ sym (ap (λ rs. rs ++ []) t.1)
taken-is (Some r) old new t = t

pub taken-none : (r : Option BoardReader) (old new : List BoardReader) → Taken r old new → r ≡ None → length old ≡ 0
taken-none None old new t e = ap length t.0
taken-none (Some r) old new t e = absurd (cc)

pub inherited-count : (keeper : Bool) (r : Option BoardReader) (p : ℕ) (old new : List (Vec BoardReader)) → Inherits keeper r p old new → length new ≡ length old
inherited-count true (Some r) p old new g = g.count
inherited-count true None p old new g = ap length g
inherited-count false (Some r) p old new g = ap length g
inherited-count false None p old new g = ap length g
