-- The nucleus that has started.
-- l is the layout, ss are the places, vs the readers of their boards, n is the nucleus, a the first actor, w its caller, r the reader that was taken.
use Rattle.std.proofs.Common.{◌≤◌, All, ℕ, ◌≡◌, ◌<◌, ◌+◌, ◌*◌, ◌==◌, true, cond, List, length, Option, Some, None, is_some, IfSome, refl, sym, ◌∙◌, ap, subst, inl, inr, arith}
use Rattle.std.proofs.Math.Nat.{zero-mod, mul-pos}
use Rattle.std.specs.Global.{Vec}
use Rattle.std.proofs.lemmas.Bool.{false≢true, eq-eqb, ne_eqb, cases_eq}
use Rattle.chorus_ui.specs.declared.layout.Layout.{Layout}
use Rattle.chorus_ui.specs.declared.ui.Ui.{Ui}
use Rattle.chorus_ui.specs.Layout.{places, IsLayout, creation_place}
use Rattle.chorus_ui.specs.NameKind.{is_actor}
use Rattle.chorus_entry.specs.declared.packet.Packet.{Packet}
use Rattle.chorus_calls.specs.Callers.{Seated, new_caller}
use Rattle.chorus_ruled_ends.specs.Ruled.{Ruled}
use Rattle.chorus_board.specs.declared.reader.BoardReader.{BoardReader}
use Rattle.chorus_board.specs.declared.start.TheConstants.{READERS_PER_BOARD}
use Rattle.chorus_turn.specs.declared.pass.Pass as turner
use Rattle.chorus_turn.specs.declared.knowledge.Knowledge.{Knowledge}
use Rattle.chorus_turn.specs.Knowing.{opening_knowledge}
use Rattle.chorus_turn.specs.Passes as turns
use Rattle.law_network.specs.Calls.{first_actor}
use Rattle.law_closing.specs.Closing.{IsPlace}
use Rattle.law_closing.specs.Places.{PlaceNote}
use Rattle.chorus_nucleus.specs.declared.site_turns.site.Site.{Site}
use Rattle.chorus_nucleus.specs.declared.nucleus.Nucleus.{Nucleus}
use Rattle.chorus_nucleus.specs.declared.pass.Pass.{Pass}
use Rattle.chorus_nucleus.specs.Passes.{AreSites, AreSpare, Reads, IsCallerOf, row_at, readers_at, home_of}
use Rattle.chorus_nucleus.specs.Readers.{Taken, TakesReader}
use Rattle.chorus_nucleus.specs.Starting.{HaveStarted}
use Rattle.chorus_nucleus.specs.Coming.{IsStarted, HasSeenNone}
use Rattle.chorus_nucleus.proofs.Sights.{rows-taken, spare-taken, taken-count}
use Rattle.chorus_nucleus.proofs.Threads.{caller-opens}
use Rattle.chorus_nucleus.proofs.Beginning.{fresh-sites, fresh-spare, fresh-new, fresh-rows, first-is}

first-home : (l : Layout) → creation_place l first_actor ≡ 1
first-home l = (let z = zero-mod l.turns in let m : 0 * l.turns ≡ 0 = omega arith in omega (arith, z, m))

some-taken : (r : Option BoardReader) (old new : List BoardReader) → Taken r old new → 0 < length old → is_some r ≡ true
some-taken (Some r) old new t many = refl
some-taken None old new t many = absurd (let z = ap length t.0 in omega (arith, z, many))

module _ (l : Layout) (shape : IsLayout l) (ss : List (Site Ruled Packet)) (vs : List (Vec BoardReader)) (h : HaveStarted l ss vs) (n : Nucleus) (same : n.layout ≡ l) (handed : turns.handed n.turns ≡ ss)
    (turner : turner.Pass PlaceNote) (of : turns.IsPassOf n.turns turner) (knows : turns.known turner ≡ opening_knowledge) (a : Ui) (first : a ≡ first_actor) (w : Seated) (caller : w ≡ new_caller 0 a 0)
    (rows : Vec (Vec BoardReader)) (r : Option BoardReader) (took : TakesReader 1 vs rows.items r) where
  abbrev opening : Pass
  opening = record { turner = turner; caller = w; worn = None; sight = record { reader = r; spare = rows } }

  at-home : home_of l w ≡ 1
  at-home = ap (λ (x : Seated). creation_place l x.actor) caller ∙ ap (creation_place l) first ∙ first-home l

  all-rows : (length vs ≡ places l) × ((q : ℕ) → IsPlace (places l) q → length (row_at q vs) ≡ READERS_PER_BOARD)
  all-rows = fresh-rows l ss vs h

  one-is : IsPlace (places l) 1
  one-is = (omega arith, mul-pos shape.sites_from_one shape.turns_from_one)

  is-some : is_some r ≡ true
  is-some = (let m = all-rows.1 1 one-is in some-taken r (row_at 1 vs) (row_at 1 rows.items) took.taken (omega (arith, m)))

  spared : AreSpare l ss rows.items × IfSome r (λ x. Reads l ss 1 x)
  spared = spare-taken l ss 1 vs rows.items r (omega arith) (fresh-spare l ss vs h) took

  unread : ((q : ℕ) → 1 ≤ q → All HasSeenNone (row_at q rows.items)) × IfSome r HasSeenNone
  unread = rows-taken (λ q. HasSeenNone) 1 vs rows.items r (omega arith) (fresh-new l ss vs h) took

  caller-is : IsCallerOf l (turns.known turner) w
  caller-is =
      subst (IsCallerOf l (turns.known turner)) (sym caller)
      (caller-opens l a 0 (ap is_actor first) (first-is l a shape (ap (λ (u : Ui). u.site) first) (ap (λ (u : Ui). u.number) first)) 0 (turns.known turner) knows refl)

  abbrev count : ℕ → Type 0
  count q = readers_at q opening + cond (q == 1) 1 0 ≡ READERS_PER_BOARD

  counted : (q : ℕ) → IsPlace (places l) q → count q
  counted q is = elim (cases_eq q 1) [
    | inl e ↦ subst count (sym e)
        (ap (λ b. readers_at 1 opening + cond b 1 0) (eq-eqb 1 1 refl) ∙ sym (ap (λ b. readers_at 1 opening + cond b 1 0) is-some) ∙ sym (taken-count r (row_at 1 vs) (row_at 1 rows.items) took.taken) ∙ all-rows.1 1 one-is)
    | inr ne ↦ ap (λ b. readers_at q opening + cond b 1 0) (ne_eqb q 1 ne) ∙ plus (readers_at q opening) ∙ ap length (took.others q is.0 ne) ∙ all-rows.1 q is
  ]
    where
      plus : (k : ℕ) → k + 0 ≡ k
      plus k = omega arith

  pub opened : IsStarted l n opening
  opened = record {
    layout = same;
    pass_of = record {
      sites = subst (λ k. AreSites k (turns.handed n.turns)) (sym same) (subst (AreSites l) (sym handed) (fresh-sites l shape ss vs h));
      turner = of;
      caller = subst (λ k. IsCallerOf k (turns.known turner) w) (sym same) caller-is;
      sight = record {
        own = subst (λ k. IfSome r (λ x. Reads k (turns.handed n.turns) (home_of k w) x)) (sym same)
            (subst (λ hs. IfSome r (λ x. Reads l hs (home_of l w) x)) (sym handed) (subst (λ p. IfSome r (λ x. Reads l ss p x)) (sym at-home) spared.1));
        spare = subst (λ k. AreSpare k (turns.handed n.turns) rows.items) (sym same) (subst (λ hs. AreSpare l hs rows.items) (sym handed) spared.0);
        rows = λ k. took.count ∙ all-rows.0 ∙ ap places (sym same);
        none = λ k. absurd (false≢true (sym k ∙ ap (λ (v : Knowledge PlaceNote). v.keeper) knows));
      };
    };
    knows = knows;
    caller = caller ∙ ap (λ b. new_caller 0 b 0) first;
    worn = refl;
    own = is-some;
    readers = counted;
    own_new = unread.1;
    new = unread.0;
  }
