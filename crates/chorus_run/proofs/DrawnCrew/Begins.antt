-- The opening pass, and what it is when the ports are filled.
use Rattle.std.proofs.Common.{ℕ, ◌≡◌, ◌==◌, ◌&&◌, true, sym, ◌∙◌, ap, subst, is_none}
use Rattle.std.proofs.lemmas.Bool.{and_parts, eqb-true}
use Rattle.chorus_ui.specs.declared.layout.Layout.{Layout}
use Rattle.chorus_ui.specs.Layout.{has_actor}
use Rattle.chorus_ui.specs.NameKind.{is_actor}
use Rattle.chorus_calls.specs.Callers.{Seated, raised}
use Rattle.law_history.specs.Histories.{Follows}
use Rattle.law_history.specs.PlaceTurns.{machine}
use Rattle.law_closing.specs.Remarks.{turns_in}
use Rattle.law_closing.specs.Places.{is_new}
use Rattle.chorus_nucleus.specs.declared.nucleus.Nucleus.{Nucleus}
use Rattle.chorus_nucleus.specs.declared.pass.Pass.{Pass}
use Rattle.chorus_nucleus.specs.Passes.{layout_of, known, caller_of, IsPassOf}
use Rattle.chorus_turn.specs.Knowing.{IsSamePass}
use Rattle.chorus_perform.specs.Scripts.{IsKeeper, IsOpening}

new-posts : (l : Layout) (q : ℕ) (w : Seated) → is_new l q w ≡ true → w.posts ≡ 0
new-posts l q w h =
    let a1 = and_parts ((w.seat == q) && (w.posts == 0) && (w.client.given == 0) && is_none w.client.outstanding && is_none w.hand && is_actor w.actor) (has_actor l w.actor) h in
    let a2 = and_parts ((w.seat == q) && (w.posts == 0) && (w.client.given == 0) && is_none w.client.outstanding && is_none w.hand) (is_actor w.actor) a1.0 in
    let a3 = and_parts ((w.seat == q) && (w.posts == 0) && (w.client.given == 0) && is_none w.client.outstanding) (is_none w.hand) a2.0 in
    let a4 = and_parts ((w.seat == q) && (w.posts == 0) && (w.client.given == 0)) (is_none w.client.outstanding) a3.0 in
    let a5 = and_parts ((w.seat == q) && (w.posts == 0)) (w.client.given == 0) a4.0 in
    let a6 = and_parts (w.seat == q) (w.posts == 0) a5.0 in
    eqb-true w.posts 0 a6.1

-- the pass that made nothing has posted nothing
pub opening-posts : (n : Nucleus) (p : Pass) → IsPassOf n p → IsOpening p → (caller_of p).posts ≡ 0
opening-posts n p h o =
    let t = h.caller.thread in
    let m = machine (layout_of n) in
    let follows : Follows m t.first (turns_in (known p).mine) t.last = t.follows in
    let nothing : t.first ≡ t.last = subst (λ mine. Follows m t.first (turns_in mine) t.last) o.mine follows in
    ap (λ (w : Seated). w.posts) (h.caller.last ∙ ap (raised (caller_of p).last) (sym nothing)) ∙ new-posts (layout_of n) (known p).seat t.first t.new

pub keeps-on : (a b : Pass) → IsOpening a → IsSamePass (known a) (known b) → IsKeeper 0 b
keeps-on a b o same = record {
  seat = same.0 ∙ o.keeper.seat;
  keeper = same.2 ∙ o.keeper.keeper;
  made = same.3 ∙ o.keeper.made;
  notes = same.1 ∙ o.keeper.notes;
}
