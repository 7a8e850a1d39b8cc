-- The pass of a nucleus that was just started is its opening one.
use Rattle.std.proofs.Common.{ap}
use Rattle.chorus_ui.specs.declared.layout.Layout.{Layout}
use Rattle.chorus_calls.specs.Callers.{Seated}
use Rattle.chorus_turn.specs.declared.knowledge.Knowledge.{Knowledge}
use Rattle.law_closing.specs.Places.{PlaceNote}
use Rattle.chorus_nucleus.specs.declared.nucleus.Nucleus.{Nucleus}
use Rattle.chorus_nucleus.specs.declared.pass.Pass.{Pass}
use Rattle.chorus_nucleus.specs.Coming.{IsStarted}
use Rattle.chorus_perform.specs.Scripts.{IsOpening}

pub opening : (l : Layout) (n : Nucleus) (p : Pass) → IsStarted l n p → IsOpening p
opening l n p s = record {
  keeper = record {
    seat = ap (λ (v : Knowledge PlaceNote). v.seat) s.knows;
    keeper = ap (λ (v : Knowledge PlaceNote). v.keeper) s.knows;
    made = ap (λ (v : Knowledge PlaceNote). v.made) s.knows;
    notes = ap (λ (v : Knowledge PlaceNote). v.notes) s.knows;
  };
  mine = ap (λ (v : Knowledge PlaceNote). v.mine) s.knows;
  actor = ap (λ (w : Seated). w.actor) s.caller;
}
