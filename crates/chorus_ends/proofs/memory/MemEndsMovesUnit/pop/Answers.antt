use Rattle.std.proofs.Common.{◌≡◌, ◌≢◌, ◌∷◌, ◌++◌, ℕ, [], List, subst, sym, ◌∙◌, ap}
use Rattle.chorus_entry.specs.declared.packet.Packet.{Packet}
use Rattle.chorus_ends.specs.Memory.{Kept, IsFirstFrom, from_place}
use Rattle.chorus_ends.proofs.Packets.{is-from, gets-first, others-stay, seen-push}
use Rattle.chorus_ends.proofs.memory.MemEndsMovesUnit.pop.Goals as goal

-- src/memory.rt:150:5
pub returns-in-Some-clause-some : goal.returns-in-Some-clause-some
returns-in-Some-clause-some c =
    let first : IsFirstFrom c.args.from c.in-Some.at c.self.inside.left.items =
    subst (λ (ls : List Packet). IsFirstFrom c.args.from c.in-Some.at ls) c.deref.ensures.value c.in-Some.ensures.some in
    let x = c.remove-packet.result in
    let value = c.remove-packet.ensures.value in
    let items = c.remove-packet.ensures.items in
    let left : c.args.self.now.left ≡ c.self.inside.left.items = sym (ap (λ (k : Kept). k.left) c.self.view_is) in
    record {
      from = is-from c.args.from c.in-Some.at c.self.inside.left.items x first value;
      next = ap (from_place c.args.from) left ∙ gets-first c.args.from c.in-Some.at c.self.inside.left.items x first value ∙ sym (ap (λ ls. x ∷ from_place c.args.from ls) items);
      others = λ q ne. ap (from_place q) items ∙ others-stay c.args.from c.in-Some.at q c.self.inside.left.items x first value ne ∙ sym (ap (from_place q) left);
      received =
          seen-push c.self.inside.received.items c.push_reserved.new.self.items c.of.result (λ s. s.value) x c.push_reserved.ensures.items c.of.ensures
          ∙ ap (λ (k : Kept). k.received ++ x ∷ []) c.self.view_is;
      sent = ap (λ (k : Kept). k.sent) c.self.view_is;
      empties = ap (λ (k : Kept). k.empties) c.self.view_is;
    }
