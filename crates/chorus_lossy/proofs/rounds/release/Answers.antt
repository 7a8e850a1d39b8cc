use Rattle.std.proofs.Common.{◌≡◌, ◌<◌, ◌-◌, ◌^◌, ◌++◌, ◌∷◌, [], ℕ, refl, sym, ◌∙◌, ap, subst, arith}
use Rattle.std.specs.Option.{option_to_list}
use Rattle.std.proofs.lemmas.List.Elements.{All-pop}
use Rattle.chorus_transport.specs.declared.chunk.Chunk.{Chunk}
use Rattle.chorus_lossy.specs.Line.{ends}
use Rattle.chorus_lossy.specs.Rounds.{released}
use Rattle.chorus_lossy.specs.Running.{IsBetween}
use Rattle.chorus_lossy.proofs.Running.{on_err, none_of_pair, none_held, same_held, releasing_begins, releasing_next, released_all, released_between}
use Rattle.chorus_lossy.proofs.rounds.release.Goals as goal

pub loop-number-init : goal.loop-number-init
loop-number-init c = record { so_far = λ m s e. releasing_begins m c.args.run.now s c.args.receiver.now e; small = c.requires; lost = refl }

pub arrive-requires : goal.arrive-requires
arrive-requires c =
    let parts = All-pop (λ (h : ℕ × Chunk). h.0 < 2 ^ 64 - 1) c.loop-number.run.held.items c.pop.new.self.items c.pop.result c.pop.ensures.items c.loop-number.invariant.small in
    let small = rw c.in-Some.is at parts.1 in
    omega (arith, small)

pub loop-number-preserved : goal.loop-number-preserved
loop-number-preserved c =
    let run = c.loop-number.run in
    let inv = c.loop-number.invariant in
    let parts = All-pop (λ (h : ℕ × Chunk). h.0 < 2 ^ 64 - 1) run.held.items c.pop.new.self.items c.pop.result c.pop.ensures.items inv.small in
    let popped : run.held.items ≡ c.pop.new.self.items ++ (c.in-Some.number, c.in-Some.chunk) ∷ [] = c.pop.ensures.items ∙ ap (λ o. c.pop.new.self.items ++ option_to_list o) c.in-Some.is in
    record {
      so_far = λ m s e. releasing_next m run (record run { held = c.pop.new.self }) s c.loop-number.receiver c.arrive.new.receiver c.in-Some.number c.in-Some.chunk (inv.so_far m s e) refl popped c.in_ok-arrive.ensures.ok;
      small = parts.0;
      lost = inv.lost;
    }

pub returns-in_err-arrive-clause-err : goal.returns-in_err-arrive-clause-err
returns-in_err-arrive-clause-err c = λ m s e.
    on_err c.from_residual.result
    (subst (λ x. IsBetween m (released m) (ends s x)) (sym c.in_err-arrive.ensures.err)
    (released_between m c.loop-number.run s c.loop-number.receiver (c.loop-number.invariant.so_far m s e)))

pub returns-clause-ok : goal.returns-clause-ok
returns-clause-ok c = λ m s e.
    let run = c.loop-number.run in
    let none = none_held run.held.items c.pop.new.self.items run.held.len c.pop.result (none_of_pair c.pop.result c.in_default.not-Some) c.pop.ensures.items c.pop.ensures.variant.1 run.held.ok.0 in
    same_held (released m) run (record run { held = c.pop.new.self }) s c.loop-number.receiver
    (released_all m run s c.loop-number.receiver (c.loop-number.invariant.so_far m s e) none.0) refl (none.1 ∙ sym none.0)
