use Rattle.std.proofs.Common.{refl, sym, ◌∙◌, arith}
use Rattle.chorus_explore.proofs.alike_sites.callers.is_same_seat.Goals as goal

pub returns : goal.returns
returns c = λ e.
    record {
      seat = (let a = c.if-seat.false in let b = c.seat.ensures in let d = c.seat-2.ensures in omega (arith, a, b, d));
      actor = sym c.actor.ensures ∙ (c.if-not-is_same_name.ensures refl) ∙ c.actor-2.ensures;
      posts = (let a = c.if-posts.false in let b = c.posts.ensures in let d = c.posts-2.ensures in omega (arith, a, b, d));
    }
