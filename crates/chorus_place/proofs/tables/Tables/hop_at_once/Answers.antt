use Rattle.std.proofs.Common.{◌≡◌, ℕ, ◌==◌, arith, ap, sym, ◌∙◌, length, [], ◌∷◌, List, Option, Some, None, true, false, is_none}
use Rattle.std.proofs.lemmas.Bool.{and_parts, eqb-true, false≢true}
use Rattle.chorus_ui.specs.Layout.{has_site}
use Rattle.place_unsettled.specs.declared.wait.Wait.{Wait}
use Rattle.place_unsettled.specs.Queues.{Queue, queue, empty_queue, is_free}
use Rattle.law_machine.specs.Doing.{direct}
use Rattle.chorus_place.proofs.PlaceTables.Going.{seen-site, placed}
use Rattle.chorus_place.proofs.tables.Tables.hop_at_once.Goals as goal

no-waits : (ws : List Wait) → (length ws == 0) ≡ true → ws ≡ []
no-waits [] l = λ i. []
no-waits (w ∷ ws) l = let none = eqb-true (length (w ∷ ws)) 0 l in absurd (omega (arith, none))

not-some : (o : Option ℕ) → is_none o ≡ true → o ≡ None
not-some None h = λ i. None
not-some (Some n) h = absurd (false≢true h)

nothing-waits : (q : Queue) → is_free q ≡ true → q ≡ empty_queue
nothing-waits q h =
    let two = and_parts (is_none q.tried) (length q.waits == 0) h in
    λ i. record { tried = not-some q.tried two.0 i; waits = no-waits q.waits two.1 i }

pub returns : goal.returns
returns c =
    let i = c.self.inside in
    let q = c.args.port in
    let v = c.args.self.now in
    let e = c.self.view_is in
    let site = c.has_site.ensures ∙ ap (λ n. has_site i.layout n) c.site.ensures.value in
    record {
      site = seen-site (direct q) _ v _ e site ∙ c.if-not-has_site.false;
      queue = ap (λ p. queue p.waits (direct q)) (sym e)
          ∙ nothing-waits (queue i.waits (direct q)) (sym c.is_free.ensures ∙ c.if-not-is_free.false);
      here = placed (direct q) _ v c.newest-to.result _ e c.self.invariant.2.layout site c.if-not-has_site.false c.newest-to.ensures.value
          ∙ ap (λ n. record { to = n; hop = c.newest-to.result.1 }) (c.if-to-self.false ∙ ap (λ p. p.number) e);
    }
