-- A stage that makes a move.
-- c is a scenario, s the stage before, t behind it; a and b are numbers of places, i is the place of a script, d a command.
use Rattle.std.proofs.Common.{ℕ, zero, suc, ◌≡◌, ◌≢◌, ◌+◌, ◌<◌, ◌==◌, Bool, true, false, ◌&&◌, not, cond, List, [], ◌∷◌, ◌++◌, length, map, reverse, set, option_to_list, Option, Some, None, is_some, slice_get, slice_set, refl, sym, ◌∙◌, ap, ap₂, subst, arith, append_assoc}
use Rattle.std.specs.Option.{option_map}
use Rattle.std.proofs.lemmas.Bool.{false≢true, and_parts, and_from, eq-eqb}
use Rattle.std.proofs.lemmas.List.{append-nil, map-append}
use Rattle.std.proofs.lemmas.List.Elements.{filter-append}
use Rattle.chorus_ui.specs.declared.layout.Layout.{Layout}
use Rattle.chorus_ui.specs.Layout.{has_place}
use Rattle.chorus_entry.specs.declared.command.Command.{Command}
use Rattle.law_network.specs.Packets.{first_on}
use Rattle.law_network.specs.Network.{NetState, Act, Deliver, happened, numbers, place_numbers, turn_for}
use Rattle.law_explore.specs.declared.moves.Move.{Move}
use Rattle.law_explore.specs.declared.moves.Move.TheVariants.{Go, Carry}
use Rattle.law_explore.specs.Outcome.{post_in}
use Rattle.law_explore.specs.Races.{Order, Position, Told, told_in, next_of, behind_next, are_linked, event_of, own_by, own_of, with_answer, position_after, may_now, is_now, is_ready_by, seat_0, may_come, replaying, links_to, links_between}
use Rattle.law_explore.specs.Positions.{next_behind}
use Rattle.law_explore.specs.Search.{IsHistory}
use Rattle.law_replay.specs.Shown.{orders_of, race_of}
use Rattle.chorus_scene.specs.Scene.{Scene, Script}
use Rattle.chorus_net.specs.Sites.{net}
use Rattle.chorus_net.proofs.Rounds.{numbers-more}
use Rattle.chorus_explore.specs.declared.race_sites.Progress.{Progress}
use Rattle.chorus_explore.specs.declared.race_sites.Stage.{Stage}
use Rattle.chorus_explore.specs.Tellings.{answered_line}
use Rattle.chorus_explore.specs.Stages.{AreAt, AreProgress, IsNext, IsOfScript, IsReached, coming, goes_on, may_go, moves_of, next_command, position}
use Rattle.chorus_explore.proofs.Racing.{CallerAt, caller-at, first-at, position-layout, race-layout}
use Rattle.chorus_explore.proofs.Staging.{ProgressAt, next-is, next-there, one-more, order-command, progress-at, progress-length, progress-set}

pub some-same : {X : Type 0} (x y : X) → Some x ≡ Some y → x ≡ y
some-same x y e = cc

pub within : {X : Type 0} (xs : List X) (j : ℕ) (x : X) → slice_get xs j ≡ Some x → j < length xs
within [] j x e = absurd (cc)
within (y ∷ xs) zero x e = omega arith
within (y ∷ xs) (suc j) x e = (let lt = within xs j x e in omega (arith, lt))

and-true : (b : Bool) → (b && true) ≡ b
and-true true = refl
and-true false = refl

and-false : (b : Bool) → (b && false) ≡ false
and-false true = refl
and-false false = refl

-- the order that a next command is
pub order-next : (c : Scene) (ms : List Move) (i : ℕ) (d : Command) → IsNext c ms i d → (o : Order) × ((next_of (slice_get (position c ms).left i) ≡ Some o) × (o.command ≡ d))
order-next c ms i d e = by (next_of (slice_get (position c ms).left i)) refl e
  where
    by : (o : Option Order) → next_of (slice_get (position c ms).left i) ≡ o → option_map (λ (x : Order). x.command) o ≡ Some d → (p : Order) × ((next_of (slice_get (position c ms).left i) ≡ Some p) × (p.command ≡ d))
    by None f k = absurd (cc)
    by (Some o) f k = (o, (f, some-same o.command d k))

pub no-order : (c : Scene) (ms : List Move) (i : ℕ) → next_command c ms i ≡ None → next_of (slice_get (position c ms).left i) ≡ None
no-order c ms i e = by (next_of (slice_get (position c ms).left i)) e
  where
    by : (o : Option Order) → option_map (λ (x : Order). x.command) o ≡ None → o ≡ None
    by None k = refl
    by (Some o) k = absurd (cc)

module _ (c : Scene) where
  pub layout-at : (s : Stage) → IsReached c s → (net s.sites).layout ≡ c.layout
  layout-at s h = ap (λ (n : NetState). n.layout) h.at.net ∙ position-layout c (moves_of s) h.history

  -- A delivery.

  pub record IsLinked (a b : ℕ) (ms : List Move) : Type 0 where
    pub from : has_place c.layout a ≡ true
    pub to : has_place c.layout b ≡ true
    pub apart : a ≢ b
    pub event : event_of (race_of c).net.layout seat_0 (Carry a b) (position c ms).left ≡ Some (Deliver 0 a b)

  pub linked : (a b : ℕ) (ms : List Move) → may_go c (Carry a b) ms ≡ true → IsLinked a b ms
  linked a b ms h = by (are_linked (race_of c).net.layout a b) refl h
    where
      by : (x : Bool) → are_linked (race_of c).net.layout a b ≡ x → is_ready_by (cond x (Some (Deliver 0 a b)) None) (position c ms).net && true ≡ true → IsLinked a b ms
      by false e k = absurd (false≢true k)
      by true e k =
          let l = (race_of c).net.layout in
          let one = and_parts (has_place l a && has_place l b) (not (a == b)) e in
          let two = and_parts (has_place l a) (has_place l b) one.0 in
          record {
            from = ap (λ (m : Layout). has_place m a) (sym (race-layout c)) ∙ two.0;
            to = ap (λ (m : Layout). has_place m b) (sym (race-layout c)) ∙ two.1;
            apart = λ same. false≢true (sym (ap not (eq-eqb a b same)) ∙ one.1);
            event = ap (λ x. cond x (Some (Deliver 0 a b)) None) e;
          }

  pub carried : (a b : ℕ) (s t : Stage) → IsReached c s → may_go c (Carry a b) (moves_of s) ≡ true → net t.sites ≡ happened (Deliver 0 a b) (net s.sites) → t.scripts ≡ s.scripts → t.asks ≡ s.asks
      → AreAt c (Carry a b ∷ moves_of s) t
  carried a b s t h may is same asks =
      let after : position c (Carry a b ∷ moves_of s) ≡ position_after (Some (Deliver 0 a b)) (Carry a b) (position c (moves_of s)) =
      ap (λ o. position_after o (Carry a b) (position c (moves_of s))) (linked a b (moves_of s) may).event in
      record {
        net = is ∙ ap (happened (Deliver 0 a b)) h.at.net ∙ sym (ap (λ (p : Position). p.net) after);
        scripts = subst (λ (by : Bool). AreProgress by 1 c.scripts (position c (Carry a b ∷ moves_of s)).left (position c (Carry a b ∷ moves_of s)).told t.scripts.items) (sym asks)
            (subst (λ (p : Position). AreProgress s.asks 1 c.scripts p.left p.told t.scripts.items) (sym after)
            (subst (λ v. AreProgress s.asks 1 c.scripts (position c (moves_of s)).left (position c (moves_of s)).told v.items) (sym same) h.at.scripts));
      }

  -- A command.

  -- the script that goes, its progress, and its caller
  pub record Goes (i : ℕ) (s : Stage) (d : Command) : Type 0 where
    pub at : ProgressAt s.asks 1 i c.scripts (position c (moves_of s)).left (position c (moves_of s)).told s.scripts.items
    pub order : Order
    pub next : next_of (Some at.left) ≡ Some order
    pub command : order.command ≡ d
    pub caller : CallerAt c (moves_of s) i at.script.actor

  -- a command is left of the script only where there is one
  below-next : (s : Stage) → IsReached c s → (i : ℕ) (o : Order) → next_of (slice_get (position c (moves_of s)).left i) ≡ Some o → i < length c.scripts
  below-next s h i p e = by (slice_get (position c (moves_of s)).left i) refl e
    where
      by : (o : Option (List Order)) → slice_get (position c (moves_of s)).left i ≡ o → next_of o ≡ Some p → i < length c.scripts
      by None e k = absurd (cc)
      by (Some left) e k =
          let lt = within (position c (moves_of s)).left i left e in
          let n = (progress-length s.asks 1 c.scripts (position c (moves_of s)).left (position c (moves_of s)).told s.scripts.items h.at.scripts).1 in
          omega (arith, lt, n)

  pub goes-by : (s : Stage) → IsReached c s → (i : ℕ) (d : Command) → IsNext c (moves_of s) i d → Goes i s d
  goes-by s h i d e =
      let o = order-next c (moves_of s) i d e in
      let at = progress-at s.asks 1 i c.scripts (position c (moves_of s)).left (position c (moves_of s)).told s.scripts.items h.at.scripts (below-next s h i o.0 o.1.0) in
      record { at = at; order = o.0; next = sym (ap next_of at.is_left) ∙ o.1.0; command = o.1.1; caller = caller-at c (moves_of s) h.history i at.script at.is_script }

  pub of-script : (s : Stage) → IsReached c s → (i : ℕ) (d : Command) → IsNext c (moves_of s) i d → IsOfScript c i d
  of-script s h i d e =
      let g = goes-by s h i d e in
      record {
        script = g.at.script;
        number = g.at.p.next;
        is_script = g.at.is_script;
        is_command = sym (order-command g.at.script.waits 0 g.at.script.commands g.at.p.next)
            ∙ ap (option_map (λ (o : Order). o.command)) (next-is g.at.p.next (orders_of g.at.script) g.order (ap (λ os. next_of (Some os)) (sym g.at.is.rest) ∙ g.next)).0
            ∙ ap (λ x. Some x) g.command;
      }

  pub performed : (i : ℕ) (s t : Stage) (d : Command) (new : Progress) → IsReached c s → (g : Goes i s d) → net t.sites ≡ happened (Act (suc i) d) (net s.sites) → t.scripts.items ≡ set s.scripts.items i new
      → t.asks ≡ s.asks → (it : Told) → it ≡ told_in d (turn_for d g.caller.caller (position c (moves_of s)).net)
      → new.next ≡ g.at.p.next + 1
      → new.answers.items ≡ g.at.p.answers.items ++ answered_line s.asks (1 + i) (g.at.p.next + 1) it.act it.settles
      → new.posts.items ≡ g.at.p.posts.items ++ option_to_list (post_in it.act)
      → AreAt c (Go i ∷ moves_of s) t
  performed i s t d new h g is scripts asks it it-is next answers posts =
      let p = position c (moves_of s) in
      let w = g.caller.caller in
      let a = it in
      let event : event_of (race_of c).net.layout seat_0 (Go i) p.left ≡ Some (Act (suc i) d) =
      ap (λ o. option_map (λ (x : Order). Act (suc i) x.command) (next_of o)) g.at.is_left ∙ ap (option_map (λ (x : Order). Act (suc i) x.command)) g.next ∙ ap (λ x. Some (Act (suc i) x)) g.command in
      let after : position c (Go i ∷ moves_of s) ≡ position_after (Some (Act (suc i) d)) (Go i) p = ap (λ o. position_after o (Go i) p) event in
      let left : slice_set p.left i (behind_next (slice_get p.left i)) ≡ slice_set p.left i (behind_next (Some g.at.left)) = ap (λ o. slice_set p.left i (behind_next o)) g.at.is_left in
      let told : slice_set p.told i (with_answer (own_of (Act (suc i) d) p.net) (slice_get p.told i)) ≡ slice_set p.told i (a ∷ g.at.told) =
      ap₂ (λ o k. slice_set p.told i (with_answer (own_by d p.net o) k)) g.caller.is g.at.is_told ∙ ap (λ (x : Told). slice_set p.told i (x ∷ g.at.told)) (sym it-is) in
      let more = one-more s.asks (1 + i) (orders_of g.at.script) g.at.left g.at.told g.at.p new g.order a g.at.is g.next next answers posts in
      let all = progress-set s.asks 1 i c.scripts p.left p.told s.scripts.items g.at.script (behind_next (Some g.at.left)) (a ∷ g.at.told) new h.at.scripts g.at.is_script more in
      record {
        net = is ∙ ap (happened (Act (suc i) d)) h.at.net ∙ sym (ap (λ (q : Position). q.net) after);
        scripts = subst (λ (by : Bool). AreProgress by 1 c.scripts (position c (Go i ∷ moves_of s)).left (position c (Go i ∷ moves_of s)).told t.scripts.items) (sym asks)
            (subst (λ (q : Position). AreProgress s.asks 1 c.scripts q.left q.told t.scripts.items) (sym after)
            (subst (λ ps. AreProgress s.asks 1 c.scripts (slice_set p.left i (behind_next (slice_get p.left i))) (slice_set p.told i (with_answer (own_of (Act (suc i) d) p.net) (slice_get p.told i))) ps) (sym scripts)
            (subst (λ xs. AreProgress s.asks 1 c.scripts xs (slice_set p.told i (with_answer (own_of (Act (suc i) d) p.net) (slice_get p.told i))) (set s.scripts.items i new)) (sym left)
            (subst (λ xs. AreProgress s.asks 1 c.scripts (slice_set p.left i (behind_next (Some g.at.left))) xs (set s.scripts.items i new)) (sym told) all))));
      }

  -- Which of them may come.

  -- between two places a delivery may come exactly where a packet waits
  pub carry-comes : (s : Stage) → IsReached c s → (a b : ℕ) → has_place c.layout a ≡ true → has_place c.layout b ≡ true → (a == b) ≡ false
      → may_come (race_of c).net.layout (Carry a b) (position c (moves_of s)) ≡ is_some (first_on a b (net s.sites).packets)
  carry-comes s h a b from to apart =
      let p = position c (moves_of s) in
      let l = (race_of c).net.layout in
      let linked : are_linked l a b ≡ true =
      ap₂ (λ x y. x && y) (ap₂ (λ x y. x && y) (ap (λ (m : Layout). has_place m a) (race-layout c) ∙ from) (ap (λ (m : Layout). has_place m b) (race-layout c) ∙ to)) (ap not apart) in
      ap (λ x. is_ready_by (cond x (Some (Deliver 0 a b)) None) p.net && true) linked
      ∙ and-true (is_some (slice_get p.net.callers 0) && is_some (first_on a b p.net.packets))
      ∙ ap (λ x. x && is_some (first_on a b p.net.packets)) (first-at c (moves_of s) h.history)
      ∙ sym (ap (λ (n : NetState). is_some (first_on a b n.packets)) h.at.net)

  -- and from a place to itself none does
  pub none-to-itself : (ms : List Move) (a b : ℕ) → (a == b) ≡ true → may_come (race_of c).net.layout (Carry a b) (position c ms) ≡ false
  none-to-itself ms a b same = by (has_place (race_of c).net.layout a && has_place (race_of c).net.layout b) (a == b) same
    where
      by : (x y : Bool) → y ≡ true → is_ready_by (cond (x && not y) (Some (Deliver 0 a b)) None) (position c ms).net && true ≡ false
      by true true e = refl
      by false true e = refl
      by x false e = absurd (false≢true e)

  -- where no packet waits to go from a place no delivery from there may come
  pub idle-comes : (s : Stage) → IsReached c s → (a b : ℕ) → ((to : ℕ) → has_place c.layout to ≡ true → first_on a to (net s.sites).packets ≡ None)
      → may_come (race_of c).net.layout (Carry a b) (position c (moves_of s)) ≡ false
  idle-comes s h a b idle = by (are_linked (race_of c).net.layout a b) refl
    where
      p : Position
      p = position c (moves_of s)

      by : (x : Bool) → are_linked (race_of c).net.layout a b ≡ x → is_ready_by (cond x (Some (Deliver 0 a b)) None) (position c (moves_of s)).net && true ≡ false
      by false e = refl
      by true e =
          let l = (race_of c).net.layout in
          let two = and_parts (has_place l a) (has_place l b) (and_parts (has_place l a && has_place l b) (not (a == b)) e).0 in
          let none = idle b (ap (λ (m : Layout). has_place m b) (sym (race-layout c)) ∙ two.1) in
          and-true (is_some (slice_get p.net.callers 0) && is_some (first_on a b p.net.packets))
          ∙ ap (λ x. x && is_some (first_on a b p.net.packets)) (first-at c (moves_of s) h.history)
          ∙ ap (λ (n : NetState). is_some (first_on a b n.packets)) (sym h.at.net) ∙ ap is_some none

  -- what is left of a script is behind its progress
  pub left-is : (s : Stage) → IsReached c s → (i : ℕ) (script : Script) (p : Progress) → slice_get c.scripts i ≡ Some script → slice_get s.scripts.items i ≡ Some p
      → next_of (slice_get (position c (moves_of s)).left i) ≡ slice_get (orders_of script) p.next
  left-is s h i script p e f =
      let at = progress-at s.asks 1 i c.scripts (position c (moves_of s)).left (position c (moves_of s)).told s.scripts.items h.at.scripts (within c.scripts i script e) in
      ap next_of at.is_left ∙ ap (λ os. next_of (Some os)) at.is.rest ∙ next-there at.p.next (orders_of at.script)
      ∙ ap₂ (λ (q : Script) (x : Progress). slice_get (orders_of q) x.next) (some-same at.script script (sym at.is_script ∙ e)) (some-same at.p p (sym at.is_p ∙ f))

  pub next-command : (s : Stage) → IsReached c s → (i : ℕ) (script : Script) (p : Progress) → slice_get c.scripts i ≡ Some script → slice_get s.scripts.items i ≡ Some p
      → next_command c (moves_of s) i ≡ slice_get script.commands p.next
  next-command s h i script p e f =
      ap (option_map (λ (o : Order). o.command)) (left-is s h i script p e f) ∙ order-command script.waits 0 script.commands p.next

  pub as-many : (s : Stage) → IsReached c s → length s.scripts.items ≡ length c.scripts
  as-many s h = (progress-length s.asks 1 c.scripts (position c (moves_of s)).left (position c (moves_of s)).told s.scripts.items h.at.scripts).0

  -- a script goes where a command is left of it, and may come
  pub next-may : (s : Stage) → IsReached c s → (i : ℕ) (d : Command) → IsNext c (moves_of s) i d → goes_on c (moves_of s) i ≡ true → may_go c (Go i) (moves_of s) ≡ true
  next-may s h i d e on =
      let o = order-next c (moves_of s) i d e in
      let g = goes-by s h i d e in
      let p = position c (moves_of s) in
      let now = (and_parts (is_some (next_of (slice_get p.left i))) (may_now (next_of (slice_get p.left i)) i p.net) on).1 in
      and_from (is_ready_by (event_of (race_of c).net.layout seat_0 (Go i) p.left) p.net) (is_now (Go i) p.left p.net)
      (ap (λ x. is_ready_by (option_map (λ (y : Order). Act (suc i) y.command) x) p.net) o.1.0 ∙ ap (λ x. is_some x && true) g.caller.is) now

  -- a script that may go has a command left
  pub go-left : (i : ℕ) (ms : List Move) → may_go c (Go i) ms ≡ true → next_of (slice_get (position c ms).left i) ≡ None → ⊥
  go-left i ms may none =
      let p = position c ms in
      let ready = (and_parts (is_ready_by (event_of (race_of c).net.layout seat_0 (Go i) p.left) p.net) (is_now (Go i) p.left p.net) may).0 in
      false≢true (sym (ap (λ o. is_ready_by (option_map (λ (x : Order). Act (suc i) x.command) o) p.net) none) ∙ ready)

  pub none-may : (ms : List Move) (i : ℕ) → next_command c ms i ≡ None → may_go c (Go i) ms ≡ false
  none-may ms i none =
      let p = position c ms in
      ap (λ o. is_ready_by (option_map (λ (x : Order). Act (suc i) x.command) o) p.net && may_now o i p.net) (no-order c ms i none)

  -- nor does it go where what is left may not come
  pub waits-on : (ms : List Move) (i : ℕ) → goes_on c ms i ≡ false → may_go c (Go i) ms ≡ false
  waits-on ms i off = by (next_of (slice_get (position c ms).left i)) off
    where
      by : (o : Option Order) → (is_some o && may_now o i (position c ms).net) ≡ false → (is_ready_by (option_map (λ (x : Order). Act (suc i) x.command) o) (position c ms).net && may_now o i (position c ms).net) ≡ false
      by None e = refl
      by (Some o) e = ap (λ b. is_ready_by (Some (Act (suc i) o.command)) (position c ms).net && b) e ∙ and-false (is_ready_by (Some (Act (suc i) o.command)) (position c ms).net)

  pub go-below : (s : Stage) → IsReached c s → (i : ℕ) → may_go c (Go i) (moves_of s) ≡ true → i < length c.scripts
  go-below s h i may = by (next_of (slice_get (position c (moves_of s)).left i)) refl
    where
      by : (o : Option Order) → next_of (slice_get (position c (moves_of s)).left i) ≡ o → i < length c.scripts
      by None e = absurd (go-left i (moves_of s) may e)
      by (Some o) e = below-next s h i o e

  -- what nobody sees may change
  pub same-reached : (s t : Stage) → IsReached c s → net t.sites ≡ net s.sites → t.scripts ≡ s.scripts → t.moves ≡ s.moves → t.asks ≡ s.asks → IsReached c t
  same-reached s t h same scripts moves asks =
      let path : moves_of s ≡ moves_of t = ap (λ v. reverse v.items) (sym moves) in
      record {
        at = record {
          net = same ∙ h.at.net ∙ ap (λ ms. (position c ms).net) path;
          scripts = subst (λ (by : Bool). AreProgress by 1 c.scripts (position c (moves_of t)).left (position c (moves_of t)).told t.scripts.items) (sym asks)
              (subst (λ v. AreProgress s.asks 1 c.scripts (position c (moves_of t)).left (position c (moves_of t)).told v.items) (sym scripts)
              (subst (λ ms. AreProgress s.asks 1 c.scripts (position c ms).left (position c ms).told s.scripts.items) path h.at.scripts));
        };
        history = subst (IsHistory (replaying (race_of c))) path h.history;
      }

  -- Of several moves those that may come.

  module _ (ms : List Move) where
    pub coming-append : (xs ys : List Move) → coming c ms (xs ++ ys) ≡ coming c ms xs ++ coming c ms ys
    coming-append xs ys = filter-append (λ (m : Move). may_go c m ms) xs ys

    pub one-comes : (m : Move) → may_go c m ms ≡ true → coming c ms (m ∷ []) ≡ m ∷ []
    one-comes m h = ap (λ b. cond b (m ∷ []) []) h

    pub none-comes : (m : Move) → may_go c m ms ≡ false → coming c ms (m ∷ []) ≡ []
    none-comes m h = ap (λ b. cond b (m ∷ []) []) h

    -- from an idle place none come
    pub idle-links : (a : ℕ) (bs : List ℕ) → ((b : ℕ) → may_go c (Carry a b) ms ≡ false) → coming c ms (links_to a bs) ≡ []
    idle-links a [] none = refl
    idle-links a (b ∷ bs) none =
        coming-append (Carry a b ∷ []) (links_to a bs) ∙ ap₂ (λ xs ys. xs ++ ys) (none-comes (Carry a b) (none b)) (idle-links a bs none)

  links-to-append : (a : ℕ) (xs ys : List ℕ) → links_to a (xs ++ ys) ≡ links_to a xs ++ links_to a ys
  links-to-append a [] ys = refl
  links-to-append a (x ∷ xs) ys = ap (λ ms. Carry a x ∷ ms) (links-to-append a xs ys)

  links-append : (xs ys bs : List ℕ) → links_between (xs ++ ys) bs ≡ links_between xs bs ++ links_between ys bs
  links-append [] ys bs = refl
  links-append (x ∷ xs) ys bs = ap (λ ms. links_to x bs ++ ms) (links-append xs ys bs) ∙ sym (append_assoc (links_to x bs) (links_between xs bs) (links_between ys bs))

  pub scripts-next : (n : ℕ) → map Go (numbers (n + 1) 0) ≡ map Go (numbers n 0) ++ Go n ∷ []
  scripts-next n =
      let e : n + 1 ≡ suc n = omega arith in
      let z : 0 + n ≡ n = omega arith in
      ap (λ (m : ℕ). map Go (numbers m 0)) e ∙ ap (map Go) (sym (numbers-more n 0)) ∙ map-append Go (numbers n 0) ((0 + n) ∷ []) ∙ ap (λ (m : ℕ). map Go (numbers n 0) ++ Go m ∷ []) z

  pub link-next : (a n : ℕ) → links_to a (numbers (n + 1) 1) ≡ links_to a (numbers n 1) ++ Carry a (n + 1) ∷ []
  link-next a n =
      let e : n + 1 ≡ suc n = omega arith in
      let z : 1 + n ≡ n + 1 = omega arith in
      ap (λ (m : ℕ). links_to a (numbers m 1)) e ∙ ap (links_to a) (sym (numbers-more n 1)) ∙ links-to-append a (numbers n 1) ((1 + n) ∷ []) ∙ ap (λ (m : ℕ). links_to a (numbers n 1) ++ Carry a m ∷ []) z

  pub links-next : (n : ℕ) (bs : List ℕ) → links_between (numbers (n + 1) 1) bs ≡ links_between (numbers n 1) bs ++ links_to (n + 1) bs
  links-next n bs =
      let e : n + 1 ≡ suc n = omega arith in
      let z : 1 + n ≡ n + 1 = omega arith in
      ap (λ (m : ℕ). links_between (numbers m 1) bs) e ∙ ap (λ xs. links_between xs bs) (sym (numbers-more n 1)) ∙ links-append (numbers n 1) ((1 + n) ∷ []) bs
      ∙ ap (λ xs. links_between (numbers n 1) bs ++ xs) (append-nil (links_to (1 + n) bs)) ∙ ap (λ (m : ℕ). links_between (numbers n 1) bs ++ links_to m bs) z

-- Moves that were added.

module _ (c : Scene) (ms : List Move) where
  more-come : (xs ys new front all m : List Move) → new ≡ ys ++ coming c ms m → ys ≡ xs ++ coming c ms front → all ≡ front ++ m → new ≡ xs ++ coming c ms all
  more-come xs ys new front all m e f same =
      e ∙ ap (λ zs. zs ++ coming c ms m) f ∙ append_assoc xs (coming c ms front) (coming c ms m)
      ∙ ap (λ zs. xs ++ zs) (sym (coming-append c ms front m) ∙ ap (coming c ms) (sym same))

  pub script-more : (n : ℕ) (xs ys new : List Move) → new ≡ ys ++ coming c ms (Go n ∷ []) → ys ≡ xs ++ coming c ms (map Go (numbers n 0)) → new ≡ xs ++ coming c ms (map Go (numbers (n + 1) 0))
  script-more n xs ys new e f = more-come xs ys new (map Go (numbers n 0)) (map Go (numbers (n + 1) 0)) (Go n ∷ []) e f (scripts-next c n)

  pub link-more : (a n : ℕ) (xs ys new : List Move) → new ≡ ys ++ coming c ms (Carry a (n + 1) ∷ []) → ys ≡ xs ++ coming c ms (links_to a (numbers n 1))
      → new ≡ xs ++ coming c ms (links_to a (numbers (n + 1) 1))
  link-more a n xs ys new e f = more-come xs ys new (links_to a (numbers n 1)) (links_to a (numbers (n + 1) 1)) (Carry a (n + 1) ∷ []) e f (link-next c a n)

  pub links-more : (n : ℕ) (bs : List ℕ) (xs ys new : List Move) → new ≡ ys ++ coming c ms (links_to (n + 1) bs) → ys ≡ xs ++ coming c ms (links_between (numbers n 1) bs)
      → new ≡ xs ++ coming c ms (links_between (numbers (n + 1) 1) bs)
  links-more n bs xs ys new e f = more-come xs ys new (links_between (numbers n 1) bs) (links_between (numbers (n + 1) 1) bs) (links_to (n + 1) bs) e f (links-next c n bs)

-- all that may come
pub all-come : (c : Scene) (s : Stage) → IsReached c s → (xs new : List Move)
    → xs ≡ coming c (moves_of s) (map Go (numbers (length c.scripts) 0))
    → new ≡ xs ++ coming c (moves_of s) (links_between (place_numbers c.layout) (place_numbers c.layout))
    → new ≡ next_behind (race_of c) (moves_of s)
all-come c s h xs new e f =
    let p = position c (moves_of s) in
    let ms = moves_of s in
    let long = (progress-length s.asks 1 c.scripts p.left p.told s.scripts.items h.at.scripts).1 in
    f ∙ ap (λ zs. zs ++ coming c ms (links_between (place_numbers c.layout) (place_numbers c.layout))) e
    ∙ sym (coming-append c ms (map Go (numbers (length c.scripts) 0)) (links_between (place_numbers c.layout) (place_numbers c.layout)))
    ∙ ap₂ (λ (n : ℕ) (l : Layout). coming c ms (map Go (numbers n 0) ++ links_between (place_numbers l) (place_numbers l))) (sym long) (sym (race-layout c))
