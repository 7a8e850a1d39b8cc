-- A port on its way left by an entry whose hop is its last.
use Rattle.std.proofs.Common.{ℕ, ◌≡◌, ◌+◌, ◌-◌, ◌==◌, Bool, true, false, ◌&&◌, not, if◌then◌else◌, List, [], ◌∷◌, ◌++◌, length, Option, Some, None, refl, sym, ◌∙◌, ap, subst, arith, length-append}
use Rattle.std.proofs.lemmas.Bool.{and_parts, and_from, eqb-true, eq-eqb, false≢true}
use Rattle.chorus_ui.specs.declared.ui.Ui.{Ui}
use Rattle.chorus_ui.specs.declared.layout.Layout.{Layout}
use Rattle.chorus_ui.specs.Layout.{has_actor, place_at, site_of}
use Rattle.chorus_entry.specs.declared.entry.Entry.{Entry}
use Rattle.chorus_entry.specs.declared.act.Act.{Act}
use Rattle.chorus_entry.specs.declared.act.Act.TheVariants.{Make, Accept, Full, Already, ClientsFull, Take, Empty, Rehome, Depart, Arrive, Delete}
use Rattle.chorus_entry.specs.Act.{held_port_of}
use Rattle.chorus_world.specs.declared.spot.Spot.{Spot}
use Rattle.chorus_world.specs.declared.spot.Spot.TheVariants.{Held, Moving, Ended}
use Rattle.chorus_world.specs.Views.{views, on, is_on}
use Rattle.chorus_world.specs.Ports.{PortState, fate, fate_after, arrived, is_moving, is_held_at, is_next_hop, is_coming, last_of}
use Rattle.chorus_world.specs.Steps.{act_may, is_legal}
use Rattle.chorus_world.proofs.Steps.LegalLemmas.{legal_parts, keeps, skips, on_is}
use Rattle.chorus_world.proofs.Ports.LineLemmas.{none_some}
use Rattle.chorus_world.proofs.Messages.SendingLemmas.{some_is}
use Rattle.law_judge.specs.declared.open.Open.TheVariants.{Port}
use Rattle.law_judge.specs.Open.{open_by}
use Rattle.law_judge.proofs.Lists.{NoneOpen}

-- the hop by which the port left, of which nothing is open after all
pub record Left (all : List Entry) (q : Ui) (f : PortState) : Type 0 where
  pub to : ℕ
  pub hop : ℕ
  pub comes : is_coming to hop (Some f) ≡ true
  pub none : (if is_coming to hop (fate (on q all)) then Port q ∷ [] else []) ≡ []

last-push : (p to : ℕ) (ps : List ℕ) → last_of p (ps ++ to ∷ []) ≡ to
last-push p to [] = refl
last-push p to (q ∷ ps) = last-push q to ps

never-moves : (s : Spot) → is_moving (arrived s) ≡ false
never-moves (Held a) = refl
never-moves (Moving a) = refl
never-moves Ended = refl

departs : (to hop : ℕ) (a : Ui) (g : PortState) → is_next_hop hop (Some g) ≡ true → is_coming to hop (Some (record g { path = g.path ++ to ∷ []; spot = Moving a })) ≡ true
departs to hop a g h =
    let next : hop ≡ length g.path = eqb-true hop (length g.path) h in
    let long : length (g.path ++ to ∷ []) ≡ length g.path + 1 = length-append g.path (to ∷ []) in
    and_from (last_of 0 (g.path ++ to ∷ []) == to) (hop == length (g.path ++ to ∷ []) - 1)
    (eq-eqb (last_of 0 (g.path ++ to ∷ [])) to (last-push 0 to g.path))
    (eq-eqb hop (length (g.path ++ to ∷ []) - 1) (omega (arith, next, long)))

module _ (l : Layout) (all past : List Entry) (c p s : ℕ) (q : Ui) (older : (f : PortState) → fate (on q past) ≡ Some f → is_moving f.spot ≡ true → Left all q f) where
  abbrev After : Act → PortState → Type 0
  After a f =
      act_may l (views past p s a) p s a ≡ true → (g : PortState) → fate (on q past) ≡ Some g → fate_after p a (Some g) ≡ Some f → is_moving f.spot ≡ true →
      open_by l all c p a ≡ [] → Left all q f

  same : (a : Act) (f : PortState) → ((g : PortState) → fate_after p a (Some g) ≡ Some g) → After a f
  same a f stays h g was now moves none = older f (was ∙ sym (stays g) ∙ now) moves

  -- it took or gave out a message on its way
  kept : (g f : PortState) → fate (on q past) ≡ Some g → f.spot ≡ g.spot → f.path ≡ g.path → is_moving f.spot ≡ true → Left all q f
  kept g f was spot path moves =
      let left = older g was (ap is_moving (sym spot) ∙ moves) in
      record {
        to = left.to;
        hop = left.hop;
        comes =
            (λ i. is_moving (spot i) && (last_of 0 (path i) == left.to) && (left.hop == length (path i) - 1)) ∙ left.comes;
        none = left.none;
      }

  step-depart : (to : ℕ) (a : Ui) (hop : ℕ) (f : PortState) → After (Depart q to a hop) f
  step-depart to a hop f h g was now moves none =
      let o = fate (on q past) in
      let next = (and_parts (is_held_at p o && has_actor l a && not (a.site == site_of l p) && (to == place_at l a.site q)) (is_next_hop hop o) h).1 in
      record {
        to = to;
        hop = hop;
        comes = ap (is_coming to hop) (sym now) ∙ departs to hop a g (ap (is_next_hop hop) (sym was) ∙ next);
        none = none;
      }

  step : (a : Act) (f : PortState) → held_port_of a ≡ Some q → After a f
  step (Make r b n) f e = λ h g was now moves none.
      absurd (false≢true (ap (λ (z : PortState). is_moving z.spot) (some_is _ f now) ∙ moves))
  step (Rehome r b) f e = λ h g was now moves none.
      absurd (false≢true (ap (λ (z : PortState). is_moving z.spot) (some_is _ f now) ∙ moves))
  step (Delete r xs) f e = λ h g was now moves none.
      absurd (false≢true (ap (λ (z : PortState). is_moving z.spot) (some_is _ f now) ∙ moves))
  step (Arrive r hop) f e = λ h g was now moves none.
      absurd (false≢true (sym (never-moves g.spot) ∙ ap (λ (z : PortState). is_moving z.spot) (some_is _ f now) ∙ moves))
  step (Depart r to b hop) f e =
      subst (λ z. After (Depart z to b hop) f) (sym (some_is r q e)) (step-depart to b hop f)
  step (Accept x r n) f e = λ h g was now moves none.
      let is = sym (some_is _ f now) in
      kept g f was (ap (λ (z : PortState). z.spot) is) (ap (λ (z : PortState). z.path) is) moves
  step (Take r n x) f e = λ h g was now moves none.
      let is = sym (some_is _ f now) in
      kept g f was (ap (λ (z : PortState). z.spot) is) (ap (λ (z : PortState). z.path) is) moves
  step (Full x r n) f e = same (Full x r n) f (λ g. refl)
  step (Already x r) f e = same (Already x r) f (λ g. refl)
  step (ClientsFull x r) f e = same (ClientsFull x r) f (λ g. refl)
  step (Empty r) f e = same (Empty r) f (λ g. refl)
  step _ f e = none_some q e

  -- a port that is not made is made by Make alone, and is held then
  made : (a : Act) (f : PortState) → fate_after p a None ≡ Some f → is_moving f.spot ≡ true → Left all q f
  made (Make r b n) f now moves =
      absurd (false≢true (ap (λ (z : PortState). is_moving z.spot) (some_is _ f now) ∙ moves))
  made _ f now moves = none_some f now

pub has-left : (l : Layout) (all past : List Entry) (q : Ui) (f : PortState) → is_legal l past ≡ true → NoneOpen l all past → fate (on q past) ≡ Some f → is_moving f.spot ≡ true → Left all q f
has-left l all [] q f h none is moves = none_some f is
has-left l all (e ∷ past) q f h none is moves =
    go (λ g was m. has-left l all past q g (legal_parts l e past h).1 none.1 was m) (is_on (Some q) e) refl
  where
    on-it : ((g : PortState) → fate (on q past) ≡ Some g → is_moving g.spot ≡ true → Left all q g) → (o : Option PortState) → fate (on q past) ≡ o → fate_after e.place e.act (fate (on q past)) ≡ Some f → held_port_of e.act ≡ Some q → Left all q f
    on-it older None was now k =
        made l all past e.clock e.place e.seat q older e.act f (ap (fate_after e.place e.act) (sym was) ∙ now) moves
    on-it older (Some g) was now k =
        step l all past e.clock e.place e.seat q older e.act f k (legal_parts l e past h).0 g was (ap (fate_after e.place e.act) (sym was) ∙ now) moves none.0

    go : ((g : PortState) → fate (on q past) ≡ Some g → is_moving g.spot ≡ true → Left all q g) → (b : Bool) → is_on (Some q) e ≡ b → Left all q f
    go older false off = older f (sym (ap fate (skips (is_on (Some q)) e past off)) ∙ is) moves
    go older true on' =
        on-it older (fate (on q past)) refl (sym (ap fate (keeps (is_on (Some q)) e past on')) ∙ is) (on_is q (held_port_of e.act) on')
