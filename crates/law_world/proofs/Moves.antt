-- The newest act that makes, sends off, brings or deletes a port tells whether it is on its way, and where to.
use Rattle.std.proofs.Common.{ℕ, ◌≡◌, ◌-◌, ◌==◌, Bool, true, false, ◌&&◌, ◌||◌, cond, if◌then◌else◌, List, [], ◌∷◌, ◌++◌, length, Option, Some, None, refl, sym, ◌∙◌, ap, subst, arith}
use Rattle.std.proofs.lemmas.Bool.{and_parts, and_from, eqb-true, eq-eqb, false≢true, true≢false}
use Rattle.std.proofs.lemmas.List.{length_push}
use Rattle.chorus_ui.specs.declared.ui.Ui.{Ui}
use Rattle.chorus_ui.specs.declared.layout.Layout.{Layout}
use Rattle.chorus_ui.specs.Name.{same_ui}
use Rattle.chorus_ui.proofs.Names.{from_same_ui, same_ui-self}
use Rattle.chorus_entry.specs.declared.entry.Entry.{Entry}
use Rattle.chorus_entry.specs.declared.act.Act.{Act}
use Rattle.chorus_entry.specs.declared.act.Act.TheVariants.{Make, Accept, Full, Already, ClientsFull, Take, Empty, Rehome, Depart, Arrive, Delete}
use Rattle.chorus_entry.specs.Act.{held_port_of}
use Rattle.chorus_entry.specs.Same.{are_same}
use Rattle.chorus_world.specs.declared.spot.Spot.{Spot}
use Rattle.chorus_world.specs.declared.spot.Spot.TheVariants.{Held, Moving, Ended}
use Rattle.chorus_world.specs.Views.{views, on, is_on}
use Rattle.chorus_world.specs.Ports.{PortState, fate, fate_after, changed, is_made, is_held, is_moving, last_of, is_held_at, is_coming, is_next_hop, arrived}
use Rattle.chorus_world.specs.Places.{is_made_here, makes}
use Rattle.chorus_world.specs.Steps.{act_may, is_legal}
use Rattle.chorus_world.proofs.Steps.LegalLemmas.{legal_parts, on_is}
use Rattle.chorus_world.proofs.Ports.LineLemmas.{none_some, Needs, needs}
use Rattle.chorus_world.proofs.Ports.PortSteps.{same_or_not}
use Rattle.chorus_world.proofs.Ports.PortMoves.{held_fate, coming_fate}
use Rattle.chorus_world.proofs.Messages.SendingLemmas.{some_is}
use Rattle.law_world.specs.Decisions.{moves, last_move, IsOnItsWayTo}

-- Ports that were made.

made-after : (p : ℕ) (a : Act) (o : Option PortState) (q : Ui) → are_same same_ui (Some q) (held_port_of a) ≡ true → is_made (fate_after p a o) ≡ (makes q a || is_made o)
made-after p (Make r b c) o q h = sym (ap (λ z. z || is_made o) (subst (λ z. same_ui z q ≡ true) (from_same_ui q r h) (same_ui-self q)))
made-after p a None q h = refl
made-after p a (Some f) q h = refl

not-made : (a : Act) (q : Ui) (b : Bool) → are_same same_ui (Some q) (held_port_of a) ≡ false → b ≡ (makes q a || b)
not-made (Make r c n) q b h = same_or_not q r (b ≡ (same_ui r q || b)) (λ e t back. absurd (true≢false (sym t ∙ h))) (λ off back. sym (ap (λ z. z || b) back))
not-made a q b h = refl

-- a port has a fate exactly where it was made
pub made-is : (past : List Entry) (q : Ui) → is_made (fate (on q past)) ≡ is_made_here q past
made-is [] q = refl
made-is (e ∷ past) q = go (is_on (Some q) e) refl (made-is past q)
  where
    go : (b : Bool) → is_on (Some q) e ≡ b → is_made (fate (on q past)) ≡ is_made_here q past → is_made (fate (cond b (e ∷ on q past) (on q past))) ≡ (makes q e.act || is_made_here q past)
    go true t ih = made-after e.place e.act (fate (on q past)) q t ∙ ap (λ z. makes q e.act || z) ih
    go false t ih = ih ∙ not-made e.act q (is_made_here q past) t

-- The newest move.

abbrev departs : Option Act → Bool
departs (Some (Depart q to a hop)) = true
departs _ = false

abbrev MovedTo : Ui → Spot → List ℕ → Option Act → Type 0
MovedTo q (Moving a) path m = m ≡ Some (Depart q (last_of 0 path) a (length path - 1))
MovedTo q _ path m = departs m ≡ false

abbrev IsMoved : Ui → Option PortState → Option Act → Type 0
IsMoved q None m = m ≡ None
IsMoved q (Some f) m = MovedTo q f.spot f.path m

moved-held : (q : Ui) (s : Spot) (path : List ℕ) (m : Option Act) → is_held s ≡ true → departs m ≡ false → MovedTo q s path m
moved-held q (Held a) path m h d = d
moved-held q (Moving a) path m h d = absurd (false≢true h)
moved-held q Ended path m h d = absurd (false≢true h)

held-moved : (q : Ui) (s : Spot) (path : List ℕ) (m : Option Act) → is_held s ≡ true → MovedTo q s path m → departs m ≡ false
held-moved q (Held a) path m h d = d
held-moved q (Moving a) path m h d = absurd (false≢true h)
held-moved q Ended path m h d = absurd (false≢true h)

arrived-held : (s : Spot) → is_moving s ≡ true → is_held (arrived s) ≡ true
arrived-held (Held a) h = absurd (false≢true h)
arrived-held (Moving a) h = refl
arrived-held Ended h = absurd (false≢true h)

last-push : (a : ℕ) (ps : List ℕ) (p : ℕ) → last_of a (ps ++ p ∷ []) ≡ p
last-push a [] p = refl
last-push a (r ∷ ps) p = last-push r ps p

-- a move of the port itself
own-move : (q r : Ui) (a : Act) (m : Option Act) → q ≡ r → (if same_ui r q then Some a else m) ≡ Some a
own-move q r a m e = ap (λ b. cond b (Some a) m) (subst (λ z. same_ui z q ≡ true) e (same_ui-self q))

module _ (l : Layout) (past : List Entry) (p s : ℕ) (q : Ui) (m : Option Act) where
  abbrev o : Option PortState
  o = fate (on q past)

  abbrev Now : Act → Type 0
  Now a = IsMoved q (fate_after p a o) (if moves q a then Some a else m)

  -- an act where the port is held, which does not move it
  keeps-held : (a : Act) → is_held_at p o ≡ true → IsMoved q o m → ((f : PortState) → fate_after p a (Some f) ≡ Some (changed a f)) → ((f : PortState) → is_held f.spot ≡ true → is_held (changed a f).spot ≡ true) → IsMoved q (fate_after p a o) m
  keeps-held a held i after stays =
      let f = held_fate p o held in
      let spot : is_held (f.0).spot ≡ true = ap is_held f.3 in
      let none : departs m ≡ false = held-moved q (f.0).spot (f.0).path m spot (subst (λ z. IsMoved q z m) f.2 i) in
      subst (λ z. IsMoved q (fate_after p a z) m) (sym f.2)
      (subst (λ z. IsMoved q z m) (sym (after f.0)) (moved-held q (changed a f.0).spot (changed a f.0).path m (stays f.0 spot) none))

  move-step : (a : Act) → held_port_of a ≡ Some q → Needs p a o → act_may l (views past p s a) p s a ≡ true → IsMoved q o m → Now a
  move-step (Make r b c) e n may i = ap departs (own-move q r (Make r b c) m (sym (some_is r q e)))
  move-step (Depart r to b hop) e n may i =
      let f = held_fate p o n in
      let same : q ≡ r = sym (some_is r q e) in
      let far : hop ≡ length (f.0).path = eqb-true hop (length (f.0).path) (subst (λ z. is_next_hop hop z ≡ true) f.2 (subst (λ z. is_next_hop hop (fate (on z past)) ≡ true) (sym same) (and_parts _ (is_next_hop hop (fate (on r past))) may).1)) in
      let long = length_push (f.0).path to in
      let last : hop ≡ length ((f.0).path ++ to ∷ []) - 1 = omega (arith, far, long) in
      subst (λ z. IsMoved q (fate_after p (Depart r to b hop) z) (if same_ui r q then Some (Depart r to b hop) else m)) (sym f.2)
      (own-move q r (Depart r to b hop) m same ∙ (λ i. Some (Depart (sym same i) (sym (last-push 0 (f.0).path to) i) b (last i))))
  move-step (Arrive r hop) e n may i =
      let f = coming_fate p hop o n in
      subst (λ z. IsMoved q (fate_after p (Arrive r hop) z) (if same_ui r q then Some (Arrive r hop) else m)) (sym f.2)
      (moved-held q (arrived (f.0).spot) (f.0).path (if same_ui r q then Some (Arrive r hop) else m) (arrived-held (f.0).spot (ap is_moving f.3)) (ap departs (own-move q r (Arrive r hop) m (sym (some_is r q e)))))
  move-step (Delete r xs) e n may i =
      let f = held_fate p o n in
      subst (λ z. IsMoved q (fate_after p (Delete r xs) z) (if same_ui r q then Some (Delete r xs) else m)) (sym f.2)
      (ap departs (own-move q r (Delete r xs) m (sym (some_is r q e))))
  move-step (Accept x r k) e n may i = keeps-held (Accept x r k) n i (λ f. refl) (λ f h. h)
  move-step (Full x r k) e n may i = keeps-held (Full x r k) n i (λ f. refl) (λ f h. h)
  move-step (Already x r) e n may i = keeps-held (Already x r) n i (λ f. refl) (λ f h. h)
  move-step (ClientsFull x r) e n may i = keeps-held (ClientsFull x r) n i (λ f. refl) (λ f h. h)
  move-step (Take r k x) e n may i = keeps-held (Take r k x) n i (λ f. refl) (λ f h. h)
  move-step (Empty r) e n may i = keeps-held (Empty r) n i (λ f. refl) (λ f h. h)
  move-step (Rehome r b) e n may i = keeps-held (Rehome r b) n i (λ f. refl) (λ f h. refl)
  move-step _ e n may i = none_some q e

-- an act on another line moves another port
other-move : (q : Ui) (a : Act) (m : Option Act) → are_same same_ui (Some q) (held_port_of a) ≡ false → (if moves q a then Some a else m) ≡ m
other-move q (Make r b c) m h = off q r (Make r b c) m h
  where
    off : (q r : Ui) (a : Act) (m : Option Act) → same_ui q r ≡ false → (if same_ui r q then Some a else m) ≡ m
    off q r a m h = same_or_not q r ((if same_ui r q then Some a else m) ≡ m) (λ e t back. absurd (true≢false (sym t ∙ h))) (λ o back. ap (λ b. cond b (Some a) m) back)
other-move q (Depart r to b hop) m h = same_or_not q r ((if same_ui r q then Some (Depart r to b hop) else m) ≡ m) (λ e t back. absurd (true≢false (sym t ∙ h))) (λ o back. ap (λ t. cond t (Some (Depart r to b hop)) m) back)
other-move q (Arrive r hop) m h = same_or_not q r ((if same_ui r q then Some (Arrive r hop) else m) ≡ m) (λ e t back. absurd (true≢false (sym t ∙ h))) (λ o back. ap (λ b. cond b (Some (Arrive r hop)) m) back)
other-move q (Delete r xs) m h = same_or_not q r ((if same_ui r q then Some (Delete r xs) else m) ≡ m) (λ e t back. absurd (true≢false (sym t ∙ h))) (λ o back. ap (λ b. cond b (Some (Delete r xs)) m) back)
other-move q a m h = refl

is-moved : (l : Layout) (past : List Entry) (q : Ui) → is_legal l past ≡ true → IsMoved q (fate (on q past)) (last_move q past)
is-moved l [] q h = refl
is-moved l (e ∷ past) q h = go (is_on (Some q) e) refl (is-moved l past q (legal_parts l e past h).1)
  where
    go : (b : Bool) → is_on (Some q) e ≡ b → IsMoved q (fate (on q past)) (last_move q past) → IsMoved q (fate (cond b (e ∷ on q past) (on q past))) (if moves q e.act then Some e.act else last_move q past)
    go true t i =
        let line = on_is q (held_port_of e.act) t in
        let may = (legal_parts l e past h).0 in
        move-step l past e.place e.seat q (last_move q past) e.act line (needs l past e.clock e.place e.seat e.act q line may) may i
    go false t i = subst (IsMoved q (fate (on q past))) (sym (other-move q e.act (last_move q past) t)) i

-- the port is on its way to p by this hop exactly where it was sent off to there last
pub coming-moved : (l : Layout) (past : List Entry) (q : Ui) (p hop : ℕ) → is_legal l past ≡ true → is_coming p hop (fate (on q past)) ≡ true → IsOnItsWayTo p hop q past
coming-moved l past q p hop h c =
    let f = coming_fate p hop (fate (on q past)) c in
    let i : MovedTo q (f.0).spot (f.0).path (last_move q past) = subst (λ z. IsMoved q z (last_move q past)) f.2 (is-moved l past q h) in
    let m : last_move q past ≡ Some (Depart q (last_of 0 (f.0).path) f.1 (length (f.0).path - 1)) = subst (λ z. MovedTo q z (f.0).path (last_move q past)) f.3 i in
    (f.1, m ∙ (λ i. Some (Depart q (f.4 i) f.1 (sym f.5 i))))

pub moved-coming : (l : Layout) (past : List Entry) (q : Ui) (p hop : ℕ) → is_legal l past ≡ true → IsOnItsWayTo p hop q past → is_coming p hop (fate (on q past)) ≡ true
moved-coming l past q p hop h w = by (fate (on q past)) (is-moved l past q h)
  where
    spots : (s : Spot) (path : List ℕ) → MovedTo q s path (last_move q past) → is_moving s && (last_of 0 path == p) && (hop == length path - 1) ≡ true
    spots (Held a) path i = absurd (true≢false (ap departs (sym w.1) ∙ i))
    spots Ended path i = absurd (true≢false (ap departs (sym w.1) ∙ i))
    spots (Moving a) path i =
        let both : Depart q (last_of 0 path) a (length path - 1) ≡ Depart q p w.0 hop = some_is _ _ (sym i ∙ w.1) in
        let to : last_of 0 path ≡ p = cc in
        let far : length path - 1 ≡ hop = cc in
        and_from (last_of 0 path == p) (hop == length path - 1) (eq-eqb (last_of 0 path) p to) (eq-eqb hop (length path - 1) (sym far))

    by : (o : Option PortState) → IsMoved q o (last_move q past) → is_coming p hop o ≡ true
    by None i = none_some (Depart q p w.0 hop) (sym i ∙ w.1)
    by (Some f) i = spots f.spot f.path i
