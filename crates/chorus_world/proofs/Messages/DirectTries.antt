-- A fact of legal lists: a direct post is tried at most once more than its port departed.
use Rattle.std.proofs.Common.{◌≡◌, ◌≤◌, Bool, true, false, List, [], ◌∷◌, length, Some, refl, sym, ◌∙◌, ap, subst, inl, inr, ◌⊎◌, arith}
use Rattle.std.proofs.lemmas.Bool.{or_left, or_right}
use Rattle.chorus_ui.specs.declared.ui.Ui.{Ui}
use Rattle.chorus_ui.specs.Name.{same_ui}
use Rattle.chorus_ui.proofs.Names.{same_ui-self}
use Rattle.chorus_ui.specs.declared.layout.Layout.{Layout}
use Rattle.chorus_ui.specs.Layout.{IsLayout}
use Rattle.chorus_entry.specs.declared.entry.Entry.{Entry}
use Rattle.chorus_entry.specs.declared.id.MsgId.{MsgId}
use Rattle.chorus_entry.specs.declared.dest.Dest.TheVariants as dests
use Rattle.chorus_entry.specs.declared.act.Act.{Act}
use Rattle.chorus_entry.specs.declared.act.Act.TheVariants.{Try}
use Rattle.chorus_entry.proofs.Same.{from_same_id}
use Rattle.chorus_world.specs.Views.{views, on, about, is_about}
use Rattle.chorus_world.specs.Posts.{Posted, post_of}
use Rattle.chorus_world.specs.Steps.{act_may, is_legal}
use Rattle.chorus_world.specs.Ports.{fate}
use Rattle.chorus_world.specs.LocationLaws.{path_of, tries, tries_after, is_try_for, is_tried_for}
use Rattle.chorus_world.proofs.Steps.LegalLemmas.{legal_parts, keeps, skips}
use Rattle.chorus_world.proofs.Messages.SendingLemmas.{first_here, some_is}
use Rattle.chorus_world.proofs.Messages.DueLemmas.{first_try}
use Rattle.chorus_world.proofs.Messages.Posted.{IsPosted, first_posted}
use Rattle.chorus_world.proofs.Messages.PostLemmas.{post_stays}
use Rattle.chorus_world.proofs.Seats.CallLemmas.{direct_port}
use Rattle.chorus_world.proofs.Sorted.Observers.{legal_laws}
use Rattle.chorus_world.proofs.Messages.Tries.{tries_within}

-- it was not tried, or it was posted, and tried for the port that it was posted to, where that is one
abbrev TriedDirectly : List Entry → MsgId → Type 0
TriedDirectly past x =
    (tries (about x past) ≡ 0)
    ⊎ ((d : Posted) × (post_of x past ≡ Some d) × ((q : Ui) → d.dest ≡ dests.Port q → is_tried_for q (about x past) ≡ true))

module _ (l : Layout) (past : List Entry) (shape : IsLayout l) (legal : is_legal l past ≡ true) (x : MsgId) where
  -- an entry about it
  on-it : (e : Entry) (a : Act) → e.act ≡ a → is_about (Some x) e ≡ true → act_may l (views past e.place e.seat a) e.place e.seat a ≡ true → TriedDirectly past x → TriedDirectly (e ∷ past) x
  on-it e (Try y r to hop) is t may old =
      let same : x ≡ y = from_same_id x y (subst (λ a. is_about (Some x) (record e { act = a }) ≡ true) is t) in
      let first = first_here y r e.place past (first_try l past e.place e.seat y r to hop may) in
      let posted : IsPosted past y = first_posted past e.place y r (legal_laws l past shape legal).posted (first_try l past e.place e.seat y r to hop may) in
      let d = posted.0 in
      let known : post_of x past ≡ Some d = subst (λ z. post_of z past ≡ Some d) (sym same) posted.1 in
      inr (
        d,
        post_stays x past e d known,
        λ q to_q.
            let port : r ≡ q = sym first.port ∙ direct_port l past e.place y first.message d q legal first.is posted.1 to_q in
            let now : is_try_for q e.act ≡ true = ap (is_try_for q) is ∙ ap (λ z. same_ui z q) port ∙ same_ui-self q in
            ap (is_tried_for q) (keeps (is_about (Some x)) e past t) ∙ or_left (is_try_for q e.act) (is_tried_for q (about x past)) now,
      )
  on-it e a is t may (inl none) = inl (ap tries (keeps (is_about (Some x)) e past t) ∙ ap (λ z. tries_after z (tries (about x past))) is ∙ none)
  on-it e a is t may (inr d) =
      inr (
        d.0,
        post_stays x past e d.0 d.1,
        λ q to_q. ap (is_tried_for q) (keeps (is_about (Some x)) e past t) ∙ or_right (is_try_for q e.act) (is_tried_for q (about x past)) (d.2 q to_q),
      )

  off-it : (e : Entry) → is_about (Some x) e ≡ false → TriedDirectly past x → TriedDirectly (e ∷ past) x
  off-it e t (inl none) = inl (ap tries (skips (is_about (Some x)) e past t) ∙ none)
  off-it e t (inr d) =
      inr (d.0, post_stays x past e d.0 d.1, λ q to_q. ap (is_tried_for q) (skips (is_about (Some x)) e past t) ∙ d.2 q to_q)

tried-directly : (l : Layout) (past : List Entry) (x : MsgId) → IsLayout l → is_legal l past ≡ true → TriedDirectly past x
tried-directly l [] x shape h = inl refl
tried-directly l (e ∷ past) x shape h = go (is_about (Some x) e) refl (tried-directly l past x shape)
  where
    two : (act_may l (views past e.place e.seat e.act) e.place e.seat e.act ≡ true) × (is_legal l past ≡ true)
    two = legal_parts l e past h

    go : (b : Bool) → is_about (Some x) e ≡ b → (is_legal l past ≡ true → TriedDirectly past x) → TriedDirectly (e ∷ past) x
    go true t ih = on-it l past shape two.1 x e e.act refl t two.0 (ih two.1)
    go false t ih = off-it l past shape two.1 x e t (ih two.1)

pub direct-tries : (l : Layout) (past : List Entry) (x : MsgId) (d : Posted) (q : Ui) → IsLayout l → is_legal l past ≡ true → post_of x past ≡ Some d → d.dest ≡ dests.Port q
    → tries (about x past) ≤ length (path_of l q (fate (on q past)))
direct-tries l past x d q shape h posted to_q = go (tried-directly l past x shape h)
  where
    go : TriedDirectly past x → tries (about x past) ≤ length (path_of l q (fate (on q past)))
    go (inl none) = omega (arith, none)
    go (inr t) =
        let same : t.0 ≡ d = some_is t.0 d (sym t.1 ∙ posted) in
        tries_within l past x q shape h (t.2 q (ap (λ (z : Posted). z.dest) same ∙ to_q))
