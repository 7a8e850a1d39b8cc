-- What an act about a message needs of it: that it was tried here or waits here first, or how far it is.
use Rattle.std.proofs.Common.{ℕ, ◌≡◌, ◌==◌, Bool, true, false, ◌&&◌, ◌⊎◌, not, cond, List, nat_lt, is_some, is_none, refl, sym, ◌∙◌, ap, subst, inl, inr}
use Rattle.std.proofs.lemmas.Bool.{and_parts, eqb-true, false≢true, or_cases, not-true}
use Rattle.chorus_ui.specs.declared.ui.Ui.{Ui}
use Rattle.chorus_ui.specs.declared.layout.Layout.{Layout}
use Rattle.chorus_ui.specs.Name.{same_ui}
use Rattle.chorus_ui.proofs.Names.{from_same_ui}
use Rattle.chorus_entry.specs.declared.entry.Entry.{Entry}
use Rattle.chorus_entry.specs.declared.id.MsgId.{MsgId}
use Rattle.chorus_entry.specs.declared.act.Act.TheVariants.{Accept, Full, Already, ClientsFull, Stale, Early, NoPort, Elsewhere, Try, Gone}
use Rattle.chorus_world.specs.declared.progress.Progress.{Progress}
use Rattle.chorus_world.specs.declared.progress.Progress.TheVariants.{Idle, Asked, Tried, Decided, Settled, Reported}
use Rattle.chorus_world.specs.declared.due.Due.{Due}
use Rattle.chorus_world.specs.declared.due.Due.TheVariants.{NotDue, ByTry, AtHome}
use Rattle.chorus_world.specs.Views.{Views, views, at, about}
use Rattle.chorus_world.specs.Ports.{fate, is_made, is_held_at, is_ended_at, is_coming, has_room, is_full}
use Rattle.chorus_world.specs.Posts.{site_asked, is_on_site}
use Rattle.chorus_world.specs.Clients.{is_already, finds_clients_full}
use Rattle.chorus_world.specs.Messages.{progress}
use Rattle.chorus_world.specs.Places.{is_first, located, is_location}
use Rattle.chorus_world.specs.Steps.{act_may, is_beyond, suits, is_to_go, due_at_home, due_by_try, due, is_due_with, is_due, is_tried_with, meets, may_enter, is_early, is_elsewhere}

-- it was tried for the port at this place, and is not decided
pub record IsTriedAt (x : MsgId) (q : Ui) (p : ℕ) (past : List Entry) : Type 0 where
  pub from : ℕ
  pub hop : ℕ
  pub is : progress (about x past) ≡ Tried from q p hop

-- it is to be decided at this place
abbrev pub IsDue : MsgId → Ui → ℕ → List Entry → Type 0
IsDue x q p past = IsTriedAt x q p past ⊎ (is_first x q (at p past) ≡ true)

to_go_first : (l : Layout) (v : Views) (x : MsgId) (q : Ui) (to : ℕ) → is_to_go l v x q to ≡ true → is_first x q v.here ≡ true
to_go_first l v x q to h =
    (and_parts (is_first x q v.here) (not (is_beyond l q)) (and_parts (is_first x q v.here && not (is_beyond l q)) ((located l q v.here).to == to) h).0).0

home_first : (test : ℕ → Bool) (b : Bool) (n : ℕ) → is_due_with test (cond b (AtHome n) NotDue) ≡ true → b ≡ true
home_first test true n h = refl
home_first test false n h = absurd (false≢true h)

tried_first : (test : ℕ → Bool) (b : Bool) (n : ℕ) → is_tried_with test (cond b (AtHome n) NotDue) ≡ true → b ≡ true
tried_first test true n h = refl
tried_first test false n h = absurd (false≢true h)

module _ (l : Layout) (past : List Entry) (p : ℕ) (x : MsgId) (q : Ui) (v : Views) (m : v.message ≡ about x past) (w : v.here ≡ at p past) where
  at_home_first : is_to_go l v x q p && suits l v p x ≡ true → is_first x q (at p past) ≡ true
  at_home_first h =
      subst (λ z. is_first x q z ≡ true) w (to_go_first l v x q p (and_parts (is_to_go l v x q p) (suits l v p x) h).0)

  by_try : (test : Due → Bool) (s : Progress) (d : Due) → progress (about x past) ≡ s → (test d ≡ true → is_first x q (at p past) ≡ true) → test (due_by_try p q s d) ≡ true → IsDue x q p past
  by_try test (Tried from r to hop) d e k h = try_case ((to == p) && same_ui r q) refl h
    where
      try_case : (b : Bool) → (to == p) && same_ui r q ≡ b → test (cond b (ByTry hop) d) ≡ true → IsDue x q p past
      try_case false b h = inr (k h)
      try_case true b h =
          let two = and_parts (to == p) (same_ui r q) b in
          inl (record {
            from = from;
            hop = hop;
            is = e ∙ (ap (λ z. Tried from z to hop) (from_same_ui r q two.1) ∙ ap (λ z. Tried from q z hop) (eqb-true to p two.0));
          })
  by_try test Idle d e k h = inr (k h)
  by_try test (Asked from y) d e k h = inr (k h)
  by_try test (Decided from b r a) d e k h = inr (k h)
  by_try test (Settled a) d e k h = inr (k h)
  by_try test Reported d e k h = inr (k h)

  pub due_cases : (test : ℕ → Bool) → is_due_with test (due l v p x q) ≡ true → IsDue x q p past
  due_cases test h =
      by_try (is_due_with test) (progress (about x past)) (due_at_home l v p x q) refl
      (λ k. at_home_first (home_first test (is_to_go l v x q p && suits l v p x) (located l q v.here).hop k))
      (ap (λ z. is_due_with test (due_by_try p q (progress z) (due_at_home l v p x q))) (sym m) ∙ h)

  pub tried_cases : (test : ℕ → Bool) → is_tried_with test (due l v p x q) ≡ true → IsDue x q p past
  tried_cases test h =
      by_try (is_tried_with test) (progress (about x past)) (due_at_home l v p x q) refl
      (λ k. at_home_first (tried_first test (is_to_go l v x q p && suits l v p x) (located l q v.here).hop k))
      (ap (λ z. is_tried_with test (due_by_try p q (progress z) (due_at_home l v p x q))) (sym m) ∙ h)

  pub meets_due : meets l v p x q ≡ true → IsDue x q p past
  meets_due h = due_cases (λ hop. true) (and_parts (is_due (due l v p x q)) (is_held_at p (fate v.port)) h).0

  pub enters : may_enter l v p x q ≡ true → (meets l v p x q ≡ true) × (suits l v p x ≡ true) × (is_already x v.all v.port ≡ false)
  enters h =
      let three = and_parts (meets l v p x q && suits l v p x && not (is_already x v.all v.port)) (not (finds_clients_full x v.all v.port)) h in
      let two = and_parts (meets l v p x q && suits l v p x) (not (is_already x v.all v.port)) three.0 in
      let one = and_parts (meets l v p x q) (suits l v p x) two.0 in
      (one.0, one.1, not-true (is_already x v.all v.port) two.1)

-- each decision is of a message that is due
module _ (l : Layout) (past : List Entry) (p s : ℕ) (x : MsgId) (q : Ui) where
  pub due_accept : (n : ℕ) → act_may l (views past p s (Accept x q n)) p s (Accept x q n) ≡ true → IsDue x q p past
  due_accept n h =
      let v = views past p s (Accept x q n) in
      meets_due l past p x q v refl refl (enters l past p x q v refl refl (and_parts (may_enter l v p x q) (has_room n (fate v.port)) h).0).0

  pub due_full : (n : ℕ) → act_may l (views past p s (Full x q n)) p s (Full x q n) ≡ true → IsDue x q p past
  due_full n h =
      let v = views past p s (Full x q n) in
      meets_due l past p x q v refl refl (enters l past p x q v refl refl (and_parts (may_enter l v p x q) (is_full n (fate v.port)) h).0).0

  pub due_already : act_may l (views past p s (Already x q)) p s (Already x q) ≡ true → IsDue x q p past
  due_already h =
      let v = views past p s (Already x q) in
      meets_due l past p x q v refl refl (and_parts (meets l v p x q) (is_already x v.all v.port) h).0

  pub due_clients_full : act_may l (views past p s (ClientsFull x q)) p s (ClientsFull x q) ≡ true → IsDue x q p past
  due_clients_full h =
      let v = views past p s (ClientsFull x q) in
      meets_due l past p x q v refl refl (and_parts (meets l v p x q) (finds_clients_full x v.all v.port) h).0

  pub due_stale : (tried to hop : ℕ) → act_may l (views past p s (Stale x q tried to hop)) p s (Stale x q tried to hop) ≡ true → IsDue x q p past
  due_stale tried to hop h =
      let v = views past p s (Stale x q tried to hop) in
      let d = is_due_with (λ h. h == tried) (due l v p x q) in
      let away = not (is_held_at p (fate v.port)) in
      let there = is_location to hop (located l q v.here) in
      let five = and_parts (d && away && there && nat_lt tried hop && not (to == p)) (is_none (site_asked x v.all)) h in
      let four = and_parts (d && away && there && nat_lt tried hop) (not (to == p)) five.0 in
      let three = and_parts (d && away && there) (nat_lt tried hop) four.0 in
      let two = and_parts (d && away) there three.0 in
      due_cases l past p x q v refl refl (λ h. h == tried) (and_parts d away two.0).0

  pub due_early : (hop : ℕ) → act_may l (views past p s (Early x q hop)) p s (Early x q hop) ≡ true → IsDue x q p past
  due_early hop h =
      let v = views past p s (Early x q hop) in
      let test = is_early p hop (located l q v.here) in
      due_cases l past p x q v refl refl test (and_parts (is_due_with test (due l v p x q)) (is_coming p hop (fate v.port)) h).0

  pub due_no_port : act_may l (views past p s (NoPort x q)) p s (NoPort x q) ≡ true → IsDue x q p past
  due_no_port h =
      let v = views past p s (NoPort x q) in
      let d = is_due_with (λ h. h == 0) (due l v p x q) in
      elim (or_cases (d && not (is_made (fate v.port))) (is_beyond l q && is_first x q v.here) h) [
        | inl a ↦ due_cases l past p x q v refl refl (λ h. h == 0) (and_parts d (not (is_made (fate v.port))) a).0
        | inr b ↦ inr (and_parts (is_beyond l q) (is_first x q v.here) b).1
      ]

  pub due_elsewhere : (to hop : ℕ) → act_may l (views past p s (Elsewhere x q to hop)) p s (Elsewhere x q to hop) ≡ true → IsDue x q p past
  due_elsewhere to hop h =
      let v = views past p s (Elsewhere x q to hop) in
      let two = and_parts (is_some (site_asked x v.all) && is_location to hop (located l q v.here)) (is_elsewhere l v p x q to hop) h in
      let go = is_to_go l v x q to && not (is_on_site l (site_asked x v.all) to) in
      let t = is_tried_with (λ h. nat_lt h hop) (due l v p x q) in
      let away = not (is_held_at p (fate v.port)) in
      elim (or_cases go (t && away && not (to == p)) two.1) [
        | inl a ↦ inr (to_go_first l v x q to (and_parts (is_to_go l v x q to) (not (is_on_site l (site_asked x v.all) to)) a).0)
        | inr b ↦ tried_cases l past p x q v refl refl (λ h. nat_lt h hop) (and_parts t away (and_parts (t && away) (not (to == p)) b).0).0
      ]

  pub due_gone : act_may l (views past p s (Gone x q)) p s (Gone x q) ≡ true → IsDue x q p past
  due_gone h =
      let v = views past p s (Gone x q) in
      due_cases l past p x q v refl refl (λ hop. true) (and_parts (is_due (due l v p x q)) (is_ended_at p (fate v.port)) h).0

  pub first_try : (to hop : ℕ) → act_may l (views past p s (Try x q to hop)) p s (Try x q to hop) ≡ true → is_first x q (at p past) ≡ true
  first_try to hop h =
      let v = views past p s (Try x q to hop) in
      let far = (located l q v.here).hop == hop in
      let three = and_parts (is_to_go l v x q to && far && not (to == p)) (is_on_site l (site_asked x v.all) to) h in
      let two = and_parts (is_to_go l v x q to && far) (not (to == p)) three.0 in
      to_go_first l v x q to (and_parts (is_to_go l v x q to) far two.0).0
