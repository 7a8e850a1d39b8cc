-- An entry of a turn has no arrow, where what it is about was not brought by the packet.
use Rattle.std.proofs.Common.{ℕ, ◌≡◌, ◌≢◌, ◌⊎◌, true, List, [], ◌∷◌, ◌++◌, Option, Some, None, refl, sym, ◌∙◌, ap, subst, inl, inr, append_assoc}
use Rattle.std.specs.List.{All}
use Rattle.chorus_ui.specs.declared.ui.Ui.{Ui}
use Rattle.chorus_ui.specs.declared.layout.Layout.{Layout}
use Rattle.chorus_ui.specs.Layout.{IsLayout}
use Rattle.chorus_ui.proofs.Names.{same_ui-self}
use Rattle.chorus_entry.specs.declared.entry.Entry.{Entry}
use Rattle.chorus_entry.specs.declared.id.MsgId.{MsgId}
use Rattle.chorus_entry.specs.declared.act.Act.{Act}
use Rattle.chorus_entry.specs.declared.act.Act.TheVariants.{Arrive}
use Rattle.chorus_entry.specs.Act.{message_of, held_port_of}
use Rattle.chorus_entry.specs.MsgId.{same_id}
use Rattle.chorus_entry.specs.Same.{are_same}
use Rattle.chorus_ui.specs.Name.{same_ui}
use Rattle.chorus_entry.proofs.Same.{same_id-self}
use Rattle.chorus_world.specs.Views.{views, about, is_about, is_on, on}
use Rattle.chorus_world.specs.Messages.{progress}
use Rattle.chorus_world.specs.Places.{last_clock}
use Rattle.chorus_world.specs.Ports.{fate, is_coming}
use Rattle.chorus_world.specs.Posts.{post_of}
use Rattle.chorus_world.specs.Steps.{act_may, is_legal}
use Rattle.chorus_world.proofs.Steps.LegalLemmas.{legal_parts}
use Rattle.chorus_world.proofs.Ports.LineLemmas.{none_some}
use Rattle.law_machine.specs.declared.outgoing.Outgoing.{Outgoing}
use Rattle.law_picture.specs.declared.row.Row.{Row}
use Rattle.law_picture.specs.Causes.{caused_by, goes_on, latest}
use Rattle.law_picture.specs.Laws.{away, came_from, place_of, sender, sender_of}
use Rattle.law_picture.proofs.Arrows.{Follows, arrows_are_of_the_world, follows, latest_none}
use Rattle.law_picture.proofs.Came.{came}
use Rattle.law_picture.proofs.Forward.{caused-latest}
use Rattle.law_arrows.specs.Arrows.{arrow_from, arrows}
use Rattle.law_arrows.proofs.Lists.{At, In, behind, latest-among, same_row}
use Rattle.law_arrows.proofs.Leads.{IsPut, is-moving, is-under-way, message-put, port-put}
use Rattle.law_arrows.proofs.Turns.{Subject, Of, With, test_of, under_of}

pub legal-part : (l : Layout) (xs ys : List Entry) → is_legal l (xs ++ ys) ≡ true → is_legal l ys ≡ true
legal-part l [] ys h = h
legal-part l (x ∷ xs) ys h = legal-part l xs ys (legal_parts l x (xs ++ ys) h).1

pub put-by : (l : Layout) (past : List Entry) (s : Subject) (o : Outgoing) → IsLayout l → is_legal l past ≡ true → In o (under_of l past s) → IsPut (latest (test_of s) past) o
put-by l past (Of x) o shape legal h = message-put l past x legal o h
put-by l past (With q) o shape legal h = port-put l past q o shape legal h

-- what is under way before the turn is so after it, or the turn said of it before that entry
abbrev pub StaysOrIsTouched : Layout → ℕ → List Entry → List Entry → List Entry → Subject → Type 0
StaysOrIsTouched l p mid past whole s =
    ((o : Outgoing) → under_of l past s ≡ o ∷ [] → In o (under_of l whole s))
    ⊎ ((row : Row) × (latest (test_of s) (mid ++ past) ≡ Some row) × (row.place ≡ p))

module _ (l : Layout) (shape : IsLayout l) (newer : List Entry) (e : Entry) (mid past : List Entry) (p : ℕ) (legal : is_legal l (newer ++ e ∷ (mid ++ past)) ≡ true)
    (newer-here : All (At p) newer) (here : At p e) (mid-here : All (At p) mid)
    (kept : (s : Subject) → StaysOrIsTouched l p mid past (newer ++ e ∷ (mid ++ past)) s) where
  from-here : is_legal l (e ∷ (mid ++ past)) ≡ true
  from-here = legal-part l newer (e ∷ (mid ++ past)) legal

  before : is_legal l (mid ++ past) ≡ true
  before = (legal_parts l e (mid ++ past) from-here).1

  may : act_may l (views (mid ++ past) e.place e.seat e.act) e.place e.seat e.act ≡ true
  may = (legal_parts l e (mid ++ past) from-here).0

  old : is_legal l past ≡ true
  old = legal-part l mid past before

  -- nothing of that kind is under way
  nothing : (s : Subject) (row : Row) (o : Outgoing) → test_of s e ≡ true → latest (test_of s) (mid ++ past) ≡ Some row → row.place ≢ p → latest (test_of s) past ≡ Some row → under_of l past s ≡ o ∷ [] → ⊥
  nothing s row o is last ne then one = go (kept s)
    where
      go : StaysOrIsTouched l p mid past (newer ++ e ∷ (mid ++ past)) s → ⊥
      go (inr touched) = ne (ap (λ (r : Row). r.place) (same_row (latest (test_of s) (mid ++ past)) row touched.0 last touched.1) ∙ touched.2)
      go (inl stays) =
          let whole = newer ++ e ∷ (mid ++ past) in
          let now = put-by l whole s o shape legal (stays o one) in
          let was = put-by l past s o shape old (subst (In o) (sym one) (inl refl)) in
          let among = latest-among (test_of s) p newer e (mid ++ past) newer-here here is in
          let there : o.packet.from ≡ p = sym now.place ∙ ap (λ (r : Row). r.place) (same_row (latest (test_of s) whole) now.row among.0 now.is among.1) ∙ among.2 in
          ne (ap (λ (r : Row). r.place) (same_row (latest (test_of s) past) row was.row then was.is) ∙ was.place ∙ there)

  by-port : (q : Ui) (hop : ℕ) (row : Row) → e.act ≡ Arrive q hop → latest (is_on (Some q)) (mid ++ past) ≡ Some row → row.place ≢ p → ⊥
  by-port q hop row is last ne =
      let b = behind (is_on (Some q)) p mid past row mid-here last ne in
      let coming : is_coming e.place hop (fate (on q (mid ++ past))) ≡ true = subst (λ a. act_may l (views (mid ++ past) e.place e.seat a) e.place e.seat a ≡ true) is may in
      let one = is-moving past q e.place hop (subst (λ line. is_coming e.place hop (fate line) ≡ true) b.view coming) in
      nothing (With q) row one.0 (ap (λ a. are_same same_ui (Some q) (held_port_of a)) is ∙ same_ui-self q) last ne b.last one.1

  by-message : (x : MsgId) (row : Row) → message_of e.act ≡ Some x → came_from l (mid ++ past) e.act ≡ sender_of l (mid ++ past) (Some x) → caused_by (mid ++ past) e ≡ Some row
      → latest (is_about (Some x)) (mid ++ past) ≡ Some row → row.place ≢ p → ⊥
  by-message x row m from caused last ne =
      let b = behind (is_about (Some x)) p mid past row mid-here last ne in
      let world : away e.place (came_from l (mid ++ past) e.act) ≡ Some row.place = sym (arrows_are_of_the_world l (mid ++ past) e shape from-here) ∙ ap place_of caused in
      let follow = subst (λ line. Follows l (mid ++ past) e.place x (progress line)) b.view (follows l (mid ++ past) e.place e.seat x before e.act m may) in
      let sent : away e.place (sender l (post_of x (mid ++ past)) (progress (about x past))) ≡ Some row.place =
      ap (λ line. away e.place (sender l (post_of x (mid ++ past)) (progress line))) (sym b.view) ∙ ap (away e.place) (sym from) ∙ world in
      let one = is-under-way l mid past e.place x (last_clock (about x past)) row.place (progress (about x past)) (latest (is_about (Some x)) past) follow (came l past x old) sent in
      nothing (Of x) row one.0 (ap (are_same same_id (Some x)) m ∙ same_id-self x) last ne b.last one.1

  by-messages : (o : Option MsgId) (row : Row) → message_of e.act ≡ o → came_from l (mid ++ past) e.act ≡ sender_of l (mid ++ past) o → caused_by (mid ++ past) e ≡ Some row
      → latest (is_about o) (mid ++ past) ≡ Some row → row.place ≢ p → ⊥
  by-messages None row m from caused last ne = none_some row (sym (latest_none (mid ++ past)) ∙ last)
  by-messages (Some x) row m from caused last ne = by-message x row m from caused last ne

  by-act : (a : Act) (row : Row) → e.act ≡ a → caused_by (mid ++ past) e ≡ Some row → latest (goes_on a) (mid ++ past) ≡ Some row → row.place ≢ p → ⊥
  by-act (Arrive q hop) row is caused last ne = by-port q hop row is last ne
  by-act a row is caused last ne =
      by-messages (message_of a) row (ap message_of is) (ap (came_from l (mid ++ past)) is) caused last ne

  pub quiet : caused_by (mid ++ past) e ≡ None
  quiet = go (caused_by (mid ++ past) e) refl
    where
      go : (o : Option Row) → caused_by (mid ++ past) e ≡ o → o ≡ None
      go None is = refl
      go (Some row) is =
          let from = caused-latest (mid ++ past) e row is in
          absurd (by-act e.act row refl is from.0 (λ same. from.1 (same ∙ sym here)))

-- entries without a cause add no arrow
pub no-arrows : (front rest past : List Entry) → ((newer mid : List Entry) (e : Entry) → front ++ rest ≡ newer ++ e ∷ mid → caused_by (mid ++ past) e ≡ None) → arrows (rest ++ past) ≡ arrows past
no-arrows front [] past q = refl
no-arrows front (e ∷ rest) past q =
    ap (λ o. arrow_from e o ++ arrows (rest ++ past)) (q front rest e refl)
    ∙ no-arrows (front ++ e ∷ []) rest past (λ newer mid k is. q newer mid k (sym (append_assoc front (e ∷ []) rest) ∙ is))
