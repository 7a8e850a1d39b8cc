-- A packet that is under way was put by the latest entry about its message or on the line of its port; and an entry that comes from
-- another place has one under way.
use Rattle.std.proofs.Common.{ℕ, ◌≡◌, ◌≢◌, ◌==◌, Bool, true, false, cond, unwrap_or, List, [], ◌∷◌, ◌++◌, Option, Some, None, refl, sym, ◌∙◌, ap, subst, inl, inr}
use Rattle.std.proofs.lemmas.Bool.{and_parts, eq-eqb, eqb-true, ne_eqb}
use Rattle.chorus_ui.specs.declared.ui.Ui.{Ui}
use Rattle.chorus_ui.specs.declared.layout.Layout.{Layout}
use Rattle.chorus_ui.specs.Layout.{IsLayout, group_place}
use Rattle.chorus_entry.specs.declared.entry.Entry.{Entry}
use Rattle.chorus_entry.specs.declared.id.MsgId.{MsgId}
use Rattle.chorus_entry.specs.Dest.{group_in}
use Rattle.chorus_world.specs.declared.progress.Progress.{Progress}
use Rattle.chorus_world.specs.declared.progress.Progress.TheVariants.{Idle, Asked, Tried, Decided, Settled, Reported}
use Rattle.chorus_world.specs.declared.spot.Spot.{Spot}
use Rattle.chorus_world.specs.declared.spot.Spot.TheVariants as S
use Rattle.chorus_world.specs.Views.{about, is_about, is_on, on}
use Rattle.chorus_world.specs.Messages.{progress}
use Rattle.chorus_world.specs.Places.{last_clock}
use Rattle.chorus_world.specs.Ports.{PortState, fate, is_coming, is_moving}
use Rattle.chorus_world.specs.Posts.{post_of}
use Rattle.chorus_world.specs.Steps.{is_asked_from, is_asking_place, is_legal}
use Rattle.chorus_world.proofs.Ports.LineLemmas.{none_some}
use Rattle.chorus_world.proofs.Ports.PortMoves.{coming_fate}
use Rattle.chorus_world.proofs.Messages.PostLemmas.{post_kept}
use Rattle.law_machine.specs.declared.outgoing.Outgoing.{Outgoing}
use Rattle.law_network.specs.UnderWay.{before_last, far_place, other_place, asked_as, reported_as, reported_to, under_way, under_way_as, transfer, transfer_in, transfer_of}
use Rattle.law_picture.specs.declared.row.Row.{Row}
use Rattle.law_picture.specs.declared.bar.Bar.{Bar}
use Rattle.law_picture.specs.Bars.{bar, row_in}
use Rattle.law_picture.specs.Causes.{latest}
use Rattle.law_picture.specs.Laws.{away, group_at, sender}
use Rattle.law_picture.proofs.Arrows.{Follows, asking}
use Rattle.law_picture.proofs.Came.{Came, came}
use Rattle.law_picture.proofs.Standing as standing
use Rattle.law_picture.proofs.Standing.{Agrees, agree, latest_on}
use Rattle.law_arrows.proofs.Lists.{In, latest-clock}

-- the packet was put by that entry
pub record IsPut (last : Option Row) (o : Outgoing) : Type 0 where
  pub row : Row
  pub is : last ≡ Some row
  pub place : row.place ≡ o.packet.from
  pub clock : row.clock ≡ o.packet.clock

only-one : (u o : Outgoing) → In o (u ∷ []) → u ≡ o
only-one u o (inl same) = same
only-one u o (inr h) = absurd h

-- a far group's place, as the network has it and as pictures have it
far-group : (l : Layout) (home p : ℕ) (d : Option Ui) → far_place l home d ≡ Some p → group_at l d ≡ Some p
far-group l home p None h = none_some p h
far-group l home p (Some g) h = go (group_place l g) h
  where
    by : (r : ℕ) (b : Bool) → cond b None (Some r) ≡ Some p → Some r ≡ Some p
    by r true k = none_some p k
    by r false k = k

    go : (o : Option ℕ) → other_place home o ≡ Some p → o ≡ Some p
    go None k = k
    go (Some r) k = by r (r == home) k

group-far : (l : Layout) (home p : ℕ) (d : Option Ui) → group_at l d ≡ Some p → p ≢ home → far_place l home d ≡ Some p
group-far l home p None h ne = none_some p h
group-far l home p (Some g) h ne = ap (other_place home) h ∙ ap (λ b. cond b None (Some p)) (ne_eqb p home ne)

module _ (l : Layout) (past : List Entry) (x : MsgId) (legal : is_legal l past ≡ true) where
  put-by : (last : Option Row) (from c : ℕ) (row : Row) (u o : Outgoing) → last ≡ latest (is_about (Some x)) past → c ≡ last_clock (about x past) → last ≡ Some row → row.place ≡ from
      → u.packet.from ≡ from → u.packet.clock ≡ c → In o (u ∷ []) → IsPut last o
  put-by last from c row u o view now is place put at h =
      let same = only-one u o h in
      record {
        row = row;
        is = is;
        place = place ∙ sym put ∙ ap (λ (z : Outgoing). z.packet.from) same;
        clock = latest-clock (is_about (Some x)) past row (sym view ∙ is) ∙ sym now ∙ sym at ∙ ap (λ (z : Outgoing). z.packet.clock) same;
      }

  module _ (o : Outgoing) (c : ℕ) (now : c ≡ last_clock (about x past)) where
    by-stage : (s : Progress) → Came l x past s (latest (is_about (Some x)) past) → In o (under_way_as l past x c s) → IsPut (latest (is_about (Some x)) past) o
    by-stage Idle h i = absurd i
    by-stage (Asked from d) h i = go (far_place l from (group_in d)) i
      where
        go : (z : Option ℕ) → In o (asked_as past x c from d z) → IsPut (latest (is_about (Some x)) past) o
        go None k = absurd k
        go (Some p) k = put-by (latest (is_about (Some x)) past) from c h.0 _ o refl now h.1 h.2 refl refl k
    by-stage (Tried from q to hop) h i = put-by (latest (is_about (Some x)) past) from c h.0 _ o refl now h.1 h.2 refl refl i
    by-stage (Decided from b q a) h i = put-by (latest (is_about (Some x)) past) b c h.0 _ o refl now h.1 h.2 refl refl i
    by-stage (Settled a) h i =
        go (far_place l h.post.place (group_in h.post.dest)) refl (subst (λ z. In o (reported_as l x c a z)) h.posted i)
      where
        go : (z : Option ℕ) → far_place l h.post.place (group_in h.post.dest) ≡ z → In o (reported_to x c a h.post.place z) → IsPut (latest (is_about (Some x)) past) o
        go None e k = absurd k
        go (Some p) e k =
            put-by (latest (is_about (Some x)) past) p c h.row _ o refl now h.last
            (h.group p (far-group l h.post.place p (group_in h.post.dest) e)) refl refl k
    by-stage Reported h i = absurd i

  pub message-put : (o : Outgoing) → In o (under_way l past x) → IsPut (latest (is_about (Some x)) past) o
  message-put o h = by-stage o (last_clock (about x past)) refl (progress (about x past)) (came l past x legal) h

-- What comes from another place is under way.

not-away : (p from r : ℕ) → away p (Some from) ≡ Some r → from ≢ p
not-away p from r h same = none_some r (sym (ap (λ b. cond b None (Some from)) (eq-eqb from p same)) ∙ h)

module _ (l : Layout) (mid past : List Entry) (p : ℕ) (x : MsgId) (c r : ℕ) where
  pub is-under-way : (s : Progress) (last : Option Row) → Follows l (mid ++ past) p x s → Came l x past s last → away p (sender l (post_of x (mid ++ past)) s) ≡ Some r
      → (o : Outgoing) × (under_way_as l past x c s ≡ o ∷ [])
  is-under-way Idle last f h from = none_some r from
  is-under-way (Asked a d) last f h from = go (group_place l f.0) refl f.2
    where
      apart : a ≢ p
      apart = not-away p a r from

      go : (z : Option ℕ) → group_place l f.0 ≡ z → (unwrap_or z a == p) ≡ true → (o : Outgoing) × (under_way_as l past x c (Asked a d) ≡ o ∷ [])
      go None e k = absurd (apart (eqb-true a p k))
      go (Some g) e k =
          let there : g ≡ p = eqb-true g p k in
          (_, ap (asked_as past x c a d) (ap (far_place l a) f.1 ∙ group-far l a g (Some f.0) e (λ same. apart (sym same ∙ there))))
  is-under-way (Tried a q to hop) last f h from = (_, refl)
  is-under-way (Decided a b q answer) last f h from = (_, refl)
  is-under-way (Settled answer) last f h from = go (subst (λ z. is_asked_from l p z ≡ true) (post_kept x mid past h.post h.posted) f)
    where
      go : is_asked_from l p (Some h.post) ≡ true → (o : Outgoing) × (under_way_as l past x c (Settled answer) ≡ o ∷ [])
      go k =
          let two = and_parts (h.post.place == p) (is_asking_place l p (group_in h.post.dest)) k in
          let home : h.post.place ≡ p = eqb-true h.post.place p two.0 in
          let asked = asking l p (group_in h.post.dest) two.1 in (
            _,
            ap (reported_as l x c answer) h.posted
                ∙ ap (reported_to x c answer h.post.place) (group-far l h.post.place asked.0 (group_in h.post.dest) asked.1 (λ same. asked.2 (same ∙ home))),
          )
  is-under-way Reported last f h from = absurd f

-- Ports.

same-before : (p q : ℕ) (rs : List ℕ) → standing.before_last p q rs ≡ before_last p q rs
same-before p q [] = refl
same-before p q (r ∷ rs) = same-before q r rs

pub port-put : (l : Layout) (past : List Entry) (q : Ui) (o : Outgoing) → IsLayout l → is_legal l past ≡ true → In o (transfer past q) → IsPut (latest (is_on (Some q)) past) o
port-put l past q o shape legal h = by (fate (on q past)) (bar q past) refl (agree l past q shape legal) h
  where
    moved : (f : PortState) (b : Bar) (s : Spot) → bar q past ≡ Some b → f.spot ≡ s → (is_moving f.spot ≡ true → b.row.place ≡ standing.before_last 0 0 f.path)
        → In o (transfer_in past (on q past) q f s) → IsPut (latest (is_on (Some q)) past) o
    moved f b (S.Held a) is e left i = absurd i
    moved f b (S.Moving a) is e left i =
        let last : latest (is_on (Some q)) past ≡ Some b.row = latest_on q past ∙ ap row_in is in
        let same = only-one _ o i in
        record {
          row = b.row;
          is = last;
          place = left (ap is_moving e) ∙ same-before 0 0 f.path ∙ ap (λ (z : Outgoing). z.packet.from) same;
          clock = latest-clock (is_on (Some q)) past b.row last ∙ ap (λ (z : Outgoing). z.packet.clock) same;
        }
    moved f b S.Ended is e left i = absurd i

    by : (z : Option PortState) (w : Option Bar) → bar q past ≡ w → Agrees z w → In o (transfer_of past (on q past) q z) → IsPut (latest (is_on (Some q)) past) o
    by None w is a i = absurd i
    by (Some f) None is a i = absurd a
    by (Some f) (Some b) is a i = moved f b f.spot is refl a.left i

pub is-moving : (past : List Entry) (q : Ui) (p hop : ℕ) → is_coming p hop (fate (on q past)) ≡ true → (o : Outgoing) × (transfer past q ≡ o ∷ [])
is-moving past q p hop h =
    let come = coming_fate p hop (fate (on q past)) h in
    (_, ap (transfer_of past (on q past) q) come.2 ∙ ap (transfer_in past (on q past) q come.0) come.3)
