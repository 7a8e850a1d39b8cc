-- Facts of legal lists: what was posted has names of the right kinds; no number above the greatest was called; and the hand that
-- a seat has names a port.
use Rattle.std.proofs.Common.{ℕ, ◌≡◌, ◌+◌, true, List, [], ◌∷◌, Option, Some, None, inl, inr, refl, sym, ◌∙◌, ap, arith}
use Rattle.std.proofs.lemmas.Bool.{and_parts, cases_Bool}
use Rattle.chorus_ui.specs.declared.layout.Layout.{Layout}
use Rattle.chorus_ui.specs.Layout.{IsLayout}
use Rattle.chorus_entry.specs.declared.entry.Entry.{Entry}
use Rattle.chorus_entry.specs.declared.hand.Hand.{Hand}
use Rattle.chorus_entry.specs.declared.id.MsgId.{MsgId}
use Rattle.chorus_entry.specs.declared.tag.Tag.{Tag}
use Rattle.chorus_entry.specs.declared.tag.Tag.TheVariants.{Plain, Request, Reply}
use Rattle.chorus_entry.specs.declared.act.Act.{Act}
use Rattle.chorus_entry.specs.declared.act.Act.TheVariants.{Post, Take}
use Rattle.chorus_ui.specs.NameKind.{is_port}
use Rattle.chorus_entry.specs.Kinds.{has_kinds, has_kinds_in_tag, has_kinds_in_dest}
use Rattle.chorus_world.specs.Views.{by, is_by}
use Rattle.chorus_world.specs.Posts.{Posted, post_of, posted_by, posted_in, source, tag_from}
use Rattle.chorus_world.specs.Seats.{Call, call_by, first_call, requests, hand, hand_after, hand_with, hand_without}
use Rattle.chorus_world.specs.Steps.{is_legal}
use Rattle.chorus_world.proofs.Steps.LegalLemmas.{skips, keeps}
use Rattle.chorus_world.proofs.Ports.LineLemmas.{none_some}
use Rattle.chorus_world.proofs.Messages.SendingLemmas.{from_or, some_is}
use Rattle.chorus_world.proofs.Groups.ChoiceLemmas.{posted_is}
use Rattle.chorus_world.proofs.Messages.Posted.{filtered}
use Rattle.chorus_world.proofs.Sorted.Observers.{legal_laws}
use Rattle.chorus_world.proofs.Sorted.Agreement.{hand_agrees}
use Rattle.chorus_world.proofs.Seats.CallLemmas.{call_is, first_bounds}
use Rattle.chorus_world.proofs.Messages.Growing.{goes-on}
use Rattle.chorus_world.proofs.Messages.SentFacts.{legal-kinds}

-- what was posted
pub posted-kinds : (l : Layout) (past : List Entry) (x : MsgId) (d : Posted) → is_legal l past ≡ true → post_of x past ≡ Some d → (has_kinds_in_tag d.message.tag ≡ true) × (has_kinds_in_dest d.dest ≡ true)
posted-kinds l [] x d h k = none_some d k
posted-kinds l (e ∷ past) x d h k =
    let two = legal-kinds l e past h in
    elim (cases_Bool (is_by x.seat e)) [
      | inl y ↦ elim (from_or (post_of x past) (posted_by (source x) e.place e.act) d (ap (posted_in (source x)) (sym (keeps (is_by x.seat) e past y)) ∙ k)) [
        | inl old ↦ posted-kinds l past x d two.1 old
        | inr new ↦ (
            let post = posted_is (source x) e.place e.act d new.1 in
            and_parts (has_kinds_in_tag d.message.tag) (has_kinds_in_dest d.dest) (ap has_kinds (sym post.act) ∙ two.0))
      ]
      | inr n ↦ posted-kinds l past x d two.1 (ap (posted_in (source x)) (sym (skips (is_by x.seat) e past n)) ∙ k)
    ]

-- no number above the greatest was called
pub next-uncalled : (mine : List Entry) → first_call (requests mine + 1) mine ≡ None
next-uncalled mine = go (first_call (requests mine + 1) mine) refl
  where
    go : (o : Option Call) → first_call (requests mine + 1) mine ≡ o → o ≡ None
    go None h = refl
    go (Some c) h = absurd (let le = first_bounds (requests mine + 1) mine c h in omega (arith, le))

called-kinds-by : (n : ℕ) (a : Act) (c : Call) → has_kinds a ≡ true → call_by n a ≡ Some c → (is_port c.port ≡ true) × (is_port c.back ≡ true)
called-kinds-by n (Post m d) c k h =
    let is = call_is n m.tag d m.body c h in
    let two = and_parts (has_kinds_in_tag m.tag) (has_kinds_in_dest d) k in
    (ap has_kinds_in_dest (sym is.1) ∙ two.1, ap has_kinds_in_tag (sym is.0) ∙ two.0)
called-kinds-by n _ c k h = none_some c h

-- the port of a call, and that of its reply
pub called-kinds : (l : Layout) (past : List Entry) (s n : ℕ) (c : Call) → is_legal l past ≡ true → first_call n (by s past) ≡ Some c → (is_port c.port ≡ true) × (is_port c.back ≡ true)
called-kinds l [] s n c h k = none_some c k
called-kinds l (e ∷ past) s n c h k =
    let two = legal-kinds l e past h in
    elim (cases_Bool (is_by s e)) [
      | inl y ↦ elim (from_or (first_call n (by s past)) (call_by n e.act) c (ap (first_call n) (sym (keeps (is_by s) e past y)) ∙ k)) [
        | inl old ↦ called-kinds l past s n c two.1 old
        | inr new ↦ called-kinds-by n e.act c two.0 new.1
      ]
      | inr f ↦ called-kinds l past s n c two.1 (ap (first_call n) (sym (skips (is_by s) e past f)) ∙ k)
    ]

-- The request in hand.

taken-kinds : (l : Layout) (past : List Entry) (c : ℕ) (o : Option Posted) (h : Option Hand) (z : Hand) → ((d : Posted) → o ≡ Some d → has_kinds_in_tag d.message.tag ≡ true)
    → ((y : Hand) → h ≡ Some y → is_port y.back ≡ true) → hand_with c (tag_from o) h ≡ Some z → is_port z.back ≡ true
taken-kinds l past c None h z kinds old k = old z k
taken-kinds l past c (Some d) h z kinds old k = by d.message.tag refl k
  where
    by : (g : Tag) → d.message.tag ≡ g → hand_with c g h ≡ Some z → is_port z.back ≡ true
    by Plain e j = old z j
    by (Reply a n) e j = old z j
    by (Request n back) e j =
        let same : record { client = c; number = n; back = back } ≡ z = some_is (record { client = c; number = n; back = back }) z j in
        ap (λ (y : Hand). is_port y.back) (sym same) ∙ (ap has_kinds_in_tag (sym e) ∙ kinds d refl)

posts-none : (g : Tag) (h : Option Hand) (z : Hand) → ((y : Hand) → h ≡ Some y → is_port y.back ≡ true) → hand_without g h ≡ Some z → is_port z.back ≡ true
posts-none Plain h z old k = old z k
posts-none (Request n back) h z old k = old z k
posts-none (Reply c n) h z old k = none_some z k

pub hand-kinds : (l : Layout) (past : List Entry) (s : ℕ) (z : Hand) → IsLayout l → is_legal l past ≡ true → hand past (by s past) ≡ Some z → is_port z.back ≡ true
hand-kinds l [] s z shape h k = none_some z k
hand-kinds l (e ∷ past) s z shape h k =
    elim (cases_Bool (is_by s e)) [
      | inl y ↦ step e.act refl (ap (hand (e ∷ past)) (sym (keeps (is_by s) e past y)) ∙ k) (λ z. hand-kinds l past s z shape before)
      | inr f ↦ hand-kinds l past s z shape before (sym same ∙ (ap (hand (e ∷ past)) (sym (skips (is_by s) e past f)) ∙ k))
    ]
  where
    before : is_legal l past ≡ true
    before = (legal-kinds l e past h).1

    mine : List Entry
    mine = by s past

    same : hand (e ∷ past) (by s past) ≡ hand past (by s past)
    same = hand_agrees (e ∷ past) past mine (goes-on e past) (filtered past (is_by s) past (legal_laws l past shape before).posted)

    step : (a : Act) → e.act ≡ a → hand_after (e ∷ past) e.act (hand (e ∷ past) (by s past)) ≡ Some z → ((y : Hand) → hand past (by s past) ≡ Some y → is_port y.back ≡ true) → is_port z.back ≡ true
    step (Take q n x) is j ih =
        taken-kinds l (e ∷ past) x.seat (post_of x (e ∷ past)) (hand past mine) z (λ d o. (posted-kinds l (e ∷ past) x d h o).0) ih
        (ap (hand_after (e ∷ past) (Take q n x)) (sym same) ∙ (ap (λ a. hand_after (e ∷ past) a (hand (e ∷ past) mine)) (sym is) ∙ j))
    step (Post m d) is j ih =
        posts-none m.tag (hand past mine) z ih
        (ap (hand_without m.tag) (sym same) ∙ (ap (λ a. hand_after (e ∷ past) a (hand (e ∷ past) mine)) (sym is) ∙ j))
    step a is j ih = ih z (sym same ∙ (ap (λ b. hand_after (e ∷ past) b (hand (e ∷ past) mine)) (sym is) ∙ j))
