-- Facts of legal lists: the ids of what was posted and sent are within their ranges.
use Rattle.std.proofs.Common.{ℕ, ◌≡◌, ◌≤◌, ◌+◌, nat_le, Bool, true, false, cond, List, [], ◌∷◌, length, Option, Some, None, sym, ◌∙◌, ap, subst, inl, inr, arith}
use Rattle.std.specs.Prelude.{find}
use Rattle.std.proofs.lemmas.Bool.{cases_Bool, and_from, le-leb}
use Rattle.chorus_ui.specs.declared.ui.Ui.{Ui}
use Rattle.chorus_ui.specs.declared.layout.Layout.{Layout}
use Rattle.chorus_entry.specs.declared.entry.Entry.{Entry}
use Rattle.chorus_entry.specs.declared.id.MsgId.{MsgId}
use Rattle.chorus_entry.specs.declared.dest.Dest.{Dest}
use Rattle.chorus_entry.specs.declared.dest.Dest.TheVariants as dests
use Rattle.chorus_entry.specs.declared.act.Act.{Act}
use Rattle.chorus_entry.specs.declared.act.Act.TheVariants.{Post, Choose}
use Rattle.chorus_entry.specs.Ranges.{has_range_of_id}
use Rattle.chorus_world.specs.declared.place.Sent.{Sent}
use Rattle.chorus_world.specs.Views.{views, at, is_by}
use Rattle.chorus_entry.specs.Order.{is_at}
use Rattle.chorus_world.specs.Posts.{Posted, post_of, posted_in, posted_by, source}
use Rattle.chorus_world.specs.Groups.{in_turn, is_at_site, choice}
use Rattle.chorus_entry.specs.Members.{first_of, listed}
use Rattle.chorus_world.specs.Places.{sent, sent_by, copies}
use Rattle.chorus_world.specs.Steps.{act_may, is_legal}
use Rattle.chorus_world.proofs.Steps.LegalLemmas.{legal_parts, keeps, skips}
use Rattle.chorus_world.proofs.Ports.LineLemmas.{none_some}
use Rattle.chorus_world.proofs.Messages.SendingLemmas.{from_or}
use Rattle.chorus_world.proofs.Groups.ChoiceLemmas.{posted_is}
use Rattle.chorus_world.proofs.Messages.PostLemmas.{post_needs, choose_needs, asked_facts}
use Rattle.chorus_world.proofs.Messages.MessageInvariant.{legal_messages}
use Rattle.chorus_world.proofs.Messages.SentFacts.{EachSent, each-append}
use Rattle.chorus_world.proofs.Groups.GroupBounds.{members-few}
use Rattle.chorus_world.proofs.Groups.Members.{choose-names}

-- what was posted has a number from 1 on
pub posted-number : (l : Layout) (past : List Entry) (x : MsgId) (d : Posted) → is_legal l past ≡ true → post_of x past ≡ Some d → 1 ≤ x.number
posted-number l [] x d h k = none_some d k
posted-number l (e ∷ past) x d h k =
    let two = legal_parts l e past h in
    elim (cases_Bool (is_by x.seat e)) [
      | inl y ↦ elim (from_or (post_of x past) (posted_by (source x) e.place e.act) d (ap (posted_in (source x)) (sym (keeps (is_by x.seat) e past y)) ∙ k)) [
        | inl old ↦ posted-number l past x d two.1 old
        | inr new ↦ (
            let post = posted_is (source x) e.place e.act d new.1 in
            let needs = post_needs l past e.place e.seat d.message d.dest (subst (λ a. act_may l (views past e.place e.seat a) e.place e.seat a ≡ true) post.act two.0) in
            let number = needs.number in
            let same : d.message.id.number ≡ x.number = ap (λ (i : MsgId). i.number) post.id in
            omega (arith, number, same))
      ]
      | inr n ↦ posted-number l past x d two.1 (ap (posted_in (source x)) (sym (skips (is_by x.seat) e past n)) ∙ k)
    ]

-- no more members are chosen than a group may have
listed-few : (o : Option Ui) → length (listed o) ≤ 32
listed-few None = omega arith
listed-few (Some q) = omega arith

pub choice-few : (l : Layout) (past : List Entry) (p : ℕ) (d : Dest) → is_legal l past ≡ true → length (choice l d (at p past)) ≤ 32
choice-few l past p (dests.Port q) h = omega arith
choice-few l past p (dests.All g) h = members-few l past g p h
choice-few l past p (dests.One g) h = listed-few (first_of (in_turn g (at p past)))
choice-few l past p (dests.OneAt g s) h = listed-few (find (is_at_site l s (at p past)) (in_turn g (at p past)))

pub range-of-id : (x : MsgId) → 1 ≤ x.number → x.copy ≤ 32 → has_range_of_id x ≡ true
range-of-id x a b = and_from (nat_le 1 x.number) (nat_le x.copy 32) (le-leb 1 x.number a) (le-leb x.copy 32 b)

abbrev HasId : Sent → Type 0
HasId m = has_range_of_id m.id ≡ true

copies-ranged : (x : MsgId) (g : Ui) (n : ℕ) (qs : List Ui) → 1 ≤ x.number → n + length qs ≤ 33 → EachSent HasId (copies x g n qs)
copies-ranged x g n [] a le = tt
copies-ranged x g n (q ∷ qs) a le = (range-of-id (record x { copy = n }) a (omega (arith, le)), copies-ranged x g (n + 1) qs a (omega (arith, le)))

sent-by-ranged : (l : Layout) (past : List Entry) (p s : ℕ) (a : Act) → is_legal l past ≡ true → act_may l (views past p s a) p s a ≡ true → EachSent HasId (sent_by a)
sent-by-ranged l past p s (Post m (dests.Port q)) legal h =
    let needs = post_needs l past p s m (dests.Port q) h in
    let number = needs.number in
    let copy = needs.copy in
    (range-of-id m.id (omega (arith, number)) (omega (arith, copy)), tt)
sent-by-ranged l past p s (Post m (dests.All g)) legal h = tt
sent-by-ranged l past p s (Post m (dests.One g)) legal h = tt
sent-by-ranged l past p s (Post m (dests.OneAt g n)) legal h = tt
sent-by-ranged l past p s (Choose x g qs) legal h =
    let needs = choose_needs l past p s x g qs h in
    let asked = asked_facts x past needs.from needs.dest (legal_messages l past legal x) needs.asked in
    let c = choose-names l past p s x g qs h in
    let few = choice-few l past p c.0 legal in
    let long : length qs ≡ length (choice l c.0 (at p past)) = ap length c.2 in
    copies-ranged x g 1 qs (posted-number l past x asked.1.post legal asked.1.posted) (omega (arith, few, long))
sent-by-ranged l past p s a legal h = tt

-- the ids of what was sent
pub sent-ranged : (l : Layout) (past : List Entry) (p : ℕ) → is_legal l past ≡ true → EachSent HasId (sent (at p past))
sent-ranged l [] p h = tt
sent-ranged l (e ∷ past) p h = go (is_at p e) (sent-ranged l past p two.1)
  where
    two : (act_may l (views past e.place e.seat e.act) e.place e.seat e.act ≡ true) × (is_legal l past ≡ true)
    two = legal_parts l e past h

    go : (b : Bool) → EachSent HasId (sent (at p past)) → EachSent HasId (sent (cond b (e ∷ at p past) (at p past)))
    go true ih = each-append HasId (sent (at p past)) (sent_by e.act) ih (sent-by-ranged l past e.place e.seat e.act two.1 two.0)
    go false ih = ih
