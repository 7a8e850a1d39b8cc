-- What stands in a past, and so what a caller, a place and a packet name: where each post and each port that joins is within, so
-- are the outstanding call, the hand, and the members of each group.
-- l is a layout, n a number of sites. A past has its newest entry first.
use Rattle.std.proofs.Common.{ℕ, suc, ◌≡◌, ◌≤◌, ◌==◌, nat_le, Bool, true, false, cond, List, [], ◌∷◌, ◌++◌, take, drop, Option, Some, None, sym, subst, arith}
use Rattle.std.specs.Option.{option_or}
use Rattle.std.specs.List.{All, filter}
use Rattle.std.proofs.lemmas.Bool.{and_parts, and_from, leb-true, le-leb, false≢true}
use Rattle.std.proofs.lemmas.List.Elements.{All-nil, All-cons, All-head, All-tail, All-append, All-drop, All-take, All-filter}
use Rattle.chorus_ui.specs.declared.ui.Ui.{Ui}
use Rattle.chorus_ui.specs.declared.layout.Layout.{Layout}
use Rattle.chorus_ui.specs.Layout.{has_site}
use Rattle.chorus_ui.specs.Name.{same_ui}
use Rattle.chorus_entry.specs.declared.entry.Entry.{Entry}
use Rattle.chorus_entry.specs.declared.id.MsgId.{MsgId}
use Rattle.chorus_entry.specs.declared.hand.Hand.{Hand}
use Rattle.chorus_entry.specs.declared.tag.Tag.{Tag}
use Rattle.chorus_entry.specs.declared.tag.Tag.TheVariants as tags
use Rattle.chorus_entry.specs.declared.dest.Dest.{Dest}
use Rattle.chorus_entry.specs.declared.dest.Dest.TheVariants as dests
use Rattle.chorus_entry.specs.declared.act.Act.{Act}
use Rattle.chorus_entry.specs.declared.act.Act.TheVariants as acts
use Rattle.chorus_entry.specs.Act.{is_command_entry}
use Rattle.chorus_entry.specs.MsgId.{same_id}
use Rattle.chorus_entry.specs.Order.{is_at}
use Rattle.chorus_entry.specs.Members.{index_of, without}
use Rattle.chorus_world.specs.Views.{at, by, is_by}
use Rattle.chorus_world.specs.Posts.{Posted, posted_by, posted_in, post_of, source, tag_from, tag_of}
use Rattle.chorus_world.specs.Groups.{members_after, members}
use Rattle.chorus_world.specs.Seats as seats
use Rattle.chorus_calls.specs.Callers.{Seated}
use Rattle.law_network.specs.Records.{as_called, outstanding_as}
use Rattle.law_network.specs.Stands.{IsCaller}
use Rattle.law_replay.proofs.Places.{BothHave, Within, DestWithin, TagWithin, ActWithin, CallWithin, HandWithin, CallerWithin}

-- a site of a layout is one with more sites too
pub both-have : (n : ℕ) (l : Layout) (site : ℕ) → l.sites ≤ n → has_site l site ≡ true → BothHave n l site
both-have n l site le h =
    let two = and_parts (nat_le 1 site) (nat_le site l.sites) h in
    let high = leb-true site l.sites two.1 in
    record { less = h; more = and_from (nat_le 1 site) (nat_le site n) two.0 (le-leb site n (omega (arith, high, le))) }

abbrev pub EntryWithin : ℕ → Layout → Entry → Type 0
EntryWithin n l e = ActWithin n l e.act

-- an act that answers no command posts nothing, and nothing joins by it
pub follows-within : (n : ℕ) (l : Layout) (a : Act) → is_command_entry a ≡ false → ActWithin n l a
follows-within n l (acts.Post m d) h = absurd (false≢true (sym h))
follows-within n l (acts.Join g q) h = absurd (false≢true (sym h))
follows-within n l a h = tt

module _ (n : ℕ) (l : Layout) where
  view-within : (p : Entry → Bool) (past : List Entry) → All (EntryWithin n l) past → All (EntryWithin n l) (filter p past)
  view-within p past h = All-filter p (EntryWithin n l) past h

  -- Members.

  pub members-within : (g : Ui) (here : List Entry) → All (EntryWithin n l) here → All (Within n l) (members g here)
  members-within g [] h = All-nil (Within n l)
  members-within g (e ∷ here) h = go e.act (All-head (EntryWithin n l) e here h) (members-within g here (All-tail (EntryWithin n l) e here h))
    where
      joined : (b : Bool) (q : Ui) (qs : List Ui) → Within n l q → All (Within n l) qs → All (Within n l) (cond b (qs ++ q ∷ []) qs)
      joined true q qs k ih = All-append (Within n l) qs (q ∷ []) ih (All-cons (Within n l) q [] k (All-nil (Within n l)))
      joined false q qs k ih = ih

      left : (b : Bool) (q : Ui) (qs : List Ui) → All (Within n l) qs → All (Within n l) (cond b (without q qs) qs)
      left true q qs ih =
          let i = index_of q qs in
          All-append (Within n l) (take i qs) (drop (suc i) qs) (All-take (Within n l) i qs ih) (All-drop (Within n l) (suc i) qs ih)
      left false q qs ih = ih

      go : (a : Act) → ActWithin n l a → All (Within n l) (members g here) → All (Within n l) (members_after g a (members g here))
      go (acts.Join f q) k ih = joined (same_ui f g) q (members g here) k ih
      go (acts.Leave f q) k ih = left (same_ui f g) q (members g here) ih
      go a k ih = ih

  -- The outstanding call.

  abbrev CalledWithin : Option seats.Call → Type 0
  CalledWithin None = Unit {0}
  CalledWithin (Some call) = Within n l call.port × Within n l call.back

  called-or : (o p : Option seats.Call) → CalledWithin o → CalledWithin p → CalledWithin (option_or o p)
  called-or None p h k = k
  called-or (Some call) p h k = h

  called-in : (i : ℕ) (tag : Tag) (d : Dest) (body : List ℕ) → DestWithin n l d → TagWithin n l tag → CalledWithin (seats.call_in i tag d body)
  called-in i (tags.Request k back) (dests.Port q) body h t = by (k == i)
    where
      by : (b : Bool) → CalledWithin (cond b (Some (record { port = q; back = back; body = body })) None)
      by true = (h, t)
      by false = tt
  called-in i (tags.Request k back) (dests.All g) body h t = tt
  called-in i (tags.Request k back) (dests.One g) body h t = tt
  called-in i (tags.Request k back) (dests.OneAt g site) body h t = tt
  called-in i tags.Plain d body h t = tt
  called-in i (tags.Reply client k) d body h t = tt

  called-by : (i : ℕ) (a : Act) → ActWithin n l a → CalledWithin (seats.call_by i a)
  called-by i (acts.Post m d) h = called-in i m.tag d m.body h.0 h.1
  called-by i a h = tt

  called-within : (i : ℕ) (mine : List Entry) → All (EntryWithin n l) mine → CalledWithin (seats.first_call i mine)
  called-within i [] h = tt
  called-within i (e ∷ mine) h =
      called-or (seats.first_call i mine) (seats.call_by i e.act) (called-within i mine (All-tail (EntryWithin n l) e mine h)) (called-by i e.act (All-head (EntryWithin n l) e mine h))

  as-called-within : (i : ℕ) (o : Option seats.Call) → CalledWithin o → CallWithin n l (as_called i o)
  as-called-within i None h = tt
  as-called-within i (Some call) h = h

  outstanding-within : (mine : List Entry) (o : Option ℕ) → All (EntryWithin n l) mine → CallWithin n l (outstanding_as mine o)
  outstanding-within mine None h = tt
  outstanding-within mine (Some i) h = as-called-within i (seats.first_call i mine) (called-within i mine h)

  -- The hand.

  abbrev PostWithin : Option Posted → Type 0
  PostWithin None = Unit {0}
  PostWithin (Some m) = TagWithin n l m.message.tag

  post-or : (o p : Option Posted) → PostWithin o → PostWithin p → PostWithin (option_or o p)
  post-or None p h k = k
  post-or (Some m) p h k = h

  post-by : (x : MsgId) (p : ℕ) (a : Act) → ActWithin n l a → PostWithin (posted_by x p a)
  post-by x p (acts.Post m d) h = by (same_id m.id x)
    where
      by : (b : Bool) → PostWithin (cond b (Some (record { place = p; message = m; dest = d })) None)
      by true = h.1
      by false = tt
  post-by x p a h = tt

  post-within : (x : MsgId) (mine : List Entry) → All (EntryWithin n l) mine → PostWithin (posted_in x mine)
  post-within x [] h = tt
  post-within x (e ∷ mine) h =
      post-or (posted_in x mine) (posted_by x e.place e.act) (post-within x mine (All-tail (EntryWithin n l) e mine h)) (post-by x e.place e.act (All-head (EntryWithin n l) e mine h))

  tag-within : (x : MsgId) (past : List Entry) → All (EntryWithin n l) past → TagWithin n l (tag_of x past)
  tag-within x past h = from (post_of x past) (post-within (source x) (by x.seat past) (view-within (is_by x.seat) past h))
    where
      from : (o : Option Posted) → PostWithin o → TagWithin n l (tag_from o)
      from None k = tt
      from (Some m) k = k

  hand-with : (client : ℕ) (tag : Tag) (o : Option Hand) → TagWithin n l tag → HandWithin n l o → HandWithin n l (seats.hand_with client tag o)
  hand-with client tags.Plain o t h = h
  hand-with client (tags.Request i back) o t h = t
  hand-with client (tags.Reply c i) o t h = h

  hand-without : (tag : Tag) (o : Option Hand) → HandWithin n l o → HandWithin n l (seats.hand_without tag o)
  hand-without tags.Plain o h = h
  hand-without (tags.Request i back) o h = h
  hand-without (tags.Reply c i) o h = tt

  hand-after : (past : List Entry) (a : Act) (o : Option Hand) → All (EntryWithin n l) past → HandWithin n l o → HandWithin n l (seats.hand_after past a o)
  hand-after past (acts.Take q i x) o all h = hand-with x.seat (tag_of x past) o (tag-within x past all) h
  hand-after past (acts.Post m d) o all h = hand-without m.tag o h
  hand-after past a o all h = h

  hand-within : (past mine : List Entry) → All (EntryWithin n l) past → HandWithin n l (seats.hand past mine)
  hand-within past [] all = tt
  hand-within past (e ∷ mine) all = hand-after past e.act (seats.hand past mine) all (hand-within past mine all)

  -- So a caller of the past is within.
  pub caller-within : (past : List Entry) (seat : ℕ) (caller : Seated) → All (EntryWithin n l) past → IsCaller l past (by seat past) seat caller → CallerWithin n l caller
  caller-within past seat caller all is =
      record {
        call = subst (CallWithin n l) (sym is.call) (outstanding-within (by seat past) (seats.call (by seat past)) (view-within (is_by seat) past all));
        hand = subst (HandWithin n l) (sym is.hand) (hand-within past (by seat past) all);
      }

  pub here-within : (past : List Entry) (p : ℕ) → All (EntryWithin n l) past → All (EntryWithin n l) (at p past)
  here-within past p all = view-within (is_at p) past all
