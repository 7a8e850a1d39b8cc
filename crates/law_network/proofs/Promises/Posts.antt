-- Over a schedule, what is posted is within its range: the number of its request or reply, its body, and the site that it demands.
use Rattle.std.proofs.Common.{ℕ, ◌≡◌, ◌≤◌, ◌+◌, ◌==◌, nat_le, Bool, true, false, ◌&&◌, cond, List, [], ◌∷◌, length, Option, Some, None, slice_get, refl, sym, ◌∙◌, ap, subst, inl, inr, arith}
use Rattle.std.specs.List.{All}
use Rattle.std.proofs.lemmas.Bool.{and_parts, and_from, le-leb, leb-true, eqb-true, true≢false}
use Rattle.std.proofs.lemmas.List.Elements.{All-nil, All-cons, All-head, All-tail, All-append, All-filter, All-weaker}
use Rattle.chorus_ui.specs.declared.layout.Layout.{Layout}
use Rattle.chorus_ui.specs.Layout.{IsLayout}
use Rattle.chorus_ui.specs.declared.limits.TheConstants.{BODY_LIMIT}
use Rattle.chorus_entry.specs.declared.entry.Entry.{Entry}
use Rattle.chorus_entry.specs.declared.id.MsgId.{MsgId}
use Rattle.chorus_entry.specs.declared.hand.Hand.{Hand}
use Rattle.chorus_entry.specs.declared.message.Message.{Message}
use Rattle.chorus_entry.specs.declared.tag.Tag.{Tag}
use Rattle.chorus_entry.specs.declared.tag.Tag.TheVariants as tags
use Rattle.chorus_entry.specs.declared.dest.Dest.{Dest}
use Rattle.chorus_entry.specs.declared.dest.Dest.TheVariants as dests
use Rattle.chorus_entry.specs.declared.act.Act.{Act}
use Rattle.chorus_entry.specs.declared.act.Act.TheVariants as acts
use Rattle.chorus_entry.specs.declared.command.Command.{Command}
use Rattle.chorus_entry.specs.declared.packet.Packet.{Packet}
use Rattle.chorus_entry.specs.Act.{is_command_entry}
use Rattle.chorus_entry.specs.Command.{meets_conditions, demands_a_site, has_body_in_limit}
use Rattle.chorus_entry.specs.Kinds.{has_kinds_in_dest}
use Rattle.chorus_entry.specs.Ranges.{has_range_of_tag}
use Rattle.chorus_world.specs.Views.{by, is_by}
use Rattle.chorus_world.specs.Posts.{Posted, post_of, posted_in, posted_by, source, tag_from}
use Rattle.chorus_world.specs.Seats as seats
use Rattle.chorus_world.proofs.Messages.SendingLemmas.{from_or}
use Rattle.chorus_world.proofs.Groups.ChoiceLemmas.{posted_is}
use Rattle.chorus_calls.specs.Clients.{Call}
use Rattle.chorus_calls.specs.Callers.{Seated}
use Rattle.law_machine.specs.PlaceState.{PlaceState, next_entry}
use Rattle.law_machine.specs.Own.{own, next_message}
use Rattle.law_machine.specs.PlaceMachine.{begun, begun_by}
use Rattle.law_machine.proofs.Machine.Owns.{IsOwn, Sends, Calls, Retries, Replies, is-own}
use Rattle.law_network.specs.Packets.{first_on}
use Rattle.law_network.specs.Network.{NetState, Event, Enter, Act as Acts, Deliver, See, place, turn_for, schedule}
use Rattle.law_network.specs.Records.{as_called, outstanding_as, outstanding}
use Rattle.law_network.specs.Stands.{Stands}
use Rattle.law_network.specs.Schedules.{has_number_left, may_give, may_happen, may_be}
use Rattle.law_network.specs.History.{said_by, history}
use Rattle.law_network.proofs.Events.InOrder.{in-order}
use Rattle.law_network.proofs.Events.Said.{said_with, said_on, said_at, act-goes, work-goes, said-act, said-work}

abbrev pub fits_in_post : Message → Dest → Bool
fits_in_post m d = has_range_of_tag m.tag && nat_le (length m.body) BODY_LIMIT && demands_a_site d

abbrev pub posts_fit : Act → Bool
posts_fit (acts.Post m d) = fits_in_post m d
posts_fit _ = true

abbrev pub PostsFit : Entry → Type 0
PostsFit e = posts_fit e.act ≡ true

-- What was posted fits.

posted-in-fits : (x : MsgId) (es : List Entry) (d : Posted) → All PostsFit es → posted_in x es ≡ Some d → fits_in_post d.message d.dest ≡ true
posted-in-fits x [] d h k = absurd (cc)
posted-in-fits x (e ∷ es) d h k =
    elim (from_or (posted_in x es) (posted_by x e.place e.act) d k) [
      | inl old ↦ posted-in-fits x es d (All-tail PostsFit e es h) old
      | inr new ↦ ap posts_fit (sym (posted_is x e.place e.act d new.1).act) ∙ All-head PostsFit e es h
    ]

pub post-fits : (x : MsgId) (past : List Entry) (d : Posted) → All PostsFit past → post_of x past ≡ Some d → fits_in_post d.message d.dest ≡ true
post-fits x past d h k = posted-in-fits (source x) (by x.seat past) d (All-filter (is_by x.seat) PostsFit past h) k

-- a call that is outstanding
call-in-fits : (n : ℕ) (m : Message) (d : Dest) (c : seats.Call) → fits_in_post m d ≡ true → seats.call_in n m.tag d m.body ≡ Some c → (1 ≤ n) × (length c.body ≤ 4096)
call-in-fits n m d c fits h = go m.tag d refl refl h
  where
    tag_ok : has_range_of_tag m.tag ≡ true
    tag_ok = (and_parts (has_range_of_tag m.tag) (nat_le (length m.body) 4096) (and_parts (has_range_of_tag m.tag && nat_le (length m.body) 4096) (demands_a_site d) fits).0).0

    body_ok : length m.body ≤ 4096
    body_ok = leb-true (length m.body) 4096 (and_parts (has_range_of_tag m.tag) (nat_le (length m.body) 4096) (and_parts (has_range_of_tag m.tag && nat_le (length m.body) 4096) (demands_a_site d) fits).0).1

    go : (g : Tag) (e : Dest) → m.tag ≡ g → d ≡ e → seats.call_in n g e m.body ≡ Some c → (1 ≤ n) × (length c.body ≤ 4096)
    go (tags.Request k back) (dests.Port q) is to i = by (k == n) refl i
      where
        by : (b : Bool) → (k == n) ≡ b → cond b (Some (record { port = q; back = back; body = m.body })) None ≡ Some c → (1 ≤ n) × (length c.body ≤ 4096)
        by true t z =
            let same : k ≡ n = eqb-true k n t in
            let some = leb-true 1 k (ap has_range_of_tag (sym is) ∙ tag_ok) in
            let body : m.body ≡ c.body = ap body_in z in
            (omega (arith, same, some), subst (λ xs. length xs ≤ 4096) body body_ok)
          where
            body_in : Option seats.Call → List ℕ
            body_in None = []
            body_in (Some y) = y.body
        by false t z = absurd (cc)
    go (tags.Request k back) (dests.All g) is to i = absurd (cc)
    go (tags.Request k back) (dests.One g) is to i = absurd (cc)
    go (tags.Request k back) (dests.OneAt g s) is to i = absurd (cc)
    go tags.Plain e is to i = absurd (cc)
    go (tags.Reply j k) e is to i = absurd (cc)

called-fits : (n : ℕ) (mine : List Entry) (c : seats.Call) → All PostsFit mine → seats.first_call n mine ≡ Some c → (1 ≤ n) × (length c.body ≤ 4096)
called-fits n [] c h k = absurd (cc)
called-fits n (e ∷ mine) c h k =
    elim (from_or (seats.first_call n mine) (seats.call_by n e.act) c k) [
      | inl old ↦ called-fits n mine c (All-tail PostsFit e mine h) old
      | inr new ↦ by e.act refl (All-head PostsFit e mine h) new.1
    ]
  where
    by : (a : Act) → e.act ≡ a → posts_fit a ≡ true → seats.call_by n a ≡ Some c → (1 ≤ n) × (length c.body ≤ 4096)
    by (acts.Post m d) is f i = call-in-fits n m d c f i
    by a is f i = absurd (cc)

-- a request in hand
hand-with-fits : (client : ℕ) (o : Option Posted) (old : Option Hand) (h : Hand) → ((d : Posted) → o ≡ Some d → has_range_of_tag d.message.tag ≡ true) → ((y : Hand) → old ≡ Some y → 1 ≤ y.number) → seats.hand_with client (tag_from o) old ≡ Some h → 1 ≤ h.number
hand-with-fits client None old h fits was k = was h k
hand-with-fits client (Some d) old h fits was k = by d.message.tag refl k
  where
    number_of_hand : Option Hand → ℕ
    number_of_hand None = 0
    number_of_hand (Some y) = y.number

    by : (g : Tag) → d.message.tag ≡ g → seats.hand_with client g old ≡ Some h → 1 ≤ h.number
    by tags.Plain is i = was h i
    by (tags.Reply j n) is i = was h i
    by (tags.Request n back) is i =
        let same : n ≡ h.number = ap number_of_hand i in
        let some = leb-true 1 n (ap has_range_of_tag (sym is) ∙ fits d refl) in
        omega (arith, same, some)

hand-without-fits : (g : Tag) (old : Option Hand) (h : Hand) → ((y : Hand) → old ≡ Some y → 1 ≤ y.number) → seats.hand_without g old ≡ Some h → 1 ≤ h.number
hand-without-fits tags.Plain old h was k = was h k
hand-without-fits (tags.Request n back) old h was k = was h k
hand-without-fits (tags.Reply j n) old h was k = absurd (cc)

hand-fits : (past mine : List Entry) (h : Hand) → All PostsFit past → seats.hand past mine ≡ Some h → 1 ≤ h.number
hand-fits past [] h all k = absurd (cc)
hand-fits past (e ∷ mine) h all k = by e.act k (λ y. hand-fits past mine y all)
  where
    by : (a : Act) → seats.hand_after past a (seats.hand past mine) ≡ Some h → ((y : Hand) → seats.hand past mine ≡ Some y → 1 ≤ y.number) → 1 ≤ h.number
    by (acts.Take q n x) i ih =
        hand-with-fits x.seat (post_of x past) (seats.hand past mine) h
        (λ d o. (and_parts (has_range_of_tag d.message.tag) (nat_le (length d.message.body) 4096) (and_parts (has_range_of_tag d.message.tag && nat_le (length d.message.body) 4096) (demands_a_site d.dest) (post-fits x past d all o)).0).0) ih i
    by (acts.Post m d) i ih = hand-without-fits m.tag (seats.hand past mine) h ih i
    by a i ih = ih h i

-- An own act that posts.

new-fits : (tag : Tag) (body : List ℕ) (caller : Seated) (d : Dest) → has_range_of_tag tag ≡ true → length body ≤ 4096 → demands_a_site d ≡ true → fits_in_post (next_message tag body caller) d ≡ true
new-fits tag body caller d t b s =
    and_from (has_range_of_tag tag && nat_le (length body) 4096) (demands_a_site d) (and_from (has_range_of_tag tag) (nat_le (length body) 4096) t (le-leb (length body) 4096 b)) s

module _ (n : NetState) (past : List Entry) (s : Stands n past) (all : All PostsFit past) (k : ℕ) (caller : Seated) (h : slice_get n.callers k ≡ Some caller) where
  mine-fit : All PostsFit (by k past)
  mine-fit = All-filter (is_by k) PostsFit past all

  retry-fits : (call : Call) → caller.client.outstanding ≡ Some call → fits_in_post (next_message (tags.Request call.number call.back) call.body caller) (dests.Port call.port) ≡ true
  retry-fits call e =
      let is : outstanding (by k past) ≡ Some call = sym (s.callers k caller h).call ∙ e in
      let f = go (seats.call (by k past)) is in
      new-fits (tags.Request call.number call.back) call.body caller (dests.Port call.port) (le-leb 1 call.number f.0) f.1 refl
    where
      named : (m : ℕ) (o : Option seats.Call) → seats.first_call m (by k past) ≡ o → as_called m o ≡ Some call → (1 ≤ call.number) × (length call.body ≤ 4096)
      named m None f i = absurd (cc)
      named m (Some c) f i =
          let fits = called-fits m (by k past) c mine-fit f in
          let number : m ≡ call.number = ap number_in i in
          let body : c.body ≡ call.body = ap body_in i in
          (subst (λ z. 1 ≤ z) number fits.0, subst (λ xs. length xs ≤ 4096) body fits.1)
        where
          number_in : Option Call → ℕ
          number_in None = 0
          number_in (Some d) = d.number

          body_in : Option Call → List ℕ
          body_in None = []
          body_in (Some d) = d.body

      go : (o : Option ℕ) → outstanding_as (by k past) o ≡ Some call → (1 ≤ call.number) × (length call.body ≤ 4096)
      go None i = absurd (cc)
      go (Some m) i = named m (seats.first_call m (by k past)) refl i

  reply-fits : (body : List ℕ) (z : Hand) → caller.hand ≡ Some z → length body ≤ 4096 → fits_in_post (next_message (tags.Reply z.client z.number) body caller) (dests.Port z.back) ≡ true
  reply-fits body z e b =
      let is : seats.hand past (by k past) ≡ Some z = sym (s.callers k caller h).hand ∙ e in
      new-fits (tags.Reply z.client z.number) body caller (dests.Port z.back) (le-leb 1 z.number (hand-fits past (by k past) z all is)) b refl

  own-fits : (p : PlaceState) {c : Command} {a : Act} → IsOwn (begun p caller) c a → meets_conditions c ≡ true → has_body_in_limit c ≡ true → posts_fit a ≡ true
  own-fits p (Sends d body) m b =
      new-fits tags.Plain body caller d refl (leb-true (length body) 4096 b) (and_parts (has_kinds_in_dest d) (demands_a_site d) m).1
  own-fits p (Calls q back body e) m b =
      new-fits (tags.Request (caller.client.given + 1) back) body caller (dests.Port q) (le-leb 1 (caller.client.given + 1) (omega arith)) (leb-true (length body) 4096 b) refl
  own-fits p (Retries call e) m b = retry-fits call e
  own-fits p (Replies body z e) m b = reply-fits body z e (leb-true (length body) 4096 b)
  own-fits p _ m b = refl

  pub own-post-fits : (c : Command) → meets_conditions c ≡ true → has_body_in_limit c ≡ true → posts_fit (own c (turn_for c caller n)) ≡ true
  own-post-fits c m b = let t = turn_for c caller n in own-fits t.place (is-own c t) m b

-- entries that answer no command post nothing
follow-fits : (es : List Entry) → All (λ (e : Entry). is_command_entry e.act ≡ false) es → All PostsFit es
follow-fits es h = All-weaker (λ (e : Entry). is_command_entry e.act ≡ false) PostsFit (λ e k. by e.act k) es h
  where
    by : (a : Act) → is_command_entry a ≡ false → posts_fit a ≡ true
    by (acts.Post m d) k = absurd (true≢false k)
    by a k = refl

-- The history.
module _ (l : Layout) (shape : IsLayout l) where
  given-fits : (es : List Event) (k : ℕ) (c : Command) (o : Option Seated) → may_be l es ≡ true → slice_get (schedule l es).callers k ≡ o → may_give o c ≡ true → All PostsFit (history l es) → All PostsFit (said_with c o (schedule l es))
  given-fits es k c None may e gives all = All-nil PostsFit
  given-fits es k c (Some caller) may e gives all =
      let n = schedule l es in
      let t = turn_for c caller n in
      let both = and_parts (meets_conditions c && has_body_in_limit c) (has_number_left caller c) gives in
      let one = and_parts (meets_conditions c) (has_body_in_limit c) both.0 in
      let own_fits = own-post-fits n (history l es) (in-order l es shape may).0 all k caller e c one.0 one.1 in
      let g = act-goes c t in
      subst (All PostsFit) (sym (said-act c t))
      (All-append PostsFit g.newer (next_entry (own c t) t ∷ []) (follow-fits g.newer g.follow) (All-cons PostsFit (next_entry (own c t) t) [] own_fits (All-nil PostsFit)))

  worked-fits : (b : ℕ) (caller : Seated) (o : Option Packet) (n : NetState) → All PostsFit (said_on b caller o n)
  worked-fits b caller None n = All-nil PostsFit
  worked-fits b caller (Some q) n =
      let t = begun_by (place b n) caller q in
      subst (All PostsFit) (sym (said-work q t)) (follow-fits (work-goes q t).newer (work-goes q t).follow)

  delivered-fits : (a b : ℕ) (o : Option Seated) (n : NetState) → All PostsFit (said_at a b o n)
  delivered-fits a b None n = All-nil PostsFit
  delivered-fits a b (Some caller) n = worked-fits b caller (first_on a b n.packets) n

  pub history-fits : (es : List Event) → may_be l es ≡ true → All PostsFit (history l es)
  history-fits [] may = All-nil PostsFit
  history-fits (Enter actor last ∷ es) may = history-fits es (and_parts (may_happen (Enter actor last) (schedule l es)) (may_be l es) may).1
  history-fits (Acts k c ∷ es) may =
      let two = and_parts (may_happen (Acts k c) (schedule l es)) (may_be l es) may in
      let old = history-fits es two.1 in
      All-append PostsFit (said_by (Acts k c) (schedule l es)) (history l es) (given-fits es k c (slice_get (schedule l es).callers k) two.1 refl two.0 old) old
  history-fits (Deliver k a b ∷ es) may =
      let two = and_parts (may_happen (Deliver k a b) (schedule l es)) (may_be l es) may in
      All-append PostsFit (said_by (Deliver k a b) (schedule l es)) (history l es) (delivered-fits a b (slice_get (schedule l es).callers k) (schedule l es)) (history-fits es two.1)
  history-fits (See k c ∷ es) may = history-fits es (and_parts (may_happen (See k c) (schedule l es)) (may_be l es) may).1
