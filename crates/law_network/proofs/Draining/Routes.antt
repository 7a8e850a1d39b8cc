-- The ports and routes for which messages may wait: each once, and all that a legal past sends for.
use Rattle.std.proofs.Common.{ℕ, ◌≡◌, ◌+◌, Bool, true, false, not, cond, List, [], ◌∷◌, ◌++◌, Option, Some, None, refl, sym, ◌∙◌, ap, subst, ◌||◌}
use Rattle.std.specs.List.{All, filter}
use Rattle.std.proofs.lemmas.Bool.{false≢true, true≢false}
use Rattle.std.proofs.lemmas.List.Elements.{All-nil, All-head, All-tail, All-push, All-weaker}
use Rattle.chorus_ui.specs.declared.ui.Ui.{Ui}
use Rattle.chorus_ui.specs.Name.{same_ui}
use Rattle.chorus_ui.proofs.Names.{from_same_ui}
use Rattle.chorus_ui.specs.declared.layout.Layout.{Layout}
use Rattle.chorus_entry.specs.declared.entry.Entry.{Entry}
use Rattle.chorus_entry.specs.declared.id.MsgId.{MsgId}
use Rattle.chorus_entry.specs.declared.dest.Dest.{Dest}
use Rattle.chorus_entry.specs.declared.dest.Dest.TheVariants as dests
use Rattle.chorus_entry.specs.declared.act.Act.{Act}
use Rattle.chorus_entry.specs.declared.act.Act.TheVariants as acts
use Rattle.chorus_entry.specs.Dest.{group_in}
use Rattle.chorus_entry.specs.Act.{is_command_entry}
use Rattle.chorus_world.specs.declared.place.Sent.{Sent}
use Rattle.chorus_world.specs.Views.{views, at}
use Rattle.chorus_entry.specs.Order.{is_at}
use Rattle.chorus_world.specs.Groups.{members, members_after, choice}
use Rattle.chorus_entry.specs.Members.{without}
use Rattle.chorus_world.specs.Places.{sent, sent_by, copies, unsettled, is_settled}
use Rattle.chorus_world.specs.Steps.{act_may, is_legal}
use Rattle.chorus_world.proofs.Steps.LegalLemmas.{legal_parts}
use Rattle.place_unsettled.specs.declared.wait.Key.{Key}
use Rattle.place_unsettled.specs.Queues.{same_key}
use Rattle.place_unsettled.proofs.Keys.{same_key-refl}
use Rattle.chorus_world.proofs.Messages.SentFacts.{EachSent, each-append, each-filter, each-map}
use Rattle.chorus_world.proofs.Groups.Members.{all-without, all-chosen, choose-names}
use Rattle.law_machine.specs.Choosing.{by_group}
use Rattle.law_machine.specs.Doing.{direct}
use Rattle.law_network.specs.Records.{is_for, sent_for}
use Rattle.law_network.proofs.Tables.Keys.{key-of}
use Rattle.law_network.specs.Rank.{is_among, key_of, with_key, keys}
use Rattle.law_network.proofs.Draining.Weights.{AreApart}
use Rattle.law_network.proofs.Draining.Working.{HasMember}

among-more : (k : Key) (o : Option Key) (ks : List Key) → is_among k ks ≡ true → is_among k (with_key o ks) ≡ true
among-more k None ks h = h
among-more k (Some j) ks h = go (is_among j ks) (same_key k j)
  where
    go : (b c : Bool) → is_among k (cond b ks (j ∷ ks)) ≡ true
    go true c = h
    go false c = first (same_key k j)
      where
        first : (d : Bool) → (d || is_among k ks) ≡ true
        first true = refl
        first false = h

among-new : (k : Key) (ks : List Key) → is_among k (with_key (Some k) ks) ≡ true
among-new k ks = go (is_among k ks) refl
  where
    go : (b : Bool) → is_among k ks ≡ b → is_among k (cond b ks (k ∷ ks)) ≡ true
    go true e = e
    go false e = ap (λ d. (d || is_among k ks)) (same_key-refl k)

apart-more : (o : Option Key) (ks : List Key) → AreApart ks → AreApart (with_key o ks)
apart-more None ks h = h
apart-more (Some k) ks h = go (is_among k ks) refl
  where
    go : (b : Bool) → is_among k ks ≡ b → AreApart (cond b ks (k ∷ ks))
    go true e = h
    go false e = (e, h)

pub keys-apart : (past : List Entry) → AreApart (keys past)
keys-apart [] = tt
keys-apart (e ∷ past) = apart-more (key_of e.act) (keys past) (keys-apart past)

-- entries that answer no command bring no more
no-key : (a : Act) → is_command_entry a ≡ false → key_of a ≡ None
no-key (acts.Post m d) h = absurd (true≢false h)
no-key (acts.Join g q) h = absurd (true≢false h)
no-key a h = refl

pub keys-follow : (es past : List Entry) → All (λ (e : Entry). is_command_entry e.act ≡ false) es → keys (es ++ past) ≡ keys past
keys-follow [] past h = refl
keys-follow (e ∷ es) past h =
    let P : Entry → Type 0 = λ (f : Entry). is_command_entry f.act ≡ false in
    ap (λ o. with_key o (keys (es ++ past))) (no-key e.act (All-head P e es h)) ∙ keys-follow es past (All-tail P e es h)

-- Members of groups.

members-more : (g : Ui) (o : Option Key) (ks : List Key) (qs : List Ui) → All (HasMember ks g) qs → All (HasMember (with_key o ks) g) qs
members-more g o ks qs h = All-weaker (HasMember ks g) (HasMember (with_key o ks) g) (λ q k. among-more (by_group g q) o ks k) qs h

members-after : (g : Ui) (a : Act) (ks : List Key) (qs : List Ui) → All (HasMember ks g) qs → All (HasMember (with_key (key_of a) ks) g) (members_after g a qs)
members-after g (acts.Join h q) ks qs old = go (same_ui h g) refl
  where
    more : All (HasMember (with_key (Some (by_group h q)) ks) g) qs
    more = members-more g (Some (by_group h q)) ks qs old

    go : (b : Bool) → same_ui h g ≡ b → All (HasMember (with_key (Some (by_group h q)) ks) g) (cond b (qs ++ q ∷ []) qs)
    go true e =
        let new : HasMember (with_key (Some (by_group h q)) ks) g q = subst (λ z. HasMember (with_key (Some (by_group h q)) ks) z q) (from_same_ui h g e) (among-new (by_group h q) ks) in
        All-push (HasMember (with_key (Some (by_group h q)) ks) g) qs q more new
    go false e = more
members-after g (acts.Leave h q) ks qs old = go (same_ui h g)
  where
    go : (b : Bool) → All (HasMember ks g) (cond b (without q qs) qs)
    go true = all-without (HasMember ks g) q qs old
    go false = old
members-after g a ks qs old = members-more g (key_of a) ks qs old

pub members-keyed : (g : Ui) (p : ℕ) (past : List Entry) → All (HasMember (keys past) g) (members g (at p past))
members-keyed g p [] = All-nil (HasMember [] g)
members-keyed g p (e ∷ past) = go (is_at p e) (members-keyed g p past)
  where
    go : (b : Bool) → All (HasMember (keys past) g) (members g (at p past)) → All (HasMember (keys (e ∷ past)) g) (members g (cond b (e ∷ at p past) (at p past)))
    go true ih = members-after g e.act (keys past) (members g (at p past)) ih
    go false ih = members-more g (key_of e.act) (keys past) (members g (at p past)) ih

pub choices-keyed : (l : Layout) (d : Dest) (g : Ui) (p : ℕ) (past : List Entry) → group_in d ≡ Some g → All (HasMember (keys past) g) (choice l d (at p past))
choices-keyed l d g p past e = all-chosen (HasMember (keys past) g) l d g (at p past) e (members-keyed g p past)

-- Messages that were sent.

abbrev goes_by : Sent → Key
goes_by m = record { port = m.port; route = m.route }

abbrev IsKeyed : List Key → Sent → Type 0
IsKeyed ks m = is_among (goes_by m) ks ≡ true

copies-keyed : (ks : List Key) (x : MsgId) (g : Ui) (n : ℕ) (qs : List Ui) → All (HasMember ks g) qs → EachSent (IsKeyed ks) (copies x g n qs)
copies-keyed ks x g n [] h = tt
copies-keyed ks x g n (q ∷ qs) h = (All-head (HasMember ks g) q qs h, copies-keyed ks x g (n + 1) qs (All-tail (HasMember ks g) q qs h))

sent-by-keyed : (l : Layout) (past : List Entry) (p s : ℕ) (a : Act) → act_may l (views past p s a) p s a ≡ true → EachSent (IsKeyed (with_key (key_of a) (keys past))) (sent_by a)
sent-by-keyed l past p s (acts.Post m (dests.Port q)) h = (among-new (direct q) (keys past), tt)
sent-by-keyed l past p s (acts.Post m (dests.All g)) h = tt
sent-by-keyed l past p s (acts.Post m (dests.One g)) h = tt
sent-by-keyed l past p s (acts.Post m (dests.OneAt g n)) h = tt
sent-by-keyed l past p s (acts.Choose x g qs) h =
    let c = choose-names l past p s x g qs h in
    copies-keyed (keys past) x g 1 qs (subst (All (HasMember (keys past) g)) (sym c.2) (choices-keyed l c.0 g p past c.1))
sent-by-keyed l past p s a h = tt

sent-keyed : (l : Layout) (past : List Entry) (p : ℕ) → is_legal l past ≡ true → EachSent (IsKeyed (keys past)) (sent (at p past))
sent-keyed l [] p h = tt
sent-keyed l (e ∷ past) p h = go (is_at p e) refl (sent-keyed l past p two.1)
  where
    two : (act_may l (views past e.place e.seat e.act) e.place e.seat e.act ≡ true) × (is_legal l past ≡ true)
    two = legal_parts l e past h

    more : EachSent (IsKeyed (keys past)) (sent (at p past)) → EachSent (IsKeyed (keys (e ∷ past))) (sent (at p past))
    more ih = each-map (IsKeyed (keys past)) (IsKeyed (keys (e ∷ past))) (λ m k. among-more (goes_by m) (key_of e.act) (keys past) k) (sent (at p past)) ih

    go : (b : Bool) → is_at p e ≡ b → EachSent (IsKeyed (keys past)) (sent (at p past)) → EachSent (IsKeyed (keys (e ∷ past))) (sent (cond b (e ∷ at p past) (at p past)))
    go true here ih =
        each-append (IsKeyed (keys (e ∷ past))) (sent (at p past)) (sent_by e.act) (more ih) (sent-by-keyed l past e.place e.seat e.act two.0)
    go false away ih = more ih

-- no message waits for another port and route
none-for : (ks : List Key) (k : Key) (ms : List Sent) → is_among k ks ≡ false → EachSent (IsKeyed ks) ms → filter (is_for k) ms ≡ []
none-for ks k [] off h = refl
none-for ks k (m ∷ ms) off h = go (is_for k m) refl (none-for ks k ms off h.1)
  where
    go : (b : Bool) → is_for k m ≡ b → filter (is_for k) ms ≡ [] → cond b (m ∷ filter (is_for k) ms) (filter (is_for k) ms) ≡ []
    go true e ih = absurd (false≢true (sym off ∙ subst (λ z. is_among z ks ≡ true) (sym (key-of k m e)) h.0))
    go false e ih = ih

pub none-waits-for : (l : Layout) (past : List Entry) (p : ℕ) (k : Key) → is_legal l past ≡ true → is_among k (keys past) ≡ false → sent_for past p k ≡ []
none-waits-for l past p k legal off =
    none-for (keys past) k (unsettled (at p past) (sent (at p past))) off
    (each-filter (IsKeyed (keys past)) (λ m. not (is_settled m.id (at p past))) (sent (at p past)) (sent-keyed l past p legal))
