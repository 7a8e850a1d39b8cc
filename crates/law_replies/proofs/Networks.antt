-- Replies in networks and in schedules.
-- n is a network, `table` a past that tells the same posts as the one that the network stands for.
use Rattle.std.proofs.Common.{ℕ, ◌≡◌, ◌↔◌, true, List, [], ◌∷◌, ◌++◌, Option, Some, None, is_some, slice_get, refl, sym, ◌∙◌, ap, subst, append_assoc}
use Rattle.std.proofs.lemmas.Bool.{false≢true, and_parts}
use Rattle.std.specs.Option.{option_map}
use Rattle.chorus_ui.specs.declared.ui.Ui.{Ui}
use Rattle.chorus_ui.specs.declared.layout.Layout.{Layout}
use Rattle.chorus_ui.specs.Layout.{IsLayout}
use Rattle.chorus_entry.specs.declared.entry.Entry.{Entry}
use Rattle.chorus_entry.specs.declared.id.MsgId.{MsgId}
use Rattle.chorus_entry.specs.declared.message.Message.{Message}
use Rattle.chorus_entry.specs.declared.command.Command.{Command}
use Rattle.chorus_entry.specs.declared.act.Act.TheVariants as acts
use Rattle.chorus_entry.specs.Places.{place_for}
use Rattle.chorus_world.specs.Posts.{post_of, posted_in, source}
use Rattle.chorus_world.specs.Steps.{is_legal}
use Rattle.chorus_world.proofs.Messages.PostLemmas.{post_kept}
use Rattle.chorus_world.proofs.Sorted.Holders.{run_is_legal}
use Rattle.chorus_ports.specs.Table.{find}
use Rattle.chorus_calls.specs.Callers.{Seated}
use Rattle.law_machine.specs.declared.reply.Reply.{Reply}
use Rattle.law_machine.specs.PlaceState.{Turn}
use Rattle.law_machine.specs.Doing.{first_message}
use Rattle.law_machine.specs.Replies.{reply}
use Rattle.law_network.specs.Network.{NetState, Event, place, turn_for, replied, schedule}
use Rattle.law_network.specs.Schedules.{may_happen, may_be}
use Rattle.law_network.specs.Stands.{Stands, actor_of}
use Rattle.law_network.specs.Ready.{IsReady}
use Rattle.law_network.specs.History.{said_by, history}
use Rattle.law_network.specs.Left.{merged_past}
use Rattle.law_network.proofs.Events.Said.{said-act, said_with}
use Rattle.law_network.proofs.Merge.Journals.{merge-is, views}
use Rattle.law_network.proofs.Promises.Promised.{stands-at, ready-at, legal-history, legal-merge}
use Rattle.law_replies.specs.Replies.{Says, Tells}
use Rattle.law_replies.specs.AsPosted.{IsAsPosted}
use Rattle.law_replies.specs.Networks.{IsToldSo, NetworksTell, SchedulesTell, TakesArePosted}
use Rattle.law_replies.proofs.Own.{IsFit, own-fits}
use Rattle.law_replies.proofs.AsPosted.{IsPostOf, as-posted, post-of, one-message, first-posted}
use Rattle.law_replies.proofs.Rows.{GivesFirst, IsAnswering, reply-tells}

-- the same was posted under each id
abbrev pub TellsPosts : List Entry → List Entry → Type 0
TellsPosts table past = (x : MsgId) → post_of x table ≡ post_of x past

pub moved : (table past : List Entry) (m : Message) → TellsPosts table past → IsPostOf m past → IsPostOf m table
moved table past m same h = record { post = h.post; is = same m.id ∙ h.is; tag = h.tag; body = h.body }

pub posted-as : (past : List Entry) (m : Message) → IsPostOf m past → IsAsPosted m past
posted-as past m h = as-posted past m h.post h.is h.tag h.body

module _ (n : NetState) (past table : List Entry) (w : Stands n past) (l : Layout) (legal : is_legal l table ≡ true) (same : TellsPosts table past) where
  legal-past : is_legal n.layout past ≡ true
  legal-past = run_is_legal n.layout (actor_of n) past w.run

  -- the message that waits first in a port of a place was posted
  pub first-is : (p : ℕ) (q : Ui) (m : Message) → first_message (find q (place p n).ports) ≡ Some m → IsPostOf m table
  first-is p q m h = moved table past m same (first-posted n.layout past q p m legal-past (ap first_message (sym (w.ports p q)) ∙ h))

  gives-posted : (p : ℕ) (q : Ui) (position : ℕ) (x : MsgId) → IsFit (place p n).ports (acts.Take q position x) → GivesFirst (λ r m. IsAsPosted m table) q x (first_message (find q (place p n).ports))
  gives-posted p q position x f =
      let post = first-is p q f.0 f.1.0 in
      record {
        message = f.0;
        is = f.1.0;
        id = f.1.1;
        given = posted-as table f.0 post;
        only = λ m given is. one-message table m f.0 (post-of l table m legal given) post (is ∙ sym f.1.1);
      }

  module _ (ready : IsReady n past) (seat : ℕ) (c : Command) (r : Reply) where
    caller-tells : (o : Option Seated) → is_some o ≡ true → (option_map (λ (caller : Seated). reply c (turn_for c caller n)) o ≡ Some r) ↔ Tells (λ q m. IsAsPosted m table) (said_with c o n) r
    caller-tells None some = absurd (false≢true some)
    caller-tells (Some caller) some =
        let t : Turn = turn_for c caller n in
        let p = place_for n.layout caller.actor c in
        let answering : IsAnswering (λ q m. IsAsPosted m table) c t = record {
          ready = λ k. ready.tried p k;
          copy = λ m d e. subst (IsFit t.place.ports) e (own-fits c t);
          takes = λ q position x e. gives-posted p q position x (subst (IsFit t.place.ports) e (own-fits c t));
        } in
        let both = reply-tells (λ q m. IsAsPosted m table) c t answering (said_with c (Some caller) n)
        (λ a said. subst (λ zs. Says zs a) (said-act c t) said) (λ a said. subst (λ zs. Says zs a) (sym (said-act c t)) said) r in
        (λ e. both.0 (let is : reply c t ≡ r = cc in is), λ told. ap (λ z. Some z) (both.1 told))

  pub told-so : IsReady n past → IsToldSo n table
  told-so ready seat c r some = caller-tells ready seat c r (slice_get n.callers seat) some

pub networks-tell : NetworksTell
networks-tell n past w ready = told-so n past past w n.layout (run_is_legal n.layout (actor_of n) past w.run) (λ x. refl) ready

-- the merge tells the posts of the history
pub merge-posts : (n : NetState) (past : List Entry) → Stands n past → TellsPosts (merged_past n) past
merge-posts n past w x = ap (post_of x) (merge-is n past w) ∙ ap (posted_in (source x)) ((views n past w).seats x.seat)

pub schedules-tell : SchedulesTell
schedules-tell l es shape may =
    let n = schedule l es in
    let w = stands-at l es shape may in
    told-so n (history l es) (merged_past n) w l (legal-merge l es shape may) (merge-posts n (history l es) w) (ready-at l es shape may)

-- What was received stays as posted.

-- older events may be where more of them may
may-older : (l : Layout) (later older : List Event) → may_be l (later ++ older) ≡ true → may_be l older ≡ true
may-older l [] older h = h
may-older l (e ∷ later) older h = may-older l later older (and_parts (may_happen e (schedule l (later ++ older))) (may_be l (later ++ older)) h).1

-- later events put new entries in front
history-more : (l : Layout) (later older : List Event) → (more : List Entry) × (history l (later ++ older) ≡ more ++ history l older)
history-more l [] older = ([], refl)
history-more l (e ∷ later) older =
    let rest = history-more l later older in
    let new = said_by e (schedule l (later ++ older)) in
    (new ++ rest.0, ap (λ zs. new ++ zs) rest.1 ∙ sym (append_assoc new rest.0 (history l older)))

came : (n : NetState) (seat : ℕ) (c : Command) (r : Reply) → replied seat c n ≡ Some r → is_some (slice_get n.callers seat) ≡ true
came n seat c r h = by (slice_get n.callers seat) h
  where
    by : (o : Option Seated) → option_map (λ (caller : Seated). reply c (turn_for c caller n)) o ≡ Some r → is_some o ≡ true
    by None k = absurd (cc)
    by (Some caller) k = refl

-- where a message that a past tells was posted, the merge of a longer schedule tells it too
pub still-posted : (l : Layout) (later older : List Event) (m : Message) → IsLayout l → may_be l (later ++ older) ≡ true → IsPostOf m (history l older) → IsAsPosted m (merged_past (schedule l (later ++ older)))
still-posted l later older m shape may h =
    let all = later ++ older in
    let more = history-more l later older in
    let kept : post_of m.id (history l all) ≡ Some h.post = ap (post_of m.id) more.1 ∙ post_kept m.id more.0 (history l older) h.post h.is in
    let is : IsPostOf m (history l all) = record { post = h.post; is = kept; tag = h.tag; body = h.body } in
    let table = merged_past (schedule l all) in
    posted-as table m (moved table (history l all) m (merge-posts (schedule l all) (history l all) (stands-at l all shape may)) is)

pub takes-are-posted : TakesArePosted
takes-are-posted l later older seat c position m settled shape may h =
    let n = schedule l older in
    let before = may-older l later older may in
    let w = stands-at l older shape before in
    let told = (networks-tell n (history l older) w (ready-at l older shape before) seat c (Reply.Taken position m settled) (came n seat c (Reply.Taken position m settled) h)).0 h in
    still-posted l later older m shape may (post-of l (history l older) m (legal-history l older shape before) told.0.1.1)
