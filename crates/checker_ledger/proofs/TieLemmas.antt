-- The ties of the tables, after one entry more.
use Rattle.std.proofs.Common.{ℕ, ◌≡◌, ◌<◌, ◌^◌, Bool, true, false, cond, not, ◌||◌, List, [], ◌∷◌, ◌++◌, length, filter, Option, Some, None, refl, sym, ◌∙◌, ap, subst, arith}
use Rattle.std.specs.Prelude.{unwrap_or}
use Rattle.std.specs.HashMap.{spare}
use Rattle.std.proofs.lemmas.Bool.{false≢true}
use Rattle.chorus_ui.specs.declared.layout.Layout.{Layout}
use Rattle.chorus_ui.specs.declared.limits.TheConstants.{MEMBERS_LIMIT}
use Rattle.chorus_entry.specs.declared.entry.Entry.{Entry}
use Rattle.chorus_entry.specs.declared.id.MsgId.{MsgId}
use Rattle.chorus_entry.specs.declared.tag.Tag.{Tag}
use Rattle.chorus_entry.specs.declared.act.Act.{Act}
use Rattle.chorus_entry.specs.declared.act.Act.TheVariants.{Take, Accept, Told}
use Rattle.chorus_world.specs.Views.{at, by, on, is_on}
use Rattle.chorus_world.specs.Groups.{groups_made, is_chosen, chooses}
use Rattle.chorus_world.specs.Places.{named_location, ports_made}
use Rattle.chorus_world.specs.Ports.{fate, fate_after}
use Rattle.chorus_world.specs.Posts.{Posted, tag_from, source, tag_of, posted_in}
use Rattle.chorus_world.specs.Seats.{posts}
use Rattle.chorus_world.specs.Steps.{is_legal}
use Rattle.chorus_world.proofs.Messages.Posted.{AllPosted, posted_none, posted_more}
use Rattle.chorus_world.proofs.Steps.LegalLemmas.{legal_parts}
use Rattle.checker_rows.specs.Keys.{same_line}
use Rattle.checker_rows.specs.Messages.{in_brief, message_in, message_after, no_message, sent_from, sent_in}
use Rattle.checker_rows.specs.Lines.{line_in, line_row, is_pending, is_open, OpensSame, OthersStay}
use Rattle.checker_ledger.specs.Asks.{asked_row, asked_by, is_unchosen}
use Rattle.checker_rows.specs.Locations.{location_in, location_after}
use Rattle.checker_rows.specs.Places.{no_place, place_in, place_after, HasFewMade}
use Rattle.checker_ledger.specs.Ports.{fate_in}
use Rattle.checker_rows.specs.Seats.{HasTag, no_seat, seat_in, seat_after}
use Rattle.checker_ledger.specs.Groups.{group_in, group_after}
use Rattle.checker_rows.specs.Clients.{kept_in, kept_by, clients_in, clients_by}
use Rattle.checker_ledger.specs.Ties.{IsAskedOf, Follows, HasFew, HasRoom, HasSameRows, ListsAfter, RowsAfter, sent_told, tag_in, tag_by, act_tag}
use Rattle.checker_rows.specs.declared.keys.LineKey.{LineKey}
use Rattle.checker_rows.specs.declared.message_lines.End.TheVariants.{Settled, Chosen}
use Rattle.checker_ledger.specs.declared.tables.Tables.{Tables}
use Rattle.checker_rows.proofs.KeyLemmas.{from_same_line}
use Rattle.checker_rows.proofs.MessageLemmas.{message_grows}
use Rattle.checker_ledger.proofs.SendLemmas.{sent_is}
use Rattle.checker_rows.proofs.LocationLemmas.{FindsSent, location_grows}
use Rattle.checker_rows.proofs.OpenLines.{narrower, longer, line_grows}
use Rattle.checker_rows.proofs.PlaceLemmas.{place_grows, few_ports, few_groups}
use Rattle.checker_rows.proofs.SeatLemmas.{seat_grows, few_posts}
use Rattle.checker_ledger.proofs.GroupLemmas.{group_grows, both_are}
use Rattle.checker_rows.proofs.ClientLemmas.{kept_grows, clients_grow, few_clients}

-- each message that a legal past names was posted
pub all_posted : (l : Layout) (past : List Entry) → is_legal l past ≡ true → AllPosted past past
all_posted l [] h = posted_none
all_posted l (e ∷ past) h =
    let two = legal_parts l e past h in posted_more l past e (all_posted l past two.1) two.0

port_case : (e : Entry) (port : List Entry) (b : Bool) → fate (cond b (e ∷ port) port) ≡ cond b (fate_after e.place e.act (fate port)) (fate port)
port_case e port true = refl
port_case e port false = refl

-- Posts to a group, in order.

unchosen_before : (past : List Entry) (e : Entry) (x : MsgId) → is_unchosen (e ∷ past) x ≡ true → is_unchosen past x ≡ true
unchosen_before past e x h = go (chooses x e.act) (is_chosen x past) h
  where
    go : (b c : Bool) → not (b || c) ≡ true → not c ≡ true
    go true c g = absurd (false≢true g)
    go false c g = g

asked_grows : (past : List Entry) (e : Entry) (k : LineKey) (xs : List MsgId) → IsAskedOf past k xs → IsAskedOf (e ∷ past) k (xs ++ asked_by k e)
asked_grows past e k xs h =
    let now = is_unchosen (e ∷ past) in
    longer now xs (asked_row past k) (asked_by k e) (narrower (is_unchosen past) now xs (asked_row past k) (λ x. unchosen_before past e x) h)

-- the tables that have the same rows follow the same past
pub same_rows : (l : Layout) (past : List Entry) (s t : Tables) → HasSameRows s t → Follows l past s → Follows l past t
same_rows l past s t h f =
    record {
      ports = λ q. h.ports q ∙ f.ports q;
      messages = λ x. ap (λ o. unwrap_or o no_message) (h.messages x) ∙ f.messages x;
      lines = λ k. ap (filter (is_pending past)) (h.lines k) ∙ f.lines k;
      asks = λ k. ap (filter (is_unchosen past)) (h.asks k) ∙ f.asks k;
      locations = λ k. ap (λ o. unwrap_or o (named_location l k.name)) (h.locations k) ∙ f.locations k;
      places = λ p. ap (λ o. unwrap_or o no_place) (h.places p) ∙ f.places p;
      seats = λ x. ap (λ o. unwrap_or o no_seat) (h.seats x) ∙ f.seats x;
      groups = λ k. h.groups k ∙ f.groups k;
      kept = λ q c. h.kept q c ∙ f.kept q c;
      clients = λ q. h.clients q ∙ f.clients q;
    }

-- what the tables say of the entry's message is so

finds_sent : (l : Layout) (past : List Entry) (t : Tables) (p : ℕ) (a : Act) → is_legal l past ≡ true → Follows l past t → FindsSent a (at p past) (sent_told t p a)
finds_sent l past t p (Told x a) legal f = ap (λ r. sent_from p x r.sent) (f.messages x) ∙ sent_is l past x p legal
finds_sent l past t p _ legal f = tt

brief_tag : (o : Option Posted) → tag_in (in_brief o) ≡ tag_from o
brief_tag None = refl
brief_tag (Some m) = refl

pub tag_by_is : (l : Layout) (past : List Entry) (t : Tables) (x : MsgId) → Follows l past t → tag_by t x ≡ tag_of x past
tag_by_is l past t x f = ap (λ r. tag_in r.post) (f.messages (source x)) ∙ brief_tag (posted_in (source x) (by x.seat past))

has_tag : (l : Layout) (past : List Entry) (t : Tables) (a : Act) → Follows l past t → HasTag past a (act_tag t a)
has_tag l past t (Take q n x) f = tag_by_is l past t x f
has_tag l past t (Accept x q n) f = tag_by_is l past t x f
has_tag l past t _ f = tt

-- the tables r before the entry, t with the lists after it, u with the other tables too
pub grown : (l : Layout) (past : List Entry) (e : Entry) (i : ℕ) (r t u : Tables) → i ≡ length past → is_legal l past ≡ true → Follows l past r → ListsAfter e r t → RowsAfter l i e t u → Follows l (e ∷ past) u
grown l past e i r t u n legal f li g =
    record {
      ports = λ q.
          ap (λ m. fate_in m q) g.ports
          ∙ (li.ports q
          ∙ (ap (λ o. cond (is_on (Some q) e) (fate_after e.place e.act o) o) (f.ports q) ∙ sym (port_case e (on q past) (is_on (Some q) e))));
      messages = λ x. g.messages x ∙ (ap (λ m. message_after x e (message_in m x)) li.messages ∙ (ap (message_after x e) (f.messages x) ∙ sym (message_grows past e x)));
      lines = λ k. ap (filter (is_pending (e ∷ past))) (ap (λ m. line_in m k) g.lines ∙ li.lines k) ∙ line_grows past e k (line_in r.lines k) (f.lines k);
      asks = λ k. ap (filter (is_unchosen (e ∷ past))) (ap (λ m. line_in m k) g.asks ∙ li.asks k) ∙ asked_grows past e k (line_in r.asks k) (f.asks k);
      locations = λ k.
          g.locations k
          ∙ (ap (λ o. location_after k e o (location_in l t.locations k)) (told_case e.act)
          ∙ (ap (λ m. location_after k e (sent_told r e.place e.act) (location_in l m k)) li.locations
          ∙ (ap (location_after k e (sent_told r e.place e.act)) (f.locations k) ∙ sym (location_grows l past e (sent_told r e.place e.act) k (finds_sent l past r e.place e.act legal f)))));
      places = λ p. g.places p ∙ (ap (λ m. place_after p e (place_in m p)) li.places ∙ (ap (place_after p e) (f.places p) ∙ sym (place_grows past e p)));
      seats = λ x.
          g.seats x
          ∙ ((λ j. seat_after x (act_tag_is e.act j) (n j) e (seat_in (li.seats j) x))
          ∙ (ap (seat_after x tag (length past) e) (f.seats x) ∙ sym (seat_grows past e x tag all tagged)));
      groups = λ k. both_are k e (group_in r.groups k) (group_in t.groups k) (group_in u.groups k) (li.groups k) (g.groups k) ∙ (ap (group_after k e) (f.groups k) ∙ sym (group_grows past e k));
      kept = λ q c.
          g.kept q c
          ∙ ((λ j. cond (is_on (Some q) e) (kept_by c (act_tag_is e.act j) e.act (kept_in (li.kept j) q c)) (kept_in (li.kept j) q c))
          ∙ (ap (λ o. cond (is_on (Some q) e) (kept_by c tag e.act o) o) (f.kept q c) ∙ sym (kept_grows past e q c tag all tagged)));
      clients = λ q.
          g.clients q
          ∙ ((λ j. cond (is_on (Some q) e) (clients_by (λ c. kept_in (li.kept j) q c) (act_tag_is e.act j) e.act (clients_in (li.clients j) q)) (clients_in (li.clients j) q))
          ∙ ((λ j. cond (is_on (Some q) e) (clients_by (λ c. f.kept q c j) tag e.act (f.clients q j)) (f.clients q j))
          ∙ sym (clients_grow past e q tag all tagged)));
    }
  where
    tag : Tag
    tag = act_tag r e.act

    all : AllPosted past past
    all = all_posted l past legal

    tagged : HasTag past e.act (act_tag r e.act)
    tagged = has_tag l past r e.act f

    told_case : (a : Act) → sent_told t e.place a ≡ sent_told r e.place a
    told_case (Told x a) = ap (λ m. sent_in m e.place x) li.messages
    told_case _ = refl

    act_tag_is : (a : Act) → act_tag t a ≡ act_tag r a
    act_tag_is (Take q m x) = ap (λ z. tag_in (message_in z (source x)).post) li.messages
    act_tag_is (Accept x q m) = ap (λ z. tag_in (message_in z (source x)).post) li.messages
    act_tag_is _ = refl

-- A line is shorter, where what is open in it stays.

pub settled_open : (l : Layout) (past : List Entry) (t : Tables) → Follows l past t → is_open t.messages Settled ≡ is_pending past
settled_open l past t f i x = not ((f.messages x) i).settled

pub chosen_open : (l : Layout) (past : List Entry) (t : Tables) → Follows l past t → is_open t.messages Chosen ≡ is_unchosen past
chosen_open l past t f i x = not ((f.messages x) i).chosen

-- the lists in which those of one key alone changed, and the same pass the test there
shorter : (test : MsgId → Bool) (row : LineKey → List MsgId) (j : LineKey) (old new : LineKey → List MsgId) → ((k : LineKey) → filter test (old k) ≡ filter test (row k)) → OpensSame test (old j) (new j) → OthersStay j old new → (k : LineKey) → filter test (new k) ≡ filter test (row k)
shorter test row j old new f own others k = go (same_line j k) refl
  where
    go : (b : Bool) → same_line j k ≡ b → filter test (new k) ≡ filter test (row k)
    go true e = subst (λ i. filter test (new i) ≡ filter test (row i)) (from_same_line j k e) (own ∙ f j)
    go false e = ap (filter test) (others k e) ∙ f k

-- the tables with other lines
abbrev pub with_lines : Tables → Tables → Tables
with_lines s t = record s { lines = t.lines }

abbrev pub with_asks : Tables → Tables → Tables
with_asks s t = record s { asks = t.asks }

pub lines_shorter : (l : Layout) (past : List Entry) (j : LineKey) (s t : Tables) → Follows l past s → OpensSame (is_open s.messages Settled) (line_in s.lines j) (line_in t.lines j) → OthersStay j (line_in s.lines) (line_in t.lines) → Follows l past (with_lines s t)
lines_shorter l past j s t f own others =
    record {
      ports = f.ports;
      messages = f.messages;
      lines = shorter (is_pending past) (line_row past) j (line_in s.lines) (line_in t.lines) f.lines here others;
      asks = f.asks;
      locations = f.locations;
      places = f.places;
      seats = f.seats;
      groups = f.groups;
      kept = f.kept;
      clients = f.clients;
    }
  where
    here : OpensSame (is_pending past) (line_in s.lines j) (line_in t.lines j)
    here = subst (λ test. OpensSame test (line_in s.lines j) (line_in t.lines j)) (settled_open l past s f) own

pub asks_shorter : (l : Layout) (past : List Entry) (j : LineKey) (s t : Tables) → Follows l past s → OpensSame (is_open s.messages Chosen) (line_in s.asks j) (line_in t.asks j) → OthersStay j (line_in s.asks) (line_in t.asks) → Follows l past (with_asks s t)
asks_shorter l past j s t f own others =
    record {
      ports = f.ports;
      messages = f.messages;
      lines = f.lines;
      asks = shorter (is_unchosen past) (asked_row past) j (line_in s.asks) (line_in t.asks) f.asks here others;
      locations = f.locations;
      places = f.places;
      seats = f.seats;
      groups = f.groups;
      kept = f.kept;
      clients = f.clients;
    }
  where
    here : OpensSame (is_unchosen past) (line_in s.asks j) (line_in t.asks j)
    here = subst (λ test. OpensSame test (line_in s.asks j) (line_in t.asks j)) (chosen_open l past s f) own

-- the counts are small where the past is short
pub has_few : (l : Layout) (past : List Entry) (t : Tables) (e : Entry) → Follows l past t → length past < 2 ^ 63 → HasFew e t
has_few l past t e f h =
    let p : (place_in t.places e.place).ports ≡ ports_made (at e.place past) = ap (λ r. r.ports) (f.places e.place) in
    let g : (place_in t.places e.place).groups ≡ groups_made (at e.place past) = ap (λ r. r.groups) (f.places e.place) in
    let m : (seat_in t.seats e.seat).posts ≡ posts (by e.seat past) = ap (λ r. r.posts) (f.seats e.seat) in
    record {
      made = (omega (arith, p, h, few_ports past e.place), omega (arith, g, h, few_groups past e.place));
      posts = omega (arith, m, h, few_posts past e.seat);
      clients = λ q. omega (arith, f.clients q, h, few_clients past q);
    }

-- what the rows need stays where the lists grow

pub few_stays : (e : Entry) (r t : Tables) → ListsAfter e r t → HasFew e r → HasFew e t
few_stays e r t li h =
    record {
      made = subst (λ m. HasFewMade (place_in m e.place)) (sym li.places) h.made;
      posts = subst (λ m. (seat_in m e.seat).posts < 2 ^ 63) (sym li.seats) h.posts;
      clients = λ q. subst (λ m. clients_in m q < 2 ^ 63) (sym li.clients) (h.clients q);
    }

pub room_stays : (e : Entry) (r t : Tables) → ListsAfter e r t → HasRoom r → 1 < spare r.groups → HasRoom t
room_stays e r t li h two =
    record {
      messages = subst (λ m. MEMBERS_LIMIT < spare m) (sym li.messages) h.messages;
      locations = subst (λ m. 0 < spare m) (sym li.locations) h.locations;
      places = subst (λ m. 0 < spare m) (sym li.places) h.places;
      seats = subst (λ m. 0 < spare m) (sym li.seats) h.seats;
      groups = omega (arith, li.room, two);
      kept = subst (λ m. 0 < spare m) (sym li.kept) h.kept;
      clients = subst (λ m. 0 < spare m) (sym li.clients) h.clients;
    }
