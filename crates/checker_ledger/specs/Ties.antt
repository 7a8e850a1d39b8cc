-- Ties: what each table says of the past.
use Rattle.std.specs.Prelude.{ℕ, nat_eq, ◌≡◌, ◌≤◌, ◌<◌, ◌^◌, ◌+◌, ◌++◌, List, true, reverse, filter, Option, None, Some}
use Rattle.std.specs.HashMap.{get, spare}
use Rattle.chorus_ui.specs.declared.ui.Ui.{Ui}
use Rattle.chorus_ui.specs.declared.layout.Layout.{Layout}
use Rattle.chorus_ui.specs.declared.limits.TheConstants.{MEMBERS_LIMIT}
use Rattle.chorus_entry.specs.declared.entry.Entry.{Entry}
use Rattle.chorus_entry.specs.declared.id.MsgId.{MsgId}
use Rattle.chorus_entry.specs.declared.tag.Tag.{Tag}
use Rattle.chorus_entry.specs.declared.tag.Tag.TheVariants.{Plain}
use Rattle.chorus_entry.specs.declared.act.Act.{Act}
use Rattle.chorus_entry.specs.declared.act.Act.TheVariants.{Post, Accept, Choose, Told, Take, Join}
use Rattle.chorus_entry.specs.declared.dest.Dest.{Dest}
use Rattle.chorus_entry.specs.declared.dest.Dest.TheVariants as D
use Rattle.checker_ledger.specs.declared.tables.Growing.{Growing}
use Rattle.checker_ledger.specs.declared.tables.Growing.TheVariants.{Ports, Groups, Asks, Lines}
use Rattle.chorus_entry.specs.MsgId.{same_id}
use Rattle.chorus_world.specs.declared.place.Sent.{Sent}
use Rattle.chorus_world.specs.Views.{on}
use Rattle.chorus_world.specs.Places.{sent_by}
use Rattle.chorus_world.specs.Ports.{fate}
use Rattle.chorus_world.specs.Posts.{source}
use Rattle.chorus_world.specs.Steps.{is_legal}
use Rattle.checker_rows.specs.Keys.{same_name_at}
use Rattle.checker_ledger.specs.Ports.{fate_in, PortsAfter}
use Rattle.checker_rows.specs.Messages.{message_in, message_row, MessagesAfter, sent_in}
use Rattle.checker_rows.specs.Lines.{line_in, line_row, is_pending, ArePut}
use Rattle.checker_ledger.specs.Asks.{asked_row, asked_by, is_unchosen}
use Rattle.checker_rows.specs.Locations.{location_in, location_row, LocationsAfter}
use Rattle.checker_rows.specs.Places.{place_in, place_row, PlacesAfter, HasFewMade}
use Rattle.checker_rows.specs.Seats.{seat_in, seat_row, SeatsAfter}
use Rattle.checker_ledger.specs.Groups.{group_in, group_row, GroupsJoined, GroupsChanged}
use Rattle.checker_rows.specs.Clients.{kept_in, kept_row, KeptAfter, clients_in, clients_row, ClientsAfter}
use Rattle.checker_rows.specs.declared.posting.Posting.{Posting}
use Rattle.checker_rows.specs.declared.keys.NameAt.{NameAt}
use Rattle.checker_rows.specs.declared.keys.LineKey.{LineKey}
use Rattle.checker_ledger.specs.declared.tables.Tables.{Tables}

-- of the lists, the same messages are not settled where they were sent from, and the same posts are not chosen for
abbrev pub IsLineOf : List Entry → LineKey → List MsgId → Type 0
IsLineOf past k xs = filter (is_pending past) xs ≡ filter (is_pending past) (line_row past k)

abbrev pub IsAskedOf : List Entry → LineKey → List MsgId → Type 0
IsAskedOf past k xs = filter (is_unchosen past) xs ≡ filter (is_unchosen past) (asked_row past k)

-- the tables have, at each key, what the past says
pub record Follows (l : Layout) (past : List Entry) (t : Tables) : Type 0 where
  pub ports : (q : Ui) → fate_in t.ports q ≡ fate (on q past)
  pub messages : (x : MsgId) → message_in t.messages x ≡ message_row past x
  pub lines : (k : LineKey) → IsLineOf past k (line_in t.lines k)
  pub asks : (k : LineKey) → IsAskedOf past k (line_in t.asks k)
  pub locations : (k : NameAt) → location_in l t.locations k ≡ location_row l past k
  pub places : (p : ℕ) → place_in t.places p ≡ place_row past p
  pub seats : (s : ℕ) → seat_in t.seats s ≡ seat_row past s
  pub groups : (k : NameAt) → group_in t.groups k ≡ group_row past k
  pub kept : (q : Ui) (client : ℕ) → kept_in t.kept q client ≡ kept_row past q client
  pub clients : (q : Ui) → clients_in t.clients q ≡ clients_row past q

-- a ledger: the entries, the oldest first, are legal, and the tables follow them
abbrev pub IsLedger : Layout → List Entry → Tables → Type 0
IsLedger l entries t = (is_legal l (reverse entries) ≡ true) × Follows l (reverse entries) t

-- the tables have the same at each key
pub record HasSameRows (s t : Tables) : Type 0 where
  pub ports : (q : Ui) → fate_in t.ports q ≡ fate_in s.ports q
  pub messages : (x : MsgId) → get same_id t.messages x ≡ get same_id s.messages x
  pub lines : (k : LineKey) → line_in t.lines k ≡ line_in s.lines k
  pub asks : (k : LineKey) → line_in t.asks k ≡ line_in s.asks k
  pub locations : (k : NameAt) → get same_name_at t.locations k ≡ get same_name_at s.locations k
  pub places : (p : ℕ) → get nat_eq t.places p ≡ get nat_eq s.places p
  pub seats : (x : ℕ) → get nat_eq t.seats x ≡ get nat_eq s.seats x
  pub groups : (k : NameAt) → group_in t.groups k ≡ group_in s.groups k
  pub kept : (q : Ui) (client : ℕ) → kept_in t.kept q client ≡ kept_in s.kept q client
  pub clients : (q : Ui) → clients_in t.clients q ≡ clients_in s.clients q

-- room for the rows of one entry
pub record HasRoom (t : Tables) : Type 0 where
  pub messages : MEMBERS_LIMIT < spare t.messages
  pub locations : 0 < spare t.locations
  pub places : 0 < spare t.places
  pub seats : 0 < spare t.seats
  pub groups : 0 < spare t.groups
  pub kept : 0 < spare t.kept
  pub clients : 0 < spare t.clients

-- the counts that the entry may raise are small
pub record HasFew (e : Entry) (t : Tables) : Type 0 where
  pub made : HasFewMade (place_in t.places e.place)
  pub posts : (seat_in t.seats e.seat).posts < 2 ^ 63
  pub clients : (q : Ui) → clients_in t.clients q < 2 ^ 63

-- What the tables say of the entry's message: what was sent from its place, where the entry tells of it, and the tag of
-- what it takes or accepts.

abbrev pub sent_told : Tables → ℕ → Act → Option Sent
sent_told t p (Told x a) = sent_in t.messages p x
sent_told t p _ = None

abbrev pub tag_in : Option Posting → Tag
tag_in None = Plain
tag_in (Some m) = m.tag

abbrev pub tag_by : Tables → MsgId → Tag
tag_by t x = tag_in (message_in t.messages (source x)).post

abbrev pub act_tag : Tables → Act → Tag
act_tag t (Take q n x) = tag_by t x
act_tag t (Accept x q n) = tag_by t x
act_tag t _ = Plain

-- the table whose lists an act may make longer

abbrev pub posting_grows : Dest → Growing
posting_grows (D.Port q) = Lines
posting_grows d = Asks

abbrev pub grows : Act → Growing
grows (Join g q) = Groups
grows (Choose x g qs) = Lines
grows (Post m d) = posting_grows d
grows _ = Ports

-- the lists after an entry, which take memory: the other tables are as they were
pub record ListsAfter (e : Entry) (s t : Tables) : Type 0 where
  pub ports : PortsAfter e (fate_in s.ports) (fate_in t.ports)
  pub groups : GroupsJoined e (group_in s.groups) (group_in t.groups)
  pub lines : ArePut e.place (sent_by e.act) (line_in s.lines) (line_in t.lines)
  pub asks : (k : LineKey) → line_in t.asks k ≡ line_in s.asks k ++ asked_by k e
  pub messages : t.messages ≡ s.messages
  pub locations : t.locations ≡ s.locations
  pub places : t.places ≡ s.places
  pub seats : t.seats ≡ s.seats
  pub kept : t.kept ≡ s.kept
  pub clients : t.clients ≡ s.clients
  pub room : spare s.groups ≤ spare t.groups + 1

-- the other tables after an entry behind i others
pub record RowsAfter (l : Layout) (i : ℕ) (e : Entry) (s t : Tables) : Type 0 where
  pub ports : t.ports ≡ s.ports
  pub lines : t.lines ≡ s.lines
  pub asks : t.asks ≡ s.asks
  pub messages : MessagesAfter e (message_in s.messages) (message_in t.messages)
  pub locations : LocationsAfter e (sent_told s e.place e.act) (location_in l s.locations) (location_in l t.locations)
  pub places : PlacesAfter e (place_in s.places) (place_in t.places)
  pub seats : SeatsAfter (act_tag s e.act) i e (seat_in s.seats) (seat_in t.seats)
  pub groups : GroupsChanged e (group_in s.groups) (group_in t.groups)
  pub kept : KeptAfter (act_tag s e.act) e (kept_in s.kept) (kept_in t.kept)
  pub clients : ClientsAfter (kept_in s.kept) (act_tag s e.act) e (clients_in s.clients) (clients_in t.clients)

-- the tables say of every past that the other ones follow
abbrev pub StillFollow : Tables → Tables → Type 0
StillFollow s t = (l : Layout) (past : List Entry) → Follows l past s → Follows l past t
