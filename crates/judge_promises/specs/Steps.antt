-- What an entry that is read makes of the tables.
use Rattle.std.specs.Prelude.{ℕ, nat_eq, ◌≡◌, ◌<◌, Bool, true, ◌&&◌, ◌||◌, ◌==◌, cond, List, ◌∷◌, Option, Some, None, is_some}
use Rattle.std.specs.HashMap.{get, spare}
use Rattle.std.specs.Option.{option_eq}
use Rattle.chorus_ui.specs.declared.ui.Ui.{Ui}
use Rattle.chorus_ui.specs.declared.limits.TheConstants.{MEMBERS_LIMIT}
use Rattle.chorus_ui.specs.Name.{same_ui}
use Rattle.chorus_entry.specs.declared.entry.Entry.{Entry}
use Rattle.chorus_entry.specs.declared.id.MsgId.{MsgId}
use Rattle.chorus_entry.specs.declared.tag.Tag.{Tag}
use Rattle.chorus_entry.specs.declared.tag.Tag.TheVariants.{Plain, Request}
use Rattle.chorus_entry.specs.declared.act.Act.{Act}
use Rattle.chorus_entry.specs.declared.act.Act.TheVariants.{Accept}
use Rattle.chorus_entry.specs.Clients.{raised}
use Rattle.chorus_entry.specs.Dest.{group_in}
use Rattle.chorus_entry.specs.MsgId.{same_id}
use Rattle.chorus_entry.specs.Order.{is_at}
use Rattle.chorus_world.specs.Posts.{source}
use Rattle.checker_rows.specs.declared.keys.ClientOf.{ClientOf}
use Rattle.checker_rows.specs.declared.posting.Posting.{Posting}
use Rattle.checker_rows.specs.Keys.{same_client}
use Rattle.checker_rows.specs.Messages.{MessagesAfter, message_in}
use Rattle.checker_ledger.specs.Ports.{PortsAfter, PortsStay, fate_in}
use Rattle.judge_promises.specs.declared.keys.RequestKey.{RequestKey}
use Rattle.judge_promises.specs.declared.keys.RouteKey.{RouteKey}
use Rattle.judge_promises.specs.declared.tables.Tables.{Tables}
use Rattle.judge_promises.specs.Tables.{Follows, number_in, same_request_key, same_route_key}
use Rattle.judge_promises.specs.Terms.{number_by}

-- the tables have the same at each key
pub record HasSameRows (s t : Tables) : Type 0 where
  pub ports : PortsStay (fate_in s.ports) (fate_in t.ports)
  pub messages : (x : MsgId) → get same_id t.messages x ≡ get same_id s.messages x
  pub numbers : (k : ℕ) → get nat_eq t.numbers k ≡ get nat_eq s.numbers k
  pub clocks : (k : ℕ) → get nat_eq t.clocks k ≡ get nat_eq s.clocks k
  pub routes : (k : RouteKey) → get same_route_key t.routes k ≡ get same_route_key s.routes k
  pub asked : (k : RequestKey) → get same_request_key t.asked k ≡ get same_request_key s.asked k
  pub most : (k : ClientOf) → get same_client t.most k ≡ get same_client s.most k

-- room for the rows of one entry
pub record HasRoom (t : Tables) : Type 0 where
  pub messages : MEMBERS_LIMIT < spare t.messages
  pub numbers : 0 < spare t.numbers
  pub clocks : 0 < spare t.clocks
  pub routes : 0 < spare t.routes
  pub asked : 0 < spare t.asked
  pub most : 0 < spare t.most

-- the tag and the route of a message, by the post that it is or is a copy of
abbrev pub tag_in : Option Posting → Tag
tag_in None = Plain
tag_in (Some m) = m.tag

abbrev pub route_in : Option Posting → Option Ui
route_in None = None
route_in (Some m) = group_in m.dest

abbrev pub post_by : Tables → MsgId → Option Posting
post_by t x = (message_in t.messages (source x)).post

-- the post of the message that an act accepts
abbrev pub accepted_post : Tables → Act → Option Posting
accepted_post t (Accept x q n) = post_by t x
accepted_post t _ = None

-- The rows after an entry.

abbrev pub NumbersAfter : Entry → (ℕ → ℕ) → (ℕ → ℕ) → Type 0
NumbersAfter e old new = (s : ℕ) → new s ≡ cond (e.seat == s) (number_by e.act (old s)) (old s)

abbrev pub ClocksAfter : Entry → (ℕ → ℕ) → (ℕ → ℕ) → Type 0
ClocksAfter e old new = (p : ℕ) → new p ≡ cond (is_at p e) e.clock (old p)

-- where the message that it accepts came by this route
abbrev pub route_by : RouteKey → Option Ui → Act → Option ℕ → Option ℕ
route_by k route (Accept x r n) o =
    cond (same_ui r k.port && ((x.seat == k.seat) && option_eq same_ui route k.route)) (Some x.number) o
route_by k route _ o = o

abbrev pub RoutesAfter : Option Ui → Act → (RouteKey → Option ℕ) → (RouteKey → Option ℕ) → Type 0
RoutesAfter route act old new = (k : RouteKey) → new k ≡ route_by k route act (old k)

-- and has this tag
abbrev pub asked_with : RequestKey → MsgId → Ui → Tag → Bool → Bool
asked_with k x r (Request n back) b =
    (same_ui r k.port && ((x.seat == k.seat) && (n == k.number))) || b
asked_with k x r _ b = b

abbrev pub asked_by : RequestKey → Tag → Act → Bool → Bool
asked_by k tag (Accept x r n) b = asked_with k x r tag b
asked_by k tag _ b = b

abbrev pub AskedAfter : Tag → Act → (RequestKey → Bool) → (RequestKey → Bool) → Type 0
AskedAfter tag act old new = (k : RequestKey) → new k ≡ asked_by k tag act (old k)

abbrev pub most_with : ClientOf → MsgId → Ui → Tag → Option ℕ → Option ℕ
most_with k x r (Request n back) o =
    cond ((x.seat == k.client) && same_ui r k.port) (Some (raised n o)) o
most_with k x r _ o = o

abbrev pub most_by : ClientOf → Tag → Act → Option ℕ → Option ℕ
most_by k tag (Accept x r n) o = most_with k x r tag o
most_by k tag _ o = o

abbrev pub MostAfter : Tag → Act → (ClientOf → Option ℕ) → (ClientOf → Option ℕ) → Type 0
MostAfter tag act old new = (k : ClientOf) → new k ≡ most_by k tag act (old k)

-- all tables after an entry
pub record RowsAfter (e : Entry) (s t : Tables) : Type 0 where
  pub ports : PortsAfter e (fate_in s.ports) (fate_in t.ports)
  pub messages : MessagesAfter e (message_in s.messages) (message_in t.messages)
  pub numbers : NumbersAfter e (number_in s.numbers) (number_in t.numbers)
  pub clocks : ClocksAfter e (number_in s.clocks) (number_in t.clocks)
  pub routes : RoutesAfter (route_in (accepted_post s e.act)) e.act (get same_route_key s.routes) (get same_route_key t.routes)
  pub asked : AskedAfter (tag_in (accepted_post s e.act)) e.act (λ k. is_some (get same_request_key s.asked k))
      (λ k. is_some (get same_request_key t.asked k))
  pub most : MostAfter (tag_in (accepted_post s e.act)) e.act (get same_client s.most) (get same_client t.most)
