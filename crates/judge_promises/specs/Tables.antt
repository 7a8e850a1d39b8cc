-- What the tables say of the entries that are read, and what an entry makes of them.
use Rattle.std.specs.Prelude.{ℕ, nat_eq, ◌≡◌, ◌<◌, Bool, ◌&&◌, ◌==◌, cond, true, false, not, List, [], ◌∷◌, reverse, Option, Some, None, is_some, unwrap_or}
use Rattle.std.specs.List.{list_any}
use Rattle.std.specs.HashMap.{HashMap, get, spare}
use Rattle.std.specs.Option.{option_eq}
use Rattle.chorus_ui.specs.declared.ui.Ui.{Ui}
use Rattle.chorus_ui.specs.declared.layout.Layout.{Layout}
use Rattle.chorus_ui.specs.declared.limits.TheConstants.{MEMBERS_LIMIT}
use Rattle.chorus_ui.specs.Name.{same_ui}
use Rattle.chorus_entry.specs.declared.entry.Entry.{Entry}
use Rattle.chorus_entry.specs.declared.id.MsgId.{MsgId}
use Rattle.chorus_entry.specs.declared.tag.Tag.{Tag}
use Rattle.chorus_entry.specs.declared.tag.Tag.TheVariants.{Request}
use Rattle.chorus_entry.specs.declared.act.Act.{Act}
use Rattle.chorus_entry.specs.declared.act.Act.TheVariants.{Post, Accept}
use Rattle.chorus_entry.specs.Clients.{is_reached, raised}
use Rattle.chorus_entry.specs.MsgId.{same_id}
use Rattle.chorus_world.specs.Places.{last_clock}
use Rattle.chorus_world.specs.Ports.{fate}
use Rattle.chorus_world.specs.Views.{at, on}
use Rattle.checker_rows.specs.Keys.{same_client}
use Rattle.checker_rows.specs.Messages.{message_in, message_row}
use Rattle.checker_rows.specs.declared.keys.ClientOf.{ClientOf}
use Rattle.checker_ledger.specs.Ports.{fate_in}
use Rattle.judge_promises.specs.declared.keys.RequestKey.{RequestKey}
use Rattle.judge_promises.specs.declared.keys.RouteKey.{RouteKey}
use Rattle.judge_promises.specs.declared.tables.Tables.{Tables}
use Rattle.judge_promises.specs.Breaches.{keeps_promises}
use Rattle.judge_promises.specs.Terms.{last_number, latest, read, requests}

-- a number in a table, or 0
abbrev pub number_in : {S : Type 0} → HashMap ℕ ℕ S → ℕ → ℕ
number_in t k = unwrap_or (get nat_eq t k) 0

-- the greatest of the numbers
abbrev pub greatest : List ℕ → Option ℕ
greatest [] = None
greatest (n ∷ ns) = Some (raised n (greatest ns))

abbrev pub same_route_key : RouteKey → RouteKey → Bool
same_route_key k l = same_ui k.port l.port && ((k.seat == l.seat) && option_eq same_ui k.route l.route)

abbrev pub same_request_key : RequestKey → RequestKey → Bool
same_request_key k l = same_ui k.port l.port && ((k.seat == l.seat) && (k.number == l.number))

-- a message of the seat with this tag is no request that the port accepted; it is one, or an earlier one
abbrev pub is_new_in : {S : Type 0} → HashMap RequestKey Bool S → Ui → ℕ → Tag → Bool
is_new_in t q s (Request n back) = not (is_some (get same_request_key t (record { port = q; seat = s; number = n })))
is_new_in t q s _ = true

abbrev pub is_old_in : {S : Type 0} → HashMap ClientOf ℕ S → Ui → ℕ → Tag → Bool
is_old_in t q s (Request n back) = is_reached n (get same_client t (record { port = q; client = s }))
is_old_in t q s _ = false

-- the tables have, at each key, what the past says
pub record Follows (past : List Entry) (t : Tables) : Type 0 where
  pub ports : (q : Ui) → fate_in t.ports q ≡ fate (on q past)
  pub messages : (x : MsgId) → message_in t.messages x ≡ message_row past x
  pub numbers : (s : ℕ) → number_in t.numbers s ≡ last_number s past
  pub clocks : (p : ℕ) → number_in t.clocks p ≡ last_clock (at p past)
  pub routes : (k : RouteKey) → get same_route_key t.routes k ≡ latest k.port k.seat k.route past
  pub asked : (k : RequestKey) → is_some (get same_request_key t.asked k)
      ≡ list_any (λ m. m == k.number) (requests k.port k.seat past)
  pub most : (k : ClientOf) → get same_client t.most k ≡ greatest (requests k.port k.client past)

-- a log: its entries, the oldest first, keep the promises, and the tables follow what is read of them
abbrev pub IsLog : Layout → List Entry → Tables → Type 0
IsLog l entries t = (keeps_promises l (reverse entries) ≡ true) × Follows (read (reverse entries)) t
