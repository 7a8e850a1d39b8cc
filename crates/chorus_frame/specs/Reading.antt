-- Reading a frame field by field, with the first fault that is met.
use Rattle.std.specs.Prelude.{ℕ, zero, suc, Bool, not, ◌||◌, nat_le, ◌==◌, Option, Some, None, is_some, List, [], ◌∷◌, ◌++◌, length, Result, Ok, Err, if◌then◌else◌}
use Rattle.chorus_ui.specs.declared.ui.Ui.{Ui}
use Rattle.chorus_ui.specs.declared.kind.Kind.{Kind}
use Rattle.chorus_ui.specs.declared.kind.Kind.TheVariants as K
use Rattle.chorus_ui.specs.declared.limits.TheConstants.{SITES_LIMIT, BODY_LIMIT, MEMBERS_LIMIT, CLIENTS_LIMIT, PENDING_LIMIT}
use Rattle.chorus_ui.specs.Kind.{same_kind}
use Rattle.chorus_ui.specs.Bits.{name_of_bits}
use Rattle.chorus_entry.specs.declared.id.MsgId.{MsgId}
use Rattle.chorus_entry.specs.declared.tag.Tag.{Tag}
use Rattle.chorus_entry.specs.declared.tag.Tag.TheVariants.{Plain, Request, Reply}
use Rattle.chorus_entry.specs.declared.message.Message.{Message}
use Rattle.chorus_entry.specs.declared.answer.Answer.{Answer}
use Rattle.chorus_entry.specs.declared.answer.Answer.TheVariants as A
use Rattle.chorus_entry.specs.declared.dest.Dest.{Dest}
use Rattle.chorus_entry.specs.declared.dest.Dest.TheVariants as D
use Rattle.chorus_entry.specs.declared.record.PortRecord.{PortRecord}
use Rattle.chorus_entry.specs.declared.packet.Packet.{Packet}
use Rattle.chorus_entry.specs.declared.packet.Cargo.{Cargo}
use Rattle.chorus_entry.specs.declared.packet.Cargo.TheVariants.{Try, Verdict, Transfer, Ask, Report}
use Rattle.chorus_entry.specs.ClientTable.{number_of}
use Rattle.chorus_entry.specs.Ranges.{is_from, is_place_number, is_site_number}
use Rattle.chorus_frame.specs.Fault.{Fault, Range, Trailing}
use Rattle.chorus_frame.specs.Fault as faults
use Rattle.chorus_frame.specs.Numbers.{◌>>=◌, number_at, bytes_at, tested_at, ranged_at}

-- a code that says what follows, where it is one of these
abbrev pub code_at : (ℕ → Bool) → List ℕ → Result (ℕ × List ℕ) Fault
code_at is_code bytes = tested_at 1 is_code faults.Kind bytes

-- what was found, where it is a name of this kind
abbrev pub named : Kind → Option Ui → List ℕ → Result (Ui × List ℕ) Fault
named kind None rest = Err Range
named kind (Some ui) rest = if same_kind ui.kind kind then Ok (ui, rest) else Err Range

-- a name of this kind
unfoldable pub name_at : Kind → List ℕ → Result (Ui × List ℕ) Fault
name_at kind bytes = do
  n ← number_at 8 bytes
  named kind (name_of_bits n.0) n.1

abbrev pub route_named : ℕ × List ℕ → Result (Option Ui × List ℕ) Fault
route_named n = do
  group ← named K.Group (name_of_bits n.0) n.1
  Ok (Some group.0, group.1)

-- a group, or 0 where there is no route
unfoldable pub route_at : List ℕ → Result (Option Ui × List ℕ) Fault
route_at bytes = do
  n ← number_at 8 bytes
  if n.0 == 0 then Ok (None, n.1) else route_named n

-- a site, or 0 where none is demanded
unfoldable pub only_at : List ℕ → Result (Option ℕ × List ℕ) Fault
only_at bytes = do
  n ← ranged_at 2 (λ n. nat_le n SITES_LIMIT) bytes
  Ok ((if n.0 == 0 then None else Some n.0), n.1)

-- a number from 1
abbrev pub positive_at : List ℕ → Result (ℕ × List ℕ) Fault
positive_at bytes = ranged_at 4 (nat_le 1) bytes

-- a hop or a position, which is not above the clock of its packet
abbrev pub up_to_clock_at : ℕ → List ℕ → Result (ℕ × List ℕ) Fault
up_to_clock_at clock bytes = ranged_at 8 (λ n. nat_le n clock) bytes

unfoldable pub id_at : List ℕ → Result (MsgId × List ℕ) Fault
id_at bytes = do
  seat ← number_at 4 bytes
  number ← positive_at seat.1
  copy ← ranged_at 2 (λ n. nat_le n MEMBERS_LIMIT) number.1
  Ok (record { seat = seat.0; number = number.0; copy = copy.0 }, copy.1)

unfoldable pub request_at : List ℕ → Result (Tag × List ℕ) Fault
request_at bytes = do
  call ← positive_at bytes
  back ← name_at K.Port call.1
  Ok (Request call.0 back.0, back.1)

unfoldable pub reply_at : List ℕ → Result (Tag × List ℕ) Fault
reply_at bytes = do
  client ← number_at 4 bytes
  call ← positive_at client.1
  Ok (Reply client.0 call.0, call.1)

-- what goes with the code
abbrev pub tag_of : ℕ × List ℕ → Result (Tag × List ℕ) Fault
tag_of code =
    if code.0 == 0 then Ok (Plain, code.1) else
    if code.0 == 1 then request_at code.1 else
    reply_at code.1

unfoldable pub tag_at : List ℕ → Result (Tag × List ℕ) Fault
tag_at bytes = do
  code ← code_at (λ c. nat_le c 2) bytes
  tag_of code

unfoldable pub body_at : List ℕ → Result (List ℕ × List ℕ) Fault
body_at bytes = do
  len ← ranged_at 2 (λ n. nat_le n BODY_LIMIT) bytes
  bytes_at len.0 len.1

unfoldable pub message_at : List ℕ → Result (Message × List ℕ) Fault
message_at bytes = do
  id ← id_at bytes
  tag ← tag_at id.1
  body ← body_at tag.1
  Ok (record { id = id.0; tag = tag.0; body = body.0 }, body.1)

-- the number of a place
abbrev pub place_at : List ℕ → Result (ℕ × List ℕ) Fault
place_at bytes = ranged_at 2 is_place_number bytes

unfoldable pub accepted_at : ℕ → List ℕ → Result (Answer × List ℕ) Fault
accepted_at clock bytes = do
  pos ← up_to_clock_at clock bytes
  Ok (A.Accepted pos.0, pos.1)

unfoldable pub full_at : List ℕ → Result (Answer × List ℕ) Fault
full_at bytes = do
  len ← ranged_at 1 (is_from 1 PENDING_LIMIT) bytes
  Ok (A.Full len.0, len.1)

-- a place, and the hop by which a port went there
unfoldable pub located_at : ℕ → List ℕ → Result ((ℕ × ℕ) × List ℕ) Fault
located_at clock bytes = do
  to ← place_at bytes
  hop ← up_to_clock_at clock to.1
  Ok ((to.0, hop.0), hop.1)

unfoldable pub stale_at : ℕ → List ℕ → Result (Answer × List ℕ) Fault
stale_at clock bytes = do
  at ← located_at clock bytes
  Ok (A.Stale at.0.0 at.0.1, at.1)

unfoldable pub early_at : ℕ → List ℕ → Result (Answer × List ℕ) Fault
early_at clock bytes = do
  hop ← up_to_clock_at clock bytes
  Ok (A.Early hop.0, hop.1)

unfoldable pub elsewhere_at : ℕ → List ℕ → Result (Answer × List ℕ) Fault
elsewhere_at clock bytes = do
  at ← located_at clock bytes
  Ok (A.Elsewhere at.0.0 at.0.1, at.1)

unfoldable pub chosen_at : List ℕ → Result (Answer × List ℕ) Fault
chosen_at bytes = do
  count ← ranged_at 2 (is_from 1 MEMBERS_LIMIT) bytes
  Ok (A.Chosen count.0, count.1)

-- what goes with the code
unfoldable pub answer_of : ℕ → ℕ × List ℕ → Result (Answer × List ℕ) Fault
answer_of clock code =
    if code.0 == 1 then accepted_at clock code.1 else
    if code.0 == 2 then full_at code.1 else
    if code.0 == 3 then stale_at clock code.1 else
    if code.0 == 4 then early_at clock code.1 else
    if code.0 == 5 then Ok (A.NoPort, code.1) else
    if code.0 == 6 then Ok (A.Already, code.1) else
    if code.0 == 7 then Ok (A.ClientsFull, code.1) else
    if code.0 == 8 then elsewhere_at clock code.1 else
    if code.0 == 9 then Ok (A.NoMember, code.1) else
    if code.0 == 10 then chosen_at code.1 else
    Ok (A.Gone, code.1)

-- the codes of the answers of a decision, which a Verdict tells: all but 9 and 10
abbrev pub is_told_code : ℕ → Bool
is_told_code code = is_from 1 8 code || (code == 11)

-- the codes of the answers that a Report tells: all but 3, Stale
abbrev pub is_reported_code : ℕ → Bool
is_reported_code code = is_from 1 2 code || is_from 4 11 code

unfoldable pub answer_at : (ℕ → Bool) → ℕ → List ℕ → Result (Answer × List ℕ) Fault
answer_at is_code clock bytes = do
  code ← code_at is_code bytes
  answer_of clock code

-- the most messages that a port holds
abbrev pub capacity_at : List ℕ → Result (ℕ × List ℕ) Fault
capacity_at bytes = ranged_at 1 (is_from 1 PENDING_LIMIT) bytes

-- so many messages, behind those before them
unfoldable pub messages_at : List Message → ℕ → List ℕ → Result (List Message × List ℕ) Fault
messages_at before zero bytes = Ok (before, bytes)
messages_at before (suc n) bytes = do
  message ← message_at bytes
  messages_at (before ++ message.0 ∷ []) n message.1

-- the queue of a port of this capacity
unfoldable pub pending_at : ℕ → List ℕ → Result (List Message × List ℕ) Fault
pending_at capacity bytes = do
  count ← ranged_at 1 (λ n. nat_le n capacity) bytes
  messages_at [] count.0 count.1

-- the client does not stand in the table
abbrev pub is_new : List (ℕ × ℕ) → ℕ → Bool
is_new table client = not (is_some (number_of table client))

-- a client other than those before it
unfoldable pub client_at : List (ℕ × ℕ) → List ℕ → Result ((ℕ × ℕ) × List ℕ) Fault
client_at before bytes = do
  client ← ranged_at 4 (is_new before) bytes
  call ← positive_at client.1
  Ok ((client.0, call.0), call.1)

unfoldable pub entries_at : List (ℕ × ℕ) → ℕ → List ℕ → Result (List (ℕ × ℕ) × List ℕ) Fault
entries_at before zero bytes = Ok (before, bytes)
entries_at before (suc n) bytes = do
  entry ← client_at before bytes
  entries_at (before ++ entry.0 ∷ []) n entry.1

unfoldable pub clients_at : List ℕ → Result (List (ℕ × ℕ) × List ℕ) Fault
clients_at bytes = do
  count ← ranged_at 1 (λ n. nat_le n CLIENTS_LIMIT) bytes
  entries_at [] count.0 count.1

unfoldable pub record_at : ℕ → List ℕ → Result (PortRecord × List ℕ) Fault
record_at clock bytes = do
  ui ← name_at K.Port bytes
  actor ← name_at K.Actor ui.1
  capacity ← capacity_at actor.1
  hop ← up_to_clock_at clock capacity.1
  first ← up_to_clock_at clock hop.1
  pending ← pending_at capacity.0 first.1
  clients ← clients_at pending.1
  Ok (
    record {
      ui = ui.0;
      actor = actor.0;
      capacity = capacity.0;
      hop = hop.0;
      first = first.0;
      pending = pending.0;
      clients = clients.0;
    },
    clients.1,
  )

-- the site that goes with the mode: a site with mode 3, and 0 with the others
abbrev pub is_site_with : ℕ → ℕ → Bool
is_site_with mode site = if mode == 3 then is_site_number site else site == 0

abbrev pub dest_of : ℕ → Ui → ℕ → Dest
dest_of mode group site =
    if mode == 1 then D.All group else
    if mode == 2 then D.One group else
    D.OneAt group site

unfoldable pub asked_at : List ℕ → Result (Dest × List ℕ) Fault
asked_at bytes = do
  mode ← code_at (is_from 1 3) bytes
  group ← name_at K.Group mode.1
  site ← ranged_at 2 (is_site_with mode.0) group.1
  Ok (dest_of mode.0 group.0 site.0, site.1)

unfoldable pub try_at : ℕ → List ℕ → Result (Cargo × List ℕ) Fault
try_at clock bytes = do
  route ← route_at bytes
  only ← only_at route.1
  hop ← up_to_clock_at clock only.1
  port ← name_at K.Port hop.1
  message ← message_at port.1
  Ok (Try message.0 port.0 route.0 only.0 hop.0, message.1)

unfoldable pub verdict_at : ℕ → List ℕ → Result (Cargo × List ℕ) Fault
verdict_at clock bytes = do
  id ← id_at bytes
  port ← name_at K.Port id.1
  route ← route_at port.1
  answer ← answer_at is_told_code clock route.1
  Ok (Verdict id.0 port.0 route.0 answer.0, answer.1)

unfoldable pub transfer_at : ℕ → List ℕ → Result (Cargo × List ℕ) Fault
transfer_at clock bytes = do
  port ← record_at clock bytes
  Ok (Transfer port.0, port.1)

unfoldable pub ask_at : List ℕ → Result (Cargo × List ℕ) Fault
ask_at bytes = do
  dest ← asked_at bytes
  message ← message_at dest.1
  Ok (Ask message.0 dest.0, message.1)

unfoldable pub report_at : ℕ → List ℕ → Result (Cargo × List ℕ) Fault
report_at clock bytes = do
  id ← id_at bytes
  answer ← answer_at is_reported_code clock id.1
  Ok (Report id.0 answer.0, answer.1)

-- what a packet of this kind carries
unfoldable pub cargo_at : ℕ → ℕ → List ℕ → Result (Cargo × List ℕ) Fault
cargo_at kind clock bytes =
    if kind == 1 then try_at clock bytes else
    if kind == 2 then verdict_at clock bytes else
    if kind == 3 then transfer_at clock bytes else
    if kind == 4 then ask_at bytes else
    report_at clock bytes

-- a packet, and the bytes behind it
unfoldable pub packet_at : List ℕ → Result (Packet × List ℕ) Fault
packet_at bytes = do
  kind ← code_at (is_from 1 5) bytes
  clock ← number_at 8 kind.1
  from ← place_at clock.1
  cargo ← cargo_at kind.0 clock.0 from.1
  Ok (record { clock = clock.0; from = from.0; cargo = cargo.0 }, cargo.1)

-- the packet whose frame all of the bytes are
unfoldable pub packet_of : List ℕ → Result Packet Fault
packet_of bytes = do
  packet ← packet_at bytes
  if length packet.1 == 0 then Ok packet.0 else Err Trailing
