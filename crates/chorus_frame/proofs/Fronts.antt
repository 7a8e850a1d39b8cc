-- Fronts of a frame: more bytes change nothing of what was read, but where the bytes were too short.
use Rattle.std.proofs.Common.{◌≡◌, ◌≢◌, ℕ, zero, suc, ◌<◌, ◌≤◌, Bool, true, false, cond, ltb, ◌==◌, nat_le, Option, Some, None, List, [], ◌∷◌, ◌++◌, length, take, drop, Result, Ok, Err, refl, sym, ap, subst, ◌∙◌, arith}
use Rattle.std.proofs.lemmas.Bool.{ltb-false, le-ltb}
use Rattle.std.proofs.lemmas.List.{append-nil, take-append-drop, take-append-le, drop-append-le, length-append, length-drop, nil_from_length}
use Rattle.byteorder.specs.Endian.{big_number}
use Rattle.byteorder.specs.Numbers.{big_from-append}
use Rattle.chorus_ui.specs.declared.ui.Ui.{Ui}
use Rattle.chorus_ui.specs.declared.kind.Kind.{Kind}
use Rattle.chorus_ui.specs.declared.kind.Kind.TheVariants as K
use Rattle.chorus_ui.specs.declared.limits.TheConstants.{SITES_LIMIT, BODY_LIMIT, MEMBERS_LIMIT, CLIENTS_LIMIT, PENDING_LIMIT}
use Rattle.chorus_ui.specs.Kind.{same_kind}
use Rattle.chorus_ui.specs.Bits.{name_of_bits}
use Rattle.chorus_entry.specs.declared.id.MsgId.{MsgId}
use Rattle.chorus_entry.specs.declared.tag.Tag.{Tag}
use Rattle.chorus_entry.specs.declared.message.Message.{Message}
use Rattle.chorus_entry.specs.declared.answer.Answer.{Answer}
use Rattle.chorus_entry.specs.declared.dest.Dest.{Dest}
use Rattle.chorus_entry.specs.declared.record.PortRecord.{PortRecord}
use Rattle.chorus_entry.specs.declared.packet.Packet.{Packet}
use Rattle.chorus_entry.specs.declared.packet.Cargo.{Cargo}
use Rattle.chorus_entry.specs.Ranges.{is_from, is_place_number, has_ranges}
use Rattle.chorus_frame.specs.Fault.{Fault, Short, Range, Trailing}
use Rattle.chorus_frame.specs.Fault as faults
use Rattle.chorus_frame.specs.Numbers.{◌>>=◌, number_at, bytes_at, passes, tested_at}
use Rattle.chorus_frame.specs.Spelling.{frame}
use Rattle.chorus_frame.specs.Reading.{named, name_at, route_at, only_at, id_at, request_at, reply_at, tag_at, body_at, message_at, accepted_at, full_at, located_at, stale_at, early_at, elsewhere_at, chosen_at, answer_of, answer_at, is_told_code, is_reported_code, messages_at, pending_at, is_new, client_at, entries_at, clients_at, record_at, is_site_with, asked_at, try_at, verdict_at, transfer_at, ask_at, report_at, cargo_at, packet_at, packet_of}
use Rattle.chorus_frame.specs.Held.{IsHeld}
use Rattle.chorus_frame.proofs.Numbers.{ok_is}
use Rattle.chorus_frame.proofs.PacketFormats.{packet-again}

-- what was read of bytes is read of longer ones, and what is left is longer
abbrev pub stays : {A : Type 0} → Result (A × List ℕ) Fault → Result (A × List ℕ) Fault → List ℕ → Type 0
stays (Ok x) longer more = longer ≡ Ok (x.0, x.1 ++ more)
stays (Err faults.Short) longer more = Unit {0}
stays (Err faults.Kind) longer more = longer ≡ Err faults.Kind
stays (Err faults.Range) longer more = longer ≡ Err faults.Range
stays (Err faults.Trailing) longer more = longer ≡ Err faults.Trailing

pub record Stays (A : Type 0) (read longer : Result (A × List ℕ) Fault) (more : List ℕ) : Type 0 where
  pub is : stays read longer more

bound : {A B : Type 0} (read longer : Result (A × List ℕ) Fault) (more : List ℕ) (next : A × List ℕ → Result (B × List ℕ) Fault) → stays read longer more → ((x : A) (rest : List ℕ) → Stays B (next (x, rest)) (next (x, rest ++ more)) more) → stays (read >>= next) (longer >>= next) more
bound (Ok x) longer more next h on = rw h (on x.0 x.1).is
bound (Err faults.Short) longer more next h on = tt
bound (Err faults.Kind) longer more next h on = rw h refl
bound (Err faults.Range) longer more next h on = rw h refl
bound (Err faults.Trailing) longer more next h on = rw h refl

bind : {A B : Type 0} {read longer : Result (A × List ℕ) Fault} {more : List ℕ} (next : A × List ℕ → Result (B × List ℕ) Fault) → Stays A read longer more → ((x : A) (rest : List ℕ) → Stays B (next (x, rest)) (next (x, rest ++ more)) more) → Stays B (read >>= next) (longer >>= next) more
bind {A} {B} {read} {longer} {more} next s on = record { is = bound read longer more next s.is on }

ok_stays : {A : Type 0} (x : A) (rest more : List ℕ) → Stays A (Ok (x, rest)) (Ok (x, rest ++ more)) more
ok_stays x rest more = record { is = refl }

range_stays : {A : Type 0} (more : List ℕ) → Stays A (Err Range) (Err Range) more
range_stays more = record { is = refl }

either : {A : Type 0} (b : Bool) {r s longer_r longer_s : Result (A × List ℕ) Fault} {more : List ℕ} → Stays A r longer_r more → Stays A s longer_s more → Stays A (cond b r s) (cond b longer_r longer_s) more
either true p q = p
either false p q = q

-- ---- numbers

number_stays : (width : ℕ) (bytes more : List ℕ) → Stays ℕ (number_at width bytes) (number_at width (bytes ++ more)) more
unfolding number_at
number_stays width bytes more = by (ltb (length bytes) width) refl
  where
    by : (b : Bool) → ltb (length bytes) width ≡ b → Stays ℕ (cond b (Err Short) (Ok (big_number width bytes, drop width bytes))) (cond (ltb (length (bytes ++ more)) width) (Err Short) (Ok (big_number width (bytes ++ more), drop width (bytes ++ more)))) more
    by true e = record { is = tt }
    by false e =
        let long : width ≤ length bytes = ltb-false _ _ e in
        let longer : ltb (length (bytes ++ more)) width ≡ false = le-ltb _ _ (omega (arith, length-append bytes more)) in
        record { is = rw (longer, big_from-append width bytes more long, drop-append-le width bytes more long) refl }

bytes_stays : (count : ℕ) (bytes more : List ℕ) → Stays (List ℕ) (bytes_at count bytes) (bytes_at count (bytes ++ more)) more
unfolding bytes_at
bytes_stays count bytes more = by (ltb (length bytes) count) refl
  where
    by : (b : Bool) → ltb (length bytes) count ≡ b → Stays (List ℕ) (cond b (Err Short) (Ok (take count bytes, drop count bytes))) (cond (ltb (length (bytes ++ more)) count) (Err Short) (Ok (take count (bytes ++ more), drop count (bytes ++ more)))) more
    by true e = record { is = tt }
    by false e =
        let long : count ≤ length bytes = ltb-false _ _ e in
        let longer : ltb (length (bytes ++ more)) count ≡ false = le-ltb _ _ (omega (arith, length-append bytes more)) in
        record { is = rw (longer, take-append-le count bytes more long, drop-append-le count bytes more long) refl }

fault_stays : {A : Type 0} (fault : Fault) (more : List ℕ) → Stays A (Err fault) (Err fault) more
fault_stays faults.Short more = record { is = tt }
fault_stays faults.Kind more = record { is = refl }
fault_stays faults.Range more = record { is = refl }
fault_stays faults.Trailing more = record { is = refl }

tested_stays : (width : ℕ) (test : ℕ → Bool) (fault : Fault) (bytes more : List ℕ) → Stays ℕ (tested_at width test fault bytes) (tested_at width test fault (bytes ++ more)) more
unfolding tested_at
tested_stays width test fault bytes more =
    bind (passes test fault) (number_stays width bytes more) (λ n rest. either (test n) (ok_stays n rest more) (fault_stays fault more))

-- ---- names, ids, tags and messages

named_stays : (kind : Kind) (found : Option Ui) (rest more : List ℕ) → Stays Ui (named kind found rest) (named kind found (rest ++ more)) more
named_stays kind None rest more = range_stays more
named_stays kind (Some ui) rest more = either (same_kind ui.kind kind) (ok_stays ui rest more) (range_stays more)

name_stays : (kind : Kind) (bytes more : List ℕ) → Stays Ui (name_at kind bytes) (name_at kind (bytes ++ more)) more
unfolding name_at
name_stays kind bytes more = bind _ (number_stays 8 bytes more) (λ n rest. named_stays kind (name_of_bits n) rest more)

route_stays : (bytes more : List ℕ) → Stays (Option Ui) (route_at bytes) (route_at (bytes ++ more)) more
unfolding route_at
route_stays bytes more =
    bind _ (number_stays 8 bytes more) (λ n rest. either (n == 0) (ok_stays None rest more) (bind _ (named_stays K.Group (name_of_bits n) rest more) (λ group left. ok_stays (Some group) left more)))

only_stays : (bytes more : List ℕ) → Stays (Option ℕ) (only_at bytes) (only_at (bytes ++ more)) more
unfolding only_at
only_stays bytes more =
    bind _ (tested_stays 2 (λ n. nat_le n SITES_LIMIT) Range bytes more) (λ n rest. ok_stays _ rest more)

positive_stays : (bytes more : List ℕ) → Stays ℕ (tested_at 4 (nat_le 1) Range bytes) (tested_at 4 (nat_le 1) Range (bytes ++ more)) more
positive_stays bytes more = tested_stays 4 (nat_le 1) Range bytes more

past_stays : (clock : ℕ) (bytes more : List ℕ) → Stays ℕ (tested_at 8 (λ n. nat_le n clock) Range bytes) (tested_at 8 (λ n. nat_le n clock) Range (bytes ++ more)) more
past_stays clock bytes more = tested_stays 8 (λ n. nat_le n clock) Range bytes more

id_stays : (bytes more : List ℕ) → Stays MsgId (id_at bytes) (id_at (bytes ++ more)) more
unfolding id_at
id_stays bytes more =
    bind _ (number_stays 4 bytes more) (λ seat r0. bind _ (positive_stays r0 more) (λ call r1. bind _ (tested_stays 2 (λ n. nat_le n MEMBERS_LIMIT) Range r1 more) (λ copy r2. ok_stays _ r2 more)))

request_stays : (bytes more : List ℕ) → Stays Tag (request_at bytes) (request_at (bytes ++ more)) more
unfolding request_at
request_stays bytes more =
    bind _ (positive_stays bytes more) (λ call r0. bind _ (name_stays K.Port r0 more) (λ back r1. ok_stays _ r1 more))

reply_stays : (bytes more : List ℕ) → Stays Tag (reply_at bytes) (reply_at (bytes ++ more)) more
unfolding reply_at
reply_stays bytes more =
    bind _ (number_stays 4 bytes more) (λ client r0. bind _ (positive_stays r0 more) (λ call r1. ok_stays _ r1 more))

tag_stays : (bytes more : List ℕ) → Stays Tag (tag_at bytes) (tag_at (bytes ++ more)) more
unfolding tag_at
tag_stays bytes more =
    bind _ (tested_stays 1 (λ c. nat_le c 2) faults.Kind bytes more) (λ code r0. either (code == 0) (ok_stays _ r0 more) (either (code == 1) (request_stays r0 more) (reply_stays r0 more)))

body_stays : (bytes more : List ℕ) → Stays (List ℕ) (body_at bytes) (body_at (bytes ++ more)) more
unfolding body_at
body_stays bytes more =
    bind _ (tested_stays 2 (λ n. nat_le n BODY_LIMIT) Range bytes more) (λ len r0. bytes_stays len r0 more)

message_stays : (bytes more : List ℕ) → Stays Message (message_at bytes) (message_at (bytes ++ more)) more
unfolding message_at
message_stays bytes more =
    bind _ (id_stays bytes more) (λ id r0. bind _ (tag_stays r0 more) (λ tag r1. bind _ (body_stays r1 more) (λ body r2. ok_stays _ r2 more)))

-- ---- answers

located_stays : (clock : ℕ) (bytes more : List ℕ) → Stays (ℕ × ℕ) (located_at clock bytes) (located_at clock (bytes ++ more)) more
unfolding located_at
located_stays clock bytes more =
    bind _ (tested_stays 2 is_place_number Range bytes more) (λ to r0. bind _ (past_stays clock r0 more) (λ hop r1. ok_stays _ r1 more))

answer_of_stays : (clock code : ℕ) (rest more : List ℕ) → Stays Answer (answer_of clock (code, rest)) (answer_of clock (code, rest ++ more)) more
unfolding answer_of accepted_at full_at stale_at early_at elsewhere_at chosen_at
answer_of_stays clock code rest more =
    either (code == 1) (bind _ (past_stays clock rest more) (λ pos r0. ok_stays _ r0 more))
    (either (code == 2) (bind _ (tested_stays 1 (is_from 1 PENDING_LIMIT) Range rest more) (λ len r0. ok_stays _ r0 more))
    (either (code == 3) (bind _ (located_stays clock rest more) (λ at r0. ok_stays _ r0 more))
    (either (code == 4) (bind _ (past_stays clock rest more) (λ hop r0. ok_stays _ r0 more))
    (either (code == 5) (ok_stays _ rest more)
    (either (code == 6) (ok_stays _ rest more)
    (either (code == 7) (ok_stays _ rest more)
    (either (code == 8) (bind _ (located_stays clock rest more) (λ at r0. ok_stays _ r0 more))
    (either (code == 9) (ok_stays _ rest more)
    (either (code == 10) (bind _ (tested_stays 2 (is_from 1 MEMBERS_LIMIT) Range rest more) (λ count r0. ok_stays _ r0 more))
    (ok_stays _ rest more))))))))))

answer_stays : (is_code : ℕ → Bool) (clock : ℕ) (bytes more : List ℕ) → Stays Answer (answer_at is_code clock bytes) (answer_at is_code clock (bytes ++ more)) more
unfolding answer_at
answer_stays is_code clock bytes more =
    bind _ (tested_stays 1 is_code faults.Kind bytes more) (λ code rest. answer_of_stays clock code rest more)

-- ---- records

messages_stays : (before : List Message) (n : ℕ) (bytes more : List ℕ) → Stays (List Message) (messages_at before n bytes) (messages_at before n (bytes ++ more)) more
unfolding messages_at
messages_stays before zero bytes more = ok_stays before bytes more
messages_stays before (suc n) bytes more =
    bind _ (message_stays bytes more) (λ message rest. messages_stays (before ++ message ∷ []) n rest more)

pending_stays : (capacity : ℕ) (bytes more : List ℕ) → Stays (List Message) (pending_at capacity bytes) (pending_at capacity (bytes ++ more)) more
unfolding pending_at
pending_stays capacity bytes more =
    bind _ (tested_stays 1 (λ n. nat_le n capacity) Range bytes more) (λ count rest. messages_stays [] count rest more)

client_stays : (before : List (ℕ × ℕ)) (bytes more : List ℕ) → Stays (ℕ × ℕ) (client_at before bytes) (client_at before (bytes ++ more)) more
unfolding client_at
client_stays before bytes more =
    bind _ (tested_stays 4 (is_new before) Range bytes more) (λ client r0. bind _ (positive_stays r0 more) (λ call r1. ok_stays _ r1 more))

entries_stays : (before : List (ℕ × ℕ)) (n : ℕ) (bytes more : List ℕ) → Stays (List (ℕ × ℕ)) (entries_at before n bytes) (entries_at before n (bytes ++ more)) more
unfolding entries_at
entries_stays before zero bytes more = ok_stays before bytes more
entries_stays before (suc n) bytes more =
    bind _ (client_stays before bytes more) (λ entry rest. entries_stays (before ++ entry ∷ []) n rest more)

clients_stays : (bytes more : List ℕ) → Stays (List (ℕ × ℕ)) (clients_at bytes) (clients_at (bytes ++ more)) more
unfolding clients_at
clients_stays bytes more =
    bind _ (tested_stays 1 (λ n. nat_le n CLIENTS_LIMIT) Range bytes more) (λ count rest. entries_stays [] count rest more)

record_stays : (clock : ℕ) (bytes more : List ℕ) → Stays PortRecord (record_at clock bytes) (record_at clock (bytes ++ more)) more
unfolding record_at
record_stays clock bytes more =
    bind _ (name_stays K.Port bytes more) (λ ui r0. bind _ (name_stays K.Actor r0 more) (λ actor r1. bind _ (tested_stays 1 (is_from 1 PENDING_LIMIT) Range r1 more) (λ capacity r2. bind _ (past_stays clock r2 more) (λ hop r3. bind _ (past_stays clock r3 more) (λ first r4. bind _ (pending_stays capacity r4 more) (λ pending r5. bind _ (clients_stays r5 more) (λ clients r6. ok_stays _ r6 more)))))))

-- ---- packets

asked_stays : (bytes more : List ℕ) → Stays Dest (asked_at bytes) (asked_at (bytes ++ more)) more
unfolding asked_at
asked_stays bytes more =
    bind _ (tested_stays 1 (is_from 1 3) faults.Kind bytes more) (λ mode r0. bind _ (name_stays K.Group r0 more) (λ group r1. bind _ (tested_stays 2 (is_site_with mode) Range r1 more) (λ site r2. ok_stays _ r2 more)))

try_stays : (clock : ℕ) (bytes more : List ℕ) → Stays Cargo (try_at clock bytes) (try_at clock (bytes ++ more)) more
unfolding try_at
try_stays clock bytes more =
    bind _ (route_stays bytes more) (λ route r0. bind _ (only_stays r0 more) (λ only r1. bind _ (past_stays clock r1 more) (λ hop r2. bind _ (name_stays K.Port r2 more) (λ port r3. bind _ (message_stays r3 more) (λ message r4. ok_stays _ r4 more)))))

verdict_stays : (clock : ℕ) (bytes more : List ℕ) → Stays Cargo (verdict_at clock bytes) (verdict_at clock (bytes ++ more)) more
unfolding verdict_at
verdict_stays clock bytes more =
    bind _ (id_stays bytes more) (λ id r0. bind _ (name_stays K.Port r0 more) (λ port r1. bind _ (route_stays r1 more) (λ route r2. bind _ (answer_stays is_told_code clock r2 more) (λ answer r3. ok_stays _ r3 more))))

cargo_stays : (kind clock : ℕ) (bytes more : List ℕ) → Stays Cargo (cargo_at kind clock bytes) (cargo_at kind clock (bytes ++ more)) more
unfolding cargo_at transfer_at ask_at report_at
cargo_stays kind clock bytes more =
    either (kind == 1) (try_stays clock bytes more)
    (either (kind == 2) (verdict_stays clock bytes more)
    (either (kind == 3) (bind _ (record_stays clock bytes more) (λ port r0. ok_stays _ r0 more))
    (either (kind == 4) (bind _ (asked_stays bytes more) (λ dest r0. bind _ (message_stays r0 more) (λ message r1. ok_stays _ r1 more)))
    (bind _ (id_stays bytes more) (λ id r0. bind _ (answer_stays is_reported_code clock r0 more) (λ answer r1. ok_stays _ r1 more))))))

pub packet_stays : (bytes more : List ℕ) → Stays Packet (packet_at bytes) (packet_at (bytes ++ more)) more
unfolding packet_at
packet_stays bytes more =
    bind _ (tested_stays 1 (is_from 1 5) faults.Kind bytes more) (λ kind r0. bind _ (number_stays 8 r0 more) (λ clock r1. bind _ (tested_stays 2 is_place_number Range r1 more) (λ from r2. bind _ (cargo_stays kind clock r2 more) (λ cargo r3. ok_stays _ r3 more))))

-- ---- fronts

abbrev whole : Result (Packet × List ℕ) Fault → Result Packet Fault
whole read = read >>= λ packet. cond (length packet.1 == 0) (Ok packet.0) (Err Trailing)

abbrev alone : Packet → Result (Packet × List ℕ) Fault
alone packet = Ok (packet, [])

left_over : (rest more : List ℕ) → [] ≡ rest ++ more → more ≡ []
left_over rest more e = nil_from_length more (omega (arith, length-append rest more, sym (ap length e)))

short_front : (packet : Packet) (read : Result (Packet × List ℕ) Fault) (more : List ℕ) → more ≢ [] → stays read (alone packet) more → whole read ≡ Err Short
short_front packet (Ok x) more some h =
    let left : Packet × List ℕ = (packet, []) in
    let right : Packet × List ℕ = (x.0, x.1 ++ more) in
    let nothing : [] ≡ x.1 ++ more = ap (λ (p : Packet × List ℕ). p.1) (ok_is left right h) in
    absurd (some (left_over x.1 more nothing))
short_front packet (Err faults.Short) more some h = refl
short_front packet (Err faults.Kind) more some h = absurd cc
short_front packet (Err faults.Range) more some h = absurd cc
short_front packet (Err faults.Trailing) more some h = absurd cc

pub fronts : (packet : Packet) (n : ℕ) → IsHeld packet → has_ranges packet ≡ true → n < length (frame packet) → packet_of (take n (frame packet)) ≡ Err Short
unfolding packet_of
fronts packet n held ranges lt =
    let front = take n (frame packet) in
    let more = drop n (frame packet) in
    let all : front ++ more ≡ frame packet ++ [] = take-append-drop n (frame packet) ∙ sym (append-nil (frame packet)) in
    let read : packet_at (front ++ more) ≡ alone packet = ap packet_at all ∙ packet-again packet [] held ranges in
    let some : more ≢ [] = λ e. absurd (omega (arith, length-drop n (frame packet), ap length e)) in
    short_front packet (packet_at front) more some (subst (λ (longer : Result (Packet × List ℕ) Fault). stays (packet_at front) longer more) read (packet_stays front more).is)
