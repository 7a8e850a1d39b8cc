-- The record of a port both ways.
use Rattle.std.proofs.Common.{◌≡◌, ℕ, zero, suc, ◌^◌, ◌<◌, Bool, true, false, not, ◌&&◌, ◌||◌, cond, ◌==◌, nat_le, Some, is_some, List, [], ◌∷◌, ◌++◌, length, Ok, refl, sym, ap, subst, ◌∙◌, append_assoc, arith}
use Rattle.std.specs.List.{flat_map, list_all, AllByRecursion}
use Rattle.std.proofs.lemmas.Bool.{and_parts, eqb-true, eq-eqb}
use Rattle.std.proofs.lemmas.List.{append-nil}
use Rattle.std.proofs.lemmas.List.Concat.{flat_map-cons}
use Rattle.chorus_ui.specs.declared.kind.Kind.TheVariants as K
use Rattle.chorus_ui.specs.declared.limits.TheConstants.{CLIENTS_LIMIT, PENDING_LIMIT}
use Rattle.chorus_entry.specs.declared.message.Message.{Message}
use Rattle.chorus_entry.specs.declared.record.PortRecord.{PortRecord}
use Rattle.chorus_entry.specs.ClientTable.{number_of, are_distinct}
use Rattle.chorus_entry.proofs.ClientTables.{are_distinct-snoc}
use Rattle.chorus_ui.specs.NameKind.{is_port, is_actor}
use Rattle.chorus_entry.specs.Ranges.{is_from, has_ranges_of_message, has_range_of_client, has_ranges_of_clients, has_ranges_of_record}
use Rattle.chorus_frame.specs.Fault.{Range}
use Rattle.chorus_frame.specs.Numbers.{number}
use Rattle.chorus_frame.specs.Laws.{AreBytes}
use Rattle.chorus_frame.specs.Spelling.{name_field, message_fields, client_fields, pending_fields, clients_fields, record_fields}
use Rattle.chorus_frame.specs.Reading.{capacity_at, messages_at, pending_at, is_new, client_at, entries_at, clients_at, record_at}
use Rattle.chorus_frame.specs.Held.{IsHeldMessage, IsHeldClient, IsHeldRecord}
use Rattle.chorus_frame.proofs.Numbers.{ok_is}
use Rattle.chorus_frame.proofs.Formats.{Taken, IsFormat, step, join, IsTested, tested_format, assoc2, assoc7, from_nat_le, both}
use Rattle.chorus_frame.proofs.MessageFormats.{name_format, IsGoodMessage, message_format}
use Rattle.chorus_frame.proofs.AnswerFormats.{up_to_clock_format, up_to_clock_fits}

-- ---- lists

all_join : {X : Type 0} (P : X → Type 0) (test : X → Bool) (xs : List X) → AllByRecursion P xs → list_all test xs ≡ true → AllByRecursion (λ x. P x × (test x ≡ true)) xs
all_join P test [] held passed = tt
all_join P test (x ∷ xs) held passed =
    let p = and_parts (test x) (list_all test xs) passed in
    ((held.0, p.0), all_join P test xs held.1 p.1)

all_held : {X : Type 0} (P : X → Type 0) (test : X → Bool) (xs : List X) → AllByRecursion (λ x. P x × (test x ≡ true)) xs → AllByRecursion P xs
all_held P test [] all = tt
all_held P test (x ∷ xs) all = (all.0.0, all_held P test xs all.1)

all_passed : {X : Type 0} (P : X → Type 0) (test : X → Bool) (xs : List X) → AllByRecursion (λ x. P x × (test x ≡ true)) xs → list_all test xs ≡ true
all_passed P test [] all = refl
all_passed P test (x ∷ xs) all = both _ _ all.0.1 (all_passed P test xs all.1)

-- ---- the queue

-- what a loop over messages took
record TookMessages (before : List Message) (n : ℕ) (bytes : List ℕ) (x : List Message) (rest : List ℕ) : Type 0 where
  messages : List Message
  all : x ≡ before ++ messages
  count : length messages ≡ n
  taken : Taken bytes (flat_map message_fields messages) rest
  good : AllByRecursion IsGoodMessage messages

messages-take : (n : ℕ) (before : List Message) (bytes : List ℕ) (x : List Message) (rest : List ℕ) → AreBytes bytes → messages_at before n bytes ≡ Ok (x, rest) → TookMessages before n bytes x rest
unfolding messages_at
messages-take zero before bytes x rest are e =
    let made : List Message × List ℕ = (before, bytes) in
    subst (λ (p : List Message × List ℕ). TookMessages before 0 bytes p.0 p.1) (ok_is made (x, rest) e) (record { messages = []; all = sym (append-nil before); count = refl; taken = record { parts = refl; rest_bytes = are }; good = tt })
messages-take (suc n) before bytes x rest are e =
    let a = step message_format _ bytes (x, rest) are e in
    let t = messages-take n (before ++ a.value ∷ []) a.rest x rest a.taken.rest_bytes a.on in
    record {
      messages = a.value ∷ t.messages;
      all = t.all ∙ append_assoc before (a.value ∷ []) t.messages;
      count = ap suc t.count;
      taken = rw flat_map-cons (join a.taken t.taken);
      good = (a.fit, t.good);
    }

messages-again : (ms before : List Message) (rest : List ℕ) → AllByRecursion IsGoodMessage ms → messages_at before (length ms) (flat_map message_fields ms ++ rest) ≡ Ok (before ++ ms, rest)
unfolding messages_at
messages-again [] before rest good = ap (λ (ms : List Message). Ok (ms, rest)) (sym (append-nil before))
messages-again (m ∷ ms) before rest good =
    let regrouped : flat_map message_fields (m ∷ ms) ++ rest ≡ message_fields m ++ (flat_map message_fields ms ++ rest) = ap (λ (x : List ℕ). x ++ rest) (flat_map-cons message_fields m ms) ∙ append_assoc (message_fields m) (flat_map message_fields ms) rest in
    ap (messages_at before (suc (length ms))) regrouped
    ∙ rw (message_format.again m (flat_map message_fields ms ++ rest) good.0, messages-again ms (before ++ m ∷ []) rest good.1) (ap (λ (all : List Message). Ok (all, rest)) (append_assoc before (m ∷ []) ms))

abbrev pub IsGoodPending : ℕ → List Message → Type 0
IsGoodPending capacity ms = IsTested 1 (λ n. nat_le n capacity) (length ms) × AllByRecursion IsGoodMessage ms

pending-takes : (capacity : ℕ) (bytes : List ℕ) (x : List Message) (rest : List ℕ) → AreBytes bytes → pending_at capacity bytes ≡ Ok (x, rest) → Taken bytes (pending_fields x) rest × IsGoodPending capacity x
unfolding pending_at
pending-takes capacity bytes x rest are e =
    let a = step (tested_format 1 (λ n. nat_le n capacity) Range) (λ count. messages_at [] count.0 count.1) bytes (x, rest) are e in
    let t = messages-take a.value [] a.rest x rest a.taken.rest_bytes a.on in
    let made : Taken bytes (number 1 a.value ++ flat_map message_fields t.messages) rest × IsTested 1 (λ n. nat_le n capacity) a.value = (join a.taken t.taken, a.fit) in
    let counted = subst (λ (n : ℕ). Taken bytes (number 1 n ++ flat_map message_fields t.messages) rest × IsTested 1 (λ k. nat_le k capacity) n) (sym t.count) made in
    subst (λ (ms : List Message). Taken bytes (pending_fields ms) rest × IsGoodPending capacity ms) (sym t.all) (counted.0, (counted.1, t.good))

pending-again : (capacity : ℕ) (x : List Message) (rest : List ℕ) → IsGoodPending capacity x → pending_at capacity (pending_fields x ++ rest) ≡ Ok (x, rest)
unfolding pending_at
pending-again capacity x rest fit =
    ap (pending_at capacity) (assoc2 (number 1 (length x)) (flat_map message_fields x) rest)
    ∙ rw ((tested_format 1 (λ n. nat_le n capacity) Range).again (length x) (flat_map message_fields x ++ rest) fit.0) (messages-again x [] rest fit.1)

pub pending_format : (capacity : ℕ) → IsFormat (List Message) (IsGoodPending capacity) pending_fields (pending_at capacity)
pending_format capacity = record { takes = pending-takes capacity; again = pending-again capacity }

-- ---- the clients

abbrev IsGoodClient : ℕ × ℕ → Type 0
IsGoodClient entry = IsHeldClient entry × (has_range_of_client entry ≡ true)

abbrev IsNewClient : List (ℕ × ℕ) → ℕ × ℕ → Type 0
IsNewClient before entry = IsGoodClient entry × (is_new before entry.0 ≡ true)

client-takes : (before : List (ℕ × ℕ)) (bytes : List ℕ) (x : ℕ × ℕ) (rest : List ℕ) → AreBytes bytes → client_at before bytes ≡ Ok (x, rest) → Taken bytes (client_fields x) rest × IsNewClient before x
unfolding client_at
client-takes before bytes x rest are e =
    let a = step (tested_format 4 (is_new before) Range) _ bytes (x, rest) are e in
    let b = step (tested_format 4 (nat_le 1) Range) _ a.rest (x, rest) a.taken.rest_bytes a.on in
    let made : (ℕ × ℕ) × List ℕ = ((a.value, b.value), b.rest) in
    subst (λ (p : (ℕ × ℕ) × List ℕ). Taken bytes (client_fields p.0) p.1 × IsNewClient before p.0) (ok_is made (x, rest) b.on) (join a.taken b.taken, (((a.fit.0, b.fit.0), b.fit.1), a.fit.1))

client-again : (before : List (ℕ × ℕ)) (x : ℕ × ℕ) (rest : List ℕ) → IsNewClient before x → client_at before (client_fields x ++ rest) ≡ Ok (x, rest)
unfolding client_at
client-again before x rest fit =
    ap (client_at before) (assoc2 (number 4 x.0) (number 4 x.1) rest)
    ∙ rw ((tested_format 4 (is_new before) Range).again x.0 (number 4 x.1 ++ rest) (fit.0.0.0, fit.1), (tested_format 4 (nat_le 1) Range).again x.1 rest (fit.0.0.1, fit.0.1)) refl

client_format : (before : List (ℕ × ℕ)) → IsFormat (ℕ × ℕ) (IsNewClient before) client_fields (client_at before)
client_format before = record { takes = client-takes before; again = client-again before }

from_not : (b : Bool) → not b ≡ true → b ≡ false
from_not true e = sym e
from_not false e = refl

to_not : (b : Bool) → b ≡ false → not b ≡ true
to_not true e = sym e
to_not false e = refl

record TookClients (before : List (ℕ × ℕ)) (n : ℕ) (bytes : List ℕ) (x : List (ℕ × ℕ)) (rest : List ℕ) : Type 0 where
  clients : List (ℕ × ℕ)
  all : x ≡ before ++ clients
  count : length clients ≡ n
  taken : Taken bytes (flat_map client_fields clients) rest
  good : AllByRecursion IsGoodClient clients
  distinct : are_distinct x ≡ true

entries-take : (n : ℕ) (before : List (ℕ × ℕ)) (bytes : List ℕ) (x : List (ℕ × ℕ)) (rest : List ℕ) → AreBytes bytes → are_distinct before ≡ true → entries_at before n bytes ≡ Ok (x, rest) → TookClients before n bytes x rest
unfolding entries_at
entries-take zero before bytes x rest are distinct e =
    let made : List (ℕ × ℕ) × List ℕ = (before, bytes) in
    subst (λ (p : List (ℕ × ℕ) × List ℕ). TookClients before 0 bytes p.0 p.1) (ok_is made (x, rest) e) (record { clients = []; all = sym (append-nil before); count = refl; taken = record { parts = refl; rest_bytes = are }; good = tt; distinct = distinct })
entries-take (suc n) before bytes x rest are distinct e =
    let a = step (client_format before) _ bytes (x, rest) are e in
    let one_more = are_distinct-snoc before a.value.0 a.value.1 (from_not _ a.fit.1) distinct in
    let t = entries-take n (before ++ a.value ∷ []) a.rest x rest a.taken.rest_bytes one_more a.on in
    record {
      clients = a.value ∷ t.clients;
      all = t.all ∙ append_assoc before (a.value ∷ []) t.clients;
      count = ap suc t.count;
      taken = rw flat_map-cons (join a.taken t.taken);
      good = (a.fit.0, t.good);
      distinct = t.distinct;
    }

-- who is known of two tables
known-append : (xs ys : List (ℕ × ℕ)) (client : ℕ) → is_some (number_of (xs ++ ys) client) ≡ (is_some (number_of xs client) || is_some (number_of ys client))
known-append [] ys client = refl
known-append (x ∷ xs) ys client = by (x.0 == client) (known-append xs ys client)
  where
    by : (b : Bool) → is_some (number_of (xs ++ ys) client) ≡ (is_some (number_of xs client) || is_some (number_of ys client)) → is_some (cond b (Some x.1) (number_of (xs ++ ys) client)) ≡ (is_some (cond b (Some x.1) (number_of xs client)) || is_some (number_of ys client))
    by true h = refl
    by false h = h

or_false : (a b : Bool) → (a || b) ≡ false → (a ≡ false) × (b ≡ false)
or_false true b e = absurd cc
or_false false b e = (refl, e)

-- an entry of a table of distinct clients is not known before it
new_before : (before : List (ℕ × ℕ)) (entry : ℕ × ℕ) (behind : List (ℕ × ℕ)) → are_distinct (before ++ entry ∷ behind) ≡ true → is_some (number_of before entry.0) ≡ false
new_before [] entry behind distinct = refl
new_before (first ∷ before) entry behind distinct =
    let p = and_parts (not (is_some (number_of (before ++ entry ∷ behind) first.0))) (are_distinct (before ++ entry ∷ behind)) distinct in
    let absent = or_false _ _ (sym (known-append before (entry ∷ behind) first.0) ∙ from_not _ p.0) in
    by (first.0 == entry.0) refl (here (entry.0 == first.0) refl absent.1) (new_before before entry behind p.1)
  where
    here : (b : Bool) → (entry.0 == first.0) ≡ b → is_some (cond b (Some entry.1) (number_of behind first.0)) ≡ false → b ≡ false
    here true e known = absurd cc
    here false e known = refl

    by : (b : Bool) → (first.0 == entry.0) ≡ b → (entry.0 == first.0) ≡ false → is_some (number_of before entry.0) ≡ false → is_some (cond b (Some first.1) (number_of before entry.0)) ≡ false
    by true same differs h = let e : (entry.0 == first.0) ≡ true = eq-eqb entry.0 first.0 (sym (eqb-true first.0 entry.0 same)) in absurd (cc)
    by false same differs h = h

entries-again : (es before : List (ℕ × ℕ)) (rest : List ℕ) → AllByRecursion IsGoodClient es → are_distinct (before ++ es) ≡ true → entries_at before (length es) (flat_map client_fields es ++ rest) ≡ Ok (before ++ es, rest)
unfolding entries_at
entries-again [] before rest good distinct = ap (λ (es : List (ℕ × ℕ)). Ok (es, rest)) (sym (append-nil before))
entries-again (e ∷ es) before rest good distinct =
    let regrouped : flat_map client_fields (e ∷ es) ++ rest ≡ client_fields e ++ (flat_map client_fields es ++ rest) = ap (λ (x : List ℕ). x ++ rest) (flat_map-cons client_fields e es) ∙ append_assoc (client_fields e) (flat_map client_fields es) rest in
    let new : is_new before e.0 ≡ true = to_not _ (new_before before e es distinct) in
    let later : are_distinct ((before ++ e ∷ []) ++ es) ≡ true = ap are_distinct (append_assoc before (e ∷ []) es) ∙ distinct in
    ap (entries_at before (suc (length es))) regrouped
    ∙ rw ((client_format before).again e (flat_map client_fields es ++ rest) (good.0, new), entries-again es (before ++ e ∷ []) rest good.1 later) (ap (λ (all : List (ℕ × ℕ)). Ok (all, rest)) (append_assoc before (e ∷ []) es))

abbrev pub IsGoodClients : List (ℕ × ℕ) → Type 0
IsGoodClients clients = AllByRecursion IsHeldClient clients × (has_ranges_of_clients clients ≡ true)

clients-takes : (bytes : List ℕ) (x : List (ℕ × ℕ)) (rest : List ℕ) → AreBytes bytes → clients_at bytes ≡ Ok (x, rest) → Taken bytes (clients_fields x) rest × IsGoodClients x
unfolding clients_at
clients-takes bytes x rest are e =
    let a = step (tested_format 1 (λ n. nat_le n CLIENTS_LIMIT) Range) (λ count. entries_at [] count.0 count.1) bytes (x, rest) are e in
    let t = entries-take a.value [] a.rest x rest a.taken.rest_bytes refl a.on in
    let made : Taken bytes (number 1 a.value ++ flat_map client_fields t.clients) rest × (nat_le a.value CLIENTS_LIMIT ≡ true) = (join a.taken t.taken, a.fit.1) in
    let counted = subst (λ (n : ℕ). Taken bytes (number 1 n ++ flat_map client_fields t.clients) rest × (nat_le n CLIENTS_LIMIT ≡ true)) (sym t.count) made in
    let same : x ≡ t.clients = t.all in
    let distinct : are_distinct t.clients ≡ true = ap are_distinct (sym same) ∙ t.distinct in
    subst (λ (es : List (ℕ × ℕ)). Taken bytes (clients_fields es) rest × IsGoodClients es) (sym same) (counted.0, (all_held IsHeldClient has_range_of_client t.clients t.good, both _ _ (both _ _ counted.1 distinct) (all_passed IsHeldClient has_range_of_client t.clients t.good)))

clients-again : (x : List (ℕ × ℕ)) (rest : List ℕ) → IsGoodClients x → clients_at (clients_fields x ++ rest) ≡ Ok (x, rest)
unfolding clients_at
clients-again x rest fit =
    let p = and_parts (nat_le (length x) CLIENTS_LIMIT && are_distinct x) (list_all has_range_of_client x) fit.1 in
    let q = and_parts (nat_le (length x) CLIENTS_LIMIT) (are_distinct x) p.0 in
    let top = from_nat_le (length x) CLIENTS_LIMIT q.0 in
    ap clients_at (assoc2 (number 1 (length x)) (flat_map client_fields x) rest)
    ∙ rw ((tested_format 1 (λ n. nat_le n CLIENTS_LIMIT) Range).again (length x) (flat_map client_fields x ++ rest) (omega arith, q.0)) (entries-again x [] rest (all_join IsHeldClient has_range_of_client x fit.0 p.1) q.1)

pub clients_format : IsFormat (List (ℕ × ℕ)) IsGoodClients clients_fields clients_at
clients_format = record { takes = clients-takes; again = clients-again }

-- ---- the record

abbrev pub IsGoodRecord : ℕ → PortRecord → Type 0
IsGoodRecord clock port = IsHeldRecord port × (has_ranges_of_record clock port ≡ true)

capacity_format : IsFormat ℕ (IsTested 1 (is_from 1 PENDING_LIMIT)) (number 1) capacity_at
capacity_format = tested_format 1 (is_from 1 PENDING_LIMIT) Range

record-takes : (clock : ℕ) (bytes : List ℕ) (x : PortRecord) (rest : List ℕ) → AreBytes bytes → record_at clock bytes ≡ Ok (x, rest) → Taken bytes (record_fields x) rest × IsGoodRecord clock x
unfolding record_at
record-takes clock bytes x rest are e =
    let a = step (name_format K.Port) _ bytes (x, rest) are e in
    let b = step (name_format K.Actor) _ a.rest (x, rest) a.taken.rest_bytes a.on in
    let c = step capacity_format _ b.rest (x, rest) b.taken.rest_bytes b.on in
    let d = step (up_to_clock_format clock) _ c.rest (x, rest) c.taken.rest_bytes c.on in
    let f = step (up_to_clock_format clock) _ d.rest (x, rest) d.taken.rest_bytes d.on in
    let g = step (pending_format c.value) _ f.rest (x, rest) f.taken.rest_bytes f.on in
    let h = step clients_format _ g.rest (x, rest) g.taken.rest_bytes g.on in
    let made : PortRecord × List ℕ = (record { ui = a.value; actor = b.value; capacity = c.value; hop = d.value; first = f.value; pending = g.value; clients = h.value }, h.rest) in
    let taken = join (join (join (join (join (join a.taken b.taken) c.taken) d.taken) f.taken) g.taken) h.taken in
    let messages = all_passed IsHeldMessage has_ranges_of_message g.value g.fit.1 in
    let ranges = both _ _ (both _ _ (both _ _ (both _ _ (both _ _ (both _ _ (both _ _ a.fit.1 b.fit.1) c.fit.1) d.fit.1) f.fit.1) g.fit.0.1) messages) h.fit.1 in
    subst (λ (p : PortRecord × List ℕ). Taken bytes (record_fields p.0) p.1 × IsGoodRecord clock p.0) (ok_is made (x, rest) h.on) (taken, ((a.fit.0, b.fit.0, all_held IsHeldMessage has_ranges_of_message g.value g.fit.1, h.fit.0), ranges))

record-again : (clock : ℕ) → clock < 2 ^ 64 → (x : PortRecord) (rest : List ℕ) → IsGoodRecord clock x → record_at clock (record_fields x ++ rest) ≡ Ok (x, rest)
unfolding record_at
record-again clock held x rest fit =
    let p7 = and_parts _ (has_ranges_of_clients x.clients) fit.1 in
    let p6 = and_parts _ (list_all has_ranges_of_message x.pending) p7.0 in
    let p5 = and_parts _ (nat_le (length x.pending) x.capacity) p6.0 in
    let p4 = and_parts _ (nat_le x.first clock) p5.0 in
    let p3 = and_parts _ (nat_le x.hop clock) p4.0 in
    let p2 = and_parts _ (is_from 1 PENDING_LIMIT x.capacity) p3.0 in
    let p1 = and_parts (is_port x.ui) (is_actor x.actor) p2.0 in
    let cap = and_parts (nat_le 1 x.capacity) (nat_le x.capacity PENDING_LIMIT) p2.1 in
    let top = from_nat_le x.capacity PENDING_LIMIT cap.1 in
    let few = from_nat_le (length x.pending) x.capacity p5.1 in
    let clients = clients_fields x.clients ++ rest in
    let pending = pending_fields x.pending ++ clients in
    let first = number 8 x.first ++ pending in
    let hop = number 8 x.hop ++ first in
    let capacity = number 1 x.capacity ++ hop in
    ap (record_at clock) (assoc7 (name_field x.ui) (name_field x.actor) (number 1 x.capacity) (number 8 x.hop) (number 8 x.first) (pending_fields x.pending) (clients_fields x.clients) rest)
    ∙ rw (
      (name_format K.Port).again x.ui (name_field x.actor ++ capacity) (fit.0.0, p1.0),
      (name_format K.Actor).again x.actor capacity (fit.0.1, p1.1),
      capacity_format.again x.capacity hop (omega arith, p2.1),
      (up_to_clock_format clock).again x.hop first (up_to_clock_fits clock x.hop held p3.1),
      (up_to_clock_format clock).again x.first pending (up_to_clock_fits clock x.first held p4.1),
      (pending_format x.capacity).again x.pending clients ((omega arith, p5.1), all_join IsHeldMessage has_ranges_of_message x.pending fit.0.2 p6.1),
      clients_format.again x.clients rest (fit.0.3, p7.1),
    ) refl

pub record_format : (clock : ℕ) → clock < 2 ^ 64 → IsFormat PortRecord (IsGoodRecord clock) record_fields (record_at clock)
record_format clock held = record { takes = record-takes clock; again = record-again clock held }
