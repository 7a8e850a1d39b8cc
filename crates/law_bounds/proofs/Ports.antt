-- The records of ports stay within their ranges.
use Rattle.std.proofs.Common.{ℕ, ◌≡◌, ◌≤◌, ◌+◌, ◌==◌, nat_le, max, Bool, true, false, ◌&&◌, not, cond, if◌then◌else◌, List, [], ◌∷◌, ◌++◌, length, length-append, Option, Some, None, is_some, refl, sym, ◌∙◌, ap, subst, arith, leb-true, All}
use Rattle.std.specs.List.{list_all}
use Rattle.std.proofs.lemmas.Bool.{and_parts, and_from, le-leb}
use Rattle.std.proofs.lemmas.Bool.Decides.{nat_tests}
use Rattle.std.proofs.lemmas.List.Elements.{All-nil, All-cons, All-head, All-tail}
use Rattle.chorus_ui.specs.declared.ui.Ui.{Ui}
use Rattle.chorus_ui.specs.Name.{same_ui}
use Rattle.chorus_entry.specs.declared.message.Message.{Message}
use Rattle.chorus_entry.specs.declared.tag.Tag.{Tag}
use Rattle.chorus_entry.specs.declared.tag.Tag.TheVariants.{Plain, Request, Reply}
use Rattle.chorus_entry.specs.declared.record.PortRecord.{PortRecord}
use Rattle.chorus_entry.specs.PortRecord.{new_record}
use Rattle.chorus_ui.specs.NameKind.{is_port, is_actor}
use Rattle.chorus_entry.specs.Command.{is_capacity}
use Rattle.chorus_entry.specs.Clients.{is_one_too_many, raised, with_client, remembered}
use Rattle.chorus_entry.specs.ClientTable.{number_of, are_distinct, renumbered, with_number}
use Rattle.chorus_entry.specs.Ranges.{is_from, has_range_of_tag, has_ranges_of_message, has_range_of_client, has_ranges_of_clients}
use Rattle.chorus_entry.proofs.Clients.{length-with_client}
use Rattle.chorus_entry.proofs.ClientTables.{are_distinct-snoc, are_distinct-with_number}
use Rattle.chorus_ports.specs.Table.{find, replace, without}
use Rattle.chorus_ports.specs.Deciding.{is_full, enqueued}
use Rattle.chorus_ports.specs.Taking.{passed, after_take, rehomed}
use Rattle.chorus_ports.specs.History.{migrated}
use Rattle.law_bounds.specs.Bounds.{IsPortWithin}
use Rattle.law_bounds.proofs.Ranges.{all-append, le-later, message-parts}

-- The parts of a record's range.
pub record Parts (clock : ℕ) (r : PortRecord) : Type 0 where
  pub ui : is_port r.ui ≡ true
  pub actor : is_actor r.actor ≡ true
  pub capacity : is_from 1 64 r.capacity ≡ true
  pub hop : nat_le r.hop clock ≡ true
  pub few : length r.pending ≤ r.capacity
  pub pending : list_all has_ranges_of_message r.pending ≡ true
  pub clients : has_ranges_of_clients r.clients ≡ true
  pub position : r.first + length r.pending ≤ clock

pub parts : (c : ℕ) (r : PortRecord) → IsPortWithin c r → Parts c r
parts c r h =
    let p8 = and_parts (is_port r.ui && is_actor r.actor && is_from 1 64 r.capacity && nat_le r.hop c && nat_le r.first c && nat_le (length r.pending) r.capacity && list_all has_ranges_of_message r.pending) (has_ranges_of_clients r.clients) h.ranges in
    let p7 = and_parts (is_port r.ui && is_actor r.actor && is_from 1 64 r.capacity && nat_le r.hop c && nat_le r.first c && nat_le (length r.pending) r.capacity) (list_all has_ranges_of_message r.pending) p8.0 in
    let p6 = and_parts (is_port r.ui && is_actor r.actor && is_from 1 64 r.capacity && nat_le r.hop c && nat_le r.first c) (nat_le (length r.pending) r.capacity) p7.0 in
    let p5 = and_parts (is_port r.ui && is_actor r.actor && is_from 1 64 r.capacity && nat_le r.hop c) (nat_le r.first c) p6.0 in
    let p4 = and_parts (is_port r.ui && is_actor r.actor && is_from 1 64 r.capacity) (nat_le r.hop c) p5.0 in
    let p3 = and_parts (is_port r.ui && is_actor r.actor) (is_from 1 64 r.capacity) p4.0 in
    let p2 = and_parts (is_port r.ui) (is_actor r.actor) p3.0 in
    record {
      ui = p2.0;
      actor = p2.1;
      capacity = p3.1;
      hop = p4.1;
      few = leb-true (length r.pending) r.capacity p6.1;
      pending = p7.1;
      clients = p8.1;
      position = h.position;
    }

pub within : (c : ℕ) (r : PortRecord) → Parts c r → IsPortWithin c r
within c r h =
    let end = h.position in
    record {
      ranges =
          and_from (is_port r.ui && is_actor r.actor && is_from 1 64 r.capacity && nat_le r.hop c && nat_le r.first c && nat_le (length r.pending) r.capacity && list_all has_ranges_of_message r.pending) (has_ranges_of_clients r.clients)
          (and_from (is_port r.ui && is_actor r.actor && is_from 1 64 r.capacity && nat_le r.hop c && nat_le r.first c && nat_le (length r.pending) r.capacity) (list_all has_ranges_of_message r.pending)
          (and_from (is_port r.ui && is_actor r.actor && is_from 1 64 r.capacity && nat_le r.hop c && nat_le r.first c) (nat_le (length r.pending) r.capacity)
          (and_from (is_port r.ui && is_actor r.actor && is_from 1 64 r.capacity && nat_le r.hop c) (nat_le r.first c)
          (and_from (is_port r.ui && is_actor r.actor && is_from 1 64 r.capacity) (nat_le r.hop c)
          (and_from (is_port r.ui && is_actor r.actor) (is_from 1 64 r.capacity) (and_from (is_port r.ui) (is_actor r.actor) h.ui h.actor) h.capacity) h.hop)
          (le-leb r.first c (omega (arith, end)))) (le-leb (length r.pending) r.capacity h.few)) h.pending) h.clients;
      position = h.position;
    }

-- One record.

pub later : (c d : ℕ) (r : PortRecord) → c ≤ d → IsPortWithin c r → IsPortWithin d r
later c d r le h =
    let p = parts c r h in
    let end = p.position in
    within d r (record { ui = p.ui; actor = p.actor; capacity = p.capacity; hop = le-later r.hop c d le p.hop; few = p.few; pending = p.pending; clients = p.clients; position = omega (arith, le, end) })

pub new-within : (c : ℕ) (q actor : Ui) (capacity : ℕ) → is_port q ≡ true → is_actor actor ≡ true → is_capacity capacity ≡ true → IsPortWithin c (new_record q actor capacity)
new-within c q actor capacity port named size =
    within c (new_record q actor capacity) (record {
      ui = port;
      actor = named;
      capacity = size;
      hop = le-leb 0 c (omega arith);
      few = omega arith;
      pending = refl;
      clients = refl;
      position = omega arith;
    })

pub rehomed-within : (c : ℕ) (actor : Ui) (r : PortRecord) → is_actor actor ≡ true → IsPortWithin c r → IsPortWithin c (rehomed actor r)
rehomed-within c actor r named h =
    let p = parts c r h in
    within c (rehomed actor r) (record { ui = p.ui; actor = named; capacity = p.capacity; hop = p.hop; few = p.few; pending = p.pending; clients = p.clients; position = p.position })

pub migrated-within : (c hop : ℕ) (actor : Ui) (r : PortRecord) → is_actor actor ≡ true → hop ≤ c → IsPortWithin c r → IsPortWithin c (migrated hop actor r)
migrated-within c hop actor r named le h =
    let p = parts c r h in
    within c (migrated hop actor r) (record { ui = p.ui; actor = named; capacity = p.capacity; hop = le-leb hop c le; few = p.few; pending = p.pending; clients = p.clients; position = p.position })

pub taken-within : (c : ℕ) (actor : Ui) (r : PortRecord) → IsPortWithin c r → IsPortWithin c (after_take actor r)
taken-within c actor r h = by (same_ui r.actor actor) r.pending refl
  where
    by : (b : Bool) (ms : List Message) → r.pending ≡ ms → IsPortWithin c (cond b (passed ms r) r)
    by false ms e = h
    by true [] e = h
    by true (m ∷ ms) e =
        let p = parts c r h in
        let long : length r.pending ≡ length (m ∷ ms) = ap (λ (xs : List Message). length xs) e in
        let few = p.few in
        let end = p.position in
        within c (passed (m ∷ ms) r) (record {
          ui = p.ui;
          actor = p.actor;
          capacity = p.capacity;
          hop = p.hop;
          few = omega (arith, long, few);
          pending = (and_parts (has_ranges_of_message m) (list_all has_ranges_of_message ms) (ap (list_all has_ranges_of_message) (sym e) ∙ p.pending)).1;
          clients = p.clients;
          position = omega (arith, long, end);
        })

-- Clients.

raised-from-one : (n : ℕ) (o : Option ℕ) → nat_le 1 n ≡ true → nat_le 1 (raised n o) ≡ true
raised-from-one n None h = h
raised-from-one n (Some kept) h = let le = leb-true 1 n h in le-leb 1 (max n kept) (omega (arith, le))

renumbered-all : (client n : ℕ) (clients : List (ℕ × ℕ)) → nat_le 1 n ≡ true → list_all has_range_of_client clients ≡ true → list_all has_range_of_client (with_number clients client n) ≡ true
renumbered-all client n [] h k = refl
renumbered-all client n (x ∷ xs) h k =
    let two = and_parts (has_range_of_client x) (list_all has_range_of_client xs) k in
    and_from (has_range_of_client (renumbered client n x)) (list_all has_range_of_client (with_number xs client n)) (by (x.0 == client) two.0) (renumbered-all client n xs h two.1)
  where
    by : (b : Bool) → has_range_of_client x ≡ true → has_range_of_client (cond b (x.0, n) x) ≡ true
    by true z = h
    by false z = z

client-within : (clients : List (ℕ × ℕ)) (client n : ℕ) (back : Ui) → nat_le 1 n ≡ true → is_one_too_many client (Request n back) clients ≡ false → has_ranges_of_clients clients ≡ true
    → has_ranges_of_clients (with_client clients client n) ≡ true
client-within clients client n back h room k =
    let three = and_parts (nat_le (length clients) 64 && are_distinct clients) (list_all has_range_of_client clients) k in
    let two = and_parts (nat_le (length clients) 64) (are_distinct clients) three.0 in
    and_from (nat_le (length (with_client clients client n)) 64 && are_distinct (with_client clients client n)) (list_all has_range_of_client (with_client clients client n))
    (and_from (nat_le (length (with_client clients client n)) 64) (are_distinct (with_client clients client n)) (few two.0) (apart two.1)) (numbered three.1)
  where
    few : nat_le (length clients) 64 ≡ true → nat_le (length (with_client clients client n)) 64 ≡ true
    few le =
        let long = length-with_client clients client n in
        let less = leb-true (length clients) 64 le in
        le-leb (length (with_client clients client n)) 64 (by (is_some (number_of clients client)) room long)
      where
        by : (b : Bool) → (not b && nat_le 64 (length clients)) ≡ false → length (with_client clients client n) ≡ length clients + cond b 0 1 → length (with_client clients client n) ≤ 64
        by true e long = let less = leb-true (length clients) 64 le in omega (arith, less, long)
        by false e long = grind (arith, nat_tests, long, e)

    apart : are_distinct clients ≡ true → are_distinct (with_client clients client n) ≡ true
    apart d = by (number_of clients client) refl
      where
        by : (o : Option ℕ) → number_of clients client ≡ o → are_distinct (if is_some o then with_number clients client (raised n o) else clients ++ (client, n) ∷ []) ≡ true
        by (Some kept) e = are_distinct-with_number clients client (raised n (Some kept)) ∙ d
        by None e = are_distinct-snoc clients client n (ap (λ (o : Option ℕ). is_some o) e) d

    numbered : list_all has_range_of_client clients ≡ true → list_all has_range_of_client (with_client clients client n) ≡ true
    numbered a = by (number_of clients client)
      where
        by : (o : Option ℕ) → list_all has_range_of_client (if is_some o then with_number clients client (raised n o) else clients ++ (client, n) ∷ []) ≡ true
        by (Some kept) = renumbered-all client (raised n (Some kept)) clients (raised-from-one n (Some kept) h) a
        by None = all-append has_range_of_client clients ((client, n) ∷ []) a (and_from (nat_le 1 n) true h refl)

remembered-within : (client : ℕ) (tag : Tag) (clients : List (ℕ × ℕ)) → has_range_of_tag tag ≡ true → is_one_too_many client tag clients ≡ false → has_ranges_of_clients clients ≡ true
    → has_ranges_of_clients (remembered client tag clients) ≡ true
remembered-within client Plain clients h room k = k
remembered-within client (Request n back) clients h room k = client-within clients client n back h room k
remembered-within client (Reply of n) clients h room k = k

-- a message more waits
pub enqueued-within : (c : ℕ) (m : Message) (r : PortRecord) → has_ranges_of_message m ≡ true → is_one_too_many m.id.seat m.tag r.clients ≡ false → is_full r ≡ false
    → IsPortWithin c r → IsPortWithin (c + 1) (enqueued m r)
enqueued-within c m r msg room space h =
    let p = parts c r h in
    let long : length (r.pending ++ m ∷ []) ≡ length r.pending + 1 = length-append r.pending (m ∷ []) in
    let few = p.few in
    let end = p.position in
    within (c + 1) (enqueued m r) (record {
      ui = p.ui;
      actor = p.actor;
      capacity = p.capacity;
      hop = le-later r.hop c (c + 1) (omega arith) p.hop;
      few = grind (arith, nat_tests, long, few, space);
      pending = all-append has_ranges_of_message r.pending (m ∷ []) p.pending (and_from (has_ranges_of_message m) true msg refl);
      clients = remembered-within m.id.seat m.tag r.clients (message-parts m msg).tag room p.clients;
      position = omega (arith, long, end);
    })

-- The table.

pub all-replace : (P Q : PortRecord → Type 0) (q : Ui) (f : PortRecord → PortRecord) (rs : List PortRecord) → ((r : PortRecord) → P r → Q r)
    → ((r : PortRecord) → find q rs ≡ Some r → P r → Q (f r)) → All P rs → All Q (replace q f rs)
all-replace P Q q f [] still here h = All-nil Q
all-replace P Q q f (r ∷ rs) still here h = by (same_ui r.ui q) here (all-replace P Q q f rs still)
  where
    rest : (xs : List PortRecord) → All P xs → All Q xs
    rest [] k = All-nil Q
    rest (x ∷ xs) k = All-cons Q x xs (still x (All-head P x xs k)) (rest xs (All-tail P x xs k))

    by : (b : Bool) → ((x : PortRecord) → cond b (Some r) (find q rs) ≡ Some x → P x → Q (f x))
        → (((x : PortRecord) → find q rs ≡ Some x → P x → Q (f x)) → All P rs → All Q (replace q f rs)) → All Q (cond b (f r ∷ rs) (r ∷ replace q f rs))
    by true this ih = All-cons Q (f r) rs (this r refl (All-head P r rs h)) (rest rs (All-tail P r rs h))
    by false this ih = All-cons Q r (replace q f rs) (still r (All-head P r rs h)) (ih this (All-tail P r rs h))

pub all-without : (P : PortRecord → Type 0) (q : Ui) (rs : List PortRecord) → All P rs → All P (without q rs)
all-without P q [] h = h
all-without P q (r ∷ rs) h = by (same_ui r.ui q) (all-without P q rs (All-tail P r rs h))
  where
    by : (b : Bool) → All P (without q rs) → All P (cond b rs (r ∷ without q rs))
    by true ih = All-tail P r rs h
    by false ih = All-cons P r (without q rs) (All-head P r rs h) ih

pub all-found : (P : PortRecord → Type 0) (q : Ui) (rs : List PortRecord) (r : PortRecord) → All P rs → find q rs ≡ Some r → P r
all-found P q [] r h e = absurd (cc)
all-found P q (x ∷ xs) r h e = by (same_ui x.ui q) e (all-found P q xs r (All-tail P x xs h))
  where
    by : (b : Bool) → cond b (Some x) (find q xs) ≡ Some r → (find q xs ≡ Some r → P r) → P r
    by true k ih = let same : x ≡ r = cc in subst P same (All-head P x xs h)
    by false k ih = ih k
