-- What a port remembers of its clients: by the number of each and by their count, and after one entry more.
use Rattle.std.proofs.Common.{ℕ, ◌≡◌, ◌≤◌, ◌+◌, ◌==◌, ◌&&◌, Bool, true, false, cond, length, List, [], ◌∷◌, Option, Some, None, is_some, refl, sym, ◌∙◌, ap, arith}
use Rattle.std.proofs.lemmas.Bool.{eqb-true}
use Rattle.chorus_ui.specs.declared.ui.Ui.{Ui}
use Rattle.chorus_entry.specs.declared.entry.Entry.{Entry}
use Rattle.chorus_entry.specs.declared.tag.Tag.{Tag}
use Rattle.chorus_entry.specs.declared.tag.Tag.TheVariants.{Plain, Request, Reply}
use Rattle.chorus_entry.specs.declared.act.Act.{Act}
use Rattle.chorus_entry.specs.declared.act.Act.TheVariants.{Accept}
use Rattle.chorus_entry.specs.ClientTable.{number_of}
use Rattle.chorus_ui.specs.declared.limits.TheConstants.{CLIENTS_LIMIT}
use Rattle.std.specs.Prelude.{nat_le, not}
use Rattle.chorus_entry.specs.declared.id.MsgId.{MsgId}
use Rattle.chorus_entry.specs.Clients.{is_one_too_many, is_reached, is_repeated, raised, remembered}
use Rattle.chorus_entry.proofs.Clients.{number_of-with_client, length-with_client}
use Rattle.chorus_world.specs.Views.{on, is_on}
use Rattle.chorus_world.specs.Posts.{tag_of, source, posted_by}
use Rattle.chorus_world.proofs.Messages.Posted.{AllPosted, filtered}
use Rattle.chorus_world.proofs.Sorted.Agreement.{extends_self, extends_before, clients_agree}
use Rattle.chorus_world.specs.Clients.{clients_after, clients_kept, is_already, finds_clients_full}
use Rattle.checker_rows.specs.Clients.{kept_with, kept_by, kept_after, kept, clients_with, clients_by, clients_met, clients, kept_row, clients_row}
use Rattle.checker_rows.specs.Seats.{HasTag}
use Rattle.checker_rows.proofs.PlaceLemmas.{filter_few}
use Rattle.checker_rows.proofs.SeatLemmas.{tag_same}

-- one message more
kept_tag : (client seat : ℕ) (tag : Tag) (table : List (ℕ × ℕ)) → number_of (remembered seat tag table) client ≡ kept_with client seat tag (number_of table client)
kept_tag client seat Plain table = refl
kept_tag client seat (Reply c n) table = refl
kept_tag client seat (Request n back) table = number_of-with_client table seat n client ∙ by (seat == client) refl
  where
    by : (b : Bool) → (seat == client) ≡ b → cond b (Some (raised n (number_of table seat))) (number_of table client) ≡ cond b (Some (raised n (number_of table client))) (number_of table client)
    by true e = ap (λ c. Some (raised n (number_of table c))) (eqb-true seat client e)
    by false e = refl

kept_act : (client : ℕ) (past : List Entry) (act : Act) (table : List (ℕ × ℕ)) → number_of (clients_after past act table) client ≡ kept_after client past act (number_of table client)
kept_act client past (Accept x q n) table = kept_tag client x.seat (tag_of x past) table
kept_act client past _ table = refl

pub kept_is : (client : ℕ) (past port : List Entry) → number_of (clients_kept past port) client ≡ kept client past port
kept_is client past [] = refl
kept_is client past (e ∷ port) =
    kept_act client past e.act (clients_kept past port)
    ∙ ap (λ k. kept_after client past e.act k) (kept_is client past port)

-- one client more, or none
clients_tag : (seat : ℕ) (tag : Tag) (table : List (ℕ × ℕ)) → length (remembered seat tag table) ≡ clients_with (number_of table seat) tag (length table)
clients_tag seat Plain table = refl
clients_tag seat (Reply c n) table = refl
clients_tag seat (Request n back) table = length-with_client table seat n ∙ by (is_some (number_of table seat))
  where
    by : (b : Bool) → length table + cond b 0 1 ≡ cond b (length table) (length table + 1)
    by true = omega arith
    by false = refl

clients_act : (past port : List Entry) (act : Act) → length (clients_after past act (clients_kept past port)) ≡ clients_met past port act (length (clients_kept past port))
clients_act past port (Accept x q n) =
    clients_tag x.seat (tag_of x past) (clients_kept past port)
    ∙ ap (λ k. clients_with k (tag_of x past) (length (clients_kept past port))) (kept_is x.seat past port)
clients_act past port _ = refl

pub clients_are : (past port : List Entry) → length (clients_kept past port) ≡ clients past port
clients_are past [] = refl
clients_are past (e ∷ port) =
    clients_act past port e.act ∙ ap (λ m. clients_met past port e.act m) (clients_are past port)

-- An entry more.

kept_still : (past : List Entry) (e : Entry) (q : Ui) (client : ℕ) → AllPosted past past → kept client (e ∷ past) (on q past) ≡ kept client past (on q past)
kept_still past e q client all =
    sym (kept_is client (e ∷ past) (on q past))
    ∙ (ap (λ t. number_of t client) (clients_agree (e ∷ past) past (on q past) (extends_before (e ∷ past) past e (extends_self (e ∷ past))) (filtered past (is_on (Some q)) past all))
    ∙ kept_is client past (on q past))

clients_still : (past : List Entry) (e : Entry) (q : Ui) → AllPosted past past → clients (e ∷ past) (on q past) ≡ clients past (on q past)
clients_still past e q all =
    sym (clients_are (e ∷ past) (on q past))
    ∙ (ap length (clients_agree (e ∷ past) past (on q past) (extends_before (e ∷ past) past e (extends_self (e ∷ past))) (filtered past (is_on (Some q)) past all))
    ∙ clients_are past (on q past))

kept_now : (past : List Entry) (e : Entry) (tag : Tag) (client : ℕ) (k : Option ℕ) (a : Act) → e.act ≡ a → HasTag past a tag → kept_after client (e ∷ past) a k ≡ kept_by client tag a k
kept_now past e tag client k (Accept x q n) is t =
    ap (λ z. kept_with client x.seat z k) (tag_same past e x (ap (posted_by (source x) e.place) is) ∙ sym t)
kept_now past e tag client k _ is t = refl

pub kept_grows : (past : List Entry) (e : Entry) (q : Ui) (client : ℕ) (tag : Tag) → AllPosted past past → HasTag past e.act tag → kept_row (e ∷ past) q client ≡ cond (is_on (Some q) e) (kept_by client tag e.act (kept_row past q client)) (kept_row past q client)
kept_grows past e q client tag all t = go (is_on (Some q) e)
  where
    old : kept client (e ∷ past) (on q past) ≡ kept client past (on q past)
    old = kept_still past e q client all

    go : (b : Bool) → kept client (e ∷ past) (cond b (e ∷ on q past) (on q past)) ≡ cond b (kept_by client tag e.act (kept client past (on q past))) (kept client past (on q past))
    go true = ap (kept_after client (e ∷ past) e.act) old ∙ kept_now past e tag client (kept client past (on q past)) e.act refl t
    go false = old

clients_now : (past : List Entry) (e : Entry) (q : Ui) (tag : Tag) (n : ℕ) (a : Act) → AllPosted past past → e.act ≡ a → HasTag past a tag → clients_met (e ∷ past) (on q past) a n ≡ clients_by (kept_row past q) tag a n
clients_now past e q tag n (Accept x r i) all is t =
    ap (λ k. clients_with k (tag_of x (e ∷ past)) n) (kept_still past e q x.seat all)
    ∙ ap (λ z. clients_with (kept_row past q x.seat) z n) (tag_same past e x (ap (posted_by (source x) e.place) is) ∙ sym t)
clients_now past e q tag n _ all is t = refl

pub clients_grow : (past : List Entry) (e : Entry) (q : Ui) (tag : Tag) → AllPosted past past → HasTag past e.act tag → clients_row (e ∷ past) q ≡ cond (is_on (Some q) e) (clients_by (kept_row past q) tag e.act (clients_row past q)) (clients_row past q)
clients_grow past e q tag all t = go (is_on (Some q) e)
  where
    old : clients (e ∷ past) (on q past) ≡ clients past (on q past)
    old = clients_still past e q all

    go : (b : Bool) → clients (e ∷ past) (cond b (e ∷ on q past) (on q past)) ≡ cond b (clients_by (kept_row past q) tag e.act (clients past (on q past))) (clients past (on q past))
    go true = ap (clients_met (e ∷ past) (on q past) e.act) old ∙ clients_now past e q tag (clients past (on q past)) e.act all refl t
    go false = old

-- no more clients than entries

with_few : (k : Option ℕ) (tag : Tag) (n m : ℕ) → n ≤ m → clients_with k tag n ≤ m + 1
with_few k Plain n m h = omega arith
with_few k (Reply c i) n m h = omega arith
with_few None (Request i back) n m h = omega arith
with_few (Some j) (Request i back) n m h = omega arith

met_few : (past port : List Entry) (a : Act) (n m : ℕ) → n ≤ m → clients_met past port a n ≤ m + 1
met_few past port (Accept x q i) n m h = with_few (kept x.seat past port) (tag_of x past) n m h
met_few past port _ n m h = omega arith

clients_few : (past port : List Entry) → clients past port ≤ length port
clients_few past [] = omega arith
clients_few past (e ∷ port) = let h = met_few past port e.act (clients past port) (length port) (clients_few past port) in omega (arith, h)

pub few_clients : (past : List Entry) (q : Ui) → clients_row past q ≤ length past
few_clients past q = let h = clients_few past (on q past) in let k = filter_few (is_on (Some q)) past in omega (arith, h, k)

-- What the tables read.

pub already_reads : (past : List Entry) (q : Ui) (x : MsgId) (n : ℕ) (back : Ui) (o : Option ℕ) → tag_of x past ≡ Request n back → kept_row past q x.seat ≡ o → is_already x past (on q past) ≡ is_reached n o
already_reads past q x n back o tag k =
    let table = clients_kept past (on q past) in
    ap (λ g. is_repeated x.seat g table) tag ∙ ap (is_reached n) (kept_is x.seat past (on q past) ∙ k)

pub full_reads : (past : List Entry) (q : Ui) (x : MsgId) (n : ℕ) (back : Ui) (o : Option ℕ) (m : ℕ) → tag_of x past ≡ Request n back → kept_row past q x.seat ≡ o → clients_row past q ≡ m → finds_clients_full x past (on q past) ≡ (not (is_some o) && nat_le CLIENTS_LIMIT m)
full_reads past q x n back o m tag k h =
    let table = clients_kept past (on q past) in
    ap (λ g. is_one_too_many x.seat g table) tag
    ∙ (ap (λ z. not (is_some z) && nat_le CLIENTS_LIMIT (length table)) (kept_is x.seat past (on q past) ∙ k)
    ∙ ap (λ z. not (is_some o) && nat_le CLIENTS_LIMIT z) (clients_are past (on q past) ∙ h))
