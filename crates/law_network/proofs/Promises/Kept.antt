-- What a port keeps is within its range: the ids that it accepted, and the clients that it remembers.
use Rattle.std.proofs.Common.{ℕ, ◌≡◌, ◌≤◌, ◌==◌, nat_le, Bool, true, false, ◌&&◌, not, cond, if◌then◌else◌, List, [], ◌∷◌, ◌++◌, length, Option, Some, None, is_some, refl, sym, ◌∙◌, ap, subst, arith}
use Rattle.std.specs.List.{All, list_all}
use Rattle.std.proofs.lemmas.Bool.{and_parts, and_from, le-leb, leb-true, leb-false, true≢false, not-true}
use Rattle.std.proofs.lemmas.List.{length-map, length_push}
use Rattle.std.proofs.lemmas.List.Elements.{All-nil, All-tail, All-push, All-weaker}
use Rattle.chorus_ui.specs.declared.ui.Ui.{Ui}
use Rattle.chorus_ui.specs.declared.layout.Layout.{Layout}
use Rattle.chorus_ui.specs.Layout.{IsLayout}
use Rattle.chorus_entry.specs.declared.entry.Entry.{Entry}
use Rattle.chorus_entry.specs.declared.id.MsgId.{MsgId}
use Rattle.chorus_entry.specs.declared.tag.Tag.{Tag}
use Rattle.chorus_entry.specs.declared.tag.Tag.TheVariants as tags
use Rattle.chorus_entry.specs.declared.act.Act.{Act}
use Rattle.chorus_entry.specs.declared.act.Act.TheVariants as acts
use Rattle.chorus_ui.specs.declared.limits.TheConstants.{CLIENTS_LIMIT}
use Rattle.chorus_entry.specs.ClientTable.{number_of, are_distinct, renumbered, with_number}
use Rattle.chorus_entry.specs.Act.{held_port_of}
use Rattle.chorus_entry.specs.Command.{demands_a_site}
use Rattle.chorus_entry.specs.Ranges.{has_range_of_id, has_range_of_tag, has_range_of_client}
use Rattle.chorus_world.specs.Views.{views, on, is_on}
use Rattle.chorus_world.specs.Posts.{tag_from, tag_of}
use Rattle.chorus_world.specs.Ports.{PortState, fate, fate_after, has_room}
use Rattle.chorus_world.specs.Clients.{finds_clients_full, is_already, clients_kept, clients_after}
use Rattle.chorus_world.specs.AcceptedLaws.{accepted_from, accepted_by}
use Rattle.chorus_world.specs.Order.{IsCausal}
use Rattle.chorus_world.specs.Steps.{act_may, is_legal, may_enter, meets, suits}
use Rattle.chorus_world.proofs.Steps.LegalLemmas.{legal_parts, on_is}
use Rattle.chorus_world.proofs.Messages.AcceptedLemmas.{accept_waits, waiting_posted}
use Rattle.chorus_world.proofs.Messages.VerdictLemmas.{decision_due}
use Rattle.chorus_world.proofs.Messages.Posted.{IsPosted, filtered}
use Rattle.chorus_world.proofs.Messages.PostLemmas.{post_stays}
use Rattle.chorus_world.proofs.Sorted.Observers.{legal_laws}
use Rattle.chorus_entry.specs.Clients.{with_client, remembered, is_one_too_many, raised}
use Rattle.chorus_world.proofs.Ports.MadePorts.{causal-older}
use Rattle.chorus_world.proofs.Messages.Ranged.{all-fit, due-ranged}
use Rattle.law_network.proofs.Standing.Grows.{clients-grow}
use Rattle.law_network.proofs.Promises.Posts.{PostsFit, post-fits}

-- What was accepted.

abbrev pub IsKnown : List Entry → MsgId → Type 0
IsKnown past x = (has_range_of_id x ≡ true) × IsPosted past x

known-more : (e : Entry) (past : List Entry) (xs : List MsgId) → All (IsKnown past) xs → All (IsKnown (e ∷ past)) xs
known-more e past xs h = All-weaker (IsKnown past) (IsKnown (e ∷ past)) (λ x k. (k.0, (k.1.0, post_stays x past e k.1.0 k.1.1))) xs h

accepted-after : (past : List Entry) (p : ℕ) (a : Act) (o : Option PortState) → All (IsKnown past) (accepted_from o) → ((x : MsgId) (q : Ui) (n : ℕ) → a ≡ acts.Accept x q n → IsKnown past x) → All (IsKnown past) (accepted_from (fate_after p a o))
accepted-after past p (acts.Make q a c) o h k = All-nil (IsKnown past)
accepted-after past p (acts.Accept x q n) None h k = h
accepted-after past p (acts.Accept x q n) (Some f) h k = All-push (IsKnown past) f.accepted x h (k x q n refl)
accepted-after past p a None h k = h
accepted-after past p a (Some f) h k = h

pub accepted-known : (l : Layout) (past : List Entry) (q : Ui) → IsLayout l → is_legal l past ≡ true → IsCausal past → All (IsKnown past) (accepted_by q past)
accepted-known l [] q shape h c = All-nil (IsKnown [])
accepted-known l (e ∷ past) q shape h c = go (is_on (Some q) e) (known-more e past (accepted_by q past) (accepted-known l past q shape two.1 (causal-older e past c)))
  where
    two : (act_may l (views past e.place e.seat e.act) e.place e.seat e.act ≡ true) × (is_legal l past ≡ true)
    two = legal_parts l e past h

    new : (x : MsgId) (r : Ui) (n : ℕ) → e.act ≡ acts.Accept x r n → IsKnown (e ∷ past) x
    new x r n is =
        let due = decision_due l past e.place e.seat (acts.Accept x r n) x r refl refl refl (subst (λ a. act_may l (views past e.place e.seat a) e.place e.seat a ≡ true) is two.0) in
        let known = waiting_posted l past r x two.1 (accept_waits l past e x r n h is) in
        (due-ranged l past e.place x r two.1 (all-fit l past shape two.1 (causal-older e past c)) due, (known.0, post_stays x past e known.0 known.1))

    go : (b : Bool) → All (IsKnown (e ∷ past)) (accepted_from (fate (on q past))) → All (IsKnown (e ∷ past)) (accepted_from (fate (cond b (e ∷ on q past) (on q past))))
    go true ih = accepted-after (e ∷ past) e.place e.act (fate (on q past)) ih new
    go false ih = ih

-- The table of clients.

abbrev Table : Type 0
Table = List (ℕ × ℕ)

pub record TableFits (ks : List (ℕ × ℕ)) : Type 0 where
  pub few : length ks ≤ 64
  pub distinct : are_distinct ks ≡ true
  pub some : list_all has_range_of_client ks ≡ true

renumbered-client : (c n : ℕ) (k : ℕ × ℕ) → (renumbered c n k).0 ≡ k.0
renumbered-client c n k = go (k.0 == c)
  where
    go : (b : Bool) → (cond b (k.0, n) k).0 ≡ k.0
    go true = refl
    go false = refl

some-still : (c n d : ℕ) (ks : List (ℕ × ℕ)) → is_some (number_of (with_number ks c n) d) ≡ is_some (number_of ks d)
some-still c n d [] = refl
some-still c n d (k ∷ ks) =
    ap (λ z. is_some (cond (z == d) (Some (renumbered c n k).1) (number_of (with_number ks c n) d))) (renumbered-client c n k) ∙ go (k.0 == d) (some-still c n d ks)
  where
    go : (b : Bool) → is_some (number_of (with_number ks c n) d) ≡ is_some (number_of ks d) → is_some (cond b (Some (renumbered c n k).1) (number_of (with_number ks c n) d)) ≡ is_some (cond b (Some k.1) (number_of ks d))
    go true ih = refl
    go false ih = ih

distinct-still : (c n : ℕ) (ks : List (ℕ × ℕ)) → are_distinct (with_number ks c n) ≡ are_distinct ks
distinct-still c n [] = refl
distinct-still c n (k ∷ ks) =
    ap (λ z. not (is_some (number_of (with_number ks c n) z)) && are_distinct (with_number ks c n)) (renumbered-client c n k)
    ∙ ap (λ b. not b && are_distinct (with_number ks c n)) (some-still c n k.0 ks) ∙ ap (λ b. not (is_some (number_of ks k.0)) && b) (distinct-still c n ks)

none-pushed : (d c n : ℕ) (ks : List (ℕ × ℕ)) → is_some (number_of ks d) ≡ false → (c == d) ≡ false → is_some (number_of (ks ++ (c, n) ∷ []) d) ≡ false
none-pushed d c n [] h ne = ap (λ b. is_some (cond b (Some n) None)) ne
none-pushed d c n (k ∷ ks) h ne = go (k.0 == d) h (λ i. none-pushed d c n ks i ne)
  where
    go : (b : Bool) → is_some (cond b (Some k.1) (number_of ks d)) ≡ false → (is_some (number_of ks d) ≡ false → is_some (number_of (ks ++ (c, n) ∷ []) d) ≡ false) → is_some (cond b (Some k.1) (number_of (ks ++ (c, n) ∷ []) d)) ≡ false
    go true i ih = absurd (true≢false i)
    go false i ih = ih i

distinct-pushed : (c n : ℕ) (ks : List (ℕ × ℕ)) → are_distinct ks ≡ true → is_some (number_of ks c) ≡ false → are_distinct (ks ++ (c, n) ∷ []) ≡ true
distinct-pushed c n [] h i = refl
distinct-pushed c n (k ∷ ks) h i = go (k.0 == c) refl i (distinct-pushed c n ks)
  where
    two : (not (is_some (number_of ks k.0)) ≡ true) × (are_distinct ks ≡ true)
    two = and_parts (not (is_some (number_of ks k.0))) (are_distinct ks) h

    go : (b : Bool) → (k.0 == c) ≡ b → is_some (cond b (Some k.1) (number_of ks c)) ≡ false → (are_distinct ks ≡ true → is_some (number_of ks c) ≡ false → are_distinct (ks ++ (c, n) ∷ []) ≡ true) → not (is_some (number_of (ks ++ (c, n) ∷ []) k.0)) && are_distinct (ks ++ (c, n) ∷ []) ≡ true
    go true t j ih = absurd (true≢false j)
    go false t j ih =
        let other : (c == k.0) ≡ false = grind (arith, t) in
        let none = none-pushed k.0 c n ks (not-true (is_some (number_of ks k.0)) two.0) other in
        and_from (not (is_some (number_of (ks ++ (c, n) ∷ []) k.0))) (are_distinct (ks ++ (c, n) ∷ [])) (ap not none) (ih two.1 j)

some-renumbered : (c n : ℕ) (ks : List (ℕ × ℕ)) → 1 ≤ n → list_all has_range_of_client ks ≡ true → list_all has_range_of_client (with_number ks c n) ≡ true
some-renumbered c n [] le h = refl
some-renumbered c n (k ∷ ks) le h =
    let two = and_parts (has_range_of_client k) (list_all has_range_of_client ks) h in
    and_from (has_range_of_client (renumbered c n k)) (list_all has_range_of_client (with_number ks c n)) (one (k.0 == c) two.0) (some-renumbered c n ks le two.1)
  where
    one : (b : Bool) → has_range_of_client k ≡ true → has_range_of_client (cond b (k.0, n) k) ≡ true
    one true i = le-leb 1 n le
    one false i = i

some-pushed : (c n : ℕ) (ks : List (ℕ × ℕ)) → 1 ≤ n → list_all has_range_of_client ks ≡ true → list_all has_range_of_client (ks ++ (c, n) ∷ []) ≡ true
some-pushed c n [] le h = and_from (nat_le 1 n) true (le-leb 1 n le) refl
some-pushed c n (k ∷ ks) le h =
    let two = and_parts (has_range_of_client k) (list_all has_range_of_client ks) h in
    and_from (has_range_of_client k) (list_all has_range_of_client (ks ++ (c, n) ∷ [])) two.0 (some-pushed c n ks le two.1)

-- a client more, or another number of one that is there
with-fits : (c n : ℕ) (ks : List (ℕ × ℕ)) → 1 ≤ n → not (is_some (number_of ks c)) && nat_le CLIENTS_LIMIT (length ks) ≡ false → TableFits ks → TableFits (with_client ks c n)
with-fits c n ks le room f = go (is_some (number_of ks c)) refl
  where
    high : (o : Option ℕ) → 1 ≤ raised n o
    high None = le
    high (Some k) = omega (arith, le)

    go : (b : Bool) → is_some (number_of ks c) ≡ b → TableFits (if b then with_number ks c (raised n (number_of ks c)) else ks ++ (c, n) ∷ [])
    go true t =
        let m = raised n (number_of ks c) in
        let same : length (with_number ks c m) ≡ length ks = length-map ks (renumbered c m) in
        let few = f.few in
        record { few = omega (arith, same, few); distinct = distinct-still c m ks ∙ f.distinct; some = some-renumbered c m ks (high (number_of ks c)) f.some }
    go false t =
        let more = length_push ks (c, n) in
        let open_still : nat_le 64 (length ks) ≡ false = sym (ap (λ b. not b && nat_le 64 (length ks)) t) ∙ room in
        let few = leb-false 64 (length ks) open_still in
        record { few = omega (arith, more, few); distinct = distinct-pushed c n ks f.distinct t; some = some-pushed c n ks le f.some }

module _ (l : Layout) (past : List Entry) (e : Entry) (q : Ui) (shape : IsLayout l) (legal : is_legal l (e ∷ past) ≡ true) (all : All PostsFit past) (line : is_on (Some q) e ≡ true) (old : TableFits (clients_kept past (on q past))) where
  before : is_legal l past ≡ true
  before = (legal_parts l e past legal).1

  table-step : (a : Act) → e.act ≡ a → TableFits (clients_after (e ∷ past) a (clients_kept past (on q past)))
  table-step (acts.Accept x r n) is = tagged (tag_of x (e ∷ past)) refl
    where
      same : r ≡ q
      same = (let both : Some r ≡ Some q = ap held_port_of (sym is) ∙ on_is q (held_port_of e.act) line in cc)

      posted : IsPosted past x
      posted = (let d = waiting_posted l past r x before (accept_waits l past e x r n legal is) in (d.0, d.1))

      full : finds_clients_full x past (on q past) ≡ false
      full =
          let may = subst (λ z. act_may l (views past e.place e.seat z) e.place e.seat z ≡ true) is (legal_parts l e past legal).0 in
          let v = views past e.place e.seat (acts.Accept x r n) in
          let enter = (and_parts (may_enter l v e.place x r) (has_room n (fate (on r past))) may).0 in
          let last = (and_parts (meets l v e.place x r && suits l v e.place x && not (is_already x past (on r past))) (not (finds_clients_full x past (on r past))) enter).1 in
          ap (λ (u : Ui). finds_clients_full x past (on u past)) (sym same) ∙ not-true (finds_clients_full x past (on r past)) last

      tag-same : tag_of x (e ∷ past) ≡ tag_of x past
      tag-same = ap tag_from (post_stays x past e posted.0 posted.1 ∙ sym posted.1)

      tagged : (g : Tag) → tag_of x (e ∷ past) ≡ g → TableFits (remembered x.seat (tag_of x (e ∷ past)) (clients_kept past (on q past)))
      tagged tags.Plain t = subst (λ z. TableFits (remembered x.seat z (clients_kept past (on q past)))) (sym t) old
      tagged (tags.Reply c k) t = subst (λ z. TableFits (remembered x.seat z (clients_kept past (on q past)))) (sym t) old
      tagged (tags.Request k back) t =
          let was : tag_of x past ≡ tags.Request k back = sym tag-same ∙ t in
          let fits = post-fits x past posted.0 all posted.1 in
          let tag_fits = (and_parts (has_range_of_tag (posted.0).message.tag) (nat_le (length (posted.0).message.body) 4096) (and_parts (has_range_of_tag (posted.0).message.tag && nat_le (length (posted.0).message.body) 4096) (demands_a_site (posted.0).dest) fits).0).0 in
          let some = leb-true 1 k (ap has_range_of_tag (sym was ∙ ap tag_from posted.1) ∙ tag_fits) in
          let room : is_one_too_many x.seat (tags.Request k back) (clients_kept past (on q past)) ≡ false = ap (λ g. is_one_too_many x.seat g (clients_kept past (on q past))) (sym was) ∙ full in
          subst (λ z. TableFits (remembered x.seat z (clients_kept past (on q past)))) (sym t) (with-fits x.seat k (clients_kept past (on q past)) some room old)
  table-step a is = old

pub table-fits : (l : Layout) (past : List Entry) (q : Ui) → IsLayout l → is_legal l past ≡ true → All PostsFit past → TableFits (clients_kept past (on q past))
table-fits l [] q shape h all = record { few = omega arith; distinct = refl; some = refl }
table-fits l (e ∷ past) q shape h all =
    go (is_on (Some q) e) refl (table-fits l past q shape legal (All-tail PostsFit e past all))
  where
    legal : is_legal l past ≡ true
    legal = (legal_parts l e past h).1

    grown : clients_kept (e ∷ past) (on q past) ≡ clients_kept past (on q past)
    grown = clients-grow e past (on q past) (filtered past (is_on (Some q)) past (legal_laws l past shape legal).posted)

    go : (b : Bool) → is_on (Some q) e ≡ b → TableFits (clients_kept past (on q past)) → TableFits (clients_kept (e ∷ past) (cond b (e ∷ on q past) (on q past)))
    go false t old = subst TableFits (sym grown) old
    go true t old =
        subst (λ ks. TableFits (clients_after (e ∷ past) e.act ks)) (sym grown)
        (table-step l past e q shape h (All-tail PostsFit e past all) t old e.act refl)
