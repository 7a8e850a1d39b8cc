-- The tables follow the entries that are read.
use Rattle.std.proofs.Common.{ℕ, nat_eq, nat_le, ◌≡◌, ◌==◌, max, Bool, true, false, not, ◌&&◌, ◌||◌, cond, List, [], ◌∷◌, Option, Some, None, is_some, refl, sym, ◌∙◌, ap, subst, arith}
use Rattle.std.specs.List.{list_any}
use Rattle.std.specs.Prelude.{unwrap_or, Result, Ok, Err, OnOk}
use Rattle.std.specs.HashMap.{get}
use Rattle.std.specs.Option.{option_eq}
use Rattle.std.proofs.lemmas.Bool.Decides.{nat_tests}
use Rattle.chorus_ui.specs.declared.ui.Ui.{Ui}
use Rattle.chorus_ui.specs.Name.{same_ui}
use Rattle.chorus_entry.specs.declared.entry.Entry.{Entry}
use Rattle.chorus_entry.specs.declared.id.MsgId.{MsgId}
use Rattle.chorus_entry.specs.declared.tag.Tag.{Tag}
use Rattle.chorus_entry.specs.declared.tag.Tag.TheVariants.{Plain, Request, Reply}
use Rattle.chorus_entry.specs.declared.act.Act.{Act}
use Rattle.chorus_entry.specs.declared.act.Act.TheVariants.{Accept}
use Rattle.chorus_entry.specs.Clients.{is_reached, raised}
use Rattle.chorus_entry.specs.Order.{is_at}
use Rattle.chorus_world.specs.Places.{last_clock}
use Rattle.chorus_world.specs.Ports.{fate, fate_after}
use Rattle.chorus_world.specs.Posts.{Posted, post_of, source, tag_from, tag_of}
use Rattle.chorus_world.specs.SenderLaws.{route_from, route_of}
use Rattle.chorus_world.specs.Views.{at, is_on, on}
use Rattle.chorus_world.proofs.Steps.LegalLemmas.{under}
use Rattle.checker_rows.specs.declared.keys.ClientOf.{ClientOf}
use Rattle.checker_rows.specs.declared.posting.Posting.{Posting}
use Rattle.checker_rows.specs.Keys.{same_client}
use Rattle.checker_rows.specs.Messages.{in_brief, message_after, message_in, message_row, no_message}
use Rattle.checker_rows.proofs.MessageLemmas.{message_grows}
use Rattle.judge_promises.specs.declared.keys.RequestKey.{RequestKey}
use Rattle.judge_promises.specs.declared.keys.RouteKey.{RouteKey}
use Rattle.judge_promises.specs.declared.tables.Tables.{Tables}
use Rattle.judge_promises.specs.Steps.{HasSameRows, RowsAfter, accepted_post, asked_by, asked_with, most_by, most_with, post_by, route_by, route_in, tag_in}
use Rattle.judge_promises.specs.Tables.{Follows, greatest, is_new_in, is_old_in, number_in, same_request_key, same_route_key}
use Rattle.judge_promises.specs.Terms.{is_new, is_old, is_read, last_number, latest, latest_after, number_by, read, requests, requests_after, with_request}

-- A post without its body.

pub brief-tag : (o : Option Posted) → tag_in (in_brief o) ≡ tag_from o
brief-tag None = refl
brief-tag (Some m) = refl

pub brief-route : (o : Option Posted) → route_in (in_brief o) ≡ route_from o
brief-route None = refl
brief-route (Some m) = refl

module _ (past : List Entry) (s : Tables) (f : Follows past s) where
  pub post-is : (x : MsgId) → post_by s x ≡ in_brief (post_of x past)
  post-is x = ap (λ r. r.post) (f.messages (source x))

  pub tag-is : (x : MsgId) → tag_in (post_by s x) ≡ tag_of x past
  tag-is x = ap tag_in (post-is x) ∙ brief-tag (post_of x past)

  pub route-is : (x : MsgId) → route_in (post_by s x) ≡ route_of x past
  route-is x = ap route_in (post-is x) ∙ brief-route (post_of x past)

-- One entry more.

asked-more : (a b c d : Bool) → (a && (b && c)) || d ≡ cond (a && b) (c || d) d
asked-more true true c d = refl
asked-more true false c d = refl
asked-more false b c d = refl

has-more : (b : Bool) (n k : ℕ) (ns : List ℕ) → list_any (λ m. m == k) (cond b (n ∷ ns) ns) ≡ cond b ((n == k) || list_any (λ m. m == k) ns) (list_any (λ m. m == k) ns)
has-more true n k ns = refl
has-more false n k ns = refl

same-list : (b : Bool) (ns : List ℕ) → cond b ns ns ≡ ns
same-list true ns = refl
same-list false ns = refl

most-more : (a b : Bool) (n : ℕ) (ns : List ℕ) → cond (b && a) (Some (raised n (greatest ns))) (greatest ns) ≡ greatest (cond (a && b) (n ∷ ns) ns)
most-more true true n ns = refl
most-more true false n ns = refl
most-more false true n ns = refl
most-more false false n ns = refl

module _ (past : List Entry) (s : Tables) (f : Follows past s) where
  routes-act : (k : RouteKey) (a : Act) → route_by k (route_in (accepted_post s a)) a (get same_route_key s.routes k) ≡ latest_after k.port k.seat k.route past a (latest k.port k.seat k.route past)
  routes-act k (Accept x q n) = λ i. cond (same_ui q k.port && ((x.seat == k.seat) && option_eq same_ui (route-is past s f x i) k.route)) (Some x.number) (f.routes k i)
  routes-act k _ = f.routes k

  asked-tag : (k : RequestKey) (x : MsgId) (q : Ui) (tag : Tag) → asked_with k x q tag (is_some (get same_request_key s.asked k)) ≡ list_any (λ m. m == k.number) (cond (same_ui q k.port && (x.seat == k.seat)) (with_request tag (requests k.port k.seat past)) (requests k.port k.seat past))
  asked-tag k x q Plain = f.asked k ∙ ap (list_any (λ m. m == k.number)) (sym (same-list (same_ui q k.port && (x.seat == k.seat)) (requests k.port k.seat past)))
  asked-tag k x q (Reply c n) = f.asked k ∙ ap (list_any (λ m. m == k.number)) (sym (same-list (same_ui q k.port && (x.seat == k.seat)) (requests k.port k.seat past)))
  asked-tag k x q (Request n back) =
      ap (λ d. (same_ui q k.port && ((x.seat == k.seat) && (n == k.number))) || d) (f.asked k)
      ∙ (asked-more (same_ui q k.port) (x.seat == k.seat) (n == k.number) (list_any (λ m. m == k.number) (requests k.port k.seat past))
      ∙ sym (has-more (same_ui q k.port && (x.seat == k.seat)) n k.number (requests k.port k.seat past)))

  asked-act : (k : RequestKey) (a : Act) → asked_by k (tag_in (accepted_post s a)) a (is_some (get same_request_key s.asked k)) ≡ list_any (λ m. m == k.number) (requests_after k.port k.seat past a (requests k.port k.seat past))
  asked-act k (Accept x q n) = ap (λ g. asked_with k x q g (is_some (get same_request_key s.asked k))) (tag-is past s f x) ∙ asked-tag k x q (tag_of x past)
  asked-act k _ = f.asked k

  most-tag : (k : ClientOf) (x : MsgId) (q : Ui) (tag : Tag) → most_with k x q tag (get same_client s.most k) ≡ greatest (cond (same_ui q k.port && (x.seat == k.client)) (with_request tag (requests k.port k.client past)) (requests k.port k.client past))
  most-tag k x q Plain = f.most k ∙ ap greatest (sym (same-list (same_ui q k.port && (x.seat == k.client)) (requests k.port k.client past)))
  most-tag k x q (Reply c n) = f.most k ∙ ap greatest (sym (same-list (same_ui q k.port && (x.seat == k.client)) (requests k.port k.client past)))
  most-tag k x q (Request n back) =
      ap (λ o. cond ((x.seat == k.client) && same_ui q k.port) (Some (raised n o)) o) (f.most k)
      ∙ most-more (same_ui q k.port) (x.seat == k.client) n (requests k.port k.client past)

  most-act : (k : ClientOf) (a : Act) → most_by k (tag_in (accepted_post s a)) a (get same_client s.most k) ≡ greatest (requests_after k.port k.client past a (requests k.port k.client past))
  most-act k (Accept x q n) = ap (λ g. most_with k x q g (get same_client s.most k)) (tag-is past s f x) ∙ most-tag k x q (tag_of x past)
  most-act k _ = f.most k

pub grown : (past : List Entry) (e : Entry) (s t : Tables) → Follows past s → RowsAfter e s t → Follows (e ∷ past) t
grown past e s t f r = record {
  ports = λ q. r.ports q ∙ (ap (λ o. cond (is_on (Some q) e) (fate_after e.place e.act o) o) (f.ports q) ∙ sym (under fate (is_on (Some q) e) (e ∷ on q past) (on q past)));
  messages = λ x. r.messages x ∙ (ap (message_after x e) (f.messages x) ∙ sym (message_grows past e x));
  numbers = λ k. r.numbers k ∙ ap (λ n. cond (e.seat == k) (number_by e.act n) n) (f.numbers k);
  clocks = λ p. r.clocks p ∙ (ap (λ n. cond (is_at p e) e.clock n) (f.clocks p) ∙ sym (under last_clock (is_at p e) (e ∷ at p past) (at p past)));
  routes = λ k. r.routes k ∙ routes-act past s f k e.act;
  asked = λ k. r.asked k ∙ asked-act past s f k e.act;
  most = λ k. r.most k ∙ most-act past s f k e.act;
}

pub same-rows : (past : List Entry) (s t : Tables) → HasSameRows s t → Follows past s → Follows past t
same-rows past s t h f = record {
  ports = λ q. h.ports q ∙ f.ports q;
  messages = λ x. ap (λ o. unwrap_or o no_message) (h.messages x) ∙ f.messages x;
  numbers = λ k. ap (λ o. unwrap_or o 0) (h.numbers k) ∙ f.numbers k;
  clocks = λ p. ap (λ o. unwrap_or o 0) (h.clocks p) ∙ f.clocks p;
  routes = λ k. h.routes k ∙ f.routes k;
  asked = λ k. ap is_some (h.asked k) ∙ f.asked k;
  most = λ k. h.most k ∙ f.most k;
}

pub read-more : (past : List Entry) (e : Entry) (s t : Tables) → is_read e.act ≡ true → RowsAfter e s t → Follows (read past) s → Follows (read (e ∷ past)) t
read-more past e s t is r f = subst (λ b. Follows (cond b (e ∷ read past) (read past)) t) (sym is) (grown (read past) e s t f r)

pub read-past : (past : List Entry) (e : Entry) (s : Tables) → is_read e.act ≡ false → Follows (read past) s → Follows (read (e ∷ past)) s
read-past past e s is f = subst (λ b. Follows (cond b (e ∷ read past) (read past)) s) (sym is) f

pub on-ok : {A E P Q : Type 0} (r : Result A E) → OnOk r P → (P → Q) → OnOk r Q
on-ok (Ok x) p f = f p
on-ok (Err e) p f = tt

-- What the tables read.

reached-more : (n m k : ℕ) → nat_le n (max m k) ≡ nat_le n m || nat_le n k
reached-more n m k = grind (arith, nat_tests)

pub reached-any : (n : ℕ) (ns : List ℕ) → is_reached n (greatest ns) ≡ list_any (λ m. nat_le n m) ns
reached-any n [] = refl
reached-any n (m ∷ ns) = by (greatest ns) (reached-any n ns)
  where
    by : (o : Option ℕ) → is_reached n o ≡ list_any (λ i. nat_le n i) ns → is_reached n (Some (raised m o)) ≡ nat_le n m || list_any (λ i. nat_le n i) ns
    by None h = or-false (nat_le n m) ∙ ap (λ b. nat_le n m || b) h
      where
        or-false : (b : Bool) → b ≡ b || false
        or-false true = refl
        or-false false = refl
    by (Some k) h = reached-more n m k ∙ ap (λ b. nat_le n m || b) h

pub new-in : (past : List Entry) (t : Tables) → Follows past t → (q : Ui) (s : ℕ) (tag : Tag) → is_new_in t.asked q s tag ≡ is_new tag (requests q s past)
new-in past t f q s (Request n back) = ap not (f.asked (record { port = q; seat = s; number = n }))
new-in past t f q s Plain = refl
new-in past t f q s (Reply c n) = refl

pub old-in : (past : List Entry) (t : Tables) → Follows past t → (q : Ui) (s : ℕ) (tag : Tag) → is_old_in t.most q s tag ≡ is_old tag (requests q s past)
old-in past t f q s (Request n back) = ap (is_reached n) (f.most (record { port = q; client = s })) ∙ reached-any n (requests q s past)
old-in past t f q s Plain = refl
old-in past t f q s (Reply c n) = refl
