-- How the places of a nucleus begin.
-- all are the ends of all places, linked, ss the places, from the number n on, rs their ends.
use Rattle.std.proofs.Common.{ℕ, zero, suc, ◌≡◌, ◌≢◌, ◌+◌, ◌-◌, ◌<◌, ◌≤◌, ◌==◌, nat_le, Bool, true, false, ◌&&◌, not, cond, List, [], ◌∷◌, ◌++◌, map, length, reverse, replicate, Option, Some, None, is_some, option_to_list, slice_get, get_or, refl, sym, ◌∙◌, ap, subst, arith, append_assoc}
use Rattle.std.specs.List.{All}
use Rattle.std.proofs.lemmas.Bool.{and_parts, and_from, le-leb, eq-eqb, false≢true}
use Rattle.std.proofs.lemmas.List.{reverse-append}
use Rattle.std.proofs.lemmas.List.Elements.{All-nil, All-cons, All-head, All-tail, All-weaker}
use Rattle.chorus_board.specs.declared.start.TheConstants.{READERS_PER_BOARD}
use Rattle.std.proofs.lemmas.Option.{get_or_from_slice_get, slice_get_within}
use Rattle.chorus_serve.specs.Desks.{in_hand}
use Rattle.chorus_ui.specs.declared.layout.Layout.{Layout}
use Rattle.chorus_ui.specs.declared.ui.Ui.{Ui}
use Rattle.chorus_ui.specs.Layout.{places, has_place, has_actor, IsLayout}
use Rattle.chorus_entry.specs.declared.packet.Packet.{Packet}
use Rattle.place_outbox.specs.Waiting.{list_to}
use Rattle.law_machine.specs.PlaceState.{PlaceState, started}
use Rattle.chorus_place.specs.Calls.{state}
use Rattle.chorus_link.specs.declared.name.LinkName.{LinkName}
use Rattle.chorus_link.specs.Ends.{name_of}
use Rattle.chorus_ruled_ends.specs.Ruled.{Ruled, links, end_to, end_from, sent_by, received_by, name_to, name_from}
use Rattle.chorus_ruled_ends.specs.Linked.{AreLinked, of_place, no_ends}
use Rattle.chorus_serve.specs.Flows.{IsOther}
use Rattle.law_closing.specs.Closing.{IsPlace}
use Rattle.std.specs.Global.{Vec}
use Rattle.std.specs.Vec.{vec_capacity}
use Rattle.chorus_entry.specs.declared.entry.Entry.{Entry}
use Rattle.law_history.specs.Turns.{from_place}
use Rattle.law_history.specs.PlaceTurns.{is_other}
use Rattle.chorus_turn.specs.Journals.{entries_of}
use Rattle.law_closing.specs.Places.{PlaceNote}
use Rattle.chorus_board.specs.declared.reader.BoardReader.{BoardReader}
use Rattle.chorus_board.specs.Boards.{book_of, name_of_book, IsNewIn}
use Rattle.place_publish.specs.Publishing.{IsBoardAt}
use Rattle.chorus_nucleus.specs.declared.site_turns.site.Site.{Site}
use Rattle.chorus_nucleus.specs.declared.site_turns.site.SiteMark.{SiteMark}
use Rattle.chorus_nucleus.specs.SiteTurns.Sites as sites
use Rattle.chorus_nucleus.specs.SiteTurns.Sites.{IsJournalOf, IsPublished}
use Rattle.chorus_nucleus.specs.Passes.{AreSites, Reads, AreSpare, AreRoomy, row_at, readers_in, desk_of, out_name, into_name}
use Rattle.chorus_nucleus.specs.Coming.{HasSeenNone}
use Rattle.chorus_nucleus.specs.Starting.{IsFresh, AreItsReaders, AreFreshFrom, AreFresh, HaveStarted}
use Rattle.chorus_nucleus.proofs.SiteTurns.Turning.{fits-as}
use Rattle.chorus_nucleus.proofs.Called.{place-is}

abbrev or-else : {A : Type 0} → A → Option A → A
or-else x None = x
or-else x (Some y) = y

pub same-some : {A : Type 0} (x y : A) → Some x ≡ Some y → x ≡ y
same-some x y e = ap (or-else x) e

at-front : {A : Type 0} (xs ys : List A) (k : ℕ) (x : A) → slice_get xs k ≡ Some x → slice_get (xs ++ ys) k ≡ Some x
at-front [] ys k x e = absurd (cc)
at-front (z ∷ xs) ys zero x e = e
at-front (z ∷ xs) ys (suc k) x e = at-front xs ys k x e

other-is : (l : Layout) (a b : ℕ) → is_other l a b ≡ true → IsPlace (places l) b × (a ≢ b)
other-is l a b e =
    let two = and_parts (has_place l b) (not (b == a)) e in
    (place-is l b two.0, λ same. false≢true (sym (ap not (eq-eqb b a (sym same))) ∙ two.1))

pub reaches-last : (l : Layout) (all now rest : List Ruled) (n : ℕ) → AreLinked (places l) all → all ≡ now ++ rest → length now ≡ n → 1 ≤ n → n ≤ places l
    → (r : Ruled) → slice_get now (length now - 1) ≡ Some r → (p : ℕ) → IsOther l n p → (links r).reaches p ≡ true
reaches-last l all now rest n linked e many low high r found p other =
    let at : slice_get all (n - 1) ≡ Some r = ap (λ xs. slice_get xs (n - 1)) e ∙ at-front now rest (n - 1) r (subst (λ m. slice_get now (m - 1) ≡ Some r) many found) in
    let of : of_place n all ≡ r = get_or_from_slice_get all (n - 1) r no_ends at in
    let is = place-is l p other.place in
    let out = linked.linked n p low high is.0 is.1 (λ same. other.other (sym same)) in
    let into = linked.linked p n is.0 is.1 low high other.other in
    and_from (is_some (end_to p r)) (is_some (end_from p r)) (ap is_some (ap (end_to p) (sym of) ∙ out.out)) (ap is_some (ap (end_from p) (sym of) ∙ into.into))

pub fresh-more : (l : Layout) (n : ℕ) → 0 < n → (all now later rest : List Ruled) (r : Ruled) (ss us : List (Site Ruled Packet)) (s : Site Ruled Packet) (vs ws : List (Vec BoardReader)) (v : Vec BoardReader)
    → all ≡ now ++ rest → now ≡ later ++ r ∷ [] → us ≡ ss ++ s ∷ [] → ws ≡ vs ++ v ∷ [] → IsFresh l n r s → AreItsReaders l n s v → AreFreshFrom l (n + 1) (reverse ss) (reverse vs) rest
    → (more : List Ruled) × (all ≡ later ++ more) × AreFreshFrom l (n - 1 + 1) (reverse us) (reverse ws) more
fresh-more l n low all now later rest r ss us s vs ws v e f g k fresh read h =
    let back : n - 1 + 1 ≡ n = omega (arith, low) in
    let turned : reverse us ≡ s ∷ reverse ss = ap reverse g ∙ reverse-append ss (s ∷ []) in
    let rows : reverse ws ≡ v ∷ reverse vs = ap reverse k ∙ reverse-append vs (v ∷ []) in (
      r ∷ rest,
      e ∙ ap (λ xs. xs ++ rest) f ∙ append_assoc later (r ∷ []) rest,
      subst (λ m. AreFreshFrom l m (reverse us) (reverse ws) (r ∷ rest)) (sym back)
          (subst (λ xs. AreFreshFrom l n xs (reverse ws) (r ∷ rest)) (sym turned) (subst (λ xs. AreFreshFrom l n (s ∷ reverse ss) xs (r ∷ rest)) (sym rows) (fresh, read, h))),
    )

-- the place at k
pub fresh-at : (l : Layout) (n k : ℕ) (ss : List (Site Ruled Packet)) (vs : List (Vec BoardReader)) (rs : List Ruled) (s : Site Ruled Packet) → AreFreshFrom l n ss vs rs → slice_get ss k ≡ Some s
    → (r : Ruled) × (slice_get rs k ≡ Some r) × IsFresh l (n + k) r s
fresh-at l n k [] vs rs s h e = absurd (cc)
fresh-at l n k (t ∷ ss) [] rs s h e = absurd h
fresh-at l n k (t ∷ ss) (v ∷ vs) [] s h e = absurd h
fresh-at l n zero (t ∷ ss) (v ∷ vs) (r ∷ rs) s h e =
    (let same : t ≡ s = same-some t s e in let m : n ≡ n + 0 = omega arith in (r, refl, subst (λ q. IsFresh l q r s) m (subst (λ z. IsFresh l n r z) same h.0)))
fresh-at l n (suc k) (t ∷ ss) (v ∷ vs) (r ∷ rs) s h e =
    (let got = fresh-at l (n + 1) k ss vs rs s h.2 e in let m : n + 1 + k ≡ n + suc k = omega arith in (got.0, got.1, subst (λ q. IsFresh l q got.0 s) m got.2))

-- and its readers
row-at : (l : Layout) (n k : ℕ) (ss : List (Site Ruled Packet)) (vs : List (Vec BoardReader)) (rs : List Ruled) (v : Vec BoardReader) → AreFreshFrom l n ss vs rs → slice_get vs k ≡ Some v
    → (s : Site Ruled Packet) × (slice_get ss k ≡ Some s) × AreItsReaders l (n + k) s v
row-at l n k [] [] [] v h e = absurd (cc)
row-at l n k [] [] (r ∷ rs) v h e = absurd h
row-at l n k [] (w ∷ vs) rs v h e = absurd h
row-at l n k (t ∷ ss) [] rs v h e = absurd h
row-at l n k (t ∷ ss) (w ∷ vs) [] v h e = absurd h
row-at l n zero (t ∷ ss) (w ∷ vs) (r ∷ rs) v h e =
    (let same : w ≡ v = same-some w v e in let m : n ≡ n + 0 = omega arith in (t, refl, subst (λ q. AreItsReaders l q t v) m (subst (λ z. AreItsReaders l n t z) same h.1)))
row-at l n (suc k) (t ∷ ss) (w ∷ vs) (r ∷ rs) v h e =
    (let got = row-at l (n + 1) k ss vs rs v h.2 e in let m : n + 1 + k ≡ n + suc k = omega arith in (got.0, got.1, subst (λ q. AreItsReaders l q got.0 v) m got.2))

fresh-length : (l : Layout) (n : ℕ) (ss : List (Site Ruled Packet)) (vs : List (Vec BoardReader)) (rs : List Ruled) → AreFreshFrom l n ss vs rs → (length ss ≡ length rs) × (length vs ≡ length rs)
fresh-length l n [] [] [] h = (refl, refl)
fresh-length l n [] [] (r ∷ rs) h = absurd h
fresh-length l n [] (v ∷ vs) rs h = absurd h
fresh-length l n (s ∷ ss) [] rs h = absurd h
fresh-length l n (s ∷ ss) (v ∷ vs) [] h = absurd h
fresh-length l n (s ∷ ss) (v ∷ vs) (r ∷ rs) h = (let two = fresh-length l (n + 1) ss vs rs h.2 in (ap suc two.0, ap suc two.1))

nothing-waits : (n b : ℕ) → list_to b (replicate n []) ≡ []
nothing-waits zero b = refl
nothing-waits (suc n) zero = refl
nothing-waits (suc n) (suc b) = nothing-waits n b

module _ (l : Layout) (all : List Ruled) (linked : AreLinked (places l) all) where
  -- nothing was sent to another place or received from one
  none-sent : (a b : ℕ) (r : Ruled) → IsPlace (places l) a → of_place a all ≡ r → is_other l a b ≡ true → (links r).sent b ≡ []
  none-sent a b r is of o =
      let two = other-is l a b o in
      let k = linked.linked a b is.0 is.1 two.0.0 two.0.1 two.1 in
      ap sent_by (ap (end_to b) (sym of) ∙ k.out) ∙ k.new.0

  none-received : (a b : ℕ) (r : Ruled) → IsPlace (places l) a → of_place a all ≡ r → is_other l a b ≡ true → (links r).received b ≡ []
  none-received a b r is of o =
      let two = other-is l a b o in
      let k = linked.linked b a two.0.0 two.0.1 is.0 is.1 (λ same. two.1 (sym same)) in
      ap received_by (ap (end_from b) (sym of) ∙ k.into) ∙ k.new.1

  fresh-fits : (n : ℕ) (r : Ruled) (s : Site Ruled Packet) → IsPlace (places l) n → of_place n all ≡ r → IsFresh l n r s → IsJournalOf (desk_of s) []
  fresh-fits n r s is of f = (
    sym (ap (λ (z : PlaceState). reverse z.journal) f.state),
    record {
      keeps = fits-as l s.desk.place.layout n s.desk.place.number (started l n) (state s.desk.place) (links s.desk.ends) s.desk.place.out.lists (desk_of s).hand []
          (sym (ap (λ (z : PlaceState). z.layout) f.state)) (sym (ap (λ (z : PlaceState). z.number) f.state)) (sym f.state)
          record { takes = refl; put = put; got = got };
      puts = f.puts;
      worked = f.worked;
      own = subst (λ (js : List Entry). All (λ (e : Entry). e.place ≡ s.desk.place.number) js) (sym (ap (λ (z : PlaceState). reverse z.journal) f.state))
          (All-nil (λ (e : Entry). e.place ≡ s.desk.place.number));
    },
  )
    where
      put : (b : ℕ) → let nil : List Packet = [] in nil ≡ sites.sent_in l n (links s.desk.ends) b ++ sites.waits_in l n s.desk.place.out.lists [] b
      put b = by (is_other l n b) refl
        where
          by : (c : Bool) → is_other l n b ≡ c → let nil : List Packet = [] in nil ≡ cond c ((links s.desk.ends).sent b) [] ++ cond c (list_to b s.desk.place.out.lists) []
          by true o =
              sym (ap (λ ks. ks ++ list_to b s.desk.place.out.lists) (ap (λ z. (links z).sent b) f.its_ends ∙ none-sent n b r is of o)
              ∙ ap (list_to b) f.out ∙ nothing-waits (places l + 1) b)
          by false o = refl

      got : (a : ℕ) → let nil : List Packet = [] in sites.received_in l n (links s.desk.ends) a ≡ nil ++ sites.held_in l n (desk_of s).hand a
      got a = by (is_other l n a) refl
        where
          by : (c : Bool) → is_other l n a ≡ c → cond c ((links s.desk.ends).received a) [] ≡ cond c (from_place a (option_to_list (desk_of s).hand)) []
          by true o =
              ap (λ z. (links z).received a) f.its_ends ∙ none-received n a r is of o
              ∙ sym (ap (λ h. from_place a (option_to_list (in_hand (λ k. k) h))) f.hand)
          by false o = refl

  found-place : (k : ℕ) (r : Ruled) → slice_get all k ≡ Some r → IsPlace (places l) (1 + k) × (of_place (1 + k) all ≡ r)
  found-place k r e =
      let lt = slice_get_within all k r e in
      let n = linked.count in
      let m : 1 + k - 1 ≡ k = omega arith in
      ((omega arith, omega (arith, lt, n)), ap (λ j. get_or all j no_ends) m ∙ get_or_from_slice_get all k r no_ends e)

  each-fits : (ss : List (Site Ruled Packet)) (vs : List (Vec BoardReader)) → AreFresh l ss vs all → (k : ℕ) (s : Site Ruled Packet) → slice_get ss k ≡ Some s → IsJournalOf (desk_of s) []
  each-fits ss vs h k s e = (let got = fresh-at l 1 k ss vs all s h e in let at = found-place k got.0 got.1 in fresh-fits (1 + k) got.0 s at.0 at.1 got.2)

-- nothing is published
fresh-published : (l : Layout) (n : ℕ) (r : Ruled) (s : Site Ruled Packet) → IsFresh l n r s → IsPublished (desk_of s) s.board
fresh-published l n r s f =
    subst (λ (js : List Entry). IsBoardAt s.desk.place.layout s.desk.place.number js s.board) (sym (ap (λ (z : PlaceState). reverse z.journal) f.state))
    (subst (λ k. IsBoardAt k s.desk.place.number [] s.board) (sym (ap (λ (z : PlaceState). z.layout) f.state))
    (subst (λ m. IsBoardAt l m [] s.board) (sym (ap (λ (z : PlaceState). z.number) f.state)) (record {
      layout = f.board.0;
      of_place = f.board.1;
      published = ([], ap (λ es. es ++ []) f.board.2);
      begun = ([], ap (λ es. es ++ []) f.board.3);
      silent = λ i e at from to. (let none = ap (λ (es : List Entry). length es) f.board.3 in absurd (omega (arith, none, to)));
    })))

abbrev Begins : Site Ruled Packet → Type 0
Begins s = (entries_of {R = PlaceNote} [] ≡ sites.entries (desk_of s)) × (sites.Fits (desk_of s) [] × IsPublished (desk_of s) s.board)

pub fresh-journals : (l : Layout) (ss : List (Site Ruled Packet)) (vs : List (Vec BoardReader)) → HaveStarted l ss vs → All Begins ss
fresh-journals l ss vs h =
    from ss (λ k s e. (let j = each-fits l h.ends h.linked ss vs h.fresh k s e in let f = fresh-at l 1 k ss vs h.ends s h.fresh e in (j.0, (j.1, fresh-published l (1 + k) f.0 s f.2))))
  where
    from : (us : List (Site Ruled Packet)) → ((k : ℕ) (s : Site Ruled Packet) → slice_get us k ≡ Some s → Begins s) → All Begins us
    from [] g = All-nil Begins
    from (u ∷ us) g = All-cons Begins u us (g 0 u refl) (from us (λ k s e. g (suc k) s e))

pub named-at : {A : Type 0} (f : Option A → Option LinkName) → f None ≡ None → (xs : List (Option A)) (b : ℕ) → get_or (map f xs) b None ≡ f (get_or xs b None)
named-at f none [] b = sym none
named-at f none (x ∷ xs) zero = refl
named-at f none (x ∷ xs) (suc b) = named-at f none xs b

pub fresh-sites : (l : Layout) → IsLayout l → (ss : List (Site Ruled Packet)) (vs : List (Vec BoardReader)) → HaveStarted l ss vs → AreSites l ss
fresh-sites l shape ss vs started = let all = started.ends in let linked = started.linked in let h = started.fresh in record {
  shape = shape;
  count = (fresh-length l 1 ss vs all h).0 ∙ linked.count;
  marks = λ p m low is.
      let got = fresh-at l 1 (p - 1) ss vs all is.0 h is.1 in
      let back : 1 + (p - 1) ≡ p = omega (arith, low) in
      let st = got.2.state in
      (ap (λ (z : SiteMark). z.layout) is.2 ∙ ap (λ (z : PlaceState). z.layout) st, ap (λ (z : SiteMark). z.number) is.2 ∙ ap (λ (z : PlaceState). z.number) st ∙ back);
  links = λ a b m n ina inb apart ma mb.
      let fa = fresh-at l 1 (a - 1) ss vs all ma.0 h ma.1 in
      let fb = fresh-at l 1 (b - 1) ss vs all mb.0 h mb.1 in
      let k = linked.linked a b ina.0 ina.1 inb.0 inb.1 apart in
      let ofa : of_place a all ≡ fa.0 = get_or_from_slice_get all (a - 1) fa.0 no_ends fa.1 in
      let ofb : of_place b all ≡ fb.0 = get_or_from_slice_get all (b - 1) fb.0 no_ends fb.1 in
      let out : out_name b m.ends ≡ Some (name_of (k.send.pass.table_id)) =
      ap (λ (z : SiteMark). out_name b z.ends) ma.2 ∙ named-at name_to refl (ma.0.desk.ends).out b ∙ ap (λ z. name_to (end_to b z)) (fa.2.its_ends ∙ sym ofa) ∙ ap name_to k.out in
      let into : into_name a n.ends ≡ Some (name_of (k.recv.pass.table_id)) =
      ap (λ (z : SiteMark). into_name a z.ends) mb.2 ∙ named-at name_from refl (mb.0.desk.ends).into a ∙ ap (λ z. name_from (end_from a z)) (fb.2.its_ends ∙ sym ofb) ∙ ap name_from k.into in
      (ap is_some out, out ∙ ap (λ z. Some (name_of z)) k.one_link ∙ sym into);
}

-- the readers are of their places' boards
new-reads : (l : Layout) (handed : List (Site Ruled Packet)) (p : ℕ) (s : Site Ruled Packet) → slice_get handed (p - 1) ≡ Some s → (rs : List BoardReader) → All (IsNewIn (book_of s.board) l p) rs
    → All (λ (r : BoardReader). Reads l handed p r) rs
new-reads l handed p s at [] h = All-nil (λ (r : BoardReader). Reads l handed p r)
new-reads l handed p s at (r ∷ rs) h =
    (let is = All-head (IsNewIn (book_of s.board) l p) r rs h in
    All-cons (λ (x : BoardReader). Reads l handed p x) r rs
    (record {
      layout = is.1;
      place = is.2;
      board = λ m marked. (let same : s ≡ marked.0 = same-some s marked.0 (sym at ∙ marked.1) in ap name_of_book is.0 ∙ ap (λ (z : Site Ruled Packet). name_of_book (book_of z.board)) same ∙ sym (ap (λ (z : SiteMark). z.board) marked.2));
    })
    (new-reads l handed p s at rs (All-tail (IsNewIn (book_of s.board) l p) r rs h)))

pub fresh-spare : (l : Layout) (ss : List (Site Ruled Packet)) (vs : List (Vec BoardReader)) → HaveStarted l ss vs → AreSpare l ss vs
fresh-spare l ss vs h = record { read = λ p low. by p low (slice_get vs (p - 1)) refl; room = rooms 1 ss vs h.ends h.fresh }
  where
    by : (p : ℕ) → 1 ≤ p → (o : Option (Vec BoardReader)) → slice_get vs (p - 1) ≡ o → All (λ (r : BoardReader). Reads l ss p r) (readers_in o)
    by p low None e = All-nil (λ (r : BoardReader). Reads l ss p r)
    by p low (Some v) e =
        (let got = row-at l 1 (p - 1) ss vs h.ends v h.fresh e in let back : 1 + (p - 1) ≡ p = omega (arith, low) in
        new-reads l ss p got.0 got.1 v.items (subst (λ q. All (IsNewIn (book_of got.0.board) l q) v.items) back got.2.new))

    rooms : (n : ℕ) (us : List (Site Ruled Packet)) (ws : List (Vec BoardReader)) (rs : List Ruled) → AreFreshFrom l n us ws rs → AreRoomy ws
    rooms n us [] rs g = All-nil (λ (row : Vec BoardReader). READERS_PER_BOARD ≤ vec_capacity row)
    rooms n [] (w ∷ ws) rs g = absurd g
    rooms n (u ∷ us) (w ∷ ws) [] g = absurd g
    rooms n (u ∷ us) (w ∷ ws) (r ∷ rs) g = All-cons (λ (row : Vec BoardReader). READERS_PER_BOARD ≤ vec_capacity row) w ws g.1.room (rooms (n + 1) us ws rs g.2)

-- none has seen an entry
pub fresh-new : (l : Layout) (ss : List (Site Ruled Packet)) (vs : List (Vec BoardReader)) → HaveStarted l ss vs → (p : ℕ) → 1 ≤ p → All HasSeenNone (row_at p vs)
fresh-new l ss vs h p low = by (slice_get vs (p - 1)) refl
  where
    by : (o : Option (Vec BoardReader)) → slice_get vs (p - 1) ≡ o → All HasSeenNone (readers_in o)
    by None e = All-nil HasSeenNone
    by (Some v) e =
        (let got = row-at l 1 (p - 1) ss vs h.ends v h.fresh e in
        All-weaker (IsNewIn (book_of got.0.board) l (1 + (p - 1))) HasSeenNone (λ r is. is.3) v.items got.2.new)

-- there is a row of readers for each place, and each has all
pub fresh-rows : (l : Layout) (ss : List (Site Ruled Packet)) (vs : List (Vec BoardReader)) → HaveStarted l ss vs
    → (length vs ≡ places l) × ((q : ℕ) → IsPlace (places l) q → length (row_at q vs) ≡ READERS_PER_BOARD)
fresh-rows l ss vs h =
    let many = (fresh-length l 1 ss vs h.ends h.fresh).1 ∙ h.linked.count in
    (many, λ q is. (let low = is.0 in let high = is.1 in by (q - 1) (slice_get vs (q - 1)) refl (there vs (q - 1) (omega (arith, low, high, many)))))
  where
    there : (ws : List (Vec BoardReader)) (k : ℕ) → k < length ws → (w : Vec BoardReader) × (slice_get ws k ≡ Some w)
    there [] k lt = absurd (omega (arith, lt))
    there (w ∷ ws) zero lt = (w, refl)
    there (w ∷ ws) (suc k) lt = there ws k (omega (arith, lt))

    by : (k : ℕ) (o : Option (Vec BoardReader)) → slice_get vs k ≡ o → (w : Vec BoardReader) × (slice_get vs k ≡ Some w) → length (readers_in o) ≡ READERS_PER_BOARD
    by k None e got = absurd (cc)
    by k (Some v) e got = (row-at l 1 k ss vs h.ends v h.fresh e).2.count

pub first-is : (l : Layout) (a : Ui) → IsLayout l → a.site ≡ 1 → a.number ≡ 1 → has_actor l a ≡ true
first-is l a shape site number =
    ap (λ s. nat_le 1 s && nat_le s l.sites && nat_le 1 a.number && nat_le a.number 8) site ∙ ap (λ n. nat_le 1 l.sites && nat_le 1 n && nat_le n 8) number
    ∙ ap (λ b. b && true && true) (le-leb 1 l.sites shape.sites_from_one)
