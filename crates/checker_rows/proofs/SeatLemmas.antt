-- The row of a caller after one entry more.
use Rattle.std.proofs.Common.{ℕ, ◌≡◌, ◌==◌, ◌+◌, ◌≤◌, Bool, true, false, ◌&&◌, cond, List, [], ◌∷◌, length, Option, None, refl, sym, ◌∙◌, ap, arith}
use Rattle.std.proofs.lemmas.Bool.{eqb-true, eq-eqb, false≢true}
use Rattle.chorus_entry.specs.declared.entry.Entry.{Entry}
use Rattle.chorus_entry.specs.declared.id.MsgId.{MsgId}
use Rattle.chorus_entry.specs.declared.hand.Hand.{Hand}
use Rattle.chorus_entry.specs.declared.tag.Tag.{Tag}
use Rattle.chorus_entry.specs.declared.act.Act.{Act}
use Rattle.chorus_entry.specs.declared.act.Act.TheVariants.{Post, Take, Done, Cancel}
use Rattle.chorus_world.specs.Views.{by, is_by}
use Rattle.chorus_world.specs.Posts.{posted_by, posted_in, source, tag_of, tag_from}
use Rattle.chorus_world.specs.Seats.{posts_after, posts, stays_at, posts_stay, requests_after, requests, call_after, call, hand, hand_after, hand_with}
use Rattle.chorus_world.proofs.Messages.Posted.{AllPosted, filtered}
use Rattle.chorus_world.proofs.Messages.SendingLemmas.{and_false, or_none}
use Rattle.chorus_world.proofs.Sorted.Agreement.{extends_self, extends_before, hand_agrees}
use Rattle.checker_rows.specs.Seats.{seat_row, seat_here, seat_after, stay, stays, stay_at, stay_after, hand_by, first_index, first_after, changes_seat}
use Rattle.checker_rows.specs.Seats.{HasTag}
use Rattle.checker_rows.specs.declared.seats.SeatRow.{SeatRow}
use Rattle.checker_rows.specs.declared.seats.Stay.{Stay}
use Rattle.checker_rows.specs.declared.seats.Stay.TheVariants.{Nowhere, At, Apart}
use Rattle.checker_rows.proofs.PlaceLemmas.{filter_few}

-- an entry that posts nothing under the id leaves its tag
pub tag_same : (past : List Entry) (e : Entry) (x : MsgId) → posted_by (source x) e.place e.act ≡ None → tag_of x (e ∷ past) ≡ tag_of x past
tag_same past e x h = ap tag_from (go (is_by x.seat e))
  where
    go : (b : Bool) → posted_in (source x) (cond b (e ∷ by x.seat past) (by x.seat past)) ≡ posted_in (source x) (by x.seat past)
    go true = or_none (posted_in (source x) (by x.seat past)) (posted_by (source x) e.place e.act) h
    go false = refl

hand_now : (past : List Entry) (e : Entry) (tag : Tag) (h : Option Hand) (a : Act) → e.act ≡ a → HasTag past a tag → hand_after (e ∷ past) a h ≡ hand_by tag a h
hand_now past e tag h (Take q n x) is t =
    ap (λ z. hand_with x.seat z h) (tag_same past e x (ap (posted_by (source x) e.place) is) ∙ sym t)
hand_now past e tag h (Post m d) is t = refl
hand_now past e tag h _ is t = refl

-- the row, with this hand
abbrev with_hand : List Entry → List Entry → ℕ → Option ℕ → Option Hand → SeatRow
with_hand past mine s first h =
    record { posts = posts mine; stay = stay mine; requests = requests mine; call = call mine; hand = h; first = first }

seat_case : (past : List Entry) (e : Entry) (s : ℕ) (tag : Tag) (b : Bool)
    → hand (e ∷ past) (by s past) ≡ hand past (by s past) → hand_after (e ∷ past) e.act (hand (e ∷ past) (by s past)) ≡ hand_by tag e.act (hand past (by s past))
    → with_hand (e ∷ past) (cond b (e ∷ by s past) (by s past)) s (cond b (first_after e.act (length past) (requests (by s past)) (first_index s past)) (first_index s past)) (hand (e ∷ past) (cond b (e ∷ by s past) (by s past)))
    ≡ cond b (seat_here tag (length past) e (seat_row past s)) (seat_row past s)
seat_case past e s tag true old now =
    ap (with_hand (e ∷ past) (e ∷ by s past) s (first_after e.act (length past) (requests (by s past)) (first_index s past))) now
seat_case past e s tag false old now = ap (with_hand (e ∷ past) (by s past) s (first_index s past)) old

pub seat_grows : (past : List Entry) (e : Entry) (s : ℕ) (tag : Tag) → AllPosted past past → HasTag past e.act tag → seat_row (e ∷ past) s ≡ seat_after s tag (length past) e (seat_row past s)
seat_grows past e s tag all t =
    let old = hand_agrees (e ∷ past) past (by s past) (extends_before (e ∷ past) past e (extends_self (e ∷ past))) (filtered past (is_by s) past all) in
    seat_case past e s tag (e.seat == s) old (hand_now past e tag (hand (e ∷ past) (by s past)) e.act refl t ∙ ap (hand_by tag e.act) old)

pub seat_own : (tag : Tag) (i : ℕ) (e : Entry) (r : SeatRow) → seat_after e.seat tag i e r ≡ seat_here tag i e r
seat_own tag i e r = ap (λ b. cond b (seat_here tag i e r) r) (eq-eqb e.seat e.seat refl)

pub seat_apart : (s : ℕ) (tag : Tag) (i : ℕ) (e : Entry) → (e.seat == s) ≡ false → (r : SeatRow) → seat_after s tag i e r ≡ r
seat_apart s tag i e h r = ap (λ b. cond b (seat_here tag i e r) r) h

abbrev changed : Tag → ℕ → ℕ → Act → SeatRow → SeatRow
changed tag i p a r =
    record {
      posts = posts_after a r.posts;
      stay = stay_after p a r.stay;
      requests = requests_after a r.requests;
      call = call_after a r.call;
      hand = hand_by tag a r.hand;
      first = first_after a i r.requests r.first;
    }

unchanged : (tag : Tag) (i p : ℕ) (a : Act) (r : SeatRow) → changes_seat a ≡ false → changed tag i p a r ≡ r
unchanged tag i p (Post m d) r h = absurd (false≢true (sym h))
unchanged tag i p (Take q n x) r h = absurd (false≢true (sym h))
unchanged tag i p (Done n) r h = absurd (false≢true (sym h))
unchanged tag i p (Cancel n) r h = absurd (false≢true (sym h))
unchanged tag i p _ r h = refl

kept_either : (b : Bool) (new r : SeatRow) → new ≡ r → r ≡ cond b new r
kept_either true new r h = sym h
kept_either false new r h = refl

pub seat_stays : (s : ℕ) (tag : Tag) (i : ℕ) (e : Entry) → changes_seat e.act ≡ false → (r : SeatRow) → r ≡ seat_after s tag i e r
seat_stays s tag i e h r = kept_either (e.seat == s) (seat_here tag i e r) r (unchanged tag i e.place e.act r h)

same_twice : (b : Bool) → (b && b) ≡ b
same_twice true = refl
same_twice false = refl

-- where a caller posted
stay_case : (p q : ℕ) (s : Stay) → ((q == p) && stays p s) ≡ stays p (stay_at q s)
stay_case p q Nowhere = and_right (q == p)
  where
    and_right : (b : Bool) → (b && true) ≡ b
    and_right true = refl
    and_right false = refl
stay_case p q (At r) = by (q == p) (r == p) (r == q) refl refl refl
  where
    by : (a b c : Bool) → (q == p) ≡ a → (r == p) ≡ b → (r == q) ≡ c → ((q == p) && (r == p)) ≡ stays p (cond c (At r) Apart)
    by a b true x y z = ap (λ n. (n == p) && (r == p)) (sym (eqb-true r q z)) ∙ same_twice (r == p)
    by true true false x y z = absurd (false≢true (sym z ∙ (ap (λ n. r == n) (eqb-true q p x) ∙ y)))
    by true false false x y z = ap (λ b. (q == p) && b) y ∙ and_false (q == p)
    by false b false x y z = ap (λ b. b && (r == p)) x
stay_case p q Apart = and_none (q == p)
  where
    and_none : (b : Bool) → (b && false) ≡ false
    and_none true = refl
    and_none false = refl

stays_case : (p q : ℕ) (a : Act) (s : Stay) → (stays_at p q a && stays p s) ≡ stays p (stay_after q a s)
stays_case p q (Post m d) s = stay_case p q s
stays_case p q _ s = refl

pub stays_is : (p : ℕ) (mine : List Entry) → posts_stay p mine ≡ stays p (stay mine)
stays_is p [] = refl
stays_is p (e ∷ mine) = ap (λ b. stays_at p e.place e.act && b) (stays_is p mine) ∙ stays_case p e.place e.act (stay mine)

posts_case : (a : Act) (n k : ℕ) → n ≤ k → posts_after a n ≤ k + 1
posts_case (Post m d) n k h = omega arith
posts_case _ n k h = omega arith

pub posts_few : (es : List Entry) → posts es ≤ length es
posts_few [] = omega arith
posts_few (e ∷ es) = let h = posts_case e.act (posts es) (length es) (posts_few es) in omega (arith, h)

pub few_posts : (past : List Entry) (s : ℕ) → posts (by s past) ≤ length past
few_posts past s = let h = posts_few (by s past) in let k = filter_few (is_by s) past in omega (arith, h, k)
