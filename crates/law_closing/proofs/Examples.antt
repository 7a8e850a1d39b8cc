-- Two closed places, worked out by hand, and closings that fail one premise each. On two sites of one place the first caller sends
-- four messages, each to a port that is not made. The second works the first one off. Then of the others one is in hand, one on the link
-- and one in the outbox, and the verdict waits in the outbox of the second place.
use Rattle.std.proofs.Common.{ℕ, zero, suc, ◌≡◌, ◌+◌, ◌<◌, ◌==◌, Bool, true, false, cond, List, [], ◌∷◌, ◌++◌, reverse, None, slice_index_or, refl, sym, ◌∙◌, ap, ap₂, subst, arith}
use Rattle.std.specs.List.{All, Contains}
use Rattle.std.proofs.lemmas.Bool.{ne_eqb, false≢true}
use Rattle.std.proofs.lemmas.List.Elements.{All-nil, All-cons, All-head}
use Rattle.chorus_ui.specs.declared.ui.Ui.{Ui}
use Rattle.chorus_ui.specs.declared.layout.Layout.{Layout}
use Rattle.chorus_ui.specs.declared.kind.Kind.TheVariants as kinds
use Rattle.chorus_ui.specs.Layout.{has_actor}
use Rattle.chorus_entry.specs.declared.act.Act.{Act}
use Rattle.chorus_entry.specs.declared.entry.Entry.{Entry}
use Rattle.chorus_entry.specs.declared.id.MsgId.{MsgId}
use Rattle.chorus_entry.specs.declared.tag.Tag.{Tag}
use Rattle.chorus_entry.specs.declared.dest.Dest.{Dest}
use Rattle.chorus_entry.specs.declared.message.Message.{Message}
use Rattle.chorus_entry.specs.declared.answer.Answer.TheVariants as answers
use Rattle.chorus_entry.specs.declared.command.Command.{Command}
use Rattle.chorus_entry.specs.declared.packet.Packet.{Packet}
use Rattle.chorus_entry.specs.declared.packet.Cargo.{Cargo}
use Rattle.chorus_calls.specs.Callers.{Seated, new_caller, raised}
use Rattle.chorus_turn.specs.declared.knowledge.Remarked.{Remarked}
use Rattle.chorus_turn.specs.declared.knowledge.Placed.{Placed}
use Rattle.chorus_turn.specs.declared.knowledge.Note.{Note}
use Rattle.chorus_turn.specs.declared.knowledge.Knowledge.{Knowledge}
use Rattle.chorus_turn.specs.Journals.{entries_of, by_seat, with_place, at_place}
use Rattle.chorus_turn.specs.Knowing.{Shows}
use Rattle.law_machine.specs.PlaceState.{PlaceState, started}
use Rattle.law_history.specs.declared.turns.Input.{Input}
use Rattle.law_history.specs.Turns.{put_to, got_from}
use Rattle.law_history.specs.Histories.{Follows}
use Rattle.law_history.specs.PlaceTurns.{turn, machine}
use Rattle.law_closing.specs.Remarks.{remarked, turns_at, turns_in}
use Rattle.law_closing.specs.declared.noted.Noted.{Noted}
use Rattle.law_closing.specs.Growth.{noted}
use Rattle.law_closing.specs.Closing.{IsPlace, IsThread, Keeps}
use Rattle.law_closing.specs.Places.{PlaceNote, is_new, ArePlacesClosed}
use Rattle.law_closing.specs.Actors.{AreIn, AreActors}
use Rattle.law_closing.specs.Seen.{HasSeen}

abbrev Log : Type 0
Log = List (Remarked PlaceNote)

abbrev Links : Type 0
Links = ℕ → ℕ → List Packet

-- Names.

abbrev two_sites : Layout
two_sites = record { sites = 2; turns = 1 }

abbrev actor : ℕ → Ui
actor site = record { site = site; kind = kinds.Actor; number = 1 }

abbrev port : ℕ → Ui
port n = record { site = 2; kind = kinds.Port; number = n }

abbrev id : ℕ → MsgId
id n = record { seat = 0; number = n; copy = 0 }

abbrev message : ℕ → Message
message n = record { id = id n; tag = Tag.Plain; body = [] }

-- The turns: each send has two entries, and each try the clock of its second one. The second caller's last clock is 5, so what it
-- makes of the first try has clock 6.

abbrev send : ℕ → Input Command Packet
send n = Input.Command (Command.Send (Dest.Port (port n)) [])

abbrev try : ℕ → Packet
try n = record { clock = n + n; from = 1; cargo = Cargo.Try (message n) (port n) None None 0 }

abbrev verdict : Packet
verdict = record { clock = 6; from = 2; cargo = Cargo.Verdict (id 1) (port 1) None answers.NoPort }

abbrev sender : Seated
sender = new_caller 0 (actor 1) 0

abbrev worker : Seated
worker = new_caller 1 (actor 2) 5

-- the first place and the sender after so many sends
abbrev after : ℕ → PlaceState × Seated
after zero = (started two_sites 1, sender)
after (suc n) = (let o = turn (send (n + 1)) (after n).0 (after n).1 in (o.place, o.caller))

abbrev work : Input Command Packet
work = Input.Packet 1 (try 1)

abbrev worked : PlaceState × Seated
worked = (let o = turn work (started two_sites 2) worker in (o.place, o.caller))

-- The journals with their remarks.

abbrev posting : ℕ → Entry
posting n = record { clock = n + n + 1; place = 1; seat = 0; act = Act.Post (message (n + 1)) (Dest.Port (port (n + 1))) }

abbrev trying : ℕ → Entry
trying n = record { clock = n + n + 2; place = 1; seat = 0; act = Act.Try (id (n + 1)) (port (n + 1)) 2 0 }

-- the send after n others
abbrev sent : ℕ → Log
sent n = remarked (noted (machine two_sites) 1 (send (n + 1)) (after n).0 (after n).1) (posting n ∷ trying n ∷ [])

abbrev refusing : Entry
refusing = record { clock = 6; place = 2; seat = 1; act = Act.NoPort (id 1) (port 1) }

abbrev log : ℕ → Log
log (suc zero) = sent 0 ++ (sent 1 ++ (sent 2 ++ sent 3))
log (suc (suc zero)) = remarked (noted (machine two_sites) 2 work (started two_sites 2) worker) (refusing ∷ [])
log _ = []

abbrev end : ℕ → PlaceState
end (suc zero) = (after 4).0
end (suc (suc zero)) = worked.0
end p = started two_sites p

-- they are the journals of the places
pub first-journal : entries_of (log 1) ≡ reverse (end 1).journal
first-journal = refl

pub second-journal : entries_of (log 2) ≡ reverse (end 2).journal
second-journal = refl

-- The packets.

abbrev pushed : Links
pushed (suc zero) (suc (suc zero)) = try 1 ∷ try 2 ∷ try 3 ∷ []
pushed _ _ = []

abbrev out : Links
out (suc zero) (suc (suc zero)) = try 4 ∷ []
out (suc (suc zero)) (suc zero) = verdict ∷ []
out _ _ = []

abbrev popped : Links
popped (suc zero) (suc (suc zero)) = try 1 ∷ try 2 ∷ []
popped _ _ = []

abbrev hand : Links
hand (suc zero) (suc (suc zero)) = try 2 ∷ []
hand _ _ = []

abbrev left : Links
left (suc zero) (suc (suc zero)) = try 3 ∷ []
left _ _ = []

-- The pass that closes is the first caller's, with a note of the second's.

abbrev note : Note PlaceNote
note = record { seat = 1; mine = with_place 2 [] (log 2) }

abbrev known : Knowledge PlaceNote
known = record { seat = 0; seen = []; mine = with_place 1 [] (log 1); refused = []; notes = note ∷ []; keeper = true; made = 2 }

-- It meets each premise.

apart : (a b : ℕ) → a < b → (a == b) ≡ false
apart a b lt = ne_eqb a b (λ e. omega (arith, lt, e))

abbrev all-or-none : Bool → List Packet
all-or-none c =
    cond c (try 1 ∷ []) [] ++ (cond c (try 2 ∷ []) [] ++ (cond c (try 3 ∷ []) [] ++ (cond c (try 4 ∷ []) [] ++ [])))

put-first : (b : ℕ) → put_to b (turns_at 1 (log 1)) ≡ pushed 1 b ++ out 1 b
put-first zero = refl
put-first (suc zero) = refl
put-first (suc (suc zero)) = refl
put-first (suc (suc (suc b))) = ap all-or-none (apart 2 (suc (suc (suc b))) (omega arith))

put-second : (b : ℕ) → put_to b (turns_at 2 (log 2)) ≡ pushed 2 b ++ out 2 b
put-second zero = refl
put-second (suc zero) = refl
put-second (suc (suc zero)) = refl
put-second (suc (suc (suc b))) = ap (λ c. cond c (verdict ∷ []) [] ++ []) (apart 1 (suc (suc (suc b))) (omega arith))

got-first : (a : ℕ) → popped a 1 ≡ got_from a (turns_at 1 (log 1)) ++ hand a 1
got-first zero = refl
got-first (suc zero) = refl
got-first (suc (suc a)) = refl

got-second : (a : ℕ) → popped a 2 ≡ got_from a (turns_at 2 (log 2)) ++ hand a 2
got-second zero = refl
got-second (suc zero) = refl
got-second (suc (suc a)) = sym (ap (λ c. (cond c (try 1 ∷ []) [] ++ []) ++ []) (apart 1 (suc (suc a)) (omega arith)))

abbrev KeepsAt : ℕ → Type 0
KeepsAt p = Keeps (machine two_sites) (started two_sites p) p (log p) (end p) (pushed p) (out p) (λ a. popped a p) (λ a. hand a p)

keeps : (p : ℕ) → IsPlace 2 p → KeepsAt p
keeps zero is = absurd (let low = is.0 in omega (arith, low))
keeps (suc zero) is = record {
  takes = (
    record { place = refl; may = refl; first = refl; after = refl; puts = refl },
    (
      record { place = refl; may = refl; first = refl; after = refl; puts = refl },
      (
        record { place = refl; may = refl; first = refl; after = refl; puts = refl },
        (record { place = refl; may = refl; first = refl; after = refl; puts = refl }, refl),
      ),
    ),
  );
  put = put-first;
  got = got-first;
}
keeps (suc (suc zero)) is = record {
  takes = (record { place = refl; may = refl; first = refl; after = refl; puts = refl }, refl);
  put = put-second;
  got = got-second;
}
keeps (suc (suc (suc p))) is = absurd (let most = is.1 in omega (arith, most))

shown : (k : ℕ) → k < 2 → Shows (k + 1) known (log (k + 1))
shown zero lt = record { begins = (log 1, refl); own = refl; noted = All-cons (λ (n : Note PlaceNote). by_seat n.seat (log 1) ≡ at_place 1 n.mine) note [] refl (All-nil _) }
shown (suc zero) lt = record { begins = (log 2, refl); own = refl; noted = All-cons (λ (n : Note PlaceNote). by_seat n.seat (log 2) ≡ at_place 2 n.mine) note [] refl (All-nil _) }
shown (suc (suc k)) lt = absurd (omega (arith, lt))

abbrev IsDrawn : Remarked PlaceNote → Type 0
IsDrawn r = r.entry.seat < 2

both-drawn : (r : Noted Seated Command Packet) (d e : Entry) (rest : Log) → d.seat < 2 → e.seat < 2 → All IsDrawn rest → All IsDrawn (remarked r (d ∷ e ∷ []) ++ rest)
both-drawn r d e rest first second h =
    All-cons IsDrawn (record { entry = d; remark = record r { nth = 0 } }) (record { entry = e; remark = record r { nth = 1 } } ∷ rest) first
    (All-cons IsDrawn (record { entry = e; remark = record r { nth = 1 } }) rest second h)

abbrev remark : ℕ → Noted Seated Command Packet
remark n = noted (machine two_sites) 1 (send (n + 1)) (after n).0 (after n).1

drawn : (k : ℕ) → k < 2 → All IsDrawn (log (k + 1))
drawn zero lt =
    both-drawn (remark 0) (posting 0) (trying 0) (sent 1 ++ (sent 2 ++ sent 3)) (omega arith) (omega arith)
    (both-drawn (remark 1) (posting 1) (trying 1) (sent 2 ++ sent 3) (omega arith) (omega arith)
    (both-drawn (remark 2) (posting 2) (trying 2) (sent 3) (omega arith) (omega arith)
    (both-drawn (remark 3) (posting 3) (trying 3) [] (omega arith) (omega arith) (All-nil IsDrawn))))
drawn (suc zero) lt =
    All-cons IsDrawn (record { entry = refusing; remark = noted (machine two_sites) 2 work (started two_sites 2) worker }) [] (omega arith) (All-nil IsDrawn)
drawn (suc (suc k)) lt = absurd (omega (arith, lt))

abbrev numbers_drawn : List ℕ
numbers_drawn = 0 ∷ 1 ∷ []

every : (q : ℕ) → q < 2 → Contains numbers_drawn q
every zero lt = (0, omega arith, refl)
every (suc zero) lt = (1, omega arith, refl)
every (suc (suc q)) lt = absurd (omega (arith, lt))

abbrev IsWithin : Placed PlaceNote → Type 0
IsWithin m = IsPlace 2 m.place

within : (p : ℕ) → IsPlace 2 p → (rs : Log) → All IsWithin (with_place p [] rs)
within p is [] = All-nil IsWithin
within p is (r ∷ rs) = All-cons IsWithin (record { place = p; seen = []; remarked = r }) (with_place p [] rs) is (within p is rs)

first-thread : IsThread (machine two_sites) (is_new two_sites) 2 0 (with_place 1 [] (log 1))
first-thread = record {
  first = sender;
  last = (after 4).1;
  new = refl;
  follows = (refl, (refl, (refl, (refl, refl))));
  within = within 1 (omega arith, omega arith) (log 1);
}

second-thread : IsThread (machine two_sites) (is_new two_sites) 2 1 (with_place 2 [] (log 2))
second-thread = record {
  first = worker;
  last = worked.1;
  new = refl;
  follows = (refl, refl);
  within = within 2 (omega arith, omega arith) (log 2);
}

settled : (a b : ℕ) → pushed a b ≡ popped a b ++ left a b
settled zero b = refl
settled (suc zero) zero = refl
settled (suc zero) (suc zero) = refl
settled (suc zero) (suc (suc zero)) = refl
settled (suc zero) (suc (suc (suc b))) = refl
settled (suc (suc a)) b = refl

from-elsewhere : (a b : ℕ) → (IsPlace 2 a → ⊥) → IsPlace 2 b → popped a b ≡ []
from-elsewhere zero b away is = refl
from-elsewhere (suc zero) b away is = absurd (away (omega arith, omega arith))
from-elsewhere (suc (suc a)) b away is = refl

pub meets : ArePlacesClosed two_sites log known end pushed out popped hand left
meets = record {
  finished = record { shows = shown; seats = drawn; every = every };
  keeps = keeps;
  thread = first-thread;
  threads = All-cons (λ (n : Note PlaceNote). IsThread (machine two_sites) (is_new two_sites) 2 n.seat n.mine) note [] second-thread (All-nil _);
  settled = λ a b _ _. settled a b;
  apart = from-elsewhere;
}

-- what is left for the second place, one packet in hand, one on the link and one in the outbox, and for the first
pub left-forth : hand 1 2 ++ (left 1 2 ++ out 1 2) ≡ try 2 ∷ try 3 ∷ try 4 ∷ []
left-forth = refl

pub left-back : hand 2 1 ++ (left 2 1 ++ out 2 1) ≡ verdict ∷ []
left-back = refl

-- All entries of a pass were made in the actor of its site, and not all in the first one.

abbrev actors : ℕ → Ui
actors q = actor (q + 1)

abbrev MadeIn : Ui → Placed PlaceNote → Type 0
MadeIn a m = m.remarked.remark.before.actor ≡ a

both-in : (a : Ui) (r : Noted Seated Command Packet) (d e : Entry) (rest : List (Placed PlaceNote)) → r.before.actor ≡ a → All (MadeIn a) rest → All (MadeIn a) (with_place 1 [] (remarked r (d ∷ e ∷ [])) ++ rest)
both-in a r d e rest is h =
    All-cons (MadeIn a) (record { place = 1; seen = []; remarked = record { entry = d; remark = record r { nth = 0 } } })
    (record { place = 1; seen = []; remarked = record { entry = e; remark = record r { nth = 1 } } } ∷ rest) is
    (All-cons (MadeIn a) (record { place = 1; seen = []; remarked = record { entry = e; remark = record r { nth = 1 } } }) rest is h)

in-first : AreIn (actor 1) (with_place 1 [] (log 1))
in-first =
    both-in (actor 1) (remark 0) (posting 0) (trying 0) (with_place 1 [] (sent 1 ++ (sent 2 ++ sent 3))) refl
    (both-in (actor 1) (remark 1) (posting 1) (trying 1) (with_place 1 [] (sent 2 ++ sent 3)) refl
    (both-in (actor 1) (remark 2) (posting 2) (trying 2) (with_place 1 [] (sent 3)) refl
    (both-in (actor 1) (remark 3) (posting 3) (trying 3) [] refl (All-nil (MadeIn (actor 1))))))

abbrev refused : Placed PlaceNote
refused = record { place = 2; seen = []; remarked = record { entry = refusing; remark = noted (machine two_sites) 2 work (started two_sites 2) worker } }

pub in-actors : AreActors two_sites actors known
in-actors = record {
  own = in-first;
  noted = All-cons (λ (n : Note PlaceNote). AreIn (actors n.seat) n.mine) note [] (All-cons (MadeIn (actor 2)) refused [] refl (All-nil _)) (All-nil _);
  kinds = λ q lt. refl;
  has = has;
}
  where
    has : (q : ℕ) → q < 2 → has_actor two_sites (actors q) ≡ true
    has zero lt = refl
    has (suc zero) lt = refl
    has (suc (suc q)) lt = absurd (omega (arith, lt))

pub not-all-in-first : AreActors two_sites (λ q. actor 1) known → ⊥
not-all-in-first h =
    (let mine = All-head (λ (n : Note PlaceNote). AreIn (actor 1) n.mine) note [] h.noted in
    let e = ap (λ (a : Ui). a.site) (All-head (MadeIn (actor 1)) refused [] mine) in omega (arith, e))

-- What was seen shows all that was made, or does not.

pub seen-last : HasSeen 2 (record known { seen = [] ∷ log 1 ∷ log 2 ∷ [] })
seen-last zero is = absurd (let low = is.0 in omega (arith, low))
seen-last (suc zero) is = record { begins = ([], refl); own = refl; noted = All-cons (λ (n : Note PlaceNote). by_seat n.seat (log 1) ≡ at_place 1 n.mine) note [] refl (All-nil _) }
seen-last (suc (suc zero)) is = record { begins = ([], refl); own = refl; noted = All-cons (λ (n : Note PlaceNote). by_seat n.seat (log 2) ≡ at_place 2 n.mine) note [] refl (All-nil _) }
seen-last (suc (suc (suc p))) is = absurd (let most = is.1 in omega (arith, most))

pub not-seen : HasSeen 2 known → ⊥
not-seen h = (let own = (h 1 (omega arith, omega arith)).own in absurd (cc))

-- Closings that fail a premise each, whatever the rest is.

-- a place has an entry of the closing pass of which that does not know
pub unknown-entry : (v : Knowledge PlaceNote) (ends : ℕ → PlaceState) (sends waits receives hands rests : Links) → v.seat ≡ 0 → v.mine ≡ [] →
    ArePlacesClosed two_sites log v ends sends waits receives hands rests → ⊥
unknown-entry v ends sends waits receives hands rests seat none h =
    (let own = (h.finished.shows 0 (omega arith)).own in
    let all : by_seat 0 (log 1) ≡ [] = sym (ap (λ q. by_seat q (log 1)) seat) ∙ own ∙ ap (at_place 1) none in absurd (cc))

-- an entry is of a number that was not drawn
pub stranger : (v : Knowledge PlaceNote) (ends : ℕ → PlaceState) (sends waits receives hands rests : Links) → v.made ≡ 1 →
    ArePlacesClosed two_sites log v ends sends waits receives hands rests → ⊥
stranger v ends sends waits receives hands rests one h =
    (let lt = All-head (λ (r : Remarked PlaceNote). r.entry.seat < v.made) (record { entry = refusing; remark = noted (machine two_sites) 2 work (started two_sites 2) worker }) [] (h.finished.seats 1 (omega arith)) in
    omega (arith, lt, one))

-- a number that was drawn is neither that of the closing pass nor in its notes
pub forgotten-pass : (logs : ℕ → Log) (ends : ℕ → PlaceState) (sends waits receives hands rests : Links) →
    ArePlacesClosed two_sites logs (record known { made = 3 }) ends sends waits receives hands rests → ⊥
forgotten-pass logs ends sends waits receives hands rests h = (let c = h.finished.every 2 (omega arith) in not-there c.0 c.1 c.2)
  where
    not-there : (k : ℕ) → k < 2 → slice_index_or numbers_drawn k 2 ≡ 2 → ⊥
    not-there zero lt e = omega (arith, e)
    not-there (suc zero) lt e = omega (arith, e)
    not-there (suc (suc k)) lt e = omega (arith, lt)

-- a place is not as its turns left it
pub not-left : (v : Knowledge PlaceNote) (ends : ℕ → PlaceState) (sends waits receives hands rests : Links) → ends 2 ≡ started two_sites 2 →
    ArePlacesClosed two_sites log v ends sends waits receives hands rests → ⊥
not-left v ends sends waits receives hands rests same h =
    (let e = ap (λ (s : PlaceState). s.journal) ((h.keeps 2 (omega arith, omega arith)).takes.1 ∙ same) in absurd (cc))

-- a packet that was put neither was sent nor waits
pub lost : (v : Knowledge PlaceNote) (ends : ℕ → PlaceState) (sends waits receives hands rests : Links) → sends 2 1 ≡ [] → waits 2 1 ≡ [] →
    ArePlacesClosed two_sites log v ends sends waits receives hands rests → ⊥
lost v ends sends waits receives hands rests none nor h =
    (let e : verdict ∷ [] ≡ [] = (h.keeps 2 (omega arith, omega arith)).put 1 ∙ ap₂ (λ xs ys. xs ++ ys) none nor in absurd (cc))

-- a packet that was received is neither worked off nor in hand
pub hand-forgotten : (v : Knowledge PlaceNote) (ends : ℕ → PlaceState) (sends waits hands rests : Links) → hands 1 2 ≡ [] →
    ArePlacesClosed two_sites log v ends sends waits popped hands rests → ⊥
hand-forgotten v ends sends waits hands rests none h =
    (let e : try 1 ∷ try 2 ∷ [] ≡ try 1 ∷ [] = (h.keeps 2 (omega arith, omega arith)).got 1 ∙ ap (λ ks. got_from 1 (turns_at 2 (log 2)) ++ ks) none in absurd (cc))

-- the closing pass began with a caller that was not new
pub not-new : (v : Knowledge PlaceNote) (ends : ℕ → PlaceState) (sends waits receives hands rests : Links) → v.seat ≡ 0 → v.mine ≡ with_place 1 [] (sent 1) →
    ArePlacesClosed two_sites log v ends sends waits receives hands rests → ⊥
not-new v ends sends waits receives hands rests seat mine h = absurd (false≢true (ap₂ (is_new two_sites) (sym seat) first ∙ h.thread.new))
  where
    first : (after 1).1 ≡ raised (after 1).1.last h.thread.first
    first = (subst (λ ms. Follows (machine two_sites) h.thread.first (turns_in ms) h.thread.last) mine h.thread.follows).0

-- a pass in the notes was at a place that there is not
pub nowhere : (logs : ℕ → Log) (ends : ℕ → PlaceState) (sends waits receives hands rests : Links) →
    ArePlacesClosed two_sites logs (record known { notes = record { seat = 1; mine = with_place 3 [] (sent 0) } ∷ [] }) ends sends waits receives hands rests → ⊥
nowhere logs ends sends waits receives hands rests h =
    (let t = All-head (λ (n : Note PlaceNote). IsThread (machine two_sites) (is_new two_sites) 2 n.seat n.mine) (record { seat = 1; mine = with_place 3 [] (sent 0) }) [] h.threads in
    let is = All-head IsWithin (record { place = 3; seen = []; remarked = record { entry = posting 0; remark = remark 0 } }) (record { place = 3; seen = []; remarked = record { entry = trying 0; remark = record (remark 0) { nth = 1 } } } ∷ []) t.within in
    let most = is.1 in omega (arith, most))

-- what a link held when it was settled is gone
pub not-settled : (logs : ℕ → Log) (v : Knowledge PlaceNote) (ends : ℕ → PlaceState) (waits hands rests : Links) → rests 1 2 ≡ [] →
    ArePlacesClosed two_sites logs v ends pushed waits popped hands rests → ⊥
not-settled logs v ends waits hands rests none h =
    (let e : try 1 ∷ try 2 ∷ try 3 ∷ [] ≡ try 1 ∷ try 2 ∷ [] = h.settled 1 2 (omega arith, omega arith) (omega arith, omega arith) ∙ ap (λ ks. popped 1 2 ++ ks) none in absurd (cc))

-- a packet was received from a place that there is not
pub from-nowhere : (logs : ℕ → Log) (v : Knowledge PlaceNote) (ends : ℕ → PlaceState) (sends waits receives hands rests : Links) → receives 3 2 ≡ try 1 ∷ [] →
    ArePlacesClosed two_sites logs v ends sends waits receives hands rests → ⊥
from-nowhere logs v ends sends waits receives hands rests there h =
    (let e : try 1 ∷ [] ≡ [] = sym there ∙ h.apart 3 2 (λ is. let most = is.1 in omega (arith, most)) (omega arith, omega arith) in absurd (cc))
