-- What a job does in one turn: a command, or a packet that is worked off, or nothing.
-- d is the desk before, e the desk after, w and x the caller before and after.
use Rattle.std.proofs.Common.{ℕ, ◌≡◌, ◌==◌, ◌<◌, ◌≤◌, ◌-◌, ◌^◌, Bool, true, false, nat_lt, ◌&&◌, ◌||◌, not, List, [], ◌++◌, reverse, is_some, Option, Some, None, option_to_list, Result, Ok, Err, IfOk, OnErr, IsErrOf, ◌↔◌, refl, sym, ◌∙◌, ap, subst, inl, inr, arith}
use Rattle.std.proofs.lemmas.Bool.{cases_lt, and_parts, and_from, eq-eqb, false≢true, lt-ltb}
use Rattle.std.proofs.lemmas.List.{append-nil}
use Rattle.chorus_ui.specs.Layout.{has_place}
use Rattle.chorus_entry.specs.declared.command.Command.{Command}
use Rattle.chorus_entry.specs.declared.dest.Dest.TheVariants as dests
use Rattle.chorus_entry.specs.declared.packet.Packet.{Packet}
use Rattle.chorus_entry.specs.declared.packet.Cargo.{Cargo}
use Rattle.chorus_entry.specs.declared.packet.Cargo.TheVariants as cargos
use Rattle.chorus_entry.specs.Command.{meets_conditions, has_body_in_limit, is_post}
use Rattle.chorus_entry.specs.Places.{place_for}
use Rattle.chorus_entry.specs.Ranges.{has_ranges}
use Rattle.chorus_world.specs.Places.{last_clock}
use Rattle.chorus_calls.specs.Callers.{Seated, raised}
use Rattle.law_network.specs.Schedules.{has_number_left, may_give}
use Rattle.law_machine.specs.PlaceState.{PlaceState, greatest_clock}
use Rattle.law_machine.specs.PlaceMachine.{begun, act}
use Rattle.law_machine.specs.Lawful.{is_lawful, is_lawful_cargo}
use Rattle.chorus_place.specs.Calls.{Place, state}
use Rattle.chorus_ends.specs.Links.{Links}
use Rattle.chorus_serve.specs.declared.hand.Held.{Held}
use Rattle.chorus_serve.specs.Desks.{DeskState, in_hand}
use Rattle.chorus_serve.specs.Working.{Performs}
use Rattle.chorus_serve.specs.Serving.{Rests, WorksOff, KeepsInHand, IsIdle, Answers}
use Rattle.law_machine.specs.declared.reply.Reply.{Reply}
use Rattle.chorus_serve.specs.declared.served.Pump.{Pump}
use Rattle.chorus_serve.specs.declared.served.Pump.TheVariants as pumps
use Rattle.chorus_place.specs.declared.fault.PlaceFault.{PlaceFault}
use Rattle.chorus_place.specs.declared.fault.PlaceFault.TheVariants as faults
use Rattle.chorus_ui.specs.declared.limits.TheConstants.{CLOCK_LIMIT}
use Rattle.chorus_turn.specs.Journals.{GrowsBy}
use Rattle.chorus_entry.specs.declared.entry.Entry.{Entry}
use Rattle.std.specs.declared.snapshot.Snapshot.{Snapshot}
use Rattle.std.proofs.lemmas.List.Elements.{All-nil}
use Rattle.chorus_turn.specs.declared.knowledge.Remarked.{Remarked}
use Rattle.law_history.specs.declared.turns.Input.{Input}
use Rattle.law_history.specs.PlaceTurns.{turn, may_take, brings_entry, is_other}
use Rattle.law_closing.specs.Places.{PlaceNote}
use Rattle.chorus_board.specs.declared.name.BoardName.{BoardName}
use Rattle.chorus_nucleus.specs.SiteTurns.Sites.{mark, entries, IsJournalOf}
use Rattle.chorus_nucleus.specs.SiteTurns.Turning.{IsNews, MayWork, NotesFrom, NotesAct}
use Rattle.chorus_nucleus.specs.SiteTurns.Jobs.{MayAct, HasSeen, Acted, seen_unless, worked_from, HasWorked}
use Rattle.chorus_nucleus.proofs.SiteTurns.Turning.{Flows, turned, moved, grown, layout-stays, number-stays}

-- the machine may take the command
left : (w : Seated) (c : Command) → (is_post c ≡ true → w.posts < 2 ^ 32 - 1) → has_number_left w c ≡ true
left w c h = by (is_post c) refl
  where
    by : (b : Bool) → is_post c ≡ b → not b || nat_lt w.posts (2 ^ 32 - 1) ≡ true
    by true e = lt-ltb w.posts (2 ^ 32 - 1) (h e)
    by false e = refl

pub may-act : (d : DeskState) (b : BoardName) (w : Seated) (c : Command) → MayAct w c (mark d b) → may_take d.place.layout d.place.number (Input.Command c) (state d.place) w ≡ true
may-act d b w c m =
    and_from (has_place d.place.layout d.place.number) ((place_for d.place.layout w.actor c == d.place.number) && may_give (Some w) c) m.place
    (and_from (place_for d.place.layout w.actor c == d.place.number) (may_give (Some w) c) (eq-eqb (place_for d.place.layout w.actor c) d.place.number m.here)
    (and_from (meets_conditions c && has_body_in_limit c) (has_number_left w c) (and_from (meets_conditions c) (has_body_in_limit c) m.conditions m.body) (left w c m.posts)))

-- what a command moves
pub flows-act : (d e : DeskState) (w x : Seated) (c : Command) (r : Reply) → Performs c r d e w x
    → e.links ≡ d.links → e.hand ≡ d.hand → e.worked ≡ d.worked → Flows (Some (Input.Command c)) (act c (begun (state d.place) w)).puts d e
flows-act d e w x c r done links hand worked = record {
  puts = done.called.ended.puts;
  worked = worked;
  out = done.out;
  popped = None;
  received = λ a. ap (λ (k : Links). k.received a) links ∙ sym (append-nil (d.links.received a));
  hand = ap option_to_list hand ∙ sym (append-nil (option_to_list d.hand));
}

-- a command that was performed
pub acted : (d e : DeskState) (b : BoardName) (w x : Seated) (c : Command) (r : Reply) → MayAct w c (mark d b) → Performs c r d e w x
    → e.links ≡ d.links → e.hand ≡ d.hand → e.worked ≡ d.worked
    → (log : List (Remarked PlaceNote)) → IsJournalOf d log
    → (news : List (Remarked PlaceNote)) × IsJournalOf e (log ++ news) × IsNews (Input.Command c) (state d.place) w x news
acted d e b w x c r m done links hand worked =
    turned (Input.Command c) d e w x (may-act d b w c m) done.called.ended.state done.called.ended.caller_is (flows-act d e w x c r done links hand worked)

-- a turn without an entry
pub rested : (d e : DeskState) → state e.place ≡ state d.place → Flows None [] d e → (log : List (Remarked PlaceNote)) → IsJournalOf d log
    → (news : List (Remarked PlaceNote)) × IsJournalOf e (log ++ news) × (news ≡ [])
rested d e same f log h = ([], moved d e same f log h, refl)

pub flows-rests : (d e : DeskState) (w x : Seated) → Rests d e w x → Flows None [] d e
flows-rests d e w x r =
    record { out = r.moved.out; popped = r.moved.popped; received = r.moved.received; hand = r.moved.hand; puts = r.moved.counted.puts; worked = r.worked }

-- a lawful packet brings an entry
brings : (n a : ℕ) (k : Cargo) (s : PlaceState) → is_lawful_cargo n a k s ≡ true → brings_entry k ≡ true
brings n a (cargos.Ask m (dests.Port q)) s h = absurd (false≢true h)
brings n a (cargos.Ask m (dests.All g)) s h = refl
brings n a (cargos.Ask m (dests.One g)) s h = refl
brings n a (cargos.Ask m (dests.OneAt g t)) s h = refl
brings n a (cargos.Try m q r o t) s h = refl
brings n a (cargos.Verdict y q r z) s h = refl
brings n a (cargos.Transfer r) s h = refl
brings n a (cargos.Report y z) s h = refl

pub may-work : (d : DeskState) (w : Seated) (a : ℕ) (k : Packet) → has_place d.place.layout d.place.number ≡ true → is_lawful a k (state d.place) ≡ true
    → may_take d.place.layout d.place.number (Input.Packet a k) (state d.place) w ≡ true
may-work d w a k place lawful =
    let l = d.place.layout in
    let p = d.place.number in
    let five = and_parts ((k.from == a) && not (a == p) && has_place l a && has_ranges k) (is_lawful_cargo k.clock a k.cargo (state d.place)) lawful in
    let four = and_parts ((k.from == a) && not (a == p) && has_place l a) (has_ranges k) five.0 in
    let three = and_parts ((k.from == a) && not (a == p)) (has_place l a) four.0 in
    let two = and_parts (k.from == a) (not (a == p)) three.0 in
    and_from (has_place l p) (is_other l p a && brings_entry k.cargo) place
    (and_from (is_other l p a) (brings_entry k.cargo) (and_from (has_place l a) (not (a == p)) three.1 two.1) (brings k.clock a k.cargo (state d.place) five.1))

-- a packet that was worked off
pub worked : (d e : DeskState) (w x : Seated) (a : ℕ) (k : Packet) → has_place d.place.layout d.place.number ≡ true → WorksOff a k d e w x
    → (log : List (Remarked PlaceNote)) → IsJournalOf d log
    → (news : List (Remarked PlaceNote)) × IsJournalOf e (log ++ news) × IsNews (Input.Packet a k) (state d.place) w x news
worked d e w x a k place h =
    turned (Input.Packet a k) d e w x (may-work d w a k place h.lawful) h.state h.caller
    (record { out = h.moved.out; popped = h.moved.popped; received = h.moved.received; hand = h.moved.hand; puts = h.moved.counted.puts; worked = h.worked })

-- the same layout, number and ends
pub same-mark : (d e : DeskState) (z : BoardName) → e.place.layout ≡ d.place.layout → e.place.number ≡ d.place.number → e.links.name ≡ d.links.name → mark e z ≡ mark d z
same-mark d e z a b c = λ j. record { layout = a j; number = b j; ends = c j; board = z }

-- what a turn leaves of them
pub turned-mark : (i : Input Command Packet) (d e : DeskState) (z : BoardName) (w : Seated) → state e.place ≡ (turn i (state d.place) w).place → e.links.name ≡ d.links.name → mark e z ≡ mark d z
turned-mark i d e z w now name =
    same-mark d e z (ap (λ (z : PlaceState). z.layout) now ∙ layout-stays i (state d.place) w) (ap (λ (z : PlaceState). z.number) now ∙ number-stays i (state d.place) w) name

-- nothing appended
pub grows-none : (seat : ℕ) (d e : DeskState) → state e.place ≡ state d.place → GrowsBy seat (entries d) (entries e)
grows-none seat d e same =
    ([], ap (λ (z : PlaceState). reverse z.journal) same ∙ sym (append-nil (entries d)), All-nil (λ (f : Entry). f.seat ≡ seat))

pub rested-mark : (d e : DeskState) (z : BoardName) → state e.place ≡ state d.place → e.links.name ≡ d.links.name → mark e z ≡ mark d z
rested-mark d e z same name = same-mark d e z (ap (λ (z : PlaceState). z.layout) same) (ap (λ (z : PlaceState). z.number) same) name

-- The answers of `serve`, by cases.

pub served-marks : (r : Result Pump PlaceFault) (d e : DeskState) (z : BoardName) (w x : Seated) → IfOk r (λ p. Answers p d e w x) → OnErr r (Rests d e w x) → mark e z ≡ mark d z
served-marks (Ok (pumps.Served from)) d e z w x (k, inl h) err = turned-mark (Input.Packet from k) d e z w h.state h.moved.counts.name
served-marks (Ok (pumps.Served from)) d e z w x (k, inr h) err = rested-mark d e z h.rests.state h.rests.moved.counts.name
served-marks (Ok (pumps.Idle put worked)) d e z w x ok err = rested-mark d e z ok.0.rests.state ok.0.rests.moved.counts.name
served-marks (Err f) d e z w x ok err = rested-mark d e z err.state err.moved.counts.name

pub served-grows : (r : Result Pump PlaceFault) (d e : DeskState) (w x : Seated) → has_place d.place.layout d.place.number ≡ true
    → IfOk r (λ p. Answers p d e w x) → OnErr r (Rests d e w x) → GrowsBy w.seat (entries d) (entries e)
served-grows (Ok (pumps.Served from)) d e w x place (k, inl h) err = grown (Input.Packet from k) d e w w (may-work d w from k place h.lawful) h.state
served-grows (Ok (pumps.Served from)) d e w x place (k, inr h) err = grows-none w.seat d e h.rests.state
served-grows (Ok (pumps.Idle put worked)) d e w x place ok err = grows-none w.seat d e ok.0.rests.state
served-grows (Err f) d e w x place ok err = grows-none w.seat d e err.state

pub served-goes : (z : Place) (r : Result Pump PlaceFault) (d e : DeskState) (w x y : Seated) (clock : ℕ) (hold : Bool) → y ≡ seen_unless (worked_from r hold) clock x → hold ≡ is_some e.hand → z ≡ d.place → has_place d.place.layout d.place.number ≡ true
    → IfOk r (λ p. Answers p d e w x) → OnErr r (Rests d e w x) → (log : List (Remarked PlaceNote)) → IsJournalOf d log
    → (news : List (Remarked PlaceNote)) × IsJournalOf e (log ++ news) × NotesFrom (worked_from r hold) z w y news
served-goes z (Ok (pumps.Served from)) d e w x y clock hold shown holds same place (k, inl h) err log j =
    (let none : hold ≡ false = holds ∙ ap is_some h.hand in
    let got = worked d e w x from k place h log j in (
      got.0,
      got.1,
      subst (λ b. NotesFrom (worked_from (Ok (pumps.Served from)) b) z w y got.0) (sym none) (
        k,
        subst (λ (q : Place). MayWork from k (state q) w) (sym same) (h.lawful, h.unworn),
        subst (λ (q : Place). IsNews (Input.Packet from k) (state q) w y got.0) (sym same)
            (subst (λ u. IsNews (Input.Packet from k) (state d.place) w u got.0) (sym (shown ∙ ap (λ b. seen_unless (worked_from (Ok (pumps.Served from)) b) clock x) none)) got.2),
      ),
    ))
served-goes z (Ok (pumps.Served from)) d e w x y clock hold shown holds same place (k, inr h) err log j =
    (let some : hold ≡ true = holds ∙ ap is_some h.hand in
    let got = rested d e h.rests.state (flows-rests d e w x h.rests) log j in
    (got.0, got.1, subst (λ b. NotesFrom (worked_from (Ok (pumps.Served from)) b) z w y got.0) (sym some) got.2))
served-goes z (Ok (pumps.Idle put done)) d e w x y clock hold shown holds same place ok err log j = rested d e ok.0.rests.state (flows-rests d e w x ok.0.rests) log j
served-goes z (Err f) d e w x y clock hold shown holds same place ok err log j = rested d e err.state (flows-rests d e w x err) log j

-- and what was done: y is the caller that was shown the place
was-shown : (d e : DeskState) (w x y : Seated) (clock : ℕ) → Rests d e w x → clock ≡ last_clock e.place.journal → y ≡ raised clock x → HasSeen d w y
was-shown d e w x y clock h at shown =
    shown ∙ ap (λ c. raised c x) (at ∙ ap (λ (z : PlaceState). last_clock z.journal) h.state) ∙ ap (raised (last_clock d.place.journal)) h.caller

pub served-has : (r : Result Pump PlaceFault) (d e : DeskState) (w x y : Seated) (clock : ℕ) (hold : Bool) → clock ≡ last_clock e.place.journal → y ≡ seen_unless (worked_from r hold) clock x → hold ≡ is_some e.hand
    → IfOk r (λ p. Answers p d e w x) → OnErr r (Rests d e w x) → HasWorked (worked_from r hold) r w y d e
served-has (Ok (pumps.Served from)) d e w x y clock hold at shown holds (k, inl h) err =
    (let none : hold ≡ false = holds ∙ ap is_some h.hand in
    let same : y ≡ x = shown ∙ ap (λ b. seen_unless (worked_from (Ok (pumps.Served from)) b) clock x) none in
    subst (λ b. HasWorked (worked_from (Ok (pumps.Served from)) b) (Ok (pumps.Served from)) w y d e) (sym none) (refl, k, subst (λ u. WorksOff from k d e w u) (sym same) h))
served-has (Ok (pumps.Served from)) d e w x y clock hold at shown holds (k, inr h) err =
    (let some : hold ≡ true = holds ∙ ap is_some h.hand in
    let seen = was-shown d e w x y clock h.rests at (shown ∙ ap (λ b. seen_unless (worked_from (Ok (pumps.Served from)) b) clock x) some) in
    subst (λ b. HasWorked (worked_from (Ok (pumps.Served from)) b) (Ok (pumps.Served from)) w y d e) (sym some) (seen, k, subst (λ u. KeepsInHand from k d e w u) h.rests.caller h))
served-has (Ok (pumps.Idle put done)) d e w x y clock hold at shown holds ok err =
    (let a = ok.0.rests.moved.counted.puts in let b = ok.1 in let n = ok.0.rests.worked in let m = ok.2 in
    (was-shown d e w x y clock ok.0.rests at shown, subst (λ u. IsIdle d e w u) ok.0.rests.caller ok.0, omega (arith, a, b), omega (arith, n, m)))
served-has (Err f) d e w x y clock hold at shown holds ok err = (was-shown d e w x y clock err at shown, subst (λ u. Rests d e w u) err.caller err)

-- something is in hand, as it is seen
pub holding : {P : Type 0} (packet : P → Packet) (h : Option (Held P)) → is_some h ≡ is_some (in_hand packet h)
holding packet None = refl
holding packet (Some h) = refl

-- what the job notes, with the place that it kept
pub noted-act : (c : Command) (z : Snapshot Place) (d e : DeskState) (w x : Seated) → z.value ≡ d.place → (log : List (Remarked PlaceNote))
    → (news : List (Remarked PlaceNote)) × IsJournalOf e (log ++ news) × IsNews (Input.Command c) (state d.place) w x news
    → (news : List (Remarked PlaceNote)) × IsJournalOf e (log ++ news) × NotesAct c (Some z) w x news
noted-act c z d e w x same log h =
    (h.0, h.1, subst (λ (q : Place). IsNews (Input.Command c) (state q) w x h.0) (sym same) h.2)

-- What the job for a command did, by the answer of the place.

pub unworn : (r : Result Reply PlaceFault) (g : ℕ) (x : Reply) → r ≡ Ok x → ((clock : ℕ) → IsErrOf r (faults.Worn clock) ↔ ((CLOCK_LIMIT ≤ g) × (clock ≡ g))) → g < CLOCK_LIMIT
unworn r g x ok h = elim (cases_lt g CLOCK_LIMIT) [
  | inl lt ↦ lt
  | inr le ↦ absurd (let worn : Ok x ≡ Err (faults.Worn g) = sym ok ∙ (h g).1 (le, refl) in cc)
]

pub acted-err : (c : Command) (f : PlaceFault) (r : Result Reply PlaceFault) (w x : Seated) (d : DeskState) → r ≡ Err f → HasSeen d w x
    → ((clock : ℕ) → IsErrOf r (faults.Worn clock) ↔ ((CLOCK_LIMIT ≤ greatest_clock (begun (state d.place) w)) × (clock ≡ greatest_clock (begun (state d.place) w)))) → Acted c None (Err f) w x d
acted-err c (faults.Memory none) r w x d e seen h = (
  seen,
  elim (cases_lt (greatest_clock (begun (state d.place) w)) CLOCK_LIMIT) [
    | inl lt ↦ lt
    | inr le ↦ absurd (let worn : Err (faults.Memory none) ≡ Err (faults.Worn (greatest_clock (begun (state d.place) w))) = sym e ∙ (h (greatest_clock (begun (state d.place) w))).1 (le, refl) in cc)
  ],
)
acted-err c (faults.Worn clock) r w x d e seen h = (let two = (h clock).0 e in (seen, subst (λ n. CLOCK_LIMIT ≤ n) (sym two.1) two.0, two.1))
