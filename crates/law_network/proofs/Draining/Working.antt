-- A turn with a packet makes less work than the packet was.
use Rattle.std.proofs.Common.{not, ◌*◌, ℕ, suc, ◌≡◌, ◌<◌, ◌≤◌, ◌+◌, ◌==◌, nat_lt, Bool, true, false, ◌&&◌, cond, if◌then◌else◌, List, [], ◌∷◌, ◌++◌, length, Option, Some, None, refl, sym, ◌∙◌, ap, arith, length-append}
use Rattle.std.specs.List.{All}
use Rattle.std.proofs.Math.Nat.{suc-mul, add-mul, one-mul, mul-le-mul_right}
use Rattle.std.proofs.lemmas.Bool.{ltb-true, ltb-false, false≢true, eq-eqb}
use Rattle.std.proofs.lemmas.List.Elements.{All-head, All-tail}
use Rattle.chorus_ui.specs.declared.ui.Ui.{Ui}
use Rattle.chorus_ui.specs.declared.layout.Layout.{Layout}
use Rattle.chorus_ui.specs.Name.{same_ui}
use Rattle.chorus_ui.proofs.Names.{same_ui-self}
use Rattle.chorus_entry.specs.declared.id.MsgId.{MsgId}
use Rattle.chorus_entry.specs.declared.dest.Dest.{Dest}
use Rattle.chorus_entry.specs.declared.dest.Dest.TheVariants as dests
use Rattle.chorus_entry.specs.declared.message.Message.{Message}
use Rattle.chorus_entry.specs.declared.act.Act.{Act}
use Rattle.chorus_entry.specs.declared.act.Act.TheVariants as acts
use Rattle.chorus_entry.specs.declared.answer.Answer.{Answer}
use Rattle.chorus_entry.specs.declared.answer.Answer.TheVariants as A
use Rattle.chorus_entry.specs.declared.packet.Packet.{Packet}
use Rattle.chorus_entry.specs.declared.packet.Cargo.{Cargo}
use Rattle.chorus_entry.specs.declared.packet.Cargo.TheVariants as cargos
use Rattle.chorus_entry.specs.declared.record.PortRecord.{PortRecord}
use Rattle.chorus_entry.specs.Dest.{group_in}
use Rattle.chorus_entry.specs.Answer.{is_final}
use Rattle.chorus_world.specs.declared.place.Location.{Location}
use Rattle.chorus_world.specs.Places.{taught, is_deleted}
use Rattle.chorus_hints.specs.Known.{learned, hop_of}
use Rattle.chorus_ports.specs.declared.deciding.Accept.{Accept}
use Rattle.chorus_ports.specs.declared.deciding.Accept.TheVariants as accepts
use Rattle.chorus_ports.specs.Deciding.{answer_to}
use Rattle.chorus_ports.specs.Table.{find}
use Rattle.place_unsettled.specs.declared.wait.Key.{Key}
use Rattle.place_unsettled.specs.Unheard.{heard}
use Rattle.law_machine.specs.Trying.{verdict_here}
use Rattle.place_unsettled.specs.declared.wait.Wait.{Wait}
use Rattle.place_unsettled.specs.Queues.{Queue, changed, passed, with_last, at}
use Rattle.law_machine.specs.PlaceState.{PlaceState, Turn, Change, location, newest, unchanged, say}
use Rattle.law_machine.specs.Deciding.{answer_in, answer_moved, answer_away, answer_of, decide, decision, records_after}
use Rattle.law_machine.specs.Trying.{report, goes_on, goes_unless, go}
use Rattle.law_machine.specs.Choosing.{by_group, choice, copy, with_copies, all_go, finds_no_member, chooses_all, chooses_these}
use Rattle.law_machine.specs.Working.{answers_try, taught_of, told, report_of, hears_verdict, answers_ask, opens}
use Rattle.law_machine.specs.PlaceMachine.{work}
use Rattle.law_machine.proofs.Machine.Queues.{wait_for, at-key}
use Rattle.law_network.proofs.Draining.Weights.{AreApart}
use Rattle.law_network.specs.Rank.{is_among, Bounds, told_rank, try_rank, verdict_rank, cargo_rank, behind, still, waits_rank, sum_rank}
use Rattle.law_network.proofs.Draining.Weights.{whole, turn_rank, loads_rank, idle-off, idle-on, said-rank, report-rank, tries-lower, goes-on-lower, go-lower}

-- A Try.

verdict-lighter : (b : ℕ) (m : Message) (q : Ui) (route : Option Ui) (only : Option ℕ) (h : ℕ) (s : PlaceState) → (newest s q).hop ≤ b → verdict_rank b route (decide m q only h s) + 1 ≤ try_rank b route h
verdict-lighter b m q route only h s most = go (find q s.ports)
  where
    accepted : (o : Accept) → verdict_rank b route (answer_in o) + 1 ≤ try_rank b route h
    accepted (accepts.Accepted pos) = omega arith
    accepted (accepts.Already k) = omega arith
    accepted (accepts.ClientsFull k) = omega arith
    accepted (accepts.Full len k) = omega arith

    last : (c : Bool) → verdict_rank b route (cond c A.NoPort (A.Early h)) + 1 ≤ try_rank b route h
    last true = omega arith
    last false = omega arith

    moved : (l : Location) (o : Option ℕ) (c : Bool) → h < l.hop → l.hop ≤ b → verdict_rank b route (cond c (A.Early l.hop) (answer_moved o l)) + 1 ≤ try_rank b route h
    moved l o true lt le = omega arith
    moved l None false lt le = omega (arith, lt, le)
    moved l (Some site) false lt le = omega arith

    away : (l : Location) (c : Bool) → nat_lt h l.hop ≡ c → l.hop ≤ b → verdict_rank b route (cond c (cond (l.to == s.number) (A.Early l.hop) (answer_moved only l)) (cond (h == 0) A.NoPort (A.Early h))) + 1 ≤ try_rank b route h
    away l true e le = moved l only (l.to == s.number) (ltb-true h l.hop e) le
    away l false e le = last (h == 0)

    deleted : (c : Bool) (a : Answer) → verdict_rank b route a + 1 ≤ try_rank b route h → verdict_rank b route (cond c A.Gone a) + 1 ≤ try_rank b route h
    deleted true a f = omega arith
    deleted false a f = f

    go : (o : Option PortRecord) → verdict_rank b route (answer_of m q only h s o) + 1 ≤ try_rank b route h
    go (Some port) = accepted (answer_to m port)
    go None =
        let l = newest s q in
        deleted (is_deleted q s.journal) (answer_away s.number only h l) (away l (nat_lt h l.hop) refl most)

-- An entry that leaves what waits.
say-lower : (b : Bounds) (ks : List Key) (a : Act) (c : Change) (t : Turn) → c.waiting ≡ t.place.waiting → turn_rank b ks (say a c t) ≡ turn_rank b ks t + loads_rank b c.loads
say-lower b ks a c t same =
    let e = said-rank b ks a c t in
    let w : waits_rank b ks c.waiting ≡ waits_rank b ks t.place.waiting = ap (waits_rank b ks) same in
    omega (arith, e, w)

try-works : (b : Bounds) (ks : List Key) (from : ℕ) (m : Message) (q : Ui) (route : Option Ui) (only : Option ℕ) (h : ℕ) (t : Turn) → (newest t.place q).hop ≤ b.moved q → turn_rank b ks (answers_try from m q route h (decide m q only h t.place) t) + 1 ≤ turn_rank b ks t + cargo_rank b (cargos.Try m q route only h)
try-works b ks from m q route only h t most =
    let a = decide m q only h t.place in
    let c : Change = record (unchanged t) {
      ports = records_after a m q t.place.ports;
      loads = (from, cargos.Verdict m.id q route a) ∷ [];
    } in
    let less = say-lower b ks (decision m.id q h a) c t refl in
    let light = verdict-lighter (b.moved q) m q route only h t.place most in
    omega (arith, less, light)

-- Asking.

-- one more waits for the member
last-idle : (w : Wait) (q : Queue) → still (with_last w q) ≤ still q + 1
last-idle w q = go q.tried q.waits
  where
    go : (o : Option ℕ) (ws : List Wait) → behind o (ws ++ w ∷ []) ≤ behind o ws + 1
    go None ws = (let e = length-append ws (w ∷ []) in omega (arith, e))
    go (Some to) [] = omega arith
    go (Some to) (v ∷ vs) = (let e = length-append vs (w ∷ []) in omega (arith, e))

module _ (b : Bounds) (ks : List Key) (apart : AreApart ks) where
  one-more : (k : Key) (w : Wait) (queues : Key → Queue) → waits_rank b ks (changed k (with_last w) queues) ≤ waits_rank b ks queues + whole b k
  one-more k w queues = go (is_among k ks) refl
    where
      go : (c : Bool) → is_among k ks ≡ c → waits_rank b ks (changed k (with_last w) queues) ≤ waits_rank b ks queues + whole b k
      go true e =
          let all = idle-on b k (with_last w) queues ks apart e in
          let one = mul-le-mul_right (whole b k) (last-idle w (queues k)) in
          let more = add-mul (still (queues k)) 1 (whole b k) in
          let unit = one-mul (whole b k) in
          omega (arith, all, one, more, unit)
      go false e = (let same = idle-off b k (with_last w) queues ks e in omega (arith, same))

  copies-idle : (m : Message) (d : Dest) (g : Ui) (home n : ℕ) (qs : List Ui) (queues : Key → Queue) → waits_rank b ks (with_copies m d g home n qs queues) ≤ waits_rank b ks queues + sum_rank b.moved g qs
  copies-idle m d g home n [] queues = omega arith
  copies-idle m d g home n (q ∷ qs) queues =
      let one = one-more (by_group g q) (copy m d home n) queues in
      let rest = copies-idle m d g home (n + 1) qs (changed (by_group g q) (with_last (copy m d home n)) queues) in
      omega (arith, one, rest)

-- the first of its port and route is under way
pub record IsFront (k : Key) (s : PlaceState) : Type 0 where
  pub from : ℕ
  pub message : Wait
  pub rest : List Wait
  pub is : s.waiting k ≡ record { tried = Some from; waits = message ∷ rest }

-- messages may wait for the member by the group's route
abbrev pub HasMember : List Key → Ui → Ui → Type 0
HasMember ks g q = is_among (by_group g q) ks ≡ true

module _ (b : Bounds) (ks : List Key) (apart : AreApart ks) where
  all-go-lower : (g : Ui) (qs : List Ui) (t : Turn) → All (HasMember ks g) qs → turn_rank b ks (all_go g qs t) ≤ turn_rank b ks t
  all-go-lower g [] t has = omega arith
  all-go-lower g (q ∷ qs) t has =
      let one = go-lower b ks apart (by_group g q) (All-head (HasMember ks g) q qs has) t in
      let rest = all-go-lower g qs (go (by_group g q) t) (All-tail (HasMember ks g) q qs has) in
      omega (arith, one, rest)

  none-works : (m : Message) (g : Ui) (home : ℕ) (t : Turn) → turn_rank b ks (finds_no_member m g home t) ≤ turn_rank b ks t + 1
  none-works m g home t =
      let less = say-lower b ks (acts.NoMember m.id g) (record (unchanged t) { loads = report t.place.number home m.id A.NoMember }) t refl in
      let one = report-rank b t.place.number home m.id A.NoMember in
      omega (arith, less, one)

  all-works : (m : Message) (d : Dest) (g : Ui) (home : ℕ) (qs : List Ui) (t : Turn) → turn_rank b ks (chooses_all m d g home qs t) ≤ turn_rank b ks t + sum_rank b.moved g qs + 1
  all-works m d g home qs t =
      let c : Change = record (unchanged t) {
        waiting = with_copies m d g home 1 qs t.place.waiting;
        loads = report t.place.number home m.id (A.Chosen (length qs));
      } in
      let e = said-rank b ks (acts.Choose m.id g qs) c t in
      let most = copies-idle b ks apart m d g home 1 qs t.place.waiting in
      let one = report-rank b t.place.number home m.id (A.Chosen (length qs)) in
      omega (arith, e, most, one)

  these-work : (m : Message) (d : Dest) (g : Ui) (home : ℕ) (qs : List Ui) (t : Turn) → sum_rank b.moved g qs ≤ b.copies d → All (HasMember ks g) qs → turn_rank b ks (chooses_these m d g home qs t) + 1 ≤ turn_rank b ks t + (b.copies d + 2)
  these-work m d g home [] t le has = (let less = none-works m g home t in omega (arith, less))
  these-work m d g home (q ∷ qs) t le has =
      let less = all-works m d g home (q ∷ qs) t in
      let more = all-go-lower g (q ∷ qs) (chooses_all m d g home (q ∷ qs) t) has in
      omega (arith, less, more, le)

  -- A verdict.

  -- of a direct post, which waits at the place that posted it, none is reported
  report-told : (k : Key) (w : Wait) (p : ℕ) (x : MsgId) (a : Answer) → (k.route ≡ None → w.home ≡ p) → loads_rank b (report p w.home x a) + 1 ≤ told_rank k.route
  report-told k w p x a own = go k.route own
    where
      go : (r : Option Ui) → (r ≡ None → w.home ≡ p) → loads_rank b (report p w.home x a) + 1 ≤ told_rank r
      go (Some g) h = (let one = report-rank b p w.home x a in omega (arith, one))
      go None h = none (is_final a) (w.home == p) (eq-eqb w.home p (h refl))
        where
          none : (c d : Bool) → d ≡ true → loads_rank b (cond (c && not d) ((w.home, cargos.Report x a) ∷ []) []) + 1 ≤ 1
          none true true e = omega arith
          none false true e = omega arith
          none c false e = absurd (false≢true e)

  module _ (x : MsgId) (k : Key) (has : is_among k ks ≡ true) (t : Turn) (front : IsFront k t.place) (own : k.route ≡ None → front.message.home ≡ t.place.number) where
    -- after a final answer the next one goes
    final-works : (a : Answer) → ((q : Queue) → told a q ≡ passed q) → turn_rank b ks (hears_verdict x k a t) + 1 ≤ turn_rank b ks t + told_rank k.route
    final-works a passes =
        let c : Change = record (unchanged t) {
          known = taught_of k.port (taught a) t.place.known;
          waiting = changed k (told a) t.place.waiting;
          loads = report_of t.place.number x a (t.place.waiting k).waits;
        } in
        let e = said-rank b ks (acts.Told x a) c t in
        let all = idle-on b k (told a) t.place.waiting ks apart has in
        let was : still (t.place.waiting k) ≡ length front.rest = ap still front.is in
        let now : still (told a (t.place.waiting k)) ≡ length front.rest = ap (λ q. still (told a q)) front.is ∙ ap still (passes (record { tried = Some front.from; waits = front.message ∷ front.rest })) in
        let same : still (told a (t.place.waiting k)) * whole b k ≡ still (t.place.waiting k) * whole b k = ap (λ m. m * whole b k) (now ∙ sym was) in
        let m : waits_rank b ks (changed k (told a) t.place.waiting) ≡ waits_rank b ks t.place.waiting = omega (arith, all, same) in
        let reported : loads_rank b (report_of t.place.number x a (t.place.waiting k).waits) ≡ loads_rank b (report t.place.number front.message.home x a) = ap (λ (q : Queue). loads_rank b (report_of t.place.number x a q.waits)) front.is in
        let one = report-told k front.message t.place.number x a own in
        let more = go-lower b ks apart k has (say (acts.Told x a) c t) in
        omega (arith, e, m, reported, one, more)

    -- after Stale it is tried again at once, with a later hop
    no-report : (p to hop : ℕ) (ws : List Wait) → report_of p x (A.Stale to hop) ws ≡ []
    no-report p to hop [] = refl
    no-report p to hop (w ∷ ws) = refl

    later-hop : (l : Layout) (q : Ui) (to hop : ℕ) (known : Ui → Option (ℕ × ℕ)) → hop ≤ (location l q (learned q to hop known q)).hop
    later-hop l q to hop known = go (nat_lt (hop_of (known q)) hop) refl
      where
        old : (o : Option (ℕ × ℕ)) → nat_lt (hop_of o) hop ≡ false → hop ≤ (location l q o).hop
        old None e = ltb-false 0 hop e
        old (Some pair) e = ltb-false pair.1 hop e

        self : (c d : Bool) → nat_lt (hop_of (known q)) hop ≡ c → d ≡ true → hop ≤ (location l q (if c && d then Some (to, hop) else known q)).hop
        self true true e f = omega arith
        self false true e f = old (known q) e
        self c false e f = absurd (false≢true f)

        go : (c : Bool) → nat_lt (hop_of (known q)) hop ≡ c → hop ≤ (location l q (learned q to hop known q)).hop
        go c e = self (nat_lt (hop_of (known q)) hop) (same_ui q q) refl (same_ui-self q)

    stale-works : (to hop : ℕ) → turn_rank b ks (hears_verdict x k (A.Stale to hop) t) + 1 ≤ turn_rank b ks t + (1 + try_rank (b.moved k.port) k.route hop)
    stale-works to hop =
        let c : Change = record (unchanged t) {
          known = learned k.port to hop t.place.known;
          waiting = changed k (at None) t.place.waiting;
          loads = report_of t.place.number x (A.Stale to hop) (t.place.waiting k).waits;
        } in
        let u = say (acts.Told x (A.Stale to hop)) c t in
        let e = said-rank b ks (acts.Told x (A.Stale to hop)) c t in
        let all = idle-on b k (at None) t.place.waiting ks apart has in
        let was : still (t.place.waiting k) * whole b k ≡ length front.rest * whole b k = ap (λ q. still q * whole b k) front.is in
        let now : still (at None (t.place.waiting k)) * whole b k ≡ suc (length front.rest) * whole b k = ap (λ q. still (at None q) * whole b k) front.is in
        let one = suc-mul (length front.rest) (whole b k) in
        let m : waits_rank b ks (changed k (at None) t.place.waiting) ≡ whole b k + waits_rank b ks t.place.waiting = omega (arith, all, was, now, one) in
        let none : loads_rank b (report_of t.place.number x (A.Stale to hop) (t.place.waiting k).waits) ≡ 0 = ap (loads_rank b) (no-report t.place.number to hop (t.place.waiting k).waits) in
        let mine : wait_for k (front.message ∷ front.rest) u = at-key k (at None) t.place.waiting ∙ ap (at None) front.is in
        let l = newest u.place k.port in
        let far : hop ≤ l.hop = later-hop t.place.layout k.port to hop t.place.known in
        let w = front.message in
        let less = tries-lower b ks apart k has (try_rank (b.moved k.port) k.route hop) (omega arith) w front.rest (goes_on k front.rest) (goes-on-lower b ks apart k has front.rest) u mine l (verdict_here k w l u.place) (omega (arith, far)) in
        let goes : go k u ≡ goes_on k (w ∷ front.rest) u = ap (λ (q : Queue). goes_unless k q.tried q.waits u) mine in
        let end : turn_rank b ks (go k u) ≡ turn_rank b ks (goes_on k (w ∷ front.rest) u) = ap (turn_rank b ks) goes in
        omega (arith, e, m, none, less, end)

-- A turn.

-- what the place knows is within the bound, and whoever waits waits for a port and route among these
pub record IsWithin (b : Bounds) (ks : List Key) (s : PlaceState) : Type 0 where
  pub hops : (q : Ui) → (newest s q).hop ≤ b.moved q
  pub choices : (d : Dest) (g : Ui) → group_in d ≡ Some g → sum_rank b.moved g (choice d s) ≤ b.copies d
  pub waits : (k : Key) → is_among k ks ≡ false → (s.waiting k).waits ≡ []
  pub members : (d : Dest) (g : Ui) → group_in d ≡ Some g → All (HasMember ks g) (choice d s)

-- the message that a verdict is for is the first of its port and route, and under way; one that was posted directly was posted here
pub record IsTold (k : Key) (s : PlaceState) : Type 0 where
  pub front : IsFront k s
  pub own : k.route ≡ None → front.message.home ≡ s.number

abbrev pub IsToldFor : Cargo → PlaceState → Type 0
IsToldFor (cargos.Verdict x q route a) s = IsTold (record { port = q; route = route }) s
IsToldFor _ s = Unit {0}

module _ (b : Bounds) (ks : List Key) (apart : AreApart ks) (t : Turn) (w : IsWithin b ks t.place) where
  -- who waits waits for one of them
  among : (k : Key) → IsFront k t.place → is_among k ks ≡ true
  among k f = go (is_among k ks) refl
    where
      go : (c : Bool) → is_among k ks ≡ c → c ≡ true
      go true e = refl
      go false e = (let none : f.message ∷ f.rest ≡ [] = ap (λ (q : Queue). q.waits) (sym f.is) ∙ w.waits k e in absurd (cc))

  verdict-works : (x : MsgId) (k : Key) (a : Answer) (f : IsFront k t.place) → (k.route ≡ None → f.message.home ≡ t.place.number) → turn_rank b ks (hears_verdict x k a t) + 1 ≤ turn_rank b ks t + verdict_rank (b.moved k.port) k.route a
  verdict-works x k (A.Stale to hop) f own = stale-works b ks apart x k (among k f) t f own to hop
  verdict-works x k (A.Accepted pos) f own = final-works b ks apart x k (among k f) t f own (A.Accepted pos) (λ q. refl)
  verdict-works x k (A.Full len) f own = final-works b ks apart x k (among k f) t f own (A.Full len) (λ q. refl)
  verdict-works x k (A.Early hop) f own = final-works b ks apart x k (among k f) t f own (A.Early hop) (λ q. refl)
  verdict-works x k A.NoPort f own = final-works b ks apart x k (among k f) t f own A.NoPort (λ q. refl)
  verdict-works x k A.Already f own = final-works b ks apart x k (among k f) t f own A.Already (λ q. refl)
  verdict-works x k A.ClientsFull f own = final-works b ks apart x k (among k f) t f own A.ClientsFull (λ q. refl)
  verdict-works x k (A.Elsewhere to hop) f own = final-works b ks apart x k (among k f) t f own (A.Elsewhere to hop) (λ q. refl)
  verdict-works x k A.Gone f own = final-works b ks apart x k (among k f) t f own A.Gone (λ q. refl)
  verdict-works x k A.NoMember f own = final-works b ks apart x k (among k f) t f own A.NoMember (λ q. refl)
  verdict-works x k (A.Chosen count) f own = final-works b ks apart x k (among k f) t f own (A.Chosen count) (λ q. refl)

  asked-works : (from : ℕ) (m : Message) (d : Dest) → turn_rank b ks (answers_ask from m d t) + 1 ≤ turn_rank b ks t + (b.copies d + 2)
  asked-works from m (dests.Port q) = omega arith
  asked-works from m (dests.All g) = these-work b ks apart m (dests.All g) g from (choice (dests.All g) t.place) t (w.choices (dests.All g) g refl) (w.members (dests.All g) g refl)
  asked-works from m (dests.One g) = these-work b ks apart m (dests.One g) g from (choice (dests.One g) t.place) t (w.choices (dests.One g) g refl) (w.members (dests.One g) g refl)
  asked-works from m (dests.OneAt g n) = these-work b ks apart m (dests.OneAt g n) g from (choice (dests.OneAt g n) t.place) t (w.choices (dests.OneAt g n) g refl) (w.members (dests.OneAt g n) g refl)

  opens-lower : (from : ℕ) (k : Cargo) → IsToldFor k t.place → turn_rank b ks (opens from k t) + 1 ≤ turn_rank b ks t + cargo_rank b k
  opens-lower from (cargos.Try m q route only h) f = try-works b ks from m q route only h t (w.hops q)
  opens-lower from (cargos.Verdict x q route a) f = verdict-works x (record { port = q; route = route }) a f.front f.own
  opens-lower from (cargos.Transfer port) f =
      let c : Change = record (unchanged t) {
        ports = t.place.ports ++ port ∷ [];
        known = learned port.ui t.place.number port.hop t.place.known;
      } in
      let less = say-lower b ks (acts.Arrive port.ui port.hop) c t refl in
      omega (arith, less)
  opens-lower from (cargos.Ask m d) f = asked-works from m d
  opens-lower from (cargos.Report x a) f =
      let c : Change = record (unchanged t) { unheard = heard x t.place.unheard } in
      let less = say-lower b ks (acts.Heard x a) c t refl in
      omega (arith, less)

  -- a turn with a packet lowers the rank
  pub work-lower : (k : Packet) → IsToldFor k.cargo t.place → turn_rank b ks (work k t) + 1 ≤ turn_rank b ks t + cargo_rank b k.cargo
  work-lower k f = opens-lower k.from k.cargo f
