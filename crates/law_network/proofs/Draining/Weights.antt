-- What goes at a place makes no more work than it was.
use Rattle.std.proofs.Common.{◌*◌, ℕ, suc, ◌≡◌, ◌≤◌, ◌+◌, ◌==◌, Bool, true, false, ◌&&◌, not, cond, List, [], ◌∷◌, ◌++◌, map, length, Option, Some, None, refl, sym, ◌∙◌, ap, subst, arith, ◌||◌}
use Rattle.std.proofs.Math.Nat.{suc-mul}
use Rattle.std.proofs.lemmas.Bool.{false≢true, true≢false}
use Rattle.chorus_entry.specs.declared.id.MsgId.{MsgId}
use Rattle.chorus_entry.specs.declared.message.Message.{Message}
use Rattle.chorus_entry.specs.declared.act.Act.{Act}
use Rattle.chorus_entry.specs.declared.act.Act.TheVariants as acts
use Rattle.chorus_entry.specs.declared.answer.Answer.{Answer}
use Rattle.chorus_entry.specs.declared.packet.Cargo.{Cargo}
use Rattle.chorus_entry.specs.declared.packet.Cargo.TheVariants as cargos
use Rattle.chorus_entry.specs.Answer.{is_final}
use Rattle.chorus_world.specs.declared.place.Location.{Location}
use Rattle.place_unsettled.specs.declared.wait.Key.{Key}
use Rattle.place_unsettled.specs.declared.wait.Wait.{Wait}
use Rattle.place_unsettled.specs.Queues.{Queue, same_key, changed, passed, at}
use Rattle.law_machine.specs.declared.outgoing.Outgoing.{Outgoing}
use Rattle.law_machine.specs.PlaceState.{Turn, Change, newest, unchanged, packed, say}
use Rattle.law_machine.specs.Deciding.{decision, records_after}
use Rattle.law_machine.specs.Trying.{report, settles_here, tries_at, verdict_here, tries, goes_on, goes_unless, go}
use Rattle.law_machine.proofs.Machine.Keys.{same_key-is}
use Rattle.law_machine.proofs.Machine.Queues.{wait_for, settled-passes}
use Rattle.law_network.specs.Rank.{is_among, Bounds, wait_rank, cargo_rank, packets_rank, still, waits_rank}

-- Sums.

pub packets-append : (b : Bounds) (os us : List Outgoing) → packets_rank b (os ++ us) ≡ packets_rank b os + packets_rank b us
packets-append b [] us = omega arith
packets-append b (o ∷ os) us = (let e = packets-append b os us in omega (arith, e))

abbrev pub loads_rank : Bounds → List (ℕ × Cargo) → ℕ
loads_rank b [] = 0
loads_rank b (k ∷ ks) = cargo_rank b k.1 + loads_rank b ks

loads-packed : (b : Bounds) (t : Turn) (ks : List (ℕ × Cargo)) → packets_rank b (map (packed t) ks) ≡ loads_rank b ks
loads-packed b t [] = refl
loads-packed b t (k ∷ ks) = ap (λ m. cargo_rank b k.1 + m) (loads-packed b t ks)

-- The queues of the ports and routes, each once.

abbrev pub whole : Bounds → Key → ℕ
whole b k = wait_rank b.moved k

-- the ports and routes, each once
abbrev pub AreApart : List Key → Type 0
AreApart [] = Unit {0}
AreApart (k ∷ ks) = (is_among k ks ≡ false) × AreApart ks

module _ (b : Bounds) where
  pub idle-off : (k : Key) (f : Queue → Queue) (queues : Key → Queue) (ks : List Key) → is_among k ks ≡ false → waits_rank b ks (changed k f queues) ≡ waits_rank b ks queues
  idle-off k f queues [] h = refl
  idle-off k f queues (j ∷ js) h = go (same_key k j) h (idle-off k f queues js)
    where
      go : (c : Bool) → (c || is_among k js) ≡ false → (is_among k js ≡ false → waits_rank b js (changed k f queues) ≡ waits_rank b js queues) → still (cond c (f (queues k)) (queues j)) * whole b j + waits_rank b js (changed k f queues) ≡ still (queues j) * whole b j + waits_rank b js queues
      go true e ih = absurd (true≢false e)
      go false e ih = ap (λ m. still (queues j) * whole b j + m) (ih e)

  pub idle-on : (k : Key) (f : Queue → Queue) (queues : Key → Queue) (ks : List Key) → AreApart ks → is_among k ks ≡ true → waits_rank b ks (changed k f queues) + still (queues k) * whole b k ≡ waits_rank b ks queues + still (f (queues k)) * whole b k
  idle-on k f queues [] apart h = absurd (false≢true h)
  idle-on k f queues (j ∷ js) apart h = go (same_key k j) refl h (idle-on k f queues js apart.1)
    where
      go : (c : Bool) → same_key k j ≡ c → (c || is_among k js) ≡ true → (is_among k js ≡ true → waits_rank b js (changed k f queues) + still (queues k) * whole b k ≡ waits_rank b js queues + still (f (queues k)) * whole b k) → still (cond c (f (queues k)) (queues j)) * whole b j + waits_rank b js (changed k f queues) + still (queues k) * whole b k ≡ still (queues j) * whole b j + waits_rank b js queues + still (f (queues k)) * whole b k
      go true e i ih =
          let same : k ≡ j = same_key-is k j e in
          let off : is_among k js ≡ false = subst (λ z. is_among z js ≡ false) (sym same) apart.0 in
          let rest = idle-off k f queues js off in
          let here : still (queues k) * whole b k ≡ still (queues j) * whole b j = ap (λ z. still (queues z) * whole b z) same in
          let there : still (f (queues k)) * whole b k ≡ still (f (queues k)) * whole b j = ap (λ z. still (f (queues k)) * whole b z) same in
          omega (arith, rest, here, there)
      go false e i ih = (let rest = ih i in omega (arith, rest))

abbrev pub turn_rank : Bounds → List Key → Turn → ℕ
turn_rank b ks t = packets_rank b t.puts + waits_rank b ks t.place.waiting

-- An entry.

pub said-rank : (b : Bounds) (ks : List Key) (a : Act) (c : Change) (t : Turn) → turn_rank b ks (say a c t) ≡ packets_rank b t.puts + loads_rank b c.loads + waits_rank b ks c.waiting
said-rank b ks a c t =
    ap (λ m. m + waits_rank b ks c.waiting) (packets-append b t.puts (map (packed t) c.loads) ∙ ap (λ m. packets_rank b t.puts + m) (loads-packed b t c.loads))

pub report-rank : (b : Bounds) (p home : ℕ) (x : MsgId) (a : Answer) → loads_rank b (report p home x a) ≤ 1
report-rank b p home x a = go (is_final a && not (home == p))
  where
    go : (c : Bool) → loads_rank b (cond c ((home, cargos.Report x a) ∷ []) []) ≤ 1
    go true = omega arith
    go false = omega arith

-- Going.

module _ (b : Bounds) (ks : List Key) (apart : AreApart ks) (k : Key) (has : is_among k ks ≡ true) where
  -- a first message that is not under way passes, or goes
  less-here : (f : Queue → Queue) (w : Wait) (ws : List Wait) (t : Turn) → wait_for k (w ∷ ws) t → still (f (record { tried = None; waits = w ∷ ws })) ≡ length ws
      → waits_rank b ks t.place.waiting ≡ whole b k + waits_rank b ks (changed k f t.place.waiting)
  less-here f w ws t e is =
      let all = idle-on b k f t.place.waiting ks apart has in
      let now : still (t.place.waiting k) * whole b k ≡ suc (length ws) * whole b k = ap (λ z. still z * whole b k) e in
      let next : still (f (t.place.waiting k)) * whole b k ≡ length ws * whole b k = ap (λ z. still (f z) * whole b k) e ∙ ap (λ m. m * whole b k) is in
      let one = suc-mul (length ws) (whole b k) in
      omega (arith, all, now, next, one)

  settle-lower : (w : Wait) (ws : List Wait) (h : ℕ) (a : Answer) (t : Turn) → wait_for k (w ∷ ws) t → turn_rank b ks (settles_here k w h a t) + whole b k ≤ turn_rank b ks t + 1
  settle-lower w ws h a t e =
      let act = decision w.message.id k.port h a in
      let c : Change = record (unchanged t) {
        ports = records_after a w.message k.port t.place.ports;
        waiting = changed k passed t.place.waiting;
        loads = report t.place.number w.home w.message.id a;
      } in
      let now = said-rank b ks act c t in
      let less = less-here passed w ws t e refl in
      let one = report-rank b t.place.number w.home w.message.id a in
      omega (arith, now, less, one)

  try-lower : (w : Wait) (ws : List Wait) (l : Location) (t : Turn) → wait_for k (w ∷ ws) t → turn_rank b ks (tries_at k w l t) + whole b k ≤ turn_rank b ks t + cargo_rank b (cargos.Try w.message k.port k.route w.only l.hop)
  try-lower w ws l t e =
      let act = acts.Try w.message.id k.port l.to l.hop in
      let c : Change = record (unchanged t) {
        waiting = changed k (at (Some l.to)) t.place.waiting;
        loads = (l.to, cargos.Try w.message k.port k.route w.only l.hop) ∷ [];
      } in
      let now = said-rank b ks act c t in
      let less = less-here (at (Some l.to)) w ws t e refl in
      omega (arith, now, less)

  -- what comes of a first message that is not under way: `extra` is what a Try of it weighs at most
  module _ (extra : ℕ) (one_extra : 1 ≤ extra) (w : Wait) (ws : List Wait) (on : Turn → Turn) (next : (u : Turn) → wait_for k ws u → turn_rank b ks (on u) ≤ turn_rank b ks u) (t : Turn) (e : wait_for k (w ∷ ws) t) where
    settled : (h : ℕ) (a : Answer) → turn_rank b ks (on (settles_here k w h a t)) + whole b k ≤ turn_rank b ks t + extra
    settled h a =
        let less = settle-lower w ws h a t e in
        let more = next (settles_here k w h a t) (settled-passes k w ws h a t e) in
        omega (arith, less, more, one_extra)

    pub tries-lower : (l : Location) (o : Option Answer) → cargo_rank b (cargos.Try w.message k.port k.route w.only l.hop) ≤ extra → turn_rank b ks (tries k w l on o t) + whole b k ≤ turn_rank b ks t + extra
    tries-lower l (Some a) most = settled l.hop a
    tries-lower l None most = let less = try-lower w ws l t e in omega (arith, less, most)

  try-weight : (m : Message) (only : Option ℕ) (hop : ℕ) → cargo_rank b (cargos.Try m k.port k.route only hop) ≤ whole b k
  try-weight m only hop = omega arith

  pub goes-on-lower : (ws : List Wait) (t : Turn) → wait_for k ws t → turn_rank b ks (goes_on k ws t) ≤ turn_rank b ks t
  goes-on-lower [] t e = omega arith
  goes-on-lower (w ∷ ws) t e =
      let l = newest t.place k.port in
      let less = tries-lower (whole b k) (omega arith) w ws (goes_on k ws) (goes-on-lower ws) t e l (verdict_here k w l t.place) (try-weight w.message w.only l.hop) in
      omega (arith, less)

  pub go-lower : (t : Turn) → turn_rank b ks (go k t) ≤ turn_rank b ks t
  go-lower t = unless (t.place.waiting k).tried refl
    where
      unless : (o : Option ℕ) → (t.place.waiting k).tried ≡ o → turn_rank b ks (goes_unless k o (t.place.waiting k).waits t) ≤ turn_rank b ks t
      unless None e = goes-on-lower (t.place.waiting k).waits t (ap (λ o. record { tried = o; waits = (t.place.waiting k).waits }) e)
      unless (Some to) e = omega arith
