-- Over a schedule, of one message as many Tries are put as entries say so, and no more Verdicts than Tries: each is put for a Try
-- that was worked off.
use Rattle.std.proofs.Common.{ℕ, ◌≡◌, ◌≤◌, ◌+◌, ◌*◌, Bool, true, false, cond, List, [], ◌∷◌, ◌++◌, length, Option, Some, None, slice_get, refl, sym, ◌∙◌, ap, append_assoc, arith}
use Rattle.std.specs.List.{filter}
use Rattle.chorus_ui.specs.declared.layout.Layout.{Layout}
use Rattle.chorus_entry.specs.declared.entry.Entry.{Entry}
use Rattle.chorus_entry.specs.declared.id.MsgId.{MsgId}
use Rattle.chorus_entry.specs.declared.command.Command.{Command}
use Rattle.chorus_entry.specs.declared.packet.Packet.{Packet}
use Rattle.chorus_entry.specs.declared.packet.Cargo.{Cargo}
use Rattle.chorus_entry.specs.declared.packet.Cargo.TheVariants as cargos
use Rattle.chorus_calls.specs.Callers.{Seated}
use Rattle.law_machine.specs.declared.outgoing.Outgoing.{Outgoing}
use Rattle.law_machine.specs.PlaceState.{Turn, next_entry}
use Rattle.law_machine.specs.Own.{own}
use Rattle.law_machine.specs.PlaceMachine.{begun_by, act, work}
use Rattle.law_network.specs.Packets.{is_link, is_link_before, put, put_all, first_on, rest_on}
use Rattle.law_network.specs.Network.{NetState, Event, Enter, Act, Deliver, See, place, turn_for, commanded, works_off, delivered, shown, happened, schedule, one_if}
use Rattle.law_network.specs.History.{newer, taken_with, taken_on, taken_at, put_in, said_by, put_by, history, all_put}
use Rattle.law_network.specs.Promises.{carries_over}
use Rattle.law_network.proofs.Events.Said.{said, said_with, said_on, said_at, act-goes, work-goes, newer-is}
use Rattle.law_network.proofs.Promises.Puts.{is_try_of, is_verdict_of, count, count-append, tries_of, act-counts, work-counts}

-- Lists of packets.

count-put : (test : Cargo → Bool) (o : Outgoing) (us : List Outgoing) → count test (put o us) ≡ one_if (test o.packet.cargo) + count test us
count-put test o [] = refl
count-put test o (u ∷ us) = go (is_link_before o u) (count-put test o us)
  where
    go : (c : Bool) → count test (put o us) ≡ one_if (test o.packet.cargo) + count test us → count test (cond c (o ∷ u ∷ us) (u ∷ put o us)) ≡ one_if (test o.packet.cargo) + (one_if (test u.packet.cargo) + count test us)
    go true e = refl
    go false e = omega (arith, e)

count-put-all : (test : Cargo → Bool) (os us : List Outgoing) → count test (put_all os us) ≡ count test os + count test us
count-put-all test [] us = omega arith
count-put-all test (o ∷ os) us =
    (let one = count-put test o us in let rest = count-put-all test os (put o us) in omega (arith, one, rest))

count-rest : (test : Cargo → Bool) (a b : ℕ) (us : List Outgoing) (k : Packet) → first_on a b us ≡ Some k → count test us ≡ one_if (test k.cargo) + count test (rest_on a b us)
count-rest test a b [] k h = absurd (cc)
count-rest test a b (u ∷ us) k h = go (is_link a b u) h (count-rest test a b us k)
  where
    go : (c : Bool) → cond c (Some u.packet) (first_on a b us) ≡ Some k → (first_on a b us ≡ Some k → count test us ≡ one_if (test k.cargo) + count test (rest_on a b us)) → one_if (test u.packet.cargo) + count test us ≡ one_if (test k.cargo) + count test (cond c us (u ∷ rest_on a b us))
    go true e ih = (let same : u.packet ≡ k = cc in ap (λ (z : Packet). one_if (test z.cargo) + count test us) same)
    go false e ih = (let rest = ih e in omega (arith, rest))

pub tries-append : (x : MsgId) (es fs : List Entry) → tries_of x (es ++ fs) ≡ tries_of x es + tries_of x fs
tries-append x [] fs = omega arith
tries-append x (e ∷ es) fs = (let r = tries-append x es fs in omega (arith, r))

-- a packet that carries it over tries it or tells its verdict
one-of : (x : MsgId) (k : Cargo) → one_if (carries_over x k) ≡ one_if (is_try_of x k) + one_if (is_verdict_of x k)
one-of x (cargos.Try m q route only hop) = omega arith
one-of x (cargos.Verdict y q route a) = omega arith
one-of x (cargos.Transfer port) = refl
one-of x (cargos.Ask m d) = refl
one-of x (cargos.Report y a) = refl

pub carried-count : (x : MsgId) (os : List Outgoing) → length (filter (λ (o : Outgoing). carries_over x o.packet.cargo) os) ≡ count (is_try_of x) os + count (is_verdict_of x) os
carried-count x [] = refl
carried-count x (o ∷ os) = (let one = one-of x o.packet.cargo in let all = go (carries_over x o.packet.cargo) (carried-count x os) in omega (arith, one, all))
  where
    go : (b : Bool) → length (filter (λ (u : Outgoing). carries_over x u.packet.cargo) os) ≡ count (is_try_of x) os + count (is_verdict_of x) os → length (cond b (o ∷ filter (λ (u : Outgoing). carries_over x u.packet.cargo) os) (filter (λ (u : Outgoing). carries_over x u.packet.cargo) os)) ≡ one_if b + (count (is_try_of x) os + count (is_verdict_of x) os)
    go true e = (let n = e in omega (arith, n))
    go false e = (let n = e in omega (arith, n))

-- Events.

module _ (x : MsgId) where
  -- a turn that says these new entries
  said-tries : (t u : Turn) (new : List Entry) (n : ℕ) → u.place.journal ≡ new ++ t.place.journal → n + tries_of x t.place.journal ≡ tries_of x u.place.journal → n ≡ tries_of x (said t u)
  said-tries t u new n grows e =
      let is : said t u ≡ new = ap (newer t.place.journal) grows ∙ newer-is new t.place.journal in
      let all : tries_of x u.place.journal ≡ tries_of x new + tries_of x t.place.journal = ap (tries_of x) grows ∙ tries-append x new t.place.journal in
      let some : tries_of x (said t u) ≡ tries_of x new = ap (tries_of x) is in
      omega (arith, e, all, some)

  -- what an event puts, says and leaves
  pub record Balance (puts : List Outgoing) (says : List Entry) (before after : List Outgoing) : Type 0 where
    pub tried : count (is_try_of x) puts ≡ tries_of x says
    pub decided : count (is_verdict_of x) puts + count (is_try_of x) after ≡ count (is_try_of x) puts + count (is_try_of x) before

  nothing : (us : List Outgoing) → Balance [] [] us us
  nothing us = record { tried = refl; decided = refl }

  given-balance : (k : ℕ) (c : Command) (o : Option Seated) (n : NetState) → Balance (put_in (taken_with c o n)) (said_with c o n) n.packets (commanded k c o n).packets
  given-balance k c None n = nothing n.packets
  given-balance k c (Some caller) n =
      let t = turn_for c caller n in
      let u = act c t in
      let h = act-counts x c t refl in
      let g = act-goes c t in
      let all = count-put-all (is_try_of x) u.puts n.packets in
      let none = h.decided in
      record {
        tried = said-tries t u (g.newer ++ next_entry (own c t) t ∷ []) (count (is_try_of x) u.puts) (g.journal ∙ sym (append_assoc g.newer (next_entry (own c t) t ∷ []) t.place.journal)) h.tried;
        decided = omega (arith, all, none);
      }

  worked-balance : (k a b : ℕ) (caller : Seated) (o : Option Packet) (n : NetState) → first_on a b n.packets ≡ o → Balance (put_in (taken_on b caller o n)) (said_on b caller o n) n.packets (works_off k a b caller o n).packets
  worked-balance k a b caller None n e = nothing n.packets
  worked-balance k a b caller (Some q) n e =
      let t = begun_by (place b n) caller q in
      let u = work q t in
      let h = work-counts x q t refl in
      let g = work-goes q t in
      let all = count-put-all (is_try_of x) u.puts (rest_on a b n.packets) in
      let rest = count-rest (is_try_of x) a b n.packets q e in
      let one = h.decided in
      record {
        tried = said-tries t u g.newer (count (is_try_of x) u.puts) g.journal h.tried;
        decided = omega (arith, all, rest, one);
      }

  delivered-balance : (k a b : ℕ) (o : Option Seated) (n : NetState) → Balance (put_in (taken_at a b o n)) (said_at a b o n) n.packets (delivered k a b o n).packets
  delivered-balance k a b None n = nothing n.packets
  delivered-balance k a b (Some caller) n = worked-balance k a b caller (first_on a b n.packets) n refl

  shown-balance : (k c : ℕ) (o : Option Seated) (n : NetState) → Balance [] [] n.packets (shown k c o n).packets
  shown-balance k c None n = nothing n.packets
  shown-balance k c (Some caller) n = nothing n.packets

  event-balance : (e : Event) (n : NetState) → Balance (put_by e n) (said_by e n) n.packets (happened e n).packets
  event-balance (Enter actor last) n = nothing n.packets
  event-balance (Act k c) n = given-balance k c (slice_get n.callers k) n
  event-balance (Deliver k a b) n = delivered-balance k a b (slice_get n.callers k) n
  event-balance (See k c) n = shown-balance k c (slice_get n.callers k) n

  pub all-tries : (l : Layout) (es : List Event) → count (is_try_of x) (all_put l es) ≡ tries_of x (history l es)
  all-tries l [] = refl
  all-tries l (e ∷ es) =
      let ih = all-tries l es in
      let now = (event-balance e (schedule l es)).tried in
      let puts = count-append (is_try_of x) (all_put l es) (put_by e (schedule l es)) in
      let says = tries-append x (said_by e (schedule l es)) (history l es) in
      omega (arith, ih, now, puts, says)

  all-verdicts : (l : Layout) (es : List Event) → count (is_verdict_of x) (all_put l es) + count (is_try_of x) (schedule l es).packets ≡ count (is_try_of x) (all_put l es)
  all-verdicts l [] = refl
  all-verdicts l (e ∷ es) =
      let ih = all-verdicts l es in
      let now = (event-balance e (schedule l es)).decided in
      let puts = count-append (is_try_of x) (all_put l es) (put_by e (schedule l es)) in
      let verdicts = count-append (is_verdict_of x) (all_put l es) (put_by e (schedule l es)) in
      omega (arith, ih, now, puts, verdicts)

  -- at most two for each Try
  pub all-carried : (l : Layout) (es : List Event) → length (filter (λ (o : Outgoing). carries_over x o.packet.cargo) (all_put l es)) ≤ 2 * tries_of x (history l es)
  all-carried l es =
      let both = carried-count x (all_put l es) in
      let tries = all-tries l es in
      let verdicts = all-verdicts l es in
      omega (arith, both, tries, verdicts)
