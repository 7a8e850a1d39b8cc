-- What a turn puts of one message: a Try with each entry that says so, and a Verdict only for a Try that it works off.
use Rattle.std.proofs.Common.{ℕ, ◌≡◌, ◌+◌, ◌==◌, Bool, true, false, ◌&&◌, not, cond, List, [], ◌∷◌, ◌++◌, map, Option, Some, None, refl, sym, ◌∙◌, ap, arith}
use Rattle.std.proofs.lemmas.Bool.{false≢true}
use Rattle.chorus_ui.specs.declared.ui.Ui.{Ui}
use Rattle.chorus_entry.specs.declared.entry.Entry.{Entry}
use Rattle.chorus_entry.specs.declared.id.MsgId.{MsgId}
use Rattle.chorus_entry.specs.declared.dest.Dest.TheVariants as dests
use Rattle.chorus_entry.specs.declared.command.Command.{Command}
use Rattle.chorus_entry.specs.declared.act.Act.{Act}
use Rattle.chorus_entry.specs.declared.act.Act.TheVariants as acts
use Rattle.chorus_entry.specs.declared.answer.Answer.{Answer}
use Rattle.chorus_entry.specs.declared.answer.Answer.TheVariants as answers
use Rattle.chorus_entry.specs.declared.packet.Packet.{Packet}
use Rattle.chorus_entry.specs.declared.packet.Cargo.{Cargo}
use Rattle.chorus_entry.specs.declared.packet.Cargo.TheVariants as cargos
use Rattle.chorus_entry.specs.declared.record.PortRecord.{PortRecord}
use Rattle.chorus_entry.specs.Act.{is_command_entry}
use Rattle.chorus_entry.specs.Answer.{is_final}
use Rattle.chorus_entry.specs.MsgId.{same_id}
use Rattle.chorus_ports.specs.Table.{find}
use Rattle.place_unsettled.specs.declared.wait.Key.{Key}
use Rattle.place_unsettled.specs.declared.wait.Wait.{Wait}
use Rattle.law_machine.specs.declared.outgoing.Outgoing.{Outgoing}
use Rattle.law_machine.specs.PlaceState.{Turn, Change, newest, packed, say}
use Rattle.law_machine.specs.Deciding.{decide, decision}
use Rattle.law_machine.specs.Trying.{report, go}
use Rattle.law_machine.specs.Choosing.{choice}
use Rattle.law_machine.specs.Own.{own}
use Rattle.law_machine.specs.Doing.{transfer_to}
use Rattle.law_machine.specs.PlaceMachine.{act, work}
use Rattle.law_machine.specs.Working.{report_of}
use Rattle.law_machine.proofs.Machine.Steps.{Step, Settles, Tries, Chooses, EndsCall, IsLate, HearsVerdict, Receives, Hears, Answers, Asks, choice_act, choice_answer, act_of, change_of, taken, opening, begins, Follows, does-gives, work-gives}
use Rattle.law_network.specs.Network.{one_if}
use Rattle.law_network.proofs.Events.Said.{own-is}

-- Counting.

-- the packet tries the message; it tells the verdict of it
abbrev pub is_try_of : MsgId → Cargo → Bool
is_try_of x (cargos.Try m q route only hop) = same_id m.id x
is_try_of x _ = false

abbrev pub is_verdict_of : MsgId → Cargo → Bool
is_verdict_of x (cargos.Verdict y q route a) = same_id y x
is_verdict_of x _ = false

abbrev pub count_loads : (Cargo → Bool) → List (ℕ × Cargo) → ℕ
count_loads test [] = 0
count_loads test (k ∷ ks) = one_if (test k.1) + count_loads test ks

abbrev pub count : (Cargo → Bool) → List Outgoing → ℕ
count test [] = 0
count test (o ∷ os) = one_if (test o.packet.cargo) + count test os

-- the act tries the message
abbrev pub tries_it : MsgId → Act → Bool
tries_it x (acts.Try y q to hop) = same_id y x
tries_it x _ = false

abbrev pub tries_of : MsgId → List Entry → ℕ
tries_of x [] = 0
tries_of x (e ∷ es) = one_if (tries_it x e.act) + tries_of x es

pub count-append : (test : Cargo → Bool) (os us : List Outgoing) → count test (os ++ us) ≡ count test os + count test us
count-append test [] us = omega arith
count-append test (o ∷ os) us = (let e = count-append test os us in omega (arith, e))

count-packed : (test : Cargo → Bool) (t : Turn) (ks : List (ℕ × Cargo)) → count test (map (packed t) ks) ≡ count_loads test ks
count-packed test t [] = refl
count-packed test t (k ∷ ks) = ap (λ n. one_if (test k.1) + n) (count-packed test t ks)

-- The packets of an act: its Try, where it is one, and no Verdict.

abbrev Brings : Act → List (ℕ × Cargo) → Type 0
Brings a loads = (x : MsgId) → (count_loads (is_try_of x) loads ≡ one_if (tries_it x a)) × (count_loads (is_verdict_of x) loads ≡ 0)

-- neither
abbrev IsMute : List (ℕ × Cargo) → Type 0
IsMute loads = (x : MsgId) → (count_loads (is_try_of x) loads ≡ 0) × (count_loads (is_verdict_of x) loads ≡ 0)

report-mute : (p home : ℕ) (y : MsgId) (a : Answer) → IsMute (report p home y a)
report-mute p home y a x = go (is_final a && not (home == p))
  where
    go : (b : Bool) → (count_loads (is_try_of x) (cond b ((home, cargos.Report y a) ∷ []) []) ≡ 0) × (count_loads (is_verdict_of x) (cond b ((home, cargos.Report y a) ∷ []) []) ≡ 0)
    go true = (refl, refl)
    go false = (refl, refl)

report-of-mute : (p : ℕ) (y : MsgId) (a : Answer) (ws : List Wait) → IsMute (report_of p y a ws)
report-of-mute p y a [] x = (refl, refl)
report-of-mute p y a (w ∷ ws) x = report-mute p w.home y a x

transfer-mute : (to : ℕ) (actor : Ui) (hop : ℕ) (o : Option PortRecord) → IsMute (transfer_to to actor hop o)
transfer-mute to actor hop None x = (refl, refl)
transfer-mute to actor hop (Some port) x = (refl, refl)

decision-no-try : (x y : MsgId) (q : Ui) (h : ℕ) (a : Answer) → tries_it x (decision y q h a) ≡ false
decision-no-try x y q h (answers.Accepted pos) = refl
decision-no-try x y q h _ = refl

mute-brings : (a : Act) (loads : List (ℕ × Cargo)) → ((x : MsgId) → tries_it x a ≡ false) → IsMute loads → Brings a loads
mute-brings a loads n m x = ((m x).0 ∙ sym (ap one_if (n x)), (m x).1)

choice-no-try : (x y : MsgId) (g : Ui) (qs : List Ui) → tries_it x (choice_act y g qs) ≡ false
choice-no-try x y g [] = refl
choice-no-try x y g (q ∷ qs) = refl

abbrev StepBrings : Step → Turn → Type 0
StepBrings s t = Brings (act_of s t) (change_of s t).loads

-- a step that follows
brings : (s : Step) (t : Turn) → Follows s t → StepBrings s t
brings (Settles k w a) t f =
    let h = (newest t.place k.port).hop in
    mute-brings (decision w.message.id k.port h a) (report t.place.number w.home w.message.id a)
    (λ x. decision-no-try x w.message.id k.port h a) (report-mute t.place.number w.home w.message.id a)
brings (Tries k w) t f = λ x. (omega arith, refl)
brings (Chooses m d g home qs) t f =
    mute-brings (choice_act m.id g qs) (report t.place.number home m.id (choice_answer qs))
    (λ x. choice-no-try x m.id g qs) (report-mute t.place.number home m.id (choice_answer qs))
brings (EndsCall number) t f = λ x. (refl, refl)
brings (IsLate number) t f = λ x. (refl, refl)
brings _ t f = absurd f

own-brings : (a : Act) (t : Turn) → is_command_entry a ≡ true → StepBrings (Answers a) t
own-brings (acts.Depart q to actor hop) t h =
    mute-brings (acts.Depart q to actor hop) (transfer_to to actor hop (find q t.place.ports)) (λ x. refl) (transfer-mute to actor hop (find q t.place.ports))
own-brings (acts.Try y q to hop) t h = absurd (false≢true h)
own-brings _ t h = λ x. (refl, refl)

-- Counted in a turn.

-- of the message x, as many Tries were put as entries say so behind `base`, and so many Verdicts
pub record Counts (x : MsgId) (base : List Entry) (n : ℕ) (t : Turn) : Type 0 where
  pub tried : count (is_try_of x) t.puts + tries_of x base ≡ tries_of x t.place.journal
  pub decided : count (is_verdict_of x) t.puts ≡ n

counts-on : (x : MsgId) (base : List Entry) (n : ℕ) (a : Act) (c : Change) (t : Turn) → Brings a c.loads → Counts x base n t → Counts x base n (say a c t)
counts-on x base n a c t b h =
    let one = count-append (is_try_of x) t.puts (map (packed t) c.loads) in
    let two = count-packed (is_try_of x) t c.loads in
    let new = (b x).0 in
    let old = h.tried in
    let three = count-append (is_verdict_of x) t.puts (map (packed t) c.loads) in
    let four = count-packed (is_verdict_of x) t c.loads in
    let none = (b x).1 in
    let was = h.decided in
    record { tried = omega (arith, one, two, new, old); decided = omega (arith, three, four, none, was) }

keeps-counts : (x : MsgId) (base : List Entry) (n : ℕ) (s : Step) (t : Turn) → Follows s t → Counts x base n t → Counts x base n (taken s t)
keeps-counts x base n s t f = counts-on x base n (act_of s t) (change_of s t) t (brings s t f)

begins-counts : (x : MsgId) (t : Turn) → t.puts ≡ [] → Counts x t.place.journal 0 t
begins-counts x t e =
    let a : count (is_try_of x) t.puts ≡ 0 = ap (count (is_try_of x)) e in
    record { tried = omega (arith, a); decided = ap (count (is_verdict_of x)) e }

pub act-counts : (x : MsgId) (c : Command) (t : Turn) → t.puts ≡ [] → Counts x t.place.journal 0 (act c t)
act-counts x c t e =
    does-gives (Counts x t.place.journal 0) (keeps-counts x t.place.journal 0) (own c t) t
    (first (Answers (own c t)) (own-brings (own c t) t (own-is c t))) (λ m d to is. first (Asks m d to) (λ y. (refl, refl)))
  where
    first : (s : Step) → StepBrings s t → Counts x t.place.journal 0 (taken s t)
    first s b = counts-on x t.place.journal 0 (act_of s t) (change_of s t) t b (begins-counts x t e)

-- with a packet: the verdict of a Try, or nothing but Tries
pub work-counts : (x : MsgId) (k : Packet) (t : Turn) → t.puts ≡ [] → Counts x t.place.journal (one_if (is_try_of x k.cargo)) (work k t)
work-counts x k t e =
    work-gives (Counts x t.place.journal (one_if (is_try_of x k.cargo))) (keeps-counts x t.place.journal (one_if (is_try_of x k.cargo))) k t (by k.cargo)
  where
    first : (s : Step) → StepBrings s t → Counts x t.place.journal 0 (taken s t)
    first s b = counts-on x t.place.journal 0 (act_of s t) (change_of s t) t b (begins-counts x t e)

    by : (c : Cargo) → Counts x t.place.journal (one_if (is_try_of x c)) (begins (opening k.from c t) t)
    by (cargos.Try m q route only hop) =
        let a = decide m q only hop t.place in
        let none : count (is_try_of x) t.puts ≡ 0 = ap (count (is_try_of x)) e in
        let one = count-append (is_try_of x) t.puts (packed t (k.from, cargos.Verdict m.id q route a) ∷ []) in
        let no : one_if (tries_it x (decision m.id q hop a)) ≡ 0 = ap one_if (decision-no-try x m.id q hop a) in
        let nothing : count (is_verdict_of x) t.puts ≡ 0 = ap (count (is_verdict_of x)) e in
        let two = count-append (is_verdict_of x) t.puts (packed t (k.from, cargos.Verdict m.id q route a) ∷ []) in
        record { tried = omega (arith, none, one, no); decided = omega (arith, nothing, two) }
    by (cargos.Verdict y q route a) =
        let j : Key = record { port = q; route = route } in
        let ws = (t.place.waiting j).waits in
        first (HearsVerdict y j a) (mute-brings (acts.Told y a) (report_of t.place.number y a ws) (λ z. refl) (report-of-mute t.place.number y a ws))
    by (cargos.Transfer port) = first (Receives port) (λ y. (refl, refl))
    by (cargos.Ask m (dests.Port q)) = begins-counts x t e
    by (cargos.Ask m (dests.All g)) = let s = Chooses m (dests.All g) g k.from (choice (dests.All g) t.place) in first s (brings s t tt)
    by (cargos.Ask m (dests.One g)) = let s = Chooses m (dests.One g) g k.from (choice (dests.One g) t.place) in first s (brings s t tt)
    by (cargos.Ask m (dests.OneAt g n)) = let s = Chooses m (dests.OneAt g n) g k.from (choice (dests.OneAt g n) t.place) in first s (brings s t tt)
    by (cargos.Report y a) = first (Hears y a) (λ z. (refl, refl))
