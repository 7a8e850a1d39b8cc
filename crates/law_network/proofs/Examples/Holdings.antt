-- Holdings that stand for a past: a port of two messages, of which one was received; and holdings that do not.
use Rattle.std.proofs.Common.{ℕ, ◌≡◌, Bool, true, false, cond, List, [], ◌∷◌, map, Some, refl, sym, ◌∙◌, ap, subst, arith}
use Rattle.std.specs.List.{filter}
use Rattle.chorus_ui.specs.declared.ui.Ui.{Ui}
use Rattle.chorus_ui.specs.Name.{same_ui}
use Rattle.chorus_ui.proofs.Names.{from_same_ui}
use Rattle.chorus_entry.specs.declared.tag.Tag.{Tag}
use Rattle.chorus_entry.specs.declared.dest.Dest.{Dest}
use Rattle.chorus_entry.specs.declared.act.Act.{Act}
use Rattle.chorus_entry.specs.declared.entry.Entry.{Entry}
use Rattle.chorus_entry.specs.declared.id.MsgId.{MsgId}
use Rattle.chorus_entry.specs.declared.record.PortRecord.{PortRecord}
use Rattle.chorus_world.specs.Fates.MessageFate.{Queued, UnderWay}
use Rattle.chorus_world.specs.Views.{on, is_on}
use Rattle.chorus_world.specs.Ports.{fate}
use Rattle.chorus_world.proofs.Steps.LegalLemmas.{skips}
use Rattle.law_network.specs.Holdings.{Holding, At, OnTheWay, record_in, holds, told_of, holding_told, holdings_in, StandsFor}
use Rattle.law_network.specs.EachMessage.{waiting_in, is_waiting_in, fate_in}
use Rattle.law_network.proofs.Examples.Names.{actor, port, msg, mess, rec, entry}
use Rattle.law_network.proofs.Examples.Standing.{middle}

abbrev made : Entry
made = entry 1 1 0 (Act.Make (port 1 1) (actor 1 1) 4)

abbrev first : Entry
first = entry 3 1 0 (Act.Accept (msg 0 1 0) (port 1 1) 0)

abbrev second : Entry
second = entry 5 1 0 (Act.Accept (msg 0 2 0) (port 1 1) 1)

abbrev take : Entry
take = entry 6 1 0 (Act.Take (port 1 1) 0 (msg 0 1 0))

abbrev with_first : List Entry
with_first = first ∷ entry 2 1 0 (Act.Post (mess (msg 0 1 0) Tag.Plain (97 ∷ [])) (Dest.Port (port 1 1))) ∷ made ∷ []

abbrev with_second : List Entry
with_second = second ∷ entry 4 1 0 (Act.Post (mess (msg 0 2 0) Tag.Plain (98 ∷ [])) (Dest.Port (port 1 1))) ∷ with_first

abbrev past : List Entry
past = take ∷ with_second

-- nothing happened to another port
no-line : (q : Ui) → same_ui q (port 1 1) ≡ false → on q past ≡ []
no-line q e =
    skips (is_on (Some q)) take with_second e
    ∙ skips (is_on (Some q)) second with_first e
    ∙ skips (is_on (Some q)) first (made ∷ []) e
    ∙ skips (is_on (Some q)) made [] e

-- the record with the second message behind one that was taken
abbrev record_of : PortRecord
record_of = rec (port 1 1) (actor 1 1) 4 0 1 ((mess (msg 0 2 0) Tag.Plain (98 ∷ [])) ∷ []) []

pub one-record : StandsFor past (At 1 record_of ∷ [])
one-record = record { shown = λ q. go q (same_ui (port 1 1) q) (same_ui q (port 1 1)) refl refl }
  where
    go : (q : Ui) (b c : Bool) → same_ui (port 1 1) q ≡ b → same_ui q (port 1 1) ≡ c → filter (holds q) (At 1 record_of ∷ []) ≡ holding_told past q
    go q true c e f =
        subst (λ (u : Ui). filter (holds u) (At 1 record_of ∷ []) ≡ holding_told past u) (from_same_ui (port 1 1) q e) refl
    go q false true e f =
        subst (λ (u : Ui). filter (holds u) (At 1 record_of ∷ []) ≡ holding_told past u) (sym (from_same_ui q (port 1 1) f)) refl
    go q false false e f =
        ap (λ b. cond b (At 1 record_of ∷ []) []) e
        ∙ sym (ap (λ mine. told_of past q (fate mine)) (no-line q f))

-- no record
pub record-missing : StandsFor past [] → ⊥
record-missing s = let shown : [] ≡ At 1 record_of ∷ [] = s.shown (port 1 1) in absurd (cc)

-- the record twice
pub record-twice : StandsFor past (At 1 record_of ∷ At 1 record_of ∷ []) → ⊥
record-twice s = let shown : At 1 record_of ∷ At 1 record_of ∷ [] ≡ At 1 record_of ∷ [] = s.shown (port 1 1) in absurd (cc)

-- a record that says that none was taken
abbrev first_in : List Holding → ℕ
first_in [] = 0
first_in (holding ∷ holdings) = (record_in holding).first

pub none-taken : StandsFor past (At 1 (record record_of { first = 0 }) ∷ []) → ⊥
none-taken s = let first : 0 ≡ 1 = ap first_in (s.shown (port 1 1)) in omega (arith, first)

-- a record at another place, and one that is on its way
pub record-elsewhere : StandsFor past (At 2 record_of ∷ []) → ⊥
record-elsewhere s = let shown : At 2 record_of ∷ [] ≡ At 1 record_of ∷ [] = s.shown (port 1 1) in absurd (cc)

pub record-on-its-way : StandsFor past (OnTheWay 2 1 record_of ∷ []) → ⊥
record-on-its-way s = let shown : OnTheWay 2 1 record_of ∷ [] ≡ At 1 record_of ∷ [] = s.shown (port 1 1) in absurd (cc)

-- the record of a port that was deleted, and of one that was not made
pub record-of-deleted : StandsFor (entry 7 1 0 (Act.Delete (port 1 1) (msg 0 2 0 ∷ [])) ∷ past) (At 1 record_of ∷ []) → ⊥
record-of-deleted s = let shown : At 1 record_of ∷ [] ≡ [] = s.shown (port 1 1) in absurd (cc)

pub record-of-nothing : StandsFor [] (At 1 record_of ∷ []) → ⊥
record-of-nothing s = let shown : At 1 record_of ∷ [] ≡ [] = s.shown (port 1 1) in absurd (cc)

-- What waits in the state in the middle: nothing in the queue of one port, and two messages in the Transfer of the other.

pub middle-waiting-in : map waiting_in (holdings_in middle) ≡ [] ∷ (msg 1 1 0 ∷ msg 1 2 2 ∷ []) ∷ []
middle-waiting-in = refl

pub middle-fates : map fate_in (holdings_in middle) ≡ Queued ∷ UnderWay ∷ []
middle-fates = refl

pub middle-once : map (λ (x : MsgId). map fate_in (filter (is_waiting_in x) (holdings_in middle))) (msg 1 1 0 ∷ msg 1 2 2 ∷ msg 1 2 1 ∷ []) ≡ (UnderWay ∷ []) ∷ (UnderWay ∷ []) ∷ [] ∷ []
middle-once = refl
