-- No more packets are put than the place's clock shows: each entry puts one at most.
use Rattle.std.proofs.Common.{◌≡◌, ℕ, ◌≤◌, ◌==◌, ◌&&◌, not, Bool, true, false, cond, List, [], ◌∷◌, ◌++◌, length, length-append, map, ◌∙◌, ap, arith}
use Rattle.chorus_entry.specs.declared.entry.Entry.{Entry}
use Rattle.chorus_entry.specs.declared.id.MsgId.{MsgId}
use Rattle.chorus_entry.specs.declared.act.Act.{Act}
use Rattle.chorus_entry.specs.declared.answer.Answer.{Answer}
use Rattle.chorus_entry.specs.declared.packet.Cargo.{Cargo}
use Rattle.chorus_entry.specs.Answer.{is_final}
use Rattle.place_outbox.specs.Waiting.{Waiting}
use Rattle.law_machine.specs.Trying.{report}
use Rattle.law_machine.specs.declared.outgoing.Outgoing.{Outgoing}
use Rattle.law_machine.specs.PlaceState.{packed_at}
use Rattle.chorus_place.specs.PlaceTables.Tables.{AreCounted}
use Rattle.chorus_place.proofs.PlaceTables.Kept.{Said}

-- an entry with no packet
pub counted-later : {past more : List Entry} {a : Act} (puts : List Outgoing) (out : Waiting) → Said past more a → AreCounted past puts out → AreCounted more puts out
counted-later puts out s k = let later = s.later in omega (arith, k, later)

-- an entry with one at most
pub counted-more : {past more : List Entry} {a : Act} (puts now xs : List Outgoing) (out : Waiting) → Said past more a → AreCounted past puts out → now ≡ puts ++ xs → length xs ≤ 1
    → AreCounted more now out
counted-more puts now xs out s k e n =
    let later = s.later in
    let len = ap (λ (ys : List Outgoing). length ys) e ∙ length-append puts xs in omega (arith, k, later, len, n)

-- a report is one
pub report-one : (clock p home : ℕ) (x : MsgId) (a : Answer) → length (map (packed_at clock p) (report p home x a)) ≤ 1
report-one clock p home x a = by (is_final a && not (home == p))
  where
    by : (b : Bool) → length (map (packed_at clock p) (cond b ((home, Cargo.Report x a) ∷ []) [])) ≤ 1
    by true = omega arith
    by false = omega arith
