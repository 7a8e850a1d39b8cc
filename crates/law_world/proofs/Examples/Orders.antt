-- The laws of order and of at most once: lists of which they are not so.
use Rattle.std.proofs.Common.{ℕ, zero, suc, ◌≡◌, ◌<◌, List, [], ◌∷◌, Some, refl, ap, arith}
use Rattle.std.specs.Prelude.{slice_get}
use Rattle.chorus_entry.specs.declared.dest.Dest.{Dest}
use Rattle.chorus_entry.specs.declared.entry.Entry.{Entry}
use Rattle.chorus_entry.specs.declared.id.MsgId.{MsgId}
use Rattle.chorus_entry.specs.declared.tag.Tag.{Tag}
use Rattle.chorus_entry.specs.declared.act.Act.{Act}
use Rattle.chorus_world.specs.RequestLaws.{AcceptsRequestsOnce, RequestsRise}
use Rattle.chorus_world.specs.SenderLaws.{KeepsSenderOrder}
use Rattle.chorus_world.specs.GroupLaws.{HasOneCopy, IsChosenOnce, KeepsChoiceOrder, ReachesOneMember}
use Rattle.chorus_world.proofs.Examples.Names.{actor, copied, first, group, now, other, port, second, third}
use Rattle.law_world.proofs.Examples.Played.{id, posted}

abbrev made : List Entry
made = now 2 (Act.Make other actor 2) ∷ now 1 (Act.Make port actor 2) ∷ []

-- the second message of a seat is accepted before the first
abbrev overtaken : List Entry
overtaken =
    now 6 (Act.Accept first port 1)
    ∷ now 5 (Act.Accept second port 0)
    ∷ now 4 (posted second Tag.Plain (Dest.Port port))
    ∷ now 3 (posted first Tag.Plain (Dest.Port port))
    ∷ made

not-in-sender-order : KeepsSenderOrder overtaken → ⊥
not-in-sender-order h = (let lt : 2 < 1 = h port 0 1 second first (omega arith) refl refl refl refl in omega (arith, lt))

-- a request and its retry are both accepted
abbrev retried : List Entry
retried =
    now 6 (Act.Accept second port 1)
    ∷ now 5 (posted second (Tag.Request 1 other) (Dest.Port port))
    ∷ now 4 (Act.Accept first port 0)
    ∷ now 3 (posted first (Tag.Request 1 other) (Dest.Port port))
    ∷ made

not-once : AcceptsRequestsOnce retried → ⊥
not-once h = (let e : 0 ≡ 1 = (h port port 0 1 first second 1 other other refl refl refl refl refl).1 in omega (arith, e))

not-rising : RequestsRise retried → ⊥
not-rising h = (let lt : 1 < 1 = h port 0 1 first second 1 1 other other (omega arith) refl refl refl refl refl in omega (arith, lt))

-- a post to one member has two copies, and both are accepted
abbrev two_members : List Entry
two_members =
    now 6 (Act.Accept (copied 2) other 0)
    ∷ now 5 (Act.Accept (copied 1) port 0)
    ∷ now 4 (Act.Choose third group (port ∷ other ∷ []))
    ∷ now 3 (posted third Tag.Plain (Dest.One group))
    ∷ made

not-one-member : ReachesOneMember two_members → ⊥
not-one-member h =
    let same : copied 1 ≡ copied 2 = (h port other 0 0 (copied 1) (copied 2) (record { place = 1; message = record { id = third; tag = Tag.Plain; body = 7 ∷ [] }; dest = Dest.One group }) refl refl refl refl refl).0 in
    let e : 1 ≡ 2 = ap (λ (x : MsgId). x.copy) same in
    omega (arith, e)

not-one-copy : HasOneCopy two_members → ⊥
not-one-copy h =
    let le = h third (record { place = 1; message = record { id = third; tag = Tag.Plain; body = 7 ∷ [] }; dest = Dest.One group }) refl refl in
    omega (arith, le)

-- of two posts to all the first is chosen first, and its copy is accepted last
abbrev fourth : MsgId
fourth = id 0 4

abbrev chosen : List Entry
chosen =
    now 6 (Act.Choose fourth group (port ∷ []))
    ∷ now 5 (Act.Choose third group (port ∷ []))
    ∷ now 4 (posted fourth Tag.Plain (Dest.All group))
    ∷ now 3 (posted third Tag.Plain (Dest.All group))
    ∷ made

abbrev turned_round : List Entry
turned_round = now 8 (Act.Accept (copied 1) port 1) ∷ now 7 (Act.Accept (record fourth { copy = 1 }) port 0) ∷ chosen

numbers-apart : Some third ≡ Some fourth → ⊥
numbers-apart h =
    let same : third ≡ fourth = cc in let e : 3 ≡ 4 = ap (λ (x : MsgId). x.number) same in omega (arith, e)

numbers-apart-too : Some fourth ≡ Some third → ⊥
numbers-apart-too h =
    let same : fourth ≡ third = cc in let e : 4 ≡ 3 = ap (λ (x : MsgId). x.number) same in omega (arith, e)

-- the third stands first in the list, and the fourth behind it
not-before : (i j : ℕ) → i < j → slice_get (third ∷ fourth ∷ []) i ≡ Some fourth → slice_get (third ∷ fourth ∷ []) j ≡ Some third → ⊥
not-before zero j lt a b = numbers-apart a
not-before (suc i) zero lt a b = omega (arith, lt)
not-before (suc i) (suc zero) lt a b = numbers-apart-too b
not-before (suc i) (suc (suc j)) lt a b = cc

not-in-choice-order : KeepsChoiceOrder turned_round → ⊥
not-in-choice-order h =
    let s = h port 0 1 (record fourth { copy = 1 }) (copied 1) group (omega arith) refl refl refl refl in
    not-before s.first s.second s.less s.is_first s.is_second

-- members are chosen twice for a post
not-chosen-once : IsChosenOnce (now 7 (Act.Choose third group (port ∷ [])) ∷ chosen) → ⊥
not-chosen-once h = (let e : 0 ≡ 2 = (h group group 0 2 third refl refl).1 in omega (arith, e))
