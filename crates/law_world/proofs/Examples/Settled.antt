-- Calls: a call that is done by its reply, and lists of which the laws of calls are not so.
use Rattle.std.proofs.Common.{◌≡◌, ◌≤◌, true, false, List, [], ◌∷◌, ◌++◌, refl, subst, arith}
use Rattle.chorus_world.specs.SentLaws.{StandsIn}
use Rattle.chorus_entry.specs.declared.dest.Dest.{Dest}
use Rattle.chorus_entry.specs.declared.entry.Entry.{Entry}
use Rattle.chorus_entry.specs.declared.tag.Tag.{Tag}
use Rattle.chorus_entry.specs.declared.act.Act.{Act}
use Rattle.chorus_world.specs.Always.{EachEntry}
use Rattle.chorus_world.specs.Steps.{is_legal}
use Rattle.chorus_world.proofs.Examples.Names.{actor, first, now, other, port, two_sites}
use Rattle.law_world.specs.Calls.{DoneByReply, LateByReply, IsReplyTo, SettlesOnce, SettlesWhatWasCalled}
use Rattle.law_world.proofs.Examples.Played.{id, none-stands, posted, server}

-- seat 1 has taken the request of seat 0, and its reply waits in the port that the request names
abbrev answered : List Entry
answered =
    now 7 (Act.Accept (id 1 1) other 0)
    ∷ server 6 (posted (id 1 1) (Tag.Reply 0 1) (Dest.Port other))
    ∷ server 5 (Act.Take port 0 first)
    ∷ now 4 (Act.Accept first port 0)
    ∷ now 3 (posted first (Tag.Request 1 other) (Dest.Port port))
    ∷ now 2 (Act.Make other actor 2)
    ∷ now 1 (Act.Make port actor 2)
    ∷ []

-- its Take ends the call; where the call was cancelled before, it does not, and where another seat takes it, it does not
done-is-legal : is_legal two_sites (now 9 (Act.Done 1) ∷ now 8 (Act.Take other 0 (id 1 1)) ∷ answered) ≡ true
done-is-legal = refl

late-is-legal : is_legal two_sites (now 10 (Act.Late 1) ∷ now 9 (Act.Take other 0 (id 1 1)) ∷ now 8 (Act.Cancel 1) ∷ answered) ≡ true
late-is-legal = refl

-- a reply is the answer of one request: none is possible to the same again, and none that was not asked
answers-no-more : (is_legal two_sites (server 8 (posted (id 1 2) (Tag.Reply 0 1) (Dest.Port other)) ∷ answered) ≡ false) × (is_legal two_sites (now 3 (posted first (Tag.Reply 0 1) (Dest.Port other)) ∷ []) ≡ false)
answers-no-more = (refl, refl)

not-legal : (is_legal two_sites (now 10 (Act.Done 1) ∷ now 9 (Act.Take other 0 (id 1 1)) ∷ now 8 (Act.Cancel 1) ∷ answered) ≡ false) × (is_legal two_sites (now 10 (Act.Cancel 1) ∷ now 9 (Act.Done 1) ∷ now 8 (Act.Take other 0 (id 1 1)) ∷ answered) ≡ false)
not-legal = (refl, refl)

-- a call that is cancelled, and done by a reply that comes then
not-settled-once : SettlesOnce (now 10 (Act.Done 1) ∷ now 9 (Act.Take other 0 (id 1 1)) ∷ now 8 (Act.Cancel 1) ∷ answered) → ⊥
not-settled-once h = (let le : 2 ≤ 1 = h 0 1 in omega (arith, le))

-- a call that was not made
not-called : EachEntry SettlesWhatWasCalled (now 1 (Act.Cancel 1) ∷ []) → ⊥
not-called h = (let c = (h [] [] (now 1 (Act.Cancel 1)) refl 1 refl).1 in none-stands c.entry c.stands)

-- a Done and a Late behind nothing
not-behind : EachEntry DoneByReply (now 1 (Act.Done 1) ∷ []) → ⊥
not-behind h = (let e : [] ≡ _ ∷ _ = (h [] [] (now 1 (Act.Done 1)) refl 1 refl).behind.stands in cc)

not-late : EachEntry LateByReply (now 1 (Act.Late 1) ∷ []) → ⊥
not-late h = (let e : [] ≡ _ ∷ _ = (h [] [] (now 1 (Act.Late 1)) refl 1 refl).behind.stands in cc)

-- a message of which no one had taken the request is no reply
lone-older : (e f : Entry) (newer older : List Entry) → f ∷ [] ≡ newer ++ e ∷ older → older ≡ []
lone-older e f [] older h = cc
lone-older e f (g ∷ newer) older h = absurd (none-stands e (record { newer = newer; older = older; is = (let rest : [] ≡ newer ++ e ∷ older = cc in rest) }))

not-asked : IsReplyTo 0 1 first other (now 1 (posted first (Tag.Reply 0 1) (Dest.Port other)) ∷ []) → ⊥
not-asked r =
    let called = r.taken.called in
    none-stands called.entry (subst (StandsIn called.entry) (lone-older r.entry (now 1 (posted first (Tag.Reply 0 1) (Dest.Port other))) r.stands.newer r.stands.older r.stands.is) called.stands)
