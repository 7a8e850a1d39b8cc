-- What two journals agree on, of which claims see more than outcomes tell.
-- j and k are journals, the newest entry first, x is an id, q a port, e an entry.
use Rattle.std.specs.Prelude.{◌≡◌, List}
use Rattle.std.specs.List.{All}
use Rattle.chorus_entry.specs.declared.act.Act.{Act}
use Rattle.chorus_entry.specs.declared.act.Act.TheVariants.{Accept, Choose}
use Rattle.chorus_entry.specs.declared.entry.Entry.{Entry}
use Rattle.law_explore.specs.Moment.{accepts_by, sent_by}

-- what the port accepted by which the act accepts, or where the copies go that it makes
abbrev pub AgreeOn : List Entry → List Entry → Act → Type 0
AgreeOn j k (Accept x q position) = accepts_by q j ≡ accepts_by q k
AgreeOn j k (Choose x g ms) = sent_by x j ≡ sent_by x k
AgreeOn j k act = Unit {0}

-- so it is of each of these entries
abbrev pub AgreeOnAll : List Entry → List Entry → List Entry → Type 0
AgreeOnAll j k es = All (λ (e : Entry). AgreeOn j k e.act) es
