-- What the counts of a summary stand for while it is made: from the last entry to the first.
use Rattle.std.specs.Prelude.{◌≡◌, ℕ, ◌+◌, ◌*◌, ◌^◌, ◌≤◌, ◌-◌, List, Option, Some, None, unwrap_or, if◌then◌else◌, Bool, false, length}
use Rattle.std.specs.BTreeMap.{get}
use Rattle.std.specs.Option.{option_or}
use Rattle.chorus_ui.specs.declared.ui.Ui.{Ui}
use Rattle.chorus_ui.specs.Name.{name_cmp}
use Rattle.chorus_entry.specs.declared.act.Act.{Act}
use Rattle.chorus_entry.specs.declared.act.Act.TheVariants.{Make, Accept, Take, Depart, Arrive, Delete}
use Rattle.chorus_entry.specs.declared.entry.Entry.{Entry}
use Rattle.chorus_show.specs.declared.queues.Spot.{Spot}
use Rattle.chorus_show.specs.declared.queues.Spot.TheVariants.{Held, Moving, Ended}
use Rattle.chorus_show.specs.declared.queues.Queue.{Queue}
use Rattle.chorus_show.specs.declared.queues.Queues.{Queues}
use Rattle.chorus_show.specs.declared.counts.Counts.{Counts}
use Rattle.chorus_show.specs.declared.summary.Summary.{Summary}
use Rattle.chorus_show.specs.Summary.{count, accepts, gives, last_spot, same_spot, waiting_at, is_post, is_accept, is_take, is_refusal, is_stale, is_depart, is_delete, discarded}

-- the messages of a queue, where its port is there
abbrev pub is_spot : Spot → Option Spot → Bool
is_spot spot None = false
is_spot spot (Some s) = same_spot s spot

abbrev pub share : Spot → Queue → ℕ
share spot q = if is_spot spot q.spot then q.accepted - q.taken else 0

abbrev pub no_queue : Queue
no_queue = record { accepted = 0; taken = 0; spot = None }

abbrev pub put : Spot → Queue
put s = record no_queue { spot = Some s }

-- what an act alone says of a port's queue, and of which port
abbrev pub news_of : Act → Option (Ui × Queue)
news_of (Accept x q pos) = Some (q, record no_queue { accepted = 1 })
news_of (Take q pos x) = Some (q, record no_queue { taken = 1 })
news_of (Make q a n) = Some (q, put Held)
news_of (Arrive q hop) = Some (q, put Held)
news_of (Depart q to a hop) = Some (q, put Moving)
news_of (Delete q discarded) = Some (q, put Ended)
news_of _ = None

-- what an entry says together with what the later ones say
abbrev pub with_later : Queue → Queue → Queue
with_later q later = record {
  accepted = q.accepted + later.accepted;
  taken = q.taken + later.taken;
  spot = option_or later.spot q.spot;
}

-- the queue of a port after these entries
abbrev pub queue_of : Ui → List Entry → Queue
queue_of port entries = record {
  accepted = count (accepts port) entries;
  taken = count (gives port) entries;
  spot = last_spot port entries;
}

pub record AreQueues (qs : Queues) (entries : List Entry) : Type 0 where
  pub ports : (port : Ui) → unwrap_or (get name_cmp qs.ports port) no_queue ≡ queue_of port entries
  pub queued : qs.queued ≡ waiting_at Held entries
  pub moving : qs.moving ≡ waiting_at Moving entries

pub record AreCounts (c : Counts) (entries : List Entry) : Type 0 where
  pub posted : c.posted ≡ count is_post entries
  pub accepted : c.accepted ≡ count is_accept entries
  pub taken : c.taken ≡ count is_take entries
  pub refused : c.refused ≡ count is_refusal entries
  pub stale : c.stale ≡ count is_stale entries
  pub departs : c.departs ≡ count is_depart entries
  pub deletes : c.deletes ≡ count is_delete entries
  pub discarded : c.discarded ≡ discarded entries
  pub fits : c.discarded ≤ length entries * 2 ^ 64

-- the numbers of a summary are those of these entries
pub record Tells (numbers : Summary) (entries : List Entry) : Type 0 where
  pub counts : AreCounts numbers.counts entries
  pub queues : AreQueues numbers.queues entries
